-- One step of the machine on several processors: the first case that applies, on which processor, and what it does to
-- the jobs. On its processor a case is that of the machine on one processor, which sees no job of the others.
use Rattle.std.specs.Prelude.{ℕ, zero, suc, ◌+◌, List, [], ◌∷◌, map, Bool, true, false, ◌&&◌, ◌==◌, nat_lt}
use Rattle.std.specs.Prelude.{if◌then◌else◌, Option, Some, None}
use Rattle.std.specs.List.{filter, find, list_all, list_any}
use Rattle.std.specs.Bool.{then_some}
use Rattle.dover_model.specs.declared.events.Role.{Role}
use Rattle.dover_model.specs.declared.events.Role.TheVariants.{Fresh, Waiting, Held, Running, Done, Gone}
use Rattle.dover_model.specs.declared.events.Event.{Event}
use Rattle.dover_model.specs.declared.events.Event.TheVariants.{Release, Run, Preempt, Take, Complete, Abandon, End}
use Rattle.dover_model.specs.declared.events.Version.{Version}
use Rattle.dover_model.specs.declared.events.Task.{Task}
use Rattle.dover_model.specs.Fraction.{Fraction}
use Rattle.dover_model.specs.Finishes.{Finish, has_come_to}
use Rattle.dover_model.specs.Instance.{Rules}
use Rattle.dover_model.specs.State.{is_done, is_over, is_privileged, is_ready_behind, is_running, left, value_sum}
use Rattle.dover_model.specs.Orders.{first}
use Rattle.dover_model.specs.Step.{View, with_role}
use Rattle.dover_model.specs.Step as single
use Rattle.many_processors.specs.State.{Placed, State, tasks_of, seen_from}

-- what a step is: a printed event on a processor (0 where it is on none), a silent wait of the fresh job of this
-- number, or a silent tick
pub data Move : Type 0 where
  Prints : (processor : ℕ) → Event → Move
  Waits : ℕ → Move
  Ticks : Move

-- a move of one processor, on processor q
abbrev pub on : ℕ → single.Move → Move
on q (single.Prints e) = Prints q e
on q (single.Waits n) = Waits n
on q single.Ticks = Ticks

-- the first element, if there is one
abbrev pub front : {X : Type 0} → List X → Option X
front [] = None
front (x ∷ xs) = Some x

-- What the decision of a step depends on, of one processor: what it sees.
pub record Seen : Type 0 where
  pub processor : ℕ
  pub view : View

-- of processor q
abbrev pub seen : Version → State → ℕ → Seen
seen version s q = record { processor = q; view = single.view version (seen_from q s) }

-- the processors, from number q on
abbrev pub numbers_from : ℕ → ℕ → List ℕ
numbers_from q zero = []
numbers_from q (suc more) = q ∷ numbers_from (suc q) more

-- what all of so many processors see
abbrev pub all_seen : ℕ → Version → State → List Seen
all_seen processors version s = map (seen version s) (numbers_from 0 processors)

-- the answer, or what else is done
infixr 4 ◌or_else◌
abbrev pub ◌or_else◌ : {X : Type 0} → Option X → X → X
(Some x) or_else other = x
None or_else other = other

-- the one, or if there is none the other
infixr 4 ◌or_try◌
abbrev pub ◌or_try◌ : {X : Type 0} → Option X → Option X → Option X
(Some x) or_try other = Some x
None or_try other = other

-- the first answer for one of these
abbrev pub first_some : {X Y : Type 0} → (X → Option Y) → List X → Option Y
first_some f [] = None
first_some f (x ∷ xs) = f x or_try first_some f xs

-- the answer for the one, if there is one
abbrev pub for_one : {X Y : Type 0} → (X → Option Y) → Option X → Option Y
for_one f None = None
for_one f (Some x) = f x

-- a move of one processor, if there is one, on this one
abbrev pub placed : Seen → Option single.Move → Option Move
placed q None = None
placed q (Some m) = Some (on q.processor m)

-- there is none
abbrev pub is_none : {X : Type 0} → Option X → Bool
is_none None = true
is_none (Some x) = false

-- no job runs on the processor
abbrev pub is_free : Seen → Bool
is_free q = is_none q.view.running

-- the processor that a waiting or fresh job gets: of the free ones the smallest
abbrev pub free_one : List Seen → Option Seen
free_one all = find is_free all

-- 1. the job that runs on the processor has nothing left: it is done
abbrev pub completion_of : Seen → Option Task → Option Move
completion_of q None = None
completion_of q (Some t) = then_some (left t == 0) (Prints q.processor (Complete q.view.clock t.number))

abbrev pub completion : Seen → Option Move
completion q = completion_of q q.view.running

-- 2. the processor is free, and holds jobs
abbrev pub resumption_of : Seen → Option Task → Option Move
resumption_of q None = None
resumption_of q (Some p) = placed q (single.dispatch q.view q.view.running (Some p) q.view.first_waiting)

abbrev pub resumption : Seen → Option Move
resumption q = resumption_of q q.view.first_held

-- 3. it is free, and a job waits
abbrev pub dispatch : Seen → Option Move
dispatch q = placed q (single.dispatch q.view q.view.running q.view.first_held q.view.first_waiting)

-- behind 3. the job that runs on a processor has come to this finish: it is done
abbrev pub finish_on : Finish → Seen → Option Task → Option Move
finish_on f q None = None
finish_on f q (Some t) = then_some (has_come_to t f) (Prints q.processor (Complete q.view.clock t.number))

abbrev pub finishing : List Seen → Finish → Option Move
finishing all f = first_some (λ q. finish_on f q q.view.running) all

-- the fresh job preempts the one that runs on the processor
abbrev pub preempts_on : Seen → Option Task → Option Task → Bool
preempts_on q (Some f) (Some r) = single.preempts q.view f r
preempts_on q (Some f) None = false
preempts_on q None ro = false

abbrev pub is_preempted : Seen → Bool
is_preempted q = preempts_on q q.view.fresh q.view.running

-- the one job, if there are both, is due before the other
abbrev pub is_due_before : Option Task → Option Task → Bool
is_due_before (Some a) (Some b) = nat_lt a.job.deadline b.job.deadline
is_due_before (Some a) None = false
is_due_before None b = false

-- the job that runs on one processor is due after that on the other
abbrev pub runs_longer : Seen → Seen → Bool
runs_longer a b = is_due_before b.view.running a.view.running

-- the processor on which a fresh job is decided on: a free one, or else of those where it preempts the one whose
-- running job is due last, of several the smallest, or else any
abbrev pub deciding : List Seen → Option Seen
deciding all = free_one all or_try first runs_longer (filter is_preempted all) or_try front all

-- 4. a job is fresh
abbrev pub decision : Seen → Option Move
decision q = placed q (single.decision q.view q.view.running q.view.fresh)

-- 5. the first job to come is released now
abbrev pub arrival : Seen → Option Move
arrival q = placed q (single.arrival q.view q.view.coming)

-- the processor whose running and held jobs are worth least
abbrev pub least_valued : List Seen → Option Seen
least_valued all = first (λ a b. nat_lt a.view.privileged_value b.view.privileged_value) all

-- 6. a waiting job is at its latest start
abbrev pub alarm : Fraction → Seen → Option Move
alarm k q = placed q (single.alarm k q.view q.view.running q.view.must_start)

-- 7. nothing is left to do
abbrev pub ending : State → Option Move
ending s = then_some (list_all is_over (tasks_of s.jobs))
    (Prints 0 (End (value_sum (filter is_done (tasks_of s.jobs)))))

-- the first of cases 1 to 6 that applies, where the processors see this, or what else is done
abbrev pub urgent_or : Rules → List Seen → Move → Move
urgent_or rules all other =
    first_some completion all
    or_else first_some resumption all
    or_else for_one dispatch (free_one all)
    or_else first_some (finishing all) rules.finishes
    or_else for_one decision (deciding all)
    or_else for_one arrival (front all)
    or_else for_one (alarm rules.ratio) (least_valued all)
    or_else other

-- the step of a state, on so many processors
abbrev pub step : ℕ → Rules → State → Move
step processors rules s = urgent_or rules (all_seen processors rules.version s) (ending s or_else Ticks)

-- the step where further jobs may be fed
abbrev pub open_step : ℕ → Rules → State → Move
open_step processors rules s = urgent_or rules (all_seen processors rules.version s) Ticks

-- the job in another role
abbrev pub in_role : Placed → Role → Placed
in_role p role = record { task = with_role p.task role; owner = p.owner }

-- the job runs on processor q
abbrev pub placed_on : ℕ → Placed → Placed
placed_on q p = record { task = with_role p.task Running; owner = q }

-- the job runs on processor q or is held on it
abbrev pub is_own_of : ℕ → Placed → Bool
is_own_of q p = is_privileged p.task && p.owner == q

-- a job after a printed event on processor q
abbrev pub placed_after : ℕ → Event → Placed → Placed
placed_after q (Release n job) p = if p.task.number == n then in_role p Fresh else p
placed_after q (Run at n) p = if p.task.number == n then placed_on q p else p
placed_after q (Preempt at stops starts) p =
    if p.task.number == starts then placed_on q p else (if p.task.number == stops then in_role p Held else p)
placed_after q (Take at stops starts) p =
    if p.task.number == starts then placed_on q p else (if is_own_of q p then in_role p Waiting else p)
placed_after q (Complete at n) p = if p.task.number == n then in_role p Done else p
placed_after q (Abandon at n) p = if p.task.number == n then in_role p Gone else p
placed_after q (End value) p = p

-- the job with one tick more
abbrev pub with_tick : Task → Task
with_tick t = record { number = t.number; job = t.job; role = t.role; had = t.had + 1 }

-- where it runs
abbrev pub ticked : Placed → Placed
ticked p = if is_running p.task then record { task = with_tick p.task; owner = p.owner } else p

-- whether the state is pressed after a printed event that leaves these tasks: from the abandonment of a job to the next
-- completion that leaves no job that waits or is held
abbrev pub pressed_after : Event → Bool → List Task → Bool
pressed_after (Release n job) pressed tasks = pressed
pressed_after (Run at n) pressed tasks = pressed
pressed_after (Preempt at stops starts) pressed tasks = pressed
pressed_after (Take at stops starts) pressed tasks = pressed
pressed_after (Complete at n) pressed tasks = pressed && list_any is_ready_behind tasks
pressed_after (Abandon at n) pressed tasks = true
pressed_after (End value) pressed tasks = pressed

-- the state with other jobs
abbrev pub with_jobs : State → List Placed → State
with_jobs s jobs = record { clock = s.clock; jobs = jobs; pressed = s.pressed }

-- the state after a step
abbrev pub after : State → Move → State
after s (Prints q e) = record {
  clock = s.clock;
  jobs = map (placed_after q e) s.jobs;
  pressed = pressed_after e s.pressed (tasks_of (map (placed_after q e) s.jobs));
}
after s (Waits n) = with_jobs s (map (λ p. if p.task.number == n then in_role p Waiting else p) s.jobs)
after s Ticks = record { clock = s.clock + 1; jobs = map ticked s.jobs; pressed = s.pressed }
