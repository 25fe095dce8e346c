-- A run of the jobs that were released so far: what is kept of it, and what that says.
use Rattle.std.specs.Prelude.{◌≡◌, ◌≤◌, ◌+◌, ℕ, List, [], ◌∷◌, ◌++◌, length, ◌&&◌, nat_le, Bool, false, true, Option}
use Rattle.std.specs.Prelude.{Some}
use Rattle.std.specs.Prelude.{None, option_map, filter}
use Rattle.dover_model.specs.Common.{last_tick, Fraction, JobFacts, Declaration, under, bare, Instance, IsValid}
use Rattle.dover_model.specs.Common.{with_finishes, State, is_coming, is_done, running, value_sum, Move}
use Rattle.dover_model.specs.Common.{Prints, open_step, after, view, AreOwn, Step, waits_for_mark, AreOverFor}
use Rattle.dover_model.specs.Common.{finish_now, Each, Keeps, IsBefore, Idles, IsSilent, GoesOn, WaitsUntil, PrintsNext}
use Rattle.dover_model.specs.Common.{is_ready}
use Rattle.dover_model.specs.declared.events.Event.{Event}
use Rattle.dover_model.specs.declared.events.Event.TheVariants as event
use Rattle.dover_model.specs.declared.events.Role.TheVariants.{Fresh}
use Rattle.dover_model.specs.declared.events.Task.{Task}
use Rattle.waiting_pool.specs.Reordered.{IsReordered}
use Rattle.ready_jobs.specs.Cases.{next_ready}
use Rattle.ready_jobs.specs.Parts.{Parted, ready_of}
use Rattle.ready_jobs.specs.Deeds.{Finds, step_at}
use Rattle.ready_jobs.specs.declared.actions.Action.{Action}

-- what is kept of a run: the clock, whether the state is pressed, the jobs that aren't over, in no told order, how many
-- there are in all, what those done are worth, and how many ready jobs there is room for
pub record Course : Type 0 where
  pub rules : Declaration
  pub clock : ℕ
  pub pressed : Bool
  pub ready : List Task
  pub jobs : ℕ
  pub done : ℕ
  pub room : ℕ

-- what is kept where these are the ready jobs by their roles
abbrev pub course_of : Fraction → Parted → (jobs done : ℕ) → Course
course_of ratio p jobs done = record {
  rules = record { ratio = ratio; version = p.version };
  clock = p.clock;
  pressed = p.pressed;
  ready = ready_of p;
  jobs = jobs;
  done = done;
  room = p.room;
}

-- it is kept of these jobs in this state, in which none is to come; those that finish early are some of them, and over
pub record Follows (c : Course) (J : Instance) (z : State) : Type 0 where
  pub valid : IsValid J
  pub keeps : Keeps J z
  pub rules : bare J.rules ≡ under c.rules []
  pub own : AreOwn J
  pub over : AreOverFor J.rules.finishes z
  pub clock : z.clock ≡ c.clock
  pub pressed : z.pressed ≡ c.pressed
  pub ready : IsReordered (filter is_ready z.tasks) c.ready
  pub jobs : length z.tasks ≡ c.jobs
  pub done : value_sum (filter is_done z.tasks) ≡ c.done
  pub known : z.clock ≤ last_tick
  pub released : Each (λ t. is_coming t ≡ false) z.tasks

-- it is kept of some jobs in some state
abbrev pub IsCourse : Course → Type 0
IsCourse c = (J : Instance) × (z : State) × Follows c J z

-- the state of the jobs that are kept
abbrev pub state_of_course : Course → State
state_of_course c = record { clock = c.clock; tasks = c.ready; pressed = c.pressed }

-- the job that would get the processor if none ran, by its number: of the first held and the first waiting one
abbrev pub successor_of : Course → Option ℕ
successor_of c = option_map (λ t. t.number) (next_ready c.rules.version (state_of_course c))

-- the course of no jobs
abbrev pub new_course : Declaration → ℕ → Course
new_course rules room = record {
  rules = rules;
  clock = 0;
  pressed = false;
  ready = [];
  jobs = 0;
  done = 0;
  room = room;
}

-- the job that was released last
abbrev pub fresh_job : Course → JobFacts → Task
fresh_job c j = record { number = c.jobs; job = j; role = Fresh; had = 0 }

-- the course with it
abbrev pub with_release : Course → JobFacts → ℕ → Course
with_release c j room =
    record {
      rules = c.rules;
      clock = j.release;
      pressed = c.pressed;
      ready = c.ready ++ fresh_job c j ∷ [];
      jobs = c.jobs + 1;
      done =
          c.done;
      room = room;
    }

-- the state that silent steps reach, and the step that comes there: it is a barrier at the mark, or printed
pub record Reached (c : Course) (J : Instance) (z : State) (mark : ℕ) (m : Move) : Type 0 where
  pub state : State
  pub follows : Follows c J state
  pub idles : (xs : List Step) × Idles J.rules z xs state
  pub goes_on : GoesOn state
  pub comes : open_step J.rules state ≡ m
  pub stops : IsSilent m → (waits_for_mark m && nat_le mark c.clock) ≡ true
  pub waits : (waits_for_mark m && nat_le mark c.clock) ≡ true
      → WaitsUntil J.rules mark z (record state { clock = mark })

-- what comes before the mark: this printed step, or nothing, and then the clock is at the mark if some job isn't over
abbrev pub Comes : Instance → State → ℕ → State → Option Event → Type 0
Comes J z mark y (Some e) = (open_step J.rules y ≡ Prints e) × IsBefore J.rules mark y × GoesOn y
Comes J z mark y None = WaitsUntil J.rules mark z (record y { clock = mark }) × (GoesOn y → y.clock ≡ mark)

-- the state to which silent steps have led, and what comes there before the mark
pub record Settled (c : Course) (J : Instance) (z : State) (mark : ℕ) (next : Option Event) : Type 0 where
  pub state : State
  pub follows : Follows c J state
  pub idles : (xs : List Step) × Idles J.rules z xs state
  pub comes : Comes J z mark state next

-- from wherever the course is kept of, silent steps lead to where the other is, and this comes there before the mark
abbrev pub SettlesAt : Course → ℕ → Course → Option Event → Type 0
SettlesAt c mark d next = (J : Instance) (z : State) → Follows c J z → Settled d J z mark next

-- they lead to where this step is printed next
abbrev pub ComesNext : (c d : Course) → Event → Type 0
ComesNext c d e = (J : Instance) (z : State) → Follows c J z → (y : State) × Follows d J y × PrintsNext J.rules z e y

-- from wherever the course is kept of, the step leads to where the other is
abbrev pub Passes : Course → Event → Course → Type 0
Passes c e d = (J : Instance) (z : State) → Follows c J z → Follows d J (after z (Prints e))

-- silent steps lead to where the step is printed next, and it leads to the other course
pub record Takes (c : Course) (e : Event) (d : Course) : Type 0 where
  pub there : Course
  pub comes : ComesNext c there e
  pub passes : Passes there e d
  pub clock : d.clock ≡ there.clock

-- the same of a step before the mark, or none comes
abbrev pub StepsBefore : Course → ℕ → Course → Option Event → Type 0
StepsBefore c mark d None = SettlesAt c mark d None × (d.clock ≤ mark)
StepsBefore c mark d (Some e) = (there : Course) × SettlesAt c mark there (Some e) × (there.clock ≤ mark)
    × Passes there e d

-- wherever the course is kept of, the job of this number runs; where it finishes there, the other course is kept
abbrev pub Finishes : Course → (number : ℕ) → Course → Type 0
Finishes c number d = (J : Instance) (z : State) → Follows c J z →
    (r : Task) × (running z ≡ Some r) × (r.number ≡ number)
    × Follows d (with_finishes J (finish_now r ∷ [])) (after z (Prints (event.Complete z.clock number)))

-- nowhere does the job of this number run
abbrev pub RunsNowhere : Course → (number : ℕ) → Type 0
RunsNowhere c number = (J : Instance) (z : State) → Follows c J z → (r : Task) → running z ≡ Some r
    → r.number ≡ number → ⊥

-- wherever the course is kept of, the job of this number runs
abbrev pub Runs : Course → (number : ℕ) → Type 0
Runs c number = (J : Instance) (z : State) → Follows c J z → (r : Task) × (running z ≡ Some r) × (r.number ≡ number)

-- the deed is the open step of the ready jobs, which prints e
pub record IsDue (c : Course) (deed : Action) (e : Event) : Type 0 where
  pub prints : step_at c.clock deed ≡ Prints e
  pub opens : open_step (under c.rules []) (state_of_course c) ≡ Prints e
  pub finds : Finds (view c.rules.version (state_of_course c)) deed

-- the course is one that goes on from the other: it has the same rules, jobs and room, and no more ready jobs
pub record GoesOnFrom (c d : Course) : Type 0 where
  pub rules : d.rules ≡ c.rules
  pub fewer : length d.ready ≤ length c.ready
  pub jobs : d.jobs ≡ c.jobs
  pub room : d.room ≡ c.room
