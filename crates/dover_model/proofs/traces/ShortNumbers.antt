-- The numbers of a valid session's trace have numerals.
use Rattle.std.proofs.Common.{◌≡◌, ℕ, zero, suc, ◌+◌, ◌-◌, ◌^◌, ◌≤◌, ◌<◌, ◌⊎◌, inl, inr, max, List, [], ◌∷◌, ◌++◌}
use Rattle.std.proofs.Common.{length, map, take, drop, refl, sym, ap, ◌∙◌, subst, Bool, true, false, cond, arith}
use Rattle.std.proofs.Common.{MatchBool, filter, append-nil}
use Rattle.std.specs.Bool.{then_some}
use Rattle.std.specs.List.{AllByRecursion, list_all, cons_option}
use Rattle.dover_model.specs.Common.{last_tick_in, IsJob, job_numbers, AreShort, Event, End, Task, Fraction}
use Rattle.dover_model.specs.Common.{Rules, Declaration, Instance, IsValid, total_value, State, opening, is_over}
use Rattle.dover_model.specs.Common.{is_done, value_sum, Move, Prints, Waits, Ticks, step, after, ending, ◌or_else◌}
use Rattle.dover_model.specs.Common.{Step, is_end, event_of, printed_of, printed, run, last_deadline, IsWholeRun, Item}
use Rattle.dover_model.specs.Common.{JobItem, RefusedItem, FinishItem, Session, instance_of, IsValidSession}
use Rattle.dover_model.specs.Common.{RefusedLine, RefusedJob, RefusedDone, session_with, TraceLine, Printed, Refuses}
use Rattle.dover_model.specs.Common.{Placed, put_in, places_after, places_of, IsMember, Keeps, step_numbers}
use Rattle.dover_model.specs.Common.{refused_numbers}
use Rattle.dover_model.proofs.lists.Members.{all_each, sum_filter, sum_le, sum_map, cond_le}
use Rattle.dover_model.proofs.steps.Ticking.{Quiet}
use Rattle.dover_model.proofs.steps.Deeds.{Deed, Completed, Resumed, Started, Began, Preempted, Stayed, Arrived, Taken}
use Rattle.dover_model.proofs.steps.Deeds.{Abandoned, Rested, tick_quiet, over_rests}
use Rattle.dover_model.proofs.steps.Kept.{each_job, step_deed, step_kept, opening_keeps}
use Rattle.dover_model.proofs.runs.Ending.{clock_after, tick_early, run_is_whole}
use Rattle.dover_model.proofs.sessions.Growing.{all_lines}
use Rattle.dover_model.proofs.texts.TraceLines.{HasShortNumbers}
use Rattle.dover_model.proofs.runs.Honest.{numbers_low, count_jobs}
use Rattle.dover_model.proofs.valid.Limiting.{deadline_known, jobs_most, tick_most, total_most}
use Rattle.dover_model.proofs.sessions.SessionParts.{MayRefuse, FollowsItems, session_parts, session_jobs}
use Rattle.dover_model.proofs.valid.ValidParts.{valid_parts}
use Rattle.dover_model.proofs.valid.JobLimits.{job_limits}

-- ---- clocks

module _ (J : Instance) (valid : IsValid J) (s : State) (keeps : Keeps J s) (rules : Rules) where
  -- a silent tick is taken before the last deadline
  pub ticks_early : step rules s ≡ Ticks → s.clock < last_deadline J.jobs
  ticks_early ticks = by_over (list_all is_over s.tasks) refl where
    deed : Deed rules.ratio s (ending s or_else Ticks) (step rules s)
    deed = step_deed J valid s keeps rules

    by_over : (b : Bool) → list_all is_over s.tasks ≡ b → s.clock < last_deadline J.jobs
    by_over true all =
        let ends : step rules s ≡ (ending s or_else Ticks) =
        over_rests rules.ratio s (ending s or_else Ticks) (all_each is_over s.tasks all) (step rules s) deed in
        let last : (ending s or_else Ticks) ≡ Prints (End (value_sum (filter is_done s.tasks))) =
        ap (λ b. then_some b (Prints (End (value_sum (filter is_done s.tasks)))) or_else Ticks) all in
        absurd (let clash : Ticks ≡ Prints (End (value_sum (filter is_done s.tasks))) = sym ticks ∙ ends ∙ last in cc)
    by_over false some = tick_early J valid s keeps (tick_is_quiet (ending s or_else Ticks) deed) some where
      tick_is_quiet : (other : Move) → Deed rules.ratio s other (step rules s) → Quiet s
      tick_is_quiet other it = tick_quiet rules.ratio s other (step rules s) it ticks

  -- so the clock doesn't pass it
  clock_within : s.clock ≤ last_deadline J.jobs → (after s (step rules s)).clock ≤ last_deadline J.jobs
  clock_within low = by_clock (clock_after s (step rules s)) where
    by_clock : ((after s (step rules s)).clock ≡ s.clock)
        ⊎ ((step rules s ≡ Ticks) × ((after s (step rules s)).clock ≡ s.clock + 1))
        → (after s (step rules s)).clock ≤ last_deadline J.jobs
    by_clock (inl same) = omega arith
    by_clock (inr it) = let next : (after s (step rules s)).clock ≡ s.clock + 1 = it.1 in
        let early : s.clock < last_deadline J.jobs = ticks_early it.0 in omega arith

-- ---- numbers of steps

-- the numbers of what is printed are short
abbrev pub IsShortMove : Move → Type 0
IsShortMove (Prints e) = AreShort (step_numbers e)
IsShortMove (Waits n) = Unit {0}
IsShortMove Ticks = Unit {0}

-- a clock up to the last deadline is short
clock_before : (J : Instance) → IsValid J → (clock : ℕ) → clock ≤ last_deadline J.jobs → clock < 10 ^ 18
clock_before J valid clock low = omega (arith, deadline_known J valid)

module _ (J : Instance) (valid : IsValid J) (s : State) (keeps : Keeps J s) (clock_short : s.clock < 10 ^ 18) where
  -- each number is short
  number_short : (t : Task) → IsMember t s.tasks → t.number < 10 ^ 18
  number_short t member = omega (
    arith,
    numbers_low 0 s.tasks keeps.sound.numbered t member,
    count_jobs s.tasks,
    ap length keeps.jobs,
    (valid_parts valid).count,
    jobs_most J.rules.version,
  )

  -- so are the numbers of each job
  job_short : (t : Task) → IsMember t s.tasks → AreShort (job_numbers t.job)
  job_short t member =
      let it : IsJob t.job = each_job IsJob s.tasks
      (subst (AllByRecursion IsJob) (sym keeps.jobs) (valid_parts valid).each) t member in
      let window : t.job.release + t.job.work ≤ t.job.deadline = (job_limits it).window in
      let due : t.job.deadline ≤ 10_000_000_000_000_000 = (job_limits it).due in
      let modest : t.job.value ≤ 1_000_000_000 = (job_limits it).modest in
      (omega arith, (omega arith, (omega arith, (omega arith, tt))))

  -- so is the value at the end
  pub value_short : value_sum (filter is_done s.tasks) < 10 ^ 18
  value_short =
      let some : value_sum (filter is_done s.tasks) ≤ value_sum s.tasks =
      subst (λ n. n ≤ value_sum s.tasks) (sym (sum_filter is_done (λ t. t.job.value) s.tasks))
      (sum_le (λ t. cond (is_done t) t.job.value 0) (λ t. t.job.value) s.tasks
      (λ t m. cond_le (is_done t) t.job.value)) in
      let all : value_sum s.tasks ≡ total_value J.jobs = sym (sum_map (λ (t : Task). t.job) (λ j. j.value) s.tasks)
      ∙ ap total_value keeps.jobs in
      omega (arith, (valid_parts valid).total, total_most J.rules.version)

  -- so are the numbers of each deed
  deed_short : (k : Fraction) (other m : Move) → IsShortMove other → Deed k s other m → IsShortMove m
  deed_short k other m rests (Completed r member runs) = (clock_short, (number_short r member, tt))
  deed_short k other m rests (Resumed p member held none least why) = (clock_short, (number_short p member, tt))
  deed_short k other m rests (Started o member waiting none first fits next) =
      (clock_short, (number_short o member, tt))
  deed_short k other m rests (Began f member fresh none free) = (clock_short, (number_short f member, tt))
  deed_short k other m rests (Preempted r f member runs some f_member fresh before fits) =
      (clock_short, (number_short r member, (number_short f f_member, tt)))
  deed_short k other m rests (Stayed r f member runs some f_member fresh why) = tt
  deed_short k other m rests (Arrived c member coming now first stale busy free) =
      (number_short c member, job_short c member)
  deed_short k other m rests (Taken r x member runs some x_member waiting now stale heavy) =
      (clock_short, (number_short r member, (number_short x x_member, tt)))
  deed_short k other m rests (Abandoned r x member runs some x_member waiting now stale light) =
      (clock_short, (number_short x x_member, tt))
  deed_short k other m rests (Rested quiet) = rests

  -- so are those of each step
  pub step_short : (rules : Rules) → IsShortMove (step rules s)
  step_short rules = deed_short rules.ratio (ending s or_else Ticks) (step rules s) (by_over (list_all is_over s.tasks))
      (step_deed J valid s keeps rules) where
        by_over : (b : Bool) → IsShortMove
            (then_some b (Prints (End (value_sum (filter is_done s.tasks)))) or_else Ticks)
        by_over true = (value_short, tt)
        by_over false = tt

-- ---- over a run

-- the numbers of all steps are short
abbrev pub AreAllShort : List Event → Type 0
AreAllShort es = AllByRecursion (λ e. AreShort (step_numbers e)) es

-- with one step more
short_more : (m : Move) (es : List Event) → IsShortMove m → AreAllShort es → AreAllShort (cons_option (event_of m) es)
short_more (Prints e) es short all = (short, all)
short_more _ es short all = all

module _ (J : Instance) (valid : IsValid J) (rules : Rules) where
  -- the steps of a whole run are short
  short_from : (xs : List Step) (s : State) → Keeps J s → s.clock ≤ last_deadline J.jobs → IsWholeRun rules s xs
      → AreAllShort (printed_of xs)
  short_from [] s keeps low whole = absurd whole
  short_from (x ∷ xs) s keeps low whole =
      subst (λ (y : Step). AreAllShort (cons_option (event_of y.move) (printed_of xs))) (sym whole.0)
      (short_more (step rules s) (printed_of xs) (step_short J valid s keeps (clock_before J valid s.clock low) rules)
      (by_end (is_end (step rules s)) whole.1
      (short_from xs (after s (step rules s)) (step_kept J valid s keeps rules)
      (clock_within J valid s keeps rules low)))) where
        by_end : (b : Bool) → MatchBool b (xs ≡ []) (IsWholeRun rules (after s (step rules s)) xs)
            → (IsWholeRun rules (after s (step rules s)) xs → AreAllShort (printed_of xs)) → AreAllShort (printed_of xs)
        by_end true none more = subst (λ ys. AreAllShort (printed_of ys)) (sym none) tt
        by_end false rest more = more rest

-- the printed steps of a run are short
pub printed_short : (J : Instance) → IsValid J → AreAllShort (printed J)
printed_short J valid = short_from J valid J.rules (run J) (opening J.jobs) (opening_keeps J) (omega arith)
    (run_is_whole J valid)

-- ---- of a session

-- what holds of all holds of the first
pub all_take : {X : Type 0} (P : X → Type 0) (n : ℕ) (xs : List X) → AllByRecursion P xs → AllByRecursion P (take n xs)
all_take P zero xs all = tt
all_take P (suc n) [] all = tt
all_take P (suc n) (x ∷ xs) all = (all.0, all_take P n xs all.1)

-- and of the others
pub all_drop : {X : Type 0} (P : X → Type 0) (n : ℕ) (xs : List X) → AllByRecursion P xs → AllByRecursion P (drop n xs)
all_drop P zero xs all = all
all_drop P (suc n) [] all = tt
all_drop P (suc n) (x ∷ xs) all = all_drop P n xs all.1

-- lines of steps, and lines behind
short_steps : (steps : List Event) (behind : List TraceLine) → AreAllShort steps → AllByRecursion HasShortNumbers behind
    → AllByRecursion HasShortNumbers (map Printed steps ++ behind)
short_steps [] behind all rest = rest
short_steps (e ∷ steps) behind all rest = (all.0, short_steps steps behind all.1 rest)

-- the refused lines are short
abbrev AreShortPlaces : List Placed → Type 0
AreShortPlaces ps = AllByRecursion (λ p. AreShort (p.refused.at ∷ refused_numbers p.refused.line)) ps

-- what is put together of short parts is short
put_in_short : (ps : List Placed) (before : ℕ) (steps : List Event) → AreShortPlaces ps → AreAllShort steps
    → AllByRecursion HasShortNumbers (put_in ps before steps)
put_in_short [] before steps places all =
    subst (AllByRecursion HasShortNumbers) (append-nil (map Printed steps)) (short_steps steps [] all tt)
put_in_short (p ∷ ps) before steps places all =
    short_steps (take (p.place - before) steps)
    (Refuses p.refused ∷ put_in ps (max before p.place) (drop (p.place - before) steps))
    (all_take (λ e. AreShort (step_numbers e)) (p.place - before) steps all) (
      places.0,
      put_in_short ps (max before p.place) (drop (p.place - before) steps) places.1
          (all_drop (λ e. AreShort (step_numbers e)) (p.place - before) steps all),
    )

-- a line that may be refused is short
line_short : (S : Session) (mark : ℕ) (line : RefusedLine) → mark ≤ last_tick_in S.rules.version → MayRefuse S mark line
    → AreShort (refused_numbers line)
line_short S mark (RefusedJob j refusal) known may = may.numerals
line_short S mark (RefusedDone tick number) known may = (
  omega (arith, known, tick_most S.rules.version, may.no_later),
  may.numerals,
)

-- the refused lines of items that follow each other are short
places_short : (rules : Declaration) (before : List Item) (mark : ℕ) (items : List Item)
    → FollowsItems rules before mark items
    → AreShortPlaces (places_after rules before items)
places_short rules before mark [] follows = tt
places_short rules before mark (JobItem j ∷ items) follows =
    places_short rules (before ++ JobItem j ∷ []) (max mark j.release) items follows.1
places_short rules before mark (RefusedItem r ∷ items) follows = (
  (
    omega (arith, follows.0.known, tick_most rules.version),
    line_short (session_with rules before) r.at r.line follows.0.known follows.0.line,
  ),
  places_short rules (before ++ RefusedItem r ∷ []) (max mark r.at) items follows.1,
)
places_short rules before mark (FinishItem f ∷ items) follows =
    places_short rules (before ++ FinishItem f ∷ []) (max mark f.at) items follows.1

-- the lines of a valid session's trace are short
pub lines_short : (S : Session) → IsValidSession S → AllByRecursion HasShortNumbers (all_lines S)
lines_short S valid = put_in_short (places_of S) 0 (printed (instance_of S))
    (places_short S.rules [] 0 S.items (session_parts valid).items)
    (printed_short (instance_of S) (session_jobs valid))
