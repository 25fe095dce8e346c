-- Paths of open steps: how they go on, what they come to at a barrier, with a job more, and at the end.
use Rattle.std.proofs.Common.{◌≡◌, ℕ, ◌≤◌, ◌<◌, inl, inr, List, [], ◌∷◌, ◌++◌, length, map, refl, sym, ap}
use Rattle.std.proofs.Common.{◌∙◌, subst, append_assoc, Bool, true, false, arith, ◌&&◌, nat_le, Option, Some}
use Rattle.std.proofs.Common.{None, MatchBool, filter, leb-true, leb-false}
use Rattle.std.specs.Bool.{then_some}
use Rattle.std.specs.List.{list_all, cons_option}
use Rattle.dover_model.specs.Common.{JobFacts, Event, End, Task, Rules, Instance, IsValid, with_jobs, State}
use Rattle.dover_model.specs.Common.{with_later, opening, to_come, is_over, is_done, value_sum, Prints}
use Rattle.dover_model.specs.Common.{Ticks, step, open_step, after, ending, ◌or_else◌, ticked, Step, is_end, event_of}
use Rattle.dover_model.specs.Common.{printed_of, printed, run, last_deadline, waits_for_mark, settled, settled_steps}
use Rattle.dover_model.specs.Common.{AllComeFrom, open_at, step_at, IsWholeRun, IsBarrier, IsBefore, IsSettledRun}
use Rattle.dover_model.specs.Common.{Begins, IsOpenPath, IsPath, HasPrinted, Each, Keeps, end_state}
use Rattle.dover_model.proofs.lists.Members.{all_each}
use Rattle.dover_model.proofs.steps.Roles.{ticked_over}
use Rattle.dover_model.proofs.steps.Deeds.{over_rests}
use Rattle.dover_model.proofs.steps.Kept.{open_kept, step_kept, opening_keeps, step_deed, open_deed}
use Rattle.dover_model.proofs.runs.Ending.{potential, ends, run_is_whole}
use Rattle.dover_model.proofs.finishes.Readiness.{IsReady, open_ready, step_ready, opening_ready}
use Rattle.dover_model.proofs.runs.RunLaws.{one_run, tasks_in, tasks_from}
use Rattle.dover_model.proofs.settled.Barriers.{clock_stays}
use Rattle.dover_model.proofs.settled.Settling.{settles, settled_is_run}
use Rattle.dover_model.proofs.valid.Valid.{valid_front}
use Rattle.dover_model.proofs.settled.Prefixes.{come_from, later_keeps, opening_later, behind_after, behind_keeps}
use Rattle.dover_model.proofs.settled.Prefixes.{behind_step, step_open, open_goes_on}
use Rattle.dover_model.proofs.runs.Runs.{printed_append}
use Rattle.dover_model.proofs.lists.Tests.{never}

-- ---- how paths go on

-- one path behind another
pub path_append : (rules : Rules) (mark : ℕ) (xs ys : List Step) (s t u : State) → IsOpenPath rules mark s xs t
    → IsOpenPath rules mark t ys u
    → IsOpenPath rules mark s (xs ++ ys) u
path_append rules mark [] ys s t u here more = subst (λ z. IsOpenPath rules mark z ys u) here more
path_append rules mark (x ∷ xs) ys s t u path more =
    (path.0, path.1, path_append rules mark xs ys (after s (open_step rules s)) t u path.2 more)

-- before the barrier of a mark is before that of a later one
pub before_later : (late : Bool) (mark mark2 clock : ℕ) → mark ≤ mark2 → (late && nat_le mark clock) ≡ false
    → (late && nat_le mark2 clock) ≡ false
before_later false mark mark2 clock later before = refl
before_later true mark mark2 clock later before = by_test (nat_le mark2 clock) refl where
  by_test : (b : Bool) → nat_le mark2 clock ≡ b → b ≡ false
  by_test false e = refl
  by_test true e = let low : clock < mark = leb-false _ _ before in let high : mark2 ≤ clock = leb-true _ _ e in
      absurd (omega arith)

-- a path is a path at each later mark
pub path_later : (rules : Rules) (mark mark2 : ℕ) → mark ≤ mark2 → (xs : List Step) (s t : State)
    → IsOpenPath rules mark s xs t
    → IsOpenPath rules mark2 s xs t
path_later rules mark mark2 later [] s t path = path
path_later rules mark mark2 later (x ∷ xs) s t path = (
  path.0,
  before_later (waits_for_mark (open_step rules s)) mark mark2 s.clock later path.1,
  path_later rules mark mark2 later xs (after s (open_step rules s)) t path.2,
)

-- a path that ends at the barrier is a settled run
pub path_settles : (rules : Rules) (mark : ℕ) (xs : List Step) (s t : State) → IsOpenPath rules mark s xs t
    → IsBarrier rules mark t
    → IsSettledRun rules mark s xs
path_settles rules mark [] s t here barrier = subst (IsBarrier rules mark) here barrier
path_settles rules mark (x ∷ xs) s t path barrier =
    (path.0, path.1, path_settles rules mark xs (after s (open_step rules s)) t path.2 barrier)

-- a state has one settled run at most
pub one_settled_run : (rules : Rules) (mark : ℕ) (xs ys : List Step) (s : State) → IsSettledRun rules mark s xs
    → IsSettledRun rules mark s ys
    → xs ≡ ys
one_settled_run rules mark [] [] s one other = refl
one_settled_run rules mark [] (y ∷ ys) s here on = never (sym on.1 ∙ here)
one_settled_run rules mark (x ∷ xs) [] s on here = never (sym on.1 ∙ here)
one_settled_run rules mark (x ∷ xs) (y ∷ ys) s one other =
    let rest : xs ≡ ys = one_settled_run rules mark xs ys (after s (open_step rules s)) one.2 other.2 in
    let same : x ≡ y = one.0 ∙ sym other.0 in cc

-- a path keeps what is sound
pub path_keeps : (J : Instance) → IsValid J → (mark : ℕ) (xs : List Step) (s t : State) → Keeps J s
    → IsOpenPath J.rules mark s xs t → Keeps J t
path_keeps J valid mark [] s t keeps here = subst (Keeps J) (sym here) keeps
path_keeps J valid mark (x ∷ xs) s t keeps path =
    path_keeps J valid mark xs (after s (open_step J.rules s)) t (open_kept J valid s keeps J.rules) path.2

-- ---- with jobs behind

module _ (J : Instance) (valid : IsValid J) (K : Instance) (valid_more : IsValid K) (rules : Rules) (mark : ℕ)
    (more : List Task)
    (come : AllComeFrom mark more) where
  -- the same steps are taken with jobs to come behind
  path_behind : (xs : List Step) (s t : State) → Keeps J s → Keeps K (with_later s more) → IsOpenPath rules mark s xs t
      → (ys : List Step) × IsOpenPath rules mark (with_later s more) ys (with_later t more)
      × (printed_of ys ≡ printed_of xs)
  path_behind [] s t keeps keeps_more here = ([], ap (λ z. with_later z more) here, refl)
  path_behind (x ∷ xs) s t keeps keeps_more path =
      let same : open_step rules (with_later s more) ≡ open_step rules s =
      behind_step J valid K valid_more rules mark more come s keeps keeps_more path.1 in
      let before : IsBefore rules mark (with_later s more) =
      subst (λ m. (waits_for_mark m && nat_le mark s.clock) ≡ false) (sym same) path.1 in
      let rest = path_behind xs (after s (open_step rules s)) t (open_kept J valid s keeps rules)
      (behind_keeps J valid K valid_more rules mark more come s keeps keeps_more path.1) path.2 in (
        open_at rules (with_later s more) ∷ rest.0,
        (
          refl,
          before,
          subst (λ z. IsOpenPath rules mark z rest.0 (with_later t more))
              (sym (behind_after J valid K valid_more rules mark more come s keeps keeps_more path.1)) rest.1,
        ),
        ap (λ m. cons_option (event_of m) (printed_of rest.0)) same
            ∙ ap (λ es. cons_option (event_of (open_step rules s)) es) rest.2
            ∙ sym (ap (λ (z : Step). cons_option (event_of z.move) (printed_of xs)) path.0),
      )

-- ---- what has been printed

-- further steps at a later mark
pub printed_more : (J : Instance) (mark mark2 : ℕ) (s t : State) (events : List Event) (xs : List Step)
    → HasPrinted J mark s events → mark ≤ mark2
    → IsOpenPath J.rules mark2 s xs t → HasPrinted J mark2 t (events ++ printed_of xs)
printed_more J mark mark2 s t events xs it later path = record {
  steps = it.steps ++ xs;
  path = path_append J.rules mark2 it.steps xs (opening J.jobs) s t
      (path_later J.rules mark mark2 later it.steps (opening J.jobs) s it.path) path;
  prints = printed_append it.steps xs ∙ ap (λ es. es ++ printed_of xs) it.prints;
}

-- at the barrier, all that is settled
pub printed_settled : (J : Instance) (mark : ℕ) (s : State) (events : List Event) → IsValid J
    → HasPrinted J mark s events
    → IsBarrier J.rules mark s → events ≡ settled J mark
printed_settled J mark s events valid it barrier = sym it.prints ∙ ap printed_of
    (one_settled_run J.rules mark it.steps (settled_steps J mark) (opening J.jobs)
    (path_settles J.rules mark it.steps (opening J.jobs) s it.path barrier) (settled_is_run J mark valid))

-- with jobs behind that are released at the mark or later, the same
pub printed_behind : (J : Instance) (more : List JobFacts) (mark : ℕ) (s : State) (events : List Event)
    → IsValid (with_jobs J more)
    → Each (λ j. mark ≤ j.release) more → HasPrinted J mark s events
    → HasPrinted (with_jobs J more) mark (with_later s (to_come (length J.jobs) more)) events
printed_behind J more mark s events valid_more late it =
    let on = path_behind J (valid_front J more valid_more) (with_jobs J more) valid_more J.rules mark
    (to_come (length J.jobs) more)
    (come_from mark (length J.jobs) more late) it.steps (opening J.jobs) s (opening_keeps J)
    (later_keeps J more mark valid_more late) it.path in
    record {
      steps = on.0;
      path = subst (λ z. IsOpenPath J.rules mark z on.0 (with_later s (to_come (length J.jobs) more)))
          (sym (opening_later J more mark valid_more late)) on.1;
      prints = on.2 ∙ it.prints;
    }

-- ---- at the end

-- none
abbrev no_steps : List Step
no_steps = []

module _ (J : Instance) (valid : IsValid J) (mark : ℕ) where
  -- where all jobs are over, open steps print nothing and leave the jobs as they are
  path_over : (xs : List Step) (s t : State) → Keeps J s → Each (λ u. is_over u ≡ true) s.tasks
      → IsOpenPath J.rules mark s xs t
      → (printed_of xs ≡ []) × (t.tasks ≡ s.tasks)
  path_over [] s t keeps over here = (refl, ap (λ (z : State). z.tasks) here)
  path_over (x ∷ xs) s t keeps over path =
      let ticks : open_step J.rules s ≡ Ticks =
      over_rests J.rules.ratio s Ticks over (open_step J.rules s) (open_deed J valid s keeps J.rules) in
      let same : (after s (open_step J.rules s)).tasks ≡ s.tasks = ap (λ m. (after s m).tasks) ticks
      ∙ all_same s.tasks over in
      let rest : (printed_of xs ≡ []) × (t.tasks ≡ (after s (open_step J.rules s)).tasks) =
      path_over xs (after s (open_step J.rules s)) t (open_kept J valid s keeps J.rules)
      (subst (λ tasks. Each (λ u. is_over u ≡ true) tasks) (sym same) over) path.2 in (
        ap (λ (z : Step). cons_option (event_of z.move) (printed_of xs)) path.0
            ∙ ap (λ m. cons_option (event_of m) (printed_of xs)) ticks ∙ rest.0,
        rest.1 ∙ same,
      ) where
        all_same : (tasks : List Task) → Each (λ u. is_over u ≡ true) tasks → map ticked tasks ≡ tasks
        all_same [] over = refl
        all_same (u ∷ tasks) over = let here : ticked u ≡ u = ticked_over u (over u (inl refl)) in
            let rest : map ticked tasks ≡ tasks = all_same tasks (λ v m. over v (inr m)) in cc

  -- where all jobs are over, the step is End
  step_over : (s : State) → Keeps J s → list_all is_over s.tasks ≡ true
      → step J.rules s ≡ Prints (End (value_sum (filter is_done s.tasks)))
  step_over s keeps over =
      over_rests J.rules.ratio s (ending s or_else Ticks) (all_each is_over s.tasks over) (step J.rules s)
      (step_deed J valid s keeps J.rules)
      ∙ ap (λ b. then_some b (Prints (End (value_sum (filter is_done s.tasks)))) or_else Ticks) over

  -- a path, and a whole run from its end, print what a whole run from its beginning prints, and leave the same tasks
  path_then_run : (xs zs : List Step) (s t : State) → Keeps J s → IsOpenPath J.rules mark s xs t
      → IsWholeRun J.rules t zs
      → (ys : List Step) × IsWholeRun J.rules s ys × (printed_of ys ≡ printed_of xs ++ printed_of zs)
      × (tasks_in ys ≡ tasks_in zs)
  path_then_run [] zs s t keeps here whole = (zs, subst (λ z. IsWholeRun J.rules z zs) here whole, refl, refl)
  path_then_run (x ∷ xs) [] s t keeps path whole = absurd whole
  path_then_run (x ∷ xs) (z ∷ zs) s t keeps path whole = by_over (list_all is_over s.tasks) refl
      (path_then_run xs (z ∷ zs) (after s (open_step J.rules s)) t
      (open_kept J valid s keeps J.rules) path.2 whole) where
        by_over : (b : Bool) → list_all is_over s.tasks ≡ b
            → ((ys : List Step) × IsWholeRun J.rules (after s (open_step J.rules s)) ys
            × (printed_of ys ≡ printed_of xs ++ printed_of (z ∷ zs)) × (tasks_in ys ≡ tasks_in (z ∷ zs)))
            → (ys : List Step) × IsWholeRun J.rules s ys × (printed_of ys ≡ printed_of (x ∷ xs) ++ printed_of (z ∷ zs))
            × (tasks_in ys ≡ tasks_in (z ∷ zs))
        by_over true over rest =
            let silent : (printed_of (x ∷ xs) ≡ []) × (t.tasks ≡ s.tasks) =
            path_over (x ∷ xs) s t keeps (all_each is_over s.tasks over) path in
            let end : step J.rules s ≡ Prints (End (value_sum (filter is_done s.tasks))) = step_over s keeps over in
            let end_there : step J.rules t ≡ Prints (End (value_sum (filter is_done s.tasks))) =
            step_over t (path_keeps J valid mark (x ∷ xs) s t keeps path) (ap (list_all is_over) silent.1 ∙ over)
            ∙ ap (λ tasks. Prints (End (value_sum (filter is_done tasks)))) silent.1 in
            let last : zs ≡ [] = subst
            (λ m. MatchBool (is_end m) (zs ≡ []) (IsWholeRun J.rules (after t m) zs)) end_there whole.1 in (
              step_at J.rules s ∷ [],
              (
                refl,
                subst (λ m. MatchBool (is_end m) (no_steps ≡ no_steps) (IsWholeRun J.rules (after s m) no_steps))
                    (sym end) refl,
              ),
              ap (λ m. cons_option (event_of m) []) end ∙ sym (ap (λ m. cons_option (event_of m) []) end_there)
                  ∙ sym (ap (λ (y : Step). cons_option (event_of y.move) []) whole.0)
                  ∙ sym (ap (λ ws. printed_of (z ∷ ws)) last)
                  ∙ sym (ap (λ es. es ++ printed_of (z ∷ zs)) silent.0),
              sym silent.1 ∙ sym (ap (λ (y : Step). y.before.tasks) whole.0) ∙ sym (ap (λ ws. tasks_in (z ∷ ws)) last),
            )
        by_over false some rest =
            let goes_on : step J.rules s ≡ open_step J.rules s = step_open J.rules s some in
            let on : is_end (step J.rules s) ≡ false = ap is_end goes_on ∙ open_goes_on J valid J.rules s keeps in (
              step_at J.rules s ∷ rest.0,
              (
                refl,
                subst (λ b. MatchBool b (rest.0 ≡ []) (IsWholeRun J.rules (after s (step J.rules s)) rest.0)) (sym on)
                    (subst (λ m. IsWholeRun J.rules (after s m) rest.0) (sym goes_on) rest.1),
              ),
              ap (λ m. cons_option (event_of m) (printed_of rest.0)) goes_on
                  ∙ ap (λ es. cons_option (event_of (open_step J.rules s)) es) rest.2
                  ∙ cons_append (event_of (open_step J.rules s)) (printed_of xs) (printed_of (z ∷ zs))
                  ∙ sym (ap (λ (y : Step). cons_option (event_of y.move) (printed_of xs) ++ printed_of (z ∷ zs))
                  path.0),
              tasks_from J.rules (after s (open_step J.rules s)) rest.0 rest.1 s ∙ rest.3,
            ) where
              cons_append : (e : Option Event) (es fs : List Event) → cons_option e (es ++ fs) ≡ cons_option e es ++ fs
              cons_append None es fs = refl
              cons_append (Some e) es fs = refl

-- the rest of the run from there prints the rest of what the run prints
pub printed_then_run : (J : Instance) (mark : ℕ) (s : State) (events : List Event) (zs : List Step) → IsValid J
    → HasPrinted J mark s events
    → IsWholeRun J.rules s zs → printed J ≡ events ++ printed_of zs
printed_then_run J mark s events zs valid it whole =
    let all = path_then_run J valid mark it.steps zs (opening J.jobs) s (opening_keeps J) it.path whole in
    ap printed_of (one_run J.rules (opening J.jobs) (run J) all.0 (run_is_whole J valid) all.1) ∙ all.2
    ∙ ap (λ es. es ++ printed_of zs) it.prints

-- and leaves the tasks as the run does
pub tasks_then_run : (J : Instance) (mark : ℕ) (s : State) (events : List Event) (zs : List Step) → IsValid J
    → HasPrinted J mark s events
    → IsWholeRun J.rules s zs → (end_state J).tasks ≡ tasks_in zs
tasks_then_run J mark s events zs valid it whole =
    let all = path_then_run J valid mark it.steps zs (opening J.jobs) s (opening_keeps J) it.path whole in
    tasks_from J.rules (opening J.jobs) (run J) (run_is_whole J valid) (opening J.jobs)
    ∙ ap tasks_in (one_run J.rules (opening J.jobs) (run J) all.0 (run_is_whole J valid) all.1) ∙ all.3

-- ---- what is printed begins what will be

-- a path keeps the jobs behind from all finishes
pub path_ready : (J : Instance) → IsValid J → (mark : ℕ) (xs : List Step) (s t : State) → Keeps J s
    → IsReady J.rules.finishes s → IsOpenPath J.rules mark s xs t → IsReady J.rules.finishes t
path_ready J valid mark [] s t keeps ready here = subst (IsReady J.rules.finishes) (sym here) ready
path_ready J valid mark (x ∷ xs) s t keeps ready path =
    path_ready J valid mark xs (after s (open_step J.rules s)) t (open_kept J valid s keeps J.rules)
    (open_ready J valid s keeps J.rules ready) path.2

-- a path, and what settles behind it
pub path_then_settled : (rules : Rules) (mark : ℕ) (xs ys : List Step) (s t : State) → IsOpenPath rules mark s xs t
    → IsSettledRun rules mark t ys
    → IsSettledRun rules mark s (xs ++ ys)
path_then_settled rules mark [] ys s t here run = subst (λ z. IsSettledRun rules mark z ys) here run
path_then_settled rules mark (x ∷ xs) ys s t path run =
    (path.0, path.1, path_then_settled rules mark xs ys (after s (open_step rules s)) t path.2 run)

-- what was printed before the barrier begins what is settled
pub printed_begins : (J : Instance) (mark : ℕ) (s : State) (events : List Event) → IsValid J
    → HasPrinted J mark s events
    → Begins events (settled J mark)
printed_begins J mark s events valid it =
    let keeps : Keeps J s = path_keeps J valid mark it.steps (opening J.jobs) s (opening_keeps J) it.path in
    let ready : IsReady J.rules.finishes s =
    path_ready J valid mark it.steps (opening J.jobs) s (opening_keeps J)
    (opening_ready J.rules.finishes J.jobs) it.path in
    let rest = settles J valid J.rules mark (potential J.rules.finishes mark s) s keeps ready (omega arith) in (
      printed_of rest.0,
      ap printed_of (one_settled_run J.rules mark (settled_steps J mark) (it.steps ++ rest.0) (opening J.jobs)
          (settled_is_run J mark valid)
          (path_then_settled J.rules mark it.steps rest.0 (opening J.jobs) s it.path rest.1))
          ∙ printed_append it.steps rest.0 ∙ ap (λ es. es ++ printed_of rest.0) it.prints,
    )

-- closed steps, and a whole run behind them
pub closed_then_run : (rules : Rules) (xs ys : List Step) (s t : State) → IsPath rules s xs t → IsWholeRun rules t ys
    → IsWholeRun rules s (xs ++ ys)
closed_then_run rules [] ys s t here whole = subst (λ z. IsWholeRun rules z ys) here whole
closed_then_run rules (x ∷ xs) ys s t path whole = (
  path.0,
  subst (λ b. MatchBool b (xs ++ ys ≡ []) (IsWholeRun rules (after s (step rules s)) (xs ++ ys))) (sym path.1)
      (closed_then_run rules xs ys (after s (step rules s)) t path.2 whole),
)

-- closed steps keep what is sound
pub closed_keeps : (J : Instance) → IsValid J → (xs : List Step) (s t : State) → Keeps J s → IsPath J.rules s xs t
    → Keeps J t
closed_keeps J valid [] s t keeps here = subst (Keeps J) (sym here) keeps
closed_keeps J valid (x ∷ xs) s t keeps path =
    closed_keeps J valid xs (after s (step J.rules s)) t (step_kept J valid s keeps J.rules) path.2

-- they keep the jobs behind from all finishes
pub closed_ready : (J : Instance) → IsValid J → (xs : List Step) (s t : State) → Keeps J s → IsReady J.rules.finishes s
    → IsPath J.rules s xs t → IsReady J.rules.finishes t
closed_ready J valid [] s t keeps ready here = subst (IsReady J.rules.finishes) (sym here) ready
closed_ready J valid (x ∷ xs) s t keeps ready path = closed_ready J valid xs (after s (step J.rules s)) t
    (step_kept J valid s keeps J.rules) (step_ready J valid s keeps J.rules ready) path.2

-- what was printed before the barrier, and by closed steps behind, begins what the run prints
pub printed_begins_run : (J : Instance) (mark : ℕ) (s t : State) (events : List Event) (xs : List Step) → IsValid J
    → HasPrinted J mark s events
    → IsPath J.rules s xs t → Begins (events ++ printed_of xs) (printed J)
printed_begins_run J mark s t events xs valid it path =
    let before : Keeps J s = path_keeps J valid mark it.steps (opening J.jobs) s (opening_keeps J) it.path in
    let keeps : Keeps J t = closed_keeps J valid xs s t before path in
    let ready : IsReady J.rules.finishes t = closed_ready J valid xs s t before
    (path_ready J valid mark it.steps (opening J.jobs) s (opening_keeps J) (opening_ready J.rules.finishes J.jobs)
    it.path) path in
    let rest = ends J valid J.rules (potential J.rules.finishes (last_deadline J.jobs) t) t keeps ready
    (omega arith) in (
      printed_of rest.0,
      printed_then_run J mark s events (xs ++ rest.0) valid it (closed_then_run J.rules xs rest.0 s t path rest.1)
          ∙ ap (λ es. events ++ es) (printed_append xs rest.0)
          ∙ sym (append_assoc events (printed_of xs) (printed_of rest.0)),
    )

-- ---- the clock

-- a path before the barrier of a mark doesn't pass the mark
pub path_low : (J : Instance) → IsValid J → (mark : ℕ) (xs : List Step) (s t : State) → s.clock ≤ mark
    → IsOpenPath J.rules mark s xs t
    → t.clock ≤ mark
path_low J valid mark [] s t low here = subst (λ (z : State). z.clock ≤ mark) (sym here) low
path_low J valid mark (x ∷ xs) s t low path =
    path_low J valid mark xs (after s (open_step J.rules s)) t (clock_stays J valid mark s low path.1) path.2
