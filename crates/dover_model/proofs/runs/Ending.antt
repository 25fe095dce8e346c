-- The run of a valid instance ends, within the fuel of `run`, and so many steps are printed at most.
use Rattle.std.proofs.Common.{◌≡◌, ℕ, suc, zero, ◌+◌, ◌-◌, ◌*◌, ◌≤◌, ◌<◌, ◌⊎◌, inl, inr, List, [], ◌∷◌, length, refl}
use Rattle.std.proofs.Common.{sym, ap, ◌∙◌, subst, Bool, true, false, arith, Option, Some, None}
use Rattle.std.proofs.Common.{MatchBool, sum_by, filter}
use Rattle.std.specs.Bool.{then_some}
use Rattle.std.specs.List.{AllByRecursion, list_all, cons_option}
use Rattle.std.proofs.lemmas.List.Sums.{sum_by-cons}
use Rattle.dover_model.specs.Common.{Event, End, Coming, Fresh, Waiting, Held, Running, Role, Task}
use Rattle.dover_model.specs.Common.{JobFacts, IsJob, Rules, Instance, IsValid, State, opening, to_come, is_over}
use Rattle.dover_model.specs.Common.{is_done, is_ready_behind, is_privileged, left, value_sum, Move, Prints}
use Rattle.dover_model.specs.Common.{Ticks, step, open_step, after, ending, ◌or_else◌, Step, is_end, run, enough}
use Rattle.dover_model.specs.Common.{last_deadline, event_of, printed_of, printed, step_at, IsWholeRun, EndsOver}
use Rattle.dover_model.specs.Common.{IsMember, Each, NoneRuns, IsSound, Keeps, weight, weight_in, standing, Finish}
use Rattle.dover_model.proofs.lists.Members.{not_all, all_each}
use Rattle.dover_model.proofs.steps.Roles.{passes}
use Rattle.dover_model.proofs.steps.Moves.{active_slack}
use Rattle.dover_model.proofs.steps.Ticking.{Quiet}
use Rattle.dover_model.proofs.steps.Deeds.{end_rests}
use Rattle.dover_model.proofs.steps.Kept.{realistic, step_deed, open_deed, step_kept, opening_keeps, come_coming}
use Rattle.dover_model.proofs.steps.Kept.{each_job}
use Rattle.dover_model.proofs.runs.Potential.{steps_scale, weights, deed_weighs, tick_weighs}
use Rattle.dover_model.proofs.finishes.Readiness.{IsReady, step_decides, open_decides, step_ready, opening_ready}
use Rattle.dover_model.proofs.runs.RunLaws.{enough_fuel}
use Rattle.dover_model.proofs.lists.Tests.{never}
use Rattle.dover_model.proofs.valid.Dues.{dues_most}
use Rattle.dover_model.proofs.valid.JobLimits.{job_limits}

-- the ticks up to this one, and what the jobs can still bring about
abbrev pub potential : List Finish → ℕ → State → ℕ
potential finishes due s = (due - s.clock) + weights finishes s

-- ---- what a step brings about

-- the clock stays, or goes on by a silent tick
pub clock_after : (s : State) (m : Move) → ((after s m).clock ≡ s.clock)
    ⊎ ((m ≡ Ticks) × ((after s m).clock ≡ s.clock + 1))
clock_after s Ticks = inr (refl, refl)
clock_after s _ = inl refl

-- the clock never goes back
pub later_clock : (s : State) (m : Move) → s.clock ≤ (after s m).clock
later_clock s m = by_clock (clock_after s m) where
  by_clock : ((after s m).clock ≡ s.clock) ⊎ ((m ≡ Ticks) × ((after s m).clock ≡ s.clock + 1))
      → s.clock ≤ (after s m).clock
  by_clock (inl e) = omega arith
  by_clock (inr it) = let e : (after s m).clock ≡ s.clock + 1 = it.1 in omega arith

-- a silent tick in a quiet state, or the weights fall
abbrev pub Brings : List Finish → State → Move → Type 0
Brings finishes s m = (Quiet s × (m ≡ Ticks)) ⊎ (weights finishes (after s m) + 1 ≤ weights finishes s)

-- where the weights fall, so does the potential
pub deed_falls : (finishes : List Finish) (due : ℕ) (s : State) (m : Move)
    → weights finishes (after s m) + 1 ≤ weights finishes s
    → potential finishes due (after s m) < potential finishes due s
deed_falls finishes due s m falls = by_clock (clock_after s m) where
  by_clock : ((after s m).clock ≡ s.clock) ⊎ ((m ≡ Ticks) × ((after s m).clock ≡ s.clock + 1))
      → potential finishes due (after s m) < potential finishes due s
  by_clock (inl same) = omega (arith, falls)
  by_clock (inr it) = let next : (after s m).clock ≡ s.clock + 1 = it.1 in omega (arith, falls)

-- a silent tick before the last one lowers the potential
pub tick_falls : (finishes : List Finish) (due : ℕ) (s : State) (m : Move) → IsSound s → m ≡ Ticks → Quiet s
    → s.clock < due
    → potential finishes due (after s m) < potential finishes due s
tick_falls finishes due s m sound e quiet early =
    subst (λ x. potential finishes due (after s x) < potential finishes due s) (sym e)
    (omega (arith, tick_weighs finishes steps_scale s sound quiet))

module _ (J : Instance) (valid : IsValid J) (s : State) (keeps : Keeps J s) (rules : Rules)
    (ready : IsReady rules.finishes s) where
  -- what an open step brings about
  pub open_brings : Brings rules.finishes s (open_step rules s)
  open_brings = deed_weighs rules.finishes rules.ratio s Ticks keeps.sound ready (open_step rules s)
      (open_deed J valid s keeps rules) (open_decides s keeps.sound rules)

  -- a step that isn't End is a silent tick only where some job isn't over
  pub step_brings : is_end (step rules s) ≡ false
      → (Quiet s × (step rules s ≡ Ticks) × (list_all is_over s.tasks ≡ false))
      ⊎ (weights rules.finishes (after s (step rules s)) + 1 ≤ weights rules.finishes s)
  step_brings more = by_deed
      (deed_weighs rules.finishes rules.ratio s (ending s or_else Ticks) keeps.sound ready (step rules s)
      (step_deed J valid s keeps rules) (step_decides s keeps.sound rules)) where
        rest : (b : Bool) → list_all is_over s.tasks ≡ b
            → step rules s ≡ (then_some b (Prints (End (value_sum (filter is_done s.tasks)))) or_else Ticks) → Quiet s
            → Quiet s × (step rules s ≡ Ticks) × (list_all is_over s.tasks ≡ false)
        rest true all same quiet = never (sym more ∙ ap is_end same)
        rest false some same quiet = (quiet, same, some)

        by_deed : (Quiet s × (step rules s ≡ (ending s or_else Ticks)))
            ⊎ (weights rules.finishes (after s (step rules s)) + 1 ≤ weights rules.finishes s)
            → (Quiet s × (step rules s ≡ Ticks) × (list_all is_over s.tasks ≡ false))
            ⊎ (weights rules.finishes (after s (step rules s)) + 1 ≤ weights rules.finishes s)
        by_deed (inl it) = inl (rest (list_all is_over s.tasks) refl it.1 it.0)
        by_deed (inr falls) = inr falls

-- ---- a tick comes before the last deadline

module _ (J : Instance) (valid : IsValid J) (s : State) (keeps : Keeps J s) where
  -- each job is due by the last deadline
  pub due_by : Each (λ t. t.job.deadline ≤ last_deadline J.jobs) s.tasks
  due_by = each_job (λ j. j.deadline ≤ last_deadline J.jobs) s.tasks
      (subst (AllByRecursion (λ j. j.deadline ≤ last_deadline J.jobs)) (sym keeps.jobs) (dues_most J.jobs 0))

  -- where a job runs, the clock is before the last deadline
  running_early : Quiet s → (r : Task) → IsMember r s.tasks → r.role ≡ Running → s.clock < last_deadline J.jobs
  running_early quiet r member runs =
      let some : 1 ≤ left r = quiet.busy r member runs in
      let slack : s.clock + left r ≤ r.job.deadline =
      active_slack s keeps.sound r member (passes is_privileged r Running true runs refl) in
      let most : r.job.deadline ≤ last_deadline J.jobs = due_by r member in omega arith

  -- where a job waits or is held, so is it
  behind_early : Quiet s → (t : Task) → IsMember t s.tasks → is_ready_behind t ≡ true → s.clock < last_deadline J.jobs
  behind_early quiet t member behind = by_runner quiet.runs_or_none where
    by_runner : ((r : Task) × IsMember r s.tasks × (r.role ≡ Running)) ⊎ NoneRuns s.tasks
        → s.clock < last_deadline J.jobs
    by_runner (inl it) = running_early quiet it.0 it.1 it.2
    by_runner (inr none) = absurd (quiet.free none t member behind)

  -- a silent tick is taken before the last deadline, where some job is not over
  pub tick_early : Quiet s → list_all is_over s.tasks ≡ false → s.clock < last_deadline J.jobs
  tick_early quiet some = by_role it.0.role refl where
    it : (x : Task) × IsMember x s.tasks × (is_over x ≡ false)
    it = not_all is_over s.tasks some

    by_role : (role : Role) → it.0.role ≡ role → s.clock < last_deadline J.jobs
    by_role Coming e =
        let ahead : s.clock < it.0.job.release = quiet.ahead it.0 it.1 e in
        let job : IsJob it.0.job = (realistic J valid s keeps).each it.0 it.1 in
        let window : it.0.job.release + it.0.job.work ≤ it.0.job.deadline = (job_limits job).window in
        let most : it.0.job.deadline ≤ last_deadline J.jobs = due_by it.0 it.1 in omega arith
    by_role Fresh e = absurd (quiet.stale it.0 it.1 e)
    by_role Waiting e = behind_early quiet it.0 it.1 (passes is_ready_behind it.0 Waiting true e refl)
    by_role Held e = behind_early quiet it.0 it.1 (passes is_ready_behind it.0 Held true e refl)
    by_role Running e = running_early quiet it.0 it.1 e
    by_role over e = never (sym it.2 ∙ passes is_over it.0 over true e refl)

  -- each step but End lowers the potential
  pub step_falls : (rules : Rules) → IsReady rules.finishes s → is_end (step rules s) ≡ false
      → potential rules.finishes (last_deadline J.jobs) (after s (step rules s)) < potential rules.finishes
      (last_deadline J.jobs) s
  step_falls rules ready more = by_case (step_brings J valid s keeps rules ready more) where
    by_case : (Quiet s × (step rules s ≡ Ticks) × (list_all is_over s.tasks ≡ false))
        ⊎ (weights rules.finishes (after s (step rules s)) + 1 ≤ weights rules.finishes s)
        → potential rules.finishes (last_deadline J.jobs) (after s (step rules s)) < potential rules.finishes
        (last_deadline J.jobs) s
    by_case (inl it) = tick_falls rules.finishes (last_deadline J.jobs) s (step rules s) keeps.sound it.1 it.0
        (tick_early it.0 it.2)
    by_case (inr falls) = deed_falls rules.finishes (last_deadline J.jobs) s (step rules s) falls

-- ---- the run ends

-- none
abbrev no_steps : List Step
no_steps = []

-- a whole run of so many steps at most
abbrev pub Ends : Rules → State → ℕ → Type 0
Ends rules s most = (xs : List Step) × IsWholeRun rules s xs × (length xs ≤ most)

module _ (J : Instance) (valid : IsValid J) (rules : Rules) where
  -- a whole run has at most as many steps as the potential, and End
  pub ends : (most : ℕ) (s : State) → Keeps J s → IsReady rules.finishes s
      → potential rules.finishes (last_deadline J.jobs) s ≤ most → Ends rules s (most + 1)
  ends zero s keeps ready low = by_end (is_end (step rules s)) refl where
    by_end : (b : Bool) → is_end (step rules s) ≡ b → Ends rules s (0 + 1)
    by_end true last = (
      step_at rules s ∷ [],
      (
        refl,
        subst (λ b. MatchBool b (no_steps ≡ no_steps) (IsWholeRun rules (after s (step rules s)) []))
            (sym last) refl,
      ),
      omega arith,
    )
    by_end false more = absurd
        (let less : potential rules.finishes (last_deadline J.jobs) (after s
        (step rules s)) < potential rules.finishes (last_deadline J.jobs) s =
        step_falls J valid s keeps rules ready more in omega arith)
  ends (suc most) s keeps ready low = by_end (is_end (step rules s)) refl (ends most (after s (step rules s))) where
    by_end : (b : Bool) → is_end (step rules s) ≡ b
        → (Keeps J (after s (step rules s)) → IsReady rules.finishes (after s (step rules s))
        → potential rules.finishes (last_deadline J.jobs) (after s (step rules s)) ≤ most
        → Ends rules (after s (step rules s)) (most + 1)) → Ends rules s (suc most + 1)
    by_end true last onward = (
      step_at rules s ∷ [],
      (
        refl,
        subst (λ b. MatchBool b (no_steps ≡ no_steps) (IsWholeRun rules (after s (step rules s)) []))
            (sym last) refl,
      ),
      omega arith,
    )
    by_end false more onward =
        let less : potential rules.finishes (last_deadline J.jobs) (after s
        (step rules s)) < potential rules.finishes (last_deadline J.jobs) s =
        step_falls J valid s keeps rules ready more in
        let rest : Ends rules (after s (step rules s)) (most + 1) =
        onward (step_kept J valid s keeps rules) (step_ready J valid s keeps rules ready) (omega arith) in (
          step_at rules s ∷ rest.0,
          (
            refl,
            subst (λ b. MatchBool b (rest.0 ≡ []) (IsWholeRun rules (after s (step rules s)) rest.0))
                (sym more) rest.1,
          ),
          omega (arith, rest.2),
        )

-- ---- the opening weighs five for each job

-- a sum of the same term over the opening
pub sum_each : (k : ℕ) (f : Task → ℕ) (n : ℕ) (jobs : List JobFacts) → Each (λ t. f t ≡ k) (to_come n jobs)
    → sum_by f (to_come n jobs) ≡ k * length jobs
sum_each k f n [] all = omega arith
sum_each k f n (j ∷ jobs) all =
    omega (
      arith,
      sum_by-cons f (record { number = n; job = j; role = Coming; had = 0 }) (to_come (suc n) jobs),
      all
          (record { number = n; job = j; role = Coming; had = 0 }) (inl refl),
      sum_each k f (suc n) jobs (λ t m. all t (inr m)),
    )

-- each job weighs five at the opening
pub opening_weighs : (finishes : List Finish) (jobs : List JobFacts) → weights finishes (opening jobs) ≡ 5 * length jobs
opening_weighs finishes jobs = sum_each 5 (weight steps_scale 0 (standing finishes (to_come 0 jobs))) 0 jobs
    (λ t m. ap (λ role. weight_in steps_scale role 0 (standing finishes (to_come 0 jobs)) t) (come_coming 0 jobs t m).0)

-- the fuel of `run` is enough
pub run_ends : (J : Instance) → IsValid J → Ends J.rules (opening J.jobs) (enough J.jobs)
run_ends J valid =
    let it : Ends J.rules (opening J.jobs) (last_deadline J.jobs + 5 * length J.jobs + 1) =
    ends J valid J.rules (last_deadline J.jobs + 5 * length J.jobs) (opening J.jobs) (opening_keeps J)
    (opening_ready J.rules.finishes J.jobs) (omega (arith, opening_weighs J.rules.finishes J.jobs)) in
    (it.0, it.1, omega (arith, it.2))

-- `run` is the whole run
pub run_is_whole : (J : Instance) → IsValid J → IsWholeRun J.rules (opening J.jobs) (run J)
run_is_whole J valid =
    let it : Ends J.rules (opening J.jobs) (enough J.jobs) = run_ends J valid in
    subst (IsWholeRun J.rules (opening J.jobs))
    (sym (enough_fuel J.rules (enough J.jobs) (opening J.jobs) it.0 it.1 it.2)) it.1

-- ---- the last step is End, and then all jobs are over

-- at End all jobs are over
pub end_over : (J : Instance) → IsValid J → (s : State) → Keeps J s → (rules : Rules) → is_end (step rules s) ≡ true
    → (step rules s ≡ Prints (End (value_sum (filter is_done s.tasks)))) × Each (λ t. is_over t ≡ true) s.tasks
end_over J valid s keeps rules last =
    by_all (list_all is_over s.tasks) refl
    (end_rests rules.ratio s (ending s or_else Ticks) (step rules s) (step_deed J valid s keeps rules) last) where
      by_all : (b : Bool) → list_all is_over s.tasks ≡ b
          → step rules s ≡ (then_some b (Prints (End (value_sum (filter is_done s.tasks)))) or_else Ticks)
          → (step rules s ≡ Prints (End (value_sum (filter is_done s.tasks)))) × Each (λ t. is_over t ≡ true) s.tasks
      by_all true all same = (same, all_each is_over s.tasks all)
      by_all false some same = never (sym (ap is_end same) ∙ last)

-- the last step of a whole run is End
pub whole_end : (J : Instance) → IsValid J → (rules : Rules) (xs : List Step) (s : State) → Keeps J s
    → IsWholeRun rules s xs → EndsOver rules xs
whole_end J valid rules [] s keeps whole = absurd whole
whole_end J valid rules (x ∷ xs) s keeps whole =
    by_end (is_end (step rules s)) refl whole.1
    (whole_end J valid rules xs (after s (step rules s)) (step_kept J valid s keeps rules)) where
      by_end : (b : Bool) → is_end (step rules s) ≡ b
          → MatchBool b (xs ≡ []) (IsWholeRun rules (after s (step rules s)) xs)
          → (IsWholeRun rules (after s (step rules s)) xs → EndsOver rules xs) → EndsOver rules (x ∷ xs)
      by_end true last none more = record {
        front = [];
        last = s;
        steps = let here : x ≡ step_at rules s = whole.0 in let e : xs ≡ [] = none in cc;
        ends = (end_over J valid s keeps rules last).0;
        over = (end_over J valid s keeps rules last).1;
      }
      by_end false on rest more = let it : EndsOver rules xs = more rest in
          record {
            front = x ∷ it.front;
            last = it.last;
            steps = ap (λ ys. x ∷ ys) it.steps;
            ends = it.ends;
            over =
                it.over;
          }

-- every run ends in End, with all jobs done or gone
pub run_over : (J : Instance) → IsValid J → EndsOver J.rules (run J)
run_over J valid = whole_end J valid J.rules (run J) (opening J.jobs) (opening_keeps J) (run_is_whole J valid)

-- ---- how many steps are printed

-- a step prints one event at most
one_printed : (e : Option Event) (more : List Event) → length (cons_option e more) ≤ length more + 1
one_printed None more = omega arith
one_printed (Some e) more = omega arith

-- a whole run prints as much as the weights, and End, at most
pub printed_count : (J : Instance) → IsValid J → (rules : Rules) (xs : List Step) (s : State) → Keeps J s
    → IsReady rules.finishes s → IsWholeRun rules s xs
    → length (printed_of xs) ≤ weights rules.finishes s + 1
printed_count J valid rules [] s keeps ready whole = absurd whole
printed_count J valid rules (x ∷ xs) s keeps ready whole =
    subst (λ (y : Step). length (cons_option (event_of y.move) (printed_of xs)) ≤ weights rules.finishes s + 1)
    (sym whole.0)
    (by_end (is_end (step rules s)) refl whole.1
    (printed_count J valid rules xs (after s (step rules s)) (step_kept J valid s keeps rules)
    (step_ready J valid s keeps rules ready))) where
      by_end : (b : Bool) → is_end (step rules s) ≡ b
          → MatchBool b (xs ≡ []) (IsWholeRun rules (after s (step rules s)) xs)
          → (IsWholeRun rules (after s (step rules s)) xs
          → length (printed_of xs) ≤ weights rules.finishes (after s (step rules s)) + 1)
          → length (cons_option (event_of (step rules s)) (printed_of xs)) ≤ weights rules.finishes s + 1
      by_end true last none more =
          let empty : length (printed_of xs) ≡ 0 = ap (λ ys. length (printed_of ys)) none in
          omega (arith, one_printed (event_of (step rules s)) (printed_of xs))
      by_end false on rest more = by_case (step_brings J valid s keeps rules ready on) where
        by_case : (Quiet s × (step rules s ≡ Ticks) × (list_all is_over s.tasks ≡ false))
            ⊎ (weights rules.finishes (after s (step rules s)) + 1 ≤ weights rules.finishes s)
            → length (cons_option (event_of (step rules s)) (printed_of xs)) ≤ weights rules.finishes s + 1
        by_case (inl it) =
            let still : weights rules.finishes (after s (step rules s)) ≤ weights rules.finishes s =
            subst (λ m. weights rules.finishes (after s m) ≤ weights rules.finishes s) (sym it.1)
            (tick_weighs rules.finishes steps_scale s keeps.sound it.0) in
            subst (λ m. length (cons_option (event_of m) (printed_of xs)) ≤ weights rules.finishes s + 1) (sym it.1)
            (omega (arith, more rest))
        by_case (inr falls) = omega (arith, one_printed (event_of (step rules s)) (printed_of xs), more rest, falls)

-- at most five steps for each job are printed, and End
pub few_printed : (J : Instance) → IsValid J → length (printed J) ≤ 5 * length J.jobs + 1
few_printed J valid = omega (
  arith,
  printed_count J valid J.rules (run J) (opening J.jobs) (opening_keeps J)
      (opening_ready J.rules.finishes J.jobs) (run_is_whole J valid),
  opening_weighs J.rules.finishes J.jobs,
)
