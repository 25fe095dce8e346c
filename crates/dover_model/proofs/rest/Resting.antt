-- A run falls apart at a moment of rest.
use Rattle.std.proofs.Common.{◌≡◌, ℕ, zero, suc, length-append, ◌+◌, ◌-◌, ◌*◌, ◌≤◌, ◌<◌, inl, inr, List, [], ◌∷◌, ◌++◌}
use Rattle.std.proofs.Common.{length, map, refl, sym, ap, ◌∙◌, subst, append-nil, Bool, true, false, cond, arith}
use Rattle.std.specs.Prelude.{◌&&◌, nat_le, Option, Some, nat_lt, ◌==◌, None}
use Rattle.std.specs.Bool.{MatchBool, then_some}
use Rattle.std.specs.List.{list_all, filter, fold, cons_option, find}
use Rattle.std.proofs.lemmas.Bool.{lt-leb, and_right, ne_eqb}
use Rattle.dover_model.specs.Common.{JobFacts, IsJob, Event, End, Coming, Fresh, Waiting, Running, Task, Rules}
use Rattle.dover_model.specs.Common.{Instance, IsValid, having, State, with_later, opening, to_come, is_over, is_done}
use Rattle.dover_model.specs.Common.{is_ready_behind, is_running, is_fresh, is_waiting, value_sum, running, Prints}
use Rattle.dover_model.specs.Common.{Ticks, step, open_step, after, ending, ◌or_else◌, ticked, due_finish, finish_or}
use Rattle.dover_model.specs.Common.{declared_step, Step, is_end, event_of, printed_of, printed, run, last_deadline}
use Rattle.dover_model.specs.Common.{enough, completed_value, waits_for_mark, settled, settled_steps, settled_state}
use Rattle.dover_model.specs.Common.{AllComeFrom, open_at, step_at, IsWholeRun, IsBarrier, IsBefore, IsSettledRun}
use Rattle.dover_model.specs.Common.{IsOpenPath, IsPath, HasPrinted, ticked_by, later_by, NothingDue, IsMember, Each}
use Rattle.dover_model.specs.Common.{Keeps, NoneBefore, IsAtRest, behind, AreOwn, behind_finish, instead_with}
use Rattle.dover_model.specs.Common.{followed_by, weight, weight_in, standing, end_state, observing, observed, Finish}
use Rattle.dover_model.specs.Common.{is_finish_of}
use Rattle.dover_model.proofs.lists.Members.{all_member, found, map_map}
use Rattle.dover_model.proofs.steps.Roles.{passes}
use Rattle.dover_model.proofs.steps.Deeds.{over_rests}
use Rattle.dover_model.proofs.steps.Kept.{open_deed, open_kept, step_kept, step_deed, opening_keeps, come_coming}
use Rattle.dover_model.proofs.steps.Jumping.{later_keeps, later_ticks}
use Rattle.dover_model.proofs.runs.Potential.{steps_scale, weights}
use Rattle.dover_model.proofs.runs.Ending.{potential, ends, sum_each}
use Rattle.dover_model.proofs.finishes.Readiness.{opening_ready}
use Rattle.dover_model.proofs.runs.RunLaws.{enough_fuel, tasks_in, tasks_append, tasks_from}
use Rattle.std.proofs.lemmas.List.{map-append}
use Rattle.dover_model.proofs.settled.Settling.{late_early, settles, settled_is_run}
use Rattle.dover_model.proofs.settled.Barriers.{AtBarrier, settled_at_barrier, state_after}
use Rattle.dover_model.proofs.settled.Later.{same_step, find_front, role_passes}
use Rattle.dover_model.proofs.settled.Prefixes.{same_after, step_open, open_goes_on, come_from, come_append}
use Rattle.dover_model.proofs.runs.Runs.{printed_append, last_value, value_last}
use Rattle.dover_model.proofs.runs.Honest.{numbers_low, count_jobs}
use Rattle.dover_model.proofs.settled.Paths.{path_append, path_settles, one_settled_run, printed_then_run}
use Rattle.dover_model.proofs.settled.Paths.{closed_then_run, tasks_then_run}
use Rattle.dover_model.proofs.rest.Shifting.{shifted, beside, came_to, whole_beside}
use Rattle.dover_model.proofs.finishes.Finishing.{none_without}
use Rattle.std.specs.Option.{option_or}
use Rattle.std.proofs.lemmas.List.Folds.{find-append}
use Rattle.dover_model.proofs.lists.Tests.{never}
use Rattle.dover_model.proofs.valid.Dues.{last_first, last_more}
use Rattle.dover_model.proofs.valid.ValidParts.{valid_parts}
use Rattle.dover_model.proofs.valid.JobLimits.{job_limits}
use Rattle.dover_model.specs.Common.{state_at}
use Rattle.dover_model.proofs.steps.Pressing.{over_calm}

-- the jobs to come, at a tick
abbrev pub at_tick : ℕ → List JobFacts → State
at_tick m jobs = record { clock = m; pressed = false; tasks = to_come 0 jobs }

-- the jobs as the steps of a whole run observed them
abbrev pub seen_in : List Step → List JobFacts
seen_in zs = map observing (tasks_in zs)

-- from the tick on, with all these jobs to come, a whole run prints these events, and observed the jobs so
abbrev pub RunsFrom : Rules → ℕ → List JobFacts → List Event → List JobFacts → Type 0
RunsFrom rules m jobs events seen = (zs : List Step) × IsWholeRun rules (at_tick m jobs) zs
    × (length zs ≤ (last_deadline jobs - m) + 6 * length jobs + 1) × (printed_of zs ≡ events) × (seen_in zs ≡ seen)

-- ---- jobs to come

-- under greater numbers
pub come_shift : (n m : ℕ) (jobs : List JobFacts) → to_come (n + m) jobs ≡ map (shifted n) (to_come m jobs)
come_shift n m [] = refl
come_shift n m (j ∷ jobs) = ap (λ ts. record { number = n + m; job = j; role = Coming; had = 0 } ∷ ts)
    (ap (λ k. to_come k jobs) (omega arith) ∙ come_shift n (suc m) jobs)

-- no number is below the first
pub come_above : (n : ℕ) (jobs : List JobFacts) → Each (λ t. n ≤ t.number) (to_come n jobs)
come_above n [] t member = absurd member
come_above n (j ∷ jobs) t (inl e) = let here : t.number ≡ n = ap (λ (y : Task). y.number) e in omega arith
come_above n (j ∷ jobs) t (inr member) = let later : suc n ≤ t.number = come_above (suc n) jobs t member in omega arith

-- every number is below the count of the jobs
pub numbers_below : (J : Instance) (s : State) → Keeps J s → Each (λ t. t.number < length J.jobs) s.tasks
numbers_below J s keeps t member =
    omega (arith, numbers_low 0 s.tasks keeps.sound.numbered t member, count_jobs s.tasks, ap length keeps.jobs)

-- so those behind have others
pub numbers_apart : (J : Instance) (s : State) → Keeps J s → (more : List JobFacts) (t u : Task) → IsMember t s.tasks
    → IsMember u (to_come (length J.jobs) more) → u.number ≡ t.number → ⊥
numbers_apart J s keeps more t u mt mu same =
    let low : t.number < length J.jobs = numbers_below J s keeps t mt in
    let high : length J.jobs ≤ u.number = come_above (length J.jobs) more u mu in omega arith

-- ---- ticks before the first release

module _ (J : Instance) (valid : IsValid J) (m : ℕ) (late : NoneBefore m J.jobs) where
  -- a job to come has no other role
  come_not : (t : Task) → IsMember t (to_come 0 J.jobs) → t.role ≡ Coming
  come_not t member = (come_coming 0 J.jobs t member).0

  -- nothing is due before m
  nothing_due : NothingDue m (opening J.jobs)
  nothing_due = record {
    none_fresh = λ t member fresh. never
        (sym (passes is_fresh t Coming false (come_not t member) refl) ∙ passes is_fresh t Fresh true fresh refl);
    running = λ t member runs. never
        (sym (passes is_running t Coming false (come_not t member) refl) ∙ passes is_running t Running true runs refl);
    waiting = λ t member waits. never
        (sym (passes is_waiting t Coming false (come_not t member) refl) ∙ passes is_waiting t Waiting true waits refl);
    coming = λ t member comes. let at : m ≤ t.job.release = (come_from m 0 J.jobs late).1 t member in omega arith;
    busy = λ none t member behind. never
        (sym (passes is_ready_behind t Coming false (come_not t member) refl) ∙ behind);
  }

  -- ticks leave the jobs to come as they are
  come_ticked : (i n : ℕ) (jobs : List JobFacts) → map (ticked_by i) (to_come n jobs) ≡ to_come n jobs
  come_ticked i n [] = refl
  come_ticked i n (j ∷ jobs) =
      ap (λ ts. record { number = n; job = j; role = Coming; had = 0 } ∷ ts) (come_ticked i (suc n) jobs)

  -- so does one
  come_tick : (n : ℕ) (jobs : List JobFacts) → map ticked (to_come n jobs) ≡ to_come n jobs
  come_tick n [] = refl
  come_tick n (j ∷ jobs) =
      ap (λ ts. record { number = n; job = j; role = Coming; had = 0 } ∷ ts) (come_tick (suc n) jobs)

  -- the opening after i ticks
  later_opening : (i : ℕ) → later_by i (opening J.jobs) ≡ at_tick i J.jobs
  later_opening i = ap (λ tasks. state_at (0 + i) tasks) (come_ticked i 0 J.jobs)
      ∙ ap (λ clock. at_tick clock J.jobs) (omega arith)

  -- it is sound
  pub tick_keeps : (i : ℕ) → i ≤ m → Keeps J (at_tick i J.jobs)
  tick_keeps i low = subst (Keeps J) (later_opening i)
      (later_keeps J valid (opening J.jobs) (opening_keeps J) m nothing_due i low)

  -- no job to come runs
  none_run : (n : ℕ) (jobs : List JobFacts) → find is_running (to_come n jobs) ≡ None
  none_run n [] = refl
  none_run n (j ∷ jobs) = none_run (suc n) jobs

  -- so no finish is due
  none_due_yet : (i : ℕ) → due_finish J.rules.finishes (later_by i (opening J.jobs)) ≡ None
  none_due_yet i = ap (λ o. find (is_finish_of o) J.rules.finishes)
      (ap (find is_running) (come_ticked i 0 J.jobs) ∙ none_run 0 J.jobs) ∙ none_without J.rules.finishes

  -- its step is a silent tick
  tick_ticks : (i : ℕ) → i < m → open_step J.rules (at_tick i J.jobs) ≡ Ticks
  tick_ticks i low = subst (λ s. open_step J.rules s ≡ Ticks) (later_opening i)
      (later_ticks J valid (opening J.jobs) (opening_keeps J) m nothing_due i low (none_due_yet i))

  -- silent ticks lead on to m
  pub ticks_path : (mark : ℕ) → m ≤ mark → (k i : ℕ) → i + k ≡ m
      → (xs : List Step) × IsOpenPath J.rules mark (at_tick i J.jobs) xs (at_tick m J.jobs) × (printed_of xs ≡ [])
      × (length xs ≡ k)
  ticks_path mark low zero i here = ([], ap (λ clock. at_tick clock J.jobs) (omega (arith, here)), refl, refl)
  ticks_path mark low (suc k) i here =
      let ticks : open_step J.rules (at_tick i J.jobs) ≡ Ticks = tick_ticks i (omega (arith, here)) in
      let next : after (at_tick i J.jobs) (open_step J.rules (at_tick i J.jobs)) ≡ at_tick (i + 1) J.jobs =
      ap (after (at_tick i J.jobs)) ticks
      ∙ ap (λ tasks. state_at (i + 1) tasks) (come_tick 0 J.jobs) in
      let rest = ticks_path mark low k (i + 1) (omega (arith, here)) in (
        open_at J.rules (at_tick i J.jobs) ∷ rest.0,
        (
          refl,
          ap (λ x. waits_for_mark x && nat_le mark i) ticks ∙ lt-leb _ _ (omega (arith, here)),
          subst (λ s. IsOpenPath J.rules mark s rest.0 (at_tick m J.jobs)) (sym next) rest.1,
        ),
        ap (λ x. cons_option (event_of x) (printed_of rest.0)) ticks ∙ rest.2,
        omega (arith, rest.3),
      )

  -- what is printed by m: nothing
  pub printed_none : HasPrinted J m (at_tick m J.jobs) []
  printed_none = let it = ticks_path m (omega arith) m 0 (omega arith) in
      record { steps = it.0; path = it.1; prints = it.2 }

  -- all jobs weigh five, at each tick
  come_weighs : weights J.rules.finishes (at_tick m J.jobs) ≡ 5 * length J.jobs
  come_weighs = sum_each 5 (weight steps_scale m (standing J.rules.finishes (to_come 0 J.jobs))) 0 J.jobs
      (λ t member. ap (λ role. weight_in steps_scale role m (standing J.rules.finishes (to_come 0 J.jobs)) t)
      (come_not t member))

  -- a valid instance by itself
  pub alone : RunsFrom J.rules m J.jobs (printed J) (observed J).jobs
  alone =
      let it = ends J valid J.rules (potential J.rules.finishes (last_deadline J.jobs) (at_tick m J.jobs))
      (at_tick m J.jobs)
      (tick_keeps m (omega arith)) (opening_ready J.rules.finishes J.jobs) (omega arith) in (
        it.0,
        it.1,
        omega (arith, it.2, come_weighs),
        sym (printed_then_run J m (at_tick m J.jobs) [] it.0 valid printed_none it.1),
        ap (map observing) (sym (tasks_then_run J m (at_tick m J.jobs) [] it.0 valid printed_none it.1)),
      )

  -- the open steps from m on, up to the barrier of a later mark
  pub settles_from : (mark : ℕ) → m ≤ mark
      → (xs : List Step) × IsSettledRun J.rules mark (at_tick m J.jobs) xs
      × (length xs ≤ (mark - m) + 5 * length J.jobs)
  settles_from mark low =
      let it = settles J valid J.rules mark (potential J.rules.finishes mark (at_tick m J.jobs)) (at_tick m J.jobs)
      (tick_keeps m (omega arith)) (opening_ready J.rules.finishes J.jobs) (omega arith) in
      (it.0, it.1, omega (arith, it.2, come_weighs))

-- ---- a settled run is a path to its barrier

-- the end of a path
pub path_state : (rules : Rules) (mark : ℕ) (xs : List Step) (s t : State) → IsOpenPath rules mark s xs t
    → state_after s xs ≡ t
path_state rules mark [] s t here = sym here
path_state rules mark (x ∷ xs) s t path = ap (λ (y : Step). state_after (after y.before y.move) xs) path.0
    ∙ path_state rules mark xs (after s (open_step rules s)) t path.2

-- the path
pub settled_path : (rules : Rules) (mark : ℕ) (xs : List Step) (s : State) → IsSettledRun rules mark s xs
    → (t : State) × IsOpenPath rules mark s xs t × IsBarrier rules mark t
settled_path rules mark [] s run = (s, refl, run)
settled_path rules mark (x ∷ xs) s run = let it = settled_path rules mark xs (after s (open_step rules s)) run.2 in
    (it.0, (run.0, run.1, it.1), it.2)

-- ---- with jobs to come behind, the closed steps are the open ones

-- not all are over
not_over : (tasks : List Task) (k : Task) (more : List Task) → is_over k ≡ false
    → list_all is_over (tasks ++ (k ∷ more)) ≡ false
not_over [] k more out = ap (λ b. b && list_all is_over more) out
not_over (t ∷ tasks) k more out =
    ap (λ b. is_over t && b) (not_over tasks k more out) ∙ and_right (is_over t) false refl

-- ---- finishes of other jobs

-- of jobs behind those of an instance
abbrev pub behind_rules : Instance → List Finish → Rules
behind_rules J fs = having J.rules (J.rules.finishes ++ map (behind_finish (length J.jobs)) fs)

-- none of them comes to a job before
foreign_none : (n : ℕ) (fs : List Finish) (t : Task) → t.number < n
    → find (is_finish_of (Some t)) (map (behind_finish n) fs) ≡ None
foreign_none n [] t low = refl
foreign_none n (f ∷ fs) t low =
    ap (λ b. cond ((b && (f.had == t.had)) && nat_lt 0 t.had) (Some (behind_finish n f))
    (find (is_finish_of (Some t)) (map (behind_finish n) fs))) (ne_eqb (n + f.number) t.number (λ same. omega arith))
    ∙ foreign_none n fs t low

-- so they change no step of such jobs
foreign_same : (J : Instance) (s : State) → Keeps J s → (fs : List Finish)
    → find (is_finish_of (running s)) (J.rules.finishes ++ map (behind_finish (length J.jobs)) fs)
    ≡ due_finish J.rules.finishes s
foreign_same J s keeps fs = find-append (is_finish_of (running s)) J.rules.finishes (map (behind_finish
    (length J.jobs)) fs)
    ∙ ap (option_or (due_finish J.rules.finishes s)) (by_running (running s) refl)
    ∙ or_none (due_finish J.rules.finishes s) where
      by_running : (o : Option Task) → running s ≡ o
          → find (is_finish_of o) (map (behind_finish (length J.jobs)) fs) ≡ None
      by_running None e = none_without (map (behind_finish (length J.jobs)) fs)
      by_running (Some r) e = foreign_none (length J.jobs) fs r
          (numbers_below J s keeps r (found is_running s.tasks r e).0)

      or_none : (o : Option Finish) → option_or o None ≡ o
      or_none None = refl
      or_none (Some f) = refl

-- with others behind
pub foreign_due : (J : Instance) (s : State) → Keeps J s → (fs : List Finish) (ks : List Task)
    → Each (λ t. t.role ≡ Coming) ks
    → due_finish (behind_rules J fs).finishes (with_later s ks) ≡ due_finish J.rules.finishes (with_later s ks)
foreign_due J s keeps fs ks come =
    let same : running (with_later s ks) ≡ running s =
    find_front is_running s.tasks ks (role_passes is_running (λ _. refl) ks come) in
    ap (λ o. find (is_finish_of o) (behind_rules J fs).finishes) same
    ∙ foreign_same J s keeps fs
    ∙ ap (λ o. find (is_finish_of o) J.rules.finishes) (sym same)

-- a whole run is one with them
foreign_run : (J : Instance) → IsValid J → (fs : List Finish) (zs : List Step) (s : State) → Keeps J s
    → IsWholeRun J.rules s zs → IsWholeRun (behind_rules J fs) s zs
foreign_run J valid fs [] s keeps whole = whole
foreign_run J valid fs (z ∷ zs) s keeps whole = (
  whole.0 ∙ ap (λ m. let y : Step = record { before = s; move = m } in y) (sym same),
  subst (λ m. MatchBool (is_end m) (zs ≡ []) (IsWholeRun (behind_rules J fs) (after s m) zs)) (sym same)
      (by_end (is_end (step J.rules s)) whole.1
      (foreign_run J valid fs zs (after s (step J.rules s)) (step_kept J valid s keeps J.rules))),
) where
  same : step (behind_rules J fs) s ≡ step J.rules s
  same = ap (λ o. finish_or s.clock o (declared_step J.rules s)) (foreign_same J s keeps fs)

  by_end : (b : Bool) → MatchBool b (zs ≡ []) (IsWholeRun J.rules (after s (step J.rules s)) zs)
      → (IsWholeRun J.rules (after s (step J.rules s)) zs
      → IsWholeRun (behind_rules J fs) (after s (step J.rules s)) zs)
      → MatchBool b (zs ≡ []) (IsWholeRun (behind_rules J fs) (after s (step J.rules s)) zs)
  by_end true none more = none
  by_end false rest more = more rest

module _ (J : Instance) (valid : IsValid J) (mark : ℕ) (j : JobFacts) (js : List JobFacts)
    (late : NoneBefore mark (j ∷ js)) (fs : List Finish) where
  -- the jobs behind
  abbrev ks : List Task
  ks = to_come (length J.jobs) (j ∷ js)

  -- they come at the mark or later
  come : AllComeFrom mark ks
  come = come_from mark (length J.jobs) (j ∷ js) late

  -- one step
  step_behind : (s : State) → Keeps J s → IsBefore J.rules mark s
      → step (behind_rules J fs) (with_later s ks) ≡ open_step J.rules s
  step_behind s keeps before =
      ap (λ o. finish_or s.clock o (declared_step J.rules (with_later s ks)))
      (foreign_due J s keeps fs ks come.0)
      ∙ step_open J.rules (with_later s ks) (not_over s.tasks _ _ refl)
      ∙ same_step J.rules s ks mark come.0 come.1
      (late_early (waits_for_mark (open_step J.rules s)) mark s.clock before)

  -- all steps of a path
  pub path_behind : (xs : List Step) (s t : State) → Keeps J s → IsOpenPath J.rules mark s xs t
      → (ys : List Step) × IsPath (behind_rules J fs) (with_later s ks) ys (with_later t ks) × (length ys ≡ length xs)
      × (printed_of ys ≡ printed_of xs)
  path_behind [] s t keeps here = ([], ap (λ z. with_later z ks) here, refl, refl)
  path_behind (x ∷ xs) s t keeps path =
      let same : step (behind_rules J fs) (with_later s ks) ≡ open_step J.rules s = step_behind s keeps path.1 in
      let next : after (with_later s ks) (step (behind_rules J fs) (with_later s ks)) ≡ with_later
      (after s (open_step J.rules s)) ks =
      ap (after (with_later s ks)) same
      ∙ same_after J.rules.ratio s ks come.0 (numbers_apart J s keeps (j ∷ js)) (open_step J.rules s)
      (open_deed J valid s keeps J.rules) in
      let rest = path_behind xs (after s (open_step J.rules s)) t (open_kept J valid s keeps J.rules) path.2 in (
        step_at (behind_rules J fs) (with_later s ks) ∷ rest.0,
        (
          refl,
          ap is_end same ∙ open_goes_on J valid J.rules s keeps,
          subst (λ z. IsPath (behind_rules J fs) z rest.0 (with_later t ks)) (sym next) rest.1,
        ),
        omega (arith, rest.2),
        ap (λ m. cons_option (event_of m) (printed_of rest.0)) same
            ∙ ap (λ es. cons_option (event_of (open_step J.rules s)) es) rest.3
            ∙ sym (ap (λ (z : Step). cons_option (event_of z.move) (printed_of xs)) path.0),
      )

-- ---- at rest

-- what stands at a moment of rest
pub record Rests (J : Instance) (m0 m : ℕ) : Type 0 where
  pub last : State
  pub keeps : Keeps J last
  pub clock : last.clock ≡ m
  pub over : Each (λ t. is_over t ≡ true) last.tasks
  pub is : last ≡ settled_state J m
  pub steps : List Step
  pub path : IsOpenPath J.rules m (at_tick m0 J.jobs) steps last
  pub few : length steps ≤ (m - m0) + 5 * length J.jobs
  pub prints : printed_of steps ≡ settled J m
  pub barrier : IsBarrier J.rules m last

module _ (J : Instance) (valid : IsValid J) (m0 m : ℕ) (late0 : NoneBefore m0 J.jobs) (later : m0 ≤ m) where
  -- where the steps from m0 on come to rest
  pub at_rest : IsAtRest J m → Rests J m0 m
  at_rest rest = record {
    last = path.0;
    keeps = subst (Keeps J) (sym is_last) barrier.keeps;
    clock = ap (λ (z : State). z.clock) is_last ∙ barrier.clock;
    over = subst (λ (z : State). Each (λ t. is_over t ≡ true) z.tasks) (sym is_last) rest;
    is = is_last;
    steps = on.0;
    path = path.1;
    few = on.2;
    prints = sym (ap printed_of all ∙ printed_append ticks.0 on.0 ∙ ap (λ es. es ++ printed_of on.0) ticks.2);
    barrier = path.2;
  } where
    ticks : (xs : List Step) × IsOpenPath J.rules m (at_tick 0 J.jobs) xs (at_tick m0 J.jobs) × (printed_of xs ≡ [])
        × (length xs ≡ m0)
    ticks = ticks_path J valid m0 late0 m later m0 0 (omega arith)

    on : (xs : List Step) × IsSettledRun J.rules m (at_tick m0 J.jobs) xs × (length xs ≤ (m - m0) + 5 * length J.jobs)
    on = settles_from J valid m0 late0 m later

    path : (t : State) × IsOpenPath J.rules m (at_tick m0 J.jobs) on.0 t × IsBarrier J.rules m t
    path = settled_path J.rules m on.0 (at_tick m0 J.jobs) on.1

    whole : IsOpenPath J.rules m (opening J.jobs) (ticks.0 ++ on.0) path.0
    whole = path_append J.rules m ticks.0 on.0 (opening J.jobs) (at_tick m0 J.jobs) path.0 ticks.1 path.1

    all : settled_steps J m ≡ ticks.0 ++ on.0
    all = one_settled_run J.rules m (settled_steps J m) (ticks.0 ++ on.0) (opening J.jobs) (settled_is_run J m valid)
        (path_settles J.rules m (ticks.0 ++ on.0) (opening J.jobs) path.0 whole path.2)

    is_last : path.0 ≡ settled_state J m
    is_last = sym (ap (state_after (opening J.jobs)) all
        ∙ path_state J.rules m (ticks.0 ++ on.0) (opening J.jobs) path.0 whole)

    barrier : AtBarrier J m (settled_state J m)
    barrier = settled_at_barrier J valid m

-- where all jobs are over, the step is End
pub end_step : (J : Instance) → IsValid J → (s : State) → Keeps J s → Each (λ t. is_over t ≡ true) s.tasks
    → step J.rules s ≡ Prints (End (value_sum (filter is_done s.tasks)))
end_step J valid s keeps over =
    over_rests J.rules.ratio s (ending s or_else Ticks) over (step J.rules s) (step_deed J valid s keeps J.rules)
    ∙ ap (λ b. then_some b (Prints (End (value_sum (filter is_done s.tasks)))) or_else Ticks)
    (all_over s.tasks over) where
      all_over : (tasks : List Task) → Each (λ t. is_over t ≡ true) tasks → list_all is_over tasks ≡ true
      all_over [] each = refl
      all_over (t ∷ tasks) each = ap (λ b. b && list_all is_over tasks) (each t (inl refl))
          ∙ all_over tasks (λ u m. each u (inr m))

module _ (J : Instance) (valid : IsValid J) (m : ℕ) (rest : IsAtRest J m) where
  -- no job is released before tick 0
  none_before : NoneBefore 0 J.jobs
  none_before j member = omega arith

  -- the moment of rest
  there : Rests J 0 m
  there = at_rest J valid 0 m none_before (omega arith) rest

  -- what is done by then
  abbrev worth_there : ℕ
  worth_there = value_sum (filter is_done (settled_state J m).tasks)

  -- End comes next
  end : step J.rules there.last ≡ Prints (End (value_sum (filter is_done there.last.tasks)))
  end = end_step J valid there.last there.keeps there.over

  -- what has been printed
  by_then : HasPrinted J m there.last (settled J m)
  by_then = record { steps = there.steps; path = there.path; prints = there.prints }

  -- the step of End is all that is left
  only_end : IsWholeRun J.rules there.last (step_at J.rules there.last ∷ [])
  only_end = (
    refl,
    subst (λ x. MatchBool (is_end x) (no_steps ≡ []) (IsWholeRun J.rules (after there.last x) no_steps)) (sym end) refl,
  ) where
    no_steps : List Step
    no_steps = []

  printed_with_end : printed J ≡ settled J m ++ (End worth_there ∷ [])
  printed_with_end =
      printed_then_run J m there.last (settled J m) (step_at J.rules there.last ∷ []) valid by_then only_end
      ∙ ap (λ x. settled J m ++ cons_option (event_of x) []) end
      ∙ ap (λ (z : State). settled J m ++ (End (value_sum (filter is_done z.tasks)) ∷ [])) there.is

  -- the run ends with the tasks as they are then
  pub tasks_there : (end_state J).tasks ≡ (settled_state J m).tasks
  tasks_there = tasks_then_run J m there.last (settled J m) (step_at J.rules there.last ∷ []) valid by_then only_end
      ∙ ap (λ (z : State). z.tasks) there.is

  -- it names the value of the run
  pub value_there : completed_value J ≡ worth_there
  value_there = ap (last_value 0) printed_with_end ∙ value_last 0 worth_there (settled J m)

  -- at rest, all is settled but End
  pub printed_at_rest : printed J ≡ settled J m ++ (End (completed_value J) ∷ [])
  printed_at_rest = printed_with_end ∙ ap (λ v. settled J m ++ (End v ∷ [])) (sym value_there)

-- ---- the jobs behind

module _ (J : Instance) (valid : IsValid J) (m0 m : ℕ) (late0 : NoneBefore m0 J.jobs) (later : m0 ≤ m)
    (rest : IsAtRest J m) (fs : List Finish) (own : AreOwn J) where
  -- the rules of the run alone, and of both
  abbrev rules1 : Rules
  rules1 = having J.rules fs

  -- of both
  abbrev rules2 : Rules
  rules2 = behind_rules J fs

  -- none behind
  joined_none : (events : List Event) (seen : List JobFacts) → RunsFrom rules1 m [] events seen
      → RunsFrom rules2 m0 (J.jobs ++ []) (settled J m ++ map (behind (length J.jobs) (completed_value J)) events)
      ((observed J).jobs ++ seen)
  joined_none events seen it = subst
      (λ jobs. RunsFrom rules2 m0 jobs (settled J m ++ map (behind (length J.jobs) (completed_value J)) events)
      ((observed J).jobs ++ seen))
      (sym (append-nil J.jobs)) alone_too where
        none_seen : (zs : List Step) → IsWholeRun rules1 (at_tick m []) zs → seen_in zs ≡ []
        none_seen [] whole = absurd whole
        none_seen (z ∷ zs) whole =
            let ends : step rules1 (at_tick m []) ≡ Prints (End 0) =
            ap (λ o. finish_or m o (Prints (End 0))) (none_without fs) in
            ap (λ ys. seen_in (z ∷ ys)) (subst (λ x. MatchBool (is_end x) (zs ≡ [])
            (IsWholeRun rules1 (after (at_tick m []) x) zs)) ends whole.1)
            ∙ ap (λ (y : Step). map observing y.before.tasks) whole.0

        only_end : (zs : List Step) → IsWholeRun rules1 (at_tick m []) zs → printed_of zs ≡ End 0 ∷ []
        only_end [] whole = absurd whole
        only_end (z ∷ zs) whole =
            let ends : step rules1 (at_tick m []) ≡ Prints (End 0) =
            ap (λ o. finish_or m o (Prints (End 0))) (none_without fs) in
            ap (λ (y : Step). cons_option (event_of y.move) (printed_of zs)) whole.0
            ∙ ap (λ x. cons_option (event_of x) (printed_of zs)) ends
            ∙ ap (λ ys. End 0 ∷ printed_of ys) (subst (λ x. MatchBool (is_end x) (zs ≡ [])
            (IsWholeRun rules1 (after (at_tick m []) x) zs)) ends whole.1)

        ends_too : settled J m ++ (End (completed_value J) ∷ []) ≡ settled J m ++ map
            (behind (length J.jobs) (completed_value J)) events
        ends_too = ap (λ v. settled J m ++ (End v ∷ [])) (omega arith)
            ∙ ap (λ es. settled J m ++ map (behind (length J.jobs) (completed_value J)) es)
            (sym (only_end it.0 it.1) ∙ it.3)

        alone_too : RunsFrom rules2 m0 J.jobs (settled J m ++ map (behind (length J.jobs) (completed_value J)) events)
            ((observed J).jobs ++ seen)
        alone_too = let a = alone J valid m0 late0 in (
          a.0,
          foreign_run J valid fs a.0 (at_tick m0 J.jobs) (tick_keeps J valid m0 late0 m0 (omega arith)) a.1,
          a.2,
          a.3 ∙ printed_at_rest J valid m rest ∙ ends_too,
          a.4 ∙ sym (append-nil (observed J).jobs)
              ∙ ap (λ js. (observed J).jobs ++ js) (sym (none_seen it.0 it.1) ∙ it.4),
        )

  -- some behind
  joined_some : (j : JobFacts) (js : List JobFacts) (events : List Event) (seen : List JobFacts)
      → NoneBefore m (j ∷ js) → m ≤ j.deadline
      → RunsFrom rules1 m (j ∷ js) events seen
      → RunsFrom rules2 m0 (J.jobs ++ (j ∷ js))
      (settled J m ++ map (behind (length J.jobs) (completed_value J)) events) ((observed J).jobs ++ seen)
  joined_some j js events seen late due it = (
    before.0 ++ behind_them.0,
    subst (λ s. IsWholeRun rules2 s (before.0 ++ behind_them.0)) (sym begins)
        (closed_then_run rules2 before.0 behind_them.0 (with_later (at_tick m0 J.jobs) ks_there)
        (with_later r.last ks_there) before.1
        (subst (λ s. IsWholeRun rules2 s behind_them.0) (sym joins) behind_them.1)),
    few_steps,
    printed_append before.0 behind_them.0 ∙ ap (λ es. es ++ printed_of behind_them.0) (before.3 ∙ r.prints)
        ∙ ap (λ es. settled J m ++ es)
        (behind_them.3 ∙ ap (λ es. map (behind n (came_to rules1 n J.rules.finishes own r.last.tasks r.over)) es) it.3
        ∙ ap (λ v. map (behind n v) events) came),
    ap (map observing) (tasks_append rules2 _ before.0 behind_them.0 behind_them.1 ∙ behind_them.4)
        ∙ map-append observing r.last.tasks (map (shifted n) (tasks_in it.0))
        ∙ ap (λ js. js ++ map observing (map (shifted n) (tasks_in it.0))) seen_before
        ∙ ap (λ js. (observed J).jobs ++ js) (map_map observing (shifted n) (tasks_in it.0) ∙ it.4),
  ) where
    n : ℕ
    n = length J.jobs

    r : Rests J m0 m
    r = at_rest J valid m0 m late0 later rest

    ks_there : List Task
    ks_there = to_come (length J.jobs) (j ∷ js)

    before : (ys : List Step) × IsPath rules2 (with_later (at_tick m0 J.jobs) ks_there) ys (with_later r.last ks_there)
        × (length ys ≡ length r.steps) × (printed_of ys ≡ printed_of r.steps)
    before = path_behind J valid m j js late fs r.steps (at_tick m0 J.jobs) r.last
        (tick_keeps J valid m0 late0 m0 (omega arith)) r.path

    behind_them : (ys : List Step) × IsWholeRun rules2 (beside n r.last.tasks (at_tick m (j ∷ js))) ys
        × (length ys ≡ length it.0)
        × (printed_of ys ≡ map (behind n (came_to rules1 n J.rules.finishes own r.last.tasks r.over)) (printed_of it.0))
        × (tasks_in ys ≡ r.last.tasks ++ map (shifted n) (tasks_in it.0))
    behind_them = whole_beside rules1 n J.rules.finishes own r.last.tasks r.over (numbers_below J r.last r.keeps) it.0
        (at_tick m (j ∷ js)) it.1

    joins : with_later r.last ks_there ≡ beside n r.last.tasks (at_tick m (j ∷ js))
    joins = ap (λ b. let s : State = record { clock = r.last.clock; pressed = b; tasks = r.last.tasks ++ ks_there }
        in s)
        (over_calm r.last r.keeps.pressed r.over)
        ∙ ap (λ clock. state_at clock (r.last.tasks ++ ks_there)) r.clock
        ∙ ap (λ ts. state_at m (r.last.tasks ++ ts))
        (ap (λ k. to_come k (j ∷ js)) (omega arith) ∙ come_shift n 0 (j ∷ js))

    begins : at_tick m0 (J.jobs ++ (j ∷ js)) ≡ with_later (at_tick m0 J.jobs) ks_there
    begins = ap (λ ts. state_at m0 ts)
        (come_append 0 J.jobs (j ∷ js) ∙ ap (λ k. to_come 0 J.jobs ++ to_come k (j ∷ js)) (omega arith))

    came : came_to rules1 n J.rules.finishes own r.last.tasks r.over ≡ completed_value J
    came = ap (λ (z : State). value_sum (filter is_done z.tasks)) r.is ∙ sym (value_there J valid m rest)

    seen_before : map observing r.last.tasks ≡ (observed J).jobs
    seen_before = ap (map observing) (ap (λ (z : State). z.tasks) r.is ∙ sym (tasks_there J valid m rest))

    few_steps : length (before.0 ++ behind_them.0) ≤ (last_deadline (J.jobs ++ (j ∷ js)) - m0) + 6 * length
        (J.jobs ++ (j ∷ js)) + 1
    few_steps =
        let first : m ≤ last_deadline (j ∷ js) = let up : j.deadline ≤ last_deadline (j ∷ js) = last_first j js in
        omega arith in
        let last : last_deadline (j ∷ js) ≤ last_deadline (J.jobs ++ (j ∷ js)) = last_more J.jobs (j ∷ js) in
        omega (
          arith,
          length-append before.0 behind_them.0,
          length-append J.jobs (j ∷ js),
          before.2,
          behind_them.2,
          it.2,
          r.few,
        )

  -- any
  pub joined : (more : List JobFacts) (events : List Event) (seen : List JobFacts) → NoneBefore m more
      → Each (λ j. m ≤ j.deadline) more
      → RunsFrom rules1 m more events seen
      → RunsFrom rules2 m0 (J.jobs ++ more) (settled J m ++ map (behind (length J.jobs) (completed_value J)) events)
      ((observed J).jobs ++ seen)
  joined [] events seen late due it = joined_none events seen it
  joined (j ∷ js) events seen late due it = joined_some j js events seen late (due j (inl refl)) it

-- from the opening on, it is the run
pub runs_all : (rules : Rules) (jobs : List JobFacts) (events : List Event) (seen : List JobFacts)
    → RunsFrom rules 0 jobs events seen
    → printed (record { rules = rules; jobs = jobs }) ≡ events
runs_all rules jobs events seen it =
    ap printed_of (enough_fuel rules (enough jobs) (opening jobs) it.0 it.1 (omega (arith, it.2))) ∙ it.3

-- and so it observed the jobs
pub sees_all : (rules : Rules) (jobs : List JobFacts) (events : List Event) (seen : List JobFacts)
    → RunsFrom rules 0 jobs events seen
    → (observed (record { rules = rules; jobs = jobs })).jobs ≡ seen
sees_all rules jobs events seen it =
    ap (λ zs. map observing (fold (λ (s : State) (x : Step). x.before) (opening jobs) zs).tasks)
    (enough_fuel rules (enough jobs) (opening jobs) it.0 it.1 (omega (arith, it.2)))
    ∙ ap (map observing) (tasks_from rules (opening jobs) it.0 it.1 (opening jobs)) ∙ it.4

-- no valid job is due before its release
pub due_later : (J : Instance) → IsValid J → (m : ℕ) → NoneBefore m J.jobs → Each (λ j. m ≤ j.deadline) J.jobs
due_later J valid m late j member =
    let job : IsJob j = all_member IsJob J.jobs (valid_parts valid).each j member in
    let window : j.release + j.work ≤ j.deadline = (job_limits job).window in
    let at : m ≤ j.release = late j member in omega arith

-- a run falls apart at rest
pub printed_apart : (J : Instance) (more : List JobFacts) (fs : List Finish) (m : ℕ) → AreOwn J → IsValid J
    → IsValid (instead_with J more fs) → IsAtRest J m → NoneBefore m more
    → printed (followed_by J more fs) ≡ settled J m ++ map (behind (length J.jobs) (completed_value J))
    (printed (instead_with J more fs))
printed_apart J more fs m own valid valid_more rest late = runs_all (behind_rules J fs) (J.jobs ++ more) _ _
    (joined J valid 0 m (λ j member. omega arith) (omega arith) rest fs own more (printed (instead_with J more fs))
    (observed (instead_with J more fs)).jobs late
    (due_later (instead_with J more fs) valid_more m late)
    (alone (instead_with J more fs) valid_more m late))
