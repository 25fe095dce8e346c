-- A dispatcher that pays forward: no job gets on unloaded, and none loses more than three ticks.
use Rattle.std.proofs.Common.{◌≡◌, ℕ, zero, suc, ◌+◌, ◌≤◌, List, [], ◌∷◌, refl, sym, ap, ◌∙◌, subst, Bool, true, false}
use Rattle.std.proofs.Common.{cond, arith, eqb, take, drop, ◌&&◌, not, Option, Some, None, MatchBool, count_by, sum_by}
use Rattle.std.proofs.Common.{filter, eqb-true}
use Rattle.std.specs.Bool.{then_some}
use Rattle.std.specs.List.{list_all, cons_option}
use Rattle.std.proofs.lemmas.List.Sums.{sum_by-cons}
use Rattle.dover_model.specs.Common.{JobFacts, Fraction, need}
use Rattle.dover_model.specs.declared.events.Role.{Role}
use Rattle.dover_model.specs.declared.events.Role.TheVariants.{Coming, Fresh, Waiting, Held, Running, Done, Gone}
use Rattle.dover_model.specs.declared.events.Event.TheVariants.{Run, Preempt, Take, End}
use Rattle.dover_model.specs.declared.events.Task.{Task}
use Rattle.dover_model.specs.Common.{Instance, IsValid, numbered, ticks_given, end_state}
use Rattle.dover_model.specs.Common.{State, opening, is_fresh, is_over, is_done, is_running, is_ready_behind, running}
use Rattle.dover_model.specs.Common.{value_sum, Move, Prints, Waits, Ticks, step, after, ◌or_else◌, ticked, Step}
use Rattle.dover_model.specs.Common.{is_end, run, ran, tick_of, number_running, IsWholeRun, step_at, is_take_of}
use Rattle.dover_model.specs.Common.{is_preempt_of, is_complete, is_busy_tick, gets}
use Rattle.task_laws.specs.Switches.{is_complete_of, starts, returns}
use Rattle.task_laws.specs.Forward.{gains_from}
use Rattle.dover_model.specs.Common.{IsMember, Each, NoneRuns, IsSound, Keeps, one_if}
use Rattle.task_laws.specs.Switches.{is_fresh_in, returns_by}
use Rattle.task_laws.specs.Forward.{is_tick_of, completes_next, must_load, holds_then, AreLoaded}
use Rattle.dover_model.proofs.lists.Members.{on_map, found}
use Rattle.dover_model.proofs.steps.Roles.{passes, is_running_role, is_done_role}
use Rattle.dover_model.proofs.steps.OneChange.{state_with, on_changed}
use Rattle.dover_model.proofs.steps.Ticking.{Quiet}
use Rattle.dover_model.proofs.steps.Deeds.{Deed, Completed, Resumed, Started, Began, Preempted, Stayed, Arrived}
use Rattle.dover_model.proofs.steps.Deeds.{Abandoned, Rested}
use Rattle.dover_model.proofs.steps.Kept.{step_deed, step_kept, opening_keeps, come_coming, end_same}
use Rattle.dover_model.proofs.finishes.Readiness.{runner}
use Rattle.dover_model.proofs.runs.Ending.{run_is_whole}
use Rattle.dover_model.proofs.runs.Honest.{whole_outcome, all_ticks}
use Rattle.dover_model.proofs.runs.Once.{takes_once, rest_of, rest_fails}
use Rattle.task_laws.proofs.switches.OneJob.{young, fresh_any}
use Rattle.task_laws.proofs.switches.Switching.{step_turned, over_run, completes_once}
use Rattle.task_laws.proofs.switches.OneJob.{fresh_same}
use Rattle.task_laws.proofs.switches.Switching.{IsTaken, deed_taken_then, deed_returns, rest_taken}
use Rattle.task_laws.proofs.switches.Stretches.{its_job, at_end}
use Rattle.dover_model.proofs.lists.Tests.{never}

-- ---- how many ticks a job loses

-- the ticks of the job that come right before it is done
abbrev handed : ℕ → List Step → ℕ
handed n [] = 0
handed n (x ∷ xs) = one_if (is_tick_of n x && completes_next n xs) + handed n xs

-- how often it is done in these steps
abbrev completions : ℕ → List Step → ℕ
completions n xs = count_by (λ x. is_complete_of n x.move) xs

-- there are no more of them than completions behind the first step
handed_behind : (n : ℕ) (x : Step) (xs : List Step) → handed n (x ∷ xs) ≤ completions n xs
handed_behind n x [] = by_tick (is_tick_of n x) where
  by_tick : (b : Bool) → one_if (b && false) + 0 ≤ 0
  by_tick true = omega arith
  by_tick false = omega arith
handed_behind n x (y ∷ xs) =
    by_tick (is_tick_of n x) (is_complete_of n y.move)
    (sum_by-cons (λ (z : Step). one_if (is_complete_of n z.move)) y xs) (handed_behind n y xs) where
      by_tick : (a b : Bool) → completions n (y ∷ xs) ≡ one_if b + completions n xs
          → handed n (y ∷ xs) ≤ completions n xs
          → one_if (a && b) + handed n (y ∷ xs) ≤ completions n (y ∷ xs)
      by_tick true true all low = omega (arith, all, low)
      by_tick true false all low = omega (arith, all, low)
      by_tick false b all low = omega (arith, all, low)

-- so no more than completions
handed_few : (n : ℕ) (xs : List Step) → handed n xs ≤ completions n xs
handed_few n [] = omega arith
handed_few n (x ∷ xs) = omega (
  arith,
  handed_behind n x xs,
  sum_by-cons (λ (z : Step). one_if (is_complete_of n z.move)) x xs,
)

-- the steps by which it starts or takes
abbrev loads_by : ℕ → Step → ℕ
loads_by n x = one_if (gets n x.move && not (returns x))

-- the ticks that it has are those that it gets on in, those that load it, and those before it is done
ticks_split : (n : ℕ) (loads : Bool) (xs : List Step)
    → count_by (is_tick_of n) xs ≤ gains_from n loads xs + one_if loads + sum_by (loads_by n) xs + handed n xs
ticks_split n loads [] = omega arith
ticks_split n loads (x ∷ xs) =
    by_tests (is_tick_of n x) (gets n x.move) (returns x) loads (completes_next n xs) (no_tick x.move refl)
    (sum_by-cons (λ (y : Step). one_if (is_tick_of n y)) x xs) (sum_by-cons (loads_by n) x xs)
    (ticks_split n true xs) (ticks_split n false xs) where
      no_tick : (m : Move) → x.move ≡ m → gets n x.move ≡ true → is_tick_of n x ≡ false
      no_tick (Prints e) is got = ap (λ (m : Move). is_tick_of n (record { before = x.before; move = m })) is
      no_tick (Waits w) is got = ap (λ (m : Move). is_tick_of n (record { before = x.before; move = m })) is
      no_tick Ticks is got = never (sym (ap (gets n) is) ∙ got)

      by_tests : (tick got back loads last : Bool) → (got ≡ true → tick ≡ false)
          → count_by (is_tick_of n) (x ∷ xs) ≡ one_if tick + count_by (is_tick_of n) xs
          → sum_by (loads_by n) (x ∷ xs) ≡ one_if (got && not back) + sum_by (loads_by n) xs
          → count_by (is_tick_of n) xs ≤ gains_from n true xs + 1 + sum_by (loads_by n) xs + handed n xs
          → count_by (is_tick_of n) xs ≤ gains_from n false xs + 0 + sum_by (loads_by n) xs + handed n xs
          → count_by (is_tick_of n) (x ∷ xs)
          ≤ one_if (tick && (not loads && not last)) + gains_from n (cond got (not back) (cond tick false loads)) xs
          + one_if loads + sum_by (loads_by n) (x ∷ xs) + (one_if (tick && last) + handed n xs)
      by_tests true true back loads last apart ticks more here there = never (sym (apart refl))
      by_tests true false back false true apart ticks more here there = omega (arith, ticks, more, there)
      by_tests false true false true last apart ticks more here there = omega (arith, ticks, more, here)
      by_tests false true false false last apart ticks more here there = omega (arith, ticks, more, here)
      by_tests false false back true last apart ticks more here there = omega (arith, ticks, more, here)
      by_tests _ _ _ _ _ apart ticks more here there = omega (arith, ticks, more, there)

-- the ticks of a run's schedule are its silent ticks
ticks_counted : (n : ℕ) (xs : List Step) → count_by (λ m. eqb m n) (all_ticks xs) ≡ count_by (is_tick_of n) xs
ticks_counted n [] = refl
ticks_counted n (x ∷ xs) = by_move x.move refl (ticks_counted n xs)
    (sum_by-cons (λ (y : Step). one_if (is_tick_of n y)) x xs) where
      by_move : (m : Move) → x.move ≡ m
          → count_by (λ i. eqb i n) (all_ticks xs) ≡ count_by (is_tick_of n) xs
          → count_by (is_tick_of n) (x ∷ xs) ≡ one_if (is_tick_of n x) + count_by (is_tick_of n) xs
          → count_by (λ i. eqb i n) (cons_option (tick_of x) (all_ticks xs)) ≡ count_by (is_tick_of n) (x ∷ xs)
      by_move Ticks is same counts = omega (
        arith,
        same,
        counts,
        ap (λ (m : Move). one_if (is_tick_of n (record { before = x.before; move = m }))) is,
        ap (λ (m : Move). count_by (λ i. eqb i n) (cons_option (tick_of (record { before = x.before; move = m }))
            (all_ticks xs))) is,
        sum_by-cons (λ i. one_if (eqb i n)) (number_running x.before) (all_ticks xs),
      )
      by_move _ is same counts = omega (
        arith,
        same,
        counts,
        ap (λ (m : Move). one_if (is_tick_of n (record { before = x.before; move = m }))) is,
        ap (λ (m : Move). count_by (λ i. eqb i n) (cons_option (tick_of (record { before = x.before; move = m }))
            (all_ticks xs))) is,
      )

-- a part of a schedule gives no more than all of it
count_drop : (n r : ℕ) (s : List ℕ) → count_by (λ m. eqb m n) (drop r s) ≤ count_by (λ m. eqb m n) s
count_drop n zero s = omega arith
count_drop n (suc r) [] = omega arith
count_drop n (suc r) (m ∷ s) = omega (arith, count_drop n r s, sum_by-cons (λ i. one_if (eqb i n)) m s)

count_take : (n d : ℕ) (s : List ℕ) → count_by (λ m. eqb m n) (take d s) ≤ count_by (λ m. eqb m n) s
count_take n zero s = omega arith
count_take n (suc d) [] = omega arith
count_take n (suc d) (m ∷ s) = omega (
  arith,
  count_take n d s,
  sum_by-cons (λ i. one_if (eqb i n)) m s,
  sum_by-cons (λ i. one_if (eqb i n)) m (take d s),
)

module _ (n : ℕ) (s : State) (sound : IsSound s) where
  -- a job that preempts is fresh
  deed_fresh : (k : Fraction) (other : Move) → is_preempt_of n other ≡ false → (m : Move) → Deed k s other m
      → is_preempt_of n m ≡ true → is_fresh_in s n ≡ true
  deed_fresh k other rests m (Preempted r f member runs some f_member fresh before fits) e =
      fresh_any n 0 s.tasks sound.numbered f f_member (eqb-true _ _ e) ∙ passes is_fresh f Fresh true fresh refl
  deed_fresh k other rests m (Rested quiet) e = never (sym rests ∙ e)
  deed_fresh k other rests m _ e = never e

  -- a job that gets the processor and doesn't return starts or takes
  loads_are : (m : Move) → (is_preempt_of n m ≡ true → is_fresh_in s n ≡ true)
      → loads_by n (record { before = s; move = m })
      ≤ one_if (starts n (record { before = s; move = m })) + one_if (is_take_of n m)
  loads_are (Prints (Run at starting)) fresh = by_number (eqb starting n) refl where
    by_number : (b : Bool) → eqb starting n ≡ b
        → one_if (b && not (not (is_fresh_in s starting))) ≤ one_if (b && is_fresh_in s n) + 0
    by_number false e = omega arith
    by_number true e = subst (λ l. one_if (not (not (is_fresh_in s starting))) ≤ one_if (is_fresh_in s l) + 0)
        (eqb-true _ _ e) (by_fresh (is_fresh_in s starting)) where
          by_fresh : (c : Bool) → one_if (not (not c)) ≤ one_if c + 0
          by_fresh true = omega arith
          by_fresh false = omega arith
  loads_are (Prints (Preempt at stops starting)) fresh = by_number (eqb starting n) refl where
    by_number : (b : Bool) → eqb starting n ≡ b → one_if (b && true) ≤ one_if (b && is_fresh_in s n) + 0
    by_number false e = omega arith
    by_number true e = omega (arith, ap one_if (fresh e))
  loads_are (Prints (Take at stops starting)) fresh = by_number (eqb starting n) where
    by_number : (b : Bool) → one_if (b && true) ≤ one_if (b && is_fresh_in s n) + one_if b
    by_number false = omega arith
    by_number true = omega arith
  loads_are _ fresh = omega arith

module _ (J : Instance) (valid : IsValid J) (n_j : ℕ × JobFacts) (member : IsMember n_j (numbered J)) where
  -- a job loads itself twice at most
  loads_few : sum_by (loads_by n_j.0) (run J) ≤ 2
  loads_few = omega (
    arith,
    over_run J valid n_j member young (loads_by n_j.0) (λ x. one_if (is_take_of n_j.0 x.move))
        (λ s keeps t m same. omega (
          arith,
          (step_turned J valid n_j.0 s keeps t m same).young,
          ap (λ b. one_if (gets n_j.0 (step J.rules s) && b))
              (fresh_any n_j.0 0 s.tasks keeps.sound.numbered t m same ∙ fresh_same t),
          loads_are n_j.0 s keeps.sound (step J.rules s)
              (deed_fresh n_j.0 s keeps.sound J.rules.ratio (rest_of s)
              (rest_fails (is_preempt_of n_j.0) (λ value. refl) refl s) (step J.rules s)
              (step_deed J valid s keeps J.rules)),
        )),
    takes_once J n_j.0 valid,
  )

  -- what it has had in its window
  pub forward_given : ticks_given (ran J) n_j.0 n_j.1 ≤ gains_from n_j.0 false (run J) + 3
  forward_given = omega (
    arith,
    count_drop n_j.0 n_j.1.release (take n_j.1.deadline (ran J)),
    count_take n_j.0 n_j.1.deadline (ran J),
    ticks_counted n_j.0 (run J),
    ticks_split n_j.0 false (run J),
    loads_few,
    handed_few n_j.0 (run J),
    completes_once J valid n_j member,
  )

module _ (J : Instance) (valid : IsValid J) (t : Task) (member : IsMember t (end_state J).tasks) where
  -- what it had, at the end of the run
  pub forward_had : t.had ≤ gains_from t.number false (run J) + 3
  forward_had = omega (
    arith,
    forward_given J valid (t.number, t.job) (its_job J valid 0 t member),
    (whole_outcome J valid).gave.had t (at_end J valid 0 t member),
  )

  -- a job that is done got on with all of its work, where its budget is three ticks more
  pub three_are_enough : (real : ℕ) → is_done t ≡ true → real + 3 ≤ need J.rules.finishes t.number t.job.work
      → real ≤ gains_from t.number false (run J)
  three_are_enough real done enough =
      let had : t.had ≡ need J.rules.finishes t.number t.job.work =
      ((whole_outcome J valid).served t (at_end J valid 0 t member)).done (is_done_role t done) in
      omega (arith, forward_had, had, enough)

-- ---- no job gets on unloaded

-- where the running job needn't be loaded, the processor holds it
abbrev IsHeld : Bool → Option ℕ → State → Type 0
IsHeld loads holds s = loads ≡ false → Each (λ r. r.role ≡ Running → holds ≡ Some r.number) s.tasks

-- a job that runs is the one that is named
named : (s : State) → IsSound s → (r : Task) → IsMember r s.tasks → r.role ≡ Running → number_running s ≡ r.number
named s sound r member runs = ap (λ (o : Option Task). elim o [ None ↦ 4_000_000_000 | Some x ↦ x.number ])
    (runner s sound r member runs)

-- where a tick is busy, some job runs
busy_runs : (s : State) → is_busy_tick (record { before = s; move = Ticks }) ≡ true
    → (r : Task) × IsMember r s.tasks × (r.role ≡ Running)
busy_runs s busy = by_runner (running s) refl busy where
  by_runner : (o : Option Task) → running s ≡ o → elim o [ None ↦ false | Some r ↦ true ] ≡ true
      → (r : Task) × IsMember r s.tasks × (r.role ≡ Running)
  by_runner None none e = never e
  by_runner (Some r) is_r e =
      let it : IsMember r s.tasks × (is_running r ≡ true) = found is_running s.tasks r is_r in
      (r, it.0, is_running_role r it.1)

-- and the other way round
runs_busy : (s : State) → IsSound s → (r : Task) → IsMember r s.tasks → r.role ≡ Running
    → is_busy_tick (record { before = s; move = Ticks }) ≡ true
runs_busy s sound r member runs =
    ap (λ (o : Option Task). elim o [ None ↦ false | Some x ↦ true ]) (runner s sound r member runs)

module _ (s : State) (sound : IsSound s) (behind loads : Bool) (holds : Option ℕ) (is_held : IsHeld loads holds s)
    (taken : behind ≡ false → IsTaken s) where
  -- the step of a move
  abbrev at : Move → Step
  at m = record { before = s; move = m }

  -- where one job that doesn't run gets a role in which it doesn't either
  one_held : (r : Task) → IsMember r s.tasks → (new : Role) → (new ≡ Running → ⊥)
      → IsHeld loads holds (state_with s r new)
  one_held r member new other = λ e. on_changed 0 s.tasks sound.numbered r member new
      (λ t. t.role ≡ Running → holds ≡ Some t.number) (λ runs. absurd (other runs))
      (λ t mt _. is_held e t mt)

  -- where one job runs, and none did
  one_runs : NoneRuns s.tasks → (r : Task) → IsMember r s.tasks → (held : Option ℕ) → held ≡ Some r.number
      → Each (λ t. t.role ≡ Running → held ≡ Some t.number) (state_with s r Running).tasks
  one_runs none r member held is = on_changed 0 s.tasks sound.numbered r member Running
      (λ t. t.role ≡ Running → held ≡ Some t.number) (λ runs. is) (λ t mt _ runs. absurd (none t mt runs))

  -- behind a return the job that is done has loaded the one that gets the processor
  returned : (k : Fraction) (other : Move) → returns_by s other ≡ false → (m : Move) → Deed k s other m
      → returns_by s m ≡ true → behind ≡ true
  returned k other rests m deed back = by_behind behind taken where
    by_behind : (b : Bool) → (b ≡ false → IsTaken s) → b ≡ true
    by_behind true free = refl
    by_behind false free = absurd (deed_returns s sound (free refl) k other rests m deed back)

  -- a job that isn't fresh
  not_fresh : (r : Task) → IsMember r s.tasks → is_fresh r ≡ false → not (is_fresh_in s r.number) ≡ true
  not_fresh r member stale = ap not (fresh_any r.number 0 s.tasks sound.numbered r member refl ∙ stale)

  -- the job that gets the processor back is held then
  back_held : (r : Task) → IsMember r s.tasks → is_fresh r ≡ false → NoneRuns s.tasks
      → (returns_by s (Prints (Run s.clock r.number)) ≡ true → behind ≡ true)
      → IsHeld (must_load loads (at (Prints (Run s.clock r.number))))
      (holds_then behind holds (at (Prints (Run s.clock r.number)))) (state_with s r Running)
  back_held r member stale none handed = λ e. one_runs none r member
      (cond (not (is_fresh_in s r.number) && behind) (Some r.number) holds)
      (by_tests (not (is_fresh_in s r.number)) behind (not_fresh r member stale)
      (handed (not_fresh r member stale))) where
        by_tests : (a b : Bool) → a ≡ true → b ≡ true → cond (a && b) (Some r.number) holds ≡ Some r.number
        by_tests true true e f = refl
        by_tests false b e f = never e
        by_tests true false e f = never f

  -- each deed keeps it so
  deed_held : (k : Fraction) (other : Move) → returns_by s other ≡ false
      → (Quiet s → IsHeld (must_load loads (at other)) (holds_then behind holds (at other)) (after s other))
      → (m : Move) → Deed k s other m
      → IsHeld (must_load loads (at m)) (holds_then behind holds (at m)) (after s m)
  deed_held k other back rests m (Completed r member runs) = λ e. on_changed 0 s.tasks sound.numbered r member Done
      (λ t. t.role ≡ Running → holds ≡ Some t.number) (λ f. absurd (let c : Done ≡ Running = f in cc))
      (λ t mt differs other_runs. absurd (differs (sound.one_runs t r mt member other_runs runs)))
  deed_held k other back rests m (Resumed p member held none least why) =
      back_held p member (passes is_fresh p Held false held refl) none
      (returned k other back m (Resumed p member held none least why))
  deed_held k other back rests m (Started o member waiting none ahead fits later) =
      back_held o member (passes is_fresh o Waiting false waiting refl) none
      (returned k other back m (Started o member waiting none ahead fits later))
  deed_held k other back rests m (Began f member fresh none free) = λ e. never (sym e
      ∙ ap (λ b. not (not b)) (fresh_any f.number 0 s.tasks sound.numbered f member refl
      ∙ passes is_fresh f Fresh true fresh refl))
  deed_held k other back rests m (Stayed r f member runs some f_member fresh why) =
      one_held f f_member Waiting (λ e. let c : Waiting ≡ Running = e in cc)
  deed_held k other back rests m (Arrived c member comes now least stale busy free) =
      one_held c member Fresh (λ e. let d : Fresh ≡ Running = e in cc)
  deed_held k other back rests m (Abandoned r x member runs some x_member waiting now stale light) =
      one_held x x_member Gone (λ e. let c : Gone ≡ Running = e in cc)
  deed_held k other back rests m (Rested quiet) = rests quiet
  deed_held k other back rests m _ = λ e. never (sym e)

  -- a silent tick holds the job that it goes to
  tick_held : IsHeld (must_load loads (at Ticks)) (holds_then behind holds (at Ticks)) (after s Ticks)
  tick_held = λ e. on_map ticked
      (λ t. t.role ≡ Running → cond (is_busy_tick (at Ticks)) (Some (number_running s)) holds ≡ Some t.number) s.tasks
      (λ t mt runs. ap (λ b. cond b (Some (number_running s)) holds) (runs_busy s sound t mt runs)
      ∙ ap Some (named s sound t mt runs))

  -- so does what is done where none of the first six cases applies
  rest_held : IsHeld (must_load loads (at (rest_of s))) (holds_then behind holds (at (rest_of s))) (after s (rest_of s))
  rest_held = by_end (list_all is_over s.tasks) where
    by_end : (b : Bool)
        → IsHeld (must_load loads (at (then_some b (Prints (End (value_sum (filter is_done s.tasks)))) or_else Ticks)))
        (holds_then behind holds (at (then_some b (Prints (End (value_sum (filter is_done s.tasks)))) or_else Ticks)))
        (after s (then_some b (Prints (End (value_sum (filter is_done s.tasks)))) or_else Ticks))
    by_end true = subst (λ (tasks : List Task). IsHeld loads holds (record s { tasks = tasks }))
        (sym (end_same s (value_sum (filter is_done s.tasks)))) is_held
    by_end false = tick_held

  -- a job that gets on is held
  works_held : (m : Move) → is_busy_tick (at m) ≡ true → loads ≡ false → holds ≡ Some (number_running s)
  works_held Ticks busy no_load =
      let it : (r : Task) × IsMember r s.tasks × (r.role ≡ Running) = busy_runs s busy in
      is_held no_load it.0 it.1 it.2 ∙ ap Some (sym (named s sound it.0 it.1 it.2))
  works_held _ busy no_load = never busy

module _ (J : Instance) (valid : IsValid J) where
  -- in each tick of a run that a job gets on in, the processor holds it
  loaded_from : (xs : List Step) (s : State) → Keeps J s → (behind loads : Bool) (holds : Option ℕ)
      → IsHeld loads holds s → (behind ≡ false → IsTaken s) → IsWholeRun J.rules s xs
      → AreLoaded behind loads holds xs
  loaded_from [] s keeps behind loads holds is_held taken whole = tt
  loaded_from (x ∷ xs) s keeps behind loads holds is_held taken whole =
      subst (λ (y : Step). AreLoaded behind loads holds (y ∷ xs)) (sym whole.0) (
        works_held s keeps.sound behind loads holds is_held taken (step J.rules s),
        by_end (is_end (step J.rules s)) whole.1
            (λ rest. loaded_from xs (after s (step J.rules s)) (step_kept J valid s keeps J.rules)
            (is_complete (step J.rules s)) (must_load loads (step_at J.rules s))
            (holds_then behind holds (step_at J.rules s))
            (deed_held s keeps.sound behind loads holds is_held taken J.rules.ratio (rest_of s)
            (rest_fails (returns_by s) (λ value. refl) refl s)
            (λ quiet. rest_held s keeps.sound behind loads holds is_held taken) (step J.rules s)
            (step_deed J valid s keeps J.rules))
            (deed_taken_then s keeps.sound J.rules.ratio (rest_of s) (rest_taken s) (step J.rules s)
            (step_deed J valid s keeps J.rules)) rest),
      ) where
        by_end : (b : Bool) → MatchBool b (xs ≡ []) (IsWholeRun J.rules (after s (step J.rules s)) xs)
            → (IsWholeRun J.rules (after s (step J.rules s)) xs
            → AreLoaded (is_complete (step J.rules s)) (must_load loads (step_at J.rules s))
            (holds_then behind holds (step_at J.rules s)) xs)
            → AreLoaded (is_complete (step J.rules s)) (must_load loads (step_at J.rules s))
            (holds_then behind holds (step_at J.rules s)) xs
        by_end true none more = subst (AreLoaded (is_complete (step J.rules s)) (must_load loads (step_at J.rules s))
            (holds_then behind holds (step_at J.rules s))) (sym none) tt
        by_end false rest more = more rest

  pub loaded_throughout : AreLoaded false false None (run J)
  loaded_throughout = loaded_from (run J) (opening J.jobs) (opening_keeps J) false false None
      (λ e t m runs. let comes : t.role ≡ Coming = (come_coming 0 J.jobs t m).0 in
      let c : Coming ≡ Running = sym comes ∙ runs in cc)
      (λ e none t m behind. never (sym (passes is_ready_behind t Coming false (come_coming 0 J.jobs t m).0 refl)
      ∙ behind))
      (run_is_whole J valid)
