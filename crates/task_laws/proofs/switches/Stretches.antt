-- What a job gets done in a schedule where each change of hands costs ticks.
use Rattle.std.proofs.Common.{◌≡◌, ℕ, zero, suc, ◌+◌, ◌-◌, ◌*◌, ◌≤◌, ◌<◌, inl, inr, List, [], ◌∷◌, length, refl}
use Rattle.std.proofs.Common.{sym, ap, ◌∙◌, subst, Bool, true, false, cond, arith, eqb, take, drop, add-one, nat_le}
use Rattle.std.proofs.Common.{Option, Some, None, MatchBool, count_by, eqb-true, eq-eqb, leb-true, leb-false}
use Rattle.std.specs.List.{cons_option, enumerate_from}
use Rattle.std.proofs.lemmas.List.Sums.{sum_by-cons}
use Rattle.std.proofs.Math.Nat.{mul-le-mul_left}
use Rattle.dover_model.specs.Common.{JobFacts, need, Instance, IsValid, numbered, ticks_given}
use Rattle.dover_model.specs.declared.events.Role.{Role}
use Rattle.dover_model.specs.declared.events.Role.TheVariants.{Running}
use Rattle.dover_model.specs.declared.events.Task.{Task}
use Rattle.dover_model.specs.Common.{end_state, State, opening, is_running, is_done, running, Move, Ticks, step, after}
use Rattle.dover_model.specs.Common.{Step, is_end, run, ran, tick_of, number_running, IsWholeRun, step_at, role_then}
use Rattle.dover_model.specs.Common.{gets, IsMember, Keeps, one_if}
use Rattle.task_laws.specs.Switches.{most_changes, useful}
use Rattle.task_laws.specs.Switches.{useful_from}
use Rattle.dover_model.proofs.lists.Members.{found}
use Rattle.dover_model.proofs.steps.Roles.{is_running_role, is_done_role, one_number}
use Rattle.dover_model.proofs.steps.Kept.{step_kept, opening_keeps}
use Rattle.dover_model.proofs.runs.Ending.{run_is_whole}
use Rattle.dover_model.proofs.finishes.Readiness.{runner}
use Rattle.dover_model.proofs.runs.Honest.{whole_outcome, all_ticks}
use Rattle.dover_model.proofs.valid.Limiting.{jobs_most}
use Rattle.dover_model.proofs.valid.ValidParts.{valid_parts}
use Rattle.task_laws.proofs.switches.OneJob.{next, next_there, next_number, next_role, on}
use Rattle.task_laws.proofs.switches.Switching.{step_turned, opens}
use Rattle.task_laws.proofs.switches.Switching.{opens_coming, gets_few, job_there}
use Rattle.dover_model.proofs.lists.Tests.{never}

-- ---- stretches of a schedule

-- how often number n begins to run in these ticks, where it ran in the tick before or not
abbrev begins : ℕ → Bool → List ℕ → ℕ
begins n before [] = 0
begins n before (m ∷ s) = cond (eqb m n) (one_if (cond before false true) + begins n true s) (begins n false s)

-- how many of these ticks go to it
abbrev given : ℕ → List ℕ → ℕ
given n s = count_by (λ m. eqb m n) s

module _ (cost n : ℕ) where
  -- what is still to be lost of a stretch that has had so many ticks
  abbrev owed : ℕ → ℕ
  owed zero = 0
  owed (suc before) = cost - suc before

  -- a stretch has had a tick
  abbrev some : ℕ → Bool
  some zero = false
  some (suc before) = true

  -- of each stretch no more is lost than a change costs
  few_lost : (before : ℕ) (s : List ℕ)
      → given n s ≤ useful_from cost n before s + cost * begins n (some before) s + owed before
  few_lost before [] = omega arith
  few_lost zero (m ∷ s) = by_name (eqb m n) (few_lost 1 s) (few_lost 0 s) (sum_by-cons (λ i. one_if (eqb i n)) m s)
    where
      by_name : (b : Bool) → given n s ≤ useful_from cost n 1 s + cost * begins n true s + (cost - 1)
          → given n s ≤ useful_from cost n 0 s + cost * begins n false s + 0
          → given n (m ∷ s) ≡ one_if b + given n s
          → given n (m ∷ s) ≤ cond b (cond (nat_le cost 0) 1 0 + useful_from cost n 1 s) (useful_from cost n 0 s)
          + cost * cond b (1 + begins n true s) (begins n false s) + 0
      by_name true more other e = by_cost (nat_le cost 0) refl where
        by_cost : (c : Bool) → nat_le cost 0 ≡ c
            → given n (m ∷ s) ≤ cond c 1 0 + useful_from cost n 1 s + cost * (1 + begins n true s) + 0
        by_cost true f = let low : cost ≤ 0 = leb-true _ _ f in omega (arith, e, more)
        by_cost false f = let high : 0 < cost = leb-false _ _ f in omega (arith, e, more)
      by_name false more other e = omega (arith, e, other)
  few_lost (suc before) (m ∷ s) =
      by_name (eqb m n)
      (subst (λ k. given n s ≤ useful_from cost n k s + cost * begins n true s + (cost - suc (suc before)))
      (sym (add-one (suc before))) (few_lost (suc (suc before)) s))
      (few_lost 0 s) (sum_by-cons (λ i. one_if (eqb i n)) m s) where
        by_name : (b : Bool)
            → given n s ≤ useful_from cost n (suc before + 1) s + cost * begins n true s + (cost - suc (suc before))
            → given n s ≤ useful_from cost n 0 s + cost * begins n false s + 0
            → given n (m ∷ s) ≡ one_if b + given n s
            → given n (m ∷ s) ≤ cond b (cond (nat_le cost (suc before)) 1 0 + useful_from cost n (suc before + 1) s)
            (useful_from cost n 0 s) + cost * cond b (0 + begins n true s) (begins n false s) + (cost - suc before)
        by_name true more other e = by_cost (nat_le cost (suc before)) refl where
          by_cost : (c : Bool) → nat_le cost (suc before) ≡ c
              → given n (m ∷ s) ≤ cond c 1 0 + useful_from cost n (suc before + 1) s + cost * (0 + begins n true s)
              + (cost - suc before)
          by_cost true f = let low : cost ≤ suc before = leb-true _ _ f in omega (arith, e, more)
          by_cost false f = let high : suc before < cost = leb-false _ _ f in omega (arith, e, more)
        by_name false more other e = omega (arith, e, other)

module _ (n : ℕ) where
  -- a schedule that is cut off begins no more often
  begins_take : (d : ℕ) (before : Bool) (s : List ℕ) → begins n before (take d s) ≤ begins n before s
  begins_take zero before s = omega arith
  begins_take (suc d) before [] = omega arith
  begins_take (suc d) before (m ∷ s) = by_name (eqb m n) (begins_take d true s) (begins_take d false s) where
    by_name : (b : Bool) → begins n true (take d s) ≤ begins n true s → begins n false (take d s) ≤ begins n false s
        → cond b (one_if (cond before false true) + begins n true (take d s)) (begins n false (take d s))
        ≤ cond b (one_if (cond before false true) + begins n true s) (begins n false s)
    by_name true here there = omega arith
    by_name false here there = there

  -- nor does one of which the front is left out, but where it ran in the tick before
  begins_drop : (r : ℕ) (before : Bool) (s : List ℕ) → begins n false (drop r s) ≤ one_if before + begins n before s
  begins_drop zero true [] = omega arith
  begins_drop zero false [] = omega arith
  begins_drop (suc r) before [] = omega arith
  begins_drop zero true (m ∷ s) = by_name (eqb m n) where
    by_name : (b : Bool) → cond b (1 + begins n true s) (begins n false s)
        ≤ 1 + cond b (0 + begins n true s) (begins n false s)
    by_name true = omega arith
    by_name false = omega arith
  begins_drop zero false (m ∷ s) = omega arith
  begins_drop (suc r) before (m ∷ s) = by_name (eqb m n) before (begins_drop r true s) (begins_drop r false s) where
    by_name : (b c : Bool) → begins n false (drop r s) ≤ 1 + begins n true s
        → begins n false (drop r s) ≤ 0 + begins n false s
        → begins n false (drop r s)
        ≤ one_if c + cond b (one_if (cond c false true) + begins n true s) (begins n false s)
    by_name true true here there = omega arith
    by_name _ _ here there = omega arith

-- ---- stretches of a run

-- a number of a list that counts on from k
number_low : (k : ℕ) (jobs : List JobFacts) (n_j : ℕ × JobFacts) → IsMember n_j (enumerate_from k jobs)
    → n_j.0 < k + length jobs
number_low k [] n_j member = absurd member
number_low k (j ∷ jobs) n_j (inl e) = omega (arith, ap (λ (p : ℕ × JobFacts). p.0) e)
number_low k (j ∷ jobs) n_j (inr member) = omega (arith, number_low (k + 1) jobs n_j member)

module _ (J : Instance) (valid : IsValid J) (n : ℕ) (some : n < 4_000_000_000) where
  -- a tick goes to the number just where its job runs
  tick_on : (s : State) → Keeps J s → (t : Task) → IsMember t s.tasks → t.number ≡ n → (b : Bool)
      → eqb (number_running s) n ≡ b → on t.role ≡ one_if b
  tick_on s keeps t member is_n true named = by_runner (running s) refl named where
    by_runner : (o : Option Task) → running s ≡ o
        → eqb (elim o [ None ↦ 4_000_000_000 | Some r ↦ r.number ]) n ≡ true → on t.role ≡ 1
    by_runner None none e = absurd (let same : 4_000_000_000 ≡ n = eqb-true _ _ e in omega arith)
    by_runner (Some r) is_r e =
        let it : IsMember r s.tasks × (is_running r ≡ true) = found is_running s.tasks r is_r in
        let same : t ≡ r = one_number 0 s.tasks keeps.sound.numbered t r member it.0 (is_n ∙ sym (eqb-true _ _ e)) in
        ap on (ap (λ (x : Task). x.role) same ∙ is_running_role r it.1)
  tick_on s keeps t member is_n false named = by_role t.role refl where
    stands : t.role ≡ Running → on t.role ≡ 0
    stands runs = never (sym named
        ∙ ap (λ o. eqb (elim o [ None ↦ 4_000_000_000 | Some r ↦ r.number ]) n) (runner s keeps.sound t member runs)
        ∙ eq-eqb t.number n is_n)

    by_role : (role : Role) → t.role ≡ role → on t.role ≡ 0
    by_role Running e = stands e
    by_role _ e = ap on e

  -- a job begins to run no more often than it gets the processor
  begins_gets : (xs : List Step) (s : State) → Keeps J s → (t : Task) → IsMember t s.tasks → t.number ≡ n
      → (before : Bool) → IsWholeRun J.rules s xs
      → begins n before (all_ticks xs) ≤ cond before 0 (on t.role) + count_by (λ x. gets n x.move) xs
  begins_gets [] s keeps t member is_n before whole = absurd whole
  begins_gets (x ∷ xs) s keeps t member is_n before whole =
      subst (λ (y : Step). begins n before (cons_option (tick_of y) (all_ticks xs)) ≤ cond before 0 (on t.role)
      + count_by (λ z. gets n z.move) (y ∷ xs)) (sym whole.0)
      (by_move (step J.rules s) (sum_by-cons (λ (y : Step). one_if (gets n y.move)) (step_at J.rules s) xs)
      (step_turned J valid n s keeps t member is_n).on
      (λ b. by_end b (is_end (step J.rules s)) whole.1
      (begins_gets xs (after s (step J.rules s)) (step_kept J valid s keeps J.rules) (next (step J.rules s) t)
      (next_there s (step J.rules s) t member) (next_number (step J.rules s) t ∙ is_n) b))) where
        Later : Move → Bool → Type 0
        Later m b = begins n b (all_ticks xs) ≤ cond b 0 (on (role_then m t)) + count_by (λ y. gets n y.move) xs

        by_end : (b c : Bool) → MatchBool c (xs ≡ []) (IsWholeRun J.rules (after s (step J.rules s)) xs)
            → (IsWholeRun J.rules (after s (step J.rules s)) xs
            → begins n b (all_ticks xs) ≤ cond b 0 (on (next (step J.rules s) t).role)
            + count_by (λ y. gets n y.move) xs)
            → begins n b (all_ticks xs) ≤ cond b 0 (on (role_then (step J.rules s) t))
            + count_by (λ y. gets n y.move) xs
        by_end b true none more = omega (arith, ap (λ ys. begins n b (all_ticks ys)) none)
        by_end b false rest more =
            subst (λ role. begins n b (all_ticks xs) ≤ cond b 0 (on role) + count_by (λ y. gets n y.move) xs)
            (next_role (step J.rules s) t) (more rest)

        by_move : (m : Move)
            → count_by (λ z. gets n z.move) (record { before = s; move = m } ∷ xs) ≡ one_if (gets n m)
            + count_by (λ y. gets n y.move) xs
            → on (role_then m t) ≤ on t.role + one_if (gets n m)
            → ((b : Bool) → begins n b (all_ticks xs) ≤ cond b 0 (on (role_then m t))
            + count_by (λ y. gets n y.move) xs)
            → begins n before (cons_option (tick_of (record { before = s; move = m })) (all_ticks xs)) ≤ cond before 0
            (on t.role) + count_by (λ z. gets n z.move) (record { before = s; move = m } ∷ xs)
        by_move Ticks counts turns more =
            by_name (eqb (number_running s) n) before
            (tick_on s keeps t member is_n (eqb (number_running s) n) refl) (more true) (more false) where
              by_name : (b c : Bool) → on t.role ≡ one_if b
                  → begins n true (all_ticks xs) ≤ 0 + count_by (λ y. gets n y.move) xs
                  → begins n false (all_ticks xs) ≤ on t.role + count_by (λ y. gets n y.move) xs
                  → cond b (one_if (cond c false true) + begins n true (all_ticks xs)) (begins n false (all_ticks xs))
                  ≤ cond c 0 (on t.role)
                  + count_by (λ z. gets n z.move) (record { before = s; move = Ticks } ∷ xs)
              by_name true true runs here there = omega (arith, counts, here)
              by_name true false runs here there = omega (arith, counts, here, runs)
              by_name false true runs here there = omega (arith, counts, there, runs)
              by_name false false runs here there = omega (arith, counts, there, runs)
        by_move m counts turns more = by_before before (more before) where
          by_before : (b : Bool) → begins n b (all_ticks xs) ≤ cond b 0 (on (role_then m t))
              + count_by (λ y. gets n y.move) xs
              → begins n b (all_ticks xs) ≤ cond b 0 (on t.role)
              + count_by (λ z. gets n z.move) (record { before = s; move = m } ∷ xs)
          by_before true rest = omega (arith, counts, rest)
          by_before false rest = omega (arith, counts, rest, turns)

module _ (J : Instance) (valid : IsValid J) (cost : ℕ) (n_j : ℕ × JobFacts) (member : IsMember n_j (numbered J)) where
  -- a job loses no more ticks to changes than it gets the processor times what one costs
  pub little_lost : ticks_given (ran J) n_j.0 n_j.1 ≤ useful cost (ran J) n_j
      + cost * count_by (λ x. gets n_j.0 x.move) (run J)
  little_lost =
      let some : n_j.0 < 4_000_000_000 =
      omega (arith, number_low 0 J.jobs n_j member, (valid_parts valid).count, jobs_most J.rules.version) in
      let lost : given n_j.0 (drop n_j.1.release (take n_j.1.deadline (ran J))) ≤ useful cost (ran J) n_j
      + cost * begins n_j.0 false (drop n_j.1.release (take n_j.1.deadline (ran J))) + 0 =
      few_lost cost n_j.0 0 (drop n_j.1.release (take n_j.1.deadline (ran J))) in
      let few : begins n_j.0 false (drop n_j.1.release (take n_j.1.deadline (ran J)))
      ≤ count_by (λ x. gets n_j.0 x.move) (run J) =
      omega (
        arith,
        begins_drop n_j.0 n_j.1.release false (take n_j.1.deadline (ran J)),
        begins_take n_j.0 n_j.1.deadline false (ran J),
        begins_gets J valid n_j.0 some (run J) (opening J.jobs) (opening_keeps J) (opens J valid n_j member).0
            (opens J valid n_j member).1 (opens J valid n_j member).2 false (run_is_whole J valid),
        ap on (opens_coming J valid n_j member),
      ) in
      let times : cost * begins n_j.0 false (drop n_j.1.release (take n_j.1.deadline (ran J)))
      ≤ cost * count_by (λ x. gets n_j.0 x.move) (run J) =
      mul-le-mul_left cost few in
      omega (arith, lost, times)

-- a job that is done has got on with all that it needs, where its budget pays for the changes too
module _ (J : Instance) (valid : IsValid J) (cost : ℕ) (t : Task) (member : IsMember t (end_state J).tasks) where
  -- it is a task of the last state
  pub at_end : IsMember t (whole_outcome J valid).last.tasks
  at_end = subst (λ (s : State). IsMember t s.tasks) ((whole_outcome J valid).is_last (opening J.jobs)) member

  -- and of a job under its number
  pub its_job : IsMember (t.number, t.job) (numbered J)
  its_job = subst (λ jobs. IsMember (t.number, t.job) (enumerate_from 0 jobs)) (whole_outcome J valid).keeps.jobs
      (job_there 0 (whole_outcome J valid).last.tasks (whole_outcome J valid).keeps.sound.numbered t at_end)

  -- what it had, at the end of the run
  pub had_useful : t.had ≤ useful cost (ran J) (t.number, t.job)
      + cost * count_by (λ x. gets t.number x.move) (run J)
  had_useful = omega (
    arith,
    little_lost J valid cost (t.number, t.job) its_job,
    (whole_outcome J valid).gave.had t at_end,
  )

  -- a budget that is enough
  pub budget_holds : (real : ℕ) → is_done t ≡ true
      → real + cost * most_changes J.rules.ratio (numbered J) t.job ≤ need J.rules.finishes t.number t.job.work
      → real ≤ useful cost (ran J) (t.number, t.job)
  budget_holds real done enough =
      let had : t.had ≡ need J.rules.finishes t.number t.job.work =
      ((whole_outcome J valid).served t at_end).done (is_done_role t done) in
      let times : cost * count_by (λ x. gets t.number x.move) (run J)
      ≤ cost * most_changes J.rules.ratio (numbered J) t.job =
      mul-le-mul_left cost (gets_few J valid (t.number, t.job) its_job) in
      omega (arith, had_useful, had, times, enough)
