-- Sections that are run to their end: a job loses ticks only where it preempts or takes, and no more than is
-- left of the section of a job that it may preempt, or is heavy against.
use Rattle.std.proofs.Common.{◌≡◌, ℕ, ◌+◌, ◌*◌, ◌≤◌, inl, List, [], ◌∷◌, refl, sym, ◌∙◌}
use Rattle.std.proofs.Common.{subst, Bool, true, false, cond, arith}
use Rattle.std.proofs.Common.{MatchBool, count_by, sum_by}
use Rattle.std.proofs.lemmas.List.Sums.{sum_by-cons}
use Rattle.dover_model.specs.declared.events.Role.TheVariants.{Coming, Fresh, Running}
use Rattle.dover_model.specs.Common.{Instance, IsValid, numbered, State}
use Rattle.dover_model.specs.Common.{opening, is_running}
use Rattle.dover_model.specs.Common.{step, after, Step}
use Rattle.dover_model.specs.Common.{is_end, run}
use Rattle.dover_model.specs.Common.{IsWholeRun, step_at, is_take_of, is_preempt_of}
use Rattle.dover_model.specs.Common.{Each, Keeps, one_if}
use Rattle.task_laws.specs.Sections.{Sections, AreSections, ArePaid, Real, untouched}
use Rattle.task_laws.specs.Sections.{real_after, SaysDone, AreFinished}
use Rattle.dover_model.proofs.lists.Members.{not_found, sum_plus}
use Rattle.dover_model.proofs.steps.Roles.{passes}
use Rattle.dover_model.proofs.steps.Kept.{step_kept, opening_keeps, come_coming}
use Rattle.dover_model.proofs.runs.Ending.{run_is_whole}
use Rattle.dover_model.proofs.runs.Once.{takes_once, preempts_once}
use Rattle.task_laws.proofs.switches.Switching.{IsPrompt}
use Rattle.dover_model.proofs.steps.Moves.{says}
use Rattle.dover_model.proofs.lists.Tests.{never}
use Rattle.task_laws.proofs.switches.SectionTicks.{priced, Stands, unblocked_off}
use Rattle.task_laws.proofs.switches.SectionSteps.{Owner, done_finished, owner_then, prompt_then, stands_then}

-- ---- what happens once costs once

-- where none passes, nothing
free : (price : ℕ) (test : Step → Bool) (xs : List Step) → count_by test xs ≤ 0 → sum_by (priced price test) xs ≤ 0
free price test [] none = omega arith
free price test (x ∷ xs) none =
    by_test (test x) (sum_by-cons (λ (y : Step). one_if (test y)) x xs) (sum_by-cons (priced price test) x xs)
    (free price test xs) where
      by_test : (b : Bool) → count_by test (x ∷ xs) ≡ one_if b + count_by test xs
          → sum_by (priced price test) (x ∷ xs) ≡ cond b price 0 + sum_by (priced price test) xs
          → (count_by test xs ≤ 0 → sum_by (priced price test) xs ≤ 0)
          → sum_by (priced price test) (x ∷ xs) ≤ 0
      by_test true counts costs more = let low : count_by test xs ≤ 0 = omega (arith, counts, none) in
          omega (arith, counts, none)
      by_test false counts costs more = let low : count_by test xs ≤ 0 = omega (arith, counts, none) in
          omega (arith, costs, more low)

-- where one passes, no more than once
once_costs : (price : ℕ) (test : Step → Bool) (xs : List Step) → count_by test xs ≤ 1
    → sum_by (priced price test) xs ≤ price
once_costs price test [] few = omega arith
once_costs price test (x ∷ xs) few =
    by_test (test x) (sum_by-cons (λ (y : Step). one_if (test y)) x xs) (sum_by-cons (priced price test) x xs)
    (once_costs price test xs) (free price test xs) where
      by_test : (b : Bool) → count_by test (x ∷ xs) ≡ one_if b + count_by test xs
          → sum_by (priced price test) (x ∷ xs) ≡ cond b price 0 + sum_by (priced price test) xs
          → (count_by test xs ≤ 1 → sum_by (priced price test) xs ≤ price)
          → (count_by test xs ≤ 0 → sum_by (priced price test) xs ≤ 0)
          → sum_by (priced price test) (x ∷ xs) ≤ price
      by_test true counts costs more none = let low : count_by test xs ≤ 0 = omega (arith, counts, few) in
          omega (arith, costs, none low)
      by_test false counts costs more none = let low : count_by test xs ≤ 1 = omega (arith, counts, few) in
          omega (arith, costs, more low)

module _ (k : Sections) (within : AreSections k) (start take : ℕ → ℕ) (J : Instance) (valid : IsValid J)
    (paid : ArePaid J k start take) where
  -- along a run
  finished_from_state : (xs : List Step) (s : State) → Keeps J s → (r : Real) → Stands k within start take s r xs
      → Owner k within start take J valid paid s.clock s.tasks r → IsPrompt s → SaysDone k r xs
      → IsWholeRun J.rules s xs → AreFinished k r xs
  finished_from_state [] s keeps r stands owner prompt says whole = tt
  finished_from_state (x ∷ xs) s keeps r stands owner prompt says whole =
      subst (λ y. AreFinished k r (y ∷ xs)) (sym whole.0) (
        done_finished k within start take J valid paid s keeps r xs here owner prompt rule.0,
        (λ none. here.calm (λ t member runs. never (sym (not_found is_running s.tasks none t member)
            ∙ passes is_running t Running true runs refl))),
        by_end (is_end (step J.rules s)) whole.1 (λ rest. finished_from_state xs (after s (step J.rules s))
            (step_kept J valid s keeps J.rules) (real_after k r (step_at J.rules s))
            (stands_then k within start take J valid paid s keeps r xs here owner prompt rule.0 rule.1)
            (owner_then k within start take J valid paid s keeps r xs here owner prompt rule.0)
            (prompt_then k within start take J valid paid s keeps r xs here owner prompt rule.0)
            rule.2 rest),
      ) where
        here : Stands k within start take s r (step_at J.rules s ∷ xs)
        here = subst (λ y. Stands k within start take s r (y ∷ xs)) whole.0 stands

        rule : SaysDone k r (step_at J.rules s ∷ xs)
        rule = subst (λ y. SaysDone k r (y ∷ xs)) whole.0 says

        by_end : (b : Bool) → MatchBool b (xs ≡ []) (IsWholeRun J.rules (after s (step J.rules s)) xs)
            → (IsWholeRun J.rules (after s (step J.rules s)) xs
            → AreFinished k (real_after k r (step_at J.rules s)) xs)
            → AreFinished k (real_after k r (step_at J.rules s)) xs
        by_end true none more = subst (λ ys. AreFinished k (real_after k r (step_at J.rules s)) ys) (sym none) tt
        by_end false rest more = more rest

  -- at the opening
  opens : Stands k within start take (opening J.jobs) untouched (run J)
  opens = record {
    calm = λ none. within.begins 0;
    few = λ n. omega arith;
    pays = λ t member lives. inl (omega (
      arith,
      once_costs (start t.number) (λ x. is_preempt_of t.number x.move) (run J) (preempts_once J t.number valid),
      once_costs (take t.number) (λ x. is_take_of t.number x.move) (run J) (takes_once J t.number valid),
      sum_plus (priced (start t.number) (λ x. is_preempt_of t.number x.move))
          (priced (take t.number) (λ x. is_take_of t.number x.move)) (run J),
      (come_coming 0 J.jobs t member).1,
      unblocked_off k within start take untouched t
          (passes is_running t Coming false (come_coming 0 J.jobs t member).0 refl),
    ));
  }

  -- each job that the run completes has had all its own work
  pub all_finished : SaysDone k untouched (run J) → AreFinished k untouched (run J)
  all_finished says = finished_from_state (run J) (opening J.jobs) (opening_keeps J) untouched opens
      (λ some. absurd (omega (arith, some, within.begins 0)))
      (λ t m fresh. let comes : t.role ≡ Coming = (come_coming 0 J.jobs t m).0 in
      let e : Coming ≡ Fresh = sym comes ∙ fresh in cc) says (run_is_whole J valid)

-- twice the longest section pays for all
pub all_paid : (J : Instance) (k : Sections) (longest : ℕ) → ((n had : ℕ) → k.inside n had ≤ longest)
    → Each (λ n_j. k.own n_j.0 + 2 * longest ≤ n_j.1.work) (numbered J) → ArePaid J k (λ n. longest) (λ n. longest)
all_paid J k longest short fits = record {
  starts = λ i n had i_member n_member may. short i.0 had;
  takes = λ i n had i_member n_member may. short i.0 had;
  budgets = λ n_j member. omega (arith, fits n_j member);
}
