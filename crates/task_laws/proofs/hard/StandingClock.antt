-- A clock that stands still in the ticks of hard work, and a schedule by it on the processor.
use Rattle.std.proofs.Common.{◌≡◌, ℕ, zero, suc, ◌+◌, ◌≤◌, ◌<◌, inl, inr, List, [], ◌∷◌, length, refl, sym, ap, ◌∙◌}
use Rattle.std.proofs.Common.{Bool, true, false, cond, arith, eqb, take, drop, nat_le, count_by, sum_by}
use Rattle.std.proofs.Common.{le-leb, leb-true}
use Rattle.std.specs.List.{enumerate_from}
use Rattle.std.proofs.lemmas.List.Sums.{sum_by-cons}
use Rattle.std.proofs.lemmas.Bool.{ne_eqb}
use Rattle.dover_model.specs.Common.{JobFacts, Instance, IsValid, State, ticks_given, earned, worth, one_if, Each}
use Rattle.dover_model.specs.declared.events.Task.{Task}
use Rattle.dover_model.specs.Common.{observed, observing, end_state, completed_value, ran}
use Rattle.task_laws.specs.HardWork.{is_hard, hard_in, ComesAtMost, free_in, stands_at, stretched, AreByClock}
use Rattle.dover_model.proofs.lists.Tests.{never}
use Rattle.dover_model.proofs.runs.Serving.{given_less}
use Rattle.task_laws.proofs.hard.HardWork.{few_ticks}
use Rattle.std.proofs.lemmas.List.{length-map}
use Rattle.dover_model.specs.Common.{opening, jobs_of}
use Rattle.dover_model.proofs.runs.Honest.{whole_outcome, observed_honest}
use Rattle.dover_model.proofs.valid.Limiting.{jobs_most}
use Rattle.dover_model.proofs.valid.ValidParts.{valid_parts}

module _ (comes : ℕ → ℕ) where
  -- each tick is one of hard work, or is left
  free_or_hard : (n from : ℕ) → free_in comes from n + hard_in comes from n ≡ n
  free_or_hard zero from = refl
  free_or_hard (suc n) from = by_test (is_hard comes from) (free_or_hard n (suc from)) where
    by_test : (b : Bool) → free_in comes (suc from) n + hard_in comes (suc from) n ≡ n
        → cond b (free_in comes (suc from) n) (suc (free_in comes (suc from) n))
        + (one_if b + hard_in comes (suc from) n) ≡ suc n
    by_test true e = omega (arith, e)
    by_test false e = omega (arith, e)

  -- what the clock shows later is what it shows, and what is left in between
  later_on : (n m from : ℕ) → free_in comes from (n + m) ≡ free_in comes from n + free_in comes (from + n) m
  later_on zero m from =
      let a : 0 + m ≡ m = omega arith in
      let b : from ≡ from + 0 = omega arith in
      let c : free_in comes from m ≡ free_in comes (from + 0) m = ap (λ x. free_in comes x m) b in
      omega (arith, ap (free_in comes from) a, c)
  later_on (suc n) m from =
      let a : suc n + m ≡ suc (n + m) = omega arith in
      let b : suc from + n ≡ from + suc n = omega arith in
      let more : free_in comes (suc from) (n + m)
      ≡ free_in comes (suc from) n + free_in comes (from + suc n) m =
      later_on n m (suc from) ∙ ap (λ x. free_in comes (suc from) n + free_in comes x m) b in
      ap (free_in comes from) a ∙ by_test (is_hard comes from) more where
        by_test : (b : Bool)
            → free_in comes (suc from) (n + m) ≡ free_in comes (suc from) n + free_in comes (from + suc n) m
            → cond b (free_in comes (suc from) (n + m)) (suc (free_in comes (suc from) (n + m)))
            ≡ cond b (free_in comes (suc from) n) (suc (free_in comes (suc from) n)) + free_in comes (from + suc n) m
        by_test true more = more
        by_test false more = omega (arith, more)

  pub clock_shows : (from n : ℕ) → stands_at comes (from + n) ≡ stands_at comes from + free_in comes from n
  clock_shows from n =
      let a : 0 + from ≡ from = omega arith in
      later_on from n 0 ∙ ap (λ x. free_in comes 0 from + free_in comes x n) a

  -- in any window it goes on
  pub clock_goes_on : (most : ℕ → ℕ) → ComesAtMost most comes → (from length first : ℕ) → first ≤ length
      → first ≤ free_in comes from length + most first
  clock_goes_on most few from length first fits =
      omega (arith, fits, free_or_hard length from, few_ticks most comes few from length first fits)

  module _ (n : ℕ) (some : n < 4_000_000_000) where
    -- how often the number stands in these ticks
    abbrev given : List ℕ → ℕ
    given xs = count_by (λ m. eqb m n) xs

    -- one tick more
    given_more : (m : ℕ) (xs : List ℕ) → given (m ∷ xs) ≡ one_if (eqb m n) + given xs
    given_more m xs = sum_by-cons (λ i. one_if (eqb i n)) m xs

    -- an idle one isn't the number's
    given_idle : (xs : List ℕ) → given (4_000_000_000 ∷ xs) ≡ given xs
    given_idle xs =
        let none : eqb 4_000_000_000 n ≡ false = ne_eqb 4_000_000_000 n (λ same. absurd (omega (arith, same, some))) in
        omega (arith, given_more 4_000_000_000 xs, ap one_if none)

    -- nothing is given in nothing
    none_given : (r d : ℕ) → given (drop r (take d [])) ≡ 0
    none_given zero zero = refl
    none_given zero (suc d) = refl
    none_given (suc r) zero = refl
    none_given (suc r) (suc d) = refl

    -- up to a tick the processor gives what the schedule gives by that clock
    given_up_to : (d ticks from : ℕ) (s : List ℕ) → d ≤ ticks
        → given (take d (stretched comes from ticks s)) ≡ given (take (free_in comes from d) s)
    given_up_to zero ticks from s fits = refl
    given_up_to (suc d) zero from s fits = absurd (omega (arith, fits))
    given_up_to (suc d) (suc ticks) from [] fits =
        given_idle (take d (stretched comes (suc from) ticks []))
        ∙ given_up_to d ticks (suc from) [] (omega (arith, fits))
        ∙ none_given 0 (free_in comes (suc from) d) ∙ sym (none_given 0 (free_in comes from (suc d)))
    given_up_to (suc d) (suc ticks) from (m ∷ s) fits =
        by_test (is_hard comes from) (given_up_to d ticks (suc from) (m ∷ s) (omega (arith, fits)))
        (given_up_to d ticks (suc from) s (omega (arith, fits))) where
          by_test : (b : Bool)
              → given (take d (stretched comes (suc from) ticks (m ∷ s)))
              ≡ given (take (free_in comes (suc from) d) (m ∷ s))
              → given (take d (stretched comes (suc from) ticks s)) ≡ given (take (free_in comes (suc from) d) s)
              → given (take (suc d) (cond b (4_000_000_000 ∷ stretched comes (suc from) ticks (m ∷ s))
              (m ∷ stretched comes (suc from) ticks s)))
              ≡ given (take (cond b (free_in comes (suc from) d) (suc (free_in comes (suc from) d))) (m ∷ s))
          by_test true hard free = given_idle (take d (stretched comes (suc from) ticks (m ∷ s))) ∙ hard
          by_test false hard free = given_more m (take d (stretched comes (suc from) ticks s))
              ∙ ap (λ x. one_if (eqb m n) + x) free ∙ sym (given_more m (take (free_in comes (suc from) d) s))

    -- and so it is in a window
    given_within : (r d ticks from : ℕ) (s : List ℕ) → d ≤ ticks
        → given (drop r (take d (stretched comes from ticks s)))
        ≡ given (drop (free_in comes from r) (take (free_in comes from d) s))
    given_within zero d ticks from s fits = given_up_to d ticks from s fits
    given_within (suc r) zero ticks from s fits = sym (none_left (free_in comes from (suc r)) s) where
      none_left : (k : ℕ) (xs : List ℕ) → given (drop k (take 0 xs)) ≡ 0
      none_left zero xs = refl
      none_left (suc k) xs = refl
    given_within (suc r) (suc d) zero from s fits = absurd (omega (arith, fits))
    given_within (suc r) (suc d) (suc ticks) from [] fits =
        given_within r d ticks (suc from) [] (omega (arith, fits))
        ∙ none_given (free_in comes (suc from) r) (free_in comes (suc from) d)
        ∙ sym (none_given (free_in comes from (suc r)) (free_in comes from (suc d)))
    given_within (suc r) (suc d) (suc ticks) from (m ∷ s) fits =
        by_test (is_hard comes from) (given_within r d ticks (suc from) (m ∷ s) (omega (arith, fits)))
        (given_within r d ticks (suc from) s (omega (arith, fits))) where
          by_test : (b : Bool)
              → given (drop r (take d (stretched comes (suc from) ticks (m ∷ s))))
              ≡ given (drop (free_in comes (suc from) r) (take (free_in comes (suc from) d) (m ∷ s)))
              → given (drop r (take d (stretched comes (suc from) ticks s)))
              ≡ given (drop (free_in comes (suc from) r) (take (free_in comes (suc from) d) s))
              → given (drop (suc r) (take (suc d) (cond b (4_000_000_000 ∷ stretched comes (suc from) ticks (m ∷ s))
              (m ∷ stretched comes (suc from) ticks s))))
              ≡ given (drop (cond b (free_in comes (suc from) r) (suc (free_in comes (suc from) r)))
              (take (cond b (free_in comes (suc from) d) (suc (free_in comes (suc from) d))) (m ∷ s)))
          by_test true hard free = hard
          by_test false hard free = free

  -- a job gets as much in its window on the processor as in its window by the clock
  pub given_by_clock : (s : List ℕ) (n ticks : ℕ) (i j : JobFacts) → n < 4_000_000_000 → j.deadline ≤ ticks
      → i.release ≡ stands_at comes j.release → i.deadline ≤ stands_at comes j.deadline
      → ticks_given s n i ≤ ticks_given (stretched comes 0 ticks s) n j
  given_by_clock s n ticks i j some fits released due = omega (
    arith,
    given_less (λ m. eqb m n) s i.release i.deadline (stands_at comes j.release) (stands_at comes j.deadline)
        (omega (arith, released)) due,
    given_within n some j.release j.deadline ticks 0 s fits,
  )

  -- what is earned by a job of the one is earned by that of the other
  earned_by_clock : (s : List ℕ) (n ticks : ℕ) (i j : JobFacts) → n < 4_000_000_000 → j.deadline ≤ ticks
      → i.release ≡ stands_at comes j.release → i.deadline ≤ stands_at comes j.deadline → j.work ≤ i.work
      → i.value ≤ j.value → earned s (n, i) ≤ earned (stretched comes 0 ticks s) (n, j)
  earned_by_clock s n ticks i j some fits released due works values =
      by_tests (nat_le i.work (ticks_given s n i)) (nat_le j.work (ticks_given (stretched comes 0 ticks s) n j)) refl
      refl where
        by_tests : (a b : Bool) → nat_le i.work (ticks_given s n i) ≡ a
            → nat_le j.work (ticks_given (stretched comes 0 ticks s) n j) ≡ b → cond a i.value 0 ≤ cond b j.value 0
        by_tests false b e f = omega arith
        by_tests true true e f = values
        by_tests true false e f = never (sym f ∙ le-leb _ _ (omega (
          arith,
          works,
          leb-true _ _ e,
          given_by_clock s n ticks i j some fits released due,
        )))

  -- and by all of them
  all_by_clock : (s : List ℕ) (ticks k : ℕ) (is js : List JobFacts) → k + length is ≤ 4_000_000_000
      → AreByClock comes is js → Each (λ j. j.deadline ≤ ticks) js
      → sum_by (earned s) (enumerate_from k is) ≤ sum_by (earned (stretched comes 0 ticks s)) (enumerate_from k js)
  all_by_clock s ticks k [] [] few by_clock fit = omega arith
  all_by_clock s ticks k [] (j ∷ js) few by_clock fit = absurd by_clock
  all_by_clock s ticks k (i ∷ is) [] few by_clock fit = absurd by_clock
  all_by_clock s ticks k (i ∷ is) (j ∷ js) few by_clock fit = omega (
    arith,
    sum_by-cons (earned s) (k, i) (enumerate_from (k + 1) is),
    sum_by-cons (earned (stretched comes 0 ticks s)) (k, j) (enumerate_from (k + 1) js),
    earned_by_clock s k ticks i j (omega (arith, few)) (fit j (inl refl)) by_clock.0 by_clock.1 by_clock.2 by_clock.3,
    all_by_clock s ticks (k + 1) is js (omega (arith, few)) by_clock.4 (λ x member. fit x (inr member)),
  )

  pub worth_by_clock : (s : List ℕ) (ticks : ℕ) (I K : Instance) → IsValid I → AreByClock comes I.jobs K.jobs
      → Each (λ j. j.deadline ≤ ticks) K.jobs → worth I s ≤ worth K (stretched comes 0 ticks s)
  worth_by_clock s ticks I K valid by_clock fit = all_by_clock s ticks 0 I.jobs K.jobs
      (omega (arith, (valid_parts valid).count, jobs_most I.rules.version)) by_clock fit

  -- so what a run by that clock completes it completes on the processor
  pub run_by_clock : (ticks : ℕ) (I K : Instance) → IsValid I → AreByClock comes (observed I).jobs K.jobs
      → Each (λ j. j.deadline ≤ ticks) K.jobs → completed_value I ≤ worth K (stretched comes 0 ticks (ran I))
  run_by_clock ticks I K valid by_clock fit =
      let seen : length (observed I).jobs ≡ length (end_state I).tasks = length-map (end_state I).tasks observing in
      let last : length (end_state I).tasks ≡ length (whole_outcome I valid).last.tasks =
      ap (λ (s : State). length s.tasks) ((whole_outcome I valid).is_last (opening I.jobs)) in
      let jobs : length (jobs_of (whole_outcome I valid).last.tasks) ≡ length I.jobs =
      ap (λ (js : List JobFacts). length js) (whole_outcome I valid).keeps.jobs in
      let all : length (jobs_of (whole_outcome I valid).last.tasks) ≡ length (whole_outcome I valid).last.tasks =
      length-map (whole_outcome I valid).last.tasks (λ (t : Task). t.job) in
      omega (
        arith,
        observed_honest I valid,
        all_by_clock (ran I) ticks 0 (observed I).jobs K.jobs
            (omega (arith, seen, last, jobs, all, (valid_parts valid).count, jobs_most I.rules.version)) by_clock fit,
      )
