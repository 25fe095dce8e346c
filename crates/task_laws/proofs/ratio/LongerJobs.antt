-- A schedule of jobs that need no less is worth no more.
use Rattle.std.proofs.Common.{◌≡◌, ℕ, ◌+◌, ◌≤◌, List, [], ◌∷◌, refl, sym, ◌∙◌, Bool, true, false, cond, arith, eqb}
use Rattle.std.proofs.Common.{nat_le, sum_by, le-leb, leb-true}
use Rattle.std.specs.List.{enumerate_from}
use Rattle.std.proofs.lemmas.List.Sums.{sum_by-cons}
use Rattle.dover_model.specs.Common.{JobFacts, Instance, IsValid, ticks_given, earned, worth, completed_value, IsWithin}
use Rattle.task_laws.specs.Switches.{NeedNoLess}
use Rattle.dover_model.proofs.runs.Serving.{given_less}
use Rattle.dover_model.proofs.bound.Calculus.{within_less}
use Rattle.dover_model.proofs.bound.BoundLaws.{bound}
use Rattle.dover_model.proofs.lists.Tests.{never}

-- what is earned by a job that is harder to serve
earned_less : (s : List ℕ) (n : ℕ) (i j : JobFacts) → j.release ≤ i.release → i.deadline ≤ j.deadline
    → j.work ≤ i.work → i.value ≤ j.value
    → earned s (n, i) ≤ earned s (n, j)
earned_less s n i j released due works values =
    by_tests (nat_le i.work (ticks_given s n i)) (nat_le j.work (ticks_given s n j)) refl refl where
      by_tests : (a b : Bool) → nat_le i.work (ticks_given s n i) ≡ a → nat_le j.work (ticks_given s n j) ≡ b
          → cond a i.value 0 ≤ cond b j.value 0
      by_tests false b e f = omega arith
      by_tests true true e f = values
      by_tests true false e f = never (sym f ∙ le-leb _ _ (omega (
        arith,
        leb-true _ _ e,
        given_less (λ m. eqb m n) s i.release i.deadline j.release j.deadline released due,
      )))

-- and by all of them
all_earned_less : (s : List ℕ) (k : ℕ) (is js : List JobFacts) → NeedNoLess is js
    → sum_by (earned s) (enumerate_from k is) ≤ sum_by (earned s) (enumerate_from k js)
all_earned_less s k [] [] harder = omega arith
all_earned_less s k [] (j ∷ js) harder = absurd harder
all_earned_less s k (i ∷ is) [] harder = absurd harder
all_earned_less s k (i ∷ is) (j ∷ js) harder = omega (
  arith,
  sum_by-cons (earned s) (k, i) (enumerate_from (k + 1) is),
  sum_by-cons (earned s) (k, j) (enumerate_from (k + 1) js),
  earned_less s k i j harder.0 harder.1 harder.2 harder.3,
  all_earned_less s (k + 1) is js harder.4,
)

pub harder_less : (J K : Instance) (s : List ℕ) → NeedNoLess K.jobs J.jobs → worth K s ≤ worth J s
harder_less J K s harder = all_earned_less s 0 K.jobs J.jobs harder

pub harder_bound : (J K : Instance) (s : List ℕ) → IsValid J → NeedNoLess K.jobs J.jobs
    → IsWithin J.rules.ratio (worth K s) (completed_value J)
harder_bound J K s valid harder =
    within_less J.rules.ratio (worth K s) (worth J s) (completed_value J) (harder_less J K s harder) (bound J s valid)
