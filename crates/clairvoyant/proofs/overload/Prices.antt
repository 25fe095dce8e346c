-- What a schedule gives to the jobs inside a window.
use Rattle.std.proofs.Common.{◌≡◌, ℕ, ◌-◌, ◌*◌, ◌≤◌, List, [], ◌∷◌, drop, take, refl, Bool, true, false, cond, eqb}
use Rattle.std.proofs.Common.{arith, IsTrue, ap, nat_le, sum_by, count_by, leb-true, length-drop, length-take}
use Rattle.std.specs.List.{enumerate_from}
use Rattle.std.proofs.lemmas.Bool.{and_parts}
use Rattle.std.proofs.lemmas.List.Sums.{sum_by-cons}
use Rattle.dover_model.specs.Common.{JobFacts, ticks_given, is_served, is_inside, Job}
use Rattle.dover_model.proofs.lists.Members.{sum_le}
use Rattle.dover_model.proofs.runs.Serving.{given_less, one_name_per_tick}

-- the work of a job that the schedule serves
abbrev pub work_served : List ℕ → Job → ℕ
work_served s n_j = cond (is_served s n_j) n_j.1.work 0

-- a served job inside a window has its work from it
from_window : (s : List ℕ) (a b : ℕ) (n_j : Job) → IsTrue (is_inside a b n_j.1)
    → work_served s n_j ≤ count_by (λ m. eqb m n_j.0) (drop a (take b s))
from_window s a b n_j inside = (elim (is_served s n_j) as (λ c. is_served s n_j ≡ c → cond c n_j.1.work 0 ≤ count_by
    (λ m. eqb m n_j.0) (drop a (take b s))) [
      | false ↦ λ out. omega arith
      | true ↦ λ served. let both : (nat_le a n_j.1.release ≡ true) × (nat_le n_j.1.deadline b ≡ true) =
          and_parts (nat_le a n_j.1.release) (nat_le n_j.1.deadline b) inside in
          let enough : n_j.1.work ≤ ticks_given s n_j.0 n_j.1 = leb-true _ _ served in
          omega (
            arith,
            enough,
            given_less (λ m. eqb m n_j.0) s n_j.1.release n_j.1.deadline a b (leb-true _ _ both.0)
                (leb-true _ _ both.1),
          )
    ]) refl

-- the served jobs inside a window have no more work than it has ticks
pub fit_inside : (jobs : List JobFacts) (s : List ℕ) (a b : ℕ)
    → sum_by (λ n_j. cond (is_inside a b n_j.1) (work_served s n_j) 0) (enumerate_from 0 jobs) ≤ b - a
fit_inside jobs s a b =
    let less : sum_by (λ n_j. cond (is_inside a b n_j.1) (work_served s n_j) 0) (enumerate_from 0 jobs) ≤ sum_by
    (λ n_j. count_by (λ m. eqb m n_j.0) (drop a (take b s))) (enumerate_from 0 jobs) =
    sum_le (λ n_j. cond (is_inside a b n_j.1) (work_served s n_j) 0)
    (λ n_j. count_by (λ m. eqb m n_j.0) (drop a (take b s))) (enumerate_from 0 jobs)
    (λ n_j member. by_test n_j (is_inside a b n_j.1) refl) in
    omega (
      arith,
      less,
      one_name_per_tick (drop a (take b s)) 0 jobs,
      length-drop a (take b s),
      length-take b s,
    ) where
      by_test : (n_j : Job) (c : Bool) → is_inside a b n_j.1 ≡ c
          → cond c (work_served s n_j) 0 ≤ count_by (λ m. eqb m n_j.0) (drop a (take b s))
      by_test n_j false out = omega arith
      by_test n_j true inside = from_window s a b n_j inside

-- a factor goes through a sum
pub sum_times : {X : Type 0} (k : ℕ) (f : X → ℕ) (xs : List X) → sum_by (λ x. k * f x) xs ≡ k * sum_by f xs
sum_times k f [] = (let none : 0 ≡ k * 0 = omega arith in none)
sum_times k f (x ∷ xs) = omega (
  arith,
  sum_by-cons (λ y. k * f y) x xs,
  ap (λ n. k * n) (sum_by-cons f x xs),
  sum_times k f xs,
)
