-- How many jobs of one task can stop a job: as many as are released in a part of its window.
use Rattle.std.proofs.Common.{◌≡◌, ℕ, zero, suc, ◌+◌, ◌-◌, ◌*◌, ◌≤◌, ◌<◌, List, [], ◌∷◌, map, refl, ap, ◌∙◌, Bool, true}
use Rattle.std.proofs.Common.{false, arith, ◌&&◌, nat_le, nat_lt, count_by, le-leb, leb-true, lt-ltb, ltb-true}
use Rattle.std.proofs.lemmas.Bool.{and_parts, and_from}
use Rattle.std.proofs.lemmas.List.Sums.{sum_by-cons}
use Rattle.std.proofs.Math.Nat.{mul-le-mul_left}
use Rattle.dover_model.specs.Common.{Fraction, JobFacts, is_heavy, Each, one_if}
use Rattle.task_laws.specs.Switches.{may_preempt, may_take, AreOfTask}
use Rattle.task_laws.specs.Switches.{AreSpaced}
use Rattle.dover_model.proofs.lists.Members.{sum_le, sum_map}
use Rattle.dover_model.proofs.lists.Tests.{never}

-- a tick from a on and before b
abbrev pub within : ℕ → ℕ → ℕ → Bool
within a b r = nat_le a r && nat_lt r b

-- a test that implies another counts no more
pub implied : (p q : Bool) → (p ≡ true → q ≡ true) → one_if p ≤ one_if q
implied false q then = omega arith
implied true true then = omega arith
implied true false then = never (then refl)

-- both hold
pub both_hold : (a b r : ℕ) → a ≤ r → r < b → within a b r ≡ true
both_hold a b r low high = and_from (nat_le a r) (nat_lt r b) (le-leb _ _ low) (lt-ltb _ _ high)

-- ticks that are spaced: few of them lie in a stretch
pub few_come : (distance a b : ℕ) (rs : List ℕ) → 1 ≤ distance → AreSpaced distance rs
    → distance * count_by (within a b) rs ≤ (b - a) + (distance - 1)
few_come distance a b [] some spaced = omega arith
few_come distance a b (r ∷ rs) some spaced =
    by_test (within a b r) refl (sum_by-cons (λ x. one_if (within a b x)) r rs)
    (few_come distance a b rs some spaced.1) (few_come distance (r + distance) b rs some spaced.1)
    (sum_le (λ x. one_if (within a b x)) (λ x. one_if (within (r + distance) b x)) rs
    (λ x member. implied (within a b x) (within (r + distance) b x)
    (λ is_in. both_hold (r + distance) b x (spaced.0 x member)
    (ltb-true _ _ (and_parts (nat_le a x) (nat_lt x b) is_in).1)))) where
      by_test : (c : Bool) → within a b r ≡ c
          → count_by (within a b) (r ∷ rs) ≡ one_if (within a b r) + count_by (within a b) rs
          → distance * count_by (within a b) rs ≤ (b - a) + (distance - 1)
          → distance * count_by (within (r + distance) b) rs ≤ (b - (r + distance)) + (distance - 1)
          → count_by (within a b) rs ≤ count_by (within (r + distance) b) rs
          → distance * count_by (within a b) (r ∷ rs) ≤ (b - a) + (distance - 1)
      by_test false e counts here later less = omega (
        arith,
        ap (λ n. distance * n) (counts ∙ ap (λ c. one_if c
            + count_by (within a b) rs) e),
        here,
      )
      by_test true e counts here later less =
          let low : a ≤ r = leb-true _ _ (and_parts (nat_le a r) (nat_lt r b) e).0 in
          let high : r < b = ltb-true _ _ (and_parts (nat_le a r) (nat_lt r b) e).1 in
          let times : distance * count_by (within a b) rs ≤ distance * count_by (within (r + distance) b) rs =
          mul-le-mul_left distance less in
          let whole : distance * count_by (within a b) (r ∷ rs) ≡ distance * (1 + count_by (within a b) rs) =
          ap (λ n. distance * n) (counts ∙ ap (λ c. one_if c + count_by (within a b) rs) e) in
          by_count (count_by (within (r + distance) b) rs) later times whole low high where
            by_count : (n : ℕ) → distance * n ≤ (b - (r + distance)) + (distance - 1)
                → distance * count_by (within a b) rs ≤ distance * n
                → distance * count_by (within a b) (r ∷ rs) ≡ distance * (1 + count_by (within a b) rs)
                → a ≤ r → r < b
                → distance * count_by (within a b) (r ∷ rs) ≤ (b - a) + (distance - 1)
            by_count zero later times whole low high = omega arith
            by_count (suc n) later times whole low high =
                let once : distance * 1 ≤ distance * suc n =
                mul-le-mul_left distance (omega arith)
                in omega arith

module _ (i : JobFacts) (distance due : ℕ) (jobs : List (ℕ × JobFacts)) (some : 1 ≤ distance)
    (task : AreOfTask distance due jobs) where
  -- a count over the jobs is one over their releases
  pub in_stretch : (test : ℕ × JobFacts → Bool) (a b : ℕ)
      → Each (λ n_j. test n_j ≡ true → (a ≤ n_j.1.release) × (n_j.1.release < b)) jobs
      → distance * count_by test jobs ≤ (b - a) + (distance - 1)
  in_stretch test a b all =
      let less : count_by test jobs ≤ count_by (within a b) (map (λ n_j. n_j.1.release) jobs) =
      omega (
        arith,
        sum_le (λ n_j. one_if (test n_j)) (λ n_j. one_if (within a b n_j.1.release)) jobs
            (λ n_j member. implied (test n_j) (within a b n_j.1.release)
            (λ e. both_hold a b n_j.1.release (all n_j member e).0 (all n_j member e).1)),
        sum_map (λ (n_j : ℕ × JobFacts). n_j.1.release) (λ r. one_if (within a b r)) jobs,
      ) in
      let times : distance * count_by test jobs ≤ distance * count_by (within a b) (map (λ n_j. n_j.1.release) jobs) =
      mul-le-mul_left distance less in
      omega (arith, times, few_come distance a b (map (λ n_j. n_j.1.release) jobs) some task.spaced)

  -- few of them may preempt the job
  pub few_of_task_preempt : distance * count_by (may_preempt i) jobs
      ≤ (i.deadline - (i.release + due)) + (distance - 1)
  few_of_task_preempt = omega (
    arith,
    in_stretch (may_preempt i) i.release (i.deadline - due)
        (λ n_j member e.
        let low : i.release ≤ n_j.1.release =
        leb-true _ _ (and_parts (nat_le i.release n_j.1.release) (nat_lt n_j.1.deadline i.deadline) e).0 in
        let high : n_j.1.deadline < i.deadline =
        ltb-true _ _ (and_parts (nat_le i.release n_j.1.release) (nat_lt n_j.1.deadline i.deadline) e).1 in
        let is_due : n_j.1.deadline ≡ n_j.1.release + due = task.ends n_j member in (low, omega arith)),
  )

  -- few of them may take the processor from it
  pub few_of_task_take : (k : Fraction) → distance * count_by (may_take k i) jobs
      ≤ (i.deadline + due - (i.release + 1)) + (distance - 1)
  few_of_task_take k = omega (
    arith,
    in_stretch (may_take k i) (i.release + 1 - due) i.deadline
        (λ n_j member e.
        let parts : ((is_heavy k n_j.1.value i.value && nat_lt n_j.1.release i.deadline) ≡ true)
        × (nat_lt i.release n_j.1.deadline ≡ true) =
        and_parts (is_heavy k n_j.1.value i.value && nat_lt n_j.1.release i.deadline)
        (nat_lt i.release n_j.1.deadline) e in
        let high : n_j.1.release < i.deadline =
        ltb-true _ _ (and_parts (is_heavy k n_j.1.value i.value) (nat_lt n_j.1.release i.deadline) parts.0).1 in
        let low : i.release < n_j.1.deadline = ltb-true _ _ parts.1 in
        let is_due : n_j.1.deadline ≡ n_j.1.release + due = task.ends n_j member in (omega arith, high)),
  )
