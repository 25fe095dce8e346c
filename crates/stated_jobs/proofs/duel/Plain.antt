-- The jobs of a duel and their fronts are plain.
use Rattle.std.proofs.Common.{◌≡◌, ℕ, ◌+◌, ◌*◌, ◌≤◌, ◌<◌, ◌⊎◌, inl, inr, List, [], ◌∷◌, ◌++◌, cond, refl, sym, ap, ◌∙◌}
use Rattle.std.proofs.Common.{arith, Bool, true, false, IsTrue, nat_le, sum}
use Rattle.std.specs.List.{AllByRecursion}
use Rattle.std.proofs.lemmas.Bool.{cases_lt, lt-leb}
use Rattle.std.proofs.lemmas.Nat.{mul-le}
use Rattle.dover_model.specs.Common.{JobFacts, Fraction, known_at, tight_job, is_within_ratio}
use Rattle.dover_model.proofs.valid.Valid.{all_from}
use Rattle.stated_jobs.specs.duel.Jobs.{smalls}
use Rattle.stated_jobs.specs.duel.Game.{ArePlain}
use Rattle.stated_jobs.proofs.duel.Phases.{jobs_from, AreTraps}
use Rattle.stated_jobs.proofs.duel.Fronts.{sum_cons, known_one}
use Rattle.dover_model.proofs.valid.ValidParts.{IsWithinRatio, is_within_ratio-agrees, ReleasesInOrder, order_from}

record IsPiece (k : Fraction) (j : JobFacts) : Type 0 where
  some : 1 ≤ j.work
  due : j.deadline ≡ j.release + j.work
  least : k.q * j.work ≤ j.value
  most : j.value ≤ k.p * j.work

within : (k : Fraction) (i j : JobFacts) → IsPiece k i → IsPiece k j → IsWithinRatio k i j
within k i j one other =
    let up : (k.q * j.work) * i.value ≤ (k.q * j.work) * (k.p * i.work) =
    mul-le (k.q * j.work) i.value (k.q * j.work) (k.p * i.work) (omega arith) one.most in
    let down : (k.p * i.work) * (k.q * j.work) ≤ (k.p * i.work) * j.value =
    mul-le (k.p * i.work) (k.q * j.work) (k.p * i.work) j.value (omega arith) other.least in
    omega (arith, up, down)

plain_of : (k : Fraction) (jobs : List JobFacts) → AllByRecursion (IsPiece k) jobs → ReleasesInOrder jobs
    → ArePlain k jobs
plain_of k jobs all order = record {
  some = all_from (IsPiece k) (λ j. 1 ≤ j.work) jobs (λ j it. it.some) all;
  windows = all_from (IsPiece k) (λ j. j.release + j.work ≤ j.deadline) jobs (λ j it. omega (arith, it.due)) all;
  in_order = order_from order;
  densities = all_from (IsPiece k) (λ i. AllByRecursion (λ j. IsTrue (is_within_ratio k i j)) jobs) jobs
      (λ i one. all_from (IsPiece k) (λ j. IsTrue (is_within_ratio k i j)) jobs
      (λ j other. (is_within_ratio-agrees k i j).1 (within k i j one other)) all) all;
}

-- ---- what is known keeps what each has

all_known : (fact : JobFacts → Type 0) (t : ℕ) (jobs : List JobFacts) → AllByRecursion fact jobs
    → AllByRecursion fact (known_at t jobs)
all_known fact t [] all = tt
all_known fact t (j ∷ jobs) all = by_test (nat_le j.release t) (all_known fact t jobs all.1) where
  by_test : (b : Bool) → AllByRecursion fact (known_at t jobs)
      → AllByRecursion fact (cond b (j ∷ known_at t jobs) (known_at t jobs))
  by_test true rest = (all.0, rest)
  by_test false rest = rest

order_known : (t : ℕ) (jobs : List JobFacts) → ReleasesInOrder jobs → ReleasesInOrder (known_at t jobs)
order_known t [] order = tt
order_known t (j ∷ jobs) order = by_test (nat_le j.release t) (order_known t jobs order.1) where
  by_test : (b : Bool) → ReleasesInOrder (known_at t jobs) → ReleasesInOrder
      (cond b (j ∷ known_at t jobs) (known_at t jobs))
  by_test true rest = (all_known (λ later. j.release ≤ later.release) t jobs order.0, rest)
  by_test false rest = rest

-- what is known at a tick is known of what is known later
pub known_before : (t later : ℕ) (jobs : List JobFacts) → t ≤ later → known_at t (known_at later jobs) ≡ known_at t jobs
known_before t later [] before = refl
known_before t later (j ∷ jobs) before = by_order (cases_lt later j.release) (cases_lt t j.release)
    (known_before t later jobs before) where
      later_off : later < j.release → known_at later (j ∷ jobs) ≡ known_at later jobs
      later_off late = ap (λ c. cond c (j ∷ known_at later jobs) (known_at later jobs)) (lt-leb j.release later late)

      off : (js : List JobFacts) → t < j.release → known_at t (j ∷ js) ≡ known_at t js
      off js late = ap (λ c. cond c (j ∷ known_at t js) (known_at t js)) (lt-leb j.release t late)

      by_order : (later < j.release) ⊎ (j.release ≤ later) → (t < j.release) ⊎ (j.release ≤ t)
          → known_at t (known_at later jobs) ≡ known_at t jobs
          → known_at t (known_at later (j ∷ jobs)) ≡ known_at t (j ∷ jobs)
      by_order (inl late) other rest = ap (λ js. known_at t js) (later_off late) ∙ rest
          ∙ sym (off jobs (omega (arith, late, before)))
      by_order (inr early) (inl late) rest = ap (λ js. known_at t js) (known_one later j jobs early)
          ∙ off (known_at later jobs) late ∙ rest ∙ sym (off jobs late)
      by_order (inr early) (inr here) rest = ap (λ js. known_at t js) (known_one later j jobs early)
          ∙ known_one t j (known_at later jobs) here ∙ ap (λ js. j ∷ js) rest ∙ sym (known_one t j jobs here)

-- ---- the jobs of a duel

all_append : (fact : JobFacts → Type 0) (xs ys : List JobFacts) → AllByRecursion fact xs → AllByRecursion fact ys
    → AllByRecursion fact (xs ++ ys)
all_append fact [] ys front rest = rest
all_append fact (x ∷ xs) ys front rest = (front.0, all_append fact xs ys front.1 rest)

piece : (k : Fraction) (t w d : ℕ) → 1 ≤ w → k.q ≤ d → d ≤ k.p → IsPiece k (tight_job t w d)
piece k t w d some least most = record {
  some = some;
  due = refl;
  least = mul-le k.q w d w least (omega arith);
  most = mul-le d w k.p w most (omega arith);
}

module _ (k : Fraction) (ratio : k.q ≤ k.p) (a b : ℕ) where
  small_pieces : (t m : ℕ) (gs : List ℕ) → AllByRecursion (λ g. (1 ≤ g) × (a * (k.p * g) < m)) gs
      → AllByRecursion (IsPiece k) (smalls k.p t gs)
  small_pieces t m [] all = tt
  small_pieces t m (g ∷ gs) all = (piece k t g k.p all.0.0 ratio (omega arith), small_pieces (t + g) m gs all.1)

  pieces : (t : ℕ) (phases : List (List ℕ)) (last : ℕ) → AreTraps k.p k.q a b t phases last
      → AllByRecursion (IsPiece k) (jobs_from k.p k.q t phases last)
  pieces t [] last traps = (piece k t last k.q traps.0 (omega arith) ratio, tt)
  pieces t (gs ∷ rest) last traps = (
    piece k t (sum gs + 1) k.q (omega arith) (omega arith) ratio,
    all_append (IsPiece k) (smalls k.p t gs) (jobs_from k.p k.q (t + sum gs) rest last)
        (small_pieces t (b * (k.p * t + k.q * (sum gs + 1))) gs traps.0) (pieces (t + sum gs) rest last traps.3),
  )

  smalls_after : (r t : ℕ) (gs : List ℕ) (ys : List JobFacts) → r ≤ t
      → AllByRecursion (λ j. r ≤ j.release) ys → AllByRecursion (λ j. r ≤ j.release) (smalls k.p t gs ++ ys)
  smalls_after r t [] ys less rest = rest
  smalls_after r t (g ∷ gs) ys less rest = (less, smalls_after r (t + g) gs ys (omega (arith, less)) rest)

  after : (r t : ℕ) (phases : List (List ℕ)) (last : ℕ) → r ≤ t
      → AllByRecursion (λ j. r ≤ j.release) (jobs_from k.p k.q t phases last)
  after r t [] last less = (less, tt)
  after r t (gs ∷ rest) last less = (
    less,
    smalls_after _ _ _ _ less (after r (t + sum gs) rest last (omega (arith, less))),
  )

  smalls_order : (t : ℕ) (gs : List ℕ) (phases : List (List ℕ)) (u last : ℕ) → t + sum gs ≤ u
      → ReleasesInOrder (jobs_from k.p k.q u phases last) → ReleasesInOrder
      (smalls k.p t gs ++ jobs_from k.p k.q u phases last)
  smalls_order t [] phases u last less order = order
  smalls_order t (g ∷ gs) phases u last less order = (
    smalls_after _ _ _ _ (omega arith) (after t u phases last (omega (arith, less))),
    smalls_order (t + g) gs phases u last
        (level (sum (g ∷ gs)) (sum gs) (sum_cons g gs) less) order,
  ) where
    level : (all rest : ℕ) → all ≡ g + rest → t + all ≤ u → t + g + rest ≤ u
    level all rest is less = omega (arith, is, less)

  pub order : (t : ℕ) (phases : List (List ℕ)) (last : ℕ) → ReleasesInOrder (jobs_from k.p k.q t phases last)
  order t [] last = (tt, tt)
  order t (gs ∷ rest) last = (
    smalls_after _ _ _ _ (omega arith) (after t (t + sum gs) rest last (omega arith)),
    smalls_order t gs rest (t + sum gs) last (omega arith)
        (order (t + sum gs) rest last),
  )

  pub plain_whole : (phases : List (List ℕ)) (last : ℕ) → AreTraps k.p k.q a b 0 phases last
      → ArePlain k (jobs_from k.p k.q 0 phases last)
  plain_whole phases last traps = plain_of _ _ (pieces 0 phases last traps) (order 0 phases last)

  pub plain_front : (phases : List (List ℕ)) (last tick : ℕ) → AreTraps k.p k.q a b 0 phases last
      → ArePlain k (known_at tick (jobs_from k.p k.q 0 phases last))
  plain_front phases last tick traps = plain_of k (known_at tick (jobs_from k.p k.q 0 phases last))
      (all_known (IsPiece k) tick (jobs_from k.p k.q 0 phases last) (pieces 0 phases last traps))
      (order_known tick (jobs_from k.p k.q 0 phases last) (order 0 phases last))
