-- Counts over the ticks of a schedule, each tick with what it is worth.
use Rattle.std.proofs.Common.{◌≡◌, ℕ, suc, zero, ◌+◌, ◌-◌, ◌*◌, ◌≤◌, ◌<◌, ◌⊎◌, inl, inr, List, [], ◌∷◌, take, refl, sym}
use Rattle.std.proofs.Common.{ap, Bool, true, false, cond, eqb, arith, nat_le, nat_lt, ◌&&◌, sum_by, le-leb, leb-true}
use Rattle.std.proofs.Common.{lt-ltb, ltb-true}
use Rattle.std.proofs.lemmas.Bool.{and_left, and_parts, cases_lt, lt-leb, le-ltb}
use Rattle.std.proofs.lemmas.List.Sums.{sum_by-cons}
use Rattle.std.proofs.Math.Nat.{mul-le-mul_left}
use Rattle.dover_model.specs.Common.{JobFacts, Each, ticks_given, Job}
use Rattle.dover_model.proofs.runs.Serving.{given, given_nil}
use Rattle.dover_model.proofs.lists.Tests.{never}

-- a test as a number
abbrev pub one : Bool → ℕ
one b = cond b 1 0

-- it is none where a number isn't above another, and nowhere else
pub one_none : (a b : ℕ) → a ≤ b → one (nat_lt b a) ≡ 0
one_none a b low = ap one (le-ltb b a low)

pub one_low : (a b : ℕ) → one (nat_lt b a) ≡ 0 → a ≤ b
one_low a b none = by_order (cases_lt b a) where
  by_order : (b < a) ⊎ (a ≤ b) → a ≤ b
  by_order (inr low) = low
  by_order (inl less) = absurd (let bad : one (nat_lt b a) ≡ 1 = ap one (lt-ltb b a less) in omega arith)

-- the sum over the ticks of a schedule, of which the first is t
abbrev pub total : (ℕ → ℕ → ℕ) → ℕ → List ℕ → ℕ
total w t [] = 0
total w t (m ∷ s) = w t m + total w (suc t) s

-- greater at each tick, greater in all
pub total_le : (w v : ℕ → ℕ → ℕ) (t : ℕ) (s : List ℕ) → ((τ m : ℕ) → w τ m ≤ v τ m) → total w t s ≤ total v t s
total_le w v t [] less = omega arith
total_le w v t (m ∷ s) less = omega (arith, less t m, total_le w v (suc t) s less)

-- a sum at each tick
pub total_plus : (w v : ℕ → ℕ → ℕ) (t : ℕ) (s : List ℕ) → total (λ τ m. w τ m + v τ m) t s ≡ total w t s + total v t s
total_plus w v t [] = refl
total_plus w v t (m ∷ s) = omega (arith, total_plus w v (suc t) s)

-- nothing at each tick
pub total_zero : (t : ℕ) (s : List ℕ) → total (λ τ m. 0) t s ≡ 0
total_zero t [] = refl
total_zero t (m ∷ s) = omega (arith, total_zero (suc t) s)

-- totals of some, as one total
pub total_sum : {X : Type 0} (w : X → ℕ → ℕ → ℕ) (xs : List X) (t : ℕ) (s : List ℕ)
    → sum_by (λ x. total (w x) t s) xs ≡ total (λ τ m. sum_by (λ x. w x τ m) xs) t s
total_sum w [] t s = sym (total_zero t s)
total_sum w (x ∷ xs) t s =
    let both : total (λ τ m. sum_by (λ y. w y τ m) (x ∷ xs)) t s ≡ total
    (λ τ m. w x τ m + sum_by (λ y. w y τ m) xs) t s =
    total_same (λ τ m. sum_by (λ y. w y τ m) (x ∷ xs)) (λ τ m. w x τ m + sum_by (λ y. w y τ m) xs) t s
    (λ τ m. sum_by-cons (λ y. w y τ m) x xs) in
    omega (
      arith,
      sum_by-cons (λ y. total (w y) t s) x xs,
      total_sum w xs t s,
      total_plus (w x) (λ τ m. sum_by (λ y. w y τ m) xs) t s,
    ) where
      total_same : (w v : ℕ → ℕ → ℕ) (t : ℕ) (s : List ℕ) → ((τ m : ℕ) → w τ m ≡ v τ m) → total w t s ≡ total v t s
      total_same w v t [] same = refl
      total_same w v t (m ∷ s) same = omega (arith, same t m, total_same w v (suc t) s same)

-- no more ticks before b than their difference
pub range_from : (a b t : ℕ) (s : List ℕ) → total (λ τ m. one (nat_le a τ && nat_lt τ b)) t s ≤ b - t
range_from a b t [] = omega arith
range_from a b t (m ∷ s) = by_end (nat_le a t) (nat_lt t b) refl (range_from a b (suc t) s) where
  by_end : (c d : Bool) → nat_lt t b ≡ d → total (λ τ m. one (nat_le a τ && nat_lt τ b)) (suc t) s ≤ b - suc t
      → one (c && d) + total (λ τ m. one (nat_le a τ && nat_lt τ b)) (suc t) s ≤ b - t
  by_end false d e ih = omega arith
  by_end true false e ih = omega arith
  by_end true true e ih = let less : t < b = ltb-true _ _ e in omega arith

-- no more ticks from a to b than their difference
pub range_count : (a b t : ℕ) (s : List ℕ) → total (λ τ m. one (nat_le a τ && nat_lt τ b)) t s ≤ b - a
range_count a b t [] = omega arith
range_count a b t (m ∷ s) = by_order (cases_lt t a) (range_count a b (suc t) s) where
  by_order : (t < a) ⊎ (a ≤ t) → total (λ τ m. one (nat_le a τ && nat_lt τ b)) (suc t) s ≤ b - a
      → one (nat_le a t && nat_lt t b) + total (λ τ m. one (nat_le a τ && nat_lt τ b)) (suc t) s ≤ b - a
  by_order (inl before) ih = omega (arith, ih, ap one (and_left (nat_le a t) (nat_lt t b) (lt-leb a t before)))
  by_order (inr low) ih = let all : one (nat_le a t && nat_lt t b) + total (λ τ m. one (nat_le a τ && nat_lt τ b))
      (suc t) s ≤ b - t =
      range_from a b t (m ∷ s) in omega arith

-- ---- what jobs are given

-- the tick is in the window of the job
abbrev pub in_window : JobFacts → ℕ → Bool
in_window j τ = nat_le j.release τ && nat_lt τ j.deadline

-- what the schedule gives to a job in its window, each tick with what it is worth
abbrev pub share_of : (ℕ → ℕ) → List ℕ → Job → ℕ
share_of c s n_j = total (λ τ m. cond (eqb m n_j.0) (cond (in_window n_j.1 τ) (c τ) 0) 0) 0 s

-- what is given in a window is given to the job
pub given_share : (s : List ℕ) (n : ℕ) (j : JobFacts) → ticks_given s n j ≤ share_of (λ τ. 1) s (n, j)
given_share s n j = shift s 0 j.release j.deadline (omega arith) (omega arith) where
  shift : (s : List ℕ) (t r d : ℕ) → j.release ≤ t + r → t + d ≤ j.deadline
      → given (λ m. eqb m n) r d s ≤ total (λ τ m. cond (eqb m n) (cond (in_window j τ) 1 0) 0) t s
  shift [] t r d low high = omega (arith, given_nil (λ m. eqb m n) r d)
  shift (x ∷ s) t zero zero low high = omega arith
  shift (x ∷ s) t (suc r) zero low high = omega arith
  shift (x ∷ s) t zero (suc d) low high =
      omega (
        arith,
        sum_by-cons (λ m. cond (eqb m n) 1 0) x (take d s),
        here (eqb x n) (nat_le j.release t) (nat_lt t j.deadline)
            (le-leb _ _ (omega arith)) (lt-ltb _ _ (omega arith)),
        shift s (suc t) zero d (omega arith) (omega arith),
      ) where
        here : (a b c : Bool) → b ≡ true → c ≡ true → cond a 1 0 ≤ cond a (cond (b && c) 1 0) 0
        here false b c e f = omega arith
        here true true true e f = omega arith
        here true true false e f = never f
        here true false c e f = never e
  shift (x ∷ s) t (suc r) (suc d) low high =
      let rest : given (λ m. eqb m n) r d s ≤ total (λ τ m. cond (eqb m n) (cond (in_window j τ) 1 0) 0) (suc t) s =
      shift s (suc t) r d (omega arith) (omega arith) in omega arith

-- greater in the window, greater share
pub share_le : (b c d : ℕ → ℕ) (s : List ℕ) (n_j : Job)
    → ((τ : ℕ) → n_j.1.release ≤ τ → τ < n_j.1.deadline → b τ ≤ c τ + d τ)
    → share_of b s n_j ≤ share_of c s n_j + share_of d s n_j
share_le b c d s n_j less =
    let whole : share_of b s n_j ≤ total
    (λ τ m. cond (eqb m n_j.0) (cond (in_window n_j.1 τ) (c τ) 0) 0 + cond (eqb m n_j.0)
    (cond (in_window n_j.1 τ) (d τ) 0) 0) 0 s =
    total_le (λ τ m. cond (eqb m n_j.0) (cond (in_window n_j.1 τ) (b τ) 0) 0)
    (λ τ m. cond (eqb m n_j.0) (cond (in_window n_j.1 τ) (c τ) 0) 0 + cond (eqb m n_j.0)
    (cond (in_window n_j.1 τ) (d τ) 0) 0) 0 s
    (λ τ m. at τ (eqb m n_j.0) (in_window n_j.1 τ) refl) in
    omega (
      arith,
      total_plus (λ τ m. cond (eqb m n_j.0) (cond (in_window n_j.1 τ) (c τ) 0) 0)
          (λ τ m. cond (eqb m n_j.0) (cond (in_window n_j.1 τ) (d τ) 0) 0) 0 s,
    ) where
      at : (τ : ℕ) (x y : Bool) → in_window n_j.1 τ ≡ y
          → cond x (cond y (b τ) 0) 0 ≤ cond x (cond y (c τ) 0) 0 + cond x (cond y (d τ) 0) 0
      at τ false y e = omega arith
      at τ true false e = omega arith
      at τ true true e =
          let both : (nat_le n_j.1.release τ ≡ true) × (nat_lt τ n_j.1.deadline ≡ true) =
          and_parts (nat_le n_j.1.release τ) (nat_lt τ n_j.1.deadline) e in
          less τ (leb-true _ _ both.0) (ltb-true _ _ both.1)

-- no number names two of the jobs
abbrev pub NamesOnce : List Job → Type 0
NamesOnce jobs = (m : ℕ) → sum_by (λ n_j. one (eqb m n_j.0)) jobs ≤ 1

-- jobs together are given no more than the ticks are worth
pub shares_most : (jobs : List Job) → NamesOnce jobs → (b c : ℕ → ℕ) (s : List ℕ)
    → Each (λ n_j. (τ : ℕ) → n_j.1.release ≤ τ → τ < n_j.1.deadline → b τ ≤ c τ) jobs
    → sum_by (share_of b s) jobs ≤ total (λ τ m. c τ) 0 s
shares_most jobs once b c s less =
    let at_tick : (τ m : ℕ) → sum_by (λ n_j. cond (eqb m n_j.0) (cond (in_window n_j.1 τ) (b τ) 0) 0) jobs ≤ c τ =
    λ τ m. one_gets τ m jobs (less_at τ) (once m) in
    omega (
      arith,
      total_sum (λ (n_j : Job) τ m. cond (eqb m n_j.0) (cond (in_window n_j.1 τ) (b τ) 0) 0) jobs 0 s,
      total_le (λ τ m. sum_by (λ n_j. cond (eqb m n_j.0) (cond (in_window n_j.1 τ) (b τ) 0) 0) jobs)
          (λ τ m. c τ) 0 s at_tick,
    ) where
      less_at : (τ : ℕ) → Each (λ n_j. cond (in_window n_j.1 τ) (b τ) 0 ≤ c τ) jobs
      less_at τ n_j member = by_test (in_window n_j.1 τ) refl where
        by_test : (y : Bool) → in_window n_j.1 τ ≡ y → cond y (b τ) 0 ≤ c τ
        by_test false e = omega arith
        by_test true e =
            let both : (nat_le n_j.1.release τ ≡ true) × (nat_lt τ n_j.1.deadline ≡ true) =
            and_parts (nat_le n_j.1.release τ) (nat_lt τ n_j.1.deadline) e in
            less n_j member τ (leb-true _ _ both.0) (ltb-true _ _ both.1)

      scaled : (xs : List Job) (τ m : ℕ) → Each (λ n_j. cond (in_window n_j.1 τ) (b τ) 0 ≤ c τ) xs
          → sum_by (λ n_j. cond (eqb m n_j.0) (cond (in_window n_j.1 τ) (b τ) 0) 0) xs ≤ c τ * sum_by
          (λ n_j. one (eqb m n_j.0)) xs
      scaled [] τ m all = omega arith
      scaled (x ∷ xs) τ m all = omega (
        arith,
        sum_by-cons (λ n_j. cond (eqb m n_j.0) (cond (in_window n_j.1 τ) (b τ) 0) 0) x xs,
        ap (λ n. c τ * n) (sum_by-cons (λ n_j. one (eqb m n_j.0)) x xs),
        scaled xs τ m (λ y member. all y (inr member)),
        at (eqb m x.0) (all x (inl refl)),
      ) where
        at : (e : Bool) → cond (in_window x.1 τ) (b τ) 0 ≤ c τ → cond e (cond (in_window x.1 τ) (b τ) 0) 0 ≤ c τ * one e
        at true low = omega arith
        at false low = omega arith

      one_gets : (τ m : ℕ) (xs : List Job) → Each (λ n_j. cond (in_window n_j.1 τ) (b τ) 0 ≤ c τ) xs
          → sum_by (λ n_j. one (eqb m n_j.0)) xs ≤ 1
          → sum_by (λ n_j. cond (eqb m n_j.0) (cond (in_window n_j.1 τ) (b τ) 0) 0) xs ≤ c τ
      one_gets τ m xs low single = omega
          (arith, scaled xs τ m low, mul-le-mul_left (c τ) single)
