-- How many ticks of a schedule that grows a number gets.
use Rattle.std.proofs.Common.{◌≡◌, ℕ, zero, suc, ◌+◌, ◌*◌, ◌-◌, ◌≤◌, List, [], ◌∷◌, ◌++◌, length, take, drop, replicate}
use Rattle.std.proofs.Common.{refl, ap, ◌∙◌, Bool, false, cond, eqb, arith, count_by, eq-eqb, ne_eqb, take_all}
use Rattle.std.proofs.lemmas.List.{drop-append-le, drop-replicate, drop_all}
use Rattle.std.proofs.lemmas.List.Sums.{sum_by-cons, sum_by-append}
use Rattle.std.proofs.lemmas.List.Folds.{sum_by-replicate}
use Rattle.dover_model.proofs.runs.Serving.{given, given_nil, given_zero}

-- how often a list names the number
abbrev pub named : ℕ → List ℕ → ℕ
named n s = count_by (λ m. eqb m n) s

-- a run of this number
named_run : (n k : ℕ) → named n (replicate k n) ≡ k
named_run n k = sum_by-replicate (λ m. cond (eqb m n) 1 0) k n
    ∙ ap (λ b. k * cond b 1 0) (eq-eqb n n refl) ∙ (let same : k * 1 ≡ k = omega arith in same)

-- a run of another number
named_other : (n m k : ℕ) → (m ≡ n → ⊥) → named n (replicate k m) ≡ 0
named_other n m k other = sum_by-replicate (λ i. cond (eqb i n) 1 0) k m
    ∙ ap (λ b. k * cond b 1 0) (ne_eqb m n other) ∙ (let none : k * 0 ≡ 0 = omega arith in none)

-- a run behind the schedule adds its ticks
pub run_adds : (n r k : ℕ) (s : List ℕ) → r ≤ length s → named n (drop r (s ++ replicate k n)) ≡ named n (drop r s) + k
run_adds n r k s low = ap (named n) (drop-append-le r s (replicate k n) low)
    ∙ sum_by-append (λ m. cond (eqb m n) 1 0) (drop r s) (replicate k n)
    ∙ ap (λ x. named n (drop r s) + x) (named_run n k)

-- a run of another number adds nothing
pub other_adds_none : (n m r k : ℕ) (s : List ℕ) → (m ≡ n → ⊥)
    → named n (drop r (s ++ replicate k m)) ≡ named n (drop r s)
other_adds_none n m zero k s other = sum_by-append (λ i. cond (eqb i n) 1 0) s (replicate k m)
    ∙ (let none : named n (replicate k m) ≡ 0 = named_other n m k other in omega (arith, none))
other_adds_none n m (suc r) k [] other = ap (named n) (drop-replicate (suc r) k m) ∙ named_other n m (k - suc r) other
other_adds_none n m (suc r) k (x ∷ s) other = other_adds_none n m r k s other

-- behind its end a schedule gives nothing
pub none_behind : (n r : ℕ) (s : List ℕ) → length s ≤ r → named n (drop r s) ≡ 0
none_behind n r s late = ap (named n) (drop_all r s late)

-- where the window reaches to the end, it gives what comes from its start on
pub whole_window : (n r d : ℕ) (s : List ℕ) → length s ≤ d → given (λ m. eqb m n) r d s ≡ named n (drop r s)
whole_window n r d s short = ap (λ xs. named n (drop r xs)) (take_all d s short)

-- more ticks give no less
pub given_grows : (p : ℕ → Bool) (r d : ℕ) (s more : List ℕ) → given p r d s ≤ given p r d (s ++ more)
given_grows p r d [] more = omega (arith, given_nil p r d)
given_grows p r zero (x ∷ s) more = omega (arith, given_zero p r (x ∷ s))
given_grows p zero (suc d) (x ∷ s) more = omega (
  arith,
  sum_by-cons (λ n. cond (p n) 1 0) x (take d s),
  sum_by-cons (λ n. cond (p n) 1 0) x (take d (s ++ more)),
  given_grows p 0 d s more,
)
given_grows p (suc r) (suc d) (x ∷ s) more = given_grows p r d s more

-- a run of what isn't counted gives nothing
given_run : (p : ℕ → Bool) (z r d k : ℕ) → p z ≡ false → given p r d (replicate k z) ≡ 0
given_run p z r d zero other = given_nil p r d
given_run p z r zero (suc k) other = given_zero p r (replicate (suc k) z)
given_run p z zero (suc d) (suc k) other = omega (
  arith,
  sum_by-cons (λ n. cond (p n) 1 0) z (take d (replicate k z)),
  ap {B = ℕ} (λ b. cond b 1 0) other,
  given_run p z 0 d k other,
)
given_run p z (suc r) (suc d) (suc k) other = given_run p z r d k other

-- and adds nothing behind a schedule
pub given_without : (p : ℕ → Bool) (z r d k : ℕ) (s : List ℕ) → p z ≡ false
    → given p r d (s ++ replicate k z) ≤ given p r d s
given_without p z r d k [] other = omega (arith, given_run p z r d k other)
given_without p z r zero k (x ∷ s) other = omega (arith, given_zero p r (x ∷ s ++ replicate k z))
given_without p z zero (suc d) k (x ∷ s) other = omega (
  arith,
  sum_by-cons (λ n. cond (p n) 1 0) x (take d s),
  sum_by-cons (λ n. cond (p n) 1 0) x (take d (s ++ replicate k z)),
  given_without p z 0 d k s other,
)
given_without p z (suc r) (suc d) k (x ∷ s) other = given_without p z r d k s other
