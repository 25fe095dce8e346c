-- Densities compare by cross multiplication, and a ratio that the outermost ones keep is kept by all between.
use Rattle.std.proofs.Common.{ℕ, ◌+◌, ◌*◌, ◌≤◌, ◌<◌, ◌⊎◌, inl, inr, arith}
use Rattle.std.proofs.lemmas.Bool.{cases_lt}
use Rattle.std.proofs.lemmas.Nat.{mul-le}
use Rattle.dover_model.specs.JobFacts.{JobFacts}
use Rattle.dover_model.proofs.bound.Calculus.{cancel}
use Rattle.admission.specs.Kept.{IsLessDense}

-- of two, one isn't less dense
pub not_both : (i j : JobFacts) → IsLessDense i j → IsLessDense j i → ⊥
not_both i j one other = absurd (omega arith)

-- what isn't less dense
pub no_less : (i j : JobFacts) → (IsLessDense i j → ⊥) → j.value * i.work ≤ i.value * j.work
no_less i j none = by_order (cases_lt (i.value * j.work) (j.value * i.work)) where
  by_order : ((i.value * j.work) < (j.value * i.work)) ⊎ ((j.value * i.work) ≤ (i.value * j.work))
      → j.value * i.work ≤ i.value * j.work
  by_order (inl less) = absurd (none less)
  by_order (inr more) = more

-- a/b is below c/d, and that is at most e/f
pub chained : (a b c d e f : ℕ) → 1 ≤ f → a * d < c * b → c * f ≤ e * d → a * f < e * b
chained a b c d e f some one other = by_order (cases_lt (a * f) (e * b)) where
  by_order : ((a * f) < (e * b)) ⊎ ((e * b) ≤ (a * f)) → a * f < e * b
  by_order (inl less) = less
  by_order (inr more) =
      absurd (let first : (a * d + 1) * f ≤ (c * b) * f = mul-le (a * d + 1) f (c * b) f (omega arith) (omega arith) in
      let second : (c * f) * b ≤ (e * d) * b = mul-le (c * f) b (e * d) b other (omega arith) in
      let third : (e * b) * d ≤ (a * f) * d = mul-le (e * b) d (a * f) d more (omega arith) in omega arith)

-- what is within p/q times the least density is within it times any
pub within_least : (p q jv jw lv lw xv xw : ℕ) → 1 ≤ lw → lv * xw ≤ xv * lw → q * jv * lw ≤ p * lv * jw
    → q * jv * xw ≤ p * xv * jw
within_least p q jv jw lv lw xv xw some less within =
    let one : (q * jv * lw) * xw ≤ (p * lv * jw) * xw = mul-le (q * jv * lw) xw (p * lv * jw) xw within (omega arith) in
    let two : (p * jw) * (lv * xw) ≤ (p * jw) * (xv * lw) =
    mul-le (p * jw) (lv * xw) (p * jw) (xv * lw) (omega arith) less in
    cancel lw (q * jv * xw) (p * xv * jw) some (omega arith)

-- where the greatest density is within p/q times another, any is
pub within_densest : (p q jv jw dv dw xv xw : ℕ) → 1 ≤ dw → xv * dw ≤ dv * xw → q * dv * jw ≤ p * jv * dw
    → q * xv * jw ≤ p * jv * xw
within_densest p q jv jw dv dw xv xw some less within =
    let one : (q * dv * jw) * xw ≤ (p * jv * dw) * xw = mul-le (q * dv * jw) xw (p * jv * dw) xw within (omega arith) in
    let two : (q * jw) * (xv * dw) ≤ (q * jw) * (dv * xw) =
    mul-le (q * jw) (xv * dw) (q * jw) (dv * xw) (omega arith) less in
    cancel dw (q * xv * jw) (p * jv * xw) some (omega arith)
