-- The numbers of the bound by a factor are small.
use Rattle.std.proofs.Common.{ℕ, ◌+◌, ◌-◌, ◌*◌, ◌/◌, ◌≤◌, ◌^◌, IsTrue, arith, max}
use Rattle.std.specs.Prelude.{Some}
use Rattle.std.proofs.lemmas.Nat.{mul-le}
use Rattle.std.proofs.Math.Nat.{mul-div-le, max-le}
use Rattle.dover_model.specs.declared.factors.Factor.{Factor}
use Rattle.dover_model.specs.Common.{Fraction, IsRatio, is_some_factor, scale, share}
use Rattle.dover_model.proofs.bound.Calculus.{cancel}
use Rattle.dover_model.proofs.bound.GreatestLaws.{scale_some}
use Rattle.dover_model.proofs.valid.JobLimits.{ratio_limits, FactorLimits, factor_limits}

-- so many times the ratio and the factor is no great number
few : (p q b c e : ℕ) → p ≤ 1_000_000 → q ≤ 1_000 → b ≤ 1_000_000 → c ≤ 1_000 → e ≤ 1_000_000
    → q * b * e + p * c * e + c * max (q * e) (p * c) ≤ 3 * 10 ^ 15
few p q b c e small_p small_q small_b small_c small_e =
    let one : q * b ≤ 1_000 * 1_000_000 = mul-le q b 1_000 1_000_000 small_q small_b in
    let two : (q * b) * e ≤ (1_000 * 1_000_000) * 1_000_000 =
    mul-le (q * b) e (1_000 * 1_000_000) 1_000_000 one small_e in
    let three : p * c ≤ 1_000_000 * 1_000 = mul-le p c 1_000_000 1_000 small_p small_c in
    let four : (p * c) * e ≤ (1_000_000 * 1_000) * 1_000_000 =
    mul-le (p * c) e (1_000_000 * 1_000) 1_000_000 three small_e in
    let five : q * e ≤ 1_000 * 1_000_000 = mul-le q e 1_000 1_000_000 small_q small_e in
    let most : max (q * e) (p * c) ≤ 1_000_000_000 = max-le (omega (arith, five)) (omega (arith, three)) in
    let six : c * max (q * e) (p * c) ≤ 1_000 * 1_000_000_000 =
    mul-le c (max (q * e) (p * c)) 1_000 1_000_000_000 small_c most in
    omega (arith, two, four, six)

-- and at most so many times what it is divided by
low : (p q b c e : ℕ) → p ≤ 1_000_000 * q → b ≤ 1_000_000 * c → c ≤ 1_000 * e → 1 ≤ e
    → q * b * e + p * c * e + c * max (q * e) (p * c) ≤ 1_002_000_000 * (q * c * e)
low p q b c e less_p less_b less_c some =
    let one : (q * e) * b ≤ (q * e) * (1_000_000 * c) = mul-le (q * e) b (q * e) (1_000_000 * c) (omega arith) less_b in
    let two : p * (c * e) ≤ (1_000_000 * q) * (c * e) = mul-le p (c * e) (1_000_000 * q) (c * e) less_p (omega arith) in
    let three : p * c ≤ (1_000_000 * q) * (1_000 * e) = mul-le p c (1_000_000 * q) (1_000 * e) less_p less_c in
    let most : max (q * e) (p * c) ≤ 1_000_000_000 * (q * e) = max-le (omega arith) (omega (arith, three)) in
    let four : c * max (q * e) (p * c) ≤ c * (1_000_000_000 * (q * e)) =
    mul-le c (max (q * e) (p * c)) c (1_000_000_000 * (q * e)) (omega arith) most in
    omega (arith, one, two, four)

module _ (k : Fraction) (f : Factor) (ratio : IsRatio k) (factor : IsTrue (is_some_factor (Some f))) where
  -- the limits of the factor
  limits : FactorLimits f
  limits = factor_limits f factor

  -- the share is no great number
  pub share_few : share k f ≤ 3 * 10 ^ 15
  share_few =
      let small_b : f.b ≤ 1_000_000 = limits.small_b in
      few k.p k.q f.b f.c (f.b - f.c) (ratio_limits ratio).small_p (ratio_limits ratio).small_q small_b limits.small_c
      (omega (arith, small_b))

  -- what the share is divided by is some
  pub some_scale : 1 ≤ scale k f
  some_scale = scale_some k f (ratio_limits ratio).least limits.least limits.more

  -- so the bound is no more than so many times the value
  pub quotient_low : (a : ℕ) → share k f * a / scale k f ≤ 1_002_000_000 * a
  quotient_low a = cancel (scale k f) (share k f * a / scale k f) (1_002_000_000 * a) some_scale
      (let all : scale k f * (share k f * a / scale k f) ≤ share k f * a = mul-div-le (share k f * a) (scale k f) in
      let share_low : share k f ≤ 1_002_000_000 * scale k f =
      low k.p k.q f.b f.c (f.b - f.c)
      (omega (arith, (ratio_limits ratio).small_p, (ratio_limits ratio).least))
      (let small_b : f.b ≤ 1_000_000 = limits.small_b in omega (arith, small_b, limits.least))
      (let small_c : f.c ≤ 1_000 = limits.small_c in omega (arith, small_c, limits.more))
      (omega (arith, limits.more)) in
      let times : share k f * a ≤ (1_002_000_000 * scale k f) * a =
      mul-le (share k f) a (1_002_000_000 * scale k f) a share_low (omega arith) in
      omega (arith, all, times))
