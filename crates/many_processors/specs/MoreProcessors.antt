-- The competitive bound against schedules on so many times as many processors.
use Rattle.std.specs.Prelude.{ℕ, ◌+◌, ◌-◌, ◌*◌, ◌≤◌, max, IsTrue, Option, Some, None}
use Rattle.dover_model.specs.Fraction.{Fraction}
use Rattle.dover_model.specs.declared.factors.Factor.{Factor}
use Rattle.dover_model.specs.Bound.{scale, is_within_root}

-- with the factor β = b/c and the ratio k = p/q: so many times β + k, and the greater of 1 and so many times k/(β-1);
-- all of that multiplied by `scale`
abbrev pub share_times : (times : ℕ) → Fraction → Factor → ℕ
share_times times k f = times * (k.q * f.b * (f.b - f.c) + k.p * f.c * (f.b - f.c))
    + f.c * max (k.q * (f.b - f.c)) (times * (k.p * f.c))

-- C is at most that many times A by the factor, and so many times (1 + √k)² times A by the root
abbrev pub IsWithinTimesBy : (times : ℕ) → Fraction → Option Factor → ℕ → ℕ → Type 0
IsWithinTimesBy times k None c a = IsTrue (is_within_root k c (times * a))
IsWithinTimesBy times k (Some f) c a = scale k f * c ≤ share_times times k f * a

-- by what the ratio says
abbrev pub IsWithinTimes : (times : ℕ) → Fraction → ℕ → ℕ → Type 0
IsWithinTimes times k c a = IsWithinTimesBy times k k.factor c a
