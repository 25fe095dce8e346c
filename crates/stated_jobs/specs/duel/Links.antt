-- The links of a duel: each is the least with which staying with the one before it is a loss.
use Rattle.std.specs.Prelude.{ℕ, ◌+◌, ◌-◌, ◌*◌, ◌/◌, ◌<◌}
use Rattle.dover_model.specs.Fraction.{Fraction}

-- The share part/whole is more than 1 / (1 + √(p/q))², the share that the rules save: whole is less than (1 + √(p/q))²
-- times part, squared once. (The differences stop at 0.)
abbrev pub IsTooMuch : Fraction → (whole part : ℕ) → Type 0
IsTooMuch k whole part =
    (k.q * whole - (k.p + k.q) * part) * (k.q * whole - (k.p + k.q) * part) < 4 * k.p * k.q * part * part

-- the release and the work of the next link
abbrev pub next_link : Fraction → (whole part : ℕ) → ℕ × ℕ → ℕ × ℕ
next_link k whole part l =
    (l.0 + l.1 - 1, (whole * k.q * l.1 - part * k.p * (l.0 + l.1 - 1)) / (part * k.q) + 1)

-- so many times the value of a link
abbrev pub staying : Fraction → ℕ → ℕ × ℕ → ℕ
staying k whole l = whole * (k.q * l.1)

-- so many times what the small jobs before a link and the link itself are worth
abbrev pub leaving : Fraction → ℕ → ℕ × ℕ → ℕ
leaving k part l = part * (k.p * l.0 + k.q * l.1)
