-- Ratios and a scheduler for the rows of the laws.
use Rattle.std.specs.Prelude.{ℕ, [], ◌∷◌, length, nat_lt, if◌then◌else◌}
use Rattle.dover_model.specs.Fraction.{Fraction, fraction}
use Rattle.stated_jobs.specs.duel.Game.{Scheduler}

-- a whole ratio
abbrev pub k_of : ℕ → Fraction
k_of p = fraction p 1

-- it runs the first job in tick 0 only where no other one ever comes
abbrev pub farsighted : Scheduler
farsighted jobs = if nat_lt 1 (length jobs) then [] else 0 ∷ []
