-- The stated list of jobs of a seed, as it is run.
use Rattle.std.specs.Prelude.{ℕ}
use Rattle.dover_model.specs.declared.events.Version.TheVariants.{One}
use Rattle.dover_model.specs.Common.{Fraction, Instance, jobs_under, generated_jobs}

-- so many jobs of a seed, under version One
abbrev pub trial_instance : Fraction → (seed count : ℕ) → Instance
trial_instance k seed count = jobs_under One k (generated_jobs seed count k)
