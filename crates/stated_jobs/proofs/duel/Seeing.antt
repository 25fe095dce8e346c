-- What is on-line, and what isn't.
use Rattle.std.proofs.Common.{◌≡◌, ℕ, List, [], ◌∷◌, refl, arith, Some, None, true}
use Rattle.dover_model.specs.declared.events.Version.{Version}
use Rattle.dover_model.specs.declared.events.Version.TheVariants.{One}
use Rattle.dover_model.specs.Common.{Fraction, JobFacts, tight_job, is_valid, jobs_under}
use Rattle.stated_jobs.specs.duel.Game.{AreValid, IsOnline}
use Rattle.stated_jobs.specs.duel.Rows.{k_of, farsighted}

-- the same schedule for all lists
pub blind : (version : Version) (k : Fraction) (s : List ℕ) → IsOnline (AreValid version k) (λ jobs. s)
blind version k s t jobs others fine fine_too same n known = ((λ named. named), (λ named. named))

-- one job, and the same with another behind it
one_job : List JobFacts
one_job = tight_job 0 1 1 ∷ []

two_jobs : List JobFacts
two_jobs = tight_job 0 1 1 ∷ tight_job 5 1 1 ∷ []

passes : (jobs : List JobFacts) → is_valid (jobs_under One (k_of 1) jobs) ≡ true → AreValid One (k_of 1) jobs
passes jobs test = record { passes = test }

-- at tick 0 the same is known of both
pub sees_ahead : IsOnline (AreValid One (k_of 1)) farsighted → ⊥
unfolding one_job two_jobs
sees_ahead online = never 0 ((online 0 one_job two_jobs (passes one_job refl) (passes two_jobs refl) refl 0
    (omega arith)).0 refl) where
      never : (n : ℕ) → None ≡ Some n → ⊥
      never n e = absurd (cc)
