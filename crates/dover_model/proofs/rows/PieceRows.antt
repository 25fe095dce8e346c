-- Schedules as pieces, and the schedule by earliest deadline, by computation.
use Rattle.std.proofs.Common.{◌≡◌, ℕ, [], ◌∷◌, refl}
use Rattle.dover_model.specs.Common.{idle, Piece, worth, spread, stretches, edf, work_inside}
use Rattle.dover_model.proofs.rows.Written.{job, one}

abbrev piece : ℕ → ℕ → ℕ → Piece
piece from until number = record { from = from; until = until; number = number }

spread_with_a_gap : spread (piece 1 3 0 ∷ piece 3 4 2 ∷ []) ≡ idle ∷ 0 ∷ 0 ∷ 2 ∷ []
spread_with_a_gap = refl

stretches_with_a_gap : stretches (0 ∷ 0 ∷ idle ∷ 0 ∷ 1 ∷ 1 ∷ idle ∷ []) ≡ piece 0 2 0 ∷ piece 3 4 0 ∷ piece 4 6 1 ∷ []
stretches_with_a_gap = refl

no_jobs : edf [] ≡ []
no_jobs = refl

preemption : stretches (edf (job 0 4 10 4 ∷ job 1 2 5 2 ∷ [])) ≡ piece 0 1 0 ∷ piece 1 3 1 ∷ piece 3 6 0 ∷ []
preemption = refl

late_jobs_run_on : stretches (edf (job 0 10 10 10 ∷ job 0 20 20 20 ∷ [])) ≡ piece 0 10 0 ∷ piece 10 30 1 ∷ []
late_jobs_run_on = refl

idle_until_a_release : edf (job 2 1 3 1 ∷ job 4 1 6 1 ∷ []) ≡ idle ∷ idle ∷ 0 ∷ idle ∷ 1 ∷ []
idle_until_a_release = refl

overfull : work_inside (job 0 10 10 10 ∷ job 0 20 20 20 ∷ []) 0 20 ≡ 30
overfull = refl

-- a best schedule of three jobs of which two fit
best_schedule : worth (one 1 1 (job 0 10 14 10 ∷ job 1 2 5 2 ∷ job 1 3 8 3 ∷ []))
    (spread (piece 0 1 0 ∷ piece 1 4 2 ∷ piece 4 13 0 ∷ [])) ≡ 13
best_schedule = refl
