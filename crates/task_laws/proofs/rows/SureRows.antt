-- Worked rows: a job at the threshold of what crosses its latest start, and what a stream's value has to be heavy
-- against.
use Rattle.std.proofs.Common.{◌≡◌, ℕ, List, [], ◌∷◌, refl, true, false}
use Rattle.dover_model.specs.Common.{Instance, fraction, with_factor, is_heavy}
use Rattle.dover_model.specs.declared.events.Event.TheVariants.{Release, Run, Take, Complete, Abandon}
use Rattle.dover_model.specs.declared.events.Event.TheVariants.{End}
use Rattle.dover_model.specs.Common.{printed}
use Rattle.task_laws.specs.Sure.{Stream, stream_at, most_crossing, most_beside}
use Rattle.dover_model.specs.Windows.{worth_beside}
use Rattle.task_laws.specs.Sure.{is_spread, most_fitting, IsSure}
use Rattle.task_laws.proofs.sure.Streams.{sure_of_stream, heavy_by_sum, heavy_by_sets}
use Rattle.dover_model.proofs.rows.Written.{job, one}

-- twice what crosses its latest start isn't heavy for k = 1, and such a job is lost
abbrev at_the_threshold : Instance
at_the_threshold = one 1 1 (job 0 4 8 4 ∷ job 1 8 9 8 ∷ [])

crossing_it : worth_beside at_the_threshold 1 1 ≡ 4
crossing_it = refl

it_is_lost : printed at_the_threshold ≡ Release 0 (job 0 4 8 4) ∷ Run 0 0 ∷ Release 1 (job 1 8 9 8) ∷ Abandon 1 1
    ∷ Complete 4 0 ∷ End 4 ∷ []
it_is_lost = refl

-- one more is heavy
abbrev above_the_threshold : Instance
above_the_threshold = one 1 1 (job 0 4 8 4 ∷ job 1 9 10 9 ∷ [])

it_is_completed : printed above_the_threshold ≡ Release 0 (job 0 4 8 4) ∷ Run 0 0 ∷ Release 1 (job 1 9 10 9)
    ∷ Take 1 0 1 ∷ Abandon 5 0 ∷ Complete 10 1 ∷ End 9 ∷ []
it_is_completed = refl

-- a stream
abbrev stream : ℕ → ℕ → ℕ → ℕ → Stream
stream p w d v = record { apart = p; work = w; span = d; value = v }

-- camera frames, telemetry, alarms and a report
abbrev camera : List Stream
camera = stream 100 60 90 60 ∷ stream 40 5 20 25 ∷ stream 150 10 10 1000 ∷ stream 200 40 50 40 ∷ []

-- all that can cross a tick beside an alarm
beside_alarms : most_beside camera 2 ≡ 125
beside_alarms = refl

alarms_are_spread : is_spread (stream_at camera 2) ≡ true
alarms_are_spread = refl

-- three jobs of a stream whose span is more than two gaps can cross one tick
three_cross : most_crossing (stream 40 5 81 25) ≡ 3
three_cross = refl

-- frames and reports don't fit a frame's window together; with telemetry, frames are worth the most
frames_and_telemetry : most_fitting camera 2 ≡ 85
frames_and_telemetry = refl

-- against all of it an alarm isn't heavy for k = 100
alarms_by_sum : is_heavy (fraction 100 1) 1000 125 ≡ false
alarms_by_sum = refl

-- against that it is, and so each alarm is sure
alarms_are_sure : IsSure (fraction 100 1) camera 2 (job 65 10 75 1000)
alarms_are_sure = sure_of_stream (fraction 100 1) camera 2 (job 65 10 75 1000) refl
    (heavy_by_sets (fraction 100 1) camera 2 1000 refl)
    (record { work = refl; span = refl; value = refl })

-- beside frames alone it is by the sum too
frames_and_alarms : IsSure (fraction 100 1) (stream 100 60 90 60 ∷ stream 150 10 10 1000 ∷ []) 1
    (job 65 10 75 1000)
frames_and_alarms = sure_of_stream (fraction 100 1) (stream 100 60 90 60 ∷ stream 150 10 10 1000 ∷ []) 1
    (job 65 10 75 1000) refl
    (heavy_by_sum (fraction 100 1) (stream 100 60 90 60 ∷ stream 150 10 10 1000 ∷ []) 1 1000 refl)
    (record { work = refl; span = refl; value = refl })

-- by a factor of its own, three, it is against all of it, however great the ratio is
alarms_by_a_factor : IsSure (with_factor (fraction 1_000_000 1) 3 1) camera 2 (job 65 10 75 1000)
alarms_by_a_factor = sure_of_stream (with_factor (fraction 1_000_000 1) 3 1) camera 2 (job 65 10 75 1000) refl
    (heavy_by_sum (with_factor (fraction 1_000_000 1) 3 1) camera 2 1000 refl)
    (record { work = refl; span = refl; value = refl })

-- eight times what crosses a tick isn't more than that
not_by_eight : is_heavy (with_factor (fraction 1_000_000 1) 8 1) 1000 125 ≡ false
not_by_eight = refl
