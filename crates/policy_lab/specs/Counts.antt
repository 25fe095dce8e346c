-- What a schedule does to jobs: how many it serves, and how often it stops one.
use Rattle.std.specs.Prelude.{ℕ, zero, suc, ◌+◌, ◌-◌, List, length, take, Bool, not, ◌&&◌, ◌==◌, slice_index_or}
use Rattle.std.specs.List.{count_by, enumerate_from}
use Rattle.dover_model.specs.Common.{idle, JobFacts, is_served}

-- how many jobs a schedule serves
abbrev pub served_count : List JobFacts → List ℕ → ℕ
served_count jobs s = count_by (is_served s) (enumerate_from 0 jobs)

-- the job of number n has the tick before tick t, but not tick t, and isn't served by then
abbrev pub is_stopped : List ℕ → ℕ → ℕ × JobFacts → Bool
is_stopped s t (n, j) =
    (slice_index_or s (t - 1) idle == n) && not (slice_index_or s t idle == n) && not (is_served (take t s) (n, j))

-- how often a schedule stops a job before tick t
abbrev pub stops_before : List JobFacts → List ℕ → ℕ → ℕ
stops_before jobs s zero = 0
stops_before jobs s (suc t) = stops_before jobs s t + count_by (is_stopped s t) (enumerate_from 0 jobs)

-- how often it stops a job that isn't served yet
abbrev pub stops : List JobFacts → List ℕ → ℕ
stops jobs s = stops_before jobs s (length s)
