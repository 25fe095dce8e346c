-- Whether a job is stopped.
use Rattle.std.specs.Prelude.{ℕ, ◌||◌, ◌==◌, if◌then◌else◌}
use Rattle.dover_model.specs.Common.{idle}

-- 1 if the job of number `last` is stopped where that of number n runs
abbrev pub stop_by : (last n : ℕ) → ℕ
stop_by last n = if (last == idle) || (last == n) then 0 else 1
