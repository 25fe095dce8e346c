-- How many silent ticks come before something is due.
use Rattle.std.specs.Prelude.{ℕ, ◌-◌, min, nat_le, if◌then◌else◌, Option, Some, None, fold, find}
use Rattle.dover_model.specs.declared.events.Task.{Task}
use Rattle.dover_model.specs.State.{left, latest_start, State, is_coming, running, waiting}

-- the ticks before a moment that is still to come, at most so many
abbrev pub ticks_until : (moment clock most : ℕ) → ℕ
ticks_until moment clock most = if nat_le moment clock then most else min most (moment - clock)

-- before the first job to come is released
abbrev pub until_release : ℕ → Option Task → ℕ → ℕ
until_release clock None most = most
until_release clock (Some c) most = ticks_until c.job.release clock most

-- before the running job is done
abbrev pub until_done : Option Task → ℕ → ℕ
until_done None most = most
until_done (Some r) most = min most (left r)

-- before a waiting job is at its latest start
abbrev pub until_latest : ℕ → ℕ → Task → ℕ
until_latest clock most t = ticks_until (latest_start t) clock most

-- before any of these
abbrev pub still_ticks : ℕ → State → ℕ
still_ticks most s = fold (until_latest s.clock)
    (until_done (running s) (until_release s.clock (find is_coming s.tasks) most)) (waiting s)
