-- What a snapshot that is read has cost so far: the comparisons of its jobs, which are served again.
use Rattle.std.specs.Prelude.{ℕ, ◌-◌, ◌≤◌, length, Option, Some, None}
use Rattle.ready_server.specs.Serving.{HasPaid}
use Rattle.snapshot.specs.Reading.{Reading, Begun, Going, Taken, Refused}
use Rattle.snapshot.specs.declared.resuming.Resuming.{Resuming}

-- how many jobs the lines have, before the one that is refused if one is
abbrev pub jobs_read : Reading → ℕ
jobs_read Begun = 0
jobs_read (Going h items tasks) = length tasks
jobs_read (Taken h items tasks) = length tasks
jobs_read (Refused line) = line - 2

-- how many jobs are served again
abbrev pub jobs_kept : Option Resuming → ℕ
jobs_kept None = 0
jobs_kept (Some r) = r.server.ready.jobs

-- up to here each time that a job began or ceased to wait cost 20 * d comparisons at most
abbrev pub HasSpentOn : Option Resuming → (start now : ℕ) → Type 0
HasSpentOn None start now = now ≤ start
HasSpentOn (Some r) start now = HasPaid r.server start now
