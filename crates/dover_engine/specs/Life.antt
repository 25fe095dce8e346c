-- What an engine stands for.
use Rattle.std.specs.Prelude.{◌≡◌, ℕ, ◌+◌, ◌*◌, ◌^◌, ◌≤◌, ◌<◌, [], Bool, true, Option, if◌then◌else◌, option_map}
use Rattle.dover_model.specs.Common.{most_jobs, behind}
use Rattle.dover_model.specs.declared.events.Event.{Event}
use Rattle.admission.specs.Kept.{Kept}
use Rattle.dover_model.specs.declared.horizon.Horizon.{Horizon}
use Rattle.dover_model.specs.declared.horizon.Horizon.TheVariants.{Mark, End}
use Rattle.ready_server.specs.declared.server.ReadyServer.{ReadyServer}
use Rattle.ready_jobs.specs.Course as course
use Rattle.ready_server.specs.Serving as serving

-- the jobs that are open, what the next job is tested by, how far the steps were taken, and the jobs before the last
-- moment of rest
pub record Life : Type 0 where
  pub server : ReadyServer
  pub admission : Kept
  pub last : Horizon  -- the last one that was handed in, at first the mark 0
  pub settled : Bool  -- the last step was to a mark and answered None, and no job was admitted or done since
  pub coming : Option Event  -- what the last call but a step has said, till it is given
  pub forgotten : ℕ  -- how many jobs there were before
  pub earned : ℕ  -- what those of them that completed were worth

abbrev pub life_with : ReadyServer → Kept → Horizon → Bool → Option Event → (forgotten earned : ℕ) → Life
life_with server admission last settled coming forgotten earned = record {
  server = server;
  admission = admission;
  last = last;
  settled = settled;
  coming = coming;
  forgotten = forgotten;
  earned = earned;
}

-- for how many open jobs more there is room
abbrev pub spare_of : Life → ℕ
spare_of v = serving.spare_of v.server

-- for how many open jobs there is room in all
abbrev pub room_of : Life → ℕ
room_of v = v.server.ready.room

-- the job that would get the processor if the one that has it were done at the clock: of the first held and the first
-- waiting one
abbrev pub successor_of : Life → Option ℕ
successor_of v = option_map (λ n. v.forgotten + n) (course.successor_of v.server.ready)

-- the value of the jobs that completed
abbrev pub done_value : Life → ℕ
done_value v = v.earned + v.server.ready.done

-- how many jobs may be admitted in all
abbrev pub most_numbered : ℕ
most_numbered = 10_000_000_000_000_000_000

-- more than what so many jobs may earn
abbrev pub most_earned : ℕ
most_earned = 10_000_000_000_000_000_000_000_000_000_000_000_000

-- the clock: the last mark where all that is settled there was given
abbrev pub clock_of : Life → ℕ
clock_of v = elim v.last [
  | Mark t ↦ if v.settled then t else v.server.ready.clock
  | End ↦ v.server.ready.clock
]

-- what is to be given next, where a call has said it: the release of the job that was admitted last, or the completion
-- of the one that is done
abbrev pub coming_of : Life → Option Event
coming_of v = option_map (behind v.forgotten v.earned) v.coming

-- End was given
abbrev pub has_ended : Life → Bool
has_ended v = v.server.ended

-- no more comparisons were made than its jobs so far have called for
pub record HasPaid (v : Life) (start now : ℕ) : Type 0 where
  pub since : ℕ
  pub before : (d : ℕ) → most_jobs v.admission.rules.version + 1 < 2 ^ d → since ≤ start + 80 * d * v.forgotten
  pub paid : serving.HasPaid v.server since now

-- the comparisons of one call, with d the binary digits of how many jobs are open: for each order in which jobs wait
-- at most 6 * d, and by a take d more for each job that was held
abbrev pub CostsOnce : Life → Option Event → (before now : ℕ) → Type 0
CostsOnce v answer before now = serving.CostsOnce v.server answer before now

-- all that is settled at this mark was given, so that a job of this release may be admitted
abbrev pub IsReadyFor : Life → ℕ → Type 0
IsReadyFor v t = (v.settled ≡ true) × (v.last ≡ Mark t)

-- all that is settled was given, and no job is open
pub record IsAtRest (v : Life) : Type 0 where
  pub settled : v.settled ≡ true
  pub none : v.server.ready.ready ≡ []
