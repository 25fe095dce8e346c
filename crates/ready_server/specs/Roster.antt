-- The jobs of a run by number, kept from its printed steps alone.
use Rattle.std.specs.Prelude.{◌≡◌, ◌<◌, length, ℕ, suc, ◌-◌, List, [], ◌∷◌, ◌++◌, set, Bool, false, not}
use Rattle.std.specs.Prelude.{◌&&◌, ◌==◌, if◌then◌else◌, Option, Some, None, slice_get, fold, option_and_then}
use Rattle.std.specs.Prelude.{nat_lt}
use Rattle.std.specs.Bool.{then_some}
use Rattle.dover_model.specs.declared.events.Event.{Event}
use Rattle.dover_model.specs.declared.events.Event.TheVariants.{Release, Run, Preempt, Take, Complete, Abandon, End}
use Rattle.dover_model.specs.declared.events.Role.{Role}
use Rattle.dover_model.specs.declared.events.Role.TheVariants.{Waiting, Held, Running, Done, Gone}
use Rattle.dover_model.specs.declared.events.Task.{Task}
use Rattle.dover_model.specs.Common.{JobFacts, is_held}
use Rattle.ready_server.specs.declared.roster.ListedFinish.{ListedFinish}

-- a job as it was when it last had the processor, and how many takes there were when it stopped
pub record ListedJob : Type 0 where
  pub task : Task
  pub takes : ℕ

-- the jobs by number, as they were when they last had the processor; the early finishes in order; how many takes there
-- were; and of the job that runs, the number and the tick at which it was as it is here
pub record Roll : Type 0 where
  pub jobs : List ListedJob
  pub finishes : List ListedFinish
  pub takes : ℕ
  pub turn : Option ℕ
  pub since : ℕ

-- a roll for which there is room for so many jobs, and for so many early finishes
pub record Kept : Type 0 where
  pub roll : Roll
  pub room : ℕ
  pub finish_room : ℕ

-- no job was released yet
abbrev pub empty_roll : Roll
empty_roll = record { jobs = []; finishes = []; takes = 0; turn = None; since = 0 }

-- ---- one job

-- the ticks that a job has had with so many more, at most its work
abbrev pub had_with : ℕ → Task → ℕ
had_with ticks t = t.job.work - (t.job.work - t.had - ticks)

-- a job that stops after so many ticks more in this role, where there were so many takes
abbrev pub stopped : ℕ → Role → ℕ → ListedJob → ListedJob
stopped ticks role takes e = record {
  task = record { number = e.task.number; job = e.task.job; role = role; had = had_with ticks e.task };
  takes = takes;
}

-- a job that is released
abbrev pub released : ℕ → JobFacts → ListedJob
released n job = record { task = record { number = n; job = job; role = Waiting; had = 0 }; takes = 0 }

-- the job of this number runs
abbrev pub is_turn : Option ℕ → ℕ → Bool
is_turn None n = false
is_turn (Some m) n = m == n

-- a take since it stopped displaces a held job
abbrev pub is_displaced : ℕ → ListedJob → Bool
is_displaced takes e = is_held e.task && not (e.takes == takes)

-- a job of the roll, as it is at a tick
abbrev pub job_at : Roll → ℕ → ListedJob → Task
job_at p clock e = record {
  number = e.task.number;
  job = e.task.job;
  role = if is_turn p.turn e.task.number then Running else (if is_displaced p.takes e then Waiting else e.task.role);
  had = if is_turn p.turn e.task.number then had_with (clock - p.since) e.task else e.task.had;
}

-- ---- what printed steps do to it

-- the job of this number stops after so many ticks more, in this role
abbrev pub with_stop : Roll → (n ticks : ℕ) → Role → Roll
with_stop p n ticks role = elim (slice_get p.jobs n)
    [ None ↦ p | Some e ↦ record p { jobs = set p.jobs n (stopped ticks role p.takes e) } ]

-- the job that runs stops in this role
abbrev pub halted : Roll → ℕ → Role → Roll
halted p at role = elim p.turn [ None ↦ p | Some n ↦ record (with_stop p n (at - p.since) role) { turn = None } ]

-- the job of this number runs from this tick on
abbrev pub started : Roll → (at n : ℕ) → Roll
started p at n = record p { turn = Some n; since = at }

-- the early finish of the job of this number, if it has work left after so many ticks more
abbrev pub finish_of : Roll → (at n : ℕ) → ListedJob → Option ListedFinish
finish_of p at n e = then_some (nat_lt (had_with (at - p.since) e.task) e.task.job.work)
    (record { at = at; number = n; behind = length p.jobs })

-- the early finish of the job that runs, if it is done at this tick with work left
abbrev pub finish_here : Roll → ℕ → Option ListedFinish
finish_here p at = option_and_then (λ n. option_and_then (finish_of p at n) (slice_get p.jobs n)) p.turn

-- with this finish, if there is one
abbrev pub with_finish : Roll → Option ListedFinish → Roll
with_finish p None = p
with_finish p (Some f) = record p { finishes = p.finishes ++ f ∷ [] }

-- after a printed step
abbrev pub with_event : Roll → Event → Roll
with_event p (Release n job) = record p { jobs = p.jobs ++ released n job ∷ [] }
with_event p (Run at n) = started p at n
with_event p (Preempt at stops starts) = started (halted p at Held) at starts
with_event p (Take at stops starts) =
    let q = halted p at Waiting in started (record q { takes = suc q.takes }) at starts
with_event p (Complete at n) = with_finish (halted p at Done) (finish_here p at)
with_event p (Abandon at n) = with_stop p n 0 Gone
with_event p (End value) = p

-- after these
abbrev pub roll_of : List Event → Roll
roll_of events = fold with_event empty_roll events

-- ---- a roster

-- it was kept from these printed steps
abbrev pub IsRollOf : List Event → Kept → Type 0
IsRollOf events k = k.roll ≡ roll_of events

-- there is room for one job more
abbrev pub HasLine : Kept → Type 0
HasLine k = length k.roll.jobs < k.room
