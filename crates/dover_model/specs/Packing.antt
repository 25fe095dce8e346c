-- What the parts of a kept step stand for.
use Rattle.std.specs.Prelude.{ℕ, ◌+◌, ◌*◌, ◌/◌, ◌%◌, ◌^◌}
use Rattle.dover_model.specs.JobFacts.{JobFacts, IsJob}
use Rattle.dover_model.specs.declared.events.Event.{Event}
use Rattle.dover_model.specs.declared.events.Event.TheVariants as event
use Rattle.dover_model.specs.declared.kind.Kind.{Kind}
use Rattle.dover_model.specs.declared.kind.Kind.TheVariants.{Release, Run, Preempt, Take, Complete, Abandon, End}

-- the two parts of a number
abbrev pub low_of : ℕ → ℕ
low_of n = n % 2 ^ 32

abbrev pub high_of : ℕ → ℕ
high_of n = n / 2 ^ 32

-- the high part of a tick, of its lowest 16 digits and what is above them
abbrev pub high_with : (high top : ℕ) → ℕ
high_with high top = high + top * 2 ^ 16

-- the number of these parts
abbrev pub joined : (low high : ℕ) → ℕ
joined low high = low + high * 2 ^ 32

-- the job of these parts
abbrev pub job_of : (first second third release work deadline value : ℕ) → JobFacts
job_of first second third release work deadline value = record {
  release = joined first release;
  work = joined second work;
  deadline = joined third deadline;
  value = value;
}

-- the step of these parts
abbrev pub event_of : Kind → (number first second third release work deadline value : ℕ) → Event
event_of Release number first second third release work deadline value =
    event.Release number (job_of first second third release work deadline value)
event_of Run number first second third release work deadline value = event.Run (joined first second) number
event_of Preempt number first second third release work deadline value =
    event.Preempt (joined first second) number third
event_of Take number first second third release work deadline value = event.Take (joined first second) number third
event_of Complete number first second third release work deadline value = event.Complete (joined first second) number
event_of Abandon number first second third release work deadline value = event.Abandon (joined first second) number
event_of End number first second third release work deadline value = event.End (joined first second)

-- the parts of a release are those of a job
abbrev pub HasJob : Kind → (first second third release work deadline value : ℕ) → Type 0
HasJob Release first second third release work deadline value =
    IsJob (job_of first second third release work deadline value)
HasJob _ first second third release work deadline value = Unit {0}
