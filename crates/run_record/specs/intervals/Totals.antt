-- What the steps of a run tell of its jobs, counted step by step.
use Rattle.std.specs.Prelude.{ℕ, ◌+◌, ◌<◌, ◌^◌, List, Bool, true, false, if◌then◌else◌, count_by, sum_by}
use Rattle.std.specs.Prelude.{max, fold}
use Rattle.dover_model.specs.declared.events.Event.{Event}
use Rattle.dover_model.specs.declared.events.Event.TheVariants.{Release, Complete, Abandon}
use Rattle.dover_model.specs.Common.{most_value, is_take, is_preemption, changes_hands, Prints}
use Rattle.run_record.specs.declared.intervals.totals.JobTotals.{JobTotals}

-- a job is released
abbrev pub is_release : Event → Bool
is_release (Release n job) = true
is_release _ = false

-- a job is done
abbrev pub is_completion : Event → Bool
is_completion (Complete at n) = true
is_completion _ = false

-- a job is gone
abbrev pub is_abandonment : Event → Bool
is_abandonment (Abandon at n) = true
is_abandonment _ = false

-- the value of the job that a step releases
abbrev pub value_released : Event → ℕ
value_released (Release n job) = job.value
value_released _ = 0

-- the later of a tick and the deadline of the job that a step releases
abbrev pub later_deadline : ℕ → Event → ℕ
later_deadline d (Release n job) = max d job.deadline
later_deadline d _ = d

-- what these steps tell
abbrev pub totals_of : List Event → JobTotals
totals_of run = record {
  jobs = count_by is_release run;
  worth = sum_by value_released run;
  due = fold later_deadline 0 run;
  completed = count_by is_completion run;
  abandoned = count_by is_abandonment run;
  taken = count_by is_take run;
  changes = count_by (λ e. changes_hands (Prints e)) run;
  preempted = count_by is_preemption run;
}

-- with one step more
abbrev pub with_step : JobTotals → Event → JobTotals
with_step t e = record {
  jobs = t.jobs + (if is_release e then 1 else 0);
  worth = t.worth + value_released e;
  due = later_deadline t.due e;
  completed = t.completed + (if is_completion e then 1 else 0);
  abandoned = t.abandoned + (if is_abandonment e then 1 else 0);
  taken = t.taken + (if is_take e then 1 else 0);
  changes = t.changes + (if changes_hands (Prints e) then 1 else 0);
  preempted = t.preempted + (if is_preemption e then 1 else 0);
}

-- there is room for one step more
pub record HasSpace (t : JobTotals) : Type 0 where
  pub jobs : t.jobs + 1 < 2 ^ 64
  pub worth : t.worth + most_value < 2 ^ 128
  pub completed : t.completed + 1 < 2 ^ 64
  pub abandoned : t.abandoned + 1 < 2 ^ 64
  pub taken : t.taken + 1 < 2 ^ 64
  pub changes : t.changes + 1 < 2 ^ 64
  pub preempted : t.preempted + 1 < 2 ^ 64
