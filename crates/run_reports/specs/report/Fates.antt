-- What a schedule comes to, whichever policy made it, by its steps.
use Rattle.std.specs.Prelude.{ℕ, List, sum_by, count_by}
use Rattle.dover_model.specs.declared.events.Event.{Event}
use Rattle.dover_model.specs.declared.events.Event.TheVariants.{Complete}
use Rattle.dover_model.specs.Common.{JobFacts, is_take}
use Rattle.run_record.specs.intervals.Totals.{is_release, is_completion, is_abandonment}
use Rattle.run_reports.specs.report.Counts.{value_in, all_lost}
use Rattle.run_reports.specs.declared.report.fates.Fates.{Fates}

-- the value that a step completes
abbrev pub value_done : List JobFacts → Event → ℕ
value_done jobs (Complete at n) = value_in jobs n
value_done jobs _ = 0

-- what a schedule of these jobs with these steps comes to
abbrev pub fates_of : List JobFacts → List Event → Fates
fates_of jobs run = record {
  jobs = count_by is_release run;
  completed = count_by is_completion run;
  value = sum_by (value_done jobs) run;
  abandoned = count_by is_abandonment run;
  lost = all_lost jobs run;
  taken = count_by is_take run;
}
