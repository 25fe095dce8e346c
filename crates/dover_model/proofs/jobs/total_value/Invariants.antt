use Rattle.std.proofs.Common.{◌≡◌, ◌≤◌, ◌*◌, take}
use Rattle.dover_model.specs.Common.{IsJob, total_value, Each}
use Rattle.dover_model.proofs.jobs.total_value.Given as goal

abbrev pub invariant-loop-job : goal.invariant-loop-job
invariant-loop-job l = record {
  value : l.value ≡ total_value (take l.job-index l.jobs);
  most : l.value ≤ 1_000_000_000 * l.job-index;
  each : Each IsJob (take l.job-index l.jobs);
}
