use Rattle.std.proofs.Common.{ℕ, length}
use Rattle.dover_model.specs.Instance.{Instance}
use Rattle.dover_model.specs.declared.horizon.Horizon.{Horizon}
use Rattle.ready_server.proofs.Feeding.{IsUnderWay}
use Rattle.ready_server.specs.Running.{HasShown, CanFeed}
use Rattle.ready_server.specs.Serving.{HasPaid}
use Rattle.ready_server.proofs.running.serve_jobs.Given as goal

-- Some jobs of the list were served, and the others are still to come.
abbrev pub invariant-loop-job : goal.invariant-loop-job
invariant-loop-job g l = record {
  under_way : (J : Instance) (from : Horizon)
      → HasShown g.W.Watcher.seen l.initial.server l.initial.watcher J from
      → CanFeed J from (g.S.JobSource.jobs l.initial.jobs)
      → IsUnderWay g.W.Watcher.seen l.server l.watcher J from (g.S.JobSource.jobs l.initial.jobs)
      (g.S.JobSource.jobs l.jobs);
  paid : (start : ℕ) → HasPaid l.initial.server start l.initial.comparisons → HasPaid l.server start l.comparisons;
}

abbrev pub decreases-loop-job : goal.decreases-loop-job
decreases-loop-job g l = length (g.S.JobSource.jobs l.jobs)
