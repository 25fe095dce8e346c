use Rattle.std.proofs.Common.{◌≡◌, ◌≤◌, drop, nat_le, if◌then◌else◌, fold}
use Rattle.dover_model.specs.Common.{JobFacts, last_tick, last_deadline}
use Rattle.dover_model.proofs.jobs.last_deadline.Given as goal

-- the greatest deadline so far, and those to come
abbrev pub invariant-loop-job : goal.invariant-loop-job
invariant-loop-job l = record {
  is : fold (λ d (j : JobFacts). if nat_le d j.deadline then j.deadline else d) l.last (drop l.job-index l.jobs)
      ≡ last_deadline l.jobs;
  known : l.last ≤ last_tick;
}
