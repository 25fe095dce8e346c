use Rattle.std.proofs.Common.{◌≡◌, take}
use Rattle.clairvoyant.specs.overload.Stretches.{jobs_inside}
use Rattle.clairvoyant.proofs.overload.costing.inside.Given as goal

abbrev pub invariant-loop-job : goal.invariant-loop-job
invariant-loop-job l = l.inside.items ≡ jobs_inside (take l.job-index l.jobs) l.from l.until
