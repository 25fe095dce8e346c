use Rattle.std.proofs.Common.{◌-◌}
use Rattle.stated_jobs.specs.duel.Jobs.{duel_jobs}
use Rattle.stated_jobs.proofs.duel.Admitting.{HasAdmitted}
use Rattle.stated_jobs.proofs.duel.counting.job_count.Given as goal

-- the jobs so far were admitted
abbrev pub invariant-loop-coming : goal.invariant-loop-coming
invariant-loop-coming l =
    HasAdmitted l.fn.k (duel_jobs l.fn.k l.fn.share.whole l.fn.share.part) l.admission l.coming

abbrev pub decreases-loop-coming : goal.decreases-loop-coming
decreases-loop-coming l = 1_000_001 - l.admission.count
