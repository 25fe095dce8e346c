-- A job that is worth little needs little work, since its density is at least 1.
use Rattle.std.proofs.Common.{◌≤◌, ◌*◌, ℕ, zero, suc, arith}
use Rattle.dover_model.specs.Common.{most_value, most_work}
use Rattle.dover_model.proofs.valid.JobLimits.{job_from}
use Rattle.stated_jobs.proofs.bait.feed.tight_job.Goals as goal

-- the work is at most the value
low_work : (density work : ℕ) → 1 ≤ density * work → density * work ≤ most_value → work ≤ most_work
low_work zero work some low = absurd (omega (arith, some))
low_work (suc density) work some low = omega (arith, low)

pub unwrap-requires : goal.unwrap-requires
unwrap-requires c = c.new.ensures.allowed.1 (job_from (record {
  work = c.requires.some;
  small = low_work c.args.density c.args.work c.requires.worth c.requires.modest;
  window = omega arith;
  due = c.requires.due;
  worth = c.requires.worth;
  modest = c.requires.modest;
}))
