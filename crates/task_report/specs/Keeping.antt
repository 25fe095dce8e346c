-- What is known of tallies while jobs are added.
use Rattle.std.specs.Prelude.{ℕ, ◌*◌, ◌≤◌, ◌^◌}
use Rattle.task_report.specs.declared.tally.Tally.{Tally}

-- what is added is of at most so many jobs
pub record IsOfAtMost (n : ℕ) (t : Tally) : Type 0 where
  pub jobs : t.jobs ≤ n
  pub completed : t.completed ≤ n
  pub lost : t.lost ≤ n
  pub value : t.value ≤ n * 2 ^ 64
  pub lost_value : t.lost_value ≤ n * 2 ^ 64
  pub responses : t.responses ≤ n * 2 ^ 64
  pub preempted : t.preempted ≤ n * 2 ^ 64
