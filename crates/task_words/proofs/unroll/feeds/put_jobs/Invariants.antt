use Rattle.std.proofs.Common.{◌≡◌, ◌-◌, ◌+◌, ◌*◌, ◌^◌, ◌<◌, ◌≤◌, ℕ, length}
use Rattle.dover_port.specs.Causes.{StaysWell}
use Rattle.task_words.proofs.unroll.Putting.{HasPut}
use Rattle.task_words.proofs.unroll.feeds.put_jobs.Given as goal

-- the lines of the jobs so far are put
abbrev pub invariant-loop-count : goal.invariant-loop-count
invariant-loop-count g l = record {
  put : HasPut l.unrolling (g.P.Port.moves l.initial.port) (g.P.Port.moves l.port) l.initial.out l.out l.count;
  spent : (d : ℕ) → length l.initial.unrolling.tasks + 1 < 2 ^ d → l.comparisons ≤ l.initial.comparisons
      + 4 * d * l.count;
  tasks : l.unrolling.tasks ≡ l.initial.unrolling.tasks;
  until : l.unrolling.until ≡ l.initial.unrolling.until;
  writes : g.P.Port.write_faults l.port ≡ g.P.Port.write_faults l.initial.port;
  reads : g.P.Port.read_faults l.port ≡ g.P.Port.read_faults l.initial.port;
  calls : StaysWell (g.P.Port.calls l.initial.port) (g.P.Port.calls l.port);
}

abbrev pub decreases-loop-count : goal.decreases-loop-count
decreases-loop-count g l = 1_000_001 - l.count
