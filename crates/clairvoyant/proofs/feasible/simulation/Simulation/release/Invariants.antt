use Rattle.std.proofs.Common.{◌≡◌, ◌+◌, ◌-◌, ◌≤◌, length, List}
use Rattle.dover_model.specs.JobFacts.{JobFacts}
use Rattle.clairvoyant.specs.declared.feasible.simulation.Simulation.{Simulation}
use Rattle.clairvoyant.specs.feasible.Progress.{StandsAt}
use Rattle.clairvoyant.proofs.feasible.simulation.Simulation.release.Given as goal

-- what the jobs released so far have changed
pub record HasReleased (jobs : List JobFacts) (old s : Simulation) : Type 0 where
  pub stands : StandsAt jobs s s.clock
  pub clock : s.clock ≡ old.clock
  pub rises : old.queue.released ≤ s.queue.released
  pub few : length s.pieces.items + length s.queue.kept + old.queue.released ≤ length old.pieces.items
      + length old.queue.kept + s.queue.released

abbrev pub invariant-loop-job : goal.invariant-loop-job
invariant-loop-job l = HasReleased l.jobs l.initial.self l.self

abbrev pub decreases-loop-job : goal.decreases-loop-job
decreases-loop-job l = length l.jobs - l.self.queue.released
