use Rattle.std.proofs.Common.{◌+◌, ◌-◌, ◌^◌, List}
use Rattle.dover_model.specs.JobFacts.{JobFacts}
use Rattle.clairvoyant.specs.declared.feasible.simulation.Simulation.{Simulation}
use Rattle.clairvoyant.specs.feasible.Progress.{StandsAt, HasFew}
use Rattle.clairvoyant.proofs.feasible.simulation.simulate.Given as goal

-- the simulation may take its next step
pub record MayStep (jobs : List JobFacts) (s : Simulation) : Type 0 where
  pub stands : StandsAt jobs s (s.clock + 1)
  pub few : HasFew s

abbrev pub invariant-loop-simulation : goal.invariant-loop-simulation
invariant-loop-simulation l = MayStep l.jobs l.simulation

abbrev pub decreases-loop-simulation : goal.decreases-loop-simulation
decreases-loop-simulation l = 2 ^ 64 - l.simulation.clock
