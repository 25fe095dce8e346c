use Rattle.clairvoyant.specs.overload.Collecting.{HasCosted}
use Rattle.clairvoyant.proofs.overload.costing.Costing.find.Given as goal

abbrev pub invariant-loop-ticks : goal.invariant-loop-ticks
invariant-loop-ticks l = HasCosted l.jobs l.self
