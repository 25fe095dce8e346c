use Rattle.clairvoyant.specs.overload.Pricing.{HasPriced}
use Rattle.clairvoyant.proofs.overload.layers.Priced.put_each.Given as goal

abbrev pub invariant-loop-ticks : goal.invariant-loop-ticks
invariant-loop-ticks l = HasPriced l.jobs l.self
