use Rattle.clairvoyant.specs.overload.Pricing.{HasPriced}
use Rattle.clairvoyant.proofs.overload.layers.cap_by_prices.Given as goal

abbrev pub invariant-loop-layer : goal.invariant-loop-layer
invariant-loop-layer l = HasPriced l.jobs l.priced
