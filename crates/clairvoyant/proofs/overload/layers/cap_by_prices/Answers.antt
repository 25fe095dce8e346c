use Rattle.std.proofs.Common.{sym, subst, arith}
use Rattle.clairvoyant.specs.overload.Stretches.{Caps}
use Rattle.clairvoyant.proofs.overload.Paying.{none_paid, total_caps}
use Rattle.clairvoyant.proofs.overload.layers.cap_by_prices.Goals as goal

pub loop-layer-init : goal.loop-layer-init
loop-layer-init c = record {
  count = c.in_ok-unpriced.ensures.count;
  small = omega arith;
  pays = none_paid c.args.jobs.now c.in_ok-unpriced.field-0.items c.in_ok-unpriced.ensures.none;
}

pub returns-clause-cap : goal.returns-clause-cap
returns-clause-cap c = subst (Caps c.args.jobs.now) (sym c.requires.total) (total_caps c.args.jobs.now)

pub round-requires-clause-priced : goal.round-requires-clause-priced
round-requires-clause-priced c = c.loop-layer.invariant

pub round-requires-clause-in_order : goal.round-requires-clause-in_order
round-requires-clause-in_order c = c.requires.in_order

pub most-most-requires-clause-priced : goal.most-most-requires-clause-priced
most-most-requires-clause-priced c = c.loop-layer.invariant
