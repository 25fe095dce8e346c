use Rattle.clairvoyant.proofs.overload.layers.Priced.put_each.Goals as goal

pub put-requires-clause-in_order : goal.put-requires-clause-in_order
put-requires-clause-in_order c = c.requires.in_order

pub put-requires-clause-priced : goal.put-requires-clause-priced
put-requires-clause-priced c = c.loop-ticks.invariant

pub loop-ticks-preserved : goal.loop-ticks-preserved
loop-ticks-preserved c = c.put.ensures
