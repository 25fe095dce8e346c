use Rattle.clairvoyant.proofs.overload.layers.raise.Goals as goal

pub returns-clause-raised : goal.returns-clause-raised
returns-clause-raised c = c.loop-place.invariant.raised
