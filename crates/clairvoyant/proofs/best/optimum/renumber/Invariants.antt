use Rattle.std.proofs.Common.{◌≡◌}
use Rattle.clairvoyant.specs.best.BestSet.{renumbered}
use Rattle.dover_model.proofs.lists.InPlace.{map_front}
use Rattle.clairvoyant.proofs.best.optimum.renumber.Given as goal

abbrev pub invariant-loop-piece : goal.invariant-loop-piece
invariant-loop-piece l = l.piece-items ≡ map_front (renumbered l.chosen) l.piece-index l.fn.pieces.items
