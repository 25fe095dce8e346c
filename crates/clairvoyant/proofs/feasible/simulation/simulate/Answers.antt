use Rattle.std.proofs.Common.{List, [], sym, subst, None}
use Rattle.clairvoyant.specs.feasible.Progress.{Stands}
use Rattle.dover_model.specs.declared.pieces.Piece.{Piece}
use Rattle.clairvoyant.specs.feasible.Queue.{QueueFacts}
use Rattle.clairvoyant.proofs.feasible.Standing.{stands_first}
use Rattle.clairvoyant.proofs.feasible.simulation.simulate.Goals as goal

pub release-requires-clause-stands : goal.release-requires-clause-stands
release-requires-clause-stands c =
    subst (λ (q : QueueFacts). Stands c.args.jobs.now 0 q.released q.kept c.new-2.result.items None 0)
    (sym c.new.ensures)
    (subst (λ (pieces : List Piece). Stands c.args.jobs.now 0 0 [] pieces None 0) (sym c.new-2.ensures.items)
    (stands_first c.args.jobs.now))

pub step-requires-clause-count : goal.step-requires-clause-count
step-requires-clause-count c = c.requires.count
