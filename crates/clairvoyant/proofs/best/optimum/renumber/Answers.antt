use Rattle.std.proofs.Common.{◌≡◌, ◌∙◌, length, ap, arith}
use Rattle.std.proofs.lemmas.List.{with_items_is}
use Rattle.clairvoyant.specs.best.BestSet.{renumbered}
use Rattle.dover_model.proofs.lists.InPlace.{map_front, map_front_next, map_front_all}
use Rattle.clairvoyant.proofs.best.optimum.renumber.Goals as goal

pub loop-piece-preserved : goal.loop-piece-preserved
loop-piece-preserved c =
    map_front_next _ _ _ _ _ _ c.loop-piece.invariant (omega (arith, ap length c.deref_mut-piece-items.ensures.value))
    c.renumbered.ensures

pub returns : goal.returns
returns c =
    with_items_is c.args.pieces.now c.loop-piece.piece-items
    (c.loop-piece.auto.piece-items ∙ c.deref_mut-piece-items.ensures.len)
    ∙ c.loop-piece.invariant ∙ ap (λ n. map_front (renumbered c.args.chosen.now) n c.args.pieces.now.items)
    (let e : c.loop-piece.piece-index ≡ length c.args.pieces.now.items =
    omega (arith, ap length c.deref_mut-piece-items.ensures.value) in e)
    ∙ map_front_all (renumbered c.args.chosen.now) c.args.pieces.now.items
