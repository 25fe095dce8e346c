use Rattle.std.proofs.Common.{◌≡◌, length, ◌∙◌, arith}
use Rattle.clairvoyant.proofs.feasible.Stretches.{grown, begun}
use Rattle.clairvoyant.proofs.feasible.pieces.add_piece.Goals as goal

pub returns-then-goes_on-clause-stretches : goal.returns-then-goes_on-clause-stretches
returns-then-goes_on-clause-stretches c = λ s here is.
    let long : c.len-last.result ≡ length c.args.pieces.now.items = omega (arith, c.args.pieces.now.ok.0) in
    grown s c.args.piece c.requires.some c.requires.job here c.deref.result.now c.args.pieces.now.items
    c.deref.ensures.value is c.len-last.result c.index_mut.result.now long c.if-goes_on.ensures
    c.index_mut.ensures.value

pub returns-clause-stretches : goal.returns-clause-stretches
returns-clause-stretches c = λ s here is.
    c.in_ok-push.ensures.items
    ∙ begun s c.args.piece c.requires.some c.requires.job here c.deref.result.now c.args.pieces.now.items
    c.deref.ensures.value is c.if-goes_on.ensures
