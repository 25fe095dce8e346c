use Rattle.std.proofs.Common.{◌∷◌, get_or, sym, ap, ◌∙◌, subst, drop-cons}
use Rattle.std.proofs.lemmas.List.{drop_all}
use Rattle.lane_server.specs.Feeding.{Hands}
use Rattle.dover_model.specs.Lines.{lines_of}
use Rattle.lane_server.proofs.Feeding.{hands_line}
use Rattle.lane_server.proofs.feed.Feed.take_front.Goals as goal

pub returns-then-bytes-gt1-clause-hands : goal.returns-then-bytes-gt1-clause-hands
returns-then-bytes-gt1-clause-hands c = λ x at goes.
    hands_line _ x c.args.bytes.now (c.pass.ensures.stands x at.cut)
    c.line.result _ (c.pass.ensures.cut x at.cut).2
    (c.line.ensures.stands (lines_of x) at.lane) (c.line.ensures.lacks (lines_of x) at.lane)

pub pass-requires : goal.pass-requires
pass-requires c = c.requires.whole c.if-bytes-gt1.true

pub take_byte-requires : goal.take_byte-requires
take_byte-requires c = c.requires.rests

pub returns-clause-hands : goal.returns-clause-hands
returns-clause-hands c = λ x at goes. let bytes = c.args.bytes.now in
    subst (λ bs. Hands c.take_byte.new.self x bs c.take_byte.result)
    (sym (drop-cons bytes 0 0 c.requires.some
    ∙ ap (λ bs. get_or bytes 0 0 ∷ bs) (drop_all 1 bytes c.if-bytes-gt1.false)))
    (c.take_byte.ensures.hands x at goes)

pub returns-clause-paid : goal.returns-clause-paid
returns-clause-paid c = c.take_byte.ensures.paid
