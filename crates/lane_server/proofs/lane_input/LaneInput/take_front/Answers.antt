use Rattle.std.proofs.Common.{[], ◌∷◌, get_or, sym, ap, ◌∙◌, subst, drop-cons}
use Rattle.std.proofs.lemmas.List.{drop_all}
use Rattle.lane_server.specs.LaneInput.{Adds}
use Rattle.dover_model.specs.Lines.{lines_of}
use Rattle.lane_server.proofs.Receiving.{may_take, lanes_stand, adds_line}
use Rattle.lane_server.proofs.lane_input.LaneInput.take_front.Goals as goal

pub hand-requires : goal.hand-requires
hand-requires c = may_take c.args.self.now c.requires.rests.0 c.requires.rests.1 c.requires.rests.2

pub returns-then-bytes-gt1-clause-adds : goal.returns-then-bytes-gt1-clause-adds
returns-then-bytes-gt1-clause-adds c = λ x at on.
    adds_line
    (record c.args.self.now { lines = c.pass.new.self; lanes = c.hand.new.lanes }) x c.args.bytes.now _
    (c.pass.ensures.stands x at.stands.cut) (c.pass.ensures.cut x at.stands.cut).2 _
    (c.hand.ensures.hands (lines_of x) (lanes_stand c.args.self.now x [] at.stands on))

pub pass-requires : goal.pass-requires
pass-requires c = c.requires.whole c.if-bytes-gt1.true

pub returns-then-bytes-gt1-clause-paid : goal.returns-then-bytes-gt1-clause-paid
returns-then-bytes-gt1-clause-paid c = c.hand.ensures.paid

pub bounds-bytes-0 : goal.bounds-bytes-0
bounds-bytes-0 c = c.requires.some

pub take_byte-requires : goal.take_byte-requires
take_byte-requires c = c.requires.rests

pub returns-clause-adds : goal.returns-clause-adds
returns-clause-adds c = λ x at on.
    let bytes = c.args.bytes.now in
    subst (λ bs. Adds c.take_byte.new.self x bs c.take_byte.result)
    (sym (drop-cons bytes 0 0 c.requires.some
    ∙ ap (λ bs. get_or bytes 0 0 ∷ bs) (drop_all 1 bytes c.if-bytes-gt1.false)))
    (c.take_byte.ensures.adds x at on)

pub returns-clause-paid : goal.returns-clause-paid
returns-clause-paid c = c.take_byte.ensures.paid
