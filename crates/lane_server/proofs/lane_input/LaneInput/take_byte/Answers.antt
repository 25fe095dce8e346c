use Rattle.std.proofs.Common.{◌∷◌, [], subst}
use Rattle.dover_model.specs.Lines.{lines_of}
use Rattle.line_text.specs.Cutting.{StandsFor}
use Rattle.lane_server.proofs.Inputs.{short_rest}
use Rattle.lane_server.proofs.Receiving.{may_take, lanes_stand, adds_none, adds_line, with_it}
use Rattle.lane_server.proofs.lane_input.LaneInput.take_byte.Goals as goal

pub hand-requires : goal.hand-requires
hand-requires c = may_take c.args.self.now c.requires.0 c.requires.1 c.requires.2

pub hand-requires-in-TooLong : goal.hand-requires-in-TooLong
hand-requires-in-TooLong c = may_take c.args.self.now c.requires.0 c.requires.1 c.requires.2

pub returns-in-More-clause-adds : goal.returns-in-More-clause-adds
returns-in-More-clause-adds c = λ x at on.
    adds_none (record c.args.self.now { lines = c.push.new.self }) x (c.args.byte ∷ [])
    (subst (StandsFor c.push.new.self) (with_it x c.args.byte on) (c.in-More.ensures.stands x at.stands.cut)) _ on
    (c.in-More.ensures.cut x at.stands.cut (short_rest x on)).2 at.stands.holds

pub returns-in-Line-clause-adds : goal.returns-in-Line-clause-adds
returns-in-Line-clause-adds c = λ x at on.
    adds_line
    (record c.args.self.now { lines = c.push.new.self; lanes = c.hand.new.lanes }) x (c.args.byte ∷ []) _
    (subst (StandsFor c.push.new.self) (with_it x c.args.byte on) (c.in-Line.ensures.stands x at.stands.cut))
    (c.in-Line.ensures.cut x at.stands.cut (short_rest x on)).2 _
    (rw c.line.ensures at (c.hand.ensures.hands (lines_of x) (lanes_stand c.args.self.now x [] at.stands on)))

pub returns-in-TooLong-clause-adds : goal.returns-in-TooLong-clause-adds
returns-in-TooLong-clause-adds c = λ x at on.
    adds_line
    (record c.args.self.now { lines = c.push.new.self; lanes = c.hand-in-TooLong.new.lanes }) x (c.args.byte ∷ []) _
    (subst (StandsFor c.push.new.self) (with_it x c.args.byte on) (c.in-TooLong.ensures.stands x at.stands.cut))
    (c.in-TooLong.ensures.cut x at.stands.cut (short_rest x on)).2 _
    (rw c.line-in-TooLong.ensures at
    (c.hand-in-TooLong.ensures.hands (lines_of x) (lanes_stand c.args.self.now x [] at.stands on)))
