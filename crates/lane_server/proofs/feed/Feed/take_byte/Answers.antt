use Rattle.std.proofs.Common.{◌∷◌, []}
use Rattle.dover_model.specs.Lines.{lines_of}
use Rattle.lane_server.proofs.Feeding.{begun_short, byte_kept, hands_none, hands_line}
use Rattle.lane_server.proofs.feed.Feed.take_byte.Goals as goal

pub returns-in-More-clause-hands : goal.returns-in-More-clause-hands
returns-in-More-clause-hands c = λ x at goes.
    hands_none _ x (c.args.byte ∷ [])
    (byte_kept x goes _ c.args.byte (c.in-More.ensures.stands x at.cut)) tt
    (c.in-More.ensures.cut x at.cut (begun_short x goes)).2 at.lane

pub returns-in-Line-clause-hands : goal.returns-in-Line-clause-hands
returns-in-Line-clause-hands c = λ x at goes.
    hands_line _ x (c.args.byte ∷ [])
    (byte_kept x goes _ c.args.byte (c.in-Line.ensures.stands x at.cut)) c.line-in-Line.result _
    (c.in-Line.ensures.cut x at.cut (begun_short x goes)).2
    (rw c.line.ensures at (c.line-in-Line.ensures.stands (lines_of x) at.lane))
    (rw c.line.ensures at (c.line-in-Line.ensures.lacks (lines_of x) at.lane))

pub returns-in-TooLong-clause-hands : goal.returns-in-TooLong-clause-hands
returns-in-TooLong-clause-hands c = λ x at goes.
    hands_line _ x (c.args.byte ∷ [])
    (byte_kept x goes _ c.args.byte (c.in-TooLong.ensures.stands x at.cut)) c.line-in-TooLong-2.result _
    (c.in-TooLong.ensures.cut x at.cut (begun_short x goes)).2
    (rw c.line-in-TooLong.ensures at (c.line-in-TooLong-2.ensures.stands (lines_of x) at.lane))
    (rw c.line-in-TooLong.ensures at (c.line-in-TooLong-2.ensures.lacks (lines_of x) at.lane))

pub line-requires-in-Line : goal.line-requires-in-Line
line-requires-in-Line c = (lines_of c.requires.0, c.requires.1.lane)

pub line-requires-in-TooLong-2 : goal.line-requires-in-TooLong-2
line-requires-in-TooLong-2 c = (lines_of c.requires.0, c.requires.1.lane)

pub returns-in-More-clause-paid : goal.returns-in-More-clause-paid
returns-in-More-clause-paid c = λ x start now at paid. paid

pub returns-in-Line-clause-paid : goal.returns-in-Line-clause-paid
returns-in-Line-clause-paid c = λ x start now at paid.
    c.line-in-Line.ensures.paid (lines_of x) start now at.lane paid

pub returns-in-TooLong-clause-paid : goal.returns-in-TooLong-clause-paid
returns-in-TooLong-clause-paid c = λ x start now at paid.
    c.line-in-TooLong-2.ensures.paid (lines_of x) start now at.lane paid
