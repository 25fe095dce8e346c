use Rattle.std.proofs.Common.{◌++◌, ◌∷◌, [], ap, sym, ◌∙◌, subst, cond}
use Rattle.dover_model.specs.Lines.{lines_of}
use Rattle.line_text.specs.Cutting.{StandsFor}
use Rattle.dialogue.proofs.Cutting.{byte_taken, line_taken}
use Rattle.dialogue.proofs.Reading.{on_short}
use Rattle.dialogue.proofs.line_reader.LineTalker.take_byte.Goals as goal

pub returns-in-More : goal.returns-in-More
returns-in-More g c = λ a x it on.
    let short = on_short _ (c.laws.ensures.orderly a) x on in
    byte_taken (g.R.LineReader.reading a) _ _ x c.args.byte short (c.push.ensures.stands x it.cut)
    (c.in-More.ensures.cut x it.cut short).2 it.taken

pub returns-in-Line : goal.returns-in-Line
returns-in-Line g c = λ a x it on.
    let short = on_short _ (c.laws.ensures.orderly a) x on in
    line_taken (g.R.LineReader.reading a) _ (g.R.LineReader.costs a c.take_line.new.meter) _ x (x ++ c.args.byte ∷ [])
    c.line.result.now c.take_line.result
    ((c.in-Line.ensures.cut x it.cut short).2 ∙ ap (λ l. lines_of x ++ l ∷ []) (sym c.line.ensures))
    (subst (StandsFor c.push.new.self) (ap (λ b. cond b x (x ++ c.args.byte ∷ [])) short)
    (c.push.ensures.stands x it.cut))
    (c.take_line.ensures a (lines_of x) it.taken on)

pub returns-in-TooLong : goal.returns-in-TooLong
returns-in-TooLong g c = λ a x it on.
    let short = on_short _ (c.laws.ensures.orderly a) x on in
    line_taken (g.R.LineReader.reading a) _ (g.R.LineReader.costs a c.take_line-in-TooLong.new.meter) _ x
    (x ++ c.args.byte ∷ []) c.line-in-TooLong.result.now c.take_line-in-TooLong.result
    ((c.in-TooLong.ensures.cut x it.cut short).2 ∙ ap (λ l. lines_of x ++ l ∷ []) (sym c.line-in-TooLong.ensures))
    (subst (StandsFor c.push.new.self) (ap (λ b. cond b x (x ++ c.args.byte ∷ [])) short)
    (c.push.ensures.stands x it.cut))
    (c.take_line-in-TooLong.ensures a (lines_of x) it.taken on)
