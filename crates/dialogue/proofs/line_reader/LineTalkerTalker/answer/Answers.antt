use Rattle.std.proofs.Common.{subst}
use Rattle.dover_model.specs.Lines.{lines_of}
use Rattle.dialogue.specs.Reading.{read_lines}
use Rattle.dialogue.specs.Turns.{Answers}
use Rattle.dialogue.proofs.line_reader.LineTalkerTalker.answer.Goals as goal

pub returns-clause-answers : goal.returns-clause-answers
returns-clause-answers g c = λ a x it over.
    let r = g.R.LineReader.reading a in
    subst (λ e. Answers (r.answer (read_lines r (lines_of x))) (r.lacks (read_lines r (lines_of x)) e)
    (g.P.Port.moves c.args.port.now) (g.P.Port.moves c.answer.new.port) c.answer.new.out c.answer.result) over
    (c.answer.ensures.answers a (lines_of x) it.taken)
