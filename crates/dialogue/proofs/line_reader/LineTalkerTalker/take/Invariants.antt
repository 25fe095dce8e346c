use Rattle.std.proofs.Common.{◌≡◌, ℕ, List, true, length}
use Rattle.dover_model.specs.Lines.{lines_of}
use Rattle.dialogue.specs.Reading.{read_lines}
use Rattle.dialogue.specs.Taking.{HasTaken}
use Rattle.dialogue.proofs.Cutting.{HasTakenFront}
use Rattle.dialogue.proofs.line_reader.LineTalkerTalker.take.Given as goal

-- A front of the piece was taken, and more is to be read.
abbrev pub invariant-loop-rest : goal.invariant-loop-rest
invariant-loop-rest g l = (a : g.R.LineReader.about) (x : List ℕ)
    → HasTaken (g.R.LineReader.stands a l.initial.self.reader l.initial.meter) l.initial.self.lines x
    → (g.R.LineReader.reading a).goes_on (read_lines (g.R.LineReader.reading a) (lines_of x)) ≡ true
    → HasTakenFront (g.R.LineReader.reading a)
    (HasTaken (g.R.LineReader.stands a l.self.reader l.meter) l.self.lines) x l.piece l.rest true

abbrev pub decreases-loop-rest : goal.decreases-loop-rest
decreases-loop-rest g l = length l.rest
