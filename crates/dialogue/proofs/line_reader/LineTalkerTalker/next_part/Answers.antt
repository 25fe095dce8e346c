use Rattle.dialogue.proofs.line_reader.LineTalkerTalker.next_part.Goals as goal

pub returns : goal.returns
returns g c = record { gives = λ a x rest it. (it.1, it.0) }
