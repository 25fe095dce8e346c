use Rattle.dialogue.proofs.line_reader.converse_in_lines.Goals as goal

pub converse-requires : goal.converse-requires
converse-requires g c = (c.requires.0, record { cut = c.new.ensures.stands; taken = c.requires.1 })

pub returns-clause-talks : goal.returns-clause-talks
returns-clause-talks g c = λ a it. c.converse.ensures.talks a (record { cut = c.new.ensures.stands; taken = it })

pub returns-clause-ends : goal.returns-clause-ends
returns-clause-ends g c = λ a it. c.converse.ensures.ends a (record { cut = c.new.ensures.stands; taken = it })
