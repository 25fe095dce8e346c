use Rattle.question_words.proofs.replaying.record.Goals as goal

pub serve_alone-requires-clause-begins : goal.serve_alone-requires-clause-begins
serve_alone-requires-clause-begins g c = λ kept. c.new.ensures.items

pub returns-clause-run : goal.returns-clause-run
returns-clause-run g c = c.in_ok-serve_alone.ensures.run c.if-run.false
