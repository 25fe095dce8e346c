use Rattle.top_tests.proofs.calls.answer.Given as goal

abbrev pub ghosts-answer_in : goal.ghosts-answer_in
ghosts-answer_in a = record { name = a.blank.name; parts = a.blank.parts }
