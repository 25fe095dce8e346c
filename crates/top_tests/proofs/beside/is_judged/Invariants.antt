use Rattle.top_tests.proofs.beside.is_judged.Given as goal

abbrev pub ghosts-is_accepted : goal.ghosts-is_accepted
ghosts-is_accepted a = record { name = a.blank.name; parts = a.blank.parts }
