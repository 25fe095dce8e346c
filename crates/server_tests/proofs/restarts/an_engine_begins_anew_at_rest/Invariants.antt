use Rattle.server_tests.proofs.restarts.an_engine_begins_anew_at_rest.Given as goal

abbrev pub ghosts-all_come_to : goal.ghosts-all_come_to
ghosts-all_come_to g a = record { name = a.blank.name; parts = a.blank.parts }
