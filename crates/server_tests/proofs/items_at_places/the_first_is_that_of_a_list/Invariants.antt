use Rattle.server_tests.proofs.items_at_places.the_first_is_that_of_a_list.Given as goal

abbrev pub ghosts-orders : goal.ghosts-orders
ghosts-orders g a = record { name = a.blank.name; parts = a.blank.parts }
