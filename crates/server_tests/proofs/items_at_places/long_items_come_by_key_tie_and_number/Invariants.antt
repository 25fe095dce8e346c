use Rattle.server_tests.proofs.items_at_places.long_items_come_by_key_tie_and_number.Given as goal

abbrev pub ghosts-orders_long : goal.ghosts-orders_long
ghosts-orders_long g a = record { name = a.blank.name; parts = a.blank.parts }
