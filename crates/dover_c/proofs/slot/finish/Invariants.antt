use Rattle.dover_c.proofs.slot.finish.Given as goal

-- The ledger is that of the blank that is handed on.
abbrev pub ghosts-step_to_end : goal.ghosts-step_to_end
ghosts-step_to_end a = record { name = a.blank.name; parts = a.blank.parts }
