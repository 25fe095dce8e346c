use Rattle.dover_c.proofs.slot.step.Given as goal

-- The ledger is that of the blank that is handed on.
abbrev pub ghosts-step_to : goal.ghosts-step_to
ghosts-step_to a = record { name = a.blank.name; parts = a.blank.parts }
