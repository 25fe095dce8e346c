use Rattle.two_jobs.proofs.main.Given as goal

-- The ledger is that of the blank that is handed on.
abbrev pub ghosts-serve : goal.ghosts-serve
ghosts-serve a = record { name = a.blank.name; parts = a.blank.parts }
