use Rattle.std.proofs.Common.{◌≡◌, ◌++◌, map, drop}
use Rattle.std.specs.List.{enumerate_from}
use Rattle.run_record.specs.ledger.Pages.{had_in}
use Rattle.run_record.proofs.ledger.reading.had_by.Given as goal

-- what the jobs so far had, and the others
abbrev pub invariant-loop-number : goal.invariant-loop-number
invariant-loop-number l = l.served.items
    ++ map (had_in l.under_way.entries) (enumerate_from l.number (drop l.number l.jobs))
    ≡ map (had_in l.under_way.entries) (enumerate_from 0 l.jobs)
