use Rattle.std.proofs.Common.{◌≡◌, ◌-◌}
use Rattle.dover_port.specs.Causes.{StaysWell}
use Rattle.trial_words.proofs.Putting.{HasPut}
use Rattle.trial_words.proofs.dueling.put_jobs.Given as goal

-- the lines of the jobs so far are put
abbrev pub invariant-loop-put : goal.invariant-loop-put
invariant-loop-put g l = record {
  put : HasPut l.initial.coming l.coming l.fn.count l.put (g.P.Port.moves l.initial.port) (g.P.Port.moves l.port)
      l.initial.out l.out;
  writes : g.P.Port.write_faults l.port ≡ g.P.Port.write_faults l.initial.port;
  reads : g.P.Port.read_faults l.port ≡ g.P.Port.read_faults l.initial.port;
  calls : StaysWell (g.P.Port.calls l.initial.port) (g.P.Port.calls l.port);
}

abbrev pub decreases-loop-put : goal.decreases-loop-put
decreases-loop-put g l = l.fn.count - l.put
