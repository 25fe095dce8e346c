use Rattle.std.proofs.Common.{◌≤◌, ◌∙◌, refl, subst}
use Rattle.dover_port.proofs.Through.{passes_nothing, passes_then}
use Rattle.dover_port.specs.Causes.{Rose}
use Rattle.dover_port.specs.Moves.{Passes, PutsThrough}
use Rattle.dialogue.proofs.Putting.{puts_behind, puts_cut}
use Rattle.task_report.proofs.Parts.{lines_more, lines_rest, lines_whole}
use Rattle.task_report.proofs.lines.put_tasks.Goals as goal

pub tally-tally-requires : goal.tally-tally-requires
tally-tally-requires g c = (c.args.tasks.now, c.requires.0, c.requires.1)

pub loop-number-init : goal.loop-number-init
loop-number-init g c = record {
  passes = λ steps sorted. passes_nothing _ _;
  writes = refl;
  reads = refl;
  calls = λ well. well;
}

pub returns-clause-text : goal.returns-clause-text
returns-clause-text g c = λ steps sorted. record {
  all = subst (Passes _ _ _ _)
      (lines_whole c.args.tasks.now steps c.loop-number.number c.loop-number-test.false)
      (c.loop-number.invariant.passes steps sorted);
  part = tt;
}

pub returns-in-Err-clause-cause : goal.returns-in-Err-clause-cause
returns-in-Err-clause-cause g c = record {
  later = subst (λ n. n ≤ g.P.Port.write_faults c.put_task.new.port) c.loop-number.invariant.writes
      c.in-Err.ensures.cause.later;
  ok = tt;
  failed = subst (λ n. Rose n (g.P.Port.write_faults c.put_task.new.port)) c.loop-number.invariant.writes
      c.in-Err.ensures.cause.failed;
  other = c.in-Err.ensures.cause.other ∙ c.loop-number.invariant.reads;
}

pub returns-in-Err-clause-stops : goal.returns-in-Err-clause-stops
returns-in-Err-clause-stops g c = record {
  well = tt;
  stopped = λ well. c.in-Err.ensures.stops.stopped (c.loop-number.invariant.calls well);
}

pub loop-number-preserved : goal.loop-number-preserved
loop-number-preserved g c = record {
  passes = λ steps known. subst (Passes _ _ _ _)
      (lines_more c.args.tasks.now steps c.loop-number.number c.loop-number-test.true c.tally-tally.result
      (c.tally-tally.ensures c.args.tasks.now steps known))
      (passes_then _ _ _ _ _ _ _ _ (c.loop-number.invariant.passes steps known) c.in-Ok.ensures.text.all);
  writes = c.in-Ok.ensures.cause.ok ∙ c.loop-number.invariant.writes;
  reads = c.in-Ok.ensures.cause.other ∙ c.loop-number.invariant.reads;
  calls = λ well. c.in-Ok.ensures.stops.well (c.loop-number.invariant.calls well);
}

pub returns-in-Err-clause-text : goal.returns-in-Err-clause-text
returns-in-Err-clause-text g c = λ steps known. subst (PutsThrough _ _ _ _ _)
    (lines_rest c.args.tasks.now steps c.loop-number.number c.loop-number-test.true c.tally-tally.result
    (c.tally-tally.ensures c.args.tasks.now steps known))
    (puts_behind _ _ _ _ _ _ _ _ _ (c.loop-number.invariant.passes steps known)
    (puts_cut _ _ _ _ _ _ _ c.in-Err.ensures.text.part))
