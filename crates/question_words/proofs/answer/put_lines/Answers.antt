use Rattle.std.proofs.Common.{◌≤◌, ◌+◌, ◌++◌, ◌∷◌, [], ◌∙◌, take, drop, ap, refl, subst, arith, take_all, map}
use Rattle.dover_model.specs.Lines.{in_lines}
use Rattle.dover_port.proofs.Through.{passes_nothing, passes_then}
use Rattle.dover_port.specs.Causes.{Rose}
use Rattle.dover_port.specs.Moves.{Passes, PutsThrough}
use Rattle.dialogue.proofs.Putting.{puts_behind, puts_cut}
use Rattle.question_words.proofs.RowLines.{more, all}
use Rattle.question_words.proofs.answer.put_lines.Goals as goal

pub loop-row-preserved : goal.loop-row-preserved
loop-row-preserved g c = record {
  passes = subst (Passes _ _ _ _)
      (ap (λ x. in_lines (map g.R.Row.says (take c.loop-row.row-index c.args.rows.now)) ++ (g.R.Row.says x ++ 10 ∷ []))
      c.row-item.is
      ∙ more g.R.Row.says c.args.rows.now c.loop-row.row-index c.row-item.result c.loop-row-test.true)
      (passes_then _ _ _ _ _ _ _ _ c.loop-row.invariant.passes
      (rw (c.bytes.ensures.is ∙ c.line.ensures) at c.in-Ok.ensures.text.all));
  writes = c.in-Ok.ensures.cause.ok ∙ c.loop-row.invariant.writes;
  reads = c.in-Ok.ensures.cause.other ∙ c.loop-row.invariant.reads;
  calls = λ well. c.in-Ok.ensures.stops.well (c.loop-row.invariant.calls well);
}

pub returns-in-Err-clause-text : goal.returns-in-Err-clause-text
returns-in-Err-clause-text g c =
    subst (PutsThrough _ _ _ _ _)
    (ap (λ x. in_lines (map g.R.Row.says (take c.loop-row.row-index c.args.rows.now)) ++ ((g.R.Row.says x ++ 10 ∷ [])
    ++ in_lines (map g.R.Row.says (drop (c.loop-row.row-index + 1) c.args.rows.now)))) c.row-item.is
    ∙ all g.R.Row.says c.args.rows.now c.loop-row.row-index c.row-item.result c.loop-row-test.true)
    (puts_behind _ _ _ _ _ _ _ _ _ c.loop-row.invariant.passes
    (puts_cut _ _ _ _ _ _ _ (rw (c.bytes.ensures.is ∙ c.line.ensures) at c.in-Err.ensures.text.part)))

pub loop-row-init : goal.loop-row-init
loop-row-init g c = record {
  passes = passes_nothing _ _;
  writes = refl;
  reads = refl;
  calls = λ well. well;
}

pub returns-clause-text : goal.returns-clause-text
returns-clause-text g c = record {
  all = subst (Passes _ _ _ _)
      (ap (λ rows. in_lines (map g.R.Row.says rows)) (take_all c.loop-row.row-index c.args.rows.now (omega arith)))
      c.loop-row.invariant.passes;
  part = tt;
}

pub returns-in-Err-clause-cause : goal.returns-in-Err-clause-cause
returns-in-Err-clause-cause g c = record {
  later = subst (λ n. n ≤ g.P.Port.write_faults c.put.new.port) c.loop-row.invariant.writes
      c.in-Err.ensures.cause.later;
  ok = tt;
  failed = subst (λ n. Rose n (g.P.Port.write_faults c.put.new.port)) c.loop-row.invariant.writes
      c.in-Err.ensures.cause.failed;
  other = c.in-Err.ensures.cause.other ∙ c.loop-row.invariant.reads;
}

pub returns-in-Err-clause-stops : goal.returns-in-Err-clause-stops
returns-in-Err-clause-stops g c = record {
  well = tt;
  stopped = λ well. c.in-Err.ensures.stops.stopped (c.loop-row.invariant.calls well);
}
