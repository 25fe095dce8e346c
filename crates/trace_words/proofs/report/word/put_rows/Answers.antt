use Rattle.std.proofs.Common.{refl, ◌∙◌}
use Rattle.trace_words.proofs.report.Putting.{put_none, put_more, put_cut, put_all, fewer}
use Rattle.trace_words.proofs.report.word.put_rows.Goals as goal

pub loop-line-init : goal.loop-line-init
loop-line-init g c = record {
  put = put_none _ _ _;
  writes = refl;
  reads = refl;
  calls = λ well. well;
}

pub loop-line-preserved : goal.loop-line-preserved
loop-line-preserved g c = let kept = c.loop-line.invariant in record {
  put = put_more _ _ _ _ _ _ _ _ _ kept.put _ c.loop-line-test.true c.next_row.ensures _ _
      (rw c.bytes.ensures.is at c.in-Ok.ensures.text.all);
  writes = c.in-Ok.ensures.cause.ok ∙ kept.writes;
  reads = c.in-Ok.ensures.cause.other ∙ kept.reads;
  calls = λ well. c.in-Ok.ensures.stops.well (kept.calls well);
}

pub loop-line-smaller : goal.loop-line-smaller
loop-line-smaller g c = fewer _ _ _ _ _ c.loop-line-test.true c.next_row.ensures

pub returns-in-Err-clause-text : goal.returns-in-Err-clause-text
returns-in-Err-clause-text g c = record {
  all = tt;
  part = put_cut _ _ _ _ _ _ _ _ _ c.loop-line.invariant.put _ c.loop-line-test.true c.next_row.ensures _
      (rw c.bytes.ensures.is at c.in-Err.ensures.text.part);
}

pub returns-clause-text : goal.returns-clause-text
returns-clause-text g c = record {
  all = put_all _ _ _ _ _ _ _ _ _ c.loop-line.invariant.put _ c.loop-line-test.false c.next_row.ensures;
  part = tt;
}
