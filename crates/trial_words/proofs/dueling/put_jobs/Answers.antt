use Rattle.std.proofs.Common.{◌∙◌}
use Rattle.trial_words.proofs.Putting.{some_job, one_put, one_cut}
use Rattle.trial_words.proofs.dueling.put_jobs.Goals as goal

pub unreachable-requires : goal.unreachable-requires
unreachable-requires g c = some_job _ _ _ _ _ _ _ _ c.loop-put.invariant.put c.requires.few c.requires.each
    c.loop-put-test.true c.next_job.result c.next_job.new.self c.next_job.ensures c.in_default.not-Job

pub loop-put-preserved : goal.loop-put-preserved
loop-put-preserved g c = let kept = c.loop-put.invariant in record {
  put = one_put _ _ _ _ _ _ _ _ kept.put c.in-Job.job c.next_job.new.self c.in-Job.ensures c.loop-put-test.true _ _
      c.in-Ok.ensures.text.all;
  writes = c.in-Ok.ensures.cause.ok ∙ kept.writes;
  reads = c.in-Ok.ensures.cause.other ∙ kept.reads;
  calls = λ well. c.in-Ok.ensures.stops.well (kept.calls well);
}

pub returns-in-Err-clause-text : goal.returns-in-Err-clause-text
returns-in-Err-clause-text g c = let kept = c.loop-put.invariant in record {
  all = tt;
  part = one_cut _ _ _ _ _ _ _ _ kept.put c.in-Job.job c.next_job.new.self c.in-Job.ensures c.loop-put-test.true _
      c.put_job.new.out c.in-Err.ensures.text.part;
}
