use Rattle.std.proofs.Common.{refl, ap, ◌∙◌, ◌∷◌, ◌++◌, [], ◌+◌, length, length-append, arith, sym, append-nil}
use Rattle.task_words.proofs.unroll.Putting.{put_all, put_few, put_more, put_cut, same_jobs}
use Rattle.task_words.proofs.unroll.Spending.{came_few, all_cost}
use Rattle.dover_port.proofs.Made.{since_none}
use Rattle.task_words.proofs.unroll.feeds.put_jobs.Goals as goal

pub returns-in_default-clause-text : goal.returns-in_default-clause-text
returns-in_default-clause-text g c = let kept = c.loop-count.invariant in record {
  all = put_all c.loop-count.unrolling _ _ _ _ c.loop-count.count kept.put _
      (same_jobs c.loop-count.unrolling c.args.unrolling.now kept.tasks kept.until)
      (c.in_default.ensures.end kept.put.done kept.put.stands refl);
  part = tt;
}

pub loop-count-preserved : goal.loop-count-preserved
loop-count-preserved g c = let kept = c.loop-count.invariant in record {
  put = put_more c.loop-count.unrolling c.next_job.new.self _ _ _ _ _ _ c.loop-count.count kept.put c.in-Some.job
      (c.in-Some.ensures.next kept.put.done kept.put.stands) _ refl c.in-Ok.ensures.text.all;
  spent = λ d enough. omega (
    arith,
    kept.spent d enough,
    c.next_job.ensures.count d (omega (arith, enough, ap length kept.tasks)),
  );
  tasks = c.next_job.ensures.tasks ∙ kept.tasks;
  until = c.next_job.ensures.until ∙ kept.until;
  writes = c.in-Ok.ensures.cause.ok ∙ kept.writes;
  reads = c.in-Ok.ensures.cause.other ∙ kept.reads;
  calls = λ well. c.in-Ok.ensures.stops.well (kept.calls well);
}

pub returns-in-Err-clause-text : goal.returns-in-Err-clause-text
returns-in-Err-clause-text g c = let kept = c.loop-count.invariant in record {
  all = tt;
  part = put_cut c.loop-count.unrolling c.next_job.new.self _ _ _ _ _ c.put_job.new.out c.loop-count.count kept.put
      c.in-Some.job
      (c.in-Some.ensures.next kept.put.done kept.put.stands) _
      (same_jobs c.next_job.new.self c.args.unrolling.now (c.next_job.ensures.tasks ∙ kept.tasks)
      (c.next_job.ensures.until ∙ kept.until))
      c.in-Err.ensures.text.part;
}

pub unreachable-requires : goal.unreachable-requires
unreachable-requires g c = let kept = c.loop-count.invariant in
    omega (
      arith,
      c.loop-count-test.false,
      put_few c.loop-count.unrolling _ _ _ _ c.loop-count.count kept.put _
          (same_jobs c.loop-count.unrolling c.args.unrolling.now kept.tasks kept.until) c.requires.few,
    )

-- no job is left
pub returns-in_default-clause-count : goal.returns-in_default-clause-count
returns-in_default-clause-count g c = λ d enough. let kept = c.loop-count.invariant in
    all_cost d _ _ c.loop-count.count _
    (omega (
      arith,
      kept.put.count_is,
      came_few c.loop-count.unrolling kept.put.done kept.put.stands _
          (same_jobs c.loop-count.unrolling c.args.unrolling.now kept.tasks kept.until),
    ))
    (omega (arith, kept.spent d enough, c.in_default.ensures.idle refl))

-- the line of a job is cut short
pub returns-in-Err-clause-count : goal.returns-in-Err-clause-count
returns-in-Err-clause-count g c = λ d enough. let kept = c.loop-count.invariant in
    all_cost d _ _ (c.loop-count.count + 1) _
    (omega (
      arith,
      kept.put.count_is,
      length-append kept.put.done (c.in-Some.job ∷ []),
      came_few c.next_job.new.self (kept.put.done ++ c.in-Some.job ∷ [])
          (c.in-Some.ensures.next kept.put.done kept.put.stands) _
          (same_jobs c.next_job.new.self c.args.unrolling.now (c.next_job.ensures.tasks ∙ kept.tasks)
          (c.next_job.ensures.until ∙ kept.until)),
    ))
    (omega (
      arith,
      kept.spent d enough,
      c.next_job.ensures.count d (omega (arith, enough, ap length kept.tasks)),
    ))

pub returns-in_default-clause-stops : goal.returns-in_default-clause-stops
returns-in_default-clause-stops g c = record { well = c.loop-count.invariant.calls; stopped = tt }

pub next_job-requires-clause-stands : goal.next_job-requires-clause-stands
next_job-requires-clause-stands g c = (c.loop-count.invariant.put.done, c.loop-count.invariant.put.stands)

pub loop-count-init : goal.loop-count-init
loop-count-init g c = record {
  put = record {
    done = [];
    count_is = refl;
    stands = c.requires.stands;
    passes = since_none _ _ (tt, sym (append-nil c.args.out.now));
  };
  spent = λ d enough. omega arith;
  tasks = refl;
  until = refl;
  writes = refl;
  reads = refl;
  calls = λ well. well;
}
