use Rattle.std.proofs.Common.{◌∙◌, refl, subst}
use Rattle.snapshot.specs.Pausing.{Writes}
use Rattle.feed_words.proofs.serve.Snapped.{none_put, puts_line, cuts_line, all_put}
use Rattle.feed_words.proofs.serve.pause.put_lines.Goals as goal

pub loop-line-init : goal.loop-line-init
loop-line-init g c = record {
  put = none_put _ _ _;
  writes = refl;
  reads = refl;
  calls = λ well. well;
}

pub loop-line-preserved : goal.loop-line-preserved
loop-line-preserved g c =
    let wrote = subst (Writes _ _ _) c.loop-line-test.true c.next_line.ensures in record {
      put = puts_line _ _ _ wrote.0 wrote.1 _ _ _ _ _ _ c.loop-line.invariant.put
          (rw (c.bytes.ensures.is, wrote.2) at c.in-Ok.ensures.text.all);
      writes = c.in-Ok.ensures.cause.ok ∙ c.loop-line.invariant.writes;
      reads = c.in-Ok.ensures.cause.other ∙ c.loop-line.invariant.reads;
      calls = λ well. c.in-Ok.ensures.stops.well (c.loop-line.invariant.calls well);
    }

pub returns-in-Err-clause-text : goal.returns-in-Err-clause-text
returns-in-Err-clause-text g c =
    let wrote = subst (Writes _ _ _) c.loop-line-test.true c.next_line.ensures in record {
      all = tt;
      part = cuts_line _ _ _ wrote.0 wrote.1 _ _ _ _ _ c.put.new.self c.loop-line.invariant.put
          (rw (c.bytes.ensures.is, wrote.2) at c.in-Err.ensures.text.part);
    }

pub returns-clause-text : goal.returns-clause-text
returns-clause-text g c =
    let none = subst (Writes _ _ _) c.loop-line-test.false c.next_line.ensures in record {
      all = all_put _ _ _ _ _ _ c.loop-line.invariant.put none.0;
      part = tt;
    }
