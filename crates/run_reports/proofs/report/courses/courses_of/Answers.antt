use Rattle.std.proofs.Common.{◌≡◌, ◌-◌, ◌++◌, drop, length, take, ap, ◌∙◌, arith, subst, sym}
use Rattle.run_reports.specs.report.Courses.{with_earlier}
use Rattle.run_reports.proofs.report.CourseReading.{AreRead, none_read, read_more, as_many_read, written}
use Rattle.run_reports.proofs.report.courses.courses_of.Goals as goal

pub loop-left-init : goal.loop-left-init
loop-left-init c =
    let start = none_read c.args.run.now c.in_ok-courses.courses.items c.resize.new.self.items _ c.args.count
    c.in_ok-courses.ensures.items c.in_ok-courses.ensures.len c.in_ok-resize.ensures.items in
    record { short = omega arith; count = start.0; each = start.1 }

pub loop-left-preserved : goal.loop-left-preserved
loop-left-preserved c =
    let old = c.loop-left.courses.items in
    let place = c.loop-left.left - 1 in
    let new : c.put_step.new.courses ≡ with_earlier old c.index-run-left.result = c.put_step.ensures
    ∙ ap (λ ps. with_earlier ps c.index-run-left.result) c.deref_mut.ensures.value in
    let whole : take c.loop-left.courses.len (c.put_step.new.courses ++ drop (length c.put_step.new.courses) old)
    ≡ with_earlier old c.index-run-left.result =
    written c.loop-left.courses.len c.put_step.new.courses old (omega (
      arith,
      ap length new,
      as_many_read old c.index-run-left.result,
      ap length c.deref_mut.ensures.value,
      c.deref_mut.ensures.len,
    )) ∙ new in
    record {
      short = let short = c.loop-left.invariant.short in omega (arith, short);
      count = ap length whole ∙ as_many_read old c.index-run-left.result ∙ c.loop-left.invariant.count;
      each = subst (λ ps. AreRead c.args.run.now ps c.args.count place) (sym whole)
          (read_more c.args.run.now old c.args.count place c.index-run-left.result c.index-run-left.is
          (let short = c.loop-left.invariant.short in let some = c.loop-left-test.true in omega (arith, short, some))
          (omega arith)
          c.loop-left.invariant.count
          (subst (AreRead c.args.run.now old c.args.count)
          (let some = c.loop-left-test.true in omega (arith, some)) c.loop-left.invariant.each));
    }
