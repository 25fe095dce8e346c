use Rattle.std.proofs.Common.{◌≡◌, ◌<◌, length, ap, ◌∙◌, arith}
use Rattle.std.proofs.lemmas.List.{get_or_default}
use Rattle.run_reports.specs.declared.report.courses.Course.{Course}
use Rattle.run_reports.specs.report.Courses.{ending_in, unseen}
use Rattle.run_reports.proofs.views.Drawing.{lines_more, lines_all}
use Rattle.run_reports.proofs.views.terminal.put_jobs.Goals as goal

pub loop-number-preserved : goal.loop-number-preserved
loop-number-preserved c =
    let there : c.loop-number.number < length c.args.jobs.now = c.loop-number-test.true in
    let ending : c.index.result.now.ending ≡ ending_in c.args.run.now c.loop-number.number =
    ap (λ (it : Course). it.ending) (c.index.ensures
    ∙ get_or_default c.in_ok-courses.courses.items c.loop-number.number c.index.result.now unseen
    (let count = c.in_ok-courses.ensures.count in omega (arith, count, there))
    ∙ c.in_ok-courses.ensures.each c.loop-number.number there) in
    lines_more c.args.window.now c.args.run.now c.args.jobs.now c.loop-number.number c.index-jobs-number.result
    c.index.result.now.ending c.loop-number.text.items _ _ c.index-jobs-number.is there ending
    (c.in_ok-put_met.ensures c.args.run.now c.in_ok-stays.ensures.keeps) c.loop-number.invariant

pub put_met-requires-clause-known : goal.put_met-requires-clause-known
put_met-requires-clause-known c =
    let count = c.in_ok-stays.ensures.count in
    let there : c.loop-number.number < length c.args.jobs.now = c.loop-number-test.true in
    omega (arith, count, there)

pub put_met-requires-clause-keeps : goal.put_met-requires-clause-keeps
put_met-requires-clause-keeps c = (c.args.run.now, c.in_ok-stays.ensures.keeps)

pub returns : goal.returns
returns c = lines_all c.args.window.now c.args.run.now c.args.jobs.now c.loop-number.number c.loop-number.text.items _
    (omega arith) c.loop-number.invariant
