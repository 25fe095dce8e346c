use Rattle.std.proofs.Common.{◌<◌, ◌++◌, length, ap, ◌∙◌, if◌then◌else◌, []}
use Rattle.run_reports.specs.declared.report.courses.Course.{Course}
use Rattle.run_reports.specs.views.Timeline.{job_line_at}
use Rattle.run_reports.proofs.views.Drawing.{members_more}
use Rattle.run_reports.proofs.views.terminal.put_group.Goals as goal

pub loop-number-preserved : goal.loop-number-preserved
loop-number-preserved c =
    let there : c.loop-number.number < length c.args.jobs.now = c.loop-number-test.true in
    let ending = ap (λ (it : Course). it.ending) (c.requires.each c.loop-number.number there) in
    members_more c.args.window.now c.args.run.now c.args.of.now c.args.jobs.now c.args.group c.loop-number.number
    c.index-jobs-number.result c.loop-number.text.items _ _ c.index-jobs-number.is there
    (c.in_ok-put_member.ensures c.args.run.now c.requires.keeps ending
    ∙ ap (λ b. c.loop-number.text.items
    ++ (if b then job_line_at c.args.window.now c.args.run.now c.loop-number.number c.index-jobs-number.result else []))
    c.is_of-member.ensures) c.loop-number.invariant
