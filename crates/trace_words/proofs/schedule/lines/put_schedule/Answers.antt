use Rattle.std.proofs.Common.{◌≡◌, IfOk, subst}
use Rattle.run_reports.specs.views.Timeline.{schedule_timeline}
use Rattle.trace_words.specs.schedule.Talk.{IsDrawn}
use Rattle.trace_words.proofs.report.Answering.{all_ok, whole_put}
use Rattle.trace_words.proofs.schedule.lines.put_schedule.Goals as goal

pub returns-in-Table-clause-puts : goal.returns-in-Table-clause-puts
returns-in-Table-clause-puts g c = rw c.in-Table.is c.put_table.ensures.puts

pub schedule_timeline-requires : goal.schedule_timeline-requires
schedule_timeline-requires g c = rw c.deref.ensures.value c.requires.few

pub returns-in-Timeline-clause-puts : goal.returns-in-Timeline-clause-puts
returns-in-Timeline-clause-puts g c = rw c.requires.empty
    (whole_put _ (IsDrawn c.args.form c.args.steps.items) _ _ _ _ _ c.put_whole.ensures.puts
    (rw c.in-Timeline.is (subst (λ es. IfOk c.schedule_timeline.result
    (λ bytes. bytes.items ≡ schedule_timeline c.in-Timeline.window es))
    c.deref.ensures.value c.schedule_timeline.ensures)))

pub schedule_picture-requires : goal.schedule_picture-requires
schedule_picture-requires g c = rw c.deref-in-Svg.ensures.value c.requires.few

pub returns-in-Svg-clause-puts : goal.returns-in-Svg-clause-puts
returns-in-Svg-clause-puts g c = rw c.requires.empty
    (whole_put _ (IsDrawn c.args.form c.args.steps.items) _ _ _ _ _ c.put_whole-in-Svg.ensures.puts
    (rw c.in-Svg.is (all_ok _)))
