use Rattle.std.proofs.Common.{map, sym, ap, ◌∙◌}
use Rattle.std.proofs.lemmas.Result.{IfOk-weaker}
use Rattle.run_reports.proofs.report.Counting.{jobs_are}
use Rattle.trace_words.proofs.report.Answering.{all_ok}
use Rattle.task_report.specs.Pictures.{labels}
use Rattle.task_report.proofs.Labels.{timeline_text}
use Rattle.task_report.proofs.drawing.picture.Goals as goal

pub grouped_timeline-requires : goal.grouped_timeline-requires
grouped_timeline-requires c = c.requires.run

pub grouped_picture-requires : goal.grouped_picture-requires
grouped_picture-requires c = c.requires.run

pub returns-in-Timeline : goal.returns-in-Timeline
returns-in-Timeline c = λ J of.
    let of_now = c.deref-in-Timeline.result.now in
    let heads = map (λ label. label.items) c.deref-in-Timeline-2.result.now in
    let named = ap (λ ls. map (λ label. label.items) ls) c.deref-in-Timeline-2.ensures.value ∙ c.in_ok-labels.ensures
    ∙ ap (labels c.args.tasks.now) (c.deref-2.ensures.value ∙ sym c.deref-in-Timeline.ensures.value) in
    rw c.in-Timeline.is (IfOk-weaker c.grouped_timeline.result _ _ (λ written is. timeline_text c.args.tasks.now J c.deref.result.now
    of_now heads (c.deref.ensures.value ∙ c.in_ok-jobs.ensures ∙ jobs_are c.args.ratio c.args.steps.now J of)
    (c.deref-in-Timeline.ensures.value ∙ c.in_ok-of.ensures) named c.in-Timeline.window written.items is)
    (c.grouped_timeline.ensures J of))

pub returns-in-Svg : goal.returns-in-Svg
returns-in-Svg c = λ J of. rw c.in-Svg.is (all_ok _)
