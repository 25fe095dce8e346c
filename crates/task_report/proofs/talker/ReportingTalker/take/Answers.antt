use Rattle.std.proofs.Common.{refl, sym, ◌∙◌, false, true, ◌≡◌}
use Rattle.dialogue.proofs.Hearing.{takes_whole}
use Rattle.task_report.specs.Talk.{task_report_talk}
use Rattle.task_report.specs.Talking.{IsReady}
use Rattle.task_report.proofs.Reading.{front_all, front_test, ready_more, spent_more, takes_by}
use Rattle.task_report.proofs.talker.ReportingTalker.take.Goals as goal

pub take-requires-clause-open_still : goal.take-requires-clause-open_still
take-requires-clause-open_still g c = let at = c.requires.stands.2 in
    (0, at.front, at.reads, sym (c.goes_on.ensures 0 at.front at.reads) ∙ c.if-goes_on.true)

pub returns-then-goes_on : goal.returns-then-goes_on
returns-then-goes_on g c = record {
  takes = λ call x at goes.
      let front = sym (c.goes_on.ensures 0 at.front at.reads) ∙ c.if-goes_on.true in
      let opened = front_test call _ _ _ _ x at ∙ front in
      let all = front_all call _ _ _ _ x at opened in
      takes_by call _ _ _ _ x at opened _ c.take.new.self c.take.result
      (rw all at (c.take.ensures.takes 0 at.front at.reads front)) c.take.ensures.few
      (rw all at (c.take.ensures.fronts 0 at.front at.reads front));
}

pub returns-in-Ok : goal.returns-in-Ok
returns-in-Ok g c = record {
  takes = λ call x at goes.
      let closed = front_test call _ _ _ _ x at ∙ sym (c.goes_on.ensures 0 at.front at.reads) ∙ c.if-goes_on.false in
      takes_whole (task_report_talk call.form)
      (IsReady call c.args.self.now.form c.args.self.now.reader c.feed.new.self c.feed.new.comparisons) x _
      c.requires.some refl (ready_more call _ _ _ _ x at closed _ _ _ c.feed.ensures.paid c.in-Ok.ensures.fed);
}

pub returns-in-Err : goal.returns-in-Err
returns-in-Err g c = record {
  takes = λ call x at goes.
      let closed = front_test call _ _ _ _ x at ∙ sym (c.goes_on.ensures 0 at.front at.reads) ∙ c.if-goes_on.false in (
        (λ ended. absurd (let e : false ≡ true = ended in cc)),
        spent_more call _ _ _ _ x at closed _ _ _ c.feed.ensures.paid,
      );
}
