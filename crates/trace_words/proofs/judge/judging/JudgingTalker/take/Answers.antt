use Rattle.std.proofs.Common.{refl}
use Rattle.dialogue.proofs.Hearing.{takes_whole}
use Rattle.trace_words.specs.judge.Talk.{judging_talk}
use Rattle.trace_words.specs.judge.Talking.{IsReady}
use Rattle.trace_words.proofs.judge.Talking.{ready_more, spent_more}
use Rattle.trace_words.proofs.judge.judging.JudgingTalker.take.Goals as goal

pub returns-in-Ok : goal.returns-in-Ok
returns-in-Ok g c = record {
  takes = λ call x at goes. takes_whole (judging_talk (g.T.Teller.says call.teller) g.T.Teller.lacks)
      (IsReady g.T.Teller.keeps call c.args.self.now.teller c.feed.new.self c.feed.new.comparisons) x _
      c.requires.some refl (ready_more _ call _ _ _ x at _ _ _ c.feed.ensures.paid c.in-Ok.ensures.fed);
}

pub returns-in-Err : goal.returns-in-Err
returns-in-Err g c = record {
  takes = λ call x at goes. (c.laws.ensures.lacking _, spent_more _ call _ _ _ x at _ _ _ c.feed.ensures.paid);
}
