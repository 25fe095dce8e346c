use Rattle.std.proofs.Common.{arith, refl}
use Rattle.trace_words.proofs.schedule.Talking.{drawn_so, not_drawn_so, stopped, cut_short}
use Rattle.trace_words.proofs.schedule.talker.DrawingTalker.answer.Goals as goal

pub put_schedule-requires-clause-few : goal.put_schedule-requires-clause-few
put_schedule-requires-clause-few g c =
    let it = c.close-lines.ensures c.requires.ready.1 c.requires.ready.2.reads in
    let few = it.few in omega (arith, few)

pub put_stopped-requires : goal.put_stopped-requires
put_stopped-requires g c = c.in_default.not-Ended

pub returns-in-Ok-clause-answers : goal.returns-in-Ok-clause-answers
returns-in-Ok-clause-answers g c = λ a x at over. drawn_so c.args.self.form a.form at.asks x c.close-lines.result
    (c.close-lines.ensures x at.reads) c.args._ended c.in-Ended.is _ _ _ _ c.in-Ok.ensures.puts

pub returns-in-Err-clause-answers : goal.returns-in-Err-clause-answers
returns-in-Err-clause-answers g c = λ a x at over. not_drawn_so c.args.self.form a.form at.asks x c.close-lines.result
    (c.close-lines.ensures x at.reads) c.args._ended c.in-Ended.is over _ _ _ c.in-Err.stop c.in-Err.ensures.puts

pub returns-in-Ok-put_stopped-clause-answers : goal.returns-in-Ok-put_stopped-clause-answers
returns-in-Ok-put_stopped-clause-answers g c = λ a x at over. stopped a.form x c.close-lines.result
    (c.close-lines.ensures x at.reads) c.args._ended _ _ c.status_of.ensures refl c.in_default.not-Ended _ _ _
    (rw c.requires.empty at c.in-Ok-put_stopped.ensures.text.all)

pub returns-in-Err-put_stopped-clause-answers : goal.returns-in-Err-put_stopped-clause-answers
returns-in-Err-put_stopped-clause-answers g c = λ a x at over. cut_short a.form x c.close-lines.result
    (c.close-lines.ensures x at.reads) c.args._ended _ refl c.in_default.not-Ended _ _ c.put_stopped.new.out
    (rw c.requires.empty at c.in-Err-put_stopped.ensures.text.part)

pub returns-in-Ok-clause-spent : goal.returns-in-Ok-clause-spent
returns-in-Ok-clause-spent g c = λ a x at. at.counts

pub returns-in-Err-clause-spent : goal.returns-in-Err-clause-spent
returns-in-Err-clause-spent g c = λ a x at. at.counts

pub returns-in-Ok-put_stopped-clause-spent : goal.returns-in-Ok-put_stopped-clause-spent
returns-in-Ok-put_stopped-clause-spent g c = λ a x at. at.counts

pub returns-in-Err-put_stopped-clause-spent : goal.returns-in-Err-put_stopped-clause-spent
returns-in-Err-put_stopped-clause-spent g c = λ a x at. at.counts

pub returns-in-Ok-clause-cause : goal.returns-in-Ok-clause-cause
returns-in-Ok-clause-cause g c = c.in-Ok.ensures.cause

pub returns-in-Ok-clause-stops : goal.returns-in-Ok-clause-stops
returns-in-Ok-clause-stops g c = c.in-Ok.ensures.stops

pub returns-in-Err-clause-cause : goal.returns-in-Err-clause-cause
returns-in-Err-clause-cause g c = c.in-Err.ensures.cause

pub returns-in-Err-clause-stops : goal.returns-in-Err-clause-stops
returns-in-Err-clause-stops g c = c.in-Err.ensures.stops

pub returns-in-Ok-put_stopped-clause-cause : goal.returns-in-Ok-put_stopped-clause-cause
returns-in-Ok-put_stopped-clause-cause g c =
    (c.in-Ok-put_stopped.ensures.cause.ok, c.in-Ok-put_stopped.ensures.cause.other)

pub returns-in-Ok-put_stopped-clause-stops : goal.returns-in-Ok-put_stopped-clause-stops
returns-in-Ok-put_stopped-clause-stops g c = c.in-Ok-put_stopped.ensures.stops.well

pub returns-in-Err-put_stopped-clause-cause : goal.returns-in-Err-put_stopped-clause-cause
returns-in-Err-put_stopped-clause-cause g c =
    (c.in-Err-put_stopped.ensures.cause.failed, c.in-Err-put_stopped.ensures.cause.other)

pub returns-in-Err-put_stopped-clause-stops : goal.returns-in-Err-put_stopped-clause-stops
returns-in-Err-put_stopped-clause-stops g c = c.in-Err-put_stopped.ensures.stops.stopped
