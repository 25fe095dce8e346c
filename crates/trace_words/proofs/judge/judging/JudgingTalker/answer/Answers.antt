use Rattle.std.proofs.Common.{refl}
use Rattle.dover_model.proofs.lists.Tests.{never}
use Rattle.trace_words.proofs.judge.Talking.{closed_with, spent}
use Rattle.trace_words.proofs.judge.judging.JudgingTalker.answer.Goals as goal

pub tell-requires-clause-closed : goal.tell-requires-clause-closed
tell-requires-clause-closed g c = let at = c.requires.ready.2 in (
  c.requires.ready.1,
  closed_with c.in-Ok.closed _ _ _ at.keep_is (c.in-Ok.ensures.tells _ at.stands) (c.in-Ok.ensures.steps _ at.stands)
      (λ S. c.in-Ok.ensures.refused _ S at.stands),
)

pub returns-in-Ok-clause-answers : goal.returns-in-Ok-clause-answers
returns-in-Ok-clause-answers g c = λ call x at over. rw at.teller at (c.tell.ensures.answers x c.args._ended
    (closed_with c.in-Ok.closed _ _ x at.keep_is (c.in-Ok.ensures.tells x at.stands) (c.in-Ok.ensures.steps x at.stands)
    (λ S. c.in-Ok.ensures.refused x S at.stands)))

pub returns-in-Err-clause-answers : goal.returns-in-Err-clause-answers
returns-in-Err-clause-answers g c = λ call x at over. never (c.in-Err.ensures.ok x at.stands)

pub returns-in-Ok-clause-spent : goal.returns-in-Ok-clause-spent
returns-in-Ok-clause-spent g c = λ call x at. spent _ call _ _ _ x at

pub returns-in-Err-clause-spent : goal.returns-in-Err-clause-spent
returns-in-Err-clause-spent g c = λ call x at. spent _ call _ _ _ x at

pub returns-in-Ok-clause-cause : goal.returns-in-Ok-clause-cause
returns-in-Ok-clause-cause g c = c.tell.ensures.cause

pub returns-in-Ok-clause-stops : goal.returns-in-Ok-clause-stops
returns-in-Ok-clause-stops g c = c.tell.ensures.stops

pub returns-in-Err-clause-cause : goal.returns-in-Err-clause-cause
returns-in-Err-clause-cause g c = (refl, refl)

pub returns-in-Err-clause-stops : goal.returns-in-Err-clause-stops
returns-in-Err-clause-stops g c = λ well. well
