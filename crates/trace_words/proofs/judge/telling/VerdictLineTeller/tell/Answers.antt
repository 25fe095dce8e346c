use Rattle.trace_words.proofs.judge.Talking.{told_put, told_cut}
use Rattle.trace_words.proofs.judge.telling.VerdictLineTeller.tell.Goals as goal

pub put_verdict-requires : goal.put_verdict-requires
put_verdict-requires g c = (c.requires.closed.0, c.requires.closed.1.tells)

pub returns-in-Ok-clause-answers : goal.returns-in-Ok-clause-answers
returns-in-Ok-clause-answers g c = λ x ended closed. rw c.status_of.ensures
    (told_put c.args.closed.verdict x ended closed.tells _ _ _
    (rw c.requires.empty at (c.in-Ok.ensures.text x closed.tells).all))

pub returns-in-Err-clause-answers : goal.returns-in-Err-clause-answers
returns-in-Err-clause-answers g c = λ x ended closed.
    told_cut c.args.closed.verdict x ended closed.tells _ _ c.put_verdict.new.out
    (rw c.requires.empty at (c.in-Err.ensures.text x closed.tells).part)

pub returns-in-Ok-clause-cause : goal.returns-in-Ok-clause-cause
returns-in-Ok-clause-cause g c = (c.in-Ok.ensures.cause.ok, c.in-Ok.ensures.cause.other)

pub returns-in-Ok-clause-stops : goal.returns-in-Ok-clause-stops
returns-in-Ok-clause-stops g c = c.in-Ok.ensures.stops.well

pub returns-in-Err-clause-cause : goal.returns-in-Err-clause-cause
returns-in-Err-clause-cause g c = (c.in-Err.ensures.cause.failed, c.in-Err.ensures.cause.other)

pub returns-in-Err-clause-stops : goal.returns-in-Err-clause-stops
returns-in-Err-clause-stops g c = c.in-Err.ensures.stops.stopped
