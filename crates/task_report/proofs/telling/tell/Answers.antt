use Rattle.task_report.proofs.Told.{line_cut, line_put, run_by}
use Rattle.task_report.proofs.telling.tell.Goals as goal

pub tell_run-requires-clause-run : goal.tell_run-requires-clause-run
tell_run-requires-clause-run g c = let tells = rw c.in-Accepted.is at c.requires.closed.1.tells in (
  tells.0,
  run_by _ _ _ _ _ c.requires.closed.0 tells _ c.requires.closed.1.steps,
)

pub returns-in-Accepted-clause-tells : goal.returns-in-Accepted-clause-tells
returns-in-Accepted-clause-tells g c = λ trace closed. let tells = rw c.in-Accepted.is at closed.tells in
    c.tell_run.ensures.tells trace tells.0 tells.1 (run_by _ _ _ _ _ trace tells _ closed.steps)

pub put_verdict-requires : goal.put_verdict-requires
put_verdict-requires g c = (c.requires.closed.0, c.requires.closed.1.tells)

pub returns-in-Ok-clause-tells : goal.returns-in-Ok-clause-tells
returns-in-Ok-clause-tells g c = λ trace closed. rw c.status_of.ensures
    (line_put c.args.form c.args.tasks.now c.args.closed.verdict trace closed.tells c.in_default.not-Accepted _ _ _
    (rw c.requires.empty at (c.in-Ok.ensures.text trace closed.tells).all))

pub returns-in-Err-clause-tells : goal.returns-in-Err-clause-tells
returns-in-Err-clause-tells g c = λ trace closed.
    line_cut c.args.form c.args.tasks.now c.args.closed.verdict trace closed.tells c.in_default.not-Accepted _ _
    c.put_verdict.new.out (rw c.requires.empty at (c.in-Err.ensures.text trace closed.tells).part)

pub returns-in-Accepted-clause-cause : goal.returns-in-Accepted-clause-cause
returns-in-Accepted-clause-cause g c = c.tell_run.ensures.cause

pub returns-in-Accepted-clause-stops : goal.returns-in-Accepted-clause-stops
returns-in-Accepted-clause-stops g c = c.tell_run.ensures.stops

pub returns-in-Ok-clause-cause : goal.returns-in-Ok-clause-cause
returns-in-Ok-clause-cause g c = (c.in-Ok.ensures.cause.ok, c.in-Ok.ensures.cause.other)

pub returns-in-Ok-clause-stops : goal.returns-in-Ok-clause-stops
returns-in-Ok-clause-stops g c = c.in-Ok.ensures.stops.well

pub returns-in-Err-clause-cause : goal.returns-in-Err-clause-cause
returns-in-Err-clause-cause g c = (c.in-Err.ensures.cause.failed, c.in-Err.ensures.cause.other)

pub returns-in-Err-clause-stops : goal.returns-in-Err-clause-stops
returns-in-Err-clause-stops g c = c.in-Err.ensures.stops.stopped
