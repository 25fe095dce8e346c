use Rattle.task_report.proofs.telling.tell_run.Goals as goal

pub returns-in-Lines-clause-tells : goal.returns-in-Lines-clause-tells
returns-in-Lines-clause-tells g c = λ trace S accepted of.
    rw c.in-Lines.is (c.tell_lines.ensures.tells trace S of.valid accepted of.prints)

pub returns-in-Lines-clause-cause : goal.returns-in-Lines-clause-cause
returns-in-Lines-clause-cause g c = c.tell_lines.ensures.cause

pub returns-in-Lines-clause-stops : goal.returns-in-Lines-clause-stops
returns-in-Lines-clause-stops g c = c.tell_lines.ensures.stops

pub tell_picture-requires-clause-run : goal.tell_picture-requires-clause-run
tell_picture-requires-clause-run g c = c.requires.run

pub returns-in_default-clause-tells : goal.returns-in_default-clause-tells
returns-in_default-clause-tells g c = λ trace S accepted of.
    rw c.requires.empty (c.tell_picture.ensures.tells trace S accepted of)

pub returns-in_default-clause-cause : goal.returns-in_default-clause-cause
returns-in_default-clause-cause g c = c.tell_picture.ensures.cause

pub returns-in_default-clause-stops : goal.returns-in_default-clause-stops
returns-in_default-clause-stops g c = c.tell_picture.ensures.stops
