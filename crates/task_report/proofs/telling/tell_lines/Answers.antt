use Rattle.std.proofs.Common.{refl, ◌∙◌}
use Rattle.task_report.proofs.Told.{told_cut, told_none, told_put}
use Rattle.task_report.proofs.telling.tell_lines.Goals as goal

pub put_report-requires : goal.put_report-requires
put_report-requires g c = (c.deref.result.now, c.in-Ok.ensures)

pub returns-in_default-clause-tells : goal.returns-in_default-clause-tells
returns-in_default-clause-tells g c = λ trace S valid accepted are.
    told_none c.args.tasks.now trace S valid accepted _ c.args.out.now c.requires.empty

pub returns-in-Ok-put_report-clause-tells : goal.returns-in-Ok-put_report-clause-tells
returns-in-Ok-put_report-clause-tells g c = λ trace S valid accepted are.
    told_put c.args.tasks.now trace S valid accepted c.deref.result.now (c.deref.ensures.value ∙ are) _ _ _
    (rw c.requires.empty at (c.in-Ok-put_report.ensures.text c.deref.result.now c.in-Ok.ensures).all)

pub returns-clause-tells : goal.returns-clause-tells
returns-clause-tells g c = λ trace S valid accepted are.
    told_cut c.args.tasks.now trace S valid accepted c.deref.result.now (c.deref.ensures.value ∙ are) _ _
    c.put_report.new.out
    (rw c.requires.empty at (c.in-Err.ensures.text c.deref.result.now c.in-Ok.ensures).part)

pub returns-in_default-clause-cause : goal.returns-in_default-clause-cause
returns-in_default-clause-cause g c = (refl, refl)

pub returns-in_default-clause-stops : goal.returns-in_default-clause-stops
returns-in_default-clause-stops g c = λ well. well

pub returns-in-Ok-put_report-clause-cause : goal.returns-in-Ok-put_report-clause-cause
returns-in-Ok-put_report-clause-cause g c =
    (c.in-Ok-put_report.ensures.cause.ok, c.in-Ok-put_report.ensures.cause.other)

pub returns-in-Ok-put_report-clause-stops : goal.returns-in-Ok-put_report-clause-stops
returns-in-Ok-put_report-clause-stops g c = c.in-Ok-put_report.ensures.stops.well

pub returns-clause-cause : goal.returns-clause-cause
returns-clause-cause g c = (c.in-Err.ensures.cause.failed, c.in-Err.ensures.cause.other)

pub returns-clause-stops : goal.returns-clause-stops
returns-clause-stops g c = c.in-Err.ensures.stops.stopped
