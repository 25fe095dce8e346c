use Rattle.std.proofs.Common.{ℕ}
use Rattle.dover_port.proofs.Made.{since_weaker}
use Rattle.task_report.specs.Talking.{Call}
use Rattle.task_report.specs.declared.form.TaskForm.{TaskForm}
use Rattle.task_report.proofs.Reading.{ready_none}
use Rattle.task_report.proofs.word.task_report_word.Goals as goal

-- what the call is about
abbrev about : TaskForm → ℕ → Call
about form start = record { form = form; start = start }

pub converse-requires : goal.converse-requires
converse-requires g c = let new = c.in-Ok.ensures in let call = about c.args.form c.args.comparisons.now in
    (call, ready_none _ _ call c.new-2.ensures new.stands new.paid new.keep)

pub returns-clause-talks : goal.returns-clause-talks
returns-clause-talks g c = let new = c.in-Ok.ensures in let call = about c.args.form c.args.comparisons.now in
    since_weaker _ _ _ _ (c.converse.ensures.talks call
    (ready_none _ _ call c.new-2.ensures new.stands new.paid new.keep)) (λ moves it. it.0)

pub returns-clause-count : goal.returns-clause-count
returns-clause-count g c = let new = c.in-Ok.ensures in let call = about c.args.form c.args.comparisons.now in
    since_weaker _ _ _ _ (c.converse.ensures.talks call
    (ready_none _ _ call c.new-2.ensures new.stands new.paid new.keep)) (λ moves it. it.1)

pub returns-clause-ends : goal.returns-clause-ends
returns-clause-ends g c = let new = c.in-Ok.ensures in let call = about c.args.form c.args.comparisons.now in
    c.converse.ensures.ends call (ready_none _ _ call c.new-2.ensures new.stands new.paid new.keep)

pub returns-clause-causes : goal.returns-clause-causes
returns-clause-causes g c = c.converse.ensures.causes

pub returns-clause-stops : goal.returns-clause-stops
returns-clause-stops g c = c.converse.ensures.stops
