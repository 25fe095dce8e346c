use Rattle.dover_model.specs.Feed.{rules_with}
use Rattle.dialogue.proofs.Putting.{puts_behind, puts_cut}
use Rattle.task_words.proofs.budget.Texts.{text_through}
use Rattle.task_words.proofs.budget.lines.put_text.Goals as goal

pub returns-in-Err-clause-text : goal.returns-in-Err-clause-text
returns-in-Err-clause-text g c = text_through _ _ _ _ _ (rules_with c.args.rules.0 c.args.rules.1) c.args.tasks.now
    (puts_cut _ _ _ _ _ _ _ c.in-Err.ensures.text.part)

pub returns-in-Err-put_tasks-clause-text : goal.returns-in-Err-put_tasks-clause-text
returns-in-Err-put_tasks-clause-text g c =
    text_through _ _ _ _ _ (rules_with c.args.rules.0 c.args.rules.1) c.args.tasks.now
    (puts_behind _ _ _ _ _ _ _ _ _ c.in-Ok.ensures.text.all
    (puts_cut _ _ _ _ _ _ _ c.in-Err-put_tasks.ensures.text.part))

pub returns-clause-text : goal.returns-clause-text
returns-clause-text g c = text_through _ _ _ _ _ (rules_with c.args.rules.0 c.args.rules.1) c.args.tasks.now
    (puts_behind _ _ _ _ _ _ _ _ _ c.in-Ok.ensures.text.all
    (puts_behind _ _ _ _ _ _ _ _ _ c.in-Ok-put_tasks.ensures.text.all c.put_numbers.ensures.text))

pub returns-in-Err-clause-cause : goal.returns-in-Err-clause-cause
returns-in-Err-clause-cause g c = c.in-Err.ensures.cause

pub returns-in-Err-clause-stops : goal.returns-in-Err-clause-stops
returns-in-Err-clause-stops g c = c.in-Err.ensures.stops
