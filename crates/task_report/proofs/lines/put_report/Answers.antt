use Rattle.std.proofs.Common.{◌∷◌, [], ◌++◌, ap, subst}
use Rattle.dover_model.specs.Lines.{in_lines}
use Rattle.dover_port.specs.Moves.{PutsThrough}
use Rattle.dialogue.proofs.Putting.{puts_behind, puts_cut}
use Rattle.task_report.specs.Texts.{other_line}
use Rattle.task_report.specs.Writing.{task_lines}
use Rattle.task_report.proofs.lines.put_report.Goals as goal

pub returns-in-Err-clause-text : goal.returns-in-Err-clause-text
returns-in-Err-clause-text g c = λ steps known.
    puts_cut _ _ _ _ _ _ _ (c.in-Err.ensures.text steps known).part

pub returns-clause-text : goal.returns-clause-text
returns-clause-text g c = λ steps known. subst (PutsThrough _ _ _ _ _)
    (ap (λ t. in_lines (task_lines c.args.tasks.now steps) ++ (other_line t ++ 10 ∷ []))
    (c.tally.ensures c.args.tasks.now steps known))
    (puts_behind _ _ _ _ _ _ _ _ _ (c.in-Ok.ensures.text steps known).all c.put_other.ensures.text)
