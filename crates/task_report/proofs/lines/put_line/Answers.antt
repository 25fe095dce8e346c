use Rattle.std.proofs.Common.{◌∙◌, refl, subst}
use Rattle.dover_port.specs.Moves.{PutsThrough}
use Rattle.dialogue.proofs.Putting.{puts_behind, puts_cut}
use Rattle.task_report.proofs.Parts.{joined}
use Rattle.task_report.proofs.lines.put_line.Goals as goal

pub returns-in-Err-clause-text : goal.returns-in-Err-clause-text
returns-in-Err-clause-text g c = subst (PutsThrough _ _ _ _ _)
    (joined _ _ _ _ (c.bytes.ensures.is ∙ c.front_line.ensures) refl)
    (puts_cut _ _ _ _ _ _ _ c.in-Err.ensures.text.part)

pub returns-clause-text : goal.returns-clause-text
returns-clause-text g c = subst (PutsThrough _ _ _ _ _)
    (joined _ _ _ _ (c.bytes.ensures.is ∙ c.front_line.ensures) (c.bytes-2.ensures.is ∙ c.back_line.ensures))
    (puts_behind _ _ _ _ _ _ _ _ _ c.in-Ok.ensures.text.all c.put-2.ensures.text)
