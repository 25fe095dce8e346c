use Rattle.std.proofs.Common.{◌∙◌, ap, codes, subst, sym}
use Rattle.dover_model.specs.Lines.{in_lines}
use Rattle.dover_port.specs.Moves.{PutsThrough}
use Rattle.dialogue.proofs.Putting.{puts_behind, puts_cut}
use Rattle.ratio_word.specs.Says.{extreme_lines, job_line}
use Rattle.ratio_word.proofs.Puts.{two_lines}
use Rattle.ratio_word.proofs.answering.put_extremes.Goals as goal

pub returns-in-Err-clause-text : goal.returns-in-Err-clause-text
returns-in-Err-clause-text g c = subst (PutsThrough _ _ _ _ _) (two_lines
    (job_line (codes "least") c.in-Some.e.least)
    (job_line (codes "densest") c.in-Some.e.densest)
    ∙ ap (λ o. in_lines (extreme_lines o)) (sym c.in-Some.is))
    (puts_cut _ _ _ _ _ _ c.in-Err.failed c.in-Err.ensures.text.part)

pub returns-clause-text : goal.returns-clause-text
returns-clause-text g c = subst (PutsThrough _ _ _ _ _) (two_lines
    (job_line (codes "least") c.in-Some.e.least)
    (job_line (codes "densest") c.in-Some.e.densest)
    ∙ ap (λ o. in_lines (extreme_lines o)) (sym c.in-Some.is))
    (puts_behind _ _ _ _ _ _ _ _ _ c.in-Ok.ensures.text.all c.put_job-2.ensures.text)

pub returns-in-Err-clause-cause : goal.returns-in-Err-clause-cause
returns-in-Err-clause-cause g c = c.in-Err.ensures.cause

pub returns-in-Err-clause-stops : goal.returns-in-Err-clause-stops
returns-in-Err-clause-stops g c = c.in-Err.ensures.stops

pub returns-clause-cause : goal.returns-clause-cause
returns-clause-cause g c = rw (c.in-Ok.ensures.cause.ok, c.in-Ok.ensures.cause.other) at c.put_job-2.ensures.cause
