use Rattle.dialogue.proofs.Putting.{puts_behind, puts_cut}
use Rattle.ratio_word.proofs.answering.put_none.Goals as goal

pub returns-in-Err-clause-text : goal.returns-in-Err-clause-text
returns-in-Err-clause-text g c = puts_cut _ _ _ _ _ _ _ c.in-Err.ensures.text.part

pub returns-clause-text : goal.returns-clause-text
returns-clause-text g c = puts_behind _ _ _ _ _ _ _ _ _ c.in-Ok.ensures.text.all c.put_extremes.ensures.text

pub returns-in-Err-clause-cause : goal.returns-in-Err-clause-cause
returns-in-Err-clause-cause g c = c.in-Err.ensures.cause

pub returns-in-Err-clause-stops : goal.returns-in-Err-clause-stops
returns-in-Err-clause-stops g c = c.in-Err.ensures.stops

pub returns-clause-cause : goal.returns-clause-cause
returns-clause-cause g c = rw (c.in-Ok.ensures.cause.ok, c.in-Ok.ensures.cause.other) at c.put_extremes.ensures.cause
