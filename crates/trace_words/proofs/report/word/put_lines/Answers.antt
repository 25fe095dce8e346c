use Rattle.dialogue.proofs.Putting.{puts_behind, puts_cut}
use Rattle.trace_words.proofs.report.word.put_lines.Goals as goal

pub returns-in-Err-clause-text : goal.returns-in-Err-clause-text
returns-in-Err-clause-text g c = rw (← c.names.ensures.is) (puts_cut _ _ _ _ _ _ _ c.in-Err.ensures.text.part)

pub returns-clause-text : goal.returns-clause-text
returns-clause-text g c = rw (← c.names.ensures.is)
    (puts_behind _ _ _ _ _ _ _ _ _ c.in-Ok.ensures.text.all c.put_rows.ensures.text)
