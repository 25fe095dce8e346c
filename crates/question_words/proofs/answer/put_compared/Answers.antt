use Rattle.dialogue.proofs.Putting.{puts_behind, puts_cut}
use Rattle.question_words.proofs.answer.put_compared.Goals as goal

pub returns-in-Err-clause-text : goal.returns-in-Err-clause-text
returns-in-Err-clause-text g c = puts_cut _ _ _ _ _ _ _ c.in-Err.ensures.text.part

pub returns-clause-text : goal.returns-clause-text
returns-clause-text g c =
    puts_behind _ _ _ _ _ _ _ _ _ c.in-Ok.ensures.text.all (rw c.bytes.ensures.is at c.put.ensures.text)
