use Rattle.std.proofs.Common.{[], refl}
use Rattle.dover_port.proofs.Through.{passes_then, passes_then_cut, cut_longer}
use Rattle.question_words.specs.Texts.{row_text}
use Rattle.question_words.proofs.answer.Answer.put.Goals as goal

pub returns-in-Err-clause-puts : goal.returns-in-Err-clause-puts
returns-in-Err-clause-puts g c =
    cut_longer _ _ [] c.args.self.now.head (row_text c.args.self.now.rows)
    (rw (c.requires, c.bytes.ensures.is) at c.in-Err.ensures.text.part)

pub returns-in-Ok-put_rows-clause-puts : goal.returns-in-Ok-put_rows-clause-puts
returns-in-Ok-put_rows-clause-puts g c = (
  refl,
  passes_then _ _ _ [] _ _ c.args.self.now.head _ (rw (c.requires, c.bytes.ensures.is) at c.in-Ok.ensures.text.all)
      c.in-Ok-put_rows.ensures.text.all,
)

pub returns-in-Err-put_rows-clause-puts : goal.returns-in-Err-put_rows-clause-puts
returns-in-Err-put_rows-clause-puts g c =
    passes_then_cut _ _ _ [] _ c.put_rows.new.out c.args.self.now.head _
    (rw (c.requires, c.bytes.ensures.is) at c.in-Ok.ensures.text.all)
    c.in-Err-put_rows.ensures.text.part
