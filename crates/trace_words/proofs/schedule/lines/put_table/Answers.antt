use Rattle.std.proofs.Common.{[], refl, subst}
use Rattle.dover_port.specs.Moves.{Passes, CutsShort}
use Rattle.dover_port.proofs.Through.{passes_nothing}
use Rattle.trace_words.proofs.schedule.lines.put_table.Goals as goal

pub returns-in_default-clause-puts : goal.returns-in_default-clause-puts
returns-in_default-clause-puts g c = rw c.requires.empty (passes_nothing _ [])

pub returns-in-Ok-put_lines-clause-puts : goal.returns-in-Ok-put_lines-clause-puts
returns-in-Ok-put_lines-clause-puts g c = (
  _,
  refl,
  subst (Passes _ _ [] _) c.in-Ok.ensures
      (rw c.requires.empty at c.in-Ok-put_lines.ensures.text.all),
)

pub returns-clause-puts : goal.returns-clause-puts
returns-clause-puts g c = (
  _,
  refl,
  subst (CutsShort _ _ []) c.in-Ok.ensures
      (rw c.requires.empty at c.in-Err.ensures.text.part),
)
