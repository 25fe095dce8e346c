use Rattle.std.proofs.Common.{[], refl}
use Rattle.dover_port.proofs.Through.{passes_nothing}
use Rattle.trace_words.proofs.report.Putting.{passes_whole}
use Rattle.trace_words.proofs.report.word.put_whole.Goals as goal

pub returns-in_default-clause-puts : goal.returns-in_default-clause-puts
returns-in_default-clause-puts g c = passes_nothing _ []

pub returns-in-Ok-put_all-clause-puts : goal.returns-in-Ok-put_all-clause-puts
returns-in-Ok-put_all-clause-puts g c = rw c.in-Ok.is (
  c.deref.result.now,
  (refl, c.deref.ensures.value),
  passes_whole _ _ _ c.in-Ok-put_all.ensures.text.all,
)

pub returns-clause-puts : goal.returns-clause-puts
returns-clause-puts g c = rw c.in-Ok.is (c.deref.result.now, (refl, c.deref.ensures.value), c.in-Err.ensures.text.part)
