use Rattle.std.proofs.Common.{refl}
use Rattle.trace_words.proofs.report.Putting.{passes_whole}
use Rattle.trace_words.proofs.report.word.put_size.Goals as goal

pub returns-in-Ok-clause-puts : goal.returns-in-Ok-clause-puts
returns-in-Ok-clause-puts g c = (_, refl, passes_whole _ _ _ c.in-Ok.ensures.text.all)

pub returns-in-Err-clause-puts : goal.returns-in-Err-clause-puts
returns-in-Err-clause-puts g c = (_, refl, c.in-Err.ensures.text.part)
