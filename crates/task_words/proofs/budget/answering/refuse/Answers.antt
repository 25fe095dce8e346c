use Rattle.std.proofs.Common.{refl, ◌++◌, ◌∷◌, []}
use Rattle.dover_model.specs.Lines.{with_numbers}
use Rattle.dover_port.specs.declared.status.Status.TheVariants.{Refused}
use Rattle.task_words.proofs.budget.answering.refuse.Goals as goal

pub returns-in-Err-clause-says : goal.returns-in-Err-clause-says
returns-in-Err-clause-says g c = (
  Refused,
  with_numbers c.args.word.now c.args.numbers.now ++ 10 ∷ [],
  refl,
  rw c.requires.empty at c.in-Err.ensures.text.part,
)
