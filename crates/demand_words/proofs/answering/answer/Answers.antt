use Rattle.std.proofs.Common.{refl, ◌++◌, ◌∷◌, []}
use Rattle.demand_words.specs.Says.{status_of, told_line}
use Rattle.demand_words.proofs.answering.answer.Goals as goal

pub returns-in-Ok-clause-says : goal.returns-in-Ok-clause-says
returns-in-Ok-clause-says g c = (
  told_line c.demand_test-told.result ++ 10 ∷ [],
  (c.demand_test-told.result, c.demand_test-told.ensures, c.status_of.ensures, refl),
  rw c.requires.empty at c.in-Ok.ensures.text.all,
)

pub returns-in-Err-clause-says : goal.returns-in-Err-clause-says
returns-in-Err-clause-says g c = (
  status_of c.demand_test-told.result,
  told_line c.demand_test-told.result ++ 10 ∷ [],
  (c.demand_test-told.result, c.demand_test-told.ensures, refl, refl),
  rw c.requires.empty at c.in-Err.ensures.text.part,
)
