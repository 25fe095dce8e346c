use Rattle.question_words.proofs.Counts.{no_cost, one_run}
use Rattle.question_words.proofs.asking.answer.Goals as goal

pub returns-in-Feasible-clause-says : goal.returns-in-Feasible-clause-says
returns-in-Feasible-clause-says g c = rw c.in-Feasible.is c.answer.ensures.says

pub returns-in-Best-clause-says : goal.returns-in-Best-clause-says
returns-in-Best-clause-says g c = rw c.in-Best.is c.answer-in-Best.ensures.says

pub returns-in-Compare-clause-says : goal.returns-in-Compare-clause-says
returns-in-Compare-clause-says g c = rw c.in-Compare.is c.answer-in-Compare.ensures.says

pub returns-in-Loss-clause-says : goal.returns-in-Loss-clause-says
returns-in-Loss-clause-says g c = rw c.in-Loss.is c.answer-in-Loss.ensures.says

pub returns-in-Feasible-clause-count : goal.returns-in-Feasible-clause-count
returns-in-Feasible-clause-count g c = rw c.in-Feasible.is (no_cost 0 _ _)

pub returns-in-Best-clause-count : goal.returns-in-Best-clause-count
returns-in-Best-clause-count g c = rw c.in-Best.is (one_run _ _ _ c.answer-in-Best.ensures.count)

pub returns-in-Compare-clause-count : goal.returns-in-Compare-clause-count
returns-in-Compare-clause-count g c = rw c.in-Compare.is c.answer-in-Compare.ensures.count

pub returns-in-Loss-clause-count : goal.returns-in-Loss-clause-count
returns-in-Loss-clause-count g c = rw c.in-Loss.is (one_run _ _ _ c.answer-in-Loss.ensures.count)
