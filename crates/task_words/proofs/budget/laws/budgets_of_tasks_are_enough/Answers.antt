use Rattle.task_words.proofs.budget.Counted.{few_gets, budgets_enough}
use Rattle.task_words.proofs.budget.laws.budgets_of_tasks_are_enough.Goals as goal

pub returns-clause-gets : goal.returns-clause-gets
returns-clause-gets c = λ J cost tasks of n_j valid are periods member.
    few_gets J valid cost tasks of are periods n_j member

pub returns-clause-enough : goal.returns-clause-enough
returns-clause-enough c = λ J cost tasks of t valid are periods at_end done whole.
    budgets_enough J valid cost tasks of are periods t at_end done whole
