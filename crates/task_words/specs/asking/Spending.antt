-- How many comparisons a call makes.
use Rattle.std.specs.Prelude.{◌≡◌, ℕ, List}
use Rattle.dover_model.specs.Feed.{Standing, Open, Ended, Faulty}
use Rattle.dover_port.specs.Moves.{Move, ins}
use Rattle.task_words.specs.declared.tasks.task.PeriodicTask.{PeriodicTask}
use Rattle.task_words.specs.reading.Account.{account}
use Rattle.task_words.specs.declared.asking.question.TaskQuestion.{TaskQuestion}
use Rattle.task_words.specs.asking.Questions.{until_of, CostsFew}

-- a task text that hasn't ended without a fault costs none
abbrev pub CostsAt : TaskQuestion → List PeriodicTask → Standing → (before after : ℕ) → Type 0
CostsAt question tasks Open before after = after ≡ before
CostsAt question tasks Ended before after = CostsFew question tasks before after
CostsAt question tasks (Faulty line cause) before after = after ≡ before

-- the same of the task text of these bytes
abbrev pub Costs : TaskQuestion → (before after : ℕ) → List ℕ → Type 0
Costs question before after bytes = CostsAt question (account (until_of question) bytes).tasks
    (account (until_of question) bytes).standing before after

-- the comparisons of a call are few for the tasks of what was read, and the jobs that they release
abbrev pub IsFrugal : TaskQuestion → (before after : ℕ) → List Move → Type 0
IsFrugal question before after moves = Costs question before after (ins moves)
