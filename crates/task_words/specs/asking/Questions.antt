-- What is asked of tasks, and what is said.
use Rattle.std.specs.Prelude.{◌≡◌, ℕ, List}
use Rattle.dover_model.specs.Instance.{Declaration}
use Rattle.dover_port.specs.declared.status.Status.{Status}
use Rattle.task_words.specs.declared.tasks.task.PeriodicTask.{PeriodicTask}
use Rattle.task_words.specs.declared.asking.question.TaskQuestion.{TaskQuestion}
use Rattle.task_words.specs.declared.asking.question.TaskQuestion.TheVariants.{Unroll, Sure, Budget}
use Rattle.task_words.specs.unroll.Says as unrolling
use Rattle.task_words.specs.unroll.Spending.{UnrollsAtMost}
use Rattle.task_words.specs.sure.Lines.{SaysSure}
use Rattle.task_words.specs.budget.Lines.{SaysBudgets}

-- the tick before which the jobs are released that are asked for, or 0: then a task is tested by its first
abbrev pub until_of : TaskQuestion → ℕ
until_of (Unroll until) = until
until_of Sure = 0
until_of (Budget cost) = 0

-- with which status and which text these tasks are answered, under these rules
abbrev pub Says : TaskQuestion → Declaration → List PeriodicTask → Status → List ℕ → Type 0
Says (Unroll until) = unrolling.Says until
Says Sure = SaysSure
Says (Budget cost) = SaysBudgets cost

-- how few comparisons the answer takes
abbrev pub CostsFew : TaskQuestion → List PeriodicTask → (before after : ℕ) → Type 0
CostsFew (Unroll until) tasks before after = UnrollsAtMost until tasks before after
CostsFew Sure tasks before after = after ≡ before
CostsFew (Budget cost) tasks before after = after ≡ before
