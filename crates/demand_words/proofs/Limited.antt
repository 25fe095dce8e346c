-- Tasks of a text are within the limits of the test, and what it tells of windows can't be met.
use Rattle.std.proofs.Common.{◌≡◌, ℕ, ◌<◌, List, length, arith}
use Rattle.dover_model.specs.Common.{Fraction, Meets, Rules}
use Rattle.dover_model.proofs.valid.JobLimits.{job_limits}
use Rattle.task_laws.specs.Demand.{TaskFacts, demand, all_soon}
use Rattle.task_laws.proofs.demand.Demanding.{demand_unmet}
use Rattle.task_words.specs.budget.Budgets.{task_at}
use Rattle.task_words.specs.tasks.Limits.{IsTask, AreTasks}
use Rattle.task_words.specs.tasks.Merging.{blank_task}
use Rattle.task_words.specs.declared.tasks.task.PeriodicTask.{PeriodicTask}
use Rattle.task_words.proofs.sure.Small.{at_place}
use Rattle.demand_words.specs.Demanded.{AreLimited, AreOver}

-- the task at a place has a period, and its first job is within the limits
at : (k : Fraction) (tasks : List PeriodicTask) → AreTasks 0 k tasks → (y : ℕ) → y < length tasks
    → IsTask 0 (task_at tasks y)
at k tasks are y less = at_place (IsTask 0) tasks blank_task are.each y less

pub limited : (k : Fraction) (tasks : List PeriodicTask) → AreTasks 0 k tasks → AreLimited tasks
limited k tasks are = record {
  few = are.few;
  period = λ y less. (at k tasks are y less).period;
  work = λ y less. let it = (job_limits (at k tasks are y less).job).window in
      let due = (at k tasks are y less).due in omega (arith, it, due);
  due = λ y less. let due = (at k tasks are y less).due in omega (arith, due);
}

-- a window with too much demand
pub window_unmet : (tasks : List TaskFacts) (rules : Rules) (ticks work : ℕ) → work ≡ demand tasks ticks → ticks < work
    → Meets (record { rules = rules; jobs = all_soon tasks ticks }) → ⊥
window_unmet tasks rules ticks work e more = demand_unmet tasks ticks rules (omega (arith, e, more))

-- and windows that lack any number of ticks
pub over_unmet : (tasks : List TaskFacts) (rules : Rules) → AreOver tasks
    → (ticks : ℕ) × (Meets (record { rules = rules; jobs = all_soon tasks ticks }) → ⊥)
over_unmet tasks rules over = (
  (over 0).0,
  demand_unmet tasks (over 0).0 rules (let it = (over 0).1 in omega (arith, it)),
)
