use Rattle.std.proofs.Common.{List}
use Rattle.task_words.specs.declared.tasks.task.PeriodicTask.{PeriodicTask}
use Rattle.dover_model.specs.declared.events.Event.{Event}
use Rattle.task_report.specs.Counting.{Sorted}
use Rattle.task_report.specs.Keeping.{IsOfAtMost}
use Rattle.task_report.proofs.Counted.{tally_up_to}
use Rattle.std.proofs.Common.{◌≡◌}
use Rattle.task_report.proofs.counting.SortedRun.tally.Given as goal

-- what became of the jobs so far
abbrev pub invariant-loop-number : goal.invariant-loop-number
invariant-loop-number l = record {
  is : (tasks : List PeriodicTask) (steps : List Event) → Sorted tasks steps l.self
      → l.tally ≡ tally_up_to tasks steps l.task l.self.jobs.items l.number;
  few : IsOfAtMost l.number l.tally;
}
