use Rattle.std.proofs.Common.{◌≡◌, ◌++◌, drop}
use Rattle.run_reports.specs.views.Timeline.{job_lines}
use Rattle.run_reports.proofs.views.terminal.put_jobs.Given as goal

-- the lines so far, and those to come
abbrev pub invariant-loop-number : goal.invariant-loop-number
invariant-loop-number l = l.text.items ++ job_lines l.window l.run l.number (drop l.number l.jobs)
    ≡ l.fn.text.items ++ job_lines l.window l.run 0 l.jobs
