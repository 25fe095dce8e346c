use Rattle.std.proofs.Common.{◌≡◌, ◌++◌, map, drop}
use Rattle.std.specs.List.{enumerate_from}
use Rattle.question_words.specs.Replaying.{job_seen, jobs_seen}
use Rattle.question_words.proofs.replaying.jobs_seen.Given as goal

-- the jobs so far, and the others
abbrev pub invariant-loop-number : goal.invariant-loop-number
invariant-loop-number l = l.seen.items
    ++ map (job_seen l.done l.served) (enumerate_from l.number (drop l.number l.jobs))
    ≡ jobs_seen l.done l.served l.jobs
