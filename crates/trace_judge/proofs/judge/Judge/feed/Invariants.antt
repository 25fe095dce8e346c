use Rattle.std.proofs.Common.{length}
use Rattle.trace_judge.proofs.EndedLines.{HasFed}
use Rattle.trace_judge.proofs.judge.Judge.feed.Given as goal

-- the judge was fed the bytes so far, and that is paid for
abbrev pub invariant-loop-rest : goal.invariant-loop-rest
invariant-loop-rest g l = HasFed l.initial.self l.self l.piece l.rest l.initial.comparisons l.comparisons

abbrev pub decreases-loop-rest : goal.decreases-loop-rest
decreases-loop-rest g l = length l.rest
