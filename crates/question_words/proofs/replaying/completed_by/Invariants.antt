use Rattle.std.proofs.Common.{take}
use Rattle.question_words.specs.Watching.{HasSeen}
use Rattle.question_words.proofs.replaying.completed_by.Given as goal

-- the steps so far are seen
abbrev pub invariant-loop-event : goal.invariant-loop-event
invariant-loop-event l = HasSeen l.completion (take l.event-index l.run)
