use Rattle.std.proofs.Common.{take, drop}
use Rattle.event_feed.specs.Listing.{declared_in}
use Rattle.ready_server.specs.Serving.{HasPaid}
use Rattle.question_words.specs.Replaying.{HasRecorded}
use Rattle.question_words.proofs.Handed.{IsAt}
use Rattle.question_words.proofs.replaying.serve_listed.Given as goal

-- the done lines so far, and the jobs before them, are served
abbrev pub invariant-loop-done : goal.invariant-loop-done
invariant-loop-done g l = record {
  at : IsAt HasRecorded l.server l.run (declared_in l.listed) l.listed.jobs.items
      (take l.done-index l.listed.done_lines.items) (drop l.done-index l.listed.done_lines.items) l.count;
  paid : HasPaid l.server l.fn.comparisons l.comparisons;
}
