use Rattle.std.proofs.Common.{ap, ◌∙◌}
use Rattle.ready_server.specs.Roster.{Kept}
use Rattle.ready_server.proofs.roster.Roster.read.Goals as goal

pub returns-in-Take-clause-room : goal.returns-in-Take-clause-room
returns-in-Take-clause-room c = (
  c.start-in-Take.ensures.room.0 ∙ ap (λ (k : Kept). k.room) c.self-in-Take.view_is ∙ c.halt-in-Take.ensures.room.0,
  c.start-in-Take.ensures.room.1 ∙ ap (λ (k : Kept). k.finish_room) c.self-in-Take.view_is
      ∙ c.halt-in-Take.ensures.room.1,
)

pub returns-in-Preempt-clause-room : goal.returns-in-Preempt-clause-room
returns-in-Preempt-clause-room c = (
  c.start-in-Preempt.ensures.room.0 ∙ c.halt.ensures.room.0,
  c.start-in-Preempt.ensures.room.1 ∙ c.halt.ensures.room.1,
)
