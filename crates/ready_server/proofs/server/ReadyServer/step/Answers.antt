use Rattle.std.proofs.Common.{sym, subst, ◌∙◌, Bool, true, false, ◌||◌, refl, ◌≡◌}
use Rattle.dover_model.specs.Horizons.{MayFollow, due_by, Gives}
use Rattle.ready_server.specs.Serving.{Serves, Rests}
use Rattle.ready_server.proofs.Stepping.{open_shorts}
use Rattle.ready_server.proofs.server.ReadyServer.step.Goals as goal

pub returns-in-Mark-clause-gives : goal.returns-in-Mark-clause-gives
returns-in-Mark-clause-gives g c J from events serves follows =
    subst (λ to. Gives (Serves c.step_to.new.self J to) (Rests c.step_to.new.self J to) (due_by J to) events
    c.step_to.result) (sym c.in-Mark.is)
    (c.step_to.ensures.gives J from events serves (subst (MayFollow from) c.in-Mark.is follows))

pub returns-in-End-clause-gives : goal.returns-in-End-clause-gives
returns-in-End-clause-gives g c J from events serves follows =
    subst (λ to. Gives (Serves c.step_on.new.self J to) (Rests c.step_on.new.self J to) (due_by J to) events
    c.step_on.result) (sym c.in-End.is) (c.step_on.ensures.gives J from events serves)

or_none : (a b : Bool) → b ≡ false → a ≡ (a || b)
or_none true b none = refl
or_none false b none = sym none

pub returns-in-Mark-clause-ended : goal.returns-in-Mark-clause-ended
returns-in-Mark-clause-ended g c = c.step_to.ensures.ended ∙ or_none _ _ c.step_to.ensures.open

pub returns-in-Mark-clause-short : goal.returns-in-Mark-clause-short
returns-in-Mark-clause-short g c = open_shorts c.step_to.result c.step_to.ensures.open

pub step_to-requires : goal.step_to-requires
step_to-requires g c =
    let r = c.requires in (r.0, r.1, r.2, r.3, subst (MayFollow r.1) c.in-Mark.is r.4)

pub returns-in-Mark-clause-spare : goal.returns-in-Mark-clause-spare
returns-in-Mark-clause-spare g c = c.step_to.ensures.spare

pub returns-in-Mark-clause-room : goal.returns-in-Mark-clause-room
returns-in-Mark-clause-room g c = c.step_to.ensures.room

pub returns-in-Mark-clause-place : goal.returns-in-Mark-clause-place
returns-in-Mark-clause-place g c = c.step_to.ensures.place

pub returns-in-Mark-clause-room_stays : goal.returns-in-Mark-clause-room_stays
returns-in-Mark-clause-room_stays g c = c.step_to.ensures.room_stays

pub returns-in-Mark-clause-paid : goal.returns-in-Mark-clause-paid
returns-in-Mark-clause-paid g c = c.step_to.ensures.paid

pub returns-in-Mark-clause-once : goal.returns-in-Mark-clause-once
returns-in-Mark-clause-once g c = c.step_to.ensures.once

pub returns-in-End-clause-spare : goal.returns-in-End-clause-spare
returns-in-End-clause-spare g c = c.step_on.ensures.spare

pub returns-in-End-clause-room : goal.returns-in-End-clause-room
returns-in-End-clause-room g c = c.step_on.ensures.room

pub returns-in-End-clause-place : goal.returns-in-End-clause-place
returns-in-End-clause-place g c = c.step_on.ensures.place

pub returns-in-End-clause-room_stays : goal.returns-in-End-clause-room_stays
returns-in-End-clause-room_stays g c = c.step_on.ensures.room_stays

pub returns-in-End-clause-paid : goal.returns-in-End-clause-paid
returns-in-End-clause-paid g c = c.step_on.ensures.paid

pub returns-in-End-clause-once : goal.returns-in-End-clause-once
returns-in-End-clause-once g c = c.step_on.ensures.once
