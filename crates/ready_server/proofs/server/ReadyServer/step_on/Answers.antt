use Rattle.std.proofs.Common.{◌≡◌, List, true, sym, ap, subst, ◌∙◌, arith, MatchBool}
use Rattle.dover_model.specs.declared.events.Event.{Event}
use Rattle.dover_model.specs.declared.horizon.Horizon.{Horizon}
use Rattle.dover_model.specs.declared.horizon.Horizon.TheVariants.{Mark, End}
use Rattle.dover_model.specs.Common.{Instance, printed}
use Rattle.dover_model.proofs.lists.Tests.{never}
use Rattle.ready_jobs.specs.Course.{Course}
use Rattle.ready_jobs.proofs.ChangedCourses.{ends_next}
use Rattle.ready_server.specs.Serving.{Serves, Rests, LeavesRest}
use Rattle.ready_server.specs.declared.server.ReadyServer.{ReadyServer}
use Rattle.ready_server.proofs.Stepping.{end_given, event_given, next_short, place_behind}
use Rattle.ready_server.proofs.server.ReadyServer.step_on.Goals as goal

pub returns-then-is_end-clause-gives : goal.returns-then-is_end-clause-gives
returns-then-is_end-clause-gives g c J from events serves =
    let last = sym c.is_end.ensures ∙ c.if-is_end.true in
    end_given c.args.self.now J from events serves c.if-self.false c.step_on-event.new.self c.step_on-event.result
    (ends_next c.args.self.now.ready c.step_on-event.new.self c.step_on-event.result c.step_on-event.ensures.taken last)
    last c.clock-self.result

pub returns-clause-gives : goal.returns-clause-gives
returns-clause-gives g c J from events serves =
    let it = c.step_on-event.ensures.taken in
    event_given c.args.self.now J from events serves c.if-self.false it.there c.step_on-event.result it.comes
    (sym c.is_end.ensures ∙ c.if-is_end.false) c.step_on-event.new.self c.clock-self.result it.passes

pub returns-then-is_end-clause-short : goal.returns-then-is_end-clause-short
returns-then-is_end-clause-short g c =
    let it = c.requires.3 in
    next_short c.args.self.now.ready c.step_on-event.ensures.taken.there c.requires.0 it.state it.follows
    c.step_on-event.result c.step_on-event.ensures.taken.comes

pub returns-clause-short : goal.returns-clause-short
returns-clause-short g c =
    let it = c.requires.3 in
    next_short c.args.self.now.ready c.step_on-event.ensures.taken.there c.requires.0 it.state it.follows
    c.step_on-event.result c.step_on-event.ensures.taken.comes

pub returns-then-is_end-clause-paid : goal.returns-then-is_end-clause-paid
returns-then-is_end-clause-paid g c start paid = record {
  paid = c.step_on-event.ensures.paid start paid.paid;
  freely = λ less. absurd (omega (arith, less, c.clock-self.ensures.is));
}

pub returns-clause-paid : goal.returns-clause-paid
returns-clause-paid g c start paid = record {
  paid = c.step_on-event.ensures.paid start paid.paid;
  freely = λ less. absurd (omega (arith, less, c.clock-self.ensures.is));
}

-- where all was given before, nothing more is
given_before : (s : ReadyServer) (J : Instance) (from : Horizon) (events : List Event) → Serves s J from events
    → s.ended ≡ true → (events ≡ printed J) × Rests s J End
given_before s J (Mark t) events it ended = never (sym it.given.0 ∙ ended)
given_before s J End events it ended = (
  subst (λ b. MatchBool b (events ≡ printed J) (LeavesRest J it.state events)) ended it.given,
  record { state = it.state; follows = it.follows; given = ended; last = tt },
)

pub returns-then-self-clause-gives : goal.returns-then-self-clause-gives
returns-then-self-clause-gives g c J from events serves =
    given_before c.args.self.now J from events serves c.if-self.true

pub returns-then-is_end-clause-spare : goal.returns-then-is_end-clause-spare
returns-then-is_end-clause-spare g c =
    omega (arith, c.step_on-event.ensures.fewer, ap (λ (d : Course). d.room) c.step_on-event.ensures.kept)

pub returns-then-is_end-clause-room : goal.returns-then-is_end-clause-room
returns-then-is_end-clause-room g c place =
    omega (arith, place, c.step_on-event.ensures.fewer, ap (λ (d : Course). d.room) c.step_on-event.ensures.kept)

pub returns-then-is_end-clause-place : goal.returns-then-is_end-clause-place
returns-then-is_end-clause-place g c place =
    place_behind c.args.self.now.ready c.step_on-event.new.self c.step_on-event.ensures.fewer
    (ap (λ (d : Course). d.room) c.step_on-event.ensures.kept) place

pub returns-then-is_end-clause-room_stays : goal.returns-then-is_end-clause-room_stays
returns-then-is_end-clause-room_stays g c = ap (λ (d : Course). d.room) c.step_on-event.ensures.kept

pub returns-then-is_end-clause-once : goal.returns-then-is_end-clause-once
returns-then-is_end-clause-once g c = c.step_on-event.ensures.once

pub returns-clause-spare : goal.returns-clause-spare
returns-clause-spare g c =
    omega (arith, c.step_on-event.ensures.fewer, ap (λ (d : Course). d.room) c.step_on-event.ensures.kept)

pub returns-clause-room : goal.returns-clause-room
returns-clause-room g c place =
    omega (arith, place, c.step_on-event.ensures.fewer, ap (λ (d : Course). d.room) c.step_on-event.ensures.kept)

pub returns-clause-place : goal.returns-clause-place
returns-clause-place g c place =
    place_behind c.args.self.now.ready c.step_on-event.new.self c.step_on-event.ensures.fewer
    (ap (λ (d : Course). d.room) c.step_on-event.ensures.kept) place

pub returns-clause-room_stays : goal.returns-clause-room_stays
returns-clause-room_stays g c = ap (λ (d : Course). d.room) c.step_on-event.ensures.kept

pub returns-clause-once : goal.returns-clause-once
returns-clause-once g c = c.step_on-event.ensures.once
