use Rattle.std.proofs.Common.{sym, ap, ◌∙◌, arith}
use Rattle.dover_model.specs.Horizons.{is_end_given}
use Rattle.ready_jobs.specs.Course.{Course}
use Rattle.ready_server.proofs.Stepping.{mark_low, mark_rested, mark_stepped, no_end_before, place_behind}
use Rattle.ready_server.proofs.server.ReadyServer.step_to.Goals as goal

pub step-requires-clause-low : goal.step-requires-clause-low
step-requires-clause-low g c =
    mark_low c.args.self.now c.requires.0 c.requires.1 c.args.mark c.requires.2 c.requires.3 c.requires.4

pub returns-in_default-clause-gives : goal.returns-in_default-clause-gives
returns-in_default-clause-gives g c J from events serves follows =
    mark_rested c.args.self.now c.step.new.self c.args.mark c.step.result c.in_default.is c.step.ensures.stepped J from
    events serves follows

pub returns-in_default-clause-paid : goal.returns-in_default-clause-paid
returns-in_default-clause-paid g c start paid = record {
  paid = c.step.ensures.paid start paid.paid;
  freely = λ less. c.step.ensures.freely c.in_default.is start paid.paid
      (λ same. paid.freely (omega (arith, less, same)));
}

pub returns-clause-gives : goal.returns-clause-gives
returns-clause-gives g c J from events serves follows =
    mark_stepped c.args.self.now c.step.new.self c.args.mark c.step.result c.in-Some.event c.in-Some.is
    c.step.ensures.stepped c.clock-self.result c.clock-self.ensures.is J from events serves follows

pub returns-clause-open : goal.returns-clause-open
returns-clause-open g c =
    ap is_end_given (sym c.in-Some.is)
    ∙ no_end_before c.args.self.now c.requires.0 c.requires.1 c.requires.2 c.requires.3 c.args.mark c.step.new.self
    c.step.result c.step.ensures.stepped

pub returns-clause-paid : goal.returns-clause-paid
returns-clause-paid g c start paid = record {
  paid = c.step.ensures.paid start paid.paid;
  freely = λ less. absurd (omega (arith, less, c.clock-self.ensures.is));
}

pub returns-in_default-clause-spare : goal.returns-in_default-clause-spare
returns-in_default-clause-spare g c =
    omega (arith, c.step.ensures.fewer, ap (λ (d : Course). d.room) c.step.ensures.kept)

pub returns-in_default-clause-room : goal.returns-in_default-clause-room
returns-in_default-clause-room g c place =
    omega (arith, place, c.step.ensures.fewer, ap (λ (d : Course). d.room) c.step.ensures.kept)

pub returns-in_default-clause-place : goal.returns-in_default-clause-place
returns-in_default-clause-place g c place =
    place_behind c.args.self.now.ready c.step.new.self c.step.ensures.fewer
    (ap (λ (d : Course). d.room) c.step.ensures.kept) place

pub returns-in_default-clause-room_stays : goal.returns-in_default-clause-room_stays
returns-in_default-clause-room_stays g c = ap (λ (d : Course). d.room) c.step.ensures.kept

pub returns-in_default-clause-once : goal.returns-in_default-clause-once
returns-in_default-clause-once g c = c.in_default.ensures.once

pub returns-clause-spare : goal.returns-clause-spare
returns-clause-spare g c = omega (arith, c.step.ensures.fewer, ap (λ (d : Course). d.room) c.step.ensures.kept)

pub returns-clause-room : goal.returns-clause-room
returns-clause-room g c place =
    omega (arith, place, c.step.ensures.fewer, ap (λ (d : Course). d.room) c.step.ensures.kept)

pub returns-clause-place : goal.returns-clause-place
returns-clause-place g c place =
    place_behind c.args.self.now.ready c.step.new.self c.step.ensures.fewer
    (ap (λ (d : Course). d.room) c.step.ensures.kept) place

pub returns-clause-room_stays : goal.returns-clause-room_stays
returns-clause-room_stays g c = ap (λ (d : Course). d.room) c.step.ensures.kept

pub returns-clause-once : goal.returns-clause-once
returns-clause-once g c = c.in-Some.ensures.once
