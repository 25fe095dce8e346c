use Rattle.std.proofs.Common.{ap, refl, sym, subst, ◌∙◌, arith}
use Rattle.ready_jobs.specs.Course.{Course}
use Rattle.ready_server.proofs.Stepping.{place_behind}
use Rattle.ready_server.proofs.Finishing.{late_wrong, other_wrong, clock_there, number_small, finish_given}
use Rattle.ready_jobs.specs.Spending.{HasPaidSince}
use Rattle.ready_server.proofs.server.ReadyServer.finish.Goals as goal

pub returns-then-self-at-clause-finishes : goal.returns-then-self-at-clause-finishes
returns-then-self-at-clause-finishes c J rests =
    (late_wrong c.args.self.now J c.args.at rests c.args.number c.if-self-at.true, refl)

pub returns-then-not-finish-clause-finishes : goal.returns-then-not-finish-clause-finishes
returns-then-not-finish-clause-finishes c J rests = let none = c.finish.ensures.no c.if-not-finish.true in (
  other_wrong c.args.self.now J c.args.at rests c.args.number none.0,
  ap (λ d. record c.args.self.now { ready = d }) none.1,
)

pub overflow_cast-result : goal.overflow_cast-result
overflow_cast-result c = omega (
  arith,
  number_small c.args.self.now c.requires.rests.0 c.args.at c.requires.rests.1 c.args.number
      c.finish.new.self (c.finish.ensures.yes c.if-not-finish.false),
)

pub returns-clause-finishes : goal.returns-clause-finishes
returns-clause-finishes c J rests = finish_given c.args.self.now J c.args.at rests c.args.number c.finish.new.self
    (c.finish.ensures.yes c.if-not-finish.false) c.if-self-at.false

pub returns-clause-paid : goal.returns-clause-paid
returns-clause-paid c start now paid =
    let it = c.requires.rests in
    let there = clock_there c.args.self.now it.0 c.args.at it.1 c.args.number c.finish.new.self
    (c.finish.ensures.yes c.if-not-finish.false) in
    record {
      paid = c.finish.ensures.paid start now paid.paid
          (λ _. paid.freely (omega (arith, c.if-self-at.false, there, it.1.follows.clock)));
      freely = λ less. absurd (omega (
        arith,
        less,
        ap (λ (d : Course). d.clock) c.finish.ensures.kept,
        there,
        it.1.follows.clock,
      ));
    }

pub returns-clause-clock : goal.returns-clause-clock
returns-clause-clock c =
    let it = c.requires.rests in
    ap (λ (d : Course). d.clock) c.finish.ensures.kept ∙ sym it.1.follows.clock
    ∙ clock_there c.args.self.now it.0 c.args.at it.1 c.args.number c.finish.new.self
    (c.finish.ensures.yes c.if-not-finish.false)

pub returns-then-not-finish-clause-spare : goal.returns-then-not-finish-clause-spare
returns-then-not-finish-clause-spare c =
    omega (arith, c.finish.ensures.fewer, ap (λ (d : Course). d.room) c.finish.ensures.kept)

pub returns-then-not-finish-clause-room : goal.returns-then-not-finish-clause-room
returns-then-not-finish-clause-room c place =
    omega (arith, place, c.finish.ensures.fewer, ap (λ (d : Course). d.room) c.finish.ensures.kept)

pub returns-then-not-finish-clause-place : goal.returns-then-not-finish-clause-place
returns-then-not-finish-clause-place c place =
    place_behind c.args.self.now.ready c.finish.new.self c.finish.ensures.fewer
    (ap (λ (d : Course). d.room) c.finish.ensures.kept) place

pub returns-then-not-finish-clause-room_stays : goal.returns-then-not-finish-clause-room_stays
returns-then-not-finish-clause-room_stays c = ap (λ (d : Course). d.room) c.finish.ensures.kept

pub returns-clause-spare : goal.returns-clause-spare
returns-clause-spare c = omega (arith, c.finish.ensures.fewer, ap (λ (d : Course). d.room) c.finish.ensures.kept)

pub returns-clause-room : goal.returns-clause-room
returns-clause-room c place =
    omega (arith, place, c.finish.ensures.fewer, ap (λ (d : Course). d.room) c.finish.ensures.kept)

pub returns-clause-place : goal.returns-clause-place
returns-clause-place c place =
    place_behind c.args.self.now.ready c.finish.new.self c.finish.ensures.fewer
    (ap (λ (d : Course). d.room) c.finish.ensures.kept) place

pub returns-clause-room_stays : goal.returns-clause-room_stays
returns-clause-room_stays c = ap (λ (d : Course). d.room) c.finish.ensures.kept

pub returns-then-not-finish-clause-paid : goal.returns-then-not-finish-clause-paid
returns-then-not-finish-clause-paid c start now paid =
    subst (λ d. HasPaidSince d c.args.self.now.last start now) (sym (c.finish.ensures.no c.if-not-finish.true).1) paid
