use Rattle.std.proofs.Common.{[], sym, subst, refl}
use Rattle.dover_model.specs.Common.{instance_of, account_of_lines}
use Rattle.dover_model.specs.declared.horizon.Horizon.TheVariants.{Mark}
use Rattle.lane_server.specs.Lane.{Finishing}
use Rattle.lane_server.specs.Spending.{HasPaid}
use Rattle.lane_server.specs.declared.lane.Work.TheVariants.{Run, Finish}
use Rattle.lane_server.proofs.Owing.{lane_owes, lane_stands, lane_turns, lane_rests, work_intake}
use Rattle.lane_server.proofs.Finishing.{before_finish, at_finish, at_refusal}
use Rattle.ready_server.specs.Serving.{Rests}
use Rattle.lane_server.proofs.lane.Lane.finish.Goals as goal

pub step-requires : goal.step-requires
step-requires g c =
    let owes : Finishing c.args.at c.args.number c.in-Some.server
    (account_of_lines c.requires.stands.0) c.requires.stands.1 =
    lane_owes c.args.self.now (Finish c.args.at c.args.number) c.in-Some.server
    (account_of_lines c.requires.stands.0) c.requires.stands.1 c.requires.work c.in-Some.is
    c.requires.stands.2.owes in
    (_, owes.from, owes.events, owes.served, owes.follows)

pub returns-in-Some-step-clause-gives : goal.returns-in-Some-step-clause-gives
returns-in-Some-step-clause-gives g c = λ ls rest it.
    let owes : Finishing c.args.at c.args.number c.in-Some.server (account_of_lines ls) rest =
    lane_owes c.args.self.now (Finish c.args.at c.args.number) c.in-Some.server (account_of_lines ls) rest
    c.requires.work c.in-Some.is it.owes in
    let given = before_finish c.laws.ensures.begins c.args.at c.args.number c.in-Some.server c.step.new.self
    (account_of_lines ls) rest owes c.in-Some-step.event
    (c.in-Some-step.ensures.gives _ owes.from owes.events owes.served owes.follows) in (
      given.0,
      given.1,
      lane_stands c.args.self.now (Finish c.args.at c.args.number) c.step.new.self ls rest given.0 it c.requires.work
          given.2,
      given.3,
      tt,
    )

pub finish-requires : goal.finish-requires
finish-requires g c =
    let owes : Finishing c.args.at c.args.number c.in-Some.server
    (account_of_lines c.requires.stands.0) c.requires.stands.1 =
    lane_owes c.args.self.now (Finish c.args.at c.args.number) c.in-Some.server
    (account_of_lines c.requires.stands.0) c.requires.stands.1 c.requires.work c.in-Some.is
    c.requires.stands.2.owes in
    record { rests = (_, (c.in_default-step.ensures.gives _ owes.from owes.events owes.served owes.follows).1) }

pub returns-in-Some-finish-clause-gives : goal.returns-in-Some-finish-clause-gives
returns-in-Some-finish-clause-gives g c = λ ls rest it.
    let owes : Finishing c.args.at c.args.number c.in-Some.server (account_of_lines ls) rest =
    lane_owes c.args.self.now (Finish c.args.at c.args.number) c.in-Some.server (account_of_lines ls) rest
    c.requires.work c.in-Some.is it.owes in
    let there = c.in_default-step.ensures.gives _ owes.from owes.events owes.served owes.follows in
    let right = c.in-Some-finish.ensures.finishes _ there.1 in
    let given = at_finish c.laws.ensures.begins c.args.at c.args.number c.in-Some.server c.finish.new.self
    (account_of_lines ls) rest owes there.0 right.0 right.1 c.in-Some-finish.event right.3 in (
      given.0,
      given.1,
      lane_turns c.args.self.now c.args.self.now.intake (Run (Mark c.args.at)) c.finish.new.self ls rest given.0 it refl
          (work_intake c.args.self.now (Finish c.args.at c.args.number) ls rest it c.requires.work) given.2 tt,
      given.3,
      tt,
    )

pub returns-in-None-clause-gives : goal.returns-in-None-clause-gives
returns-in-None-clause-gives g c = λ ls rest it.
    let owes : Finishing c.args.at c.args.number c.in-Some.server (account_of_lines ls) rest =
    lane_owes c.args.self.now (Finish c.args.at c.args.number) c.in-Some.server (account_of_lines ls) rest
    c.requires.work c.in-Some.is it.owes in
    let there = c.in_default-step.ensures.gives _ owes.from owes.events owes.served owes.follows in
    let wrong = c.in-None.ensures.finishes _ there.1 in
    let given = at_refusal c.laws.ensures.rested c.args.at c.args.number c.in-Some.server c.finish.new.self
    (account_of_lines ls) rest owes there.0 wrong.0
    (subst (λ v. Rests v (instance_of owes.session) (Mark c.args.at)) (sym wrong.1) there.1) in (
      [],
      given.0,
      (lane_rests c.args.self.now c.finish.new.self ls rest it
          (work_intake c.args.self.now (Finish c.args.at c.args.number) ls rest it c.requires.work) given.1).stands,
      owes.numerals,
      tt,
    )

pub returns-in-Some-step-clause-paid : goal.returns-in-Some-step-clause-paid
returns-in-Some-step-clause-paid g c = λ start paid. c.in-Some-step.ensures.paid start
    (subst (λ o. HasPaid o start c.args.comparisons.now) c.in-Some.is paid)

pub returns-in-Some-finish-clause-paid : goal.returns-in-Some-finish-clause-paid
returns-in-Some-finish-clause-paid g c = λ start paid. c.in-Some-finish.ensures.paid start c.step.new.comparisons
    (c.in_default-step.ensures.paid start (subst (λ o. HasPaid o start c.args.comparisons.now) c.in-Some.is paid))

pub returns-in-None-clause-paid : goal.returns-in-None-clause-paid
returns-in-None-clause-paid g c = λ start paid. c.in-None.ensures.paid start c.step.new.comparisons
    (c.in_default-step.ensures.paid start (subst (λ o. HasPaid o start c.args.comparisons.now) c.in-Some.is paid))
