use Rattle.std.proofs.Common.{subst}
use Rattle.dover_model.specs.Feed.{account_of_lines}
use Rattle.lane_server.specs.Lane.{Running}
use Rattle.lane_server.specs.Spending.{HasPaid}
use Rattle.lane_server.specs.declared.lane.Work.TheVariants.{Run}
use Rattle.lane_server.proofs.Owing.{run_gives, run_none, lane_owes, lane_stands, lane_rests, work_intake}
use Rattle.lane_server.proofs.lane.Lane.run.Goals as goal

pub step-requires : goal.step-requires
step-requires g c =
    let owes : Running c.args.to c.in-Some.server
    (account_of_lines c.requires.stands.0) c.requires.stands.1 =
    lane_owes c.args.self.now (Run c.args.to) c.in-Some.server
    (account_of_lines c.requires.stands.0)
    c.requires.stands.1 c.requires.work c.in-Some.is c.requires.stands.2.owes in
    (_, owes.from, owes.events, owes.served, owes.follows)

pub returns-in-Some-step-clause-gives : goal.returns-in-Some-step-clause-gives
returns-in-Some-step-clause-gives g c = λ ls rest it.
    let owes : Running c.args.to c.in-Some.server (account_of_lines ls) rest =
    lane_owes c.args.self.now (Run c.args.to) c.in-Some.server
    (account_of_lines ls) rest c.requires.work c.in-Some.is
    it.owes in
    let given = run_gives c.laws.ensures.begins c.args.to c.in-Some.server c.step.new.self
    (account_of_lines ls) rest owes
    c.in-Some-step.event
    (c.in-Some-step.ensures.gives _ owes.from owes.events owes.served owes.follows) in (
      given.0,
      given.1,
      lane_stands c.args.self.now (Run c.args.to) c.step.new.self ls rest given.0 it c.requires.work given.2,
      given.3,
      tt,
    )

pub returns-in-None-clause-gives : goal.returns-in-None-clause-gives
returns-in-None-clause-gives g c = λ ls rest it.
    let owes : Running c.args.to c.in-Some.server (account_of_lines ls) rest =
    lane_owes c.args.self.now (Run c.args.to) c.in-Some.server
    (account_of_lines ls) rest c.requires.work c.in-Some.is
    it.owes in
    let all = c.in-None.ensures.gives _ owes.from owes.events owes.served owes.follows in
    let none = run_none c.laws.ensures.rested c.args.to c.in-Some.server c.step.new.self (account_of_lines ls) rest owes
    all.0 all.1 in (
      none.0,
      lane_rests c.args.self.now c.step.new.self ls rest it
          (work_intake c.args.self.now (Run c.args.to) ls rest it c.requires.work) none.1,
    )

pub returns-in-Some-step-clause-paid : goal.returns-in-Some-step-clause-paid
returns-in-Some-step-clause-paid g c = λ start paid. c.in-Some-step.ensures.paid start
    (subst (λ o. HasPaid o start c.args.comparisons.now) c.in-Some.is paid)

pub returns-in-None-clause-paid : goal.returns-in-None-clause-paid
returns-in-None-clause-paid g c = λ start paid. c.in-None.ensures.paid start
    (subst (λ o. HasPaid o start c.args.comparisons.now) c.in-Some.is paid)
