use Rattle.std.proofs.Common.{inl, inr, refl, sym, subst, OnOk}
use Rattle.dover_model.proofs.lists.Members.{err_any}
use Rattle.event_feed.specs.Answers.{IsFed, counted}
use Rattle.lane_server.specs.Lane.{TurnsTo}
use Rattle.lane_server.specs.Spending.{HasPaid}
use Rattle.lane_server.proofs.Taking.{tick_adds, over_adds, refused_job_adds, ratio_declares, job_declared}
use Rattle.lane_server.proofs.lane.Lane.take.Goals as goal

pub returns-in-Ratio-clause-adds : goal.returns-in-Ratio-clause-adds
returns-in-Ratio-clause-adds c =
    λ a b at it. c.declare.ensures.adds a b at (subst (λ x. IsFed (counted a) b x) c.in-Ratio.is it)

pub returns-in-Ratio-clause-paid : goal.returns-in-Ratio-clause-paid
returns-in-Ratio-clause-paid c =
    λ a b start now at it paid. c.declare.ensures.paid a b start now at
    (subst (λ x. IsFed (counted a) b x) c.in-Ratio.is it) paid

pub returns-in-Ratio-clause-lacks : goal.returns-in-Ratio-clause-lacks
returns-in-Ratio-clause-lacks c = λ a b it. err_any c.declare.result
    (ratio_declares _ _ (counted a) b (subst (λ x. IsFed (counted a) b x) c.in-Ratio.is it))

pub returns-in-Ratio-clause-asks : goal.returns-in-Ratio-clause-asks
returns-in-Ratio-clause-asks c = λ a b it. err_any c.declare.result
    (inl (_, _, subst (λ x. IsFed (counted a) b x) c.in-Ratio.is it))

pub returns-in-Ratio-clause-intake : goal.returns-in-Ratio-clause-intake
returns-in-Ratio-clause-intake c = c.declare.ensures.intake

pub returns-in-Job-clause-adds : goal.returns-in-Job-clause-adds
returns-in-Job-clause-adds c =
    λ a b at it. c.arrive.ensures.adds _ a b at (subst (λ x. IsFed (counted a) b x) c.in-Job.is it)

pub returns-in-Job-clause-paid : goal.returns-in-Job-clause-paid
returns-in-Job-clause-paid c = λ a b start now at it paid. c.arrive.ensures.paid start now paid

pub returns-in-Job-clause-lacks : goal.returns-in-Job-clause-lacks
returns-in-Job-clause-lacks c = λ a b it. err_any c.arrive.result
    (job_declared _ _ (counted a) b (subst (λ x. IsFed (counted a) b x) c.in-Job.is it))

pub returns-in-Job-clause-asks : goal.returns-in-Job-clause-asks
returns-in-Job-clause-asks c = λ a b it. err_any c.arrive.result
    (inr (_, _, subst (λ x. IsFed (counted a) b x) c.in-Job.is it))

pub returns-in-Job-clause-intake : goal.returns-in-Job-clause-intake
returns-in-Job-clause-intake c = c.arrive.ensures.intake

pub returns-in-Tick-clause-adds : goal.returns-in-Tick-clause-adds
returns-in-Tick-clause-adds c =
    λ a b at it. tick_adds c.args.self.now c.in-Tick.at a b at (subst (λ x. IsFed (counted a) b x) c.in-Tick.is it)

pub returns-in-Over-clause-adds : goal.returns-in-Over-clause-adds
returns-in-Over-clause-adds c =
    λ a b at it. over_adds c.args.self.now a b at (subst (λ x. IsFed (counted a) b x) c.in-Over.is it)

pub returns-in-Refused-clause-adds : goal.returns-in-Refused-clause-adds
returns-in-Refused-clause-adds c =
    λ a b at it. refused_job_adds c.args.self.now c.in-Refused.release c.in-Refused.work c.in-Refused.deadline
    c.in-Refused.value c.in-Refused.cause a b at (subst (λ x. IsFed (counted a) b x) c.in-Refused.is it)

pub returns-in-Done-clause-adds : goal.returns-in-Done-clause-adds
returns-in-Done-clause-adds c =
    λ a b at it. c.finish_at.ensures.adds a b at (subst (λ x. IsFed (counted a) b x) c.in-Done.is it)

pub returns-in-Done-clause-intake : goal.returns-in-Done-clause-intake
returns-in-Done-clause-intake c = c.finish_at.ensures.intake

pub returns-in-Tick-clause-paid : goal.returns-in-Tick-clause-paid
returns-in-Tick-clause-paid c = λ a b start now at it paid. paid

pub returns-in-Tick-clause-intake : goal.returns-in-Tick-clause-intake
returns-in-Tick-clause-intake c = refl

pub returns-in-Over-clause-paid : goal.returns-in-Over-clause-paid
returns-in-Over-clause-paid c = λ a b start now at it paid. paid

pub returns-in-Over-clause-intake : goal.returns-in-Over-clause-intake
returns-in-Over-clause-intake c = refl

pub returns-in-Refused-clause-paid : goal.returns-in-Refused-clause-paid
returns-in-Refused-clause-paid c = λ a b start now at it paid. paid

pub returns-in-Refused-clause-intake : goal.returns-in-Refused-clause-intake
returns-in-Refused-clause-intake c = refl

pub returns-in-Tick-clause-lacks : goal.returns-in-Tick-clause-lacks
returns-in-Tick-clause-lacks c = λ a b it. tt

pub returns-in-Tick-clause-asks : goal.returns-in-Tick-clause-asks
returns-in-Tick-clause-asks c = λ a b it. tt

pub returns-in-Over-clause-lacks : goal.returns-in-Over-clause-lacks
returns-in-Over-clause-lacks c = λ a b it. tt

pub returns-in-Over-clause-asks : goal.returns-in-Over-clause-asks
returns-in-Over-clause-asks c = λ a b it. tt

pub returns-in-Refused-clause-lacks : goal.returns-in-Refused-clause-lacks
returns-in-Refused-clause-lacks c = λ a b it. tt

pub returns-in-Refused-clause-asks : goal.returns-in-Refused-clause-asks
returns-in-Refused-clause-asks c = λ a b it. tt

pub returns-in-Done-clause-lacks : goal.returns-in-Done-clause-lacks
returns-in-Done-clause-lacks c = λ a b it. tt

pub returns-in-Done-clause-asks : goal.returns-in-Done-clause-asks
returns-in-Done-clause-asks c = λ a b it. tt

pub arrive-requires : goal.arrive-requires
arrive-requires c = (
  _,
  c.requires.0,
  c.requires.1,
  c.requires.2,
  subst (λ x. IsFed (counted c.requires.0) c.requires.1 x) c.in-Job.is c.requires.3,
)

pub returns-in-Done-clause-paid : goal.returns-in-Done-clause-paid
returns-in-Done-clause-paid c = λ a b start now at it paid.
    subst (λ o. HasPaid o start now) (sym c.finish_at.ensures.server) paid

pub returns-in-Job-clause-turns : goal.returns-in-Job-clause-turns
returns-in-Job-clause-turns c =
    subst (λ x. OnOk c.arrive.result (TurnsTo x c.arrive.new.self.work)) (sym c.in-Job.is) c.arrive.ensures.work

pub returns-in-Done-clause-turns : goal.returns-in-Done-clause-turns
returns-in-Done-clause-turns c =
    subst (λ x. TurnsTo x c.finish_at.new.self.work) (sym c.in-Done.is) c.finish_at.ensures.work
