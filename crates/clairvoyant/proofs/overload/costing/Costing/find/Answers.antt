use Rattle.std.proofs.Common.{◌∙◌, ap, subst, arith}
use Rattle.dover_model.specs.Limits.{last_tick}
use Rattle.clairvoyant.specs.feasible.Feasibility.{CanMeet}
use Rattle.clairvoyant.specs.overload.Stretches.{jobs_inside}
use Rattle.clairvoyant.proofs.overload.Filling.{all_inside, room_all, room_behind}
use Rattle.clairvoyant.proofs.overload.NoneMet.{all_met}
use Rattle.clairvoyant.proofs.overload.costing.Costing.find.Goals as goal

pub returns-then-self-value-clause-met : goal.returns-then-self-value-clause-met
returns-then-self-value-clause-met c none = all_met c.args.jobs.now c.requires.each c.args.value c.requires.value
    (omega (arith, c.requires.costed.total, c.if-self-value.true))

pub returns-then-self-value-clause-room : goal.returns-then-self-value-clause-room
returns-then-self-value-clause-room c = room_all c.args.jobs.now c.requires.each
    (all_met c.args.jobs.now c.requires.each c.args.value c.requires.value
    (omega (arith, c.requires.costed.total, c.if-self-value.true)))
    c.args.self.now.at

pub returns-clause-met : goal.returns-clause-met
returns-clause-met c none = subst CanMeet
    (ap (λ t. jobs_inside c.args.jobs.now t last_tick) (c.in_ok-fill.ensures.costed.begun none)
    ∙ all_inside c.args.jobs.now c.requires.each)
    c.in_ok-fill.ensures.met

pub returns-clause-room : goal.returns-clause-room
returns-clause-room c = room_behind c.args.jobs.now c.requires.each c.fill.new.self.at c.in_ok-fill.ensures.met
