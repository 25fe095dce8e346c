use Rattle.std.proofs.Common.{ap, sym, ◌∙◌}
use Rattle.dover_model.specs.Pieces.{stretches}
use Rattle.policy_lab.specs.Counts.{stops}
use Rattle.policy_lab.proofs.Runs.{worth_is, serves_is, run_is}
use Rattle.policy_lab.proofs.lab.run_policy.Goals as goal

pub returns-in-Ok-clause-value : goal.returns-in-Ok-clause-value
returns-in-Ok-clause-value g c = λ rules.
    let picks = g.P.Policy.picks c.args.policy.now in
    c.in-Ok.ensures.value
    ∙ sym (worth_is picks c.args.jobs.now (g.met.P.Policy.law c.args.policy.now).policy c.requires.count rules)

pub returns-in-Ok-clause-completed : goal.returns-in-Ok-clause-completed
returns-in-Ok-clause-completed g c =
    let picks = g.P.Policy.picks c.args.policy.now in
    c.in-Ok.ensures.completed
    ∙ sym (serves_is picks c.args.jobs.now (g.met.P.Policy.law c.args.policy.now).policy c.requires.count)

pub returns-in-Ok-clause-stops : goal.returns-in-Ok-clause-stops
returns-in-Ok-clause-stops g c =
    c.in-Ok.ensures.stops ∙ ap (stops c.args.jobs.now)
    (sym (run_is (g.P.Policy.picks c.args.policy.now) c.args.jobs.now))

pub returns-in-Ok-clause-pieces : goal.returns-in-Ok-clause-pieces
returns-in-Ok-clause-pieces g c =
    c.in-Ok.ensures.stretched ∙ ap stretches (sym (run_is (g.P.Policy.picks c.args.policy.now) c.args.jobs.now))
