use Rattle.std.proofs.Common.{refl, sym, subst, arith, heap_items}
use Rattle.dover_model.specs.Common.{idle}
use Rattle.dover_model.proofs.valid.ValidParts.{order_parts}
use Rattle.clairvoyant.proofs.feasible.Running.{next_found}
use Rattle.policy_lab.specs.Bench.{HasRun}
use Rattle.policy_lab.proofs.Choosing.{next_ahead}
use Rattle.policy_lab.proofs.NoneRuns.{run_waits, run_over}
use Rattle.policy_lab.proofs.bench.Bench.wait.Goals as goal

pub returns-in-Some-clause-run : goal.returns-in-Some-clause-run
returns-in-Some-clause-run g c =
    subst (λ at. HasRun (g.P.Policy.picks c.args._policy.now)
    (g.P.Policy.ranks c.args._policy.now) c.args.jobs.now at at
    c.args.self.now.released idle c.args.self.now.tally (heap_items c.args.self.now.waiting)
    c.args.self.now.pieces.items)
    (sym c.release-self.ensures.is)
    (run_waits _ _ (g.met.P.Policy.law c.args._policy.now) c.args.jobs.now (order_parts c.requires.in_order)
    c.requires.each c.requires.count _ _ _ _ _ c.requires.run c.requires.empty c.in-Some.next.now
    (next_found _ _ _ _ refl c.in-Some.ensures.lookup.3.0 c.in-Some.ensures.lookup.1))

pub returns-in-Some-clause-later : goal.returns-in-Some-clause-later
returns-in-Some-clause-later g c = omega (
  arith,
  c.release-self.ensures.is,
  next_ahead _ _ (g.met.P.Policy.law c.args._policy.now) c.args.jobs.now (order_parts c.requires.in_order)
      c.requires.each c.requires.count _ _ _ _ _ _ _ c.requires.run c.in-Some.next.now
      (next_found _ _ _ _ refl c.in-Some.ensures.lookup.3.0 c.in-Some.ensures.lookup.1),
)

pub returns-in-None-clause-ends : goal.returns-in-None-clause-ends
returns-in-None-clause-ends g c =
    run_over _ _ (g.met.P.Policy.law c.args._policy.now) c.args.jobs.now (order_parts c.requires.in_order)
    c.requires.each c.requires.count _ _ _ _ _ c.requires.run c.requires.empty
    (omega (arith, c.in-None.ensures.lookup.3))
