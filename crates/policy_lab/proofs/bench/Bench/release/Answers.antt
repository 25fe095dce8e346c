use Rattle.std.proofs.Common.{◌∷◌, inl, inr, refl, subst, arith, heap_items, IsPermutation}
use Rattle.dover_model.proofs.valid.ValidParts.{order_parts}
use Rattle.clairvoyant.proofs.feasible.Running.{next_found}
use Rattle.policy_lab.specs.Ranks.{turn_by}
use Rattle.policy_lab.specs.Bench.{entry_with, kept_of}
use Rattle.policy_lab.proofs.Choosing.{run_released, run_on_from}
use Rattle.policy_lab.proofs.bench.Bench.release.Goals as goal

pub loop-job-preserved : goal.loop-job-preserved
loop-job-preserved g c = (
  run_released _ _ (g.met.P.Policy.law c.args.policy.now) c.args.jobs.now (order_parts c.requires.in_order)
      c.requires.each c.requires.count c.loop-job.self.clock c.loop-job.self.released c.loop-job.self.tally
      (heap_items c.loop-job.self.waiting) (heap_items c.put.new.waiting) c.loop-job.self.pieces.items c.in-Some.job.now
      c.loop-job.invariant.0
      (next_found _ _ _ _ refl c.in-Some.ensures.lookup.3.0 c.in-Some.ensures.lookup.1)
      (omega (arith, c.if-self-release.false, c.release.ensures.is))
      (subst (λ w. IsPermutation ((
        turn_by (g.P.Policy.ranks c.args.policy.now)
            (entry_with c.loop-job.self.released w c.in-Some.job.now),
        w,
      ) ∷ kept_of (heap_items c.loop-job.self.waiting))
      (kept_of (heap_items c.put.new.waiting))) c.work.ensures.is c.in_ok-put.ensures.0)
      c.in_ok-put.ensures.1,
  c.loop-job.invariant.1,
)

pub returns-then-self-release-clause-run : goal.returns-then-self-release-clause-run
returns-then-self-release-clause-run g c =
    run_on_from _ _ (g.met.P.Policy.law c.args.policy.now) c.args.jobs.now (order_parts c.requires.in_order)
    c.requires.each c.requires.count _ _ _ _ _ _ c.loop-job.invariant.0
    (inr (
      c.in-Some.job.now,
      next_found _ _ _ _ refl c.in-Some.ensures.lookup.3.0 c.in-Some.ensures.lookup.1,
      omega (arith, c.if-self-release.true, c.release.ensures.is),
    ))

pub returns-in_default-clause-run : goal.returns-in_default-clause-run
returns-in_default-clause-run g c =
    run_on_from _ _ (g.met.P.Policy.law c.args.policy.now) c.args.jobs.now (order_parts c.requires.in_order)
    c.requires.each c.requires.count _ _ _ _ _ _ c.loop-job.invariant.0
    (inl (omega (arith, c.in_default.ensures.lookup.3)))
