use Rattle.dover_model.proofs.valid.ValidParts.{order_parts}
use Rattle.policy_lab.proofs.Choosing.{begins_as}
use Rattle.policy_lab.proofs.bench.run_events.Goals as goal

pub loop-bench-init : goal.loop-bench-init
loop-bench-init g c =
    begins_as _ _ (g.met.P.Policy.law c.args.policy.now) c.args.jobs.now (order_parts c.requires.in_order)
    c.requires.each c.requires.count _ _ _ _ _ c.new-bench.ensures.clock c.new-bench.ensures.released
    c.new-bench.ensures.waiting c.new-bench.ensures.ordered c.new-bench.ensures.tally c.new-bench.ensures.pieces
