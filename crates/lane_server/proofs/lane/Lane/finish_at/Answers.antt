use Rattle.std.proofs.Common.{arith}
use Rattle.lane_server.proofs.Taking.{late_done_adds, done_adds}
use Rattle.lane_server.proofs.lane.Lane.finish_at.Goals as goal

pub returns-then-at-self-clause-adds : goal.returns-then-at-self-clause-adds
returns-then-at-self-clause-adds c = λ a b at it. late_done_adds c.args.self.now c.args.at c.args.number a b at it
    (omega (arith, c.if-at-self.true, at.marked))

pub returns-clause-adds : goal.returns-clause-adds
returns-clause-adds c = λ a b at it. done_adds c.args.self.now c.args.at c.args.number a b at it
    (omega (arith, c.if-at-self.false, at.marked))
