use Rattle.std.proofs.Common.{ℕ, ◌-◌, ◌<◌, ◌≤◌, ◌⊎◌, inl, inr, arith}
use Rattle.std.proofs.lemmas.Bool.{cases_lt}
use Rattle.task_laws.specs.Demand.{demand}
use Rattle.task_laws.proofs.demand.Demanding.{between}
use Rattle.demand_words.specs.Demanded.{all_facts}
use Rattle.demand_words.proofs.Sharing.{apart_all}
use Rattle.demand_words.proofs.looking.look_down.Goals as goal

pub loop-preserved : goal.loop-preserved
loop-preserved c = record {
  known = λ ticks more less. by_order ticks more less (cases_lt ticks c.loop.left);
  down = omega (arith, c.loop.invariant.down, c.if-left-eq0.false, c.if-work-from.false, c.from.ensures);
} where
  by_order : (ticks : ℕ) → c.demand-work.result ≤ ticks → ticks < c.args.horizon
      → (ticks < c.loop.left) ⊎ (c.loop.left ≤ ticks) → demand (all_facts c.args.tasks.now) ticks ≤ ticks
  by_order ticks more less (inl short) = between (all_facts c.args.tasks.now) (c.loop.left - 1) ticks
      (apart_all c.args.tasks.now c.requires.limits) (omega (arith, more, c.demand-work.ensures))
      (omega (arith, short))
  by_order ticks more less (inr long) = c.loop.invariant.known ticks long less
