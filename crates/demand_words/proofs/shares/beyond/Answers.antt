use Rattle.std.proofs.Common.{◌-◌, ◌∙◌, arith}
use Rattle.demand_words.specs.Demanded.{facts, share}
use Rattle.demand_words.proofs.Sizes.{product, few_beyond}
use Rattle.demand_words.proofs.shares.beyond.Goals as goal

pub overflow_mul-result : goal.overflow_mul-result
overflow_mul-result c = omega (
  arith,
  product c.most_share.result c.from.result (share c.args.scale (facts c.args.task.now))
      (c.args.task.now.period - c.args.task.now.deadline) c.most_share.ensures.is
      (c.from.ensures ∙ c.saturating_sub.ensures),
  few_beyond c.args.scale c.args.task.now c.requires.scale c.requires.period c.requires.work
      (c.fits-task.1.0).1,
)

pub returns-clause-few : goal.returns-clause-few
returns-clause-few c = omega (
  arith,
  product c.most_share.result c.from.result (share c.args.scale (facts c.args.task.now))
      (c.args.task.now.period - c.args.task.now.deadline) c.most_share.ensures.is
      (c.from.ensures ∙ c.saturating_sub.ensures),
  few_beyond c.args.scale c.args.task.now c.requires.scale c.requires.period c.requires.work
      (c.fits-task.1.0).1,
)
