use Rattle.demand_words.proofs.Sharing.{told_over}
use Rattle.demand_words.proofs.shares.told_by_shares.Goals as goal

pub returns-then-shares-scale : goal.returns-then-shares-scale
returns-then-shares-scale c = told_over c.args.tasks.now c.args.scale c.sum_shares-shares.result.least
    c.requires.limits c.requires.some c.sum_shares-shares.ensures.least c.if-shares-scale.true
