use Rattle.std.proofs.Common.{◌≡◌, ◌-◌, ◌*◌, ◌/◌, ◌≤◌, ◌<◌, ◌↔◌, subst, arith}
use Rattle.run_reports.proofs.views.Numerators.{quotient_below}
use Rattle.run_reports.proofs.views.threshold.most_below.Goals as goal

pub returns : goal.returns
returns c p small =
    let same : (c.args.q * c.args.over * c.args.over - 1) / (c.args.w * c.args.w)
    ≡ (c.from-q.result * c.from-over.result * c.from-over.result - 1) / (c.from-sum.result * c.from-sum.result) = cc in
    subst (λ n. (p ≤ n) ↔ (p * c.args.w * c.args.w < c.args.q * c.args.over * c.args.over)) same
    (quotient_below c.args.q c.args.over c.args.w p c.requires.some c.requires.over (omega (arith, c.if-w-eq0.false)))
