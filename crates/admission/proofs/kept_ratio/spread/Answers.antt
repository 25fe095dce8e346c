use Rattle.std.proofs.Common.{subst}
use Rattle.admission.specs.Kept.{HasExtremes}
use Rattle.admission.proofs.Spread.{spread_of}
use Rattle.admission.proofs.kept_ratio.spread.Goals as goal

pub returns-in-Some : goal.returns-in-Some
returns-in-Some c = λ k jobs has. rw (c.product.ensures, c.product-in-Some.ensures)
    (spread_of k jobs c.in-Some.e (subst (HasExtremes k jobs) c.in-Some.is has))
