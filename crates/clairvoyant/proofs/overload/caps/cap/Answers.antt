use Rattle.std.proofs.Common.{◌≤◌, sym, subst}
use Rattle.dover_model.specs.Common.{total_value, spread}
use Rattle.clairvoyant.proofs.overload.NoneMet.{some_rules}
use Rattle.clairvoyant.proofs.overload.Paying.{total_caps}
use Rattle.clairvoyant.proofs.overload.caps.cap.Goals as goal

pub returns-clause-less : goal.returns-clause-less
returns-clause-less c = subst (λ t. c.in-Ok.best.value ≤ t) (sym c.requires.total)
    (subst (λ v. v ≤ total_value c.args.jobs.now) (c.in-Ok.ensures.worth some_rules)
    (total_caps c.args.jobs.now some_rules (spread c.in-Ok.best.pieces.items)))

pub returns-clause-reached : goal.returns-clause-reached
returns-clause-reached c enough few =
    (some_rules, spread c.in-Ok.best.pieces.items, c.in-Ok.ensures.worth some_rules)
