use Rattle.std.proofs.Common.{◌≡◌, true, false, subst}
use Rattle.dover_engine.specs.Calls.{IsDueAt}
use Rattle.dover_engine.specs.Kept.{life_of}
use Rattle.dover_engine.proofs.Lives.{due_settled}
use Rattle.dover_engine.proofs.engine.Engine.next.Goals as goal

pub returns-then-self : goal.returns-then-self
returns-then-self c =
    subst (λ u. IsDueAt u c.in_ok-next.next) c.self.view_is
    (due_settled (life_of c.self.inside) c.in_ok-next.next c.in_ok-next.ensures.at c.if-self.true
    (λ none. let f : true ≡ false = c.in_ok-next.ensures.none.1 none in cc))
