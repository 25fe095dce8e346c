use Rattle.std.proofs.Common.{ℕ, ◌+◌, ◌-◌, ◌≡◌, sym, ◌∙◌, subst, arith}
use Rattle.dover_model.proofs.lists.Tests.{never}
use Rattle.dover_engine.specs.Kept.{life_of}
use Rattle.dover_engine.specs.Life.{Life, IsReadyFor}
use Rattle.dover_engine.specs.Calls.{HasNoProcessor}
use Rattle.dover_engine.proofs.Doing.{no_processor, no_processor_below}
use Rattle.dover_engine.proofs.engine.Engine.runner.Goals as goal

pub returns-then-number-self-clause-none : goal.returns-then-number-self-clause-none
returns-then-number-self-clause-none c none at ready =
    subst (λ u. HasNoProcessor u c.args.number) c.self.view_is
    (no_processor_below (life_of c.self.inside) at c.args.number c.if-number-self.true
    (subst (λ u. IsReadyFor u at) (sym c.self.view_is) ready))

pub returns-else-runs-clause-none : goal.returns-else-runs-clause-none
returns-else-runs-clause-none c none at ready =
    let v : Life = life_of c.self.inside in
    let own : ℕ = c.args.number - c.self.inside.forgotten in
    let is : c.args.number ≡ v.forgotten + own = omega (arith, c.if-number-self.false) in
    subst (λ u. HasNoProcessor u c.args.number) c.self.view_is
    (no_processor v at c.args.number own is (subst (λ u. IsReadyFor u at) (sym c.self.view_is) ready)
    (λ K rests has. never (sym c.if-runs.false ∙ (c.runs.ensures K at rests).1 has)))
