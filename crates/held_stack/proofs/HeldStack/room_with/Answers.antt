use Rattle.std.proofs.Common.{◌<◌, ◌∷◌, ◌∙◌, ap, sym, subst, reverse}
use Rattle.dover_model.specs.Common.{room_of, Each}
use Rattle.held_stack.specs.Stack.{Stack}
use Rattle.held_stack.proofs.Holding.{before_top}
use Rattle.held_stack.proofs.HeldStack.room_with.Goals as goal

pub returns : goal.returns
returns c =
    let e = c.args.e.now in
    let held = reverse c.self.inside.entries.items in
    c.room_with.ensures held c.self.invariant.0
    (before_top e held (subst (λ (s : Stack). Each (λ f. e.deadline < f.deadline) s.held) (sym c.self.view_is)
    c.requires))
    ∙ ap (λ (s : Stack). room_of c.args.now (e ∷ s.held)) c.self.view_is
