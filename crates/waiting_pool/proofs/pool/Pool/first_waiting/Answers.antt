use Rattle.std.proofs.Common.{Some, sym, ap, ◌∙◌, subst}
use Rattle.dover_model.specs.Orders.{waiting_order, by_density, first}
use Rattle.dover_model.proofs.lists.Members.{some_same}
use Rattle.waiting_pool.specs.Pools.{HaveOwnNumbers, AreModest, Pooled, IsPlaceOf}
use Rattle.waiting_pool.proofs.Places.{within}
use Rattle.waiting_pool.proofs.pool.Pool.first_waiting.Goals as goal

pub job_at-requires : goal.job_at-requires
job_at-requires c =
    let inside = c.self.inside in
    let own = subst (λ (q : Pooled). HaveOwnNumbers q.tasks) (sym c.self.view_is) c.requires.own in
    let modest = subst (λ (q : Pooled). AreModest q.tasks) (sym c.self.view_is) c.requires.modest in
    let order = waiting_order inside.version (by_density inside.version c.args.pressed) in
    let it = subst (IsPlaceOf order inside.slots.items) c.in_ok-place.was
    (c.waiting_place.ensures inside.slots.items c.self.invariant.0.due c.self.invariant.0.dense own modest) in
    within inside.slots.items c.in_ok-place.place (Some it.0) it.1

pub returns : goal.returns
returns c =
    let inside = c.self.inside in
    let own = subst (λ (q : Pooled). HaveOwnNumbers q.tasks) (sym c.self.view_is) c.requires.own in
    let modest = subst (λ (q : Pooled). AreModest q.tasks) (sym c.self.view_is) c.requires.modest in
    let order = waiting_order inside.version (by_density inside.version c.args.pressed) in
    let it = subst (IsPlaceOf order inside.slots.items) c.in_ok-place.was
    (c.waiting_place.ensures inside.slots.items c.self.invariant.0.due c.self.invariant.0.dense own modest) in
    some_same _ _ (sym c.job_at.ensures ∙ it.1) ∙ sym it.2
    ∙ ap (λ (q : Pooled). first (waiting_order q.version (by_density q.version c.args.pressed)) q.tasks) c.self.view_is
