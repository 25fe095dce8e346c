use Rattle.std.proofs.Common.{Some, sym, ap, ◌∙◌, subst, arith, slice_get}
use Rattle.dover_model.specs.Orders.{starts_before, first}
use Rattle.dover_model.proofs.lists.Members.{some_same}
use Rattle.place_heap.specs.Table.{IsFirst}
use Rattle.waiting_pool.specs.Pools.{HaveOwnNumbers, AreModest, Pooled}
use Rattle.waiting_pool.specs.Slots.{seen}
use Rattle.waiting_pool.proofs.Places.{within}
use Rattle.waiting_pool.proofs.Pooling.{latest_none, latest_found}
use Rattle.waiting_pool.proofs.pool.Pool.first_latest.Goals as goal

pub job_at-requires : goal.job_at-requires
job_at-requires c =
    let inside = c.self.inside in
    let own = subst (λ (q : Pooled). HaveOwnNumbers q.tasks) (sym c.self.view_is) c.requires.own in
    let modest = subst (λ (q : Pooled). AreModest q.tasks) (sym c.self.view_is) c.requires.modest in
    let top = subst (IsFirst inside.by_latest) c.in_ok-item.was c.first.ensures in
    let it = latest_found _ _ _ c.self.invariant.0.latest _ top own modest in
    let here = within inside.slots.items c.in_ok-item.item.place (Some it.0) it.1 in
    omega (arith, here, c.place.ensures)

pub returns-in_err-item : goal.returns-in_err-item
returns-in_err-item c =
    let inside = c.self.inside in
    ap seen c.from_residual.ensures
    ∙ latest_none _ _ _ c.self.invariant.0.latest (subst (IsFirst inside.by_latest) c.in_err-item.was c.first.ensures)
    ∙ ap (λ (q : Pooled). first (starts_before q.version) q.tasks) c.self.view_is

pub returns : goal.returns
returns c =
    let inside = c.self.inside in
    let own = subst (λ (q : Pooled). HaveOwnNumbers q.tasks) (sym c.self.view_is) c.requires.own in
    let modest = subst (λ (q : Pooled). AreModest q.tasks) (sym c.self.view_is) c.requires.modest in
    let top = subst (IsFirst inside.by_latest) c.in_ok-item.was c.first.ensures in
    let it = latest_found _ _ _ c.self.invariant.0.latest _ top own modest in
    some_same _ _ (sym c.job_at.ensures ∙ ap (slice_get inside.slots.items) c.place.ensures ∙ it.1) ∙ sym it.2
    ∙ ap (λ (q : Pooled). first (starts_before q.version) q.tasks) c.self.view_is
