use Rattle.std.proofs.Common.{Some, sym, ap, ◌∙◌, subst, option_map}
use Rattle.dover_model.specs.Common.{latest_start, starts_before, first}
use Rattle.place_heap.specs.Items.{ItemFacts}
use Rattle.place_heap.specs.Table.{IsFirst}
use Rattle.waiting_pool.specs.Pools.{HaveOwnNumbers, AreModest, Pooled}
use Rattle.waiting_pool.proofs.Pooling.{latest_none, latest_found}
use Rattle.waiting_pool.proofs.pool.Pool.first_start.Goals as goal

pub returns-in_err-item : goal.returns-in_err-item
returns-in_err-item c =
    let inside = c.self.inside in
    c.from_residual.ensures
    ∙ ap (option_map latest_start) (latest_none inside.version inside.slots.items inside.by_latest
    c.self.invariant.0.latest (subst (IsFirst inside.by_latest) c.in_err-item.was c.first.ensures)
    ∙ ap (λ (q : Pooled). first (starts_before q.version) q.tasks) c.self.view_is)

pub returns : goal.returns
returns c =
    let inside = c.self.inside in
    let own = subst (λ (q : Pooled). HaveOwnNumbers q.tasks) (sym c.self.view_is) c.requires.own in
    let modest = subst (λ (q : Pooled). AreModest q.tasks) (sym c.self.view_is) c.requires.modest in
    let top = subst (IsFirst inside.by_latest) c.in_ok-item.was c.first.ensures in
    let it = latest_found _ _ _ c.self.invariant.0.latest _ top own modest in
    ap Some (c.key.ensures ∙ ap (λ (i : ItemFacts). i.key) it.3)
    ∙ ap (option_map latest_start) (sym it.2
    ∙ ap (λ (q : Pooled). first (starts_before q.version) q.tasks) c.self.view_is)
