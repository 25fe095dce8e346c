use Rattle.std.proofs.Common.{◌∷◌, ◌+◌, ◌*◌, ◌≤◌, ◌<◌, ◌^◌, Some, sym, ap, ◌∙◌, subst, length, arith, slice_get}
use Rattle.dover_model.specs.Orders.{starts_before, first}
use Rattle.dover_model.proofs.lists.Tests.{none_is_some}
use Rattle.waiting_pool.specs.Reordered.{IsReordered}
use Rattle.place_heap.specs.Table.{IsFirst}
use Rattle.waiting_pool.specs.Pools.{HaveOwnNumbers, AreModest, Pooled, jobs_at, orders_of}
use Rattle.waiting_pool.proofs.Pooling.{latest_none, latest_found}
use Rattle.waiting_pool.proofs.pool.Pool.take_latest.Goals as goal

pub take_at-requires-clause-some : goal.take_at-requires-clause-some
take_at-requires-clause-some g c =
    let inside = c.self.inside in
    let own = subst (λ (q : Pooled). HaveOwnNumbers q.tasks) (sym c.self.view_is) c.requires.own in
    let modest = subst (λ (q : Pooled). AreModest q.tasks) (sym c.self.view_is) c.requires.modest in
    let top = subst (IsFirst inside.by_latest) c.in-Some.is c.first.ensures in
    let it = latest_found _ _ _ c.self.invariant.0.latest _ top own modest in
    (it.0, ap (slice_get inside.slots.items) c.place.ensures ∙ it.1)

pub take_at-requires-clause-pool : goal.take_at-requires-clause-pool
take_at-requires-clause-pool g c = c.self.invariant.0

pub invariant_of-self : goal.invariant_of-self
invariant_of-self g c = (
  c.take_at.ensures.pool,
  record {
    opened = omega (
      arith,
      c.self.invariant.1.opened,
      c.take_at.ensures.places,
      c.take_at.new.slots.ok.0,
      c.self.inside.slots.ok.0,
    );
    most = c.self.invariant.1.most;
    slots_fit = omega (arith, c.self.invariant.1.slots_fit, c.take_at.ensures.slots);
    free_fit = omega (arith, c.self.invariant.1.free_fit, c.take_at.ensures.capacity);
    due_fit = omega (arith, c.self.invariant.1.due_fit, c.take_at.ensures.due);
    latest_fit = omega (arith, c.self.invariant.1.latest_fit, c.take_at.ensures.latest);
    dense_fit = λ by. omega (arith, c.self.invariant.1.dense_fit by, c.take_at.ensures.dense by);
  },
)

pub returns-in-Some-clause-rest : goal.returns-in-Some-clause-rest
returns-in-Some-clause-rest g c t is =
    let inside = c.self.inside in
    let own = subst (λ (q : Pooled). HaveOwnNumbers q.tasks) (sym c.self.view_is) c.requires.own in
    let modest = subst (λ (q : Pooled). AreModest q.tasks) (sym c.self.view_is) c.requires.modest in
    let top = subst (IsFirst inside.by_latest) c.in-Some.is c.first.ensures in
    let it = latest_found _ _ _ c.self.invariant.0.latest _ top own modest in
    let same = sym it.2 ∙ ap (λ (q : Pooled). first (starts_before q.version) q.tasks) c.self.view_is ∙ is in
    subst (λ (q : Pooled). IsReordered q.tasks (t ∷ jobs_at c.take_at.new.slots.items)) c.self.view_is
    (c.take_at.ensures.rest t (ap (slice_get inside.slots.items) c.place.ensures ∙ it.1 ∙ ap Some same))

pub returns-in-Some-clause-none : goal.returns-in-Some-clause-none
returns-in-Some-clause-none g c none =
    let inside = c.self.inside in
    let own = subst (λ (q : Pooled). HaveOwnNumbers q.tasks) (sym c.self.view_is) c.requires.own in
    let modest = subst (λ (q : Pooled). AreModest q.tasks) (sym c.self.view_is) c.requires.modest in
    let top = subst (IsFirst inside.by_latest) c.in-Some.is c.first.ensures in
    let it = latest_found _ _ _ c.self.invariant.0.latest _ top own modest in
    none_is_some (sym (sym it.2 ∙ ap (λ (q : Pooled). first (starts_before q.version) q.tasks) c.self.view_is ∙ none))

pub returns-in-Some-clause-count : goal.returns-in-Some-clause-count
returns-in-Some-clause-count g c d fits =
    subst (λ (q : Pooled). c.take_at.new.comparisons ≤ c.args.comparisons.now + 3 * orders_of q.version * d)
    c.self.view_is
    (c.take_at.ensures.count d (subst (λ (q : Pooled). length q.tasks + 1 < 2 ^ d) (sym c.self.view_is) fits))

pub returns-in_default-clause-rest : goal.returns-in_default-clause-rest
returns-in_default-clause-rest g c t is =
    let inside = c.self.inside in
    let none = subst (IsFirst inside.by_latest) c.in_default.is c.first.ensures in
    none_is_some (latest_none _ _ _ c.self.invariant.0.latest none
    ∙ ap (λ (q : Pooled). first (starts_before q.version) q.tasks) c.self.view_is ∙ is)
