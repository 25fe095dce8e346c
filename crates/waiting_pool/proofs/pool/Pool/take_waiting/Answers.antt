use Rattle.std.proofs.Common.{◌∷◌, ◌+◌, ◌*◌, ◌≤◌, ◌<◌, ◌^◌, Some, sym, ap, ◌∙◌, subst, length, arith}
use Rattle.dover_model.specs.Orders.{waiting_order, by_density, first}
use Rattle.dover_model.proofs.lists.Members.{some_same}
use Rattle.dover_model.proofs.lists.Tests.{none_is_some}
use Rattle.waiting_pool.specs.Reordered.{IsReordered}
use Rattle.waiting_pool.specs.Pools.{HaveOwnNumbers, AreModest, Pooled, IsPlaceOf, jobs_at, orders_of}
use Rattle.waiting_pool.proofs.Places.{within}
use Rattle.waiting_pool.proofs.pool.Pool.take_waiting.Goals as goal

pub task_at-task-requires : goal.task_at-task-requires
task_at-task-requires g c =
    let inside = c.self.inside in
    let own = subst (λ (q : Pooled). HaveOwnNumbers q.tasks) (sym c.self.view_is) c.requires.own in
    let modest = subst (λ (q : Pooled). AreModest q.tasks) (sym c.self.view_is) c.requires.modest in
    let order = waiting_order inside.version (by_density inside.version c.args.pressed) in
    let it = subst (IsPlaceOf order inside.slots.items) c.in_ok-place.was
    (c.waiting_place.ensures inside.slots.items c.self.invariant.0.due c.self.invariant.0.dense own modest) in
    within inside.slots.items c.in_ok-place.place (Some it.0) it.1

pub take_at-requires-clause-some : goal.take_at-requires-clause-some
take_at-requires-clause-some g c =
    let inside = c.self.inside in
    let own = subst (λ (q : Pooled). HaveOwnNumbers q.tasks) (sym c.self.view_is) c.requires.own in
    let modest = subst (λ (q : Pooled). AreModest q.tasks) (sym c.self.view_is) c.requires.modest in
    let order = waiting_order inside.version (by_density inside.version c.args.pressed) in
    let it = subst (IsPlaceOf order inside.slots.items) c.in_ok-place.was
    (c.waiting_place.ensures inside.slots.items c.self.invariant.0.due c.self.invariant.0.dense own modest) in
    (it.0, it.1)

pub take_at-requires-clause-pool : goal.take_at-requires-clause-pool
take_at-requires-clause-pool g c = c.self.invariant.0

pub invariant_of-self : goal.invariant_of-self
invariant_of-self g c = (
  c.take_at.ensures.pool,
  record {
    opened = omega (
      arith,
      c.self.invariant.1.opened,
      c.take_at.ensures.places,
      c.take_at.new.slots.ok.0,
      c.self.inside.slots.ok.0,
    );
    most = c.self.invariant.1.most;
    slots_fit = omega (arith, c.self.invariant.1.slots_fit, c.take_at.ensures.slots);
    free_fit = omega (arith, c.self.invariant.1.free_fit, c.take_at.ensures.capacity);
    due_fit = omega (arith, c.self.invariant.1.due_fit, c.take_at.ensures.due);
    latest_fit = omega (arith, c.self.invariant.1.latest_fit, c.take_at.ensures.latest);
    dense_fit = λ by. omega (arith, c.self.invariant.1.dense_fit by, c.take_at.ensures.dense by);
  },
)

pub returns-in_err-place-clause-was : goal.returns-in_err-place-clause-was
returns-in_err-place-clause-was g c =
    let inside = c.self.inside in
    let own = subst (λ (q : Pooled). HaveOwnNumbers q.tasks) (sym c.self.view_is) c.requires.own in
    let modest = subst (λ (q : Pooled). AreModest q.tasks) (sym c.self.view_is) c.requires.modest in
    let order = waiting_order inside.version (by_density inside.version c.args.pressed) in
    c.from_residual.ensures
    ∙ subst (IsPlaceOf order inside.slots.items) c.in_err-place.was
    (c.waiting_place.ensures inside.slots.items c.self.invariant.0.due c.self.invariant.0.dense own modest)
    ∙ ap (λ (q : Pooled). first (waiting_order q.version (by_density q.version c.args.pressed)) q.tasks) c.self.view_is

pub returns-clause-was : goal.returns-clause-was
returns-clause-was g c =
    let inside = c.self.inside in
    let own = subst (λ (q : Pooled). HaveOwnNumbers q.tasks) (sym c.self.view_is) c.requires.own in
    let modest = subst (λ (q : Pooled). AreModest q.tasks) (sym c.self.view_is) c.requires.modest in
    let order = waiting_order inside.version (by_density inside.version c.args.pressed) in
    let it = subst (IsPlaceOf order inside.slots.items) c.in_ok-place.was
    (c.waiting_place.ensures inside.slots.items c.self.invariant.0.due c.self.invariant.0.dense own modest) in
    some_same _ _ (sym c.task_at-task.ensures ∙ it.1) ∙ sym it.2
    ∙ ap (λ (q : Pooled). first (waiting_order q.version (by_density q.version c.args.pressed)) q.tasks) c.self.view_is

pub returns-clause-rest : goal.returns-clause-rest
returns-clause-rest g c t is =
    subst (λ (q : Pooled). IsReordered q.tasks (t ∷ jobs_at c.take_at.new.slots.items)) c.self.view_is
    (c.take_at.ensures.rest t (c.task_at-task.ensures ∙ ap Some is))

pub returns-clause-count : goal.returns-clause-count
returns-clause-count g c d fits =
    subst (λ (q : Pooled). c.take_at.new.comparisons ≤ c.args.comparisons.now + 3 * orders_of q.version * d)
    c.self.view_is
    (c.take_at.ensures.count d (subst (λ (q : Pooled). length q.tasks + 1 < 2 ^ d) (sym c.self.view_is) fits))

pub returns-clause-none : goal.returns-clause-none
returns-clause-none g c none =
    let inside = c.self.inside in
    let own = subst (λ (q : Pooled). HaveOwnNumbers q.tasks) (sym c.self.view_is) c.requires.own in
    let modest = subst (λ (q : Pooled). AreModest q.tasks) (sym c.self.view_is) c.requires.modest in
    let order = waiting_order inside.version (by_density inside.version c.args.pressed) in
    let it = subst (IsPlaceOf order inside.slots.items) c.in_ok-place.was
    (c.waiting_place.ensures inside.slots.items c.self.invariant.0.due c.self.invariant.0.dense own modest) in
    none_is_some (sym none ∙ some_same _ _ (sym c.task_at-task.ensures ∙ it.1))
