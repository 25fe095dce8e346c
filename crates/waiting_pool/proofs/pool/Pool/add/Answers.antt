use Rattle.std.proofs.Common.{◌≡◌, ◌+◌, ◌<◌, ◌≤◌, ◌^◌, ◌++◌, ◌∷◌, [], Some, None, sym, ap, ◌∙◌, subst, length, set, ◌*◌}
use Rattle.std.proofs.Common.{get_or, arith}
use Rattle.place_heap.specs.Items.{ItemFacts}
use Rattle.place_heap.specs.Orders.{due_item, latest_item}
use Rattle.dover_model.specs.Entries.{entry_of}
use Rattle.waiting_pool.specs.Reordered.{IsReordered}
use Rattle.waiting_pool.specs.Pools.{Pooled, IsPool, item_by_density, jobs_at, orders_of}
use Rattle.waiting_pool.proofs.Places.{same_length, jobs_in}
use Rattle.waiting_pool.proofs.Pooling.{add_free, add_inside, add_kept, add_due_ready, add_latest_ready, add_due_free}
use Rattle.waiting_pool.proofs.Pooling.{add_latest_free, add_due_count, add_latest_count, add_dense_ready}
use Rattle.waiting_pool.proofs.Pooling.{add_dense_free, add_dense_count}
use Rattle.waiting_pool.proofs.pool.Pool.add.Goals as goal
use Rattle.waiting_pool.proofs.pool.Pool.add.Goals.{After-next_place-place}
use Rattle.waiting_pool.proofs.pool.Pool.add.Given.{Over}

pub next_place-place-requires-clause-count : goal.next_place-place-requires-clause-count
next_place-place-requires-clause-count g c = c.self.invariant.0.count

pub next_place-place-requires-clause-few : goal.next_place-place-requires-clause-few
next_place-place-requires-clause-few g c = omega (arith, c.self.invariant.1.opened, c.self.invariant.1.most)

-- the places with the new one fit
fits : (g : Over) (c : After-next_place-place g) → length c.next_place-place.new.slots.items ≤ c.self.inside.room
fits g c =
    let room = subst (λ (q : Pooled). length q.tasks < q.room) (sym c.self.view_is) c.requires.room in
    omega (arith, c.next_place-place.ensures.places, c.self.invariant.1.opened, room)

-- they are a pool, and the new one is free
pool : (g : Over) (c : After-next_place-place g)
    → IsPool c.self.inside.version c.next_place-place.new.slots.items
    (c.next_place-place.new.free.items ++ c.next_place-place.result ∷ []) c.self.inside.by_deadline
    c.self.inside.by_latest c.self.inside.by_density
pool g c =
    let inside = c.self.inside in
    let fit = fits g c in
    c.next_place-place.ensures.pool inside.version inside.by_deadline inside.by_latest inside.by_density
    c.self.invariant.0
    (omega (arith, fit, c.self.invariant.1.due_fit)) (omega (arith, fit, c.self.invariant.1.latest_fit))
    (λ by. omega (arith, fit, c.self.invariant.1.dense_fit by))
    (omega (arith, fit, c.self.invariant.1.most))

pub put_at-requires-clause-inside : goal.put_at-requires-clause-inside
put_at-requires-clause-inside g c = add_inside _ _ c.next_place-place.new.free.items _ _ _ c.next_place-place.result
    (pool g (goal.at.put_at-requires-clause-inside g c).After-next_place-place)

pub insert-requires-clause-ready : goal.insert-requires-clause-ready
insert-requires-clause-ready g c =
    subst (λ (i : ItemFacts). i.place < length c.self.inside.by_deadline) (sym c.due_item-due.ensures)
    (add_due_ready _ _ _ _ _ _ _ (pool g (goal.at.insert-requires-clause-ready g c).After-next_place-place))

pub insert-requires-clause-free : goal.insert-requires-clause-free
insert-requires-clause-free g c =
    subst (λ (i : ItemFacts). get_or c.self.inside.by_deadline i.place None ≡ None) (sym c.due_item-due.ensures)
    (add_due_free _ _ _ _ _ _ _ (pool g (goal.at.insert-requires-clause-free g c).After-next_place-place))

pub insert-requires-2-clause-ready : goal.insert-requires-2-clause-ready
insert-requires-2-clause-ready g c =
    subst (λ (i : ItemFacts). i.place < length c.self.inside.by_latest) (sym c.latest_item-latest.ensures)
    (add_latest_ready _ _ _ _ _ _ _ (pool g (goal.at.insert-requires-2-clause-ready g c).After-next_place-place))

pub insert-requires-2-clause-free : goal.insert-requires-2-clause-free
insert-requires-2-clause-free g c =
    subst (λ (i : ItemFacts). get_or c.self.inside.by_latest i.place None ≡ None) (sym c.latest_item-latest.ensures)
    (add_latest_free _ _ _ _ _ _ _ (pool g (goal.at.insert-requires-2-clause-free g c).After-next_place-place))

pub add_dense-requires-clause-ready : goal.add_dense-requires-clause-ready
add_dense-requires-clause-ready g c =
    add_dense_ready _ _ c.next_place-place.new.free.items _ _ _ c.next_place-place.result
    (pool g (goal.at.add_dense-requires-clause-ready g c).After-next_place-place)

pub add_dense-requires-clause-free : goal.add_dense-requires-clause-free
add_dense-requires-clause-free g c =
    add_dense_free _ _ c.next_place-place.new.free.items _ _ _ c.next_place-place.result
    (pool g (goal.at.add_dense-requires-clause-free g c).After-next_place-place)

pub invariant_of-self : goal.invariant_of-self
invariant_of-self g c =
    let inside = c.self.inside in
    let v = inside.version in
    let p = c.next_place-place.result in
    let free = c.next_place-place.new.free.items in
    let t = c.args.t in
    let slots = c.next_place-place.new.slots.items in
    let here = (goal.at.invariant_of-self g c).After-next_place-place in
    let kept = add_kept v slots free inside.by_deadline inside.by_latest inside.by_density p (pool g here) t
    c.add_dense.new.heap c.add_dense.ensures.in_it in
    let due_is = c.insert.ensures.in_it
    ∙ ap (λ (i : ItemFacts). set inside.by_deadline i.place (Some i)) c.due_item-due.ensures in
    let latest_is = c.insert-2.ensures.in_it
    ∙ ap (λ (i : ItemFacts). set inside.by_latest i.place (Some i)) c.latest_item-latest.ensures in
    let dense_is = c.add_dense.ensures.in_it in (
      subst (λ s. IsPool v s free c.insert.new.self c.insert-2.new.self c.add_dense.new.heap)
          (sym c.put_at.ensures.items)
          (subst (λ d. IsPool v (set slots p (Some t)) free d c.insert-2.new.self c.add_dense.new.heap) (sym due_is)
          (subst (λ l. IsPool v (set slots p (Some t)) free
          (set inside.by_deadline p (Some (due_item v p (entry_of t)))) l c.add_dense.new.heap) (sym latest_is)
          kept)),
      record {
        opened = omega (arith, fits g here, ap (λ l. length l) c.put_at.ensures.items, same_length slots p (Some t));
        most = c.self.invariant.1.most;
        slots_fit = omega (
          arith,
          c.self.invariant.1.slots_fit,
          c.put_at.ensures.capacity,
          c.next_place-place.ensures.slots,
        );
        free_fit = omega (arith, c.self.invariant.1.free_fit, c.next_place-place.ensures.free);
        due_fit = omega (
          arith,
          c.self.invariant.1.due_fit,
          ap (λ l. length l) due_is,
          same_length inside.by_deadline p (Some (due_item v p (entry_of t))),
        );
        latest_fit = omega (
          arith,
          c.self.invariant.1.latest_fit,
          ap (λ l. length l) latest_is,
          same_length inside.by_latest p (Some (latest_item v p (entry_of t))),
        );
        dense_fit = λ by. omega (
          arith,
          c.self.invariant.1.dense_fit by,
          ap (λ l. length l) (dense_is by),
          same_length inside.by_density p (item_by_density p t),
        );
      },
    )

pub returns-clause-more : goal.returns-clause-more
returns-clause-more g c =
    let slots = c.next_place-place.new.slots.items in
    subst (λ (q : Pooled). IsReordered (c.args.t ∷ q.tasks) (jobs_at c.put_at.new.slots.items)) c.self.view_is
    (subst (λ l. IsReordered (c.args.t ∷ l) (jobs_at c.put_at.new.slots.items)) c.next_place-place.ensures.jobs
    (subst (λ l. IsReordered (c.args.t ∷ jobs_at slots) (jobs_at l)) (sym c.put_at.ensures.items)
    (jobs_in slots c.next_place-place.result c.args.t
    (add_free _ _ _ _ _ _ _ (pool g (goal.at.returns-clause-more g c).After-next_place-place)))))

pub returns-clause-count : goal.returns-clause-count
returns-clause-count g c d size =
    let stands = pool g (goal.at.returns-clause-count g c).After-next_place-place in
    let few = subst (λ (q : Pooled). length q.tasks + 1 < 2 ^ d) (sym c.self.view_is) size in
    let jobs = ap (λ ts. length ts) c.next_place-place.ensures.jobs in
    let due = add_due_count _ _ c.next_place-place.new.free.items _ _ _ c.next_place-place.result stands in
    let latest = add_latest_count _ _ c.next_place-place.new.free.items _ _ _ c.next_place-place.result stands in
    let dense = add_dense_count _ _ c.next_place-place.new.free.items _ _ _ c.next_place-place.result stands in
    subst (λ (q : Pooled). c.add_dense.new.comparisons ≤ c.args.comparisons.now + orders_of q.version * d)
    c.self.view_is
    (omega (
      arith,
      c.insert.ensures.count d (omega (arith, due, few, jobs)),
      c.insert-2.ensures.count d (omega (arith, latest, few, jobs)),
      c.add_dense.ensures.count d (omega (arith, dense, few, jobs)),
    ))
