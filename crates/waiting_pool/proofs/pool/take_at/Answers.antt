use Rattle.std.proofs.Common.{◌∷◌, [], ◌++◌, Some, None, sym, ap, ◌∙◌, subst, set, length, arith}
use Rattle.waiting_pool.specs.Reordered.{IsReordered}
use Rattle.waiting_pool.specs.Pools.{IsPool, jobs_at}
use Rattle.waiting_pool.proofs.Places.{within, same_length, jobs_out}
use Rattle.waiting_pool.proofs.Pooling.{left_room, left_kept, left_due_count}
use Rattle.waiting_pool.proofs.Pooling.{left_latest_count, left_dense_count}
use Rattle.waiting_pool.proofs.pool.take_at.Goals as goal

pub clear_at-requires : goal.clear_at-requires
clear_at-requires g c = within c.args.slots.now.items c.args.place (Some c.requires.some.0) c.requires.some.1

pub push_reserved-requires : goal.push_reserved-requires
push_reserved-requires g c =
    let room = left_room _ _ _ _ _ _ _ c.requires.pool _ c.requires.some.1 in
    omega (arith, room, c.requires.room, c.args.slots.now.ok.0, c.args.free.now.ok.0)

pub returns-clause-rest : goal.returns-clause-rest
returns-clause-rest g c t is =
    subst (λ l. IsReordered (jobs_at c.args.slots.now.items) (t ∷ jobs_at l)) (sym c.clear_at.ensures.items)
    (jobs_out c.args.slots.now.items c.args.place t is)

pub returns-clause-pool : goal.returns-clause-pool
returns-clause-pool g c =
    let v = c.args.version in
    let slots = set c.args.slots.now.items c.args.place None in
    let free = c.args.free.now.items ++ c.args.place ∷ [] in
    subst (λ s. IsPool v s c.push_reserved.new.self.items c.remove.new.self c.remove-2.new.self c.remove_dense.new.heap)
    (sym c.clear_at.ensures.items)
    (subst (λ f. IsPool v slots f c.remove.new.self c.remove-2.new.self c.remove_dense.new.heap)
    (sym c.push_reserved.ensures.items)
    (subst (λ d. IsPool v slots free d c.remove-2.new.self c.remove_dense.new.heap) (sym c.remove.ensures.out)
    (subst (λ l. IsPool v slots free (set c.args.by_deadline.now c.args.place None) l c.remove_dense.new.heap)
    (sym c.remove-2.ensures.out)
    (left_kept _ _ _ _ _ _ _ c.requires.pool _ c.requires.some.1 c.remove_dense.new.heap c.remove_dense.ensures.out))))

pub returns-clause-due : goal.returns-clause-due
returns-clause-due g c = ap (λ l. length l) c.remove.ensures.out ∙ same_length c.args.by_deadline.now c.args.place None

pub returns-clause-latest : goal.returns-clause-latest
returns-clause-latest g c =
    ap (λ l. length l) c.remove-2.ensures.out ∙ same_length c.args.by_latest.now c.args.place None

pub returns-clause-dense : goal.returns-clause-dense
returns-clause-dense g c by =
    ap (λ l. length l) (c.remove_dense.ensures.out by) ∙ same_length c.args.dense.now c.args.place None

pub returns-clause-count : goal.returns-clause-count
returns-clause-count g c d fits =
    let due = left_due_count _ _ _ _ _ _ _ c.requires.pool _ c.requires.some.1 in
    let latest = left_latest_count _ _ _ _ _ _ _ c.requires.pool _ c.requires.some.1 in
    let dense = left_dense_count _ _ _ _ _ _ _ c.requires.pool _ c.requires.some.1 in
    omega (
      arith,
      c.remove.ensures.count d (omega (arith, due, fits)),
      c.remove-2.ensures.count d (omega (arith, latest, fits)),
      c.remove_dense.ensures.count d (λ by. omega (arith, dense by, fits)),
    )
