use Rattle.std.proofs.Common.{◌-◌, None, refl, sym, ap, subst, length, length-append, replicate, arith, Option}
use Rattle.std.proofs.lemmas.List.{length-replicate}
use Rattle.place_heap.specs.Items.{ItemFacts}
use Rattle.waiting_pool.specs.Pools.{HasItems, item_by_deadline, item_by_latest, item_by_density}
use Rattle.waiting_pool.proofs.Pooling.{not_ok, table_grows, no_shorter, moved, still_fits}
use Rattle.waiting_pool.proofs.pool.reserve_places.Goals as goal

pub returns-in_err-reserve-clause-keeps : goal.returns-in_err-reserve-clause-keeps
returns-in_err-reserve-clause-keeps c room pool fits = (
  moved c.args.version _ _ _ _ _ _ _ _ _ _ c.reserve.ensures.items refl pool.due pool.latest pool.dense pool,
  still_fits c.args.version room _ _ _ _ _ _ _ _ _ _ _ _ fits (ap (λ l. length l) c.reserve.ensures.items)
      c.reserve.ensures.capacity (omega arith) (omega arith)
      (omega arith) (omega arith),
)

pub returns-in_err-reserve-2-clause-keeps : goal.returns-in_err-reserve-2-clause-keeps
returns-in_err-reserve-2-clause-keeps c room pool fits = (
  moved c.args.version _ _ _ _ _ _ _ _ _ _ c.reserve.ensures.items c.reserve-2.ensures.items pool.due pool.latest
      pool.dense pool,
  still_fits c.args.version room _ _ _ _ _ _ _ _ _ _ _ _ fits (ap (λ l. length l) c.reserve.ensures.items)
      c.reserve.ensures.capacity c.reserve-2.ensures.capacity
      (omega arith) (omega arith) (omega arith),
)

pub returns-in_err-reserve-3-clause-keeps : goal.returns-in_err-reserve-3-clause-keeps
returns-in_err-reserve-3-clause-keeps c room pool fits = (
  moved c.args.version _ _ _ _ _ _ _ _ _ _ c.reserve.ensures.items c.reserve-2.ensures.items
      (subst (HasItems (item_by_deadline c.args.version) c.args.slots.now.items) (sym c.in_err-reserve-3.ensures.err)
      pool.due)
      pool.latest pool.dense pool,
  still_fits c.args.version room _ _ _ _ _ _ _ _ _ _ _ _ fits (ap (λ l. length l) c.reserve.ensures.items)
      c.reserve.ensures.capacity c.reserve-2.ensures.capacity
      (omega (arith, ap (λ l. length l) c.in_err-reserve-3.ensures.err))
      (omega arith) (omega arith),
)

pub returns-in_err-reserve-4-clause-keeps : goal.returns-in_err-reserve-4-clause-keeps
returns-in_err-reserve-4-clause-keeps c room pool fits = (
  moved c.args.version _ _ _ _ _ _ _ _ _ _ c.reserve.ensures.items c.reserve-2.ensures.items
      (table_grows (item_by_deadline c.args.version) c.args.slots.now.items c.args.by_deadline.now c.reserve-3.new.self
      (c.args.places - length c.args.by_deadline.now) pool.due c.in_ok-reserve-3.ensures.ok)
      (subst (HasItems (item_by_latest c.args.version) c.args.slots.now.items) (sym c.in_err-reserve-4.ensures.err)
      pool.latest)
      pool.dense pool,
  still_fits c.args.version room _ _ _ _ _ _ _ _ _ _ _ _ fits (ap (λ l. length l) c.reserve.ensures.items)
      c.reserve.ensures.capacity c.reserve-2.ensures.capacity
      (no_shorter c.args.by_deadline.now c.reserve-3.new.self (c.args.places - length c.args.by_deadline.now)
      c.in_ok-reserve-3.ensures.ok)
      (omega (arith, ap (λ l. length l) c.in_err-reserve-4.ensures.err)) (omega arith),
)

pub returns-in_err-reserve_dense-clause-keeps : goal.returns-in_err-reserve_dense-clause-keeps
returns-in_err-reserve_dense-clause-keeps c room pool fits = (
  moved c.args.version _ _ _ _ _ _ _ _ _ _ c.reserve.ensures.items c.reserve-2.ensures.items
      (table_grows (item_by_deadline c.args.version) c.args.slots.now.items c.args.by_deadline.now c.reserve-3.new.self
      (c.args.places - length c.args.by_deadline.now) pool.due c.in_ok-reserve-3.ensures.ok)
      (table_grows (item_by_latest c.args.version) c.args.slots.now.items c.args.by_latest.now c.reserve-4.new.self
      (c.args.places - length c.args.by_latest.now) pool.latest c.in_ok-reserve-4.ensures.ok)
      (λ by. table_grows item_by_density c.args.slots.now.items c.args.dense.now c.reserve_dense.new.heap
      c.reserve_dense.ensures.grows.0 (pool.dense by) c.reserve_dense.ensures.grows.1) pool,
  still_fits c.args.version room _ _ _ _ _ _ _ _ _ _ _ _ fits (ap (λ l. length l) c.reserve.ensures.items)
      c.reserve.ensures.capacity c.reserve-2.ensures.capacity
      (no_shorter c.args.by_deadline.now c.reserve-3.new.self (c.args.places - length c.args.by_deadline.now)
      c.in_ok-reserve-3.ensures.ok)
      (no_shorter c.args.by_latest.now c.reserve-4.new.self (c.args.places - length c.args.by_latest.now)
      c.in_ok-reserve-4.ensures.ok)
      (no_shorter c.args.dense.now c.reserve_dense.new.heap c.reserve_dense.ensures.grows.0
      c.reserve_dense.ensures.grows.1),
)

pub returns-clause-keeps : goal.returns-clause-keeps
returns-clause-keeps c room pool fits = (
  moved c.args.version _ _ _ _ _ _ _ _ _ _ c.reserve.ensures.items c.reserve-2.ensures.items
      (table_grows (item_by_deadline c.args.version) c.args.slots.now.items c.args.by_deadline.now c.reserve-3.new.self
      (c.args.places - length c.args.by_deadline.now) pool.due c.in_ok-reserve-3.ensures.ok)
      (table_grows (item_by_latest c.args.version) c.args.slots.now.items c.args.by_latest.now c.reserve-4.new.self
      (c.args.places - length c.args.by_latest.now) pool.latest c.in_ok-reserve-4.ensures.ok)
      (λ by. table_grows item_by_density c.args.slots.now.items c.args.dense.now c.reserve_dense.new.heap
      c.reserve_dense.ensures.grows.0 (pool.dense by) c.reserve_dense.ensures.grows.1) pool,
  still_fits c.args.version room _ _ _ _ _ _ _ _ _ _ _ _ fits (ap (λ l. length l) c.reserve.ensures.items)
      c.reserve.ensures.capacity c.reserve-2.ensures.capacity
      (no_shorter c.args.by_deadline.now c.reserve-3.new.self (c.args.places - length c.args.by_deadline.now)
      c.in_ok-reserve-3.ensures.ok)
      (no_shorter c.args.by_latest.now c.reserve-4.new.self (c.args.places - length c.args.by_latest.now)
      c.in_ok-reserve-4.ensures.ok)
      (no_shorter c.args.dense.now c.reserve_dense.new.heap c.reserve_dense.ensures.grows.0
      c.reserve_dense.ensures.grows.1),
)

pub returns-clause-fits : goal.returns-clause-fits
returns-clause-fits c = record {
  opened = omega (arith, c.requires.opened, ap (λ l. length l) c.reserve.ensures.items);
  most = c.requires.most;
  slots_fit = omega (arith, c.requires.opened, c.in_ok-reserve.ensures.ok, c.args.slots.now.ok.0);
  free_fit = omega (arith, c.requires.free, c.in_ok-reserve-2.ensures.ok, c.args.free.now.ok.0);
  due_fit = omega (
    arith,
    ap (λ l. length l) c.in_ok-reserve-3.ensures.ok,
    length-append c.args.by_deadline.now
        (replicate {A = Option ItemFacts} (c.args.places - length c.args.by_deadline.now) None),
    length-replicate {A = Option ItemFacts} (c.args.places - length c.args.by_deadline.now) None,
  );
  latest_fit = omega (
    arith,
    ap (λ l. length l) c.in_ok-reserve-4.ensures.ok,
    length-append c.args.by_latest.now
        (replicate {A = Option ItemFacts} (c.args.places - length c.args.by_latest.now) None),
    length-replicate {A = Option ItemFacts} (c.args.places - length c.args.by_latest.now) None,
  );
  dense_fit = c.in_ok-reserve_dense.ensures.fits;
}

pub returns-clause-same : goal.returns-clause-same
returns-clause-same c = c.reserve.ensures.items

pub returns-in_err-reserve-clause-same : goal.returns-in_err-reserve-clause-same
returns-in_err-reserve-clause-same c = c.reserve.ensures.items

pub returns-in_err-reserve-2-clause-same : goal.returns-in_err-reserve-2-clause-same
returns-in_err-reserve-2-clause-same c = c.reserve.ensures.items

pub returns-in_err-reserve-3-clause-same : goal.returns-in_err-reserve-3-clause-same
returns-in_err-reserve-3-clause-same c = c.reserve.ensures.items

pub returns-in_err-reserve-4-clause-same : goal.returns-in_err-reserve-4-clause-same
returns-in_err-reserve-4-clause-same c = c.reserve.ensures.items

pub returns-in_err-reserve-clause-fits : goal.returns-in_err-reserve-clause-fits
returns-in_err-reserve-clause-fits c = not_ok _ c.from_residual.result c.from_residual.ensures.0

pub returns-in_err-reserve-2-clause-fits : goal.returns-in_err-reserve-2-clause-fits
returns-in_err-reserve-2-clause-fits c =
    not_ok _ c.from_residual-in_err-reserve-2.result c.from_residual-in_err-reserve-2.ensures.0

pub returns-in_err-reserve-3-clause-fits : goal.returns-in_err-reserve-3-clause-fits
returns-in_err-reserve-3-clause-fits c =
    not_ok _ c.from_residual-in_err-reserve-3.result c.from_residual-in_err-reserve-3.ensures.0

pub returns-in_err-reserve-4-clause-fits : goal.returns-in_err-reserve-4-clause-fits
returns-in_err-reserve-4-clause-fits c =
    not_ok _ c.from_residual-in_err-reserve-4.result c.from_residual-in_err-reserve-4.ensures.0

pub returns-in_err-reserve_dense-clause-same : goal.returns-in_err-reserve_dense-clause-same
returns-in_err-reserve_dense-clause-same c = c.reserve.ensures.items

pub returns-in_err-reserve_dense-clause-fits : goal.returns-in_err-reserve_dense-clause-fits
returns-in_err-reserve_dense-clause-fits c =
    not_ok _ c.from_residual-in_err-reserve_dense.result c.from_residual-in_err-reserve_dense.ensures.0
