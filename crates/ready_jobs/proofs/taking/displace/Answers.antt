use Rattle.std.proofs.Common.{◌+◌, ◌*◌, ◌≤◌, ◌<◌, ◌∷◌, ◌++◌, length, refl, sym, ap, ◌∙◌, subst, map, reverse, arith}
use Rattle.std.proofs.Common.{option_to_list}
use Rattle.dover_model.specs.declared.events.Task.{Task}
use Rattle.ready_jobs.specs.Changed.{made_wait}
use Rattle.waiting_pool.specs.Pools.{Pooled, orders_of}
use Rattle.waiting_pool.specs.Reordered.{IsReordered}
use Rattle.waiting_pool.specs.Short.{no_number}
use Rattle.ready_jobs.proofs.Courses.{no_items}
use Rattle.waiting_pool.proofs.Reordering.{same_order}
use Rattle.ready_jobs.proofs.Displacing.{one_displaced, one_fits, one_small, one_less, one_counted}
use Rattle.ready_jobs.proofs.taking.displace.Goals as goal

pub loop-t-init : goal.loop-t-init
loop-t-init g c = record {
  displaces = record {
    kept = refl;
    same = same_order _;
    numbers = c.requires.numbers;
    room = c.requires.room;
    sum = refl;
  };
  capacity = refl;
  count = λ d fits. omega arith;
}

pub loop-t-preserved : goal.loop-t-preserved
loop-t-preserved g c =
    let was = c.args.held.now.items in
    let is = c.loop-t.held.items in
    let rest = c.pop.new.held.items in
    let t = c.in-Some.t in
    let it = c.loop-t.invariant.displaces in
    let top = c.pop.ensures.items ∙ ap (λ o. rest ++ option_to_list o) c.in-Some.is in
    let more = subst (λ u. IsReordered (u ∷ c.loop-t.pool.tasks) c.add.new.self.tasks) c.in_role.ensures
    c.add.ensures.more in
    let fewer = one_less was is rest t c.args.pool.now c.loop-t.pool c.add.new.self it top in
    record {
      displaces = one_displaced _ _ _ _ _ _ _ it top c.add.ensures.kept more;
      capacity = c.pop.ensures.capacity ∙ c.loop-t.invariant.capacity;
      count = λ d fits.
          one_counted (orders_of c.args.pool.now.version) d c.loop-t.comparisons c.add.new.comparisons (length is)
          (length rest) (c.args.comparisons.now + orders_of c.args.pool.now.version * d * length was) fewer
          (subst (λ v. c.add.new.comparisons ≤ c.loop-t.comparisons + orders_of v * d)
          (ap (λ (q : Pooled). q.version) it.kept)
          (c.add.ensures.count d (omega (arith, fits, it.sum, fewer))))
          (c.loop-t.invariant.count d fits);
    }

pub add-requires-clause-room : goal.add-requires-clause-room
add-requires-clause-room g c =
    one_fits _ _ _ _ _ _ c.loop-t.pool c.loop-t.invariant.displaces
    (c.pop.ensures.items ∙ ap (λ o. c.pop.new.held.items ++ option_to_list o) c.in-Some.is)

pub add-requires-clause-number : goal.add-requires-clause-number
add-requires-clause-number g c =
    subst (λ (t : Task). t.number < no_number) (sym c.in_role.ensures)
    (one_small _ _ _ _ _ _ c.loop-t.pool c.loop-t.invariant.displaces
    (c.pop.ensures.items ∙ ap (λ o. c.pop.new.held.items ++ option_to_list o) c.in-Some.is))

pub returns-clause-none : goal.returns-clause-none
returns-clause-none g c =
    no_items c.pop.new.held.items (omega (arith, c.in_default.ensures.cases.1, c.pop.new.held.ok.0))

pub returns-clause-more : goal.returns-clause-more
returns-clause-more g c =
    let before = map made_wait (reverse c.args.held.now.items) ++ c.args.pool.now.tasks in
    subst (λ l. IsReordered before (map made_wait (reverse l) ++ c.loop-t.pool.tasks))
    (no_items c.loop-t.held.items (omega (arith, c.in_default.ensures.cases.0, c.loop-t.held.ok.0)))
    c.loop-t.invariant.displaces.same

pub returns-clause-count : goal.returns-clause-count
returns-clause-count g c d fits = omega (arith, c.loop-t.invariant.count d fits)
