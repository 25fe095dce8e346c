use Rattle.std.proofs.Common.{◌+◌, ◌*◌, ◌≤◌, ◌^◌, ◌<◌, ◌∷◌, [], ◌++◌, map, reverse, length, Some, sym, ap, ◌∙◌, subst}
use Rattle.std.proofs.Common.{arith}
use Rattle.std.proofs.Common.{vec_capacity}
use Rattle.std.proofs.lemmas.List.{length-map, length-reverse}
use Rattle.dover_model.specs.declared.events.Task.{Task}
use Rattle.dover_model.specs.Common.{entry_of, starts_before, first}
use Rattle.ready_jobs.specs.Changed.{made_wait}
use Rattle.waiting_pool.specs.Reordered.{IsReordered}
use Rattle.waiting_pool.specs.Pools.{Pooled, orders_of}
use Rattle.ready_jobs.specs.Parts.{Parted, AreParts, AreSound, ready_of}
use Rattle.ready_jobs.specs.Kept.{parted_of}
use Rattle.waiting_pool.specs.Short.{no_number}
use Rattle.ready_jobs.proofs.Keeping.{taken_kept, running_small, small_held, all_fit, some_busy}
use Rattle.ready_jobs.proofs.Displacing.{taken_order, take_counted}
use Rattle.waiting_pool.proofs.Reordering.{as_many}
use Rattle.ready_jobs.proofs.parts.Parts.take.Goals as goal

pub take_latest-requires-clause-modest : goal.take_latest-requires-clause-modest
take_latest-requires-clause-modest g c = (subst AreSound (sym c.self.view_is) c.requires.sound).modest

pub add-requires-clause-room : goal.add-requires-clause-room
add-requires-clause-room g c =
    let inside = c.self.inside in
    let p = parted_of inside in
    let runs = ap (λ (q : Parted). q.running) c.self.view_is ∙ c.requires.running in
    let late = ap (λ (q : Parted). first (starts_before q.version) q.waiting) c.self.view_is ∙ c.requires.late in
    let out = c.take_latest.ensures.rest c.args.x.now late in
    omega (
      arith,
      all_fit p inside.rooms inside.pool (vec_capacity inside.held) c.self.invariant c.args.r.now runs,
      c.self.invariant.pool_room,
      as_many p.waiting (c.args.x.now ∷ c.take_latest.new.self.tasks) out,
      ap (λ (q : Pooled). q.room) c.take_latest.ensures.kept,
    )

pub add-requires-clause-number : goal.add-requires-clause-number
add-requires-clause-number g c =
    let inside = c.self.inside in
    let runs = ap (λ (q : Parted). q.running) c.self.view_is ∙ c.requires.running in
    subst (λ (t : Task). t.number < no_number) (sym c.in_role.ensures)
    (running_small _ _ _ _ c.self.invariant _ runs)

pub displace-requires-clause-room : goal.displace-requires-clause-room
displace-requires-clause-room g c =
    let inside = c.self.inside in
    let p = parted_of inside in
    let runs = ap (λ (q : Parted). q.running) c.self.view_is ∙ c.requires.running in
    let late = ap (λ (q : Parted). first (starts_before q.version) q.waiting) c.self.view_is ∙ c.requires.late in
    let out = c.take_latest.ensures.rest c.args.x.now late in
    omega (
      arith,
      all_fit p inside.rooms inside.pool (vec_capacity inside.held) c.self.invariant c.args.r.now runs,
      length-reverse inside.held.items,
      c.self.invariant.pool_room,
      as_many p.waiting (c.args.x.now ∷ c.take_latest.new.self.tasks) out,
      as_many (c.in_role.result ∷ c.take_latest.new.self.tasks) c.add.new.self.tasks c.add.ensures.more,
      ap (λ (q : Pooled). q.room) c.take_latest.ensures.kept,
      ap (λ (q : Pooled). q.room) c.add.ensures.kept,
    )

pub displace-requires-clause-numbers : goal.displace-requires-clause-numbers
displace-requires-clause-numbers g c =
    let inside = c.self.inside in
    small_held (parted_of inside) inside.rooms inside.pool (vec_capacity inside.held) c.self.invariant

pub invariant_of-self : goal.invariant_of-self
invariant_of-self g c =
    let inside = c.self.inside in
    let p = parted_of inside in
    let r = c.args.r.now in
    let x = c.args.x.now in
    let one = c.take_latest.new.self in
    let two = c.add.new.self in
    let three = c.displace.new.pool in
    let runs = ap (λ (q : Parted). q.running) c.self.view_is ∙ c.requires.running in
    let late = ap (λ (q : Parted). first (starts_before q.version) q.waiting) c.self.view_is ∙ c.requires.late in
    let out = c.take_latest.ensures.rest x late in
    let into = subst (λ t. IsReordered (t ∷ one.tasks) two.tasks) c.in_role.ensures c.add.ensures.more in
    let order = taken_order r x p.held p.waiting one.tasks two.tasks three.tasks out into c.displace.ensures.more in
    let version = ap (λ (q : Pooled). q.version) c.displace.ensures.kept
    ∙ ap (λ (q : Pooled). q.version) c.add.ensures.kept
    ∙ ap (λ (q : Pooled). q.version) c.take_latest.ensures.kept in
    let room = ap (λ (q : Pooled). q.room) c.displace.ensures.kept
    ∙ ap (λ (q : Pooled). q.room) c.add.ensures.kept
    ∙ ap (λ (q : Pooled). q.room) c.take_latest.ensures.kept in
    let spare = c.clear.ensures.spare (map entry_of p.held) c.self.invariant.held
    ∙ ap (λ n. inside.rooms.spare + n) (length-map p.held entry_of) in
    subst (λ v. AreParts (record p {
      version = v;
      running = Some c.in_role-2.result;
      held = reverse c.displace.new.held.items;
      waiting = three.tasks;
    }) c.clear.new.self three
    (vec_capacity c.displace.new.held)) (sym version)
    (subst (λ l. AreParts (record p { running = Some c.in_role-2.result; held = reverse l; waiting = three.tasks })
    c.clear.new.self three (vec_capacity c.displace.new.held)) (sym c.displace.ensures.none)
    (subst (λ t. AreParts (record p { running = Some t; held = []; waiting = three.tasks })
    c.clear.new.self three (vec_capacity c.displace.new.held)) (sym c.in_role-2.ensures)
    (taken_kept _ _ _ _ c.self.invariant _ _ runs _ order _ _ c.clear.ensures.kept spare room
    (omega (arith, c.self.invariant.stack_room, c.displace.ensures.capacity)))))

pub returns-clause-rest : goal.returns-clause-rest
returns-clause-rest g c =
    let p = parted_of c.self.inside in
    let r = c.args.r.now in
    let x = c.args.x.now in
    let one = c.take_latest.new.self in
    let two = c.add.new.self in
    let three = c.displace.new.pool in
    let late = ap (λ (q : Parted). first (starts_before q.version) q.waiting) c.self.view_is ∙ c.requires.late in
    let out = c.take_latest.ensures.rest x late in
    let into = subst (λ t. IsReordered (t ∷ one.tasks) two.tasks) c.in_role.ensures c.add.ensures.more in
    subst (λ (q : Parted). IsReordered (map made_wait (r ∷ q.held) ++ q.waiting) (x ∷ three.tasks)) c.self.view_is
    (taken_order r x p.held p.waiting one.tasks two.tasks three.tasks out into c.displace.ensures.more)

pub returns-clause-count : goal.returns-clause-count
returns-clause-count g c d fits =
    let inside = c.self.inside in
    let p = parted_of inside in
    let runs = ap (λ (q : Parted). q.running) c.self.view_is ∙ c.requires.running in
    let late = ap (λ (q : Parted). first (starts_before q.version) q.waiting) c.self.view_is ∙ c.requires.late in
    let out = c.take_latest.ensures.rest c.args.x.now late in
    let few = subst (λ (q : Parted). length (ready_of q) + 1 < 2 ^ d) (sym c.self.view_is) fits in
    let busy = some_busy p inside.rooms inside.pool (vec_capacity inside.held) c.self.invariant c.args.r.now runs in
    let less = as_many p.waiting (c.args.x.now ∷ c.take_latest.new.self.tasks) out in
    let more = as_many (c.in_role.result ∷ c.take_latest.new.self.tasks) c.add.new.self.tasks
    c.add.ensures.more in
    let one = ap (λ (q : Pooled). q.version) c.take_latest.ensures.kept in
    let two = ap (λ (q : Pooled). q.version) c.add.ensures.kept ∙ one in
    let held = c.args.self.now.held in
    subst (λ (q : Parted). c.displace.new.comparisons
    ≤ c.args.comparisons.now + orders_of q.version * d * (4 + length held)) c.self.view_is
    (take_counted (orders_of p.version) d _ _ _ _ _ _
    (sym (length-reverse inside.held.items) ∙ ap (λ (q : Parted). length q.held) c.self.view_is)
    (c.take_latest.ensures.count d (omega (arith, few, busy)))
    (subst (λ v. c.add.new.comparisons ≤ c.take_latest.new.comparisons + orders_of v * d) one
    (c.add.ensures.count d (omega (arith, few, busy, less))))
    (subst (λ v. c.displace.new.comparisons ≤ c.add.new.comparisons
    + orders_of v * d * length inside.held.items) two
    (c.displace.ensures.count d (omega (arith, few, busy, less, more, length-reverse inside.held.items)))))
