use Rattle.std.proofs.Common.{reverse, sym, ap, ◌∙◌, subst, arith, map, vec_capacity}
use Rattle.std.proofs.lemmas.List.{length-reverse}
use Rattle.dover_model.specs.Entries.{entry_of}
use Rattle.held_stack.specs.Kept.{Lasting, AreRoomsOf}
use Rattle.held_stack.proofs.Holding.{spare_kept}
use Rattle.waiting_pool.specs.Pools.{Pooled}
use Rattle.ready_jobs.specs.Parts.{Parted, AreParts}
use Rattle.ready_jobs.specs.Kept.{parted_of}
use Rattle.dover_model.proofs.lists.Members.{err_any}
use Rattle.ready_jobs.proofs.Keeping.{held_fit, reserved_kept}
use Rattle.waiting_pool.proofs.Pooling.{not_ok}
use Rattle.ready_jobs.proofs.parts.Parts.reserve.Goals as goal

pub invariant_of-self-in_err-reserve-2 : goal.invariant_of-self-in_err-reserve-2
invariant_of-self-in_err-reserve-2 c =
    let inside = c.self.inside in
    let p = parted_of inside in
    let kept = c.self.invariant in
    subst (λ h. AreParts (record p { held = reverse h }) c.reserve-2.new.self inside.pool
    (vec_capacity c.reserve.new.self)) (sym c.reserve.ensures.items)
    (subst (λ r. AreParts p r inside.pool (vec_capacity c.reserve.new.self)) (sym c.in_err-reserve-2.ensures.err)
    (reserved_kept _ _ _ _ kept _ _ _ _ kept.held (omega arith) kept.most kept.pool_room kept.held_room
    (omega (arith, kept.stack_room, c.reserve.ensures.capacity))))

pub invariant_of-self-in_err-reserve-3 : goal.invariant_of-self-in_err-reserve-3
invariant_of-self-in_err-reserve-3 c =
    let inside = c.self.inside in
    let p = parted_of inside in
    let kept = c.self.invariant in
    let rooms = c.reserve-2.new.self in
    let pool = c.reserve-3.new.self in
    subst (λ h. AreParts (record p { version = pool.version; held = reverse h; waiting = pool.tasks }) rooms pool
    (vec_capacity c.reserve.new.self))
    (sym c.reserve.ensures.items)
    (subst (λ v. AreParts (record p { version = v; waiting = pool.tasks }) rooms pool (vec_capacity c.reserve.new.self))
    (sym (ap (λ (q : Pooled). q.version) c.reserve-3.ensures.kept))
    (subst (λ ts. AreParts (record p { waiting = ts }) rooms pool (vec_capacity c.reserve.new.self))
    (sym c.reserve-3.ensures.same)
    (reserved_kept p inside.rooms inside.pool (vec_capacity inside.held) kept inside.room
    (vec_capacity c.reserve.new.self) rooms pool
    (subst (λ r. AreRoomsOf r (map entry_of p.held)) (sym c.in_ok-reserve-2.ensures.ok)
    (spare_kept inside.rooms (map entry_of p.held) _ kept.held))
    (omega arith) kept.most (omega (arith, kept.pool_room, c.in_err-reserve-3.ensures.err))
    (omega (arith, kept.held_room, ap (λ (s : Lasting). s.spare) c.in_ok-reserve-2.ensures.ok))
    (omega (arith, kept.stack_room, c.reserve.ensures.capacity)))))

pub invariant_of-self-2 : goal.invariant_of-self-2
invariant_of-self-2 c =
    let inside = c.self.inside in
    let p = parted_of inside in
    let kept = c.self.invariant in
    let rooms = c.reserve-2.new.self in
    let pool = c.reserve-3.new.self in
    subst (λ h. AreParts (record p
    { version = pool.version; held = reverse h; waiting = pool.tasks; room = c.args.room }) rooms pool
    (vec_capacity c.reserve.new.self))
    (sym c.reserve.ensures.items)
    (subst (λ v. AreParts (record p { version = v; waiting = pool.tasks; room = c.args.room }) rooms pool
    (vec_capacity c.reserve.new.self))
    (sym (ap (λ (q : Pooled). q.version) c.reserve-3.ensures.kept))
    (subst (λ ts. AreParts (record p { waiting = ts; room = c.args.room }) rooms pool (vec_capacity c.reserve.new.self))
    (sym c.reserve-3.ensures.same)
    (reserved_kept p inside.rooms inside.pool (vec_capacity inside.held) kept c.args.room
    (vec_capacity c.reserve.new.self) rooms pool
    (subst (λ r. AreRoomsOf r (map entry_of p.held)) (sym c.in_ok-reserve-2.ensures.ok)
    (spare_kept inside.rooms (map entry_of p.held) _ kept.held))
    (omega (arith, c.if-room-self.false)) c.requires (omega (arith, c.in_ok-reserve-3.ensures.ok))
    (omega (
      arith,
      ap (λ (s : Lasting). s.spare) c.in_ok-reserve-2.ensures.ok,
      length-reverse inside.held.items,
      inside.held.ok.0,
      c.len-held.ensures,
    ))
    (omega (arith, c.in_ok-reserve.ensures.ok, inside.held.ok.0)))))

pub overflow_cast-held : goal.overflow_cast-held
overflow_cast-held c =
    omega (
      arith,
      held_fit _ _ _ _ c.self.invariant,
      length-reverse c.self.inside.held.items,
      c.self.inside.held.ok.0,
      c.len-held.ensures,
      c.self.invariant.most,
    )

pub overflow_sub-room : goal.overflow_sub-room
overflow_sub-room c =
    omega (
      arith,
      held_fit _ _ _ _ c.self.invariant,
      length-reverse c.self.inside.held.items,
      c.self.inside.held.ok.0,
      c.len-held.ensures,
      c.if-room-self.false,
    )

pub overflow_sub-room-2 : goal.overflow_sub-room-2
overflow_sub-room-2 c =
    omega (
      arith,
      held_fit _ _ _ _ c.self.invariant,
      length-reverse c.self.inside.held.items,
      c.self.inside.held.ok.0,
      c.len-held.ensures,
      c.if-room-self.false,
    )

pub invariant_of-self : goal.invariant_of-self
invariant_of-self c =
    let inside = c.self.inside in
    let p = parted_of inside in
    let kept = c.self.invariant in
    subst (λ h. AreParts (record p { held = reverse h }) inside.rooms inside.pool (vec_capacity c.reserve.new.self))
    (sym c.reserve.ensures.items)
    (reserved_kept p inside.rooms inside.pool (vec_capacity inside.held) kept inside.room
    (vec_capacity c.reserve.new.self) inside.rooms inside.pool kept.held (omega arith) kept.most kept.pool_room
    kept.held_room (omega (arith, kept.stack_room, c.reserve.ensures.capacity)))

pub returns-clause-same : goal.returns-clause-same
returns-clause-same c = c.reserve-3.ensures.same ∙ ap (λ (q : Parted). q.waiting) c.self.view_is

pub returns-in_err-reserve-3-clause-same : goal.returns-in_err-reserve-3-clause-same
returns-in_err-reserve-3-clause-same c = c.reserve-3.ensures.same ∙ ap (λ (q : Parted). q.waiting) c.self.view_is

pub returns-in_err-reserve-2-clause-same : goal.returns-in_err-reserve-2-clause-same
returns-in_err-reserve-2-clause-same c = ap (λ (q : Parted). q.waiting) c.self.view_is

pub returns-in_err-reserve-clause-same : goal.returns-in_err-reserve-clause-same
returns-in_err-reserve-clause-same c = ap (λ (q : Parted). q.waiting) c.self.view_is

pub returns-in_err-reserve-clause-err : goal.returns-in_err-reserve-clause-err
returns-in_err-reserve-clause-err c = err_any c.from_residual.result (ap (λ (q : Parted). q.room) c.self.view_is)

pub returns-in_err-reserve-2-clause-err : goal.returns-in_err-reserve-2-clause-err
returns-in_err-reserve-2-clause-err c =
    err_any c.from_residual-in_err-reserve-2.result (ap (λ (q : Parted). q.room) c.self.view_is)

pub returns-in_err-reserve-3-clause-err : goal.returns-in_err-reserve-3-clause-err
returns-in_err-reserve-3-clause-err c =
    err_any c.from_residual-in_err-reserve-3.result (ap (λ (q : Parted). q.room) c.self.view_is)

pub returns-in_err-reserve-clause-ok : goal.returns-in_err-reserve-clause-ok
returns-in_err-reserve-clause-ok c = not_ok _ c.from_residual.result c.from_residual.ensures.0

pub returns-in_err-reserve-2-clause-ok : goal.returns-in_err-reserve-2-clause-ok
returns-in_err-reserve-2-clause-ok c =
    not_ok _ c.from_residual-in_err-reserve-2.result c.from_residual-in_err-reserve-2.ensures.0

pub returns-in_err-reserve-3-clause-ok : goal.returns-in_err-reserve-3-clause-ok
returns-in_err-reserve-3-clause-ok c =
    not_ok _ c.from_residual-in_err-reserve-3.result c.from_residual-in_err-reserve-3.ensures.0
