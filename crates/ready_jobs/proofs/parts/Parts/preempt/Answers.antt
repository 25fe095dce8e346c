use Rattle.std.proofs.Common.{inl, ◌^◌, ◌<◌, ◌∷◌, [], ◌++◌, reverse, Some, None, refl, ◌+◌, map, sym, ap, ◌∙◌, subst}
use Rattle.std.proofs.Common.{arith, vec_capacity, option_to_list}
use Rattle.std.proofs.lemmas.List.{reverse-append, length-reverse}
use Rattle.std.proofs.lemmas.List.Sums.{sum_by-cons}
use Rattle.dover_model.specs.declared.events.Task.{Task}
use Rattle.dover_model.specs.declared.events.Entry.{Entry}
use Rattle.dover_model.specs.declared.events.Role.TheVariants.{Held}
use Rattle.dover_model.specs.Common.{entry_of, value_sum, with_role, IsMember}
use Rattle.dover_model.proofs.lists.Members.{on_map, sum_map}
use Rattle.held_stack.specs.Stack.{IsDueBeforeTop}
use Rattle.held_stack.specs.Kept.{AreRoomsOf}
use Rattle.held_stack.proofs.Holding.{before_top}
use Rattle.ready_jobs.specs.Parts.{Parted, AreParts, AreSound}
use Rattle.ready_jobs.specs.Kept.{parted_of}
use Rattle.ready_jobs.proofs.Keeping.{busy_two, preempted_kept}
use Rattle.ready_jobs.proofs.parts.Parts.preempt.Goals as goal

pub hold-requires-clause-spare : goal.hold-requires-clause-spare
hold-requires-clause-spare c =
    let inside = c.self.inside in
    let p = parted_of inside in
    let kept = c.self.invariant in
    let two = busy_two _ _ _ _ kept _ _ (ap (λ (q : Parted). q.running) c.self.view_is ∙ c.requires.running)
    (ap (λ (q : Parted). q.fresh) c.self.view_is ∙ c.requires.fresh) in
    omega (arith, two, kept.held_room)

pub hold-requires-clause-total : goal.hold-requires-clause-total
hold-requires-clause-total c =
    let inside = c.self.inside in
    let p = parted_of inside in
    let sound : AreSound p = subst AreSound (sym c.self.view_is) c.requires.sound in
    let runs = ap (λ (q : Parted). q.running) c.self.view_is ∙ c.requires.running in
    let total : value_sum (c.args.r.now ∷ p.held) < 10 ^ 18 =
    subst (λ o. value_sum (option_to_list o ++ p.held) < 10 ^ 18) runs sound.total in
    subst (λ (e : Entry). inside.rooms.value + e.value < 10 ^ 18) (sym c.entry_of.ensures)
    (omega (
      arith,
      total,
      c.self.invariant.held.sum,
      sum_map entry_of (λ e. e.value) p.held,
      sum_by-cons (λ (t : Task). t.job.value) c.args.r.now p.held,
    ))

pub push-requires : goal.push-requires
push-requires c =
    let inside = c.self.inside in
    let p = parted_of inside in
    let kept = c.self.invariant in
    let two = busy_two _ _ _ _ kept _ _ (ap (λ (q : Parted). q.running) c.self.view_is ∙ c.requires.running)
    (ap (λ (q : Parted). q.fresh) c.self.view_is ∙ c.requires.fresh) in
    omega (arith, two, kept.stack_room, length-reverse inside.held.items, inside.held.ok.0)

pub invariant_of-self : goal.invariant_of-self
invariant_of-self c =
    let inside = c.self.inside in
    let p = parted_of inside in
    let runs = ap (λ (q : Parted). q.running) c.self.view_is ∙ c.requires.running in
    let fresh = ap (λ (q : Parted). q.fresh) c.self.view_is ∙ c.requires.fresh in
    let sound : AreSound p = subst AreSound (sym c.self.view_is) c.requires.sound in
    let first = before_top (entry_of c.args.r.now) (map entry_of p.held)
    (on_map entry_of (λ f. c.args.r.now.job.deadline < f.deadline) p.held
    (sound.first c.args.r.now (subst (λ o. IsMember c.args.r.now (option_to_list o)) (sym runs) (inl refl)))) in
    let more_are = subst (λ e. AreRoomsOf c.hold.new.self (e ∷ map entry_of p.held)) c.entry_of.ensures
    (c.hold.ensures.kept (map entry_of p.held) c.self.invariant.held
    (subst (λ e. IsDueBeforeTop e (map entry_of p.held)) (sym c.entry_of.ensures) first)) in
    let kept = preempted_kept _ _ _ _ c.self.invariant _ _ _ _ runs fresh more_are c.hold.ensures.spare
    (omega (arith, c.self.invariant.stack_room, c.push.ensures.capacity)) in
    let held_is = ap reverse c.push.ensures.items ∙ reverse-append inside.held.items (c.in_role.result ∷ [])
    ∙ ap (λ t. t ∷ reverse inside.held.items) c.in_role.ensures in
    subst (λ l. AreParts (record p { running = Some c.in_role-2.result; fresh = None; held = l }) c.hold.new.self
    inside.pool (vec_capacity c.push.new.held))
    (sym held_is)
    (subst (λ t. AreParts (record p { running = Some t; fresh = None; held = with_role c.args.r.now Held ∷ p.held })
    c.hold.new.self inside.pool
    (vec_capacity c.push.new.held)) (sym c.in_role-2.ensures) kept)
