use Rattle.std.proofs.Common.{◌≡◌, ◌∷◌, [], ◌++◌, Some, map, reverse, sym, ap, ◌∙◌, subst, arith, vec_capacity}
use Rattle.std.proofs.Common.{option_to_list}
use Rattle.std.proofs.lemmas.List.{reverse-append}
use Rattle.dover_model.specs.Entries.{entry_of}
use Rattle.held_stack.specs.Kept.{AreRoomsOf}
use Rattle.ready_jobs.specs.Parts.{Parted, AreParts}
use Rattle.ready_jobs.specs.Kept.{parted_of}
use Rattle.ready_jobs.proofs.Courses.{no_items}
use Rattle.ready_jobs.proofs.Keeping.{resumed_of, resumed_one, resumed_none, resumed_kept}
use Rattle.ready_jobs.proofs.parts.Parts.resume.Goals as goal

pub invariant_of-self : goal.invariant_of-self
invariant_of-self c =
    let inside = c.self.inside in
    let kept = c.self.invariant in
    let rest = c.pop.new.held.items in
    let h = c.in-Some.p in
    let items : inside.held.items ≡ rest ++ h ∷ [] = c.pop.ensures.items
    ∙ ap (λ o. rest ++ option_to_list o) c.in-Some.is in
    let held_is = ap reverse items ∙ reverse-append rest (h ∷ []) in
    let top = subst (λ l. AreRoomsOf inside.rooms (map entry_of l)) held_is kept.held in
    subst (λ t. AreParts (record (parted_of inside) { running = Some t; held = reverse rest }) c.release_one.new.self
    inside.pool (vec_capacity c.pop.new.held))
    (sym c.in_role.ensures)
    (resumed_kept _ _ _ _ kept _ _ _ _ (ap (λ (q : Parted). q.running) c.self.view_is ∙ c.requires) held_is
    (c.release_one.ensures.kept (entry_of h) (map entry_of (reverse rest)) top (sym c.value.ensures.is))
    c.release_one.ensures.spare (omega (arith, kept.stack_room, c.pop.ensures.capacity)))

pub returns-in-Some : goal.returns-in-Some
returns-in-Some c =
    let inside = c.self.inside in
    let rest = c.pop.new.held.items in
    let h = c.in-Some.p in
    let items : inside.held.items ≡ rest ++ h ∷ [] = c.pop.ensures.items
    ∙ ap (λ o. rest ++ option_to_list o) c.in-Some.is in
    let held_is = ap reverse items ∙ reverse-append rest (h ∷ []) in
    ap (λ t. record (parted_of inside) { running = Some t; held = reverse rest }) c.in_role.ensures
    ∙ resumed_one (parted_of inside) h (reverse rest) held_is
    ∙ ap resumed_of c.self.view_is

pub returns-in_default : goal.returns-in_default
returns-in_default c =
    let inside = c.self.inside in
    let none = no_items inside.held.items (omega (arith, c.in_default.ensures.cases.0, inside.held.ok.0)) in
    let left = no_items c.pop.new.held.items (omega (arith, c.in_default.ensures.cases.1, c.pop.new.held.ok.0)) in
    ap (λ l. record (parted_of inside) { held = reverse l }) (left ∙ sym none)
    ∙ resumed_none (parted_of inside) (ap (λ (q : Parted). q.running) c.self.view_is ∙ c.requires) (ap reverse none)
    ∙ ap resumed_of c.self.view_is

pub invariant_of-self-in_default : goal.invariant_of-self-in_default
invariant_of-self-in_default c =
    let inside = c.self.inside in
    let none = no_items inside.held.items (omega (arith, c.in_default.ensures.cases.0, inside.held.ok.0)) in
    let left = no_items c.pop.new.held.items (omega (arith, c.in_default.ensures.cases.1, c.pop.new.held.ok.0)) in
    subst (AreParts (record (parted_of inside) { held = reverse c.pop.new.held.items }) inside.rooms inside.pool)
    (sym c.pop.ensures.capacity)
    (subst (λ l. AreParts (record (parted_of inside) { held = reverse l }) inside.rooms inside.pool
    (vec_capacity inside.held)) (none ∙ sym left) c.self.invariant)
