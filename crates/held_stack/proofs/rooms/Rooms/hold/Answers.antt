use Rattle.std.proofs.Common.{◌+◌, ◌-◌, ◌^◌, ◌<◌, ◌∷◌, reverse, refl, sym, subst}
use Rattle.held_stack.specs.Kept.{Lasting, AreRoomsOf}
use Rattle.held_stack.proofs.Holding.{held_more}
use Rattle.held_stack.proofs.rooms.Rooms.hold.Goals as goal

pub returns-clause-kept : goal.returns-clause-kept
returns-clause-kept c held are first =
    let inside = c.self.inside in
    let e = c.args.e.now in
    subst (λ l. AreRoomsOf (record { untils = reverse l; spare = inside.spare - 1; value = inside.value + e.value })
    (e ∷ held)) (sym c.push_reserved.ensures.items)
    (held_more inside.untils.items c.room_with-until.result (inside.spare - 1) _ e held refl
    (c.room_with-until.ensures held are first)
    (subst (λ (r : Lasting). AreRoomsOf r held) (sym c.self.view_is) are) first
    (subst (λ (r : Lasting). r.value + e.value < 10 ^ 18) (sym c.self.view_is) c.requires.total))
