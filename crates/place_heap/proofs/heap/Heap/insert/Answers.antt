use Rattle.std.proofs.Common.{◌≡◌, ◌∙◌, None, length, get_or, ap, arith}
use Rattle.place_heap.specs.Table.{table_of}
use Rattle.place_heap.proofs.Keeping.{room_kept}
use Rattle.place_heap.proofs.heap.Heap.insert.Goals as goal

pub put-requires-clause-room : goal.put-requires-clause-room
put-requires-clause-room g c =
    let es = c.self.inside.items.items in
    let ps = c.self.inside.positions.items in
    let same : length (table_of es ps) ≡ length c.args.self.now = ap length c.self.view_is in
    let room = room_kept es ps _ c.args.item.place c.self.invariant (omega (arith, same, c.requires.ready))
    (ap (λ t. get_or t c.args.item.place None) c.self.view_is ∙ c.requires.free) in
    omega (arith, room, c.self.invariant.fits, c.self.inside.items.ok)

pub put-requires-clause-few : goal.put-requires-clause-few
put-requires-clause-few g c =
    let es = c.self.inside.items.items in
    let ps = c.self.inside.positions.items in
    let same : length (table_of es ps) ≡ length c.args.self.now = ap length c.self.view_is in
    let room = room_kept es ps _ c.args.item.place c.self.invariant (omega (arith, same, c.requires.ready))
    (ap (λ t. get_or t c.args.item.place None) c.self.view_is ∙ c.requires.free) in
    omega (arith, room, c.self.invariant.places)
