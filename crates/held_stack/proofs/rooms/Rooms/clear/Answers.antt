use Rattle.std.proofs.Common.{length, ap, arith}
use Rattle.std.proofs.lemmas.List.{length-reverse}
use Rattle.held_stack.specs.Kept.{Lasting}
use Rattle.held_stack.proofs.Holding.{as_many}
use Rattle.held_stack.proofs.rooms.Rooms.clear.Goals as goal

pub returns-clause-spare : goal.returns-clause-spare
returns-clause-spare c held are =
    let inside = c.self.inside in
    omega (
      arith,
      c.len.ensures,
      inside.untils.ok.0,
      length-reverse inside.untils.items,
      ap (λ (r : Lasting). length r.untils) c.self.view_is,
      ap (λ l. length l) are.untils,
      as_many held,
      ap (λ (r : Lasting). r.spare) c.self.view_is,
    )
