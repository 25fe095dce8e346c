use Rattle.std.proofs.Common.{arith}
use Rattle.waiting_pool.proofs.pool.Pool.reserve.Goals as goal

pub reserve_places-requires-clause-opened : goal.reserve_places-requires-clause-opened
reserve_places-requires-clause-opened c = omega (arith, c.if-places-self.false, c.self.invariant.1.opened)

pub invariant_of-self : goal.invariant_of-self
invariant_of-self c =
    c.reserve_places.ensures.keeps c.self.inside.room c.self.invariant.0 c.self.invariant.1

pub invariant_of-self-2 : goal.invariant_of-self-2
invariant_of-self-2 c = (
  (c.reserve_places.ensures.keeps c.self.inside.room c.self.invariant.0 c.self.invariant.1).0,
  c.in_ok-reserve_places.ensures.fits,
)
