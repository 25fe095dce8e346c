use Rattle.std.proofs.Common.{◌≡◌, ◌∷◌, [], sym, subst, length, length-append, arith, refl, ◌+◌}
use Rattle.lane_server.specs.Kept.{AllQuiet}
use Rattle.lane_server.proofs.Keeping.{none_quiet, more_quiet}
use Rattle.lane_server.proofs.Sharing.{NonePaid, no_lanes, one_lane_more, paid_first}
use Rattle.lane_server.proofs.lanes.new_lanes.Goals as goal

pub loop-init : goal.loop-init
loop-init c = (
  subst (λ xs. length xs ≡ 0) (sym c.in_ok-lanes.ensures.items) refl,
  subst (λ xs. AllQuiet xs []) (sym c.in_ok-lanes.ensures.items)
      (none_quiet []),
  subst NonePaid (sym c.in_ok-lanes.ensures.items) no_lanes,
)

pub loop-preserved : goal.loop-preserved
loop-preserved c = (
  subst (λ xs. length xs ≡ c.loop.counter + 1) (sym c.in_ok-push.ensures.items)
      (omega (arith, length-append c.loop.lanes.items (c.new.result ∷ []), c.loop.invariant.0)),
  subst (λ xs. AllQuiet xs []) (sym c.in_ok-push.ensures.items)
      (more_quiet c.loop.lanes.items c.new.result c.loop.invariant.1 c.new.ensures.quiet),
  subst NonePaid (sym c.in_ok-push.ensures.items)
      (one_lane_more c.loop.lanes.items c.new.result c.loop.invariant.2 (c.new.ensures.paid 0)),
)

pub returns-clause-count : goal.returns-clause-count
returns-clause-count c = omega (arith, c.loop.invariant.0)

pub returns-clause-quiet : goal.returns-clause-quiet
returns-clause-quiet c = c.loop.invariant.1

pub returns-clause-paid : goal.returns-clause-paid
returns-clause-paid c = paid_first c.loop.lanes.items c.loop.invariant.2
