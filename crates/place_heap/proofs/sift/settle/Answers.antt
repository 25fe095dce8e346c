use Rattle.std.proofs.Common.{◌≤◌, ◌+◌, ◌*◌, length, arith}
use Rattle.place_heap.specs.Table.{nowhere}
use Rattle.place_heap.proofs.Loops.{down_goes_on, down_ends, moved_ready}
use Rattle.place_heap.proofs.Counting.{down_end, settle_end}
use Rattle.place_heap.proofs.sift.settle.Goals as goal

pub set_at-requires-clause-ready : goal.set_at-requires-clause-ready
set_at-requires-clause-ready g c =
    let kept = c.loop-at.invariant in
    let child = c.first_child-child.ensures in
    let few : length c.loop-at.items ≤ nowhere = omega (arith, c.requires.few, kept.moving.same_len) in
    moved_ready _ _ _ _ _ _ _ _ few kept.moving child.inside (λ e. omega (arith, child.low, e)) c.index-items-child.is

pub loop-at-preserved : goal.loop-at-preserved
loop-at-preserved g c =
    let kept = c.loop-at.invariant in
    let child = c.first_child-child.ensures in
    let few : length c.loop-at.items ≤ nowhere = omega (arith, c.requires.few, kept.moving.same_len) in
    down_goes_on _ _ _ _ _ _ _ _ kept few _ child.low child.high child.inside child.first _ c.index-items-child.is _ _ _
    c.set_at.ensures.items c.set_at.ensures.positions child.count

pub sift_up-requires-clause-heap : goal.sift_up-requires-clause-heap
sift_up-requires-clause-heap g c =
    let none : length c.loop-at.items ≤ c.loop-at.at * 4 + 1 = omega (arith, c.loop-at-test.false) in
    down_ends _ _ _ _ _ _ _ _ c.loop-at.invariant none

pub returns-clause-count : goal.returns-clause-count
returns-clause-count g c d fits =
    let kept = c.loop-at.invariant in
    settle_end _ _ _ _ _ (omega (arith, c.requires.hole.inside)) fits
    (down_end _ _ _ _ _ kept.count kept.moving.hole.inside (omega (arith, kept.moving.same_len, fits)))
    (λ e below. c.sift_up.ensures.count e (omega (arith, kept.moving.same_len, below)))
