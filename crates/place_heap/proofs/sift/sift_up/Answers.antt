use Rattle.std.proofs.Common.{◌≤◌, length, sym, subst, arith}
use Rattle.place_heap.specs.Table.{nowhere}
use Rattle.place_heap.specs.HeapOrder.{IsHeap}
use Rattle.place_heap.proofs.Loops.{up_goes_on, up_stays, moved_ready, parent_low}
use Rattle.place_heap.proofs.Counting.{up_last, up_end}
use Rattle.place_heap.proofs.sift.sift_up.Goals as goal

pub returns-then-not-is_before-clause-heap : goal.returns-then-not-is_before-clause-heap
returns-then-not-is_before-clause-heap g c =
    let kept = c.loop-at.invariant in
    let few : length c.loop-at.items ≤ nowhere = omega (arith, c.requires.few, kept.moving.same_len) in
    subst IsHeap (sym c.set_at.ensures.items)
    (up_stays _ _ _ _ _ _ _ _ _ kept few c.loop-at-test.true _ c.index-items-parent.is
    (sym c.if-not-is_before.ensures.answer))

pub returns-then-not-is_before-clause-count : goal.returns-then-not-is_before-clause-count
returns-then-not-is_before-clause-count g c d fits =
    up_last c.args.hole c.args.comparisons.now c.loop-at.at c.loop-at.comparisons c.is_before.new.comparisons d
    c.loop-at.invariant.count
    c.loop-at-test.true c.is_before.ensures.count (omega (arith, c.requires.hole.inside, fits))

pub set_at-requires-in-loop-at-clause-ready : goal.set_at-requires-in-loop-at-clause-ready
set_at-requires-in-loop-at-clause-ready g c =
    let kept = c.loop-at.invariant in
    let few : length c.loop-at.items ≤ nowhere = omega (arith, c.requires.few, kept.moving.same_len) in
    let low = parent_low c.loop-at.at c.loop-at-test.true in
    moved_ready _ _ _ _ _ _ _ _ few kept.moving (omega (arith, low, kept.moving.hole.inside))
    (λ e. omega (arith, low, e)) c.index-items-parent.is

pub loop-at-preserved : goal.loop-at-preserved
loop-at-preserved g c =
    let kept = c.loop-at.invariant in
    let few : length c.loop-at.items ≤ nowhere = omega (arith, c.requires.few, kept.moving.same_len) in
    up_goes_on _ _ _ _ _ _ _ _ _ kept few c.loop-at-test.true _ c.index-items-parent.is _ _ _
    (sym c.if-not-is_before.ensures.answer) c.set_at-in-loop-at.ensures.items c.set_at-in-loop-at.ensures.positions
    c.is_before.ensures.count

pub returns-clause-count : goal.returns-clause-count
returns-clause-count g c d fits =
    up_end _ _ _ _ _ c.loop-at.invariant.count (omega (arith, c.requires.hole.inside, fits))
