use Rattle.std.proofs.Common.{length}
use Rattle.place_heap.specs.Table.{table_with}
use Rattle.place_heap.proofs.Loops.{UpLoop}
use Rattle.place_heap.proofs.sift.sift_up.Given as goal

abbrev pub invariant-loop-at : goal.invariant-loop-at
invariant-loop-at g l = UpLoop (table_with l.fn.items l.fn.positions l.item l.hole) (length l.fn.items) l.item l.hole
    l.fn.comparisons l.items l.positions l.at l.comparisons

abbrev pub decreases-loop-at : goal.decreases-loop-at
decreases-loop-at g l = l.at
