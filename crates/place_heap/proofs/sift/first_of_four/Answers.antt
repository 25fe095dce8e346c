use Rattle.std.proofs.Common.{ℕ, List, ◌+◌, ◌-◌, ◌<◌, take, drop, subst, arith}
use Rattle.place_heap.specs.Items.{ItemFacts}
use Rattle.place_heap.specs.HeapOrder.{IsAhead}
use Rattle.place_heap.proofs.Loops.{four_first, ahead_within}
use Rattle.place_heap.proofs.sift.first_of_four.Goals as goal

pub returns-clause-first : goal.returns-clause-first
returns-clause-first g c k from below =
    let low : ℕ = c.args.low in
    let four : List ItemFacts = take (low + 4 - low) (drop low c.args.items.now) in
    let inside : k - low < 4 = omega (arith, from, below) in
    subst (IsAhead c.args.items.now (low + c.earlier.result)) (omega (arith, from))
    (ahead_within c.args.items.now low (low + 4 - low) c.earlier.result (k - low)
    (omega (arith, c.earlier.ensures.high, c.earlier-right.ensures.high)) (omega (arith, inside))
    (four_first four 0 c.earlier-left.result c.earlier-right.result c.earlier.result (k - low)
    c.earlier-left.ensures.left c.earlier-left.ensures.right c.earlier-right.ensures.left c.earlier-right.ensures.right
    c.earlier.ensures.left c.earlier.ensures.right (omega arith) inside))
