use Rattle.std.proofs.Common.{arith}
use Rattle.place_heap.proofs.Loops.{two_first, three_first}
use Rattle.place_heap.proofs.sift.first_of_few.Goals as goal

pub returns-in-2-clause-first : goal.returns-in-2-clause-first
returns-in-2-clause-first g c k from below =
    two_first c.args.items.now c.args.low c.earlier.result k c.earlier.ensures.left c.earlier.ensures.right from
    (omega (arith, below, c.in-2.is, c.requires.some))

pub returns-in_default-clause-first : goal.returns-in_default-clause-first
returns-in_default-clause-first g c k from below =
    three_first c.args.items.now c.args.low c.earlier-left.result c.earlier-in_default.result k
    c.earlier-left.ensures.left c.earlier-left.ensures.right c.earlier-in_default.ensures.left
    c.earlier-in_default.ensures.right from (omega (arith, below, c.requires.few))
