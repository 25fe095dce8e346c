use Rattle.std.proofs.Common.{◌≡◌, ◌+◌, None, ap, ◌∙◌, length, set, get_or, arith}
use Rattle.std.proofs.lemmas.List.{length_push}
use Rattle.place_heap.specs.Table.{table_of, blank}
use Rattle.place_heap.proofs.Order.{drop_heap}
use Rattle.place_heap.proofs.heap.take_at.Goals as goal

pub returns-then-at-len-clause-fewer : goal.returns-then-at-len-clause-fewer
returns-then-at-len-clause-fewer g c =
    let old = c.args.items.now.items in
    let rest = c.take_last.new.items.items in
    let len : length old ≡ length rest + 1 = ap length (c.take_last.ensures.last blank)
    ∙ length_push rest (get_or old (length rest) blank) in
    omega (arith, len)

pub returns-then-at-len-clause-table : goal.returns-then-at-len-clause-table
returns-then-at-len-clause-table g c d =
    let old = c.args.items.now.items in
    let rest = c.take_last.new.items.items in
    let len : length old ≡ length rest + 1 = ap length (c.take_last.ensures.last blank)
    ∙ length_push rest (get_or old (length rest) blank) in
    let at_end : length rest ≡ c.args.at = omega (arith, len, c.if-at-len.true, c.len.ensures, c.args.items.now.ok) in
    c.take_last.ensures.table d ∙ ap (λ n. set (table_of old c.args.positions.now) (get_or old n d).place None) at_end

pub returns-then-at-len-clause-heap : goal.returns-then-at-len-clause-heap
returns-then-at-len-clause-heap g c =
    let old = c.args.items.now.items in
    let rest = c.take_last.new.items.items in
    drop_heap old rest (get_or old (length rest) blank) c.requires.heap (c.take_last.ensures.last blank)
