use Rattle.std.proofs.Common.{◌≡◌, ◌≤◌, ◌<◌, ◌++◌, ◌∷◌, [], None, ap, ◌∙◌, sym, subst, length, set, arith}
use Rattle.std.specs.Option.{option_to_list}
use Rattle.std.proofs.lemmas.List.{length_push, get_or_default}
use Rattle.place_heap.specs.Table.{HasHole, nowhere, table_of, table_with, blank}
use Rattle.place_heap.proofs.Indexing.{fill_hole, fill_table, out_is}
use Rattle.place_heap.proofs.Order.{put_save}
use Rattle.place_heap.proofs.sift.take_out.Goals as goal

pub returns-clause-hole : goal.returns-clause-hole
returns-clause-hole g c =
    let old = c.args.items.now.items in
    let front = c.pop.new.self.items in
    let ps = c.args.positions.now in
    let at = c.args.at in
    let x = c.unwrap-last.result in
    let is : old ≡ front ++ x ∷ [] = c.pop.ensures.items ∙ ap (λ o. front ++ option_to_list o) c.unwrap-last.ensures in
    let few : length old ≤ nowhere = omega (arith, c.requires.few) in
    let at_in : at < length front = omega (arith, c.requires.at, ap length is, length_push front x) in
    let out_at = c.index.ensures ∙ get_or_default front at c.index.result.now blank at_in in
    subst (λ p. HasHole front (set ps p nowhere) x at) (sym (c.place.ensures ∙ ap (λ y. y.place) out_at))
    (fill_hole old front ps x is few c.requires.indexed at at_in)

pub returns-clause-table : goal.returns-clause-table
returns-clause-table g c d =
    let old = c.args.items.now.items in
    let front = c.pop.new.self.items in
    let ps = c.args.positions.now in
    let at = c.args.at in
    let x = c.unwrap-last.result in
    let is : old ≡ front ++ x ∷ [] = c.pop.ensures.items ∙ ap (λ o. front ++ option_to_list o) c.unwrap-last.ensures in
    let few : length old ≤ nowhere = omega (arith, c.requires.few) in
    let at_in : at < length front = omega (arith, c.requires.at, ap length is, length_push front x) in
    let out_at = c.index.ensures ∙ get_or_default front at c.index.result.now blank at_in in
    ap (λ p. table_with front (set ps p nowhere) x at) (c.place.ensures ∙ ap (λ y. y.place) out_at)
    ∙ fill_table old front ps x is few c.requires.indexed at at_in
    ∙ ap (λ y. set (table_of old ps) y.place None) (sym (out_is old front ps x is few c.requires.indexed at at_in d))

pub returns-clause-heap : goal.returns-clause-heap
returns-clause-heap g c =
    let front = c.pop.new.self.items in
    let x = c.unwrap-last.result in
    let is : c.args.items.now.items ≡ front ++ x ∷ [] = c.pop.ensures.items
    ∙ ap (λ o. front ++ option_to_list o) c.unwrap-last.ensures in
    put_save c.args.items.now.items front x c.args.at c.requires.heap is
