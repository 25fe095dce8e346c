use Rattle.std.proofs.Common.{◌≡◌, ◌≤◌, ◌++◌, ◌∷◌, [], None, ap, ◌∙◌, sym, subst, length, set, arith, option_to_list}
use Rattle.place_heap.specs.Table.{IsIndexed, nowhere, table_of}
use Rattle.place_heap.proofs.Indexing.{drop_indexed, drop_table, back}
use Rattle.place_heap.proofs.sift.take_last.Goals as goal

pub returns-clause-indexed : goal.returns-clause-indexed
returns-clause-indexed g c =
    let rest = c.pop.new.self.items in
    let x = c.unwrap-last.result in
    let is : c.args.items.now.items ≡ rest ++ x ∷ [] = c.pop.ensures.items
    ∙ ap (λ o. rest ++ option_to_list o) c.unwrap-last.ensures in
    let few : length c.args.items.now.items ≤ nowhere = omega (arith, c.requires.few) in
    subst (λ p. IsIndexed rest (set c.args.positions.now p nowhere)) (sym c.place.ensures)
    (drop_indexed c.args.items.now.items rest c.args.positions.now x is few c.requires.indexed)

pub returns-clause-table : goal.returns-clause-table
returns-clause-table g c d =
    let old = c.args.items.now.items in
    let rest = c.pop.new.self.items in
    let x = c.unwrap-last.result in
    let is : old ≡ rest ++ x ∷ [] = c.pop.ensures.items ∙ ap (λ o. rest ++ option_to_list o) c.unwrap-last.ensures in
    let few : length old ≤ nowhere = omega (arith, c.requires.few) in
    ap (λ p. table_of rest (set c.args.positions.now p nowhere)) c.place.ensures
    ∙ drop_table old rest c.args.positions.now x is few c.requires.indexed
    ∙ ap (λ y. set (table_of old c.args.positions.now) y.place None)
    (sym (back old rest c.args.positions.now x is few c.requires.indexed d))
