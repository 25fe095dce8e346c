use Rattle.std.proofs.Common.{rules, ◌≡◌, ◌≤◌, ◌+◌, ◌++◌, ◌∷◌, [], ap, ◌∙◌, sym, subst, length, set, arith, take_at}
use Rattle.place_heap.specs.Table.{HasHole, nowhere, table_of, table_with}
use Rattle.place_heap.specs.HeapOrder.{IsHeap, IsHeapUp}
use Rattle.place_heap.proofs.Indexing.{put_hole, put_with}
use Rattle.place_heap.proofs.Order.{put_up}
use Rattle.place_heap.proofs.heap.put.Goals as goal

pub sift_up-requires-clause-hole : goal.sift_up-requires-clause-hole
sift_up-requires-clause-hole g c =
    let old = c.args.items.now.items in
    let new = c.deref_mut.result.now in
    let is : new ≡ old ++ c.args.item ∷ [] = c.deref_mut.ensures.value ∙ c.push_reserved.ensures.items in
    let len : length old ≡ c.len-last.result = search rules in
    let few : length old + 1 ≤ nowhere = omega (arith, c.requires.few) in
    subst (HasHole new c.args.positions.now c.args.item) len
    (put_hole old new c.args.positions.now c.args.item is c.requires.ready few c.requires.free c.requires.indexed)

pub sift_up-requires-clause-heap : goal.sift_up-requires-clause-heap
sift_up-requires-clause-heap g c =
    let old = c.args.items.now.items in
    let new = c.deref_mut.result.now in
    let is : new ≡ old ++ c.args.item ∷ [] = c.deref_mut.ensures.value ∙ c.push_reserved.ensures.items in
    let len : length old ≡ c.len-last.result = search rules in
    subst (λ n. IsHeapUp (set new n c.args.item) n) len (put_up old new c.args.item c.requires.heap is)

pub returns-clause-table : goal.returns-clause-table
returns-clause-table g c =
    let old = c.args.items.now.items in
    let new = c.deref_mut.result.now in
    let is : new ≡ old ++ c.args.item ∷ [] = c.deref_mut.ensures.value ∙ c.push_reserved.ensures.items in
    let len : length old ≡ c.len-last.result = search rules in
    let few : length old + 1 ≤ nowhere = omega (arith, c.requires.few) in
    let whole = take_at c.sift_up.new.items _ c.push_reserved.new.self.len
    (c.sift_up.auto.items ∙ c.deref_mut.ensures.len) in
    ap (λ l. table_of l c.sift_up.new.positions) whole ∙ c.sift_up.ensures.table
    ∙ ap (table_with new c.args.positions.now c.args.item) (sym len)
    ∙ put_with old new c.args.positions.now c.args.item is c.requires.ready few c.requires.free c.requires.indexed

pub returns-clause-heap : goal.returns-clause-heap
returns-clause-heap g c =
    let whole = take_at c.sift_up.new.items _ c.push_reserved.new.self.len
    (c.sift_up.auto.items ∙ c.deref_mut.ensures.len) in
    subst IsHeap (sym whole) c.sift_up.ensures.heap
