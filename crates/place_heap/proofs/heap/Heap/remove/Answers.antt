use Rattle.std.proofs.Common.{◌≡◌, ◌≢◌, ◌∙◌, None, set, get_or, ap, sym, subst, arith, vec_capacity, take_at}
use Rattle.place_heap.specs.Items.{ItemFacts}
use Rattle.place_heap.specs.Table.{position, nowhere, table_of}
use Rattle.place_heap.specs.Kept.{IsKept}
use Rattle.place_heap.proofs.Keeping.{kept_taken, taken_table, none_to_take}
use Rattle.place_heap.proofs.heap.Heap.remove.Goals as goal

pub invariant_of-self : goal.invariant_of-self
invariant_of-self g c =
    let es = c.self.inside.items.items in
    let ps = c.self.inside.positions.items in
    let at = c.position_of-at.result in
    let new = c.take_at.new.items.items in
    let qs = c.take_at.new.positions in
    let is : position ps c.args.place ≡ at = ap (λ l. position l c.args.place) (sym c.deref.ensures.value)
    ∙ sym c.position_of-at.ensures in
    let some : at ≢ nowhere = λ e. omega (arith, c.if-at.true, e) in
    let table : (d : ItemFacts)
    → table_of new qs ≡ set (table_of es ps) (get_or es at d).place None = λ d. c.take_at.ensures.table d
    ∙ ap (λ l. set (table_of es l) (get_or es at d).place None) c.deref_mut.ensures.value in
    let whole = take_at qs _ c.self.inside.positions.len (c.take_at.auto.positions ∙ c.deref_mut.ensures.len) in
    subst (λ l. IsKept new l (vec_capacity c.take_at.new.items)) (sym whole)
    (kept_taken es new ps qs _ _ c.args.place at c.self.invariant is some c.take_at.ensures.fewer
    c.take_at.ensures.capacity
    c.take_at.ensures.indexed (taken_table es new ps qs c.args.place at c.self.invariant.indexed is some table)
    c.take_at.ensures.heap)

pub returns-then-at-clause-out : goal.returns-then-at-clause-out
returns-then-at-clause-out g c =
    let es = c.self.inside.items.items in
    let ps = c.self.inside.positions.items in
    let at = c.position_of-at.result in
    let new = c.take_at.new.items.items in
    let qs = c.take_at.new.positions in
    let is : position ps c.args.place ≡ at = ap (λ l. position l c.args.place) (sym c.deref.ensures.value)
    ∙ sym c.position_of-at.ensures in
    let some : at ≢ nowhere = λ e. omega (arith, c.if-at.true, e) in
    let table : (d : ItemFacts)
    → table_of new qs ≡ set (table_of es ps) (get_or es at d).place None = λ d. c.take_at.ensures.table d
    ∙ ap (λ l. set (table_of es l) (get_or es at d).place None) c.deref_mut.ensures.value in
    let whole = take_at qs _ c.self.inside.positions.len (c.take_at.auto.positions ∙ c.deref_mut.ensures.len) in
    ap (table_of new) whole ∙ taken_table es new ps qs c.args.place at c.self.invariant.indexed is some table
    ∙ ap (λ t. set t c.args.place None) c.self.view_is

pub returns-else-at-clause-out : goal.returns-else-at-clause-out
returns-else-at-clause-out g c =
    let es = c.self.inside.items.items in
    let ps = c.self.inside.positions.items in
    let is : position ps c.args.place ≡ c.position_of-at.result =
    ap (λ l. position l c.args.place) (sym c.deref.ensures.value) ∙ sym c.position_of-at.ensures in
    let none : c.position_of-at.result ≡ nowhere = omega (arith, c.if-at.false) in
    sym c.self.view_is ∙ none_to_take es ps _ c.args.place c.self.invariant (is ∙ none)
    ∙ ap (λ t. set t c.args.place None) c.self.view_is
