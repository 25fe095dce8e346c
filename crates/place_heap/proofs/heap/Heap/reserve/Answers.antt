use Rattle.std.proofs.Common.{◌≡◌, ◌≤◌, ◌-◌, ◌+◌, ◌++◌, None, Option, List, length, replicate, ap, ◌∙◌, sym, subst}
use Rattle.std.proofs.Common.{arith, vec_capacity, take_all}
use Rattle.place_heap.specs.Items.{ItemFacts}
use Rattle.place_heap.specs.Table.{nowhere, table_of}
use Rattle.place_heap.specs.Kept.{IsKept}
use Rattle.place_heap.proofs.Tables.{grown_len}
use Rattle.place_heap.proofs.Keeping.{kept_grown, grown_table, table_len}
use Rattle.place_heap.proofs.heap.Heap.reserve.Goals as goal

pub invariant_of-self-2 : goal.invariant_of-self-2
invariant_of-self-2 g c =
    let es = c.self.inside.items.items in
    let ps = c.self.inside.positions.items in
    let qs = c.resize.new.self.items in
    let had : c.self.inside.positions.len ≡ length ps = omega (arith, c.self.inside.positions.ok) in
    let same : length (table_of es ps) ≡ length c.args.self.now = ap length c.self.view_is in
    let below : length ps ≤ c.args.places = omega (arith, same, table_len es ps, c.places.ensures, c.if-places.false) in
    let grown : qs ≡ ps ++ replicate (c.args.places - length ps) nowhere = c.in_ok-resize.ensures.items
    ∙ ap (λ l. l ++ replicate (c.args.places - c.self.inside.positions.len) nowhere)
    (take_all c.args.places ps below)
    ∙ ap (λ n. ps ++ replicate (c.args.places - n) nowhere) had in
    let len : length qs ≡ length ps + (c.args.places - length ps) = ap length grown
    ∙ grown_len nowhere ps (c.args.places - length ps) in
    subst (λ l. IsKept l qs (vec_capacity c.reserve.new.self)) (sym c.reserve.ensures.items)
    (kept_grown es ps qs _ (vec_capacity c.reserve.new.self) (c.args.places - length ps) c.self.invariant grown
    (omega (arith, len, below, c.in_ok-reserve.ensures.ok)) (omega (arith, len, below, c.ranges.places.fits)))

pub returns-clause-ok : goal.returns-clause-ok
returns-clause-ok g c =
    let es = c.self.inside.items.items in
    let ps = c.self.inside.positions.items in
    let qs = c.resize.new.self.items in
    let had : c.self.inside.positions.len ≡ length ps = omega (arith, c.self.inside.positions.ok) in
    let same : length (table_of es ps) ≡ length c.args.self.now = ap length c.self.view_is in
    let below : length ps ≤ c.args.places = omega (arith, same, table_len es ps, c.places.ensures, c.if-places.false) in
    let grown : qs ≡ ps ++ replicate (c.args.places - length ps) nowhere = c.in_ok-resize.ensures.items
    ∙ ap (λ l. l ++ replicate (c.args.places - c.self.inside.positions.len) nowhere)
    (take_all c.args.places ps below)
    ∙ ap (λ n. ps ++ replicate (c.args.places - n) nowhere) had in
    ap (λ l. table_of l qs) c.reserve.ensures.items ∙ grown_table es ps qs _ c.args.places c.self.invariant grown
    ∙ ap (λ (t : List (Option ItemFacts)). t ++ replicate (c.args.places - length t) None) c.self.view_is
