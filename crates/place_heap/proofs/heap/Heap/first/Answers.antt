use Rattle.std.proofs.Common.{◌∙◌, ap, sym, subst, slice_get}
use Rattle.place_heap.specs.Table.{IsFirst}
use Rattle.place_heap.proofs.First.{first_is_top}
use Rattle.place_heap.proofs.Keeping.{few_kept}
use Rattle.place_heap.proofs.heap.Heap.first.Goals as goal

pub returns : goal.returns
returns g c =
    let inside = c.self.inside in
    let es = inside.items.items in
    let ps = inside.positions.items in
    let is = c.copied.ensures ∙ c.first.ensures.value ∙ ap (λ l. slice_get l 0) c.deref.ensures.value in
    subst (IsFirst c.args.self.now) (sym is) (subst (λ t. IsFirst t (slice_get es 0)) c.self.view_is
    (first_is_top es ps c.self.invariant.heap c.self.invariant.indexed (few_kept es ps _ c.self.invariant)))
