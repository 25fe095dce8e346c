-- The item on top of a heap is the first of its set.
use Rattle.std.proofs.Common.{◌≡◌, ℕ, zero, suc, ◌+◌, ◌-◌, ◌*◌, ◌/◌, ◌<◌, ◌≤◌, false, List, [], ◌∷◌}
use Rattle.std.proofs.Common.{Some, length, get_or, refl, ap, ◌∙◌, sym, subst, arith, inl, inr, slice_get}
use Rattle.std.proofs.lemmas.Bool.{cases_eq}
use Rattle.std.proofs.lemmas.Option.{slice_get-get_or, slice_get_past, same_Some, none-some}
use Rattle.place_heap.specs.Items.{ItemFacts, is_before}
use Rattle.place_heap.specs.Table.{IsIndexed, IsFirst, position, nowhere, table_of, blank}
use Rattle.place_heap.specs.HeapOrder.{IsAhead, IsHeap}
use Rattle.place_heap.proofs.Ranking.{itself}
use Rattle.place_heap.proofs.Indexing.{table_at}
use Rattle.place_heap.proofs.Order.{ahead_through}
use Rattle.place_heap.proofs.Loops.{parent_low, parent_high}

-- the top is ahead of each other item
top_ahead : (es : List ItemFacts) → IsHeap es → (fuel k : ℕ) → k ≤ fuel → 0 < k → k < length es → IsAhead es 0 k
top_ahead es heap zero k small some inside = absurd (omega arith)
top_ahead es heap (suc fuel) k small some inside =
    by_parent (λ p small some inside. top_ahead es heap fuel p small some inside) ((k - 1) / 4)
    (parent_low k some) (parent_high k) where
      by_parent : ((p : ℕ) → p ≤ fuel → 0 < p → p < length es → IsAhead es 0 p) → (p : ℕ) → p * 4 + 1 ≤ k
          → k ≤ p * 4 + 4
          → IsAhead es 0 k
      by_parent above p low high = elim (cases_eq p 0) [
        | inl is ↦ subst (λ m. IsAhead es m k) is (heap p k (low, high, inside))
        | inr not ↦ ahead_through es 0 p k
            (above p (omega (arith, low, small)) (omega (arith, not)) (omega (arith, low, inside)))
            (heap p k (low, high, inside))
      ]

-- so it is the first of the set
pub first_is_top : (es : List ItemFacts) (ps : List ℕ) → IsHeap es → IsIndexed es ps → length es ≤ nowhere
    → IsFirst (table_of es ps) (slice_get es 0)
first_is_top [] ps heap kept few = λ n. table_at [] ps n few
first_is_top (top ∷ es) ps heap kept few = (
  table_at (top ∷ es) ps top.place few ∙ ap (slice_get (top ∷ es)) (kept.kept 0 blank (omega arith)),
  λ n e at. by_position n e (position ps n) refl (sym (table_at (top ∷ es) ps n few) ∙ at),
) where
  ahead : (k : ℕ) → k < length (top ∷ es) → is_before (get_or (top ∷ es) k blank) top ≡ false
  ahead zero inside = itself top
  ahead (suc k) inside = top_ahead (top ∷ es) heap (suc k) (suc k) (omega arith) (omega arith) inside blank

  by_position : (n : ℕ) (e : ItemFacts) (k : ℕ) → position ps n ≡ k → slice_get (top ∷ es) k ≡ Some e
      → is_before e top ≡ false
  by_position n e k at is = elim (cases_eq k nowhere) [
    | inl none ↦ absurd (none-some e (sym (slice_get_past (top ∷ es) k (omega (arith, none, few))) ∙ is))
    | inr some ↦ let inside : k < length (top ∷ es) = kept.inside n k at some in
        ap (λ i. is_before i top)
        (sym (same_Some _ e (sym (slice_get-get_or (top ∷ es) k blank inside) ∙ is))) ∙ ahead k inside
  ]
