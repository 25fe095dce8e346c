-- Items in the order of a heap: the children of position p are at p * 4 + 1 to p * 4 + 4.
use Rattle.std.specs.Prelude.{◌≡◌, ◌≢◌, ℕ, ◌+◌, ◌*◌, ◌<◌, ◌≤◌, false, List, length, slice_index_or}
use Rattle.place_heap.specs.Items.{ItemFacts, is_before}

-- the item at k doesn't come before the one at p
abbrev pub IsAhead : List ItemFacts → ℕ → ℕ → Type 0
IsAhead items p k = (d : ItemFacts) → is_before (slice_index_or items k d) (slice_index_or items p d) ≡ false

-- k is a child of p
abbrev pub IsChild : List ItemFacts → ℕ → ℕ → Type 0
IsChild items p k = (p * 4 + 1 ≤ k) × (k ≤ p * 4 + 4) × (k < length items)

-- no item comes before its parent
abbrev pub IsHeap : List ItemFacts → Type 0
IsHeap items = (p k : ℕ) → IsChild items p k → IsAhead items p k

-- the same but for the item at i, whose children don't come before its parent
pub record IsHeapSave (items : List ItemFacts) (i : ℕ) : Type 0 where
  pub others : (p k : ℕ) → p ≢ i → k ≢ i → IsChild items p k → IsAhead items p k
  pub across : (p k : ℕ) → IsChild items p i → IsChild items i k → IsAhead items p k

-- only the item at i may come before its parent
pub record IsHeapUp (items : List ItemFacts) (i : ℕ) : Type 0 where
  pub others : (p k : ℕ) → k ≢ i → IsChild items p k → IsAhead items p k
  pub across : (p k : ℕ) → IsChild items p i → IsChild items i k → IsAhead items p k
