-- Two lists that differ in two items that are swapped.
use Rattle.std.proofs.Common.{◌≡◌, ◌≢◌, ℕ, List, get_or}
use Rattle.place_heap.specs.Items.{ItemFacts}

-- ys has at i what es has at j, at j what es has at i, and else what es has
abbrev pub AreSwapped : (es ys : List ItemFacts) (i j : ℕ) → Type 0
AreSwapped es ys i j =
    ((d : ItemFacts) → get_or ys i d ≡ get_or es j d) × ((d : ItemFacts) → get_or ys j d ≡ get_or es i d)
    × ((k : ℕ) (d : ItemFacts) → k ≢ i → k ≢ j → get_or ys k d ≡ get_or es k d)
