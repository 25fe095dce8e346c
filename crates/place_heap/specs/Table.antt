-- A set of items, as a table that has each at its place.
use Rattle.std.specs.Prelude.{◌≡◌, ◌≢◌, ℕ, ◌-◌, ◌^◌, ◌<◌, List, Option, Some, None, false, map, length}
use Rattle.std.specs.Prelude.{slice_get, slice_index_or, slice_set}
use Rattle.place_heap.specs.Items.{ItemFacts, is_before}

-- the first item: it stands at its place, and none that stands at a place comes before it; or none stands anywhere
abbrev pub IsFirst : List (Option ItemFacts) → Option ItemFacts → Type 0
IsFirst table None = (place : ℕ) → slice_index_or table place None ≡ None
IsFirst table (Some first) = (slice_index_or table first.place None ≡ Some first)
    × ((place : ℕ) (i : ItemFacts) → slice_index_or table place None ≡ Some i → is_before i first ≡ false)

-- ---- the table that a heap keeps

-- read of no list
abbrev pub blank : ItemFacts
blank = record { key = 0; tie = 0; number = 0; place = 0 }

-- the position of a place that has no item
abbrev pub nowhere : ℕ
nowhere = 2 ^ 32 - 1

-- the position that is kept of a place
abbrev pub position : List ℕ → ℕ → ℕ
position positions place = slice_index_or positions place nowhere

-- the table of items whose positions are kept by place
abbrev pub table_of : List ItemFacts → List ℕ → List (Option ItemFacts)
table_of items positions = map (slice_get items) positions

-- each item's position is kept at its place, and no other position is kept
pub record IsIndexed (items : List ItemFacts) (positions : List ℕ) : Type 0 where
  pub kept : (i : ℕ) (d : ItemFacts) → i < length items → position positions (slice_index_or items i d).place ≡ i
  pub inside : (p i : ℕ) → position positions p ≡ i → i ≢ nowhere → i < length items
  pub placed : (p i : ℕ) (d : ItemFacts) → position positions p ≡ i → i ≢ nowhere → (slice_index_or items i d).place ≡ p

-- ---- a hole, which an item that moves leaves behind

-- with x in the hole the items are indexed
pub record HasHole (items : List ItemFacts) (positions : List ℕ) (x : ItemFacts) (hole : ℕ) : Type 0 where
  pub indexed : IsIndexed (slice_set items hole x) (slice_set positions x.place hole)
  pub inside : hole < length items
  pub ready : x.place < length positions

-- their table then
abbrev pub table_with : List ItemFacts → List ℕ → ItemFacts → ℕ → List (Option ItemFacts)
table_with items positions x hole = table_of (slice_set items hole x) (slice_set positions x.place hole)
