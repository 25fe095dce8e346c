-- What a heap keeps.
use Rattle.std.specs.Prelude.{◌≡◌, ℕ, ◌^◌, ◌<◌, ◌≤◌, List, length, is_some, count_by}
use Rattle.place_heap.specs.Items.{ItemFacts}
use Rattle.place_heap.specs.Table.{IsIndexed, table_of}
use Rattle.place_heap.specs.HeapOrder.{IsHeap}

pub record IsKept (items : List ItemFacts) (positions : List ℕ) (capacity : ℕ) : Type 0 where
  pub indexed : IsIndexed items positions
  pub heap : IsHeap items
  pub count : count_by is_some (table_of items positions) ≡ length items
  pub fits : length positions ≤ capacity
  pub places : length positions < 2 ^ 32
