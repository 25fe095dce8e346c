-- What the loops of a heap keep: an item x that moves, the hole at, and the others.
use Rattle.std.proofs.Common.{◌≡◌, ◌≢◌, ℕ, ◌+◌, ◌-◌, ◌*◌, ◌/◌, ◌<◌, ◌≤◌, true, false, List, Option, length, get_or, set}
use Rattle.std.proofs.Common.{take, drop, ap, ◌∙◌, sym, subst, arith, inl, inr, get_or-set_same, get_or-set_other}
use Rattle.std.proofs.Common.{length-set, get_or-take, get_or-drop}
use Rattle.std.proofs.lemmas.Bool.{cases_eq}
use Rattle.std.proofs.lemmas.List.{get_or_default}
use Rattle.place_heap.specs.Items.{ItemFacts, is_before}
use Rattle.place_heap.specs.Table.{HasHole, nowhere, table_with, blank}
use Rattle.place_heap.specs.HeapOrder.{IsAhead, IsChild, IsHeap, IsHeapUp, IsHeapSave}
use Rattle.place_heap.proofs.Swaps.{AreSwapped}
use Rattle.place_heap.proofs.Ranking.{one_way}
use Rattle.place_heap.proofs.Order.{ahead_from, IsFirstChild}
use Rattle.place_heap.proofs.Order as order
use Rattle.place_heap.proofs.Indexing.{hole_swapped, hole_moved, hole_table, hole_len, y_ready}
use Rattle.place_heap.proofs.Counting.{CountsUp, CountsDown, up_more, down_more}

-- x belongs into the hole, and with it the table is that at the start
pub record Moving (table : List (Option ItemFacts)) (len : ℕ) (x : ItemFacts) (items : List ItemFacts)
    (positions : List ℕ) (at : ℕ) : Type 0 where
  pub hole : HasHole items positions x at
  pub same_table : table_with items positions x at ≡ table
  pub same_len : length items ≡ len

pub record UpLoop (table : List (Option ItemFacts)) (len : ℕ) (x : ItemFacts) (from start : ℕ) (items : List ItemFacts)
    (positions : List ℕ) (at now : ℕ) : Type 0 where
  pub moving : Moving table len x items positions at
  pub heap : IsHeapUp (set items at x) at
  pub count : CountsUp from start at now

pub record DownLoop (table : List (Option ItemFacts)) (len : ℕ) (x : ItemFacts) (start : ℕ) (items : List ItemFacts)
    (positions : List ℕ) (at now : ℕ) : Type 0 where
  pub moving : Moving table len x items positions at
  pub heap : IsHeapSave (set items at x) at
  pub count : CountsDown start at now

-- where a parent is
pub parent_low : (at : ℕ) → 0 < at → (at - 1) / 4 * 4 + 1 ≤ at
parent_low at some = omega arith

pub parent_high : (at : ℕ) → at ≤ (at - 1) / 4 * 4 + 4
parent_high at = omega arith

-- ---- a step: the item at p moves into the hole, and the hole to p

module _ (table : List (Option ItemFacts)) (len : ℕ) (x : ItemFacts) (items : List ItemFacts) (positions : List ℕ)
    (at p : ℕ) (few : length items ≤ nowhere) (moving : Moving table len x items positions at) (p_in : p < length items)
    (apart : p ≢ at) where
  abbrev y : ItemFacts
  y = get_or items p blank

  abbrev es : List ItemFacts
  es = set items at x

  es_len : length es ≡ length items
  es_len = length-set items at x

  at_es : (d : ItemFacts) → get_or es at d ≡ x
  at_es d = get_or-set_same items at x d moving.hole.inside

  other_es : (k : ℕ) (d : ItemFacts) → k ≢ at → get_or es k d ≡ get_or items k d
  other_es k d not = get_or-set_other items at k x d not

  pub moved_hole : Moving table len x (set items at y) (set positions y.place at) p
  moved_hole = record {
    hole = hole_moved items positions x at p few moving.hole p_in apart;
    same_table = hole_table items positions x at p few moving.hole p_in apart ∙ moving.same_table;
    same_len = length-set items at y ∙ moving.same_len;
  }

  pub moved_swap : AreSwapped es (set (set items at y) p x) at p
  moved_swap = hole_swapped items positions x at p few moving.hole p_in apart

  pub moved_len : length (set (set items at y) p x) ≡ length es
  moved_len = hole_len items positions x at p few moving.hole p_in apart

  -- a comparison of x with the item at p, over the list with x in the hole
  pub x_is_ahead : is_before (get_or items p blank) x ≡ false → IsAhead es at p
  x_is_ahead h = ahead_from es at p (omega (arith, moving.hole.inside, es_len)) (omega (arith, p_in, es_len))
      (ap (λ z. is_before z (get_or es at blank)) (other_es p blank apart) ∙ ap (is_before y) (at_es blank) ∙ h)

  pub p_is_ahead : is_before x (get_or items p blank) ≡ false → IsAhead es p at
  p_is_ahead h = ahead_from es p at (omega (arith, p_in, es_len)) (omega (arith, moving.hole.inside, es_len))
      (ap (λ z. is_before z (get_or es p blank)) (at_es blank) ∙ ap (is_before x) (other_es p blank apart) ∙ h)

-- ---- the child that comes first

-- of two, what comes before both
pub two_first : (es : List ItemFacts) (low best k : ℕ) → IsAhead es best low → IsAhead es best (low + 1)
    → low ≤ k → k < low + 2 → IsAhead es best k
two_first es low best k zero one from below = elim (cases_eq k low) [
  | inl is ↦ subst (IsAhead es best) (sym is) zero
  | inr not_zero ↦ subst (IsAhead es best) (omega (arith, from, below, not_zero)) one
]

-- of three, what comes before the first of two and the third
pub three_first : (es : List ItemFacts) (low left best k : ℕ) → IsAhead es left low → IsAhead es left (low + 1)
    → IsAhead es best left → IsAhead es best (low + 2) → low ≤ k → k < low + 3 → IsAhead es best k
three_first es low left best k zero one first two from below = elim (cases_eq k (low + 2)) [
  | inl is ↦ subst (IsAhead es best) (sym is) two
  | inr not_two ↦ order.ahead_through es best left k first
      (two_first es low left k zero one from (omega (arith, below, not_two)))
]

-- of four, in two pairs, what comes before the first of both pairs
pub four_first : (es : List ItemFacts) (low left right best k : ℕ) → IsAhead es left low → IsAhead es left (low + 1)
    → IsAhead es right (low + 2) → IsAhead es right (low + 3) → IsAhead es best left → IsAhead es best right
    → low ≤ k → k < low + 4 → IsAhead es best k
four_first es low left right best k zero one two three first second from below = elim (cases_eq k low) [
  | inl is ↦ subst (IsAhead es best) (sym is) (order.ahead_through es best left low first zero)
  | inr not_zero ↦ elim (cases_eq k (low + 1)) [
    | inl is ↦ subst (IsAhead es best) (sym is) (order.ahead_through es best left (low + 1) first one)
    | inr not_one ↦ elim (cases_eq k (low + 2)) [
      | inl is ↦ subst (IsAhead es best) (sym is) (order.ahead_through es best right (low + 2) second two)
      | inr not_two ↦ subst (IsAhead es best) (omega (arith, from, below, not_zero, not_one, not_two))
          (order.ahead_through es best right (low + 3) second three)
    ]
  ]
]

-- what is ahead among n items that follow each other is so where they stand
pub ahead_within : (es : List ItemFacts) (low n best k : ℕ) → best < n → k < n → IsAhead (take n (drop low es)) best k
    → IsAhead es (low + best) (low + k)
ahead_within es low n best k best_in k_in ahead d =
    ap (λ z. is_before z (get_or es (low + best) d)) (sym (at k k_in))
    ∙ ap (is_before (get_or (take n (drop low es)) k d)) (sym (at best best_in))
    ∙ ahead d where
      at : (i : ℕ) → i < n → get_or (take n (drop low es)) i d ≡ get_or es (low + i) d
      at i less = get_or-take n (drop low es) i d less ∙ get_or-drop low es i d

-- of the items with x in the hole, where the children are those of the items
pub first_of_all : (items : List ItemFacts) (x : ItemFacts) (at c : ℕ) → at * 4 + 1 ≤ c → c ≤ at * 4 + 4
    → c < length items
    → ((k : ℕ) → at * 4 + 1 ≤ k → k ≤ at * 4 + 4 → k < length items → IsAhead items c k)
    → IsFirstChild (set items at x) at c
first_of_all items x at c low high inside first = (
  (low, high, omega (arith, inside, length-set items at x)),
  λ k child d.
      ap (λ z. is_before z (get_or (set items at x) c d)) (stays k d (λ e. omega (arith, child.0, e)))
      ∙ ap (is_before (get_or items k d)) (stays c d (λ e. omega (arith, low, e)))
      ∙ first k child.0 child.1 (omega (arith, child.2, length-set items at x)) d,
) where
  stays : (k : ℕ) (d : ItemFacts) → k ≢ at → get_or (set items at x) k d ≡ get_or items k d
  stays k d not = get_or-set_other items at k x d not

-- ---- a step up, and where the item stays

module _ (table : List (Option ItemFacts)) (len : ℕ) (x : ItemFacts) (from start : ℕ) (items : List ItemFacts)
    (positions : List ℕ)
    (at now : ℕ) (kept : UpLoop table len x from start items positions at now) (few : length items ≤ nowhere)
    (some : 0 < at)
    (above : ItemFacts) (above_is : above ≡ get_or items ((at - 1) / 4) above) where
  abbrev p : ℕ
  p = (at - 1) / 4

  low : (at - 1) / 4 * 4 + 1 ≤ at
  low = parent_low at some

  p_in : (at - 1) / 4 < length items
  p_in = omega (arith, low, kept.moving.hole.inside)

  p_apart : (at - 1) / 4 ≢ at
  p_apart e = omega (arith, low, e)

  above_at : above ≡ get_or items ((at - 1) / 4) blank
  above_at = above_is ∙ get_or_default items p above blank p_in

  p_parent : IsChild (set items at x) ((at - 1) / 4) at
  p_parent = (low, parent_high at, omega (arith, length-set items at x, kept.moving.hole.inside))

  pub up_goes_on : (items' : List ItemFacts) (positions' : List ℕ) (next : ℕ) → is_before x above ≡ true
      → items' ≡ set items at above
      → positions' ≡ set positions above.place at → next ≡ now + 1
      → UpLoop table len x from start items' positions' ((at - 1) / 4) next
  up_goes_on items' positions' next before items_is positions_is step =
      let y : ItemFacts = get_or items p blank in
      let not_above : is_before y x ≡ false = one_way x y (ap (is_before x) (sym above_at) ∙ before) in
      let ahead : IsAhead (set items at x) at p =
      x_is_ahead table len x items positions at p few kept.moving p_in p_apart not_above in
      let moved : UpLoop table len x from start (set items at y) (set positions y.place at) p next = record {
        moving = moved_hole table len x items positions at p few kept.moving p_in p_apart;
        heap = order.up_step (set items at x) (set (set items at y) p x)
            (moved_len table len x items positions at p few kept.moving p_in p_apart) at p kept.heap p_parent ahead
            (moved_swap table len x items positions at p few kept.moving p_in p_apart);
        count = up_more from start at p now next kept.count low step;
      } in
      subst (λ l. UpLoop table len x from start l positions' p next) (sym (items_is ∙ ap (set items at) above_at))
      (subst (λ q. UpLoop table len x from start (set items at y) q p next)
      (sym (positions_is ∙ ap (λ z. set positions z.place at) above_at)) moved)

  pub up_stays : is_before x above ≡ false → IsHeap (set items at x)
  up_stays before = order.up_done (set items at x) at p kept.heap p_parent
      (p_is_ahead table len x items positions at p few kept.moving p_in p_apart
      (ap (is_before x) (sym above_at) ∙ before))

-- ---- a step down, and where it ends

module _ (table : List (Option ItemFacts)) (len : ℕ) (x : ItemFacts) (start : ℕ) (items : List ItemFacts)
    (positions : List ℕ) (at now : ℕ) (kept : DownLoop table len x start items positions at now) where
  pub down_goes_on : length items ≤ nowhere → (c : ℕ) → at * 4 + 1 ≤ c → c ≤ at * 4 + 4 → c < length items
      → ((k : ℕ) → at * 4 + 1 ≤ k → k ≤ at * 4 + 4 → k < length items → IsAhead items c k)
      → (below : ItemFacts) → below ≡ get_or items c below
      → (items' : List ItemFacts) (positions' : List ℕ) (next : ℕ)
      → items' ≡ set items at below → positions' ≡ set positions below.place at → next ≤ now + 3
      → DownLoop table len x start items' positions' c next
  down_goes_on few c from to inside all below below_is items' positions' next items_is positions_is step =
      let y : ItemFacts = get_or items c blank in
      let below_at : below ≡ y = below_is ∙ get_or_default items c below blank inside in
      let apart : c ≢ at = λ e. omega (arith, from, e) in
      let moved : DownLoop table len x start (set items at y) (set positions y.place at) c next = record {
        moving = moved_hole table len x items positions at c few kept.moving inside apart;
        heap = order.down_step (set items at x) (set (set items at y) c x)
            (moved_len table len x items positions at c few kept.moving inside apart) at c kept.heap
            (first_of_all items x at c from to inside all)
            (moved_swap table len x items positions at c few kept.moving inside apart);
        count = down_more start at c now next kept.count from step;
      } in
      subst (λ l. DownLoop table len x start l positions' c next) (sym (items_is ∙ ap (set items at) below_at))
      (subst (λ q. DownLoop table len x start (set items at y) q c next)
      (sym (positions_is ∙ ap (λ z. set positions z.place at) below_at)) moved)

  pub down_ends : length items ≤ at * 4 + 1 → IsHeapUp (set items at x) at
  down_ends none = order.down_done (set items at x) at kept.heap (omega (arith, none, length-set items at x))

-- the item that moves in has a place that is ready
pub moved_ready : (table : List (Option ItemFacts)) (len : ℕ) (x : ItemFacts) (items : List ItemFacts)
    (positions : List ℕ) (at p : ℕ)
    (y : ItemFacts) → length items ≤ nowhere → Moving table len x items positions at → p < length items → p ≢ at
    → y ≡ get_or items p y
    → y.place < length positions
moved_ready table len x items positions at p y few moving p_in apart is =
    let ready = y_ready items positions x at p few moving.hole p_in apart in
    subst (λ z. z.place < length positions) (sym (is ∙ get_or_default items p y blank p_in)) ready
