-- The order of a heap, step by step.
use Rattle.std.proofs.Common.{◌≡◌, ◌≢◌, ℕ, ◌+◌, ◌*◌, ◌<◌, ◌≤◌, false, List, length, get_or, set}
use Rattle.std.proofs.Common.{◌++◌, ◌∷◌, [], refl, ap, ◌∙◌, sym, subst, arith, inl, inr}
use Rattle.std.proofs.lemmas.Bool.{cases_eq}
use Rattle.std.proofs.lemmas.List.{get_or_default, get_or_append_left, get_or-set_other, length_push, length-set}
use Rattle.std.proofs.lemmas.List.{get_or_push, set-get_or}
use Rattle.place_heap.proofs.Swaps.{AreSwapped}
use Rattle.place_heap.specs.Items.{ItemFacts, is_before}
use Rattle.place_heap.specs.Table.{blank}
use Rattle.place_heap.specs.HeapOrder.{IsAhead, IsChild, IsHeap, IsHeapSave, IsHeapUp}
use Rattle.place_heap.proofs.Ranking.{behind}

module _ (es : List ItemFacts) where
  -- what is read at one default is so at each
  pub ahead_from : (p k : ℕ) → p < length es → k < length es → is_before (get_or es k blank) (get_or es p blank) ≡ false
      → IsAhead es p k
  ahead_from p k p_in k_in h d = ap (λ x. is_before x (get_or es p d)) (get_or_default es k d blank k_in)
      ∙ ap (is_before (get_or es k blank)) (get_or_default es p d blank p_in) ∙ h

  pub ahead_through : (p q k : ℕ) → IsAhead es p q → IsAhead es q k → IsAhead es p k
  ahead_through p q k h i d = behind (get_or es p d) (get_or es q d) (get_or es k d) (h d) (i d)

  pub up_done : (at p : ℕ) → IsHeapUp es at → IsChild es p at → IsAhead es p at → IsHeap es
  up_done at p heap parent ahead q k child = elim (cases_eq k at) [
    | inl is ↦ subst (λ m. IsAhead es m k) (omega (arith, parent.0, parent.1, child.0, child.1))
        (subst (IsAhead es p) (sym is) ahead)
    | inr not ↦ heap.others q k not child
  ]

  -- c is a child of at before which no other comes
  abbrev pub IsFirstChild : ℕ → ℕ → Type 0
  IsFirstChild at c = IsChild es at c × ((k : ℕ) → IsChild es at k → IsAhead es c k)

  -- where the item that may stand wrong has no children, it may only come before its parent
  pub down_done : (at : ℕ) → IsHeapSave es at → length es ≤ at * 4 + 1 → IsHeapUp es at
  down_done at heap none = record {
    others = λ q k not child. elim (cases_eq q at) [
      | inl is ↦ absurd (omega (arith, is, none, child.0, child.2))
      | inr not_q ↦ heap.others q k not_q not child
    ];
    across = heap.across;
  }

-- ---- two items swapped

module _ (es ys : List ItemFacts) (same_len : length ys ≡ length es) where
  moved : (q k p l : ℕ) → ((d : ItemFacts) → get_or ys q d ≡ get_or es p d)
      → ((d : ItemFacts) → get_or ys k d ≡ get_or es l d) → IsAhead es p l → IsAhead ys q k
  moved q k p l e f h d = ap (λ x. is_before x (get_or ys q d)) (f d) ∙ ap (is_before (get_or es l d)) (e d) ∙ h d

  old_child : (q k : ℕ) → IsChild ys q k → IsChild es q k
  old_child q k child = (child.0, child.1, omega (arith, child.2))

  pub up_step : (at p : ℕ) → IsHeapUp es at → IsChild es p at → IsAhead es at p → AreSwapped es ys at p → IsHeapUp ys p
  up_step at p heap parent ahead swapped = record {
    others = λ q k not child. elim (cases_eq k at) [
      | inl is ↦ subst (λ m. IsAhead ys m k) (omega (arith, parent.0, parent.1, child.0, child.1))
          (subst (IsAhead ys p) (sym is) (moved p at at p swapped.1 swapped.0 ahead))
      | inr not_at ↦ elim (cases_eq q at) [
        | inl is ↦ subst (λ m. IsAhead ys m k) (sym is)
            (moved at k p k swapped.0 (λ d. swapped.2 k d not_at not)
            (heap.across p k parent (subst (λ m. IsChild es m k) is (old_child q k child))))
        | inr q_not_at ↦ elim (cases_eq q p) [
          | inl is ↦ subst (λ m. IsAhead ys m k) (sym is)
              (moved p k at k swapped.1 (λ d. swapped.2 k d not_at not)
              (ahead_through es at p k ahead (heap.others p k not_at
              (subst (λ m. IsChild es m k) is (old_child q k child)))))
          | inr q_not_p ↦ moved q k q k (λ d. swapped.2 q d q_not_at q_not_p) (λ d. swapped.2 k d not_at not)
              (heap.others q k not_at (old_child q k child))
        ]
      ]
    ];
    across = λ q k above below.
        let q_is : IsAhead es q p = heap.others q p (λ e. omega (arith, parent.0)) (old_child q p above) in
        let q_stays : (d : ItemFacts) → get_or ys q d ≡ get_or es q d =
        λ d. swapped.2 q d (λ e. omega (arith, above.0, parent.0)) (λ e. omega (arith, above.0)) in
        elim (cases_eq k at) [
          | inl is ↦ subst (IsAhead ys q) (sym is) (moved q at q p q_stays swapped.0 q_is)
          | inr not_at ↦ moved q k q k q_stays (λ d. swapped.2 k d not_at (λ e. omega (arith, below.0)))
              (ahead_through es q p k q_is (heap.others p k not_at (old_child p k below)))
        ];
  }

  pub down_step : (at c : ℕ) → IsHeapSave es at → IsFirstChild es at c → AreSwapped es ys at c → IsHeapSave ys c
  down_step at c heap first swapped = record {
    others = λ q k not_q not_k child. elim (cases_eq q at) [
      | inl is ↦ subst (λ m. IsAhead ys m k) (sym is)
          (moved at k c k swapped.0 (λ d. swapped.2 k d (λ e. omega (arith, e, child.0, is)) not_k)
          (first.1 k (subst (λ m. IsChild es m k) is (old_child q k child))))
      | inr q_not_at ↦ elim (cases_eq k at) [
        | inl is ↦ subst (IsAhead ys q) (sym is) (moved q at q c (λ d. swapped.2 q d q_not_at not_q) swapped.0
            (heap.across q c (subst (IsChild es q) is (old_child q k child)) first.0))
        | inr not_at ↦ moved q k q k (λ d. swapped.2 q d q_not_at not_q) (λ d. swapped.2 k d not_at not_k)
            (heap.others q k q_not_at not_at (old_child q k child))
      ]
    ];
    across = λ q k above below.
        let q_is : at ≡ q = omega (arith, above.0, above.1, first.0.0, first.0.1) in
        subst (λ m. IsAhead ys m k) q_is (moved at k c k swapped.0
        (λ d. swapped.2 k d (λ e. omega (arith, e, below.0, first.0.0)) (λ e. omega (arith, e, below.0)))
        (heap.others c k (λ e. omega (arith, e, first.0.0)) (λ e. omega (arith, e, below.0, first.0.0))
        (old_child c k below)));
  }

-- ---- an item put last

-- only that one may come before its parent
pub put_up : (es new : List ItemFacts) (x : ItemFacts) → IsHeap es → new ≡ es ++ x ∷ []
    → IsHeapUp (set new (length es) x) (length es)
put_up es new x heap is = subst (λ l. IsHeapUp l (length es)) (sym (ap (set new (length es)) (sym back)
    ∙ set-get_or new (length es) blank)) (record {
      others = λ p k not child d. ap (λ y. is_before y (get_or new p d)) (front k d (below k child.2 not))
          ∙ ap (is_before (get_or es k d)) (front p d (omega (arith, child.0, below k child.2 not)))
          ∙ heap p k (child.0, child.1, below k child.2 not) d;
      across = λ p k above below. absurd (omega (arith, below.0, below.2, len));
    }) where
      len : length new ≡ length es + 1
      len = ap length is ∙ length_push es x

      back : get_or new (length es) blank ≡ x
      back = ap (λ l. get_or l (length es) blank) is ∙ get_or_push es x blank (length es) refl

      front : (k : ℕ) (d : ItemFacts) → k < length es → get_or new k d ≡ get_or es k d
      front k d inside = ap (λ l. get_or l k d) is ∙ get_or_append_left es (x ∷ []) d k inside

      below : (k : ℕ) → k < length new → k ≢ length es → k < length es
      below k inside not = omega (arith, inside, not, len)

-- ---- the last item put at a position

-- without its last item a heap is one
pub drop_heap : (es rest : List ItemFacts) (x : ItemFacts) → IsHeap es → es ≡ rest ++ x ∷ [] → IsHeap rest
drop_heap es rest x heap is p k child d =
    let len : length es ≡ length rest + 1 = ap length is ∙ length_push rest x in
    let p_is : get_or es p d ≡ get_or rest p d = ap (λ l. get_or l p d) is
    ∙ get_or_append_left rest (x ∷ []) d p (omega (arith, child.0, child.2)) in
    let k_is : get_or es k d ≡ get_or rest k d = ap (λ l. get_or l k d) is
    ∙ get_or_append_left rest (x ∷ []) d k child.2 in
    ap (λ y. is_before y (get_or rest p d)) (sym k_is) ∙ ap (is_before (get_or es k d)) (sym p_is)
    ∙ heap p k (child.0, child.1, omega (arith, child.2, len)) d

-- with the last one put at a position, only that one may stand wrong
pub put_save : (es front : List ItemFacts) (x : ItemFacts) (at : ℕ) → IsHeap es → es ≡ front ++ x ∷ []
    → IsHeapSave (set front at x) at
put_save es front x at heap is = record {
  others = λ p k not_p not_k child. kept p k (omega (arith, child.0, child.2, same)) (omega (arith, child.2, same))
      not_p not_k
      (heap p k (child.0, child.1, omega (arith, child.2, len, same)));
  across = λ p k above below. kept p k (omega (arith, above.0, above.2, same)) (omega (arith, below.2, same))
      (λ e. omega (arith, above.0, e)) (λ e. omega (arith, below.0, e))
      (ahead_through es p at k (heap p at (above.0, above.1, omega (arith, above.2, len, same)))
      (heap at k (below.0, below.1, omega (arith, below.2, len, same))));
} where
  len : length es ≡ length front + 1
  len = ap length is ∙ length_push front x

  same : length (set front at x) ≡ length front
  same = length-set front at x

  stays : (k : ℕ) → k < length front → k ≢ at → (d : ItemFacts) → get_or (set front at x) k d ≡ get_or es k d
  stays k k_in not d = get_or-set_other front at k x d not
      ∙ sym (ap (λ l. get_or l k d) is ∙ get_or_append_left front (x ∷ []) d k k_in)

  kept : (p k : ℕ) → p < length front → k < length front → p ≢ at → k ≢ at → IsAhead es p k
      → IsAhead (set front at x) p k
  kept p k p_in k_in not_p not_k h d = ap (λ y. is_before y (get_or (set front at x) p d)) (stays k k_in not_k d)
      ∙ ap (is_before (get_or es k d)) (stays p p_in not_p d) ∙ h d
