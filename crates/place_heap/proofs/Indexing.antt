-- Items and their positions: one moved into the hole that another left, one put last, and one taken out.
use Rattle.std.proofs.Common.{◌≡◌, ◌≢◌, ℕ, ◌+◌, ◌<◌, ◌≤◌, List, [], ◌∷◌, ◌++◌, Option, Some, None, length, set, get_or}
use Rattle.std.proofs.Common.{refl, ap, ◌∙◌, sym, subst, ◌⊎◌, arith, inl, inr, slice_get, get_or-set_same}
use Rattle.std.proofs.Common.{get_or-set_other, ext_get_or, length-set}
use Rattle.std.proofs.lemmas.Bool.{cases_eq, cases_lt}
use Rattle.std.proofs.lemmas.Option.{slice_get-get_or, slice_get_past, none-some}
use Rattle.std.proofs.lemmas.List.{get_or_past, get_or-map, length-map, get_or_default, get_or_append_left, get_or_push}
use Rattle.std.proofs.lemmas.List.{length_push, set-get_or}
use Rattle.place_heap.specs.Items.{ItemFacts}
use Rattle.place_heap.proofs.Swaps.{AreSwapped}
use Rattle.place_heap.specs.Table.{HasHole, IsIndexed, position, nowhere, table_of, table_with, blank}

-- no two items have one place
pub own_places : (es : List ItemFacts) (ps : List ℕ) → IsIndexed es ps → (i j : ℕ) (d : ItemFacts) → i < length es
    → j < length es → (get_or es i d).place ≡ (get_or es j d).place → i ≡ j
own_places es ps kept i j d i_in j_in e = sym (kept.kept i d i_in) ∙ ap (position ps) e ∙ kept.kept j d j_in

-- a place whose position is kept is ready for use
pub place_in : (ps : List ℕ) (n i : ℕ) → position ps n ≡ i → i ≢ nowhere → n < length ps
place_in ps n i e some = by_cases (cases_lt n (length ps)) where
  by_cases : (n < length ps) ⊎ (length ps ≤ n) → n < length ps
  by_cases (inl h) = h
  by_cases (inr h) = absurd (some (sym e ∙ get_or_past ps n nowhere h))

-- the item of a place, by its position
pub table_at : (es : List ItemFacts) (ps : List ℕ) (n : ℕ) → length es ≤ nowhere
    → get_or (table_of es ps) n None ≡ slice_get es (position ps n)
table_at es ps n few = by_cases (cases_lt n (length ps)) where
  by_cases : (n < length ps) ⊎ (length ps ≤ n) → get_or (table_of es ps) n None ≡ slice_get es (position ps n)
  by_cases (inl h) = get_or-map (slice_get es) ps n nowhere None h
  by_cases (inr h) = get_or_past (table_of es ps) n None (omega (arith, length-map ps (slice_get es)))
      ∙ sym (ap (slice_get es) (get_or_past ps n nowhere h) ∙ slice_get_past es nowhere few)

-- two lists that agree at a position of both
pub same_item : (es ys : List ItemFacts) (i j : ℕ) → i < length es → j < length ys
    → ((d : ItemFacts) → get_or ys j d ≡ get_or es i d) → slice_get ys j ≡ slice_get es i
same_item es ys i j i_in j_in is = slice_get-get_or ys j blank j_in ∙ ap Some (is blank)
    ∙ sym (slice_get-get_or es i blank i_in)

pub no_item : (es ys : List ItemFacts) (i : ℕ) → i ≡ nowhere → length es ≤ nowhere → length ys ≤ nowhere
    → slice_get ys i ≡ slice_get es i
no_item es ys i is few_es few_ys = slice_get_past ys i (omega arith) ∙ sym (slice_get_past es i (omega arith))

-- ---- two items swapped

module _ (es ys : List ItemFacts) (ps qs : List ℕ) (i j : ℕ) (kept : IsIndexed es ps) (few : length es ≤ nowhere)
    (i_in : i < length es) (j_in : j < length es) (swapped : AreSwapped es ys i j) (same_len : length ys ≡ length es)
    (at_a : position qs (get_or es i blank).place ≡ j) (at_b : position qs (get_or es j blank).place ≡ i)
    (at_other : (n : ℕ) → n ≢ (get_or es i blank).place → n ≢ (get_or es j blank).place → position qs n ≡ position ps n)
    (same_places : length qs ≡ length ps) where
  abbrev a : ℕ
  a = (get_or es i blank).place

  abbrev b : ℕ
  b = (get_or es j blank).place

  place_of : (k : ℕ) (d : ItemFacts) → k < length es → (get_or es k d).place ≡ (get_or es k blank).place
  place_of k d k_in = ap (λ e. e.place) (get_or_default es k d blank k_in)

  swap_kept : (k : ℕ) (d : ItemFacts) → k < length ys → position qs (get_or ys k d).place ≡ k
  swap_kept k d k_in = elim (cases_eq k i) [
    | inl is_i ↦ subst (λ m. position qs (get_or ys m d).place ≡ m) (sym is_i)
        (ap (λ e. position qs e.place) (swapped.0 d) ∙ ap (position qs) (place_of j d j_in) ∙ at_b)
    | inr not_i ↦ elim (cases_eq k j) [
      | inl is_j ↦ subst (λ m. position qs (get_or ys m d).place ≡ m) (sym is_j)
          (ap (λ e. position qs e.place) (swapped.1 d) ∙ ap (position qs) (place_of i d i_in) ∙ at_a)
      | inr not_j ↦ other not_i not_j
    ]
  ] where
    k_old : k < length es
    k_old = omega arith

    other : k ≢ i → k ≢ j → position qs (get_or ys k d).place ≡ k
    other not_i not_j = ap (λ e. position qs e.place) (swapped.2 k d not_i not_j)
        ∙ at_other (get_or es k d).place
        (λ e. not_i (own_places es ps kept k i blank k_old i_in (sym (place_of k d k_old) ∙ e)))
        (λ e. not_j (own_places es ps kept k j blank k_old j_in (sym (place_of k d k_old) ∙ e)))
        ∙ kept.kept k d k_old

  -- where a kept position was before
  from_old : (n k : ℕ) → position qs n ≡ k → k ≢ nowhere
      → (((n ≡ a) × (k ≡ j)) ⊎ ((n ≡ b) × (k ≡ i))) ⊎ ((k ≢ i) × (k ≢ j) × (position ps n ≡ k))
  from_old n k e some = elim (cases_eq n a) [
    | inl is_a ↦ inl (inl (is_a, sym e ∙ ap (position qs) is_a ∙ at_a))
    | inr not_a ↦ elim (cases_eq n b) [
      | inl is_b ↦ inl (inr (is_b, sym e ∙ ap (position qs) is_b ∙ at_b))
      | inr not_b ↦ inr (other not_a not_b)
    ]
  ] where
    other : n ≢ a → n ≢ b → (k ≢ i) × (k ≢ j) × (position ps n ≡ k)
    other not_a not_b =
        let old : position ps n ≡ k = sym (at_other n not_a not_b) ∙ e in (
          λ is_i. not_a (sym (kept.placed n k blank old some) ∙ ap (λ m. (get_or es m blank).place) is_i),
          λ is_j. not_b (sym (kept.placed n k blank old some) ∙ ap (λ m. (get_or es m blank).place) is_j),
          old,
        )

  swap_inside : (n k : ℕ) → position qs n ≡ k → k ≢ nowhere → k < length ys
  swap_inside n k e some = elim (from_old n k e some) [
    | inl moved ↦ elim moved [ inl m ↦ omega (arith, m.1) | inr m ↦ omega (arith, m.1) ]
    | inr stays ↦ omega (arith, kept.inside n k stays.2 some)
  ]

  swap_placed : (n k : ℕ) (d : ItemFacts) → position qs n ≡ k → k ≢ nowhere → (get_or ys k d).place ≡ n
  swap_placed n k d e some = elim (from_old n k e some) [
    | inl moved ↦ elim moved [
      | inl m ↦ ap (λ l. (get_or ys l d).place) m.1 ∙ ap (λ x. x.place) (swapped.1 d) ∙ place_of i d i_in ∙ sym m.0
      | inr m ↦ ap (λ l. (get_or ys l d).place) m.1 ∙ ap (λ x. x.place) (swapped.0 d) ∙ place_of j d j_in ∙ sym m.0
    ]
    | inr stays ↦ ap (λ x. x.place) (swapped.2 k d stays.0 stays.1) ∙ kept.placed n k d stays.2 some
  ]

  pub swap_indexed : IsIndexed ys qs
  swap_indexed = record { kept = swap_kept; inside = swap_inside; placed = swap_placed }

  swap_at : (n : ℕ) → slice_get ys (position qs n) ≡ slice_get es (position ps n)
  swap_at n = elim (cases_eq n a) [
    | inl is_a ↦ ap (λ m. slice_get ys (position qs m)) is_a ∙ ap (slice_get ys) at_a
        ∙ same_item es ys i j i_in (omega arith) swapped.1
        ∙ sym (ap (λ m. slice_get es (position ps m)) is_a ∙ ap (slice_get es) (kept.kept i blank i_in))
    | inr not_a ↦ elim (cases_eq n b) [
      | inl is_b ↦ ap (λ m. slice_get ys (position qs m)) is_b ∙ ap (slice_get ys) at_b
          ∙ same_item es ys j i j_in (omega arith) swapped.0
          ∙ sym (ap (λ m. slice_get es (position ps m)) is_b ∙ ap (slice_get es) (kept.kept j blank j_in))
      | inr not_b ↦ ap (slice_get ys) (at_other n not_a not_b) ∙ other not_a not_b (position ps n) refl
    ]
  ] where
    other : n ≢ a → n ≢ b → (k : ℕ) → position ps n ≡ k → slice_get ys k ≡ slice_get es k
    other not_a not_b k e = elim (cases_eq k nowhere) [
      | inl none ↦ no_item es ys k none few (omega arith)
      | inr some ↦ let k_in : k < length es = kept.inside n k e some in
          same_item es ys k k k_in (omega arith) (λ d. swapped.2 k d
          (λ is_i. not_a (sym (kept.placed n k blank e some) ∙ ap (λ m. (get_or es m blank).place) is_i))
          (λ is_j. not_b (sym (kept.placed n k blank e some) ∙ ap (λ m. (get_or es m blank).place) is_j)))
    ]

  pub swap_table : table_of ys qs ≡ table_of es ps
  swap_table = ext_get_or None (table_of ys qs) (table_of es ps)
      (length-map qs (slice_get ys) ∙ same_places ∙ sym (length-map ps (slice_get es)))
      (λ n _. table_at ys qs n (omega arith) ∙ swap_at n ∙ sym (table_at es ps n few))

-- ---- an item is put into the hole at a position, and x into the hole that it leaves

module _ (items : List ItemFacts) (positions : List ℕ) (x : ItemFacts) (at p : ℕ) (few : length items ≤ nowhere)
    (hole : HasHole items positions x at) (p_in : p < length items) (apart : p ≢ at) where
  abbrev y : ItemFacts
  y = get_or items p blank

  abbrev es : List ItemFacts
  es = set items at x

  abbrev ps : List ℕ
  ps = set positions x.place at

  abbrev ys : List ItemFacts
  ys = set (set items at y) p x

  abbrev qs : List ℕ
  qs = set (set positions y.place at) x.place p

  es_len : length es ≡ length items
  es_len = length-set items at x

  mid_len : length (set items at y) ≡ length items
  mid_len = length-set items at y

  ys_len : length ys ≡ length es
  ys_len = length-set (set items at y) p x ∙ mid_len ∙ sym es_len

  at_es : (d : ItemFacts) → get_or es at d ≡ x
  at_es d = get_or-set_same items at x d hole.inside

  p_es : (d : ItemFacts) → get_or es p d ≡ y
  p_es d = get_or-set_other items at p x d apart ∙ get_or_default items p d blank p_in

  at_ys : (d : ItemFacts) → get_or ys at d ≡ y
  at_ys d = get_or-set_other (set items at y) p at x d (λ e. apart (sym e)) ∙ get_or-set_same items at y d hole.inside

  p_ys : (d : ItemFacts) → get_or ys p d ≡ x
  p_ys d = get_or-set_same (set items at y) p x d (omega (arith, mid_len))

  other_ys : (k : ℕ) (d : ItemFacts) → k ≢ at → k ≢ p → get_or ys k d ≡ get_or es k d
  other_ys k d not_at not_p = get_or-set_other (set items at y) p k x d not_p ∙ get_or-set_other items at k y d not_at
      ∙ sym (get_or-set_other items at k x d not_at)

  pub hole_swapped : AreSwapped es ys at p
  hole_swapped = (λ d. at_ys d ∙ sym (p_es d), λ d. p_ys d ∙ sym (at_es d), other_ys)

  y_position : position ps y.place ≡ p
  y_position = ap (λ e. position ps e.place) (sym (p_es blank)) ∙ hole.indexed.kept p blank (omega (arith, es_len))

  pub y_ready : y.place < length positions
  y_ready = let inside : y.place < length ps = place_in ps y.place p y_position (λ e. omega (arith, few, p_in, e)) in
      omega (arith, inside, length-set positions x.place at)

  x_position : position ps x.place ≡ at
  x_position = get_or-set_same positions x.place at nowhere hole.ready

  places_apart : y.place ≢ x.place
  places_apart e = apart (sym y_position ∙ ap (position ps) e ∙ x_position)

  at_x : position qs (get_or es at blank).place ≡ p
  at_x = ap (λ e. position qs e.place) (at_es blank)
      ∙ get_or-set_same (set positions y.place at) x.place p nowhere
      (omega (arith, hole.ready, length-set positions y.place at))

  at_y : position qs (get_or es p blank).place ≡ at
  at_y = ap (λ e. position qs e.place) (p_es blank)
      ∙ get_or-set_other (set positions y.place at) x.place y.place p nowhere places_apart
      ∙ get_or-set_same positions y.place at nowhere y_ready

  at_rest : (n : ℕ) → n ≢ (get_or es at blank).place → n ≢ (get_or es p blank).place → position qs n ≡ position ps n
  at_rest n not_x not_y =
      let apart_x : n ≢ x.place = λ e. not_x (e ∙ sym (ap (λ i. i.place) (at_es blank))) in
      let apart_y : n ≢ y.place = λ e. not_y (e ∙ sym (ap (λ i. i.place) (p_es blank))) in
      get_or-set_other (set positions y.place at) x.place n p nowhere apart_x
      ∙ get_or-set_other positions y.place n at nowhere apart_y
      ∙ sym (get_or-set_other positions x.place n at nowhere apart_x)

  qs_len : length qs ≡ length ps
  qs_len = length-set (set positions y.place at) x.place p ∙ length-set positions y.place at
      ∙ sym (length-set positions x.place at)

  pub hole_moved : HasHole (set items at y) (set positions y.place at) x p
  hole_moved = record {
    indexed = swap_indexed es ys ps qs at p hole.indexed (omega (arith, few, es_len))
        (omega (arith, hole.inside, es_len)) (omega (arith, p_in, es_len)) hole_swapped ys_len at_x at_y at_rest qs_len;
    inside = omega (arith, p_in, mid_len);
    ready = omega (arith, length-set positions y.place at, hole.ready);
  }

  pub hole_table : table_with (set items at y) (set positions y.place at) x p ≡ table_with items positions x at
  hole_table = swap_table es ys ps qs at p hole.indexed (omega (arith, few, es_len))
      (omega (arith, hole.inside, es_len)) (omega (arith, p_in, es_len)) hole_swapped ys_len at_x at_y at_rest qs_len

  pub hole_len : length ys ≡ length es
  hole_len = ys_len

-- ---- one is put last

module _ (es new : List ItemFacts) (ps : List ℕ) (x : ItemFacts) (is : new ≡ es ++ x ∷ []) (ready : x.place < length ps)
    (few : length es + 1 ≤ nowhere) (free : get_or (table_of es ps) x.place None ≡ None) (kept : IsIndexed es ps) where
  put_len : length new ≡ length es + 1
  put_len = ap length is ∙ length_push es x

  put_front : (k : ℕ) (d : ItemFacts) → k < length es → get_or new k d ≡ get_or es k d
  put_front k d k_in = ap (λ l. get_or l k d) is ∙ get_or_append_left es (x ∷ []) d k k_in

  put_back : (d : ItemFacts) → get_or new (length es) d ≡ x
  put_back d = ap (λ l. get_or l (length es) d) is ∙ get_or_push es x d (length es) refl

  abbrev put_places : List ℕ
  put_places = set ps x.place (length es)

  put_at_x : position put_places x.place ≡ length es
  put_at_x = get_or-set_same ps x.place (length es) nowhere ready

  put_not_x : (n : ℕ) → n ≢ x.place → position put_places n ≡ position ps n
  put_not_x n not = get_or-set_other ps x.place n (length es) nowhere not

  -- no item has the place yet
  none_there : (k : ℕ) → k < length es → position ps x.place ≡ k → ⊥
  none_there k k_in e = none-some (get_or es k blank) (sym free ∙ table_at es ps x.place (omega (arith, few))
      ∙ ap (slice_get es) e ∙ slice_get-get_or es k blank k_in)

  own : (k : ℕ) (d : ItemFacts) → k < length es → (get_or es k d).place ≢ x.place
  own k d k_in e = none_there k k_in (ap (position ps) (sym e) ∙ kept.kept k d k_in)

  put_old : (n k : ℕ) → position put_places n ≡ k
      → ((n ≡ x.place) × (k ≡ length es)) ⊎ ((n ≢ x.place) × (position ps n ≡ k))
  put_old n k e = elim (cases_eq n x.place) [
    | inl is_x ↦ inl (is_x, sym e ∙ ap (position put_places) is_x ∙ put_at_x)
    | inr not ↦ inr (not, sym (put_not_x n not) ∙ e)
  ]

  put_indexed : IsIndexed new put_places
  put_indexed = record {
    kept = λ k d k_in. elim (cases_eq k (length es)) [
      | inl is_last ↦ ap (λ m. position put_places (get_or new m d).place) is_last
          ∙ ap (λ y. position put_places y.place) (put_back d) ∙ put_at_x ∙ sym is_last
      | inr not ↦ old k d (inside k k_in not)
    ];
    inside = λ n k e some. elim (put_old n k e) [
      | inl last ↦ omega (arith, put_len, last.1)
      | inr old ↦ omega (arith, put_len, kept.inside n k old.1 some)
    ];
    placed = λ n k d e some. elim (put_old n k e) [
      | inl last ↦ ap (λ m. (get_or new m d).place) last.1 ∙ ap (λ y. y.place) (put_back d) ∙ sym last.0
      | inr old ↦ ap (λ y. y.place) (put_front k d (kept.inside n k old.1 some)) ∙ kept.placed n k d old.1 some
    ];
  } where
    inside : (k : ℕ) → k < length new → k ≢ length es → k < length es
    inside k k_in not = omega (arith, put_len)

    old : (k : ℕ) (d : ItemFacts) → k < length es → position put_places (get_or new k d).place ≡ k
    old k d k_in = ap (λ y. position put_places y.place) (put_front k d k_in)
        ∙ put_not_x (get_or es k d).place (own k d k_in) ∙ kept.kept k d k_in

  abbrev with_x : List (Option ItemFacts)
  with_x = set (table_of es ps) x.place (Some x)

  put_at : (n : ℕ) → get_or (table_of new put_places) n None ≡ get_or with_x n None
  put_at n = table_at new put_places n (omega (arith, put_len, few)) ∙ elim (cases_eq n x.place) [
    | inl is_x ↦ ap (λ m. slice_get new (position put_places m)) is_x ∙ ap (slice_get new) put_at_x
        ∙ slice_get-get_or new (length es) blank (omega (arith, put_len)) ∙ ap Some (put_back blank)
        ∙ sym (ap (λ m. get_or with_x m None) is_x ∙ get_or-set_same (table_of es ps) x.place (Some x) None
        (omega (arith, ready, length-map ps (slice_get es))))
    | inr not ↦ ap (slice_get new) (put_not_x n not) ∙ same (position ps n) refl
        ∙ sym (table_at es ps n (omega (arith, few)))
        ∙ sym (get_or-set_other (table_of es ps) x.place n (Some x) None not)
  ] where
    same : (k : ℕ) → position ps n ≡ k → slice_get new k ≡ slice_get es k
    same k e = elim (cases_eq k nowhere) [
      | inl none ↦ no_item es new k none (omega (arith, few)) (omega (arith, put_len, few))
      | inr some ↦ let k_in : k < length es = kept.inside n k e some in
          same_item es new k k k_in (omega (arith, put_len, k_in)) (λ d. put_front k d k_in)
    ]

  put_table : table_of new put_places ≡ with_x
  put_table = ext_get_or None (table_of new put_places) with_x
      (length-map put_places (slice_get new) ∙ length-set ps x.place (length es)
      ∙ sym (length-set (table_of es ps) x.place (Some x) ∙ length-map ps (slice_get es)))
      (λ n _. put_at n)

  -- so it is as if it were put into a hole behind the others
  put_same : set new (length es) x ≡ new
  put_same = ap (set new (length es)) (sym (put_back blank)) ∙ set-get_or new (length es) blank

  pub put_hole : HasHole new ps x (length es)
  put_hole = record {
    indexed = subst (λ l. IsIndexed l put_places) (sym put_same) put_indexed;
    inside = omega (arith, put_len);
    ready = ready;
  }

  pub put_with : table_with new ps x (length es) ≡ set (table_of es ps) x.place (Some x)
  put_with = ap (λ l. table_of l put_places) put_same ∙ put_table

-- ---- the last one is taken off

module _ (es rest : List ItemFacts) (ps : List ℕ) (x : ItemFacts) (is : es ≡ rest ++ x ∷ []) (few : length es ≤ nowhere)
    (kept : IsIndexed es ps) where
  end_len : length es ≡ length rest + 1
  end_len = ap length is ∙ length_push rest x

  front : (k : ℕ) (d : ItemFacts) → k < length rest → get_or rest k d ≡ get_or es k d
  front k d k_in = sym (ap (λ l. get_or l k d) is ∙ get_or_append_left rest (x ∷ []) d k k_in)

  pub back : (d : ItemFacts) → get_or es (length rest) d ≡ x
  back d = ap (λ l. get_or l (length rest) d) is ∙ get_or_push rest x d (length rest) refl

  x_at_end : position ps x.place ≡ length rest
  x_at_end = ap (λ e. position ps e.place) (sym (back blank)) ∙ kept.kept (length rest) blank (omega (arith, end_len))

  pub last_ready : x.place < length ps
  last_ready = place_in ps x.place (length rest) x_at_end (λ e. omega (arith, few, end_len, e))

  -- another item has another place
  other_place : (k : ℕ) (d : ItemFacts) → k < length rest → (get_or es k d).place ≢ x.place
  other_place k d k_in e =
      still (own_places es ps kept k (length rest) d (omega (arith, k_in, end_len)) (omega (arith, end_len))
      (e ∙ sym (ap (λ y. y.place) (back d)))) where
        still : k ≢ length rest
        still same = omega arith

  abbrev left_places : List ℕ
  left_places = set ps x.place nowhere

  left_at_x : position left_places x.place ≡ nowhere
  left_at_x = get_or-set_same ps x.place nowhere nowhere last_ready

  left_not_x : (n : ℕ) → n ≢ x.place → position left_places n ≡ position ps n
  left_not_x n not = get_or-set_other ps x.place n nowhere nowhere not

  left_old : (n k : ℕ) → position left_places n ≡ k → k ≢ nowhere → (n ≢ x.place) × (position ps n ≡ k)
  left_old n k e some =
      let not : n ≢ x.place = λ is_x. some (sym e ∙ ap (position left_places) is_x ∙ left_at_x) in
      (not, sym (left_not_x n not) ∙ e)

  -- what is kept of another place isn't at the end
  pub in_rest : (n k : ℕ) → n ≢ x.place → position ps n ≡ k → k ≢ nowhere → k < length rest
  in_rest n k not e some =
      let inside : k < length es = kept.inside n k e some in
      let not_last : k ≢ length rest = λ is_last. not (sym (kept.placed n k blank e some)
      ∙ ap (λ m. (get_or es m blank).place) is_last ∙ ap (λ y. y.place) (back blank)) in
      omega (arith, inside, not_last, end_len)

  pub drop_indexed : IsIndexed rest left_places
  drop_indexed = record {
    kept = λ k d k_in. ap (λ e. position left_places e.place) (front k d k_in)
        ∙ left_not_x (get_or es k d).place (other_place k d k_in) ∙ kept.kept k d (omega (arith, k_in, end_len));
    inside = λ n k e some. let old = left_old n k e some in in_rest n k old.0 old.1 some;
    placed = λ n k d e some. let old = left_old n k e some in
        ap (λ y. y.place) (front k d (in_rest n k old.0 old.1 some)) ∙ kept.placed n k d old.1 some;
  }

  abbrev without_x : List (Option ItemFacts)
  without_x = set (table_of es ps) x.place None

  left_at : (n : ℕ) → get_or (table_of rest left_places) n None ≡ get_or without_x n None
  left_at n = table_at rest left_places n (omega (arith, few, end_len)) ∙ elim (cases_eq n x.place) [
    | inl is_x ↦ ap (λ m. slice_get rest (position left_places m)) is_x ∙ ap (slice_get rest) left_at_x
        ∙ slice_get_past rest nowhere (omega (arith, few, end_len))
        ∙ sym (ap (λ m. get_or without_x m None) is_x ∙ get_or-set_same (table_of es ps) x.place None None
        (omega (arith, last_ready, length-map ps (slice_get es))))
    | inr not ↦ ap (slice_get rest) (left_not_x n not) ∙ same not (position ps n) refl ∙ sym (table_at es ps n few)
        ∙ sym (get_or-set_other (table_of es ps) x.place n None None not)
  ] where
    same : n ≢ x.place → (k : ℕ) → position ps n ≡ k → slice_get rest k ≡ slice_get es k
    same not k e = elim (cases_eq k nowhere) [
      | inl none ↦ no_item es rest k none few (omega (arith, few, end_len))
      | inr some ↦ let k_in : k < length rest = in_rest n k not e some in
          same_item es rest k k (omega (arith, k_in, end_len)) k_in (λ d. front k d k_in)
    ]

  pub drop_table : table_of rest left_places ≡ without_x
  drop_table = ext_get_or None (table_of rest left_places) without_x
      (length-map left_places (slice_get rest) ∙ length-set ps x.place nowhere
      ∙ sym (length-set (table_of es ps) x.place None ∙ length-map ps (slice_get es)))
      (λ n _. left_at n)

  -- ---- the one at a position is taken out, and the last one put there

  module _ (at : ℕ) (at_in : at < length rest) where
    abbrev out : ItemFacts
    out = get_or rest at blank

    abbrev filled : List ItemFacts
    filled = set rest at x

    abbrev moved_places : List ℕ
    moved_places = set (set ps out.place nowhere) x.place at

    pub out_is : (d : ItemFacts) → get_or es at d ≡ out
    out_is d = sym (front at d at_in) ∙ get_or_default rest at d blank at_in

    out_apart : out.place ≢ x.place
    out_apart e = other_place at blank at_in (ap (λ y. y.place) (out_is blank) ∙ e)

    out_position : position ps out.place ≡ at
    out_position = ap (λ y. position ps y.place) (sym (out_is blank))
        ∙ kept.kept at blank (omega (arith, at_in, end_len))

    pub out_ready : out.place < length ps
    out_ready = place_in ps out.place at out_position (λ e. omega (arith, few, end_len, at_in, e))

    moved_x : position moved_places x.place ≡ at
    moved_x = get_or-set_same (set ps out.place nowhere) x.place at nowhere
        (omega (arith, last_ready, length-set ps out.place nowhere))

    moved_out : position moved_places out.place ≡ nowhere
    moved_out = get_or-set_other (set ps out.place nowhere) x.place out.place at nowhere out_apart
        ∙ get_or-set_same ps out.place nowhere nowhere out_ready

    moved_other : (n : ℕ) → n ≢ x.place → n ≢ out.place → position moved_places n ≡ position ps n
    moved_other n not_x not_out = get_or-set_other (set ps out.place nowhere) x.place n at nowhere not_x
        ∙ get_or-set_other ps out.place n nowhere nowhere not_out

    filled_len : length filled ≡ length rest
    filled_len = length-set rest at x

    at_filled : (d : ItemFacts) → get_or filled at d ≡ x
    at_filled d = get_or-set_same rest at x d at_in

    other_filled : (k : ℕ) (d : ItemFacts) → k < length rest → k ≢ at → get_or filled k d ≡ get_or es k d
    other_filled k d k_in not = get_or-set_other rest at k x d not ∙ front k d k_in

    moved_old : (n k : ℕ) → position moved_places n ≡ k → k ≢ nowhere
        → ((n ≡ x.place) × (k ≡ at)) ⊎ ((n ≢ x.place) × (n ≢ out.place) × (position ps n ≡ k))
    moved_old n k e some = elim (cases_eq n x.place) [
      | inl is_x ↦ inl (is_x, sym e ∙ ap (position moved_places) is_x ∙ moved_x)
      | inr not_x ↦
          let not_out : n ≢ out.place = λ is_out. some (sym e ∙ ap (position moved_places) is_out ∙ moved_out) in
          inr (not_x, not_out, sym (moved_other n not_x not_out) ∙ e)
    ]

    -- what is kept of a place but these two is at another position
    elsewhere : (n k : ℕ) → n ≢ out.place → position ps n ≡ k → k ≢ nowhere → k ≢ at
    elsewhere n k not_out e some is_at = not_out (sym (kept.placed n k blank e some)
        ∙ ap (λ m. (get_or es m blank).place) is_at ∙ ap (λ y. y.place) (out_is blank))

    filled_kept : (k : ℕ) (d : ItemFacts) → k < length filled → position moved_places (get_or filled k d).place ≡ k
    filled_kept k d k_in = elim (cases_eq k at) [
      | inl is_at ↦ subst (λ m. position moved_places (get_or filled m d).place ≡ m) (sym is_at)
          (ap (λ y. position moved_places y.place) (at_filled d) ∙ moved_x)
      | inr not ↦ ap (λ y. position moved_places y.place) (other_filled k d k_rest not)
          ∙ moved_other (get_or es k d).place (other_place k d k_rest) (not_out not)
          ∙ kept.kept k d (omega (arith, k_rest, end_len))
    ] where
      k_rest : k < length rest
      k_rest = omega (arith, filled_len)

      not_out : k ≢ at → (get_or es k d).place ≢ out.place
      not_out not e = not (own_places es ps kept k at d (omega (arith, k_rest, end_len)) (omega (arith, at_in, end_len))
          (e ∙ sym (ap (λ y. y.place) (out_is d))))

    fill_indexed : IsIndexed filled moved_places
    fill_indexed = record {
      kept = filled_kept;
      inside = λ n k e some. elim (moved_old n k e some) [
        | inl moved ↦ omega (arith, moved.1, at_in, filled_len)
        | inr old ↦ omega (arith, in_rest n k old.0 old.2 some, filled_len)
      ];
      placed = λ n k d e some. elim (moved_old n k e some) [
        | inl moved ↦ ap (λ m. (get_or filled m d).place) moved.1 ∙ ap (λ y. y.place) (at_filled d) ∙ sym moved.0
        | inr old ↦ ap (λ y. y.place) (other_filled k d (in_rest n k old.0 old.2 some) (elsewhere n k old.1 old.2 some))
            ∙ kept.placed n k d old.2 some
      ];
    }

    abbrev without_out : List (Option ItemFacts)
    without_out = set (table_of es ps) out.place None

    fill_at : (n : ℕ) → get_or (table_of filled moved_places) n None ≡ get_or without_out n None
    fill_at n = table_at filled moved_places n (omega (arith, filled_len, few, end_len)) ∙ elim (cases_eq n out.place) [
      | inl is_out ↦ ap (λ m. slice_get filled (position moved_places m)) is_out ∙ ap (slice_get filled) moved_out
          ∙ slice_get_past filled nowhere (omega (arith, filled_len, few, end_len))
          ∙ sym (ap (λ m. get_or without_out m None) is_out ∙ get_or-set_same (table_of es ps) out.place None None
          (omega (arith, out_ready, length-map ps (slice_get es))))
      | inr not_out ↦ elsewhere_same not_out ∙ sym (table_at es ps n few)
          ∙ sym (get_or-set_other (table_of es ps) out.place n None None not_out)
    ] where
      same : n ≢ x.place → n ≢ out.place → (k : ℕ) → position ps n ≡ k → slice_get filled k ≡ slice_get es k
      same not_x not_out k e = elim (cases_eq k nowhere) [
        | inl none ↦ no_item es filled k none few (omega (arith, filled_len, few, end_len))
        | inr some ↦ let k_in : k < length rest = in_rest n k not_x e some in
            same_item es filled k k (omega (arith, k_in, end_len)) (omega (arith, k_in, filled_len))
            (λ d. other_filled k d k_in (elsewhere n k not_out e some))
      ]

      elsewhere_same : n ≢ out.place → slice_get filled (position moved_places n) ≡ slice_get es (position ps n)
      elsewhere_same not_out = elim (cases_eq n x.place) [
        | inl is_x ↦ ap (λ m. slice_get filled (position moved_places m)) is_x ∙ ap (slice_get filled) moved_x
            ∙ same_item es filled (length rest) at (omega (arith, end_len)) (omega (arith, at_in, filled_len))
            (λ d. at_filled d ∙ sym (back d))
            ∙ sym (ap (λ m. slice_get es (position ps m)) is_x ∙ ap (slice_get es) x_at_end)
        | inr not_x ↦ ap (slice_get filled) (moved_other n not_x not_out) ∙ same not_x not_out (position ps n) refl
      ]

    -- the last one is to go into the hole that is left
    pub fill_hole : HasHole rest (set ps out.place nowhere) x at
    fill_hole = record {
      indexed = fill_indexed;
      inside = at_in;
      ready = omega (arith, last_ready, length-set ps out.place nowhere);
    }

    pub fill_table : table_with rest (set ps out.place nowhere) x at ≡ without_out
    fill_table = ext_get_or None (table_of filled moved_places) without_out
        (length-map moved_places (slice_get filled) ∙ length-set (set ps out.place nowhere) x.place at
        ∙ length-set ps out.place nowhere
        ∙ sym (length-set (table_of es ps) out.place None ∙ length-map ps (slice_get es)))
        (λ n _. fill_at n)
