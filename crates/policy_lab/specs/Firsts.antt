-- What both policies go by: the first entry in their orders has the least rank.
use Rattle.std.proofs.Common.{◌≡◌, ◌≤◌, ◌<◌, ◌⊎◌, ◌+◌, ◌*◌, ◌/◌, ◌%◌, ◌^◌, ℕ, refl, List, [], ◌∷◌, Bool, true, false}
use Rattle.std.proofs.Common.{cond}
use Rattle.std.proofs.Common.{option_map, inl, inr, fold, arith, ap, sym, ◌∙◌, subst, Some, ◌||◌, ◌&&◌, ◌==◌, nat_lt}
use Rattle.std.proofs.lemmas.Nat.{mul-le, le-div, div_below}
use Rattle.std.proofs.Math.Nat.{div-add-mod, mod-lt, add-mul}
use Rattle.std.proofs.lemmas.Bool.{cases_lt}
use Rattle.dover_model.specs.declared.events.Entry.{Entry}
use Rattle.dover_model.specs.Common.{IsMember, Each, first, earlier}
use Rattle.dover_model.proofs.lists.Members.{map_member, by_bool}
use Rattle.policy_lab.specs.Picks.{IsPolicy, number_of}
use Rattle.policy_lab.specs.Ranks.{IsEntry, IsRanked, turn_by}
use Rattle.policy_lab.specs.Standard.{is_due_first, is_denser, earliest_deadline, greatest_density}

module _ (before : Entry → Entry → Bool) where
  -- the best so far stays a member
  fold_member : (entries : List Entry) (best : Entry) → IsMember (fold (earlier before) best entries) (best ∷ entries)
  fold_member [] best = inl refl
  fold_member (e ∷ entries) best = by_test (before e best) (fold_member entries (earlier before best e)) where
    by_test : (b : Bool) → IsMember (fold (earlier before) (cond b e best) entries) (cond b e best ∷ entries)
        → IsMember (fold (earlier before) (cond b e best) entries) (best ∷ e ∷ entries)
    by_test true member = inr member
    by_test false (inl here) = inl here
    by_test false (inr later) = inr (inr later)

  -- the number of the first entry is one of them
  first_picks : IsPolicy (λ entries. option_map number_of (first before entries))
  first_picks [] ready = refl
  first_picks (e ∷ entries) ready =
      map_member number_of (e ∷ entries) (fold (earlier before) e entries) (fold_member entries e)

  -- it, or one that it comes before
  abbrev Follows : Entry → Entry → Type 0
  Follows e o = (o ≡ e) ⊎ ((before e o ≡ true) × (before o e ≡ false))

  module _ (e : Entry) (alone : before e e ≡ false) where
    -- once found it stays
    fold_stays : (entries : List Entry) → Each (Follows e) entries → fold (earlier before) e entries ≡ e
    fold_stays [] all = refl
    fold_stays (o ∷ entries) all = by_case (all o (inl refl)) (fold_stays entries (λ u m. all u (inr m))) where
      by_case : Follows e o → fold (earlier before) e entries ≡ e
          → fold (earlier before) (earlier before e o) entries ≡ e
      by_case (inl same) rest = ap (λ b. fold (earlier before) (cond b o e) entries)
          (ap (λ (y : Entry). before y e) same ∙ alone) ∙ rest
      by_case (inr behind) rest = ap (λ b. fold (earlier before) (cond b o e) entries) behind.1 ∙ rest

    -- it is found
    fold_finds : (entries : List Entry) (best : Entry) → before e best ≡ true → IsMember e entries
        → Each (Follows e) entries → fold (earlier before) best entries ≡ e
    fold_finds [] best ahead member all = absurd member
    fold_finds (o ∷ entries) best ahead member all =
        by_case member (all o (inl refl)) (λ b h m. fold_finds entries b h m (λ u n. all u (inr n))) where
          here : o ≡ e → fold (earlier before) (earlier before best o) entries ≡ e
          here same = ap (λ b. fold (earlier before) (cond b o best) entries)
              (ap (λ (y : Entry). before y best) same ∙ ahead)
              ∙ ap (λ (y : Entry). fold (earlier before) y entries) same ∙ fold_stays entries (λ u m. all u (inr m))

          by_case : IsMember e (o ∷ entries) → Follows e o
              → ((b : Entry) → before e b ≡ true → IsMember e entries → fold (earlier before) b entries ≡ e)
              → fold (earlier before) (earlier before best o) entries ≡ e
          by_case (inl same) follows more = here (sym same)
          by_case (inr later) (inl same) more = here same
          by_case (inr later) (inr behind) more = by_bool _ (before o best)
              (λ h. ap (λ b. fold (earlier before) (cond b o best) entries) h ∙ more o behind.0 later)
              (λ h. ap (λ b. fold (earlier before) (cond b o best) entries) h ∙ more best ahead later)

    -- the first is the one that all others follow
    first_is : (entries : List Entry) → IsMember e entries → Each (Follows e) entries → first before entries ≡ Some e
    first_is [] member all = absurd member
    first_is (o ∷ entries) member all = ap Some (by_case member (all o (inl refl))) where
      here : o ≡ e → fold (earlier before) o entries ≡ e
      here same = ap (λ (y : Entry). fold (earlier before) y entries) same
          ∙ fold_stays entries (λ u m. all u (inr m))

      by_case : IsMember e (o ∷ entries) → Follows e o → fold (earlier before) o entries ≡ e
      by_case (inl same) follows = here (sym same)
      by_case (inr later) (inl same) = here same
      by_case (inr later) (inr behind) = fold_finds entries o behind.0 later (λ u m. all u (inr m))

  -- in an order by ranks the one of the least turn is first
  least_first : (ranks : Entry → ℕ) → ((e : Entry) → before e e ≡ false)
      → ((e o : Entry) → IsEntry e → IsEntry o → turn_by ranks e < turn_by ranks o
      → (before e o ≡ true) × (before o e ≡ false))
      → (e : Entry) (entries : List Entry) → Each IsEntry entries → IsMember e entries
      → Each (λ o. (o ≡ e) ⊎ (turn_by ranks e < turn_by ranks o)) entries
      → option_map number_of (first before entries) ≡ Some e.number
  least_first ranks alone by_turn e entries good member all =
      ap (option_map number_of)
      (first_is e (alone e) entries member (λ o at. by_case o at (all o at))) where
        by_case : (o : Entry) → IsMember o entries → (o ≡ e) ⊎ (turn_by ranks e < turn_by ranks o) → Follows e o
        by_case o at (inl same) = inl same
        by_case o at (inr behind) = inr (by_turn e o (good e member) (good o at) behind)

-- ---- earliest deadline first

-- its rank
abbrev pub due : Entry → ℕ
due e = e.deadline

-- as numbers
due_by_turn : (a m b n : ℕ) → m < 2 ^ 20 → n < 2 ^ 20 → a * 2 ^ 20 + m < b * 2 ^ 20 + n
    → ((nat_lt a b || ((a == b) && nat_lt m n)) ≡ true) × ((nat_lt b a || ((b == a) && nat_lt n m)) ≡ false)
due_by_turn a m b n low high less = (grind arith, grind arith)

due_alone : (a m : ℕ) → (nat_lt a a || ((a == a) && nat_lt m m)) ≡ false
due_alone a m = grind arith

pub deadlines_rank : IsRanked earliest_deadline due
deadlines_rank = record {
  policy = first_picks is_due_first;
  least = least_first is_due_first due (λ e. due_alone e.deadline e.number)
      (λ e o good other less. due_by_turn e.deadline e.number o.deadline o.number good.few other.few less);
  falls = λ e f same _ _ _. omega (arith, same);
  low = λ e good. omega (arith, good.due);
}

-- ---- greatest density first

-- ticks for each unit of value, in parts of 10^18, rounded down
abbrev pub thinness : Entry → ℕ
thinness e = e.left * 1_000_000_000_000_000_000 / e.value

-- what a quotient says
quotient_says : (n v : ℕ) → 0 < v → (n / v * v ≤ n) × (n + 1 ≤ (n / v + 1) * v)
quotient_says n v some = (omega (arith, whole, rest), omega (arith, whole, rest)) where
  whole : v * (n / v) + n % v ≡ n
  whole = div-add-mod n v

  rest : n % v < v
  rest = mod-lt n some

-- of a greater rank there is less value for each tick
thinner : (l v r w : ℕ) → 0 < v → 0 < w → l * 1_000_000_000_000_000_000 / v < r * 1_000_000_000_000_000_000 / w
    → w * l < v * r
thinner l v r w some more less = by_order (cases_lt (w * l) (v * r)) where
  on_numbers : (l v r w a b : ℕ) → 0 < v → 0 < w → v * r ≤ w * l → l * 1_000_000_000_000_000_000 + 1 ≤ (a + 1) * v
      → b * w ≤ r * 1_000_000_000_000_000_000 → a < b → ⊥
  on_numbers l v r w a b some more not above below less =
      let one : (a + 1) * (v * w) ≤ b * (v * w) = mul-le (a + 1) (v * w) b (v * w) (omega (arith, less))
      (omega arith) in
      let two : (b * w) * v ≤ (r * 1_000_000_000_000_000_000) * v =
      mul-le (b * w) v (r * 1_000_000_000_000_000_000) v below (omega arith) in
      let three : (l * 1_000_000_000_000_000_000 + 1) * w ≤ ((a + 1) * v) * w =
      mul-le (l * 1_000_000_000_000_000_000 + 1) w ((a + 1) * v) w above (omega arith) in
      omega (arith, not, more)

  by_order : (w * l < v * r) ⊎ (v * r ≤ w * l) → w * l < v * r
  by_order (inl is) = is
  by_order (inr not) = absurd (on_numbers l v r w _ _ some more not
      (quotient_says (l * 1_000_000_000_000_000_000) v some).1
      (quotient_says (r * 1_000_000_000_000_000_000) w more).0 less)

-- and of the same rank there is as much
as_thin : (l v r w : ℕ) → 0 < v → 0 < w → v ≤ 1_000_000_000 → w ≤ 1_000_000_000
    → l * 1_000_000_000_000_000_000 / v ≡ r * 1_000_000_000_000_000_000 / w → v * r ≤ w * l
as_thin l v r w some more low high same = by_order (cases_lt (w * l) (v * r)) where
  on_numbers : (l v r w a b : ℕ) → 0 < v → v ≤ 1_000_000_000 → w ≤ 1_000_000_000 → w * l < v * r
      → a * v ≤ l * 1_000_000_000_000_000_000 → r * 1_000_000_000_000_000_000 + 1 ≤ (b + 1) * w → a ≡ b → ⊥
  on_numbers l v r w a b some low high less below above same =
      let most : v * w ≤ 1_000_000_000 * 1_000_000_000 = mul-le v w 1_000_000_000 1_000_000_000 low high in
      let one : (a * v) * w ≤ (l * 1_000_000_000_000_000_000) * w =
      mul-le (a * v) w (l * 1_000_000_000_000_000_000) w below (omega arith) in
      let parts : r * 1_000_000_000_000_000_000 + 1 ≤ b * w + w = omega (arith, above, add-mul b 1 w) in
      let two : (r * 1_000_000_000_000_000_000 + 1) * v ≤ (b * w + w) * v =
      mul-le (r * 1_000_000_000_000_000_000 + 1) v (b * w + w) v parts (omega arith) in
      let three : a * (v * w) ≡ b * (v * w) = ap (λ n. n * (v * w)) same in
      omega (arith, less, some, add-mul (r * 1_000_000_000_000_000_000) 1 v, add-mul (b * w) w v)

  by_order : (w * l < v * r) ⊎ (v * r ≤ w * l) → v * r ≤ w * l
  by_order (inr is) = is
  by_order (inl less) = absurd (on_numbers l v r w _ _ some low high less
      (quotient_says (l * 1_000_000_000_000_000_000) v some).0
      (quotient_says (r * 1_000_000_000_000_000_000) w more).1 same)

-- as numbers
denser_by : (p q m n : ℕ) → (p < q) ⊎ ((p ≡ q) × (m < n)) → ((nat_lt p q || ((q == p) && nat_lt m n)) ≡ true)
    × ((nat_lt q p || ((p == q) && nat_lt n m)) ≡ false)
denser_by p q m n (inl less) = (grind arith, grind arith)
denser_by p q m n (inr tie) = let same : p ≡ q = tie.0 in let below : m < n = tie.1 in (grind arith, grind arith)

dense_alone : (p m : ℕ) → (nat_lt p p || ((p == p) && nat_lt m m)) ≡ false
dense_alone p m = grind arith

-- by turns
denser_by_turn : (e o : Entry) → IsEntry e → IsEntry o → turn_by thinness e < turn_by thinness o
    → (is_denser e o ≡ true) × (is_denser o e ≡ false)
denser_by_turn e o good other less =
    denser_by (o.value * e.left) (e.value * o.left) e.number o.number
    (by_rank (cases_lt (thinness e) (thinness o))) where
      by_rank : (thinness e < thinness o) ⊎ (thinness o ≤ thinness e)
          → (o.value * e.left < e.value * o.left) ⊎ ((o.value * e.left ≡ e.value * o.left) × (e.number < o.number))
      by_rank (inl below) =
          inl (thinner e.left e.value o.left o.value (omega (arith, good.worth)) (omega (arith, other.worth)) below)
      by_rank (inr above) =
          let same : thinness e ≡ thinness o = omega (arith, above, less, good.few, other.few) in
          let one : e.value * o.left ≤ o.value * e.left =
          as_thin e.left e.value o.left o.value (omega (arith, good.worth)) (omega (arith, other.worth)) good.modest
          other.modest same in
          let two : o.value * e.left ≤ e.value * o.left =
          as_thin o.left o.value e.left e.value (omega (arith, other.worth)) (omega (arith, good.worth)) other.modest
          good.modest (sym same) in
          inr (omega (arith, one, two), omega (arith, same, less))

-- the less is left, the less the rank
thin_falls : (v l m : ℕ) → 1 ≤ v → l ≤ m
    → l * 1_000_000_000_000_000_000 / v ≤ m * 1_000_000_000_000_000_000 / v
thin_falls v l m some less = le-div (l * 1_000_000_000_000_000_000 / v) (m * 1_000_000_000_000_000_000) v
    (omega (arith, some))
    (omega (arith, (quotient_says (l * 1_000_000_000_000_000_000) v (omega (arith, some))).0, less))

pub densities_rank : IsRanked greatest_density thinness
densities_rank = record {
  policy = first_picks is_denser;
  least = least_first is_denser thinness (λ e. dense_alone (e.value * e.left) e.number) denser_by_turn;
  falls = λ e f _ same some less.
      subst (λ v. f.left * 1_000_000_000_000_000_000 / v ≤ thinness e) (sym same)
      (thin_falls e.value f.left e.left some less);
  low = λ e good. div_below (e.left * 1_000_000_000_000_000_000) e.value (2 ^ 100) (omega (arith, good.worth))
      (omega (arith, good.worth, good.small));
}
