-- The jobs that are released and not done, as their heap changes.
use Rattle.std.proofs.Common.{◌≡◌, ℕ, ◌+◌, ◌*◌, ◌/◌, ◌%◌, ◌^◌, ◌≤◌, ◌<◌, ◌⊎◌, inl, inr, List, [], ◌∷◌, ◌++◌, length}
use Rattle.std.proofs.Common.{refl, sym, ap, ◌∙◌, subst, arith, true, false, cond, Option, Some, None, IsSome, IfSome}
use Rattle.std.proofs.Common.{slice_index_or, slice_set, IsPermutation, ◌==◌, sum_by, nat_cmp, is_lt, eq-eqb, ne_eqb}
use Rattle.std.proofs.Common.{get_or-set_same, get_or-set_other, length-set, length-append}
use Rattle.std.specs.declared.cmp.Ordering.{Ordering}
use Rattle.std.specs.declared.cmp.Ordering.TheVariants.{Less, Equal, Greater}
use Rattle.std.specs.BinaryHeap.{IsHeap, IsUpperBound, PopsGreatest}
use Rattle.std.proofs.lemmas.Bool.{cases_eq}
use Rattle.std.proofs.lemmas.Cmp.{ranked}
use Rattle.std.proofs.lemmas.Nat.{div-mul-add, mod-mul-add}
use Rattle.std.proofs.Math.Nat.{div-add-mod, mod-lt}
use Rattle.std.proofs.lemmas.List.{get_or_append_left, get_or_push}
use Rattle.std.proofs.lemmas.List.Elements.{All-from_recursion, recursion_from_All}
use Rattle.std.proofs.lemmas.List.Sorted.{All-permutation, IsPermutation-map, sum_by_pushed, sum_by_popped}
use Rattle.std.proofs.lemmas.List.Sums.{sum_by-cons}
use Rattle.dover_model.specs.Sound.{IsMember, Each}
use Rattle.dover_model.proofs.lists.Members.{all_member, on_map, map_same, sum_zero, term_le_sum, each_all}
use Rattle.clairvoyant.specs.feasible.Queue.{Kept, Turn, key_of, turn_cmp, kept_of, is_of, IsInTurn, AreBehind, IsFirst}
use Rattle.clairvoyant.specs.feasible.Queue.{IsTakenOut}

-- ---- the same in another order

-- what holds of each holds of each in another order
each_moved : {X : Type 0} (P : X → Type 0) (xs ys : List X) → IsPermutation xs ys → Each P xs → Each P ys
each_moved P xs ys moved all = all_member P ys
    (recursion_from_All P ys (All-permutation P xs ys moved (All-from_recursion P xs (each_all P xs all))))

-- the members are the same
pub member_moved : {X : Type 0} (xs ys : List X) → IsPermutation xs ys → (x : X) → IsMember x ys → IsMember x xs
member_moved xs ys moved = each_moved (λ x. IsMember x xs) xs ys moved (λ x member. member)

-- ---- by deadline and number

-- a turn has its number behind its deadline
parts_of : (t : Turn) → (t.0 ≡ 2 ^ 20 * (key_of t).0 + (key_of t).1) × ((key_of t).1 < 2 ^ 20)
parts_of t = (sym (div-add-mod t.0 (2 ^ 20)), mod-lt t.0 (omega arith))

-- the turn of a deadline and a number
pub key_is : (t : Turn) (due n : ℕ) → t.0 ≡ due * 2 ^ 20 + n → n < 2 ^ 20 → key_of t ≡ (due, n)
key_is t due n is small =
    ap (λ (k : ℕ). (k / 2 ^ 20, k % 2 ^ 20)) is
    ∙ ap (λ (d : ℕ). (d, (due * 2 ^ 20 + n) % 2 ^ 20)) (div-mul-add due (2 ^ 20) n small)
    ∙ ap (λ (m : ℕ). (due, m)) (mod-mul-add due (2 ^ 20) n small)

-- of two jobs one is behind the other where it doesn't come before it
key_behind : (s t : Turn) → is_lt (turn_cmp s t) ≡ false → ((key_of t).1 ≡ (key_of s).1 → ⊥)
    → ((key_of s).0 < (key_of t).0) ⊎ (((key_of s).0 ≡ (key_of t).0) × ((key_of s).1 < (key_of t).1))
key_behind s t not_before other = by_turn (nat_cmp t.0 s.0) refl not_before where
  by_due : s.0 < t.0 → (o : Ordering) → nat_cmp (key_of t).0 (key_of s).0 ≡ o
      → ((key_of s).0 < (key_of t).0) ⊎ (((key_of s).0 ≡ (key_of t).0) × ((key_of s).1 < (key_of t).1))
  by_due low Less f =
      let sooner : (key_of t).0 < (key_of s).0 = ranked (key_of t).0 (key_of s).0 Less (sym f) in
      absurd (omega (arith, low, sooner, (parts_of s).0, (parts_of s).1, (parts_of t).0, (parts_of t).1))
  by_due low Equal f =
      let same : (key_of t).0 ≡ (key_of s).0 = ranked (key_of t).0 (key_of s).0 Equal (sym f) in
      inr (sym same, omega (arith, low, same, (parts_of s).0, (parts_of t).0))
  by_due low Greater f = inl (ranked (key_of t).0 (key_of s).0 Greater (sym f))

  by_turn : (o : Ordering) → nat_cmp t.0 s.0 ≡ o → is_lt o ≡ false
      → ((key_of s).0 < (key_of t).0) ⊎ (((key_of s).0 ≡ (key_of t).0) × ((key_of s).1 < (key_of t).1))
  by_turn Less f not = absurd (let no : true ≡ false = not in cc)
  by_turn Equal f not = absurd (other (ap (λ (k : ℕ). k % 2 ^ 20) (ranked t.0 s.0 Equal (sym f))))
  by_turn Greater f not = by_due (ranked t.0 s.0 Greater (sym f)) (nat_cmp (key_of t).0 (key_of s).0) refl

-- jobs of other numbers that don't come before one are behind it
all_behind : (left : List ℕ) (t : Turn) (turns : List Turn) → IsUpperBound turn_cmp t turns
    → Each (λ u. (key_of u).1 ≡ (key_of t).1 → ⊥) turns → AreBehind (key_of t).0 (key_of t).1 (kept_of left turns)
all_behind left t turns bound others =
    on_map (λ (u : Turn). (key_of u, slice_index_or left (key_of u).1 0))
    (λ e. ((key_of t).0 < e.0.0) ⊎ (((key_of t).0 ≡ e.0.0) × ((key_of t).1 < e.0.1))) turns
    (λ u member. key_behind t u (all_member _ turns bound u member) (others u member))

-- ---- each job once

-- 1 if the numbers are the same
abbrev one_of : ℕ → ℕ → ℕ
one_of m n = cond (m == n) 1 0

-- a job has its own number
of_itself : (n : ℕ) → one_of n n ≡ 1
of_itself n = ap (λ b. cond {A = ℕ} b 1 0) (eq-eqb n n refl)

-- and no other
of_other : (m n : ℕ) → (m ≡ n → ⊥) → one_of m n ≡ 0
of_other m n other = ap (λ b. cond {A = ℕ} b 1 0) (ne_eqb m n other)

-- of a job and others none has its number again
head_apart : (t : Turn) (turns : List Turn) → ((n : ℕ) → sum_by (is_of n) (t ∷ turns) ≤ 1)
    → Each (λ u. (key_of u).1 ≡ (key_of t).1 → ⊥) turns
head_apart t turns once u member same =
    let here : is_of (key_of t).1 t ≡ 1 = of_itself (key_of t).1 in
    let there : is_of (key_of t).1 u ≡ 1 = ap (λ m. one_of m (key_of t).1) same ∙ of_itself (key_of t).1 in
    omega (
      arith,
      here,
      there,
      once (key_of t).1,
      sum_by-cons (is_of (key_of t).1) t turns,
      term_le_sum (is_of (key_of t).1) turns u member,
    )

-- a new number is there once
new_apart : (t : Turn) (turns now : List Turn) → IsPermutation (t ∷ turns) now
    → Each (λ u. (key_of u).1 < (key_of t).1) turns
    → ((n : ℕ) → sum_by (is_of n) turns ≤ 1)
    → (n : ℕ) → sum_by (is_of n) now ≤ 1
new_apart t turns now moved low once n = elim (cases_eq (key_of t).1 n) [
  | inl same ↦ let none : sum_by (is_of n) turns ≡ 0 = sum_zero (is_of n) turns
      (λ u member. of_other (key_of u).1 n (λ also. omega (arith, low u member))) in
      let one : is_of n t ≡ 1 = ap (λ m. one_of m n) same ∙ of_itself n in
      omega (arith, none, one, sum_by_pushed (is_of n) t turns now moved)
  | inr other ↦ omega (arith, of_other (key_of t).1 n other, once n, sum_by_pushed (is_of n) t turns now moved)
]

-- ---- what is left of each

-- of jobs of other numbers the same is left
left_of_others : (left : List ℕ) (n k : ℕ) (turns : List Turn) → Each (λ u. (key_of u).1 ≡ n → ⊥) turns
    → kept_of (slice_set left n k) turns ≡ kept_of left turns
left_of_others left n k turns others =
    map_same (λ (u : Turn). (key_of u, slice_index_or (slice_set left n k) (key_of u).1 0))
    (λ (u : Turn). (key_of u, slice_index_or left (key_of u).1 0)) turns
    (λ u member. ap (λ l. (key_of u, l)) (get_or-set_other left n (key_of u).1 k 0 (others u member)))

-- and of jobs that were released before
left_before : (left : List ℕ) (work : ℕ) (turns : List Turn) → Each (λ u. (key_of u).1 < length left) turns
    → kept_of (left ++ work ∷ []) turns ≡ kept_of left turns
left_before left work turns low =
    map_same (λ (u : Turn). (key_of u, slice_index_or (left ++ work ∷ []) (key_of u).1 0))
    (λ (u : Turn). (key_of u, slice_index_or left (key_of u).1 0)) turns
    (λ u member. ap (λ l. (key_of u, l)) (get_or_append_left left (work ∷ []) 0 (key_of u).1 (low u member)))

-- ---- a release

-- the numbers are those of jobs that are released
pub low_more : (left : List ℕ) (work : ℕ) (turns : List Turn) → IsInTurn left turns
    → IsInTurn (left ++ work ∷ []) turns
low_more left work turns it = record {
  ordered = it.ordered;
  apart = it.apart;
  low = λ u member. omega (arith, it.low u member, length-append left (work ∷ []));
}

module _ (left : List ℕ) (due n work : ℕ) (turns now : List Turn) (it : IsInTurn left turns) (new : n ≡ length left)
    (t : Turn)
    (t_is : key_of t ≡ (due, n))
    (moved : IsPermutation (t ∷ turns) now) where
  -- its number
  number_is : (key_of t).1 ≡ length left
  number_is = ap (λ (k : ℕ × ℕ). k.1) t_is ∙ new

  pub released_in_turn : (IsHeap turn_cmp turns → IsHeap turn_cmp now) → IsInTurn (left ++ work ∷ []) now
  released_in_turn keeps = record {
    ordered = keeps it.ordered;
    apart = new_apart t turns now moved (λ u member. omega (arith, it.low u member, number_is)) it.apart;
    low = λ u member. by_member u (member_moved (t ∷ turns) now moved u member);
  } where
    by_member : (u : Turn) → (u ≡ t) ⊎ IsMember u turns → (key_of u).1 < length (left ++ work ∷ [])
    by_member u (inl same) =
        let number : (key_of u).1 ≡ (key_of t).1 = ap (λ (v : Turn). (key_of v).1) same in
        omega (arith, number, number_is, length-append left (work ∷ []))
    by_member u (inr old) = omega (arith, it.low u old, length-append left (work ∷ []))

  -- the job is there beside the others
  pub released_kept : IsPermutation (((due, n), work) ∷ kept_of left turns) (kept_of (left ++ work ∷ []) now)
  released_kept =
      let more : List ℕ = left ++ work ∷ [] in
      let all_left : slice_index_or more (key_of t).1 0 ≡ work = get_or_push left work 0 (key_of t).1 (sym number_is) in
      subst (λ kept. IsPermutation kept (kept_of more now))
      (ap (λ k. (k, slice_index_or more (key_of t).1 0) ∷ kept_of more turns) t_is
      ∙ ap (λ l. ((due, n), l) ∷ kept_of more turns) all_left
      ∙ ap (λ kept. ((due, n), work) ∷ kept) (left_before left work turns it.low))
      (IsPermutation-map (λ (u : Turn). (key_of u, slice_index_or more (key_of u).1 0)) (t ∷ turns) now moved)

-- ---- the first one

-- the first of a list
head_of : {X : Type 0} (xs : List X) (x : X) → 0 < length xs → x ≡ slice_index_or xs 0 x
    → (rest : List X) × (xs ≡ x ∷ rest)
head_of [] x some is = absurd (omega (arith, some))
head_of (y ∷ ys) x some is = (ys, ap (λ z. z ∷ ys) (sym is))

-- what a pop of the heap leaves
pub record IsPopped (turns now : List Turn) : Type 0 where
  pub turn : Turn
  pub top : turn ≡ slice_index_or turns 0 turn
  pub moved : IsPermutation turns (turn ∷ now)
  pub ordered : IsHeap turn_cmp now
  pub bound : IsUpperBound turn_cmp turn now

-- as the heap says it
pub popped : (turns now : List Turn) (result : Option Turn) → IsHeap turn_cmp turns → IsSome result
    → IfSome result (λ t. t ≡ slice_index_or turns 0 t)
    → IfSome result (λ t. IsPermutation turns (t ∷ now))
    → IfSome result (λ t. PopsGreatest turn_cmp turns t now)
    → IfSome result (λ t. IsHeap turn_cmp turns → IsUpperBound turn_cmp t now)
    → IsPopped turns now
popped turns now None heap some top moved pops bound = absurd (let e : false ≡ true = some in cc)
popped turns now (Some t) heap some top moved pops bound =
    record { turn = t; top = top; moved = moved; ordered = (pops heap).0; bound = bound heap }

-- the number of the top is that of a job that is released
pub top_low : (left : List ℕ) (turns : List Turn) (t : Turn) → IsInTurn left turns → 0 < length turns
    → t ≡ slice_index_or turns 0 t
    → (key_of t).1 < length left
top_low left turns t it some is =
    it.low t (subst (λ ts. IsMember t ts) (sym (head_of turns t some is).1) (inl refl))

-- it is due first
pub first_due : (left : List ℕ) (turns : List Turn) (t : Turn) → IsInTurn left turns → 0 < length turns
    → t ≡ slice_index_or turns 0 t
    → IsUpperBound turn_cmp t turns
    → IsFirst (key_of t, slice_index_or left (key_of t).1 0) (kept_of left turns)
first_due left turns t it some is bound = by_head (head_of turns t some is) where
  by_head : ((rest : List Turn) × (turns ≡ t ∷ rest))
      → IsFirst (key_of t, slice_index_or left (key_of t).1 0) (kept_of left turns)
  by_head head =
      let same : turns ≡ t ∷ head.0 = head.1 in
      let all : IsUpperBound turn_cmp t (t ∷ head.0) = subst (IsUpperBound turn_cmp t) same bound in
      record {
        rest = kept_of left head.0;
        is = ap (kept_of left) same;
        behind = all_behind left t head.0 all.1
            (head_apart t head.0 (subst (λ ts. (n : ℕ) → sum_by (is_of n) ts ≤ 1) same it.apart));
      }

-- ---- what is left of the first one is changed

module _ (left : List ℕ) (turns : List Turn) (it : IsInTurn left turns) (first : Kept) (rest : List Kept)
    (is : kept_of left turns ≡ first ∷ rest) (k : ℕ) where
  -- its place in the heap
  pub first_turn : (t : Turn) × (ts : List Turn) × (turns ≡ t ∷ ts) × (key_of t ≡ first.0) × (kept_of left ts ≡ rest)
  first_turn = by_turns turns is where
    by_turns : (ts : List Turn) → kept_of left ts ≡ first ∷ rest
        → (t : Turn) × (us : List Turn) × (ts ≡ t ∷ us) × (key_of t ≡ first.0) × (kept_of left us ≡ rest)
    by_turns [] none = absurd (let e : [] ≡ first ∷ rest = none in cc)
    by_turns (t ∷ us) same =
        let e : (key_of t, slice_index_or left (key_of t).1 0) ∷ kept_of left us ≡ first ∷ rest = same in
        let one : (key_of t, slice_index_or left (key_of t).1 0) ≡ first = cc in
        (t, us, refl, ap (λ (k : Kept). k.0) one, (let r : kept_of left us ≡ rest = cc in r))

  -- the job's number is that of a job that is released
  pub first_low : first.0.1 < length left
  first_low =
      let member : IsMember first_turn.0 turns = subst (λ ts. IsMember first_turn.0 ts) (sym first_turn.2) (inl refl) in
      let number : (key_of first_turn.0).1 ≡ first.0.1 = ap (λ (p : ℕ × ℕ). p.1) first_turn.3 in
      omega (arith, number, it.low first_turn.0 member)

  -- the others have other numbers
  others_apart : Each (λ u. (key_of u).1 ≡ first.0.1 → ⊥) first_turn.1
  others_apart u member same = head_apart first_turn.0 first_turn.1
      (subst (λ ts. (n : ℕ) → sum_by (is_of n) ts ≤ 1) first_turn.2 it.apart) u member
      (same ∙ sym (ap (λ (p : ℕ × ℕ). p.1) first_turn.3))

  -- the heap stands
  pub changed_in_turn : IsInTurn (slice_set left first.0.1 k) turns
  changed_in_turn = record {
    ordered = it.ordered;
    apart = it.apart;
    low = λ u member. omega (arith, it.low u member, length-set left first.0.1 k);
  }

  -- something is left
  pub left_some : kept_of (slice_set left first.0.1 k) turns ≡ (first.0, k) ∷ rest
  left_some =
      let t : Turn = first_turn.0 in
      let ts : List Turn = first_turn.1 in
      let changed : List ℕ = slice_set left first.0.1 k in
      let number : (key_of t).1 ≡ first.0.1 = ap (λ (p : ℕ × ℕ). p.1) first_turn.3 in
      let here : slice_index_or changed (key_of t).1 0 ≡ k = ap (λ n. slice_index_or changed n 0) number
      ∙ get_or-set_same left first.0.1 k 0 first_low in
      ap (kept_of changed) first_turn.2
      ∙ ap (λ l. (key_of t, l) ∷ kept_of changed ts) here
      ∙ ap (λ p. (p, k) ∷ kept_of changed ts) first_turn.3
      ∙ ap (λ kept. (first.0, k) ∷ kept) (left_of_others left first.0.1 k ts others_apart ∙ first_turn.4)

  module _ (now : List Turn) (pop : IsPopped turns now) where
    -- the job that was taken out
    abbrev t : Turn
    t = pop.turn

    -- it is the one that was taken out
    top_is : t ≡ first_turn.0
    top_is = pop.top ∙ ap (λ ts. slice_index_or ts 0 t) first_turn.2

    top_key : key_of t ≡ first.0
    top_key = ap (λ (u : Turn). key_of u) top_is ∙ first_turn.3

    -- the others are there once
    once : (n : ℕ) → sum_by (is_of n) (t ∷ now) ≤ 1
    once n = omega (arith, it.apart n, sum_by_popped (is_of n) t turns now pop.moved, sum_by-cons (is_of n) t now)

    -- the rest of the heap stands
    pub popped_in_turn : IsInTurn (slice_set left first.0.1 k) now
    popped_in_turn = record {
      ordered = pop.ordered;
      apart = λ n. omega (arith, it.apart n, sum_by_popped (is_of n) t turns now pop.moved);
      low = λ u member. omega (
        arith,
        it.low u (member_moved turns (t ∷ now) pop.moved u (inr member)),
        length-set left first.0.1 k,
      );
    }

    -- and the job is taken out
    pub left_none : IsTakenOut first (kept_of left turns) (kept_of (slice_set left first.0.1 k) now)
    left_none = record {
      rest = subst (λ kept. IsPermutation (kept_of left turns) kept)
          (ap (λ e. e ∷ kept_of left now) first_is ∙ ap (λ kept. first ∷ kept) (sym same))
          (IsPermutation-map (λ (u : Turn). (key_of u, slice_index_or left (key_of u).1 0)) turns (t ∷ now) pop.moved);
      behind = subst (λ kept. AreBehind first.0.0 first.0.1 kept) (sym same)
          (subst (λ (p : ℕ × ℕ). AreBehind p.0 p.1 (kept_of left now)) top_key
          (all_behind left t now pop.bound (head_apart t now once)));
    } where
      others : Each (λ u. (key_of u).1 ≡ first.0.1 → ⊥) now
      others u member e = head_apart t now once u member (e ∙ sym (ap (λ (p : ℕ × ℕ). p.1) top_key))

      same : kept_of (slice_set left first.0.1 k) now ≡ kept_of left now
      same = left_of_others left first.0.1 k now others

      -- the first one is what the heap has of it
      first_is : (key_of t, slice_index_or left (key_of t).1 0) ≡ first
      first_is = ap (λ (u : Turn). (key_of u, slice_index_or left (key_of u).1 0)) top_is ∙ by_head where
        by_head : (key_of first_turn.0, slice_index_or left (key_of first_turn.0).1 0) ≡ first
        by_head =
            let e : (key_of first_turn.0, slice_index_or left (key_of first_turn.0).1 0) ∷ kept_of left first_turn.1
            ≡ first ∷ rest =
            sym (ap (kept_of left) first_turn.2) ∙ is in cc
