-- Jobs at places: which are free, and the items of the others.
use Rattle.std.proofs.Common.{◌≡◌, ℕ, zero, suc, ◌+◌, ◌≤◌, ◌<◌, ◌⊎◌, inl, inr, List, [], ◌∷◌, ◌++◌, length, set}
use Rattle.std.proofs.Common.{get_or, replicate, refl, sym, ap, ◌∙◌, subst, Bool, cond, arith, Option}
use Rattle.std.proofs.Common.{Some, None, ◌==◌, is_some, slice_get, sum_by}
use Rattle.std.proofs.Common.{count_by, eq-eqb, ne_eqb, append_assoc}
use Rattle.std.proofs.lemmas.Bool.{cases_eq}
use Rattle.std.proofs.lemmas.List.Sums.{sum_by-cons, sum_by-append}
use Rattle.dover_model.specs.Common.{IsMember}
use Rattle.dover_model.specs.declared.events.Task.{Task}
use Rattle.dover_model.proofs.lists.Members.{some_same}
use Rattle.dover_model.proofs.lists.Tests.{none_is_some}
use Rattle.place_heap.specs.Items.{ItemFacts}
use Rattle.place_heap.proofs.Tables.{none_there}
use Rattle.waiting_pool.specs.Reordered.{IsReordered}
use Rattle.waiting_pool.specs.Pools.{jobs_at, items_from, times, is_free, AreFree}
use Rattle.waiting_pool.specs.Pools.{item_of}
use Rattle.waiting_pool.proofs.Reordering.{same_order, exchanged, both_parts, turned}

-- ---- a list around a place

-- what stands before and behind
pub record Around {X : Type 0} (xs : List X) (n : ℕ) (x : X) : Type 0 where
  pub front : List X
  pub back : List X
  pub place : length front ≡ n
  pub is : xs ≡ front ++ x ∷ back
  pub put : (y : X) → set xs n y ≡ front ++ y ∷ back

pub around : {X : Type 0} (xs : List X) (n : ℕ) (x : X) → slice_get xs n ≡ Some x → Around xs n x
around [] n x at = none_is_some at
around (y ∷ xs) zero x at =
    record { front = []; back = xs; place = refl; is = ap (λ z. z ∷ xs) (some_same y x at); put = λ z. refl }
around (y ∷ xs) (suc n) x at =
    let rest = around xs n x at in
    record {
      front = y ∷ rest.front;
      back = rest.back;
      place = ap suc rest.place;
      is = ap (λ l. y ∷ l) rest.is;
      put = λ z. ap (λ l. y ∷ l) (rest.put z);
    }

-- it stands within
pub within : {X : Type 0} (xs : List X) (n : ℕ) (x : X) → slice_get xs n ≡ Some x → n < length xs
within [] n x at = none_is_some at
within (y ∷ xs) zero x at = omega arith
within (y ∷ xs) (suc n) x at = let rest : n < length xs = within xs n x at in omega arith

pub same_length : {X : Type 0} (xs : List X) (n : ℕ) (x : X) → length (set xs n x) ≡ length xs
same_length [] n x = refl
same_length (y ∷ xs) zero x = refl
same_length (y ∷ xs) (suc n) x = ap suc (same_length xs n x)

-- ---- the jobs

pub jobs_append : (xs ys : List (Option Task)) → jobs_at (xs ++ ys) ≡ jobs_at xs ++ jobs_at ys
jobs_append [] ys = refl
jobs_append (None ∷ xs) ys = jobs_append xs ys
jobs_append (Some t ∷ xs) ys = ap (λ l. t ∷ l) (jobs_append xs ys)

-- one stands in front, or between others
pub between : {X : Type 0} (t : X) (xs ys : List X) → IsReordered (t ∷ (xs ++ ys)) (xs ++ t ∷ ys)
between t xs ys = subst (IsReordered (t ∷ (xs ++ ys))) (append_assoc xs (t ∷ []) ys)
    (both_parts ((t ∷ []) ++ xs) (xs ++ t ∷ []) ys ys (exchanged (t ∷ []) xs) (same_order ys))

-- a job comes to a free place
pub jobs_in : (slots : List (Option Task)) (n : ℕ) (t : Task) → slice_get slots n ≡ Some None
    → IsReordered (t ∷ jobs_at slots) (jobs_at (set slots n (Some t)))
jobs_in slots n t at =
    let it = around slots n None at in
    subst (λ l. IsReordered (t ∷ l) (jobs_at (set slots n (Some t))))
    (sym (ap jobs_at it.is ∙ jobs_append it.front (None ∷ it.back)))
    (subst (IsReordered (t ∷ (jobs_at it.front ++ jobs_at it.back)))
    (sym (ap jobs_at (it.put (Some t)) ∙ jobs_append it.front (Some t ∷ it.back)))
    (between t (jobs_at it.front) (jobs_at it.back)))

-- a job leaves its place
pub jobs_out : (slots : List (Option Task)) (n : ℕ) (t : Task) → slice_get slots n ≡ Some (Some t)
    → IsReordered (jobs_at slots) (t ∷ jobs_at (set slots n None))
jobs_out slots n t at =
    let it = around slots n (Some t) at in
    subst (λ l. IsReordered (jobs_at slots) (t ∷ l))
    (sym (ap jobs_at (it.put None) ∙ jobs_append it.front (None ∷ it.back)))
    (subst (λ l. IsReordered l (t ∷ (jobs_at it.front ++ jobs_at it.back)))
    (sym (ap jobs_at it.is ∙ jobs_append it.front (Some t ∷ it.back)))
    (turned _ _ (between t (jobs_at it.front) (jobs_at it.back))))

-- each job has a place
pub place_of : (slots : List (Option Task)) (t : Task) → IsMember t (jobs_at slots) → (n : ℕ)
    × (slice_get slots n ≡ Some (Some t))
place_of [] t m = absurd m
place_of (None ∷ slots) t m = let rest = place_of slots t m in (suc rest.0, rest.1)
place_of (Some u ∷ slots) t (inl e) = (0, ap (λ x. Some (Some x)) (sym e))
place_of (Some u ∷ slots) t (inr m) = let rest = place_of slots t m in (suc rest.0, rest.1)

-- and a job at a place is one of them
pub job_there : (slots : List (Option Task)) (n : ℕ) (t : Task) → slice_get slots n ≡ Some (Some t)
    → IsMember t (jobs_at slots)
job_there [] n t at = none_is_some at
job_there (None ∷ slots) zero t at = none_is_some (some_same None (Some t) at)
job_there (Some u ∷ slots) zero t at = inl (sym (some_same u t (some_same (Some u) (Some t) at)))
job_there (None ∷ slots) (suc n) t at = job_there slots n t at
job_there (Some u ∷ slots) (suc n) t at = inr (job_there slots n t at)

-- ---- the free places

-- one for no job
abbrev pub one_free : Option Task → ℕ
one_free o = elim o [ None ↦ 1 | Some t ↦ 0 ]

-- a free place is within, and no job is there
pub free_none : (slots : List (Option Task)) (p : ℕ) → 1 ≤ is_free slots p → slice_get slots p ≡ Some None
free_none [] p some = absurd (omega arith)
free_none (None ∷ slots) zero some = refl
free_none (Some t ∷ slots) zero some = absurd (omega arith)
free_none (o ∷ slots) (suc p) some = free_none slots p some

-- where something else is put at a place
pub free_set : (slots : List (Option Task)) (n p : ℕ) (o : Option Task) → n < length slots
    → is_free (set slots n o) p ≡ cond (n == p) (one_free o) (is_free slots p)
free_set [] n p o inside = absurd (omega arith)
free_set (x ∷ slots) zero zero o inside = refl
free_set (x ∷ slots) zero (suc p) o inside =
    ap (λ b. cond b (one_free o) (is_free slots p)) (sym (ne_eqb 0 (suc p) (λ e. omega (arith, e))))
free_set (x ∷ slots) (suc n) zero o inside =
    ap (λ b. cond b (one_free o) (is_free (x ∷ slots) 0)) (sym (ne_eqb (suc n) 0 (λ e. omega (arith, e))))
free_set (x ∷ slots) (suc n) (suc p) o inside = free_set slots n p o (omega arith)
    ∙ ap (λ b. cond b (one_free o) (is_free slots p)) (same n p) where
      same : (a b : ℕ) → (a == b) ≡ (suc a == suc b)
      same a b = grind arith

-- and where a free place comes behind
pub free_push : (slots : List (Option Task)) (p : ℕ)
    → is_free (slots ++ None ∷ []) p ≡ is_free slots p + cond (length slots == p) 1 0
free_push [] zero = refl
free_push [] (suc p) = let other : cond {A = ℕ} (0 == suc p) 1 0 ≡ 0 =
    ap (λ (b : Bool). cond {A = ℕ} b 1 0) (ne_eqb 0 (suc p) (λ e. omega (arith, e))) in omega (arith, other)
free_push (x ∷ slots) zero = let other : cond {A = ℕ} (suc (length slots) == 0) 1 0 ≡ 0 =
    ap (λ (b : Bool). cond {A = ℕ} b 1 0) (ne_eqb (suc (length slots)) 0 (λ e. omega (arith, e))) in
    omega (arith, other)
free_push (x ∷ slots) (suc p) = free_push slots p ∙ ap (λ b. is_free slots p + cond b 1 0) (same (length slots) p) where
  same : (a b : ℕ) → (a == b) ≡ (suc a == suc b)
  same a b = grind arith

-- a place named once more
pub times_push : (p q : ℕ) (places : List ℕ) → times p (places ++ q ∷ []) ≡ times p places + cond (q == p) 1 0
times_push p q places =
    omega (
      arith,
      sum_by-append (λ x. cond (x == p) 1 0) places (q ∷ []),
      sum_by-cons (λ x. cond (x == p) 1 0) q [],
      one,
    ) where
      one : sum_by (λ x. cond (x == p) 1 0) [] ≡ 0
      one = refl

-- the last named one is free
pub last_free : (slots : List (Option Task)) (places : List ℕ) (p : ℕ) → AreFree slots (places ++ p ∷ [])
    → slice_get slots p ≡ Some None
last_free slots places p are =
    free_none slots p (omega
    (arith, are p, times_push p p places, ap (λ (b : Bool). cond {A = ℕ} b 1 0) (eq-eqb p p refl)))

-- where it is taken, the others are
pub free_taken : (slots : List (Option Task)) (places : List ℕ) (p : ℕ) (t : Task) → AreFree slots (places ++ p ∷ [])
    → AreFree (set slots p (Some t)) places
free_taken slots places p t are q = by_place (cases_eq p q) where
  named : times q places + cond (p == q) 1 0 ≡ is_free slots q
  named = sym (times_push q p places) ∙ are q

  inside : p < length slots
  inside = within slots p None (last_free slots places p are)

  one : is_free slots p ≡ 1
  one = by_slots slots p (last_free slots places p are) where
    by_slots : (xs : List (Option Task)) (n : ℕ) → slice_get xs n ≡ Some None → is_free xs n ≡ 1
    by_slots [] n at = none_is_some at
    by_slots (None ∷ xs) zero at = refl
    by_slots (Some u ∷ xs) zero at = none_is_some (sym (some_same (Some u) None at))
    by_slots (x ∷ xs) (suc n) at = by_slots xs n at

  by_place : (p ≡ q) ⊎ ((p ≡ q) → ⊥) → times q places ≡ is_free (set slots p (Some t)) q
  by_place (inl same) =
      let here = free_set slots p q (Some t) inside ∙ ap (λ b. cond b 0 (is_free slots q)) (eq-eqb p q same) in
      omega (arith, here, named, ap (λ (b : Bool). cond {A = ℕ} b 1 0) (eq-eqb p q same), one, ap (is_free slots) same)
  by_place (inr other) =
      let there = free_set slots p q (Some t) inside ∙ ap (λ b. cond b 0 (is_free slots q)) (ne_eqb p q other) in
      omega (arith, there, named, ap (λ (b : Bool). cond {A = ℕ} b 1 0) (ne_eqb p q other))

-- where a job leaves, its place is free
pub free_again : (slots : List (Option Task)) (places : List ℕ) (p : ℕ) (t : Task) → slice_get slots p ≡ Some (Some t)
    → AreFree slots places
    → AreFree (set slots p None) (places ++ p ∷ [])
free_again slots places p t at are q = by_place (cases_eq p q) where
  inside : p < length slots
  inside = within slots p (Some t) at

  taken : is_free slots p ≡ 0
  taken = by_slots slots p at where
    by_slots : (xs : List (Option Task)) (n : ℕ) → slice_get xs n ≡ Some (Some t) → is_free xs n ≡ 0
    by_slots [] n e = refl
    by_slots (None ∷ xs) zero e = none_is_some (some_same None (Some t) e)
    by_slots (Some u ∷ xs) zero e = refl
    by_slots (x ∷ xs) (suc n) e = by_slots xs n e

  by_place : (p ≡ q) ⊎ ((p ≡ q) → ⊥) → times q (places ++ p ∷ []) ≡ is_free (set slots p None) q
  by_place (inl same) =
      let here = free_set slots p q None inside ∙ ap (λ b. cond b 1 (is_free slots q)) (eq-eqb p q same) in
      omega (
        arith,
        here,
        times_push q p places,
        are q,
        ap (λ (b : Bool). cond {A = ℕ} b 1 0) (eq-eqb p q same),
        taken,
        ap (is_free slots) same,
      )
  by_place (inr other) =
      let there = free_set slots p q None inside ∙ ap (λ b. cond b 1 (is_free slots q)) (ne_eqb p q other) in
      omega (arith, there, times_push q p places, are q, ap (λ (b : Bool). cond {A = ℕ} b 1 0) (ne_eqb p q other))

-- a free place comes behind
pub free_more : (slots : List (Option Task)) (places : List ℕ) (p : ℕ) → p ≡ length slots → AreFree slots places
    → AreFree (slots ++ None ∷ []) (places ++ p ∷ [])
free_more slots places p is are q =
    omega (arith, times_push q p places, are q, free_push slots q, ap (λ n. cond {A = ℕ} (n == q) 1 0) is)

-- ---- the items

module _ (item : ℕ → Task → Option ItemFacts) where
  pub items_length : (p : ℕ) (slots : List (Option Task)) → length (items_from item p slots) ≡ length slots
  items_length p [] = refl
  items_length p (o ∷ slots) = ap suc (items_length (suc p) slots)

  -- what the table has at a place
  pub item_at : (p : ℕ) (slots : List (Option Task)) (rest : List (Option ItemFacts)) (n : ℕ) (o : Option Task)
      → slice_get slots n ≡ Some o
      → get_or (items_from item p slots ++ rest) n None ≡ item_of item (p + n) o
  item_at p [] rest n o at = none_is_some at
  item_at p (x ∷ slots) rest zero o at =
      let same : p ≡ p + 0 = omega arith in
      ap (item_of item p) (some_same x o at) ∙ ap (λ m. item_of item m o) same
  item_at p (x ∷ slots) rest (suc n) o at =
      let same : suc p + n ≡ p + suc n = omega arith in
      item_at (suc p) slots rest n o at ∙ ap (λ m. item_of item m o) same

  -- it follows what is put at a place
  pub item_set : (p : ℕ) (slots : List (Option Task)) (rest : List (Option ItemFacts)) (n : ℕ) (o : Option Task)
      → n < length slots
      → set (items_from item p slots ++ rest) n (item_of item (p + n) o) ≡ items_from item p (set slots n o) ++ rest
  item_set p [] rest n o inside = absurd (omega arith)
  item_set p (x ∷ slots) rest zero o inside =
      let same : p + 0 ≡ p = omega arith in
      ap (λ m. item_of item m o ∷ (items_from item (suc p) slots ++ rest)) same
  item_set p (x ∷ slots) rest (suc n) o inside =
      let same : p + suc n ≡ suc p + n = omega arith in
      ap (λ m. item_of item p x ∷ set (items_from item (suc p) slots ++ rest) n (item_of item m o)) same
      ∙ ap (λ l. item_of item p x ∷ l) (item_set (suc p) slots rest n o (omega arith))

  none_some : (k : ℕ) → count_by is_some (replicate {A = Option ItemFacts} k None) ≡ 0
  none_some zero = refl
  none_some (suc k) = none_some k

  at_most_one : (o : Option ItemFacts) → cond {A = ℕ} (is_some o) 1 0 ≤ 1
  at_most_one None = omega arith
  at_most_one (Some i) = omega arith

  -- no more than there are jobs
  pub item_count : (p : ℕ) (slots : List (Option Task)) (k : ℕ)
      → count_by is_some (items_from item p slots ++ replicate k None) ≤ length (jobs_at slots)
  item_count p [] k = omega (arith, none_some k)
  item_count p (None ∷ slots) k =
      omega (
        arith,
        item_count (suc p) slots k,
        sum_by-cons (λ (o : Option ItemFacts). cond (is_some o) 1 0) None
            (items_from item (suc p) slots ++ replicate k None),
      )
  item_count p (Some t ∷ slots) k =
      omega (
        arith,
        item_count (suc p) slots k,
        at_most_one (item p t),
        sum_by-cons (λ (o : Option ItemFacts). cond (is_some o) 1 0) (item p t)
            (items_from item (suc p) slots ++ replicate k None),
      )

-- each job has an item
module _ (item : ℕ → Task → ItemFacts) where
  abbrev pub each : ℕ → Task → Option ItemFacts
  each p t = Some (item p t)

  -- each item is that of a job at a place
  pub item_job : (p : ℕ) (slots : List (Option Task)) (k n : ℕ) (i : ItemFacts)
      → get_or (items_from each p slots ++ replicate k None) n None ≡ Some i
      → (t : Task) × (slice_get slots n ≡ Some (Some t)) × (i ≡ item (p + n) t)
  item_job p [] k n i at = none_is_some (sym (none_there k n) ∙ at)
  item_job p (None ∷ slots) k zero i at = none_is_some at
  item_job p (Some t ∷ slots) k zero i at = let same : p ≡ p + 0 = omega arith in
      (t, refl, sym (some_same (item p t) i at) ∙ ap (λ n. item n t) same)
  item_job p (o ∷ slots) k (suc n) i at =
      let rest = item_job (suc p) slots k n i at in
      let same : suc p + n ≡ p + suc n = omega arith in
      (rest.0, rest.1, rest.2 ∙ ap (λ m. item m rest.0) same)
