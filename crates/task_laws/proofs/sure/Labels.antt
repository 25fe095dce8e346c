-- Jobs with labels and numbers, and how many of one label cross a tick.
use Rattle.std.proofs.Common.{◌≡◌, ℕ, zero, suc, ◌+◌, ◌-◌, ◌*◌, ◌≤◌, ◌<◌, ◌⊎◌, inl, inr, List, [], ◌∷◌, length, refl}
use Rattle.std.proofs.Common.{sym, ap, ◌∙◌, subst, Bool, true, false, cond, eqb, arith}
use Rattle.std.specs.Prelude.{nat_le, nat_lt, ◌&&◌, get_or}
use Rattle.std.specs.Int.{div_ceil}
use Rattle.std.specs.List.{sum_by, enumerate_from}
use Rattle.std.proofs.Math.Nat.{lt_of_mul-lt-mul_right}
use Rattle.std.proofs.lemmas.Grind.{div_ceil_times}
use Rattle.std.proofs.lemmas.Bool.{eqb-true, eq-eqb, ne_eqb, leb-true, ltb-true, and_parts}
use Rattle.std.proofs.lemmas.Bool.{cases_lt}
use Rattle.std.proofs.lemmas.List.Sums.{sum_by-cons}
use Rattle.dover_model.specs.Common.{JobFacts, IsMember, Each}
use Rattle.dover_model.specs.Common.{EachTwo}
use Rattle.dover_model.specs.Windows.{crosses}
use Rattle.dover_model.proofs.lists.Members.{sum_same, sum_zero, sum_plus, term_le_sum}
use Rattle.dover_model.proofs.lists.Tests.{never}

-- ---- lists under numbers

module _ {X : Type 0} where
  -- numbers from k on are no less
  numbered_above : (k : ℕ) (xs : List X) → Each (λ n_x. k ≤ n_x.0) (enumerate_from k xs)
  numbered_above k [] n_x member = absurd member
  numbered_above k (x ∷ xs) n_x (inl e) = let same : n_x.0 ≡ k = ap (λ (i : ℕ × X). i.0) e in omega (arith, same)
  numbered_above k (x ∷ xs) n_x (inr member) =
      let above : k + 1 ≤ n_x.0 = numbered_above (k + 1) xs n_x member in omega (arith, above)

  -- a number has a member
  at_number : (k : ℕ) (xs : List X) (d : X) (i : ℕ) → i < length xs
      → IsMember (k + i, get_or xs i d) (enumerate_from k xs)
  at_number k [] d i less = absurd (omega arith)
  at_number k (x ∷ xs) d zero less = inl (ap (λ m. (m, x)) (let e : k + 0 ≡ k = omega arith in e))
  at_number k (x ∷ xs) d (suc i) less =
      inr (subst (λ m. IsMember (m, get_or xs i d) (enumerate_from (k + 1) xs))
      (let e : k + 1 + i ≡ k + suc i = omega arith in e) (at_number (k + 1) xs d i (omega arith)))

  -- and which that is
  pub is_at : (k : ℕ) (xs : List X) (d : X) → Each (λ n_x. get_or xs (n_x.0 - k) d ≡ n_x.1) (enumerate_from k xs)
  is_at k [] d n_x member = absurd member
  is_at k (x ∷ xs) d n_x (inl e) = subst (λ (i : ℕ × X). get_or (x ∷ xs) (i.0 - k) d ≡ i.1) (sym e)
      (ap (λ m. get_or (x ∷ xs) m d) (let zero : k - k ≡ 0 = omega arith in zero))
  is_at k (x ∷ xs) d n_x (inr member) =
      let above : k + 1 ≤ n_x.0 = numbered_above (k + 1) xs n_x member in
      ap (λ m. get_or (x ∷ xs) m d) (let e : n_x.0 - k ≡ suc (n_x.0 - (k + 1)) = omega arith in e)
      ∙ is_at (k + 1) xs d n_x member

-- a number has a member, counted from 0 on
pub member_at : {X : Type 0} (xs : List X) (d : X) (i : ℕ) → i < length xs
    → IsMember (i, get_or xs i d) (enumerate_from 0 xs)
member_at xs d i less = subst (λ m. IsMember (m, get_or xs i d) (enumerate_from 0 xs))
    (let e : 0 + i ≡ i = omega arith in e) (at_number 0 xs d i less)

-- a sum, by labels
pub by_labels : {X Y : Type 0} (label : X → ℕ) (key : Y → ℕ) (f : X → ℕ) (ys : List Y) (xs : List X)
    → Each (λ x. (y : Y) × IsMember y ys × (key y ≡ label x)) xs
    → sum_by f xs ≤ sum_by (λ y. sum_by (λ x. cond (eqb (label x) (key y)) (f x) 0) xs) ys
by_labels label key f ys [] each = omega arith
by_labels {X} {Y} label key f ys (x ∷ xs) each =
    let rest : sum_by f xs ≤ sum_by (λ y. sum_by (λ z. cond (eqb (label z) (key y)) (f z) 0) xs) ys =
    by_labels label key f ys xs (λ z member. each z (inr member)) in
    let both : sum_by (λ y. cond (eqb (label x) (key y)) (f x) 0
    + sum_by (λ z. cond (eqb (label z) (key y)) (f z) 0) xs) ys
    ≡ sum_by (λ y. cond (eqb (label x) (key y)) (f x) 0) ys
    + sum_by (λ y. sum_by (λ z. cond (eqb (label z) (key y)) (f z) 0) xs) ys =
    sum_plus (λ y. cond (eqb (label x) (key y)) (f x) 0)
    (λ y. sum_by (λ z. cond (eqb (label z) (key y)) (f z) 0) xs) ys in
    let all : sum_by (λ y. sum_by (λ z. cond (eqb (label z) (key y)) (f z) 0) (x ∷ xs)) ys
    ≡ sum_by (λ y. cond (eqb (label x) (key y)) (f x) 0
    + sum_by (λ z. cond (eqb (label z) (key y)) (f z) 0) xs) ys =
    sum_same (λ y. sum_by (λ z. cond (eqb (label z) (key y)) (f z) 0) (x ∷ xs))
    (λ y. cond (eqb (label x) (key y)) (f x) 0 + sum_by (λ z. cond (eqb (label z) (key y)) (f z) 0) xs) ys
    (λ y _. sum_by-cons (λ z. cond (eqb (label z) (key y)) (f z) 0) x xs) in
    omega (arith, sum_by-cons f x xs, rest, both, all, own (each x (inl refl))) where
      own : (y : Y) × IsMember y ys × (key y ≡ label x)
          → f x ≤ sum_by (λ y. cond (eqb (label x) (key y)) (f x) 0) ys
      own it = subst (λ b. cond b (f x) 0 ≤ sum_by (λ y. cond (eqb (label x) (key y)) (f x) 0) ys)
          (eq-eqb (label x) (key it.0) (sym it.2))
          (term_le_sum (λ y. cond (eqb (label x) (key y)) (f x) 0) ys it.0 it.1)

-- a label is the number of one member at most
pub once : {X : Type 0} (l a k : ℕ) (xs : List X) → sum_by (λ n_x. cond (eqb l n_x.0) a 0) (enumerate_from k xs) ≤ a
once l a k [] = omega arith
once {X} l a k (x ∷ xs) = by_number (eqb l k) refl (once l a (k + 1) xs) where
  all : sum_by (λ n_x. cond (eqb l n_x.0) a 0) (enumerate_from k (x ∷ xs))
      ≡ cond (eqb l k) a 0 + sum_by (λ n_x. cond (eqb l n_x.0) a 0) (enumerate_from (k + 1) xs)
  all = sum_by-cons (λ (n_x : ℕ × X). cond (eqb l n_x.0) a 0) (k, x) (enumerate_from (k + 1) xs)

  by_number : (b : Bool) → eqb l k ≡ b → sum_by (λ n_x. cond (eqb l n_x.0) a 0) (enumerate_from (k + 1) xs) ≤ a
      → sum_by (λ n_x. cond (eqb l n_x.0) a 0) (enumerate_from k (x ∷ xs)) ≤ a
  by_number true same _ =
      let none : sum_by (λ n_x. cond (eqb l n_x.0) a 0) (enumerate_from (k + 1) xs) ≡ 0 =
      sum_zero (λ (n_x : ℕ × X). cond (eqb l n_x.0) a 0) (enumerate_from (k + 1) xs)
      (λ n_x m. ap (λ b. cond {A = ℕ} b a 0) (ne_eqb l n_x.0
      (λ e. let above : k + 1 ≤ n_x.0 = numbered_above (k + 1) xs n_x m in
      let is : l ≡ k = eqb-true _ _ same in omega (arith, above, is, e)))) in
      let here : cond (eqb l k) a 0 ≡ a = ap (λ b. cond {A = ℕ} b a 0) same in
      omega (arith, all, none, here)
  by_number false differs rest =
      let here : cond (eqb l k) a 0 ≡ 0 = ap (λ b. cond {A = ℕ} b a 0) differs in
      omega (arith, all, here, rest)

-- what is summed up by labels is no more than all
pub by_labels_back : {X Y : Type 0} (label : X → ℕ) (f : X → ℕ) (ys : List Y) (xs : List X)
    → sum_by (λ (y : ℕ × Y). sum_by (λ x. cond (eqb (label x) y.0) (f x) 0) xs) (enumerate_from 0 ys) ≤ sum_by f xs
by_labels_back {X} {Y} label f ys [] =
    omega (
      arith,
      sum_zero (λ (y : ℕ × Y). sum_by (λ x. cond (eqb (label x) y.0) (f x) 0) []) (enumerate_from 0 ys)
          (λ y m. refl),
    )
by_labels_back {X} {Y} label f ys (x ∷ xs) =
    let both : sum_by (λ (y : ℕ × Y). cond (eqb (label x) y.0) (f x) 0
    + sum_by (λ z. cond (eqb (label z) y.0) (f z) 0) xs) (enumerate_from 0 ys)
    ≡ sum_by (λ (y : ℕ × Y). cond (eqb (label x) y.0) (f x) 0) (enumerate_from 0 ys)
    + sum_by (λ (y : ℕ × Y). sum_by (λ z. cond (eqb (label z) y.0) (f z) 0) xs) (enumerate_from 0 ys) =
    sum_plus (λ (y : ℕ × Y). cond (eqb (label x) y.0) (f x) 0)
    (λ y. sum_by (λ z. cond (eqb (label z) y.0) (f z) 0) xs) (enumerate_from 0 ys) in
    let all : sum_by (λ (y : ℕ × Y). sum_by (λ z. cond (eqb (label z) y.0) (f z) 0) (x ∷ xs)) (enumerate_from 0 ys)
    ≡ sum_by (λ (y : ℕ × Y). cond (eqb (label x) y.0) (f x) 0
    + sum_by (λ z. cond (eqb (label z) y.0) (f z) 0) xs) (enumerate_from 0 ys) =
    sum_same (λ (y : ℕ × Y). sum_by (λ z. cond (eqb (label z) y.0) (f z) 0) (x ∷ xs))
    (λ y. cond (eqb (label x) y.0) (f x) 0 + sum_by (λ z. cond (eqb (label z) y.0) (f z) 0) xs)
    (enumerate_from 0 ys) (λ y _. sum_by-cons (λ z. cond (eqb (label z) y.0) (f z) 0) x xs) in
    omega (arith, sum_by-cons f x xs, both, all, once (label x) (f x) 0 ys, by_labels_back label f ys xs)

-- of those that pass, one has the greatest key
pub latest : {X : Type 0} (p : X → Bool) (key : X → ℕ) (xs : List X) (x : X) → IsMember x xs → p x ≡ true
    → (y : X) × IsMember y xs × (p y ≡ true) × Each (λ z. p z ≡ true → key z ≤ key y) xs
latest p key [] x member passes = absurd member
latest {X} p key (w ∷ xs) x member passed =
    by_rest (any_passes xs) (λ y m e. latest p key xs y m e) where
      any_passes : (zs : List X) → ((y : X) × IsMember y zs × (p y ≡ true)) ⊎ Each (λ z. p z ≡ true → ⊥) zs
      any_passes [] = inr (λ z m _. m)
      any_passes (z ∷ zs) = by_test (p z) refl (any_passes zs) where
        by_test : (b : Bool) → p z ≡ b → ((y : X) × IsMember y zs × (p y ≡ true)) ⊎ Each (λ u. p u ≡ true → ⊥) zs
            → ((y : X) × IsMember y (z ∷ zs) × (p y ≡ true)) ⊎ Each (λ u. p u ≡ true → ⊥) (z ∷ zs)
        by_test true e _ = inl (z, inl refl, e)
        by_test false e (inl it) = inl (it.0, inr it.1, it.2)
        by_test false e (inr none) = inr each where
          each : Each (λ u. p u ≡ true → ⊥) (z ∷ zs)
          each u (inl same) is = never (sym e ∙ subst (λ v. p v ≡ true) same is)
          each u (inr m) is = none u m is

      Latest : Type 0
      Latest = (y : X) × IsMember y (w ∷ xs) × (p y ≡ true) × Each (λ z. p z ≡ true → key z ≤ key y) (w ∷ xs)

      head_only : Each (λ z. p z ≡ true → ⊥) xs → IsMember x (w ∷ xs) → Latest
      head_only none (inl same) = (w, inl refl, subst (λ v. p v ≡ true) same passed, each) where
        each : Each (λ z. p z ≡ true → key z ≤ key w) (w ∷ xs)
        each z (inl e) _ = subst (λ v. key z ≤ key v) e (omega arith)
        each z (inr m) is = absurd (none z m is)
      head_only none (inr m) = absurd (none x m passed)

      with_head : (b : Bool) → p w ≡ b
          → (y : X) × IsMember y xs × (p y ≡ true) × Each (λ z. p z ≡ true → key z ≤ key y) xs → Latest
      with_head false out it = (it.0, inr it.1, it.2, each) where
        each : Each (λ z. p z ≡ true → key z ≤ key it.0) (w ∷ xs)
        each z (inl e) is = never (sym out ∙ subst (λ v. p v ≡ true) e is)
        each z (inr m) is = it.3 z m is
      with_head true is_in it = by_key (cases_lt (key it.0) (key w)) where
        by_key : (key it.0 < key w) ⊎ (key w ≤ key it.0) → Latest
        by_key (inl above) = (w, inl refl, is_in, each) where
          each : Each (λ z. p z ≡ true → key z ≤ key w) (w ∷ xs)
          each z (inl e) _ = subst (λ v. key z ≤ key v) e (omega arith)
          each z (inr m) is = let most : key z ≤ key it.0 = it.3 z m is in omega (arith, most, above)
        by_key (inr below) = (it.0, inr it.1, it.2, each) where
          each : Each (λ z. p z ≡ true → key z ≤ key it.0) (w ∷ xs)
          each z (inl e) _ = subst (λ v. key v ≤ key it.0) (sym e) below
          each z (inr m) is = it.3 z m is

      by_rest : ((y : X) × IsMember y xs × (p y ≡ true)) ⊎ Each (λ z. p z ≡ true → ⊥) xs
          → ((y : X) → IsMember y xs → p y ≡ true
          → (z : X) × IsMember z xs × (p z ≡ true) × Each (λ u. p u ≡ true → key u ≤ key z) xs) → Latest
      by_rest (inl it) more = with_head (p w) refl (more it.0 it.1 it.2)
      by_rest (inr none) more = head_only none member

-- where something is counted, one is counted
pub some_counted : {X : Type 0} (p : X → Bool) (xs : List X) → 1 ≤ sum_by (λ x. cond (p x) 1 0) xs
    → (x : X) × IsMember x xs × (p x ≡ true)
some_counted p [] some = absurd (omega arith)
some_counted p (x ∷ xs) some =
    by_test (p x) refl (some_counted p xs) (sum_by-cons (λ y. cond (p y) 1 0) x xs) where
      by_test : (b : Bool) → p x ≡ b
          → (1 ≤ sum_by (λ y. cond (p y) 1 0) xs → (y : _) × IsMember y xs × (p y ≡ true))
          → sum_by (λ y. cond (p y) 1 0) (x ∷ xs) ≡ cond (p x) 1 0 + sum_by (λ y. cond (p y) 1 0) xs
          → (y : _) × IsMember y (x ∷ xs) × (p y ≡ true)
      by_test true e _ _ = (x, inl refl, e)
      by_test false e more all =
          let none : cond (p x) 1 0 ≡ 0 = ap (λ b. cond {A = ℕ} b 1 0) e in
          let it : (y : _) × IsMember y xs × (p y ≡ true) = more (omega (arith, all, none, some)) in
          (it.0, inr it.1, it.2)

-- ---- how many jobs of a stream cross a tick

module _ (of : ℕ → ℕ) (y gap span t : ℕ) where
  -- the job is of the stream, and crosses the tick
  abbrev counted : ℕ × JobFacts → Bool
  counted m_i = eqb (of m_i.0) y && crosses t m_i.1

  -- one for such a job
  abbrev pub one : ℕ × JobFacts → ℕ
  one m_i = cond (counted m_i) 1 0

  -- two jobs of the stream are apart
  abbrev AreApart : List (ℕ × JobFacts) → Type 0
  AreApart ns = EachTwo (λ m_i n_j. of m_i.0 ≡ y → of n_j.0 ≡ y → m_i.0 < n_j.0
      → m_i.1.release + gap ≤ n_j.1.release) ns

  -- what a counted job is
  counted_is : (m_i : ℕ × JobFacts) → counted m_i ≡ true → (of m_i.0 ≡ y) × (m_i.1.release ≤ t)
      × (t < m_i.1.deadline)
  counted_is m_i passed =
      let it : (eqb (of m_i.0) y ≡ true) × (crosses t m_i.1 ≡ true) =
      and_parts (eqb (of m_i.0) y) (crosses t m_i.1) passed in
      let both : (nat_le m_i.1.release t ≡ true) × (nat_lt t m_i.1.deadline ≡ true) =
      and_parts (nat_le m_i.1.release t) (nat_lt t m_i.1.deadline) it.1 in
      (eqb-true _ _ it.0, leb-true _ _ both.0, ltb-true _ _ both.1)

  -- so many, which come from a tick on
  abbrev AreFew : ℕ → ℕ → Type 0
  AreFew count from = (count ≡ 0) ⊎ (count * gap + from ≤ t + gap)

  -- those that cross one tick fit between the first release that may cross it and that tick
  count_from : (k : ℕ) (jobs : List JobFacts) → AreApart (enumerate_from k jobs) → (from : ℕ)
      → Each (λ m_i. counted m_i ≡ true → from ≤ m_i.1.release) (enumerate_from k jobs)
      → AreFew (sum_by one (enumerate_from k jobs)) from
  count_from k [] apart from since = inl refl
  count_from k (j ∷ jobs) apart from since =
      by_test (counted (k, j)) refl
      (λ lower each. count_from (k + 1) jobs (λ m_i n_j m n. apart m_i n_j (inr m) (inr n)) lower each)
      (sum_by-cons one (k, j) (enumerate_from (k + 1) jobs)) where
        later : counted (k, j) ≡ true
            → Each (λ m_i. counted m_i ≡ true → j.release + gap ≤ m_i.1.release) (enumerate_from (k + 1) jobs)
        later passed m_i member too =
            let above : k + 1 ≤ m_i.0 = numbered_above (k + 1) jobs m_i member in
            apart (k, j) m_i (inl refl) (inr member) (counted_is (k, j) passed).0 (counted_is m_i too).0 (omega arith)

        by_test : (b : Bool) → counted (k, j) ≡ b
            → ((lower : ℕ) → Each (λ m_i. counted m_i ≡ true → lower ≤ m_i.1.release) (enumerate_from (k + 1) jobs)
            → AreFew (sum_by one (enumerate_from (k + 1) jobs)) lower)
            → sum_by one (enumerate_from k (j ∷ jobs)) ≡ cond (counted (k, j)) 1 0
            + sum_by one (enumerate_from (k + 1) jobs)
            → AreFew (sum_by one (enumerate_from k (j ∷ jobs))) from
        by_test true passed rest all = inr (more (rest (j.release + gap) (later passed))) where
          early : j.release ≤ t
          early = (counted_is (k, j) passed).1

          not_before : from ≤ j.release
          not_before = since (k, j) (inl refl) passed

          is : sum_by one (enumerate_from k (j ∷ jobs)) ≡ 1 + sum_by one (enumerate_from (k + 1) jobs)
          is = all ∙ ap (λ b. cond b 1 0 + sum_by one (enumerate_from (k + 1) jobs)) passed

          more : AreFew (sum_by one (enumerate_from (k + 1) jobs)) (j.release + gap)
              → sum_by one (enumerate_from k (j ∷ jobs)) * gap + from ≤ t + gap
          more (inl none) = rw is (rw none (omega (arith, early, not_before)))
          more (inr few) = rw is (omega (arith, few, not_before))
        by_test false failed rest all =
            let none : one (k, j) ≡ 0 = ap (λ b. cond {A = ℕ} b 1 0) failed in
            subst (λ c. AreFew c from)
            (let is : sum_by one (enumerate_from (k + 1) jobs) ≡ sum_by one (enumerate_from k (j ∷ jobs)) =
            omega (arith, all, none) in is)
            (rest from (λ m_i member. since m_i (inr member)))

  -- where no job is due later than its span behind its release, they are no more than spans have gaps
  pub count_most : (jobs : List JobFacts) → 1 ≤ gap → AreApart (enumerate_from 0 jobs)
      → Each (λ m_i. of m_i.0 ≡ y → m_i.1.deadline ≤ m_i.1.release + span) (enumerate_from 0 jobs)
      → sum_by one (enumerate_from 0 jobs) ≤ div_ceil span gap
  count_most jobs some apart within = by_count (count_from 0 jobs apart (t + 1 - span) since) where
    since : Each (λ m_i. counted m_i ≡ true → t + 1 - span ≤ m_i.1.release) (enumerate_from 0 jobs)
    since m_i member passed =
        let due : m_i.1.deadline ≤ m_i.1.release + span = within m_i member (counted_is m_i passed).0 in
        let late : t < m_i.1.deadline = (counted_is m_i passed).2 in
        omega (arith, due, late)

    by_count : AreFew (sum_by one (enumerate_from 0 jobs)) (t + 1 - span)
        → sum_by one (enumerate_from 0 jobs) ≤ div_ceil span gap
    by_count (inl none) = rw none (omega arith)
    by_count (inr few) =
        let bounds : (span ≤ div_ceil span gap * gap) × (div_ceil span gap * gap < span + gap) =
        div_ceil_times span gap (omega (arith, some)) in
        let less : sum_by one (enumerate_from 0 jobs) < suc (div_ceil span gap) =
        lt_of_mul-lt-mul_right gap (let product : sum_by one (enumerate_from 0 jobs) * gap < suc (div_ceil span gap)
        * gap = omega (arith, few, bounds.0) in product) in
        omega (arith, less)

-- a span is at least one gap, rounded up
pub some_gaps : (span gap : ℕ) → 1 ≤ span → 1 ≤ gap → 1 ≤ div_ceil span gap
some_gaps span gap some apart = by_count (div_ceil span gap) refl where
  by_count : (c : ℕ) → div_ceil span gap ≡ c → 1 ≤ c
  by_count zero none =
      let bounds : (span ≤ div_ceil span gap * gap) × (div_ceil span gap * gap < span + gap) =
      div_ceil_times span gap (omega (arith, apart)) in
      let nothing : div_ceil span gap * gap ≡ 0 * gap = ap (λ c. c * gap) none in
      absurd (omega (arith, bounds.0, nothing, some))
  by_count (suc c) _ = omega arith
