-- The books of a run, against one schedule: what it gives to jobs in busy ticks and later, and what the rows' ticks are
-- worth.
use Rattle.std.proofs.Common.{◌≡◌, ℕ, ◌+◌, ◌-◌, ◌*◌, ◌≤◌, ◌<◌, ◌⊎◌, inl, inr, List, [], ◌∷◌, ◌++◌, refl, sym}
use Rattle.std.proofs.Common.{ap, ◌∙◌, subst, Bool, true, false, eqb, arith, nat_le, nat_lt, ◌&&◌, sum_by}
use Rattle.std.proofs.Common.{le-leb, lt-ltb}
use Rattle.std.proofs.lemmas.Bool.{cases_lt}
use Rattle.std.proofs.Math.Nat.{mul-sub}
use Rattle.std.proofs.lemmas.List.Sums.{sum_by-cons, sum_by-append}
use Rattle.dover_model.specs.Common.{Fraction, Row, IsRow, completed_in, row_sum, Job, IsMember, Each}
use Rattle.dover_model.specs.Books.{IsBusy}
use Rattle.dover_model.proofs.lists.Members.{sum_plus, term_le_sum}
use Rattle.dover_model.proofs.bound.Counting.{one, total, range_count, share_of, share_le, NamesOnce, shares_most}

-- ---- lists

module _ {X : Type 0} where
  -- a sum and what its terms are scaled to
  pub scaled_sum : (c d : ℕ) (f g : X → ℕ) (xs : List X) → Each (λ x. c * f x ≤ d * g x) xs
      → c * sum_by f xs ≤ d * sum_by g xs
  scaled_sum c d f g [] all = omega arith
  scaled_sum c d f g (x ∷ xs) all =
      omega (
        arith,
        ap (λ n. c * n) (sum_by-cons f x xs),
        ap (λ n. d * n) (sum_by-cons g x xs),
        all x (inl refl),
        scaled_sum c d f g xs
            (λ y member. all y (inr member)),
      )

  -- the list without one of its members
  pub record Without (m : X) (xs : List X) : Type 0 where
    pub rest : List X
    pub sums : (f : X → ℕ) → sum_by f xs ≡ f m + sum_by f rest
    pub members : Each (λ x. IsMember x xs) rest

  -- a member can be left out
  pub without : (m : X) (xs : List X) → IsMember m xs → Without m xs
  without m [] member = absurd member
  without m (x ∷ xs) (inl e) = record {
    rest = xs;
    sums = λ f. sum_by-cons f x xs ∙ ap (λ y. f y + sum_by f xs) (sym e);
    members =
        λ y member. inr member;
  }
  without m (x ∷ xs) (inr member) = add (without m xs member) where
    add : Without m xs → Without m (x ∷ xs)
    add it = record {
      rest = x ∷ it.rest;
      sums = λ f. omega (arith, sum_by-cons f x xs, sum_by-cons f x it.rest, it.sums f);
      members = each;
    } where
      each : Each (λ y. IsMember y (x ∷ xs)) (x ∷ it.rest)
      each y (inl e) = inl e
      each y (inr later) = inr (it.members y later)

  -- some member has the greatest key, or there is none
  pub greatest : (key : X → ℕ) (xs : List X) → (xs ≡ []) ⊎ ((m : X) × IsMember m xs × Each (λ x. key x ≤ key m) xs)
  greatest key [] = inl refl
  greatest key (x ∷ xs) = inr (by_rest (greatest key xs)) where
    by_rest : (xs ≡ []) ⊎ ((m : X) × IsMember m xs × Each (λ y. key y ≤ key m) xs)
        → (m : X) × IsMember m (x ∷ xs) × Each (λ y. key y ≤ key m) (x ∷ xs)
    by_rest (inl none) = (x, inl refl, each) where
      each : Each (λ y. key y ≤ key x) (x ∷ xs)
      each y (inl e) = omega (arith, ap key e)
      each y (inr member) = absurd (subst (IsMember y) none member)
    by_rest (inr it) = by_order (cases_lt (key x) (key it.0)) where
      by_order : (key x < key it.0) ⊎ (key it.0 ≤ key x) → (m : X) × IsMember m (x ∷ xs)
          × Each (λ y. key y ≤ key m) (x ∷ xs)
      by_order (inl less) = (it.0, inr it.1, each) where
        each : Each (λ y. key y ≤ key it.0) (x ∷ xs)
        each y (inl e) = omega (arith, ap key e)
        each y (inr member) = it.2 y member
      by_order (inr more) = (x, inl refl, each) where
        each : Each (λ y. key y ≤ key x) (x ∷ xs)
        each y (inl e) = omega (arith, ap key e)
        each y (inr member) = let low : key y ≤ key it.0 = it.2 y member in omega arith

-- ---- what one schedule gives to jobs

module _ (busy : ℕ → Bool) (s : List ℕ) where
  -- what it gives to a job in busy ticks
  abbrev pub early : Job → ℕ
  early n_j = share_of (λ τ. one (busy τ)) s n_j

  -- what it gives to it from u on
  abbrev pub late : ℕ → Job → ℕ
  late u n_j = share_of (λ τ. one (nat_le u τ)) s n_j

  -- what a schedule gives to a job is busy, or comes later, where its window is busy so long
  pub two_parts : (u : ℕ) (n_j : Job) → IsBusy busy n_j.1.release u → share_of (λ τ. 1) s n_j ≤ early n_j + late u n_j
  two_parts u n_j covered =
      share_le (λ τ. 1) (λ τ. one (busy τ)) (λ τ. one (nat_le u τ)) s n_j
      (λ τ low high. by_order τ low (cases_lt τ u)) where
        by_order : (τ : ℕ) → n_j.1.release ≤ τ → (τ < u) ⊎ (u ≤ τ) → 1 ≤ one (busy τ) + one (nat_le u τ)
        by_order τ low (inl before) = omega (arith, ap one (covered τ low before))
        by_order τ low (inr after) = omega (arith, ap one (le-leb u τ after))

  -- jobs that are due by d are given no more from u on
  pub late_share : (u d : ℕ) (jobs : List Job) → NamesOnce jobs → Each (λ n_j. n_j.1.deadline ≤ d) jobs
      → sum_by (late u) jobs ≤ d - u
  late_share u d jobs once due = omega (
    arith,
    shares_most jobs once (λ τ. one (nat_le u τ)) (λ τ. one (nat_le u τ && nat_lt τ d)) s
        (λ n_j member τ low high. in_range τ (let last : n_j.1.deadline ≤ d = due n_j member in omega arith)),
    range_count u d 0 s,
  ) where
    in_range : (τ : ℕ) → τ < d → one (nat_le u τ) ≤ one (nat_le u τ && nat_lt τ d)
    in_range τ less = rw (lt-ltb τ d less) (same (nat_le u τ)) where
      same : (b : Bool) → one b ≤ one (b && true)
      same true = omega arith
      same false = omega arith

-- ---- all rows, against one schedule

-- the books of a run, with the value v and the work w of a job of least density, where no job completed after a take
-- asks for less than it had
pub record AreBooks (k : Fraction) (v w : ℕ) (jobs : List Job) (rows : List Row) (busy : ℕ → Bool) : Type 0 where
  pub some_q : 1 ≤ k.q
  pub ratio : k.q ≤ k.p
  pub some_work : 1 ≤ w
  pub each_once : (f : Job → ℕ) → sum_by f jobs ≡ sum_by (row_sum f) rows
  pub names : NamesOnce jobs
  pub rows_are : Each (IsRow k v w busy) rows
  pub exact : Each (λ row. Each (λ n_j. row.had ≤ n_j.1.work) row.taken) rows
  pub busy_most : (s : List ℕ)
      → total (λ τ m. one (busy τ)) 0 s ≤ sum_by (λ row. row.interval.until - row.interval.from) rows

module _ (k : Fraction) (v w : ℕ) (jobs : List Job) (rows : List Row) (busy : ℕ → Bool)
    (books : AreBooks k v w jobs rows busy) (s : List ℕ) where
  -- no number names two jobs of a row
  pub row_names : Each (λ row. NamesOnce (row.taken ++ row.gone)) rows
  row_names row member m =
      let term : row_sum (λ n_j. one (eqb m n_j.0)) row ≤ sum_by (row_sum (λ n_j. one (eqb m n_j.0))) rows =
      term_le_sum (row_sum (λ n_j. one (eqb m n_j.0))) rows row member in
      omega (
        arith,
        sum_by-append (λ n_j. one (eqb m n_j.0)) row.taken row.gone,
        books.each_once (λ n_j. one (eqb m n_j.0)),
        books.names m,
      )

  -- regular, taken and displaced over all rows
  abbrev regular_all : ℕ
  regular_all = sum_by (λ row. row.interval.regular) rows

  -- of all rows
  abbrev taken_all : ℕ
  taken_all = sum_by (λ row. row.interval.taken) rows

  -- of all rows
  abbrev displaced_all : ℕ
  displaced_all = sum_by (λ row. row.interval.displaced) rows

  -- what is completed is regular or taken
  pub completed_parts : sum_by completed_in rows ≡ regular_all + taken_all
  completed_parts = sum_plus (λ row. row.interval.regular) (λ row. row.interval.taken) rows

  -- the schedule gives no more busy ticks than the rows have
  pub early_most : sum_by (row_sum (early busy s)) rows ≤ sum_by (λ row. row.interval.until - row.interval.from) rows
  early_most = omega (
    arith,
    books.each_once (early busy s),
    shares_most jobs books.names (λ τ. one (busy τ)) (λ τ. one (busy τ)) s (λ n_j member τ low high. omega arith),
    books.busy_most s,
  )

  -- the ticks that jobs completed after a take had
  abbrev had_all : ℕ
  had_all = sum_by (λ row. row.had) rows

  -- the ticks of some rows are paid by what is done as usual and displaced, and by what jobs completed after a take had
  spans_paid : (some : List Row) → Each (IsRow k v w busy) some
      → v * sum_by (λ row. row.interval.until - row.interval.from) some ≤ w
      * (sum_by (λ row. row.interval.regular) some + sum_by (λ row. row.interval.displaced) some) + v
      * sum_by (λ row. row.had) some
  spans_paid [] facts = omega arith
  spans_paid (row ∷ some) facts = omega (
    arith,
    ap (λ n. v * n) (sum_by-cons (λ (x : Row). x.interval.until - x.interval.from) row some),
    ap (λ n. w * n) (sum_by-cons (λ (x : Row). x.interval.regular) row some),
    ap (λ n. w * n) (sum_by-cons (λ (x : Row). x.interval.displaced) row some),
    ap (λ n. v * n) (sum_by-cons (λ (x : Row). x.had) row some),
    mul-sub v row.interval.until row.interval.from,
    (facts row (inl refl)).span,
    spans_paid some (λ x member. facts x (inr member)),
  )

  -- so are the ticks of all
  pub ticks_worth : v * sum_by (λ row. row.interval.until - row.interval.from) rows
      ≤ w * (regular_all + displaced_all) + v * had_all
  ticks_worth = spans_paid rows books.rows_are
