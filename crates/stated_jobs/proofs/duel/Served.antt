-- A job without slack is served only where each tick of its window names it; where one tick names all that are served,
-- at most one is.
use Rattle.std.proofs.Common.{◌≡◌, ℕ, zero, suc, ◌+◌, ◌-◌, ◌*◌, ◌≤◌, ◌<◌, ◌⊎◌, inl, inr, List, [], ◌∷◌, cond, eqb}
use Rattle.std.proofs.Common.{refl, sym, ap, ◌∙◌, subst, take, drop, arith, Some, Bool, true, false}
use Rattle.std.specs.Prelude.{slice_get}
use Rattle.std.specs.List.{count_by, sum_by, enumerate_from}
use Rattle.std.proofs.lemmas.Bool.{lt-leb, ne_eqb}
use Rattle.std.proofs.lemmas.List.{drop-take}
use Rattle.std.proofs.lemmas.List.Sums.{sum_by-cons}
use Rattle.dover_model.specs.Common.{JobFacts, ticks_given, is_served, earned, tight_job}

-- no more ticks than there are places
most_count : (n w : ℕ) (xs : List ℕ) → count_by (λ m. eqb m n) (take w xs) ≤ w
most_count n zero xs = omega arith
most_count n (suc w) [] = omega arith
most_count n (suc w) (x ∷ xs) = level (cond (eqb x n) 1 0) (count_by (λ m. eqb m n) (take w xs))
    (count_by (λ m. eqb m n) (x ∷ take w xs)) (one (eqb x n)) (most_count n w xs)
    (sum_by-cons (λ m. cond (eqb m n) 1 0) x (take w xs)) where
      one : (b : Bool) → cond b 1 0 ≤ 1
      one true = omega arith
      one false = omega arith

      level : (c rest all : ℕ) → c ≤ 1 → rest ≤ w → all ≡ c + rest → all ≤ suc w
      level c rest all few less is = omega (arith, few, less, is)

-- a place that doesn't name the job leaves it a tick short
short_count : (n w i : ℕ) (xs : List ℕ) → i < w → (slice_get xs i ≡ Some n → ⊥)
    → count_by (λ m. eqb m n) (take w xs) < w
short_count n zero i xs less other = absurd (omega (arith, less))
short_count n (suc w) i [] less other = omega arith
short_count n (suc w) zero (x ∷ xs) less other =
    level (cond (eqb x n) 1 0) (count_by (λ m. eqb m n) (take w xs))
    (count_by (λ m. eqb m n) (x ∷ take w xs)) (ap (λ b. cond b 1 0) (ne_eqb x n (λ e. other (ap (λ m. Some m) e))))
    (most_count n w xs)
    (sum_by-cons (λ m. cond (eqb m n) 1 0) x (take w xs)) where
      level : (c rest all : ℕ) → c ≡ 0 → rest ≤ w → all ≡ c + rest → all < suc w
      level c rest all none few is = omega (arith, none, few, is)
short_count n (suc w) (suc i) (x ∷ xs) less other =
    level (cond (eqb x n) 1 0) (count_by (λ m. eqb m n) (take w xs))
    (count_by (λ m. eqb m n) (x ∷ take w xs)) (one (eqb x n))
    (short_count n w i xs (omega (arith, less)) other)
    (sum_by-cons (λ m. cond (eqb m n) 1 0) x (take w xs)) where
      one : (b : Bool) → cond b 1 0 ≤ 1
      one true = omega arith
      one false = omega arith

      level : (c rest all : ℕ) → c ≤ 1 → rest < w → all ≡ c + rest → all < suc w
      level c rest all few less is = omega (arith, few, less, is)

-- the places behind so many
get_drop : (r i : ℕ) (xs : List ℕ) → slice_get (drop r xs) i ≡ slice_get xs (r + i)
get_drop zero i xs = ap (λ m. slice_get xs m) same where
  same : i ≡ zero + i
  same = omega arith
get_drop (suc r) i [] = refl
get_drop (suc r) i (x ∷ xs) = get_drop r i xs ∙ ap (λ m. slice_get (x ∷ xs) m) same where
  same : suc (r + i) ≡ suc r + i
  same = omega arith

-- a tick of its window that doesn't name it
pub misses : (s : List ℕ) (n t w d u : ℕ) → t ≤ u → u < t + w → (slice_get s u ≡ Some n → ⊥)
    → is_served s (n, tight_job t w d) ≡ false
misses s n t w d u late early other = lt-leb w (ticks_given s n (tight_job t w d))
    (subst (λ xs. count_by (λ m. eqb m n) xs < w) (sym (drop-take t w s))
    (short_count n w (u - t) (drop t s) (omega (arith, late, early))
    (λ named. other (ap (λ m. slice_get s m) (whole late) ∙ sym (get_drop t (u - t) s) ∙ named)))) where
      whole : t ≤ u → u ≡ t + (u - t)
      whole late = omega (arith, late)

-- what jobs from a number on add to the worth of a schedule
abbrev pub parts : List ℕ → ℕ → List JobFacts → ℕ
parts s n jobs = sum_by (earned s) (enumerate_from n jobs)

pub parts_cons : (s : List ℕ) (n : ℕ) (j : JobFacts) (jobs : List JobFacts)
    → parts s n (j ∷ jobs) ≡ earned s (n, j) + parts s (suc n) jobs
parts_cons s n j jobs = sum_by-cons (earned s) (n, j) (enumerate_from (n + 1) jobs)
    ∙ ap (λ m. earned s (n, j) + parts s m jobs) next where
      next : n + 1 ≡ suc n
      next = omega arith

-- a fact on each job with its number
abbrev pub Numbered : (ℕ → JobFacts → Type 0) → ℕ → List JobFacts → Type 0
Numbered fact n [] = Unit {0}
Numbered fact n (j ∷ jobs) = fact n j × Numbered fact (suc n) jobs

-- what is known of the jobs of a schedule of which only those of the number x are served
abbrev pub OnlyThis : List ℕ → (x a most : ℕ) → ℕ → JobFacts → Type 0
OnlyThis s x a most n j = (is_served s (n, j) ≡ false) ⊎ ((n ≡ x) × (a * j.value < most))

unearned : (s : List ℕ) (n : ℕ) (j : JobFacts) → is_served s (n, j) ≡ false → earned s (n, j) ≡ 0
unearned s n j not = ap (λ b. cond b j.value 0) not

-- behind it none is
none_after : (s : List ℕ) (x a most n : ℕ) (jobs : List JobFacts) → x < n → Numbered (OnlyThis s x a most) n jobs
    → parts s n jobs ≡ 0
none_after s x a most n [] late all = refl
none_after s x a most n (j ∷ jobs) late (inl not, all) =
    level (parts s n (j ∷ jobs)) (earned s (n, j)) (parts s (suc n) jobs) (parts_cons s n j jobs)
    (unearned s n j not) (none_after s x a most (suc n) jobs (omega (arith, late)) all) where
      level : (all one rest : ℕ) → all ≡ one + rest → one ≡ 0 → rest ≡ 0 → all ≡ 0
      level all one rest is none nothing = omega (arith, is, none, nothing)
none_after s x a most n (j ∷ jobs) late (inr (same, less), all) = absurd (omega (arith, same, late))

-- so they are worth less than what each of that number is less than
pub only_one : (s : List ℕ) (x a most n : ℕ) (jobs : List JobFacts) → 1 ≤ most → Numbered (OnlyThis s x a most) n jobs
    → a * parts s n jobs < most
only_one s x a most n [] some all = level some where
  level : 1 ≤ most → a * 0 < most
  level some = omega (arith, some)
only_one s x a most n (j ∷ jobs) some (inl not, all) =
    subst (λ m. a * m < most) (sym (parts_cons s n j jobs ∙ ap (λ m. m + parts s (suc n) jobs) (unearned s n j not)
    ∙ nothing (parts s (suc n) jobs))) (only_one s x a most (suc n) jobs some all) where
      nothing : (m : ℕ) → 0 + m ≡ m
      nothing m = omega arith
only_one s x a most n (j ∷ jobs) some (inr (same, less), all) =
    subst (λ m. a * m < most) (sym (parts_cons s n j jobs ∙ ap (λ m. earned s (n, j) + m)
    (none_after s x a most (suc n) jobs (omega (arith, same)) all))) (by_test (is_served s (n, j))) where
      by_test : (b : Bool) → a * (cond b j.value 0 + 0) < most
      by_test true = omega (arith, less)
      by_test false = omega (arith, some)
