-- How many sets of jobs are looked at.
use Rattle.std.proofs.Common.{◌≡◌, ℕ, ◌+◌, ◌-◌, ◌*◌, ◌^◌, ◌≤◌, ◌<◌, List, [], ◌∷◌, ◌++◌, inl, inr, refl, sym, ap}
use Rattle.std.proofs.Common.{subst, zero, suc, length, Bool, true, false, cond, arith, filter, sum_by, le-leb}
use Rattle.std.proofs.lemmas.Bool.{cases_lt, lt-leb}
use Rattle.std.proofs.lemmas.List.Sums.{sum_by_push, sum_by-cons}
use Rattle.std.proofs.Math.Nat.{pow-succ'}
use Rattle.dover_model.specs.Common.{JobFacts, IsJob, Each, is_inside}
use Rattle.dover_model.proofs.valid.JobLimits.{job_limits}
use Rattle.dover_model.proofs.lists.Members.{all_member, each_behind, member_filter, sum_same}
use Rattle.clairvoyant.specs.declared.overload.stretch.Costed.{Costed}
use Rattle.clairvoyant.specs.declared.overload.stretch.Stretch.{Stretch}
use Rattle.clairvoyant.specs.overload.Stretches.{AreInOrder, IsCosted, IsReached, IsStretch, jobs_inside, most_sets}
use Rattle.clairvoyant.specs.overload.Stretches.{most_sought, sets_in, sets_of}
use Rattle.clairvoyant.proofs.overload.Filling.{filter_filter}
use Rattle.clairvoyant.proofs.overload.Outside.{inside_says}

-- of few jobs all sets are looked at
sets_few : (n : ℕ) → n ≤ most_sought → sets_of n ≡ 2 ^ n
sets_few n few = ap (λ b. cond b (2 ^ n) 0) (le-leb _ _ few)

-- the sets of one stretch
abbrev pub sets_at : List JobFacts → Stretch → ℕ
sets_at jobs x = sets_of (length (jobs_inside jobs x.from x.until))

module _ (jobs : List JobFacts) (xs : List Stretch) (y : Stretch) where
  -- with one stretch more
  pub sets_more : sets_in jobs (xs ++ y ∷ []) ≡ sets_in jobs xs + sets_at jobs y
  sets_more = sum_by_push (sets_at jobs) xs y

  -- what is left is noted
  pub sets_left : (old new : ℕ) → most_sets ≤ old + sets_in jobs xs → old ≤ new + sets_at jobs y
      → most_sets ≤ new + sets_in jobs (xs ++ y ∷ [])
  sets_left old new left spent = omega (arith, left, spent, sets_more)

  -- while the sets last, the caps of few jobs are reached
  pub all_reached : (old : ℕ) → most_sets ≤ old + sets_in jobs xs
      → (sets_in jobs xs ≤ most_sets → Each (IsReached jobs) xs) → (sets_at jobs y ≤ old → IsReached jobs y)
      → sets_in jobs (xs ++ y ∷ []) ≤ most_sets → Each (IsReached jobs) (xs ++ y ∷ [])
  all_reached old left before last few = each_behind (IsReached jobs) xs y
      (before (omega (arith, few, sets_more))) (last (omega (arith, few, sets_more, left)))

-- ---- so many jobs have few sets

-- of some jobs, but few, there are at most 102.4 sets a job
sets_some : (n : ℕ) → 1 ≤ n → 10 * sets_of n ≤ 1_024 * n
sets_some n some = elim (cases_lt most_sought n) [
  | inl many ↦ let none : sets_of n ≡ 0 = ap (λ b. cond b (2 ^ n) 0) (lt-leb _ _ many) in omega (arith, none)
  | inr least ↦ omega (arith, sets_few n least, few (10 - n) n (omega (arith, least)) some)
] where
  few : (d m : ℕ) → m + d ≡ 10 → 1 ≤ m → 10 * 2 ^ m ≤ 1_024 * m
  few zero m ten low = subst (λ k. 10 * 2 ^ k ≤ 1_024 * k) (let e : 10 ≡ m = omega (arith, ten) in e) (omega arith)
  few (suc d) m ten low =
      let up : 10 * 2 ^ suc m ≤ 1_024 * suc m = few d (suc m) (omega (arith, ten)) (omega arith) in
      let twice : 2 ^ suc m ≡ 2 * 2 ^ m = pow-succ' 2 m in
      omega (arith, up, twice, low)

-- jobs with work are some
some_jobs : (js : List JobFacts) (n : ℕ) → n < sum_by (λ j. j.work) js → 1 ≤ length js
some_jobs [] n more = absurd (omega (arith, more))
some_jobs (j ∷ js) n more = omega arith

-- how many jobs are inside a stretch
abbrev pub count_at : List JobFacts → Stretch → ℕ
count_at jobs x = length (jobs_inside jobs x.from x.until)

-- so it is in all stretches
sets_low : (jobs : List JobFacts) (xs : List Stretch) → Each (IsStretch jobs) xs
    → 10 * sets_in jobs xs ≤ 1_024 * sum_by (count_at jobs) xs
sets_low jobs [] each = omega arith
sets_low jobs (x ∷ xs) each = omega (
  arith,
  sum_by-cons (sets_at jobs) x xs,
  sum_by-cons (count_at jobs) x xs,
  sets_some (count_at jobs x)
      (some_jobs (jobs_inside jobs x.from x.until) (x.until - x.from) ((each x (inl refl)).overfull)),
  sets_low jobs xs (λ y member. each y (inr member)),
)

-- a job that isn't inside
abbrev is_out : ℕ → ℕ → JobFacts → Bool
is_out a b j = cond (is_inside a b j) false true

-- each job is inside or isn't
parted : (a b : ℕ) (jobs : List JobFacts)
    → length (jobs_inside jobs a b) + length (filter (is_out a b) jobs) ≡ length jobs
parted a b [] = refl
parted a b (j ∷ jobs) = by_test (is_inside a b j) (parted a b jobs) where
  by_test : (t : Bool) → length (jobs_inside jobs a b) + length (filter (is_out a b) jobs) ≡ length jobs
      → length (cond t (j ∷ jobs_inside jobs a b) (jobs_inside jobs a b))
      + length (cond (cond t false true) (j ∷ filter (is_out a b) jobs) (filter (is_out a b) jobs)) ≡ length (j ∷ jobs)
  by_test true rest = omega (arith, rest)
  by_test false rest = omega (arith, rest)

-- a job inside a later stretch isn't inside the first
later_out : (x y : Stretch) (j : JobFacts) → IsJob j → x.until ≤ y.from → is_inside y.from y.until j ≡ true
    → is_out x.from x.until j ≡ true
later_out x y j good later inside = by_test (is_inside x.from x.until j) refl where
  by_test : (t : Bool) → is_inside x.from x.until j ≡ t → cond t false true ≡ true
  by_test false out = refl
  by_test true within =
      let due : j.deadline ≤ x.until = (inside_says x.from x.until j within).1 in
      let from : y.from ≤ j.release = (inside_says y.from y.until j inside).0 in
      absurd (omega (arith, due, from, later, (job_limits good).work, (job_limits good).window))

-- no more jobs are inside stretches that are apart than there are
pub inside_few : (xs : List Stretch) → AreInOrder xs → (jobs : List JobFacts) → Each IsJob jobs
    → sum_by (count_at jobs) xs ≤ length jobs
inside_few [] order jobs good = omega arith
inside_few (x ∷ xs) order jobs good = omega (
  arith,
  sum_by-cons (count_at jobs) x xs,
  sum_same (count_at jobs) (count_at (filter (is_out x.from x.until) jobs)) xs
      (λ y member. ap (λ (js : List JobFacts). length js) (sym (filter_filter (is_inside y.from y.until)
      (is_out x.from x.until) jobs (λ j m. later_out x y j (good j m)
      (all_member (λ (z : Stretch). x.until ≤ z.from) xs order.0 y member))))),
  inside_few xs order.1 (filter (is_out x.from x.until) jobs)
      (λ j member. good j (member_filter (is_out x.from x.until) jobs j member).0),
  parted x.from x.until jobs,
)

-- where jobs are few enough the caps of few jobs are reached
pub few_reached : (jobs : List JobFacts) (costed : Costed) → Each IsJob jobs → IsCosted jobs costed
    → length jobs ≤ 327_680 → Each (IsReached jobs) costed.stretches.items
few_reached jobs costed good it few = it.few (omega (
  arith,
  sets_low jobs costed.stretches.items it.each,
  inside_few costed.stretches.items it.in_order jobs good,
  few,
))
