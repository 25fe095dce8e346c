-- Caps of stretches add up.
use Rattle.std.proofs.Common.{◌≡◌, ℕ, ◌+◌, ◌≤◌, List, [], ◌∷◌, map, refl, ap, Bool, true, false, cond, arith, ◌||◌}
use Rattle.std.proofs.Common.{sum_by, filter}
use Rattle.std.specs.List.{enumerate_from}
use Rattle.std.proofs.lemmas.List.Sums.{sum_by-cons}
use Rattle.dover_model.specs.Common.{JobFacts, Rules, is_served, worth, Each, is_inside, Job}
use Rattle.dover_model.proofs.lists.Members.{sum_le, sum_plus, sum_zero, sum_filter, cond_le}
use Rattle.dover_model.proofs.runs.Serving.{sum_numbered}
use Rattle.dover_model.proofs.rest.Parting.{worth_to, worth_placed, place, places, filter_rises, numbers_rise}
use Rattle.clairvoyant.specs.declared.overload.stretch.Stretch.{Stretch}
use Rattle.clairvoyant.specs.overload.Stretches.{jobs_inside, Caps, is_inside_some, value_outside, IsCapped}

-- ---- the jobs inside, under their numbers among all

inside_numbered : (a b k : ℕ) (jobs : List JobFacts)
    → map (λ (n_j : Job). n_j.1) (filter (λ n_j. is_inside a b n_j.1) (enumerate_from k jobs)) ≡ jobs_inside jobs a b
inside_numbered a b k [] = refl
inside_numbered a b k (j ∷ jobs) = (elim (is_inside a b j) as
    (λ c. map (λ (n_j : Job). n_j.1) (filter (λ n_j. is_inside a b n_j.1) (enumerate_from (k + 1) jobs)) ≡ jobs_inside
    jobs a b → map (λ (n_j : Job). n_j.1) (cond c ((k, j) ∷ filter (λ n_j. is_inside a b n_j.1)
    (enumerate_from (k + 1) jobs)) (filter (λ n_j. is_inside a b n_j.1) (enumerate_from (k + 1) jobs))) ≡ cond c
    (j ∷ jobs_inside jobs a b) (jobs_inside jobs a b)) [
      | true ↦ λ same. ap (λ js. j ∷ js) same
      | false ↦ λ same. same
    ]) (inside_numbered a b (k + 1) jobs)

-- what a schedule of all jobs earns by those inside is at most a cap on them
pub earned_inside : (jobs : List JobFacts) (rules : Rules) (s : List ℕ) (a b cap : ℕ) → Caps (jobs_inside jobs a b) cap
    → sum_by (worth_to s) (filter (λ n_j. is_inside a b n_j.1) (enumerate_from 0 jobs)) ≤ cap
earned_inside jobs rules s a b cap caps =
    let ns : List Job = filter (λ n_j. is_inside a b n_j.1) (enumerate_from 0 jobs) in
    let s2 : List ℕ = map (place 0 ns) s in
    let placed : sum_by (worth_to s) ns ≤ sum_by (worth_to s2) (enumerate_from 0 (map (λ (n_j : Job). n_j.1) ns)) =
    worth_placed (place 0 ns) s 0 ns
    (places 0 0 ns (filter_rises (λ n_j. is_inside a b n_j.1) 0 (enumerate_from 0 jobs) (numbers_rise 0 jobs))) in
    let same : sum_by (worth_to s2) (enumerate_from 0 (map (λ (n_j : Job). n_j.1) ns))
    ≡ worth (record { rules = rules; jobs = jobs_inside jobs a b }) s2 =
    ap (λ js. sum_by (worth_to s2) (enumerate_from 0 js)) (inside_numbered a b 0 jobs) in
    omega (arith, placed, same, caps rules s2)

-- ---- sums

-- a job is worth its value where it is inside none, and else is counted where it is inside
counted : (s : List ℕ) (xs : List Stretch) (n_j : Job)
    → worth_to s n_j ≤ cond (is_inside_some xs n_j.1) 0 n_j.1.value
    + sum_by (λ (x : Stretch). cond (is_inside x.from x.until n_j.1) (worth_to s n_j) 0) xs
counted s [] n_j = omega (arith, cond_le (is_served s n_j) n_j.1.value)
counted s (x ∷ xs) n_j = omega (
  arith,
  sum_by-cons (λ (y : Stretch). cond (is_inside y.from y.until n_j.1) (worth_to s n_j) 0) x xs,
  by_test (is_inside x.from x.until n_j.1) (counted s xs n_j),
) where
  by_test : (c : Bool)
      → worth_to s n_j ≤ cond (is_inside_some xs n_j.1) 0 n_j.1.value
      + sum_by (λ (x : Stretch). cond (is_inside x.from x.until n_j.1) (worth_to s n_j) 0) xs
      → worth_to s n_j ≤ cond (c || is_inside_some xs n_j.1) 0 n_j.1.value
      + (cond c (worth_to s n_j) 0
      + sum_by (λ (x : Stretch). cond (is_inside x.from x.until n_j.1) (worth_to s n_j) 0) xs)
  by_test true rest = omega arith
  by_test false rest = omega (arith, rest)

-- a sum of sums, the other way round
swapped : {X Y : Type 0} (f : X → Y → ℕ) (xs : List X) (ys : List Y)
    → sum_by (λ y. sum_by (λ x. f x y) xs) ys ≤ sum_by (λ x. sum_by (f x) ys) xs
swapped f [] ys = omega (arith, sum_zero (λ y. 0) ys (λ y member. refl))
swapped f (x ∷ xs) ys = omega (
  arith,
  sum_le (λ y. sum_by (λ z. f z y) (x ∷ xs)) (λ y. f x y + sum_by (λ z. f z y) xs) ys
      (λ y member. omega (arith, sum_by-cons (λ z. f z y) x xs)),
  sum_plus (f x) (λ y. sum_by (λ z. f z y) xs) ys,
  sum_by-cons (λ z. sum_by (f z) ys) x xs,
  swapped f xs ys,
)

-- no schedule is worth more than the jobs outside of all stretches and the caps of the stretches
pub caps_all : (jobs : List JobFacts) (xs : List Stretch) → Each (IsCapped jobs) xs
    → Caps jobs (value_outside jobs xs + sum_by (λ x. x.cap) xs)
caps_all jobs xs capped rules s =
    let ns : List Job = enumerate_from 0 jobs in
    let in_one : Job → Stretch → ℕ = λ n_j x. cond (is_inside x.from x.until n_j.1) (worth_to s n_j) 0 in
    let each : sum_by (worth_to s) ns
    ≤ sum_by (λ n_j. cond (is_inside_some xs n_j.1) 0 n_j.1.value + sum_by (in_one n_j) xs) ns =
    sum_le (worth_to s) (λ n_j. cond (is_inside_some xs n_j.1) 0 n_j.1.value + sum_by (in_one n_j) xs) ns
    (λ n_j member. counted s xs n_j) in
    let parted : sum_by (λ n_j. cond (is_inside_some xs n_j.1) 0 n_j.1.value + sum_by (in_one n_j) xs) ns
    ≡ sum_by (λ n_j. cond (is_inside_some xs n_j.1) 0 n_j.1.value) ns + sum_by (λ n_j. sum_by (in_one n_j) xs) ns =
    sum_plus (λ n_j. cond (is_inside_some xs n_j.1) 0 n_j.1.value) (λ n_j. sum_by (in_one n_j) xs) ns in
    let turned : sum_by (λ n_j. sum_by (in_one n_j) xs) ns ≤ sum_by (λ x. sum_by (λ n_j. in_one n_j x) ns) xs =
    swapped (λ (x : Stretch) n_j. in_one n_j x) xs ns in
    let caps : sum_by (λ x. sum_by (λ n_j. in_one n_j x) ns) xs ≤ sum_by (λ (x : Stretch). x.cap) xs =
    sum_le (λ x. sum_by (λ n_j. in_one n_j x) ns) (λ (x : Stretch). x.cap) xs
    (λ x member. omega (
      arith,
      sum_filter (λ (n_j : Job). is_inside x.from x.until n_j.1) (worth_to s) ns,
      earned_inside jobs rules s x.from x.until x.cap (capped x member),
    )) in
    omega (
      arith,
      each,
      parted,
      turned,
      caps,
      sum_numbered (λ j. cond (is_inside_some xs j) 0 j.value) 0 jobs,
    )
