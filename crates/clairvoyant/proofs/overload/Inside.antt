-- The value of the jobs inside a window that are done, job by job.
use Rattle.std.proofs.Common.{◌≡◌, ℕ, ◌+◌, ◌-◌, ◌≤◌, ◌<◌, List, [], ◌∷◌, ◌++◌, length, take, drop, inl, inr, refl, sym}
use Rattle.std.proofs.Common.{ap, ◌∙◌, subst, take-append-drop, get_or, Bool, false, cond, arith, ◌&&◌, sum_by}
use Rattle.std.proofs.Common.{length-take, drop-drop}
use Rattle.std.specs.List.{enumerate_from}
use Rattle.std.proofs.lemmas.List.{take_more}
use Rattle.std.proofs.lemmas.List.Sums.{sum_by-append, sum_by-cons}
use Rattle.dover_model.specs.Common.{JobFacts, IsJob, Job, IsMember, Each, is_inside}
use Rattle.dover_model.proofs.lists.Members.{sum_same}
use Rattle.dover_model.proofs.rest.Parting.{enumerate_append}
use Rattle.clairvoyant.specs.overload.Stretches.{value_inside}
use Rattle.clairvoyant.specs.overload.Collecting.{IsCut}
use Rattle.clairvoyant.proofs.overload.Near.{early_out, late_out, in_rest}

module _ (f : Job → ℕ) where
  -- a sum over the jobs of two lists
  two_lists : (xs ys : List JobFacts) → sum_by f (enumerate_from 0 (xs ++ ys))
      ≡ sum_by f (enumerate_from 0 xs) + sum_by f (enumerate_from (length xs) ys)
  two_lists xs ys = ap (sum_by f) (enumerate_append 0 xs ys)
      ∙ sum_by-append f (enumerate_from 0 xs) (enumerate_from (0 + length xs) ys)
      ∙ ap (λ k. sum_by f (enumerate_from 0 xs) + sum_by f (enumerate_from k ys))
      (let e : 0 + length xs ≡ length xs = omega arith in e)

  -- one job more
  pub job_more : (jobs : List JobFacts) (i : ℕ) (j : JobFacts) → i < length jobs → j ≡ get_or jobs i j
      → sum_by f (enumerate_from 0 (take (i + 1) jobs)) ≡ sum_by f (enumerate_from 0 (take i jobs)) + f (i, j)
  job_more jobs i j short is = ap (λ js. sum_by f (enumerate_from 0 js)) (take_more jobs i j short)
      ∙ two_lists (take i jobs) (get_or jobs i j ∷ [])
      ∙ ap (λ k. sum_by f (enumerate_from 0 (take i jobs)) + sum_by f (enumerate_from k (get_or jobs i j ∷ [])))
      (let e : length (take i jobs) ≡ i = omega (arith, length-take i jobs, short) in e)
      ∙ ap (λ x. sum_by f (enumerate_from 0 (take i jobs)) + sum_by f ((i, x) ∷ [])) (sym is)
      ∙ let e : sum_by f (enumerate_from 0 (take i jobs)) + sum_by f ((i, j) ∷ [])
      ≡ sum_by f (enumerate_from 0 (take i jobs)) + f (i, j) = omega (arith, sum_by-cons f (i, j) []) in e

module _ (jobs : List JobFacts) (done : ℕ → Bool) (a b : ℕ) where
  -- what a job adds
  abbrev pub adds : Job → ℕ
  adds (n, j) = cond (is_inside a b j && done n) j.value 0

  -- what the first jobs add, so many
  abbrev pub so_far : ℕ → ℕ
  so_far i = sum_by adds (enumerate_from 0 (take i jobs))

  -- jobs that aren't inside add nothing
  nothing : (k : ℕ) (js : List JobFacts) → Each (λ j. is_inside a b j ≡ false) js
      → sum_by adds (enumerate_from k js) ≡ 0
  nothing k [] out = refl
  nothing k (j ∷ js) out = omega (
    arith,
    sum_by-cons adds (k, j) (enumerate_from (k + 1) js),
    ap (λ c. cond (c && done k) j.value 0) (out j (inl refl)),
    nothing (k + 1) js (λ i member. out i (inr member)),
  )

  -- those before the window add nothing
  pub none_before : (m : ℕ) → IsCut jobs a m → so_far m ≡ 0
  none_before m first = nothing 0 (take m jobs) (λ j member. early_out a b j (first.before j member))

  -- one more
  pub one_more : (i : ℕ) (j : JobFacts) → i < length jobs → j ≡ get_or jobs i j
      → so_far (i + 1) ≡ so_far i + adds (i, j)
  one_more i j short is = job_more adds jobs i j short is

  -- and those behind it
  pub all_added : (n i : ℕ) → Each IsJob jobs → IsCut jobs b n → n ≤ i → so_far i ≡ value_inside jobs done a b
  all_added n i good second more = omega (
    arith,
    ap (λ js. sum_by adds (enumerate_from 0 js)) (sym (take-append-drop i jobs)),
    two_lists adds (take i jobs) (drop i jobs),
    nothing (length (take i jobs)) (drop i jobs) (λ j member. late_out a b j (good j (in_rest i jobs j member))
        (second.behind j (in_rest (i - n) (drop n jobs) j (subst (IsMember j) (sym (drop-drop (i - n) n jobs
        ∙ ap (λ k. drop k jobs) (let e : n + (i - n) ≡ i = omega (arith, more) in e))) member)))),
  )

-- jobs under their numbers have these numbers
numbers_low : (k : ℕ) (jobs : List JobFacts)
    → Each (λ (n_j : Job). n_j.0 < k + length jobs) (enumerate_from k jobs)
numbers_low k [] n_j member = absurd member
numbers_low k (j ∷ jobs) n_j (inl e) =
    subst (λ (x : Job). x.0 < k + length (j ∷ jobs)) (sym e) (let low : k < k + length (j ∷ jobs) = omega arith in low)
numbers_low k (j ∷ jobs) n_j (inr member) = let low : n_j.0 < k + 1 + length jobs = numbers_low
    (k + 1) jobs n_j member in
    omega (arith, low)

-- what is done of the jobs tells the value
pub value_same : (jobs : List JobFacts) (f g : ℕ → Bool) (a b : ℕ) → ((n : ℕ) → n < length jobs → f n ≡ g n)
    → value_inside jobs f a b ≡ value_inside jobs g a b
value_same jobs f g a b same = sum_same (adds jobs f a b) (adds jobs g a b) (enumerate_from 0 jobs)
    (λ n_j member. ap (λ c. cond (is_inside a b n_j.1 && c) n_j.1.value 0)
    (same n_j.0 (let low : n_j.0 < 0 + length jobs = numbers_low 0 jobs n_j member in omega (arith, low))))
