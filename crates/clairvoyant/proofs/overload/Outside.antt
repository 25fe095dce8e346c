-- One stretch more, behind those so far.
use Rattle.std.proofs.Common.{◌≡◌, ℕ, ◌+◌, ◌-◌, ◌≤◌, ◌<◌, List, [], ◌∷◌, ◌++◌, inl, inr, refl, sym, ◌∙◌, subst, Bool}
use Rattle.std.proofs.Common.{true, false, cond, arith, ◌||◌, nat_le, sum_by, leb-true}
use Rattle.std.proofs.lemmas.Bool.{and_parts}
use Rattle.std.proofs.lemmas.List.Sums.{sum_by_push}
use Rattle.dover_model.specs.Common.{JobFacts, IsJob, total_value, Each, is_inside}
use Rattle.dover_model.proofs.lists.Members.{sum_plus, sum_filter, sum_same, all_append, each_behind}
use Rattle.dover_model.proofs.lists.Tests.{never}
use Rattle.clairvoyant.specs.declared.overload.stretch.Stretch.{Stretch}
use Rattle.clairvoyant.specs.overload.Stretches.{AreInOrder, IsStretch, is_inside_some, jobs_inside, value_outside}
use Rattle.dover_model.proofs.valid.JobLimits.{job_limits}

-- with one behind them there is some
pub never_empty : {Z : Type 0} (xs : List Stretch) (y : Stretch) → xs ++ y ∷ [] ≡ [] → Z
never_empty [] y none = absurd (cc)
never_empty (x ∷ xs) y none = absurd (cc)

-- the stretches with one behind them that begins late enough are in order
pub order_behind : (xs : List Stretch) (y : Stretch) (at : ℕ) → AreInOrder xs → Each (λ x. x.until ≤ at) xs
    → at ≤ y.from → AreInOrder (xs ++ y ∷ [])
order_behind [] y at order ended late = (tt, tt)
order_behind (x ∷ xs) y at order ended late = (
  all_append (λ (z : Stretch). x.until ≤ z.from) xs (y ∷ []) order.0
      (let before : x.until ≤ at = ended x (inl refl) in omega arith, tt),
  order_behind xs y at order.1 (λ z member. ended z (inr member)) late,
)

-- a job that is inside a window is released in it and due in it
pub inside_says : (a b : ℕ) (j : JobFacts) → is_inside a b j ≡ true → (a ≤ j.release) × (j.deadline ≤ b)
inside_says a b j inside =
    let both : (nat_le a j.release ≡ true) × (nat_le j.deadline b ≡ true) =
    and_parts (nat_le a j.release) (nat_le j.deadline b) inside in
    (leb-true _ _ both.0, leb-true _ _ both.1)

-- a job that is released behind the stretches is inside none of them
inside_none : (xs : List Stretch) (at : ℕ) (j : JobFacts) → IsJob j → Each (λ (x : Stretch). x.until ≤ at) xs
    → at ≤ j.release → is_inside_some xs j ≡ false
inside_none [] at j good ended late = refl
inside_none (x ∷ xs) at j good ended late = by_test (is_inside x.from x.until j) refl
    (inside_none xs at j good (λ z member. ended z (inr member)) late) where
      by_test : (b : Bool) → is_inside x.from x.until j ≡ b → is_inside_some xs j ≡ false
          → (b || is_inside_some xs j) ≡ false
      by_test false out rest = rest
      by_test true within rest =
          let due : j.deadline ≤ x.until = (inside_says x.from x.until j within).1 in
          let before : x.until ≤ at = ended x (inl refl) in
          absurd (omega (arith, due, before, late, (job_limits good).work, (job_limits good).window))

-- a job is inside some stretch of those so far and one behind them
inside_behind : (xs : List Stretch) (y : Stretch) (j : JobFacts)
    → is_inside_some (xs ++ y ∷ []) j ≡ (is_inside_some xs j || is_inside y.from y.until j)
inside_behind [] y j =
    elim (is_inside y.from y.until j) as (λ b. (b || false) ≡ (false || b)) [ true ↦ refl | false ↦ refl ]
inside_behind (x ∷ xs) y j = by_test (is_inside x.from x.until j) (inside_behind xs y j) where
  by_test : (b : Bool) → is_inside_some (xs ++ y ∷ []) j ≡ (is_inside_some xs j || is_inside y.from y.until j)
      → (b || is_inside_some (xs ++ y ∷ []) j) ≡ ((b || is_inside_some xs j) || is_inside y.from y.until j)
  by_test true same = refl
  by_test false same = same

module _ (jobs : List JobFacts) (xs : List Stretch) (y : Stretch) (at : ℕ) (good : Each IsJob jobs)
    (ended : Each (λ (x : Stretch). x.until ≤ at) xs) (late : at ≤ y.from) where
  -- what a job counts outside of the stretches so far
  one_less : (j : JobFacts) → IsJob j → cond (is_inside_some (xs ++ y ∷ []) j) 0 j.value
      + cond (is_inside y.from y.until j) j.value 0 ≡ cond (is_inside_some xs j) 0 j.value
  one_less j it = subst
      (λ b. cond b 0 j.value + cond (is_inside y.from y.until j) j.value 0 ≡ cond (is_inside_some xs j) 0 j.value)
      (sym (inside_behind xs y j)) (by_tests (is_inside y.from y.until j) (is_inside_some xs j) refl refl) where
        by_tests : (b c : Bool) → is_inside y.from y.until j ≡ b → is_inside_some xs j ≡ c
            → cond (c || b) 0 j.value + cond b j.value 0 ≡ cond c 0 j.value
        by_tests false false in_y in_xs = omega arith
        by_tests false true in_y in_xs = omega arith
        by_tests true false in_y in_xs = omega arith
        by_tests true true in_y in_xs =
            let from : y.from ≤ j.release = (inside_says y.from y.until j in_y).0 in
            never (sym (inside_none xs at j it ended (omega (arith, late, from))) ∙ in_xs)

  -- the jobs inside the new stretch are outside of it no more
  pub outside_less : value_outside jobs (xs ++ y ∷ []) + total_value (jobs_inside jobs y.from y.until)
      ≡ value_outside jobs xs
  outside_less = omega (
    arith,
    sum_filter (is_inside y.from y.until) (λ j. j.value) jobs,
    sum_plus (λ (j : JobFacts). cond (is_inside_some (xs ++ y ∷ []) j) 0 j.value)
        (λ j. cond (is_inside y.from y.until j) j.value 0) jobs,
    sum_same (λ (j : JobFacts). cond (is_inside_some (xs ++ y ∷ []) j) 0 j.value
        + cond (is_inside y.from y.until j) j.value 0) (λ j. cond (is_inside_some xs j) 0 j.value) jobs
        (λ j member. one_less j (good j member)),
  )

  module _ (cap : ℕ) (it : IsStretch jobs y) (sum : cap ≡ value_outside jobs xs + sum_by (λ x. x.cap) xs) where
    -- what the new stretch takes off is no more than there is
    pub less_left : y.total - y.cap ≤ cap
    less_left = omega (arith, outside_less, sum, it.total)

    -- its cap counts in place of the jobs inside
    pub sum_less : cap - (y.total - y.cap) ≡ value_outside jobs (xs ++ y ∷ []) + sum_by (λ x. x.cap) (xs ++ y ∷ [])
    sum_less = omega (arith, outside_less, sum, it.total, it.less, sum_by_push (λ (x : Stretch). x.cap) xs y)

  -- all end by the end of the new stretch
  pub ended_later : y.from < y.until → Each (λ (x : Stretch). x.until ≤ y.until) (xs ++ y ∷ [])
  ended_later some = each_behind (λ (x : Stretch). x.until ≤ y.until) xs y
      (λ x member. let before : x.until ≤ at = ended x member in omega (arith, before, late, some)) (omega arith)
