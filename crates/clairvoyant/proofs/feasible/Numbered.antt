-- The tasks of a list of jobs, by their numbers.
use Rattle.std.proofs.Common.{◌≡◌, ℕ, zero, suc, ◌+◌, ◌≤◌, ◌<◌, inl, inr, List, [], ◌∷◌, refl, sym, ap, ◌∙◌, subst}
use Rattle.std.proofs.Common.{cond, arith, Bool, true, false, Some, slice_get, nat_le, sum_by, fold, leb-true}
use Rattle.std.proofs.Common.{leb-false}
use Rattle.std.specs.List.{enumerate_from}
use Rattle.std.proofs.lemmas.List.Sums.{sum_by-cons}
use Rattle.dover_model.specs.Common.{JobFacts, to_come, left, IsMember, Each, IsNumberedFrom, jobs_of, last_release}
use Rattle.dover_model.specs.declared.events.Role.TheVariants.{Coming}
use Rattle.dover_model.specs.declared.events.Task.{Task}
use Rattle.dover_model.proofs.lists.Members.{all_member, map_member, some_same}
use Rattle.dover_model.proofs.steps.Roles.{numbers_above}
use Rattle.dover_model.proofs.lists.Tests.{none_is_some}
use Rattle.dover_model.proofs.valid.ValidParts.{ReleasesInOrder}

-- ---- to come

-- none has had a tick
pub come_had : (n : ℕ) (jobs : List JobFacts) → Each (λ t. t.had ≡ 0) (to_come n jobs)
come_had n [] t member = absurd member
come_had n (j ∷ jobs) t (inl e) = ap (λ (u : Task). u.had) e
come_had n (j ∷ jobs) t (inr member) = come_had (suc n) jobs t member

-- all the work is left
pub come_left : (n : ℕ) (jobs : List JobFacts) → sum_by left (to_come n jobs) ≡ sum_by (λ j. j.work) jobs
come_left n [] = refl
come_left n (j ∷ jobs) = omega (
  arith,
  sum_by-cons left (record { number = n; job = j; role = Coming; had = 0 }) (to_come (suc n) jobs),
  sum_by-cons (λ (x : JobFacts). x.work) j jobs,
  come_left (suc n) jobs,
)

-- ---- the task of a number

-- the job at a place is the task of that number
pub task_at : (n i : ℕ) (tasks : List Task) (j : JobFacts) → IsNumberedFrom n tasks
    → slice_get (jobs_of tasks) i ≡ Some j
    → (t : Task) × IsMember t tasks × (t.number ≡ n + i) × (t.job ≡ j)
task_at n i [] j numbered found = none_is_some found
task_at n zero (t ∷ tasks) j numbered found =
    (t, inl refl, (let e : t.number ≡ n = numbered.0 in omega (arith, e)), some_same t.job j found)
task_at n (suc i) (t ∷ tasks) j numbered found = more (task_at (suc n) i tasks j numbered.1 found) where
  more : ((u : Task) × IsMember u tasks × (u.number ≡ suc n + i) × (u.job ≡ j)) → (u : Task) × IsMember u (t ∷ tasks)
      × (u.number
      ≡ n + suc i) × (u.job ≡ j)
  more it = (it.0, inr it.1, (let e : it.0.number ≡ suc n + i = it.2 in omega (arith, e)), it.3)

-- releases don't fall as the numbers rise
pub releases_rise : (n : ℕ) (tasks : List Task) → IsNumberedFrom n tasks → ReleasesInOrder (jobs_of tasks)
    → (t u : Task)
    → IsMember t tasks
    → IsMember u tasks
    → t.number ≤ u.number → t.job.release ≤ u.job.release
releases_rise n [] numbered order t u mt mu less = absurd mt
releases_rise n (x ∷ tasks) numbered order t u (inl e) (inl f) less = let same : t.job.release ≡ u.job.release =
    ap (λ (y : Task). y.job.release) (e ∙ sym f) in omega arith
releases_rise n (x ∷ tasks) numbered order t u (inl e) (inr mu) less =
    let low : x.job.release ≤ u.job.release =
    all_member (λ (later : JobFacts). x.job.release ≤ later.release) (jobs_of tasks) order.0 u.job
    (map_member (λ (y : Task). y.job) tasks u mu) in
    let same : t.job.release ≡ x.job.release = ap (λ (y : Task). y.job.release) e in
    omega arith
releases_rise n (x ∷ tasks) numbered order t u (inr mt) (inl f) less =
    let above : suc n ≤ t.number = numbers_above (suc n) tasks numbered.1 t mt in
    let here : u.number ≡ n = ap (λ (y : Task). y.number) f ∙ numbered.0 in
    absurd (omega arith)
releases_rise n (x ∷ tasks) numbered order t u (inr mt) (inr mu) less =
    releases_rise (suc n) tasks numbered.1 order.1 t u mt mu less

-- ---- the jobs with their numbers

-- what holds of each task holds of each job with its number
pub each_numbered : (P : ℕ × JobFacts → Type 0) (n : ℕ) (tasks : List Task) → IsNumberedFrom n tasks
    → Each (λ t. P (t.number, t.job)) tasks
    → Each P (enumerate_from n (jobs_of tasks))
each_numbered P n [] numbered all n_j member = absurd member
each_numbered P n (t ∷ tasks) numbered all n_j (inl e) =
    subst P (ap (λ m. (m, t.job)) numbered.0 ∙ sym e) (all t (inl refl))
each_numbered P n (t ∷ tasks) numbered all n_j (inr member) =
    each_numbered P (suc n) tasks numbered.1 (λ u m. all u (inr m)) n_j
    (subst (λ k. IsMember n_j (enumerate_from k (jobs_of tasks)))
    (let same : n + 1 ≡ suc n = omega arith in same) member)

-- ---- the last release

-- the greater of the two
abbrev later_of : ℕ → JobFacts → ℕ
later_of t j = cond (nat_le t j.release) j.release t

-- it is at least what it begins with
fold_up : (t : ℕ) (jobs : List JobFacts) → t ≤ fold later_of t jobs
fold_up t [] = omega arith
fold_up t (j ∷ jobs) = by_test (nat_le t j.release) refl (fold_up (later_of t j) jobs) where
  by_test : (b : Bool) → nat_le t j.release ≡ b
      → cond (nat_le t j.release) j.release t ≤ fold later_of (later_of t j) jobs
      → t ≤ fold later_of (later_of t j) jobs
  by_test true e low = let up : t ≤ j.release = leb-true _ _ e in
      let here : j.release ≤ fold later_of (later_of t j) jobs =
      subst (λ b. cond b j.release t ≤ fold later_of (later_of t j) jobs) e low in
      omega arith
  by_test false e low = subst (λ b. cond b j.release t ≤ fold later_of (later_of t j) jobs) e low

-- and at least each release
fold_least : (t : ℕ) (jobs : List JobFacts) → Each (λ j. j.release ≤ fold later_of t jobs) jobs
fold_least t [] j member = absurd member
fold_least t (x ∷ jobs) j (inr member) = fold_least (later_of t x) jobs j member
fold_least t (x ∷ jobs) j (inl e) =
    subst (λ (y : JobFacts). y.release
    ≤ fold later_of (later_of t x) jobs) (sym e) (by_test (nat_le t x.release) refl (fold_up (later_of t x) jobs)) where
      by_test : (b : Bool) → nat_le t x.release ≡ b
          → cond (nat_le t x.release) x.release t ≤ fold later_of (later_of t x) jobs
          → x.release ≤ fold later_of (later_of t x) jobs
      by_test true f low = subst (λ b. cond b x.release t ≤ fold later_of (later_of t x) jobs) f low
      by_test false f low = let above : x.release < t = leb-false _ _ f in
          let here : t ≤ fold later_of (later_of t x) jobs =
          subst (λ b. cond b x.release t ≤ fold later_of (later_of t x) jobs) f low in
          omega arith

-- no release is after the last
pub release_before_last : (jobs : List JobFacts) → Each (λ j. j.release ≤ last_release jobs) jobs
release_before_last jobs = fold_least 0 jobs
