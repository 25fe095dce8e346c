-- Where some schedule serves every job, no window is overfull: its jobs have no more work than it has ticks.
use Rattle.std.proofs.Common.{◌≡◌, ℕ, suc, zero, ◌+◌, ◌-◌, ◌≤◌, ◌<◌, List, [], ◌∷◌, length, take, drop, refl, sym, ap}
use Rattle.std.proofs.Common.{◌∙◌, Bool, true, false, cond, eqb, arith, IsTrue, nat_le, sum_by, count_by, leb-true}
use Rattle.std.proofs.Common.{eqb-true, length-drop, length-take}
use Rattle.std.specs.List.{enumerate_from}
use Rattle.std.proofs.lemmas.Bool.{and_parts}
use Rattle.std.proofs.lemmas.List.Sums.{sum_by-cons}
use Rattle.dover_model.specs.Common.{JobFacts, Instance, ticks_given, is_served, numbered, Meets, Task, IsMember}
use Rattle.dover_model.specs.Common.{jobs_of, is_inside}
use Rattle.dover_model.proofs.lists.Members.{sum_le, sum_plus, sum_zero, sum_map, all_member}

-- the work is_inside a window
abbrev pub demand_in : ℕ → ℕ → List Task → ℕ
demand_in a b tasks = sum_by (λ t. cond (is_inside a b t.job) t.job.work 0) tasks

-- no window has more work in it than ticks
abbrev pub NoneOverfull : List Task → Type 0
NoneOverfull tasks = (a b : ℕ) → a ≤ b → a + demand_in a b tasks ≤ b

-- ---- what a window gives to a number

-- what the window from r to d gives
abbrev pub given : (ℕ → Bool) → ℕ → ℕ → List ℕ → ℕ
given p r d s = count_by p (drop r (take d s))

-- an empty schedule gives nothing
pub given_nil : (p : ℕ → Bool) (r d : ℕ) → given p r d [] ≡ 0
given_nil p zero zero = refl
given_nil p (suc r) zero = refl
given_nil p _ _ = refl

-- an empty window gives nothing
pub given_zero : (p : ℕ → Bool) (r : ℕ) (s : List ℕ) → given p r 0 s ≡ 0
given_zero p zero s = refl
given_zero p (suc r) s = refl

-- a window gives no more than one around it
pub given_less : (p : ℕ → Bool) (s : List ℕ) (r d a b : ℕ) → a ≤ r → d ≤ b → given p r d s ≤ given p a b s
given_less p [] r d a b low high = omega (arith, given_nil p r d)
given_less p (x ∷ s) r zero a b low high = omega (arith, given_zero p r (x ∷ s))
given_less p (x ∷ s) r (suc d) a zero low high = absurd (omega arith)
given_less p (x ∷ s) zero (suc d) zero (suc b) low high =
    omega (
      arith,
      sum_by-cons (λ n. cond (p n) 1 0) x (take d s),
      sum_by-cons (λ n. cond (p n) 1 0) x (take b s),
      given_less p s 0 d 0 b
          (omega arith) (omega arith),
    )
given_less p (x ∷ s) zero (suc d) (suc a) (suc b) low high = absurd (omega arith)
given_less p (x ∷ s) (suc r) (suc d) zero (suc b) low high =
    omega (arith, sum_by-cons (λ n. cond (p n) 1 0) x (take b s), given_less p s r d 0 b (omega arith) (omega arith))
given_less p (x ∷ s) (suc r) (suc d) (suc a) (suc b) low high = given_less p s r d a b (omega arith) (omega arith)

-- ---- a tick is given to one number

-- how often jobs bear the number m
abbrev pub named : ℕ → ℕ → List JobFacts → ℕ
named m k jobs = sum_by (λ n_j. cond (eqb m n_j.0) 1 0) (enumerate_from k jobs)

-- of one job more
named_cons : (m k : ℕ) (j : JobFacts) (jobs : List JobFacts)
    → named m k (j ∷ jobs) ≡ cond (eqb m k) 1 0 + named m (k + 1) jobs
named_cons m k j jobs = sum_by-cons (λ n_j. cond (eqb m n_j.0) 1 0) (k, j) (enumerate_from (k + 1) jobs)

-- a number below the first is no job
not_named : (m k : ℕ) (jobs : List JobFacts) → m < k → named m k jobs ≡ 0
not_named m k [] below = refl
not_named m k (j ∷ jobs) below = by_test (eqb m k) refl (not_named m (k + 1) jobs (omega arith)) where
  by_test : (b : Bool) → eqb m k ≡ b → named m (k + 1) jobs ≡ 0 → named m k (j ∷ jobs) ≡ 0
  by_test true same rest = absurd (let e : m ≡ k = eqb-true _ _ same in omega arith)
  by_test false other rest = omega (arith, named_cons m k j jobs, ap {B = ℕ} (λ b. cond b 1 0) other)

-- a number is one job at most
pub named_once : (m k : ℕ) (jobs : List JobFacts) → named m k jobs ≤ 1
named_once m k [] = omega arith
named_once m k (j ∷ jobs) = by_test (eqb m k) refl (named_once m (k + 1) jobs) where
  by_test : (b : Bool) → eqb m k ≡ b → named m (k + 1) jobs ≤ 1 → named m k (j ∷ jobs) ≤ 1
  by_test true same rest = let e : m ≡ k = eqb-true _ _ same in
      omega (arith, named_cons m k j jobs, ap {B = ℕ} (λ b. cond b 1 0) same, not_named m (k + 1) jobs (omega arith))
  by_test false other rest = omega (arith, named_cons m k j jobs, ap {B = ℕ} (λ b. cond b 1 0) other)

-- all jobs together are given no more ticks than there are
pub one_name_per_tick : (ticks : List ℕ) (k : ℕ) (jobs : List JobFacts)
    → sum_by (λ n_j. count_by (λ m. eqb m n_j.0) ticks) (enumerate_from k jobs) ≤ length ticks
one_name_per_tick [] k jobs =
    omega (arith, sum_zero (λ n_j. count_by (λ m. eqb m n_j.0) []) (enumerate_from k jobs) (λ n_j m. refl))
one_name_per_tick (m ∷ ticks) k jobs =
    let less : sum_by (λ n_j. count_by (λ m. eqb m n_j.0) (m ∷ ticks)) (enumerate_from k jobs) ≤ sum_by
    (λ n_j. cond (eqb m n_j.0) 1 0 + count_by (λ m. eqb m n_j.0) ticks) (enumerate_from k jobs) =
    sum_le (λ n_j. count_by (λ m. eqb m n_j.0) (m ∷ ticks))
    (λ n_j. cond (eqb m n_j.0) 1 0 + count_by (λ m. eqb m n_j.0) ticks)
    (enumerate_from k jobs) (λ n_j mem. omega (arith, sum_by-cons (λ i. cond (eqb i n_j.0) 1 0) m ticks)) in
    omega (
      arith,
      sum_plus (λ n_j. cond (eqb m n_j.0) 1 0) (λ n_j. count_by (λ i. eqb i n_j.0) ticks) (enumerate_from k jobs),
      named_once m k jobs,
      one_name_per_tick ticks k jobs,
    )

-- ---- from jobs with numbers to tasks

-- a sum over jobs with numbers
pub sum_numbered : (f : JobFacts → ℕ) (k : ℕ) (jobs : List JobFacts)
    → sum_by (λ n_j. f n_j.1) (enumerate_from k jobs) ≡ sum_by f jobs
sum_numbered f k [] = refl
sum_numbered f k (j ∷ jobs) = omega (
  arith,
  sum_by-cons (λ n_j. f n_j.1) (k, j) (enumerate_from (k + 1) jobs),
  sum_by-cons f j jobs,
  sum_numbered f (k + 1) jobs,
)

-- the work of a job is_inside the window
abbrev asked : ℕ → ℕ → JobFacts → ℕ
asked a b j = cond (is_inside a b j) j.work 0

module _ (J : Instance) (meets : Meets J) (a b : ℕ) where
  -- a served job is_inside the window has its work from it
  served_work : (n_j : ℕ × JobFacts) → IsMember n_j (numbered J)
      → asked a b n_j.1 ≤ count_by (λ m. eqb m n_j.0) (drop a (take b meets.0))
  served_work n_j member = by_test (is_inside a b n_j.1) refl where
    by_test : (t : Bool) → is_inside a b n_j.1 ≡ t
        → cond t n_j.1.work 0 ≤ count_by (λ m. eqb m n_j.0) (drop a (take b meets.0))
    by_test true is_in =
        let both : (nat_le a n_j.1.release ≡ true) × (nat_le n_j.1.deadline b ≡ true) =
        and_parts (nat_le a n_j.1.release) (nat_le n_j.1.deadline b) is_in in
        let served : n_j.1.work ≤ ticks_given meets.0 n_j.0 n_j.1 =
        leb-true _ _ (all_member (λ x. IsTrue (is_served meets.0 x)) (numbered J) meets.1 n_j member) in
        omega (
          arith,
          given_less (λ m. eqb m n_j.0) meets.0 n_j.1.release n_j.1.deadline a b (leb-true _ _ both.0)
              (leb-true _ _ both.1),
        )
    by_test false out = omega arith

  -- the jobs is_inside have no more work than the window has ticks
  asked_most : sum_by (asked a b) J.jobs ≤ b - a
  asked_most =
      let less : sum_by (λ n_j. asked a b n_j.1) (numbered J) ≤ sum_by
      (λ n_j. count_by (λ m. eqb m n_j.0) (drop a (take b meets.0))) (numbered J) =
      sum_le (λ n_j. asked a b n_j.1) (λ n_j. count_by (λ m. eqb m n_j.0) (drop a (take b meets.0)))
      (numbered J) served_work in
      omega (
        arith,
        one_name_per_tick (drop a (take b meets.0)) 0 J.jobs,
        sum_numbered (asked a b) 0 J.jobs,
        length-drop a (take b meets.0),
        length-take b meets.0,
      )

-- where some schedule serves every job, no window is overfull
pub none_overfull : (J : Instance) → Meets J → (tasks : List Task) → jobs_of tasks ≡ J.jobs → NoneOverfull tasks
none_overfull J meets tasks same a b ordered =
    let sums : demand_in a b tasks ≡ sum_by (asked a b) J.jobs = sym (sum_map (λ (t : Task). t.job) (asked a b) tasks)
    ∙ ap (sum_by (asked a b)) same in
    omega (arith, asked_most J meets a b)
