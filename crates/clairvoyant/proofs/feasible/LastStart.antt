-- The greatest start of an overfull window, found from the last job on.
use Rattle.std.proofs.Common.{◌≡◌, ℕ, ◌+◌, ◌-◌, ◌≤◌, ◌<◌, ◌⊎◌, inl, inr, List, [], ◌∷◌, ◌++◌, length, take, drop}
use Rattle.std.proofs.Common.{get_or, take-append-drop, refl, sym, ap, ◌∙◌, subst, Bool, true, false, cond, arith}
use Rattle.std.proofs.Common.{nat_le, ◌&&◌, sum_by, le-leb}
use Rattle.std.proofs.lemmas.Bool.{lt-leb, cases_lt}
use Rattle.std.proofs.lemmas.List.{drop_more}
use Rattle.std.proofs.lemmas.List.Sums.{sum_by-cons, sum_by-append}
use Rattle.dover_model.specs.Common.{JobFacts, IsJob, Each, IsOverfull, is_inside, work_inside}
use Rattle.dover_model.proofs.lists.Members.{all_member, sum_le, sum_same, sum_zero, member_behind}
use Rattle.dover_model.proofs.valid.Valid.{order_back}
use Rattle.clairvoyant.specs.feasible.Feasibility.{IsRelease}
use Rattle.clairvoyant.proofs.feasible.Overfull.{work_is}
use Rattle.dover_model.proofs.valid.ValidParts.{ReleasesInOrder}
use Rattle.dover_model.proofs.valid.JobLimits.{job_limits}

-- what a job asks of the window
abbrev pub asked : ℕ → ℕ → JobFacts → ℕ
asked a b j = cond (is_inside a b j) j.work 0

-- what a job asks that is due by b
abbrev pub due_work : ℕ → JobFacts → ℕ
due_work b j = cond (nat_le j.deadline b) j.work 0

-- no window of these jobs that ends at b is overfull
abbrev pub NoneTo : ℕ → List JobFacts → Type 0
NoneTo b jobs = (a : ℕ) → a ≤ b → a + sum_by (asked a b) jobs ≤ b

-- what is known of the jobs behind a place
pub record Passed (b work : ℕ) (behind : List JobFacts) : Type 0 where
  pub sum : work ≡ sum_by (due_work b) behind
  pub none : NoneTo b behind

-- of a job
pub asked_most : (a b : ℕ) (j : JobFacts) → asked a b j ≤ due_work b j
asked_most a b j = by_tests (nat_le a j.release) (nat_le j.deadline b) where
  by_tests : (x y : Bool) → cond (x && y) j.work 0 ≤ cond y j.work 0
  by_tests true y = omega arith
  by_tests false true = omega arith
  by_tests false false = omega arith

-- where it is released at a or later
pub asked_due : (a b : ℕ) (j : JobFacts) → a ≤ j.release → asked a b j ≡ due_work b j
asked_due a b j low = ap (λ x. cond (x && nat_le j.deadline b) j.work 0) (le-leb _ _ low)

-- where it is released sooner
pub asked_none : (a b : ℕ) (j : JobFacts) → j.release < a → asked a b j ≡ 0
asked_none a b j early = ap (λ x. cond (x && nat_le j.deadline b) j.work 0) (lt-leb _ _ early)

-- where it is
pub due_all : (b : ℕ) (j : JobFacts) → j.deadline ≤ b → due_work b j ≡ j.work
due_all b j due = ap (λ x. cond x j.work 0) (le-leb _ _ due)

-- where it isn't
pub due_none : (b : ℕ) (j : JobFacts) → b < j.deadline → due_work b j ≡ 0
due_none b j late = ap (λ x. cond x j.work 0) (lt-leb _ _ late)

-- a job that is due, where the window from its release isn't overfull
pub passed_due : (b work : ℕ) (j : JobFacts) (behind : List JobFacts) → ReleasesInOrder (j ∷ behind) → j.deadline ≤ b
    → j.release ≤ b
    → work + j.work ≤ b - j.release → Passed b work behind → Passed b (work + j.work) (j ∷ behind)
passed_due b work j behind order due released fits p = record {
  sum = omega (arith, p.sum, sum_by-cons (due_work b) j behind, due_all b j due);
  none = λ a low. by_start a low (cases_lt j.release a);
} where
  by_start : (a : ℕ) → a ≤ b → (j.release < a) ⊎ (a ≤ j.release) → a + sum_by (asked a b) (j ∷ behind) ≤ b
  by_start a low (inl early) = omega (arith, sum_by-cons (asked a b) j behind, asked_none a b j early, p.none a low)
  by_start a low (inr later) =
      let most : sum_by (asked a b) (j ∷ behind) ≤ sum_by (due_work b) (j ∷ behind) =
      sum_le (asked a b) (due_work b) (j ∷ behind) (λ i _. asked_most a b i) in
      omega (arith, p.sum, sum_by-cons (due_work b) j behind, due_all b j due)

-- where the window from its release is overfull
pub record StartsAt (jobs : List JobFacts) (b a : ℕ) : Type 0 where
  pub release : IsRelease jobs a
  pub overfull : IsOverfull jobs a b (work_inside jobs a b)
  pub last : (c w : ℕ) → IsOverfull jobs c b w → c ≤ a

-- the jobs before a place are released no later
front_order : (front : List JobFacts) (j : JobFacts) (behind : List JobFacts) → ReleasesInOrder (front ++ j ∷ behind)
    → Each (λ i. i.release
    ≤ j.release) front
front_order [] j behind order i member = absurd member
front_order (x ∷ front) j behind order i (inl e) =
    subst (λ (y : JobFacts). y.release ≤ j.release) (sym e)
    (all_member (λ (later : JobFacts). x.release ≤ later.release) (front ++ j ∷ behind) order.0 j
    (member_behind front (j ∷ behind) j (inl refl)))
front_order (x ∷ front) j behind order i (inr member) = front_order front j behind order.1 i member

-- at the first place from the end at which the window is overfull
pub starts_here : (b work : ℕ) (front : List JobFacts) (j : JobFacts) (behind : List JobFacts)
    → ReleasesInOrder (front ++ j ∷ behind) → j.deadline ≤ b
    → j.release ≤ b → b - j.release < work + j.work → Passed b work behind → StartsAt (front ++ j ∷ behind) b j.release
starts_here b work front j behind order due released full p = record {
  release = (j, member_behind front (j ∷ behind) j (inl refl), refl);
  overfull = record {
    window = released;
    work = refl;
    too_much =
        omega (arith, work_is (front ++ j ∷ behind) j.release b, all_work);
  };
  last = λ c w over. by_start c w over (cases_lt j.release c);
} where
  -- the jobs from here on
  later : Each (λ i. j.release ≤ i.release) behind
  later = all_member (λ (i : JobFacts). j.release ≤ i.release) behind (order_back front (j ∷ behind) order).0

  all_work : work + j.work ≤ sum_by (asked j.release b) (front ++ j ∷ behind)
  all_work =
      let here : asked j.release b j ≡ j.work = asked_due j.release b j (omega arith) ∙ due_all b j due in
      let rest : sum_by (asked j.release b) behind ≡ sum_by (due_work b) behind =
      sum_same (asked j.release b) (due_work b) behind (λ i member. asked_due j.release b i (later i member)) in
      omega (
        arith,
        p.sum,
        sum_by-append (asked j.release b) front (j ∷ behind),
        sum_by-cons (asked j.release b) j behind,
      )

  by_start : (c w : ℕ) → IsOverfull (front ++ j ∷ behind) c b w → (j.release < c) ⊎ (c ≤ j.release) → c ≤ j.release
  by_start c w over (inr low) = low
  by_start c w over (inl above) =
      let front_none : sum_by (asked c b) front ≡ 0 =
      sum_zero (asked c b) front (λ i member. asked_none c b i (let low : i.release
      ≤ j.release = front_order front j behind order i member in omega arith)) in
      let here : asked c b j ≡ 0 = asked_none c b j above in
      absurd (omega (
        arith,
        over.work,
        over.too_much,
        over.window,
        work_is (front ++ j ∷ behind) c b,
        sum_by-append (asked c b) front (j ∷ behind),
        sum_by-cons (asked c b) j behind,
        p.none c over.window,
      ))

-- where all jobs are passed, none is overfull
pub none_passed : (b work : ℕ) (jobs : List JobFacts) → Passed b work jobs → (a w : ℕ) → IsOverfull jobs a b w → ⊥
none_passed b work jobs p a w over =
    omega (arith, over.work, over.too_much, over.window, work_is jobs a b, p.none a over.window)

-- ---- by place

module _ (jobs : List JobFacts) (order : ReleasesInOrder jobs) (b work k : ℕ) (j : JobFacts) (low : k ≤ length jobs)
    (some : 0 < k)
    (at : j ≡ get_or jobs (k - 1) j) (p : Passed b work (drop k jobs)) where
  -- the jobs from this place on
  from_here : drop (k - 1) jobs ≡ j ∷ drop k jobs
  from_here = drop_more jobs (k - 1) j (omega (arith, low, some))
      ∙ ap (λ (x : JobFacts). x ∷ drop (k - 1 + 1) jobs) (sym at)
      ∙ ap (λ n. j ∷ drop n jobs) (let same : k - 1 + 1 ≡ k = omega (arith, some) in same)

  -- all jobs
  whole : jobs ≡ take (k - 1) jobs ++ j ∷ drop k jobs
  whole = sym (take-append-drop (k - 1) jobs) ∙ ap (λ xs. take (k - 1) jobs ++ xs) from_here

  -- they are in order
  in_order_here : ReleasesInOrder (j ∷ drop k jobs)
  in_order_here = order_back (take (k - 1) jobs) (j ∷ drop k jobs) (subst ReleasesInOrder whole order)

  -- the greatest start is here
  pub starts_at : IsJob j → j.deadline ≤ b → b - j.release < work + j.work → StartsAt jobs b j.release
  starts_at is_job due full = subst (λ js. StartsAt js b j.release) (sym whole)
      (starts_here _ _ _ _ _ (subst ReleasesInOrder whole order) due (omega (arith, due, (job_limits is_job).window))
      full p)

  -- it isn't here
  pub passed_at : IsJob j → j.deadline ≤ b → work + j.work ≤ b - j.release
      → Passed b (work + j.work) (drop (k - 1) jobs)
  passed_at is_job due fits = subst (λ js. Passed b (work + j.work) js) (sym from_here)
      (passed_due b work j (drop k jobs) in_order_here due (omega (arith, due, (job_limits is_job).window)) fits p)

  -- it isn't due by b
  pub passed_late : b < j.deadline → Passed b work (drop (k - 1) jobs)
  passed_late late = subst (λ js. Passed b work js) (sym from_here) (record {
    sum = omega (arith, p.sum, sum_by-cons (due_work b) j (drop k jobs), due_none b j late);
    none = λ a low. omega (
      arith,
      p.none a low,
      sum_by-cons (asked a b) j (drop k jobs),
      asked_most a b j,
      due_none b j late,
    );
  })
