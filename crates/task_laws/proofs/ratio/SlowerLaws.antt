-- No schedule is worth much more than the run, where it needs less for each job than the job asks for.
use Rattle.std.proofs.Common.{◌≡◌, ℕ, ◌+◌, ◌*◌, ◌≤◌, ◌⊎◌, inl, inr, List, [], ◌∷◌, map, refl, sym, ap, subst, Bool}
use Rattle.std.proofs.Common.{true, false, cond, arith}
use Rattle.std.specs.List.{enumerate_from}
use Rattle.std.proofs.Math.Nat.{mul-le-mul_left}
use Rattle.dover_model.specs.Common.{Fraction, JobFacts, IsLeastDense, Job, observing}
use Rattle.task_laws.specs.Slower.{IsWithinSlower, worth_by}
use Rattle.dover_model.specs.Common.{observed, numbered, Instance, IsValid, State, opening, is_done}
use Rattle.dover_model.specs.declared.events.Task.{Task}
use Rattle.dover_model.specs.Common.{completed_value, IsMember, Each, IsJob}
use Rattle.task_laws.specs.Slower.{AskAtMost}
use Rattle.dover_model.proofs.lists.Members.{map_member, all_member}
use Rattle.dover_model.proofs.bound.Booked.{IsModest}
use Rattle.dover_model.proofs.runs.Honest.{whole_outcome}
use Rattle.dover_model.proofs.bound.Augmented.{IsAsked, Counted, counted, served_all}
use Rattle.dover_model.proofs.bound.BoundLaws.{least_modest, seen_books, some_least}
use Rattle.dover_model.proofs.valid.ValidParts.{valid_parts}
use Rattle.dover_model.proofs.valid.JobLimits.{job_limits}
use Rattle.std.proofs.Common.{◌-◌, nat_le, IsTrue, Option, Some, None, sum_by, le-leb}
use Rattle.std.proofs.lemmas.Nat.{mul-le}
use Rattle.dover_model.specs.declared.factors.Factor.{Factor}
use Rattle.dover_model.specs.Common.{Row, completed_in, IsPaid, IsPaidBy, IsExcess, IsExcessBy}
use Rattle.task_laws.specs.Slower.{is_within_slower_root, is_within_slower_by}
use Rattle.dover_model.proofs.bound.Calculus.{Below, cancel, below_add, below_mono, displaced_below, excess_below}
use Rattle.dover_model.proofs.bound.Calculus.{regular_below, factor_within}
use Rattle.dover_model.proofs.bound.Books.{AreBooks, completed_parts}

-- ---- what stands above the part without a root

-- what is so far above stands within by the root
slower_from : (k e : Fraction) (c a m : ℕ) → 1 ≤ k.q
    → k.q * e.q * c ≤ (k.q * e.q + k.p * e.q + 2 * k.p * e.p) * a + m
    → Below (k.p * k.q) (k.q * m) ((2 * k.q * e.q + k.q * e.p + k.p * e.p) * a)
    → IsTrue (is_within_slower_root k e c a)
slower_from k e c a m some most below =
    by_parts (k.q * e.q * c - (k.q * e.q + k.p * e.q + 2 * k.p * e.p) * a)
    ((2 * k.q * e.q + k.q * e.p + k.p * e.p) * a)
    (differ (k.q * e.q * c) ((k.q * e.q + k.p * e.q + 2 * k.p * e.p) * a) m most) below where
      differ : (u v m : ℕ) → u ≤ v + m → u - v ≤ m
      differ u v m most = omega arith

      by_parts : (x y : ℕ) → x ≤ m → Below (k.p * k.q) (k.q * m) y → nat_le (k.q * x * x) (k.p * y * y) ≡ true
      by_parts x y less low =
          let square : k.q * m * (k.q * m) ≤ k.p * k.q * y * y = low in
          let smaller : x * x ≤ m * m = mul-le x x m m less less in
          let times : k.q * k.q * (x * x) ≤ k.q * k.q * (m * m) =
          mul-le-mul_left (k.q * k.q) smaller in
          le-leb _ _ (let cut : k.q * x * x ≤ k.p * y * y =
          cancel k.q (k.q * x * x) (k.p * y * y) some (omega arith) in cut)

-- so often as much stands below the root of so often as much
below_times : (m x a c : ℕ) → Below m x a → Below m (c * x) (c * a)
below_times m x a c low =
    let times : c * c * (x * x) ≤ c * c * (m * a * a) =
    mul-le-mul_left (c * c) low in omega arith

-- The sum of the rows' parts: what is done as usual (r) and after a take (z), what was displaced (d), and what is above
-- (y).
module _ (k e : Fraction) (some_q : 1 ≤ k.q) (ratio : k.q ≤ k.p) where
  -- by the root
  root_parts : (c r z d y : ℕ) → k.q * e.q * c
      ≤ (k.q * e.q + k.p * e.q + 2 * k.p * e.p) * (r + z)
      + ((e.q + e.p) * (k.p * d) + k.q * e.q * r + (k.q * e.q + k.p * e.p) * y)
      → k.p * d * d ≤ k.q * z * z → k.q * y * y ≤ k.p * (r + z) * (r + z)
      → IsTrue (is_within_slower_root k e c (r + z))
  root_parts c r z d y most paid little =
      slower_from k e c (r + z) ((e.q + e.p) * (k.p * d) + k.q * e.q * r + (k.q * e.q + k.p * e.p) * y) some_q most
      (let first : Below (k.p * k.q) (k.q * (e.q + e.p) * (k.p * d)) (k.q * (e.q + e.p) * z) =
      below_times (k.p * k.q) (k.p * d) z (k.q * (e.q + e.p)) (displaced_below k some_q ratio d z paid) in
      let second : Below (k.p * k.q) (k.q * e.q * (k.q * r)) (k.q * e.q * r) =
      below_times (k.p * k.q) (k.q * r) r (k.q * e.q) (regular_below k some_q ratio r) in
      let third : Below (k.p * k.q) ((k.q * e.q + k.p * e.p) * (k.q * y)) ((k.q * e.q + k.p * e.p) * (r + z)) =
      below_times (k.p * k.q) (k.q * y) (r + z) (k.q * e.q + k.p * e.p)
      (excess_below k some_q ratio y (r + z) little) in
      let two : Below (k.p * k.q) (k.q * (e.q + e.p) * (k.p * d) + k.q * e.q * (k.q * r))
      (k.q * (e.q + e.p) * z + k.q * e.q * r) =
      below_add (k.p * k.q) (k.q * (e.q + e.p) * (k.p * d)) (k.q * e.q * (k.q * r)) (k.q * (e.q + e.p) * z)
      (k.q * e.q * r) first second in
      below_mono (k.p * k.q)
      (k.q * (e.q + e.p) * (k.p * d) + k.q * e.q * (k.q * r) + (k.q * e.q + k.p * e.p) * (k.q * y))
      (k.q * ((e.q + e.p) * (k.p * d) + k.q * e.q * r + (k.q * e.q + k.p * e.p) * y))
      (k.q * (e.q + e.p) * z + k.q * e.q * r + (k.q * e.q + k.p * e.p) * (r + z))
      ((2 * k.q * e.q + k.q * e.p + k.p * e.p) * (r + z)) (omega arith) (omega arith)
      (below_add (k.p * k.q) (k.q * (e.q + e.p) * (k.p * d) + k.q * e.q * (k.q * r))
      ((k.q * e.q + k.p * e.p) * (k.q * y)) (k.q * (e.q + e.p) * z + k.q * e.q * r)
      ((k.q * e.q + k.p * e.p) * (r + z)) two third))

  -- by the root, or by a factor
  parts_by : (o : Option Factor) (c r z d y : ℕ) → k.q * e.q * c
      ≤ (k.q * e.q + k.p * e.q + 2 * k.p * e.p) * (r + z)
      + ((e.q + e.p) * (k.p * d) + k.q * e.q * r + (k.q * e.q + k.p * e.p) * y)
      → IsPaidBy k o d z → IsExcessBy k o y (r + z) → IsTrue (is_within_slower_by k o e c (r + z))
  parts_by None c r z d y most paid little = root_parts c r z d y most paid little
  parts_by (Some f) c r z d y most paid little = le-leb _ _
      (factor_within ((e.q + e.p) * k.p) (k.q * e.q + k.p * e.p) (k.q * e.q) f c r z d y (omega (arith, most)) paid
      little)

  -- they stand within the wider bound
  slower_parts : (c r z d y : ℕ) → k.q * e.q * c
      ≤ (k.q * e.q + k.p * e.q + 2 * k.p * e.p) * (r + z)
      + ((e.q + e.p) * (k.p * d) + k.q * e.q * r + (k.q * e.q + k.p * e.p) * y)
      → IsPaid k d z → IsExcess k y (r + z) → IsWithinSlower k e c (r + z)
  slower_parts = parts_by k.factor

-- ---- all that a schedule serves

module _ (k e : Fraction) (asked : Job → ℕ) (v w : ℕ) (jobs : List Job) (rows : List Row) (busy : ℕ → Bool)
    (books : AreBooks k v w jobs rows busy) (all_asked : Each (IsAsked e asked v w) jobs) (s : List ℕ) where
  -- what it is worth, by the rows' parts
  by_rows : Counted k e asked v w jobs rows busy books all_asked s
  by_rows = counted k e asked v w jobs rows busy books all_asked s

  -- it is worth no more than the wider bound of what is completed
  slower_bound : IsWithinSlower k e (served_all k e asked v w jobs rows busy books all_asked s)
      (sum_by completed_in rows)
  slower_bound =
      subst (IsWithinSlower k e (served_all k e asked v w jobs rows busy books all_asked s))
      (sym (completed_parts k v w jobs rows busy books s))
      (slower_parts k e books.some_q books.ratio _ _ _ _ by_rows.above by_rows.most by_rows.displaced by_rows.little)

-- ---- the jobs that a run observes

-- a job that is observed is that of a task at the end
observed_there : (k : ℕ) (tasks : List Task) (n_j : Job) → IsMember n_j (enumerate_from k (map observing tasks))
    → (t : Task) × IsMember t tasks × (n_j.1 ≡ observing t)
observed_there k [] n_j member = absurd member
observed_there k (x ∷ tasks) n_j (inl e) = (x, inl refl, ap (λ (p : Job). p.1) e)
observed_there k (x ∷ tasks) n_j (inr member) =
    let it : (t : Task) × IsMember t tasks × (n_j.1 ≡ observing t) = observed_there (k + 1) tasks n_j member in
    (it.0, inr it.1, it.2)

module _ (J : Instance) (valid : IsValid J) (e : Fraction) (works : ℕ → ℕ) (some : 1 ≤ e.q)
    (most : AskAtMost e works (observed J)) where
  -- what holds of each observed job
  each_asked : (v w : ℕ) → Each (IsModest J.rules.ratio v w) J.jobs
      → Each (IsAsked e (λ i_j. works i_j.0) v w) (numbered (observed J))
  each_asked v w modest n_j member = record {
    most = most n_j member;
    modest = mul-le-mul_left e.p low;
  } where
    it : (t : Task) × IsMember t (whole_outcome J valid).last.tasks × (n_j.1 ≡ observing t)
    it = observed_there 0 (whole_outcome J valid).last.tasks n_j
        (subst (λ (s : State). IsMember n_j (enumerate_from 0 (map observing s.tasks)))
        ((whole_outcome J valid).is_last (opening J.jobs)) member)

    declared : v * it.0.job.work ≤ w * it.0.job.value
    declared = (modest it.0.job (subst (IsMember it.0.job) (whole_outcome J valid).keeps.jobs
        (map_member (λ (t : Task). t.job) (whole_outcome J valid).last.tasks it.0 it.1))).1

    less : (b : Bool) → cond b it.0.had it.0.job.work ≤ it.0.job.work
    less true = (whole_outcome J valid).keeps.sound.at_most_work it.0 it.1
    less false = omega arith

    low : v * n_j.1.work ≤ w * n_j.1.value
    low = subst (λ (j : JobFacts). v * j.work ≤ w * j.value) (sym it.2)
        (let times : v * cond (is_done it.0) it.0.had it.0.job.work ≤ v * it.0.job.work =
        mul-le-mul_left v (less (is_done it.0)) in
        omega (arith, declared))

  -- what a schedule is worth to which less is asked
  pub slower : (s : List ℕ) → IsWithinSlower J.rules.ratio e (worth_by works (observed J) s) (completed_value J)
  slower s = by_jobs (some_least J valid) where
    by_books : (v w : ℕ) → 1 ≤ w → Each (IsModest J.rules.ratio v w) J.jobs
        → IsWithinSlower J.rules.ratio e (worth_by works (observed J) s) (completed_value J)
    by_books v w some_work modest =
        subst (IsWithinSlower J.rules.ratio e (worth_by works (observed J) s))
        (seen_books J valid v w modest some_work).completed
        (slower_bound J.rules.ratio e (λ i_j. works i_j.0) v w (numbered (observed J))
        (seen_books J valid v w modest some_work).rows (seen_books J valid v w modest some_work).busy
        (seen_books J valid v w modest some_work).books (each_asked v w modest) s)

    by_jobs : (J.jobs ≡ []) ⊎ ((j : JobFacts) × IsLeastDense J j)
        → IsWithinSlower J.rules.ratio e (worth_by works (observed J) s) (completed_value J)
    by_jobs (inr it) = by_books it.0.value it.0.work
        (job_limits (all_member IsJob J.jobs (valid_parts valid).each it.0 it.1.job)).work
        (least_modest J valid it.0 it.1)
    by_jobs (inl none) = by_books 0 1 (omega arith) (λ i member. absurd (subst (IsMember i) none member))
