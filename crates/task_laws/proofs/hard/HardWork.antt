-- How many ticks hard work has in a window, and what it leaves to a job.
use Rattle.std.proofs.Common.{◌≡◌, ℕ, zero, suc, ◌+◌, ◌-◌, ◌*◌, ◌≤◌, ◌<◌, ◌⊎◌, inl, inr, List, [], ◌∷◌, refl, sym, ap}
use Rattle.std.proofs.Common.{subst, Bool, true, false, not, ◌&&◌, cond, arith, eqb, take, drop, nat_lt, nat_le}
use Rattle.std.proofs.Common.{ltb-true}
use Rattle.std.proofs.Common.{ltb-false, count_by, leb-true}
use Rattle.std.proofs.lemmas.Bool.{cases_lt}
use Rattle.std.proofs.lemmas.List.Sums.{sum_by-cons}
use Rattle.std.proofs.lemmas.Bool.{and_parts}
use Rattle.std.proofs.lemmas.Nat.{mul-le}
use Rattle.std.proofs.lemmas.Grind.{div_ceil_times}
use Rattle.std.proofs.Math.Nat.{mul-le-mul_left, lt_of_mul-lt-mul_right}
use Rattle.std.proofs.Common.{map, eqb-true}
use Rattle.std.specs.Int.{div_ceil}
use Rattle.dover_model.specs.Common.{JobFacts, ticks_given, one_if, Instance, IsValid, IsMember, end_state, is_done}
use Rattle.dover_model.specs.declared.events.Task.{Task}
use Rattle.dover_model.specs.Common.{need, ran, Each}
use Rattle.task_laws.specs.HardWork.{HardTask, HardJob, AreJobsOf, comes_of_jobs, comes_of, most_of}
use Rattle.dover_model.proofs.runs.Honest.{whole_outcome}
use Rattle.dover_model.proofs.steps.Roles.{is_done_role}
use Rattle.task_laws.proofs.switches.Stretches.{at_end}
use Rattle.task_laws.proofs.switches.Families.{within, both_hold, implied, few_come}
use Rattle.task_laws.specs.HardWork.{open_before, is_hard, comes_in, hard_in, ComesAtMost, left_from, left_by_hard}
use Rattle.task_laws.specs.HardWork.{hard_beside}
use Rattle.dover_model.proofs.lists.Members.{by_bool}

module _ (comes : ℕ → ℕ) where
  -- of so many ticks it has no more than all
  hard_most : (length from : ℕ) → hard_in comes from length ≤ length
  hard_most zero from = omega arith
  hard_most (suc n) from = by_test (is_hard comes from) (hard_most n (suc from)) where
    by_test : (b : Bool) → hard_in comes (suc from) n ≤ n → one_if b + hard_in comes (suc from) n ≤ suc n
    by_test true less = omega arith
    by_test false less = omega arith

  -- what is open behind a tick that it has
  open_behind : (t : ℕ) → is_hard comes t ≡ true → open_before comes (suc t) + 1 ≡ open_before comes t + comes t
  open_behind t e = let some : 0 < open_before comes t + comes t = ltb-true _ _ e in omega arith

  -- nothing is open at a tick that it leaves
  none_open : (t : ℕ) → is_hard comes t ≡ false → open_before comes t + comes t ≡ 0
  none_open t e = let none : open_before comes t + comes t ≤ 0 = ltb-false _ _ e in omega arith

  -- it has no more than what is open, what comes first, and all ticks behind
  pub hard_by_open : (length first from : ℕ) → first ≤ length
      → hard_in comes from length ≤ open_before comes from + comes_in comes from first + (length - first)
  hard_by_open zero first from few = omega arith
  hard_by_open (suc n) zero from few = omega (arith, hard_most (suc n) from)
  hard_by_open (suc n) (suc first) from few =
      by_test (is_hard comes from) refl (hard_by_open n first (suc from) (omega (arith, few))) where
        by_test : (b : Bool) → is_hard comes from ≡ b
            → hard_in comes (suc from) n
            ≤ open_before comes (suc from) + comes_in comes (suc from) first + (n - first)
            → one_if b + hard_in comes (suc from) n
            ≤ open_before comes from + (comes from + comes_in comes (suc from) first) + (suc n - suc first)
        by_test true e less = let behind : open_before comes (suc from) + 1 ≡ open_before comes from + comes from =
            open_behind from e in omega (arith, few)
        by_test false e less = let none : open_before comes from + comes from ≡ 0 = none_open from e in
            let then : open_before comes (suc from) ≡ 0 = omega arith in omega (arith, few)

module _ (most comes : ℕ → ℕ) (few : ComesAtMost most comes) where
  -- so many ticks ago it began to have each of them: what is open came since then
  record Since (t ago : ℕ) : Type 0 where
    more : (n : ℕ) → ago + open_before comes t + comes_in comes t n ≤ most (ago + n)
    busy : (n : ℕ) → n ≤ ago → n ≤ most n

  -- at each tick there are such ticks
  since : (t : ℕ) → (ago : ℕ) × Since t ago
  since zero = (
    0,
    record {
      more = λ n. let same : 0 + n ≡ n = omega arith in omega (arith, few 0 n, ap most same);
      busy = λ n low. omega (arith, low);
    },
  )
  since (suc t) = by_test (is_hard comes t) refl (since t) where
    by_test : (b : Bool) → is_hard comes t ≡ b → (ago : ℕ) × Since t ago → (ago : ℕ) × Since (suc t) ago
    by_test true e (ago, is_since) =
        let behind : open_before comes (suc t) + 1 ≡ open_before comes t + comes t = open_behind comes t e in (
          suc ago,
          record {
            more = λ n. let same : ago + suc n ≡ suc ago + n = omega arith in
                omega (arith, behind, is_since.more (suc n), ap most same);
            busy = λ n low. by_last n low (cases_lt ago n) behind;
          },
        ) where
          by_last : (n : ℕ) → n ≤ suc ago → (ago < n) ⊎ (n ≤ ago)
              → open_before comes (suc t) + 1 ≡ open_before comes t + comes t → n ≤ most n
          by_last n low (inr less) behind = is_since.busy n less
          by_last n low (inl last) behind =
              let it : ago + 1 ≡ n = omega (arith, low, last) in
              omega (arith, is_since.more 1, ap most it, behind)
    by_test false e (ago, is_since) =
        let none : open_before comes t + comes t ≡ 0 = none_open comes t e in
        let then : open_before comes (suc t) ≡ 0 = omega arith in (
          0,
          record {
            more = λ n. let same : 0 + n ≡ n = omega arith in omega (arith, then, few (suc t) n, ap most same);
            busy = λ n low. omega (arith, low);
          },
        )

  -- in a window it has no more than what comes in its first ticks at most, and all behind
  pub few_ticks : (from length first : ℕ) → first ≤ length
      → hard_in comes from length ≤ most first + (length - first)
  few_ticks from length first fits = by_ago (since from) where
    by_ago : (ago : ℕ) × Since from ago → hard_in comes from length ≤ most first + (length - first)
    by_ago (ago, is_since) = by_case (cases_lt first ago) where
      by_case : (first < ago) ⊎ (ago ≤ first) → hard_in comes from length ≤ most first + (length - first)
      by_case (inl later) = omega (arith, hard_most comes length from, is_since.busy first (omega (arith, later)), fits)
      by_case (inr within) =
          let same : ago + (first - ago) ≡ first = omega (arith, within) in
          let some : first - ago ≤ length = omega (arith, fits) in
          omega (
            arith,
            fits,
            within,
            hard_by_open comes length (first - ago) from some,
            is_since.more (first - ago),
            ap most same,
          )

-- ---- what it leaves

module _ (comes : ℕ → ℕ) (n : ℕ) where
  -- of these ticks of a number it has no more than of all of them
  few_lost : (length t : ℕ) (s : List ℕ)
      → count_by (λ m. eqb m n) (take length s) ≤ left_from comes n t (take length s) + hard_in comes t length
  few_lost zero t s = omega arith
  few_lost (suc length) t [] = omega arith
  few_lost (suc length) t (m ∷ s) =
      by_tests (eqb m n) (is_hard comes t) (sum_by-cons (λ i. one_if (eqb i n)) m (take length s))
      (few_lost length (suc t) s) where
        by_tests : (b h : Bool)
            → count_by (λ m. eqb m n) (m ∷ take length s) ≡ one_if b + count_by (λ m. eqb m n) (take length s)
            → count_by (λ m. eqb m n) (take length s)
            ≤ left_from comes n (suc t) (take length s) + hard_in comes (suc t) length
            → count_by (λ m. eqb m n) (m ∷ take length s)
            ≤ one_if (b && not h) + left_from comes n (suc t) (take length s)
            + (one_if h + hard_in comes (suc t) length)
        by_tests true true e less = omega (arith, e, less)
        by_tests true false e less = omega (arith, e, less)
        by_tests false true e less = omega (arith, e, less)
        by_tests false false e less = omega (arith, e, less)

-- no ticks
abbrev nothing : List ℕ
nothing = []

-- nothing is taken of nothing
none_taken : (k : ℕ) → take k nothing ≡ nothing
none_taken zero = refl
none_taken (suc k) = refl

-- a schedule that is cut at both ends
cut_twice : (r d : ℕ) (s : List ℕ) → drop r (take d s) ≡ take (d - r) (drop r s)
cut_twice zero d s = let same : d ≡ d - 0 = omega arith in ap (λ k. take k s) same
cut_twice (suc r) zero s = let same : 0 ≡ 0 - suc r = omega arith in ap (λ k. take k (drop (suc r) s)) same
cut_twice (suc r) (suc d) [] = sym (none_taken (suc d - suc r))
cut_twice (suc r) (suc d) (m ∷ s) = let same : d - r ≡ suc d - suc r = omega arith in
    subst (λ k. drop r (take d s) ≡ take k (drop r s)) same (cut_twice r d s)

-- a job loses no more than the ticks that it has in its window
pub few_lost_of : (comes : ℕ → ℕ) (s : List ℕ) (n_j : ℕ × JobFacts)
    → ticks_given s n_j.0 n_j.1 ≤ left_by_hard comes s n_j + hard_beside comes n_j.1
few_lost_of comes s (n, j) =
    subst (λ xs. count_by (λ m. eqb m n) xs ≤ left_from comes n j.release xs + hard_beside comes j)
    (sym (cut_twice j.release j.deadline s))
    (few_lost comes n (j.deadline - j.release) j.release (drop j.release s))

-- a job that is done has had its own work, where its budget holds these ticks too
module _ (J : Instance) (valid : IsValid J) (t : Task) (member : IsMember t (end_state J).tasks) (most comes : ℕ → ℕ)
    (few : ComesAtMost most comes) where
  pub hard_is_paid : (real first : ℕ) → is_done t ≡ true → first ≤ t.job.deadline - t.job.release
      → real + (most first + (t.job.deadline - t.job.release - first)) ≤ need J.rules.finishes t.number t.job.work
      → real ≤ left_by_hard comes (ran J) (t.number, t.job)
  hard_is_paid real first done fits enough = omega (
    arith,
    enough,
    few_ticks most comes few t.job.release (t.job.deadline - t.job.release) first fits,
    few_lost_of comes (ran J) (t.number, t.job),
    (whole_outcome J valid).gave.had t (at_end J valid 0 t member),
    ((whole_outcome J valid).served t (at_end J valid 0 t member)).done (is_done_role t done),
  )

-- ---- what comes of hard tasks

-- what comes of several is the sum of what comes of each
comes_in_sum : (one other : ℕ → ℕ) (length from : ℕ)
    → comes_in (λ t. one t + other t) from length ≡ comes_in one from length + comes_in other from length
comes_in_sum one other zero from = refl
comes_in_sum one other (suc n) from = omega (arith, comes_in_sum one other n (suc from))

-- what is the same at each tick is the same in so many
comes_in_same : (one other : ℕ → ℕ) → ((t : ℕ) → one t ≡ other t) → (length from : ℕ)
    → comes_in one from length ≡ comes_in other from length
comes_in_same one other same zero from = refl
comes_in_same one other same (suc n) from = omega (arith, same from, comes_in_same one other same n (suc from))

-- what never comes
comes_in_none : (length from : ℕ) → comes_in (λ t. 0) from length ≡ 0
comes_in_none zero from = refl
comes_in_none (suc n) from = omega (arith, comes_in_none n (suc from))

-- what comes of one job
abbrev of_job : HardJob → ℕ → ℕ
of_job i t = cond (eqb i.release t) i.work 0

-- a tick before the stretch isn't in it
not_from : (a b r : ℕ) → r < a → within a b r ≡ false
not_from a b r low = by_bool (within a b r ≡ false) (within a b r)
    (λ is_in. let high : a ≤ r = leb-true _ _ (and_parts (nat_le a r) (nat_lt r b) is_in).0 in
    absurd (omega (arith, high, low))) (λ e. e)

-- no more than its work, and only where it is released in these ticks
one_comes : (i : HardJob) (length from : ℕ)
    → comes_in (of_job i) from length ≤ i.work * one_if (within from (from + length) i.release)
one_comes i zero from = omega arith
one_comes i (suc n) from = by_here (eqb i.release from) refl (one_comes i n (suc from)) where
  by_here : (b : Bool) → eqb i.release from ≡ b
      → comes_in (of_job i) (suc from) n ≤ i.work * one_if (within (suc from) (suc from + n) i.release)
      → cond b i.work 0 + comes_in (of_job i) (suc from) n ≤ i.work * one_if (within from (from + suc n) i.release)
  by_here true e less =
      let at : i.release ≡ from = eqb-true _ _ e in
      let is_in : within from (from + suc n) i.release ≡ true =
      both_hold from (from + suc n) i.release (omega (arith, at)) (omega (arith, at)) in
      let is_past : within (suc from) (suc from + n) i.release ≡ false = not_from (suc from) (suc from + n) i.release
      (omega (arith, at)) in
      omega (arith, less, ap (λ c. i.work * one_if c) is_in, ap (λ c. i.work * one_if c) is_past)
  by_here false e less = omega (
    arith,
    less,
    mul-le-mul_left i.work (implied (within (suc from) (suc from + n) i.release) (within from (from + suc n) i.release)
        (λ is_in.
        let parts : (nat_le (suc from) i.release ≡ true) × (nat_lt i.release (suc from + n) ≡ true) =
        and_parts (nat_le (suc from) i.release) (nat_lt i.release (suc from + n)) is_in in
        let low : suc from ≤ i.release = leb-true _ _ parts.0 in
        let high : i.release < suc from + n = ltb-true _ _ parts.1 in
        both_hold from (from + suc n) i.release (omega (arith, low)) (omega (arith, high)))),
  )

-- what comes of the jobs of a task
jobs_come : (work : ℕ) (jobs : List HardJob) → Each (λ i. i.work ≤ work) jobs → (length from : ℕ)
    → comes_in (comes_of_jobs jobs) from length
    ≤ work * count_by (within from (from + length)) (map (λ i. i.release) jobs)
jobs_come work [] works length from = omega (arith, comes_in_none length from)
jobs_come work (i ∷ jobs) works length from =
    let few : i.work * one_if (within from (from + length) i.release)
    ≤ work * one_if (within from (from + length) i.release) =
    mul-le i.work (one_if (within from (from + length) i.release)) work
    (one_if (within from (from + length) i.release)) (works i (inl refl)) (omega arith) in
    let counts : count_by (within from (from + length)) (map (λ i. i.release) (i ∷ jobs))
    ≡ one_if (within from (from + length) i.release)
    + count_by (within from (from + length)) (map (λ i. i.release) jobs) =
    sum_by-cons (λ r. one_if (within from (from + length) r)) i.release (map (λ i. i.release) jobs) in
    omega (
      arith,
      few,
      ap (λ n. work * n) counts,
      comes_in_same (comes_of_jobs (i ∷ jobs)) (λ t. of_job i t + comes_of_jobs jobs t)
          (λ t. sum_by-cons (λ (j : HardJob). of_job j t) i jobs) length from,
      comes_in_sum (of_job i) (comes_of_jobs jobs) length from,
      one_comes i length from,
      jobs_come work jobs (λ j member. works j (inr member)) length from,
    )

-- a count that is so many distances long
ceil_most : (count span distance : ℕ) → 1 ≤ distance → distance * count ≤ span + (distance - 1)
    → count ≤ div_ceil span distance
ceil_most count span distance some few =
    let bounds : (span ≤ div_ceil span distance * distance) × (div_ceil span distance * distance < span + distance) =
    div_ceil_times span distance (omega (arith, some)) in
    let less : count < suc (div_ceil span distance) =
    lt_of_mul-lt-mul_right distance (let product : count * distance < suc (div_ceil span distance) * distance =
    omega (arith, few, bounds.0, some) in product) in
    omega (arith, less)

-- and of all tasks
pub tasks_come : (tasks : List (HardTask × List HardJob)) → Each (λ h_jobs. AreJobsOf h_jobs.0 h_jobs.1) tasks
    → ComesAtMost (most_of tasks) (comes_of tasks)
tasks_come [] are from length = omega (arith, comes_in_none length from)
tasks_come ((h, jobs) ∷ tasks) are from length =
    let it : AreJobsOf h jobs = are (h, jobs) (inl refl) in
    let span : (from + length) - from ≡ length = omega arith in
    let few : count_by (within from (from + length)) (map (λ i. i.release) jobs) ≤ div_ceil length h.distance =
    ceil_most (count_by (within from (from + length)) (map (λ i. i.release) jobs)) length h.distance it.some
    (omega (arith, span, few_come h.distance from (from + length) (map (λ i. i.release) jobs) it.some it.spaced)) in
    omega (
      arith,
      mul-le-mul_left h.work few,
      jobs_come h.work jobs it.works length from,
      comes_in_same (comes_of ((h, jobs) ∷ tasks)) (λ t. comes_of_jobs jobs t + comes_of tasks t)
          (λ t. sum_by-cons (λ (p : HardTask × List HardJob). comes_of_jobs p.1 t) (h, jobs) tasks) length from,
      comes_in_sum (comes_of_jobs jobs) (comes_of tasks) length from,
      sum_by-cons (λ (p : HardTask × List HardJob). p.0.work * div_ceil length p.0.distance) (h, jobs) tasks,
      tasks_come tasks (λ p member. are p (inr member)) from length,
    )
