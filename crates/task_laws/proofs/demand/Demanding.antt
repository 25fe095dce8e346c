-- What the jobs of tasks can ask for in a window, and that few windows tell of all.
use Rattle.std.proofs.Common.{◌≡◌, ℕ, suc, zero, ◌+◌, ◌-◌, ◌*◌, ◌/◌, ◌≤◌, ◌<◌, ◌⊎◌, inl, inr, List, [], ◌∷◌, length}
use Rattle.std.proofs.Common.{refl}
use Rattle.std.proofs.Common.{sym, ap, ◌∙◌, subst, Bool, true, false, cond, arith, eqb, nat_le, sum_by, count_by}
use Rattle.std.proofs.Common.{leb-true, leb-false, get_or}
use Rattle.std.specs.List.{enumerate_from}
use Rattle.std.proofs.lemmas.Bool.{ne_eqb, eq-eqb, eqb-true, cases_lt, and_parts}
use Rattle.std.proofs.lemmas.List.Sums.{sum_by-cons}
use Rattle.std.proofs.lemmas.Nat.{mul-le, le-div}
use Rattle.std.proofs.Math.Nat.{add-mul-div_right, mul-le-mul_left, le_of_mul-le-mul_left, mul-div-le}
use Rattle.dover_model.specs.Common.{JobFacts, Instance, IsValid, IsMember, Each, numbered, jobs_of, IsOverfull}
use Rattle.dover_model.specs.declared.events.Task.{Task}
use Rattle.dover_model.specs.Common.{is_inside, work_inside, run, takes_or_abandons, completed_value, total_value}
use Rattle.task_laws.specs.Switches.{AreOfTask}
use Rattle.task_laws.specs.Demand.{TaskFacts, jobs_within, demand, facts_at, of_number, AskNoMore, AreMet, AreShares}
use Rattle.dover_model.proofs.lists.Members.{sum_le, sum_same, sum_zero, sum_plus, sum_map, sum_filter, member_filter}
use Rattle.std.proofs.Common.{le-leb}
use Rattle.std.proofs.lemmas.Bool.{and_from}
use Rattle.task_laws.specs.Switches.{AreSpaced}
use Rattle.std.proofs.Common.{map}
use Rattle.std.proofs.Common.{◌&&◌}
use Rattle.std.proofs.lemmas.List.Sums.{sum_by-append}
use Rattle.dover_model.specs.Common.{Rules, opening}
use Rattle.task_laws.specs.Demand.{soon, all_soon}
use Rattle.dover_model.proofs.steps.Kept.{opening_keeps}
use Rattle.dover_model.proofs.runs.Serving.{none_overfull}
use Rattle.dover_model.proofs.lists.Tests.{never}
use Rattle.dover_model.proofs.runs.Serving.{NoneOverfull, demand_in}
use Rattle.dover_model.proofs.runs.Runs.{none_lost_in, all_value_in}
use Rattle.task_laws.proofs.switches.Families.{in_stretch}
use Rattle.std.proofs.Common.{IsTrue}
use Rattle.dover_model.specs.Common.{Meets, IsJob, finishing, ran, earned, is_served}
use Rattle.dover_model.proofs.lists.Members.{each_all, all_member, cond_le}
use Rattle.dover_model.proofs.finishes.Meeting.{finishing_valid}
use Rattle.dover_model.proofs.runs.Honest.{plain_honest}
use Rattle.dover_model.proofs.valid.JobLimits.{job_limits}
use Rattle.dover_model.proofs.valid.ValidParts.{valid_parts}

-- ---- no window is overfull

-- the work that one job brings into a window
abbrev asked : ℕ → ℕ → JobFacts → ℕ
asked a b j = cond (is_inside a b j) j.work 0

-- the work inside is the sum of these
inside_is : (jobs : List JobFacts) (a b : ℕ) → work_inside jobs a b ≡ sum_by (asked a b) jobs
inside_is jobs a b = sum_filter (is_inside a b) (λ (j : JobFacts). j.work) jobs

-- where no window is overfull, the tasks of each state have none
none_over : (J : Instance) → ((a b w : ℕ) → IsOverfull J.jobs a b w → ⊥) → (tasks : List Task)
    → jobs_of tasks ≡ J.jobs → NoneOverfull tasks
none_over J none tasks same a b ordered =
    let sums : demand_in a b tasks ≡ sum_by (asked a b) J.jobs =
    sym (sum_map (λ (t : Task). t.job) (asked a b) tasks) ∙ ap (sum_by (asked a b)) same in
    by_order (cases_lt (b - a) (work_inside J.jobs a b)) sums (inside_is J.jobs a b) where
      by_order : ((b - a) < work_inside J.jobs a b) ⊎ (work_inside J.jobs a b ≤ b - a)
          → demand_in a b tasks ≡ sum_by (asked a b) J.jobs → work_inside J.jobs a b ≡ sum_by (asked a b) J.jobs
          → a + demand_in a b tasks ≤ b
      by_order (inl more) sums inside = absurd (none a b (work_inside J.jobs a b)
          (record { window = ordered; work = refl; too_much = more }))
      by_order (inr fits) sums inside = omega (arith, ordered, fits, sums, inside)

pub none_lost_where : (J : Instance) → IsValid J → ((a b w : ℕ) → IsOverfull J.jobs a b w → ⊥)
    → Each (λ x. takes_or_abandons x.move ≡ false) (run J)
none_lost_where J valid none = none_lost_in J valid (none_over J none)

pub all_value_where : (J : Instance) → IsValid J → ((a b w : ℕ) → IsOverfull J.jobs a b w → ⊥)
    → completed_value J ≡ total_value J.jobs
all_value_where J valid none = all_value_in J valid (none_over J none)

-- ---- so some schedule serves all

-- numbers that are no more than others, and come to the same, are the same
each_equal : {X : Type 0} (f g : X → ℕ) (xs : List X) → Each (λ x. f x ≤ g x) xs → sum_by f xs ≡ sum_by g xs
    → Each (λ x. f x ≡ g x) xs
each_equal f g [] less same x member = absurd member
each_equal f g (y ∷ ys) less same x (inl e) = subst (λ z. f z ≡ g z) (sym e) (omega (
  arith,
  same,
  less y (inl refl),
  sum_by-cons f y ys,
  sum_by-cons g y ys,
  sum_le f g ys (λ z member. less z (inr member)),
))
each_equal f g (y ∷ ys) less same x (inr member) = each_equal f g ys (λ z m. less z (inr m)) (omega (
  arith,
  same,
  less y (inl refl),
  sum_by-cons f y ys,
  sum_by-cons g y ys,
  sum_le f g ys (λ z m. less z (inr m)),
)) x member

-- a sum over the numbered is one over the list
sum_enumerated : {X : Type 0} (f : X → ℕ) (k : ℕ) (xs : List X)
    → sum_by (λ y_x. f y_x.1) (enumerate_from k xs) ≡ sum_by f xs
sum_enumerated f k [] = refl
sum_enumerated {X} f k (x ∷ xs) = omega (
  arith,
  sum_by-cons (λ (y_x : ℕ × X). f y_x.1) (k, x) (enumerate_from (k + 1) xs),
  sum_by-cons f x xs,
  sum_enumerated f (k + 1) xs,
)

-- a numbered job is one of the list
numbered_job : (k : ℕ) (jobs : List JobFacts) (n_j : ℕ × JobFacts) → IsMember n_j (enumerate_from k jobs)
    → IsMember n_j.1 jobs
numbered_job k [] n_j member = absurd member
numbered_job k (j ∷ jobs) n_j (inl e) = inl (ap (λ (p : ℕ × JobFacts). p.1) e)
numbered_job k (j ∷ jobs) n_j (inr member) = inr (numbered_job (k + 1) jobs n_j member)

pub meets_where : (J : Instance) → IsValid J → ((a b w : ℕ) → IsOverfull J.jobs a b w → ⊥) → Meets J
meets_where J valid none = (
  ran (finishing J []),
  each_all (λ n_j. IsTrue (is_served (ran (finishing J [])) n_j))
      (numbered J) serves,
) where
  plain : IsValid (finishing J [])
  plain = finishing_valid J [] valid

  s : List ℕ
  s = ran (finishing J [])

  all : sum_by (earned s) (numbered J) ≡ sum_by (λ n_j. n_j.1.value) (numbered J)
  all = plain_honest (finishing J []) plain refl ∙ all_value_where (finishing J []) plain none
      ∙ sym (sum_enumerated (λ (j : JobFacts). j.value) 0 J.jobs)

  serves : Each (λ n_j. IsTrue (is_served s n_j)) (numbered J)
  serves n_j member = by_test (is_served s n_j) (each_equal (earned s) (λ (m_i : ℕ × JobFacts). m_i.1.value)
      (numbered J) (λ m_i there. cond_le (is_served s m_i) m_i.1.value) all n_j member) where
        worth : 1 ≤ n_j.1.value
        worth = (job_limits (all_member IsJob J.jobs (valid_parts valid).each n_j.1
            (numbered_job 0 J.jobs n_j member))).worth

        by_test : (b : Bool) → cond b n_j.1.value 0 ≡ n_j.1.value → IsTrue b
        by_test true e = refl
        by_test false e = absurd (omega (arith, e, worth))

-- ---- all jobs, task by task

module _ {X : Type 0} (z c : ℕ) where
  -- so much for its own number
  abbrev own : ℕ × X → ℕ
  own y_t = cond (eqb z y_t.0) c 0

  none_later : (k : ℕ) (xs : List X) → z < k → sum_by own (enumerate_from k xs) ≡ 0
  none_later k [] less = refl
  none_later k (x ∷ xs) less =
      let skips : cond (eqb z k) c 0 ≡ 0 =
      ap (λ b. cond b c 0) (ne_eqb z k (λ same. absurd (omega (arith, same, less)))) in
      let rest : sum_by own (enumerate_from (k + 1) xs) ≡ 0 = none_later (k + 1) xs (omega (arith, less)) in
      omega (arith, sum_by-cons own (k, x) (enumerate_from (k + 1) xs), skips, rest)

  once : (k : ℕ) (xs : List X) → k ≤ z → z < k + length xs → sum_by own (enumerate_from k xs) ≡ c
  once k [] low high = absurd (omega (arith, low, high))
  once k (x ∷ xs) low high = by_order (cases_lt k z) (λ more. once (k + 1) xs more (omega (arith, high))) where
    by_order : (k < z) ⊎ (z ≤ k) → (k + 1 ≤ z → sum_by own (enumerate_from (k + 1) xs) ≡ c)
        → sum_by own (enumerate_from k (x ∷ xs)) ≡ c
    by_order (inl less) rest =
        let skips : cond (eqb z k) c 0 ≡ 0 =
        ap (λ b. cond b c 0) (ne_eqb z k (λ same. absurd (omega (arith, same, less)))) in
        omega (arith, sum_by-cons own (k, x) (enumerate_from (k + 1) xs), skips, rest (omega (arith, less)))
    by_order (inr more) _ =
        let same : z ≡ k = omega (arith, low, more) in
        let counts : cond (eqb z k) c 0 ≡ c = ap (λ b. cond b c 0) (eq-eqb z k same) in
        omega (
          arith,
          sum_by-cons own (k, x) (enumerate_from (k + 1) xs),
          counts,
          none_later (k + 1) xs (omega (arith, same)),
        )

module _ {X : Type 0} (f : ℕ × JobFacts → ℕ) (of : ℕ → ℕ) (tasks : List X) where
  -- what the jobs of one task come to
  abbrev sum_of : List (ℕ × JobFacts) → ℕ × X → ℕ
  sum_of jobs y_t = sum_by f (of_number of y_t.0 jobs)

  -- one job more
  one_more : (j : ℕ × JobFacts) (jobs : List (ℕ × JobFacts)) (y_t : ℕ × X)
      → sum_of (j ∷ jobs) y_t ≡ cond (eqb (of j.0) y_t.0) (f j) 0 + sum_of jobs y_t
  one_more j jobs y_t = by_test (eqb (of j.0) y_t.0) where
    by_test : (b : Bool) → sum_by f (cond b (j ∷ of_number of y_t.0 jobs) (of_number of y_t.0 jobs))
        ≡ cond b (f j) 0 + sum_by f (of_number of y_t.0 jobs)
    by_test true = sum_by-cons f j (of_number of y_t.0 jobs)
    by_test false = omega arith

  -- all of them come to what the tasks come to
  by_tasks : (jobs : List (ℕ × JobFacts)) → Each (λ n_j. of n_j.0 < length tasks) jobs
      → sum_by f jobs ≡ sum_by (sum_of jobs) (enumerate_from 0 tasks)
  by_tasks [] named = sym (sum_zero (sum_of []) (enumerate_from 0 tasks) (λ y_t member. refl))
  by_tasks (j ∷ jobs) named =
      let rest : sum_by f jobs ≡ sum_by (sum_of jobs) (enumerate_from 0 tasks) =
      by_tasks jobs (λ n_j member. named n_j (inr member)) in
      let less : of j.0 < length tasks = named j (inl refl) in
      let split : sum_by (sum_of (j ∷ jobs)) (enumerate_from 0 tasks)
      ≡ sum_by (λ y_t. cond (eqb (of j.0) y_t.0) (f j) 0 + sum_of jobs y_t) (enumerate_from 0 tasks) =
      sum_same (sum_of (j ∷ jobs)) (λ y_t. cond (eqb (of j.0) y_t.0) (f j) 0 + sum_of jobs y_t)
      (enumerate_from 0 tasks) (λ y_t member. one_more j jobs y_t) in
      omega (
        arith,
        sum_by-cons f j jobs,
        rest,
        split,
        sum_plus (λ y_t. cond (eqb (of j.0) y_t.0) (f j) 0) (sum_of jobs) (enumerate_from 0 tasks),
        once (of j.0) (f j) 0 tasks (omega arith) (omega (arith, less)),
      )

-- ---- one task in a window

-- so many at a distance, where a span and one distance more have room for them
few_fit : (distance span count : ℕ) → 1 ≤ distance → distance * count ≤ span + distance
    → count ≤ span / distance + 1
few_fit distance span zero some fits = omega arith
few_fit distance span (suc count) some fits =
    let less : count * distance ≤ span = omega (arith, fits) in
    let it : count ≤ span / distance = le-div count span distance (omega (arith, some)) less in
    omega (arith, it)

-- none, where a distance less one has room for them
none_fit : (distance count : ℕ) → 1 ≤ distance → distance * count ≤ distance - 1 → count ≤ 0
none_fit distance zero some fits = omega arith
none_fit distance (suc count) some fits =
    let once : distance * 1 ≤ distance * suc count = mul-le-mul_left distance (omega arith) in
    absurd (omega (arith, once, fits, some))

module _ (task : TaskFacts) (jobs : List (ℕ × JobFacts)) (some : 1 ≤ task.distance)
    (are : AreOfTask task.distance task.due jobs) (a b : ℕ) (ordered : a ≤ b) where
  -- few of its jobs are inside
  few_inside : count_by (λ n_j. is_inside a b n_j.1) jobs ≤ jobs_within task (b - a)
  few_inside = by_due (nat_le task.due (b - a)) refl
      (in_stretch (record { release = 0; work = 0; deadline = 0; value = 0 }) task.distance task.due jobs some are
      (λ n_j. is_inside a b n_j.1) a (b + 1 - task.due) (λ n_j member e.
      let parts : (nat_le a n_j.1.release ≡ true) × (nat_le n_j.1.deadline b ≡ true) =
      and_parts (nat_le a n_j.1.release) (nat_le n_j.1.deadline b) e in
      let low : a ≤ n_j.1.release = leb-true _ _ parts.0 in
      let high : n_j.1.deadline ≤ b = leb-true _ _ parts.1 in
      let is_due : n_j.1.deadline ≡ n_j.1.release + task.due = are.ends n_j member in (low, omega arith))) where
        by_due : (c : Bool) → nat_le task.due (b - a) ≡ c
            → task.distance * count_by (λ n_j. is_inside a b n_j.1) jobs
            ≤ ((b + 1 - task.due) - a) + (task.distance - 1)
            → count_by (λ n_j. is_inside a b n_j.1) jobs ≤ cond c (((b - a) - task.due) / task.distance + 1) 0
        by_due true e fits = let due : task.due ≤ b - a = leb-true _ _ e in
            few_fit task.distance ((b - a) - task.due) (count_by (λ n_j. is_inside a b n_j.1) jobs) some
            (omega (arith, fits, due, ordered, some))
        by_due false e fits = let due : (b - a) < task.due = leb-false _ _ e in
            none_fit task.distance (count_by (λ n_j. is_inside a b n_j.1) jobs) some
            (omega (arith, fits, due, ordered, some))

-- the work of jobs that have no more than so much
works_most : (work a b : ℕ) (jobs : List (ℕ × JobFacts)) → Each (λ n_j. n_j.1.work ≤ work) jobs
    → sum_by (λ n_j. asked a b n_j.1) jobs ≤ work * count_by (λ n_j. is_inside a b n_j.1) jobs
works_most work a b [] most = omega arith
works_most work a b (j ∷ jobs) most =
    by_test (is_inside a b j.1) (most j (inl refl)) (sum_by-cons (λ (n_j : ℕ × JobFacts). asked a b n_j.1) j jobs)
    (ap (λ n. work * n) (sum_by-cons (λ (n_j : ℕ × JobFacts). cond (is_inside a b n_j.1) 1 0) j jobs))
    (works_most work a b jobs (λ n_j member. most n_j (inr member))) where
      by_test : (c : Bool) → j.1.work ≤ work
          → sum_by (λ n_j. asked a b n_j.1) (j ∷ jobs) ≡ cond c j.1.work 0 + sum_by (λ n_j. asked a b n_j.1) jobs
          → work * count_by (λ n_j. is_inside a b n_j.1) (j ∷ jobs)
          ≡ work * (cond c 1 0 + count_by (λ n_j. is_inside a b n_j.1) jobs)
          → sum_by (λ n_j. asked a b n_j.1) jobs ≤ work * count_by (λ n_j. is_inside a b n_j.1) jobs
          → sum_by (λ n_j. asked a b n_j.1) (j ∷ jobs) ≤ work * count_by (λ n_j. is_inside a b n_j.1) (j ∷ jobs)
      by_test true low sums counts less = omega (arith, low, sums, counts, less)
      by_test false low sums counts less = omega (arith, low, sums, counts, less)

-- what stands under a number
at_number : {X : Type 0} (other : X) (k : ℕ) (xs : List X) (y_t : ℕ × X) → IsMember y_t (enumerate_from k xs)
    → (k ≤ y_t.0) × (y_t.0 < k + length xs) × (get_or xs (y_t.0 - k) other ≡ y_t.1)
at_number other k [] y_t member = absurd member
at_number {X} other k (x ∷ xs) y_t (inl e) =
    let n : y_t.0 ≡ k = ap (λ (p : ℕ × X). p.0) e in
    let none : y_t.0 - k ≡ 0 = omega (arith, n) in
    (omega (arith, n), omega (arith, n), ap (λ i. get_or (x ∷ xs) i other) none ∙ sym (ap (λ (p : ℕ × X). p.1) e))
at_number other k (x ∷ xs) y_t (inr member) =
    let it : (k + 1 ≤ y_t.0) × (y_t.0 < k + 1 + length xs) × (get_or xs (y_t.0 - (k + 1)) other ≡ y_t.1) =
    at_number other (k + 1) xs y_t member in
    let low : k + 1 ≤ y_t.0 = it.0 in
    let next : y_t.0 - k ≡ suc (y_t.0 - (k + 1)) = omega (arith, low) in
    (omega (arith, low), omega (arith, it.1), ap (λ i. get_or (x ∷ xs) i other) next ∙ it.2)

module _ (tasks : List TaskFacts) (of : ℕ → ℕ) (J : Instance) (ask : AskNoMore tasks of J) where
  -- no window has more work in it than the demand
  pub inside_demand : (a b : ℕ) → a ≤ b → work_inside J.jobs a b ≤ demand tasks (b - a)
  inside_demand a b ordered = omega (
    arith,
    inside_is J.jobs a b,
    sum_enumerated (asked a b) 0 J.jobs,
    by_tasks (λ n_j. asked a b n_j.1) of tasks (numbered J) ask.named,
    sum_le (sum_of (λ n_j. asked a b n_j.1) of tasks (numbered J))
        (λ y_t. y_t.1.work * jobs_within y_t.1 (b - a)) (enumerate_from 0 tasks) of_one,
    sum_enumerated (λ t. t.work * jobs_within t (b - a)) 0 tasks,
  ) where
    blank : TaskFacts
    blank = record { distance = 1; work = 0; due = 0 }

    of_one : Each (λ y_t. sum_of (λ n_j. asked a b n_j.1) of tasks (numbered J) y_t
        ≤ y_t.1.work * jobs_within y_t.1 (b - a)) (enumerate_from 0 tasks)
    of_one (y, t) member =
        let it : (0 ≤ y) × (y < 0 + length tasks) × (get_or tasks (y - 0) blank ≡ t) =
        at_number blank 0 tasks (y, t) member in
        let there : y < length tasks = omega (arith, it.1) in
        let same : facts_at tasks y ≡ t =
        (let none : y ≡ y - 0 = omega arith in ap (λ i. get_or tasks i blank) none) ∙ it.2 in
        subst (λ u. sum_by (λ n_j. asked a b n_j.1) (of_number of y (numbered J)) ≤ u.work * jobs_within u (b - a))
        same (omega (
          arith,
          works_most (facts_at tasks y).work a b (of_number of y (numbered J)) (most y),
          mul-le-mul_left (facts_at tasks y).work
              (few_inside (facts_at tasks y) (of_number of y (numbered J)) (ask.some y there) (ask.apart y there) a b
              ordered),
        )) where
          most : (y : ℕ) → Each (λ n_j. n_j.1.work ≤ (facts_at tasks y).work) (of_number of y (numbered J))
          most y n_j inside =
              let it : IsMember n_j (numbered J) × (eqb (of n_j.0) y ≡ true) =
              member_filter (λ m_j. eqb (of m_j.0) y) (numbered J) n_j inside in
              subst (λ z. n_j.1.work ≤ (facts_at tasks z).work) (eqb-true _ _ it.1) (ask.works n_j it.0)

  -- so none is overfull where the demand is met
  none_full : AreMet tasks → (a b w : ℕ) → IsOverfull J.jobs a b w → ⊥
  none_full met a b w over = absurd (omega (
    arith,
    over.too_much,
    over.work,
    inside_demand a b over.window,
    met (b - a),
  ))

  pub met_meets : IsValid J → AreMet tasks → Meets J
  met_meets valid met = meets_where J valid (none_full met)

  pub met_none_lost : IsValid J → AreMet tasks → Each (λ x. takes_or_abandons x.move ≡ false) (run J)
  met_none_lost valid met = none_lost_where J valid (none_full met)

  pub met_all_value : IsValid J → AreMet tasks → completed_value J ≡ total_value J.jobs
  met_all_value valid met = all_value_where J valid (none_full met)

-- ---- few windows tell of all

-- the demand of a longer window is no less
within_more : (t : TaskFacts) (short long : ℕ) → 1 ≤ t.distance → short ≤ long
    → jobs_within t short ≤ jobs_within t long
within_more t short long some less = by_due (nat_le t.due short) (nat_le t.due long) refl refl where
  by_due : (c d : Bool) → nat_le t.due short ≡ c → nat_le t.due long ≡ d
      → cond c ((short - t.due) / t.distance + 1) 0 ≤ cond d ((long - t.due) / t.distance + 1) 0
  by_due false d e f = omega arith
  by_due true true e f =
      let times : t.distance * ((short - t.due) / t.distance) ≤ short - t.due =
      mul-div-le (short - t.due) t.distance in
      let fits : (short - t.due) / t.distance * t.distance ≤ long - t.due = omega (arith, times, less) in
      let it : (short - t.due) / t.distance ≤ (long - t.due) / t.distance =
      le-div ((short - t.due) / t.distance) (long - t.due) t.distance (omega (arith, some)) fits in
      omega (arith, it)
  by_due true false e f = let due : t.due ≤ short = leb-true _ _ e in let late : long < t.due = leb-false _ _ f in
      absurd (omega (arith, due, late, less))

pub demand_more : (tasks : List TaskFacts) → Each (λ t. 1 ≤ t.distance) tasks → (short long : ℕ) → short ≤ long
    → demand tasks short ≤ demand tasks long
demand_more tasks some short long less =
    sum_le (λ t. t.work * jobs_within t short) (λ t. t.work * jobs_within t long) tasks
    (λ t member. mul-le-mul_left t.work (within_more t short long (some t member) less))

pub between : (tasks : List TaskFacts) (long length : ℕ) → Each (λ t. 1 ≤ t.distance) tasks
    → demand tasks long ≤ length → length ≤ long → demand tasks length ≤ length
between tasks long length some fits less = omega (arith, fits, demand_more tasks some length long less)

module _ (tasks : List TaskFacts) (scale horizon : ℕ) (share : TaskFacts → ℕ) (are : AreShares tasks scale share) where
  -- one task's demand, in parts of the scale
  one_demand : (length : ℕ) (t : TaskFacts) → 1 ≤ t.distance → scale * t.work ≤ share t * t.distance
      → scale * (t.work * jobs_within t length) ≤ share t * length + share t * (t.distance - t.due)
  one_demand length t some enough = by_due (nat_le t.due length) refl where
    by_due : (c : Bool) → nat_le t.due length ≡ c
        → scale * (t.work * cond c ((length - t.due) / t.distance + 1) 0)
        ≤ share t * length + share t * (t.distance - t.due)
    by_due false e = omega arith
    by_due true e =
        let due : t.due ≤ length = leb-true _ _ e in
        let times : t.distance * ((length - t.due) / t.distance) ≤ length - t.due =
        mul-div-le (length - t.due) t.distance in
        let span : t.distance * ((length - t.due) / t.distance + 1) ≤ length + (t.distance - t.due) =
        omega (arith, times, due) in
        let high : share t * (t.distance * ((length - t.due) / t.distance + 1))
        ≤ share t * (length + (t.distance - t.due)) = mul-le-mul_left (share t) span in
        let low : scale * t.work * ((length - t.due) / t.distance + 1)
        ≤ share t * t.distance * ((length - t.due) / t.distance + 1) =
        mul-le (scale * t.work) ((length - t.due) / t.distance + 1) (share t * t.distance)
        ((length - t.due) / t.distance + 1) enough (omega arith) in
        omega (arith, high, low)

  -- all of them
  all_demand : (length : ℕ) (ts : List TaskFacts) → Each (λ t. 1 ≤ t.distance) ts
      → Each (λ t. scale * t.work ≤ share t * t.distance) ts
      → scale * demand ts length
      ≤ sum_by share ts * length + sum_by (λ t. share t * (t.distance - t.due)) ts
  all_demand length [] some enough = omega arith
  all_demand length (t ∷ ts) some enough = omega (
    arith,
    one_demand length t (some t (inl refl)) (enough t (inl refl)),
    all_demand length ts (λ u member. some u (inr member)) (λ u member. enough u (inr member)),
    ap (λ n. scale * n) (sum_by-cons (λ (u : TaskFacts). u.work * jobs_within u length) t ts),
    ap (λ n. n * length) (sum_by-cons share t ts),
    sum_by-cons (λ (u : TaskFacts). share u * (u.distance - u.due)) t ts,
  )

  pub horizon_tells : sum_by (λ t. share t * (t.distance - t.due)) tasks ≤ (scale - sum_by share tasks) * horizon
      → ((length : ℕ) → length < horizon → demand tasks length ≤ length) → AreMet tasks
  horizon_tells beyond below length = by_order (cases_lt length horizon) where
    by_order : (length < horizon) ⊎ (horizon ≤ length) → demand tasks length ≤ length
    by_order (inl less) = below length less
    by_order (inr more) =
        let rest : (scale - sum_by share tasks) * horizon ≤ (scale - sum_by share tasks) * length =
        mul-le-mul_left (scale - sum_by share tasks) more in
        let all : sum_by share tasks * length + (scale - sum_by share tasks) * length ≡ scale * length =
        (let whole : sum_by share tasks + (scale - sum_by share tasks) ≡ scale = omega (arith, are.all) in
        let split : sum_by share tasks * length + (scale - sum_by share tasks) * length
        ≡ (sum_by share tasks + (scale - sum_by share tasks)) * length = omega arith in
        split ∙ ap (λ n. n * length) whole) in
        let less : scale * demand tasks length ≤ scale * length =
        omega (arith, all_demand length tasks are.apart are.enough, beyond, rest, all) in
        le_of_mul-le-mul_left less (omega (arith, are.some))

-- ---- what comes in a common multiple of the distances

module _ (tasks : List TaskFacts) (period last : ℕ) (times : TaskFacts → ℕ) (long : 1 ≤ period) where
  -- one task's jobs in a window that is longer by it
  one_period : (t : TaskFacts) (length : ℕ) → 1 ≤ t.distance → period ≡ times t * t.distance → t.due ≤ length
      → jobs_within t (length + period) ≡ jobs_within t length + times t
  one_period t length some is_times due =
      let later : (length + period) - t.due ≡ (length - t.due) + times t * t.distance = omega (arith, due, is_times) in
      let parts : ((length - t.due) + times t * t.distance) / t.distance ≡ (length - t.due) / t.distance + times t =
      add-mul-div_right (length - t.due) (times t) (omega (arith, some)) in
      let quotient : ((length + period) - t.due) / t.distance ≡ (length - t.due) / t.distance + times t =
      ap (λ n. n / t.distance) later ∙ parts in
      by_due (nat_le t.due (length + period)) (nat_le t.due length)
      (le-leb _ _ (omega (arith, due))) (le-leb _ _ due) quotient where
        by_due : (c d : Bool) → c ≡ true → d ≡ true
            → ((length + period) - t.due) / t.distance ≡ (length - t.due) / t.distance + times t
            → cond c (((length + period) - t.due) / t.distance + 1) 0
            ≡ cond d ((length - t.due) / t.distance + 1) 0 + times t
        by_due true true e f quotient = omega (arith, quotient)
        by_due false d e f quotient = never e
        by_due true false e f quotient = never f

  -- and of all tasks
  all_periods : (length : ℕ) (ts : List TaskFacts) → Each (λ t. 1 ≤ t.distance) ts
      → Each (λ t. period ≡ times t * t.distance) ts → Each (λ t. t.due ≤ length) ts
      → demand ts (length + period) ≡ demand ts length + sum_by (λ t. t.work * times t) ts
  all_periods length [] some is_times due = refl
  all_periods length (t ∷ ts) some is_times due =
      let one : t.work * jobs_within t (length + period) ≡ t.work * (jobs_within t length + times t) =
      ap (λ n. t.work * n) (one_period t length (some t (inl refl)) (is_times t (inl refl)) (due t (inl refl))) in
      omega (
        arith,
        one,
        all_periods length ts (λ u m. some u (inr m)) (λ u m. is_times u (inr m)) (λ u m. due u (inr m)),
        sum_by-cons (λ (u : TaskFacts). u.work * jobs_within u (length + period)) t ts,
        sum_by-cons (λ (u : TaskFacts). u.work * jobs_within u length) t ts,
        sum_by-cons (λ (u : TaskFacts). u.work * times u) t ts,
      )

  module _ (some : Each (λ t. 1 ≤ t.distance) tasks) (is_times : Each (λ t. period ≡ times t * t.distance) tasks)
      (due : Each (λ t. t.due ≤ last) tasks) (few : sum_by (λ t. t.work * times t) tasks ≤ period)
      (below : (length : ℕ) → length ≤ last + period → demand tasks length ≤ length) where
    -- windows of so many periods
    in_periods : (n length : ℕ) → length ≤ last + suc n * period → demand tasks length ≤ length
    in_periods zero length fits = below length (omega (arith, fits))
    in_periods (suc n) length fits = by_order (cases_lt (last + period) length) (in_periods n (length - period)) where
      by_order : ((last + period) < length) ⊎ (length ≤ last + period)
          → (length - period ≤ last + suc n * period → demand tasks (length - period) ≤ length - period)
          → demand tasks length ≤ length
      by_order (inr low) more = below length low
      by_order (inl high) more =
          let before : length ≡ (length - period) + period = omega (arith, high) in
          let shorter : length - period ≤ last + suc n * period = omega (arith, fits, high) in
          omega (
            arith,
            high,
            ap (demand tasks) before,
            all_periods (length - period) tasks some is_times
                (λ t m. let it : t.due ≤ last = due t m in omega (arith, it, high)),
            few,
            more shorter,
          )

    pub period_tells : AreMet tasks
    period_tells length =
        let more : suc length * 1 ≤ suc length * period = mul-le-mul_left (suc length) long in
        in_periods length length (omega (arith, more))

-- ---- the jobs that ask for all of it

-- each of them is inside
soon_asks : (t : TaskFacts) (long n from : ℕ) → from + n * t.distance + t.due ≤ long + t.distance
    → sum_by (asked 0 long) (soon t from n) ≡ t.work * n
soon_asks t long zero from fits = omega arith
soon_asks t long (suc n) from fits =
    let due : from + t.due ≤ long = omega (arith, fits) in
    let inside : (nat_le 0 from && nat_le (from + t.due) long) ≡ true =
    and_from (nat_le 0 from) (nat_le (from + t.due) long) (le-leb 0 from (omega arith)) (le-leb _ _ due) in
    let one : cond (nat_le 0 from && nat_le (from + t.due) long) t.work 0 ≡ t.work =
    ap (λ b. cond b t.work 0) inside in
    omega (
      arith,
      one,
      sum_by-cons (asked 0 long)
          (record { release = from; work = t.work; deadline = from + t.due; value = 1 }) (soon t (from + t.distance) n),
      soon_asks t long n (from + t.distance) (omega (arith, fits)),
    )

-- of one task as many as there may be
one_asks : (t : TaskFacts) (long : ℕ) → sum_by (asked 0 long) (soon t 0 (jobs_within t long))
    ≡ t.work * jobs_within t long
one_asks t long = by_due (nat_le t.due long) refl where
  by_due : (c : Bool) → nat_le t.due long ≡ c
      → sum_by (asked 0 long) (soon t 0 (cond c ((long - t.due) / t.distance + 1) 0))
      ≡ t.work * cond c ((long - t.due) / t.distance + 1) 0
  by_due false e = omega arith
  by_due true e =
      let due : t.due ≤ long = leb-true _ _ e in
      let times : t.distance * ((long - t.due) / t.distance) ≤ long - t.due = mul-div-le (long - t.due) t.distance in
      soon_asks t long ((long - t.due) / t.distance + 1) 0 (omega (arith, times, due))

-- and of all
all_ask : (tasks : List TaskFacts) (long : ℕ) → sum_by (asked 0 long) (all_soon tasks long) ≡ demand tasks long
all_ask [] long = refl
all_ask (t ∷ tasks) long = omega (
  arith,
  sum_by-append (asked 0 long) (soon t 0 (jobs_within t long)) (all_soon tasks long),
  one_asks t long,
  all_ask tasks long,
  sum_by-cons (λ (u : TaskFacts). u.work * jobs_within u long) t tasks,
)

pub asked_demand : (tasks : List TaskFacts) (long : ℕ) → work_inside (all_soon tasks long) 0 long ≡ demand tasks long
asked_demand tasks long = inside_is (all_soon tasks long) 0 long ∙ all_ask tasks long

pub demand_unmet : (tasks : List TaskFacts) (long : ℕ) (rules : Rules) → long < demand tasks long
    → Meets (record { rules = rules; jobs = all_soon tasks long }) → ⊥
demand_unmet tasks long rules more meets = absurd (
    let J : Instance = record { rules = rules; jobs = all_soon tasks long } in
    let sums : demand_in 0 long (opening (all_soon tasks long)).tasks
    ≡ sum_by (asked 0 long) (jobs_of (opening (all_soon tasks long)).tasks) =
    sym (sum_map (λ (t : Task). t.job) (asked 0 long) (opening (all_soon tasks long)).tasks) in
    let same : jobs_of (opening (all_soon tasks long)).tasks ≡ all_soon tasks long =
    (opening_keeps (record { rules = rules; jobs = all_soon tasks long })).jobs in
    omega (
      arith,
      more,
      sums,
      ap (sum_by (asked 0 long)) same,
      all_ask tasks long,
      none_overfull (record { rules = rules; jobs = all_soon tasks long }) meets (opening (all_soon tasks long)).tasks
          same 0 long (omega arith),
    ))

-- they keep the distance
soon_later : (t : TaskFacts) (n from low : ℕ) → low ≤ from
    → Each (λ r. low ≤ r) (map (λ (j : JobFacts). j.release) (soon t from n))
soon_later t zero from low less r member = absurd member
soon_later t (suc n) from low less r (inl e) = omega (arith, less, e)
soon_later t (suc n) from low less r (inr member) =
    soon_later t n (from + t.distance) low (omega (arith, less)) r member

pub soon_apart : (t : TaskFacts) (from n : ℕ)
    → AreSpaced t.distance (map (λ (j : JobFacts). j.release) (soon t from n))
soon_apart t from zero = tt
soon_apart t from (suc n) = (
  soon_later t n (from + t.distance) (from + t.distance) (omega arith),
  soon_apart t (from + t.distance) n,
)
