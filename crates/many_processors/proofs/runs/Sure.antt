-- A job that is heavy against what can hold the processors, and against which none is heavy, is completed.
use Rattle.std.proofs.Common.{◌≡◌, ℕ, suc, zero, ◌+◌, ◌-◌, ◌*◌, ◌≤◌, ◌<◌, ◌⊎◌, inl, inr, List, [], ◌∷◌, refl, sym, ap}
use Rattle.std.proofs.Common.{◌∙◌, subst, Bool, true, false, cond, arith, eqb, eqb-true, sum_by, nat_le, nat_lt, ◌&&◌}
use Rattle.std.proofs.Common.{◌==◌}
use Rattle.std.proofs.Common.{not, le-leb, lt-ltb, None, Some, Option, filter}
use Rattle.std.specs.List.{enumerate_from}
use Rattle.std.proofs.lemmas.Bool.{cases_lt}
use Rattle.std.proofs.lemmas.Nat.{mul-le}
use Rattle.std.proofs.Math.Nat.{mul-le-mul_left}
use Rattle.std.proofs.lemmas.List.Sums.{sum_by-cons}
use Rattle.dover_model.specs.declared.events.Event.{Event}
use Rattle.dover_model.specs.declared.events.Event.TheVariants.{Run, Preempt, Take, Complete, Abandon, End, Release}
use Rattle.dover_model.specs.declared.events.Task.{Task}
use Rattle.dover_model.specs.declared.events.Role.TheVariants.{Coming, Fresh, Waiting, Held, Running, Done, Gone}
use Rattle.dover_model.specs.declared.factors.Factor.{Factor}
use Rattle.dover_model.specs.JobFacts.{JobFacts}
use Rattle.dover_model.specs.Underload as underload
use Rattle.dover_model.specs.Underload.{abandons}
use Rattle.dover_model.specs.Common.{Fraction, Instance, IsValid, IsHeavy, IsExcessBy, IsExcess, is_privileged}
use Rattle.dover_model.specs.Common.{is_running, is_done, is_over}
use Rattle.dover_model.specs.Common.{is_waiting, is_at_latest_start, starts_before, latest_start, left, IsMember}
use Rattle.dover_model.specs.Common.{Each, numbered}
use Rattle.dover_model.specs.Common.{to_come, value_sum}
use Rattle.dover_model.specs.Step as single
use Rattle.dover_model.proofs.bound.Calculus.{HeavyBy, heavy_mono, heavy_more, not_heavy, factor_over, root_excess}
use Rattle.dover_model.proofs.bound.Counting.{one}
use Rattle.dover_model.proofs.lists.Tests.{never}
use Rattle.dover_model.proofs.lists.Members.{map_member, on_map, sum_map, sum_le, sum_plus, sum_zero, term_le_sum}
use Rattle.dover_model.proofs.lists.Members.{member_filter}
use Rattle.dover_model.proofs.lists.Members.{all_each}
use Rattle.dover_model.proofs.lists.FirstOfTasks.{first_member}
use Rattle.dover_model.proofs.runs.Honest.{sum_tasks}
use Rattle.dover_model.proofs.steps.Deeds.{Deed, Completed, Resumed, Started, Began, Preempted, Stayed, Arrived, Taken}
use Rattle.dover_model.proofs.steps.Deeds.{Abandoned, Rested, deed_of}
use Rattle.dover_model.proofs.steps.Kept.{come_coming}
use Rattle.dover_model.proofs.steps.Roles.{passes, is_over_role, is_waiting_role}
use Rattle.dover_model.proofs.valid.ValidParts.{valid_parts}
use Rattle.dover_model.proofs.valid.JobLimits.{ratio_limits}
use Rattle.many_processors.specs.State.{Placed, State, tasks_of, seen_from, opening, unplaced}
use Rattle.many_processors.specs.Step.{Move, Prints, Waits, Ticks, on, Seen, seen, all_seen, numbers_from, step, after}
use Rattle.many_processors.specs.Step.{completion, is_free, is_own_of, placed_after, placed_on, in_role, ticked}
use Rattle.many_processors.specs.Run.{run, enough}
use Rattle.many_processors.specs.Sound.{Keeps}
use Rattle.dover_model.specs.Windows.{crosses, crossing_beside, worth_beside}
use Rattle.many_processors.specs.Sure.{IsCompleted}
use Rattle.many_processors.proofs.bound.Bounding.{excess_sum}
use Rattle.many_processors.proofs.books.Booked.{own_sum, value_of, number_and_job, seen_value}
use Rattle.many_processors.proofs.books.TickSteps.{sum_swap, one_number, tick_plain}
use Rattle.many_processors.proofs.steps.Seeing.{each_sees, below_numbers, numbers_below, seen_sees, whole}
use Rattle.many_processors.proofs.steps.Cases as cases
use Rattle.many_processors.proofs.steps.Cases.{StepCase, step_case}
use Rattle.many_processors.proofs.steps.Kept.{job_released}
use Rattle.many_processors.proofs.steps.Placing.{seen_member, all_left}
use Rattle.many_processors.proofs.steps.Stepping.{real, same_job, Gives, event_task, role_stays, gives_gone}
use Rattle.many_processors.proofs.steps.Turns.{which, of_tasks, opening_kept}
use Rattle.many_processors.proofs.runs.Honest.{job_there, tasks_numbered}
use Rattle.many_processors.proofs.runs.Outcomes.{Outcome, outcome}
use Rattle.many_processors.proofs.runs.RunEnds.{run_ends}
use Rattle.many_processors.proofs.runs.Weighing.{fits_in, on_slack}

-- ---- numbers

-- what exceeds by little is not heavy
little_by : (k : Fraction) (o : Option Factor) (v a y : ℕ) → a < v → v ≤ y + a → IsExcessBy k o y a
    → HeavyBy k o v a → ⊥
little_by k None v a y more low little heavy =
    let less : v - a ≤ y = omega (arith, low) in
    let square : (v - a) * (v - a) ≤ y * y = mul-le (v - a) (v - a) y y less less in
    let times : k.q * ((v - a) * (v - a)) ≤ k.q * (y * y) = mul-le-mul_left k.q square in
    close (v - a) times (root_excess k v a heavy) where
      close : (x : ℕ) → k.q * (x * x) ≤ k.q * (y * y) → k.p * a * a < k.q * x * x → ⊥
      close x times over = absurd (omega (arith, times, over, little))
little_by k (Some f) v a y more low little heavy = by_order (cases_lt f.b f.c) where
  over : f.b * a < f.c * v
  over = factor_over k f v a heavy

  by_order : (f.b < f.c) ⊎ (f.c ≤ f.b) → ⊥
  by_order (inl less) =
      let none : f.b - f.c ≡ 0 = omega (arith, less) in
      let nothing : (f.b - f.c) * a ≡ 0 * a = ap (λ n. n * a) none in
      let single : 1 * y ≤ f.c * y = mul-le 1 y f.c y (omega (arith, less)) (omega arith) in
      absurd (omega (arith, little, nothing, single, more, low))
  by_order (inr least) =
      let rest : f.c + (f.b - f.c) ≡ f.b = omega (arith, least) in
      let same : (f.c + (f.b - f.c)) * a ≡ f.b * a = ap (λ n. n * a) rest in
      let times : f.c * v ≤ f.c * (y + a) = mul-le-mul_left f.c low in
      absurd (omega (arith, little, same, times, over))

not_over : (k : Fraction) (v a y : ℕ) → v ≤ y + a → IsExcess k y a → IsHeavy k v a → ⊥
not_over k v a y low little heavy = little_by k k.factor v a y (heavy_more k v a heavy) low little heavy

-- v for each of so many processors
all_of : (v q more : ℕ) → sum_by (λ (j : ℕ). v) (numbers_from q more) ≡ more * v
all_of v q zero = omega arith
all_of v q (suc more) = omega (
  arith,
  sum_by-cons (λ (j : ℕ). v) q (numbers_from (suc q) more),
  all_of v (suc q) more,
)

-- v, where a test is passed, is so often v
cond_times : (v : ℕ) (b : ℕ → Bool) (qs : List ℕ) → sum_by (λ q. cond (b q) v 0) qs ≡ v * sum_by (λ q. one (b q)) qs
cond_times v b [] = omega arith
cond_times v b (q ∷ qs) = sum_by-cons (λ q. cond (b q) v 0) q qs ∙ omega (
  arith,
  cond_times v b qs,
  here (b q),
  ap (λ n. v * n) (sum_by-cons (λ q. one (b q)) q qs),
) where
  here : (c : Bool) → cond c v 0 ≡ v * one c
  here true = omega arith
  here false = omega arith

-- what no event but a take gives
gives_waiting : (e : Event) (t : Task) → underload.takes_or_abandons (single.Prints e) ≡ false → Gives e t Waiting → ⊥
gives_waiting (Release n job) t calm gives = let f : Waiting ≡ Fresh = gives.1 in cc
gives_waiting (Run at n) t calm gives = let f : Waiting ≡ Running = gives.1 in cc
gives_waiting (Preempt at r n) t calm (inl gives) = let f : Waiting ≡ Running = gives.1 in cc
gives_waiting (Preempt at r n) t calm (inr gives) = let f : Waiting ≡ Held = gives.1 in cc
gives_waiting (Take at r n) t calm gives = never (sym calm)
gives_waiting (Complete at n) t calm gives = let f : Waiting ≡ Done = gives.1 in cc
gives_waiting (Abandon at n) t calm gives = never (sym calm)
gives_waiting (End value) t calm gives = gives

no_abandon : (e : Event) → underload.takes_or_abandons (single.Prints e) ≡ false → abandons (single.Prints e) ≡ false
no_abandon (Abandon at n) h = never (sym h)
no_abandon (Take at r n) h = refl
no_abandon (Run at n) h = refl
no_abandon (Release n job) h = refl
no_abandon (Preempt at r n) h = refl
no_abandon (Complete at n) h = refl
no_abandon (End value) h = refl

-- ---- the job

module _ (processors : ℕ) (J : Instance) (valid : IsValid J) (some : 1 ≤ processors) (n : ℕ) (j : JobFacts)
    (there : IsMember (n, j) (numbered J)) (light : Each (λ i. IsHeavy J.rules.ratio i.value j.value → ⊥) J.jobs)
    (heavy : IsHeavy J.rules.ratio (processors * j.value) (worth_beside J n (j.deadline - j.work))) where
  -- the job isn't gone, and while it waits it had nothing
  abbrev Unlost : Placed → Type 0
  Unlost p = p.task.number ≡ n → (p.task.role ≡ Gone → ⊥) × (p.task.role ≡ Waiting → p.task.had ≡ 0)

  abbrev AllUnlost : State → Type 0
  AllUnlost s = Each Unlost s.jobs

  module _ (s : State) (keeps : Keeps processors J s) (unlost : AllUnlost s) where
    abbrev all : List Seen
    all = all_seen processors J.rules.version s

    the_job : (p : Placed) → IsMember p s.jobs → p.task.number ≡ n → p.task.job ≡ j
    the_job p member is =
        let t = job_there processors J valid some 0 (tasks_of s.jobs) (tasks_numbered processors J s keeps) (n, j)
        (subst (λ jobs. IsMember (n, j) (enumerate_from 0 jobs)) (sym keeps.jobs) there) in
        let u = of_tasks s.jobs t.0 t.1 in
        let same : p ≡ u.0 = same_job processors J valid s keeps p u.0 member u.1
        (is ∙ sym t.2 ∙ sym (ap (λ (x : Task). x.number) u.2)) in
        ap (λ (x : Placed). x.task.job) same ∙ ap (λ (x : Task). x.job) u.2 ∙ t.3

    -- a job of the state is one of the instance
    listed : (p : Placed) → IsMember p s.jobs → IsMember p.task.job J.jobs
    listed p member = subst (IsMember p.task.job) keeps.jobs
        (map_member (λ (t : Task). t.job) (tasks_of s.jobs) p.task (map_member (λ
        (u : Placed). u.task) s.jobs p member))

    -- ---- moves

    calm_unlost : (q : ℕ) (e : Event) → underload.takes_or_abandons (single.Prints e) ≡ false
        → AllUnlost (after s (Prints q e))
    calm_unlost q e calm = on_map (placed_after q e) Unlost s.jobs (λ p member is.
        let it = event_task q e p in
        let before = unlost p member (sym (ap (λ (t : Task). t.number) it.1) ∙ is) in (
          λ gone. before.0 (role_stays e p.task (placed_after q e p).task Gone it (gives_gone e p.task
              (no_abandon e calm))
              gone),
          λ waits. ap (λ (t : Task). t.had) it.1
              ∙ before.1 (role_stays e p.task (placed_after q e p).task Waiting it (gives_waiting e p.task calm) waits),
        ))

    take_unlost : (i at r x : ℕ) → Each (λ p. is_own_of i p ≡ true → p.task.number ≡ n → ⊥) s.jobs
        → AllUnlost (after s (Prints i (Take at r x)))
    take_unlost i at r x others = on_map (placed_after i (Take at r x)) Unlost s.jobs
        (λ p member. by_test p member (eqb p.task.number x) (is_own_of i p) refl) where
          by_test : (p : Placed) → IsMember p s.jobs → (b c : Bool) → is_own_of i p ≡ c
              → Unlost (cond b (placed_on i p) (cond c (in_role p Waiting) p))
          by_test p member true c own is = (
            λ gone. absurd (let f : Running ≡ Gone = gone in cc),
            λ waits. absurd (let f : Running ≡ Waiting = waits in cc),
          )
          by_test p member false true own is = absurd (others p member own is)
          by_test p member false false own is = unlost p member is

    wait_unlost : (f : Placed) → IsMember f s.jobs → f.task.role ≡ Fresh → AllUnlost (after s (Waits f.task.number))
    wait_unlost f f_member fresh = on_map (λ p. cond (eqb p.task.number f.task.number)
        (in_role p Waiting) p) Unlost s.jobs
        (λ p member. by_test p member (eqb p.task.number f.task.number) refl) where
          by_test : (p : Placed) → IsMember p s.jobs → (b : Bool) → eqb p.task.number f.task.number ≡ b
              → Unlost (cond b (in_role p Waiting) p)
          by_test p member true e is =
              let same : p ≡ f = same_job processors J valid s keeps p f member f_member (eqb-true _ _ e) in
              let role : p.task.role ≡ Fresh = ap (λ (u : Placed). u.task.role) same ∙ fresh in (
                λ gone. absurd (let f : Waiting ≡ Gone = gone in cc),
                λ waits. (fits_in processors J s keeps Fresh p member role).0,
              )
          by_test p member false e is = unlost p member is

    tick_unlost : AllUnlost (after s Ticks)
    tick_unlost = on_map ticked Unlost s.jobs (λ p member. by_test p member (is_running p.task) refl) where
      by_test : (p : Placed) → IsMember p s.jobs → (b : Bool) → is_running p.task ≡ b → Unlost (ticked p)
      by_test p member b e is =
          let it = tick_plain p in
          let before = unlost p member (sym it.0 ∙ is) in (
            λ gone. before.0 (sym it.2 ∙ gone),
            λ waits. omega (
              arith,
              it.4,
              before.1 (sym it.2 ∙ waits),
              ap one (passes is_running p.task Waiting false (sym it.2 ∙ waits) refl),
            ),
          )

    -- no job takes the processor of this one
    not_taken : (i : ℕ) (x : Placed) → IsMember x s.jobs → IsHeavy J.rules.ratio x.task.job.value
        (own_sum i value_of s.jobs)
        → Each (λ p. is_own_of i p ≡ true → p.task.number ≡ n → ⊥) s.jobs
    not_taken i x x_member takes p member own is = light x.task.job (listed x x_member)
        (heavy_mono J.rules.ratio x.task.job.value j.value (own_sum i value_of s.jobs) (omega (
          arith,
          term_le_sum (λ p. cond (is_own_of i p) (value_of p) 0) s.jobs p member,
          ap (λ b. cond b (value_of p) 0) own,
          ap (λ (i : JobFacts). i.value) (the_job p member is),
        )) takes)

    deed_unlost : (i : ℕ) (m : single.Move) → Deed J.rules.ratio (seen_from i s) (single.Prints (End 0)) m
        → cases.is_gone m ≡ false → AllUnlost (after s (on i m))
    deed_unlost i m (Completed r member runs) kind = calm_unlost i (Complete s.clock r.number) refl
    deed_unlost i m (Resumed p member held idle least why) kind = calm_unlost i (Run s.clock p.number) refl
    deed_unlost i m (Started o member waits idle first fits next) kind = calm_unlost i (Run s.clock o.number) refl
    deed_unlost i m (Began f member fresh idle free) kind = calm_unlost i (Run s.clock f.number) refl
    deed_unlost i m (Preempted r f member runs more f_member fresh before fits) kind =
        calm_unlost i (Preempt s.clock r.number f.number) refl
    deed_unlost i m (Stayed r f member runs more f_member fresh why) kind =
        let x = seen_member i s.jobs f Fresh (λ e. cc) fresh f_member in
        subst (λ (u : Task). AllUnlost (after s (Waits u.number))) x.2
        (wait_unlost x.0 x.1 (ap (λ (u : Task). u.role) x.2 ∙ fresh))
    deed_unlost i m (Arrived c member comes now first stale busy free) kind = calm_unlost i
        (Release c.number c.job) refl
    deed_unlost i m (Taken r x member runs more x_member waits now stale takes) kind =
        let z = seen_member i s.jobs x Waiting (λ e. cc) waits x_member in
        take_unlost i s.clock r.number x.number (not_taken i z.0 z.1
        (subst (λ (u : Task). IsHeavy J.rules.ratio u.job.value (own_sum i value_of s.jobs)) (sym z.2)
        (subst (IsHeavy J.rules.ratio x.job.value) (seen_value s i) takes)))
    deed_unlost i m (Abandoned r x member runs more x_member waits now stale weak) kind = never (sym kind)
    deed_unlost i m (Rested quiet) kind = calm_unlost i (End 0) refl

    -- ---- it isn't abandoned

    module _ (x : Placed) (x_member : IsMember x s.jobs) (waits : x.task.role ≡ Waiting) (is : x.task.number ≡ n)
        (now : s.clock + left x.task ≡ x.task.job.deadline) (going : Each (λ o. completion o ≡ None) all) where
      -- what runs or is held has this tick in its window, and is another job
      on_beside : (p : Placed) → IsMember p s.jobs
          → sum_by (λ q. cond (is_own_of q p) (value_of p) 0) (numbers_from 0 processors)
          ≤ crossing_beside n s.clock (number_and_job p)
      on_beside p member = by_on (is_privileged p.task) refl where
        other : is_privileged p.task ≡ true → (b : Bool) → eqb p.task.number n ≡ b → eqb p.task.number n ≡ false
        other is_on false e = e
        other is_on true e = never (sym (passes is_privileged x.task Waiting false waits refl)
            ∙ sym (ap (λ (u : Placed). is_privileged u.task)
            (same_job processors J valid s keeps p x member x_member (eqb-true _ _ e ∙ sym is))) ∙ is_on)

        crossing : is_privileged p.task ≡ true → crosses s.clock p.task.job ≡ true
        crossing is_on = both_true (nat_le p.task.job.release s.clock) (nat_lt s.clock p.task.job.deadline)
            (le-leb _ _ (job_released s keeps.sound p member (λ e. never
            (sym (passes is_privileged p.task Coming false e refl) ∙ is_on))))
            (lt-ltb _ _ (omega (
              arith,
              on_slack processors J s keeps p member is_on,
              all_left processors s J.rules.version keeps.sound keeps.placed going p member is_on,
            ))) where
              both_true : (a b : Bool) → a ≡ true → b ≡ true → (a && b) ≡ true
              both_true true true e f = refl
              both_true true false e f = never f
              both_true false b e f = never e

        counts : (b c : Bool) → b ≡ false → c ≡ true → cond (not b && c) (value_of p) 0 ≡ value_of p
        counts false true e f = refl
        counts false false e f = never f
        counts true c e f = never (sym e)

        by_on : (b : Bool) → is_privileged p.task ≡ b
            → sum_by (λ q. cond (b && p.owner == q) (value_of p) 0) (numbers_from 0 processors)
            ≤ crossing_beside n s.clock (number_and_job p)
        by_on false e = omega (arith, sum_zero (λ (q : ℕ). 0) (numbers_from 0 processors) (λ q m. refl))
        by_on true e =
            let most : value_of p * sum_by (λ q. one (eqb p.owner q)) (numbers_from 0 processors) ≤ value_of p * 1 =
            mul-le-mul_left (value_of p) (one_number p.owner 0 processors) in
            omega (
              arith,
              cond_times (value_of p) (λ q. eqb p.owner q) (numbers_from 0 processors),
              most,
              counts (eqb p.task.number n) (crosses s.clock p.task.job) (other e (eqb p.task.number n) refl)
                  (crossing e),
            )

      -- all of it together
      on_worth : sum_by (λ q. own_sum q value_of s.jobs) (numbers_from 0 processors) ≤ worth_beside J n s.clock
      on_worth = omega (
        arith,
        sum_swap (λ (q : ℕ) p. cond (is_own_of q p) (value_of p) 0) (numbers_from 0 processors) s.jobs,
        sum_le (λ p. sum_by (λ q. cond (is_own_of q p) (value_of p) 0) (numbers_from 0 processors))
            (λ p. crossing_beside n s.clock (number_and_job p)) s.jobs on_beside,
        ap (λ jobs. sum_by (crossing_beside n s.clock) (enumerate_from 0 jobs)) (sym keeps.jobs)
            ∙ sum_tasks (crossing_beside n s.clock) 0 (tasks_of s.jobs) (tasks_numbered processors J s keeps)
            ∙ sum_map (λ (p : Placed). p.task) (λ t. crossing_beside n s.clock (t.number, t.job)) s.jobs,
      )

      not_gone : ((q : ℕ) → q < processors → IsHeavy J.rules.ratio x.task.job.value (own_sum q value_of s.jobs) → ⊥) → ⊥
      not_gone weak =
          let limits = ratio_limits (valid_parts valid).ratio in
          let is_j : x.task.job ≡ j = the_job x x_member is in
          let little = excess_sum J.rules.ratio limits.least limits.above_one
          (λ q. j.value - own_sum q value_of s.jobs) (λ q. own_sum q value_of s.jobs) (numbers_from 0 processors)
          (λ q m. not_heavy J.rules.ratio j.value (own_sum q value_of s.jobs)
          (subst (λ (i : JobFacts). IsHeavy J.rules.ratio i.value (own_sum q value_of s.jobs) → ⊥) is_j
          (weak q (numbers_low q m)))) in
          not_over J.rules.ratio (processors * j.value) (sum_by (λ q. own_sum q value_of s.jobs)
          (numbers_from 0 processors))
          (sum_by (λ q. j.value - own_sum q value_of s.jobs) (numbers_from 0 processors)) enough_low little
          (heavy_mono J.rules.ratio (processors * j.value)
          (sum_by (λ q. own_sum q value_of s.jobs) (numbers_from 0 processors)) (worth_beside J n s.clock) on_worth
          (subst (λ t. IsHeavy J.rules.ratio (processors * j.value) (worth_beside J n t)) here heavy)) where
            numbers_low : (q : ℕ) → IsMember q (numbers_from 0 processors) → q < processors
            numbers_low q m = omega (arith, (numbers_below q 0 processors m).1)

            enough_low : processors * j.value ≤ sum_by (λ q. j.value - own_sum q value_of s.jobs)
                (numbers_from 0 processors)
                + sum_by (λ q. own_sum q value_of s.jobs) (numbers_from 0 processors)
            enough_low = omega (
              arith,
              all_of j.value 0 processors,
              sum_plus (λ q. j.value - own_sum q value_of s.jobs) (λ q. own_sum q value_of s.jobs)
                  (numbers_from 0 processors),
              sum_le (λ (q : ℕ). j.value) (λ q. (j.value - own_sum q value_of s.jobs) + own_sum q value_of s.jobs)
                  (numbers_from 0 processors) (λ q m. omega arith),
            )

            here : j.deadline - j.work ≡ s.clock
            here = omega (
              arith,
              now,
              (unlost x x_member is).1 waits,
              ap (λ (i : JobFacts). i.deadline) (the_job x x_member is),
              ap (λ (i : JobFacts). i.work) (the_job x x_member is),
              (fits_in processors J s keeps Waiting x x_member waits).0,
            )

    -- ---- every step

    gone_unlost : (q : Seen) → IsMember q all → (m : Move) → (it : cases.Goes J.rules.ratio q m)
        → Each (λ o. completion o ≡ None) all
        → Each (λ o. (is_free o ≡ false) × (IsHeavy J.rules.ratio it.job.job.value o.view.privileged_value → ⊥)) all
        → AllUnlost (after s m)
    gone_unlost q member m it going weak = subst (λ (y : Move). AllUnlost (after s y)) (sym it.is)
        (on_map (placed_after q.processor (Abandon q.view.clock it.job.number)) Unlost s.jobs
        (λ p p_member. by_test p p_member (eqb p.task.number it.job.number) refl)) where
          is_seen : (q ≡ seen J.rules.version s q.processor) × (q.processor < processors)
          is_seen = which processors J valid some J.rules s keeps q member

          late : IsMember it.job (filter is_waiting (tasks_of s.jobs)) × (is_at_latest_start (whole s) it.job ≡ true)
          late = member_filter (is_at_latest_start (whole s)) (filter is_waiting (tasks_of s.jobs)) it.job
              (first_member (starts_before J.rules.version)
              (filter (is_at_latest_start (whole s)) (filter is_waiting (tasks_of s.jobs))) it.job
              (sym (seen_sees J.rules.version s q.processor).must_start
              ∙ sym (ap (λ (o : Seen). o.view.must_start) is_seen.0) ∙ it.late))

          waiting : IsMember it.job (tasks_of s.jobs) × (is_waiting it.job ≡ true)
          waiting = member_filter is_waiting (tasks_of s.jobs) it.job late.0

          x : (u : Placed) × IsMember u s.jobs × (u.task ≡ it.job)
          x = of_tasks s.jobs it.job waiting.0

          is_w : x.0.task.role ≡ Waiting
          is_w = ap (λ (t : Task). t.role) x.2 ∙ is_waiting_role it.job waiting.1

          now : s.clock + left x.0.task ≡ x.0.task.job.deadline
          now = let start : latest_start x.0.task ≡ s.clock = ap latest_start x.2 ∙ eqb-true _ _ late.1 in
              omega (arith, start, (fits_in processors J s keeps Waiting x.0 x.1 is_w).2)

          stays : it.job.number ≡ n → ⊥
          stays is = not_gone x.0 x.1 is_w (ap (λ (t : Task). t.number) x.2 ∙ is) now going (λ i low above.
              (weak (seen J.rules.version s i) (map_member (seen J.rules.version s) (numbers_from 0 processors) i
              (below_numbers i 0 processors (omega arith) (omega (arith, low))))).1
              (subst (IsHeavy J.rules.ratio it.job.job.value) (sym (seen_value s i))
              (subst (λ (t : Task). IsHeavy J.rules.ratio t.job.value (own_sum i value_of s.jobs)) x.2 above)))

          by_test : (p : Placed) → IsMember p s.jobs → (b : Bool) → eqb p.task.number it.job.number ≡ b
              → Unlost (cond b (in_role p Gone) p)
          by_test p p_member true e is = absurd (stays (sym (eqb-true _ _ e) ∙ is))
          by_test p p_member false e is = unlost p p_member is

    by_case : (m : Move) → StepCase true J.rules s all m → AllUnlost (after s m)
    by_case m (cases.Completed q member t runs finished) = calm_unlost q.processor (Complete q.view.clock t.number) refl
    by_case m (cases.Acted q member _ acts going decided) =
        let i = which processors J valid some J.rules s keeps q member in
        let own = subst (λ r. cases.Acts J.rules.ratio r false m) i.0 acts in
        subst (λ (x : Move). AllUnlost (after s x)) (sym own.is)
        (deed_unlost q.processor own.move (deed_of J.rules.ratio J.rules.version (seen_from q.processor s)
        (single.Prints (End 0)) (keeps.sound q.processor) (real processors J valid s keeps q.processor) own.move
        own.case)
        own.kind)
    by_case m (cases.Abandoned q member _ acts it going weak) = gone_unlost q member m it going weak
    by_case m (cases.Ended may over) = calm_unlost 0 (End (value_sum (filter is_done (tasks_of s.jobs)))) refl
    by_case m (cases.Rested quiet unended) = tick_unlost

    step_unlost : AllUnlost (after s (step processors J.rules s))
    step_unlost = by_case (step processors J.rules s) (step_case J.rules s all (each_sees processors J.rules.version s))

  -- ---- the run

  at_end : Outcome processors J (λ past s. AllUnlost s) [] (run processors J)
  at_end = outcome processors some J valid (λ past s. AllUnlost s) (λ past s keeps unlost. step_unlost s keeps unlost)
      (enough J.jobs) (opening J.jobs) [] (opening_kept processors J)
      (on_map unplaced Unlost (to_come 0 J.jobs) (λ t member is. (
        λ gone. absurd (let f : Coming ≡ Gone = sym (come_coming 0 J.jobs t member).0 ∙ gone in cc),
        λ waits. absurd (let f : Coming ≡ Waiting = sym (come_coming 0 J.jobs t member).0 ∙ waits in cc),
      )))
      (run_ends processors J valid some)

  -- the run completes it
  pub heavy_completed : IsCompleted processors J n
  heavy_completed = subst (λ (s : State). Each (λ p. p.task.number ≡ n → p.task.role ≡ Done) s.jobs)
      (sym (at_end.is_last (opening J.jobs)))
      (λ p member is. by_role p member is (is_over_role p.task (all_each is_over
      (tasks_of at_end.last.jobs) at_end.over p.task
      (map_member (λ (u : Placed). u.task) at_end.last.jobs p member)))) where
        by_role : (p : Placed) → IsMember p at_end.last.jobs → p.task.number ≡ n
            → (p.task.role ≡ Done) ⊎ (p.task.role ≡ Gone) → p.task.role ≡ Done
        by_role p member is (inl done) = done
        by_role p member is (inr gone) = absurd ((at_end.holds p member is).0 gone)
