-- How often a policy stops a job, tick by tick.
use Rattle.std.proofs.Common.{◌≡◌, ℕ, zero, suc, ◌+◌, ◌-◌, ◌≤◌, ◌<◌, ◌⊎◌, inl, inr, List, [], ◌∷◌, ◌++◌, length, take}
use Rattle.std.proofs.Common.{refl, sym, ap, ◌∙◌, Bool, true, false, cond, arith, eqb, sum_by, nat_le}
use Rattle.std.proofs.Common.{eq-eqb, ne_eqb, not, ◌&&◌, get_or}
use Rattle.std.specs.List.{count_by, enumerate_from}
use Rattle.std.proofs.lemmas.Bool.{cases_eq}
use Rattle.std.proofs.lemmas.List.{get_or_append_left, get_or_push, take-append-le, take_all}
use Rattle.dover_model.specs.Common.{JobFacts, left, IsMember, Each, idle, is_served}
use Rattle.dover_model.specs.declared.events.Task.{Task}
use Rattle.dover_model.proofs.lists.Members.{sum_zero, sum_same, term_le_sum}
use Rattle.dover_model.proofs.steps.Loads.{sum_change}
use Rattle.dover_model.proofs.runs.Honest.{sum_tasks}
use Rattle.policy_lab.specs.Picks.{Picks, IsPolicy}
use Rattle.policy_lab.specs.PolicyRun.{picked}
use Rattle.policy_lab.specs.Bench.{tasks_at, schedule_before, last_at}
use Rattle.policy_lab.specs.Counts.{is_stopped, stops_before, stops}
use Rattle.policy_lab.proofs.Runs.{numbered_at, jobs_at, schedule_length, gave}

-- what a schedule does before a tick isn't changed by later ticks
stopped_front : (s more : List ℕ) (t : ℕ) (n_j : ℕ × JobFacts) → t < length s
    → is_stopped (s ++ more) t n_j ≡ is_stopped s t n_j
stopped_front s more t n_j short =
    ap (λ a. eqb a n_j.0 && not (eqb (get_or (s ++ more) t idle) n_j.0) && not (is_served (take t (s ++ more)) n_j))
    (get_or_append_left s more idle (t - 1) (omega (arith, short)))
    ∙ ap (λ a. eqb (get_or s (t - 1) idle) n_j.0 && not (eqb a n_j.0) && not (is_served (take t (s ++ more)) n_j))
    (get_or_append_left s more idle t short)
    ∙ ap (λ front. eqb (get_or s (t - 1) idle) n_j.0 && not (eqb (get_or s t idle) n_j.0) && not (is_served front n_j))
    (take-append-le t s more (omega (arith, short)))

stops_front : (jobs : List JobFacts) (s more : List ℕ) (t : ℕ) → t ≤ length s
    → stops_before jobs (s ++ more) t ≡ stops_before jobs s t
stops_front jobs s more zero short = refl
stops_front jobs s more (suc t) short = omega (
  arith,
  stops_front jobs s more t (omega (arith, short)),
  sum_same (λ n_j. cond (is_stopped (s ++ more) t n_j) 1 0) (λ n_j. cond (is_stopped s t n_j) 1 0)
      (enumerate_from 0 jobs)
      (λ n_j _. ap (λ b. cond {A = ℕ} b 1 0) (stopped_front s more t n_j (omega (arith, short)))),
)

module _ (picks : Picks) (jobs : List JobFacts) where
  -- the number of the tick before
  abbrev before_at : ℕ → ℕ
  before_at t = last_at picks jobs t

  -- 1 for a job that is stopped at tick t
  abbrev pub stop_of : ℕ → Task → ℕ
  stop_of t u = cond (eqb (before_at t) u.number && not (eqb (picked picks t (tasks_at picks jobs t)) u.number)
      && not (eqb (left u) 0)) 1 0

  -- how many are
  abbrev pub stopped_at : ℕ → ℕ
  stopped_at t = sum_by (stop_of t) (tasks_at picks jobs t)

  -- the tick before
  last_is : (t : ℕ) → get_or (schedule_before picks jobs (suc t)) (t - 1) idle ≡ before_at t
  last_is zero = refl
  last_is (suc t) =
      get_or_append_left (schedule_before picks jobs (suc t)) (picked picks (suc t) (tasks_at picks jobs (suc t)) ∷ [])
      idle (suc t - 1) (omega (arith, schedule_length picks jobs (suc t)))
      ∙ get_or_push (schedule_before picks jobs t) (picked picks t (tasks_at picks jobs t)) idle (suc t - 1)
      (omega (arith, schedule_length picks jobs t))

  module _ (policy : IsPolicy picks) (count : length jobs ≤ 1_000_000) where
    -- a tick more
    pub stops_next : (t : ℕ)
        → stops jobs (schedule_before picks jobs (suc t)) ≡ stops jobs (schedule_before picks jobs t) + stopped_at t
    stops_next t =
        ap (stops_before jobs s) (schedule_length picks jobs (suc t))
        ∙ ap (λ n. n + count_by (is_stopped s t) (enumerate_from 0 jobs))
        (stops_front jobs past (now ∷ []) t (omega (arith, schedule_length picks jobs t))
        ∙ ap (stops_before jobs past) (sym (schedule_length picks jobs t)))
        ∙ ap (λ n. stops jobs past + n) by_tasks where
          past : List ℕ
          past = schedule_before picks jobs t

          s : List ℕ
          s = schedule_before picks jobs (suc t)

          now : ℕ
          now = picked picks t (tasks_at picks jobs t)

          tasks : List Task
          tasks = tasks_at picks jobs t

          done : (work had : ℕ) → nat_le work had ≡ eqb (work - had) 0
          done work had = grind arith

          one : (u : Task) → IsMember u tasks → cond (is_stopped s t (u.number, u.job)) 1 0 ≡ stop_of t u
          one u member =
              ap (λ a. cond {A = ℕ} (eqb a u.number && not (eqb (get_or s t idle) u.number)
              && not (is_served (take t s) (u.number, u.job))) 1 0) (last_is t)
              ∙ ap (λ a. cond {A = ℕ} (eqb (before_at t) u.number && not (eqb a u.number)
              && not (is_served (take t s) (u.number, u.job))) 1 0)
              (get_or_push past now idle t (schedule_length picks jobs t))
              ∙ ap (λ front. cond {A = ℕ} (eqb (before_at t) u.number && not (eqb now u.number)
              && not (is_served front (u.number, u.job))) 1 0)
              (take-append-le t past (now ∷ []) (omega (arith, schedule_length picks jobs t))
              ∙ take_all t past (omega (arith, schedule_length picks jobs t)))
              ∙ ap (λ b. cond {A = ℕ} (eqb (before_at t) u.number && not (eqb now u.number) && not b) 1 0)
              (ap (nat_le u.job.work) (gave picks jobs policy count t u member) ∙ done u.job.work u.had)

          by_tasks : count_by (is_stopped s t) (enumerate_from 0 jobs) ≡ stopped_at t
          by_tasks =
              ap (λ js. sum_by (λ n_j. cond (is_stopped s t n_j) 1 0) (enumerate_from 0 js))
              (sym (jobs_at picks jobs t))
              ∙ sum_tasks (λ n_j. cond (is_stopped s t n_j) 1 0) 0 tasks (numbered_at picks jobs t)
              ∙ sum_same (λ u. cond (is_stopped s t (u.number, u.job)) 1 0) (stop_of t) tasks one

  -- where the job of the tick before runs on, or has no work left, none is stopped
  pub stops_none : (t : ℕ) → Each (λ u. u.number ≡ before_at t → (picked picks t (tasks_at picks jobs t) ≡ u.number)
      ⊎ (left u ≡ 0)) (tasks_at picks jobs t) → stopped_at t ≡ 0
  stops_none t why = sum_zero (stop_of t) (tasks_at picks jobs t) (λ u member. by_last u (why u member)
      (cases_eq (before_at t) u.number)) where
        now : ℕ
        now = picked picks t (tasks_at picks jobs t)

        by_test : (a b c : Bool) → (a ≡ false) ⊎ ((b ≡ true) ⊎ (c ≡ true)) → cond {A = ℕ} (a && not b && not c) 1 0 ≡ 0
        by_test false b c why = refl
        by_test true true c why = refl
        by_test true false true why = refl
        by_test true false false (inl e) = absurd (let clash : true ≡ false = e in cc)
        by_test true false false (inr (inl e)) = absurd (let clash : false ≡ true = e in cc)
        by_test true false false (inr (inr e)) = absurd (let clash : false ≡ true = e in cc)

        by_last : (u : Task) → (u.number ≡ before_at t → (now ≡ u.number) ⊎ (left u ≡ 0))
            → (before_at t ≡ u.number) ⊎ (before_at t ≡ u.number → ⊥) → stop_of t u ≡ 0
        by_last u why (inr other) = by_test _ _ _ (inl (ne_eqb _ _ other))
        by_last u why (inl same) = by_why (why (sym same)) where
          by_why : (now ≡ u.number) ⊎ (left u ≡ 0) → stop_of t u ≡ 0
          by_why (inl runs) = by_test _ _ _ (inr (inl (eq-eqb _ _ runs)))
          by_why (inr over) = by_test _ _ _ (inr (inr (eq-eqb _ _ over)))

  -- where it doesn't, and has work left, one is
  pub stops_one : (t : ℕ) (r : Task) → IsMember r (tasks_at picks jobs t) → r.number ≡ before_at t
      → (picked picks t (tasks_at picks jobs t) ≡ r.number → ⊥) → 0 < left r → stopped_at t ≡ 1
  stops_one t r member last other some = omega (arith, at_most, at_least) where
    its : stop_of t r ≡ 1
    its =
        ap (λ b. cond {A = ℕ} (b && not (eqb (picked picks t (tasks_at picks jobs t)) r.number) && not (eqb (left r) 0))
        1 0) (eq-eqb _ _ (sym last))
        ∙ ap (λ b. cond {A = ℕ} (not b && not (eqb (left r) 0)) 1 0) (ne_eqb _ _ other)
        ∙ ap (λ b. cond {A = ℕ} (not b) 1 0) (ne_eqb (left r) 0 (λ over. omega (arith, over, some)))

    none : (u : Task) → (u.number ≡ r.number → ⊥) → stop_of t u ≡ 0
    none u apart = ap (λ b. cond {A = ℕ} (b && not (eqb (picked picks t (tasks_at picks jobs t)) u.number)
        && not (eqb (left u) 0)) 1 0) (ne_eqb (before_at t) u.number (λ same. apart (sym same ∙ sym last)))

    at_least : 1 ≤ stopped_at t
    at_least = omega (arith, its, term_le_sum (stop_of t) (tasks_at picks jobs t) r member)

    zeros : sum_by (λ (u : Task). 0) (tasks_at picks jobs t) ≡ 0
    zeros = sum_zero (λ (u : Task). 0) (tasks_at picks jobs t) (λ u _. refl)

    at_most : stopped_at t ≤ 1
    at_most = omega (
      arith,
      zeros,
      sum_change (stop_of t) (λ u. 0) 0 1 0 (tasks_at picks jobs t) r (numbered_at picks jobs t) member
          (omega (arith, its)) (λ u _ apart. omega (arith, none u apart)),
    )
