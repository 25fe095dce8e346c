-- Shares of the processor, and what they tell of all windows.
use Rattle.std.proofs.Common.{◌≡◌, ℕ, suc, zero, ◌+◌, ◌-◌, ◌*◌, ◌/◌, ◌≤◌, ◌<◌, inl, inr, List, [], ◌∷◌, length}
use Rattle.std.proofs.Common.{refl, sym, ap, subst, Bool, true, false, cond, arith, nat_le, sum_by}
use Rattle.std.proofs.Common.{leb-true, leb-false}
use Rattle.std.proofs.lemmas.Grind.{div_ceil_times}
use Rattle.std.proofs.lemmas.List.Sums.{sum_by-cons}
use Rattle.std.proofs.Math.Nat.{mul-le-mul_left, le_of_mul-le-mul_left, mul-div-le, mul-le-mul_right}
use Rattle.dover_model.specs.Common.{Each}
use Rattle.task_laws.specs.Demand.{TaskFacts, jobs_within, demand, AreMet}
use Rattle.task_laws.proofs.demand.Demanding.{horizon_tells}
use Rattle.task_words.specs.budget.Budgets.{task_at}
use Rattle.task_words.specs.declared.tasks.task.PeriodicTask.{PeriodicTask}
use Rattle.demand_words.specs.Demanded.{facts, all_facts, share, AreOver, AreLimited, IsHorizon}

-- what holds of the task at each place holds of each
pub each_fact : (P : TaskFacts → Type 0) (tasks : List PeriodicTask)
    → ((y : ℕ) → y < length tasks → P (facts (task_at tasks y))) → Each P (all_facts tasks)
each_fact P [] all t member = absurd member
each_fact P (task ∷ tasks) all t (inl e) = subst P (sym e) (all zero (omega arith))
each_fact P (task ∷ tasks) all t (inr member) = each_fact P tasks (λ y less. all (suc y) (omega (arith, less))) t member

-- each has a period
pub apart_all : (tasks : List PeriodicTask) → AreLimited tasks → Each (λ t. 1 ≤ t.distance) (all_facts tasks)
apart_all tasks are = each_fact (λ t. 1 ≤ t.distance) tasks are.period

-- rounded up, a share is enough
enough : (scale : ℕ) (t : TaskFacts) → 1 ≤ t.distance → scale * t.work ≤ share scale t * t.distance
enough scale t some = (div_ceil_times (scale * t.work) t.distance (omega (arith, some))).0

enough_all : (scale : ℕ) (ts : List TaskFacts) → Each (λ t. 1 ≤ t.distance) ts
    → Each (λ t. scale * t.work ≤ share scale t * t.distance) ts
enough_all scale ts some t member = enough scale t (some t member)

-- a horizon tells of all windows
pub tells : (tasks : List PeriodicTask) (scale horizon : ℕ) → AreLimited tasks → 1 ≤ scale
    → IsHorizon (all_facts tasks) scale horizon
    → ((ticks : ℕ) → ticks < horizon → demand (all_facts tasks) ticks ≤ ticks) → AreMet (all_facts tasks)
tells tasks scale horizon are some far below = horizon_tells (all_facts tasks) scale horizon (share scale) (record {
  some = some;
  apart = apart_all tasks are;
  enough = enough_all scale (all_facts tasks) (apart_all tasks are);
  all = far.all;
}) far.far below

-- ---- more than one tick of work a tick

-- rounded down, a share of a window's ticks is in its demand, but for what the deadline takes
least_one : (scale low ticks : ℕ) (t : TaskFacts) → 1 ≤ t.distance → low * t.distance ≤ scale * t.work
    → low * ticks ≤ scale * (t.work * jobs_within t ticks) + low * t.due
least_one scale low ticks t some few = by_due (nat_le t.due ticks) refl where
  by_due : (c : Bool) → nat_le t.due ticks ≡ c
      → low * ticks ≤ scale * (t.work * cond c ((ticks - t.due) / t.distance + 1) 0) + low * t.due
  by_due false e =
      let late : ticks < t.due = leb-false _ _ e in
      let less : low * ticks ≤ low * t.due = mul-le-mul_left low (omega (arith, late)) in omega (arith, less)
  by_due true e =
      let due : t.due ≤ ticks = leb-true _ _ e in
      let span : ticks ≤ t.distance * ((ticks - t.due) / t.distance + 1) + t.due = omega (arith, due, some) in
      let low_span : low * ticks ≤ low * (t.distance * ((ticks - t.due) / t.distance + 1) + t.due) =
      mul-le-mul_left low span in
      let times : low * t.distance * ((ticks - t.due) / t.distance + 1)
      ≤ scale * t.work * ((ticks - t.due) / t.distance + 1) =
      mul-le-mul_right ((ticks - t.due) / t.distance + 1) few in
      omega (arith, low_span, times)

least_all : (scale ticks : ℕ) (ts : List TaskFacts) → Each (λ t. 1 ≤ t.distance) ts
    → sum_by (λ t. scale * t.work / t.distance) ts * ticks
    ≤ scale * demand ts ticks + sum_by (λ t. scale * t.work / t.distance * t.due) ts
least_all scale ticks [] some = omega arith
least_all scale ticks (t ∷ ts) some =
    let down : scale * t.work / t.distance * t.distance ≤ scale * t.work =
    (let it = mul-div-le (scale * t.work) t.distance in omega (arith, it)) in
    omega (
      arith,
      least_one scale (scale * t.work / t.distance) ticks t (some t (inl refl)) down,
      least_all scale ticks ts (λ u member. some u (inr member)),
      ap (λ n. scale * n) (sum_by-cons (λ (u : TaskFacts). u.work * jobs_within u ticks) t ts),
      ap (λ n. n * ticks) (sum_by-cons (λ (u : TaskFacts). scale * u.work / u.distance) t ts),
      sum_by-cons (λ (u : TaskFacts). scale * u.work / u.distance * u.due) t ts,
    )

-- so where these shares are more than the scale, windows lack any number of ticks
pub over : (scale : ℕ) (ts : List TaskFacts) → 1 ≤ scale → Each (λ t. 1 ≤ t.distance) ts
    → scale < sum_by (λ t. scale * t.work / t.distance) ts → AreOver ts
over scale ts some each more lacking = (ticks, le_of_mul-le-mul_left times some) where
  late : ℕ
  late = sum_by (λ t. scale * t.work / t.distance * t.due) ts

  ticks : ℕ
  ticks = scale * (lacking + 1) + late

  times : scale * suc (ticks + lacking) ≤ scale * demand ts ticks
  times =
      let high : suc scale * ticks ≤ sum_by (λ t. scale * t.work / t.distance) ts * ticks =
      mul-le-mul_right ticks more in
      let all : sum_by (λ t. scale * t.work / t.distance) ts * ticks ≤ scale * demand ts ticks + late =
      least_all scale ticks ts each in
      omega (arith, high, all)

-- ---- the sums of the code

-- these sums give a horizon
pub is_horizon : (ts : List TaskFacts) (scale horizon most beyond : ℕ) → most ≡ sum_by (share scale) ts
    → beyond ≡ sum_by (λ t. share scale t * (t.distance - t.due)) ts → most ≤ scale
    → beyond ≤ (scale - most) * horizon → IsHorizon ts scale horizon
is_horizon ts scale horizon most beyond e f small far = record {
  all = omega (arith, e, small);
  far = subst (λ n. sum_by (λ t. share scale t * (t.distance - t.due)) ts ≤ (scale - n) * horizon) e
      (subst (λ n. n ≤ (scale - most) * horizon) f far);
}

-- and a horizon holds of them
pub of_horizon : (ts : List TaskFacts) (scale horizon most beyond : ℕ) → most ≡ sum_by (share scale) ts
    → beyond ≡ sum_by (λ t. share scale t * (t.distance - t.due)) ts → IsHorizon ts scale horizon
    → (most ≤ scale) × (beyond ≤ (scale - most) * horizon)
of_horizon ts scale horizon most beyond e f is = (
  omega (arith, e, is.all),
  subst (λ n. beyond ≤ (scale - n) * horizon) (sym e)
      (subst (λ n. n ≤ (scale - sum_by (share scale) ts) * horizon) (sym f) is.far),
)

-- where the shares, rounded down, are more than the scale
pub told_over : (tasks : List PeriodicTask) (scale least : ℕ) → AreLimited tasks → 1 ≤ scale
    → least ≡ sum_by (λ t. scale * t.work / t.distance) (all_facts tasks) → scale < least → AreOver (all_facts tasks)
told_over tasks scale least are some e more =
    over scale (all_facts tasks) some (apart_all tasks are) (omega (arith, e, more))
