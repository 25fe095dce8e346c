-- Common multiples of the periods.
use Rattle.std.proofs.Common.{◌≡◌, ℕ, suc, zero, ◌+◌, ◌*◌, ◌/◌, ◌≤◌, ◌<◌, List, length, sym, ap, ◌∙◌}
use Rattle.std.proofs.Common.{subst, arith, sum_by}
use Rattle.std.specs.Int.{IsGcd, ◌∣◌}
use Rattle.std.proofs.lemmas.Nat.{le-div}
use Rattle.std.proofs.Math.Nat.{div-mul_cancel, dvd-mul_left, dvd-mul_right}
use Rattle.dover_model.specs.Common.{Each}
use Rattle.dover_model.proofs.lists.Members.{sum_le}
use Rattle.task_laws.specs.Demand.{demand, AreMet}
use Rattle.task_laws.proofs.demand.Demanding.{period_tells}
use Rattle.task_words.specs.budget.Budgets.{task_at}
use Rattle.task_words.specs.declared.tasks.task.PeriodicTask.{PeriodicTask}
use Rattle.demand_words.specs.Demanded.{all_facts, AreLimited}
use Rattle.demand_words.proofs.Sharing.{each_fact, apart_all}

-- a divisor of a number that isn't 0 isn't 0
pub some_divisor : (a g : ℕ) → 1 ≤ a → g ∣ a → 0 < g
some_divisor a zero some divides = absurd (let it : a / 0 * 0 ≡ a = div-mul_cancel 0 divides in omega (arith, it, some))
some_divisor a (suc g) some divides = omega arith

module _ (a b g : ℕ) (is : IsGcd a b g) where
  -- the first number divides their multiple
  pub first_divides : a ∣ a / g * b
  first_divides =
      let e : a / g * g ≡ a = div-mul_cancel g is.0 in
      let f : b / g * g ≡ b = div-mul_cancel g is.1 in
      let turned : a / g * g * (b / g) ≡ a / g * (b / g * g) = omega arith in
      subst (λ n. a ∣ n) (ap (λ n. n * (b / g)) (sym e) ∙ turned ∙ ap (λ n. a / g * n) f) (dvd-mul_right a (b / g))

  -- and so does the second
  pub second_divides : b ∣ a / g * b
  second_divides = dvd-mul_left b (a / g)

  -- it isn't 0
  pub some_multiple : 1 ≤ a → 1 ≤ b → 1 ≤ a / g * b
  some_multiple some some_too = by_quotient (a / g) (div-mul_cancel g is.0) where
    by_quotient : (n : ℕ) → n * g ≡ a → 1 ≤ n * b
    by_quotient zero e = absurd (omega (arith, e, some))
    by_quotient (suc n) e = omega (arith, some_too)

-- a common multiple of the distances, and windows up to it and the last deadline, tell of all
pub period_is : (tasks : List PeriodicTask) (period last : ℕ) → AreLimited tasks → 1 ≤ period
    → ((y : ℕ) → y < length tasks → (task_at tasks y).period ∣ period)
    → ((y : ℕ) → y < length tasks → (task_at tasks y).deadline ≤ last)
    → sum_by (λ t. period * t.work / t.distance) (all_facts tasks) ≤ period
    → ((ticks : ℕ) → ticks < last + period + 1 → demand (all_facts tasks) ticks ≤ ticks) → AreMet (all_facts tasks)
period_is tasks period last are some divide due few below =
    period_tells (all_facts tasks) period last (λ t. period / t.distance) some apart is_times
    (each_fact (λ t. t.due ≤ last) tasks due) all (λ ticks fits. below ticks (omega (arith, fits))) where
      apart : Each (λ t. 1 ≤ t.distance) (all_facts tasks)
      apart = apart_all tasks are

      is_times : Each (λ t. period ≡ period / t.distance * t.distance) (all_facts tasks)
      is_times = each_fact (λ t. period ≡ period / t.distance * t.distance) tasks
          (λ y less. sym (div-mul_cancel (task_at tasks y).period (divide y less)))

      one : Each (λ t. t.work * (period / t.distance) ≤ period * t.work / t.distance) (all_facts tasks)
      one t member =
          let e : period ≡ period / t.distance * t.distance = is_times t member in
          let fits : t.work * (period / t.distance) * t.distance ≤ period * t.work =
          (let it : t.work * period ≡ t.work * (period / t.distance * t.distance) = ap (λ n. t.work * n) e in
          omega (arith, it)) in
          let some_one : 1 ≤ t.distance = apart t member in
          le-div (t.work * (period / t.distance)) (period * t.work) t.distance (omega (arith, some_one)) fits

      all : sum_by (λ t. t.work * (period / t.distance)) (all_facts tasks) ≤ period
      all = let it : sum_by (λ t. t.work * (period / t.distance)) (all_facts tasks)
          ≤ sum_by (λ t. period * t.work / t.distance) (all_facts tasks) =
          sum_le (λ t. t.work * (period / t.distance)) (λ t. period * t.work / t.distance) (all_facts tasks) one in
          omega (arith, it, few)
