-- What one task adds to the sums is small.
use Rattle.std.proofs.Common.{◌≡◌, ℕ, ◌+◌, ◌-◌, ◌*◌, ◌≤◌, ◌<◌, ◌^◌, ap, ◌∙◌, arith}
use Rattle.std.proofs.lemmas.Grind.{div_ceil_times}
use Rattle.std.proofs.lemmas.Nat.{mul-le}
use Rattle.std.proofs.Math.Nat.{mul-le-mul_left}
use Rattle.task_words.specs.declared.tasks.task.PeriodicTask.{PeriodicTask}
use Rattle.demand_words.specs.Demanded.{facts, share}

-- equal factors, equal product
pub product : (a b x y : ℕ) → a ≡ x → b ≡ y → a * b ≡ x * y
product a b x y e f = ap (λ n. n * b) e ∙ ap (λ n. x * n) f

-- what a task asks for beyond its share
pub few_beyond : (scale : ℕ) (task : PeriodicTask) → scale ≤ 2 ^ 64 → 1 ≤ task.period → task.work ≤ 1_000_000_000_000
    → task.period < 2 ^ 64 → share scale (facts task) * (task.period - task.deadline) ≤ 2 ^ 105
few_beyond scale task small some work period =
    let bounds : (scale * task.work ≤ share scale (facts task) * task.period)
    × (share scale (facts task) * task.period < scale * task.work + task.period) =
    div_ceil_times (scale * task.work) task.period (omega (arith, some)) in
    let high = bounds.1 in
    let less : share scale (facts task) * (task.period - task.deadline) ≤ share scale (facts task) * task.period =
    mul-le-mul_left (share scale (facts task)) (omega arith) in
    let most : scale * task.work ≤ 2 ^ 64 * 1_000_000_000_000 =
    mul-le scale task.work (2 ^ 64) 1_000_000_000_000 small work in
    omega (arith, high, less, most, period)

-- what a task can ask for in a window
pub few_asked : (work jobs : ℕ) → work ≤ 1_000_000_000_000 → jobs ≤ 2 ^ 64 → work * jobs ≤ 2 ^ 104
few_asked work jobs few less =
    let most : work * jobs ≤ 1_000_000_000_000 * 2 ^ 64 = mul-le work jobs 1_000_000_000_000 (2 ^ 64) few less in
    omega (arith, most)
