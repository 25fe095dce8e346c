use Rattle.std.proofs.Common.{◌≤◌, ◌<◌, ◌+◌, ◌-◌, ◌*◌, ◌^◌, ℕ, List, length, get_or, arith}
use Rattle.std.proofs.lemmas.Nat.{mul-le}
use Rattle.task_words.specs.tasks.Merging.{blank_task}
use Rattle.task_words.specs.declared.tasks.task.PeriodicTask.{PeriodicTask}
use Rattle.task_words.specs.sure.Kept.{AreSmall}
use Rattle.task_words.specs.sure.Streams.{streams_of}
use Rattle.task_words.proofs.sure.Small.{small_there}
use Rattle.task_words.proofs.budget.paying.with_budget.Goals as goal

-- the product of two numbers of 64 bits leaves room for a third
room : (a b c : ℕ) → a < 2 ^ 64 → b < 2 ^ 64 → c < 2 ^ 64 → a + b * c < 2 ^ 128
room a b c small_a small_b small_c =
    let product : b * c ≤ (2 ^ 64 - 1) * (2 ^ 64 - 1) =
    mul-le b c (2 ^ 64 - 1) (2 ^ 64 - 1) (omega (arith, small_b)) (omega (arith, small_c)) in
    omega (arith, small_a, product)

-- its work is small
small_work : (tasks : List PeriodicTask) → AreSmall (streams_of tasks) → (i : ℕ) → i < length tasks
    → (get_or tasks i blank_task).work < 2 ^ 64
small_work tasks small i less =
    let within : (get_or tasks i blank_task).work ≤ (get_or tasks i blank_task).deadline =
    (small_there tasks small i less).within in
    let span : (get_or tasks i blank_task).deadline ≤ 1_000_000_000_000 = (small_there tasks small i less).span in
    omega (arith, within, span)

pub overflow_add-budget : goal.overflow_add-budget
overflow_add-budget c =
    let work : c.from.result < 2 ^ 64 =
    omega (arith, c.from.ensures, small_work c.args.tasks.now c.requires.small c.args.number c.requires.number) in
    let cost : c.from-2.result < 2 ^ 64 = omega (arith, c.from-2.ensures, c.ranges.cost.fits) in
    let gets : c.from-3.result < 2 ^ 64 = omega (arith, c.from-3.ensures, c.most_gets-gets.type_inv) in
    omega (arith, room c.from.result c.from-2.result c.from-3.result work cost gets)

pub overflow_cast-result : goal.overflow_cast-result
overflow_cast-result c =
    let span : (get_or c.args.tasks.now c.args.number blank_task).deadline ≤ 1_000_000_000_000 =
    (small_there c.args.tasks.now c.requires.small c.args.number c.requires.number).span in
    omega (arith, c.if-budget-from.false, c.from-4.ensures, span)
