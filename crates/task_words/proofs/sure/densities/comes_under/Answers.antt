use Rattle.std.proofs.Common.{◌≤◌, ◌<◌, ◌*◌, ℕ, length, get_or, arith}
use Rattle.std.proofs.lemmas.Nat.{mul-le}
use Rattle.task_words.specs.tasks.Merging.{blank_task}
use Rattle.task_words.proofs.sure.Small.{small_there}
use Rattle.task_words.proofs.sure.densities.comes_under.Goals as goal

-- two small numbers leave room
room : (value work : ℕ) → value ≤ 1_000_000_000 → work ≤ 1_000_000_000_000
    → value * work ≤ 1_000_000_000 * 1_000_000_000_000
room value work small_value small_work = mul-le value work 1_000_000_000 1_000_000_000_000 small_value small_work

pub overflow_mul-result-2 : goal.overflow_mul-result-2
overflow_mul-result-2 c =
    let there : c.args.best < length c.args.tasks.now = omega (arith, c.requires.best, c.if-best-tasks.false) in
    let value : (get_or c.args.tasks.now c.args.best blank_task).value ≤ 1_000_000_000 =
    (small_there c.args.tasks.now c.requires.small c.args.best there).value in
    let within : (get_or c.args.tasks.now c.args.number blank_task).work
    ≤ (get_or c.args.tasks.now c.args.number blank_task).deadline =
    (small_there c.args.tasks.now c.requires.small c.args.number c.requires.number).within in
    let span : (get_or c.args.tasks.now c.args.number blank_task).deadline ≤ 1_000_000_000_000 =
    (small_there c.args.tasks.now c.requires.small c.args.number c.requires.number).span in
    omega (
      arith,
      room c.from-3.result c.from-4.result (omega (arith, c.from-3.ensures, value))
          (omega (arith, c.from-4.ensures, within, span)),
    )
