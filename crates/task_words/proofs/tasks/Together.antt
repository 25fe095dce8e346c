-- Tasks that may stand together, with one more.
use Rattle.std.proofs.Common.{◌≡◌, ◌≤◌, ◌<◌, ℕ, List, [], ◌∷◌, ◌++◌, length, length-append, map, None, arith}
use Rattle.std.specs.List.{AllByRecursion}
use Rattle.std.proofs.Math.Nat.{mul-le-mul_right}
use Rattle.std.proofs.lemmas.List.{length-map}
use Rattle.dover_model.specs.Common.{Fraction, JobFacts, refusal_of}
use Rattle.dover_model.proofs.valid.Admitting.{Admitted, not_refused}
use Rattle.dover_model.proofs.sessions.Growing.{all_behind}
use Rattle.dover_model.proofs.valid.Valid.{all_from}
use Rattle.dover_model.proofs.lists.Members.{all_both}
use Rattle.task_words.specs.tasks.Tasks.{tested_job}
use Rattle.task_words.specs.tasks.Limits.{IsTask, AreWithin, AreTasks, task_rules}
use Rattle.task_words.specs.declared.tasks.task.PeriodicTask.{PeriodicTask}
use Rattle.dover_model.proofs.valid.ValidParts.{IsWithinRatio, is_within_ratio-agrees}

-- what holds of each tested job holds of each task
unmapped : (P : JobFacts → Type 0) (until : ℕ) (tasks : List PeriodicTask)
    → AllByRecursion P (map (tested_job until) tasks)
    → AllByRecursion (λ task. P (tested_job until task)) tasks
unmapped P until [] all = tt
unmapped P until (task ∷ tasks) all = (all.0, unmapped P until tasks all.1)

-- a task whose tested job is admitted
pub tasks_more : (until : ℕ) (k : Fraction) (tasks : List PeriodicTask) (task : PeriodicTask) → k.q ≤ k.p
    → AreTasks until k tasks
    → 1 ≤ task.period → refusal_of (task_rules k) (map (tested_job until) tasks) (tested_job until task) ≡ None
    → AreTasks until k (tasks ++ task ∷ [])
tasks_more until k tasks task above are period none =
    let it : Admitted (task_rules k) (map (tested_job until) tasks) (tested_job until task) =
    not_refused (task_rules k) (map (tested_job until) tasks) (tested_job until task) none in
    let fewer : length (map (tested_job until) tasks) < 1_000_000 = it.count in
    let Both : PeriodicTask → Type 0 = λ a. AreWithin until k a task × AreWithin until k task a in
    let both : AllByRecursion Both tasks =
    all_from _ Both tasks (λ a within. (
      (is_within_ratio-agrees k (tested_job until a) (tested_job until task)).1 within.0,
      (is_within_ratio-agrees k (tested_job until task) (tested_job until a)).1 within.1,
    )) (unmapped (λ i. IsWithinRatio k i (tested_job until task) × IsWithinRatio k (tested_job until task) i) until
    tasks it.densities) in
    let itself : AreWithin until k task task = (is_within_ratio-agrees k (tested_job until task)
    (tested_job until task)).1
    (mul-le-mul_right task.work (mul-le-mul_right task.value above)) in
    record {
      each = all_behind (IsTask until) tasks task are.each (record { period = period; job = it.job; due = it.due });
      few = omega (arith, fewer, length-map tasks (tested_job until), length-append tasks (task ∷ []));
      densities = all_behind (λ a. AllByRecursion (AreWithin until k a) (tasks ++ task ∷ [])) tasks task
          (all_both (λ a. AllByRecursion (AreWithin until k a) tasks) Both
          (λ a. AllByRecursion (AreWithin until k a) (tasks ++ task ∷ [])) tasks
          (λ a row with_task. all_behind (AreWithin until k a) tasks task row with_task.0) are.densities both)
          (all_behind _ _ _ (all_from Both (AreWithin until k task) tasks (λ a with_task. with_task.1) both) itself);
    }
