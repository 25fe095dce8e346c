-- Budgets that fit make tasks that may stand together.
use Rattle.std.proofs.Common.{◌≡◌, ℕ, suc, ◌+◌, ◌*◌, ◌≤◌, ◌<◌, ◌⊎◌, inl, inr, List, [], ◌∷◌, ◌++◌, length, take}
use Rattle.std.proofs.Common.{sym, ap, ◌∙◌, subst, get_or, arith}
use Rattle.std.specs.List.{AllByRecursion}
use Rattle.std.proofs.lemmas.Bool.{cases_lt}
use Rattle.std.proofs.lemmas.List.{length-map, get_or-map, take_more}
use Rattle.dover_model.specs.Fraction.{Fraction}
use Rattle.dover_model.proofs.valid.JobLimits.{job_limits, job_from}
use Rattle.task_words.specs.tasks.Limits.{AreTasks, AreWithin, IsTask}
use Rattle.task_words.specs.tasks.Merging.{blank_task}
use Rattle.task_words.specs.declared.tasks.task.PeriodicTask.{PeriodicTask}
use Rattle.task_words.specs.budget.Budgets.{budgeted, most_gets, task_at, with_budget}
use Rattle.task_words.specs.budget.Lines.{FitUpTo, IsTooLong, KeepUpTo}
use Rattle.task_words.specs.budget.Kept.{AreModest}
use Rattle.task_words.proofs.sure.Small.{at_place}

-- what holds at each place holds of each
all_there : {X : Type 0} (P : X → Type 0) (xs : List X) (d : X) → ((i : ℕ) → i < length xs → P (get_or xs i d))
    → AllByRecursion P xs
all_there P [] d each = tt
all_there P (x ∷ xs) d each = (
  each 0 (omega arith),
  all_there P xs d (λ i less. each (suc i) (omega (arith, less))),
)

module _ (k : Fraction) (cost : ℕ) (tasks : List PeriodicTask) where
  -- as many as there are
  pub as_many : length (budgeted k cost tasks) ≡ length tasks
  as_many = length-map tasks (with_budget k cost tasks)

  -- the task of this number with its budget
  pub budget_there : (y : ℕ) → y < length tasks
      → task_at (budgeted k cost tasks) y ≡ with_budget k cost tasks (task_at tasks y)
  budget_there y less = get_or-map (with_budget k cost tasks) tasks y blank_task blank_task less

  module _ (n : ℕ) (less : n < length tasks) (fit : FitUpTo (budgeted k cost tasks) n) where
    -- a budget that is above its deadline
    pub too_long : (gets : ℕ) → gets ≡ most_gets k tasks (task_at tasks n)
        → (task_at tasks n).deadline < (task_at tasks n).work + cost * gets → IsTooLong (budgeted k cost tasks) n
    too_long gets is long = record {
      there = omega (arith, less, as_many);
      first = fit;
      long = subst (λ (t : PeriodicTask). t.deadline < t.work) (sym (budget_there n less))
          (subst (λ g. (task_at tasks n).deadline < (task_at tasks n).work + cost * g) is long);
    }

    module _ (t : PeriodicTask) (is : t ≡ with_budget k cost tasks (task_at tasks n)) where
      -- one more that is paid
      pub paid_more : (items : List PeriodicTask) → items ≡ take n (budgeted k cost tasks)
          → items ++ t ∷ [] ≡ take (n + 1) (budgeted k cost tasks)
      paid_more items paid = ap (λ l. l ++ t ∷ []) paid
          ∙ ap (λ x. take n (budgeted k cost tasks) ++ x ∷ []) (is ∙ sym (budget_there n less))
          ∙ sym (take_more (budgeted k cost tasks) n blank_task (omega (arith, less, as_many)))

      -- and that fits
      pub fit_more : t.work ≤ t.deadline → FitUpTo (budgeted k cost tasks) (n + 1)
      fit_more fits y low = by_order (cases_lt y n) where
        by_order : (y < n) ⊎ (n ≤ y)
            → (task_at (budgeted k cost tasks) y).work ≤ (task_at (budgeted k cost tasks) y).deadline
        by_order (inl under) = fit y under
        by_order (inr more) =
            let same : n ≡ y = omega (arith, low, more) in
            subst (λ z. (task_at (budgeted k cost tasks) z).work ≤ (task_at (budgeted k cost tasks) z).deadline) same
            (subst (λ (x : PeriodicTask). x.work ≤ x.deadline) (is ∙ sym (budget_there n less)) fits)

  -- a task with its budget is one, where that fits
  paid_task : (task : PeriodicTask) → IsTask 0 task → task.work + cost * most_gets k tasks task ≤ task.deadline
      → IsTask 0 (with_budget k cost tasks task)
  paid_task task it fits = let limits = job_limits it.job in record {
    period = it.period;
    job = job_from (record {
      work = let some : 1 ≤ task.work = limits.work in omega (arith, some);
      small = let due = it.due in omega (arith, fits, due);
      window = omega (arith, fits);
      due = limits.due;
      worth = limits.worth;
      modest = limits.modest;
    });
    due = it.due;
  }

  module _ (are : AreTasks 0 k tasks) (fit : FitUpTo (budgeted k cost tasks) (length (budgeted k cost tasks))) where
    paid_there : (y : ℕ) → y < length (budgeted k cost tasks) → IsTask 0 (task_at (budgeted k cost tasks) y)
    paid_there y less =
        let low : y < length tasks = omega (arith, less, as_many) in
        subst (IsTask 0) (sym (budget_there y low))
        (paid_task (task_at tasks y) (at_place (IsTask 0) tasks blank_task are.each y low)
        (subst (λ (t : PeriodicTask). t.work ≤ t.deadline) (budget_there y low) (fit y less)))

    -- budgets that fit leave room for a comparison of densities
    pub modest : AreModest (budgeted k cost tasks)
    modest y less = let limits = job_limits (paid_there y less).job in record {
      value = limits.modest;
      work = limits.small;
    }

    -- within the ratio of each other they may stand together
    pub stand : KeepUpTo k (budgeted k cost tasks) (length (budgeted k cost tasks))
        → AreTasks 0 k (budgeted k cost tasks)
    stand keep = record {
      each = all_there (IsTask 0) (budgeted k cost tasks) blank_task paid_there;
      few = let few : length tasks ≤ 1_000_000 = are.few in omega (arith, as_many, few);
      densities = all_there (λ a. AllByRecursion (AreWithin 0 k a) (budgeted k cost tasks)) (budgeted k cost tasks)
          blank_task (λ y less. all_there (AreWithin 0 k (task_at (budgeted k cost tasks) y)) (budgeted k cost tasks)
          blank_task (λ z low. keep y less z low));
    }
