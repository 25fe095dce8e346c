-- The line that says why tasks have no budgets is what is said of them.
use Rattle.std.proofs.Common.{◌≡◌, ◌<◌, inr, ℕ, List, length, refl, sym, ap, subst, false, Option, Result, Ok, Err}
use Rattle.dover_model.specs.Common.{Fraction, Declaration}
use Rattle.dover_port.specs.Moves.{Move}
use Rattle.dover_port.specs.declared.status.Status.{Status}
use Rattle.dover_port.specs.declared.status.Status.TheVariants.{Done, No, Refused, ReadFault, WriteFault, Memory, Usage}
use Rattle.dialogue.specs.declared.talker.Stop.{Stop}
use Rattle.dialogue.specs.declared.talker.Stop.TheVariants.{NoMemory, Unwritten}
use Rattle.task_words.specs.declared.tasks.task.PeriodicTask.{PeriodicTask}
use Rattle.task_words.specs.asking.Putting.{SaysBy}
use Rattle.task_words.specs.tasks.Limits.{AreTasks}
use Rattle.task_words.specs.budget.Budgets.{budgeted, task_at}
use Rattle.task_words.specs.budget.Kept.{SaysCause}
use Rattle.task_words.specs.budget.Lines.{FitUpTo, IsTooDense, IsUnpaid, KeepUpTo, KeepsUpTo, SaysBudgets}
use Rattle.task_words.specs.budget.Lines.{keeps_ratio, ratio_text, tasks_text}
use Rattle.task_words.proofs.budget.Standing.{stand}

module _ (cost : ℕ) (rules : Declaration) (tasks : List PeriodicTask) (cause : List ℕ)
    (unpaid : IsUnpaid rules.ratio cost tasks cause) where
  -- with this status and this text
  said : (status : Status) (text : List ℕ) → SaysCause cause status text → SaysBudgets cost rules tasks status text
  said Done text says = absurd says
  said No text says = absurd says
  said Refused text is = subst (IsUnpaid rules.ratio cost tasks) (sym is) unpaid
  said ReadFault text says = absurd says
  said WriteFault text says = absurd says
  said Memory text says = absurd says
  said Usage text says = absurd says

  -- it was put, or a front of it
  pub says_unpaid : (a b : Option (List Move)) (q : List ℕ) (r : Result Status Stop) → SaysBy (SaysCause cause) a b q r
      → SaysBy (SaysBudgets cost rules tasks) a b q r
  says_unpaid a b q (Ok status) put = (put.0, said status put.0 put.1, put.2)
  says_unpaid a b q (Err Unwritten) cut = (cut.0, cut.1, said cut.0 cut.1 cut.2, cut.3)
  says_unpaid a b q (Err NoMemory) none = none

module _ (cost : ℕ) (tasks : List PeriodicTask) where
  -- two that break the ratio
  pub dense_unpaid : (k : Fraction) (budgets : List PeriodicTask) (n m : ℕ) → budgets ≡ budgeted k cost tasks
      → FitUpTo budgets (length budgets) → n < length budgets → KeepUpTo k budgets n → m < length budgets
      → KeepsUpTo k budgets (task_at budgets n) m
      → keeps_ratio k (task_at budgets n) (task_at budgets m) ≡ false → IsUnpaid k cost tasks (ratio_text n m)
  dense_unpaid k budgets n m is fit there first other first_other breaks = inr (
    n,
    m,
    subst (λ bs. IsTooDense k bs n m) is (record {
      fit = fit;
      there = there;
      first = first;
      other = other;
      first_other = first_other;
      breaks = breaks;
    }),
    refl,
  )

  -- budgets that fit, within the ratio of each other
  pub paid_says : (rules : Declaration) (budgets : List PeriodicTask) → budgets ≡ budgeted rules.ratio cost tasks
      → AreTasks 0 rules.ratio tasks → FitUpTo budgets (length budgets)
      → KeepUpTo rules.ratio budgets (length budgets)
      → SaysBudgets cost rules tasks Done (tasks_text rules budgets)
  paid_says rules budgets is are fit keep = (
    stand rules.ratio cost tasks are (subst (λ bs. FitUpTo bs (length bs)) is fit)
        (subst (λ bs. KeepUpTo rules.ratio bs (length bs)) is keep),
    ap (tasks_text rules) is,
  )
