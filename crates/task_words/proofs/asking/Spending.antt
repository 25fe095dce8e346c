-- The comparisons of a call, by the bytes got.
use Rattle.std.proofs.Common.{◌≡◌, ℕ, List, ◌++◌, refl, sym, ap, subst, arith, false}
use Rattle.dover_model.specs.Feed.{Standing, Open, Ended, Faulty}
use Rattle.task_words.specs.declared.tasks.task.PeriodicTask.{PeriodicTask}
use Rattle.task_words.specs.reading.Account.{TaskAccount, account, is_open}
use Rattle.task_words.specs.reading.Record.{IsEnded}
use Rattle.task_words.specs.declared.reading.listed.ListedTasks.{ListedTasks}
use Rattle.task_words.proofs.reading.Accounts.{closed_account, goes_on}
use Rattle.task_words.specs.declared.asking.question.TaskQuestion.{TaskQuestion}
use Rattle.task_words.specs.declared.asking.question.TaskQuestion.TheVariants.{Unroll, Sure, Budget}
use Rattle.task_words.specs.asking.Questions.{until_of, CostsFew}
use Rattle.task_words.specs.asking.Spending.{CostsAt, Costs}

-- none are few
none_few : (question : TaskQuestion) (tasks : List PeriodicTask) (before after : ℕ) → after ≡ before
    → CostsFew question tasks before after
none_few (Unroll until) tasks before after same = λ d enough. omega (arith, same)
none_few Sure tasks before after same = same
none_few (Budget cost) tasks before after same = same

-- however a text stands
pub none_spent : (question : TaskQuestion) (tasks : List PeriodicTask) (s : Standing) (before after : ℕ)
    → after ≡ before → CostsAt question tasks s before after
none_spent question tasks Open before after same = same
none_spent question tasks Ended before after same = none_few question tasks before after same
none_spent question tasks (Faulty line cause) before after same = same

-- those that are few for a text are few for one that goes on with it
pub costs_more : (question : TaskQuestion) (before after : ℕ) (x y : List ℕ) → Costs question before after x
    → Costs question before after (x ++ y)
costs_more question before after x y costs = by (account (until_of question) x).standing refl costs where
  -- a text that is over
  over : is_open (account (until_of question) x) ≡ false → Costs question before after x
      → Costs question before after (x ++ y)
  over closed it = subst (λ (a : TaskAccount). CostsAt question a.tasks a.standing before after)
      (sym (closed_account (until_of question) x y closed)) it

  by : (s : Standing) → (account (until_of question) x).standing ≡ s
      → CostsAt question (account (until_of question) x).tasks s before after
      → Costs question before after (x ++ y)
  by Open is same = none_spent question (account (until_of question) (x ++ y)).tasks
      (account (until_of question) (x ++ y)).standing before after same
  by Ended is it = over (ap goes_on is)
      (subst (λ t. CostsAt question (account (until_of question) x).tasks t before after) (sym is) it)
  by (Faulty line cause) is it = over (ap goes_on is)
      (subst (λ t. CostsAt question (account (until_of question) x).tasks t before after) (sym is) it)

-- those of the tasks of a text that has ended
pub costs_ended : (question : TaskQuestion) (listed : ListedTasks) (before after : ℕ) (x : List ℕ)
    → IsEnded (until_of question) listed x → CostsFew question listed.tasks.items before after
    → Costs question before after x
costs_ended question listed before after x by it =
    subst (λ s. CostsAt question (account (until_of question) x).tasks s before after) (sym by.ended)
    (subst (λ ts. CostsFew question ts before after) (sym by.tasks) it)
