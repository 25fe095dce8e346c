use Rattle.task_words.proofs.asking.Spending.{none_spent, costs_more}
use Rattle.task_words.proofs.asking.Talking.{steady, few}
use Rattle.task_words.proofs.asking.talker.AskingTasksTalker.laws.Goals as goal

pub returns-clause-steady : goal.returns-clause-steady
returns-clause-steady g c = λ a. steady a.question

pub returns-clause-few : goal.returns-clause-few
returns-clause-few g c = λ a t m x at goes. few a.question t.reader x at.reads goes

pub returns-clause-spent : goal.returns-clause-spent
returns-clause-spent g c = λ a t m x rest at. none_spent a.question _ _ a.before m at.0.counts

pub returns-clause-rested : goal.returns-clause-rested
returns-clause-rested g c = λ a t m x at. none_spent a.question _ _ a.before m at.counts

pub returns-clause-behind : goal.returns-clause-behind
returns-clause-behind g c = λ a m x y costs. costs_more a.question a.before m x y costs
