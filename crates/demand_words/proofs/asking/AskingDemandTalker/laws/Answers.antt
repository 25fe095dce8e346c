use Rattle.task_words.specs.declared.asking.question.TaskQuestion.TheVariants.{Sure}
use Rattle.task_words.proofs.asking.Talking.{few}
use Rattle.demand_words.proofs.Talking.{steady}
use Rattle.demand_words.proofs.asking.AskingDemandTalker.laws.Goals as goal

pub returns-clause-steady : goal.returns-clause-steady
returns-clause-steady g c = λ a. steady

pub returns-clause-few : goal.returns-clause-few
returns-clause-few g c = λ a t m x at goes. few Sure t.reader x at.reads goes
