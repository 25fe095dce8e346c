-- What is answered to each question on the jobs of a feed.
use Rattle.question_words.specs.Best.{SaysBest}
use Rattle.question_words.specs.Compare.{SaysCompare}
use Rattle.question_words.specs.Feasible.{SaysFeasible}
use Rattle.question_words.specs.Loss.{SaysLoss}
use Rattle.question_words.specs.Talk.{Says}
use Rattle.question_words.specs.declared.question.Question.{Question}
use Rattle.question_words.specs.declared.question.Question.TheVariants.{Feasible, Best, Compare, Loss}

-- what is to be said of the jobs: a status and a text
abbrev pub says : Question → Says
says Feasible = SaysFeasible
says Best = SaysBest
says Compare = SaysCompare
says Loss = SaysLoss
