-- What is kept of a feed on whose jobs a question is asked.
use Rattle.std.specs.Prelude.{◌≡◌, ℕ, List}
use Rattle.dover_model.specs.Common.{Account}
use Rattle.event_feed.specs.Answers.{admitted_in}
use Rattle.event_feed.specs.Keeping.{Keeps}
use Rattle.event_feed.specs.declared.gathering.Gathering.{Gathering}
use Rattle.question_words.specs.Spending.{CostsRuns, runs_for}
use Rattle.question_words.specs.declared.question.Question.{Question}

-- what a call is about: the question, and how many comparisons were counted before it
pub record Asked : Type 0 where
  pub question : Question
  pub before : ℕ

-- the feed of these lines is kept, for this question, and no comparison was counted since
pub record Stands (asked : Asked) (question : Question) (feed : Gathering) (count : ℕ)
    (ls : List (List ℕ)) : Type 0 where
  pub asks : question ≡ asked.question
  pub reads : Keeps feed ls
  pub counts : count ≡ asked.before

-- those for the question on the jobs that were admitted are few
abbrev pub Costs : Asked → ℕ → Account → Type 0
Costs asked count a = CostsRuns (runs_for asked.question) (admitted_in a) asked.before count
