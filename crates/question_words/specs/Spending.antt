-- How many comparisons the answer to a question makes.
use Rattle.std.specs.Prelude.{ℕ, ◌+◌, ◌*◌, ◌^◌, ◌≤◌, ◌<◌, List}
use Rattle.dover_model.specs.Common.{account}
use Rattle.event_feed.specs.Answers.{admitted_in}
use Rattle.dover_port.specs.Moves.{Move, ins}
use Rattle.question_words.specs.declared.question.Question.{Question}
use Rattle.question_words.specs.declared.question.Question.TheVariants.{Feasible, Best, Compare, Loss}

-- how often the jobs are served for the answer: by the rules that the feed declares, and by those of version Four
abbrev pub runs_for : Question → ℕ
runs_for Feasible = 0
runs_for Best = 1
runs_for Compare = 2
runs_for Loss = 1

-- so many runs of n jobs cost at most 80 * (n + 1) * d comparisons each, where n + 1 has at most d binary digits
abbrev pub CostsRuns : (runs n before after : ℕ) → Type 0
CostsRuns runs n before after = (d : ℕ) → n + 1 < 2 ^ d → after ≤ before + runs * (80 * (n + 1) * d)

-- the question costs no more than its runs of the jobs that were admitted
abbrev pub IsFrugal : Question → (before after : ℕ) → List Move → Type 0
IsFrugal question before after moves = CostsRuns (runs_for question) (admitted_in (account (ins moves))) before after
