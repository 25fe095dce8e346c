-- What is kept of a task text that is asked about.
use Rattle.std.specs.Prelude.{◌≡◌, ℕ, List, []}
use Rattle.task_words.specs.reading.Keeping.{IsKnown, StandsFor}
use Rattle.task_words.specs.declared.reading.reader.TaskReader.{TaskReader}
use Rattle.task_words.specs.declared.asking.question.TaskQuestion.{TaskQuestion}
use Rattle.task_words.specs.asking.Questions.{until_of}

-- what a call is about: what is asked, and how many comparisons were counted before it
pub record Asked : Type 0 where
  pub question : TaskQuestion
  pub before : ℕ

-- the reader stands for the bytes, this is asked of their tasks, and none was counted since
pub record Stands (asked : Asked) (kept : TaskQuestion) (reader : TaskReader) (count : ℕ) (bytes : List ℕ) : Type 0
  where
    pub asks : kept ≡ asked.question
    pub known : IsKnown (until_of asked.question)
    pub reads : StandsFor (until_of asked.question) reader bytes
    pub counts : count ≡ asked.before

-- and nothing is left to give
abbrev pub IsAt : Asked → (kept : TaskQuestion) → TaskReader → (count : ℕ) → List ℕ → List (List ℕ) → Type 0
IsAt asked kept reader count bytes rest = Stands asked kept reader count bytes × (rest ≡ [])
