-- What a word says that reads a task text, by the bytes got so far.
use Rattle.std.specs.Prelude.{◌≡◌, ◌⊎◌, ℕ, List, [], Bool, true, false, Some}
use Rattle.dover_model.specs.Common.{Cause, Ended, Faulty, Declaration}
use Rattle.dover_port.specs.declared.status.Status.{Status}
use Rattle.dover_port.specs.declared.status.Status.TheVariants.{Refused}
use Rattle.dialogue.specs.Talk.{Talk}
use Rattle.task_words.specs.reading.Account.{account, is_open}
use Rattle.task_words.specs.declared.asking.question.TaskQuestion.{TaskQuestion}
use Rattle.task_words.specs.asking.Questions.{until_of, Says}
use Rattle.task_words.specs.asking.Texts.{refusal_text}

-- a line of the task text of these bytes is at fault, or the input ended behind them before the text did
abbrev pub IsRefusedAt : (until : ℕ) → List ℕ → Bool → Type 0
IsRefusedAt until bytes ended = ((line : ℕ) × (cause : Cause) × ((account until bytes).standing ≡ Faulty line cause))
    ⊎ ((ended ≡ true) × (is_open (account until bytes) ≡ true))

-- the task text of these bytes ended without a fault, and this is said of its tasks
pub record IsSaid (question : TaskQuestion) (status : Status) (text bytes : List ℕ) : Type 0 where
  pub ended : (account (until_of question) bytes).standing ≡ Ended
  pub rules : Declaration
  pub rules_are : (account (until_of question) bytes).rules ≡ Some rules
  pub said : Says question rules (account (until_of question) bytes).tasks status text

-- Nothing is due before the end, which comes with the text's, its first fault or the input's. Then the line that
-- refuses the text is, or what is to be said of its tasks. Memory is lacking before the input's end alone.
abbrev pub tasks_talk : TaskQuestion → Talk
tasks_talk question = record {
  goes_on = λ bytes. is_open (account (until_of question) bytes);
  due = λ bytes. [];
  answer = λ bytes ended status text.
      ((status ≡ Refused) × IsRefusedAt (until_of question) bytes ended
      × (text ≡ refusal_text (until_of question) bytes))
      ⊎ IsSaid question status text bytes;
  lacks = λ bytes ended. ended ≡ false;
}
