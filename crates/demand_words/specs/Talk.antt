-- What the word says that asks about tasks for all time, by the bytes got so far.
use Rattle.std.specs.Prelude.{◌≡◌, ◌⊎◌, ℕ, List, [], false}
use Rattle.dover_model.specs.Common.{Ended}
use Rattle.dover_port.specs.declared.status.Status.{Status}
use Rattle.dover_port.specs.declared.status.Status.TheVariants.{Refused}
use Rattle.dialogue.specs.Talk.{Talk}
use Rattle.task_words.specs.reading.Account.{account, is_open}
use Rattle.task_words.specs.reading.Keeping.{StandsFor}
use Rattle.task_words.specs.declared.reading.reader.TaskReader.{TaskReader}
use Rattle.task_words.specs.asking.Talk.{IsRefusedAt}
use Rattle.task_words.specs.asking.Texts.{refusal_text}
use Rattle.demand_words.specs.Demanded.{all_facts}
use Rattle.demand_words.specs.Says.{SaysDemand}

-- the task text of these bytes ended without a fault, and this is said of its tasks
pub record IsSaid (status : Status) (text bytes : List ℕ) : Type 0 where
  pub ended : (account 0 bytes).standing ≡ Ended
  pub said : SaysDemand (all_facts (account 0 bytes).tasks) status text

-- Nothing is due before the end, which comes with the text's, its first fault or the input's. Then the line that
-- refuses the text is, or what is to be said of its tasks. Memory is lacking before the input's end alone.
abbrev pub demand_talk : Talk
demand_talk = record {
  goes_on = λ bytes. is_open (account 0 bytes);
  due = λ bytes. [];
  answer = λ bytes ended status text.
      ((status ≡ Refused) × IsRefusedAt 0 bytes ended × (text ≡ refusal_text 0 bytes)) ⊎ IsSaid status text bytes;
  lacks = λ bytes ended. ended ≡ false;
}

-- the reader stands for the bytes, and no comparison was counted since
pub record Stands (before : ℕ) (reader : TaskReader) (count : ℕ) (bytes : List ℕ) : Type 0 where
  pub reads : StandsFor 0 reader bytes
  pub counts : count ≡ before

-- and nothing is left to give
abbrev pub IsAt : (before : ℕ) → TaskReader → (count : ℕ) → List ℕ → List (List ℕ) → Type 0
IsAt before reader count bytes rest = Stands before reader count bytes × (rest ≡ [])
