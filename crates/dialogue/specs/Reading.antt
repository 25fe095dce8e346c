-- What a word says that reads lines and answers at the end.
use Rattle.std.specs.Prelude.{◌≡◌, ℕ, suc, List, [], ◌∷◌, Bool, fold}
use Rattle.dover_model.specs.Common.{Standing, Open, Ended, Faulty, fault_text, in_lines, lines_of}
use Rattle.dover_model.specs.Feed.{Short}
use Rattle.dover_port.specs.declared.status.Status.{Status}
use Rattle.dover_port.specs.declared.status.Status.TheVariants.{Refused}
use Rattle.dialogue.specs.Talk.{Talk}

-- What lines come to: none, and one more; whether more are read then; with which status and which whole text they may
-- be answered; and whether memory may be lacking, where the input has ended and where it hasn't.
pub record Reading (A : Type 0) : Type 1 where
  pub start : A
  pub next : A → List ℕ → A
  pub goes_on : A → Bool
  pub answer : A → Status → List ℕ → Type 0
  pub lacks : A → Bool → Type 0

module _ {A : Type 0} (r : Reading A) where
  -- what these lines come to
  abbrev pub read_lines : List (List ℕ) → A
  read_lines ls = fold r.next r.start ls

  -- nothing is due before the answer
  abbrev pub lines_talk : Talk
  lines_talk = record {
    goes_on = λ bytes. r.goes_on (read_lines (lines_of bytes));
    due = λ bytes. [];
    answer = λ bytes ended status text. r.answer (read_lines (lines_of bytes)) status text;
    lacks = λ bytes ended. r.lacks (read_lines (lines_of bytes)) ended;
  }

-- What is said by how a text stands behind so many lines. Where it goes on, the input has ended before it, and the line
-- says that it is short; that of a faulty one says its fault; else this is said.
abbrev pub SaysAt : (lines : ℕ) → Standing → (says : Status → List ℕ → Type 0) → Status → List ℕ → Type 0
SaysAt lines Open says status text = (status ≡ Refused) × (text ≡ in_lines (fault_text (suc lines) Short ∷ []))
SaysAt lines Ended says status text = says status text
SaysAt lines (Faulty line cause) says status text = (status ≡ Refused) × (text ≡ in_lines (fault_text line cause ∷ []))
