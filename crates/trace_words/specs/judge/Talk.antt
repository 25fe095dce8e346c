-- What a word says that judges a text, by the bytes got so far.
use Rattle.std.specs.Prelude.{◌≡◌, ◌⊎◌, ℕ, List, [], Bool, true, false, not}
use Rattle.dover_model.specs.Session.{Session, IsValidSession}
use Rattle.dover_model.specs.Verdict.{Accepted, Short, verdict}
use Rattle.dover_port.specs.declared.status.Status.{Status}
use Rattle.dover_port.specs.declared.status.Status.TheVariants.{Done, No}
use Rattle.dialogue.specs.Talk.{Talk}
use Rattle.trace_judge.specs.Judging.{is_wrong}
use Rattle.trace_words.specs.judge.Line.{verdict_text}

-- the bytes are the trace of a valid session
abbrev pub IsTrace : List ℕ → Type 0
IsTrace bytes = (S : Session) × IsValidSession S × (verdict bytes ≡ Accepted S)

-- the bytes aren't a trace, whatever follows, or stop before its end
abbrev pub IsNoTrace : List ℕ → Type 0
IsNoTrace bytes = (is_wrong (verdict bytes) ≡ true) ⊎ ((lines : ℕ) × (verdict bytes ≡ Short lines))

-- the verdict is told with this status
abbrev pub IsToldBy : Status → List ℕ → Type 0
IsToldBy Done bytes = IsTrace bytes
IsToldBy No bytes = IsNoTrace bytes
IsToldBy _ bytes = ⊥

-- what is said of a text: with which status, and which text
abbrev pub Says : Type 1
Says = Status → (bytes text : List ℕ) → Type 0

-- Nothing is due before the end, which comes with the input's or at the first wrong line; then this is said. Memory may
-- be lacking here.
abbrev pub judging_talk : Says → (lacks : List ℕ → Bool → Type 0) → Talk
judging_talk says lacks = record {
  goes_on = λ bytes. not (is_wrong (verdict bytes));
  due = λ bytes. [];
  answer = λ bytes ended status text. says status bytes text;
  lacks = lacks;
}

-- the line of the verdict
abbrev pub SaysVerdict : Says
SaysVerdict status bytes text = IsToldBy status bytes × (text ≡ verdict_text (verdict bytes))

-- It is said, and memory is lacking before the input's end alone.
abbrev pub judge_talk : Talk
judge_talk = judging_talk SaysVerdict (λ bytes ended. ended ≡ false)
