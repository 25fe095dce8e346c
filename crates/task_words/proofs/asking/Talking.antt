-- What the word says: its laws.
use Rattle.std.proofs.Common.{◌≡◌, ◌<◌, ◌^◌, ◌-◌, ℕ, List, ◌++◌, [], length, refl, sym, ap, ◌∙◌, subst, arith}
use Rattle.std.proofs.Common.{true, false, inl, inr}
use Rattle.dover_model.specs.Common.{Standing, Open, Ended, Faulty, in_lines, whole_lines}
use Rattle.dover_port.specs.declared.status.Status.{Status}
use Rattle.dialogue.specs.Talk.{IsSteady}
use Rattle.task_words.specs.reading.Account.{TaskAccount, account, is_open}
use Rattle.task_words.specs.reading.Keeping.{TextStands, StandsFor}
use Rattle.task_words.specs.declared.reading.reader.TaskReader.{TaskReader}
use Rattle.task_words.proofs.reading.Accounts.{goes_on, closed_account, open_bytes}
use Rattle.task_words.proofs.reading.Ending.{going_stands}
use Rattle.task_words.specs.declared.asking.question.TaskQuestion.{TaskQuestion}
use Rattle.task_words.specs.asking.Questions.{Says, until_of}
use Rattle.task_words.specs.asking.Talk.{IsRefusedAt, IsSaid, tasks_talk}
use Rattle.task_words.specs.asking.Texts.{refusal_text, refusal_lines}

-- ---- the laws

-- the line that refuses a text is the same behind its end
refusal_same : (n m : ℕ) (s : Standing) → goes_on s ≡ false
    → in_lines (refusal_lines n s) ≡ in_lines (refusal_lines m s)
refusal_same n m Open over = absurd (let e : true ≡ false = over in cc)
refusal_same n m Ended over = refl
refusal_same n m (Faulty line cause) over = refl

module _ (question : TaskQuestion) (x y : List ℕ) (over : is_open (account (until_of question) x) ≡ false) where
  -- the tick
  abbrev until : ℕ
  until = until_of question

  -- the account is the same
  same : account until (x ++ y) ≡ account until x
  same = closed_account until x y over

  -- and so is the line that refuses it
  pub refusal_stays : refusal_text until x ≡ refusal_text until (x ++ y)
  refusal_stays = refusal_same (length (whole_lines x)) (length (whole_lines (x ++ y))) (account until x).standing over
      ∙ ap (λ (a : TaskAccount). in_lines (refusal_lines (length (whole_lines (x ++ y))) a.standing)) (sym same)

  -- it is refused as before
  pub refused_stays : IsRefusedAt until x false → IsRefusedAt until (x ++ y) false
  refused_stays (inl fault) = inl (fault.0, fault.1, ap (λ (a : TaskAccount). a.standing) same ∙ fault.2)
  refused_stays (inr short) = absurd (let e : false ≡ true = short.0 in cc)

  said_stays : (status : Status) (text : List ℕ) → IsSaid question status text x → IsSaid question status text (x ++ y)
  said_stays status text it = record {
    ended = ap (λ (a : TaskAccount). a.standing) same ∙ it.ended;
    rules = it.rules;
    rules_are = ap (λ (a : TaskAccount). a.rules) same ∙ it.rules_are;
    said = subst (λ (a : TaskAccount). Says question it.rules a.tasks status text) (sym same) it.said;
  }

  -- bytes behind those that end the text change no answer
  answer_stays : (status : Status) (text : List ℕ) → (tasks_talk question).answer x false status text
      → (tasks_talk question).answer (x ++ y) false status text
  answer_stays status text (inl refused) = inl (refused.0, refused_stays refused.1, refused.2 ∙ refusal_stays)
  answer_stays status text (inr said) = inr (said_stays status text said)

-- the laws of the talk
pub steady : (question : TaskQuestion) → IsSteady (tasks_talk question)
steady question = record {
  opens = refl;
  nothing = refl;
  grows = λ x y. ([], refl);
  stays = λ x y over. ap is_open (closed_account (until_of question) x y over) ∙ over;
  answered = λ x y status text over it. answer_stays question x y over status text it;
  lacking = λ x y it. it;
}

-- a text that goes on has few bytes
pub few : (question : TaskQuestion) (reader : TaskReader) (x : List ℕ) → StandsFor (until_of question) reader x
    → is_open (account (until_of question) x) ≡ true → length x < 2 ^ 64 - 1
few question reader x at on =
    let stands : TextStands (until_of question) reader.text x =
    going_stands (until_of question) reader.progress reader.text x at on in
    omega (arith, open_bytes (until_of question) x stands.keeps.stands stands.short)

-- a reader of this tick is one of the question
pub begun : (question : TaskQuestion) (n : ℕ) (reader : TaskReader) → n ≡ until_of question → StandsFor n reader []
    → StandsFor (until_of question) reader []
begun question n reader is stands = subst (λ m. StandsFor m reader []) is stands
