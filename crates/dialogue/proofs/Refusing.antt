-- An answer that is put is one of those that may be.
use Rattle.std.proofs.Common.{◌++◌, ◌∷◌, [], ℕ, suc, List, Option, Result, Ok, Err, sym, ap, ◌∙◌, append-nil}
use Rattle.dover_model.specs.Common.{Standing, Open, Ended, Faulty, fault_text}
use Rattle.dover_port.specs.Moves.{Move}
use Rattle.dover_port.specs.declared.status.Status.{Status}
use Rattle.event_feed.specs.Kept.{cause_of_fault}
use Rattle.event_feed.specs.declared.faults.FeedFault.{FeedFault}
use Rattle.dialogue.specs.Reading.{SaysAt}
use Rattle.dialogue.specs.Taking.{IsFaultAt, IsRefusal}
use Rattle.dialogue.specs.Turns.{Answers}
use Rattle.dialogue.specs.declared.talker.Stop.{Stop}
use Rattle.dialogue.specs.declared.talker.Stop.TheVariants.{NoMemory, Unwritten}

-- what may be said by one account of it may be by another
pub answers_weaker : (P Q : Status → List ℕ → Type 0) (L M : Type 0) (old new : Option (List Move)) (after : List ℕ)
    (result : Result Status Stop) → ((status : Status) (text : List ℕ) → P status text → Q status text) → (L → M)
    → Answers P L old new after result → Answers Q M old new after result
answers_weaker P Q L M old new after (Ok status) says lacks it =
    (it.0, (it.1.0, says status it.1.0 it.1.1, it.1.2))
answers_weaker P Q L M old new after (Err NoMemory) says lacks it = (lacks it.0, it.1)
answers_weaker P Q L M old new after (Err Unwritten) says lacks it = (it.0, it.1, says it.0 it.1 it.2, it.3)

-- the line of a fault is said of a text that has it
pub refusal_at : (fault : FeedFault) (lines : ℕ) (standing : Standing) (says : Status → List ℕ → Type 0)
    → IsFaultAt fault lines standing → (status : Status) (text : List ℕ) → IsRefusal fault status text
    → SaysAt lines standing says status text
refusal_at fault lines Open says at status text it = (
  it.0,
  it.1 ∙ ap (λ n. fault_text n (cause_of_fault fault.cause) ++ 10 ∷ []) at.0
      ∙ ap (λ c. fault_text (suc lines) c ++ 10 ∷ []) at.1 ∙ sym (append-nil _),
)
refusal_at fault lines Ended says at status text it = absurd at
refusal_at fault lines (Faulty line cause) says at status text it = (
  it.0,
  it.1 ∙ ap (λ n. fault_text n (cause_of_fault fault.cause) ++ 10 ∷ []) at.0
      ∙ ap (λ c. fault_text line c ++ 10 ∷ []) at.1 ∙ sym (append-nil _),
)
