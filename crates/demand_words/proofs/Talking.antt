-- What the word says: its laws, and that what is put at the end is an answer.
use Rattle.std.proofs.Common.{◌≡◌, ℕ, List, ◌++◌, ◌∷◌, [], refl, sym, ap, ◌∙◌, subst, Option, Result, Ok, Err, Bool}
use Rattle.std.proofs.Common.{false, inl, inr}
use Rattle.dover_model.specs.Common.{fault_text}
use Rattle.dover_port.specs.Moves.{Move}
use Rattle.dover_port.specs.declared.status.Status.{Status}
use Rattle.dover_port.specs.declared.status.Status.TheVariants.{Refused}
use Rattle.dialogue.specs.Talk.{IsSteady, IsFinal, IsOver}
use Rattle.dialogue.specs.Turns.{AnswersBy}
use Rattle.dialogue.specs.declared.talker.Stop.{Stop}
use Rattle.dialogue.specs.declared.talker.Stop.TheVariants.{NoMemory, Unwritten}
use Rattle.event_feed.specs.Kept.{cause_of_fault}
use Rattle.event_feed.specs.declared.faults.FeedFault.{FeedFault}
use Rattle.task_words.specs.reading.Account.{TaskAccount, account, is_open}
use Rattle.task_words.specs.reading.Record.{IsEnded, IsRefusedBy}
use Rattle.task_words.specs.declared.reading.listed.ListedTasks.{ListedTasks}
use Rattle.task_words.specs.declared.asking.question.TaskQuestion.TheVariants.{Sure}
use Rattle.task_words.specs.asking.Putting.{SaysBy}
use Rattle.task_words.proofs.reading.Accounts.{closed_account, goes_on}
use Rattle.task_words.proofs.asking.Ending.{refused}
use Rattle.task_words.proofs.asking.Talking.{refusal_stays, refused_stays}
use Rattle.demand_words.specs.Demanded.{all_facts}
use Rattle.demand_words.specs.declared.answers.Demand.{Demand}
use Rattle.demand_words.specs.declared.answers.Demand.TheVariants.{Met, Window, Over, Size}
use Rattle.demand_words.specs.Says.{SaysDemand, status_of}
use Rattle.demand_words.specs.Talk.{IsSaid, demand_talk}

module _ (x y : List ℕ) (over : is_open (account 0 x) ≡ false) where
  -- bytes behind those that end the text change no answer
  said_stays : (status : Status) (text : List ℕ) → IsSaid status text x → IsSaid status text (x ++ y)
  said_stays status text it = record {
    ended = ap (λ (a : TaskAccount). a.standing) (closed_account 0 x y over) ∙ it.ended;
    said = subst (λ (a : TaskAccount). SaysDemand (all_facts a.tasks) status text) (sym (closed_account 0 x y over))
        it.said;
  }

  answer_stays : (status : Status) (text : List ℕ) → demand_talk.answer x false status text
      → demand_talk.answer (x ++ y) false status text
  answer_stays status text (inl it) = inl (
    it.0,
    refused_stays Sure x y over it.1,
    it.2 ∙ refusal_stays Sure x y over,
  )
  answer_stays status text (inr said) = inr (said_stays status text said)

-- the laws of the talk
pub steady : IsSteady demand_talk
steady = record {
  opens = refl;
  nothing = refl;
  grows = λ x y. ([], refl);
  stays = λ x y over. ap is_open (closed_account 0 x y over) ∙ over;
  answered = λ x y status text over it. answer_stays x y over status text it;
  lacking = λ x y it. it;
}

-- the line of a fault is an answer
pub fault_answers : (fault : FeedFault) (x : List ℕ) (ended : Bool) → IsRefusedBy 0 fault x
    → IsOver demand_talk x ended
    → demand_talk.answer x ended Refused (fault_text fault.line (cause_of_fault fault.cause) ++ 10 ∷ [])
fault_answers fault x ended by over = elim (refused Sure fault x ended by over) [
  | inl it ↦ inl it
  | inr said ↦ absurd said.said
]

-- the status of what is told is final
told_final : (told : Demand) → IsFinal (status_of told)
told_final Met = tt
told_final (Window ticks work) = tt
told_final Over = tt
told_final Size = tt

module _ (x : List ℕ) (ended : Bool) (over : IsOver demand_talk x ended) (listed : ListedTasks)
    (by : IsEnded 0 listed x) (a b : Option (List Move)) (q : List ℕ) where
  said : (status : Status) (text : List ℕ) → SaysDemand (all_facts listed.tasks.items) status text
      → IsSaid status text x
  said status text it = record {
    ended = by.ended;
    said = subst (λ ts. SaysDemand (all_facts ts) status text) (sym by.tasks) it;
  }

  -- what is to be said of the tasks was put
  pub answered : (r : Result Status Stop) → SaysBy (SaysDemand (all_facts listed.tasks.items)) a b q r
      → AnswersBy demand_talk x ended a b q r
  answered (Ok status) put = (
    subst IsFinal (sym put.1.2) (told_final put.1.0),
    (put.0, inr (said status put.0 put.1), put.2),
  )
  answered (Err Unwritten) cut = (cut.0, cut.1, inr (said cut.0 cut.1 cut.2), cut.3)
  answered (Err NoMemory) none = (sym over ∙ ap goes_on by.ended, none)
