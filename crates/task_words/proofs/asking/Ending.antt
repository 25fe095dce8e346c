-- What is put at the end of a task text is an answer.
use Rattle.std.proofs.Common.{◌≡◌, ℕ, List, [], ◌∷◌, ◌++◌, length, refl, sym, ap, ◌∙◌, subst, Option, Result, Ok, Err}
use Rattle.std.proofs.Common.{Bool, true, inl, inr, append-nil}
use Rattle.dover_model.specs.Common.{fault_text, Cause, Declaration, Faulty, in_lines, whole_lines}
use Rattle.dover_port.specs.Moves.{Move}
use Rattle.dover_port.specs.declared.status.Status.{Status}
use Rattle.dover_port.specs.declared.status.Status.TheVariants.{Done, No, Refused, ReadFault, WriteFault, Memory, Usage}
use Rattle.dialogue.specs.Talk.{IsFinal, IsOver}
use Rattle.dialogue.specs.Turns.{AnswersBy}
use Rattle.dialogue.specs.declared.talker.Stop.{Stop}
use Rattle.dialogue.specs.declared.talker.Stop.TheVariants.{NoMemory, Unwritten}
use Rattle.event_feed.specs.Answers.{short_after}
use Rattle.event_feed.specs.Kept.{cause_of_fault}
use Rattle.event_feed.specs.declared.faults.FeedFault.{FeedFault}
use Rattle.task_words.specs.declared.tasks.task.PeriodicTask.{PeriodicTask}
use Rattle.task_words.specs.reading.Account.{account, is_open}
use Rattle.task_words.specs.reading.Record.{IsEnded, IsRefusedBy, listed_rules}
use Rattle.task_words.specs.declared.reading.listed.ListedTasks.{ListedTasks}
use Rattle.task_words.proofs.reading.Accounts.{goes_on, open_by_test}
use Rattle.task_words.specs.declared.asking.question.TaskQuestion.{TaskQuestion}
use Rattle.task_words.specs.declared.asking.question.TaskQuestion.TheVariants.{Unroll, Sure, Budget}
use Rattle.task_words.specs.asking.Questions.{Says, until_of}
use Rattle.task_words.specs.asking.Putting.{SaysBy}
use Rattle.task_words.specs.asking.Talk.{IsRefusedAt, IsSaid, tasks_talk}
use Rattle.task_words.specs.asking.Texts.{refusal_text, refusal_lines}

-- ---- a text that is refused

-- the line of a fault is what refuses a text that has it
pub faulty_is : (until line : ℕ) (cause : Cause) (x : List ℕ) → (account until x).standing ≡ Faulty line cause
    → fault_text line cause ++ 10 ∷ [] ≡ refusal_text until x
faulty_is until line cause x faulty =
    sym (append-nil _) ∙ sym (ap (λ s. in_lines (refusal_lines (length (whole_lines x)) s)) faulty)

-- that of one that goes on says that it is short
pub short_is : (until : ℕ) (fault : FeedFault) (x : List ℕ) → is_open (account until x) ≡ true
    → fault ≡ short_after (length (whole_lines x))
    → fault_text fault.line (cause_of_fault fault.cause) ++ 10 ∷ [] ≡ refusal_text until x
short_is until fault x opened short =
    ap (λ (f : FeedFault). fault_text f.line (cause_of_fault f.cause) ++ 10 ∷ []) short ∙ sym (append-nil _)
    ∙ sym (ap (λ s. in_lines (refusal_lines (length (whole_lines x)) s)) (open_by_test (account until x) opened))

-- so what is known of the fault is
refusal_is : (until : ℕ) (fault : FeedFault) (x : List ℕ) → IsRefusedBy until fault x
    → fault_text fault.line (cause_of_fault fault.cause) ++ 10 ∷ [] ≡ refusal_text until x
refusal_is until fault x (inl faulty) = faulty_is until fault.line (cause_of_fault fault.cause) x faulty.0
refusal_is until fault x (inr short) = short_is until fault x short.0 short.1

-- a line is at fault, or the input has ended
refused_at : (question : TaskQuestion) (fault : FeedFault) (x : List ℕ) (ended : Bool)
    → IsRefusedBy (until_of question) fault x → IsOver (tasks_talk question) x ended
    → IsRefusedAt (until_of question) x ended
refused_at question fault x ended (inl faulty) over = inl (fault.line, cause_of_fault fault.cause, faulty.0)
refused_at question fault x ended (inr short) over = inr (sym over ∙ short.0, short.0)

-- this line is an answer
pub refused : (question : TaskQuestion) (fault : FeedFault) (x : List ℕ) (ended : Bool)
    → IsRefusedBy (until_of question) fault x → IsOver (tasks_talk question) x ended
    → (tasks_talk question).answer x ended Refused (fault_text fault.line (cause_of_fault fault.cause) ++ 10 ∷ [])
refused question fault x ended by over = inl (
  refl,
  refused_at question fault x ended by over,
  refusal_is (until_of question) fault x by,
)

-- ---- a text that is ended

-- what is said of tasks comes with a final status
says_final : (question : TaskQuestion) (rules : Declaration) (tasks : List PeriodicTask) (status : Status)
    (text : List ℕ) → Says question rules tasks status text → IsFinal status
says_final question rules tasks Done text says = tt
says_final question rules tasks Refused text says = tt
says_final question rules tasks No text says = tt
says_final (Unroll until) rules tasks ReadFault text says = absurd says
says_final (Unroll until) rules tasks WriteFault text says = absurd says
says_final (Unroll until) rules tasks Memory text says = absurd says
says_final (Unroll until) rules tasks Usage text says = absurd says
says_final Sure rules tasks ReadFault text says = absurd says
says_final Sure rules tasks WriteFault text says = absurd says
says_final Sure rules tasks Memory text says = absurd says
says_final Sure rules tasks Usage text says = absurd says
says_final (Budget cost) rules tasks ReadFault text says = absurd says
says_final (Budget cost) rules tasks WriteFault text says = absurd says
says_final (Budget cost) rules tasks Memory text says = absurd says
says_final (Budget cost) rules tasks Usage text says = absurd says

module _ (question : TaskQuestion) (x : List ℕ) (ended : Bool) (over : IsOver (tasks_talk question) x ended)
    (listed : ListedTasks) (by : IsEnded (until_of question) listed x) (a b : Option (List Move)) (q : List ℕ) where
  -- this is said of the tasks
  said : (status : Status) (text : List ℕ) → Says question (listed_rules listed) listed.tasks.items status text
      → IsSaid question status text x
  said status text it = record {
    ended = by.ended;
    rules = listed_rules listed;
    rules_are = by.rules;
    said = subst (λ ts. Says question (listed_rules listed) ts status text) (sym by.tasks) it;
  }

  -- what is to be said of the tasks was put
  pub answered : (r : Result Status Stop) → SaysBy (Says question (listed_rules listed) listed.tasks.items) a b q r
      → AnswersBy (tasks_talk question) x ended a b q r
  answered (Ok status) put = (
    says_final question (listed_rules listed) listed.tasks.items status put.0 put.1,
    (put.0, inr (said status put.0 put.1), put.2),
  )
  answered (Err Unwritten) cut = (cut.0, cut.1, inr (said cut.0 cut.1 cut.2), cut.3)
  answered (Err NoMemory) none = (sym over ∙ ap goes_on by.ended, none)
