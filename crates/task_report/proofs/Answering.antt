-- What is put at the end is an answer.
use Rattle.std.proofs.Common.{◌≡◌, ℕ, List, [], ◌∷◌, ◌++◌, length, refl, sym, ap, ◌∙◌, subst, Option, Result, Ok, Err}
use Rattle.std.proofs.Common.{Bool, inl, inr}
use Rattle.dover_model.specs.Common.{fault_text, whole_lines}
use Rattle.dover_port.specs.Moves.{Move}
use Rattle.dover_port.specs.declared.status.Status.{Status}
use Rattle.dover_port.specs.declared.status.Status.TheVariants.{Done, No, Refused, ReadFault, WriteFault, Memory, Usage}
use Rattle.dialogue.specs.Talk.{IsFinal, IsOver}
use Rattle.dialogue.specs.Turns.{AnswersBy}
use Rattle.dialogue.specs.declared.talker.Stop.{Stop}
use Rattle.dialogue.specs.declared.talker.Stop.TheVariants.{NoMemory, Unwritten}
use Rattle.event_feed.specs.Answers.{short_after}
use Rattle.event_feed.specs.Kept.{cause_of_fault}
use Rattle.event_feed.specs.declared.faults.FeedFault.{FeedFault}
use Rattle.trace_judge.specs.Judging.{Judged}
use Rattle.task_words.specs.declared.tasks.task.PeriodicTask.{PeriodicTask}
use Rattle.task_words.specs.reading.Account.{TaskAccount, is_open}
use Rattle.task_words.specs.reading.Record.{IsEnded, IsRefusedBy}
use Rattle.task_words.specs.declared.reading.listed.ListedTasks.{ListedTasks}
use Rattle.task_words.specs.declared.reading.reader.TaskReader.{TaskReader}
use Rattle.task_words.specs.asking.Talk.{IsRefusedAt}
use Rattle.task_words.specs.asking.Texts.{refusal_text}
use Rattle.task_words.proofs.asking.Ending.{faulty_is, short_is}
use Rattle.task_report.specs.Behind.{behind}
use Rattle.task_report.specs.Talk.{IsSaid, SaysReport, task_report_talk}
use Rattle.task_report.specs.Talking.{Call, IsReady}
use Rattle.task_report.specs.Telling.{TellsBy}
use Rattle.task_report.specs.declared.form.TaskForm.{TaskForm}
use Rattle.task_report.proofs.Talking.{goes_open}
use Rattle.task_report.proofs.Reading.{front_all}

-- what is said of tasks and a trace comes with a final status
says_final : (form : TaskForm) (tasks : List PeriodicTask) (status : Status) (trace text : List ℕ)
    → SaysReport form tasks status trace text → IsFinal status
says_final form tasks Done trace text it = tt
says_final form tasks No trace text it = tt
says_final form tasks Refused trace text it = tt
says_final form tasks ReadFault trace text it = absurd it
says_final form tasks WriteFault trace text it = absurd it
says_final form tasks Memory trace text it = absurd it
says_final form tasks Usage trace text it = absurd it

module _ (call : Call) (form : TaskForm) (reader : TaskReader) (judge : Judged) (steps : ℕ) (x : List ℕ)
    (at : IsReady call form reader judge steps x) (ended : Bool)
    (over : IsOver (task_report_talk call.form) x ended) where
  -- ---- a task text that is refused

  -- a line is at fault, or the input has ended, and this is the line that refuses the text
  refused_here : (fault : FeedFault) → IsRefusedBy 0 fault at.front
      → IsRefusedAt 0 x ended × (fault_text fault.line (cause_of_fault fault.cause) ++ 10 ∷ [] ≡ refusal_text 0 x)
  refused_here fault (inl faulty) = let is = ap (λ (a : TaskAccount). a.standing) at.same ∙ faulty.0 in (
    inl (fault.line, cause_of_fault fault.cause, is),
    faulty_is 0 fault.line (cause_of_fault fault.cause) x is,
  )
  refused_here fault (inr short) = let opened = ap is_open at.same ∙ short.0 in (
    inr (sym over ∙ goes_open x opened, opened),
    short_is 0 fault x opened (subst (λ z. fault ≡ short_after (length (whole_lines z)))
        (front_all call form reader judge steps x at opened) short.1),
  )

  pub refused : (fault : FeedFault) → IsRefusedBy 0 fault at.front
      → (task_report_talk call.form).answer x ended Refused
      (fault_text fault.line (cause_of_fault fault.cause) ++ 10 ∷ [])
  refused fault by = let it = refused_here fault by in inl (refl, it.0, it.1)

  -- ---- one that has ended

  module _ (listed : ListedTasks) (by : IsEnded 0 listed at.front) (a b : Option (List Move)) (q : List ℕ) where
    -- this is said of its tasks and of what follows
    said : (status : Status) (text : List ℕ) → SaysReport form listed.tasks.items status (behind x) text
        → IsSaid call.form status text x
    said status text it = (
      ap (λ (a : TaskAccount). a.standing) at.same ∙ by.ended,
      subst (λ ts. SaysReport call.form ts status (behind x) text)
          (sym (ap (λ (a : TaskAccount). a.tasks) at.same ∙ by.tasks))
          (subst (λ f. SaysReport f listed.tasks.items status (behind x) text) at.asks it),
    )

    -- what is to be told was put
    pub answered : (r : Result Status Stop) → TellsBy form listed.tasks.items (behind x) a b q r
        → AnswersBy (task_report_talk call.form) x ended a b q r
    answered (Ok status) put =
        let final = says_final form listed.tasks.items status (behind x) put.0 put.1 in
        (final, (put.0, inr (said status put.0 put.1), put.2))
    answered (Err Unwritten) cut = (cut.0, cut.1, inr (said cut.0 cut.1 cut.2), cut.3)
    answered (Err NoMemory) none =
        ((λ _. (ap (λ (a : TaskAccount). a.standing) at.same ∙ by.ended, none.0)), none.1)
