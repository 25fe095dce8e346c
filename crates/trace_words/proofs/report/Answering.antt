-- What is told of a text, and what is put of it.
use Rattle.std.proofs.Common.{◌≡◌, ℕ, List, [], refl, sym, ap, ◌∙◌, subst, Option, Bool, true, Result, Ok, Err}
use Rattle.std.proofs.Common.{IsOk, IfOk, false}
use Rattle.run_record.specs.intervals.Rows.{IsRunOf}
use Rattle.dover_model.specs.Common.{Fraction, Instance, IsListable, printed, instance_of}
use Rattle.dover_model.specs.Verdict as model
use Rattle.dover_model.specs.declared.events.Event.{Event}
use Rattle.dover_model.specs.declared.events.Version.{Version}
use Rattle.dover_port.specs.Moves.{Move, Passes, CutsShort}
use Rattle.dover_port.specs.declared.status.Status.{Status}
use Rattle.dover_port.specs.declared.status.Status.TheVariants.{Done, Refused}
use Rattle.dialogue.specs.Sizes.{size_text}
use Rattle.dialogue.specs.Talk.{IsFinal}
use Rattle.dialogue.specs.Turns.{AnswersBy}
use Rattle.dialogue.specs.declared.talker.Stop.{Stop}
use Rattle.dialogue.specs.declared.talker.Stop.TheVariants.{NoMemory, Unwritten}
use Rattle.trace_words.specs.judge.Line.{verdict_text, status_of}
use Rattle.trace_words.specs.judge.Talk.{IsTrace}
use Rattle.trace_words.proofs.judge.Talking.{by_verdict}
use Rattle.trace_judge.specs.Judging.{Tells, steps_told}
use Rattle.trace_judge.specs.declared.verdict.Verdict.{Verdict}
use Rattle.trace_judge.specs.declared.verdict.Verdict.TheVariants.{Accepted, Wrong, Short}
use Rattle.trace_words.specs.declared.report.form.Form.{Form}
use Rattle.trace_words.specs.report.Talk.{IsListed, IsReport, IsTold, SaysReport, report_talk}
use Rattle.trace_words.specs.report.Talking.{Puts}
use Rattle.dover_model.proofs.sessions.SessionParts.{session_jobs}

-- the run of equal steps
pub same_run : (k : Fraction) (J : Instance) (es fs : List Event) → es ≡ fs → IsRunOf k fs J → IsRunOf k es J
same_run k J es fs same is = subst (λ xs. IsRunOf k xs J) (sym same) is

-- ---- what is put

module _ {V E : Type 0} (items : V → List ℕ) (Holds : List ℕ → Type 0) where
  -- what holds of a text that stands in memory holds of what is said, if that is this text
  of_whole : (text : Result V E) (said : List ℕ) → IsOk text × IfOk text (λ v. said ≡ items v)
      → IfOk text (λ v. Holds (items v)) → Holds said
  of_whole (Ok v) said it holds = subst Holds (sym it.1) holds
  of_whole (Err e) said it holds = absurd (let e : false ≡ true = it.0 in cc)

  -- what was put of it
  pub whole_put : {T : Type 0} (text : Result V E) (r : Result T Stop) (a b : Option (List Move)) (q : List ℕ)
      → Puts r a b q (λ said. IsOk text × IfOk text (λ v. said ≡ items v)) → IfOk text (λ v. Holds (items v))
      → Puts r a b q Holds
  whole_put text (Ok x) a b q put holds = (put.0, of_whole text put.0 put.1 holds, put.2)
  whole_put text (Err NoMemory) a b q none holds = none
  whole_put text (Err Unwritten) a b q cut holds = (cut.0, of_whole text cut.0 cut.1 holds, cut.2)

-- nothing is said of what was made
pub all_ok : {T E : Type 0} (made : Result T E) → IfOk made (λ x. Unit {0})
all_ok (Ok x) = tt
all_ok (Err e) = tt

module _ (form : Form) (text : List ℕ) (ended : Bool) (a b : Option (List Move)) (q : List ℕ) where
  -- what is said was put
  says_put : (status : Status) → IsFinal status → (said : List ℕ) → SaysReport form status text said
      → Passes a b [] q said → AnswersBy (report_talk form) text ended a b q (Ok status)
  says_put status final said says put = (final, (said, says, put))

  -- it couldn't be put
  says_cut : (status : Status) (said : List ℕ) → SaysReport form status text said → CutsShort a b [] said
      → AnswersBy (report_talk form) text ended a b q (Err Unwritten)
  says_cut status said says cut = (status, said, says, cut)

module _ (k : Fraction) (version : Version) (value most jobs : ℕ) (text : List ℕ)
    (tells : Tells (Accepted k version value most jobs) text) where
  -- it is a trace
  trace : IsTrace text
  trace = (tells.0, tells.7.valid, tells.1)

  -- where the jobs of the session are listable, they are those of the trace
  listed : IsListable (instance_of tells.0) → IsListed text
  listed it S is =
      let told : model.Accepted tells.0 ≡ model.Accepted S = sym tells.1 ∙ is in
      let same : tells.0 ≡ S = cc in
      subst (λ S. IsListable (instance_of S)) same it

  module _ (steps : List Event) (are : steps ≡ steps_told true (model.verdict text)) where
    -- the steps that were kept are those that the run prints
    pub prints : printed (instance_of tells.0) ≡ steps
    prints = sym (are ∙ ap (steps_told true) tells.1)

    -- and so they are of a run that is reported on
    pub run_of : IsListable (instance_of tells.0) → IsRunOf k steps (instance_of tells.0)
    run_of it = record {
      valid = session_jobs tells.7.valid;
      listable = it;
      ratio = sym tells.2;
      prints = prints;
    }

  module _ (form : Form) (ended : Bool) (a b : Option (List Move)) (q : List ℕ) where
    -- ---- the report

    module _ (it : IsListable (instance_of tells.0)) where
      -- the report is told of it
      says_report : (said : List ℕ) → IsReport form (instance_of tells.0) said → SaysReport form Done text said
      says_report said is = (trace, listed it, subst (λ v. IsTold form v said) (sym tells.1) is)

      -- the report was put
      pub reported : (x : Unit {0}) → Puts (Ok x) a b q (IsReport form (instance_of tells.0))
          → AnswersBy (report_talk form) text ended a b q (Ok Done)
      reported x put = says_put form text ended a b q Done tt put.0 (says_report put.0 put.1) put.2

      -- it wasn't
      pub unreported : (stop : Stop) → Puts {T = Unit {0}} (Err stop) a b q (IsReport form (instance_of tells.0))
          → AnswersBy (report_talk form) text ended a b q (Err stop)
      unreported NoMemory none_put = (λ _. trace, none_put)
      unreported Unwritten cut = says_cut form text ended a b q Done cut.0 (says_report cut.0 cut.1) cut.2

    -- ---- too many jobs

    module _ (none : q ≡ []) (too_many : IsListable (instance_of tells.0) → ⊥) where
      -- so it is refused
      says_size : (said : List ℕ) → said ≡ size_text → SaysReport form Refused text said
      says_size said is = (trace, (λ all. too_many (all tells.0 tells.1)), is)

      -- that was put
      pub refused_size : (x : Unit {0}) → Puts (Ok x) a b [] (λ said. said ≡ size_text)
          → AnswersBy (report_talk form) text ended a b q (Ok Refused)
      refused_size x put = says_put form text ended a b q Refused tt put.0 (says_size put.0 put.1) (rw none put.2)

      -- it wasn't
      pub unrefused_size : (stop : Stop) → Puts {T = Unit {0}} (Err stop) a b [] (λ said. said ≡ size_text)
          → AnswersBy (report_talk form) text ended a b q (Err stop)
      unrefused_size NoMemory none_put = (λ _. trace, rw none none_put)
      unrefused_size Unwritten cut = says_cut form text ended a b q Refused cut.0 (says_size cut.0 cut.1) cut.2

-- ---- the line of a verdict

module _ (form : Form) (v : Verdict) (text : List ℕ) (ended : Bool) (tells : Tells v text)
    (none : (k : Fraction) (version : Version) (value most jobs : ℕ) → v ≡ Accepted k version value most jobs → ⊥)
    (a b : Option (List Move)) (q : List ℕ) where
  -- it is what is told of a text that isn't accepted
  line_told : IsFinal (status_of v) × SaysReport form (status_of v) text (verdict_text (model.verdict text))
  line_told = by_verdict_of v tells none where
    by_verdict_of : (v : Verdict) → Tells v text
        → ((k : Fraction) (version : Version) (value most jobs : ℕ) → v ≡ Accepted k version value most jobs → ⊥)
        → IsFinal (status_of v) × SaysReport form (status_of v) text (verdict_text (model.verdict text))
    by_verdict_of (Accepted k version value most jobs) tells none = absurd (none k version value most jobs refl)
    by_verdict_of (Wrong line due) tells none =
        (tt, ((by_verdict (Wrong line due) text tells).1, subst (λ w. IsTold form w (verdict_text w)) (sym tells) refl))
    by_verdict_of (Short lines) tells none =
        (tt, ((by_verdict (Short lines) text tells).1, subst (λ w. IsTold form w (verdict_text w)) (sym tells) refl))

  -- it was put
  pub refused : Passes a b [] q (verdict_text (model.verdict text))
      → AnswersBy (report_talk form) text ended a b q (Ok (status_of v))
  refused put = says_put form text ended a b q (status_of v) line_told.0 _ line_told.1 put

  -- it couldn't be put
  pub unrefused : CutsShort a b [] (verdict_text (model.verdict text))
      → AnswersBy (report_talk form) text ended a b q (Err Unwritten)
  unrefused cut = says_cut form text ended a b q (status_of v) _ line_told.1 cut
