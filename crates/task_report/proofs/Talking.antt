-- What the word says: its laws.
use Rattle.std.proofs.Common.{◌≡◌, ℕ, List, ◌++◌, [], refl, sym, ap, ◌∙◌, subst, Bool, true, false, not, inl, inr}
use Rattle.std.proofs.Common.{append-nil}
use Rattle.dover_model.specs.Common.{Standing, Open, Ended, Faulty}
use Rattle.dover_model.specs.Verdict.{verdict}
use Rattle.dover_port.specs.declared.status.Status.{Status}
use Rattle.dover_port.specs.declared.status.Status.TheVariants.{Done, No, Refused, ReadFault, WriteFault, Memory, Usage}
use Rattle.dialogue.specs.Talk.{IsSteady}
use Rattle.trace_judge.specs.Judging.{is_wrong}
use Rattle.trace_words.specs.judge.Line.{verdict_text}
use Rattle.trace_words.specs.judge.Talking as trace
use Rattle.trace_words.proofs.judge.Talking.{told_same, wrong_same, spent_behind}
use Rattle.task_words.specs.declared.tasks.task.PeriodicTask.{PeriodicTask}
use Rattle.task_words.specs.declared.asking.question.TaskQuestion.TheVariants.{Sure}
use Rattle.task_words.specs.reading.Account.{TaskAccount, account, is_open}
use Rattle.task_words.proofs.reading.Accounts as accounts
use Rattle.task_words.proofs.asking.Talking.{refusal_stays, refused_stays}
use Rattle.task_report.specs.Behind.{behind}
use Rattle.task_report.specs.Talk.{IsSaid, SaysReport, task_report_talk}
use Rattle.task_report.specs.Talk as talk
use Rattle.task_report.specs.Talking.{Costs}
use Rattle.task_report.specs.declared.form.TaskForm.{TaskForm}
use Rattle.task_report.proofs.Behind.{all_behind, past}

-- whether more is to be read behind these bytes
abbrev pub more_at : List ℕ → Bool
more_at x = talk.goes_on (account 0 x).standing (behind x)

-- where no more is, the task text is over
pub over_closed : (x : List ℕ) → more_at x ≡ false → is_open (account 0 x) ≡ false
over_closed x over = by (account 0 x).standing over where
  by : (s : Standing) → talk.goes_on s (behind x) ≡ false → accounts.goes_on s ≡ false
  by Open it = it
  by Ended it = refl
  by (Faulty line cause) it = refl

-- nothing follows a task text that goes on
pub behind_open : (x : List ℕ) → is_open (account 0 x) ≡ true → behind x ≡ []
behind_open x opened = ap (λ z. behind z) (sym (append-nil x)) ∙ past [] x [] opened

-- more is to be read behind it
pub goes_open : (x : List ℕ) → is_open (account 0 x) ≡ true → more_at x ≡ true
goes_open x opened = by (account 0 x).standing opened where
  by : (s : Standing) → accounts.goes_on s ≡ true → talk.goes_on s (behind x) ≡ true
  by Open it = refl
  by Ended it = absurd (let e : false ≡ true = it in cc)
  by (Faulty line cause) it = it

-- what is said of a trace whose verdict stays
report_same : (form : TaskForm) (tasks : List PeriodicTask) (z y text : List ℕ) → verdict (z ++ y) ≡ verdict z
    → (status : Status) → SaysReport form tasks status z text → SaysReport form tasks status (z ++ y) text
report_same form tasks z y text same Done it = record {
  session = it.session;
  valid = it.valid;
  accepted = same ∙ it.accepted;
  fits = it.fits;
  reports = it.reports;
}
report_same form tasks z y text same No it = (told_same z y same No it.0, it.1 ∙ ap verdict_text (sym same))
report_same form tasks z y text same Refused it = (
  record {
    session = it.0.session;
    valid = it.0.valid;
    accepted = same ∙ it.0.accepted;
    unfit = it.0.unfit;
  },
  it.1,
)
report_same form tasks z y text same ReadFault it = absurd it
report_same form tasks z y text same WriteFault it = absurd it
report_same form tasks z y text same Memory it = absurd it
report_same form tasks z y text same Usage it = absurd it

module _ (x y : List ℕ) where
  module _ (closed : is_open (account 0 x) ≡ false) where
    -- what follows a text that is over goes on with the bytes
    pub behind_more : behind (x ++ y) ≡ behind x ++ y
    behind_more = all_behind [] x y closed

    -- its account stays
    pub account_stays : account 0 (x ++ y) ≡ account 0 x
    account_stays = accounts.closed_account 0 x y closed

  module _ (over : more_at x ≡ false) where
    closed : is_open (account 0 x) ≡ false
    closed = over_closed x over

    -- no more is to be read then
    more_stays : more_at (x ++ y) ≡ false
    more_stays = ap (λ (a : TaskAccount). talk.goes_on a.standing (behind (x ++ y))) (account_stays closed)
        ∙ by (account 0 x).standing over where
          by : (s : Standing) → talk.goes_on s (behind x) ≡ false → talk.goes_on s (behind (x ++ y)) ≡ false
          by Open it = it
          by Ended it = ap (λ z. not (is_wrong (verdict z))) (behind_more closed)
              ∙ ap (λ v. not (is_wrong v)) (wrong_same (behind x) y it) ∙ it
          by (Faulty line cause) it = refl

    -- the same is said
    said_stays : (form : TaskForm) (status : Status) (text : List ℕ) → IsSaid form status text x
        → IsSaid form status text (x ++ y)
    said_stays form status text it =
        let wrong : not (is_wrong (verdict (behind x))) ≡ false =
        subst (λ s. talk.goes_on s (behind x) ≡ false) it.0 over in (
          ap (λ (a : TaskAccount). a.standing) (account_stays closed) ∙ it.0,
          subst (λ (a : TaskAccount). SaysReport form a.tasks status (behind (x ++ y)) text)
              (sym (account_stays closed))
              (subst (λ z. SaysReport form (account 0 x).tasks status z text) (sym (behind_more closed))
              (report_same form (account 0 x).tasks (behind x) y text (wrong_same (behind x) y wrong) status it.1)),
        )

    -- bytes behind those that end the talk change no answer
    answer_stays : (form : TaskForm) (status : Status) (text : List ℕ)
        → (task_report_talk form).answer x false status text
        → (task_report_talk form).answer (x ++ y) false status text
    answer_stays form status text (inl refused) = inl (
      refused.0,
      refused_stays Sure x y closed refused.1,
      refused.2 ∙ refusal_stays Sure x y closed,
    )
    answer_stays form status text (inr said) = inr (said_stays form status text said)

-- the laws of the talk
pub steady : (form : TaskForm) → IsSteady (task_report_talk form)
steady form = record {
  opens = refl;
  nothing = refl;
  grows = λ x y. ([], refl);
  stays = λ x y over. more_stays x y over;
  answered = λ x y status text over it. answer_stays x y over form status text it;
  lacking = λ x y it ended. absurd (let e : false ≡ true = ended in cc);
}

-- more bytes allow what fewer did
pub costs_behind : (start steps : ℕ) (x y : List ℕ) → Costs start steps x → Costs start steps (x ++ y)
costs_behind start steps x y costs = by (is_open (account 0 x)) refl where
  by : (b : Bool) → is_open (account 0 x) ≡ b → Costs start steps (x ++ y)
  by true opened = spent_behind start steps [] (behind (x ++ y))
      (subst (λ z. trace.Costs start steps z) (behind_open x opened) costs)
  by false closed = subst (λ z. trace.Costs start steps z) (sym (behind_more x y closed))
      (spent_behind start steps (behind x) y costs)
