-- What is told of tasks and of a text that was judged.
use Rattle.std.proofs.Common.{◌≡◌, ℕ, List, [], ◌∷◌, ◌++◌, refl, sym, ap, ◌∙◌, subst, length, map, filter, Option}
use Rattle.std.proofs.Common.{Ok, Err, ◌==◌, true}
use Rattle.std.specs.List.{enumerate_from}
use Rattle.dover_model.specs.Common.{Instance, JobFacts, IsValid, Session, IsValidSession, instance_of, in_lines}
use Rattle.dover_model.specs.Common.{IsListable, printed}
use Rattle.dover_model.specs.Verdict as model
use Rattle.dover_model.specs.Verdict.{verdict}
use Rattle.dover_model.specs.declared.events.Event.{Event}
use Rattle.dover_model.specs.declared.events.Version.{Version}
use Rattle.dover_model.specs.Common.{Fraction}
use Rattle.dover_model.proofs.lists.Beginnings.{in_lines-append}
use Rattle.dover_model.proofs.sessions.SessionParts.{session_jobs}
use Rattle.dover_port.specs.Moves.{Move, Passes, CutsShort}
use Rattle.dover_port.proofs.Through.{passes_nothing}
use Rattle.dover_port.specs.declared.status.Status.TheVariants.{Done, Refused}
use Rattle.dialogue.specs.Sizes.{size_text}
use Rattle.dialogue.specs.declared.talker.Stop.{Stop}
use Rattle.dialogue.specs.declared.talker.Stop.TheVariants.{NoMemory, Unwritten}
use Rattle.run_record.specs.intervals.Rows.{IsRunOf}
use Rattle.run_reports.specs.report.Counts.{jobs_released}
use Rattle.run_reports.proofs.report.Counting.{run_releases}
use Rattle.run_reports.proofs.report.Texts.{one_line}
use Rattle.trace_judge.specs.Judging.{Tells, steps_told}
use Rattle.trace_judge.specs.declared.verdict.Verdict.{Verdict}
use Rattle.trace_judge.specs.declared.verdict.Verdict.TheVariants.{Accepted, Wrong, Short}
use Rattle.trace_words.specs.judge.Line.{verdict_text, status_of}
use Rattle.trace_words.specs.report.Talking.{Puts}
use Rattle.trace_words.proofs.judge.Talking.{by_verdict}
use Rattle.task_words.specs.budget.Budgets.{task_at}
use Rattle.task_words.specs.declared.tasks.task.PeriodicTask.{PeriodicTask}
use Rattle.task_report.specs.Talk.{SaysReport}
use Rattle.task_report.specs.Tallies.{all_together, task_of}
use Rattle.task_report.specs.Pictures.{Fits, IsTaskReport}
use Rattle.task_report.specs.Telling.{IsRunBy, TellsBy}
use Rattle.task_report.specs.Texts.{other_line, report, task_line}
use Rattle.task_report.specs.Writing.{report_in, task_lines}
use Rattle.task_report.specs.declared.form.TaskForm.{TaskForm}
use Rattle.task_report.specs.declared.form.TaskForm.TheVariants.{Lines, Timeline, Svg}
use Rattle.task_report.specs.declared.tally.Tally.{Tally}

-- ---- the report

-- the report on a run, with the jobs that it is made of
abbrev report_of : List PeriodicTask → List Event → List JobFacts → List ℕ
report_of tasks steps jobs =
    let tally : ℕ → Tally = λ y. all_together steps (filter (λ n_j. task_of tasks n_j.1 == y) (enumerate_from 0 jobs))
    in in_lines (map (λ n_t. task_line n_t.0 (tally n_t.0) (task_at tasks n_t.0).name) (enumerate_from 0 tasks)
    ++ other_line (tally (length tasks)) ∷ [])

-- what is written by the printed steps is the report
pub report_is : (tasks : List PeriodicTask) (J : Instance) (steps : List Event) → IsValid J → steps ≡ printed J
    → report_in tasks steps ≡ report tasks J
report_is tasks J steps valid are =
    ap (λ es. report_in tasks es) are
    ∙ ap (λ t. in_lines (task_lines tasks (printed J)) ++ t)
    (sym (one_line (other_line (all_together (printed J)
    (filter (λ n_j. task_of tasks n_j.1 == length tasks) (enumerate_from 0 (jobs_released (printed J))))))))
    ∙ sym (in_lines-append (task_lines tasks (printed J)) _)
    ∙ ap (λ jobs. report_of tasks (printed J) jobs) (run_releases J valid (printed J) refl)

-- there was no memory for it
pub told_none : (tasks : List PeriodicTask) (trace : List ℕ) (S : Session) → IsValidSession S
    → verdict trace ≡ model.Accepted S → (now : Option (List Move)) (q : List ℕ) → q ≡ []
    → TellsBy Lines tasks trace now now q (Err NoMemory)
told_none tasks trace S valid accepted now q empty =
    ((S, valid, accepted), subst (λ p. Passes now now p q []) empty (passes_nothing now q))

module _ (tasks : List PeriodicTask) (trace : List ℕ) (S : Session) (valid : IsValidSession S)
    (accepted : verdict trace ≡ model.Accepted S) (steps : List Event) (are : steps ≡ printed (instance_of S))
    (a b : Option (List Move)) (q : List ℕ) where
  -- it is what is said of the tasks and the trace
  says : SaysReport Lines tasks Done trace (report_in tasks steps)
  says = record {
    session = S;
    valid = valid;
    accepted = accepted;
    fits = tt;
    reports = report_is tasks (instance_of S) steps (session_jobs valid) are;
  }

  -- it was put
  pub told_put : Passes a b [] q (report_in tasks steps) → TellsBy Lines tasks trace a b q (Ok Done)
  told_put put = (report_in tasks steps, says, put)

  -- it couldn't be put
  pub told_cut : CutsShort a b [] (report_in tasks steps) → TellsBy Lines tasks trace a b q (Err Unwritten)
  told_cut cut = (Done, report_in tasks steps, says, cut)

-- ---- a picture

-- the run of a session that a report keeps
pub run_of : (S : Session) (version : Version) (ratio : Fraction) (steps : List Event)
    → IsRunBy S version ratio steps → IsListable (instance_of S) → IsRunOf ratio steps (instance_of S)
run_of S version ratio steps of it = record {
  valid = session_jobs of.valid;
  listable = it;
  ratio = of.ratio_is;
  prints = sym of.prints;
}

-- that of a text that was judged, with the judge's last word on it
pub run_by : (k : Fraction) (version : Version) (value most jobs : ℕ) (trace : List ℕ)
    (tells : Tells (Accepted k version value most jobs) trace) (steps : List Event)
    → steps ≡ steps_told true (verdict trace) → IsRunBy tells.0 version k steps
run_by k version value most jobs trace tells steps are = record {
  valid = tells.7.valid;
  version_is = sym tells.3;
  ratio_is = sym tells.2;
  prints = are ∙ ap (λ v. steps_told true v) tells.1;
}

-- where a picture is asked for it fits exactly what a report keeps
fits_listed : (form : TaskForm) (J : Instance) → (form ≡ Lines → ⊥) → IsListable J → Fits form J
fits_listed Lines J drawn it = tt
fits_listed (Timeline window) J drawn it = it
fits_listed (Svg window) J drawn it = it

listed_fits : (form : TaskForm) (J : Instance) → (form ≡ Lines → ⊥) → Fits form J → IsListable J
listed_fits Lines J drawn it = absurd (drawn refl)
listed_fits (Timeline window) J drawn it = it
listed_fits (Svg window) J drawn it = it

module _ (form : TaskForm) (tasks : List PeriodicTask) (drawn : form ≡ Lines → ⊥) (trace : List ℕ) (S : Session)
    (accepted : verdict trace ≡ model.Accepted S) (version : Version) (ratio : Fraction) (steps : List Event)
    (of : IsRunBy S version ratio steps) (a b : Option (List Move)) where
  -- ---- it is drawn

  module _ (listable : IsListable (instance_of S)) where
    -- it is what is said of the tasks and the trace
    says_drawn : (said : List ℕ) → IsTaskReport form tasks (instance_of S) said → SaysReport form tasks Done trace said
    says_drawn said is = record {
      session = S;
      valid = of.valid;
      accepted = accepted;
      fits = fits_listed form (instance_of S) drawn listable;
      reports = is;
    }

    -- it was put
    pub drawn_put : (x : Unit {0}) → Puts (Ok x) a b [] (IsTaskReport form tasks (instance_of S))
        → TellsBy form tasks trace a b [] (Ok Done)
    drawn_put x put = (put.0, says_drawn put.0 put.1, put.2)

    -- it couldn't be put, or there was no memory for it
    pub drawn_cut : (stop : Stop) → Puts {T = Unit {0}} (Err stop) a b [] (IsTaskReport form tasks (instance_of S))
        → TellsBy form tasks trace a b [] (Err stop)
    drawn_cut NoMemory none = ((S, of.valid, accepted), none)
    drawn_cut Unwritten cut = (Done, cut.0, says_drawn cut.0 cut.1, cut.2)

  -- ---- it is too much

  module _ (unlisted : IsListable (instance_of S) → ⊥) where
    says_size : (said : List ℕ) → said ≡ size_text → SaysReport form tasks Refused trace said
    says_size said is = (
      record {
        session = S;
        valid = of.valid;
        accepted = accepted;
        unfit = λ it. unlisted (listed_fits form (instance_of S) drawn it);
      },
      is,
    )

    pub size_put : (x : Unit {0}) → Puts (Ok x) a b [] (λ said. said ≡ size_text)
        → TellsBy form tasks trace a b [] (Ok Refused)
    size_put x put = (put.0, says_size put.0 put.1, put.2)

    pub size_cut : (stop : Stop) → Puts {T = Unit {0}} (Err stop) a b [] (λ said. said ≡ size_text)
        → TellsBy form tasks trace a b [] (Err stop)
    size_cut NoMemory none = ((S, of.valid, accepted), none)
    size_cut Unwritten cut = (Refused, cut.0, says_size cut.0 cut.1, cut.2)

-- ---- the line of a verdict

module _ (form : TaskForm) (tasks : List PeriodicTask) (v : Verdict) (trace : List ℕ) (tells : Tells v trace)
    (none : (k : Fraction) (version : Version) (value most jobs : ℕ) → v ≡ Accepted k version value most jobs → ⊥)
    (a b : Option (List Move)) (q : List ℕ) where
  -- it is what is said of a text that isn't accepted
  line_told : SaysReport form tasks (status_of v) trace (verdict_text (verdict trace))
  line_told = by v tells none where
    by : (v : Verdict) → Tells v trace
        → ((k : Fraction) (version : Version) (value most jobs : ℕ) → v ≡ Accepted k version value most jobs → ⊥)
        → SaysReport form tasks (status_of v) trace (verdict_text (verdict trace))
    by (Accepted k version value most jobs) tells none = absurd (none k version value most jobs refl)
    by (Wrong line due) tells none = ((by_verdict (Wrong line due) trace tells).1, refl)
    by (Short lines) tells none = ((by_verdict (Short lines) trace tells).1, refl)

  -- it was put
  pub line_put : Passes a b [] q (verdict_text (verdict trace)) → TellsBy form tasks trace a b q (Ok (status_of v))
  line_put put = (verdict_text (verdict trace), line_told, put)

  -- it couldn't be put
  pub line_cut : CutsShort a b [] (verdict_text (verdict trace)) → TellsBy form tasks trace a b q (Err Unwritten)
  line_cut cut = (status_of v, verdict_text (verdict trace), line_told, cut)
