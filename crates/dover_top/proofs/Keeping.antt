-- What is promised of what was read and written.
use Rattle.std.proofs.Common.{◌≡◌, ◌≤◌, ℕ, List, ◌++◌, Bool, true, refl, sym, ap, ◌∙◌, inl, inr, subst, take, drop}
use Rattle.std.proofs.Common.{Option, Some, None, take-append-drop}
use Rattle.dover_model.specs.Common.{Instance, IsValid, jobs_under, JobFacts, instance_of, IsDeclarable, verdict, due}
use Rattle.dover_model.specs.Common.{account, is_ended, is_open, Fraction, IsRatio, most_jobs}
use Rattle.dover_model.specs.Common.{Standing, Open, Ended, Faulty, Session, IsValidSession}
use Rattle.dover_model.specs.Session.{takes_factors}
use Rattle.dover_model.specs.declared.factors.Factor.{Factor}
use Rattle.dover_model.specs.declared.events.Version.{Version}
use Rattle.dover_model.specs.declared.events.Version.TheVariants.{One, Two}
use Rattle.dover_model.proofs.traces.Accepting.{feed_hands, feed_accepted}
use Rattle.dover_model.proofs.traces.AcceptedTexts.{accepted_is_trace}
use Rattle.dover_model.proofs.bound.BoundLaws.{bound, observed_bound}
use Rattle.dover_model.proofs.runs.Honest.{observed_honest, observed_all}
use Rattle.dover_model.proofs.finishes.Meeting.{on_line_finishes}
use Rattle.dover_model.proofs.runs.Runs.{none_lost, all_value}
use Rattle.dover_model.proofs.lists.Tests.{never}
use Rattle.dover_model.proofs.valid.Valid.{valid_front}
use Rattle.dialogue.specs.Reading.{SaysAt}
use Rattle.dover_port.specs.Moves.{Move, ins, outs, has_ended}
use Rattle.dover_port.specs.declared.status.Status.TheVariants.{Done, Refused}
use Rattle.feed_words.specs.serve.Talk.{PausesAt, IsServedAs}
use Rattle.feed_words.specs.declared.serve.at_end.AtEnd.{AtEnd}
use Rattle.feed_words.specs.declared.serve.at_end.AtEnd.TheVariants as ends
use Rattle.lane_server.proofs.Feeding.{ended_over as said_ended}
use Rattle.feed_words.specs.resume.Record as resumed
use Rattle.trace_words.specs.judge.Talk.{IsTrace}
use Rattle.question_words.specs.Talk as asked
use Rattle.stated_jobs.proofs.trial.Drawn.{valid as generated_valid}
use Rattle.stated_jobs.proofs.bait.Completions.{completes_last_alone}
use Rattle.stated_jobs.specs.bait.Baiting.{FitsLimits}
use Rattle.stated_jobs.specs.bait.BaitingRuns.{version_for}
use Rattle.stated_jobs.proofs.bait.Validity.{some_bait, valid as bait_valid}
use Rattle.stated_jobs.proofs.bait.Plans.{plan_worth}
use Rattle.stated_jobs.specs.declared.duel.links.Share.{Share}
use Rattle.stated_jobs.specs.duel.Kept.{IsShare}
use Rattle.stated_jobs.specs.duel.Answers.{jobs_for, front_of, IsDuel}
use Rattle.stated_jobs.specs.duel.Game.{AreValid}
use Rattle.stated_jobs.proofs.duel.Losing.{each_loses}
use Rattle.event_feed.specs.Feeds.{IsFeedOf, feed_of}
use Rattle.event_feed.proofs.FeedsOfJobs.{feed_is}
use Rattle.dover_model.proofs.sessions.JobSessions.{jobs_never}
use Rattle.trial_words.specs.Dueled.{duel_front}
use Rattle.trial_words.specs.Lists.{trial_instance}
use Rattle.trial_words.specs.Baited.{bait_instance}
use Rattle.dover_top.specs.Promises.{KeepsPromises, IsTraceOf, IsResumed, IsAccepted, KeepsBaits, IsRun, KeepsDuel}
use Rattle.task_report.specs.Behind.{behind}
use Rattle.task_report.specs.Talk.{task_report_talk}
use Rattle.task_report.specs.declared.form.TaskForm.{TaskForm}
use Rattle.dover_model.proofs.sessions.SessionParts.{session_jobs}
use Rattle.dover_model.proofs.valid.ValidParts.{valid_parts}

-- the run of a valid list keeps the promises
pub promises_of : (J : Instance) → IsValid J → KeepsPromises J
promises_of J valid = record {
  bound = λ s. bound J s valid;
  observed_bound = λ s. observed_bound J s valid;
  honest = observed_honest J valid;
  as_declared = observed_all J valid;
  on_line = λ t K valid_too rules known finishes. on_line_finishes t J K valid valid_too rules known finishes;
  none_lost = none_lost J valid;
  all_value = all_value J valid;
}

-- what is due for a feed that ended is the trace of its session
pub trace_of : (feed written : List ℕ) → is_ended (account feed) ≡ true → written ≡ due feed → IsTraceOf feed written
trace_of feed written ended same =
    let hands = feed_hands feed ended in
    let accepted = feed_accepted feed hands.session ended hands.has in
    record {
      session = hands.session;
      ended = ended;
      named = hands.has;
      valid = hands.valid;
      text = same ∙ accepted.1;
      accepted = ap verdict same ∙ accepted.2;
      promises = promises_of (instance_of hands.session) (session_jobs hands.valid);
    }

-- ---- a feed that was served

-- one that is paused goes on
pauses_open : (at_end : AtEnd) (x : List ℕ) → PausesAt at_end x → is_open (account x) ≡ true
pauses_open ends.Refuse x none = absurd none
pauses_open ends.Pause x may = may.going_on

-- one that ended has its trace
pub served : (at_end : AtEnd) (x : List ℕ) (ended : Bool) (written : List ℕ)
    → IsServedAs at_end x ended Done written → is_ended (account x) ≡ true → IsTraceOf x written
served at_end x ended written (inl it) over = trace_of x written it.0 it.1
served at_end x ended written (inr it) over =
    never (sym (said_ended (account x) over) ∙ pauses_open at_end x it.1)

-- and it ended, unless it may be paused
pub traced : (x : List ℕ) (ended : Bool) (written : List ℕ) → IsServedAs ends.Refuse x ended Done written
    → IsTraceOf x written
traced x ended written (inl it) = trace_of x written it.0 it.1
traced x ended written (inr it) = absurd it.1

-- behind its snapshot
pub resumed_so : (at_end : AtEnd) (moves : List Move) → resumed.Ends at_end Done moves → IsResumed moves
resumed_so at_end moves (inl none) = absurd none
resumed_so at_end moves (inr it) = record {
  feed = it.feed;
  more = it.more;
  may = it.may;
  read = it.read;
  each = λ F H may read. served at_end (F ++ H) (has_ended moves) (due F ++ outs moves)
      (it.each F H may read).answer;
}

-- ---- a text that was judged, a feed that was asked about, and stated lists

pub accepted : (bytes : List ℕ) → IsTrace bytes → IsAccepted bytes
accepted bytes it = record {
  session = it.0;
  valid = it.1;
  text = (accepted_is_trace bytes it.0 it.2).1;
  accepted = it.2;
  promises = promises_of (instance_of it.0) (session_jobs it.1);
}

pub reported : (form : TaskForm) (ended : Bool) (text : List ℕ) (moves : List Move)
    → (task_report_talk form).answer (ins moves) ended Done text → IsAccepted (behind (ins moves))
reported form ended text moves (inl refused) = absurd (let e : Done ≡ Refused = refused.0 in cc)
reported form ended text moves (inr said) =
    accepted (behind (ins moves)) (said.1.session, said.1.valid, said.1.accepted)

-- where something is said of a feed's jobs, it is of those of a valid session
asked_of : (says : asked.Says) (lines : ℕ) (s : Standing) (o : Option Session) (text : List ℕ)
    → SaysAt lines s (asked.SaysOf says o) Done text → (S : Session) × (o ≡ Some S) × IsValidSession S
asked_of says lines Open o text it = absurd (let e : Done ≡ Refused = it.0 in cc)
asked_of says lines (Faulty line cause) o text it = absurd (let e : Done ≡ Refused = it.0 in cc)
asked_of says lines Ended None text it = absurd it
asked_of says lines Ended (Some S) text it = (S, refl, it.0)

pub ran : (says : asked.Says) (ended : Bool) (text : List ℕ) (moves : List Move)
    → (asked.ask_talk says).answer (ins moves) ended Done text → IsRun moves
ran says ended text moves (inl refused) = absurd (let e : Done ≡ Refused = refused.1 in cc)
ran says ended text moves (inr said) =
    let it = asked_of says (account (ins moves)).lines (account (ins moves)).standing (account (ins moves)).session text
    said.1 in
    record {
      session = it.0;
      named = it.1;
      promises = promises_of (instance_of it.0) (session_jobs it.2);
    }

pub generated : (k : Fraction) (seed count : ℕ) → IsRatio k → count ≤ most_jobs Two
    → KeepsPromises (trial_instance k seed count)
generated k seed count allowed few =
    promises_of (trial_instance k seed count) (generated_valid k allowed seed count One few)

pub baited : (k : Fraction) (rounds : ℕ) → IsRatio k → 1 ≤ rounds → FitsLimits k rounds → KeepsBaits k rounds
baited k rounds allowed some fits =
    let valid = bait_valid k rounds allowed fits (some_bait k rounds allowed some fits) (version_for k) in
    record {
      schedule = plan_worth k rounds (version_for k);
      last = completes_last_alone k (version_for k) rounds some valid;
      promises = promises_of (bait_instance k rounds) valid;
    }

-- a front of valid jobs is valid
front_valid : (k : Fraction) (front : Option ℕ) (jobs : List JobFacts) → AreValid One k jobs
    → AreValid One k (front_of front jobs)
front_valid k None jobs valid = valid
front_valid k (Some count) jobs valid = valid_front (jobs_under One k (take count jobs)) (drop count jobs)
    (subst (λ js. AreValid One k js) (sym (take-append-drop count jobs)) valid)

-- where there is no factor, any version may be declared
no_factor : (k : Fraction) (version : Version) → k.factor ≡ None
    → IsDeclarable (record { ratio = k; version = version })
no_factor k version plain =
    subst (λ (o : Option Factor). elim o [ None ↦ true | Some f ↦ takes_factors version ] ≡ true) (sym plain) refl

pub dueled : (k : Fraction) (share : Share) (front : Option ℕ) (moves : List Move) → k.factor ≡ None → IsShare share
    → IsDuel k share front → outs moves ≡ feed_of (duel_front k share front) → KeepsDuel k share front moves
dueled k share front moves plain is it written = record {
  loses = λ scheduler online. each_loses One k share.whole share.part scheduler is.some_part it.valid
      (valid_parts it.valid).count online;
  feed = subst (IsFeedOf (duel_front k share front)) (sym written)
      (feed_is (duel_front k share front) (front_valid k front (jobs_for k share) it.valid) (no_factor k One plain) refl
      (jobs_never (duel_front k share front)
      (valid_parts (front_valid k front (jobs_for k share) it.valid)).count));
}
