use Rattle.dover_model.proofs.texts.FeedLines.{feed_line-feed_text, feed_text-feed_line}
use Rattle.dover_model.proofs.sessions.Accounts.{due_grows}
use Rattle.dover_model.proofs.sessions.Former.{no_finishes, job_refused}
use Rattle.dover_model.proofs.sessions.SessionParts.{may_be_refused-agrees, session_declared}
use Rattle.dover_model.proofs.sessions.NeverFull.{valid_never, few_never, former_never}
use Rattle.dover_model.specs.Trace.{session_of, session_of_run}
use Rattle.dover_model.proofs.sessions.JobSessions.{session_of_valid, instance_back}
use Rattle.dover_model.proofs.sessions.RunSessions.{run_session_valid, run_jobs, same_printed}
use Rattle.dover_model.proofs.traces.Named.{same_trace, beginnings_pass}
use Rattle.dover_model.proofs.traces.NamedJobs.{same_jobs}
use Rattle.dover_model.proofs.traces.WrongStays.{begun, wrong_verdict_stays}
use Rattle.dover_model.proofs.traces.Accepting.{trace_accepted, feed_hands, feed_accepted}
use Rattle.dover_model.proofs.traces.AcceptedTexts.{accepted_is_trace}
use Rattle.dover_model.proofs.trace_laws.laws_of_traces.Goals as goal

pub returns-clause-written_lines_are_read : goal.returns-clause-written_lines_are_read
returns-clause-written_lines_are_read c = feed_line-feed_text

pub returns-clause-read_lines_were_written_so : goal.returns-clause-read_lines_were_written_so
returns-clause-read_lines_were_written_so c = feed_text-feed_line

pub returns-clause-due_only_grows : goal.returns-clause-due_only_grows
returns-clause-due_only_grows c = due_grows

pub returns-clause-sessions_of_one_and_two_are_as_they_were_finishes :
    goal.returns-clause-sessions_of_one_and_two_are_as_they_were_finishes
returns-clause-sessions_of_one_and_two_are_as_they_were_finishes c = no_finishes

pub returns-clause-sessions_of_one_and_two_are_as_they_were_refused :
    goal.returns-clause-sessions_of_one_and_two_are_as_they_were_refused
returns-clause-sessions_of_one_and_two_are_as_they_were_refused c S mark r former may =
    job_refused S mark r former ((may_be_refused-agrees S mark r).0 may)

pub returns-clause-sessions_that_are_never_full_valid : goal.returns-clause-sessions_that_are_never_full_valid
returns-clause-sessions_that_are_never_full_valid c = valid_never

pub returns-clause-sessions_that_are_never_full_few : goal.returns-clause-sessions_that_are_never_full_few
returns-clause-sessions_that_are_never_full_few c = few_never

pub returns-clause-sessions_that_are_never_full_former : goal.returns-clause-sessions_that_are_never_full_former
returns-clause-sessions_that_are_never_full_former c = former_never

pub returns-clause-valid_jobs_are_a_valid_session_session : goal.returns-clause-valid_jobs_are_a_valid_session_session
returns-clause-valid_jobs_are_a_valid_session_session c = λ J plain valid. (
  λ session. (session_declared session, valid_never (session_of J) session),
  λ both. session_of_valid J plain valid both.0 both.1,
)

pub returns-clause-valid_jobs_are_a_valid_session_instance : goal.returns-clause-valid_jobs_are_a_valid_session_instance
returns-clause-valid_jobs_are_a_valid_session_instance c = instance_back

pub returns-clause-runs_are_valid_sessions_session : goal.returns-clause-runs_are_valid_sessions_session
returns-clause-runs_are_valid_sessions_session c =
    λ J three valid. (valid_never (session_of_run J), run_session_valid J valid three)

pub returns-clause-runs_are_valid_sessions_jobs : goal.returns-clause-runs_are_valid_sessions_jobs
returns-clause-runs_are_valid_sessions_jobs c = run_jobs

pub returns-clause-runs_are_valid_sessions_printed : goal.returns-clause-runs_are_valid_sessions_printed
returns-clause-runs_are_valid_sessions_printed c = same_printed

pub returns-clause-a_trace_names_its_jobs_sessions : goal.returns-clause-a_trace_names_its_jobs_sessions
returns-clause-a_trace_names_its_jobs_sessions c = same_trace

pub returns-clause-a_trace_names_its_jobs_jobs : goal.returns-clause-a_trace_names_its_jobs_jobs
returns-clause-a_trace_names_its_jobs_jobs c = same_jobs

pub returns-clause-beginnings_of_traces_each : goal.returns-clause-beginnings_of_traces_each
returns-clause-beginnings_of_traces_each c = beginnings_pass

pub returns-clause-beginnings_of_traces_no_other : goal.returns-clause-beginnings_of_traces_no_other
returns-clause-beginnings_of_traces_no_other c line ls passes = let it = begun line ls passes in
    (it.session, it.valid, it.begins)

pub returns-clause-wrong_verdicts_stay : goal.returns-clause-wrong_verdicts_stay
returns-clause-wrong_verdicts_stay c = wrong_verdict_stays

pub returns-clause-valid_traces_are_accepted : goal.returns-clause-valid_traces_are_accepted
returns-clause-valid_traces_are_accepted c = trace_accepted

pub returns-clause-accepted_texts_are_traces : goal.returns-clause-accepted_texts_are_traces
returns-clause-accepted_texts_are_traces c = accepted_is_trace

pub returns-clause-ended_feeds_are_accepted_session : goal.returns-clause-ended_feeds_are_accepted_session
returns-clause-ended_feeds_are_accepted_session c F ended =
    let it = feed_hands F ended in (it.session, it.has, it.valid)

pub returns-clause-ended_feeds_are_accepted_trace : goal.returns-clause-ended_feeds_are_accepted_trace
returns-clause-ended_feeds_are_accepted_trace c F S ended has = (feed_accepted F S ended has).1

pub returns-clause-ended_feeds_are_accepted_verdict : goal.returns-clause-ended_feeds_are_accepted_verdict
returns-clause-ended_feeds_are_accepted_verdict c F S ended has = (feed_accepted F S ended has).2
