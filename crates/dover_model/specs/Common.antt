-- The definitions that most crates cite, passed on from one place. Declares nothing. What the code declares comes
-- through it to the proofs of this crate alone: a crate passes on to others no more than its definitions.
pub use Rattle.dover_model.specs.declared.Memory.{Memory}
pub use Rattle.dover_model.specs.declared.events.Entry.{Entry}
pub use Rattle.dover_model.specs.declared.events.Event.{Event}
pub use Rattle.dover_model.specs.declared.events.Event.TheVariants.{Abandon, Complete, End, Preempt, Release, Run, Take}
pub use Rattle.dover_model.specs.declared.events.Refusal.{Refusal}
pub use Rattle.dover_model.specs.declared.events.Refusal.TheVariants.{BadJob, Count, Full, Late, Ratio, Total}
pub use Rattle.dover_model.specs.declared.events.Role.{Role}
pub use Rattle.dover_model.specs.declared.events.Role.TheVariants.{Coming, Done, Fresh, Gone, Held, Running, Waiting}
pub use Rattle.dover_model.specs.declared.events.Task.{Task}
pub use Rattle.dover_model.specs.declared.events.Version.{Version}
pub use Rattle.dover_model.specs.declared.events.Version.TheVariants.{Four, One, Three, Two}
pub use Rattle.dover_model.specs.declared.factors.Factor.{Factor}
pub use Rattle.dover_model.specs.declared.horizon.Horizon.{Horizon}
pub use Rattle.dover_model.specs.declared.horizon.Horizon.TheVariants.{Mark}
pub use Rattle.dover_model.specs.declared.pieces.Piece.{Piece}
pub use Rattle.dover_model.specs.Limits.{idle, last_tick, last_tick_in, most_items, most_jobs, most_lines, most_p}
pub use Rattle.dover_model.specs.Limits.{most_q}
pub use Rattle.dover_model.specs.Limits.{most_ready, most_total, most_value, most_work}
pub use Rattle.dover_model.specs.JobFacts.{is_job, IsJob, job_numbers, job_of_numbers, JobFacts}
pub use Rattle.dover_model.specs.Fraction.{factor_numbers, Fraction, fraction, is_ratio, is_some_factor, IsRatio}
pub use Rattle.dover_model.specs.Fraction.{ratio_with, with_factor}
pub use Rattle.dover_model.specs.Finishes.{Finish, goes_on, has_come_to, is_due, is_finish_of, need}
pub use Rattle.dover_model.specs.Instance.{bare, Declaration, declared_by, finishing, having, Instance, is_valid}
pub use Rattle.dover_model.specs.Instance.{is_within_ratio, IsInOrder, IsListable, IsValid, jobs_under, last_deadline}
pub use Rattle.dover_model.specs.Instance.{Rules}
pub use Rattle.dover_model.specs.Instance.{total_value, under, with_finishes, with_jobs}
pub use Rattle.dover_model.specs.Schedules.{earned, is_served, Meets, numbered, ticks_given, worth}
pub use Rattle.dover_model.specs.State.{demand_by, demand_up_to, held, is_coming, is_done, is_fresh, is_held}
pub use Rattle.dover_model.specs.State.{is_open_job}
pub use Rattle.dover_model.specs.State.{is_over, is_privileged, is_ready_behind, is_running, is_waiting, latest_start}
pub use Rattle.dover_model.specs.State.{least}
pub use Rattle.dover_model.specs.State.{left, opening, privileged, room, running, State, state_at, to_come, value_sum}
pub use Rattle.dover_model.specs.State.{waiting, with_later}
pub use Rattle.dover_model.specs.Ready.{is_ready, with_fresh}
pub use Rattle.dover_model.specs.Entries.{entry_of, is_due_before, is_start_before, IsStrictOrder, room_of, wins_tie}
pub use Rattle.dover_model.specs.Orders.{by_density, due_first, earlier, first, is_heavy, is_less_dense, IsByDeadline}
pub use Rattle.dover_model.specs.Orders.{IsHeavy, starts_before}
pub use Rattle.dover_model.specs.Orders.{waiting_order}
pub use Rattle.dover_model.specs.Step.{after, alarm, arrival, completion, decision, declared_open_step, declared_step}
pub use Rattle.dover_model.specs.Step.{dispatch, displaced, due_finish, ending, finish_or, is_at_latest_start, Move}
pub use Rattle.dover_model.specs.Step.{open_step, preempts, Prints, resumed, role_after, runs, step, ticked, Ticks}
pub use Rattle.dover_model.specs.Step.{seen_by, urgent_or, View, view, Waits, with_role, ◌or_else◌}
pub use Rattle.dover_model.specs.Run.{completed_value, enough, event_of, is_end, number_running, printed}
pub use Rattle.dover_model.specs.Run.{printed_of, ran, run, Step, tick_of, value_of_end}
pub use Rattle.dover_model.specs.Sound.{Each, EachTwo, FitsRole, HaveTheSame, IsMember, IsNumberedFrom, IsSound}
pub use Rattle.dover_model.specs.Sound.{jobs_of, Keeps, NoneRuns}
pub use Rattle.dover_model.specs.Jumps.{later_by, NothingDue, ticked_by}
pub use Rattle.dover_model.specs.Settled.{AllComeFrom, AreOverFor, AreYetToCome, finish_now, last_of, RunsAtMark}
pub use Rattle.dover_model.specs.Settled.{settled, settled_from, settled_state, settled_steps, tick_of_event}
pub use Rattle.dover_model.specs.Settled.{waits_for_mark}
pub use Rattle.dover_model.specs.Horizons.{due_by, Gives, is_end_given, is_ready_after, MayFollow, no_jobs}
pub use Rattle.dover_model.specs.Observed.{end_state, observed, observing, served}
pub use Rattle.dover_model.specs.Rest.{anew, AreOwn, before_end, behind, behind_finish, completed_turns, end_tick}
pub use Rattle.dover_model.specs.Rest.{followed_by, instead_with, IsAtRest, IsTurn, later_event, later_job, names_end}
pub use Rattle.dover_model.specs.Rest.{NoneBefore, one_run, printed_anew, printed_turns, Turn, turn_under}
pub use Rattle.dover_model.specs.Rest.{turns_finishes, turns_jobs, turns_observed, TurnsEnd}
pub use Rattle.dover_model.specs.WholeRun.{Begins, EndsOver, IsBarrier, IsBefore, IsSettledRun, IsWholeRun, open_at}
pub use Rattle.dover_model.specs.WholeRun.{step_at}
pub use Rattle.dover_model.specs.Paths.{HasPrinted, IsOpenPath, IsPath}
pub use Rattle.dover_model.specs.Leading.{floor_after, GoesOn, Idles, IsSilent, Leads, Passes, PrintsNext, Settles}
pub use Rattle.dover_model.specs.Leading.{WaitsUntil}
pub use Rattle.dover_model.specs.Online.{finishes_up_to, known_at, printed_up_to}
pub use Rattle.dover_model.specs.Underload.{SomeRuns, takes_or_abandons}
pub use Rattle.dover_model.specs.WaitingMoves.{enters, leaves, role_then, waits_then}
pub use Rattle.dover_model.specs.Weights.{one_if, standing, stands, weight, weight_in}
pub use Rattle.dover_model.specs.Spending.{cost_of, CostsAtMost, exits, exits_scale, HasSpentFor, HasSpentFreely}
pub use Rattle.dover_model.specs.Spending.{waiting_count, waits_among}
pub use Rattle.dover_model.specs.Processor.{changes_hands, gets, is_complete, is_preempt_of, is_run, is_take_of}
pub use Rattle.dover_model.specs.Processor.{runner_of}
pub use Rattle.dover_model.specs.Greatest.{greatest, IsGreatest}
pub use Rattle.dover_model.specs.Bound.{bound, bound_by, is_within, is_within_by, is_within_root, IsWithin, scale}
pub use Rattle.dover_model.specs.Bound.{share}
pub use Rattle.dover_model.specs.Parts.{part_of}
pub use Rattle.dover_model.specs.Numerals.{AreShort, is_plain, number_onto, numeral, numerals}
pub use Rattle.dover_model.specs.Lines.{cut, fields_of, in_lines, is_too_long, line_of, lines_of, numbers_after}
pub use Rattle.dover_model.specs.Lines.{numbers_of, rest_of, whole_lines, with_numbers}
pub use Rattle.dover_model.specs.Admission.{is_within_ratio_both_ways, refusal_of}
pub use Rattle.dover_model.specs.Session.{admitted_jobs, early_at, early_finishes, EarlyFinish, finish_at}
pub use Rattle.dover_model.specs.Session.{finish_of_item, FinishItem, instance_of, is_full, is_right, is_same_refusal}
pub use Rattle.dover_model.specs.Session.{is_valid_session, IsDeclarable, IsNeverFull, IsValidSession, Item}
pub use Rattle.dover_model.specs.Session.{job_of_item, JobItem, late_refusal, mark_after, may_be_refused}
pub use Rattle.dover_model.specs.Session.{may_finish_early, new_session, ready_at, refusal_at, refusal_in, Refused}
pub use Rattle.dover_model.specs.Session.{refused_at, refused_done_at, refused_mark, refused_of_item, RefusedDone}
pub use Rattle.dover_model.specs.Session.{RefusedItem, RefusedJob, RefusedLine, refuses_lines, Session, session_with}
pub use Rattle.dover_model.specs.Session.{with_item, with_named}
pub use Rattle.dover_model.specs.Text.{header, header_numbers, refusal_word, refused_line, refused_numbers}
pub use Rattle.dover_model.specs.Text.{refused_text, refused_word, step_numbers, text_of, version_number}
pub use Rattle.dover_model.specs.Trace.{early_of, handed_by, lines_among, Placed, places_after, places_of, Printed}
pub use Rattle.dover_model.specs.Trace.{put_in, Refuses, session_of, session_of_run, text_of_line, texts_among, trace}
pub use Rattle.dover_model.specs.Trace.{trace_lines, trace_of_session, TraceLine}
pub use Rattle.dover_model.specs.FeedLine.{DoneLine, EndLine, FactorLine, feed_line, feed_text, FeedLine, HasNumerals}
pub use Rattle.dover_model.specs.FeedLine.{JobLine, line_of_fields, RatioLine, TickLine}
pub use Rattle.dover_model.specs.Feed.{Account, account, account_of_lines, Cause, cause_of, Declared, declared_rules}
pub use Rattle.dover_model.specs.Feed.{declared_version, Ended, factor_rules, Faulty, first_line_cause, is_ended}
pub use Rattle.dover_model.specs.Feed.{is_open, late_cause, later_line_cause, Line, Lines, most_lines_in, next_line}
pub use Rattle.dover_model.specs.Feed.{no_lines, NotAdmitted, NotDone, Open, Order, read_line, rules_with, Standing}
pub use Rattle.dover_model.specs.Feed.{with_fault, with_good_line, with_line, with_refused_at}
pub use Rattle.dover_model.specs.Due.{closed, decided_lines, due, due_lines, fault_text, short_lines}
pub use Rattle.dover_model.specs.Verdict.{Accepted, begins_trace, begins_trace_of, ends_with_end, Expected}
pub use Rattle.dover_model.specs.Verdict.{expected_after, first_wrong, good_verdict, Header, is_empty, item_of}
pub use Rattle.dover_model.specs.Verdict.{named_behind, named_item, named_session, Nothing, refused_count, rules_of}
pub use Rattle.dover_model.specs.Verdict.{text_lines, Verdict, verdict, version_of_number, Wrong, wrong_verdict}
pub use Rattle.dover_model.specs.Intervals.{intervals, value_of}
pub use Rattle.dover_model.specs.Books.{completed_in, in_rows, is_busy_tick, IsDense, IsExcess, IsExcessBy}
pub use Rattle.dover_model.specs.Books.{IsLeastDense, IsPaid, IsPaidBy, IsRow, Job, job_value, Row, row_sum, TakenIn}
pub use Rattle.dover_model.specs.Reports.{is_preemption, is_take, report, summary, summary_lines, table}
pub use Rattle.dover_model.specs.Pieces.{edf, edf_from, given, last_release, spread, stretches}
pub use Rattle.dover_model.specs.Windows.{crosses, crossing_beside, is_inside, IsOverfull, work_inside, worth_beside}
pub use Rattle.dover_model.specs.Generator.{generated_jobs, generated_jobs_from, high_bits, job_of_draws, most_density}
pub use Rattle.dover_model.specs.Generator.{next_state}
pub use Rattle.dover_model.specs.Bait.{bait_jobs, bait_plan, bait_tick, bait_value, chain, chain_from, chain_jobs}
pub use Rattle.dover_model.specs.Bait.{chain_jobs_from, first_link, last_link, most_light, plan_value, tight_job}
pub use Rattle.dover_model.specs.Bait.{unit_value}
