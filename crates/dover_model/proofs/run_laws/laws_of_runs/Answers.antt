use Rattle.dover_model.proofs.steps.Kept.{opening_keeps, step_kept, open_kept}
use Rattle.dover_model.proofs.runs.RunLaws.{one_run}
use Rattle.dover_model.proofs.runs.Ending.{run_is_whole, run_over, few_printed}
use Rattle.dover_model.proofs.settled.Settling.{settled_is_run}
use Rattle.dover_model.proofs.settled.Barriers.{settled_at_barrier, state_after}
use Rattle.dover_model.proofs.settled.Prefixes.{settled_prefix, printed_prefix}
use Rattle.dover_model.proofs.finishes.Meeting.{on_line_finishes}
use Rattle.dover_model.proofs.runs.Runs.{run_busy, none_lost, all_value}
use Rattle.dover_model.proofs.runs.Calm.{four_is_three, three_is_four}
use Rattle.dover_model.proofs.runs.OneDensity.{one_density}
use Rattle.dover_model.proofs.runs.WaitingMoves.{few_waiting_moves}
use Rattle.dover_model.proofs.runs.Once.{takes_once, preempts_once, runs_complete}
use Rattle.dover_model.proofs.runs.Honest.{observed_honest, observed_all}
use Rattle.dover_model.proofs.settled.Later.{same_step}
use Rattle.std.proofs.Common.{arith, ap}
use Rattle.dover_model.proofs.steps.Jumping.{later_by-zero, after-later_by, later_keeps, later_ticks}
use Rattle.dover_model.proofs.finishes.Further.{settled_still, printed_still, settled_same, stays_at_mark}
use Rattle.dover_model.proofs.finishes.Further.{next_at_mark, over_open, over_step}
use Rattle.dover_model.specs.State.{opening}
use Rattle.dover_model.proofs.settled.LastSteps.{last_tells}
use Rattle.dover_model.proofs.finishes.Processors.{right_by_prints}
use Rattle.dover_model.proofs.run_laws.laws_of_runs.Goals as goal

pub returns-clause-states_stay_sound_opening : goal.returns-clause-states_stay_sound_opening
returns-clause-states_stay_sound_opening c = opening_keeps

pub returns-clause-states_stay_sound_by_step : goal.returns-clause-states_stay_sound_by_step
returns-clause-states_stay_sound_by_step c J s valid keeps = step_kept J valid s keeps J.rules

pub returns-clause-states_stay_sound_by_open_step : goal.returns-clause-states_stay_sound_by_open_step
returns-clause-states_stay_sound_by_open_step c J s valid keeps = open_kept J valid s keeps J.rules

pub returns-clause-one_whole_run : goal.returns-clause-one_whole_run
returns-clause-one_whole_run c = one_run

pub returns-clause-runs_end_whole : goal.returns-clause-runs_end_whole
returns-clause-runs_end_whole c = run_is_whole

pub returns-clause-runs_end_over : goal.returns-clause-runs_end_over
returns-clause-runs_end_over c = run_over

pub returns-clause-few_steps_are_printed : goal.returns-clause-few_steps_are_printed
returns-clause-few_steps_are_printed c = few_printed

pub returns-clause-settled_steps_reach_the_barrier : goal.returns-clause-settled_steps_reach_the_barrier
returns-clause-settled_steps_reach_the_barrier c = settled_is_run

pub returns-clause-the_barrier_is_at_the_mark_sound : goal.returns-clause-the_barrier_is_at_the_mark_sound
returns-clause-the_barrier_is_at_the_mark_sound c = λ J mark valid. (settled_at_barrier J valid mark).keeps

pub returns-clause-the_barrier_is_at_the_mark_clock : goal.returns-clause-the_barrier_is_at_the_mark_clock
returns-clause-the_barrier_is_at_the_mark_clock c = λ J mark valid. (settled_at_barrier J valid mark).clock

pub returns-clause-the_barrier_is_at_the_mark_late : goal.returns-clause-the_barrier_is_at_the_mark_late
returns-clause-the_barrier_is_at_the_mark_late c = λ J mark valid. (settled_at_barrier J valid mark).barrier

pub returns-clause-the_barrier_is_at_the_mark_none_fresh : goal.returns-clause-the_barrier_is_at_the_mark_none_fresh
returns-clause-the_barrier_is_at_the_mark_none_fresh c = λ J mark valid. (settled_at_barrier J valid mark).none_fresh

pub returns-clause-settled_steps_stay_while_open : goal.returns-clause-settled_steps_stay_while_open
returns-clause-settled_steps_stay_while_open c J more mark mark2 valid_more late ordered =
    settled_prefix J more mark valid_more late mark2 ordered

pub returns-clause-settled_steps_stay_at_the_end : goal.returns-clause-settled_steps_stay_at_the_end
returns-clause-settled_steps_stay_at_the_end c J more mark valid_more late = printed_prefix J more mark valid_more late

pub returns-clause-runs_are_on_line : goal.returns-clause-runs_are_on_line
returns-clause-runs_are_on_line c = on_line_finishes

pub returns-clause-the_processor_is_busy : goal.returns-clause-the_processor_is_busy
returns-clause-the_processor_is_busy c = run_busy

pub returns-clause-underload_loses_nothing_none_lost : goal.returns-clause-underload_loses_nothing_none_lost
returns-clause-underload_loses_nothing_none_lost c = none_lost

pub returns-clause-underload_loses_nothing_all_value : goal.returns-clause-underload_loses_nothing_all_value
returns-clause-underload_loses_nothing_all_value c = all_value

pub returns-clause-four_is_three_where_no_job_is_abandoned_four :
    goal.returns-clause-four_is_three_where_no_job_is_abandoned_four
returns-clause-four_is_three_where_no_job_is_abandoned_four c = four_is_three

pub returns-clause-four_is_three_where_no_job_is_abandoned_three :
    goal.returns-clause-four_is_three_where_no_job_is_abandoned_three
returns-clause-four_is_three_where_no_job_is_abandoned_three c = three_is_four

pub returns-clause-four_is_three_where_jobs_are_of_one_density :
    goal.returns-clause-four_is_three_where_jobs_are_of_one_density
returns-clause-four_is_three_where_jobs_are_of_one_density c = one_density

pub returns-clause-few_jobs_begin_or_cease_to_wait : goal.returns-clause-few_jobs_begin_or_cease_to_wait
returns-clause-few_jobs_begin_or_cease_to_wait c = few_waiting_moves

pub returns-clause-a_job_takes_at_most_once_takes : goal.returns-clause-a_job_takes_at_most_once_takes
returns-clause-a_job_takes_at_most_once_takes c = takes_once

pub returns-clause-a_job_takes_at_most_once_preempts : goal.returns-clause-a_job_takes_at_most_once_preempts
returns-clause-a_job_takes_at_most_once_preempts c = preempts_once

pub returns-clause-a_job_takes_at_most_once_runs : goal.returns-clause-a_job_takes_at_most_once_runs
returns-clause-a_job_takes_at_most_once_runs c = runs_complete

pub returns-clause-runs_are_honest_observed : goal.returns-clause-runs_are_honest_observed
returns-clause-runs_are_honest_observed c = observed_honest

pub returns-clause-runs_are_honest_as_declared : goal.returns-clause-runs_are_honest_as_declared
returns-clause-runs_are_honest_as_declared c = observed_all

pub returns-clause-later_jobs_change_no_settled_step : goal.returns-clause-later_jobs_change_no_settled_step
returns-clause-later_jobs_change_no_settled_step c rules s more mark later settled =
    same_step rules s more mark later.0 later.1 settled

pub returns-clause-silent_ticks_jump_none : goal.returns-clause-silent_ticks_jump_none
returns-clause-silent_ticks_jump_none c = later_by-zero

pub returns-clause-silent_ticks_jump_one_more : goal.returns-clause-silent_ticks_jump_one_more
returns-clause-silent_ticks_jump_one_more c = λ s n. after-later_by n s

pub returns-clause-silent_ticks_jump_sound : goal.returns-clause-silent_ticks_jump_sound
returns-clause-silent_ticks_jump_sound c = λ J s n valid keeps due. later_keeps J valid s keeps n due n (omega arith)

pub returns-clause-silent_ticks_jump_ticks : goal.returns-clause-silent_ticks_jump_ticks
returns-clause-silent_ticks_jump_ticks c = λ J s n i valid keeps due. later_ticks J valid s keeps n due i

pub returns-clause-further_finishes_change_nothing_settled_while_open :
    goal.returns-clause-further_finishes_change_nothing_settled_while_open
returns-clause-further_finishes_change_nothing_settled_while_open c =
    λ J more mark mark2 valid later none. settled_still J valid more mark none mark2 later

pub returns-clause-further_finishes_change_nothing_settled_at_the_end :
    goal.returns-clause-further_finishes_change_nothing_settled_at_the_end
returns-clause-further_finishes_change_nothing_settled_at_the_end c =
    λ J more mark valid none. printed_still J valid more mark none

pub returns-clause-finishes_yet_to_come_change_nothing_settled_steps :
    goal.returns-clause-finishes_yet_to_come_change_nothing_settled_steps
returns-clause-finishes_yet_to_come_change_nothing_settled_steps c J more mark valid yet =
    settled_same J valid more mark yet.before yet.there

pub returns-clause-finishes_yet_to_come_change_nothing_settled_state :
    goal.returns-clause-finishes_yet_to_come_change_nothing_settled_state
returns-clause-finishes_yet_to_come_change_nothing_settled_state c J more mark valid yet =
    ap (state_after (opening J.jobs)) (settled_same J valid more mark yet.before yet.there)

pub returns-clause-a_job_may_finish_at_the_mark_stays : goal.returns-clause-a_job_may_finish_at_the_mark_stays
returns-clause-a_job_may_finish_at_the_mark_stays c = λ J mark r valid at. stays_at_mark J valid mark r at

pub returns-clause-a_job_may_finish_at_the_mark_next : goal.returns-clause-a_job_may_finish_at_the_mark_next
returns-clause-a_job_may_finish_at_the_mark_next c = λ J mark r valid at. next_at_mark J valid mark r at

pub returns-clause-finishes_of_jobs_that_are_over_change_no_step_open :
    goal.returns-clause-finishes_of_jobs_that_are_over_change_no_step_open
returns-clause-finishes_of_jobs_that_are_over_change_no_step_open c = over_open

pub returns-clause-finishes_of_jobs_that_are_over_change_no_step_closed :
    goal.returns-clause-finishes_of_jobs_that_are_over_change_no_step_closed
returns-clause-finishes_of_jobs_that_are_over_change_no_step_closed c = over_step

pub returns-clause-the_last_printed_step_tells_of_all : goal.returns-clause-the_last_printed_step_tells_of_all
returns-clause-the_last_printed_step_tells_of_all c = λ J mark r valid. last_tells J valid mark r

pub returns-clause-a_finish_is_right_by_what_is_printed : goal.returns-clause-a_finish_is_right_by_what_is_printed
returns-clause-a_finish_is_right_by_what_is_printed c = right_by_prints
