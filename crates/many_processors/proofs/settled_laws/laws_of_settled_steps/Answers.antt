use Rattle.many_processors.proofs.steps.Turns.{open_kept}
use Rattle.many_processors.proofs.settled.Finishes.{further_begins, further_printed, yet_same, yet_state}
use Rattle.many_processors.proofs.settled.Finishes.{alike_same, alike_state, order_alike}
use Rattle.many_processors.proofs.settled.Again.{runs_again}
use Rattle.many_processors.proofs.settled.AtMark.{stays_at_mark, next_at_mark}
use Rattle.many_processors.proofs.settled.OverFor.{over_open, over_closed}
use Rattle.many_processors.proofs.settled.Later.{same_step}
use Rattle.many_processors.proofs.settled.Meeting.{on_line_finishes}
use Rattle.many_processors.proofs.settled.Onlines.{on_line}
use Rattle.many_processors.proofs.settled.Prefixes.{settled_prefix, printed_prefix}
use Rattle.many_processors.proofs.settled.Settling.{settled_is_run, settled_at_barrier}
use Rattle.many_processors.proofs.settled_laws.laws_of_settled_steps.Goals as goal

pub returns-clause-same_step : goal.returns-clause-same_step
returns-clause-same_step c processors rules s more mark come settled = same_step s more come.0 processors rules mark
    come.1
    settled

pub returns-clause-sound : goal.returns-clause-sound
returns-clause-sound c processors J s some valid keeps = open_kept processors J valid some J.rules s keeps

pub returns-clause-reach : goal.returns-clause-reach
returns-clause-reach c processors J mark some valid = settled_is_run processors J valid some mark

pub returns-clause-sound_at_mark : goal.returns-clause-sound_at_mark
returns-clause-sound_at_mark c processors J mark some valid = (settled_at_barrier processors J valid some mark).keeps

pub returns-clause-clock_at_mark : goal.returns-clause-clock_at_mark
returns-clause-clock_at_mark c processors J mark some valid = (settled_at_barrier processors J valid some mark).clock

pub returns-clause-barrier_at_mark : goal.returns-clause-barrier_at_mark
returns-clause-barrier_at_mark c processors J mark some
    valid = (settled_at_barrier processors J valid some mark).barrier

pub returns-clause-none_fresh_at_mark : goal.returns-clause-none_fresh_at_mark
returns-clause-none_fresh_at_mark c processors J mark some valid =
    (settled_at_barrier processors J valid some mark).none_fresh

pub returns-clause-while_open : goal.returns-clause-while_open
returns-clause-while_open c processors J more mark mark2 some valid late later =
    settled_prefix processors some J more mark valid late mark2 later

pub returns-clause-at_the_end : goal.returns-clause-at_the_end
returns-clause-at_the_end c processors J more mark some valid late =
    printed_prefix processors some J more mark valid late

pub returns-clause-on_line : goal.returns-clause-on_line
returns-clause-on_line c processors t J K some valid_J valid_K rules known =
    on_line processors t some J K valid_J valid_K rules known

pub returns-clause-on_line_with_finishes : goal.returns-clause-on_line_with_finishes
returns-clause-on_line_with_finishes c processors t J K some valid_J valid_K rules known finishes =
    on_line_finishes processors t some J K valid_J valid_K rules known finishes

pub returns-clause-further_while_open : goal.returns-clause-further_while_open
returns-clause-further_while_open c processors J more mark mark2 some valid later none =
    further_begins processors J more some valid mark mark2 later none

pub returns-clause-further_at_the_end : goal.returns-clause-further_at_the_end
returns-clause-further_at_the_end c processors J more mark some valid none =
    further_printed processors J more some valid mark none

pub returns-clause-yet_to_come : goal.returns-clause-yet_to_come
returns-clause-yet_to_come c processors J more mark some valid yet = yet_same processors J more some valid mark yet

pub returns-clause-yet_to_come_state : goal.returns-clause-yet_to_come_state
returns-clause-yet_to_come_state c processors J more mark some valid yet =
    yet_state processors J more some valid mark yet

pub returns-clause-due_alike : goal.returns-clause-due_alike
returns-clause-due_alike c processors J finishes mark some valid alike =
    alike_same processors J finishes some valid mark alike

pub returns-clause-due_alike_state : goal.returns-clause-due_alike_state
returns-clause-due_alike_state c processors J finishes mark some valid alike =
    alike_state processors J finishes some valid mark alike

pub returns-clause-another_order : goal.returns-clause-another_order
returns-clause-another_order c processors J finishes s same one =
    order_alike processors J.rules.version J.rules.finishes finishes s same one

pub returns-clause-finish_at_mark_stays : goal.returns-clause-finish_at_mark_stays
returns-clause-finish_at_mark_stays c processors J mark p some valid at =
    stays_at_mark processors J valid some mark p at

pub returns-clause-finish_at_mark_next : goal.returns-clause-finish_at_mark_next
returns-clause-finish_at_mark_next c processors J mark p some valid at =
    next_at_mark processors J valid some mark p at

pub returns-clause-finish_at_mark_again : goal.returns-clause-finish_at_mark_again
returns-clause-finish_at_mark_again c processors J mark p u some valid at_p at_u apart =
    runs_again processors J valid some mark p u at_p at_u apart

pub returns-clause-finishes_of_jobs_that_are_over_change_no_step_open : goal.returns-clause-finishes_of_jobs_that_are_over_change_no_step_open
returns-clause-finishes_of_jobs_that_are_over_change_no_step_open c processors rules s over = over_open processors rules s over

pub returns-clause-finishes_of_jobs_that_are_over_change_no_step_closed : goal.returns-clause-finishes_of_jobs_that_are_over_change_no_step_closed
returns-clause-finishes_of_jobs_that_are_over_change_no_step_closed c processors rules s over = over_closed processors rules s over
