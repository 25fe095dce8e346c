use Rattle.task_laws.proofs.hard.HardWork.{hard_by_open, few_ticks, tasks_come, few_lost_of, hard_is_paid}
use Rattle.task_laws.proofs.hard.StandingClock.{clock_goes_on, clock_shows, given_by_clock, worth_by_clock}
use Rattle.task_laws.proofs.hard.StandingClock.{run_by_clock}
use Rattle.task_laws.proofs.hard_laws.laws_of_hard_work.Goals as goal

pub returns-clause-hard_work_has_few_ticks_window : goal.returns-clause-hard_work_has_few_ticks_window
returns-clause-hard_work_has_few_ticks_window c =
    λ most comes from length first few fits. few_ticks most comes few from length first fits

pub returns-clause-hard_work_has_few_ticks_tasks : goal.returns-clause-hard_work_has_few_ticks_tasks
returns-clause-hard_work_has_few_ticks_tasks c = tasks_come

pub returns-clause-hard_work_has_few_ticks_known : goal.returns-clause-hard_work_has_few_ticks_known
returns-clause-hard_work_has_few_ticks_known c =
    λ comes from length first fits. hard_by_open comes length first from fits

pub returns-clause-budgets_pay_for_hard_work_given : goal.returns-clause-budgets_pay_for_hard_work_given
returns-clause-budgets_pay_for_hard_work_given c = few_lost_of

pub returns-clause-budgets_pay_for_hard_work_enough : goal.returns-clause-budgets_pay_for_hard_work_enough
returns-clause-budgets_pay_for_hard_work_enough c = λ J most comes real first t valid member done few fits enough.
    hard_is_paid J valid t member most comes few real first done fits enough

pub returns-clause-a_clock_that_stands_still_is_in_time_goes_on :
    goal.returns-clause-a_clock_that_stands_still_is_in_time_goes_on
returns-clause-a_clock_that_stands_still_is_in_time_goes_on c =
    λ most comes from length first few fits. clock_goes_on comes most few from length first fits

pub returns-clause-a_clock_that_stands_still_is_in_time_shows :
    goal.returns-clause-a_clock_that_stands_still_is_in_time_shows
returns-clause-a_clock_that_stands_still_is_in_time_shows c = clock_shows

pub returns-clause-a_clock_that_stands_still_is_in_time_given :
    goal.returns-clause-a_clock_that_stands_still_is_in_time_given
returns-clause-a_clock_that_stands_still_is_in_time_given c = given_by_clock

pub returns-clause-a_clock_that_stands_still_is_in_time_worth :
    goal.returns-clause-a_clock_that_stands_still_is_in_time_worth
returns-clause-a_clock_that_stands_still_is_in_time_worth c = worth_by_clock

pub returns-clause-a_clock_that_stands_still_is_in_time_run :
    goal.returns-clause-a_clock_that_stands_still_is_in_time_run
returns-clause-a_clock_that_stands_still_is_in_time_run c = run_by_clock
