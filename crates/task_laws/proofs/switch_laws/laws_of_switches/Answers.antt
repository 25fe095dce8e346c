use Rattle.task_laws.proofs.switches.Switching.{gets_paid, few_preempt, few_take, gets_few, changes_few, starts_once}
use Rattle.task_laws.proofs.switches.Switching.{completes_once, returns_behind}
use Rattle.task_laws.proofs.switches.Families.{few_of_task_preempt, few_of_task_take}
use Rattle.task_laws.proofs.switches.FewChanges.{changes_fewer}
use Rattle.task_laws.proofs.switches.Stretches.{little_lost, had_useful, budget_holds}
use Rattle.task_laws.proofs.switches.PayingForward.{loaded_throughout, forward_had, three_are_enough}
use Rattle.task_laws.proofs.switches.RunToTheEnd.{all_finished, all_paid}
use Rattle.task_laws.proofs.switch_laws.laws_of_switches.Goals as goal

pub returns-clause-few_jobs_stop_a_job_paid : goal.returns-clause-few_jobs_stop_a_job_paid
returns-clause-few_jobs_stop_a_job_paid c = λ J n_j valid member. gets_paid J valid n_j member

pub returns-clause-few_jobs_stop_a_job_preempt : goal.returns-clause-few_jobs_stop_a_job_preempt
returns-clause-few_jobs_stop_a_job_preempt c = λ J n_j valid member. few_preempt J valid n_j member

pub returns-clause-few_jobs_stop_a_job_take : goal.returns-clause-few_jobs_stop_a_job_take
returns-clause-few_jobs_stop_a_job_take c = λ J n_j valid member. few_take J valid n_j member

pub returns-clause-few_jobs_stop_a_job_gets : goal.returns-clause-few_jobs_stop_a_job_gets
returns-clause-few_jobs_stop_a_job_gets c = λ J n_j valid member. gets_few J valid n_j member

pub returns-clause-few_jobs_of_a_task_stop_a_job_preempt : goal.returns-clause-few_jobs_of_a_task_stop_a_job_preempt
returns-clause-few_jobs_of_a_task_stop_a_job_preempt c =
    λ i distance due jobs some task. few_of_task_preempt i distance due jobs some task

pub returns-clause-few_jobs_of_a_task_stop_a_job_take : goal.returns-clause-few_jobs_of_a_task_stop_a_job_take
returns-clause-few_jobs_of_a_task_stop_a_job_take c =
    λ k i distance due jobs some task. few_of_task_take i distance due jobs some task k

pub returns-clause-the_processor_changes_hands_few_times_most :
    goal.returns-clause-the_processor_changes_hands_few_times_most
returns-clause-the_processor_changes_hands_few_times_most c = changes_few

pub returns-clause-the_processor_changes_hands_few_times_fewer :
    goal.returns-clause-the_processor_changes_hands_few_times_fewer
returns-clause-the_processor_changes_hands_few_times_fewer c = changes_fewer

pub returns-clause-each_change_has_a_payer_starts : goal.returns-clause-each_change_has_a_payer_starts
returns-clause-each_change_has_a_payer_starts c = λ J n_j valid member. starts_once J valid n_j member

pub returns-clause-each_change_has_a_payer_completes : goal.returns-clause-each_change_has_a_payer_completes
returns-clause-each_change_has_a_payer_completes c = λ J n_j valid member. completes_once J valid n_j member

pub returns-clause-each_change_has_a_payer_returns : goal.returns-clause-each_change_has_a_payer_returns
returns-clause-each_change_has_a_payer_returns c = returns_behind

pub returns-clause-budgets_pay_for_changes_given : goal.returns-clause-budgets_pay_for_changes_given
returns-clause-budgets_pay_for_changes_given c = λ J cost n_j valid member. little_lost J valid cost n_j member

pub returns-clause-budgets_pay_for_changes_had : goal.returns-clause-budgets_pay_for_changes_had
returns-clause-budgets_pay_for_changes_had c = λ J cost t valid member. had_useful J valid cost t member

pub returns-clause-budgets_pay_for_changes_enough : goal.returns-clause-budgets_pay_for_changes_enough
returns-clause-budgets_pay_for_changes_enough c = λ J cost real t valid member. budget_holds J valid cost t member real

pub returns-clause-three_ticks_pay_for_changes_loaded : goal.returns-clause-three_ticks_pay_for_changes_loaded
returns-clause-three_ticks_pay_for_changes_loaded c = loaded_throughout

pub returns-clause-three_ticks_pay_for_changes_had : goal.returns-clause-three_ticks_pay_for_changes_had
returns-clause-three_ticks_pay_for_changes_had c = λ J t valid member. forward_had J valid t member

pub returns-clause-three_ticks_pay_for_changes_enough : goal.returns-clause-three_ticks_pay_for_changes_enough
returns-clause-three_ticks_pay_for_changes_enough c = λ J real t valid member. three_are_enough J valid t member real

pub returns-clause-budgets_pay_for_sections_each : goal.returns-clause-budgets_pay_for_sections_each
returns-clause-budgets_pay_for_sections_each c =
    λ J k start take valid within paid says. all_finished k within start take J valid paid says

pub returns-clause-budgets_pay_for_sections_all : goal.returns-clause-budgets_pay_for_sections_all
returns-clause-budgets_pay_for_sections_all c = λ J k longest valid within short fits says.
    all_finished k within (λ n. longest) (λ n. longest) J valid (all_paid J k longest short fits) says
