use Rattle.task_laws.proofs.ratio.LongerJobs.{harder_less, harder_bound}
use Rattle.task_laws.proofs.ratio.SlowerLaws.{slower}
use Rattle.task_laws.proofs.ratio.FreeRatio.{open_same, settled_same, run_same, bound_same, slower_same}
use Rattle.task_laws.proofs.ratio_laws.laws_of_ratios.Goals as goal

pub returns-clause-no_schedule_of_longer_jobs_is_worth_more_less :
    goal.returns-clause-no_schedule_of_longer_jobs_is_worth_more_less
returns-clause-no_schedule_of_longer_jobs_is_worth_more_less c = harder_less

pub returns-clause-no_schedule_of_longer_jobs_is_worth_more_bound :
    goal.returns-clause-no_schedule_of_longer_jobs_is_worth_more_bound
returns-clause-no_schedule_of_longer_jobs_is_worth_more_bound c = harder_bound

pub returns-clause-no_schedule_without_switches_is_worth_much_more :
    goal.returns-clause-no_schedule_without_switches_is_worth_much_more
returns-clause-no_schedule_without_switches_is_worth_much_more c =
    λ J e works s valid some most. slower J valid e works some most s

pub returns-clause-a_factor_leaves_the_ratio_free_open_step :
    goal.returns-clause-a_factor_leaves_the_ratio_free_open_step
returns-clause-a_factor_leaves_the_ratio_free_open_step c =
    λ rules k f s of_rules of_k. open_same rules k f of_rules of_k s

pub returns-clause-a_factor_leaves_the_ratio_free_settled : goal.returns-clause-a_factor_leaves_the_ratio_free_settled
returns-clause-a_factor_leaves_the_ratio_free_settled c = λ J k f mark of_J of_k. settled_same J k f of_J of_k mark

pub returns-clause-a_factor_leaves_the_ratio_free_run : goal.returns-clause-a_factor_leaves_the_ratio_free_run
returns-clause-a_factor_leaves_the_ratio_free_run c = λ J k f of_J of_k. run_same J k f of_J of_k

pub returns-clause-a_factor_leaves_the_ratio_free_bound : goal.returns-clause-a_factor_leaves_the_ratio_free_bound
returns-clause-a_factor_leaves_the_ratio_free_bound c = λ J k f s of_J of_k valid. bound_same J k f of_J of_k s valid

pub returns-clause-a_factor_leaves_the_ratio_free_slower : goal.returns-clause-a_factor_leaves_the_ratio_free_slower
returns-clause-a_factor_leaves_the_ratio_free_slower c = λ J k e f works s of_J of_k valid some most.
    slower_same J k f of_J of_k e works s valid some most
