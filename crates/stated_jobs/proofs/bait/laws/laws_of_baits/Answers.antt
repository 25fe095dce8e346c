use Rattle.stated_jobs.proofs.bait.Validity.{some_bait, valid}
use Rattle.stated_jobs.proofs.bait.Plans.{plan_worth}
use Rattle.stated_jobs.proofs.bait.Doubling.{last_is, plan_is_four}
use Rattle.stated_jobs.proofs.bait.Linking.{first_least, next_least, bait_most, light_by_factor}
use Rattle.stated_jobs.proofs.bait.Completions.{completes_last_alone}
use Rattle.stated_jobs.proofs.bait.laws.laws_of_baits.Goals as goal

pub returns-clause-baiting_jobs_are_valid : goal.returns-clause-baiting_jobs_are_valid
returns-clause-baiting_jobs_are_valid c k rounds version ratio many fits = valid k rounds ratio fits (some_bait k rounds ratio many fits) version

pub returns-clause-the_plan_is_worth_its_value : goal.returns-clause-the_plan_is_worth_its_value
returns-clause-the_plan_is_worth_its_value c = plan_worth

pub returns-clause-links_double_at_ratio_one_last : goal.returns-clause-links_double_at_ratio_one_last
returns-clause-links_double_at_ratio_one_last c k rounds ratio plain one = last_is k ratio plain one rounds

pub returns-clause-links_double_at_ratio_one_plan : goal.returns-clause-links_double_at_ratio_one_plan
returns-clause-links_double_at_ratio_one_plan c k rounds ratio plain one = plan_is_four k ratio plain one rounds

pub returns-clause-links_take_by_the_least_value_first : goal.returns-clause-links_take_by_the_least_value_first
returns-clause-links_take_by_the_least_value_first c = first_least

pub returns-clause-links_take_by_the_least_value_next : goal.returns-clause-links_take_by_the_least_value_next
returns-clause-links_take_by_the_least_value_next c = next_least

pub returns-clause-links_take_by_the_least_value_bait : goal.returns-clause-links_take_by_the_least_value_bait
returns-clause-links_take_by_the_least_value_bait c = bait_most

pub returns-clause-links_take_by_the_least_value_factor : goal.returns-clause-links_take_by_the_least_value_factor
returns-clause-links_take_by_the_least_value_factor c = light_by_factor

pub returns-clause-a_baiting_run_completes_its_last_link : goal.returns-clause-a_baiting_run_completes_its_last_link
returns-clause-a_baiting_run_completes_its_last_link c = completes_last_alone
