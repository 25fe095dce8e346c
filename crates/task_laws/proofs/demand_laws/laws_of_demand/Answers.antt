use Rattle.task_laws.proofs.demand.Demanding.{meets_where, none_lost_where, all_value_where, inside_demand, met_meets}
use Rattle.task_laws.proofs.demand.Demanding.{met_none_lost, met_all_value, between, horizon_tells, period_tells}
use Rattle.task_laws.proofs.demand.Demanding.{asked_demand, demand_unmet, soon_apart}
use Rattle.task_laws.proofs.demand.Recovering.{comes_to_rest, few_work}
use Rattle.task_laws.proofs.demand_laws.laws_of_demand.Goals as goal

pub returns-clause-where_no_window_is_overfull_none_is_lost_meets :
    goal.returns-clause-where_no_window_is_overfull_none_is_lost_meets
returns-clause-where_no_window_is_overfull_none_is_lost_meets c = meets_where

pub returns-clause-where_no_window_is_overfull_none_is_lost_none_lost :
    goal.returns-clause-where_no_window_is_overfull_none_is_lost_none_lost
returns-clause-where_no_window_is_overfull_none_is_lost_none_lost c = none_lost_where

pub returns-clause-where_no_window_is_overfull_none_is_lost_all_value :
    goal.returns-clause-where_no_window_is_overfull_none_is_lost_all_value
returns-clause-where_no_window_is_overfull_none_is_lost_all_value c = all_value_where

pub returns-clause-tasks_that_are_met_lose_nothing_inside : goal.returns-clause-tasks_that_are_met_lose_nothing_inside
returns-clause-tasks_that_are_met_lose_nothing_inside c =
    λ tasks of J a b ask ordered. inside_demand tasks of J ask a b ordered

pub returns-clause-tasks_that_are_met_lose_nothing_meets : goal.returns-clause-tasks_that_are_met_lose_nothing_meets
returns-clause-tasks_that_are_met_lose_nothing_meets c = λ tasks of J valid ask met. met_meets tasks of J ask valid met

pub returns-clause-tasks_that_are_met_lose_nothing_none_lost :
    goal.returns-clause-tasks_that_are_met_lose_nothing_none_lost
returns-clause-tasks_that_are_met_lose_nothing_none_lost c =
    λ tasks of J valid ask met. met_none_lost tasks of J ask valid met

pub returns-clause-tasks_that_are_met_lose_nothing_all_value :
    goal.returns-clause-tasks_that_are_met_lose_nothing_all_value
returns-clause-tasks_that_are_met_lose_nothing_all_value c =
    λ tasks of J valid ask met. met_all_value tasks of J ask valid met

pub returns-clause-few_windows_tell_of_all_horizon : goal.returns-clause-few_windows_tell_of_all_horizon
returns-clause-few_windows_tell_of_all_horizon c = λ tasks scale horizon share are beyond below.
    horizon_tells tasks scale horizon share are beyond below

pub returns-clause-few_windows_tell_of_all_below : goal.returns-clause-few_windows_tell_of_all_below
returns-clause-few_windows_tell_of_all_below c = between

pub returns-clause-few_windows_tell_of_all_period : goal.returns-clause-few_windows_tell_of_all_period
returns-clause-few_windows_tell_of_all_period c = λ tasks period last times long some is_times due few below.
    period_tells tasks period last times long some is_times due few below

pub returns-clause-a_demand_above_a_window_cannot_be_met_asked :
    goal.returns-clause-a_demand_above_a_window_cannot_be_met_asked
returns-clause-a_demand_above_a_window_cannot_be_met_asked c = asked_demand

pub returns-clause-a_demand_above_a_window_cannot_be_met_unmet :
    goal.returns-clause-a_demand_above_a_window_cannot_be_met_unmet
returns-clause-a_demand_above_a_window_cannot_be_met_unmet c = demand_unmet

pub returns-clause-a_demand_above_a_window_cannot_be_met_apart :
    goal.returns-clause-a_demand_above_a_window_cannot_be_met_apart
returns-clause-a_demand_above_a_window_cannot_be_met_apart c = soon_apart

pub returns-clause-the_processor_comes_to_rest_rests : goal.returns-clause-the_processor_comes_to_rest_rests
returns-clause-the_processor_comes_to_rest_rests c =
    λ J from due until valid ordered fits. comes_to_rest from due until ordered J valid fits

pub returns-clause-the_processor_comes_to_rest_of_a_task : goal.returns-clause-the_processor_comes_to_rest_of_a_task
returns-clause-the_processor_comes_to_rest_of_a_task c = λ distance after work due until jobs some task most.
    few_work distance after work due until jobs some task most
