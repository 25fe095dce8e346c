use Rattle.dover_model.proofs.rest.RestTick.{rests_where_ended}
use Rattle.dover_model.proofs.rest.Apart.{settled_at_rest, end_at_rest, falls_apart, settled_falls_apart, value_apart}
use Rattle.dover_model.proofs.rest.InTurns.{one_run_prints, one_run_completes, settled_of_last, declared_within}
use Rattle.dover_model.proofs.rest.InTurns.{observed_within, one_run_observes, turns_within}
use Rattle.dover_model.proofs.rest.TurnSchedules.{one_run_honest, one_run_plain}
use Rattle.dover_model.proofs.rest.TurnsLosing.{one_run_loses_none, one_run_earns_all}
use Rattle.dover_model.proofs.rest.TurnsGrowing.{printed_of_last}
use Rattle.dover_model.proofs.rest.Anew.{run_moved, runs_anew, value_anew, declared_anew, observed_anew, honest_anew}
use Rattle.dover_model.proofs.rest.Parting.{bound_parted, bounds_parted, part_loses_nothing, none_lost_in_turn}
use Rattle.dover_model.proofs.rest.Parting.{all_value_in_turn}
use Rattle.dover_model.proofs.rest_laws.laws_of_rest.Goals as goal

pub returns-clause-all_is_settled_at_rest_rest : goal.returns-clause-all_is_settled_at_rest_rest
returns-clause-all_is_settled_at_rest_rest c = rests_where_ended

pub returns-clause-all_is_settled_at_rest_settled : goal.returns-clause-all_is_settled_at_rest_settled
returns-clause-all_is_settled_at_rest_settled c = settled_at_rest

pub returns-clause-all_is_settled_at_rest_end : goal.returns-clause-all_is_settled_at_rest_end
returns-clause-all_is_settled_at_rest_end c = end_at_rest

pub returns-clause-runs_fall_apart_at_rest_printed : goal.returns-clause-runs_fall_apart_at_rest_printed
returns-clause-runs_fall_apart_at_rest_printed c = falls_apart

pub returns-clause-runs_fall_apart_at_rest_settled : goal.returns-clause-runs_fall_apart_at_rest_settled
returns-clause-runs_fall_apart_at_rest_settled c = settled_falls_apart

pub returns-clause-runs_fall_apart_at_rest_value : goal.returns-clause-runs_fall_apart_at_rest_value
returns-clause-runs_fall_apart_at_rest_value c = value_apart

pub returns-clause-turns_with_finishes_are_one_run_printed : goal.returns-clause-turns_with_finishes_are_one_run_printed
returns-clause-turns_with_finishes_are_one_run_printed c = one_run_prints

pub returns-clause-turns_with_finishes_are_one_run_value : goal.returns-clause-turns_with_finishes_are_one_run_value
returns-clause-turns_with_finishes_are_one_run_value c = one_run_completes

pub returns-clause-turns_with_finishes_are_one_run_settled : goal.returns-clause-turns_with_finishes_are_one_run_settled
returns-clause-turns_with_finishes_are_one_run_settled c =
    λ rules turns more last mark ends valid late on. settled_of_last rules more valid last late turns mark ends on

pub returns-clause-turns_with_finishes_are_one_run_further : goal.returns-clause-turns_with_finishes_are_one_run_further
returns-clause-turns_with_finishes_are_one_run_further c =
    λ rules turns more last ends turn. printed_of_last rules more last turn turns ends

pub returns-clause-turns_with_finishes_are_one_run_declared :
    goal.returns-clause-turns_with_finishes_are_one_run_declared
returns-clause-turns_with_finishes_are_one_run_declared c = declared_within

pub returns-clause-turns_with_finishes_are_one_run_observed :
    goal.returns-clause-turns_with_finishes_are_one_run_observed
returns-clause-turns_with_finishes_are_one_run_observed c = observed_within

pub returns-clause-turns_with_finishes_are_one_run_observes :
    goal.returns-clause-turns_with_finishes_are_one_run_observes
returns-clause-turns_with_finishes_are_one_run_observes c = one_run_observes

pub returns-clause-turns_with_finishes_are_one_run_as_declared :
    goal.returns-clause-turns_with_finishes_are_one_run_as_declared
returns-clause-turns_with_finishes_are_one_run_as_declared c = one_run_plain

pub returns-clause-turns_with_finishes_are_one_run_honest : goal.returns-clause-turns_with_finishes_are_one_run_honest
returns-clause-turns_with_finishes_are_one_run_honest c = one_run_honest

pub returns-clause-turns_with_finishes_are_one_run_none_lost :
    goal.returns-clause-turns_with_finishes_are_one_run_none_lost
returns-clause-turns_with_finishes_are_one_run_none_lost c = one_run_loses_none

pub returns-clause-turns_with_finishes_are_one_run_all_value :
    goal.returns-clause-turns_with_finishes_are_one_run_all_value
returns-clause-turns_with_finishes_are_one_run_all_value c = one_run_earns_all

pub returns-clause-runs_move_in_time : goal.returns-clause-runs_move_in_time
returns-clause-runs_move_in_time c = run_moved

pub returns-clause-runs_anew_are_one_run_printed : goal.returns-clause-runs_anew_are_one_run_printed
returns-clause-runs_anew_are_one_run_printed c = runs_anew

pub returns-clause-runs_anew_are_one_run_value : goal.returns-clause-runs_anew_are_one_run_value
returns-clause-runs_anew_are_one_run_value c = value_anew

pub returns-clause-runs_anew_are_one_run_declared : goal.returns-clause-runs_anew_are_one_run_declared
returns-clause-runs_anew_are_one_run_declared c = declared_anew

pub returns-clause-runs_anew_are_one_run_observed : goal.returns-clause-runs_anew_are_one_run_observed
returns-clause-runs_anew_are_one_run_observed c = observed_anew

pub returns-clause-runs_anew_are_one_run_honest : goal.returns-clause-runs_anew_are_one_run_honest
returns-clause-runs_anew_are_one_run_honest c = honest_anew

pub returns-clause-bounds_add_up_common : goal.returns-clause-bounds_add_up_common
returns-clause-bounds_add_up_common c = bound_parted

pub returns-clause-bounds_add_up_own : goal.returns-clause-bounds_add_up_own
returns-clause-bounds_add_up_own c = bounds_parted

pub returns-clause-bounds_add_up_in_turn : goal.returns-clause-bounds_add_up_in_turn
returns-clause-bounds_add_up_in_turn c = turns_within

pub returns-clause-no_part_loses_in_underload_parted : goal.returns-clause-no_part_loses_in_underload_parted
returns-clause-no_part_loses_in_underload_parted c = part_loses_nothing

pub returns-clause-no_part_loses_in_underload_in_turn : goal.returns-clause-no_part_loses_in_underload_in_turn
returns-clause-no_part_loses_in_underload_in_turn c = none_lost_in_turn

pub returns-clause-no_part_loses_in_underload_value : goal.returns-clause-no_part_loses_in_underload_value
returns-clause-no_part_loses_in_underload_value c = all_value_in_turn
