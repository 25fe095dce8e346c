use Rattle.std.proofs.Common.{refl, sym, subst}
use Rattle.dover_model.specs.Common.{IsWithin, jobs_under, worth}
use Rattle.dover_model.proofs.bound.BoundLaws.{bound}
use Rattle.dover_model.proofs.runs.Honest.{plain_honest}
use Rattle.stated_jobs.proofs.duel.Duel.{every_one_loses}
use Rattle.stated_jobs.proofs.duel.Rules.{online}
use Rattle.stated_jobs.proofs.duel.Losing.{each_loses}
use Rattle.stated_jobs.proofs.duel.Rowing.{one_loses, two_loses, four_loses, hundred_loses}
use Rattle.stated_jobs.proofs.duel.Policies.{online as policies_online}
use Rattle.stated_jobs.proofs.duel.Seeing.{blind, sees_ahead}
use Rattle.stated_jobs.proofs.duel.laws.laws_of_duels.Goals as goal

pub returns-clause-the_rules_save_the_most_on_line : goal.returns-clause-the_rules_save_the_most_on_line
returns-clause-the_rules_save_the_most_on_line c = online

pub returns-clause-the_rules_save_the_most_saved : goal.returns-clause-the_rules_save_the_most_saved
returns-clause-the_rules_save_the_most_saved c = λ version k jobs s valid.
    subst (λ a. IsWithin k (worth (jobs_under version k jobs) s) a)
    (sym (plain_honest (jobs_under version k jobs) valid refl))
    (bound (jobs_under version k jobs) s valid)

pub returns-clause-the_rules_save_the_most_no_more : goal.returns-clause-the_rules_save_the_most_no_more
returns-clause-the_rules_save_the_most_no_more c = every_one_loses

pub returns-clause-each_scheduler_loses_on_a_front : goal.returns-clause-each_scheduler_loses_on_a_front
returns-clause-each_scheduler_loses_on_a_front c = each_loses

pub returns-clause-none_saves_much_more_within_the_limits_one : goal.returns-clause-none_saves_much_more_within_the_limits_one
returns-clause-none_saves_much_more_within_the_limits_one c = one_loses

pub returns-clause-none_saves_much_more_within_the_limits_two : goal.returns-clause-none_saves_much_more_within_the_limits_two
returns-clause-none_saves_much_more_within_the_limits_two c = two_loses

pub returns-clause-none_saves_much_more_within_the_limits_four : goal.returns-clause-none_saves_much_more_within_the_limits_four
returns-clause-none_saves_much_more_within_the_limits_four c = four_loses

pub returns-clause-none_saves_much_more_within_the_limits_hundred : goal.returns-clause-none_saves_much_more_within_the_limits_hundred
returns-clause-none_saves_much_more_within_the_limits_hundred c = hundred_loses

pub returns-clause-on_line_is_neither_weak_nor_strong_blind : goal.returns-clause-on_line_is_neither_weak_nor_strong_blind
returns-clause-on_line_is_neither_weak_nor_strong_blind c = blind

pub returns-clause-on_line_is_neither_weak_nor_strong_policies : goal.returns-clause-on_line_is_neither_weak_nor_strong_policies
returns-clause-on_line_is_neither_weak_nor_strong_policies c = policies_online

pub returns-clause-on_line_is_neither_weak_nor_strong_farsighted : goal.returns-clause-on_line_is_neither_weak_nor_strong_farsighted
returns-clause-on_line_is_neither_weak_nor_strong_farsighted c = sees_ahead
