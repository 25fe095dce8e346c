use Rattle.dover_engine.proofs.LifeLaws.{numbers, settled_all, done_all, rest_all, ended_all, online_all, begins_all}
use Rattle.dover_engine.proofs.laws.a_life_is_one_run.Goals as goal

pub returns-clause-numbers : goal.returns-clause-numbers
returns-clause-numbers c = numbers

pub returns-clause-settled : goal.returns-clause-settled
returns-clause-settled c = settled_all

pub returns-clause-done : goal.returns-clause-done
returns-clause-done c = done_all

pub returns-clause-at_rest : goal.returns-clause-at_rest
returns-clause-at_rest c = rest_all

pub returns-clause-ended : goal.returns-clause-ended
returns-clause-ended c = ended_all

pub returns-clause-online : goal.returns-clause-online
returns-clause-online c = online_all

pub returns-clause-begins : goal.returns-clause-begins
returns-clause-begins c = begins_all
