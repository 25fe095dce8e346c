use Rattle.dover_engine.proofs.Restarting.{life_now, begins_now, rest_now, ended_now, within_now, observed_now}
use Rattle.dover_engine.proofs.Restarting.{value_now}
use Rattle.dover_engine.proofs.laws.lives_anew_are_one_run.Goals as goal

pub returns-clause-life : goal.returns-clause-life
returns-clause-life c = life_now

pub returns-clause-begins : goal.returns-clause-begins
returns-clause-begins c = begins_now

pub returns-clause-at_rest : goal.returns-clause-at_rest
returns-clause-at_rest c = rest_now

pub returns-clause-ended : goal.returns-clause-ended
returns-clause-ended c = ended_now

pub returns-clause-within : goal.returns-clause-within
returns-clause-within c = λ version k pasts calls w s all. within_now version k pasts calls w all s

pub returns-clause-observed : goal.returns-clause-observed
returns-clause-observed c = λ version k pasts calls w s all. observed_now version k pasts calls w all s

pub returns-clause-value : goal.returns-clause-value
returns-clause-value c = value_now
