use Rattle.dover_engine.proofs.LifeLaws.{within_all, observed_within_all, as_declared_all, honest_all, underload_all}
use Rattle.dover_engine.proofs.LifeLaws.{value_all, none_lost_all}
use Rattle.dover_engine.proofs.laws.a_life_is_worth_enough.Goals as goal

pub returns-clause-within : goal.returns-clause-within
returns-clause-within c = λ version k calls w s life. within_all version k calls w life s

pub returns-clause-observed : goal.returns-clause-observed
returns-clause-observed c = λ version k calls w s life. observed_within_all version k calls w life s

pub returns-clause-as_declared : goal.returns-clause-as_declared
returns-clause-as_declared c = as_declared_all

pub returns-clause-honest : goal.returns-clause-honest
returns-clause-honest c = honest_all

pub returns-clause-underload : goal.returns-clause-underload
returns-clause-underload c = underload_all

pub returns-clause-none_lost : goal.returns-clause-none_lost
returns-clause-none_lost c = none_lost_all

pub returns-clause-value : goal.returns-clause-value
returns-clause-value c = value_all
