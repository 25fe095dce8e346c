use Rattle.clairvoyant.proofs.overload.Paying.{pays_layer, worth_most}
use Rattle.clairvoyant.proofs.overload.Stretching.{caps_all}
use Rattle.clairvoyant.proofs.overload.Sets.{few_reached}
use Rattle.clairvoyant.proofs.overload.laws.laws_of_caps.Goals as goal

pub returns-clause-a_layer_costs_its_ticks : goal.returns-clause-a_layer_costs_its_ticks
returns-clause-a_layer_costs_its_ticks c = λ jobs a b more cost old new raised pays s. pays_layer jobs a b more old new raised s cost pays

pub returns-clause-prices_cap_schedules : goal.returns-clause-prices_cap_schedules
returns-clause-prices_cap_schedules c = worth_most

pub returns-clause-capped_stretches_cap_all : goal.returns-clause-capped_stretches_cap_all
returns-clause-capped_stretches_cap_all c = caps_all

pub returns-clause-caps_of_few_jobs_are_reached : goal.returns-clause-caps_of_few_jobs_are_reached
returns-clause-caps_of_few_jobs_are_reached c = few_reached
