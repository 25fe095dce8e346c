use Rattle.demand_words.proofs.Limited.{limited, window_unmet, over_unmet}
use Rattle.demand_words.specs.Demanded.{all_facts}
use Rattle.task_laws.proofs.demand.Demanding.{met_none_lost}
use Rattle.demand_words.proofs.laws.what_the_demand_test_tells.Goals as goal

pub returns-clause-met : goal.returns-clause-met
returns-clause-met c = λ tasks of J valid ask met. met_none_lost (all_facts tasks) of J ask valid met

pub returns-clause-window : goal.returns-clause-window
returns-clause-window c = λ tasks rules ticks work told. window_unmet (all_facts tasks) rules ticks work told.0 told.1

pub returns-clause-over : goal.returns-clause-over
returns-clause-over c = λ tasks rules over. over_unmet (all_facts tasks) rules over

pub returns-clause-limits : goal.returns-clause-limits
returns-clause-limits c = limited
