use Rattle.dover_model.proofs.bound.Calculus.{displaced_below, below_displaced, excess_below, below_excess}
use Rattle.dover_model.proofs.bound.Calculus.{regular_below}
use Rattle.root_compare.proofs.laws.forms_of_rows.Goals as goal

pub returns-clause-displaced : goal.returns-clause-displaced
returns-clause-displaced c k d z some ratio = (displaced_below k some ratio d z, below_displaced k some ratio d z)

pub returns-clause-excess : goal.returns-clause-excess
returns-clause-excess c k y a some ratio = (excess_below k some ratio y a, below_excess k some ratio y a)

pub returns-clause-regular : goal.returns-clause-regular
returns-clause-regular c k r some ratio = regular_below k some ratio r
