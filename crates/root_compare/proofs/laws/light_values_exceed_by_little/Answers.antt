use Rattle.dover_model.proofs.bound.Calculus.{heavy_more, not_heavy}
use Rattle.root_compare.proofs.laws.light_values_exceed_by_little.Goals as goal

pub returns-clause-heavy : goal.returns-clause-heavy
returns-clause-heavy c = heavy_more

pub returns-clause-light : goal.returns-clause-light
returns-clause-light c = not_heavy
