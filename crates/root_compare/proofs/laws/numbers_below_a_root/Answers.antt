use Rattle.dover_model.proofs.bound.Calculus.{below_product, below_add, below_sum, below_mono}
use Rattle.root_compare.proofs.laws.numbers_below_a_root.Goals as goal

pub returns-clause-product : goal.returns-clause-product
returns-clause-product c = below_product

pub returns-clause-sum : goal.returns-clause-sum
returns-clause-sum c = below_add

pub returns-clause-sums : goal.returns-clause-sums
returns-clause-sums c m pairs = below_sum m (λ x_a. x_a.0) (λ x_a. x_a.1) pairs

pub returns-clause-less : goal.returns-clause-less
returns-clause-less c = below_mono
