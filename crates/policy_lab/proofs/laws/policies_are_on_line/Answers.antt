use Rattle.policy_lab.proofs.Onlines.{on_line}
use Rattle.dover_model.proofs.valid.ValidParts.{order_parts}
use Rattle.policy_lab.proofs.laws.policies_are_on_line.Goals as goal

pub returns : goal.returns
returns c picks t jobs others idles order other =
    on_line picks t jobs others idles (order_parts order) (order_parts other)
