use Rattle.std.proofs.Common.{arith}
use Rattle.lane_server.proofs.Inputs.{open_bytes}
use Rattle.lane_server.proofs.Receiving.{few_stand}
use Rattle.lane_server.proofs.Sharing.{few_on}
use Rattle.lanes_word.proofs.Talking.{steady, few_parts}
use Rattle.lanes_word.proofs.hosting.HostingTalker.laws.Goals as goal

pub returns-clause-steady : goal.returns-clause-steady
returns-clause-steady g c = λ a. steady

pub returns-clause-few : goal.returns-clause-few
returns-clause-few g c = λ a t m x at on. omega (arith, open_bytes x on)

pub returns-clause-parts : goal.returns-clause-parts
returns-clause-parts g c = λ a t m x rest at.
    few_parts at.gives.0 rest at.gives.1 (few_stand t.input x at.gives.0 at.gives.2)

pub returns-clause-spent : goal.returns-clause-spent
returns-clause-spent g c = λ a t m x rest at. c.laws.ensures.few t.input x at.gives.0 a m at.gives.2 at.paid

pub returns-clause-rested : goal.returns-clause-rested
returns-clause-rested g c = λ a t m x at. c.laws.ensures.few t.input x _ a m at.rests.stands at.paid

pub returns-clause-behind : goal.returns-clause-behind
returns-clause-behind g c = λ a m x y it. few_on x y a m it
