use Rattle.dover_model.specs.Feed.{account_of_lines}
use Rattle.lane_server.proofs.Paying.{owes_few_paid}
use Rattle.lane_server.proofs.lane.Lane.laws.Goals as goal

pub returns : goal.returns
returns c = record {
  few = λ lane ls rest start now it paid. owes_few_paid c.laws.ensures.few lane.work
      lane.server (account_of_lines ls) rest it.owes start now paid;
}
