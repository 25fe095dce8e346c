use Rattle.dover_engine.proofs.Succeeding.{named_next}
use Rattle.dover_engine.proofs.laws.the_successor_is_next.Goals as goal

pub returns : goal.returns
returns c = named_next
