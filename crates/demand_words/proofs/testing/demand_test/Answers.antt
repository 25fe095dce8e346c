use Rattle.std.proofs.Common.{◌^◌, arith}
use Rattle.demand_words.proofs.Sharing.{tells}
use Rattle.demand_words.proofs.testing.demand_test.Goals as goal

pub look_down-requires-clause-tells : goal.look_down-requires-clause-tells
look_down-requires-clause-tells c =
    tells c.args.tasks.now (2 ^ 64) c.in-Horizon.horizon c.requires (omega arith) c.in-Horizon.ensures.0
