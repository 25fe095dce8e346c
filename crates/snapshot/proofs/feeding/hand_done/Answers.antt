use Rattle.std.proofs.Common.{arith}
use Rattle.snapshot.specs.Stored.{fed_lines}
use Rattle.snapshot.proofs.Accounted.{fed_is, front_session}
use Rattle.snapshot.proofs.Beginning.{done_good, done_fed}
use Rattle.snapshot.proofs.feeding.hand_done.Goals as goal
use Rattle.dover_model.specs.Common.{FinishItem}
use Rattle.std.proofs.Common.{[], ◌∷◌}

pub hand-requires-clause-good : goal.hand-requires-clause-good
hand-requires-clause-good c =
    let (h, items, f, it, right) = c.requires.fed in (
      fed_lines h items,
      done_good h items c.args.at c.args.number f right
          (fed_is h items (front_session h items (FinishItem f ∷ []) right.valid) right.good
          (omega (arith, right.lines))) c.args.intake.now it,
    )

pub returns : goal.returns
returns c = λ h items f it right. done_fed h items c.args.at c.args.number f right
    (fed_is h items (front_session h items (FinishItem f ∷ []) right.valid) right.good
    (omega (arith, right.lines))) c.hand.new.intake (c.hand.ensures.stands (fed_lines h items) it.stands)
