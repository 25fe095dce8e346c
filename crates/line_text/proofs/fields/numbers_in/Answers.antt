use Rattle.std.proofs.Common.{◌≡◌, length, take, take_all, ap, ◌∙◌, arith}
use Rattle.line_text.proofs.SoMany.{more_left}
use Rattle.line_text.proofs.fields.numbers_in.Goals as goal

pub returns-then-is_some-clause-none : goal.returns-then-is_some-clause-none
returns-then-is_some-clause-none g c ns is so_many =
    let same : length ns ≡ g.row.N = so_many in
    let all : take c.loop-at.at c.loop-at.numbers ≡ c.loop-at.numbers =
    take_all c.loop-at.at c.loop-at.numbers (omega (arith, c.loop-at.invariant.places, c.loop-at-test.false)) in
    omega (
      arith,
      more_left c.loop-at.left (take c.loop-at.at c.loop-at.numbers) ns c.if-is_some.ensures
          (c.loop-at.invariant.read ∙ is),
      ap length all,
      c.loop-at.invariant.places,
      same,
    )
