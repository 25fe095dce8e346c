use Rattle.std.proofs.Common.{arith}
use Rattle.line_text.proofs.Written.{digits}
use Rattle.lanes_word.proofs.lines.write_in_lane.Goals as goal

pub put_word-requires : goal.put_word-requires
put_word-requires c = omega (arith, c.write_out.ensures.fits)

pub put_number-requires : goal.put_number-requires
put_number-requires c =
    rw c.put_word.ensures (omega (arith, digits c.from.result (omega arith), c.write_out.ensures.fits))
