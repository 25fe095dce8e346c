use Rattle.std.proofs.Common.{◌∷◌, [], arith}
use Rattle.line_text.proofs.Written.{length-numbers_behind}
use Rattle.line_text.proofs.spelled.Spelled.new.Goals as goal

pub put_before-start-requires-clause-room : goal.put_before-start-requires-clause-room
put_before-start-requires-clause-room c = length-numbers_behind (0 ∷ 0 ∷ 0 ∷ 0 ∷ [])
    (omega arith, (omega arith, (omega arith, (omega arith, tt))))
