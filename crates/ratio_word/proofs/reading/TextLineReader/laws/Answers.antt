use Rattle.ratio_word.proofs.Accounts.{orderly}
use Rattle.ratio_word.proofs.reading.TextLineReader.laws.Goals as goal

pub returns : goal.returns
returns g c = record { orderly = λ a. orderly; spent = λ a t m ls it. it.counts; behind = λ a m x line it. it }
