use Rattle.std.proofs.Common.{◌∙◌, sym, ap}
use Rattle.trace_words.specs.judge.Line.{verdict_text}
use Rattle.trace_words.proofs.judge.Talking.{told_same}
use Rattle.trace_words.proofs.judge.telling.VerdictLineTeller.laws.Goals as goal

pub returns-clause-stays : goal.returns-clause-stays
returns-clause-stays c = λ t x y status text same it.
    (told_same x y same status it.0, it.1 ∙ ap verdict_text (sym same))
