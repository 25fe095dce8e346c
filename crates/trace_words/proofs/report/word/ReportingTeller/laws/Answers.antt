use Rattle.std.proofs.Common.{◌≡◌, true, false}
use Rattle.trace_words.proofs.report.Talking.{says_same}
use Rattle.trace_words.proofs.report.word.ReportingTeller.laws.Goals as goal

pub returns-clause-stays : goal.returns-clause-stays
returns-clause-stays c = λ t x y status text same it. says_same t.form x y text same status it

pub returns-clause-lacking : goal.returns-clause-lacking
returns-clause-lacking c = λ x ended. absurd (let e : false ≡ true = ended in cc)
