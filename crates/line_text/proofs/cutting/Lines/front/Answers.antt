use Rattle.std.proofs.Common.{arith}
use Rattle.std.proofs.lemmas.List.{nil_from_length}
use Rattle.line_text.specs.Cutting.{begun_line}
use Rattle.line_text.proofs.WholeLines.{first_whole}
use Rattle.line_text.proofs.cutting.Lines.front.Goals as goal

pub returns-clause-whole : goal.returns-clause-whole
returns-clause-whole c =
    λ more. first_whole c.args.self.now c.args.bytes.now c.in-Some.at c.in-Some.ensures.0.high
    (λ k less. c.in-Some.ensures.0.before k (omega arith) less) c.in-Some.ensures.1 (omega arith)
    (nil_from_length (begun_line c.args.self.now) (omega (arith, c.rest.ensures, c.if-rest-gt0.false)))
