use Rattle.std.proofs.Common.{take, sym, subst}
use Rattle.line_text.specs.Cutting.{StandsFor, IsWholeLine}
use Rattle.line_text.proofs.WholeLines.{whole_cut, whole_stands}
use Rattle.line_text.proofs.cutting.Lines.pass.Goals as goal

pub returns-clause-stands : goal.returns-clause-stands
returns-clause-stands c x stands = whole_stands (record {
  line = take c.self.inside.used c.self.inside.bytes;
  count = c.self.inside.count;
  last = c.self.inside.last;
}) c.saturating_add-self-inside.result x c.args.bytes.now c.saturating_add-self-inside.ensures
    (subst (λ k. IsWholeLine k c.args.bytes.now) (sym c.self.view_is) c.requires)
    (subst (λ k. StandsFor k x) (sym c.self.view_is) stands)

pub returns-clause-cut : goal.returns-clause-cut
returns-clause-cut c x stands = whole_cut c.args.self.now x c.args.bytes.now c.requires stands.rest
