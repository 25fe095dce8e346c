use Rattle.std.proofs.Common.{◌∙◌, sym, ap, subst, nat_le}
use Rattle.dover_model.specs.Limits.{most_ready}
use Rattle.trace_judge.specs.Reads.{Reading, Waited}
use Rattle.trace_judge.proofs.Completing.{ready_is}
use Rattle.trace_judge.proofs.reader.TraceReader.is_full.Goals as goal

pub returns : goal.returns
returns c at ls S z y waited = ap (nat_le most_ready) (c.count.ensures
    ∙ ready_is _ at ls S z y (subst (λ (r : Reading). Waited r at ls S z y) (sym c.self.view_is) waited))
