use Rattle.std.proofs.Common.{sym, ◌∙◌, inr}
use Rattle.admission.proofs.Refusing.{all_keep, least_keep}
use Rattle.admission.proofs.extremes.Extremes.first_breaker.Goals as goal

pub returns-then-not-keeps_ratio-2-clause-other : goal.returns-then-not-keeps_ratio-2-clause-other
returns-then-not-keeps_ratio-2-clause-other c jobs it = record {
  job = c.args.self.now.densest.job;
  breaks = sym c.keeps_ratio-2.ensures ∙ c.if-not-keeps_ratio-2.true;
  which = inr (
    it.densest,
    least_keep c.args.ratio.now jobs c.args.self.now c.args.job.now it
        (sym c.keeps_ratio.ensures ∙ c.if-not-keeps_ratio.false),
  );
}

pub returns-clause-none : goal.returns-clause-none
returns-clause-none c jobs it none = all_keep c.args.ratio.now jobs c.args.self.now c.args.job.now it
    (sym c.keeps_ratio.ensures ∙ c.if-not-keeps_ratio.false)
    (sym c.keeps_ratio-2.ensures ∙ c.if-not-keeps_ratio-2.false)
