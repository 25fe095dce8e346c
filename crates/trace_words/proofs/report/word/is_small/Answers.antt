use Rattle.std.proofs.Common.{◌∙◌, refl, sym, ap}
use Rattle.dover_model.specs.Session.{may_finish_early}
use Rattle.dover_model.proofs.valid.Limiting.{listable}
use Rattle.trace_words.proofs.report.word.is_small.Goals as goal

pub returns : goal.returns
returns c J valid prints same = (
  λ _. listable J valid (ap may_finish_early same ∙ sym c.may_finish_early.ensures ∙ c.if-may_finish_early.false),
  λ _. refl,
)
