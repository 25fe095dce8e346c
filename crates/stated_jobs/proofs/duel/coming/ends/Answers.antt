use Rattle.stated_jobs.proofs.duel.Giving.{none_more, one_last, goes_on}
use Rattle.std.proofs.Common.{◌∙◌, sym}
use Rattle.stated_jobs.proofs.duel.coming.ends.Goals as goal

pub returns-then-more-eq0-clause-over : goal.returns-then-more-eq0-clause-over
returns-then-more-eq0-clause-over c = λ _. none_more _ _ _ _ _ c.if-more-eq0.true

pub returns-clause-over : goal.returns-clause-over
returns-clause-over c = λ e. one_last _ _ _ _ _ (sym c.is_last.ensures ∙ e)

pub returns-clause-on : goal.returns-clause-on
returns-clause-on c = λ e. goes_on _ _ _ _ _ c.if-more-eq0.false (sym c.is_last.ensures ∙ e)
