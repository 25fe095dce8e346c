use Rattle.std.proofs.Common.{◌++◌, ◌∷◌, [], ap, sym, subst, ◌∙◌}
use Rattle.dover_model.proofs.lists.Tests.{none_is_some}
use Rattle.admission.specs.Answers.{refusal_in}
use Rattle.admission.specs.Kept.{StandsFor}
use Rattle.stated_jobs.proofs.duel.counting.admit.Goals as goal

pub returns-in-Err-clause-refused : goal.returns-in-Err-clause-refused
returns-in-Err-clause-refused c jobs stands _ none =
    none_is_some (sym none ∙ c.check_job.ensures.refusal jobs stands ∙ ap refusal_in c.in-Err.is)

pub returns-in-Ok-clause-admitted : goal.returns-in-Ok-clause-admitted
returns-in-Ok-clause-admitted c jobs stands _ = (
  subst (λ j. StandsFor c.admit.new.self (jobs ++ j ∷ [])) c.in-Ok.ensures.job (c.admit.ensures.stands jobs stands),
  c.check_job.ensures.refusal jobs stands ∙ ap refusal_in c.in-Ok.is,
)
