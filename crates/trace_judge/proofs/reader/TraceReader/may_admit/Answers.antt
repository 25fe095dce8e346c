use Rattle.std.proofs.Common.{◌≡◌, true, false, None, Result, Ok, Err, sym, ap, ◌∙◌, subst, is_ok}
use Rattle.dover_model.specs.Common.{JobFacts, refusal_of}
use Rattle.admission.specs.Kept.{Kept, StandsFor}
use Rattle.admission.specs.Answers.{refusal_in}
use Rattle.admission.specs.declared.refused.Refused.{Refused}
use Rattle.trace_judge.specs.Reads.{Reading}
use Rattle.trace_judge.proofs.reader.TraceReader.may_admit.Goals as goal

-- what isn't admitted is refused
refused : (r : Result JobFacts Refused) → is_ok r ≡ false → refusal_in r ≡ None → ⊥
refused (Ok job) failed none = let e : true ≡ false = failed in cc
refused (Err cause) failed none = let e : refusal_in (Err cause) ≡ None = none in cc

pub returns-clause-no : goal.returns-clause-no
returns-clause-no c failed _ _ jobs stands none =
    let kept_is : c.self.inside.admission ≡ c.args.self.now.kept = ap (λ (r : Reading). r.kept) c.self.view_is in
    refused c.check_job.result (sym c.is_ok.ensures.value ∙ failed)
    (sym (c.check_job.ensures.refusal jobs (subst (λ kept. StandsFor kept jobs) (sym kept_is) stands))
    ∙ ap (λ (kept : Kept). refusal_of kept.rules jobs c.args.job.now) kept_is ∙ none)
