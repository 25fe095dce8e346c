use Rattle.std.proofs.Common.{◌≡◌, ◌-◌, length, refl, sym, ap, ◌∙◌, arith, slice_get, slice_index_or}
use Rattle.std.specs.Option.{option_map_or}
use Rattle.std.proofs.lemmas.Option.{slice_get_past, slice_get_read}
use Rattle.dover_model.specs.JobFacts.{JobFacts}
use Rattle.dover_model.proofs.valid.JobLimits.{job_limits}
use Rattle.run_reports.proofs.report.early.left_of.Goals as goal

pub returns-in-Some-clause-is : goal.returns-in-Some-clause-is
returns-in-Some-clause-is c = c.saturating_sub.ensures
    ∙ ap (λ w. w - c.had_of.result) (c.work.ensures.is ∙ ap (λ j. option_map_or (λ (j : JobFacts). j.work) j 0)
    (sym (slice_get_read c.args.jobs.now (length c.args.jobs.now) c.args.number c.in-Some.job.now refl
    c.in-Some.ensures.lookup.3.0 c.in-Some.ensures.lookup.1)))
    ∙ ap (λ h. option_map_or (λ (j : JobFacts). j.work) (slice_get c.args.jobs.now c.args.number) 0 - h)
    c.had_of.ensures

pub returns-in-Some-clause-modest : goal.returns-in-Some-clause-modest
returns-in-Some-clause-modest c =
    omega (arith, c.saturating_sub.ensures, c.work.ensures.is, (job_limits c.work.ensures.job).small)

pub returns-in-None-clause-is : goal.returns-in-None-clause-is
returns-in-None-clause-is c =
    let none : 0 ≡ 0 - slice_index_or c.args.served.now c.args.number 0 = omega arith in
    none ∙ ap (λ j. option_map_or (λ (j : JobFacts). j.work) j 0 - slice_index_or c.args.served.now c.args.number 0)
    (sym (slice_get_past c.args.jobs.now c.args.number c.in-None.ensures.lookup.3))
