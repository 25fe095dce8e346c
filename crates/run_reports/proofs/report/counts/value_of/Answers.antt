use Rattle.std.proofs.Common.{length, refl, sym, ap, ◌∙◌, arith}
use Rattle.std.specs.Option.{option_map_or}
use Rattle.std.proofs.lemmas.Option.{slice_get_past, slice_get_read}
use Rattle.dover_model.specs.JobFacts.{JobFacts}
use Rattle.dover_model.proofs.valid.JobLimits.{job_limits}
use Rattle.run_reports.proofs.report.counts.value_of.Goals as goal

pub returns-in-Some-clause-is : goal.returns-in-Some-clause-is
returns-in-Some-clause-is c = c.value.ensures.is ∙ ap (λ j. option_map_or (λ (j : JobFacts). j.value) j 0)
    (sym (slice_get_read c.args.jobs.now (length c.args.jobs.now) c.args.number c.in-Some.job.now refl
    c.in-Some.ensures.lookup.3.0 c.in-Some.ensures.lookup.1))

pub returns-in-Some-clause-modest : goal.returns-in-Some-clause-modest
returns-in-Some-clause-modest c =
    omega (arith, c.value.ensures.is, (job_limits c.value.ensures.job).modest)

pub returns-in-None-clause-is : goal.returns-in-None-clause-is
returns-in-None-clause-is c = ap (λ j. option_map_or (λ (j : JobFacts). j.value) j 0)
    (sym (slice_get_past c.args.jobs.now c.args.number c.in-None.ensures.lookup.3))
