use Rattle.std.proofs.Common.{length, refl, sym, ap, ◌∙◌}
use Rattle.std.specs.Option.{option_map_or}
use Rattle.std.proofs.lemmas.Option.{slice_get_past, slice_get_read}
use Rattle.dover_model.specs.JobFacts.{JobFacts}
use Rattle.run_reports.proofs.views.story.work_in.Goals as goal

pub returns-in-Some : goal.returns-in-Some
returns-in-Some c = c.work.ensures.is ∙ ap (λ j. option_map_or (λ (j : JobFacts). j.work) j 0)
    (sym (slice_get_read c.args.jobs.now (length c.args.jobs.now) c.args.number c.in-Some.job.now refl
    c.in-Some.ensures.lookup.3.0 c.in-Some.ensures.lookup.1))

pub returns-in-None : goal.returns-in-None
returns-in-None c = ap (λ j. option_map_or (λ (j : JobFacts). j.work) j 0)
    (sym (slice_get_past c.args.jobs.now c.args.number c.in-None.ensures.lookup.3))
