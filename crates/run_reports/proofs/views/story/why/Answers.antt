use Rattle.std.proofs.Common.{[], length, refl, sym, ap, ◌∙◌}
use Rattle.std.proofs.lemmas.Option.{slice_get_past, slice_get_read}
use Rattle.std.proofs.lemmas.Result.{IfOk-weaker}
use Rattle.run_reports.specs.views.Why.{unknown}
use Rattle.run_reports.proofs.views.Telling.{same_jobs, why_none, why_some}
use Rattle.run_reports.proofs.views.story.why.Goals as goal

pub story_of-requires : goal.story_of-requires
story_of-requires c = (
  c.requires.0,
  c.requires.1,
  same_jobs c.args.k c.args.run.now c.requires.0 c.requires.1 c.args.number c.deref-in-Some.result.now
      (c.deref-in-Some.ensures.value ∙ c.in_ok-jobs.ensures),
)

pub returns-in-Some : goal.returns-in-Some
returns-in-Some c J of under =
    IfOk-weaker c.story_of.result _ _
    (λ text is. why_some c.args.k c.args.run.now J of c.args.number c.deref.result.now
    (c.deref.ensures.value ∙ c.in_ok-jobs.ensures) c.in-Some.job.now text.items
    (slice_get_read c.deref.result.now (length c.deref.result.now) c.args.number c.in-Some.job.now refl
    c.in-Some.ensures.lookup.3.0 c.in-Some.ensures.lookup.1) is)
    (c.story_of.ensures J of (same_jobs c.args.k c.args.run.now J of c.args.number c.deref-in-Some.result.now
    (c.deref-in-Some.ensures.value ∙ c.in_ok-jobs.ensures)) under)

pub returns : goal.returns
returns c J of under =
    IfOk-weaker c.unknown.result _ _
    (λ text is. why_none c.args.k c.args.run.now J of c.args.number c.deref.result.now
    (c.deref.ensures.value ∙ c.in_ok-jobs.ensures) [] text.items
    (slice_get_past c.deref.result.now c.args.number c.in-None.ensures.lookup.3) refl
    (is ∙ ap (unknown c.args.number) (c.len.ensures ∙ sym c.deref.ensures.len)))
    c.unknown.ensures
