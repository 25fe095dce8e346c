use Rattle.std.proofs.Common.{[], ◌++◌, sym, ap, ◌∙◌, if◌then◌else◌}
use Rattle.std.proofs.lemmas.Result.{IfOk-equal}
use Rattle.run_reports.specs.views.Stays.{stays_of}
use Rattle.run_reports.specs.views.Timeline.{job_line}
use Rattle.run_reports.proofs.views.terminal.put_met.Goals as goal

pub returns : goal.returns
returns c run keeps = IfOk-equal c.put_job.result _ _ _ c.put_job.ensures
    (ap (λ s. c.args.text.now.items ++ job_line c.args.window.now c.args.number c.args.job.now s c.args.ending)
    (c.deref.ensures.value ∙ c.in_ok-copy_to.ensures run keeps)
    ∙ ap (λ b. c.args.text.now.items ++ (if b then job_line c.args.window.now c.args.number c.args.job.now
    (stays_of c.args.number run) c.args.ending else []))
    (sym c.if-not-meets.false ∙ c.meets.ensures))

pub copy_to-requires-clause-known : goal.copy_to-requires-clause-known
copy_to-requires-clause-known c = c.requires.known
