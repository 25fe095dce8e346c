use Rattle.std.proofs.Common.{◌≡◌, ◌++◌, ap, ◌∙◌}
use Rattle.run_reports.specs.report.Counts.{jobs_released}
use Rattle.run_reports.specs.report.Fates.{fates_of}
use Rattle.run_reports.specs.views.Timeline.{fates_line, frame, job_lines, window_or}
use Rattle.run_reports.proofs.views.terminal.schedule_timeline.Goals as goal

pub returns : goal.returns
returns c =
    let run = c.args.run.now in
    let jobs = jobs_released run in
    let w = c.window_or-window.result in
    let shown : w ≡ window_or c.args.window jobs = c.window_or-window.ensures
    ∙ ap (window_or c.args.window) (c.deref.ensures.value ∙ c.in_ok-jobs.ensures) in
    c.in_ok-put_jobs.ensures
    ∙ ap (λ t. t ++ job_lines w run 0 c.deref-3.result.now) (c.in_ok-put_frame.ensures
    ∙ ap (λ t. t ++ frame w) (c.in_ok-put_fates.ensures
    ∙ ap (λ t. t ++ fates_line c.fates_of.result) c.new-text.ensures.items))
    ∙ ap (λ f. fates_line f ++ frame w ++ job_lines w run 0 c.deref-3.result.now) c.fates_of.ensures
    ∙ ap (λ js. fates_line (fates_of js run) ++ frame w ++ job_lines w run 0 c.deref-3.result.now)
    (c.deref-2.ensures.value ∙ c.in_ok-jobs.ensures)
    ∙ ap (λ js. fates_line (fates_of jobs run) ++ frame w ++ job_lines w run 0 js)
    (c.deref-3.ensures.value ∙ c.in_ok-jobs.ensures)
    ∙ ap (λ v. fates_line (fates_of jobs run) ++ frame v ++ job_lines v run 0 jobs) shown
