use Rattle.std.proofs.Common.{◌++◌, ◌∙◌, [], ◌∷◌, true, false, sym, ap, append-nil}
use Rattle.clairvoyant.proofs.overload.Near.{inside_more}
use Rattle.clairvoyant.proofs.overload.costing.inside.Goals as goal
use Rattle.clairvoyant.proofs.overload.costing.inside.Goals.{then-is_inside+in_ok-push, else-is_inside}

pub loop-job-preserved : goal.loop-job-preserved
loop-job-preserved c = elim c.if-is_inside.branch [
  | then-is_inside+in_ok-push w ↦ ap (λ v. v.items) w.inside-is ∙ w.in_ok-push.ensures.items
      ∙ ap (λ l. l ++ c.job-item.result ∷ []) c.loop-job.invariant
      ∙ sym (inside_more c.args.jobs.now c.loop-job.job-index c.job-item.result c.args.from c.args.until true
      c.loop-job-test.true c.job-item.is w.if-is_inside.ensures)
  | else-is_inside w ↦ ap (λ v. v.items) w.inside-is ∙ c.loop-job.invariant ∙ sym (append-nil _)
      ∙ sym (inside_more c.args.jobs.now c.loop-job.job-index c.job-item.result c.args.from c.args.until false
      c.loop-job-test.true c.job-item.is w.if-is_inside.ensures)
]
