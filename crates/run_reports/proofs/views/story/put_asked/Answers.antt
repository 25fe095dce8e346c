use Rattle.run_reports.proofs.views.story.put_asked.Goals as goal

pub returns : goal.returns
returns c = rw (c.from.ensures, c.release.ensures.is, c.work.ensures.is, c.deadline.ensures.is, c.value.ensures.is)
    at c.put.ensures
