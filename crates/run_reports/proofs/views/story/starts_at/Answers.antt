use Rattle.std.proofs.Common.{◌+◌, drop, sym, ap, ◌∙◌}
use Rattle.std.proofs.lemmas.List.{drop_all}
use Rattle.run_reports.specs.views.Why.{starts_first}
use Rattle.run_reports.proofs.views.Telling.{one_next}
use Rattle.run_reports.proofs.views.story.starts_at.Goals as goal

pub returns-in-Some : goal.returns-in-Some
returns-in-Some c = c.starts.ensures (drop (c.args.index + 1) c.args.run.now)
    ∙ ap (starts_first c.args.number) (sym (one_next c.args.run.now c.args.index c.in-Some.event.now
    c.in-Some.ensures.lookup.1 c.in-Some.ensures.lookup.3.0))

pub returns-in-None : goal.returns-in-None
returns-in-None c = ap (starts_first c.args.number) (sym (drop_all c.args.index c.args.run.now
    c.in-None.ensures.lookup.3))
