use Rattle.std.proofs.Common.{◌++◌, ap, ◌∙◌}
use Rattle.run_reports.specs.views.Why.{unknown}
use Rattle.run_reports.proofs.views.story.unknown.Goals as goal

pub returns : goal.returns
returns c = (rw c.from.ensures at c.in_ok-put.ensures)
    ∙ ap (λ t. t ++ unknown c.args.number c.args.count) c.new-text.ensures.items
