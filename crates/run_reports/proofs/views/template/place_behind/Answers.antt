use Rattle.std.proofs.Common.{◌∙◌, ap, add-one, drop}
use Rattle.run_reports.proofs.views.Filling.{others_drop}
use Rattle.run_reports.proofs.views.template.place_behind.Goals as goal

pub returns-then-byte-eq64-clause-is : goal.returns-then-byte-eq64-clause-is
returns-then-byte-eq64-clause-is c ns = rw c.if-byte-eq64.true (ap (λ n. drop n ns) (add-one c.args.next)
    ∙ others_drop c.args.next ns)
