use Rattle.std.proofs.Common.{subst}
use Rattle.dover_port.specs.Moves.{PutsThrough}
use Rattle.task_report.proofs.Parts.{other_put}
use Rattle.task_report.proofs.lines.put_other.Goals as goal

pub returns-clause-text : goal.returns-clause-text
returns-clause-text g c = subst (PutsThrough _ _ _ _ _)
    (other_put c.args.tally.now c.none.result c.none.ensures) c.put_line.ensures.text
