use Rattle.std.proofs.Common.{◌∙◌, sym, subst}
use Rattle.run_record.specs.ledger.Pages.{IsReadable}
use Rattle.run_record.proofs.ledger.under_way.JobsUnderWay.read.Goals as goal

pub preempt-requires-clause-hold : goal.preempt-requires-clause-hold
preempt-requires-clause-hold c =
    (subst (IsReadable c.args.self.now) (sym c.event.ensures ∙ c.in-Preempt.is) c.requires).1
