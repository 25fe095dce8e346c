use Rattle.std.proofs.Common.{◌<◌, sym, subst}
use Rattle.dover_model.specs.Sound.{Each}
use Rattle.held_stack.specs.Stack.{Stack}
use Rattle.run_record.proofs.ledger.Held.{top_later}
use Rattle.run_record.proofs.ledger.under_way.JobsUnderWay.preempt.Goals as goal

pub hold-requires-clause-first : goal.hold-requires-clause-first
hold-requires-clause-first c x top =
    top_later c.in-Some.entry.deadline c.reserve.new.self.held x
    (subst (λ (s : Stack). Each (λ f. c.in-Some.entry.deadline < f.deadline) s.held) (sym c.in_ok-reserve.ensures.ok)
    (subst (λ p. Each (λ f. c.in-Some.entry.deadline < f.deadline) p.held.held) (sym c.self.view_is)
    (c.requires.hold c.in-Some.entry (sym c.in-Some.ensures)).first)) top
