use Rattle.std.proofs.Common.{◌<◌, sym, subst}
use Rattle.dover_model.specs.Sound.{Each}
use Rattle.run_record.proofs.ledger.under_way.JobsUnderWay.room_at.Goals as goal

pub room_with-requires : goal.room_with-requires
room_with-requires c =
    subst (λ p. Each (λ f. c.in-Some.entry.deadline < f.deadline) p.held.held) (sym c.self.view_is)
    (c.requires c.in-Some.entry (sym c.in-Some.ensures))
