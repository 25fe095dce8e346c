use Rattle.std.proofs.Common.{◌∙◌, sym, subst}
use Rattle.run_record.specs.ledger.Pages.{CanWeigh, IsReadable}
use Rattle.run_record.proofs.ledger.under_way.JobsUnderWay.room.Goals as goal

pub room_at-requires : goal.room_at-requires
room_at-requires c = subst (CanWeigh c.args.self.now) (sym c.release.ensures.is)
    (subst (IsReadable c.args.self.now) (sym c.event.ensures ∙ c.in-Release.is) c.requires)

pub room_at-requires-in-Preempt : goal.room_at-requires-in-Preempt
room_at-requires-in-Preempt c =
    let can = subst (IsReadable c.args.self.now) (sym c.event.ensures ∙ c.in-Preempt.is) c.requires in
    λ e at. (can.1 e at).first
