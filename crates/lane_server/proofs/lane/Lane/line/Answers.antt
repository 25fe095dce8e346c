use Rattle.std.proofs.Common.{◌≡◌, ◌∙◌, ap, sym, subst, ◌∷◌, ◌++◌, [], true}
use Rattle.std.proofs.lemmas.Result.{on_ok_weaker}
use Rattle.dover_model.specs.Feed.{account_of_lines}
use Rattle.event_feed.specs.Kept as feed
use Rattle.event_feed.specs.declared.fed.Fed.TheVariants.{Over}
use Rattle.lane_server.specs.Lane.{IsOpenAt, IntakeStands}
use Rattle.lane_server.proofs.Offering.{intake_turns}
use Rattle.event_feed.proofs.Listing.{on_ok_both}
use Rattle.lane_server.proofs.Adding.{new_fault}
use Rattle.lane_server.proofs.Taking.{quiet_intake, taken_stands, fault_stands, over_stands, open_at, over_fed}
use Rattle.lane_server.proofs.lane.Lane.line.Goals as goal

pub take-requires : goal.take-requires
take-requires c = (
  account_of_lines c.requires.0,
  account_of_lines (c.requires.0 ++ c.args.line.now ∷ []),
  open_at c.args.self.now c.line.new.self c.requires.0 c.requires.1 c.if-not-self.false,
  (c.in-Ok.ensures.answer c.requires.0 (quiet_intake c.args.self.now c.requires.0 c.requires.1)).1,
)

pub returns-in-Ok-clause-stands : goal.returns-in-Ok-clause-stands
returns-in-Ok-clause-stands c = λ ls it.
    let at : IsOpenAt (record c.args.self.now { intake = c.line.new.self })
    (account_of_lines ls) =
    open_at c.args.self.now c.line.new.self ls it c.if-not-self.false in
    let is = (c.in-Ok.ensures.answer ls (quiet_intake c.args.self.now ls it)).1 in
    let over : feed.has_ended c.take.new.self.intake ≡ true → c.in-Ok.fed ≡ Over =
    λ e. over_fed c.in-Ok.fed c.line.result c.in-Ok.is
    (c.line.ensures.ended.0 (sym (ap feed.has_ended c.take.ensures.intake) ∙ e)) in
    on_ok_weaker c.take.result (λ both. taken_stands c.take.new.self ls c.args.line.now c.in-Ok.fed
    (subst (λ i. IntakeStands c.take.new.self.work i (ls ++ c.args.line.now ∷ [])) (sym c.take.ensures.intake)
    (intake_turns c.in-Ok.fed c.take.new.self.work c.line.new.self ls c.args.line.now is both.1
    (c.in-Ok.ensures.stands ls (quiet_intake c.args.self.now ls it)))) is over both.0)
    (on_ok_both _ _ c.take.result
    (c.take.ensures.adds (account_of_lines ls) (account_of_lines (ls ++ c.args.line.now ∷ [])) at is)
    c.take.ensures.turns)

pub returns-in-Err-clause-stands : goal.returns-in-Err-clause-stands
returns-in-Err-clause-stands c = λ ls it.
    let at : IsOpenAt (record c.args.self.now { intake = c.line.new.self })
    (account_of_lines ls) =
    open_at c.args.self.now c.line.new.self ls it c.if-not-self.false in
    fault_stands c.args.self.now c.line.new.self ls c.args.line.now c.in-Err.fault
    (record { by_account = c.in-Err.ensures.stands ls (quiet_intake c.args.self.now ls it) }) at
    (new_fault c.args.line.now c.in-Err.fault (account_of_lines ls) (account_of_lines (ls ++ c.args.line.now ∷ []))
    at.stands (c.in-Err.ensures.answer ls (quiet_intake c.args.self.now ls it)))

pub returns-then-not-self-clause-stands : goal.returns-then-not-self-clause-stands
returns-then-not-self-clause-stands c = λ ls it. over_stands c.args.self.now ls c.args.line.now it c.if-not-self.true

pub returns-in-Ok-clause-paid : goal.returns-in-Ok-clause-paid
returns-in-Ok-clause-paid c = λ ls start now it paid.
    c.take.ensures.paid (account_of_lines ls) (account_of_lines (ls ++ c.args.line.now ∷ [])) start now
    (open_at c.args.self.now c.line.new.self ls it c.if-not-self.false)
    (c.in-Ok.ensures.answer ls (quiet_intake c.args.self.now ls it)).1 paid

pub returns-in-Ok-clause-lacks : goal.returns-in-Ok-clause-lacks
returns-in-Ok-clause-lacks c = λ ls it.
    c.take.ensures.lacks (account_of_lines ls) (account_of_lines (ls ++ c.args.line.now ∷ []))
    (c.in-Ok.ensures.answer ls (quiet_intake c.args.self.now ls it)).1

pub returns-in-Ok-clause-asks : goal.returns-in-Ok-clause-asks
returns-in-Ok-clause-asks c = λ ls it.
    c.take.ensures.asks (account_of_lines ls) (account_of_lines (ls ++ c.args.line.now ∷ []))
    (c.in-Ok.ensures.answer ls (quiet_intake c.args.self.now ls it)).1
