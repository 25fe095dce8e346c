use Rattle.std.proofs.Common.{refl, subst, sym, ap, ◌∙◌}
use Rattle.std.proofs.lemmas.Bool.{false≢true}
use Rattle.lane_server.specs.Kept.{Kept, StandsFor}
use Rattle.lane_server.specs.Spending.{HavePaid}
use Rattle.lane_server.proofs.Keeping.{ready_left, closed_giving}
use Rattle.lane_server.proofs.lanes.Lanes.next_out.Goals as goal

pub give-requires-clause-phase : goal.give-requires-clause-phase
give-requires-clause-phase g c = sym (ap (λ (k : Kept). k.phase) c.self.view_is) ∙ c.in-Giving.is

pub give-requires-clause-stands : goal.give-requires-clause-stands
give-requires-clause-stands g c = c.requires.stands

pub give_short-requires-clause-phase : goal.give_short-requires-clause-phase
give_short-requires-clause-phase g c = sym (ap (λ (k : Kept). k.phase) c.self.view_is) ∙ c.in-Closing.is

pub give_short-requires-clause-stands : goal.give_short-requires-clause-stands
give_short-requires-clause-stands g c = c.requires.stands

pub returns-in-Ready-clause-gives : goal.returns-in-Ready-clause-gives
returns-in-Ready-clause-gives g c = λ ls rest it.
    let left = ready_left c.args.self.now ls rest it
    (sym (ap (λ (k : Kept). k.phase) c.self.view_is) ∙ c.in-Ready.is) in
    (left.1, subst (StandsFor c.args.self.now ls) left.1 it)

pub returns-in-Ready-clause-ready : goal.returns-in-Ready-clause-ready
returns-in-Ready-clause-ready g c = λ none going. sym (ap (λ (k : Kept). k.phase) c.self.view_is) ∙ c.in-Ready.is

pub returns-in-Ready-clause-closed : goal.returns-in-Ready-clause-closed
returns-in-Ready-clause-closed g c = refl

pub returns-in-Ready-clause-paid : goal.returns-in-Ready-clause-paid
returns-in-Ready-clause-paid g c = λ start paid. paid

pub returns-in-Ready-clause-idle : goal.returns-in-Ready-clause-idle
returns-in-Ready-clause-idle g c = λ closed. refl

pub returns-in-Giving-clause-gives : goal.returns-in-Giving-clause-gives
returns-in-Giving-clause-gives g c = c.give.ensures.gives

pub returns-in-Giving-clause-ready : goal.returns-in-Giving-clause-ready
returns-in-Giving-clause-ready g c = c.give.ensures.ready

pub returns-in-Giving-clause-closed : goal.returns-in-Giving-clause-closed
returns-in-Giving-clause-closed g c = c.give.ensures.closed

pub returns-in-Giving-clause-paid : goal.returns-in-Giving-clause-paid
returns-in-Giving-clause-paid g c = c.give.ensures.paid

pub returns-in-Giving-clause-idle : goal.returns-in-Giving-clause-idle
returns-in-Giving-clause-idle g c = λ closed.
    let giving = sym (ap (λ (k : Kept). k.phase) c.self.view_is) ∙ c.in-Giving.is in
    absurd (false≢true (sym (closed_giving c.args.self.now c.in-Giving.lane giving) ∙ closed))

pub returns-in-Closing-clause-gives : goal.returns-in-Closing-clause-gives
returns-in-Closing-clause-gives g c = c.give_short.ensures.gives

pub returns-in-Closing-clause-ready : goal.returns-in-Closing-clause-ready
returns-in-Closing-clause-ready g c = c.give_short.ensures.ready

pub returns-in-Closing-clause-closed : goal.returns-in-Closing-clause-closed
returns-in-Closing-clause-closed g c = c.give_short.ensures.closed

pub returns-in-Closing-clause-paid : goal.returns-in-Closing-clause-paid
returns-in-Closing-clause-paid g c = λ start paid.
    subst (λ lanes. HavePaid lanes start c.args.comparisons.now) (sym c.give_short.ensures.lanes) paid

pub returns-in-Closing-clause-idle : goal.returns-in-Closing-clause-idle
returns-in-Closing-clause-idle g c = λ closed. refl
