use Rattle.std.proofs.Common.{[], refl, sym, ap, ◌∙◌, subst}
use Rattle.lane_server.specs.Kept.{Kept}
use Rattle.lane_server.specs.Spending.{HavePaid}
use Rattle.lane_server.specs.Lanes as lanes
use Rattle.lane_server.specs.declared.refusal.InputRefusal.TheVariants.{TooManyLines, BadLane}
use Rattle.lane_server.proofs.Inputs.{input_many, input_bad}
use Rattle.lane_server.proofs.Keeping.{ready_left}
use Rattle.lane_server.proofs.Receiving.{hands_fed, hands_close, hands_fault, lacks, same_count, same_stand}
use Rattle.lane_server.proofs.lane_input.hand.Goals as goal

pub returns-in-Ok-Fed-clause-hands : goal.returns-in-Ok-Fed-clause-hands
returns-in-Ok-Fed-clause-hands c = λ ls stands.
    hands_fed ls c.args.line.now (ready_left c.args.lanes.now ls [] stands c.requires.2).0 c.line.new.self
    c.in-Ok-Fed.field-0-0 (rw c.in-Ok-Fed.field-0-is at (c.in-Ok-Fed.ensures.answers ls stands))

pub returns-in-Ok-Closed-clause-hands : goal.returns-in-Ok-Closed-clause-hands
returns-in-Ok-Closed-clause-hands c = λ ls stands.
    hands_close ls c.args.line.now (ready_left c.args.lanes.now ls [] stands c.requires.2).0 c.line.new.self
    (rw c.in-Ok-Closed.field-0-is at (c.in-Ok-Closed.ensures.answers ls stands))

pub returns-in-Err-Lines-clause-hands : goal.returns-in-Err-Lines-clause-hands
returns-in-Err-Lines-clause-hands c = λ ls stands.
    let it = rw c.in-Err-Lines.field-0-is at (c.in-Err-Lines.ensures.answers ls stands) in
    let opened = (ready_left c.args.lanes.now ls [] stands c.requires.2).0 in
    hands_fault ls c.args.line.now opened c.line.new.self TooManyLines lanes.TooManyLines
    (ap (λ (k : Kept). k.lines) it.1 ∙ stands.counted) (same_count c.args.lanes.now c.line.new.self ls stands it.1)
    (same_stand c.args.lanes.now c.line.new.self ls stands it.1) refl (input_many ls c.args.line.now opened it.0)

pub returns-in-Err-BadLane-clause-hands : goal.returns-in-Err-BadLane-clause-hands
returns-in-Err-BadLane-clause-hands c = λ ls stands.
    let it = rw c.in-Err-BadLane.field-0-is at (c.in-Err-BadLane.ensures.answers ls stands) in
    let opened = (ready_left c.args.lanes.now ls [] stands c.requires.2).0 in
    hands_fault ls c.args.line.now opened c.line.new.self BadLane lanes.BadLane
    (ap (λ (k : Kept). k.lines) it.2 ∙ stands.counted) (same_count c.args.lanes.now c.line.new.self ls stands it.2)
    (same_stand c.args.lanes.now c.line.new.self ls stands it.2) refl (input_bad ls c.args.line.now opened it.0 it.1)

pub returns-in-Err-Memory-clause-hands : goal.returns-in-Err-Memory-clause-hands
returns-in-Err-Memory-clause-hands c = λ ls stands.
    let it = rw c.in-Err-Memory.field-0-is at (c.in-Err-Memory.ensures.answers ls stands) in
    lacks ls c.args.line.now (ready_left c.args.lanes.now ls [] stands c.requires.2).0 it.0 it.1.0 it.1.1 it.1.2

pub returns-in-Err-Lines-clause-paid : goal.returns-in-Err-Lines-clause-paid
returns-in-Err-Lines-clause-paid c = λ start now paid.
    let it = rw c.in-Err-Lines.field-0-is at (c.in-Err-Lines.ensures.answers c.requires.0 c.requires.1) in
    subst (λ (k : Kept). HavePaid k.lanes start now) (sym it.1) paid

pub returns-in-Err-BadLane-clause-paid : goal.returns-in-Err-BadLane-clause-paid
returns-in-Err-BadLane-clause-paid c = λ start now paid.
    let it = rw c.in-Err-BadLane.field-0-is at (c.in-Err-BadLane.ensures.answers c.requires.0 c.requires.1) in
    subst (λ (k : Kept). HavePaid k.lanes start now) (sym it.2) paid

pub line-requires-clause-ready : goal.line-requires-clause-ready
line-requires-clause-ready c = c.requires.2

pub line-requires-clause-stands : goal.line-requires-clause-stands
line-requires-clause-stands c = (c.requires.0, c.requires.1)

pub returns-in-Ok-Fed-clause-paid : goal.returns-in-Ok-Fed-clause-paid
returns-in-Ok-Fed-clause-paid c = c.in-Ok-Fed.ensures.paid

pub returns-in-Ok-Closed-clause-paid : goal.returns-in-Ok-Closed-clause-paid
returns-in-Ok-Closed-clause-paid c = c.in-Ok-Closed.ensures.paid

pub returns-in-Err-Memory-clause-paid : goal.returns-in-Err-Memory-clause-paid
returns-in-Err-Memory-clause-paid c = λ start now paid. tt
