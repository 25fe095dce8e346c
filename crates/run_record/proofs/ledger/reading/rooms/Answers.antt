use Rattle.std.proofs.Common.{◌++◌, ◌∷◌, [], ap, ◌∙◌, arith}
use Rattle.run_record.specs.ledger.Rooms.{room_before}
use Rattle.run_record.specs.ledger.Pages.{room_on}
use Rattle.run_record.proofs.ledger.Walking.{all_told, few_steps, none_told, one_told, step_read}
use Rattle.run_record.proofs.ledger.reading.rooms.Goals as goal

pub before_run-requires : goal.before_run-requires
before_run-requires c = omega (arith, few_steps c.args.k c.args.run.now c.requires.0 c.requires.1)

pub loop-event-init : goal.loop-event-init
loop-event-init c J of = none_told c.args.k c.args.run.now J of room_before _ _ c.in_ok-under_way.ensures
    c.new-rooms.ensures.items

pub room-requires : goal.room-requires
room-requires c = (step_read c.args.k c.args.run.now c.requires.0 c.requires.1 c.loop-event.under_way
    c.loop-event.event-index c.event-item.result c.event-item.is c.loop-event-test.true
    (c.loop-event.invariant c.requires.0 c.requires.1).0).of.readable

pub read-requires : goal.read-requires
read-requires c = (step_read c.args.k c.args.run.now c.requires.0 c.requires.1 c.loop-event.under_way
    c.loop-event.event-index c.event-item.result c.event-item.is c.loop-event-test.true
    (c.loop-event.invariant c.requires.0 c.requires.1).0).of.readable

pub loop-event-preserved : goal.loop-event-preserved
loop-event-preserved c J of = one_told c.args.k c.args.run.now J of room_before c.loop-event.under_way
    c.loop-event.event-index c.event-item.result c.event-item.is c.loop-event-test.true _
    (c.loop-event.invariant J of) room_on (λ s of. of.room) _ _ c.in_ok-read.ensures
    (c.in_ok-push.ensures.items ∙ ap (λ n. c.loop-event.rooms.items ++ n ∷ []) c.room.ensures)

pub returns : goal.returns
returns c J of = all_told c.args.k c.args.run.now J of room_before c.loop-event.under_way c.loop-event.rooms.items
    c.loop-event.event-index (omega arith) (c.loop-event.invariant J of)
