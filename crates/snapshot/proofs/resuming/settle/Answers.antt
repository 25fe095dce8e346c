use Rattle.std.proofs.Common.{subst, ◌∙◌, arith}
use Rattle.dover_model.specs.declared.horizon.Horizon.TheVariants.{Mark}
use Rattle.ready_server.specs.Roster.{IsRollOf}
use Rattle.ready_server.proofs.Rostered.{few_takes, line_left, finish_room}
use Rattle.snapshot.proofs.Settling.{one_further, unreleased, too_many}
use Rattle.snapshot.proofs.resuming.settle.Goals as goal

pub step-requires : goal.step-requires
step-requires g c =
    let r = c.requires.serves in
    let it = c.loop-step.invariant.on r.0 r.1 r.2 r.3 r.4 in
    (r.0, Mark it.from, it.events, it.served.served, it.follows)

pub returns-in-None-clause-rests : goal.returns-in-None-clause-rests
returns-in-None-clause-rests g c = λ J m events it may.
    let on = c.loop-step.invariant.on J m events it may in
    let (all, rests) = c.in-None.ensures.gives J (Mark on.from) on.events on.served.served on.follows in
    record { rests = rests; read = subst (λ es. IsRollOf es c.loop-step.roster) all on.served.read }

pub returns-in-None-clause-room : goal.returns-in-None-clause-room
returns-in-None-clause-room g c = λ room.
    let before = c.loop-step.invariant.room room in (c.in-None.ensures.room before.0, before.1)

pub returns-in-None-clause-paid : goal.returns-in-None-clause-paid
returns-in-None-clause-paid g c = λ start paid. c.in-None.ensures.paid start (c.loop-step.invariant.paid start paid)

pub read-requires-clause-few : goal.read-requires-clause-few
read-requires-clause-few g c =
    let r = c.requires.serves in
    let it = c.loop-step.invariant.on r.0 r.1 r.2 r.3 r.4 in
    few_takes c.loop-step.server c.loop-step.roster r.0 it.from it.events it.served

pub read-requires-clause-room : goal.read-requires-clause-room
read-requires-clause-room g c n job is =
    let r = c.requires.serves in
    let it = c.loop-step.invariant.on r.0 r.1 r.2 r.3 r.4 in
    absurd (unreleased c.loop-step.server c.step.new.self c.loop-step.roster r.0 c.args.mark c.loop-step._step it
    c.in-Some.event (c.in-Some.ensures.gives r.0 (Mark it.from) it.events it.served.served it.follows) n job is)

pub loop-step-preserved : goal.loop-step-preserved
loop-step-preserved g c = record {
  on = λ J m events it may.
      let on = c.loop-step.invariant.on J m events it may in
      one_further c.loop-step.server c.step.new.self c.loop-step.roster c.read.new.self J c.args.mark c.loop-step._step
      on c.in-Some.event (c.in-Some.ensures.gives J (Mark on.from) on.events on.served.served on.follows)
      c.read.ensures.roll;
  room = λ room.
      let before = c.loop-step.invariant.room room in
      let r = c.requires.serves in
      let it = c.loop-step.invariant.on r.0 r.1 r.2 r.3 r.4 in (
        c.in-Some.ensures.room before.0,
        line_left c.loop-step.roster c.read.new.self c.in-Some.event
            (unreleased c.loop-step.server c.step.new.self c.loop-step.roster r.0 c.args.mark c.loop-step._step it
            c.in-Some.event (c.in-Some.ensures.gives r.0 (Mark it.from) it.events it.served.served it.follows))
            c.read.ensures.roll c.read.ensures.room.0 before.1,
      );
  finish_room = c.read.ensures.room.1 ∙ c.loop-step.invariant.finish_room;
  paid = λ start paid. c.in-Some.ensures.paid start (c.loop-step.invariant.paid start paid);
}

pub read-requires-clause-finish_room : goal.read-requires-clause-finish_room
read-requires-clause-finish_room g c at n is some =
    let r = c.requires.serves in
    let it = c.loop-step.invariant.on r.0 r.1 r.2 r.3 r.4 in
    finish_room c.loop-step.roster c.step.new.self r.0 c.args.mark it.events it.served.read c.in-Some.event at n is
    (c.in-Some.ensures.gives r.0 (Mark it.from) it.events it.served.served it.follows) some
    (omega (arith, r.5, c.loop-step.invariant.finish_room))

pub returns-in-None-clause-finish_room : goal.returns-in-None-clause-finish_room
returns-in-None-clause-finish_room g c = c.loop-step.invariant.finish_room

pub unreachable-requires : goal.unreachable-requires
unreachable-requires g c =
    let r = c.requires.serves in
    too_many c.loop-step.server c.loop-step.roster r.0 c.args.mark c.loop-step._step
    (c.loop-step.invariant.on r.0 r.1 r.2 r.3 r.4) c.loop-step-test.false
