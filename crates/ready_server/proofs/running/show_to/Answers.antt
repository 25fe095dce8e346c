use Rattle.std.proofs.Common.{arith, subst}
use Rattle.ready_server.proofs.Showing.{showing_more, served_few, room_before}
use Rattle.ready_server.proofs.running.show_to.Goals as goal

pub loop-init : goal.loop-init
loop-init g c = record {
  showing = λ J from it follows. record { from = from; follows = follows; so_far = it; many = omega arith };
  room = λ has. has;
  paid = λ start paid. paid;
}

pub step-requires : goal.step-requires
step-requires g c =
    let it = c.loop.invariant.showing c.requires.0 c.requires.1 c.requires.2 c.requires.3 in
    (c.requires.0, it.from, it.so_far.events, it.so_far.served, it.follows)

pub see-requires : goal.see-requires
see-requires g c =
    let it = c.loop.invariant.showing c.requires.0 c.requires.1 c.requires.2 c.requires.3 in
    let events = it.so_far.events in (
      events,
      it.so_far.shown,
      room_before c.laws.ensures.valid c.laws.ensures.begins c.step.new.self c.requires.0 c.args.to events
          c.in-Some.event (c.in-Some.ensures.gives c.requires.0 it.from events it.so_far.served it.follows),
    )

pub loop-preserved : goal.loop-preserved
loop-preserved g c = record {
  showing = λ J start shown follows.
      let it = c.loop.invariant.showing J start shown follows in
      let events = it.so_far.events in
      showing_more _ c.step.new.self _ c.see.new.self J c.args.to _ it c.in-Some.event
      (c.in-Some.ensures.gives J it.from events it.so_far.served it.follows) (c.see.ensures events it.so_far.shown);
  room = λ has. c.in-Some.ensures.room (c.loop.invariant.room has);
  paid = λ start paid. c.in-Some.ensures.paid start (c.loop.invariant.paid start paid);
}

pub returns-in-None-clause-shown : goal.returns-in-None-clause-shown
returns-in-None-clause-shown g c = λ J from shown follows.
    let it = c.loop.invariant.showing J from shown follows in
    let gives = c.in-None.ensures.gives J it.from it.so_far.events it.so_far.served it.follows in
    (gives.1, subst (g.W.Watcher.seen c.loop.watcher) gives.0 it.so_far.shown)

pub unreachable-requires : goal.unreachable-requires
unreachable-requires g c =
    let it = c.loop.invariant.showing c.requires.0 c.requires.1 c.requires.2 c.requires.3 in
    omega (
      arith,
      it.many,
      served_few c.laws.ensures.valid c.laws.ensures.begins c.loop.server c.requires.0 it.from it.so_far.events
          it.so_far.served,
    )

pub returns-in-None-clause-paid : goal.returns-in-None-clause-paid
returns-in-None-clause-paid g c = λ start paid. c.in-None.ensures.paid start (c.loop.invariant.paid start paid)
