use Rattle.std.proofs.Common.{refl, ◌∙◌, arith}
use Rattle.dialogue.proofs.Giving.{given_none, given_more, given_cut, given_all, given_few}
use Rattle.dialogue.proofs.turns.give.Goals as goal

pub loop-init : goal.loop-init
loop-init g c = record {
  given = λ a x rest it. given_none _ _ _ x rest it;
  writes = refl;
  reads = refl;
  calls = λ well. well;
}

pub loop-preserved : goal.loop-preserved
loop-preserved g c = record {
  given = λ a x rest it.
      let given = c.loop.invariant.given a x rest it in
      given_more _ _ (g.T.Talker.ready a c.next_part.new.self c.next_part.new.meter) _ _ _ _ x rest _ given
      c.next_part.new.part (rw c.if-not-next_part.false at (c.next_part.ensures.gives a x given.left given.stands)) _ _
      (rw c.bytes.ensures.is at c.in-Ok.ensures.text.all);
  writes = c.in-Ok.ensures.cause.ok ∙ c.loop.invariant.writes;
  reads = c.in-Ok.ensures.cause.other ∙ c.loop.invariant.reads;
  calls = λ well. c.in-Ok.ensures.stops.well (c.loop.invariant.calls well);
}

pub returns-in-Err-clause-text : goal.returns-in-Err-clause-text
returns-in-Err-clause-text g c = λ a x rest it.
    let given = c.loop.invariant.given a x rest it in
    given_cut _ (g.T.Talker.stands a c.next_part.new.self c.next_part.new.meter)
    (g.T.Talker.ready a c.next_part.new.self c.next_part.new.meter) _ _ _ _ x rest _ given c.next_part.new.part
    (rw c.if-not-next_part.false at (c.next_part.ensures.gives a x given.left given.stands)) _ _ c.in-Err.failed
    (rw c.bytes.ensures.is at c.in-Err.ensures.text.part)

pub returns-in-Err-clause-left : goal.returns-in-Err-clause-left
returns-in-Err-clause-left g c = λ a x rest it.
    let given = c.loop.invariant.given a x rest it in
    let gives = rw c.if-not-next_part.false at (c.next_part.ensures.gives a x given.left given.stands) in
    (gives.0, gives.2)

pub returns-then-not-next_part-clause-text : goal.returns-then-not-next_part-clause-text
returns-then-not-next_part-clause-text g c = λ a x rest it.
    let given = c.loop.invariant.given a x rest it in
    given_all _ (g.T.Talker.stands a c.next_part.new.self c.next_part.new.meter)
    (g.T.Talker.ready a c.next_part.new.self c.next_part.new.meter)
    _ _ _ _ x rest _ given c.next_part.new.part
    (rw c.if-not-next_part.true at (c.next_part.ensures.gives a x given.left given.stands))

pub unreachable-requires : goal.unreachable-requires
unreachable-requires g c =
    let given = c.loop.invariant.given c.requires.0 c.requires.1 c.requires.2 c.requires.3 in
    omega (
      arith,
      given_few _ (g.T.Talker.stands c.requires.0 c.loop.talker c.loop.meter)
          (g.T.Talker.ready c.requires.0 c.loop.talker c.loop.meter)
          _ _ _ _ c.requires.1 c.requires.2 _ given
          (c.laws.ensures.parts c.requires.0 c.args.talker.now c.args.meter.now c.requires.1 c.requires.2 c.requires.3),
    )

pub returns-then-not-next_part-clause-ready : goal.returns-then-not-next_part-clause-ready
returns-then-not-next_part-clause-ready g c = λ a x rest it.
    let given = c.loop.invariant.given a x rest it in
    (rw c.if-not-next_part.true at (c.next_part.ensures.gives a x given.left given.stands)).1

pub returns-then-not-next_part-clause-stops : goal.returns-then-not-next_part-clause-stops
returns-then-not-next_part-clause-stops g c = record { well = c.loop.invariant.calls; stopped = tt }
