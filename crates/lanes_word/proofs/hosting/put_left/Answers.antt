use Rattle.std.proofs.Common.{[], refl, ap, ◌∙◌, arith}
use Rattle.dialogue.proofs.Giving.{given_none, given_more, given_cut, given_all, given_few}
use Rattle.lane_server.proofs.Few.{few_left}
use Rattle.lanes_word.specs.Keeping.{parts_of}
use Rattle.lanes_word.proofs.Talking.{few_parts, left_in}
use Rattle.lanes_word.proofs.hosting.put_left.Goals as goal

pub loop-init : goal.loop-init
loop-init g c = record {
  given = λ ls left it. given_none (left_in c.args.lanes.now ls)
      _ _ [] (parts_of left) (left, refl, it);
  closed = c.requires.closed;
  idle = refl;
  writes = refl;
  reads = refl;
  calls = λ well. well;
}

pub loop-preserved : goal.loop-preserved
loop-preserved g c = record {
  given = λ ls left it.
      let given = c.loop.invariant.given ls left it in
      let next = c.in-Some.ensures.gives ls given.stands.0 given.stands.2 in
      let now = left_in c.next_out.new.self ls in
      given_more _ now (λ x. now x []) _ _ _ _ [] (parts_of left) _ given c.write_in_lane.new.line
      (rw c.write_in_lane.ensures (parts_of next.0, given.stands.1 ∙ ap parts_of next.1, (next.0, refl, next.2))) _ _
      (rw c.bytes.ensures.is at c.in-Ok.ensures.text.all);
  closed = c.next_out.ensures.closed ∙ c.loop.invariant.closed;
  idle = c.next_out.ensures.idle c.loop.invariant.closed ∙ c.loop.invariant.idle;
  writes = c.in-Ok.ensures.cause.ok ∙ c.loop.invariant.writes;
  reads = c.in-Ok.ensures.cause.other ∙ c.loop.invariant.reads;
  calls = λ well. c.in-Ok.ensures.stops.well (c.loop.invariant.calls well);
}

pub returns-in-Err-clause-text : goal.returns-in-Err-clause-text
returns-in-Err-clause-text g c = λ ls left it.
    let given = c.loop.invariant.given ls left it in
    let next = c.in-Some.ensures.gives ls given.stands.0 given.stands.2 in
    let now = left_in c.next_out.new.self ls in
    given_cut _ now (λ x. now x []) _ _ _ _ [] (parts_of left) _ given c.write_in_lane.new.line
    (rw c.write_in_lane.ensures (parts_of next.0, given.stands.1 ∙ ap parts_of next.1, (next.0, refl, next.2))) _ _
    c.in-Err.failed (rw c.bytes.ensures.is at c.in-Err.ensures.text.part)

pub returns-in_default-clause-text : goal.returns-in_default-clause-text
returns-in_default-clause-text g c = λ ls left it.
    let given = c.loop.invariant.given ls left it in
    let next = c.in_default.ensures.gives ls given.stands.0 given.stands.2 in
    let now = left_in c.next_out.new.self ls in
    given_all _ now (λ x. now x []) _ _ _ _ [] (parts_of left) _ given []
    (given.stands.1 ∙ ap parts_of next.0, ([], refl, next.1))

pub unreachable-requires : goal.unreachable-requires
unreachable-requires g c =
    let given = c.loop.invariant.given c.requires.stands.0 c.requires.stands.1 c.requires.stands.2 in
    let now = left_in c.loop.lanes c.requires.stands.0 in
    omega (
      arith,
      given_few _ now (λ x. now x []) _ _ _ _ [] (parts_of c.requires.stands.1) _ given
          (few_parts c.requires.stands.1 (parts_of c.requires.stands.1) refl
          (few_left c.args.lanes.now c.requires.stands.0 c.requires.stands.1 c.requires.stands.2)),
    )

pub returns-in-Err-clause-idle : goal.returns-in-Err-clause-idle
returns-in-Err-clause-idle g c = c.next_out.ensures.idle c.loop.invariant.closed ∙ c.loop.invariant.idle

pub returns-in_default-clause-idle : goal.returns-in_default-clause-idle
returns-in_default-clause-idle g c = c.next_out.ensures.idle c.loop.invariant.closed ∙ c.loop.invariant.idle

pub returns-in_default-clause-stops : goal.returns-in_default-clause-stops
returns-in_default-clause-stops g c = record { well = c.loop.invariant.calls; stopped = tt }
