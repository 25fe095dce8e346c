use Rattle.std.proofs.Common.{◌≡◌, refl, ◌∙◌, sym, true, false, length, eqb-true}
use Rattle.std.proofs.lemmas.List.{nil_from_length}
use Rattle.dialogue.proofs.Hearing.{heard_none, heard_no_memory, heard_cut, heard_more}
use Rattle.dialogue.proofs.turns.hear.Goals as goal

pub loop-rest-init : goal.loop-rest-init
loop-rest-init g c = record {
  heard = λ a x s o. heard_none _ _ x _ _ _ s o;
  writes = refl;
  reads = refl;
  calls = λ well. well;
}

pub returns-in_default-clause-hears : goal.returns-in_default-clause-hears
returns-in_default-clause-hears g c = λ a x s o.
    let heard = c.loop-rest.invariant.heard a x s o in
    heard_no_memory _ (c.laws.ensures.steady a) _ x _ _ _ _ _ _ heard (g.T.Talker.costs a c.take.new.meter)
    (c.in_default.ensures.takes a _ heard.stands heard.goes_on)

pub returns-in-Err-clause-hears : goal.returns-in-Err-clause-hears
returns-in-Err-clause-hears g c = λ a x s o.
    let heard = c.loop-rest.invariant.heard a x s o in
    let takes = c.in-Ok.ensures.takes a _ heard.stands heard.goes_on in
    let left = c.in-Err.ensures.left a _ _ takes.2.2 in
    heard_cut _ (c.laws.ensures.steady a) _ x _ _ _ _ _ _ heard
    (g.T.Talker.stands a c.take.new.self c.take.new.meter) c.in-Ok.count takes _
    c.give.new.out (g.T.Talker.costs a c.give.new.meter) (c.laws.ensures.behind a c.give.new.meter)
    (c.laws.ensures.spent a c.give.new.talker c.give.new.meter _ left.0 left.1)
    (c.in-Err.ensures.text a _ _ takes.2.2).part

pub returns-then-not-goes_on-clause-hears : goal.returns-then-not-goes_on-clause-hears
returns-then-not-goes_on-clause-hears g c = λ a x s o.
    let heard = c.loop-rest.invariant.heard a x s o in
    let takes = c.in-Ok.ensures.takes a _ heard.stands heard.goes_on in
    let stands = c.in-Ok-give.ensures.ready a _ _ takes.2.2 in (
      _,
      heard_more _ (c.laws.ensures.steady a) _ x _ _ _ _ _ _ heard
          (g.T.Talker.stands a c.take.new.self c.take.new.meter) c.in-Ok.count takes _
          c.give.new.out (g.T.Talker.ready a c.give.new.talker c.give.new.meter) false
          (c.in-Ok-give.ensures.text a _ _ takes.2.2).all stands
          (sym (c.goes_on.ensures a _ stands) ∙ c.if-not-goes_on.true),
      λ more. absurd (let e : false ≡ true = more in cc),
    )

pub loop-rest-preserved : goal.loop-rest-preserved
loop-rest-preserved g c = record {
  heard = λ a x s o.
      let heard = c.loop-rest.invariant.heard a x s o in
      let takes = c.in-Ok.ensures.takes a _ heard.stands heard.goes_on in
      let stands = c.in-Ok-give.ensures.ready a _ _ takes.2.2 in
      heard_more _ (c.laws.ensures.steady a) _ x _ _ _ _ _ _ heard
      (g.T.Talker.stands a c.take.new.self c.take.new.meter) c.in-Ok.count takes _
      c.give.new.out (g.T.Talker.ready a c.give.new.talker c.give.new.meter) true
      (c.in-Ok-give.ensures.text a _ _ takes.2.2).all stands
      (sym (c.goes_on.ensures a _ stands) ∙ c.if-not-goes_on.false);
  writes = c.in-Ok-give.ensures.cause.ok ∙ c.loop-rest.invariant.writes;
  reads = c.in-Ok-give.ensures.cause.other ∙ c.loop-rest.invariant.reads;
  calls = λ well. c.in-Ok-give.ensures.stops.well (c.loop-rest.invariant.calls well);
}

pub returns-in_default-clause-cause : goal.returns-in_default-clause-cause
returns-in_default-clause-cause g c = (c.loop-rest.invariant.writes, c.loop-rest.invariant.reads)

pub returns-in_default-clause-stops : goal.returns-in_default-clause-stops
returns-in_default-clause-stops g c = c.loop-rest.invariant.calls

pub returns-in-Err-clause-stops : goal.returns-in-Err-clause-stops
returns-in-Err-clause-stops g c = λ well. c.in-Err.ensures.stops.stopped (c.loop-rest.invariant.calls well)

pub returns-then-not-goes_on-clause-stops : goal.returns-then-not-goes_on-clause-stops
returns-then-not-goes_on-clause-stops g c =
    λ well. c.in-Ok-give.ensures.stops.well (c.loop-rest.invariant.calls well)

pub returns-clause-cause : goal.returns-clause-cause
returns-clause-cause g c = (c.loop-rest.invariant.writes, c.loop-rest.invariant.reads)

pub returns-clause-stops : goal.returns-clause-stops
returns-clause-stops g c = c.loop-rest.invariant.calls

pub take-requires-clause-stands : goal.take-requires-clause-stands
take-requires-clause-stands g c =
    let asked = c.requires in
    let heard = c.loop-rest.invariant.heard asked.0 asked.1 asked.2 asked.3 in
    (asked.0, _, heard.stands, heard.goes_on)

pub goes_on-requires : goal.goes_on-requires
goes_on-requires g c =
    let asked = c.requires in
    let heard = c.loop-rest.invariant.heard asked.0 asked.1 asked.2 asked.3 in
    let takes = c.in-Ok.ensures.takes asked.0 _ heard.stands heard.goes_on in
    (asked.0, _, c.in-Ok-give.ensures.ready asked.0 _ _ takes.2.2)

pub returns-clause-hears : goal.returns-clause-hears
returns-clause-hears g c = λ a x s o. (
  _,
  c.loop-rest.invariant.heard a x s o,
  λ more. nil_from_length c.loop-rest.rest.now
      (eqb-true (length c.loop-rest.rest.now) 0 (sym c.is_empty.ensures ∙ c.loop-rest-test.false)),
)
