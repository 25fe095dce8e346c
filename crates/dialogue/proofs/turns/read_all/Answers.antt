use Rattle.std.proofs.Common.{[], refl, inl, ◌∙◌, ◌++◌, arith}
use Rattle.dover_port.proofs.Made.{since_none}
use Rattle.dialogue.proofs.Answering.{can_fail, can_lack_on}
use Rattle.dialogue.proofs.Records.{starts, some_front, got_some, no_input, unread, ended, no_memory, unwritten}
use Rattle.dialogue.proofs.Records.{unflushed, heard, counted}
use Rattle.dialogue.proofs.turns.read_all.Goals as goal

pub loop-init : goal.loop-init
loop-init g c = record {
  moves = λ a s. since_none _ _ (starts _ (c.laws.ensures.steady a) _ s);
  empty = c.requires.empty;
  stands = λ a s. ([], omega arith, s, (c.laws.ensures.steady a).opens);
  read_faults = refl;
  write_faults = refl;
  calls = λ well. well;
}

pub returns-in_default-clause-reads : goal.returns-in_default-clause-reads
returns-in_default-clause-reads g c =
    λ a s. unread _ (c.laws.ensures.steady a) _ _ _
    (rw c.in_default.ensures.failed.0 (c.loop.invariant.moves a s))
    (g.T.Talker.costs a c.loop.meter) (c.laws.ensures.rested a c.loop.talker c.loop.meter)

pub returns-then-count-eq0-clause-reads : goal.returns-then-count-eq0-clause-reads
returns-then-count-eq0-clause-reads g c = λ a s.
    ended _ (c.laws.ensures.steady a) _ _ _ (c.loop.invariant.moves a s) _
    (no_input _ _ _ _ c.if-count-eq0.true c.in-Ok.ensures.moved)

pub returns-then-count-eq0-clause-stands : goal.returns-then-count-eq0-clause-stands
returns-then-count-eq0-clause-stands g c = λ a s.
    let was = c.loop.invariant.stands a s in
    (was.0, was.2, was.3, c.loop.invariant.empty)

pub returns-in-Err-NoMemory-clause-reads : goal.returns-in-Err-NoMemory-clause-reads
returns-in-Err-NoMemory-clause-reads g c = λ a s.
    no_memory _ (c.laws.ensures.steady a) _ _ _ (c.loop.invariant.moves a s) _ _
    (got_some _ _ _ _ c.if-count-eq0.false c.in-Ok.ensures.bound c.in-Ok.ensures.moved) _
    (g.T.Talker.costs a c.hear.new.meter) c.hear.new.out
    (λ x t o. rw (c.in-Err-NoMemory.field-0-is, c.loop.invariant.empty) at (c.in-Err-NoMemory.ensures.hears a x t o))

pub returns-in-Err-Unwritten-clause-reads : goal.returns-in-Err-Unwritten-clause-reads
returns-in-Err-Unwritten-clause-reads g c = λ a s.
    unwritten _ (c.laws.ensures.steady a) _ _ _ (c.loop.invariant.moves a s) _ _
    (got_some _ _ _ _ c.if-count-eq0.false c.in-Ok.ensures.bound c.in-Ok.ensures.moved) _
    (g.T.Talker.costs a c.hear.new.meter)
    (λ x t o. rw (c.in-Err-Unwritten.field-0-is, c.loop.invariant.empty) at (c.in-Err-Unwritten.ensures.hears a x t o))

pub returns-in-Err-clause-reads : goal.returns-in-Err-clause-reads
returns-in-Err-clause-reads g c = λ a s.
    unflushed _ (c.laws.ensures.steady a) _ _ _ (c.loop.invariant.moves a s) _ _
    (got_some _ _ _ _ c.if-count-eq0.false c.in-Ok.ensures.bound c.in-Ok.ensures.moved)
    (g.T.Talker.ready a c.hear.new.talker c.hear.new.meter) c.in-Ok-hear.more _ _ c.hear.new.out
    (λ x t o. rw c.loop.invariant.empty at (c.in-Ok-hear.ensures.hears a x t o))
    (g.T.Talker.costs a c.hear.new.meter) (c.laws.ensures.rested a c.hear.new.talker c.hear.new.meter)
    (c.laws.ensures.behind a c.hear.new.meter) c.in-Err.ensures.text.part

pub returns-then-not-more-clause-reads : goal.returns-then-not-more-clause-reads
returns-then-not-more-clause-reads g c = λ a s. rw c.if-not-more.true at
    (heard _ (c.laws.ensures.steady a) _ _ _ (c.loop.invariant.moves a s) _ _
    (got_some _ _ _ _ c.if-count-eq0.false c.in-Ok.ensures.bound c.in-Ok.ensures.moved)
    (g.T.Talker.ready a c.hear.new.talker c.hear.new.meter) c.in-Ok-hear.more _ _ c.hear.new.out
    (λ x t o. rw c.loop.invariant.empty at (c.in-Ok-hear.ensures.hears a x t o)) c.in-Ok-flush.ensures.text.all)

pub returns-then-not-more-clause-stands : goal.returns-then-not-more-clause-stands
returns-then-not-more-clause-stands g c = λ a s.
    let was = c.loop.invariant.stands a s in
    let h = c.in-Ok-hear.ensures.hears a was.0 was.2 was.3 in
    (was.0 ++ h.1.front, h.1.stands, h.1.goes_on ∙ c.if-not-more.true, c.in-Ok-flush.ensures.empty)

pub loop-preserved : goal.loop-preserved
loop-preserved g c =
    let some = some_front _ _ c.if-count-eq0.false c.in-Ok.ensures.bound in
    record {
      moves = λ a s. rw c.if-not-more.false at
          (heard _ (c.laws.ensures.steady a) _ _ _ (c.loop.invariant.moves a s) _ _
          (got_some _ _ _ _ c.if-count-eq0.false c.in-Ok.ensures.bound c.in-Ok.ensures.moved)
          (g.T.Talker.ready a c.hear.new.talker c.hear.new.meter) c.in-Ok-hear.more _ _ c.hear.new.out
          (λ x t o. rw c.loop.invariant.empty at (c.in-Ok-hear.ensures.hears a x t o)) c.in-Ok-flush.ensures.text.all);
      empty = c.in-Ok-flush.ensures.empty;
      stands = λ a s.
          let was = c.loop.invariant.stands a s in
          let h = c.in-Ok-hear.ensures.hears a was.0 was.2 was.3 in (
            was.0 ++ h.1.front,
            counted _ _ was.0 _ _ _ _ _ _ _ h.1 (h.2 c.if-not-more.false) c.loop.counter was.1 some,
            h.1.stands,
            h.1.goes_on ∙ c.if-not-more.false,
          );
      read_faults = c.in-Ok-flush.ensures.cause.other ∙ c.in-Ok-hear.ensures.cause.1 ∙ c.in-Ok.ensures.cause.ok
          ∙ c.loop.invariant.read_faults;
      write_faults = c.in-Ok-flush.ensures.cause.ok ∙ c.in-Ok-hear.ensures.cause.0 ∙ c.in-Ok.ensures.cause.other
          ∙ c.loop.invariant.write_faults;
      calls = λ well. c.in-Ok-flush.ensures.stops.well
          (c.in-Ok-hear.ensures.stops (c.in-Ok.ensures.stops.well (c.loop.invariant.calls well)));
    }

pub returns-in-Err-NoMemory-clause-stands : goal.returns-in-Err-NoMemory-clause-stands
returns-in-Err-NoMemory-clause-stands g c = λ a s.
    let was = c.loop.invariant.stands a s in
    let lacks = rw c.in-Err-NoMemory.field-0-is at (c.in-Err-NoMemory.ensures.hears a was.0 was.2 was.3) in
    can_lack_on _ (c.laws.ensures.steady a) _ lacks.0

pub returns-in_default-clause-stands : goal.returns-in_default-clause-stands
returns-in_default-clause-stands g c = λ a s. can_fail _ (c.laws.ensures.steady a)

pub returns-in-Err-Unwritten-clause-stands : goal.returns-in-Err-Unwritten-clause-stands
returns-in-Err-Unwritten-clause-stands g c = λ a s. inl refl

pub returns-in-Err-clause-stands : goal.returns-in-Err-clause-stands
returns-in-Err-clause-stands g c = λ a s. inl refl

pub returns-in_default-clause-stops : goal.returns-in_default-clause-stops
returns-in_default-clause-stops g c = λ well. c.in_default.ensures.stops.stopped (c.loop.invariant.calls well)

pub returns-then-count-eq0-clause-stops : goal.returns-then-count-eq0-clause-stops
returns-then-count-eq0-clause-stops g c = λ well. c.in-Ok.ensures.stops.well (c.loop.invariant.calls well)

pub returns-in-Err-clause-stops : goal.returns-in-Err-clause-stops
returns-in-Err-clause-stops g c = λ well. c.in-Err.ensures.stops.stopped
    (c.in-Ok-hear.ensures.stops (c.in-Ok.ensures.stops.well (c.loop.invariant.calls well)))

pub returns-then-not-more-clause-stops : goal.returns-then-not-more-clause-stops
returns-then-not-more-clause-stops g c = λ well. c.in-Ok-flush.ensures.stops.well
    (c.in-Ok-hear.ensures.stops (c.in-Ok.ensures.stops.well (c.loop.invariant.calls well)))
