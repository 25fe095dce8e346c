use Rattle.std.proofs.Common.{[], refl, subst, sym, ap, ◌∙◌, Some, arith}
use Rattle.lane_server.specs.Kept.{Kept}
use Rattle.lane_server.specs.Reading.{line_read}
use Rattle.lane_server.specs.Spending.{HavePaid}
use Rattle.lane_server.proofs.Keeping.{has_room}
use Rattle.lane_server.proofs.lanes.Lanes.line.Goals as goal

pub returns-then-self-most_lines-clause-answers : goal.returns-then-self-most_lines-clause-answers
returns-then-self-most_lines-clause-answers c = λ ls it. (
  omega (arith, it.counted, ap (λ (k : Kept). k.lines) c.self.view_is, c.most_lines.ensures, c.if-self-most_lines.true),
  refl,
)

pub returns-then-self-most_lines-clause-paid : goal.returns-then-self-most_lines-clause-paid
returns-then-self-most_lines-clause-paid c = λ start now paid. tt

pub close-requires-clause-ready : goal.close-requires-clause-ready
close-requires-clause-ready c = c.requires.ready

pub close-requires-clause-room : goal.close-requires-clause-room
close-requires-clause-room c =
    omega (arith, ap (λ (k : Kept). k.lines) c.self.view_is, c.most_lines.ensures, c.if-self-most_lines.false)

pub feed-requires-clause-ready : goal.feed-requires-clause-ready
feed-requires-clause-ready c = c.requires.ready

pub feed-requires-clause-stands : goal.feed-requires-clause-stands
feed-requires-clause-stands c = c.requires.stands

pub feed-requires-clause-room : goal.feed-requires-clause-room
feed-requires-clause-room c =
    omega (arith, ap (λ (k : Kept). k.lines) c.self.view_is, c.most_lines.ensures, c.if-self-most_lines.false)

pub returns-in-None-clause-answers : goal.returns-in-None-clause-answers
returns-in-None-clause-answers c = λ ls it. (
  has_room c.args.self.now ls [] it
      (omega (arith, ap (λ (k : Kept). k.lines) c.self.view_is, c.most_lines.ensures, c.if-self-most_lines.false)),
  sym c.in-None.ensures,
  refl,
)

pub returns-in-None-clause-paid : goal.returns-in-None-clause-paid
returns-in-None-clause-paid c = λ start now paid. tt

pub returns-in-Some-Close-clause-answers : goal.returns-in-Some-Close-clause-answers
returns-in-Some-Close-clause-answers c = λ ls it.
    c.close.ensures.answers ls c.args.line.now it
    (sym c.in-Some-Close.ensures ∙ ap (λ l. Some (line_read l)) c.in-Some-Close.field-0-is)

pub returns-in-Some-Close-clause-paid : goal.returns-in-Some-Close-clause-paid
returns-in-Some-Close-clause-paid c = λ start now paid.
    subst (λ lanes. HavePaid lanes start now) (sym c.close.ensures.lanes) paid

pub returns-in-Some-OfLane-clause-answers : goal.returns-in-Some-OfLane-clause-answers
returns-in-Some-OfLane-clause-answers c = λ ls it.
    c.feed.ensures.answers ls c.args.line.now it
    (sym c.in-Some-OfLane.ensures ∙ ap (λ l. Some (line_read l)) c.in-Some-OfLane.field-0-is)

pub returns-in-Some-OfLane-clause-paid : goal.returns-in-Some-OfLane-clause-paid
returns-in-Some-OfLane-clause-paid c = c.feed.ensures.paid
