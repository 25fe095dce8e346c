use Rattle.std.proofs.Common.{◌++◌, ap, ◌∙◌, arith, drop, take, append_assoc, subst, sym}
use Rattle.std.proofs.lemmas.List.{take-append-drop, length-take-le}
use Rattle.lane_server.specs.Lanes.{input, HasLine}
use Rattle.lane_server.proofs.Inputs.{line_grows_on}
use Rattle.lane_server.proofs.lane_input.LaneInput.take.Goals as goal

pub returns-in-Ok-clause-takes : goal.returns-in-Ok-clause-takes
returns-in-Ok-clause-takes c = λ x at on. (omega arith, c.front-count.ensures.within, c.in-Ok.ensures.adds x at on)

pub returns-in-Err-clause-takes : goal.returns-in-Err-clause-takes
returns-in-Err-clause-takes c = λ x at on.
    subst (λ y. HasLine (input y).handed)
    (append_assoc x (take c.front-count.result c.args.piece.now) (drop c.front-count.result c.args.piece.now)
    ∙ ap (λ l. x ++ l) (take-append-drop c.front-count.result c.args.piece.now))
    (line_grows_on (x ++ take c.front-count.result c.args.piece.now)
    (drop c.front-count.result c.args.piece.now) (c.in-Err.ensures.adds x at on))

pub front-count-requires : goal.front-count-requires
front-count-requires c = c.requires.some

pub slice_bounds-take_front-end : goal.slice_bounds-take_front-end
slice_bounds-take_front-end c =
    sym (length-take-le c.front-count.result c.args.piece.now c.front-count.ensures.within)

pub take_front-requires-clause-some : goal.take_front-requires-clause-some
take_front-requires-clause-some c = omega (
  arith,
  length-take-le c.front-count.result c.args.piece.now c.front-count.ensures.within,
  c.front-count.ensures.some,
)

pub take_front-requires-clause-whole : goal.take_front-requires-clause-whole
take_front-requires-clause-whole c = λ long. c.front-count.ensures.whole (omega (
  arith,
  length-take-le c.front-count.result c.args.piece.now c.front-count.ensures.within,
  long,
))

pub take_front-requires-clause-rests : goal.take_front-requires-clause-rests
take_front-requires-clause-rests c = c.requires.rests

pub returns-in-Ok-clause-paid : goal.returns-in-Ok-clause-paid
returns-in-Ok-clause-paid c = c.in-Ok.ensures.paid

pub returns-in-Err-clause-paid : goal.returns-in-Err-clause-paid
returns-in-Err-clause-paid c = λ start now paid. tt
