use Rattle.std.proofs.Common.{◌++◌, sym, ap, ◌∙◌, subst, append_assoc, take, drop, arith}
use Rattle.std.proofs.lemmas.List.{take-append-drop, length-take-le}
use Rattle.dover_model.specs.Feed.{account}
use Rattle.event_feed.proofs.Admitting.{declared_front}
use Rattle.lane_server.specs.Lane.{IsDeclared}
use Rattle.lane_server.proofs.feed.Feed.take.Goals as goal

pub returns-in-Err-clause-takes : goal.returns-in-Err-clause-takes
returns-in-Err-clause-takes c = λ x at goes.
    let n = c.front-count.result in
    let piece = c.args.piece.now in
    subst (λ z. IsDeclared (account z))
    (append_assoc x (take n piece) (drop n piece) ∙ ap (λ l. x ++ l) (take-append-drop n piece))
    (declared_front (x ++ take n piece) (drop n piece) (c.in-Err.ensures.hands x at goes))

pub returns-in-Ok-clause-takes : goal.returns-in-Ok-clause-takes
returns-in-Ok-clause-takes c =
    λ x at goes. (c.front-count.ensures.some, c.front-count.ensures.within, c.in-Ok.ensures.hands x at goes)

pub returns-in-Ok-clause-paid : goal.returns-in-Ok-clause-paid
returns-in-Ok-clause-paid c = c.in-Ok.ensures.paid

pub returns-in-Err-clause-paid : goal.returns-in-Err-clause-paid
returns-in-Err-clause-paid c = λ x start now at paid. tt

pub front-count-requires : goal.front-count-requires
front-count-requires c = c.requires.some

pub slice_bounds-take_front-end : goal.slice_bounds-take_front-end
slice_bounds-take_front-end c =
    sym (length-take-le c.front-count.result c.args.piece.now c.front-count.ensures.within)

pub take_front-requires-clause-some : goal.take_front-requires-clause-some
take_front-requires-clause-some c = omega (
  arith,
  length-take-le c.front-count.result c.args.piece.now c.front-count.ensures.within,
  c.front-count.ensures.some,
)

pub take_front-requires-clause-whole : goal.take_front-requires-clause-whole
take_front-requires-clause-whole c = λ long. c.front-count.ensures.whole (omega (
  arith,
  length-take-le c.front-count.result c.args.piece.now c.front-count.ensures.within,
  long,
))

pub take_front-requires-clause-rests : goal.take_front-requires-clause-rests
take_front-requires-clause-rests c = c.requires.rests
