use Rattle.std.proofs.Common.{sym, ◌∙◌}
use Rattle.dover_model.specs.Lines.{lines_of}
use Rattle.lane_server.proofs.Receiving.{goes_so, none_over, lanes_stand, gives_on}
use Rattle.lane_server.proofs.lane_input.LaneInput.next_out.Goals as goal

pub returns-then-not-is_short-clause-gives : goal.returns-then-not-is_short-clause-gives
returns-then-not-is_short-clause-gives g c = λ x left at. none_over c.args.self.now x left at
    (sym (goes_so c.args.self.now x left at c.is_short.result c.is_short.ensures) ∙ c.if-not-is_short.true)

pub next_out-requires : goal.next_out-requires
next_out-requires g c =
    let x = c.requires.0 in
    let left = c.requires.1 in
    let at = c.requires.2 in
    let on = sym (goes_so c.args.self.now x left at c.is_short.result c.is_short.ensures)
    ∙ c.if-not-is_short.false in
    record { stands = (lines_of x, left, lanes_stand c.args.self.now x left at on) }

pub returns-clause-gives : goal.returns-clause-gives
returns-clause-gives g c = λ x left at.
    let on = sym (goes_so c.args.self.now x left at c.is_short.result c.is_short.ensures)
    ∙ c.if-not-is_short.false in
    gives_on c.args.self.now x left at on c.next_out.new.self c.next_out.result
    (c.next_out.ensures.gives (lines_of x) left (lanes_stand c.args.self.now x left at on)) c.next_out.ensures.ready
