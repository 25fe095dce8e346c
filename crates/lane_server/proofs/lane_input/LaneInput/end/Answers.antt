use Rattle.std.proofs.Common.{[], sym, ap, ◌∙◌, subst, arith, ◌+◌, ◌∷◌}
use Rattle.dover_model.specs.Common.{lines_of, refused_line}
use Rattle.lane_server.specs.LaneInput.{Holds, word_of}
use Rattle.lane_server.proofs.Receiving.{ends_closed, refuses}
use Rattle.lane_server.proofs.lane_input.LaneInput.end.Goals as goal

pub returns-in-None : goal.returns-in-None
returns-in-None c = λ x at. ends_closed c.args.self.lanes x
    (subst (λ r. Holds r c.args.self.lanes (lines_of x) []) c.in-None.is
    at.stands.holds)

pub overflow_add-line : goal.overflow_add-line
overflow_add-line c =
    let it = refuses c.in-Some.cause
    c.args.self.lanes c.requires.0
    (subst (λ r. Holds r c.args.self.lanes (lines_of c.requires.0) [])
    c.in-Some.is c.requires.1.stands.holds) in
    omega (arith, c.lines-line.ensures, it.0)

pub returns-in-Some : goal.returns-in-Some
returns-in-Some c = λ x at.
    let it = refuses c.in-Some.cause
    c.args.self.lanes x
    (subst (λ r. Holds r c.args.self.lanes (lines_of x) []) c.in-Some.is
    at.stands.holds) in
    (it.1, it.2 ∙ ap (λ n. refused_line (n + 1) (word_of c.in-Some.cause) ∷ []) (sym c.lines-line.ensures))
