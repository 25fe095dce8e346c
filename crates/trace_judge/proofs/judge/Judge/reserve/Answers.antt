use Rattle.std.proofs.Common.{sym, ap, subst, arith}
use Rattle.trace_judge.specs.Reads.{Reading}
use Rattle.trace_judge.specs.Judging.{Judged, StandsFor}
use Rattle.trace_judge.proofs.Judging.{room_stands}
use Rattle.trace_judge.proofs.judge.Judge.reserve.Goals as goal

pub returns-clause-stands : goal.returns-clause-stands
returns-clause-stands c text stands =
    let j : Judged =
    record { lines = c.self.inside.lines; reader = c.self.inside.reader; found = c.self.inside.found } in
    subst (λ (r : Reading). StandsFor (record j { reader = r }) text) (sym c.reserve.ensures.same)
    (room_stands j c.reserve.new.self.course.room c.reserve.new.self.spare c.reserve.new.self.room text
    (subst (λ was. StandsFor was text) (sym c.self.view_is) stands))

pub returns-clause-grows : goal.returns-clause-grows
returns-clause-grows c = omega (arith, c.reserve.ensures.grows, ap (λ (j : Judged). j.reader.spare) c.self.view_is)
