use Rattle.std.proofs.Common.{subst, sym, ap, ◌∙◌, [], arith}
use Rattle.lane_server.specs.Kept.{Kept, StandsFor}
use Rattle.lane_server.proofs.Keeping.{close_stands}
use Rattle.lane_server.proofs.lanes.Lanes.close.Goals as goal

pub returns-clause-answers : goal.returns-clause-answers
returns-clause-answers c = λ ls bytes it reads. close_stands _ ls bytes
    (subst (λ k. StandsFor k ls []) (sym c.self.view_is) it)
    (ap (λ (k : Kept). k.phase) c.self.view_is ∙ c.requires.ready)
    (omega (arith, c.requires.room, ap (λ (k : Kept). k.lines) c.self.view_is)) reads
