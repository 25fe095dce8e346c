use Rattle.std.proofs.Common.{◌∙◌, ap, min, ◌+◌, refl, arith}
use Rattle.clairvoyant.proofs.feasible.Running.{next_found, until_next, until_end}
use Rattle.clairvoyant.proofs.feasible.simulation.Simulation.until.Goals as goal

pub returns-in-Some : goal.returns-in-Some
returns-in-Some c =
    until_next c.args.jobs.now c.args.self.now.clock c.args.self.now.queue.released c.args.left c.requires.some
    c.requires.none
    c.in-Some.next.now c.min.result
    (next_found _ _ _ _ c.released.ensures c.in-Some.ensures.lookup.3.0 c.in-Some.ensures.lookup.1)
    (c.min.ensures ∙ ap (λ r. min (c.args.self.now.clock + c.args.left) r) c.release.ensures.is)

pub returns-in-None : goal.returns-in-None
returns-in-None c =
    until_end _ _ _ _ c.requires.some c.requires.none _ (omega (arith, c.in-None.ensures.lookup.3, c.released.ensures))
    refl
