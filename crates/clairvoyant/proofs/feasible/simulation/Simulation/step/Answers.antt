use Rattle.std.proofs.Common.{◌≡◌, ◌+◌, ◌<◌, List, [], sym, subst, ap, ◌∙◌, arith}
use Rattle.clairvoyant.specs.feasible.Progress.{Stands, StandsAt}
use Rattle.clairvoyant.specs.declared.feasible.simulation.Simulation.{Simulation}
use Rattle.clairvoyant.specs.feasible.Queue.{Kept}
use Rattle.clairvoyant.proofs.feasible.Standing.{stands_idle, stands_last, next_later}
use Rattle.clairvoyant.proofs.feasible.Running.{next_found}
use Rattle.clairvoyant.proofs.feasible.simulation.Simulation.step.Goals as goal
use Rattle.clairvoyant.proofs.feasible.simulation.Simulation.step.Goals.{in-Some+in_ok-run-in-Some, in-None+in-Some-get}
use Rattle.dover_model.proofs.valid.ValidParts.{order_parts}

pub returns-in-None-get-clause-whole : goal.returns-in-None-get-clause-whole
returns-in-None-get-clause-whole c =
    stands_last c.args.jobs.now c.args.self.now.clock c.args.self.now.queue.released c.args.self.now.pieces.items
    c.args.self.now.late
    (c.args.self.now.clock + 1)
    (subst (λ (kept : List Kept). Stands c.args.jobs.now c.args.self.now.clock c.args.self.now.queue.released kept
    c.args.self.now.pieces.items
    c.args.self.now.late (c.args.self.now.clock + 1)) c.in-None.ensures.none c.requires.stands)
    (omega (arith, c.in-None-get.ensures.lookup.3, c.released.ensures)) (omega (arith, c.requires.few))

pub release-requires-clause-stands : goal.release-requires-clause-stands
release-requires-clause-stands c = elim c.match-first.branch [
  | in-Some+in_ok-run-in-Some w ↦ subst (λ (x : Simulation). StandsAt c.args.jobs.now x x.clock)
      (sym w.self-is) w.in_ok-run-in-Some.ensures.stands
  | in-None+in-Some-get w ↦
      let none : c.args.self.now.queue.kept ≡ [] = w.in-None.ensures.none in
      let idle : Stands c.args.jobs.now w.in-Some-get.next.now.release c.args.self.now.queue.released []
      c.args.self.now.pieces.items c.args.self.now.late
      w.in-Some-get.next.now.release =
      stands_idle c.args.jobs.now c.args.self.now.clock c.args.self.now.queue.released c.args.self.now.pieces.items
      c.args.self.now.late c.requires.count
      (order_parts c.requires.order)
      (subst (λ (kept : List Kept). Stands c.args.jobs.now c.args.self.now.clock c.args.self.now.queue.released kept
      c.args.self.now.pieces.items
      c.args.self.now.late (c.args.self.now.clock + 1)) none c.requires.stands)
      w.in-Some-get.next.now
      (next_found _ _ _ _ w.released.ensures w.in-Some-get.ensures.lookup.3.0 w.in-Some-get.ensures.lookup.1)
      w.release-self.ensures.job in
      subst (λ (x : Simulation). StandsAt c.args.jobs.now x x.clock) (sym w.self-is)
      (subst (λ n. Stands c.args.jobs.now n c.args.self.now.queue.released c.args.self.now.queue.kept
      c.args.self.now.pieces.items c.args.self.now.late n)
      (sym w.release-self.ensures.is)
      (subst (λ (kept : List Kept). Stands c.args.jobs.now w.in-Some-get.next.now.release
      c.args.self.now.queue.released kept
      c.args.self.now.pieces.items
      c.args.self.now.late w.in-Some-get.next.now.release) (sym none) idle))
]

pub returns-clause-later : goal.returns-clause-later
returns-clause-later c = elim c.match-first.branch [
  | in-Some+in_ok-run-in-Some w ↦
      subst (λ n. c.args.self.now.clock < n)
      (sym (c.in_ok-release.ensures.clock ∙ ap (λ (x : Simulation). x.clock) w.self-is))
      w.in_ok-run-in-Some.ensures.later
  | in-None+in-Some-get w ↦
      subst (λ n. c.args.self.now.clock < n)
      (sym (c.in_ok-release.ensures.clock ∙ ap (λ (x : Simulation). x.clock) w.self-is ∙ w.release-self.ensures.is))
      (next_later c.args.jobs.now c.args.self.now.clock c.args.self.now.queue.released c.args.self.now.queue.kept
      c.args.self.now.pieces.items
      c.args.self.now.late c.requires.stands w.in-Some-get.next.now
      (next_found _ _ _ _ w.released.ensures w.in-Some-get.ensures.lookup.3.0 w.in-Some-get.ensures.lookup.1))
]
