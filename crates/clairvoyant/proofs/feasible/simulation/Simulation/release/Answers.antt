use Rattle.std.proofs.Common.{◌+◌, ◌∷◌, inl, inr, sym, subst, arith, IsPermutation}
use Rattle.std.proofs.lemmas.List.Sorted.{length_permutation}
use Rattle.clairvoyant.specs.feasible.Progress.{Stands}
use Rattle.clairvoyant.proofs.feasible.Standing.{stands_until, stands_moved, stands_release, moved_to_next}
use Rattle.clairvoyant.proofs.feasible.Standing.{moved_to_end}
use Rattle.clairvoyant.proofs.feasible.Running.{next_found}
use Rattle.clairvoyant.proofs.feasible.Dues.{found_due}
use Rattle.dover_model.proofs.valid.ValidParts.{order_parts}
use Rattle.clairvoyant.proofs.feasible.simulation.Simulation.release.Goals as goal

pub loop-job-preserved : goal.loop-job-preserved
loop-job-preserved c = record {
  stands = subst (λ n. Stands c.args.jobs.now c.loop-job.self.clock n c.release-in-Some.new.self.kept
      c.loop-job.self.pieces.items c.loop-job.self.late c.loop-job.self.clock) (sym c.in_ok-release.ensures.released)
      (stands_moved c.args.jobs.now c.loop-job.self.clock (c.loop-job.self.queue.released + 1) _
      c.loop-job.self.pieces.items c.loop-job.self.late c.loop-job.self.clock
      (stands_release c.args.jobs.now c.loop-job.self.clock c.loop-job.self.queue.released c.loop-job.self.queue.kept
      c.loop-job.self.pieces.items
      c.loop-job.self.late c.loop-job.self.clock c.loop-job.invariant.stands c.in-Some.job.now
      (next_found _ _ _ _ c.released.ensures c.in-Some.ensures.lookup.3.0 c.in-Some.ensures.lookup.1)
      (omega arith) (omega (arith, c.if-self-release.false, c.release.ensures.is)) c.release.ensures.job) _
      (subst (λ w. IsPermutation (((c.in-Some.job.now.deadline, c.loop-job.self.queue.released), w)
      ∷ c.loop-job.self.queue.kept) c.release-in-Some.new.self.kept) c.work.ensures.is
      (subst (λ d. IsPermutation (((d, c.loop-job.self.queue.released), c.work.result)
      ∷ c.loop-job.self.queue.kept) c.release-in-Some.new.self.kept) c.deadline.ensures.is
      c.in_ok-release.ensures.kept)));
  clock = c.loop-job.invariant.clock;
  rises = omega (arith, c.loop-job.invariant.rises, c.in_ok-release.ensures.released);
  few = omega (
    arith,
    c.loop-job.invariant.few,
    c.in_ok-release.ensures.released,
    length_permutation _ _ c.in_ok-release.ensures.kept,
  );
}

pub returns-then-self-release-clause-stands : goal.returns-then-self-release-clause-stands
returns-then-self-release-clause-stands c =
    stands_until c.args.jobs.now c.loop-job.self.clock c.loop-job.self.queue.released c.loop-job.self.queue.kept
    c.loop-job.self.pieces.items
    c.loop-job.self.late c.loop-job.self.clock c.loop-job.invariant.stands (order_parts c.requires.order)
    (c.loop-job.self.clock + 1)
    (inr (
      c.in-Some.job.now,
      next_found _ _ _ _ c.released.ensures c.in-Some.ensures.lookup.3.0 c.in-Some.ensures.lookup.1,
      omega (arith, c.if-self-release.true, c.release.ensures.is),
    ))

pub returns-then-self-release-clause-moves : goal.returns-then-self-release-clause-moves
returns-then-self-release-clause-moves c =
    moved_to_next c.args.jobs.now c.args.self.now.clock c.args.self.now.queue.released c.loop-job.self.queue.released
    c.in-Some.job.now c.loop-job.invariant.rises
    (next_found _ _ _ _ c.released.ensures c.in-Some.ensures.lookup.3.0 c.in-Some.ensures.lookup.1)
    (omega (arith, c.if-self-release.true, c.release.ensures.is, c.loop-job.invariant.clock))

pub returns-in_default-clause-stands : goal.returns-in_default-clause-stands
returns-in_default-clause-stands c =
    stands_until _ _ _ _ _ _ _ c.loop-job.invariant.stands (order_parts c.requires.order) _
    (inl (omega (arith, c.in_default.ensures.lookup.3, c.released.ensures)))

pub returns-in_default-clause-moves : goal.returns-in_default-clause-moves
returns-in_default-clause-moves c =
    moved_to_end c.args.jobs.now c.args.self.now.clock c.args.self.now.queue.released c.loop-job.self.queue.released
    (omega (arith, c.in_default.ensures.lookup.3, c.released.ensures))

pub release-requires-in-Some-clause-due : goal.release-requires-in-Some-clause-due
release-requires-in-Some-clause-due c = omega (
  arith,
  c.requires.due,
  c.deadline.ensures.is,
  found_due c.args.jobs.now c.loop-job.self.queue.released c.in-Some.job.now
      (next_found _ _ _ _ c.released.ensures c.in-Some.ensures.lookup.3.0 c.in-Some.ensures.lookup.1),
)
