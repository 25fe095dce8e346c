use Rattle.std.proofs.Common.{◌+◌, ◌≤◌, ◌⊎◌, ℕ, length, sym, subst, Option}
use Rattle.clairvoyant.specs.feasible.Progress.{Stands, IsPending, with_late}
use Rattle.clairvoyant.proofs.feasible.Running.{some_left, none_before, not_idle, ran, few_after}
use Rattle.dover_model.proofs.valid.ValidParts.{order_parts}
use Rattle.clairvoyant.proofs.feasible.simulation.Simulation.run.Goals as goal

pub until-until-requires-clause-some : goal.until-until-requires-clause-some
until-until-requires-clause-some c =
    some_left _ _ _ _ _ _ _ _ _ c.requires.stands c.requires.first

pub until-until-requires-clause-none : goal.until-until-requires-clause-none
until-until-requires-clause-none c =
    none_before _ _ _ _ _ _ _ _ _ c.requires.stands c.requires.first

pub add_piece-requires-clause-job : goal.add_piece-requires-clause-job
add_piece-requires-clause-job c =
    not_idle c.args.jobs.now c.args.self.now.clock c.args.self.now.queue.released c.args.job.deadline c.args.job.number
    c.args.job.left c.args.self.now.queue.kept c.args.self.now.pieces.items c.args.self.now.late c.requires.stands
    c.requires.first c.requires.count

pub returns-clause-stands : goal.returns-clause-stands
returns-clause-stands c =
    subst (λ (o : Option ℕ). Stands c.args.jobs.now c.until-until.result c.leave.new.self.released
    c.leave.new.self.kept c.add_piece.new.pieces.items o c.until-until.result) (sym c.with_late-self.ensures)
    (subst (λ n. Stands c.args.jobs.now c.until-until.result n c.leave.new.self.kept c.add_piece.new.pieces.items
    (with_late c.args.self.now.late c.args.job.deadline (c.args.self.now.clock + c.args.job.left)) c.until-until.result)
    (sym c.leave.ensures.released)
    (ran _ _ _ _ _ _ _ _ _ c.requires.stands c.requires.first (order_parts c.requires.order) _ c.until-until.ensures _ _
    (c.leave.ensures.stays _ _ c.requires.first.is) (c.leave.ensures.goes _ _ c.requires.first.is)
    c.in_ok-add_piece.ensures.stretches))

pub returns-clause-few : goal.returns-clause-few
returns-clause-few c =
    subst (λ n. (length c.add_piece.new.pieces.items + length c.leave.new.self.kept
    ≤ length c.args.self.now.pieces.items + length c.args.self.now.queue.kept)
    ⊎ ((length c.add_piece.new.pieces.items + length c.leave.new.self.kept
    ≤ length c.args.self.now.pieces.items + length c.args.self.now.queue.kept + 1)
    × IsPending c.args.jobs.now c.until-until.result n)) (sym c.leave.ensures.released)
    (few_after _ _ _ _ _ _ _ _ _ c.requires.stands c.requires.first (order_parts c.requires.order) _
    c.until-until.ensures _ _
    (c.leave.ensures.stays _ _ c.requires.first.is) (c.leave.ensures.goes _ _ c.requires.first.is)
    c.in_ok-add_piece.ensures.count)

pub returns-clause-later : goal.returns-clause-later
returns-clause-later c = c.until-until.ensures.some
