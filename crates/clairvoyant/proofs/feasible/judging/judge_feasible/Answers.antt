use Rattle.std.proofs.Common.{sym, subst, ℕ, Option}
use Rattle.clairvoyant.specs.feasible.Progress.{IsWhole}
use Rattle.clairvoyant.specs.declared.feasible.answer.Feasible.{Feasible}
use Rattle.clairvoyant.specs.feasible.Feasibility.{IsAnswer}
use Rattle.clairvoyant.proofs.feasible.Deciding.{shows_all, shows_window}
use Rattle.clairvoyant.proofs.feasible.judging.judge_feasible.Goals as goal
use Rattle.clairvoyant.proofs.feasible.judging.judge_feasible.Goals.{in-None, in-Some}

pub returns : goal.returns
returns c = elim c.match-schedule.branch [
  | in-None w ↦
      subst (λ (answer : Feasible). IsAnswer c.args.jobs.now answer) (sym w.result-is)
      (shows_all c.args.jobs.now c.in_ok-schedule.schedule.pieces.items c.requires.count
      (subst (λ (late : Option ℕ). IsWhole c.args.jobs.now c.in_ok-schedule.schedule.pieces.items late) w.in-None.is
      c.in_ok-schedule.ensures))
  | in-Some w ↦
      subst (λ (answer : Feasible). IsAnswer c.args.jobs.now answer) (sym w.result-is)
      (shows_window c.args.jobs.now c.in_ok-schedule.schedule.pieces.items w.last_start-a.result w.in-Some.b
      w.work_inside.result
      (subst (λ (late : Option ℕ). IsWhole c.args.jobs.now c.in_ok-schedule.schedule.pieces.items late) w.in-Some.is
      c.in_ok-schedule.ensures)
      w.last_start-a.ensures.release w.last_start-a.ensures.overfull w.last_start-a.ensures.last w.work_inside.ensures)
]
