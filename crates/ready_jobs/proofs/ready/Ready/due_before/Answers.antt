use Rattle.std.proofs.Common.{◌<◌, length, sym, ap, ◌∙◌, subst, refl, option_map, IfSome}
use Rattle.dover_model.specs.Run.{event_of}
use Rattle.ready_jobs.specs.declared.actions.DueStep.{DueStep}
use Rattle.ready_jobs.specs.Course.{Course, IsDue, Settled}
use Rattle.ready_jobs.specs.Deeds.{step_at}
use Rattle.ready_jobs.proofs.Courses.{some_jobs, due_now}
use Rattle.ready_jobs.proofs.SilentCourses.{over_settled, tested_late, tested_early, silent_settled}
use Rattle.ready_jobs.proofs.Costing.{no_cost}
use Rattle.ready_jobs.proofs.Doing.{prints_event}
use Rattle.ready_jobs.proofs.ready.Ready.due_before.Goals as goal
use Rattle.ready_jobs.proofs.ready.Ready.due_before.Goals.{in-Some+then-is_late_at, in-Some+else-is_late_at, in-None}

pub returns-then-is_empty-clause-settled : goal.returns-then-is_empty-clause-settled
returns-then-is_empty-clause-settled g c J z follows =
    over_settled c.args.self.now J z c.args.mark follows
    (sym (ap (λ (d : Course). d.ready) c.self.view_is)
    ∙ c.is_empty.ensures.0 c.if-is_empty.true) c.requires.low

pub returns-clause-settled : goal.returns-clause-settled
returns-clause-settled g c J z follows =
    let d = c.go_on-action.new.self in
    let reached = c.go_on-action.ensures.reached J z follows in
    let at = c.clock-clock.ensures ∙ ap (λ (d : Course). d.clock) c.self-2.view_is in
    let step = ap (λ n. event_of (step_at n c.go_on-action.result)) (sym at) ∙ sym c.event_at.ensures in
    elim c.match-event_at.branch [
      | in-Some+then-is_late_at w ↦
          subst (λ o. Settled d J z c.args.mark (option_map (λ (due : DueStep). due.event) o)) (sym w.result-is)
          (tested_late d J z c.args.mark (step_at d.clock c.go_on-action.result) w.in-Some.event c.clock-clock.result
          w.is_late_at.result reached (prints_event _ _ (step ∙ w.in-Some.is)) at c.go_on-action.ensures.low
          w.is_late_at.ensures
          w.if-is_late_at.true)
      | in-Some+else-is_late_at w ↦
          subst (λ o. Settled d J z c.args.mark (option_map (λ (due : DueStep). due.event) o)) (sym w.result-is)
          (tested_early d J z c.args.mark (step_at d.clock c.go_on-action.result) w.in-Some.event c.clock-clock.result
          w.is_late_at.result reached (prints_event _ _ (step ∙ w.in-Some.is)) at c.go_on-action.ensures.low
          w.is_late_at.ensures
          w.if-is_late_at.false)
      | in-None w ↦
          subst (λ o. Settled d J z c.args.mark (option_map (λ (due : DueStep). due.event) o)) (sym w.result-is)
          (silent_settled _ _ _ _ _ _ reached refl (step ∙ w.in-None.is) c.go_on-action.ensures.low)
    ]

pub go_on-action-requires-clause-some : goal.go_on-action-requires-clause-some
go_on-action-requires-clause-some g c =
    subst (λ (d : Course). 0 < length d.ready) c.self.view_is
    (some_jobs _ c.is_empty.result c.if-is_empty.false c.is_empty.ensures.1)

pub go_on-action-requires-clause-low : goal.go_on-action-requires-clause-low
go_on-action-requires-clause-low g c = c.requires.low

pub go_on-action-requires-clause-known : goal.go_on-action-requires-clause-known
go_on-action-requires-clause-known g c = c.requires.known

pub returns-clause-due : goal.returns-clause-due
returns-clause-due g c =
    let d = c.go_on-action.new.self in
    let at = c.clock-clock.ensures ∙ ap (λ (d : Course). d.clock) c.self-2.view_is in
    elim c.match-event_at.branch [
      | in-Some+then-is_late_at w ↦
          subst (λ o. IfSome o (λ (due : DueStep). IsDue d due.action due.event)) (sym w.result-is) tt
      | in-Some+else-is_late_at w ↦
          subst (λ o. IfSome o (λ (due : DueStep). IsDue d due.action due.event)) (sym w.result-is)
          (due_now d c.clock-clock.result c.go_on-action.result w.in-Some.event at c.go_on-action.ensures.step
          c.go_on-action.ensures.finds (sym c.event_at.ensures ∙ w.in-Some.is))
      | in-None w ↦
          subst (λ o. IfSome o (λ (due : DueStep). IsDue d due.action due.event)) (sym w.result-is) tt
    ]

pub returns-clause-kept : goal.returns-clause-kept
returns-clause-kept g c = c.go_on-action.ensures.kept

pub returns-clause-fewer : goal.returns-clause-fewer
returns-clause-fewer g c = c.go_on-action.ensures.fewer

pub returns-clause-low : goal.returns-clause-low
returns-clause-low g c = c.go_on-action.ensures.low

pub returns-clause-paid : goal.returns-clause-paid
returns-clause-paid g c = c.go_on-action.ensures.paid

pub returns-clause-freely : goal.returns-clause-freely
returns-clause-freely g c = c.go_on-action.ensures.freely

pub returns-clause-once : goal.returns-clause-once
returns-clause-once g c = c.go_on-action.ensures.once

pub returns-clause-held : goal.returns-clause-held
returns-clause-held g c = c.go_on-action.ensures.held

pub returns-then-is_empty-clause-low : goal.returns-then-is_empty-clause-low
returns-then-is_empty-clause-low g c = c.requires.low

pub returns-then-is_empty-clause-freely : goal.returns-then-is_empty-clause-freely
returns-then-is_empty-clause-freely g c start paid freely = freely refl

pub returns-then-is_empty-clause-once : goal.returns-then-is_empty-clause-once
returns-then-is_empty-clause-once g c d fits = no_cost _ _
