use Rattle.std.proofs.Common.{sym, ap, ◌∙◌, subst}
use Rattle.dover_model.specs.Common.{event_of, Prints}
use Rattle.ready_jobs.specs.Course.{Course, Follows, Reached}
use Rattle.ready_jobs.specs.Deeds.{step_at}
use Rattle.ready_jobs.proofs.Courses.{due_now}
use Rattle.ready_jobs.proofs.SilentCourses.{reached_next, reached_last}
use Rattle.ready_jobs.proofs.Doing.{prints_event}
use Rattle.ready_jobs.proofs.ready.Ready.due_next.Goals as goal

pub unreachable-requires : goal.unreachable-requires
unreachable-requires g c =
    let d = c.go_on-action.new.self in
    let at = c.clock.ensures ∙ ap (λ (d : Course). d.clock) c.self-2.view_is in
    reached_last d c.self.invariant.0 c.self.invariant.1 (step_at d.clock c.go_on-action.result)
    (c.go_on-action.ensures.reached c.self.invariant.0 c.self.invariant.1
    (subst (λ d. Follows d c.self.invariant.0 c.self.invariant.1) c.self.view_is c.self.invariant.2))
    (ap (λ n. event_of (step_at n c.go_on-action.result)) (sym at) ∙ sym c.event_at.ensures ∙ c.in-None.is)

pub returns-clause-comes : goal.returns-clause-comes
returns-clause-comes g c J z follows =
    let d = c.go_on-action.new.self in
    let at = c.clock.ensures ∙ ap (λ (d : Course). d.clock) c.self-2.view_is in
    let reached : Reached d J z 10_000_000_000_000_000 (Prints c.in-Some.event) =
    subst (Reached d J z 10_000_000_000_000_000)
    (prints_event _ _ (ap (λ n. event_of (step_at n c.go_on-action.result)) (sym at) ∙ sym c.event_at.ensures
    ∙ c.in-Some.is))
    (c.go_on-action.ensures.reached J z follows) in
    (reached.state, reached.follows, reached_next d J z 10_000_000_000_000_000 c.in-Some.event reached)

pub go_on-action-requires-clause-some : goal.go_on-action-requires-clause-some
go_on-action-requires-clause-some g c = c.requires.some

pub returns-clause-due : goal.returns-clause-due
returns-clause-due g c =
    let at = c.clock.ensures ∙ ap (λ (d : Course). d.clock) c.self-2.view_is in
    due_now c.go_on-action.new.self c.clock.result c.go_on-action.result c.in-Some.event at c.go_on-action.ensures.step
    c.go_on-action.ensures.finds (sym c.event_at.ensures ∙ c.in-Some.is)

pub returns-clause-kept : goal.returns-clause-kept
returns-clause-kept g c = c.go_on-action.ensures.kept

pub returns-clause-fewer : goal.returns-clause-fewer
returns-clause-fewer g c = c.go_on-action.ensures.fewer

pub returns-clause-paid : goal.returns-clause-paid
returns-clause-paid g c = c.go_on-action.ensures.paid

pub returns-clause-freely : goal.returns-clause-freely
returns-clause-freely g c = c.go_on-action.ensures.freely

pub returns-clause-once : goal.returns-clause-once
returns-clause-once g c = c.go_on-action.ensures.once

pub returns-clause-held : goal.returns-clause-held
returns-clause-held g c = c.go_on-action.ensures.held
