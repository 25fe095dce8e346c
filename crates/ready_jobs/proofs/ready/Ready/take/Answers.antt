use Rattle.std.proofs.Common.{◌+◌, ◌*◌, ◌≤◌, length, ap, sym, subst, arith, filter}
use Rattle.dover_model.specs.State.{is_held}
use Rattle.waiting_pool.specs.Pools.{orders_of}
use Rattle.ready_jobs.specs.Parts.{Parted}
use Rattle.ready_jobs.specs.Course.{Course, Follows, IsDue}
use Rattle.ready_jobs.specs.Deeds.{Does}
use Rattle.ready_jobs.specs.Spending.{HasPaid, wait_again}
use Rattle.ready_jobs.proofs.Courses.{course_part, follows_modest}
use Rattle.ready_jobs.proofs.ChangedCourses.{course_takes, takes_course, due_does}
use Rattle.ready_jobs.proofs.Seeing.{held_list}
use Rattle.ready_jobs.proofs.Silences.{known_sound, known_once}
use Rattle.ready_jobs.proofs.Spending.{printed_pays}
use Rattle.ready_jobs.proofs.ready.Ready.take.Goals as goal

pub apply-worth-requires-clause-sound : goal.apply-worth-requires-clause-sound
apply-worth-requires-clause-sound g c =
    let i = c.self.inside in
    known_sound _ i.parts c.laws.ensures.roles (course_part i.ratio i.parts i.jobs i.done c.self.invariant)

pub apply-worth-requires-clause-once : goal.apply-worth-requires-clause-once
apply-worth-requires-clause-once g c =
    let i = c.self.inside in
    known_once _ i.parts (course_part i.ratio i.parts i.jobs i.done c.self.invariant)

pub apply-worth-requires-clause-does : goal.apply-worth-requires-clause-does
apply-worth-requires-clause-does g c =
    let i = c.self.inside in (
      c.args.due.now.event,
      due_does i.ratio i.parts i.jobs i.done c.args.due.now.action c.args.due.now.event
          (subst (λ d. IsDue d c.args.due.now.action c.args.due.now.event) (sym c.self.view_is) c.requires),
    )

pub overflow_add-self : goal.overflow_add-self
overflow_add-self g c =
    let i = c.self.inside in
    let due = subst (λ d. IsDue d c.args.due.now.action c.args.due.now.event) (sym c.self.view_is) c.requires in
    let new = takes_course i.ratio i.parts c.apply-worth.new.self i.jobs i.done c.apply-worth.result
    c.args.due.now.event
    due.opens
    (ap (λ (q : Parted). q.version) c.apply-worth.ensures.kept)
    (ap (λ (q : Parted). q.clock) c.apply-worth.ensures.kept)
    (c.apply-worth.ensures.pressed c.args.due.now.event
    (due_does i.ratio i.parts i.jobs i.done c.args.due.now.action c.args.due.now.event due))
    (c.apply-worth.ensures.leaves c.args.due.now.event
    (due_does i.ratio i.parts i.jobs i.done c.args.due.now.action c.args.due.now.event due))
    c.self.invariant in
    omega (arith, follows_modest _ _ _ new.2)

pub invariant_of-self : goal.invariant_of-self
invariant_of-self g c =
    let i = c.self.inside in
    let due = subst (λ d. IsDue d c.args.due.now.action c.args.due.now.event) (sym c.self.view_is) c.requires in
    takes_course i.ratio i.parts c.apply-worth.new.self i.jobs i.done c.apply-worth.result c.args.due.now.event
    due.opens
    (ap (λ (q : Parted). q.version) c.apply-worth.ensures.kept)
    (ap (λ (q : Parted). q.clock) c.apply-worth.ensures.kept)
    (c.apply-worth.ensures.pressed c.args.due.now.event
    (due_does i.ratio i.parts i.jobs i.done c.args.due.now.action c.args.due.now.event due))
    (c.apply-worth.ensures.leaves c.args.due.now.event
    (due_does i.ratio i.parts i.jobs i.done c.args.due.now.action c.args.due.now.event due))
    c.self.invariant

pub returns-clause-after : goal.returns-clause-after
returns-clause-after g c J z follows =
    let i = c.self.inside in
    let due = subst (λ d. IsDue d c.args.due.now.action c.args.due.now.event) (sym c.self.view_is) c.requires in
    course_takes i.ratio i.parts c.apply-worth.new.self i.jobs i.done c.apply-worth.result c.args.due.now.event
    due.opens
    (ap (λ (q : Parted). q.version) c.apply-worth.ensures.kept)
    (ap (λ (q : Parted). q.clock) c.apply-worth.ensures.kept)
    (c.apply-worth.ensures.pressed c.args.due.now.event
    (due_does i.ratio i.parts i.jobs i.done c.args.due.now.action c.args.due.now.event due))
    (c.apply-worth.ensures.leaves c.args.due.now.event
    (due_does i.ratio i.parts i.jobs i.done c.args.due.now.action c.args.due.now.event due))
    J z (subst (λ d. Follows d J z) (sym c.self.view_is) follows)

pub returns-clause-paid : goal.returns-clause-paid
returns-clause-paid g c start paid =
    let i = c.self.inside in
    let due = subst (λ d. IsDue d c.args.due.now.action c.args.due.now.event) (sym c.self.view_is) c.requires in
    let does : Does i.parts c.args.due.now.action c.args.due.now.event =
    due_does i.ratio i.parts i.jobs i.done c.args.due.now.action c.args.due.now.event due in
    printed_pays i.ratio i.parts c.apply-worth.new.self i.jobs i.done c.apply-worth.result c.args.due.now.event
    due.opens
    (ap (λ (q : Parted). q.version) c.apply-worth.ensures.kept)
    (ap (λ (q : Parted). q.clock) c.apply-worth.ensures.kept)
    (c.apply-worth.ensures.pressed c.args.due.now.event does)
    (c.apply-worth.ensures.leaves c.args.due.now.event does)
    c.self.invariant c.args.comparisons.now c.apply-worth.new.comparisons
    (λ d fits. c.apply-worth.ensures.cost c.args.due.now.event d does fits) start
    (subst (λ d. HasPaid d start c.args.comparisons.now) (sym c.self.view_is) paid)

pub returns-clause-once : goal.returns-clause-once
returns-clause-once g c d fits =
    let i = c.self.inside in
    let e = c.args.due.now.event in
    let does : Does i.parts c.args.due.now.action e =
    due_does i.ratio i.parts i.jobs i.done c.args.due.now.action e
    (subst (λ d. IsDue d c.args.due.now.action c.args.due.now.event) (sym c.self.view_is) c.requires) in
    subst (λ (d2 : Course). c.apply-worth.new.comparisons ≤ c.args.comparisons.now
    + orders_of d2.rules.version * d * (4 + wait_again e (filter is_held d2.ready))) c.self.view_is
    (subst (λ hs. c.apply-worth.new.comparisons ≤ c.args.comparisons.now
    + orders_of i.parts.version * d * (4 + wait_again e hs))
    (sym (held_list i.parts c.laws.ensures.roles))
    (c.apply-worth.ensures.once e d does
    (omega (arith, fits, ap (λ (d : Course). length d.ready) c.self.view_is))))
