use Rattle.std.proofs.Common.{◌<◌, ◌≤◌, ◌+◌, ◌*◌, length, ap, sym, ◌∙◌, subst, arith, filter}
use Rattle.dover_model.specs.State.{is_held}
use Rattle.waiting_pool.specs.Pools.{orders_of}
use Rattle.ready_jobs.specs.Deeds.{step_at}
use Rattle.ready_jobs.specs.Parts.{Parted}
use Rattle.ready_jobs.specs.Course.{Course, Follows}
use Rattle.ready_jobs.specs.Spending.{HasPaid, HasPaidFreely}
use Rattle.ready_jobs.proofs.Costing.{fewer_wait, silent_at_most}
use Rattle.ready_jobs.proofs.Courses.{course_part}
use Rattle.ready_jobs.proofs.SilentCourses.{course_reaches, reaches_course}
use Rattle.ready_jobs.proofs.Seeing.{held_list}
use Rattle.ready_jobs.proofs.Spending.{silent_pays, silent_frees}
use Rattle.ready_jobs.proofs.ready.Ready.go_on.Goals as goal

pub settle-action-requires-clause-part : goal.settle-action-requires-clause-part
settle-action-requires-clause-part g c =
    let i = c.self.inside in course_part i.ratio i.parts i.jobs i.done c.self.invariant

pub invariant_of-self : goal.invariant_of-self
invariant_of-self g c =
    let i = c.self.inside in
    reaches_course _ _ _ _ _ _ _ (ap (λ (q : Parted). q.version) c.settle-action.ensures.kept)
    (subst (λ (d : Course). 0 < length d.ready) (sym c.self.view_is) c.requires.some) c.settle-action.ensures.settles
    c.settle-action.ensures.step c.settle-action.ensures.stops c.settle-action.ensures.low c.requires.known
    c.self.invariant

pub returns-clause-reached : goal.returns-clause-reached
returns-clause-reached g c K z follows =
    let i = c.self.inside in
    let q = c.settle-action.new.self in
    course_reaches _ _ _ _ _ _ _ (ap (λ (p : Parted). p.version) c.settle-action.ensures.kept)
    (subst (λ (d : Course). 0 < length d.ready) (sym c.self.view_is) c.requires.some) c.settle-action.ensures.settles
    c.settle-action.ensures.step c.settle-action.ensures.stops c.settle-action.ensures.low c.requires.known _ _
    (subst (λ d. Follows d K z) (sym c.self.view_is) follows)

pub returns-clause-paid : goal.returns-clause-paid
returns-clause-paid g c start paid =
    let i = c.self.inside in
    silent_pays i.ratio i.parts c.settle-action.new.self i.jobs i.done c.args.mark
    (step_at c.settle-action.new.self.clock c.settle-action.result)
    c.laws.ensures.roles c.laws-2.ensures.roles c.self.invariant
    (course_reaches _ _ _ _ _ _ _ (ap (λ (q : Parted). q.version) c.settle-action.ensures.kept)
    (subst (λ (d : Course). 0 < length d.ready) (sym c.self.view_is) c.requires.some) c.settle-action.ensures.settles
    c.settle-action.ensures.step c.settle-action.ensures.stops c.settle-action.ensures.low c.requires.known _ _
    c.self.invariant.2)
    c.args.comparisons.now c.settle-action.new.comparisons c.settle-action.ensures.count start
    (subst (λ d. HasPaid d start c.args.comparisons.now) (sym c.self.view_is) paid)

pub returns-clause-freely : goal.returns-clause-freely
returns-clause-freely g c start paid freely =
    let i = c.self.inside in
    silent_frees i.ratio i.parts c.settle-action.new.self i.jobs i.done c.args.mark
    (step_at c.settle-action.new.self.clock c.settle-action.result)
    c.laws.ensures.roles c.laws-2.ensures.roles c.self.invariant
    (course_reaches _ _ _ _ _ _ _ (ap (λ (q : Parted). q.version) c.settle-action.ensures.kept)
    (subst (λ (d : Course). 0 < length d.ready) (sym c.self.view_is) c.requires.some) c.settle-action.ensures.settles
    c.settle-action.ensures.step c.settle-action.ensures.stops c.settle-action.ensures.low c.requires.known _ _
    c.self.invariant.2)
    c.args.comparisons.now c.settle-action.new.comparisons c.settle-action.ensures.count start
    (subst (λ d. HasPaid d start c.args.comparisons.now) (sym c.self.view_is) paid)
    (λ same. subst (λ d. HasPaidFreely d start c.args.comparisons.now) (sym c.self.view_is)
    (freely (same ∙ ap (λ (d : Course). d.clock) c.self.view_is)))

pub returns-clause-once : goal.returns-clause-once
returns-clause-once g c d fits =
    let p : Parted = c.self.inside.parts in
    let few = fewer_wait p in
    subst (λ (d2 : Course). c.settle-action.new.comparisons
    ≤ c.args.comparisons.now + 2 * orders_of d2.rules.version * d) c.self.view_is
    (silent_at_most p c.settle-action.new.self (ap (λ (q : Parted). q.held) c.settle-action.ensures.kept)
    c.settle-action.ensures.fewer (orders_of p.version) d c.args.comparisons.now c.settle-action.new.comparisons
    (c.settle-action.ensures.count d (omega (arith, fits, few, ap (λ (d : Course). length d.ready) c.self.view_is))))

pub returns-clause-held : goal.returns-clause-held
returns-clause-held g c = held_list c.settle-action.new.self c.laws-2.ensures.roles
    ∙ ap (λ (q : Parted). q.held) c.settle-action.ensures.kept
    ∙ sym (held_list c.self.inside.parts c.laws.ensures.roles)
    ∙ ap (λ (d : Course). filter is_held d.ready) c.self.view_is
