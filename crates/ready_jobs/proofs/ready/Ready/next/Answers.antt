use Rattle.std.proofs.Common.{◌≡◌, [], ◌-◌, ◌+◌, ◌∙◌, sym, ap, subst, arith}
use Rattle.dover_model.specs.Limits.{last_tick}
use Rattle.dover_model.proofs.lists.Tests.{never}
use Rattle.ready_jobs.specs.Course.{course_of}
use Rattle.ready_jobs.specs.Dues.{still_ticks}
use Rattle.ready_jobs.specs.NextTick.{IsUnderWay, PrintsAt}
use Rattle.ready_jobs.specs.Parts.{ready_of, state_of}
use Rattle.ready_jobs.proofs.Courses.{course_part}
use Rattle.ready_jobs.proofs.NextTicks.{prints_at}
use Rattle.ready_jobs.proofs.Silences.{known_sound}
use Rattle.ready_jobs.proofs.ready.Ready.next.Goals as goal

pub silent_ticks-requires : goal.silent_ticks-requires
silent_ticks-requires c =
    let i = c.self.inside in
    known_sound _ i.parts c.laws.ensures.roles (course_part i.ratio i.parts i.jobs i.done c.self.invariant)

pub returns-clause-at : goal.returns-clause-at
returns-clause-at c under =
    let i = c.self.inside in
    let most = ap (λ t. last_tick - t) c.clock-clock.ensures in
    let some : ready_of i.parts ≡ [] → ⊥ = λ none. never (sym c.if-is_empty.false ∙ c.is_empty.ensures.1 none) in
    subst (λ d. PrintsAt d (c.clock-clock.result + c.silent_ticks.result)) c.self.view_is
    (subst (λ t. PrintsAt (course_of i.ratio i.parts i.jobs i.done) (t + c.silent_ticks.result))
    (sym c.clock-clock.ensures)
    (prints_at _ _ _ _ _ c.laws.ensures.roles c.self.invariant some (omega (arith, c.silent_ticks.ensures.most, most))
    (λ early. c.silent_ticks.ensures.still early ∙ ap (λ n. still_ticks n (state_of i.parts)) most)
    c.silent_ticks.ensures.done c.silent_ticks.ensures.start (subst IsUnderWay (sym c.self.view_is) under)))
