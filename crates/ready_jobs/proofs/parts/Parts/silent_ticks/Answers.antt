use Rattle.std.proofs.Common.{◌≡◌, ◌<◌, min, sym, ap, arith, ◌∙◌, subst, option_map}
use Rattle.dover_model.specs.Common.{running, latest_start, starts_before, first, Each}
use Rattle.dover_model.proofs.lists.Members.{some_same}
use Rattle.dover_model.proofs.lists.Tests.{none_is_some}
use Rattle.ready_jobs.specs.Dues.{still_ticks, until_done}
use Rattle.ready_jobs.specs.Parts.{Parted, AreSound, state_of}
use Rattle.ready_jobs.specs.Kept.{parted_of}
use Rattle.ready_jobs.proofs.Seeing.{before_start, before_none, still_is}
use Rattle.ready_jobs.proofs.parts.Parts.silent_ticks.Goals as goal

pub first_start-requires-clause-modest : goal.first_start-requires-clause-modest
first_start-requires-clause-modest c = (subst AreSound (sym c.self.view_is) c.requires).modest

pub returns-in-Some-clause-still : goal.returns-in-Some-clause-still
returns-in-Some-clause-still c ahead =
    let p = parted_of c.self.inside in
    let early = subst (λ (q : Parted). Each (λ t. q.clock < latest_start t) q.waiting)
    (sym c.self.view_is) ahead in
    let before = c.until_done-before.ensures.is
    ∙ ap (λ (q : Parted). until_done (running (state_of q)) c.args.most) (sym c.self.view_is) in
    c.min.ensures ∙ ap (λ n. min n c.saturating_sub.result) before
    ∙ ap (min (until_done (running (state_of p)) c.args.most))
    c.saturating_sub.ensures
    ∙ before_start _ _ _ _ _ (sym c.first_start.ensures ∙ c.in-Some.is) early
    ∙ still_is p c.self.invariant.roles c.args.most
    ∙ ap (λ (q : Parted). still_ticks c.args.most (state_of q)) c.self.view_is

pub returns-in-Some-clause-most : goal.returns-in-Some-clause-most
returns-in-Some-clause-most c = omega (arith, c.min.ensures, c.until_done-before.ensures.most)

pub returns-in-Some-clause-done : goal.returns-in-Some-clause-done
returns-in-Some-clause-done c r runs = omega (arith, c.min.ensures, c.until_done-before.ensures.done r runs)

pub returns-in-Some-clause-start : goal.returns-in-Some-clause-start
returns-in-Some-clause-start c x at =
    let there = ap (option_map latest_start) (ap (λ (q : Parted). first (starts_before q.version) q.waiting)
    c.self.view_is ∙ at) in
    let start : latest_start x ≡ c.in-Some.start =
    some_same _ _ (sym there ∙ sym c.first_start.ensures ∙ c.in-Some.is) in
    omega (arith, start, c.min.ensures, c.saturating_sub.ensures, ap (λ (q : Parted). q.clock) c.self.view_is)

pub returns-in-None-clause-still : goal.returns-in-None-clause-still
returns-in-None-clause-still c ahead =
    let p = parted_of c.self.inside in
    let before = c.until_done-before.ensures.is
    ∙ ap (λ (q : Parted). until_done (running (state_of q)) c.args.most) (sym c.self.view_is) in
    before ∙ before_none _ _ _ _ (sym c.first_start.ensures ∙ c.in-None.is)
    ∙ still_is p c.self.invariant.roles c.args.most
    ∙ ap (λ (q : Parted). still_ticks c.args.most (state_of q)) c.self.view_is

pub returns-in-None-clause-start : goal.returns-in-None-clause-start
returns-in-None-clause-start c x at =
    let there = ap (option_map latest_start) (ap (λ (q : Parted). first (starts_before q.version) q.waiting)
    c.self.view_is ∙ at) in
    none_is_some (sym c.in-None.is ∙ c.first_start.ensures ∙ there)
