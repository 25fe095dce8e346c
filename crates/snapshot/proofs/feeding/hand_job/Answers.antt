use Rattle.std.proofs.Common.{sym, subst, ◌∙◌, [], ◌∷◌, ◌++◌}
use Rattle.dover_model.specs.Common.{IsValidSession, JobItem}
use Rattle.snapshot.specs.Reading.{stored}
use Rattle.snapshot.specs.Kept.{IsFed}
use Rattle.dover_model.proofs.lists.Tests.{never}
use Rattle.snapshot.specs.Forms.{task_in}
use Rattle.snapshot.specs.Stored.{fed_lines}
use Rattle.event_feed.specs.Kept.{HasRoom, Accepts}
use Rattle.snapshot.proofs.Handed.{offered, none_offered, none_made, no_fault}
use Rattle.snapshot.proofs.feeding.hand_job.Goals as goal

pub returns-then-not-is_job-clause-none : goal.returns-then-not-is_job-clause-none
returns-then-not-is_job-clause-none c =
    λ h items it room none. none_offered h items c.args.intake.now it room (task_in c.args.state.now).job
    c.requires.numerals c.in-Ok.fed (sym c.is_job.ensures ∙ c.if-not-is_job.true)
    (c.in-Ok.ensures.answer (fed_lines h items) it.stands)

pub accept-requires : goal.accept-requires
accept-requires c =
    let (h, items, it, room) = c.requires.fed in
    let offers = offered h items c.args.intake.now it room (task_in c.args.state.now).job c.requires.numerals
    c.in-Ok.fed c.form.new.self (sym c.is_job.ensures ∙ c.if-not-is_job.false)
    (c.in-Ok.ensures.stands (fed_lines h items) it.stands) (c.in-Ok.ensures.answer (fed_lines h items) it.stands) in
    subst (HasRoom c.form.new.self) (sym c.in-Some.ensures.facts) offers.has_room

pub returns-in-Some-clause-some : goal.returns-in-Some-clause-some
returns-in-Some-clause-some c = λ h items it room.
    let same = c.in-Some.ensures.facts in
    let offers = offered h items c.args.intake.now it room (task_in c.args.state.now).job c.requires.numerals
    c.in-Ok.fed c.form.new.self (sym c.is_job.ensures ∙ c.if-not-is_job.false)
    (c.in-Ok.ensures.stands (fed_lines h items) it.stands) (c.in-Ok.ensures.answer (fed_lines h items) it.stands) in (
      same,
      subst (λ j. IsValidSession (stored h (items ++ JobItem j ∷ []))) (sym same) offers.valid,
      subst (λ j. IsFed c.accept.new.self h (items ++ JobItem j ∷ [])) (sym same) (offers.fed c.accept.new.self
          (subst (λ j. Accepts j c.form.new.self c.accept.new.self) same c.accept.ensures)),
    )

pub returns-in_default-clause-none : goal.returns-in_default-clause-none
returns-in_default-clause-none c = λ h items it room none. none_made h items (task_in c.args.state.now).job
    (λ job. never (c.in_default.ensures.allowed.1 job))

pub returns-in-Err-clause-none : goal.returns-in-Err-clause-none
returns-in-Err-clause-none c =
    λ h items it room none. no_fault h items c.args.intake.now it room (task_in c.args.state.now).job
    c.requires.numerals c.in-Err.field-0 (c.in-Err.ensures.answer (fed_lines h items) it.stands)
