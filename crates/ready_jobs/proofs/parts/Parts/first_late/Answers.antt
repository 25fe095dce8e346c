use Rattle.std.proofs.Common.{sym, ap, ◌∙◌, subst, Option, filter}
use Rattle.dover_model.specs.declared.events.Task.{Task}
use Rattle.dover_model.specs.Common.{waiting, is_at_latest_start, starts_before, first}
use Rattle.ready_jobs.specs.Parts.{Parted, AreSound, state_of}
use Rattle.ready_jobs.specs.Kept.{parted_of}
use Rattle.waiting_pool.specs.Slots.{seen}
use Rattle.ready_jobs.proofs.Seeing.{waiting_list, start_none, start_later, start_found}
use Rattle.ready_jobs.proofs.parts.Parts.first_late.Goals as goal

pub first_start-requires-clause-modest : goal.first_start-requires-clause-modest
first_start-requires-clause-modest c = (subst AreSound (sym c.self.view_is) c.requires).modest

pub first_latest-requires-clause-modest : goal.first_latest-requires-clause-modest
first_latest-requires-clause-modest c = (subst AreSound (sym c.self.view_is) c.requires).modest

-- the waiting jobs at their latest start, of the parts
abbrev late : Parted → Option Task
late q = first (starts_before q.version) (filter (is_at_latest_start (state_of q)) (waiting (state_of q)))

pub returns-in_err-start-clause-seen : goal.returns-in_err-start-clause-seen
returns-in_err-start-clause-seen c =
    let p = parted_of c.self.inside in
    let sound : AreSound p = subst AreSound (sym c.self.view_is) c.requires in
    ap seen c.from_residual.ensures
    ∙ sym (start_none p.version (state_of p) p.waiting sound.own sound.early
    (sym (sym c.in_err-start.was ∙ c.first_start.ensures)))
    ∙ sym (ap (λ l. first (starts_before p.version) (filter (is_at_latest_start (state_of p)) l))
    (waiting_list p c.self.invariant.roles))
    ∙ ap late c.self.view_is

pub returns-then-start-self-clause-seen : goal.returns-then-start-self-clause-seen
returns-then-start-self-clause-seen c =
    let p = parted_of c.self.inside in
    let sound : AreSound p = subst AreSound (sym c.self.view_is) c.requires in
    sym (start_later p.version (state_of p) p.waiting sound.own sound.early c.in_ok-start.start
    (sym (sym c.in_ok-start.was ∙ c.first_start.ensures)) (λ same. c.if-start-self.true same))
    ∙ sym (ap (λ l. first (starts_before p.version) (filter (is_at_latest_start (state_of p)) l))
    (waiting_list p c.self.invariant.roles))
    ∙ ap late c.self.view_is

pub returns-clause-seen : goal.returns-clause-seen
returns-clause-seen c =
    let p = parted_of c.self.inside in
    let sound : AreSound p = subst AreSound (sym c.self.view_is) c.requires in
    c.first_latest.ensures
    ∙ sym (start_found p.version (state_of p) p.waiting sound.own sound.early c.in_ok-start.start
    (sym (sym c.in_ok-start.was ∙ c.first_start.ensures)) c.if-start-self.false)
    ∙ sym (ap (λ l. first (starts_before p.version) (filter (is_at_latest_start (state_of p)) l))
    (waiting_list p c.self.invariant.roles))
    ∙ ap late c.self.view_is
