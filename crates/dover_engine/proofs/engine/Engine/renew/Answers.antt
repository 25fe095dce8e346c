use Rattle.std.proofs.Common.{◌+◌, sym, ap, ap₂, ◌∙◌, subst, arith, [], length}
use Rattle.dover_model.specs.Rest.{turn_under}
use Rattle.ready_jobs.proofs.Courses.{no_items}
use Rattle.dover_engine.specs.Kept.{life_of}
use Rattle.dover_engine.specs.Life.{life_with, Life, IsAtRest, HasPaid, done_value, has_ended, spare_of, room_of}
use Rattle.dover_engine.specs.Given.{Gave}
use Rattle.dover_engine.proofs.Lives.{renew_gave, renew_paid}
use Rattle.admission.specs.Kept.{StandsFor}
use Rattle.std.proofs.lemmas.Bool.{false≢true}
use Rattle.dover_engine.proofs.engine.Engine.renew.Goals.{then-not-self-via-then-not-self}
use Rattle.dover_engine.proofs.engine.Engine.renew.Goals.{then-not-self-via-else-not-self+then-not-is_idle}
use Rattle.dover_engine.proofs.engine.Engine.renew.Goals as goal

pub returns-clause-gave : goal.returns-clause-gave
returns-clause-gave c J events gave =
    let v : Life = life_of c.self.inside in
    let it : Gave v J events = subst (λ u. Gave u J events) (sym c.self.view_is) gave in
    let still : IsAtRest v = record {
      settled = c.if-not-self.false;
      none = no_items v.server.ready.ready (c.is_idle.ensures.0 c.if-not-is_idle.false);
    } in
    renew_gave v J events it still c.renew.new.self c.new-self-inside.result (v.forgotten + c.from-jobs.result)
    c.add.new.self (c.renew.ensures.rests (turn_under J.rules it.since)) c.new-self-inside.ensures.stands
    (c.new-self-inside.ensures.rules
    ∙ ap₂ (λ k version. record { ratio = k; version = version }) c.ratio.ensures c.version.ensures)
    (ap (λ n. v.forgotten + n) (c.from-jobs.ensures ∙ c.count.ensures))
    (c.add.ensures ∙ ap (λ n. v.earned + n) c.value-value.ensures.is)

pub invariant_of-self : goal.invariant_of-self
invariant_of-self c =
    let kept = c.self.invariant in record {
      jobs = kept.jobs;
      events = kept.events;
      gave = returns-clause-gave c kept.jobs kept.events
          (subst (λ u. Gave u kept.jobs kept.events) c.self.view_is kept.gave);
      numbered_fits = omega (
        arith,
        kept.numbered_fits,
        c.from-jobs.ensures,
        c.count.ensures,
        c.new-self-inside.ensures.stands.count,
      );
      earned_fits = omega (
        arith,
        kept.earned_fits,
        c.add.ensures,
        c.value-value.ensures.modest,
        c.if-jobs-eq0.false,
      );
    }

pub returns-clause-paid : goal.returns-clause-paid
returns-clause-paid c start now paid =
    let v : Life = life_of c.self.inside in
    let it = subst (λ u. HasPaid u start now) (sym c.self.view_is) paid in
    let kept = c.self.invariant in
    renew_paid v kept.jobs kept.events kept.gave
    (no_items v.server.ready.ready (c.is_idle.ensures.0 c.if-not-is_idle.false)) start now it
    (life_with c.renew.new.self c.new-self-inside.result v.last v.settled v.coming (v.forgotten + c.from-jobs.result)
    c.add.new.self) (ap (λ n. v.forgotten + n) (c.from-jobs.ensures ∙ c.count.ensures))
    (c.new-self-inside.ensures.rules
    ∙ ap₂ (λ k version. record { ratio = k; version = version }) c.ratio.ensures c.version.ensures)

pub returns-clause-anew : goal.returns-clause-anew
returns-clause-anew c = λ rest. c.new-self-inside.ensures.stands

pub returns-clause-value : goal.returns-clause-value
returns-clause-value c =
    omega (arith, c.renew.ensures.done, c.value-value.ensures.is, c.add.ensures, ap done_value c.self.view_is)

pub returns-clause-ended : goal.returns-clause-ended
returns-clause-ended c = c.renew.ensures.ended ∙ ap has_ended c.self.view_is

pub returns-clause-spare : goal.returns-clause-spare
returns-clause-spare c = c.renew.ensures.spare ∙ ap spare_of c.self.view_is

pub returns-clause-room : goal.returns-clause-room
returns-clause-room c = ap (λ r. r.room) c.renew.ensures.renewed ∙ ap room_of c.self.view_is

-- where no job came since, none is to be forgotten
pub returns-then-jobs-eq0-clause-anew : goal.returns-then-jobs-eq0-clause-anew
returns-then-jobs-eq0-clause-anew c = λ rest.
    let v : Life = life_of c.self.inside in
    let kept = c.self.invariant.gave in
    subst (λ (u : Life). StandsFor u.admission []) c.self.view_is
    (subst (StandsFor v.admission) (no_items kept.since.jobs (omega (
      arith,
      c.if-jobs-eq0.true,
      c.from-jobs.ensures,
      c.count.ensures,
      kept.gave.admission.count,
    ))) kept.gave.admission)

-- it doesn't where something is still to be given, or a job is open
pub returns-then-not-self-clause-anew : goal.returns-then-not-self-clause-anew
returns-then-not-self-clause-anew c = λ rest.
    let view = c.self.view_is in
    absurd (elim c.then-not-self.branch [
      | then-not-self-via-then-not-self w ↦
          false≢true (sym w.if-not-self.true ∙ ap (λ (u : Life). u.settled) view ∙ rest.settled)
      | then-not-self-via-else-not-self+then-not-is_idle w ↦
          false≢true (sym w.if-not-is_idle.true
          ∙ w.is_idle.ensures.1 (ap (λ (u : Life). length u.server.ready.ready) view ∙ ap length rest.none))
    ])

pub renew-requires : goal.renew-requires
renew-requires c = c.is_idle.ensures.0 c.if-not-is_idle.false

pub returns-clause-settled : goal.returns-clause-settled
returns-clause-settled c = ap (λ (u : Life). u.settled) c.self.view_is

pub returns-clause-last : goal.returns-clause-last
returns-clause-last c = ap (λ (u : Life). u.last) c.self.view_is

pub overflow_add-self : goal.overflow_add-self
overflow_add-self c = omega (arith, c.self.invariant.numbered_fits, c.from-jobs.ensures, c.count.ensures)

pub add-requires : goal.add-requires
add-requires c = omega (
  arith,
  c.self.invariant.earned_fits,
  c.self.invariant.numbered_fits,
  c.value-value.ensures.modest,
)
