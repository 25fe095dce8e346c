use Rattle.std.proofs.Common.{[], false, refl, ap, ap₂, ◌∙◌, subst, arith, length}
use Rattle.dover_model.specs.Common.{no_jobs}
use Rattle.dover_model.specs.declared.horizon.Horizon.TheVariants.{Mark}
use Rattle.ready_jobs.specs.Course.{Course}
use Rattle.ready_jobs.proofs.Courses.{no_items}
use Rattle.dover_engine.specs.Kept.{life_of}
use Rattle.dover_engine.specs.Life.{life_with, Life, IsAtRest}
use Rattle.dover_engine.specs.Restarts.{IsRestarted}
use Rattle.dover_engine.proofs.Lives.{restart_gave}
use Rattle.dover_engine.proofs.engine.Engine.restart.Goals as goal

pub invariant_of-self : goal.invariant_of-self
invariant_of-self c =
    let v : Life = life_of c.self.inside in
    let kept = c.self.invariant in
    let still : IsAtRest v = record {
      settled = c.if-not-self.false;
      none = no_items v.server.ready.ready (c.is_idle.ensures.0 c.if-not-is_idle.false);
    } in record {
      jobs = no_jobs v.admission.rules.version v.admission.rules.ratio;
      events = [];
      gave = restart_gave v kept.jobs kept.events kept.gave still c.restart.new.self c.new-self-inside.result
          c.nothing-self-inside.result c.restart.ensures.serves c.new-self-inside.ensures.stands
          (c.new-self-inside.ensures.rules
          ∙ ap₂ (λ k version. record { ratio = k; version = version }) c.ratio.ensures c.version.ensures)
          c.nothing-self-inside.ensures;
      numbered_fits = omega (arith, c.new-self-inside.ensures.stands.count);
      earned_fits = omega (arith, c.nothing-self-inside.ensures);
    }

pub returns-clause-ok : goal.returns-clause-ok
unfolding invariant_of-self
returns-clause-ok c =
    let v : Life = life_of c.self.inside in
    let w : Life = life_with c.restart.new.self c.new-self-inside.result (Mark 0) false v.coming 0
    c.nothing-self-inside.result in
    let it : IsRestarted v w c.in-Mark.mark = record {
      rest = record {
        settled = c.if-not-self.false;
        none = no_items v.server.ready.ready (c.is_idle.ensures.0 c.if-not-is_idle.false);
      };
      at = c.in-Mark.is;
      gave = (invariant_of-self c).gave;
      last = refl;
      value = omega (
        arith,
        c.nothing-self-inside.ensures,
        ap (λ (d : Course). d.done) c.restart.ensures.anew,
      );
      spare = omega (
        arith,
        ap (λ (d : Course). d.room) c.restart.ensures.anew,
        ap (λ (d : Course). length d.ready) c.restart.ensures.anew,
      );
      room = ap (λ (d : Course). d.room) c.restart.ensures.anew;
    } in
    subst (λ (u : Life). IsRestarted u w c.in-Mark.mark) c.self.view_is it

pub returns-clause-paid : goal.returns-clause-paid
returns-clause-paid c now =
    record { since = now; before = λ d big. omega arith; paid = c.restart.ensures.paid now }
