use Rattle.std.proofs.Common.{◌≡◌, ◌++◌, sym, subst, option_to_list, Option, Some, None, ◌||◌, false, option_map, refl}
use Rattle.std.proofs.Common.{ap, ◌∙◌, arith, IfSome}
use Rattle.dover_model.specs.declared.events.Event.{Event}
use Rattle.dover_model.specs.Common.{Instance, Prints, behind, turn_under, is_end, MayFollow, is_ready_after}
use Rattle.dover_model.specs.Common.{is_end_given}
use Rattle.ready_server.proofs.Stepping.{open_short}
use Rattle.dover_engine.specs.Kept.{life_of}
use Rattle.dover_engine.specs.Life.{life_with, Life, HasPaid, has_ended, spare_of, room_of, CostsOnce}
use Rattle.dover_engine.specs.Given.{Gave}
use Rattle.dover_engine.proofs.Giving.{came_gave, came_open, came_last, served, step_gave, all_given}
use Rattle.dover_engine.proofs.Lives.{decide_gave, due_given}
use Rattle.dover_model.specs.declared.horizon.Horizon.{Horizon}
use Rattle.dover_model.specs.declared.horizon.Horizon.TheVariants.{Mark, End}
use Rattle.dover_engine.proofs.engine.Engine.advance.Goals as goal

pub returns-in-Some-clause-gave : goal.returns-in-Some-clause-gave
returns-in-Some-clause-gave g c J events gave =
    let v : Life = life_of c.self.inside in
    let may = subst (λ u. MayFollow u.last c.args.to) (sym c.self.view_is) c.requires in
    let it : Gave v J events = subst (λ u. Gave u J events) (sym c.self.view_is) gave in
    let w : Life = life_with v.server v.admission c.args.to false None v.forgotten v.earned in
    subst (λ u. Gave w J (events ++ option_to_list (option_map (behind u.forgotten u.earned) (Some c.in-Some.event))))
    c.self.view_is
    (decide_gave v J events it c.args.to may v.server false (Some c.in-Some.event)
    (came_gave v (turn_under J.rules it.since) it.told it.gave c.args.to may c.in-Some.event c.in-Some.is))

pub invariant_of-self : goal.invariant_of-self
invariant_of-self g c =
    let kept = c.self.invariant in record {
      jobs = kept.jobs;
      events = kept.events ++ option_to_list
          (option_map (behind c.args.self.now.forgotten c.args.self.now.earned) (Some c.in-Some.event));
      gave = returns-in-Some-clause-gave g c kept.jobs kept.events
          (subst (λ u. Gave u kept.jobs kept.events) c.self.view_is kept.gave);
      numbered_fits = kept.numbered_fits;
      earned_fits = kept.earned_fits;
    }

pub returns-in-Some-clause-ended : goal.returns-in-Some-clause-ended
returns-in-Some-clause-ended g c =
    let it = c.self.invariant.gave in
    subst (λ u. has_ended (life_of c.self.inside) ≡ (has_ended u || is_end (Prints c.in-Some.event))) c.self.view_is
    (came_open (life_of c.self.inside) (turn_under c.self.invariant.jobs.rules it.since) it.told it.gave c.args.to
    (subst (λ u. MayFollow u.last c.args.to) (sym c.self.view_is) c.requires) c.in-Some.event c.in-Some.is)

pub returns-in-Some-clause-short : goal.returns-in-Some-clause-short
returns-in-Some-clause-short g c =
    let it = c.self.invariant.gave in
    open_short c.in-Some.event
    (came_last (life_of c.self.inside) (turn_under c.self.invariant.jobs.rules it.since) it.told it.gave c.args.to
    (subst (λ u. MayFollow u.last c.args.to) (sym c.self.view_is) c.requires) c.in-Some.event c.in-Some.is)

pub returns-in-None-clause-gave : goal.returns-in-None-clause-gave
returns-in-None-clause-gave g c J events gave =
    let v : Life = life_of c.self.inside in
    let may = subst (λ u. MayFollow u.last c.args.to) (sym c.self.view_is) c.requires in
    let it : Gave v J events = subst (λ u. Gave u J events) (sym c.self.view_is) gave in
    let K : Instance = turn_under J.rules it.since in
    let o : Option Event = c.step-event.result in
    subst (λ b. Gave (life_with c.step-event.new.self v.admission c.args.to b c.self.inside.coming v.forgotten
    v.earned) J (events ++ option_to_list (option_map (behind c.args.self.now.forgotten c.args.self.now.earned) o)))
    (sym c.is_ready_after-self-inside.ensures)
    (subst (λ p. Gave (life_with c.step-event.new.self v.admission c.args.to (is_ready_after c.args.to o) p
    v.forgotten v.earned) J
    (events ++ option_to_list (option_map (behind c.args.self.now.forgotten c.args.self.now.earned) o)))
    (sym c.in-None.is)
    (subst (λ u. Gave (life_with c.step-event.new.self v.admission c.args.to (is_ready_after c.args.to o) None
    v.forgotten v.earned) J (events ++ option_to_list (option_map (behind u.forgotten u.earned) o))) c.self.view_is
    (decide_gave v J events it c.args.to may c.step-event.new.self (is_ready_after c.args.to o) o
    (step_gave v K it.told it.gave c.args.to may c.in-None.is c.step-event.new.self o
    (c.step-event.ensures.gives K v.last it.told (served v K it.told it.gave c.args.to may c.in-None.is) may)))))

pub invariant_of-self-in-None : goal.invariant_of-self-in-None
invariant_of-self-in-None g c =
    let kept = c.self.invariant in record {
      jobs = kept.jobs;
      events = kept.events ++ option_to_list
          (option_map (behind c.args.self.now.forgotten c.args.self.now.earned) c.step-event.result);
      gave = returns-in-None-clause-gave g c kept.jobs kept.events
          (subst (λ u. Gave u kept.jobs kept.events) c.self.view_is kept.gave);
      numbered_fits = kept.numbered_fits;
      earned_fits = kept.earned_fits;
    }

pub returns-in-None-clause-prompt : goal.returns-in-None-clause-prompt
returns-in-None-clause-prompt g c J events gave none =
    let v : Life = life_of c.self.inside in
    let may = subst (λ u. MayFollow u.last c.args.to) (sym c.self.view_is) c.requires in
    let it : Gave v J events = subst (λ u. Gave u J events) (sym c.self.view_is) gave in
    let K : Instance = turn_under J.rules it.since in
    due_given v J events it c.args.to may
    (all_given c.step-event.new.self K c.args.to it.told c.step-event.result
    (c.step-event.ensures.gives K v.last it.told (served v K it.told it.gave c.args.to may c.in-None.is) may) none)

pub returns-in-None-clause-paid : goal.returns-in-None-clause-paid
returns-in-None-clause-paid g c start paid =
    let it = subst (λ u. HasPaid u start c.args.comparisons.now) (sym c.self.view_is) paid in
    record { since = it.since; before = it.before; paid = c.step-event.ensures.paid it.since it.paid }

-- where something is given, not all that is settled was
not_ready : (to : Horizon) (e : Event) → false ≡ is_ready_after to (Some e)
not_ready (Mark t) e = refl
not_ready End e = refl

pub returns-in-Some-clause-comes : goal.returns-in-Some-clause-comes
returns-in-Some-clause-comes g c =
    subst (λ (u : Life). IfSome u.coming (λ e. Some c.in-Some.event ≡ Some e)) c.self.view_is
    (subst (λ o. IfSome o (λ e. Some c.in-Some.event ≡ Some e)) (sym c.in-Some.is) refl)

pub returns-in-Some-clause-settled : goal.returns-in-Some-clause-settled
returns-in-Some-clause-settled g c = not_ready c.args.to c.in-Some.event

pub returns-in-Some-clause-forgotten : goal.returns-in-Some-clause-forgotten
returns-in-Some-clause-forgotten g c = ap (λ (u : Life). u.forgotten) c.self.view_is

pub returns-in-Some-clause-earned : goal.returns-in-Some-clause-earned
returns-in-Some-clause-earned g c = ap (λ (u : Life). u.earned) c.self.view_is

pub returns-in-Some-clause-spare : goal.returns-in-Some-clause-spare
returns-in-Some-clause-spare g c = omega (arith, ap spare_of c.self.view_is)

pub returns-in-Some-clause-room : goal.returns-in-Some-clause-room
returns-in-Some-clause-room g c = ap room_of c.self.view_is

pub returns-in-Some-clause-once : goal.returns-in-Some-clause-once
returns-in-Some-clause-once g c = λ d enough. omega arith

pub returns-in-Some-clause-paid : goal.returns-in-Some-clause-paid
returns-in-Some-clause-paid g c = λ start paid.
    let it = subst (λ u. HasPaid u start c.args.comparisons.now) (sym c.self.view_is) paid in
    record { since = it.since; before = it.before; paid = it.paid }

pub step-event-requires : goal.step-event-requires
step-event-requires g c =
    let v : Life = life_of c.self.inside in
    let may = subst (λ u. MayFollow u.last c.args.to) (sym c.self.view_is) c.requires in
    let it = c.self.invariant.gave in
    let K : Instance = turn_under c.self.invariant.jobs.rules it.since in
    (K, v.last, it.told, served v K it.told it.gave c.args.to may c.in-None.is, may)

pub returns-in-None-clause-comes : goal.returns-in-None-clause-comes
returns-in-None-clause-comes g c =
    subst (λ (u : Life). IfSome u.coming (λ e. c.step-event.result ≡ Some e)) c.self.view_is
    (subst (λ o. IfSome o (λ e. c.step-event.result ≡ Some e)) (sym c.in-None.is) tt)

pub returns-in-None-clause-settled : goal.returns-in-None-clause-settled
returns-in-None-clause-settled g c = c.is_ready_after-self-inside.ensures

pub returns-in-None-clause-ended : goal.returns-in-None-clause-ended
returns-in-None-clause-ended g c =
    c.step-event.ensures.ended ∙ ap (λ (u : Life). has_ended u || is_end_given c.step-event.result) c.self.view_is

pub returns-in-None-clause-forgotten : goal.returns-in-None-clause-forgotten
returns-in-None-clause-forgotten g c = ap (λ (u : Life). u.forgotten) c.self.view_is

pub returns-in-None-clause-earned : goal.returns-in-None-clause-earned
returns-in-None-clause-earned g c = ap (λ (u : Life). u.earned) c.self.view_is

pub returns-in-None-clause-short : goal.returns-in-None-clause-short
returns-in-None-clause-short g c = c.step-event.ensures.short

pub returns-in-None-clause-spare : goal.returns-in-None-clause-spare
returns-in-None-clause-spare g c = omega (arith, c.step-event.ensures.spare, ap spare_of c.self.view_is)

pub returns-in-None-clause-room : goal.returns-in-None-clause-room
returns-in-None-clause-room g c = c.step-event.ensures.room_stays ∙ ap room_of c.self.view_is

pub returns-in-None-clause-once : goal.returns-in-None-clause-once
returns-in-None-clause-once g c =
    subst (λ u. CostsOnce u c.step-event.result c.args.comparisons.now c.step-event.new.comparisons) c.self.view_is
    c.step-event.ensures.once
