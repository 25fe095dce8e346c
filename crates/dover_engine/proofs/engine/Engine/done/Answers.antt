use Rattle.std.proofs.Common.{◌≡◌, ℕ, ◌+◌, [], ◌∷◌, sym, ◌∙◌, ap, subst, None, Some, false, is_some}
use Rattle.std.proofs.lemmas.Bool.{false≢true}
use Rattle.dover_model.specs.Common.{Instance, with_finishes, runner_of, turn_under, may_finish_early, settled}
use Rattle.dover_model.specs.declared.horizon.Horizon.TheVariants.{Mark}
use Rattle.ready_server.specs.Serving.{Rests, Finishes}
use Rattle.ready_server.specs.declared.server.ReadyServer.{ReadyServer}
use Rattle.dover_engine.specs.Kept.{life_of}
use Rattle.dover_engine.specs.Life.{life_with, Life, HasPaid}
use Rattle.dover_engine.specs.Given.{Gave}
use Rattle.dover_engine.specs.Calls.{IsDone, IsNotDone, MayBeDone}
use Rattle.dover_engine.specs.declared.causes.NotDone.TheVariants.{Behind}
use Rattle.dover_engine.proofs.Giving.{rests_now, ready_too}
use Rattle.dover_engine.proofs.Lives.{version_given}
use Rattle.dover_engine.proofs.Doing.{may_be_done, has_processor, behind_given, had_then, is_done}
use Rattle.dover_engine.proofs.engine.Engine.done.Goals as goal

pub returns-then-not-may_finish_early-clause-cause : goal.returns-then-not-may_finish_early-clause-cause
returns-then-not-may_finish_early-clause-cause c J events gave =
    let v : Life = life_of c.self.inside in
    ap may_finish_early (version_given v J events (subst (λ u. Gave u J events) (sym c.self.view_is) gave)
    ∙ sym c.version.ensures) ∙ sym c.may_finish_early.ensures ∙ c.if-not-may_finish_early.true

pub returns-then-not-is_ready_for-clause-cause : goal.returns-then-not-is_ready_for-clause-cause
returns-then-not-is_ready_for-clause-cause c =
    let v : Life = life_of c.self.inside in (
      λ J events gave.
          ap may_finish_early (version_given v J events (subst (λ u. Gave u J events) (sym c.self.view_is) gave)
          ∙ sym c.version.ensures) ∙ sym c.may_finish_early.ensures ∙ c.if-not-may_finish_early.false,
      λ ready. false≢true (sym c.if-not-is_ready_for.true ∙ c.is_ready_for.ensures.1 ready),
    )

pub returns-in_default-clause-cause : goal.returns-in_default-clause-cause
returns-in_default-clause-cause c =
    let v : Life = life_of c.self.inside in
    let ready = c.is_ready_for.ensures.0 c.if-not-is_ready_for.false in
    let may : MayBeDone v c.args.at =
    may_be_done v c.args.at (ready_too c.self.view_is ready)
    (sym (ap may_finish_early c.version.ensures) ∙ sym c.may_finish_early.ensures ∙ c.if-not-may_finish_early.false)
    in (
      subst (λ u. MayBeDone u c.args.at) c.self.view_is may,
      c.runner.ensures.none (ap is_some c.in_default.is) c.args.at ready,
    )

pub returns-in_default-finish-clause-kept : goal.returns-in_default-finish-clause-kept
returns-in_default-finish-clause-kept c =
    let v : Life = life_of c.self.inside in
    let ready = ready_too c.self.view_is (c.is_ready_for.ensures.0 c.if-not-is_ready_for.false) in
    let kept = c.self.invariant.gave in
    let K : Instance = turn_under c.self.invariant.jobs.rules kept.since in
    let none : Finishes v.server c.finish.new.self K c.args.at c.in-Some.own None =
    subst (Finishes v.server c.finish.new.self K c.args.at c.in-Some.own) c.in_default-finish.is
    (c.finish.ensures.finishes K (rests_now v K kept.told kept.gave ready)) in
    ap (λ s. life_with s v.admission v.last v.settled v.coming v.forgotten v.earned) none.1 ∙ c.self.view_is

pub invariant_of-self : goal.invariant_of-self
invariant_of-self c =
    let kept = c.self.invariant in record {
      jobs = kept.jobs;
      events = kept.events;
      gave = subst (λ u. Gave u kept.jobs kept.events) (c.self.view_is ∙ sym (returns-in_default-finish-clause-kept c))
          kept.gave;
      numbered_fits = kept.numbered_fits;
      earned_fits = kept.earned_fits;
    }

pub returns-in_default-finish-clause-paid : goal.returns-in_default-finish-clause-paid
returns-in_default-finish-clause-paid c start now paid =
    subst (λ u. HasPaid u start now) (sym (returns-in_default-finish-clause-kept c)) paid

pub returns-in_default-finish-clause-cause : goal.returns-in_default-finish-clause-cause
returns-in_default-finish-clause-cause c =
    let v : Life = life_of c.self.inside in
    let ready = ready_too c.self.view_is (c.is_ready_for.ensures.0 c.if-not-is_ready_for.false) in
    let is : c.args.number ≡ v.forgotten + c.in-Some.own =
    subst (λ (u : Life). c.args.number ≡ u.forgotten + c.in-Some.own) (sym c.self.view_is) c.in-Some.ensures.some in
    let runs : (K : Instance) → Rests v.server K (Mark c.args.at) → runner_of (settled K c.args.at) ≡ Some c.in-Some.own
    = subst (λ (u : Life). (K : Instance) → Rests u.server K (Mark c.args.at)
    → runner_of (settled K c.args.at) ≡ Some c.in-Some.own) (sym c.self.view_is)
    (λ K. c.in-Some.ensures.runs K c.args.at) in
    subst (λ u. IsNotDone u c.args.at c.args.number Behind) c.self.view_is (
      may_be_done v c.args.at ready
          (sym (ap may_finish_early c.version.ensures) ∙ sym c.may_finish_early.ensures
          ∙ c.if-not-may_finish_early.false),
      has_processor v c.args.at c.args.number c.in-Some.own is ready runs,
      behind_given v c.args.at c.in-Some.own ready
          (λ K rests. (subst (Finishes v.server c.finish.new.self K c.args.at c.in-Some.own) c.in_default-finish.is
          (c.finish.ensures.finishes K rests)).0) runs,
    )

pub returns-clause-ok : goal.returns-clause-ok
returns-clause-ok c =
    let v : Life = life_of c.self.inside in
    let ready = ready_too c.self.view_is (c.is_ready_for.ensures.0 c.if-not-is_ready_for.false) in
    let is : c.args.number ≡ v.forgotten + c.in-Some.own =
    subst (λ (u : Life). c.args.number ≡ u.forgotten + c.in-Some.own) (sym c.self.view_is) c.in-Some.ensures.some in
    let kept = c.self.invariant in
    let s : ReadyServer = c.finish.new.self in
    let it : (K : Instance) → Rests v.server K (Mark c.args.at)
    → Finishes v.server s K c.args.at c.in-Some.own (Some c.in-Some-finish.event) =
    λ K rests. subst (Finishes v.server s K c.args.at c.in-Some.own) c.in-Some-finish.is
    (c.finish.ensures.finishes K rests) in
    let w : Life =
    life_with s v.admission v.last false (Some c.in-Some-finish.event) v.forgotten v.earned in
    let had : ℕ = had_then v c.args.at c.args.number c.in-Some.own is ready kept.jobs kept.events kept.gave s
    c.in-Some-finish.event it in (
      had,
      subst (λ u. IsDone u w c.args.at (record { number = c.args.number; had = had })) c.self.view_is
          (is_done v c.args.at c.args.number c.in-Some.own is ready kept.jobs kept.events kept.gave s
          c.in-Some-finish.event it
          (may_be_done v c.args.at ready
          (sym (ap may_finish_early c.version.ensures) ∙ sym c.may_finish_early.ensures
          ∙ c.if-not-may_finish_early.false))
          c.finish.ensures.spare c.finish.ensures.room_stays c.in-Some-finish.ensures.clock),
    )

pub invariant_of-self-2 : goal.invariant_of-self-2
invariant_of-self-2 c =
    let kept = c.self.invariant in
    let done = returns-clause-ok c in record {
      jobs = with_finishes kept.jobs (record { number = c.args.number; had = done.0 } ∷ []);
      events = kept.events;
      gave = done.1.gave kept.jobs kept.events (subst (λ u. Gave u kept.jobs kept.events) c.self.view_is kept.gave);
      numbered_fits = kept.numbered_fits;
      earned_fits = kept.earned_fits;
    }

pub returns-clause-paid : goal.returns-clause-paid
returns-clause-paid c start now paid =
    let it = subst (λ u. HasPaid u start now) (sym c.self.view_is) paid in
    record { since = it.since; before = it.before; paid = c.finish.ensures.paid it.since now it.paid }
