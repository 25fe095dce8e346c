use Rattle.std.proofs.Common.{◌≡◌, ◌+◌, ◌^◌, ◌<◌, ◌∷◌, [], sym, ◌∙◌, ap, subst, refl, None, Some, false, arith}
use Rattle.std.proofs.Common.{length-append}
use Rattle.dover_model.specs.Common.{JobFacts, job_of_numbers, Declaration, Instance, with_jobs, most_jobs, turn_under}
use Rattle.dover_model.specs.Common.{refusal_of}
use Rattle.dover_engine.specs.Kept.{life_of}
use Rattle.dover_engine.specs.Life.{life_with, Life, IsReadyFor, HasPaid}
use Rattle.dover_engine.specs.Given.{Gave}
use Rattle.dover_engine.specs.Calls.{IsAdmitted, IsCause}
use Rattle.dover_engine.proofs.Giving.{ready_too, rests_there, may_admit, job_gave}
use Rattle.dover_engine.proofs.Lives.{admit_gave, has_cause, refused_cause}
use Rattle.dover_engine.specs.declared.causes.NotAdmitted.TheVariants.{Full, Numbers}
use Rattle.std.proofs.lemmas.Bool.{false≢true}
use Rattle.dover_engine.proofs.engine.Engine.admit.Goals as goal

pub admit-event-requires-clause-valid : goal.admit-event-requires-clause-valid
admit-event-requires-clause-valid c =
    let kept = c.self.invariant in
    let g = kept.gave in
    let K : Instance = turn_under kept.jobs.rules g.since in
    let v : Life = life_of c.self.inside in
    let ready = subst (λ (j : JobFacts). IsReadyFor v j.release) (sym c.in-Ok.ensures.job)
    (ready_too c.self.view_is (c.is_ready_for.ensures.0 c.if-not-is_ready_for.false)) in
    let none = subst (λ (j : JobFacts). refusal_of v.admission.rules g.since.jobs j ≡ None) (sym c.in-Ok.ensures.job)
    (c.in-Ok.ensures.refusal g.since.jobs g.gave.admission) in
    (K, rests_there v K g.told g.gave c.in-Ok.job ready, may_admit v K g.told g.gave c.in-Ok.job ready none)

pub returns-clause-ok : goal.returns-clause-ok
returns-clause-ok c =
    let v : Life = life_of c.self.inside in
    let w : Life = life_with c.admit-event.new.self c.admit.new.self v.last false (Some c.admit-event.result)
    v.forgotten v.earned in
    let ready = subst (λ (j : JobFacts). IsReadyFor v j.release) (sym c.in-Ok.ensures.job)
    (ready_too c.self.view_is (c.is_ready_for.ensures.0 c.if-not-is_ready_for.false)) in
    subst (λ u. IsAdmitted u w
    (job_of_numbers c.args.release c.args.work c.args.deadline c.args.value)
    (c.self.inside.forgotten + c.from.result)) c.self.view_is
    (subst (λ (j : JobFacts). IsAdmitted v w j (c.self.inside.forgotten + c.from.result)) c.in-Ok.ensures.job (record {
      numbered = ap (λ n. v.forgotten + n) (c.from.ensures ∙ c.count.ensures);
      ready = ready;
      gave = λ J events g.
          let K : Instance = turn_under J.rules g.since in
          let none = subst (λ (j : JobFacts). refusal_of v.admission.rules g.since.jobs j ≡ None)
          (sym c.in-Ok.ensures.job)
          (c.in-Ok.ensures.refusal g.since.jobs g.gave.admission) in
          admit_gave v J events g c.in-Ok.job ready c.admit-event.new.self c.admit.new.self c.admit-event.result
          (job_gave v K g.told g.gave c.in-Ok.job ready c.admit-event.new.self c.admit.new.self c.admit-event.result
          (c.admit-event.ensures.serves K (rests_there v K g.told g.gave c.in-Ok.job ready)
          (may_admit v K g.told g.gave c.in-Ok.job ready none))
          (c.admit.ensures.stands g.since.jobs g.gave.admission) c.admit.ensures.rules c.admit-event.ensures.open);
      last = refl;
      spare = c.admit-event.ensures.spare;
      room = c.admit-event.ensures.room_stays;
    }))

pub returns-in-Err-clause-cause : goal.returns-in-Err-clause-cause
returns-in-Err-clause-cause c =
    let v : Life = life_of c.self.inside in
    let job : JobFacts = job_of_numbers c.args.release c.args.work c.args.deadline c.args.value in
    let ready = ready_too c.self.view_is (c.is_ready_for.ensures.0 c.if-not-is_ready_for.false) in
    subst (λ u. IsCause u job c.cause_behind.result) c.self.view_is
    (subst (IsCause v job) (sym c.cause_behind.ensures)
    (refused_cause v job c.in-Err.refused ready c.in-Err.ensures.refusal c.in-Err.ensures.other))

pub invariant_of-self : goal.invariant_of-self
invariant_of-self c =
    let kept = c.self.invariant in record {
      jobs = with_jobs kept.jobs (job_of_numbers c.args.release c.args.work c.args.deadline c.args.value ∷ []);
      events = kept.events;
      gave = (returns-clause-ok c).gave kept.jobs kept.events
          (subst (λ u. Gave u kept.jobs kept.events) c.self.view_is kept.gave);
      numbered_fits = omega (
        arith,
        c.if-number-ge-MOST_NUMBERED.false,
        c.from.ensures,
        c.count.ensures,
        (c.admit.ensures.stands kept.gave.since.jobs kept.gave.gave.admission).count,
        kept.gave.gave.admission.count,
        length-append kept.gave.since.jobs (c.in-Ok.job ∷ []),
      );
      earned_fits = kept.earned_fits;
    }

pub returns-clause-paid : goal.returns-clause-paid
returns-clause-paid c start now paid =
    let it = subst (λ u. HasPaid u start now) (sym c.self.view_is) paid in
    record {
      since = it.since;
      before = λ d big. it.before d (subst (λ (rules : Declaration). most_jobs rules.version + 1 < 2 ^ d)
          c.admit.ensures.rules big);
      paid = c.admit-event.ensures.paid it.since now it.paid;
    }

pub returns-then-spare-eq0-clause-cause : goal.returns-then-spare-eq0-clause-cause
returns-then-spare-eq0-clause-cause c =
    let v : Life = life_of c.self.inside in
    let job : JobFacts = job_of_numbers c.args.release c.args.work c.args.deadline c.args.value in
    subst (λ u. IsCause u job Full) c.self.view_is (
      ready_too c.self.view_is (c.is_ready_for.ensures.0 c.if-not-is_ready_for.false),
      has_cause v job None c.in-Ok.ensures.refusal,
      sym c.spare.ensures ∙ c.if-spare-eq0.true,
    )

pub admit-requires : goal.admit-requires
admit-requires c = c.in-Ok.ensures.room

pub admit-event-requires-clause-room : goal.admit-event-requires-clause-room
admit-event-requires-clause-room c = omega (arith, c.if-spare-eq0.false, c.spare.ensures)

pub overflow_add-number : goal.overflow_add-number
overflow_add-number c = omega (arith, c.self.invariant.numbered_fits, c.from.ensures, c.count.ensures)

-- where a job would fit, its number may be one too many
pub returns-then-number-ge-MOST_NUMBERED-clause-cause : goal.returns-then-number-ge-MOST_NUMBERED-clause-cause
returns-then-number-ge-MOST_NUMBERED-clause-cause c =
    let v : Life = life_of c.self.inside in
    let job : JobFacts = job_of_numbers c.args.release c.args.work c.args.deadline c.args.value in
    subst (λ u. IsCause u job Numbers) c.self.view_is (
      ready_too c.self.view_is (c.is_ready_for.ensures.0 c.if-not-is_ready_for.false),
      has_cause v job None c.in-Ok.ensures.refusal,
      omega (arith, c.if-spare-eq0.false, c.spare.ensures),
      omega (arith, c.if-number-ge-MOST_NUMBERED.true, c.from.ensures, c.count.ensures),
    )

pub cause_behind-requires : goal.cause_behind-requires
cause_behind-requires c = omega (arith, c.self.invariant.numbered_fits)

pub returns-then-spare-eq0-clause-kept : goal.returns-then-spare-eq0-clause-kept
returns-then-spare-eq0-clause-kept c = refl

pub returns-then-not-is_ready_for-clause-cause : goal.returns-then-not-is_ready_for-clause-cause
returns-then-not-is_ready_for-clause-cause c = λ ready.
    false≢true (sym c.if-not-is_ready_for.true ∙ c.is_ready_for.ensures.1 ready)
