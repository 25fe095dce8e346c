use Rattle.std.proofs.Common.{◌≤◌, ℕ, List, ◌∙◌, sym, ap, subst, arith}
use Rattle.dover_model.specs.Common.{Session, instance_of, State, WaitsUntil}
use Rattle.dover_model.proofs.valid.JobLimits.{job_limits}
use Rattle.admission.specs.Kept.{Kept, HasRoom}
use Rattle.trace_judge.specs.Reads.{Reading, ReadsAhead, Goes, Waited, CanRelease}
use Rattle.trace_judge.proofs.Readings.{goes_of}
use Rattle.trace_judge.proofs.Releases.{not_admitted, not_waited, not_roomy, reserved_can, reserved_took}
use Rattle.trace_judge.proofs.reader.TraceReader.take_release.Goals as goal
use Rattle.trace_judge.proofs.reader.TraceReader.take_release.Goals.{After-admit-arg-1}
use Rattle.trace_judge.proofs.reader.TraceReader.take_release.Given.{Over}

pub returns-then-not-may_admit-clause-took : goal.returns-then-not-may_admit-clause-took
returns-then-not-may_admit-clause-took g c =
    not_admitted c.args.self.now c.requires.going c.args.number c.args.job c.requires.form
    (c.may_admit.ensures.no c.if-not-may_admit.true)

pub returns-then-not-waits_until-clause-took : goal.returns-then-not-waits_until-clause-took
returns-then-not-waits_until-clause-took g c =
    not_waited c.args.self.now c.requires.going c.args.number c.args.job c.requires.form
    c.waits_until.new.self
    (subst (λ tick. c.args.self.now.floor ≤ tick → (ls : List (List ℕ)) (S : Session) (z : State)
    → Goes c.args.self.now ls S z z → (x : State)
    → WaitsUntil (instance_of S).rules tick z x
    → ⊥) c.release.ensures.is (c.waits_until.ensures.no c.if-not-waits_until.true))
    c.waits_until.ensures.ahead

pub returns-then-is_full-clause-took : goal.returns-then-is_full-clause-took
returns-then-is_full-clause-took g c =
    not_roomy c.args.self.now c.requires.going c.args.number c.args.job c.requires.form c.waits_until.new.self
    c.waits_until.ensures.ahead
    (subst (λ tick. (ls : List (List ℕ)) (S : Session) (z y : State) → Goes c.args.self.now ls S z y → (x : State)
    × Waited c.waits_until.new.self tick ls S z x)
    c.release.ensures.is (c.waits_until.ensures.yes c.if-not-waits_until.false))
    (λ at ls S z y waited. sym c.if-is_full.true ∙ c.is_full.ensures at ls S z y waited)

-- the job may be released, with room
can : (g : Over) (c : After-admit-arg-1 g) (ls : List (List ℕ)) (S : Session) (z y : State)
    → Goes c.args.self.now ls S z y → CanRelease c.make_room.new.self c.args.job ls
can g c = reserved_can c.args.self.now c.waits_until.new.self c.make_room.new.self c.args.job c.waits_until.ensures.kept
    c.make_room.ensures.same
    (subst (λ tick. (ls : List (List ℕ)) (S : Session) (z y : State) → Goes c.args.self.now ls S z y → (x : State)
    × Waited c.waits_until.new.self tick ls S z x)
    c.release.ensures.is (c.waits_until.ensures.yes c.if-not-waits_until.false))
    (c.may_admit.ensures.yes c.if-not-may_admit.false).1
    (c.may_admit.ensures.admits c.if-not-may_admit.false)
    (λ at ls S z y waited. sym c.if-is_full.false ∙ c.is_full.ensures at ls S z y waited)

pub admit-requires-clause-can : goal.admit-requires-clause-can
admit-requires-clause-can g c =
    let it = goes_of c.args.self.now c.self.invariant.lines c.requires.going
    (subst (λ r. ReadsAhead r c.self.invariant.lines) c.self.view_is c.self.invariant.reads) in
    (c.self.invariant.lines, can g c c.self.invariant.lines it.0 it.1 it.2 it.3)

pub returns-clause-took : goal.returns-clause-took
returns-clause-took g c = reserved_took c.args.self.now c.make_room.new.self c.admit.new.self c.args.number c.args.job
    c.requires.going
    ((c.may_admit.ensures.yes c.if-not-may_admit.false).0 ∙ sym c.waits_until.ensures.course.jobs
    ∙ sym (ap (λ (r : Reading). r.course.jobs) c.make_room.ensures.same))
    (can g (goal.at.returns-clause-took g c).After-admit-arg-1) c.admit.ensures.reads

pub returns-in_err-make_room-clause-paid : goal.returns-in_err-make_room-clause-paid
returns-in_err-make_room-clause-paid g c start paid =
    c.make_room.ensures.paid start c.waits_until.new.comparisons (c.waits_until.ensures.paid start paid)

pub returns-clause-paid : goal.returns-clause-paid
returns-clause-paid g c start paid = c.admit.ensures.paid start c.waits_until.new.comparisons
    (c.make_room.ensures.paid start c.waits_until.new.comparisons (c.waits_until.ensures.paid start paid))

pub returns-then-not-may_admit-clause-jobs : goal.returns-then-not-may_admit-clause-jobs
returns-then-not-may_admit-clause-jobs g c = omega arith

pub returns-then-not-waits_until-clause-spare : goal.returns-then-not-waits_until-clause-spare
returns-then-not-waits_until-clause-spare g c = omega (arith, ap (λ (r : Reading). r.spare) c.waits_until.ensures.kept)

pub returns-then-not-waits_until-clause-keep : goal.returns-then-not-waits_until-clause-keep
returns-then-not-waits_until-clause-keep g c = ap (λ (r : Reading). r.keep) c.waits_until.ensures.kept

pub returns-then-not-waits_until-clause-jobs : goal.returns-then-not-waits_until-clause-jobs
returns-then-not-waits_until-clause-jobs g c = omega (arith, c.waits_until.ensures.course.jobs)

pub returns-then-not-waits_until-clause-paid : goal.returns-then-not-waits_until-clause-paid
returns-then-not-waits_until-clause-paid g c = c.waits_until.ensures.paid

pub returns-then-is_full-clause-spare : goal.returns-then-is_full-clause-spare
returns-then-is_full-clause-spare g c = omega (arith, ap (λ (r : Reading). r.spare) c.waits_until.ensures.kept)

pub returns-then-is_full-clause-keep : goal.returns-then-is_full-clause-keep
returns-then-is_full-clause-keep g c = ap (λ (r : Reading). r.keep) c.waits_until.ensures.kept

pub returns-then-is_full-clause-jobs : goal.returns-then-is_full-clause-jobs
returns-then-is_full-clause-jobs g c = omega (arith, c.waits_until.ensures.course.jobs)

pub returns-then-is_full-clause-paid : goal.returns-then-is_full-clause-paid
returns-then-is_full-clause-paid g c = c.waits_until.ensures.paid

pub returns-clause-spare : goal.returns-clause-spare
returns-clause-spare g c = omega (
  arith,
  ap (λ (r : Reading). r.spare) c.waits_until.ensures.kept,
  c.make_room.ensures.grows,
  c.admit.ensures.spare,
)

pub returns-clause-jobs : goal.returns-clause-jobs
returns-clause-jobs g c = omega (
  arith,
  ap (λ (r : Reading). r.course.jobs) c.make_room.ensures.same,
  c.waits_until.ensures.course.jobs,
  c.admit.ensures.jobs,
)

pub admit-requires-clause-room : goal.admit-requires-clause-room
admit-requires-clause-room g c = subst (λ (k : Kept). HasRoom k c.args.job)
    (sym (ap (λ (r : Reading). r.kept) c.make_room.ensures.same
    ∙ ap (λ (r : Reading). r.kept) c.waits_until.ensures.kept))
    (c.may_admit.ensures.yes c.if-not-may_admit.false).2

pub admit-requires-clause-spare : goal.admit-requires-clause-spare
admit-requires-clause-spare g c = c.in_ok-make_room.ensures.ok

pub waits_until-requires-clause-going : goal.waits_until-requires-clause-going
waits_until-requires-clause-going g c = c.requires.going

pub waits_until-requires-clause-known : goal.waits_until-requires-clause-known
waits_until-requires-clause-known g c =
    let limits = job_limits c.release.ensures.job in omega (arith, c.release.ensures.is, limits.window, limits.due)
