use Rattle.std.proofs.Common.{refl, sym, ap, subst, arith}
use Rattle.trace_judge.specs.Reads.{IsPaid, Reading, CanRelease}
use Rattle.ready_jobs.specs.Course.{Course}
use Rattle.trace_judge.proofs.Paying.{paid_late}
use Rattle.trace_judge.proofs.Releases.{release_course, release_room, one_more_ready, taken_reads, taken_reader}
use Rattle.trace_judge.proofs.reader.TraceReader.admit.Goals as goal

pub release-requires-clause-course : goal.release-requires-clause-course
release-requires-clause-course c = release_course _ c.args.job _ c.requires.can.0
    (subst (λ r. CanRelease r c.args.job c.requires.can.0) (sym c.self.view_is) c.requires.can.1)

pub release-requires-clause-room : goal.release-requires-clause-room
release-requires-clause-room c = omega (
  arith,
  c.self.invariant.spare.ready,
  c.requires.spare,
  ap (λ (r : Reading). r.spare) c.self.view_is,
  one_more_ready _ c.args.job 0 c.requires.can.0
      (subst (λ r. CanRelease r c.args.job c.requires.can.0) (sym c.self.view_is) c.requires.can.1),
)

pub keep_step-requires : goal.keep_step-requires
keep_step-requires c keep = omega (
  arith,
  release_room _ c.args.job 0 c.requires.can.0
      (subst (λ r. CanRelease r c.args.job c.requires.can.0) (sym c.self.view_is) c.requires.can.1)
      c.self.invariant.spare
      (omega (arith, c.requires.spare, ap (λ (r : Reading). r.spare) c.self.view_is)) keep,
  c.self.inside.steps.ok.0,
)

pub invariant_of-self : goal.invariant_of-self
invariant_of-self c = taken_reader _ _ c.self.view_is c.requires.going c.args.job c.release.new.self
    c.jobs-number.result c.release-release.result
    c.admit.new.self _ c.keep_step.new.steps.items _ _ c.release.ensures.kept c.release.ensures.ready
    c.jobs-number.ensures.is
    c.release-release.ensures.is c.admit.ensures.stands c.admit.ensures.rules refl c.keep_step.ensures.items
    c.self.invariant c.requires.can.0 c.requires.can.1
    (omega (arith, c.requires.spare, ap (λ (r : Reading). r.spare) c.self.view_is)) c.keep_step.ensures.room

pub returns-clause-reads : goal.returns-clause-reads
returns-clause-reads c = taken_reads _ _ c.self.view_is c.requires.going c.args.job c.release.new.self
    c.jobs-number.result c.release-release.result
    c.admit.new.self _ c.keep_step.new.steps.items _ _ c.release.ensures.kept c.release.ensures.ready
    c.jobs-number.ensures.is
    c.release-release.ensures.is c.admit.ensures.stands c.admit.ensures.rules refl c.keep_step.ensures.items

pub returns-clause-paid : goal.returns-clause-paid
returns-clause-paid c start now paid = paid_late c.release.new.self c.release-release.result start now
    (c.release.ensures.paid start now
    (subst (λ (r : Reading). IsPaid r start now) (sym c.self.view_is) paid).paid)
    (omega (arith, ap (λ (d : Course). d.clock) c.release.ensures.kept, c.release-release.ensures.is))
