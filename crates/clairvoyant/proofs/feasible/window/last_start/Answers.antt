use Rattle.std.proofs.Common.{length, refl, ◌≡◌, ◌-◌, ◌+◌, drop, sym, subst, arith}
use Rattle.std.proofs.lemmas.List.{drop_all}
use Rattle.clairvoyant.proofs.feasible.LastStart.{passed_late, StartsAt, Passed, starts_at, passed_at, none_passed}
use Rattle.dover_model.proofs.valid.ValidParts.{order_parts}
use Rattle.dover_model.proofs.valid.JobLimits.{job_limits}
use Rattle.clairvoyant.proofs.feasible.window.last_start.Goals as goal

-- the window from the release of the job at hand
starts : (c : goal.After-release-then-b-release) → StartsAt c.args.jobs.now c.args.b c.release-then-b-release.result
starts c = subst (λ r. StartsAt c.args.jobs.now c.args.b r) (sym c.release-then-b-release.ensures.is)
    (starts_at _ (order_parts c.requires.order) _ _ _ _ c.loop-i.auto.i c.loop-i-test.true c.index-jobs-i.is
    c.loop-i.invariant.passed
    c.work-work.ensures.job (omega (arith, c.if-deadline-b.true, c.deadline.ensures.is))
    (omega (arith, c.if-b-release.true, c.release.ensures.is, c.work-work.ensures.is)))

pub returns-then-b-release-clause-release : goal.returns-then-b-release-clause-release
returns-then-b-release-clause-release c = (starts c).release

pub returns-then-b-release-clause-overfull : goal.returns-then-b-release-clause-overfull
returns-then-b-release-clause-overfull c = (starts c).overfull

pub returns-then-b-release-clause-last : goal.returns-then-b-release-clause-last
returns-then-b-release-clause-last c = (starts c).last

pub loop-i-preserved-else-b-release : goal.loop-i-preserved-else-b-release
loop-i-preserved-else-b-release c = record {
  passed = subst (λ w. Passed c.args.b (c.loop-i.work + w) (drop (c.loop-i.i - 1) c.args.jobs.now))
      (sym c.work-work.ensures.is)
      (passed_at _ (order_parts c.requires.order) _ _ _ _ c.loop-i.auto.i c.loop-i-test.true c.index-jobs-i.is
      c.loop-i.invariant.passed c.work-work.ensures.job (omega (arith, c.if-deadline-b.true, c.deadline.ensures.is))
      (omega (arith, c.if-b-release.false, c.release.ensures.is, c.work-work.ensures.is)));
  small = omega (
    arith,
    c.loop-i.invariant.small,
    c.loop-i-test.true,
    c.work-work.ensures.is,
    (job_limits c.work-work.ensures.job).small,
  );
}

pub unreachable-requires : goal.unreachable-requires
unreachable-requires c =
    none_passed c.args.b c.loop-i.work c.args.jobs.now
    (subst (λ n. Passed c.args.b c.loop-i.work (drop n c.args.jobs.now))
    (let none : c.loop-i.i ≡ 0 = omega (arith, c.loop-i-test.false) in none)
    c.loop-i.invariant.passed)
    c.requires.some.0 c.requires.some.1 c.requires.some.2

pub loop-i-preserved : goal.loop-i-preserved
loop-i-preserved c = record {
  passed = passed_late _ (order_parts c.requires.order) _ _ _ _ c.loop-i.auto.i c.loop-i-test.true c.index-jobs-i.is
      c.loop-i.invariant.passed (omega (arith, c.if-deadline-b.false, c.deadline.ensures.is));
  small = omega (arith, c.loop-i.invariant.small, c.loop-i-test.true);
}

pub loop-i-init : goal.loop-i-init
loop-i-init c = record {
  passed = subst (Passed c.args.b 0) (sym (drop_all (length c.args.jobs.now) c.args.jobs.now (omega arith)))
      (record { sum = refl; none = λ a low. omega (arith, low) });
  small = omega arith;
}

pub overflow_sub-b : goal.overflow_sub-b
overflow_sub-b c = omega (
  arith,
  c.release.ensures.is,
  c.deadline.ensures.is,
  c.if-deadline-b.true,
  (job_limits c.release.ensures.job).window,
)

pub overflow_add-work : goal.overflow_add-work
overflow_add-work c = omega (
  arith,
  c.loop-i.invariant.small,
  c.requires.count,
  c.work-work.ensures.is,
  (job_limits c.work-work.ensures.job).small,
)
