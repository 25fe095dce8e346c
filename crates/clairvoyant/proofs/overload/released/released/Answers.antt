use Rattle.std.proofs.Common.{◌≡◌, ◌≤◌, drop, subst, arith}
use Rattle.dover_model.specs.Sound.{Each}
use Rattle.clairvoyant.proofs.overload.Near.{all_early, all_late, halved}
use Rattle.dover_model.proofs.valid.ValidParts.{order_parts}
use Rattle.clairvoyant.proofs.overload.released.released.Goals as goal

pub loop-low-preserved-then-release-tick : goal.loop-low-preserved-then-release-tick
loop-low-preserved-then-release-tick c =
    let low = halved c.loop-low.low c.loop-low.high c.loop-low-test.true in record {
      rise = omega (arith, low);
      few = c.loop-low.invariant.few;
      before = all_early _ _ _ _ (order_parts c.requires) (omega (arith, low, c.loop-low.invariant.few))
          c.index-jobs-middle.is
          (omega (arith, c.release.ensures.is, c.if-release-tick.true));
      behind = c.loop-low.invariant.behind;
    }

pub loop-low-preserved : goal.loop-low-preserved
loop-low-preserved c =
    let low = halved c.loop-low.low c.loop-low.high c.loop-low-test.true in record {
      rise = omega arith;
      few = omega (arith, low, c.loop-low.invariant.few);
      before = c.loop-low.invariant.before;
      behind = all_late _ _ _ _ (order_parts c.requires) (omega (arith, low, c.loop-low.invariant.few))
          c.index-jobs-middle.is
          (omega (arith, c.release.ensures.is, c.if-release-tick.false));
    }

pub returns : goal.returns
returns c = record {
  few = omega (arith, c.loop-low.invariant.rise, c.loop-low.invariant.few);
  before = c.loop-low.invariant.before;
  behind = subst (λ n. Each (λ j. c.args.tick ≤ j.release) (drop n c.args.jobs.now))
      (let e : c.loop-low.high ≡ c.loop-low.low = omega (arith, c.loop-low.invariant.rise, c.loop-low-test.false) in e)
      c.loop-low.invariant.behind;
}
