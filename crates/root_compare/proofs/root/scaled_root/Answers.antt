use Rattle.std.proofs.Common.{◌≡◌, ◌<◌, ◌+◌, ◌*◌, ◌^◌, ap, subst, arith}
use Rattle.root_compare.proofs.Roots.{none_within, beyond_all, beyond_root, at_most}
use Rattle.root_compare.proofs.root.scaled_root.Goals as goal

pub loop-bit-init : goal.loop-bit-init
loop-bit-init c =
    let beyond : c.args.m < (c.isqrt-root.result + 1) * (c.isqrt-root.result + 1) =
    beyond_root c.args.m c.isqrt-root.result c.isqrt-root.ensures.greatest in
    record {
      within = none_within c.args.m c.isqrt-root.result c.args.a c.isqrt-root.ensures.within beyond;
      beyond = beyond_all c.args.m c.isqrt-root.result c.args.a c.isqrt-root.ensures.within beyond (2 ^ 60)
          c.requires.scale;
      small = omega arith;
    }

pub returns-clause-greatest : goal.returns-clause-greatest
returns-clause-greatest c x within =
    at_most x (c.isqrt-root.result * c.args.a + c.loop-bit.rest) (c.args.m * c.args.a * c.args.a) within
    (let end : c.loop-bit.bit ≡ 0 = omega (arith, c.loop-bit-test.false, c.loop-bit.auto.bit) in
    let last : 2 ^ c.loop-bit.bit ≡ 1 = ap (λ b. 2 ^ b) end in
    let next : c.isqrt-root.result * c.args.a + (c.loop-bit.rest + 2 ^ c.loop-bit.bit)
    ≡ c.isqrt-root.result * c.args.a + c.loop-bit.rest + 1 = omega (arith, last) in
    subst (λ n. c.args.m * c.args.a * c.args.a < n * n) next c.loop-bit.invariant.beyond)
