use Rattle.std.proofs.Common.{◌≤◌, ◌*◌, sym, subst, arith, le-leb, leb-true}
use Rattle.std.proofs.Math.Nat.{mul-le-mul_left}
use Rattle.root_compare.proofs.Roots.{rest_within, rest_low, rest_fits, least_fits}
use Rattle.root_compare.proofs.root.is_below_root.Goals as goal

pub returns-then-rest-a : goal.returns-then-rest-a
returns-then-rest-a c = (
  λ test. rest_within c.args.m c.args.root c.args.a c.requires.within c.requires.greatest c.args.rest
      (let less : c.args.a * c.min.result ≤ c.args.a * c.saturating_sub-left.result =
      mul-le-mul_left c.args.a (omega (arith, c.min.ensures)) in
      subst (λ n. c.args.rest * c.args.rest ≤ c.args.a * n) c.saturating_sub-left.ensures
      (omega (arith, less, leb-true _ _ test))),
  λ fits. le-leb _ _ (least_fits c.min.result c.saturating_sub-left.result c.args.a c.args.rest c.min.ensures
      (subst (λ n. c.args.rest * c.args.rest ≤ c.args.a * n) (sym c.saturating_sub-left.ensures)
      (rest_fits c.args.m c.args.root c.args.a c.requires.within c.requires.greatest c.args.rest fits))
      (omega (arith, c.if-rest-a.true))),
)

pub returns-else-rest-a : goal.returns-else-rest-a
returns-else-rest-a c = (
  λ test. absurd (omega (arith, leb-true _ _ test, c.if-rest-a.false)),
  λ fits. le-leb _ _
      (rest_low c.args.m c.args.root c.args.a c.requires.within c.requires.greatest c.args.rest fits),
)
