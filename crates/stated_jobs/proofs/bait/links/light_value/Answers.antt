use Rattle.std.proofs.Common.{◌≡◌, ◌*◌, ◌/◌, ◌≤◌, subst, sym, arith, Some}
use Rattle.dover_model.specs.Bait.{most_light}
use Rattle.root_compare.proofs.Roots.{one_greatest}
use Rattle.stated_jobs.proofs.bait.Heavy.{is_light, light_is, light_least, factor_is, factor_small}
use Rattle.stated_jobs.proofs.bait.links.light_value.Goals as goal

-- the factor is that of the ratio
declared : (c : goal.After-from-in-Some) → c.args.k.factor ≡ Some c.in-Some.factor
declared c = cc

-- what is given is so many times the work
given : (c : goal.After-from-in-Some)
    → c.in-Some.factor.b * c.args.work / c.in-Some.factor.c ≡ c.from.result * c.args.work / c.from-in-Some.result
given c = cc

-- which is the greatest value that isn't heavy
most : (c : goal.After-from-in-Some)
    → c.from.result * c.args.work / c.from-in-Some.result ≡ most_light c.args.k c.args.work
most c = subst (λ n. n ≡ most_light c.args.k c.args.work) (given c)
    (one_greatest (is_light c.args.k c.args.work) _ _
    (factor_is c.args.k c.in-Some.factor c.args.work c.factor.ensures.ratio (declared c))
    (light_is c.args.k c.args.work c.factor.ensures.ratio (omega (arith, c.requires))))

pub returns-in-None-clause-least : goal.returns-in-None-clause-least
returns-in-None-clause-least c = subst (λ n. c.args.work ≤ n) (sym c.light_by_root.ensures.is)
    (light_least c.args.k c.args.work c.factor.ensures.ratio (omega (arith, c.requires)))

pub returns-in-Some-clause-is : goal.returns-in-Some-clause-is
returns-in-Some-clause-is c = most c

pub returns-in-Some-clause-least : goal.returns-in-Some-clause-least
returns-in-Some-clause-least c = subst (λ n. c.args.work ≤ n) (sym (most c))
    (light_least c.args.k c.args.work c.factor.ensures.ratio (omega (arith, c.requires)))

pub returns-in-Some-clause-most : goal.returns-in-Some-clause-most
returns-in-Some-clause-most c = subst (λ n. n ≤ 1_000_000 * c.args.work) (given c)
    (factor_small c.args.k c.in-Some.factor c.args.work c.factor.ensures.ratio (declared c))
