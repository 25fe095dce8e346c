use Rattle.std.proofs.Common.{◌≡◌, suc, true, false, subst, sym, arith}
use Rattle.dover_model.specs.Common.{is_heavy, greatest}
use Rattle.stated_jobs.proofs.bait.Heavy.{first_is}
use Rattle.stated_jobs.proofs.bait.links.first_value.Goals as goal

pub returns-clause-is : goal.returns-clause-is
returns-clause-is c = sym
    (subst (λ v. suc (greatest (λ n. is_heavy c.args.k v n)) ≡ c.loop-k.work) c.unit-unit.ensures.is
    (first_is c.args.k c.unit-unit.result c.loop-k.work c.unit-unit.ensures.ratio c.unit-unit.ensures.some
    (omega arith) c.loop-k.invariant.some
    c.loop-k.invariant.heavy (λ holds. absurd (let e : false ≡ true = cc in cc))))
