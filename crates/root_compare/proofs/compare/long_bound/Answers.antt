use Rattle.std.proofs.Common.{◌≡◌, sym, subst, None}
use Rattle.dover_model.specs.Common.{is_within_by, IsGreatest}
use Rattle.root_compare.proofs.compare.long_bound.Goals as goal

-- no factor is declared
plain : (c : goal.After-root_bound) → c.args.k.factor ≡ None
plain c = cc

pub returns-in-None-clause-greatest : goal.returns-in-None-clause-greatest
returns-in-None-clause-greatest c =
    subst (λ o. IsGreatest (λ n. is_within_by c.args.k o n c.args.a) c.root_bound.result) (sym (plain c))
    c.root_bound.ensures.greatest
