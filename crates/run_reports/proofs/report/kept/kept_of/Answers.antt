use Rattle.std.proofs.Common.{◌≡◌, ◌∷◌, [], ℕ, Option, Some, ap, arith, codes, subst, sym, ◌∙◌}
use Rattle.dover_model.specs.Common.{Fraction, Instance, bound, completed_value, with_numbers}
use Rattle.dover_model.specs.declared.factors.Factor.{Factor}
use Rattle.admission.specs.Least.{IsLeast}
use Rattle.run_reports.specs.report.Kept.{AreKeptBy}
use Rattle.run_reports.proofs.report.Counting.{value_small}
use Rattle.run_reports.proofs.report.kept.kept_of.Goals as goal

pub long_bound-bound-requires : goal.long_bound-bound-requires
long_bound-bound-requires c = let r = c.requires in
    record { completed = omega (arith, r.2, value_small c.args.k c.args.run.now r.0 r.1) }

-- the line of what is found
found : (factor : Option Factor) (f : Factor) (J : Instance) (least : Fraction) (value most : ℕ) → factor ≡ Some f
    → IsLeast factor J.jobs least → value ≡ completed_value J → most ≡ bound least value
    → AreKeptBy factor J (with_numbers (codes "kept") (least.p ∷ least.q ∷ most ∷ []) ∷ [])
found factor f J least value most some it same is = rw some (
  least,
  subst (λ x. IsLeast x J.jobs least) some it,
  ap (λ n. with_numbers (codes "kept") (least.p ∷ least.q ∷ n ∷ []) ∷ []) (is ∙ ap (λ a. bound least a) same),
)

pub returns-in-Some : goal.returns-in-Some
returns-in-Some c J of value = found c.args.k.factor c.in-Some.field-0 J c.kept_ratio-least.result c.args.value _
    (sym c.factor.ensures.is ∙ c.in-Some.is) (c.kept_ratio-least.ensures.least J of) value c.long_bound-bound.ensures.is
