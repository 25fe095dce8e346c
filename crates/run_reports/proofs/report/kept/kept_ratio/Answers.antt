use Rattle.std.proofs.Common.{◌≡◌, ℕ, List, Some, ap, refl, subst, sym, ◌∙◌}
use Rattle.dover_model.specs.Common.{Fraction, Instance, IsRatio, IsWithin, completed_value, observed, worth}
use Rattle.dover_model.specs.declared.events.Event.{Event}
use Rattle.dover_model.specs.declared.factors.Factor.{Factor}
use Rattle.dover_model.proofs.valid.ValidParts.{valid_parts}
use Rattle.admission.specs.Kept.{HasExtremes}
use Rattle.admission.specs.Least.{AllKeep, IsLeast}
use Rattle.run_record.specs.intervals.Rows.{IsRunOf}
use Rattle.run_reports.specs.report.Counts.{jobs_released}
use Rattle.run_reports.specs.report.Kept.{HaveDensities}
use Rattle.run_reports.specs.declared.report.kept.Densities.{Densities}
use Rattle.run_reports.proofs.report.Counting.{few_steps, jobs_are}
use Rattle.run_reports.proofs.report.Densities.{kept_bound, valid_keep}
use Rattle.run_reports.proofs.report.kept.kept_ratio.Goals as goal

-- what is kept is of the jobs of the run
of_run : (k : Fraction) (run : List Event) (J : Instance) → IsRunOf k run J → (d : Densities)
    → HaveDensities k (jobs_released run) d → HasExtremes k J.jobs d.extremes
of_run k run J of d has = subst (λ jobs. HasExtremes k jobs d.extremes) (jobs_are k run J of) has.extremes

pub densities_of-kept-requires : goal.densities_of-kept-requires
densities_of-kept-requires c = few_steps c.args.k c.args.run.now c.requires.0 c.requires.1

pub least_kept-requires : goal.least_kept-requires
least_kept-requires c = (
  c.args.k,
  c.requires.0.jobs,
  of_run c.args.k c.args.run.now c.requires.0 c.requires.1 c.densities_of-kept.result c.densities_of-kept.ensures,
)

-- so what is least of them is within the bound
is_bound : (k : Fraction) (run : List Event) (J : Instance) (least : Fraction) (f : Factor) (s : List ℕ)
    → IsRunOf k run J → k.factor ≡ Some f → IsLeast k.factor J.jobs least
    → IsWithin least (worth (observed J) s) (completed_value J)
is_bound k run J least f s of factor it = kept_bound J least f s of.valid (ap (λ (r : Fraction). r.factor) of.ratio ∙ factor)
    (subst (λ (r : Fraction). IsLeast r.factor J.jobs least) (sym of.ratio) it)

-- and they keep the ratio for which they are valid
none_fails : (k : Fraction) (run : List Event) (J : Instance) → IsRunOf k run J
    → ((r : Fraction) → IsRatio r → AllKeep r J.jobs → ⊥) → ⊥
none_fails k run J of none = none k (subst IsRatio of.ratio (valid_parts of.valid).ratio)
    (subst (λ r. AllKeep r J.jobs) of.ratio (valid_keep J of.valid))

pub returns-in-Some-clause-least : goal.returns-in-Some-clause-least
returns-in-Some-clause-least c J of = c.in-Some.ensures.found c.args.k J.jobs
    (of_run c.args.k c.args.run.now J of c.densities_of-kept.result c.densities_of-kept.ensures)

pub returns-in-Some-clause-bound : goal.returns-in-Some-clause-bound
returns-in-Some-clause-bound c J f s of factor = is_bound c.args.k c.args.run.now J c.in-Some.least f s of factor
    (c.in-Some.ensures.found c.args.k J.jobs
    (of_run c.args.k c.args.run.now J of c.densities_of-kept.result c.densities_of-kept.ensures))

pub returns-in-None-clause-least : goal.returns-in-None-clause-least
returns-in-None-clause-least c J of = absurd (none_fails c.args.k c.args.run.now J of
    (c.in-None.ensures.none c.args.k J.jobs
    (of_run c.args.k c.args.run.now J of c.densities_of-kept.result c.densities_of-kept.ensures) refl))

pub returns-in-None-clause-bound : goal.returns-in-None-clause-bound
returns-in-None-clause-bound c J f s of factor = absurd (none_fails c.args.k c.args.run.now J of
    (c.in-None.ensures.none c.args.k J.jobs
    (of_run c.args.k c.args.run.now J of c.densities_of-kept.result c.densities_of-kept.ensures) refl))
