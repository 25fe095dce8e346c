-- The densities of the jobs of a run.
use Rattle.std.proofs.Common.{◌≡◌, ◌++◌, ◌∷◌, [], ◌+◌, ℕ, List, Some, arith, ◌∙◌}
use Rattle.std.proofs.Common.{length-append}
use Rattle.dover_model.specs.Common.{Fraction, Instance, IsRatio, IsValid, IsWithin, JobFacts}
use Rattle.dover_model.specs.Common.{completed_value, observed, worth}
use Rattle.dover_model.specs.Instance.{with_ratio}
use Rattle.dover_model.specs.declared.factors.Factor.{Factor}
use Rattle.task_laws.proofs.ratio.FreeRatio.{bound_same}
use Rattle.dover_model.proofs.lists.Members.{all_member, each_all}
use Rattle.dover_model.proofs.valid.ValidParts.{IsWithinRatio, is_within_ratio-agrees, valid_from, valid_parts}
use Rattle.admission.specs.Kept.{AreExtremes}
use Rattle.admission.specs.Least.{AllKeep, IsLeast}
use Rattle.admission.specs.declared.extremes.Extremes.{Extremes}
use Rattle.run_reports.specs.declared.report.kept.Densities.{Densities}
use Rattle.run_reports.specs.report.Kept.{HaveDensities}
use Rattle.std.specs.List.{AllByRecursion}

-- those of the jobs with one more
pub densities_more : (k : Fraction) (jobs : List JobFacts) (j : JobFacts) (old new : Densities) (e : Extremes)
    → HaveDensities k jobs old → new.count ≡ old.count + 1 → new.extremes ≡ Some e
    → AreExtremes k (jobs ++ j ∷ []) e → HaveDensities k (jobs ++ j ∷ []) new
densities_more k jobs j old new e has count extremes it = record {
  count = omega (arith, has.count, count, length-append jobs (j ∷ []));
  extremes = rw extremes it;
}

-- the jobs of a valid instance keep its ratio
pub valid_keep : (J : Instance) → IsValid J → AllKeep J.rules.ratio J.jobs
valid_keep J valid i j i_member j_member =
    (is_within_ratio-agrees J.rules.ratio i j).1 (all_member (IsWithinRatio J.rules.ratio i) J.jobs
    (all_member (λ x. AllByRecursion (IsWithinRatio J.rules.ratio x) J.jobs) J.jobs (valid_parts valid).densities i
    i_member) j j_member)

-- valid jobs are valid for each ratio that they keep
pub valid_by : (J : Instance) (k : Fraction) → IsValid J → IsRatio k → AllKeep k J.jobs → IsValid (with_ratio k J)
valid_by J k valid ratio keep = let parts = valid_parts valid in valid_from {J = with_ratio k J} (record {
  ratio = ratio;
  each = parts.each;
  due = parts.due;
  in_order = parts.in_order;
  count = parts.count;
  total = parts.total;
  densities = each_all (λ i. AllByRecursion (IsWithinRatio k i) J.jobs) J.jobs (λ i i_member.
      each_all (IsWithinRatio k i) J.jobs (λ j j_member.
      (is_within_ratio-agrees k i j).0 (keep i j i_member j_member)));
})

-- where a factor is declared, no schedule is worth more than the bound by the least ratio that the jobs keep
pub kept_bound : (J : Instance) (k : Fraction) (f : Factor) (s : List ℕ) → IsValid J → J.rules.ratio.factor ≡ Some f
    → IsLeast J.rules.ratio.factor J.jobs k → IsWithin k (worth (observed J) s) (completed_value J)
kept_bound J k f s valid factor least = bound_same J k f factor (least.factor_is ∙ factor) s
    (valid_by J k valid least.ratio least.kept)
