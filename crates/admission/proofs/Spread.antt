-- The ratio that jobs keep is set by the least dense and the densest one.
use Rattle.std.proofs.Common.{◌≡◌, ◌≤◌, ◌*◌, ℕ, List, ◌∷◌, inl, refl, sym, subst, Option, None}
use Rattle.std.proofs.Common.{ap, arith, ◌+◌}
use Rattle.std.proofs.lemmas.Nat.{mul-le}
use Rattle.dover_model.specs.Common.{Fraction, IsJob, IsMember, IsRatio, JobFacts, fraction, most_q}
use Rattle.dover_model.specs.declared.factors.Factor.{Factor}
use Rattle.dover_model.proofs.bound.Calculus.{cancel}
use Rattle.dover_model.proofs.lists.Members.{all_member, member_behind}
use Rattle.dover_model.proofs.valid.JobLimits.{JobLimits, job_limits, ratio_from, ratio_limits}
use Rattle.dover_model.proofs.valid.ValidParts.{is_within_ratio-agrees}
use Rattle.admission.specs.Kept.{AreExtremes, IsFirstBy, IsLessDense}
use Rattle.admission.specs.declared.extremes.Extremes.{Extremes}
use Rattle.admission.specs.declared.extremes.Numbered.{Numbered}
use Rattle.admission.proofs.Comparing.{no_less, not_both, within_densest, within_least}
use Rattle.admission.proofs.Firsts.{IsDenser, first_is, none_under, not_both_denser}
use Rattle.admission.specs.Least.{AllKeep, IsCandidate, IsLeast, IsLeastBelow, IsSpread, StandsBelow, Suffices}
use Rattle.admission.specs.declared.least.Pair.{Pair}

-- the first by an order is one of the jobs
first_member : (Under : JobFacts → JobFacts → Type 0) (jobs : List JobFacts) (x : Numbered) → IsFirstBy Under jobs x
    → IsMember x.job jobs
first_member Under jobs x it =
    subst (IsMember x.job) (sym it.place) (member_behind it.before (x.job ∷ it.behind) x.job (inl refl))

module _ (k : Fraction) (jobs : List JobFacts) (e : Extremes) (it : AreExtremes k jobs e) where
  -- the two jobs
  abbrev least : JobFacts
  least = e.least.job

  abbrev densest : JobFacts
  densest = e.densest.job

  least_limits : JobLimits least
  least_limits = job_limits (first_is IsLessDense not_both jobs e.least it.least IsJob it.each)

  densest_limits : JobLimits densest
  densest_limits = job_limits (first_is IsDenser not_both_denser jobs e.densest it.densest IsJob it.each)

  -- a job is no less dense than the one, and no denser than the other
  above : (j : JobFacts) → IsMember j jobs → least.value * j.work ≤ j.value * least.work
  above j member = no_less j least
      (all_member (λ i. IsLessDense i least → ⊥) jobs
      (none_under IsLessDense not_both jobs e.least it.least) j member)

  under : (i : JobFacts) → IsMember i jobs → i.value * densest.work ≤ densest.value * i.work
  under i member = no_less densest i
      (all_member (λ j. IsDenser j densest → ⊥) jobs
      (none_under IsDenser not_both_denser jobs e.densest it.densest) i member)

  -- what the two keep all keep
  all_of_two : (r : Fraction) → Suffices (densest.value * least.work) (least.value * densest.work) r.p r.q
      → AllKeep r jobs
  all_of_two r enough i j i_member j_member = (is_within_ratio-agrees r i j).1
      (within_least r.p r.q i.value i.work least.value least.work j.value j.work least_limits.work (above j j_member)
      (within_densest r.p r.q least.value least.work densest.value densest.work i.value i.work densest_limits.work
      (under i i_member) (omega (arith, enough))))

  -- what all keep the two keep
  two_of_all : (r : Fraction) → AllKeep r jobs
      → Suffices (densest.value * least.work) (least.value * densest.work) r.p r.q
  two_of_all r keep =
      let within : r.q * densest.value * least.work ≤ r.p * least.value * densest.work =
      (is_within_ratio-agrees r densest least).0 (keep densest least
      (first_member IsDenser jobs e.densest it.densest)
      (first_member IsLessDense jobs e.least it.least)) in
      omega (arith, within)

  -- the fraction of their densities is a spread
  pub spread_of : IsSpread jobs (densest.value * least.work) (least.value * densest.work)
  spread_of = record {
    some = mul-le 1 1 least.value densest.work least_limits.worth densest_limits.work;
    order = above densest (first_member IsDenser jobs e.densest it.densest);
    size =
        let most : densest.value * least.work ≤ 1_000_000_000 * 1_000_000_000_000 =
        mul-le densest.value least.work 1_000_000_000 1_000_000_000_000 densest_limits.modest
        least_limits.small in omega (arith, most);
    enough = all_of_two;
    needed = λ r ratio keep. two_of_all r keep;
  }

-- ---- the least ratio

module _ (jobs : List JobFacts) (top bottom : ℕ) (spread : IsSpread jobs top bottom) where
  -- a ratio that all keep is a candidate
  pub candidate_of : (r : Fraction) → IsRatio r → AllKeep r jobs → IsCandidate top bottom (most_q + 1) r.p r.q
  candidate_of r ratio keep = record {
    some = (ratio_limits ratio).least;
    below = omega (arith, (ratio_limits ratio).small_q);
    small = (ratio_limits ratio).small_p;
    enough = spread.needed r ratio keep;
  }

  module _ (x : Pair) (found : IsLeastBelow top bottom (most_q + 1) x) where
    -- the least candidate is a ratio
    pub is_ratio_of : IsRatio (fraction x.p x.q)
    is_ratio_of = ratio_from (record {
      least = found.candidate.some;
      above_one =
          let more : x.p * bottom ≤ x.p * top = mul-le x.p bottom x.p top (omega arith) spread.order in
          cancel top x.q x.p (omega (arith, spread.some, spread.order)) (omega (arith, found.candidate.enough, more));
      small_q = omega (arith, found.candidate.below);
      small_p = found.candidate.small;
      factor = refl;
    })

    -- a ratio that is equal suffices too
    equal_enough : (r : Fraction) → r.p * x.q ≡ x.p * r.q → Suffices top bottom r.p r.q
    equal_enough r same =
        let more : (x.q * top) * r.q ≤ (x.p * bottom) * r.q =
        mul-le (x.q * top) r.q (x.p * bottom) r.q found.candidate.enough (omega arith) in
        let other : (r.p * x.q) * bottom ≡ (x.p * r.q) * bottom = ap (λ n. n * bottom) same in
        cancel x.q (r.q * top) (r.p * bottom) found.candidate.some (omega (arith, more, other))

    -- it is the least that all jobs keep, whatever its factor
    pub least_of : (k : Fraction) (factor : Option Factor) → IsRatio k → k.p ≡ x.p → k.q ≡ x.q → k.factor ≡ factor
        → IsLeast factor jobs k
    least_of k factor ratio p_is q_is factor_is = record {
      ratio = ratio;
      factor_is = factor_is;
      kept = spread.enough k (rw (p_is, q_is) found.candidate.enough);
      least = λ r r_ratio keep. rw (p_is, q_is) (found.least r.p r.q (candidate_of r r_ratio keep));
      lowest = λ r r_ratio same. rw q_is (found.lowest r.p r.q (record {
        some = (ratio_limits r_ratio).least;
        below = omega (arith, (ratio_limits r_ratio).small_q);
        small = (ratio_limits r_ratio).small_p;
        enough = equal_enough r (rw (p_is, q_is) at same);
      }) (rw (p_is, q_is) at same));
    }

  -- where there is no candidate no ratio is kept by all
  pub none_kept : StandsBelow top bottom (most_q + 1) None → (r : Fraction) → IsRatio r → AllKeep r jobs → ⊥
  none_kept none r ratio keep = none r.p r.q (candidate_of r ratio keep)
