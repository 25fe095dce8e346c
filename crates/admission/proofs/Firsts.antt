-- The least dense and the densest of jobs that grow by one.
use Rattle.std.proofs.Common.{◌≡◌, ◌*◌, ◌≤◌, ◌<◌, ◌⊎◌, inl, inr, List, [], ◌∷◌, ◌++◌, length, refl, sym, ap, ◌∙◌, subst}
use Rattle.std.proofs.Common.{append_assoc, arith, Bool, ◌+◌, Some, length-append}
use Rattle.std.specs.List.{AllByRecursion}
use Rattle.std.proofs.lemmas.Bool.{cases_lt}
use Rattle.std.proofs.lemmas.List.Sums.{sum_by-append, sum_by-cons}
use Rattle.dover_model.specs.Common.{JobFacts, IsJob, Fraction, total_value, is_within_ratio_both_ways}
use Rattle.dover_model.proofs.lists.Members.{all_append, all_both, all_at}
use Rattle.dover_model.proofs.valid.Valid.{all_from}
use Rattle.dover_model.proofs.sessions.Growing.{all_behind}
use Rattle.admission.specs.declared.extremes.Numbered.{Numbered}
use Rattle.admission.specs.declared.extremes.Extremes.{Extremes}
use Rattle.admission.specs.Kept.{IsLessDense, IsFirstBy, IsLeastDense, IsDensest, AreExtremes, Kept, StandsFor}
use Rattle.admission.proofs.Comparing.{not_both, no_less, chained}
use Rattle.dover_model.proofs.valid.JobLimits.{job_limits}

-- ---- lists

-- ---- the first of some jobs

module _ (Under : JobFacts → JobFacts → Type 0) (not_mutual : (i j : JobFacts) → Under i j → Under j i → ⊥)
    (jobs : List JobFacts) (x : Numbered)
    (it : IsFirstBy Under jobs x) where
  -- none comes under it
  pub none_under : AllByRecursion (λ i. Under i x.job → ⊥) jobs
  none_under = subst (AllByRecursion (λ i. Under i x.job → ⊥)) (sym it.place)
      (all_append (λ i. Under i x.job → ⊥) it.before (x.job ∷ it.behind)
      (all_from (λ i. Under x.job i) (λ i. Under i x.job → ⊥) it.before
      (λ i first under. not_mutual x.job i first under) it.first)
      (λ under. not_mutual x.job x.job under under, it.later))

  -- what holds of each holds of it
  pub first_is : (P : JobFacts → Type 0) → AllByRecursion P jobs → P x.job
  first_is P all = all_at P it.before x.job it.behind (subst (AllByRecursion P) it.place all)

  -- it stays the first with one more that isn't under it
  pub stays_first : (y : JobFacts) → (Under y x.job → ⊥) → IsFirstBy Under (jobs ++ y ∷ []) x
  stays_first y over = record {
    before = it.before;
    behind = it.behind ++ y ∷ [];
    place = ap (λ l. l ++ y ∷ []) it.place ∙ append_assoc it.before (x.job ∷ it.behind) (y ∷ []);
    number = it.number;
    first = it.first;
    later = all_behind (λ i. Under i x.job → ⊥) it.behind y it.later over;
  }

  -- one more that is under it is the first
  pub becomes_first : (y : Numbered) → y.number ≡ length jobs → AllByRecursion IsJob jobs
      → ((i : JobFacts) → IsJob i → (Under i x.job → ⊥) → Under y.job i) → IsFirstBy Under (jobs ++ y.job ∷ []) y
  becomes_first y number each under = record {
    before = jobs;
    behind = [];
    place = refl;
    number = number;
    first = all_both IsJob (λ i. Under i x.job → ⊥) (λ i. Under y.job i) jobs under each none_under;
    later = tt;
  }

-- the one job is the first
pub alone_first : (Under : JobFacts → JobFacts → Type 0) (y : Numbered) → y.number ≡ 0 → IsFirstBy Under (y.job ∷ []) y
alone_first Under y number = record { before = []; behind = []; place = refl; number = number; first = tt; later = tt }

-- denser than
abbrev pub IsDenser : JobFacts → JobFacts → Type 0
IsDenser i j = IsLessDense j i

-- of two, one isn't denser
pub not_both_denser : (i j : JobFacts) → IsDenser i j → IsDenser j i → ⊥
not_both_denser i j one other = not_both j i one other

-- ---- the extremes

-- those of one job
pub of_one : (k : Fraction) (y : Numbered) (keep : Bool) → IsJob y.job → y.number ≡ 0
    → keep ≡ is_within_ratio_both_ways k y.job y.job
    → AreExtremes k (y.job ∷ []) (record { least = y; densest = y; keep_ratio = keep })
of_one k y keep job number kept = record {
  each = (job, tt);
  least = alone_first IsLessDense y number;
  densest = alone_first IsDenser y number;
  keep = kept;
}

module _ (k : Fraction) (jobs : List JobFacts) (e : Extremes) (it : AreExtremes k jobs e) (y : Numbered)
    (job : IsJob y.job) (number : y.number ≡ length jobs) where
  -- each is a job
  pub each_more : AllByRecursion IsJob (jobs ++ y.job ∷ [])
  each_more = all_behind IsJob jobs y.job it.each job

  -- the one that is kept as the least dense
  pub least_more : (x : Numbered) → (IsLessDense y.job e.least.job → x ≡ y)
      → ((IsLessDense y.job e.least.job → ⊥) → x ≡ e.least)
      → IsLeastDense (jobs ++ y.job ∷ []) x
  least_more x new old = by_order (cases_lt (y.job.value * e.least.job.work) (e.least.job.value * y.job.work)) where
    by_order : IsLessDense y.job e.least.job ⊎ ((e.least.job.value * y.job.work) ≤ (y.job.value * e.least.job.work))
        → IsLeastDense (jobs ++ y.job ∷ []) x
    by_order (inl less) = subst (IsLeastDense (jobs ++ y.job ∷ [])) (sym (new less))
        (becomes_first IsLessDense not_both jobs e.least it.least y number it.each
        (λ i i_job none. chained y.job.value y.job.work e.least.job.value e.least.job.work i.value i.work
        (job_limits i_job).work
        less
        (no_less i e.least.job none)))
    by_order (inr more) = let over : IsLessDense y.job e.least.job → ⊥ = λ less. absurd (omega arith) in
        subst (IsLeastDense (jobs ++ y.job ∷ [])) (sym (old over))
        (stays_first IsLessDense not_both jobs e.least it.least y.job over)

  -- the one that is kept as the densest
  pub densest_more : (x : Numbered) → (IsLessDense e.densest.job y.job → x ≡ y)
      → ((IsLessDense e.densest.job y.job → ⊥) → x ≡ e.densest)
      → IsDensest (jobs ++ y.job ∷ []) x
  densest_more x new old =
      by_order (cases_lt (e.densest.job.value * y.job.work) (y.job.value * e.densest.job.work)) where
        by_order : IsLessDense e.densest.job y.job
            ⊎ ((y.job.value * e.densest.job.work) ≤ (e.densest.job.value * y.job.work))
            → IsDensest (jobs ++ y.job ∷ []) x
        by_order (inl denser) = subst (IsDensest (jobs ++ y.job ∷ [])) (sym (new denser))
            (becomes_first IsDenser not_both_denser jobs e.densest it.densest y number it.each (λ i i_job none.
            let at_most : i.value * e.densest.job.work ≤ e.densest.job.value * i.work = no_less e.densest.job i none in
            let swapped : y.job.work * i.value < i.work * y.job.value =
            chained y.job.work y.job.value e.densest.job.work e.densest.job.value i.work i.value
            (job_limits i_job).worth
            (omega arith)
            (omega arith) in
            omega arith))
        by_order (inr less) = let over : IsLessDense e.densest.job y.job → ⊥ = λ denser. absurd (omega arith) in
            subst (IsDensest (jobs ++ y.job ∷ [])) (sym (old over))
            (stays_first IsDenser not_both_denser jobs e.densest it.densest y.job over)

-- what stands for the jobs stands for them with one more, where its extremes are theirs
pub stands_more : (old new : Kept) (jobs : List JobFacts) (j : JobFacts) (e : Extremes) → StandsFor old jobs
    → new.rules ≡ old.rules → new.count ≡ old.count + 1 → new.total ≡ old.total + j.value → new.extremes ≡ Some e
    → AreExtremes old.rules.ratio (jobs ++ j ∷ []) e → StandsFor new (jobs ++ j ∷ [])
stands_more old new jobs j e stands rules count total some it = record {
  count = omega (arith, stands.count, count, length-append jobs (j ∷ []));
  total = let sums : total_value (jobs ++ j ∷ []) ≡ total_value jobs + total_value (j ∷ []) =
      sum_by-append (λ (i : JobFacts). i.value) jobs (j ∷ []) in
      let last : total_value (j ∷ []) ≡ j.value + total_value [] = sum_by-cons (λ (i : JobFacts). i.value) j [] in
      omega (arith, stands.total, total, sums, last);
  extremes = rw (rules, some) it;
}
