-- What a run costs, said of its rows.
use Rattle.std.proofs.Common.{◌≡◌, ℕ, ◌+◌, ◌-◌, ◌*◌, ◌≤◌, List, sym, ap, ◌∙◌, subst}
use Rattle.std.proofs.Common.{arith, sum_by}
use Rattle.dover_model.specs.Books as books
use Rattle.dover_model.specs.Common.{Fraction, JobFacts, Instance, total_value, completed_value, ran, worth, observed}
use Rattle.dover_model.specs.Common.{IsWithin, IsLeastDense, IsHeavy, Each}
use Rattle.dover_model.specs.declared.events.Event.{Event}
use Rattle.dover_model.specs.Intervals as model
use Rattle.dover_model.proofs.lists.Members.{on_map, sum_map}
use Rattle.dover_model.proofs.bound.BoundLaws.{bound, observed_bound, interval_ordered, interval_displaced}
use Rattle.dover_model.proofs.bound.BoundLaws.{interval_paid, interval_light, intervals_complete, intervals_abandon}
use Rattle.dover_model.proofs.runs.Honest.{observed_honest}
use Rattle.run_record.specs.declared.intervals.interval.Interval.{Interval}
use Rattle.run_record.specs.intervals.Rows.{IsRunOf, numbers_of, rows_of}

module _ (k : Fraction) (run : List Event) (J : Instance) (of : IsRunOf k run J) (rows : List Interval) (value : ℕ)
    (same : rows ≡ rows_of J)
    (is : value ≡ completed_value J) where
  -- of each row, by what holds of each interval
  each_row : (P : Interval → Type 0) → Each (λ i. P (numbers_of i)) (model.intervals J) → Each P rows
  each_row P all = subst (Each P) (sym same) (on_map numbers_of P (model.intervals J) all)

  -- a sum over the rows
  sum_rows : (f : Interval → ℕ) → sum_by f rows ≡ sum_by (λ i. f (numbers_of i)) (model.intervals J)
  sum_rows f = ap (sum_by f) same ∙ sum_map numbers_of f (model.intervals J)

  pub rows_bound : (s : List ℕ) → IsWithin k (worth J s) value
  rows_bound s = subst (λ a. IsWithin k (worth J s) a) (sym is)
      (subst (λ (r : Fraction). IsWithin r (worth J s) (completed_value J)) of.ratio
      (bound J s of.valid))

  pub rows_observed : (s : List ℕ) → IsWithin k (worth (observed J) s) value
  rows_observed s = subst (λ a. IsWithin k (worth (observed J) s) a) (sym is)
      (subst (λ (r : Fraction). IsWithin r (worth (observed J) s) (completed_value J)) of.ratio
      (observed_bound J s of.valid))

  pub rows_honest : worth (observed J) (ran J) ≡ value
  rows_honest = observed_honest J of.valid ∙ sym is

  pub rows_ordered : Each (λ i. i.from ≤ i.until) rows
  rows_ordered = each_row (λ i. i.from ≤ i.until) (interval_ordered J of.valid)

  pub rows_displaced : Each (λ i. books.IsPaid k i.displaced i.taken) rows
  rows_displaced = each_row (λ i. books.IsPaid k i.displaced i.taken)
      (subst (λ (r : Fraction). Each (λ (i : model.Interval). books.IsPaid r i.displaced i.taken)
      (model.intervals J)) of.ratio
      (interval_displaced J of.valid))

  pub rows_paid : (j : JobFacts) → IsLeastDense J j
      → Each (λ i. j.value * (i.until - i.from) ≤ j.work * (i.regular + i.taken + i.displaced)) rows
  rows_paid j least = each_row (λ i. j.value * (i.until - i.from) ≤ j.work * (i.regular + i.taken + i.displaced))
      (interval_paid J j of.valid least)

  pub rows_light : Each (λ i. Each (λ v. IsHeavy k v (i.regular + i.taken) → ⊥) i.lost) (model.intervals J)
  rows_light = subst (λ (r : Fraction). Each
      (λ (i : model.Interval). Each (λ v. IsHeavy r v (i.regular + i.taken) → ⊥) i.lost) (model.intervals J))
      of.ratio
      (interval_light J of.valid)

  pub rows_completed : sum_by (λ i. i.regular + i.taken) rows ≡ value
  rows_completed = sum_rows (λ i. i.regular + i.taken) ∙ intervals_complete J of.valid ∙ sym is

  pub rows_abandoned : value + sum_by (λ i. i.abandoned) rows ≡ total_value J.jobs
  rows_abandoned = omega (arith, is, sum_rows (λ i. i.abandoned), intervals_abandon J of.valid)
