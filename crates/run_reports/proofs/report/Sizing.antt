-- How many jobs a run has, what they are worth together, and by when they are due, counted step by step.
use Rattle.std.proofs.Common.{◌≡◌, ℕ, ◌+◌, ◌≤◌, ◌<◌, List, [], ◌∷◌, length, refl, sym, ap, ◌∙◌, arith, fold, max}
use Rattle.std.proofs.Common.{Bool, true, false, cond, nat_le, leb-true, leb-false}
use Rattle.std.specs.List.{sum_by, cons_option}
use Rattle.std.proofs.lemmas.List.Sums.{sum_by-cons}
use Rattle.dover_model.specs.declared.events.Event.{Event}
use Rattle.dover_model.specs.declared.events.Event.TheVariants.{Release}
use Rattle.dover_model.specs.declared.events.Version.TheVariants.{Two}
use Rattle.dover_model.specs.Common.{Instance, IsListable, IsValid, total_value, last_deadline, JobFacts}
use Rattle.dover_model.specs.Common.{last_tick_in, most_jobs, most_total}
use Rattle.dover_model.specs.Common.{printed, completed_value}
use Rattle.dover_model.proofs.valid.Dues.{later_due}
use Rattle.run_record.specs.intervals.Totals.{value_released, later_deadline, totals_of}
use Rattle.run_record.specs.declared.intervals.totals.JobTotals.{JobTotals}
use Rattle.run_reports.specs.report.Counts.{job_released, jobs_released, all_lost}
use Rattle.run_reports.proofs.report.Counting.{releases_count, run_releases}
use Rattle.run_reports.proofs.report.Losses.{lost_rest}

-- the values of the steps are those of the jobs
pub released_total : (run : List Event) → sum_by value_released run ≡ total_value (jobs_released run)
released_total [] = refl
released_total (e ∷ run) = sum_by-cons value_released e run
    ∙ ap (λ n. value_released e + n) (released_total run) ∙ by_step e (jobs_released run) where
      by_step : (e : Event) (jobs : List JobFacts)
          → value_released e + total_value jobs ≡ total_value (cons_option (job_released e) jobs)
      by_step (Release n job) jobs = sym (sum_by-cons (λ (j : JobFacts). j.value) job jobs)
      by_step _ jobs = omega arith

-- the later of a tick and a deadline
max_later : (d : ℕ) (j : JobFacts) → max d j.deadline ≡ later_due d j
max_later d j = by_test (nat_le d j.deadline) refl where
  by_test : (b : Bool) → nat_le d j.deadline ≡ b → max d j.deadline ≡ cond b j.deadline d
  by_test true e = let low : d ≤ j.deadline = leb-true _ _ e in omega arith
  by_test false e = let low : j.deadline < d = leb-false _ _ e in omega arith

-- the last deadline of the steps is that of the jobs
released_due : (d : ℕ) (run : List Event) → fold later_deadline d run ≡ fold later_due d (jobs_released run)
released_due d [] = refl
released_due d (Release n job ∷ run) =
    released_due (max d job.deadline) run ∙ ap (λ t. fold later_due t (jobs_released run)) (max_later d job)
released_due d (e ∷ run) = released_due d run

-- these are the sizes of the run's jobs
module _ (J : Instance) (valid : IsValid J) (run : List Event) (prints : printed J ≡ run) (totals : JobTotals)
    (is : totals ≡ totals_of run) where
  counted : totals.jobs ≡ length J.jobs
  counted = ap (λ (t : JobTotals). t.jobs) is ∙ releases_count run ∙ ap length (run_releases J valid run prints)

  summed : totals.worth ≡ total_value J.jobs
  summed = ap (λ (t : JobTotals). t.worth) is ∙ released_total run ∙ ap total_value (run_releases J valid run prints)

  due_last : totals.due ≡ last_deadline J.jobs
  due_last = ap (λ (t : JobTotals). t.due) is ∙ released_due 0 run
      ∙ ap last_deadline (run_releases J valid run prints)

  -- they are within the limits of version Two
  abbrev pub Fit : Type 0
  Fit = (totals.jobs ≤ most_jobs Two) × (totals.worth ≤ most_total Two) × (totals.due ≤ last_tick_in Two)

  pub listable_by : Fit → IsListable J
  listable_by (few, modest, soon) = record {
    count = omega (arith, few, counted);
    total = omega (arith, modest, summed);
    due = omega (arith, soon, due_last);
  }

  pub sizes_fit : IsListable J → Fit
  sizes_fit listable = (
    omega (arith, listable.count, counted),
    omega (arith, listable.total, summed),
    omega (arith, listable.due, due_last),
  )

  -- what they are worth is completed or lost
  pub worth_is : totals.worth ≡ completed_value J + all_lost (jobs_released run) run
  worth_is = summed ∙ sym (lost_rest J valid)
      ∙ ap (λ es. completed_value J + all_lost J.jobs es) prints
      ∙ ap (λ js. completed_value J + all_lost js run) (sym (run_releases J valid run prints))
