-- What a report counts among the printed steps.
use Rattle.std.specs.Prelude.{ℕ, List, [], ◌∷◌, ◌++◌, length, codes, Option, Some, None, slice_get}
use Rattle.std.specs.List.{filter_map, sum_by, count_by}
use Rattle.std.specs.Option.{option_map_or}
use Rattle.dover_model.specs.declared.events.Event.{Event}
use Rattle.dover_model.specs.declared.events.Event.TheVariants.{Release, Abandon}
use Rattle.dover_model.specs.Common.{JobFacts, Fraction, bound, with_numbers, is_take, is_preemption, changes_hands}
use Rattle.dover_model.specs.Common.{Prints}
use Rattle.run_record.specs.intervals.Totals.{is_completion, is_abandonment}
use Rattle.run_reports.specs.declared.report.counts.Counts.{Counts}

-- the job that a step releases
abbrev pub job_released : Event → Option JobFacts
job_released (Release n job) = Some job
job_released _ = None

-- the jobs that these steps release
abbrev pub jobs_released : List Event → List JobFacts
jobs_released run = filter_map job_released run

-- the value of the job of number n
abbrev pub value_in : List JobFacts → ℕ → ℕ
value_in jobs n = option_map_or (λ j. j.value) (slice_get jobs n) 0

-- the value that a step abandons
abbrev pub value_lost : List JobFacts → Event → ℕ
value_lost jobs (Abandon at n) = value_in jobs n
value_lost jobs _ = 0

-- the value that these steps abandon
abbrev pub all_lost : List JobFacts → List Event → ℕ
all_lost jobs run = sum_by (value_lost jobs) run

-- the counts of these steps, which release these jobs and complete this value
abbrev pub counts_of : Fraction → List Event → List JobFacts → ℕ → Counts
counts_of k run jobs value = record {
  jobs = length jobs;
  completed = count_by is_completion run;
  value = value;
  abandoned = count_by is_abandonment run;
  lost = all_lost jobs run;
  taken = count_by is_take run;
  changes = count_by (λ e. changes_hands (Prints e)) run;
  preempted = count_by is_preemption run;
  bound = bound k value;
}

-- the lines of a summary before the one of the bound
abbrev pub fates_lines : Counts → List (List ℕ)
fates_lines c =
    with_numbers (codes "jobs") (c.jobs ∷ [])
    ∷ with_numbers (codes "completed") (c.completed ∷ c.value ∷ [])
    ∷ with_numbers (codes "abandoned") (c.abandoned ∷ c.lost ∷ [])
    ∷ with_numbers (codes "taken") (c.taken ∷ [])
    ∷ []

-- the line of the changes of hands
abbrev pub changes_line : Counts → List ℕ
changes_line c = with_numbers (codes "changes") (c.changes ∷ c.preempted ∷ c.taken ∷ [])

-- the line of the bound
abbrev pub bound_line : Counts → List ℕ
bound_line c = with_numbers (codes "bound") (c.bound ∷ [])

-- the lines of a summary
abbrev pub counts_lines : Counts → List (List ℕ)
counts_lines c = fates_lines c ++ bound_line c ∷ []
