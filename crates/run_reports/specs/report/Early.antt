-- The jobs that completed with work left, counted step by step.
use Rattle.std.specs.Prelude.{ℕ, ◌+◌, ◌-◌, ◌<◌, ◌^◌, List, [], ◌∷◌, codes, Bool, nat_lt, if◌then◌else◌, Option, Some}
use Rattle.std.specs.Prelude.{None, slice_get, slice_index_or, sum_by, count_by}
use Rattle.std.specs.Option.{option_map_or}
use Rattle.dover_model.specs.declared.events.Event.{Event}
use Rattle.dover_model.specs.declared.events.Event.TheVariants.{Complete}
use Rattle.dover_model.specs.Common.{JobFacts, most_work, with_numbers}
use Rattle.run_reports.specs.declared.report.early.Early.{Early}

-- the work that is left of the job of number n, by the ticks that the jobs had
abbrev pub left_in : List JobFacts → List ℕ → ℕ → ℕ
left_in jobs served n = option_map_or (λ j. j.work) (slice_get jobs n) 0 - slice_index_or served n 0

-- the work that is left of the job that a step completes
abbrev pub left_at : List JobFacts → List ℕ → Event → ℕ
left_at jobs served (Complete at n) = left_in jobs served n
left_at jobs served _ = 0

-- those that these steps complete with work left
abbrev pub early_of : List JobFacts → List ℕ → List Event → Early
early_of jobs served run = record {
  jobs = count_by (λ e. nat_lt 0 (left_at jobs served e)) run;
  left = sum_by (left_at jobs served) run;
}

-- with one that has so much left, if any
abbrev pub with_left : Early → ℕ → Early
with_left early left = record { jobs = early.jobs + (if nat_lt 0 left then 1 else 0); left = early.left + left }

-- there is room for one step more
pub record HasRoom (early : Early) : Type 0 where
  pub jobs : early.jobs + 1 < 2 ^ 64
  pub left : early.left + most_work < 2 ^ 64

-- their line
abbrev pub early_line : Early → List ℕ
early_line early = with_numbers (codes "early") (early.jobs ∷ early.left ∷ [])

-- where jobs may finish early
abbrev pub lines_where : Bool → Early → List (List ℕ)
lines_where early it = if early then early_line it ∷ [] else []

-- the line of those that these steps complete, where jobs may finish early
abbrev pub early_lines : Bool → List JobFacts → List ℕ → List Event → List (List ℕ)
early_lines early jobs served run = lines_where early (early_of jobs served run)

-- what the job of number n had, where jobs may finish early
abbrev pub had_at : Bool → List ℕ → ℕ → Option ℕ
had_at early served n = if early then Some (slice_index_or served n 0) else None
