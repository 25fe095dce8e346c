-- The rows of a table: a job, and its course.
use Rattle.std.specs.Prelude.{◌≡◌, ℕ, ◌+◌, ◌<◌, ◌≤◌, List, [], ◌∷◌, ◌++◌, length, map, drop, Bool, true, false}
use Rattle.std.specs.Prelude.{if◌then◌else◌, slice_index_or, Option, Some, None, codes, decimal, flat_map}
use Rattle.std.specs.List.{enumerate_from}
use Rattle.dover_model.specs.declared.events.Event.{Event}
use Rattle.dover_model.specs.declared.events.Event.TheVariants.{Release, Run, Preempt, Take, Complete, Abandon, End}
use Rattle.dover_model.specs.JobFacts.{JobFacts, job_numbers}
use Rattle.dover_model.specs.Lines.{in_lines}
use Rattle.run_reports.specs.report.Counts.{jobs_released}
use Rattle.run_reports.specs.report.Courses.{course_in, starts_fields, unseen}
use Rattle.run_reports.specs.report.Early.{had_at}
use Rattle.run_reports.specs.declared.report.courses.Course.{Course}
use Rattle.run_reports.specs.declared.report.endings.Ending.{Ending}
use Rattle.run_reports.specs.declared.report.endings.Ending.TheVariants.{Completed, Abandoned}

-- the fields of an ending
abbrev pub ending_fields : Option Ending → List (List ℕ)
ending_fields None = []
ending_fields (Some (Completed at)) = codes "complete" ∷ decimal at ∷ []
ending_fields (Some (Abandoned at)) = codes "abandon" ∷ decimal at ∷ []

-- the field of the ticks that a job had
abbrev pub had_fields : Option ℕ → List (List ℕ)
had_fields None = []
had_fields (Some had) = decimal had ∷ []

-- the names of the fields, by whether the ticks that a job had are among them
abbrev pub names_line : Bool → List ℕ
names_line early = if early then codes "job,release,work,deadline,value,fate,tick,had,start,runs\n"
    else codes "job,release,work,deadline,value,fate,tick,start,runs\n"

-- each field behind a comma
abbrev pub after_commas : List (List ℕ) → List ℕ
after_commas fields = flat_map (λ field. 44 ∷ field) fields

-- the row of a job with its number, the ticks that it had, if these are told, and its course
abbrev pub row_text : ℕ → JobFacts → Option ℕ → Course → List ℕ
row_text n j had c = decimal n ++ after_commas (map decimal (job_numbers j)
    ++ (ending_fields c.ending ++ (had_fields had ++ starts_fields c)))

-- the rows of the jobs that these steps release, from number n on, by what each had and its course
abbrev pub rows_of_steps : (ℕ → Option ℕ) → (ℕ → Course) → ℕ → List Event → List (List ℕ)
rows_of_steps had course n [] = []
rows_of_steps had course n (Release m j ∷ es) =
    row_text n j (had n) (course n) ∷ rows_of_steps had course (n + 1) es
rows_of_steps had course n (Run at m ∷ es) = rows_of_steps had course n es
rows_of_steps had course n (Preempt at r m ∷ es) = rows_of_steps had course n es
rows_of_steps had course n (Take at r m ∷ es) = rows_of_steps had course n es
rows_of_steps had course n (Complete at m ∷ es) = rows_of_steps had course n es
rows_of_steps had course n (Abandon at m ∷ es) = rows_of_steps had course n es
rows_of_steps had course n (End value ∷ es) = rows_of_steps had course n es

-- the row of names with its line feed, and the rows of jobs
pub record Table : Type 0 where
  pub names : List ℕ
  pub rows : List (List ℕ)

-- what is left of a table, where so many steps are behind and release so many jobs
abbrev pub rows_left : List Event → Bool → List ℕ → List Course → (next number : ℕ) → Table
rows_left run early served courses next number = record {
  names = names_line early;
  rows = rows_of_steps (had_at early served) (λ n. slice_index_or courses n unseen) number (drop next run);
}

-- the row of the job of a schedule with these steps, whichever policy made it
abbrev pub schedule_row : List Event → ℕ × JobFacts → List ℕ
schedule_row run (n, j) = row_text n j None (course_in run n)

-- the table of the schedule: the row of names, and a row for each job
abbrev pub schedule_table : List Event → List ℕ
schedule_table run = names_line false ++ in_lines (map (schedule_row run) (enumerate_from 0 (jobs_released run)))

-- the next release behind so many steps is of this job, and so many steps are behind after it; or there is none
abbrev pub FindsNext : List Event → ℕ → Option (ℕ × JobFacts) → Type 0
FindsNext run next None =
    (had : ℕ → Option ℕ) (course : ℕ → Course) (n : ℕ) → rows_of_steps had course n (drop next run) ≡ []
FindsNext run next (Some (later, job)) = (next < later) × (later ≤ length run)
    × ((had : ℕ → Option ℕ) (course : ℕ → Course) (n : ℕ) → rows_of_steps had course n (drop next run)
    ≡ row_text n job (had n) (course n) ∷ rows_of_steps had course (n + 1) (drop later run))

-- the first of the rows was given in the line, or there is none, and all is as it was
abbrev pub GivesRow : (old new : Table) → (before line : List ℕ) → (given : Bool) → Type 0
GivesRow old new before line true = (new.names ≡ old.names)
    × ((row : List ℕ) × (line ≡ row ++ 10 ∷ []) × (old.rows ≡ row ∷ new.rows))
GivesRow old new before line false = (old.rows ≡ []) × (new ≡ old) × (line ≡ before)
