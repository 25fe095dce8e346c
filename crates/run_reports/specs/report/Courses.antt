-- The courses of jobs: when they had the processor, and how they ended, step by step from the last one on.
use Rattle.std.specs.Prelude.{ℕ, ◌+◌, List, [], ◌∷◌, length, set, ◌==◌, nat_lt, if◌then◌else◌, Option, Some, None}
use Rattle.std.specs.Prelude.{decimal, slice_index_or, find, filter_map, count_by, option_map}
use Rattle.std.specs.Option.{option_map_or}
use Rattle.dover_model.specs.declared.events.Event.{Event}
use Rattle.dover_model.specs.declared.events.Event.TheVariants.{Run, Preempt, Take, Complete, Abandon}
use Rattle.dover_model.specs.Common.{Prints, gets, tick_of_event}
use Rattle.dover_model.specs.Reports.{Fate, fate_of_event, number_of}
use Rattle.dover_model.specs.Reports as model
use Rattle.run_record.specs.ledger.Pages.{capped}
use Rattle.run_reports.specs.declared.report.courses.Course.{Course}
use Rattle.run_reports.specs.declared.report.endings.Ending.{Ending}
use Rattle.run_reports.specs.declared.report.endings.Ending.TheVariants.{Completed, Abandoned}

-- how the job of a fate ended
abbrev pub ending_of : Fate → Ending
ending_of (model.Completed n at) = Completed at
ending_of (model.Abandoned n at) = Abandoned at

-- how the job of number n ended in these steps
abbrev pub ending_in : List Event → ℕ → Option Ending
ending_in run n = option_map ending_of (find (λ fate. number_of fate == n) (filter_map fate_of_event run))

-- the course of the job of number n in these steps
abbrev pub course_in : List Event → ℕ → Course
course_in run n = record {
  ending = ending_in run n;
  first = option_map tick_of_event (find (λ e. gets n (Prints e)) run);
  count = count_by (λ e. gets n (Prints e)) run;
}

-- that of a job without a step
abbrev pub unseen : Course
unseen = record { ending = None; first = None; count = 0 }

-- that of a job which gets the processor once more, before the other times
abbrev pub started : ℕ → Course → Course
started at c = record c { first = Some at; count = capped (c.count + 1) }

-- that of a job which ends so
abbrev pub ended : Ending → Course → Course
ended ending c = record c { ending = Some ending }

-- the courses where that of number n is changed so, if there are so many
abbrev pub with_change : (Course → Course) → ℕ → List Course → List Course
with_change f n courses = if nat_lt n (length courses)
    then set courses n (f (slice_index_or courses n unseen))
    else courses

-- after an earlier step is read
abbrev pub with_earlier : List Course → Event → List Course
with_earlier courses (Run at n) = with_change (started at) n courses
with_earlier courses (Preempt at stops n) = with_change (started at) n courses
with_earlier courses (Take at stops n) = with_change (started at) n courses
with_earlier courses (Complete at n) = with_change (ended (Completed at)) n courses
with_earlier courses (Abandon at n) = with_change (ended (Abandoned at)) n courses
with_earlier courses _ = courses

-- the fields of a row that tell when a job had the processor
abbrev pub starts_fields : Course → List (List ℕ)
starts_fields c = option_map_or decimal c.first [] ∷ decimal c.count ∷ []
