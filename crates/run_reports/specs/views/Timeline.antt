-- A picture of a run for a terminal: the summary, a ruler, and a line for each job, with a sign for each column.
use Rattle.std.specs.Prelude.{ℕ, zero, suc, ◌+◌, ◌-◌, ◌*◌, ◌/◌, min, max, List, [], ◌∷◌, ◌++◌, length, replicate, Bool}
use Rattle.std.specs.Prelude.{false, not, ◌&&◌, ◌==◌, nat_lt, nat_le, if◌then◌else◌, Option, Some, None, codes, decimal}
use Rattle.std.specs.Prelude.{slice_index_or}
use Rattle.std.specs.List.{list_any}
use Rattle.dover_model.specs.declared.events.Event.{Event}
use Rattle.dover_model.specs.Common.{Instance, JobFacts, summary_lines, last_deadline, printed}
use Rattle.run_reports.specs.report.Counts.{jobs_released}
use Rattle.run_reports.specs.report.Fates.{fates_of}
use Rattle.run_reports.specs.declared.report.fates.Fates.{Fates}
use Rattle.run_reports.specs.report.Courses.{ending_in}
use Rattle.run_reports.specs.declared.report.endings.Ending.{Ending}
use Rattle.run_reports.specs.declared.report.endings.Ending.TheVariants.{Completed, Abandoned}
use Rattle.run_reports.specs.views.Templates.{Text, filled}
use Rattle.run_reports.specs.views.Stays.{stays_of}
use Rattle.run_reports.specs.declared.views.stays.Stay.{Stay}
use Rattle.run_reports.specs.declared.views.window.Window.{Window}

-- ---- the window and its columns

-- the window that is asked for, or the ticks up to the last deadline
abbrev pub window_or : Option Window → List JobFacts → Window
window_or None jobs = record { from = 0; until = max 1 (last_deadline jobs) }
window_or (Some w) jobs = w

-- the ticks of a column: as few as make it at most 60 columns, so that no line of a job has more than 80 signs
abbrev pub column_ticks : Window → ℕ
column_ticks w = (w.until - w.from - 1) / 60 + 1

-- the column of a tick, and the first column for a tick before the window
abbrev pub column_of : Window → ℕ → ℕ
column_of w t = (t - w.from) / column_ticks w

-- the first tick of a column
abbrev pub first_tick : Window → ℕ → ℕ
first_tick w column = w.from + column * column_ticks w

-- the tick behind the last one of a column, which is the window's at the latest
abbrev pub end_tick : Window → ℕ → ℕ
end_tick w column = min (first_tick w (column + 1)) w.until

-- ---- the frame

-- lines as one, with a comma and a space between each two
abbrev pub on_one_line : List Text → Text
on_one_line [] = []
on_one_line (line ∷ []) = line
on_one_line (line ∷ next ∷ more) = line ++ codes ", " ++ on_one_line (next ∷ more)

-- the summary of these lines, as one
abbrev pub summed_up : List Text → Text
summed_up lines = on_one_line lines ++ codes "\n"

-- so many spaces
abbrev pub blanks : ℕ → Text
blanks n = replicate n 32

-- the number, with blanks behind it to 20 places
abbrev pub padded : ℕ → Text
padded n = decimal n ++ blanks (20 - length (decimal n))

-- the first ticks of so many columns, each the 20th behind the one before it, and then the last one's
abbrev pub labels_from : Window → (more column : ℕ) → Text
labels_from w zero column = decimal (first_tick w column)
labels_from w (suc more) column = padded (first_tick w column) ++ labels_from w more (column + 20)

-- the first tick of each 20th column, above it
abbrev pub ruler : Window → Text
ruler w = blanks 7 ++ labels_from w (column_of w (w.until - 1) / 20) 0 ++ codes "\n"

-- the ticks of a column, and the ruler
abbrev pub frame : Window → Text
frame w = filled (codes "       ticks of a column: @\n") (column_ticks w ∷ []) ++ ruler w

-- ---- the signs of a job in the ticks from a on and before b

-- it is abandoned there
abbrev pub is_abandoned_in : (a b : ℕ) → Option Ending → Bool
is_abandoned_in a b (Some (Abandoned at)) = nat_le a at && nat_lt at b
is_abandoned_in a b _ = false

-- it takes the processor there
abbrev pub takes_in : (a b : ℕ) → Stay → Bool
takes_in a b stay = stay.took && nat_le a stay.from && nat_lt stay.from b

-- the tick behind a stay's last one, where the job may be abandoned in it
abbrev pub stay_end : Option Ending → Stay → ℕ
stay_end (Some (Abandoned at)) stay = min stay.until at
stay_end _ stay = stay.until

-- it runs in one of them
abbrev pub runs_in : (a b : ℕ) → Option Ending → Stay → Bool
runs_in a b ending stay =
    nat_lt stay.from (stay_end ending stay) && nat_lt stay.from b && nat_lt a (stay_end ending stay)

-- it is completed or abandoned by tick a
abbrev pub is_over_by : ℕ → Option Ending → Bool
is_over_by a None = false
is_over_by a (Some (Completed at)) = nat_le at a
is_over_by a (Some (Abandoned at)) = nat_le at a

-- it had the processor before tick b, and isn't over by tick a
abbrev pub is_begun_in : (a b : ℕ) → List Stay → Option Ending → Bool
is_begun_in a b stays ending = list_any (λ stay. nat_lt stay.from b) stays && not (is_over_by a ending)

-- an end as the signs have it: a job that is abandoned at its deadline is abandoned in its last tick
abbrev pub drawn_ending : JobFacts → Option Ending → Option Ending
drawn_ending j (Some (Abandoned at)) = Some (Abandoned (min at (j.deadline - 1)))
drawn_ending j ending = ending

-- the first of the signs X ! # - . that applies
abbrev pub sign : (a b : ℕ) → List Stay → Option Ending → ℕ
sign a b stays ending =
    if is_abandoned_in a b ending then 88 else (
    if list_any (takes_in a b) stays then 33 else (
    if list_any (runs_in a b ending) stays then 35 else (
    if is_begun_in a b stays ending then 45 else 46)))

-- ---- the line of a job

-- some tick from its release on and before its deadline is in the window
abbrev pub meets : Window → JobFacts → Bool
meets w j = nat_lt (max j.release w.from) (min j.deadline w.until)

-- the signs of so many columns
abbrev pub signs_from : Window → List Stay → Option Ending → (more column : ℕ) → Text
signs_from w stays ending zero column = []
signs_from w stays ending (suc more) column =
    sign (first_tick w column) (end_tick w column) stays ending ∷ signs_from w stays ending more (column + 1)

-- a sign for each column from that of its release to that of the tick before its deadline
abbrev pub signs : Window → JobFacts → List Stay → Option Ending → Text
signs w j stays ending =
    let first = column_of w j.release in let behind = column_of w (min j.deadline w.until - 1) + 1 in
    blanks first ++ signs_from w stays (drawn_ending j ending) (behind - first) first

-- the number, with blanks in front of it to six places
abbrev pub placed : ℕ → Text
placed n = blanks (6 - length (decimal n)) ++ decimal n

-- a minus where it is lost
abbrev pub loss_sign : Option Ending → Text
loss_sign (Some (Abandoned at)) = codes "-"
loss_sign _ = []

-- its number, its signs and its value
abbrev pub job_line : Window → ℕ → JobFacts → List Stay → Option Ending → Text
job_line w n j stays ending =
    placed n ++ codes " " ++ signs w j stays ending ++ codes " " ++ loss_sign ending ++ decimal j.value ++ codes "\n"

-- the line of a job of this run, if it meets the window
abbrev pub job_line_at : Window → List Event → ℕ → JobFacts → Text
job_line_at w run n j = if meets w j then job_line w n j (stays_of n run) (ending_in run n) else []

-- the lines of these jobs, from number n on, that meet the window
abbrev pub job_lines : Window → List Event → ℕ → List JobFacts → Text
job_lines w run n [] = []
job_lines w run n (j ∷ jobs) = job_line_at w run n j ++ job_lines w run (n + 1) jobs

-- ---- the lines of jobs in groups

-- the job of this number is of this group: of the first one where none is given
abbrev pub is_of : (of : List ℕ) → (n group : ℕ) → Bool
is_of of n group = slice_index_or of n 0 == group

-- the lines of the jobs of a group
abbrev pub lines_of : Window → List Event → (of : List ℕ) → (group n : ℕ) → List JobFacts → Text
lines_of w run of group n [] = []
lines_of w run of group n (j ∷ jobs) =
    (if is_of of n group then job_line_at w run n j else []) ++ lines_of w run of group (n + 1) jobs

-- a label as a line
abbrev pub label_line : Text → Text
label_line label = label ++ codes "\n"

-- the label of each group from this one on, and below it the lines of its jobs
abbrev pub group_lines : Window → List Event → (of : List ℕ) → List JobFacts → (group : ℕ) → List Text → Text
group_lines w run of jobs group [] = []
group_lines w run of jobs group (label ∷ labels) = label_line label ++ lines_of w run of group 0 jobs
    ++ group_lines w run of jobs (group + 1) labels

-- the lines of all jobs, in groups where there are labels
abbrev pub all_lines : Window → List Event → (of : List ℕ) → (labels : List Text) → List JobFacts → Text
all_lines w run of [] jobs = job_lines w run 0 jobs
all_lines w run of (label ∷ labels) jobs = group_lines w run of jobs 0 (label ∷ labels)

-- ---- the picture

-- of this window
abbrev pub pictured : Window → (of : List ℕ) → (labels : List Text) → Instance → Text
pictured w of labels J = summed_up (summary_lines J) ++ frame w ++ all_lines w (printed J) of labels J.jobs

-- the whole text, where the jobs are of these groups with these labels
abbrev pub grouped_timeline : Option Window → (of : List ℕ) → (labels : List Text) → Instance → Text
grouped_timeline window of labels J = pictured (window_or window J.jobs) of labels J

-- the whole text, without groups
abbrev pub timeline : Option Window → Instance → Text
timeline window J = grouped_timeline window [] [] J

-- ---- the picture of a schedule, whichever policy made it

-- what it comes to
abbrev pub fates_line : Fates → Text
fates_line f = filled (codes "jobs @, completed @ @, abandoned @ @, taken @\n")
    (f.jobs ∷ f.completed ∷ f.value ∷ f.abandoned ∷ f.lost ∷ f.taken ∷ [])

-- of these jobs and steps, in this window
abbrev pub schedule_pictured : Window → List JobFacts → List Event → Text
schedule_pictured w jobs run = fates_line (fates_of jobs run) ++ frame w ++ job_lines w run 0 jobs

-- the whole text
abbrev pub schedule_timeline : Option Window → List Event → Text
schedule_timeline window run =
    let jobs = jobs_released run in schedule_pictured (window_or window jobs) jobs run
