-- What happened to one job of a run, and by which test.
use Rattle.std.specs.Prelude.{ℕ, ◌-◌, ◌*◌, List, [], ◌∷◌, ◌++◌, length, Bool, true, false, not, ◌&&◌, ◌||◌, ◌==◌}
use Rattle.std.specs.Prelude.{nat_le, nat_lt, if◌then◌else◌, Option, Some, None, slice_get, codes, decimal}
use Rattle.std.specs.Option.{option_map_or}
use Rattle.dover_model.specs.declared.events.Event.{Event}
use Rattle.dover_model.specs.declared.events.Event.TheVariants.{Release, Run, Preempt, Take, Complete, Abandon, End}
use Rattle.dover_model.specs.Common.{Fraction, fraction, greatest, JobFacts, Instance, most_p, served, is_heavy}
use Rattle.dover_model.specs.Common.{printed, by_density}
use Rattle.dover_model.specs.declared.events.Version.{Version}
use Rattle.dover_model.specs.declared.factors.Factor.{Factor}
use Rattle.root_compare.specs.Least.{least_heavy}
use Rattle.run_reports.specs.report.Early.{left_at}
use Rattle.run_record.specs.intervals.Rows.{weights}
use Rattle.run_record.specs.ledger.Rooms.{rooms}
use Rattle.run_reports.specs.declared.views.story.Weighed.{Weighed}
use Rattle.run_reports.specs.views.Templates.{Text, filled}

-- the numbers of the job
abbrev pub asked : ℕ → JobFacts → Text
asked n j = filled (codes "job @: release @, work @, deadline @, value @\n")
    (n ∷ j.release ∷ j.work ∷ j.deadline ∷ j.value ∷ [])

-- a part of a ratio times the square of a value
abbrev pub square : (part value : ℕ) → Text
square part value = filled (codes " @ * @^2 = ") (part ∷ value ∷ []) ++ decimal (part * value * value)

-- a part of a factor times a value
abbrev pub product : (part value : ℕ) → Text
product part value = filled (codes " @ * @ = @") (part ∷ value ∷ part * value ∷ [])

-- both sides of the test by this factor, or by the ratio where there is none, and this word between them
abbrev pub sides : Fraction → Option Factor → (value worth : ℕ) → Text → Text
sides k None value worth answer = square k.q (value - worth) ++ answer ++ square k.p worth
sides k (Some f) value worth answer = product f.c value ++ answer ++ product f.b worth

-- the test at a latest start: both sides of it, this word between them, and from which value on it is passed
unfoldable pub tested : Fraction → (value worth : ℕ) → Text → Text
tested k value worth answer = filled (codes ", its value @ against @ under way:") (value ∷ worth ∷ [])
    ++ sides k k.factor value worth answer ++ filled (codes "; heavy from @ on") (least_heavy k worth ∷ [])

-- the job takes the processor
abbrev pub takes : Fraction → (value at stops worth : ℕ) → Text
takes k value at stops worth = filled (codes "at @ it takes the processor from job @") (at ∷ stops ∷ [])
    ++ tested k value worth (codes " above") ++ codes "\n"

-- p is the numerator of a ratio where it is at least the denominator q
abbrev pub numerator : (q p : ℕ) → Option ℕ
numerator q p = if nat_le q p then Some p else None

-- of the ratios with the denominator q, the numerator of the greatest for which the value v is heavy against w
unfoldable pub greatest_ratio : (q v w : ℕ) → Option ℕ
greatest_ratio q v w = numerator q (greatest (λ p. nat_le p most_p && is_heavy (fraction p q) v w))

-- up to which ratio with this denominator a value is heavy
abbrev pub up_to : (q : ℕ) → Option ℕ → Text
up_to q None = codes ", with this value for no k"
up_to q (Some p) = filled (codes ", with this value for k up to @/@") (p ∷ q ∷ [])

-- the same of a value against w; where a factor is declared no ratio plays a part
abbrev pub by_ratios : Fraction → Option Factor → (value worth : ℕ) → Text
by_ratios k None value worth = up_to k.q (greatest_ratio k.q value worth)
by_ratios k (Some f) value worth = []

-- it is abandoned
abbrev pub goes : Fraction → (value at worth : ℕ) → Text
goes k value at worth = filled (codes "at @ it is abandoned") (at ∷ []) ++ tested k value worth (codes " not above")
    ++ by_ratios k k.factor value worth ++ codes "\n"

-- what an abandonment of job m means for job n
abbrev pub gone : Fraction → (n value at m worth : ℕ) → Text
gone k n value at m worth = if m == n then goes k value at worth else []

-- a line at a tick, where the step is the job's own
abbrev pub own : Bool → ℕ → Text → Text
own mine at line = if mine then filled line (at ∷ []) else []

-- it is completed, with work left or with none
abbrev pub completed_line : (early : Bool) → Text
completed_line early = if early
    then codes "at @ it is completed, with @ of its @ ticks left\n" else codes "at @ it is completed\n"

-- what a completion means for job n, where the step is its own
abbrev pub completed : Bool → (at left work : ℕ) → Text
completed mine at left work = if mine then filled (completed_line (nat_lt 0 left)) (at ∷ left ∷ work ∷ []) else []

-- it preempts another job, with the test of its work against the room of the running and the held jobs
abbrev pub preempts_line : (fits : Bool) → Text
preempts_line fits = if fits
    then codes "at @ it preempts job @, which is due later, its work @ within the room @\n"
    else codes "at @ it preempts job @, which is due later, its work @ above the room @\n"

-- another job preempts it, with the test of that job's work
abbrev pub preempted_line : (fits : Bool) → Text
preempted_line fits = if fits
    then codes "at @ it is preempted by job @, which is due earlier, its work @ within the room @\n"
    else codes "at @ it is preempted by job @, which is due earlier, its work @ above the room @\n"

-- what a preemption means for job n
abbrev pub preempted : (n at stops starts work room : ℕ) → Text
preempted n at stops starts work room = if starts == n
    then filled (preempts_line (nat_le work room)) (at ∷ stops ∷ work ∷ room ∷ [])
    else (if stops == n then filled (preempted_line (nat_le work room)) (at ∷ starts ∷ work ∷ room ∷ []) else [])

-- where its work is within the room, a fresh job waits since it is due no earlier than the job that runs, or else is
-- less dense in a pressed state, if the version then chooses by density
abbrev pub waits_line : Version → (fits : Bool) → Text
waits_line version fits = if fits
    then (if by_density version true
    then codes "at @ it waits, due no earlier than the job that runs or less dense, its work @ within the room @\n"
    else codes "at @ it waits, due no earlier than the job that runs, its work @ within the room @\n")
    else codes "at @ it waits, its work @ above the room @\n"

-- what a release means for job n, which starts at once or else waits
abbrev pub arrived : Version → (n m at : ℕ) (starts : Bool) (work room : ℕ) → Text
arrived version n m at starts work room = if (m == n) && not starts
    then filled (waits_line version (nat_le work room)) (at ∷ work ∷ room ∷ []) else []

-- what a take means for job n of this value, which runs or is held where on is true
abbrev pub taken : Fraction → (n value : ℕ) → Bool → (at stops starts worth : ℕ) → Text
taken k n value on at stops starts worth = if starts == n then takes k value at stops worth
    else (if on then filled (codes "at @ it is displaced by job @\n") (at ∷ starts ∷ []) else [])

-- the work of a job
abbrev pub work_in : List JobFacts → ℕ → ℕ
work_in jobs n = option_map_or (λ j. j.work) (slice_get jobs n) 0

-- the work that counts at a step: that of the job that preempts, or of the one that completes
abbrev pub work_of : List JobFacts → Event → ℕ
work_of jobs (Preempt at stops starts) = work_in jobs starts
work_of jobs (Complete at n) = work_in jobs n
work_of jobs _ = 0

-- what a step means for it, which starts next or doesn't
abbrev pub told : Version → Fraction → (n value : ℕ) → (on starts : Bool) → Weighed → Event → Text
told version k n value on starts x (Release m job) = arrived version n m job.release starts job.work x.room
told version k n value on starts x (Run at m) = own (m == n) at (codes "at @ it runs\n")
told version k n value on starts x (Preempt at stops new) = preempted n at stops new x.work x.room
told version k n value on starts x (Take at stops new) = taken k n value on at stops new x.worth
told version k n value on starts x (Complete at m) = completed (m == n) at x.left x.work
told version k n value on starts x (Abandon at m) = gone k n value at m x.worth
told version k n value on starts x (End sum) = []

-- whether job n runs or is held after a step
abbrev pub on_after : ℕ → Bool → Event → Bool
on_after n on (Run at m) = on || m == n
on_after n on (Preempt at stops starts) = on || starts == n
on_after n on (Take at stops starts) = starts == n
on_after n on (Complete at m) = on && not (m == n)
on_after n on _ = on

-- whether the first of these steps starts job n
abbrev pub starts_first : ℕ → List Event → Bool
starts_first n [] = false
starts_first n (Run at m ∷ steps) = m == n
starts_first n (Preempt at stops starts ∷ steps) = starts == n
starts_first n (_ ∷ steps) = false

-- what is weighed at a step, by the ticks that the jobs have had at the end
abbrev pub weighed_at : List JobFacts → (served : List ℕ) → (worth room : ℕ) → Event → Weighed
weighed_at jobs served worth room e =
    record { worth = worth; work = work_of jobs e; room = room; left = left_at jobs served e }

-- what these steps mean for it, before each of which the jobs under way are worth so much and leave so much room
abbrev pub story_from : Version → Fraction → (n value : ℕ) → List JobFacts → (served : List ℕ) → Bool → List Event
    → (worths rooms : List ℕ) → Text
story_from version k n value jobs served on (e ∷ steps) (worth ∷ worths) (room ∷ rooms) =
    told version k n value on (starts_first n steps) (weighed_at jobs served worth room e) e
    ++ story_from version k n value jobs served (on_after n on e) steps worths rooms
story_from version k n value jobs served on _ _ _ = []

-- there is no such job
abbrev pub unknown : ℕ → ℕ → Text
unknown n count = filled (codes "no job @ among @\n") (n ∷ count ∷ [])

-- the text on job n, if there is one
abbrev pub answer : ℕ → Instance → Option JobFacts → Text
answer n J None = unknown n (length J.jobs)
answer n J (Some j) = asked n j ++ story_from J.rules.version J.rules.ratio n j.value J.jobs (served J) false
    (printed J) (weights J) (rooms J)

-- the whole text
abbrev pub why : ℕ → Instance → Text
why n J = answer n J (slice_get J.jobs n)
