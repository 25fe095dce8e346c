-- Snapshots as they are read, by computation.
use Rattle.std.proofs.Common.{◌≡◌, ℕ, List, refl, codes, Option, Some, None}
use Rattle.std.specs.Fmt.{digits}
use Rattle.dover_model.specs.Lines.{whole_lines}
use Rattle.dover_model.proofs.rows.Written.{bytes}
use Rattle.snapshot.specs.Snapshot.{snapshot}
use Rattle.snapshot.specs.Reading.{Reading, Begun, Going, Taken, Refused, reading_of}

-- 0 for a whole snapshot, the number of the first refused line, or none where lines are missing
abbrev outcome : Reading → Option ℕ
outcome Begun = None
outcome (Going h items tasks) = None
outcome (Taken h items tasks) = Some 0
outcome (Refused line) = Some line

-- the same of a text
abbrev answer : List ℕ → Option ℕ
answer text = outcome (reading_of (whole_lines (bytes text)))

running : answer (codes "snapshot 1 1 1 3 2 1/state 0 running 2 0 4 10 4/resume/") ≡ Some 0
unfolding digits
running = refl

fewer_ticks : answer (codes "snapshot 1 1 1 3 2 1/state 0 running 1 0 4 10 4/resume/") ≡ Some 3
unfolding digits
fewer_ticks = refl

other_role : answer (codes "snapshot 1 1 1 3 2 1/state 0 waiting 2 0 4 10 4/resume/") ≡ Some 3
unfolding digits
other_role = refl

fresh_role : answer (codes "snapshot 1 1 1 3 2 1/state 0 fresh 2 0 4 10 4/resume/") ≡ Some 2
unfolding digits
fresh_role = refl

other_number : answer (codes "snapshot 1 1 1 3 2 1/state 1 running 2 0 4 10 4/resume/") ≡ Some 2
unfolding digits
other_number = refl

late_release : answer (codes "snapshot 1 1 1 3 2 1/state 0 waiting 0 3 4 10 4/resume/") ≡ Some 2
unfolding digits
late_release = refl

no_such_job : answer (codes "snapshot 1 1 1 3 2 1/state 0 running 2 0 4 3 4/resume/") ≡ Some 2
unfolding digits
no_such_job = refl

no_job_expected : answer (codes "snapshot 1 1 1 3 2 0/state 0 running 2 0 4 10 4/resume/") ≡ Some 2
unfolding digits
no_job_expected = refl

too_few_lines : answer (codes "snapshot 1 1 1 1 2 1/state 0 running 2 0 4 10 4/resume/") ≡ Some 1
unfolding digits
too_few_lines = refl

-- no line is left that could have moved the mark
nothing_moved_the_mark : answer (codes "snapshot 1 1 1 2 2 1/state 0 running 2 0 4 10 4/resume/") ≡ Some 3
unfolding digits
nothing_moved_the_mark = refl

a_space_behind : answer (codes "snapshot 1 1 1 3 2 1/state 0 running 2 0 4 10 4/resume /") ≡ Some 3
unfolding digits
a_space_behind = refl

version_three : answer (codes "snapshot 3 1 1 1 0 0/resume/") ≡ Some 0
unfolding digits
version_three = refl

version_four : answer (codes "snapshot 4 1 1 1 0 0/resume/") ≡ Some 0
unfolding digits
version_four = refl

no_version_five : answer (codes "snapshot 5 1 1 1 0 0/resume/") ≡ Some 1
unfolding digits
no_version_five = refl

-- a job that is done with work left has the line of its finish
early : answer (codes "snapshot 3 1 1 3 1 1/state 0 done 1 0 4 10 4/done 1 0/resume/") ≡ Some 0
unfolding digits
early = refl

no_finish : answer (codes "snapshot 3 1 1 3 1 1/state 0 done 1 0 4 10 4/resume/") ≡ Some 3
unfolding digits
no_finish = refl

wrong_finish : answer (codes "snapshot 3 1 1 3 1 1/state 0 done 1 0 4 10 4/done 0 0/resume/") ≡ Some 3
unfolding digits
wrong_finish = refl

finish_behind_the_mark : answer (codes "snapshot 3 1 1 3 1 1/state 0 done 2 0 4 10 4/done 2 0/resume/") ≡ Some 3
unfolding digits
finish_behind_the_mark = refl

no_line_for_the_finish : answer (codes "snapshot 3 1 1 2 1 1/state 0 done 1 0 4 10 4/done 1 0/resume/") ≡ Some 4
unfolding digits
no_line_for_the_finish = refl

-- no line is left that could have moved the mark behind the finish
nothing_moved_the_mark_on : answer (codes "snapshot 3 1 1 3 2 1/state 0 done 1 0 4 10 4/done 1 0/resume/") ≡ Some 4
unfolding digits
nothing_moved_the_mark_on = refl

none_early_in_two : answer (codes "snapshot 2 1 1 3 1 1/state 0 done 1 0 4 10 4/done 1 0/resume/") ≡ Some 3
unfolding digits
none_early_in_two = refl

ratio_below_one : answer (codes "snapshot 2 1 2 1 0 0/resume/") ≡ Some 1
unfolding digits
ratio_below_one = refl

lines_are_missing : answer (codes "snapshot 1 1 1 3 2 1/state 0 running 2 0 4 10 4/") ≡ None
unfolding digits
lines_are_missing = refl

-- what is written of a feed is read, in every role
every_role : outcome (reading_of (whole_lines (snapshot (bytes
    (codes "k 1 1/job 0 2 2 2/job 2 10 30 10/job 3 2 6 2/job 3 9 14 9/job 3 8 11 8/tick 4/"))))) ≡ Some 0
unfolding digits
every_role = refl

refused_lines : outcome (reading_of (whole_lines (snapshot (bytes (codes "k 1 1 2/job 0 4 10 4/job 1 1 1 1/")))))
    ≡ Some 0
unfolding digits
refused_lines = refl

-- with a factor there are two numbers more, in version Three alone
with_factor : answer (codes "snapshot 3 1 1 1 0 0 3 2/resume/") ≡ Some 0
unfolding digits
with_factor = refl

factor_of_version_two : answer (codes "snapshot 2 1 1 1 0 0 3 2/resume/") ≡ Some 1
unfolding digits
factor_of_version_two = refl

factor_of_one : answer (codes "snapshot 3 1 1 1 0 0 3 3/resume/") ≡ Some 1
unfolding digits
factor_of_one = refl

half_a_factor : answer (codes "snapshot 3 1 1 1 0 0 3/resume/") ≡ Some 1
unfolding digits
half_a_factor = refl
