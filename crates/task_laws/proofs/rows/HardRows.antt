-- Worked rows: hard work above a run, a clock that stands still in it, and what tasks can ask for.
use Rattle.std.proofs.Common.{◌≡◌, [], ◌∷◌, List, refl}
use Rattle.dover_model.specs.Common.{Instance, finishing, jobs_under, fraction, with_factor, ran, idle}
use Rattle.dover_model.specs.declared.events.Version.TheVariants.{Three}
use Rattle.task_laws.specs.HardWork.{HardTask, HardJob, comes_of, hard_in, most_of, left_by_hard, stands_at, stretched}
use Rattle.task_laws.specs.Demand.{TaskFacts, demand}
use Rattle.dover_model.proofs.rows.Written.{job}

-- one tick of hard work each second tick
abbrev each_second : List (HardTask × List HardJob)
each_second = (
  record { distance = 2; work = 1 },
  record { release = 0; work = 1 } ∷ record { release = 2; work = 1 } ∷ record { release = 4; work = 1 } ∷ [],
) ∷ []

-- it has two of any three ticks at most
two_of_three : hard_in (comes_of each_second) 0 3 ≡ 2
two_of_three = refl

two_at_most : most_of each_second 3 ≡ 2
two_at_most = refl

-- a job that is preempted for a tick has all its ticks where hard work has them too: the interference of its budget
-- alone, one tick, is too little
abbrev stopped : Instance
stopped = finishing (jobs_under Three (with_factor (fraction 3 2) 2 1) (job 0 2 14 10 ∷ job 1 2 3 15 ∷ []))
    (record { number = 1; had = 1 } ∷ [])

its_ticks : ran stopped ≡ 0 ∷ 1 ∷ 0 ∷ []
its_ticks = refl

none_is_left : left_by_hard (comes_of each_second) (ran stopped) (0, job 0 2 14 10) ≡ 0
none_is_left = refl

-- a clock that stands still in hard ticks shows 2 at tick 4
it_shows_two : stands_at (comes_of each_second) 4 ≡ 2
it_shows_two = refl

-- so a schedule of two ticks by that clock takes four
four_ticks : stretched (comes_of each_second) 0 4 (0 ∷ 1 ∷ []) ≡ idle ∷ 0 ∷ idle ∷ 1 ∷ []
four_ticks = refl

-- two alarms that can't both be met: due after 10 and after 12 ticks, they ask for 15 in 12
abbrev two_alarms : List TaskFacts
two_alarms = record { distance = 150; work = 10; due = 10 } ∷ record { distance = 200; work = 5; due = 12 } ∷ []

fifteen_in_twelve : demand two_alarms 12 ≡ 15
fifteen_in_twelve = refl

ten_in_eleven : demand two_alarms 11 ≡ 10
ten_in_eleven = refl
