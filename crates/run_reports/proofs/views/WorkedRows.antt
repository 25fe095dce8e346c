-- Reports for a terminal and on one job, by computation.
use Rattle.std.proofs.Common.{◌≡◌, [], ◌∷◌, ◌++◌, refl, codes, Some, None}
use Rattle.std.specs.Fmt.{digits}
use Rattle.dover_model.specs.Instance.{Instance}
use Rattle.dover_model.specs.Common.{fraction}
use Rattle.dover_model.specs.declared.events.Version.{Version}
use Rattle.dover_model.specs.declared.events.Version.TheVariants.{Three, Four}
use Rattle.dover_model.proofs.rows.Written.{job, one}
use Rattle.run_reports.proofs.report.WorkedRows.{finish, finishing, held_and_early, anomaly, took_and_early}
use Rattle.run_reports.proofs.report.WorkedRows.{with_a_factor}
use Rattle.run_reports.specs.views.Templates.{filled}
use Rattle.run_reports.specs.views.Why.{why, tested, greatest_ratio}
use Rattle.run_reports.specs.views.Timeline.{grouped_timeline, timeline}

-- a take over a running and a held job
abbrev take_over : Instance
take_over = one 1 1 (job 0 3 30 3 ∷ job 0 2 4 2 ∷ job 0 12 12 12 ∷ [])

displaced_job : why 0 take_over ≡
    codes "job 0: release 0, work 3, deadline 30, value 3\n"
    ++ codes "at 0 it runs\n"
    ++ codes "at 0 it is preempted by job 1, which is due earlier, its work 2 within the room 27\n"
    ++ codes "at 0 it is displaced by job 2\n"
    ++ codes "at 12 it runs\n"
    ++ codes "at 15 it is completed\n"
unfolding digits filled
displaced_job = refl

abandoned_job : why 1 take_over ≡
    codes "job 1: release 0, work 2, deadline 4, value 2\n"
    ++ codes "at 0 it preempts job 0, which is due later, its work 2 within the room 27\n"
    ++ codes "at 0 it is displaced by job 2\n"
    ++ codes "at 2 it is abandoned, its value 2 against 12 under way: 1 * 0^2 = 0 not above 1 * 12^2 = 144; heavy from 25 on, with this value for no k\n"
unfolding digits filled tested greatest_ratio
abandoned_job = refl

-- what it exceeds the other by is 3, whose square is above twice that of 2, and not above three times it
light_for_its_ratio : why 1 (one 3 1 (job 0 2 2 2 ∷ job 0 2 2 5 ∷ [])) ≡
    codes "job 1: release 0, work 2, deadline 2, value 5\n"
    ++ codes "at 0 it waits, its work 2 above the room 0\n"
    ++ codes "at 0 it is abandoned, its value 5 against 2 under way: 1 * 3^2 = 9 not above 3 * 2^2 = 12; heavy from 6 on, with this value for k up to 2/1\n"
unfolding digits filled tested greatest_ratio
light_for_its_ratio = refl

-- where a factor is declared, the test is by it, and no ratio plays a part
light_by_its_factor : why 1 with_a_factor ≡
    codes "job 1: release 0, work 5, deadline 5, value 5\n"
    ++ codes "at 0 it waits, its work 5 above the room 0\n"
    ++ codes "at 0 it is abandoned, its value 5 against 2 under way: 2 * 5 = 10 not above 5 * 2 = 10; heavy from 6 on\n"
unfolding digits filled tested
light_by_its_factor = refl

takes_job : why 2 take_over ≡
    codes "job 2: release 0, work 12, deadline 12, value 12\n"
    ++ codes "at 0 it waits, its work 12 above the room 2\n"
    ++ codes "at 0 it takes the processor from job 1, its value 12 against 5 under way: 1 * 7^2 = 49 above 1 * 5^2 = 25; heavy from 11 on\n"
    ++ codes "at 12 it is completed\n"
unfolding digits filled tested
takes_job = refl

-- a job that is due no earlier waits, whatever room there is
waits_behind : why 1 (one 1 1 (job 0 3 10 3 ∷ job 1 2 12 2 ∷ [])) ≡
    codes "job 1: release 1, work 2, deadline 12, value 2\n"
    ++ codes "at 1 it waits, due no earlier than the job that runs, its work 2 within the room 7\n"
    ++ codes "at 3 it runs\n"
    ++ codes "at 5 it is completed\n"
unfolding digits filled
waits_behind = refl

-- in version Four a job that is due earlier waits too, where it is less dense once a job was abandoned
abbrev pressed : Version → Instance
pressed version = record {
  rules = record { ratio = fraction 10 1; version = version; finishes = [] };
  jobs = job 3 2 8 18 ∷ job 3 2 8 16 ∷ job 3 4 7 8 ∷ job 4 3 7 12 ∷ [];
}

waits_less_dense : why 3 (pressed Four) ≡
    codes "job 3: release 4, work 3, deadline 7, value 12\n"
    ++ codes "at 4 it waits, due no earlier than the job that runs or less dense, its work 3 within the room 3\n"
    ++ codes "at 4 it is abandoned, its value 12 against 18 under way: 1 * 0^2 = 0 not above 10 * 18^2 = 3240; heavy from 75 on, with this value for no k\n"
unfolding digits filled tested greatest_ratio
waits_less_dense = refl

-- and one that is due no earlier, whose line is the same
waits_behind_in_four : why 1 (pressed Four) ≡
    codes "job 1: release 3, work 2, deadline 8, value 16\n"
    ++ codes "at 3 it waits, due no earlier than the job that runs or less dense, its work 2 within the room 3\n"
    ++ codes "at 5 it runs\n"
    ++ codes "at 7 it is completed\n"
unfolding digits filled
waits_behind_in_four = refl

-- in version Three it preempts
preempts_in_three : why 3 (pressed Three) ≡
    codes "job 3: release 4, work 3, deadline 7, value 12\n"
    ++ codes "at 4 it preempts job 0, which is due later, its work 3 within the room 3\n"
    ++ codes "at 7 it is completed\n"
unfolding digits filled
preempts_in_three = refl

greatest_number : why 4_294_967_295 take_over ≡
    codes "no job 4294967295 among 3\n"
unfolding digits filled
greatest_number = refl

unknown_job : why 3 take_over ≡
    codes "no job 3 among 3\n"
unfolding digits filled
unknown_job = refl

-- the whole run
drawn_run : timeline None take_over ≡
    codes "jobs 3, completed 2 15, abandoned 1 2, taken 1, bound 60\n"
    ++ codes "       ticks of a column: 1\n"
    ++ codes "       0                   20\n"
    ++ codes "     0 ------------###............... 3\n"
    ++ codes "     1 --X. -2\n"
    ++ codes "     2 !########### 12\n"
unfolding digits filled
drawn_run = refl

-- the jobs in groups, of which the last has none
drawn_groups : grouped_timeline None (0 ∷ 1 ∷ 0 ∷ []) (codes "first" ∷ codes "second" ∷ codes "third" ∷ []) take_over ≡
    codes "jobs 3, completed 2 15, abandoned 1 2, taken 1, bound 60\n"
    ++ codes "       ticks of a column: 1\n"
    ++ codes "       0                   20\n"
    ++ codes "first\n"
    ++ codes "     0 ------------###............... 3\n"
    ++ codes "     2 !########### 12\n"
    ++ codes "second\n"
    ++ codes "     1 --X. -2\n"
    ++ codes "third\n"
unfolding digits filled
drawn_groups = refl

-- in a window, of which a column has many ticks
drawn_window : timeline (Some (record { from = 5; until = 1_000 })) take_over ≡
    codes "jobs 3, completed 2 15, abandoned 1 2, taken 1, bound 60\n"
    ++ codes "       ticks of a column: 17\n"
    ++ codes "       5                   345                 685\n"
    ++ codes "     0 #. 3\n"
    ++ codes "     2 # 12\n"
unfolding digits filled
drawn_window = refl

-- the last column ends with its window, here behind tick 60: that job 1 runs at tick 61 isn't shown
abbrev late : Instance
late = one 1 1 (job 0 61 61 61 ∷ job 0 2 300 2 ∷ [])

drawn_last : timeline (Some (record { from = 0; until = 61 })) late ≡
    codes "jobs 2, completed 2 63, abandoned 0 0, taken 0, bound 252\n"
    ++ codes "       ticks of a column: 2\n"
    ++ codes "       0                   40\n"
    ++ codes "     0 ############################### 61\n"
    ++ codes "     1 ............................... 2\n"
unfolding digits filled
drawn_last = refl

-- no job has a tick there
drawn_nothing : timeline (Some (record { from = 40; until = 50 })) take_over ≡
    codes "jobs 3, completed 2 15, abandoned 1 2, taken 1, bound 60\n"
    ++ codes "       ticks of a column: 1\n"
    ++ codes "       40\n"
unfolding digits filled
drawn_nothing = refl

-- a window of all ticks that a number may name
drawn_wide : timeline (Some (record { from = 0; until = 18_446_744_073_709_551_615 })) take_over ≡
    codes "jobs 3, completed 2 15, abandoned 1 2, taken 1, bound 60\n"
    ++ codes "       ticks of a column: 307445734561825861\n"
    ++ codes "       0                   6148914691236517220 12297829382473034440\n"
    ++ codes "     0 # 3\n"
    ++ codes "     1 X -2\n"
    ++ codes "     2 ! 12\n"
unfolding digits filled
drawn_wide = refl

-- windows of no tick
drawn_empty : timeline (Some (record { from = 5; until = 5 })) take_over ≡
    codes "jobs 3, completed 2 15, abandoned 1 2, taken 1, bound 60\n"
    ++ codes "       ticks of a column: 1\n"
    ++ codes "       5\n"
unfolding digits filled
drawn_empty = refl

drawn_turned : timeline (Some (record { from = 9; until = 3 })) take_over ≡
    codes "jobs 3, completed 2 15, abandoned 1 2, taken 1, bound 60\n"
    ++ codes "       ticks of a column: 1\n"
    ++ codes "       9\n"
unfolding digits filled
drawn_turned = refl

-- ---- jobs that finish early

-- a held job, of which work is left
held_job : why 0 held_and_early ≡
    codes "job 0: release 0, work 4, deadline 10, value 4\n"
    ++ codes "at 0 it runs\n"
    ++ codes "at 1 it is preempted by job 1, which is due earlier, its work 2 within the room 6\n"
    ++ codes "at 2 it runs\n"
    ++ codes "at 4 it is completed, with 1 of its 4 ticks left\n"
unfolding digits filled
held_job = refl

-- its displacer
early_job : why 1 held_and_early ≡
    codes "job 1: release 1, work 2, deadline 5, value 2\n"
    ++ codes "at 1 it preempts job 0, which is due later, its work 2 within the room 6\n"
    ++ codes "at 2 it is completed, with 1 of its 2 ticks left\n"
unfolding digits filled
early_job = refl

-- a job that took the processor
took_job : why 2 took_and_early ≡
    codes "job 2: release 0, work 12, deadline 12, value 12\n"
    ++ codes "at 0 it waits, its work 12 above the room 2\n"
    ++ codes "at 0 it takes the processor from job 1, its value 12 against 5 under way: 1 * 7^2 = 49 above 1 * 5^2 = 25; heavy from 11 on\n"
    ++ codes "at 1 it is completed, with 11 of its 12 ticks left\n"
unfolding digits filled tested
took_job = refl

-- what an early completion leaves is no work under way: the held job alone counts in the room
room_behind : why 2 (finishing (finish 1 2 ∷ []) (job 0 6 20 6 ∷ job 1 4 9 4 ∷ job 4 2 8 2 ∷ [])) ≡
    codes "job 2: release 4, work 2, deadline 8, value 2\n"
    ++ codes "at 4 it preempts job 0, which is due later, its work 2 within the room 12\n"
    ++ codes "at 6 it is completed\n"
unfolding digits filled
room_behind = refl

-- nor does it count in what a job at its latest start is weighed against
weighed_behind : why 2 anomaly ≡
    codes "job 2: release 0, work 3, deadline 5, value 3\n"
    ++ codes "at 0 it waits, its work 3 above the room 0\n"
    ++ codes "at 2 it is abandoned, its value 3 against 2 under way: 1 * 1^2 = 1 not above 1 * 2^2 = 4; heavy from 5 on, with this value for no k\n"
unfolding digits filled tested greatest_ratio
weighed_behind = refl

-- the pieces of a job end where it did, and nothing new is drawn
drawn_early : timeline None held_and_early ≡
    codes "jobs 2, completed 2 6, abandoned 0 0, taken 0, bound 24\n"
    ++ codes "       ticks of a column: 1\n"
    ++ codes "       0\n"
    ++ codes "     0 #-##...... 4\n"
    ++ codes "     1  #... 2\n"
unfolding digits filled
drawn_early = refl

drawn_taken_early : timeline None took_and_early ≡
    codes "jobs 3, completed 3 17, abandoned 0 0, taken 1, bound 68\n"
    ++ codes "       ticks of a column: 1\n"
    ++ codes "       0                   20\n"
    ++ codes "     0 ---###........................ 3\n"
    ++ codes "     1 -##. 2\n"
    ++ codes "     2 !........... 12\n"
unfolding digits filled
drawn_taken_early = refl
