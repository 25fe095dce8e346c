-- Worked rows: how often the processor changes hands, and what that costs.
use Rattle.std.proofs.Common.{◌≡◌, ℕ, [], ◌∷◌, refl, false, count_by}
use Rattle.dover_model.specs.Common.{Finish, Instance, finishing, printed}
use Rattle.dover_model.specs.declared.events.Event.TheVariants.{Release, Run, Preempt, Take, Complete, End}
use Rattle.dover_model.specs.Common.{run, ran, completed_value, numbered, gets, changes_hands}
use Rattle.task_laws.specs.Switches.{most_changes, useful}
use Rattle.task_laws.specs.Forward.{gains_from}
use Rattle.task_laws.specs.Slower.{worth_by}
use Rattle.dover_model.proofs.rows.Written.{job, one}

-- a finish
abbrev finish : ℕ → ℕ → Finish
finish n had = record { number = n; had = had }

-- a job that is preempted by one job, and stopped by a take of another, which is done early
abbrev both_ways : Instance
both_ways = finishing (one 1 1 (job 0 10 40 10 ∷ job 2 2 10 2 ∷ job 6 40 46 40 ∷ [])) (finish 2 2 ∷ [])

it_is_stopped_twice : printed both_ways ≡ Release 0 (job 0 10 40 10) ∷ Run 0 0 ∷ Release 1 (job 2 2 10 2)
    ∷ Preempt 2 0 1 ∷ Complete 4 1 ∷ Run 4 0 ∷ Release 2 (job 6 40 46 40) ∷ Take 6 0 2 ∷ Complete 8 2 ∷ Run 8 0
    ∷ Complete 14 0 ∷ End 52 ∷ []
it_is_stopped_twice = refl

-- it gets the processor three times, which is the most that the law lets it
it_gets_it_three_times : count_by (λ x. gets 0 x.move) (run both_ways) ≡ 3
it_gets_it_three_times = refl

as_many_as_it_may : most_changes both_ways.rules.ratio (numbered both_ways) (job 0 10 40 10) ≡ 3
as_many_as_it_may = refl

-- so of its ten ticks seven are left where a change costs one, and four where it costs two
seven_are_left : useful 1 (ran both_ways) (0, job 0 10 40 10) ≡ 7
seven_are_left = refl

four_are_left : useful 2 (ran both_ways) (0, job 0 10 40 10) ≡ 4
four_are_left = refl

-- where jobs are done early, the processor may change hands six times for three jobs
abbrev often : Instance
often = finishing (one 10 1 (job 0 15 18 150 ∷ job 3 1 13 16 ∷ job 3 9 12 784 ∷ []))
    (finish 0 7 ∷ finish 2 3 ∷ [])

six_changes : count_by (λ x. changes_hands x.move) (run often) ≡ 6
six_changes = refl

-- two jobs that fit as long as switches cost nothing: with a tick for each, one is lost
abbrev lost_to_switches : Instance
lost_to_switches = one 1 1 (job 0 3 5 3 ∷ job 0 3 5 3 ∷ [])

one_is_done : completed_value lost_to_switches ≡ 3
one_is_done = refl

both_would_fit : worth_by (λ n. 2) lost_to_switches (0 ∷ 0 ∷ 1 ∷ 1 ∷ []) ≡ 6
both_would_fit = refl

-- where the one that is done loads the one behind it, the job that is stopped twice gets on in eight of its ten ticks
eight_are_left : gains_from 0 false (run both_ways) ≡ 8
eight_are_left = refl
