-- A run that falls apart at rest, turns, jobs moved in time and jobs in parts, by computation.
use Rattle.std.proofs.Common.{◌≡◌, ℕ, List, [], ◌∷◌, ◌++◌, map, refl, cond, ◌==◌}
use Rattle.dover_model.specs.Common.{Event, Release, Run, Preempt, Complete, End, JobFacts, printed, completed_value}
use Rattle.dover_model.specs.Common.{settled, end_tick, behind, before_end, Turn, turns_jobs, turns_finishes, anew}
use Rattle.dover_model.specs.Common.{one_run, turns_observed, printed_turns, completed_turns, printed_anew, part_of}
use Rattle.dover_model.proofs.rows.Written.{job, two}

-- one job, which is over at the tick 2
abbrev early : List JobFacts
early = job 0 2 2 2 ∷ []

-- two jobs that come then
abbrev late : List JobFacts
late = job 2 3 6 3 ∷ job 2 1 3 1 ∷ []

-- a turn without finishes
abbrev plain : List JobFacts → Turn
plain jobs = record { jobs = jobs; finishes = [] }

-- what they print, one list after the other
abbrev early_events : List Event
early_events = Release 0 (job 0 2 2 2) ∷ Run 0 0 ∷ Complete 2 0 ∷ []

abbrev late_events : List Event
late_events = Release 0 (job 2 3 6 3) ∷ Run 2 0 ∷ Release 1 (job 2 1 3 1) ∷ Preempt 2 0 1 ∷ Complete 3 1 ∷ Run 3 0
    ∷ Complete 6 0 ∷ []

-- and numbered behind the first job
abbrev all_events : List Event
all_events = Release 0 (job 0 2 2 2) ∷ Run 0 0 ∷ Complete 2 0 ∷ Release 1 (job 2 3 6 3) ∷ Run 2 1 ∷ Release 2
    (job 2 1 3 1) ∷ Preempt 2 1 2
    ∷ Complete 3 2 ∷ Run 3 1 ∷ Complete 6 1 ∷ End 6 ∷ []

ends_at : end_tick (two 1 1 early) ≡ 2
ends_at = refl

settled_at_rest : settled (two 1 1 early) 2 ≡ early_events
settled_at_rest = refl

settled_a_tick_before : settled (two 1 1 early) 1 ≡ Release 0 (job 0 2 2 2) ∷ Run 0 0 ∷ []
settled_a_tick_before = refl

early_prints : printed (two 1 1 early) ≡ early_events ++ (End 2 ∷ [])
early_prints = refl

late_prints : printed (two 1 1 late) ≡ late_events ++ (End 4 ∷ [])
late_prints = refl

before_its_end : before_end (printed (two 1 1 early)) ≡ early_events
before_its_end = refl

apart : printed (two 1 1 (early ++ late)) ≡ all_events
apart = refl

behind_one : early_events ++ map (behind 1 2) (late_events ++ (End 4 ∷ [])) ≡ all_events
behind_one = refl

-- both as turns without finishes
abbrev turns : List Turn
turns = plain early ∷ plain late ∷ []

in_turn_jobs : turns_jobs turns ≡ early ++ late
in_turn_jobs = refl

in_turn_prints : printed_turns (two 1 1 []).rules turns ≡ all_events
in_turn_prints = refl

in_turn_completes : completed_turns (two 1 1 []).rules turns ≡ 6
in_turn_completes = refl

-- a job that comes a tick before rest is printed among the others
not_at_rest : printed (two 1 1 (early ++ (job 1 1 3 1 ∷ []))) ≡ Release 0 (job 0 2 2 2) ∷ Run 0 0 ∷ Release 1
    (job 1 1 3 1) ∷ Complete 2 0 ∷ Run 2 1
    ∷ Complete 3 1 ∷ End 3 ∷ []
not_at_rest = refl

-- lists that count from the tick 0 of their own, the second from the tick 2 of the first on
abbrev timed : List (ℕ × Turn)
timed = (2, plain early) ∷ (6, plain (job 0 3 4 3 ∷ job 0 1 1 1 ∷ [])) ∷ []

moved : anew timed ≡ plain (early ++ late)
moved = refl

moved_prints : printed_anew (two 1 1 []).rules timed ≡ all_events
moved_prints = refl

-- the jobs but the one of number 1
the_others : part_of (λ n. cond (n == 1) 1 0) 0 (early ++ late) ≡ job 0 2 2 2 ∷ job 2 1 3 1 ∷ []
the_others = refl

the_others_complete : completed_value (two 1 1 (part_of (λ n. cond (n == 1) 1 0) 0 (early ++ late))) ≡ 3
the_others_complete = refl

-- ---- turns whose jobs finish early

-- in each of them the first job is done once it has had one tick
abbrev hasty : List Turn
hasty = record { jobs = early; finishes = record { number = 0; had = 1 } ∷ [] }
    ∷ record { jobs = late; finishes = record { number = 0; had = 1 } ∷ [] } ∷ []

hasty_finishes : turns_finishes hasty ≡ record { number = 0; had = 1 } ∷ record { number = 1; had = 1 } ∷ []
hasty_finishes = refl

abbrev hasty_events : List Event
hasty_events = Release 0 (job 0 2 2 2) ∷ Run 0 0 ∷ Complete 1 0
    ∷ Release 1 (job 2 3 6 3) ∷ Run 2 1 ∷ Release 2 (job 2 1 3 1) ∷ Preempt 2 1 2 ∷ Complete 3 2 ∷ Run 3 1
    ∷ Complete 4 1 ∷ End 6 ∷ []

hasty_run : printed (one_run (two 1 1 []).rules hasty) ≡ hasty_events
hasty_run = refl

hasty_in_turn : printed_turns (two 1 1 []).rules hasty ≡ hasty_events
hasty_in_turn = refl

hasty_observed : turns_observed (two 1 1 []).rules hasty ≡ job 0 1 2 2 ∷ job 2 1 6 3 ∷ job 2 1 3 1 ∷ []
hasty_observed = refl

-- the same in times of their own
hasty_anew : printed_anew (two 1 1 []).rules ((
  2,
  record {
    jobs = early;
    finishes = record { number = 0; had = 1 } ∷ [];
  },
) ∷ (
  6,
  record {
    jobs = job 0 3 4 3 ∷ job 0 1 1 1 ∷ [];
    finishes = record { number = 0; had = 1 } ∷ [];
  },
) ∷ []) ≡ hasty_events
hasty_anew = refl
