-- A run that falls apart at a moment of rest.
use Rattle.std.specs.Prelude.{◌≡◌, ◌≤◌, ◌<◌, ℕ, ◌+◌, List, [], ◌∷◌, ◌++◌, map, length, Bool, true, false, not}
use Rattle.std.specs.List.{filter, sum_by, fold}
use Rattle.dover_model.specs.declared.events.Event.{Event}
use Rattle.dover_model.specs.declared.events.Event.TheVariants.{Release, Run, Preempt, Take, Complete, Abandon, End}
use Rattle.dover_model.specs.JobFacts.{JobFacts}
use Rattle.dover_model.specs.Finishes.{Finish}
use Rattle.dover_model.specs.Instance.{Rules, Instance, IsValid, having}
use Rattle.dover_model.specs.State.{is_over}
use Rattle.dover_model.specs.Sound.{Each}
use Rattle.dover_model.specs.Run.{run, printed, completed_value}
use Rattle.dover_model.specs.Settled.{settled_state}
use Rattle.dover_model.specs.Observed.{observed}

-- each finish is of a job of the instance
abbrev pub AreOwn : Instance → Type 0
AreOwn J = Each (λ f. f.number < length J.jobs) J.rules.finishes

-- the finish of a job that is numbered behind n others
abbrev pub behind_finish : ℕ → Finish → Finish
behind_finish n f = record { number = n + f.number; had = f.had }

-- other jobs with their finishes
abbrev pub instead_with : Instance → List JobFacts → List Finish → Instance
instead_with J more finishes = record { rules = having J.rules finishes; jobs = more }

-- the instance with these jobs and their finishes behind its own
abbrev pub followed_by : Instance → List JobFacts → List Finish → Instance
followed_by J more finishes = record {
  rules = having J.rules (J.rules.finishes ++ map (behind_finish (length J.jobs)) finishes);
  jobs = J.jobs ++ more;
}

-- no job is released before the tick
abbrev pub NoneBefore : ℕ → List JobFacts → Type 0
NoneBefore tick jobs = Each (λ j. tick ≤ j.release) jobs

-- at the barrier of the mark, all jobs are over
abbrev pub IsAtRest : Instance → ℕ → Type 0
IsAtRest J mark = Each (λ t. is_over t ≡ true) (settled_state J mark).tasks

-- the tick at which the run ends
abbrev pub end_tick : Instance → ℕ
end_tick J = fold (λ clock step. step.before.clock) 0 (run J)

-- what is printed of jobs that are numbered behind n others, which came to this value
abbrev pub behind : ℕ → ℕ → Event → Event
behind n value (Release m job) = Release (n + m) job
behind n value (Run at m) = Run at (n + m)
behind n value (Preempt at stops starts) = Preempt at (n + stops) (n + starts)
behind n value (Take at stops starts) = Take at (n + stops) (n + starts)
behind n value (Complete at m) = Complete at (n + m)
behind n value (Abandon at m) = Abandon at (n + m)
behind n value (End more) = End (value + more)

-- the event is End
abbrev pub names_end : Event → Bool
names_end (End value) = true
names_end _ = false

-- what is printed before End
abbrev pub before_end : List Event → List Event
before_end events = filter (λ e. not (names_end e)) events

-- ---- lists of jobs in turn, with their finishes

-- a list of jobs with its finishes
pub record Turn : Type 0 where
  pub jobs : List JobFacts
  pub finishes : List Finish

-- the instance of a turn
abbrev pub turn_under : Rules → Turn → Instance
turn_under rules turn = record { rules = having rules turn.finishes; jobs = turn.jobs }

-- the jobs that each turn has, one after another
abbrev pub in_turns : (Turn → List JobFacts) → List Turn → List JobFacts
in_turns of [] = []
in_turns of (turn ∷ turns) = of turn ++ in_turns of turns

-- all their jobs
abbrev pub turns_jobs : List Turn → List JobFacts
turns_jobs turns = in_turns (λ turn. turn.jobs) turns

-- all their jobs, as each turn's run observes them
abbrev pub turns_observed : Rules → List Turn → List JobFacts
turns_observed rules turns = in_turns (λ turn. (observed (turn_under rules turn)).jobs) turns

-- all their finishes, each turn's numbered behind the jobs of those before
abbrev pub turns_finishes : List Turn → List Finish
turns_finishes [] = []
turns_finishes (turn ∷ turns) =
    turn.finishes ++ map (behind_finish (length turn.jobs)) (turns_finishes turns)

-- all turns as one run
abbrev pub one_run : Rules → List Turn → Instance
one_run rules turns = record { rules = having rules (turns_finishes turns); jobs = turns_jobs turns }

-- the turn is valid by itself, its finishes are of its own jobs, and these come from the tick on
abbrev pub IsTurn : Rules → ℕ → Turn → Type 0
IsTurn rules from turn = IsValid (turn_under rules turn) × AreOwn (turn_under rules turn) × NoneBefore from turn.jobs

-- the first turn comes from the tick on and is at rest at some tick, and all others come from that one on, up to the
-- last
abbrev pub TurnsEnd : Rules → ℕ → List Turn → (last : ℕ) → Type 0
TurnsEnd rules from [] last = from ≤ last
TurnsEnd rules from (turn ∷ turns) last = IsTurn rules from turn
    × ((rest : ℕ) × (from ≤ rest) × IsAtRest (turn_under rules turn) rest × TurnsEnd rules rest turns last)

-- what their runs print, each one's jobs numbered behind those before, and at the end the value of all
abbrev pub printed_turns : Rules → List Turn → List Event
printed_turns rules [] = End 0 ∷ []
printed_turns rules (turn ∷ turns) = before_end (printed (turn_under rules turn))
    ++ map (behind (length turn.jobs) (completed_value (turn_under rules turn))) (printed_turns rules turns)

-- the sum of what their runs complete
abbrev pub completed_turns : Rules → List Turn → ℕ
completed_turns rules turns = sum_by (λ turn. completed_value (turn_under rules turn)) turns

-- ---- jobs moved in time

-- the job c ticks later
abbrev pub later_job : ℕ → JobFacts → JobFacts
later_job c j = record { release = j.release + c; work = j.work; deadline = j.deadline + c; value = j.value }

-- the event c ticks later
abbrev pub later_event : ℕ → Event → Event
later_event c (Release n job) = Release n (later_job c job)
later_event c (Run at n) = Run (at + c) n
later_event c (Preempt at stops starts) = Preempt (at + c) stops starts
later_event c (Take at stops starts) = Take (at + c) stops starts
later_event c (Complete at n) = Complete (at + c) n
later_event c (Abandon at n) = Abandon (at + c) n
later_event c (End value) = End value

-- Turns, each with a tick at which it is at rest, each by itself and in a time of its own from the tick 0 on.
abbrev pub AreAnew : Rules → List (ℕ × Turn) → Type 0
AreAnew rules [] = Unit {0}
AreAnew rules (t_turn ∷ turns) = IsTurn rules 0 t_turn.1 × IsAtRest (turn_under rules t_turn.1) t_turn.0
    × AreAnew rules turns

-- all of them in one time, in which each turn begins at the tick at which the one before it is at rest
abbrev pub anew : List (ℕ × Turn) → Turn
anew [] = record { jobs = []; finishes = [] }
anew (t_turn ∷ turns) = record {
  jobs = t_turn.1.jobs ++ map (later_job t_turn.0) (anew turns).jobs;
  finishes = t_turn.1.finishes ++ map (behind_finish (length t_turn.1.jobs)) (anew turns).finishes;
}

-- what their runs print in that time, each one's jobs numbered behind those before, and at the end the value of all
abbrev pub printed_anew : Rules → List (ℕ × Turn) → List Event
printed_anew rules [] = End 0 ∷ []
printed_anew rules (t_turn ∷ turns) = before_end (printed (turn_under rules t_turn.1))
    ++ map (behind (length t_turn.1.jobs) (completed_value (turn_under rules t_turn.1)))
    (map (later_event t_turn.0) (printed_anew rules turns))

-- the sum of what their runs complete
abbrev pub completed_anew : Rules → List (ℕ × Turn) → ℕ
completed_anew rules turns = completed_turns rules (map (λ t_turn. t_turn.1) turns)
