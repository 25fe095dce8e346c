-- Runs on several processors: the steps of the machine from the opening state on.
use Rattle.std.specs.Prelude.{◌≡◌, ℕ, zero, suc, ◌+◌, ◌*◌, List, [], ◌∷◌, length, Bool, true, false, Option, Some, None}
use Rattle.std.specs.Prelude.{map}
use Rattle.std.specs.Prelude.{filter, filter_map, fold}
use Rattle.std.specs.List.{list_any}
use Rattle.dover_model.specs.declared.events.Event.{Event}
use Rattle.dover_model.specs.declared.events.Event.TheVariants.{End}
use Rattle.dover_model.specs.JobFacts.{JobFacts}
use Rattle.dover_model.specs.Instance.{Instance, last_deadline, Rules}
use Rattle.dover_model.specs.Run.{value_of_end}
use Rattle.dover_model.specs.State.{is_running}
use Rattle.many_processors.specs.State.{State, opening, tasks_of}
use Rattle.many_processors.specs.Step.{Move, Prints, Waits, Ticks, step, after}

-- a step, with the state that it is taken from
pub record Step : Type 0 where
  pub before : State
  pub move : Move

-- the step is End
abbrev pub is_end : Move → Bool
is_end (Prints q (End value)) = true
is_end _ = false

-- The steps from s to End on so many processors, of which there are at most so many.
abbrev pub run_from : ℕ → Rules → ℕ → State → List Step
run_from processors rules zero s = []
run_from processors rules (suc more) s =
    let m = step processors rules s in
    record { before = s; move = m }
    ∷ elim (is_end m) [ true ↦ [] | false ↦ run_from processors rules more (after s m) ]

-- more steps than a run of these jobs has: a tick each up to the last deadline, and five for each job, and End
abbrev pub enough : List JobFacts → ℕ
enough jobs = last_deadline jobs + 5 * length jobs + 1

-- the steps from the opening state to End
abbrev pub run : ℕ → Instance → List Step
run processors J = run_from processors J.rules (enough J.jobs) (opening J.jobs)

-- some step is End
abbrev pub HasEnd : List Step → Type 0
HasEnd steps = list_any (λ step. is_end step.move) steps ≡ true

-- the event of a printed step
abbrev pub event_of : Move → Option Event
event_of (Prints q e) = Some e
event_of (Waits n) = None
event_of Ticks = None

-- the printed steps of a run
abbrev pub printed : ℕ → Instance → List Event
printed processors J = filter_map (λ step. event_of step.move) (run processors J)

-- the same with their processors
abbrev pub placed_event_of : Move → Option (ℕ × Event)
placed_event_of (Prints q e) = Some (q, e)
placed_event_of (Waits n) = None
placed_event_of Ticks = None

abbrev pub printed_on : ℕ → Instance → List (ℕ × Event)
printed_on processors J = filter_map (λ step. placed_event_of step.move) (run processors J)

-- what a run is worth: the value that its End names
abbrev pub completed_value : ℕ → Instance → ℕ
completed_value processors J = fold (λ value e. value_of_end e value) 0 (printed processors J)

-- the numbers of the jobs that run
abbrev pub numbers_running : State → List ℕ
numbers_running s = map (λ t. t.number) (filter is_running (tasks_of s.jobs))

-- what a silent tick is given to
abbrev pub tick_of : Step → Option (List ℕ)
tick_of step = elim step.move
    [ Prints q e ↦ None | Waits n ↦ None | Ticks ↦ Some (numbers_running step.before) ]

-- the schedule that the run amounts to
abbrev pub ran : ℕ → Instance → List (List ℕ)
ran processors J = filter_map tick_of (run processors J)
