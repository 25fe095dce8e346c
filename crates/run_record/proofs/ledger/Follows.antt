-- What is kept follows a state of the run.
use Rattle.std.proofs.Common.{◌≡◌, ◌≤◌, ℕ, List, length, Option, Some, None, slice_index_or}
use Rattle.dover_model.specs.declared.events.Entry.{Entry}
use Rattle.dover_model.specs.declared.events.Event.{Event}
use Rattle.dover_model.specs.declared.events.Event.TheVariants.{Complete, Abandon}
use Rattle.dover_model.specs.Intervals.{value_of}
use Rattle.dover_model.specs.declared.events.Role.TheVariants.{Running}
use Rattle.dover_model.specs.declared.events.Task.{Task}
use Rattle.dover_model.specs.Common.{entry_of, IsMember, Each, NoneRuns, State, Move, Prints, after}
use Rattle.held_stack.specs.Stack.{IsByDeadline, held_entries}
use Rattle.run_record.specs.ledger.Pages.{Page, nobody, turn_at, with_event, room_on, value_on, IsReadable}
use Rattle.run_record.specs.ledger.Rooms.{room_before}

-- the job that runs is this one
abbrev pub IsTurn : List Task → Option Entry → Type 0
IsTurn tasks None = NoneRuns tasks
IsTurn tasks (Some e) = (r : Task) × IsMember r tasks × (r.role ≡ Running) × (e ≡ entry_of r)

-- the jobs that don't run are as they stand here
abbrev pub AreStored : List Entry → List Task → Type 0
AreStored entries tasks = Each
    (λ t. (t.role ≡ Running → ⊥) → slice_index_or entries t.number nobody ≡ entry_of t) tasks

-- the page has the jobs of the state
pub record Follows (s : State) (p : Page) : Type 0 where
  pub since : p.since ≤ s.clock
  pub turn : IsTurn s.tasks (turn_at p s.clock)
  pub stored : AreStored p.entries s.tasks
  pub count : length s.tasks ≤ length p.entries
  pub order : IsByDeadline p.held.held
  pub held : p.held.held ≡ held_entries s.tasks

-- the page after a step
abbrev pub page_after : Page → Move → Page
page_after p (Prints e) = with_event p e
page_after p _ = p

-- the value of the job that a step completes or abandons
abbrev pub value_before : State → Event → ℕ
value_before s (Complete at n) = value_of s n
value_before s (Abandon at n) = value_of s n
value_before s _ = 0

-- the step can come next, and its room and its value are those of the state
abbrev pub CanFollow : State → Page → Move → Type 0
CanFollow s p (Prints e) = IsReadable p e × (room_on p e ≡ room_before s e) × (value_on p e ≡ value_before s e)
CanFollow s p _ = Unit {0}

-- the page follows a step
pub record Next (s : State) (p : Page) (m : Move) : Type 0 where
  pub can : CanFollow s p m
  pub follows : Follows (after s m) (page_after p m)
