-- The jobs that are ready, by their roles.
use Rattle.std.specs.Prelude.{◌≡◌, ◌≤◌, ◌<◌, ◌+◌, ◌^◌, ℕ, Bool, List, [], ◌∷◌, ◌++◌, length, map, Option, Some, None}
use Rattle.std.specs.Option.{option_to_list}
use Rattle.dover_model.specs.declared.events.Version.{Version}
use Rattle.dover_model.specs.declared.events.Task.{Task}
use Rattle.dover_model.specs.declared.events.Role.{Role}
use Rattle.dover_model.specs.declared.events.Role.TheVariants.{Fresh, Waiting, Held, Running}
use Rattle.dover_model.specs.Common.{most_ready, entry_of, State, latest_start, value_sum, Each}
use Rattle.dover_model.specs.Common.{waiting_order, by_density}
use Rattle.held_stack.specs.Kept.{Lasting, AreRoomsOf}
use Rattle.waiting_pool.specs.Pools.{Pooled, HaveOwnNumbers, AreModest}
use Rattle.waiting_pool.specs.Short.{no_number}

-- the version of the rules, the clock, whether the state is pressed, the running and the fresh job, the held jobs, the
-- one due first before the others, those that wait, and how many ready jobs there is room for
pub record Parted : Type 0 where
  pub version : Version
  pub clock : ℕ
  pub pressed : Bool
  pub running : Option Task
  pub fresh : Option Task
  pub held : List Task
  pub waiting : List Task
  pub room : ℕ

-- the ready jobs
abbrev pub ready_of : Parted → List Task
ready_of p = option_to_list p.running ++ (option_to_list p.fresh ++ (p.held ++ p.waiting))

-- as a state
abbrev pub state_of : Parted → State
state_of p = record { clock = p.clock; tasks = ready_of p; pressed = p.pressed }

-- which of two waiting jobs comes first: by deadline, or by density
abbrev pub first_by : Parted → Task → Task → Bool
first_by p = waiting_order p.version (by_density p.version p.pressed)

-- each has this role
abbrev pub HaveRole : Role → List Task → Type 0
HaveRole role tasks = Each (λ t. t.role ≡ role) tasks

-- each part has its role
pub record HaveRoles (p : Parted) : Type 0 where
  pub running : HaveRole Running (option_to_list p.running)
  pub fresh : HaveRole Fresh (option_to_list p.fresh)
  pub held : HaveRole Held p.held
  pub waiting : HaveRole Waiting p.waiting

-- what is kept: the parts have their roles, the rooms are those of the held jobs, and there is room for all jobs in
-- each part
pub record AreParts (p : Parted) (rooms : Lasting) (pool : Pooled) (capacity : ℕ) : Type 0 where
  pub roles : HaveRoles p
  pub held : AreRoomsOf rooms (map entry_of p.held)
  pub few : length (ready_of p) ≤ p.room
  pub small : Each (λ t. t.number < no_number) (ready_of p)
  pub most : p.room ≤ most_ready
  pub pool_room : p.room ≤ pool.room
  pub held_room : p.room ≤ length p.held + rooms.spare
  pub stack_room : p.room ≤ capacity

-- what the machine knows of the jobs in a state that it reaches
pub record AreSound (p : Parted) : Type 0 where
  pub own : HaveOwnNumbers p.waiting
  pub modest : AreModest p.waiting
  pub total : value_sum (option_to_list p.running ++ p.held) < 10 ^ 18
  pub first : Each (λ r. Each (λ h. r.job.deadline < h.job.deadline) p.held) (option_to_list p.running)
  pub early : Each (λ t. p.clock ≤ latest_start t) p.waiting

-- the first of a list
abbrev pub head_of : List Task → Option Task
head_of [] = None
head_of (t ∷ ts) = Some t

-- the others
abbrev pub tail_of : List Task → List Task
tail_of [] = []
tail_of (t ∷ ts) = ts
