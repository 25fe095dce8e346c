-- The jobs that wait, at places.
use Rattle.std.specs.Prelude.{◌≡◌, ◌≤◌, ◌+◌, ◌^◌, ◌==◌, ℕ, zero, suc, List, [], ◌∷◌, ◌++◌, length, replicate}
use Rattle.std.specs.Prelude.{if◌then◌else◌, Bool, true, Option, Some, None, filter_map, slice_get, sum_by}
use Rattle.dover_model.specs.declared.events.Version.{Version}
use Rattle.dover_model.specs.declared.events.Version.TheVariants.{One, Two, Three, Four}
use Rattle.dover_model.specs.declared.events.Task.{Task}
use Rattle.dover_model.specs.Common.{entry_of, first, by_density, IsJob, Each, EachTwo}
use Rattle.place_heap.specs.Items.{ItemFacts}
use Rattle.place_heap.specs.Orders.{due_item, latest_item, dense_item}

-- the version that breaks ties, the jobs that wait, in no told order, and how many there is room for
pub record Pooled : Type 0 where
  pub version : Version
  pub tasks : List Task
  pub room : ℕ

-- no two jobs have one number
abbrev pub HaveOwnNumbers : List Task → Type 0
HaveOwnNumbers tasks = EachTwo (λ t u. t.number ≡ u.number → t ≡ u) tasks

-- each job is within the limits
abbrev pub AreModest : List Task → Type 0
AreModest tasks = Each (λ t. IsJob t.job) tasks

-- in how many orders the jobs are kept: by deadline, by latest start, and in version Four by density
abbrev pub orders_of : Version → ℕ
orders_of One = 2
orders_of Two = 2
orders_of Three = 2
orders_of Four = 3

-- ---- what a pool keeps

-- how many places there may be
abbrev pub most_places : ℕ
most_places = 2 ^ 20

-- the jobs at the places
abbrev pub jobs_at : List (Option Task) → List Task
jobs_at slots = filter_map (λ o. o) slots

-- the item of a job at a place, in each order
abbrev pub item_by_deadline : Version → ℕ → Task → Option ItemFacts
item_by_deadline v p t = Some (due_item v p (entry_of t))

abbrev pub item_by_latest : Version → ℕ → Task → Option ItemFacts
item_by_latest v p t = Some (latest_item v p (entry_of t))

abbrev pub item_by_density : ℕ → Task → Option ItemFacts
item_by_density p t = Some (dense_item p t)

-- the item of what is at a place
abbrev pub item_of : (ℕ → Task → Option ItemFacts) → ℕ → Option Task → Option ItemFacts
item_of item p None = None
item_of item p (Some t) = item p t

-- the items of the jobs at the places from p on
abbrev pub items_from : (ℕ → Task → Option ItemFacts) → ℕ → List (Option Task) → List (Option ItemFacts)
items_from item p [] = []
items_from item p (o ∷ slots) = item_of item p o ∷ items_from item (suc p) slots

-- how often the place is named
abbrev pub times : ℕ → List ℕ → ℕ
times p places = sum_by (λ q. if q == p then 1 else 0) places

-- one where no job is at the place
abbrev pub is_free : List (Option Task) → ℕ → ℕ
is_free [] p = 0
is_free (o ∷ slots) zero = elim o [ None ↦ 1 | Some t ↦ 0 ]
is_free (o ∷ slots) (suc p) = is_free slots p

-- the free places are named, each once, and no other
abbrev pub AreFree : List (Option Task) → List ℕ → Type 0
AreFree slots places = (p : ℕ) → times p places ≡ is_free slots p

-- the table has the items, and none behind them
abbrev pub HasItems : (ℕ → Task → Option ItemFacts) → List (Option Task) → List (Option ItemFacts) → Type 0
HasItems item slots table = (k : ℕ) × (table ≡ items_from item 0 slots ++ replicate k None)

-- the version is one that may choose by density
abbrev pub IsByDensity : Version → Type 0
IsByDensity version = by_density version true ≡ true

-- the heaps have the jobs at the places, that by density where the version may choose by it, and the free places are
-- known
pub record IsPool (version : Version) (slots : List (Option Task)) (places : List ℕ)
    (by_deadline by_latest by_density : List (Option ItemFacts)) : Type 0 where
  pub due : HasItems (item_by_deadline version) slots by_deadline
  pub latest : HasItems (item_by_latest version) slots by_latest
  pub dense : IsByDensity version → HasItems item_by_density slots by_density
  pub free : AreFree slots places
  pub count : length places + length (jobs_at slots) ≡ length slots
  pub few : length slots ≤ most_places

-- so many jobs fit: there are no more places than that, and room for as many, also for those that are free, and in the
-- heaps, in that by density where the version may choose by it
pub record HasRoom (version : Version) (room places slots free due latest dense : ℕ) : Type 0 where
  pub opened : places ≤ room
  pub most : room ≤ most_places
  pub slots_fit : room ≤ slots
  pub free_fit : room ≤ free
  pub due_fit : room ≤ due
  pub latest_fit : room ≤ latest
  pub dense_fit : IsByDensity version → room ≤ dense

-- the place is that of the first job in the order, or there is no job
abbrev pub IsPlaceOf : (Task → Task → Bool) → List (Option Task) → Option ℕ → Type 0
IsPlaceOf before slots None = None ≡ first before (jobs_at slots)
IsPlaceOf before slots (Some p) =
    (t : Task) × (slice_get slots p ≡ Some (Some t)) × (first before (jobs_at slots) ≡ Some t)
