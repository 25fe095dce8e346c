-- Stretches of ticks, with what the jobs inside are worth at most.
use Rattle.std.specs.Prelude.{◌≡◌, ◌↔◌, ℕ, ◌≤◌, ◌<◌, ◌+◌, ◌-◌, ◌^◌, List, [], ◌∷◌, Bool, false, ◌||◌, ◌&&◌, cond}
use Rattle.std.specs.Prelude.{length, nat_le}
use Rattle.std.specs.List.{filter, sum_by, enumerate_from, AllByRecursion}
use Rattle.dover_model.specs.Common.{JobFacts, Rules, total_value, worth, Each, IsMember, is_inside, work_inside}
use Rattle.clairvoyant.specs.feasible.Feasibility.{CanMeet}
use Rattle.clairvoyant.specs.declared.overload.stretch.Costed.{Costed}
use Rattle.clairvoyant.specs.declared.overload.stretch.Stretch.{Stretch}

-- the jobs that are released at a or later and due by b
abbrev pub jobs_inside : List JobFacts → ℕ → ℕ → List JobFacts
jobs_inside jobs a b = filter (is_inside a b) jobs

-- whatever ratio and version are declared, no schedule of these jobs is worth more
abbrev pub Caps : List JobFacts → ℕ → Type 0
Caps jobs cap = (rules : Rules) (s : List ℕ) → worth (record { rules = rules; jobs = jobs }) s ≤ cap

-- some schedule of these jobs is worth this, whatever ratio and version are declared
abbrev pub IsWorth : List JobFacts → ℕ → Type 0
IsWorth jobs value = (rules : Rules) × (s : List ℕ) × (worth (record { rules = rules; jobs = jobs }) s ≡ value)

-- the job is inside one of the stretches
abbrev pub is_inside_some : List Stretch → JobFacts → Bool
is_inside_some [] j = false
is_inside_some (x ∷ xs) j = is_inside x.from x.until j || is_inside_some xs j

-- the value of the jobs that are inside none
abbrev pub value_outside : List JobFacts → List Stretch → ℕ
value_outside jobs xs = sum_by (λ j. cond (is_inside_some xs j) 0 j.value) jobs

-- the cap of a stretch is one on the jobs inside
abbrev pub IsCapped : List JobFacts → Stretch → Type 0
IsCapped jobs x = Caps (jobs_inside jobs x.from x.until) x.cap

-- of so many jobs, at most, the best set is sought
abbrev pub most_sought : ℕ
most_sought = 10

-- in all stretches together so many sets of jobs are looked at, at most
abbrev pub most_sets : ℕ
most_sets = 33_554_432

-- how many sets of so many jobs are looked at
abbrev pub sets_of : ℕ → ℕ
sets_of count = cond (nat_le count most_sought) (2 ^ count) 0

-- and of the jobs inside each of the stretches
abbrev pub sets_in : List JobFacts → List Stretch → ℕ
sets_in jobs xs = sum_by (λ x. sets_of (length (jobs_inside jobs x.from x.until))) xs

-- where few jobs are inside, some schedule of them is worth the cap
abbrev pub IsReached : List JobFacts → Stretch → Type 0
IsReached jobs x =
    length (jobs_inside jobs x.from x.until) ≤ most_sought → IsWorth (jobs_inside jobs x.from x.until) x.cap

-- the window from a to b has a tick of one of the stretches
abbrev pub MeetsSome : List Stretch → (a b : ℕ) → Type 0
MeetsSome xs a b = (x : Stretch) × IsMember x xs × (x.from < b) × (a < x.until)

-- what is known of a stretch of these jobs: they have more work in it than it has ticks
pub record IsStretch (jobs : List JobFacts) (x : Stretch) : Type 0 where
  pub some : x.from < x.until
  pub overfull : x.until - x.from < work_inside jobs x.from x.until
  pub total : x.total ≡ total_value (jobs_inside jobs x.from x.until)
  pub cap : IsCapped jobs x
  pub less : x.cap ≤ x.total

-- each ends before the later ones begin
abbrev pub AreInOrder : List Stretch → Type 0
AreInOrder [] = Unit {0}
AreInOrder (x ∷ xs) = AllByRecursion (λ y. x.until ≤ y.from) xs × AreInOrder xs

-- The stretches are apart, and what no schedule is worth more than is the value of the jobs outside of them, and their
-- caps. Each window with more work than ticks meets one, and there is none exactly where some schedule serves every
-- job. Where the sets of few jobs are no more than may be looked at, the cap of few jobs is what some schedule is
-- worth.
pub record IsCosted (jobs : List JobFacts) (costed : Costed) : Type 0 where
  pub total : costed.total ≡ total_value jobs
  pub in_order : AreInOrder costed.stretches.items
  pub each : Each (IsStretch jobs) costed.stretches.items
  pub sum : costed.cap ≡ value_outside jobs costed.stretches.items + sum_by (λ x. x.cap) costed.stretches.items
  pub most : Caps jobs costed.cap
  pub none : (costed.stretches.items ≡ []) ↔ CanMeet jobs
  pub meets : (a b : ℕ) → b - a < work_inside jobs a b → MeetsSome costed.stretches.items a b
  pub few : sets_in jobs costed.stretches.items ≤ most_sets → Each (IsReached jobs) costed.stretches.items

-- the value of the jobs inside that are done, by whether the job of each number is
abbrev pub value_inside : List JobFacts → (done : ℕ → Bool) → (from until : ℕ) → ℕ
value_inside jobs done a b =
    sum_by (λ (n, j). cond (is_inside a b j && done n) j.value 0) (enumerate_from 0 jobs)
