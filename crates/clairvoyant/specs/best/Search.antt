-- What a search over sets of jobs finds.
use Rattle.std.specs.Prelude.{◌≡◌, ◌<◌, ◌≤◌, ℕ, List, ◌++◌, length, Option, Some, None}
use Rattle.dover_model.specs.Common.{JobFacts, edf, stretches}
use Rattle.clairvoyant.specs.feasible.Feasibility.{ServesAll}
use Rattle.clairvoyant.specs.declared.best.choice.Choice.{Choice}
use Rattle.clairvoyant.specs.best.BestSet.{RiseWithin, IsGood, IsEarlier, value_of, jobs_at}

-- a set of jobs with numbers below `next`, and what is known of it: a schedule of its pieces serves its jobs
pub record IsChoice (all : List JobFacts) (next : ℕ) (choice : Choice) : Type 0 where
  pub numbers : RiseWithin 0 next choice.numbers.items
  pub jobs : choice.jobs.items ≡ jobs_at all choice.numbers.items
  pub value : choice.value ≡ value_of all choice.numbers.items
  pub pieces : choice.pieces.items ≡ stretches (edf choice.jobs.items)
  pub serves : ServesAll choice.jobs.items choice.pieces.items

-- the numbers are these, and some from `next` on
pub record Extends (all : List JobFacts) (taken : List ℕ) (next : ℕ) (numbers : List ℕ) : Type 0 where
  pub more : List ℕ
  pub are : numbers ≡ taken ++ more
  pub rise : RiseWithin next (length all) more

-- the good sets that extend these numbers have less value than is wanted
abbrev pub NoneFound : List JobFacts → (taken : List ℕ) → (next wanted : ℕ) → Type 0
NoneFound all taken next wanted = (other : List ℕ) → Extends all taken next other → IsGood all other
    → value_of all other < wanted

-- of the good sets that extend these numbers, and have as much value as is wanted, the earliest of greatest value
pub record IsFound (all : List JobFacts) (taken : List ℕ) (next wanted : ℕ) (found : Choice) : Type 0 where
  pub choice : IsChoice all (length all) found
  pub extends : Extends all taken next found.numbers.items
  pub enough : wanted ≤ found.value
  pub greatest : (other : List ℕ) → Extends all taken next other → IsGood all other → value_of all other ≤ found.value
  pub earliest : (other : List ℕ) → Extends all taken next other → IsGood all other → value_of all other ≡ found.value
      → IsEarlier other found.numbers.items → ⊥

-- what the search answers
abbrev pub IsSearched : List JobFacts → (taken : List ℕ) → (next wanted : ℕ) → Option Choice → Type 0
IsSearched all taken next wanted None = NoneFound all taken next wanted
IsSearched all taken next wanted (Some found) = IsFound all taken next wanted found
