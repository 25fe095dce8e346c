-- The best set of jobs that one schedule can serve.
use Rattle.std.specs.Prelude.{◌≡◌, ◌<◌, ◌≤◌, ◌↔◌, ℕ, suc, List, [], ◌∷◌, length, map, IfSome, IsTrue, slice_get}
use Rattle.std.specs.Prelude.{slice_index, sum_by, filter_map}
use Rattle.std.specs.Option.{option_map_or}
use Rattle.dover_model.specs.Common.{JobFacts, is_served, IsMember, Each, edf, stretches}
use Rattle.dover_model.specs.declared.pieces.Piece.{Piece}

-- the numbers rise, from `low` on and below `end`
abbrev pub RiseWithin : (low end : ℕ) → List ℕ → Type 0
RiseWithin low end [] = Unit {0}
RiseWithin low end (n ∷ numbers) = (low ≤ n) × (n < end) × RiseWithin (suc n) end numbers

-- the schedule serves the job of number n
abbrev pub Serves : List JobFacts → List ℕ → ℕ → Type 0
Serves jobs schedule n = IfSome (slice_get jobs n) (λ j. IsTrue (is_served schedule (n, j)))

-- a set of numbers of these jobs, in rising order, that some schedule serves
pub record IsGood (jobs : List JobFacts) (chosen : List ℕ) : Type 0 where
  pub numbers : RiseWithin 0 (length jobs) chosen
  pub schedule : List ℕ
  pub served : Each (Serves jobs schedule) chosen

-- the value of the job of number n
abbrev pub value_at : List JobFacts → ℕ → ℕ
value_at jobs n = option_map_or (λ j. j.value) (slice_get jobs n) 0

-- the sum of the values of the jobs of these numbers
abbrev pub value_of : List JobFacts → List ℕ → ℕ
value_of jobs chosen = sum_by (value_at jobs) chosen

-- of two sets, the first holds the smallest number at which they differ
pub record IsEarlier (one other : List ℕ) : Type 0 where
  pub number : ℕ
  pub held : IsMember number one
  pub lacking : IsMember number other → ⊥
  pub same_below : (n : ℕ) → n < number → IsMember n one ↔ IsMember n other

-- the earliest good set of greatest value
pub record IsBestSet (jobs : List JobFacts) (chosen : List ℕ) : Type 0 where
  pub good : IsGood jobs chosen
  pub greatest : (other : List ℕ) → IsGood jobs other → value_of jobs other ≤ value_of jobs chosen
  pub earliest : (other : List ℕ) → IsGood jobs other → value_of jobs other ≡ value_of jobs chosen
      → IsEarlier other chosen → ⊥

-- the jobs of these numbers
abbrev pub jobs_at : List JobFacts → List ℕ → List JobFacts
jobs_at jobs chosen = filter_map (slice_get jobs) chosen

-- the piece under the number that its job has among all jobs
abbrev pub renumbered : List ℕ → Piece → Piece
renumbered chosen piece = record piece { number = slice_index chosen piece.number }

-- the pieces of the chosen jobs alone, by earliest deadline, under their numbers among all jobs
abbrev pub pieces_of : List JobFacts → List ℕ → List Piece
pieces_of jobs chosen = map (renumbered chosen) (stretches (edf (jobs_at jobs chosen)))
