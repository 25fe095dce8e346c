-- What shows that jobs can all be served, or that they can't.
use Rattle.std.specs.Prelude.{◌≡◌, ℕ, ◌*◌, ◌≤◌, List, length, IsTrue}
use Rattle.std.specs.List.{AllByRecursion, enumerate_from}
use Rattle.dover_model.specs.Common.{JobFacts, Rules, is_served, Meets, IsMember, IsOverfull, spread, stretches, edf}
use Rattle.dover_model.specs.Pieces.{AreInOrder}
use Rattle.dover_model.specs.declared.pieces.Piece.{Piece}
use Rattle.clairvoyant.specs.declared.feasible.answer.Feasible.{Feasible}
use Rattle.clairvoyant.specs.declared.feasible.answer.Feasible.TheVariants.{All, Window}

-- whatever ratio and version are declared, some schedule serves every job
abbrev pub CanMeet : List JobFacts → Type 0
CanMeet jobs = (rules : Rules) → Meets (record { rules = rules; jobs = jobs })

-- whatever ratio and version are declared, no schedule serves every job
abbrev pub CannotMeet : List JobFacts → Type 0
CannotMeet jobs = (rules : Rules) → Meets (record { rules = rules; jobs = jobs }) → ⊥

-- some job has this release
abbrev pub IsRelease : List JobFacts → ℕ → Type 0
IsRelease jobs a = (j : JobFacts) × IsMember j jobs × (j.release ≡ a)

-- some job has this deadline
abbrev pub IsDeadline : List JobFacts → ℕ → Type 0
IsDeadline jobs b = (j : JobFacts) × IsMember j jobs × (j.deadline ≡ b)

-- the schedule of the pieces serves every job
abbrev pub ServesAll : List JobFacts → List Piece → Type 0
ServesAll jobs pieces = AllByRecursion (λ job. IsTrue (is_served (spread pieces) job)) (enumerate_from 0 jobs)

-- all jobs can be served: the pieces are the stretches of the schedule by earliest deadline, and that serves every job
pub record ShowsAll (jobs : List JobFacts) (pieces : List Piece) : Type 0 where
  pub meets : CanMeet jobs
  pub in_order : AreInOrder pieces
  pub edf : pieces ≡ stretches (edf jobs)
  pub count : length pieces ≤ 2 * length jobs
  pub serves : ServesAll jobs pieces

-- they can't: the window is overfull, with the least end that one can have, and then with the greatest start
pub record ShowsWindow (jobs : List JobFacts) (a b work : ℕ) : Type 0 where
  pub unmet : CannotMeet jobs
  pub overfull : IsOverfull jobs a b work
  pub end : IsDeadline jobs b
  pub first_end : (a' b' w : ℕ) → IsOverfull jobs a' b' w → b ≤ b'
  pub start : IsRelease jobs a
  pub last_start : (a' w : ℕ) → IsOverfull jobs a' b w → a' ≤ a

-- the answer is right, and is shown
abbrev pub IsAnswer : List JobFacts → Feasible → Type 0
IsAnswer jobs (All pieces) = ShowsAll jobs pieces.items
IsAnswer jobs (Window a b work) = ShowsWindow jobs a b work
