-- What is left to give, in parts.
use Rattle.std.specs.Prelude.{◌≡◌, ℕ, List, [], ◌∷◌, ◌++◌, map}
use Rattle.lane_server.specs.LaneInput.{Stands, Rests}
use Rattle.lane_server.specs.Lanes.{input}
use Rattle.lane_server.specs.Spending.{HavePaid, AreFew}
use Rattle.lane_server.specs.declared.lane_input.LaneInput.{LaneInput}

-- each line with its line feed
abbrev pub parts_of : List (List ℕ) → List (List ℕ)
parts_of ls = map (λ line. line ++ 10 ∷ []) ls

-- These bytes came, and these parts are left to give of what is due for them.
abbrev pub Gives : LaneInput → List ℕ → List (List ℕ) → Type 0
Gives input x parts = (left : List (List ℕ)) × (parts ≡ parts_of left)
    × Stands input x left

-- So it is, and the comparisons from the start on are those of the lanes.
pub record IsGiving (start : ℕ) (i : LaneInput) (steps : ℕ) (x : List ℕ) (parts : List (List ℕ)) : Type 0 where
  pub gives : Gives i x parts
  pub paid : HavePaid i.lanes.lanes start steps

-- all was given
pub record IsReady (start : ℕ) (i : LaneInput) (steps : ℕ) (x : List ℕ) : Type 0 where
  pub rests : Rests i x
  pub paid : HavePaid i.lanes.lanes start steps

-- the comparisons so far are few for what each lane was handed
abbrev pub Costs : (start steps : ℕ) → List ℕ → Type 0
Costs start steps x = AreFew (input x).handed start steps
