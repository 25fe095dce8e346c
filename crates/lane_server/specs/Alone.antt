-- What stands on the output for one lane, and what its feed alone calls for.
use Rattle.std.specs.Prelude.{ℕ, List, [], ◌∷◌, bytes_eq, decimal, if◌then◌else◌, flat_map}
use Rattle.dover_model.specs.Common.{due, closed, whole_lines, fields_of, in_lines, line_of}
use Rattle.lane_server.specs.Lanes.{Input, Open, Closed, Faulty, lane_lines}

-- what stands behind the lane's number, if the line has it in front
abbrev pub behind_number : ℕ → List (List ℕ) → List (List ℕ)
behind_number lane [] = []
behind_number lane (number ∷ []) = []
behind_number lane (number ∷ field ∷ fields) =
    if bytes_eq number (decimal lane) then line_of (field ∷ fields) ∷ [] else []

-- the lines of the text that have the lane's number in front, without it
abbrev pub text_of_lane : ℕ → List ℕ → List ℕ
text_of_lane lane text = in_lines (flat_map (λ line. behind_number lane (fields_of line)) (whole_lines text))

-- the feed of a lane
abbrev pub lane_feed : Input → ℕ → List ℕ
lane_feed a lane = in_lines (lane_lines a.handed lane)

-- what the feed calls for where it was closed with the session: a lane without a line isn't closed
abbrev pub closed_feed : List ℕ → List ℕ
closed_feed [] = []
closed_feed (byte ∷ bytes) = closed (byte ∷ bytes)

-- what the feed of a lane calls for at the end of the session
abbrev pub served_alone : Input → ℕ → List ℕ
served_alone a lane = elim a.standing [
  | Open ↦ due (lane_feed a lane)
  | Closed ↦ closed_feed (lane_feed a lane)
  | Faulty line fault ↦ due (lane_feed a lane)
]
