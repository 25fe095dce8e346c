-- Lanes that are short.
use Rattle.std.specs.Prelude.{◌≡◌, ◌<◌, ◌+◌, ◌-◌, ℕ, List, [], ◌∷◌, Option, Some, None}
use Rattle.dover_model.specs.Feed.{Short}
use Rattle.dover_model.specs.Due.{fault_text}
use Rattle.lane_server.specs.Lanes.{lane_count, Handed, in_lane, shorts_from}

-- the line for a feed that is short at this line, if it is
abbrev pub short_texts : Option ℕ → List (List ℕ)
short_texts None = []
short_texts (Some line) = fault_text line Short ∷ []

-- the first short lane from this one on, if there is one, and those behind it
abbrev pub IsFirstShort : Option (ℕ × ℕ) → List Handed → ℕ → Type 0
IsFirstShort None handed from = shorts_from handed from (lane_count - from) ≡ []
IsFirstShort (Some short) handed from = (short.0 < lane_count)
    × (shorts_from handed from (lane_count - from) ≡ in_lane short.0 (fault_text short.1 Short)
    ∷ shorts_from handed (short.0 + 1) (lane_count - (short.0 + 1)))
