-- What a feed's server has paid for its comparisons, and what those of many lanes are together.
use Rattle.std.specs.Prelude.{◌≡◌, ◌≤◌, ◌<◌, ◌+◌, ℕ, List, Option, Some, None}
use Rattle.std.specs.List.{slice_get, sum_by, range_with_len}
use Rattle.dover_model.specs.Spending.{CostsAtMost}
use Rattle.event_feed.specs.Answers.{admitted_in}
use Rattle.lane_server.specs.Lanes.{lane_count, Handed, lane_account}
use Rattle.lane_server.specs.declared.lane.Lane.{Lane}
use Rattle.ready_server.specs.Serving.{HasPaid as HasServed}
use Rattle.ready_server.specs.declared.server.ReadyServer.{ReadyServer}

-- The server has made no more comparisons than its jobs have called for; where there is none, none were made.
abbrev pub HasPaid : Option ReadyServer → (start now : ℕ) → Type 0
HasPaid None start now = now ≤ start
HasPaid (Some server) start now = HasServed server start now

-- the sum of a number for each lane
unfoldable pub over_lanes : (ℕ → ℕ) → ℕ
over_lanes number = sum_by number (range_with_len 0 lane_count)

-- The comparisons from the start on are those of the lanes, and each lane's server has paid for its own.
pub record HavePaid (lanes : List Lane) (start now : ℕ) : Type 0 where
  pub own : ℕ → ℕ
  pub paid : (i : ℕ) (lane : Lane) → slice_get lanes i ≡ Some lane → HasPaid lane.server 0 (own i)
  pub all : now ≤ start + over_lanes own

-- The comparisons from the start on are those of the lanes, and each lane's are few for the jobs that its feed admits.
pub record AreFew (handed : List Handed) (start now : ℕ) : Type 0 where
  pub own : ℕ → ℕ
  pub few : (lane : ℕ) → lane < lane_count → CostsAtMost (admitted_in (lane_account handed lane)) 0 (own lane)
  pub all : now ≤ start + over_lanes own
