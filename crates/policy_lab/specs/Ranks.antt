-- What a policy goes by: the ready job of the least rank runs, ties to the smaller number.
use Rattle.std.specs.Prelude.{◌≡◌, ◌≤◌, ◌<◌, ◌⊎◌, ◌^◌, ◌*◌, ◌+◌, ℕ, List, Some}
use Rattle.dover_model.specs.declared.events.Entry.{Entry}
use Rattle.dover_model.specs.Common.{last_tick, IsMember, Each}
use Rattle.dover_model.specs.Limits.{most_value, most_work}
use Rattle.policy_lab.specs.Picks.{Picks, IsPolicy}

-- the entry of a job within the limits that has work left
pub record IsEntry (e : Entry) : Type 0 where
  pub some : 1 ≤ e.left
  pub small : e.left ≤ most_work
  pub fits : e.left ≤ e.deadline
  pub due : e.deadline ≤ last_tick
  pub worth : 1 ≤ e.value
  pub modest : e.value ≤ most_value
  pub few : e.number < 2 ^ 20

-- the rank, and in the last 20 binary digits the number
abbrev pub turn_by : (Entry → ℕ) → Entry → ℕ
turn_by ranks e = ranks e * 2 ^ 20 + e.number

-- It picks the entry of the least rank, and of those the one of the smallest number. What is left of a job alone may
-- lower its rank.
pub record IsRanked (picks : Picks) (ranks : Entry → ℕ) : Type 0 where
  pub policy : IsPolicy picks
  pub least : (e : Entry) (entries : List Entry) → Each IsEntry entries → IsMember e entries
      → Each (λ o. (o ≡ e) ⊎ (turn_by ranks e < turn_by ranks o)) entries → picks entries ≡ Some e.number
  pub falls : (e f : Entry) → f.deadline ≡ e.deadline → f.value ≡ e.value → 1 ≤ e.value → f.left ≤ e.left
      → ranks f ≤ ranks e
  pub low : (e : Entry) → IsEntry e → ranks e < 2 ^ 100
