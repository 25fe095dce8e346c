-- What is kept of a feed.
use Rattle.std.specs.Prelude.{◌≡◌, ◌≢◌, ◌⊎◌, ℕ, ◌≤◌, List, [], ◌∷◌, ◌++◌, length, Some, false}
use Rattle.dover_model.specs.Common.{account_of_lines}
use Rattle.event_feed.specs.Faults.{IsFirstFault}
use Rattle.event_feed.specs.Kept as feed
use Rattle.event_feed.specs.declared.faults.FeedFault.{FeedFault}
use Rattle.event_feed.specs.Listing.{ListsIn, offered_in, has_too_many, wants_more}
use Rattle.event_feed.specs.declared.gathering.Gathering.{Gathering}
use Rattle.event_feed.specs.declared.listed.DoneLine.{DoneLine}

-- the done lines behind one at this mark: without it, where it came below the mark or names no job, and else with it
abbrev pub KeepsDone : Gathering → (mark at number : ℕ) → List DoneLine → Type 0
KeepsDone g mark at number done_lines =
    (((mark ≢ at) ⊎ (length g.jobs.items ≤ number)) × (done_lines ≡ g.done_lines.items))
    ⊎ ((mark ≡ at)
    × (done_lines ≡ g.done_lines.items ++ record { at = at; number = number; behind = length g.jobs.items } ∷ []))

-- this is kept of these lines: what they said, the rules, each job that was offered, and the done lines
pub record KeepsAll (gathering : Gathering) (ls : List (List ℕ)) : Type 0 where
  pub intake : feed.StandsFor gathering.intake ls
  pub lists : ListsIn gathering.declared gathering.jobs.items gathering.done_lines.items (account_of_lines ls)
  pub offered : offered_in (account_of_lines ls) ≡ length gathering.jobs.items
  pub names : (fault : FeedFault) → feed.fault_of gathering.intake ≡ Some fault → IsFirstFault fault ls

-- this is kept of these lines: whether more are wanted, whether they have too many jobs, and all, where they haven't
pub record Keeps (gathering : Gathering) (ls : List (List ℕ)) : Type 0 where
  pub goes_on : gathering.going ≡ wants_more (account_of_lines ls)
  pub too_many : gathering.too_many ≡ has_too_many (account_of_lines ls)
  pub all : gathering.too_many ≡ false → KeepsAll gathering ls
