-- What is kept of a feed that is served on behind bytes that were read before.
use Rattle.std.specs.Prelude.{◌≡◌, ◌≤◌, ℕ, List, ◌∷◌, ◌++◌, [], length, drop, map, true, refl}
use Rattle.dover_model.specs.Common.{due, due_lines, account, is_open, CostsAtMost}
use Rattle.event_feed.specs.Answers.{admitted_in}
use Rattle.dialogue.specs.Talk.{Talk, talk_behind}
use Rattle.lane_server.specs.Feeding.{FeedStands, FeedRests}
use Rattle.lane_server.specs.Spending.{HasPaid}
use Rattle.lane_server.specs.declared.feed.Feed.{Feed}
use Rattle.ready_server.specs.Roster.{Kept, IsRollOf}
use Rattle.feed_words.specs.serve.Listing.{steps_in}
use Rattle.feed_words.specs.serve.Talk.{feed_talk}
use Rattle.feed_words.specs.declared.serve.at_end.AtEnd.{AtEnd}

-- What a call is about: the bytes of a feed that goes on, of which all that is due was put before, and the comparisons
-- from which those of the call count.
pub record Call : Type 0 where
  pub feed : List ℕ
  pub goes_on : is_open (account feed) ≡ true
  pub start : ℕ

-- a call that is about a whole feed
abbrev pub whole_call : ℕ → Call
whole_call start = record { feed = []; goes_on = refl; start = start }

-- what is due for the bytes behind the feed, beyond what was due for the feed
abbrev pub due_behind : List ℕ → List ℕ → List ℕ
due_behind F x = drop (length (due F)) (due (F ++ x))

-- Behind the feed, what is said of the whole feed beyond what was.
abbrev pub serve_talk : AtEnd → List ℕ → Talk
serve_talk at_end F = talk_behind F (feed_talk at_end)

-- the comparisons so far are few for the jobs that were admitted
abbrev pub Costs : Call → ℕ → List ℕ → Type 0
Costs c steps x = CostsAtMost (admitted_in (account (c.feed ++ x))) c.start steps

-- The feed stands for these bytes behind those of the call, and these parts are left to give, each a line.
pub record IsGiving (c : Call) (feed : Feed) (steps : ℕ) (x : List ℕ) (parts : List (List ℕ)) : Type 0 where
  pub left : List (List ℕ)
  pub parts_are : parts ≡ map (λ line. line ++ 10 ∷ []) left
  pub stands : FeedStands feed (c.feed ++ x) left
  pub paid : HasPaid feed.lane.server c.start steps

-- all was given
pub record IsReady (c : Call) (feed : Feed) (steps : ℕ) (x : List ℕ) : Type 0 where
  pub rests : FeedRests feed (c.feed ++ x)
  pub paid : HasPaid feed.lane.server c.start steps

-- The same of a feed that may pause: while it goes on, its roster was kept from the lines that were given for it. It
-- has room for the jobs that are admitted and for the early finish of each, where more lines are left.
pub record IsListing (c : Call) (feed : Feed) (roster : Kept) (steps : ℕ) (x : List ℕ) (parts : List (List ℕ)) : Type 0
  where
    pub giving : IsGiving c feed steps x parts
    pub given : List (List ℕ)
    pub due : due_lines (account (c.feed ++ x)) ≡ given ++ giving.left
    pub room : (line : List ℕ) (more : List (List ℕ)) → giving.left ≡ line ∷ more
        → (admitted_in (account (c.feed ++ x)) ≤ roster.room)
        × (admitted_in (account (c.feed ++ x)) ≤ roster.finish_room)
    pub lists : is_open (account (c.feed ++ x)) ≡ true → IsRollOf (steps_in given) roster

-- all was given
pub record IsListed (c : Call) (feed : Feed) (roster : Kept) (steps : ℕ) (x : List ℕ) : Type 0 where
  pub ready : IsReady c feed steps x
  pub lists : is_open (account (c.feed ++ x)) ≡ true → IsRollOf (steps_in (due_lines (account (c.feed ++ x)))) roster
