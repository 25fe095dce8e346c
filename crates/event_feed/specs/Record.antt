-- What is known of a feed whose reading has ended.
use Rattle.std.specs.Prelude.{◌≡◌, ◌⊎◌, ℕ, List, true, false, Some, length}
use Rattle.dover_model.specs.Common.{Account, Ended, Faulty, is_open, account_of_lines, Session, IsValidSession}
use Rattle.dover_model.specs.Common.{instance_of}
use Rattle.event_feed.specs.Answers.{short_after}
use Rattle.event_feed.specs.Faults.{IsFirstFault}
use Rattle.event_feed.specs.Kept.{cause_of_fault}
use Rattle.event_feed.specs.declared.faults.FeedFault.{FeedFault}
use Rattle.event_feed.specs.Listing.{listed_instance, StandAmong, has_too_many}
use Rattle.event_feed.specs.declared.listed.Listed.{Listed}
use Rattle.event_feed.specs.declared.listed.NotListed.{NotListed}
use Rattle.event_feed.specs.declared.listed.NotListed.TheVariants.{Fault, TooMany}

-- the feed of this account ended without a fault, and these are the jobs of its session, none too many, and its
-- finishes
pub record IsEnded (listed : Listed) (a : Account) : Type 0 where
  pub few : has_too_many a ≡ false
  pub ended : a.standing ≡ Ended
  pub session : Session
  pub session_is : a.session ≡ Some session
  pub valid : IsValidSession session
  pub run : listed_instance listed ≡ instance_of session
  pub among : StandAmong listed.jobs.items listed.done_lines.items

-- this is the fault of the feed of these lines, with the other job named where the ratio is broken, or the feed goes on
-- and this says that it is short
abbrev pub IsRefusedBy : FeedFault → List (List ℕ) → Type 0
IsRefusedBy fault ls =
    (((account_of_lines ls).standing ≡ Faulty fault.line (cause_of_fault fault.cause)) × IsFirstFault fault ls)
    ⊎ ((is_open (account_of_lines ls) ≡ true) × (fault ≡ short_after (length ls)))

-- why the jobs of the feed aren't listed: it is refused, or they are too many
abbrev pub IsNotListed : NotListed → List (List ℕ) → Type 0
IsNotListed (Fault fault) ls = (has_too_many (account_of_lines ls) ≡ false) × IsRefusedBy fault ls
IsNotListed TooMany ls = has_too_many (account_of_lines ls) ≡ true
