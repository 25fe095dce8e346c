-- The feeds of which a snapshot may be, and how they go on.
use Rattle.std.specs.Prelude.{◌≡◌, ℕ, List, ◌++◌, Some}
use Rattle.dover_model.specs.Common.{in_lines, lines_of, Session, instance_of, account, due, closed}
use Rattle.event_feed.specs.Kept as feed
use Rattle.snapshot.specs.Snapshot.{MayPause, snapshot}
use Rattle.ready_server.specs.Roster as roster
use Rattle.ready_server.specs.Rostering.{Rests}
use Rattle.ready_server.specs.declared.server.ReadyServer.{ReadyServer}

-- these lines are the snapshot of a feed
pub record IsSnapshot (ls : List (List ℕ)) : Type 0 where
  pub feed : List ℕ
  pub may : MayPause feed
  pub text : snapshot feed ≡ in_lines ls

-- With these bytes behind them, the same is due for both feeds beyond what was, also where the input ends there; both
-- stand alike, and where the one may pause again, so may the other, with the same snapshot.
pub record GoOnEqually (F G H : List ℕ) : Type 0 where
  pub more : List ℕ
  pub first : due (F ++ H) ≡ due F ++ more
  pub other : due (G ++ H) ≡ due G ++ more
  pub closing : List ℕ
  pub first_closed : closed (F ++ H) ≡ due F ++ closing
  pub other_closed : closed (G ++ H) ≡ due G ++ closing
  pub standing : (account (G ++ H)).standing ≡ (account (F ++ H)).standing
  pub again : MayPause (F ++ H) → MayPause (G ++ H) × (snapshot (G ++ H) ≡ snapshot (F ++ H))

-- The intake stands for the lines of the feed, and the server rests where it paused, at this mark.
pub record ResumesFeed (s : ReadyServer) (k : roster.Kept) (i : feed.Kept) (mark : ℕ) (F : List ℕ) : Type 0 where
  pub session : Session
  pub named : (account F).session ≡ Some session
  pub stands : feed.StandsFor i (lines_of F)
  pub going : feed.IsGoing i
  pub marked : mark ≡ (account F).mark
  pub rests : Rests s k (instance_of session) mark

-- What is given for a whole snapshot: its lines are those of some feed's, and for each feed with this snapshot the
-- server and the intake go on from where it paused.
pub record Gives (s : ReadyServer) (k : roster.Kept) (i : feed.Kept) (mark : ℕ) (ls : List (List ℕ)) : Type 0 where
  pub is : IsSnapshot ls
  pub each : (F : List ℕ) → MayPause F → snapshot F ≡ in_lines ls → ResumesFeed s k i mark F
