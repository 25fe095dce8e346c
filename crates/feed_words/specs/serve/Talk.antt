-- What a word says that serves a feed, by the bytes got so far.
use Rattle.std.specs.Prelude.{◌≡◌, ◌⊎◌, ◌<◌, ℕ, List, [], ◌++◌, Bool, true, false, IsTrue}
use Rattle.dover_model.specs.declared.events.Version.TheVariants.{Two}
use Rattle.dover_model.specs.Common.{most_jobs, rest_of, due, closed, account, is_open, is_ended}
use Rattle.dover_port.specs.declared.status.Status.{Status}
use Rattle.dover_port.specs.declared.status.Status.TheVariants.{Done, Refused}
use Rattle.dialogue.specs.Talk.{Talk}
use Rattle.dialogue.specs.Sizes.{size_text}
use Rattle.event_feed.specs.Answers.{admitted_in}
use Rattle.lane_server.specs.Lane.{IsDeclared, IsFaulty}
use Rattle.snapshot.specs.Snapshot.{MayPause, snapshot}
use Rattle.feed_words.specs.declared.serve.at_end.AtEnd.{AtEnd}
use Rattle.feed_words.specs.declared.serve.at_end.AtEnd.TheVariants.{Refuse, Pause}

-- the feed has more jobs than a snapshot lists; it is neither ended nor faulty, and ends in a line feed
pub record IsTooLarge (bytes : List ℕ) : Type 0 where
  pub many : most_jobs Two < admitted_in (account bytes)
  pub going_on : IsTrue (is_open (account bytes))
  pub whole : rest_of bytes ≡ []

-- the feed of these bytes is paused where its input ends
abbrev pub PausesAt : AtEnd → List ℕ → Type 0
PausesAt Refuse x = ⊥
PausesAt Pause x = MayPause x

-- it would be paused there, but has too many jobs
abbrev pub IsTooLargeAt : AtEnd → List ℕ → Type 0
IsTooLargeAt Refuse x = ⊥
IsTooLargeAt Pause x = IsTooLarge x

-- the input ended where the feed goes on, and it isn't paused, nor too large for that
abbrev pub IsCutOff : AtEnd → List ℕ → Bool → Type 0
IsCutOff at_end x ended = (ended ≡ true) × (is_open (account x) ≡ true) × (PausesAt at_end x → ⊥)
    × (IsTooLargeAt at_end x → ⊥)

-- Done: the feed ended, and this is its trace; or the input ended where it is paused, and its snapshot stands behind
-- what is due. Refused: it has a fault or is cut off, and the line that refuses it stands behind what is due; or it is
-- too large to be paused, which is said there.
abbrev pub IsServedAs : AtEnd → List ℕ → Bool → Status → List ℕ → Type 0
IsServedAs at_end x ended Done text = ((is_ended (account x) ≡ true) × (text ≡ due x))
    ⊎ ((ended ≡ true) × PausesAt at_end x × (text ≡ due x ++ snapshot x))
IsServedAs at_end x ended Refused text = ((IsFaulty (account x) ⊎ IsCutOff at_end x ended) × (text ≡ closed x))
    ⊎ ((ended ≡ true) × IsTooLargeAt at_end x × (text ≡ due x ++ size_text))
IsServedAs at_end x ended _ text = ⊥

-- Each line is due as soon as it is settled. The feed's end or its first fault ends the talk. Memory may be lacking
-- behind the ratio line, before the input's end.
abbrev pub feed_talk : AtEnd → Talk
feed_talk at_end = record {
  goes_on = λ x. is_open (account x);
  due = due;
  answer = IsServedAs at_end;
  lacks = λ x ended. (ended ≡ false) × IsDeclared (account x);
}
