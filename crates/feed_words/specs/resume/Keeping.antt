-- What is kept of a snapshot, and of the feed behind it.
use Rattle.std.specs.Prelude.{◌≡◌, true, ℕ, List, [], Option}
use Rattle.dover_model.specs.declared.events.Task.{Task}
use Rattle.dover_model.specs.Common.{Item, in_lines, lines_of, account, is_open}
use Rattle.snapshot.specs.Snapshot.{Head, MayPause, snapshot}
use Rattle.snapshot.specs.declared.resuming.Resuming.{Resuming}
use Rattle.snapshot.specs.Reading.{Taken, Refused, reading_of}
use Rattle.snapshot.specs.Spending.{HasSpentOn}
use Rattle.feed_words.specs.serve.Keeping as serve
use Rattle.feed_words.specs.serve.Keeping.{Call}
use Rattle.feed_words.specs.resume.Opening.{OpeningStands}
use Rattle.feed_words.specs.resume.Record.{IsFrugalFor}
use Rattle.feed_words.specs.resume.Talk.{Asked, feed_of, behind_snapshot}
use Rattle.feed_words.specs.declared.resume.opening.Opening.{Opening}
use Rattle.feed_words.specs.declared.resume.resuming.SnapshotStage.{SnapshotStage}
use Rattle.feed_words.specs.declared.resume.resuming.SnapshotStage.TheVariants as stage

-- the bytes are a snapshot and bytes behind it, and of the one feed with it and these T holds
pub record IsPast (start : ℕ) (x : List ℕ) (T : Call → List ℕ → Type 0) : Type 0 where
  pub head : Head
  pub items : List Item
  pub tasks : List Task
  pub reads : reading_of (lines_of x) ≡ Taken head items tasks
  pub goes : is_open (account (feed_of head items)) ≡ true
  pub holds : T (record { feed = feed_of head items; goes_on = goes; start = start })
      (behind_snapshot head items x)

-- the snapshot is still to be read on
abbrev pub IsOpen : Asked → Opening → ℕ → List ℕ → Type 0
IsOpen a o now x = OpeningStands o x × HasSpentOn o.reader a.start now

-- this line of it is refused
abbrev pub IsStopped : Asked → ℕ → ℕ → List ℕ → Type 0
IsStopped a at now x = (reading_of (lines_of x) ≡ Refused at) × IsFrugalFor a.start now x

-- the feed of the snapshot of these lines goes on, for each feed that they are of
abbrev pub IsServedOn : {L : Type 0} → SnapshotStage L → Option Resuming → List (List ℕ) → Type 0
IsServedOn (stage.Opening o) reader ls = ⊥
IsServedOn (stage.Refused at) reader ls = ⊥
IsServedOn (stage.Serving s) reader ls = (c : Call) (now : ℕ) → MayPause c.feed → snapshot c.feed ≡ in_lines ls
    → HasSpentOn reader c.start now → serve.IsListed c s.serving.feed s.roster now []

-- all that is due for these bytes was given
abbrev pub IsReady : {L : Type 0} → Asked → SnapshotStage L → ℕ → List ℕ → Type 0
IsReady a (stage.Opening o) now x = IsOpen a o now x
IsReady a (stage.Refused at) now x = IsStopped a at now x
IsReady a (stage.Serving s) now x = IsPast a.start x (λ c H. serve.IsListed c s.serving.feed s.roster now H)

-- these parts are left to give
abbrev pub IsGiving : {L : Type 0} → Asked → SnapshotStage L → ℕ → List ℕ → List (List ℕ) → Type 0
IsGiving a (stage.Opening o) now x parts = (parts ≡ []) × IsOpen a o now x
IsGiving a (stage.Refused at) now x parts = (parts ≡ []) × IsStopped a at now x
IsGiving a (stage.Serving s) now x parts =
    IsPast a.start x (λ c H. serve.IsListing c s.serving.feed s.roster now H parts)
