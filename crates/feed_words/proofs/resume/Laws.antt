-- What holds of what is kept, whatever is read.
use Rattle.std.proofs.Common.{◌≡◌, ◌<◌, ◌^◌, ◌-◌, ℕ, List, ◌++◌, length, ap, sym, subst, ◌∙◌, true, arith}
use Rattle.dover_model.specs.Feed.{account}
use Rattle.dover_model.proofs.lists.Tests.{never}
use Rattle.event_feed.proofs.GoingOn.{open_bytes, open_short}
use Rattle.lane_server.proofs.Adding.{open_stands}
use Rattle.feed_words.specs.serve.Keeping as serve
use Rattle.feed_words.specs.serve.Keeping.{Call, Costs}
use Rattle.feed_words.specs.declared.serve.pausing.Pausing.{Pausing}
use Rattle.feed_words.proofs.serve.Talking as serving
use Rattle.snapshot.specs.Reading.{Refused}
use Rattle.feed_words.specs.resume.Record.{IsFrugalFor}
use Rattle.feed_words.specs.resume.Talk.{Asked, resume_talk, feed_of, behind_snapshot}
use Rattle.feed_words.specs.resume.Keeping.{IsReady, IsGiving, IsPast}
use Rattle.feed_words.specs.declared.resume.resuming.SnapshotStage.{SnapshotStage}
use Rattle.feed_words.specs.declared.resume.resuming.SnapshotStage.TheVariants as stage
use Rattle.feed_words.proofs.resume.Bounds.{reading_bytes}
use Rattle.feed_words.proofs.resume.Talking as talking
use Rattle.feed_words.proofs.resume.Talking.{goes_at}
use Rattle.feed_words.proofs.resume.Stages.{opening_costs, past_goes, past_call, past_bytes, past_spent}

module _ {L : Type 0} (a : Asked) (now : ℕ) (x : List ℕ) where
  -- a talk that goes on has few bytes
  pub few : (s : SnapshotStage L) → IsReady a s now x → (resume_talk a).goes_on x ≡ true → length x < 2 ^ 64 - 1
  few (stage.Opening o) at goes = omega (arith, reading_bytes o.reader x at.0.reads at.0.short)
  few (stage.Refused line) at goes = never (sym (goes_at a x (Refused line) at.0) ∙ goes)
  few (stage.Serving s) at goes =
      let still = sym (past_goes a x _ at) ∙ goes in
      let opened = open_stands (account (feed_of at.head at.items ++ behind_snapshot at.head at.items x)) still in
      talking.few_bytes x at.head at.items at.tasks at.reads still
      (open_bytes (feed_of at.head at.items ++ behind_snapshot at.head at.items x) opened
      (open_short (feed_of at.head at.items ++ behind_snapshot at.head at.items x) opened))

  module _ (rest : List (List ℕ)) where
    -- few parts are left
    pub few_parts : (s : SnapshotStage L) → IsGiving a s now x rest → length rest < 2 ^ 64 - 1
    few_parts (stage.Opening o) at = omega (arith, ap (λ (l : List (List ℕ)). length l) at.0)
    few_parts (stage.Refused line) at = omega (arith, ap (λ (l : List (List ℕ)). length l) at.0)
    few_parts (stage.Serving s) at = serving.few_parts (past_call a x _ at) s.serving.feed now
        (past_bytes a x _ at) rest at.holds.giving

    -- the comparisons so far
    pub spent : (s : SnapshotStage L) → ((t : Pausing L) (c : Call) (H : List ℕ) (parts : List (List ℕ))
        → serve.IsListing c t.serving.feed t.roster now H parts → Costs c now H)
        → IsGiving a s now x rest → IsFrugalFor a.start now x
    spent (stage.Opening o) law at = opening_costs a o x at.1.0 now at.1.1
    spent (stage.Refused line) law at = at.1.1
    spent (stage.Serving s) law at =
        past_spent a x _ at now (law s (past_call a x _ at) (past_bytes a x _ at) rest at.holds)

  pub rested : (s : SnapshotStage L) → ((t : Pausing L) (c : Call) (H : List ℕ)
      → serve.IsListed c t.serving.feed t.roster now H → Costs c now H)
      → IsReady a s now x → IsFrugalFor a.start now x
  rested (stage.Opening o) law at = opening_costs a o x at.0 now at.1
  rested (stage.Refused line) law at = at.1
  rested (stage.Serving s) law at = past_spent a x _ at now (law s (past_call a x _ at) (past_bytes a x _ at) at.holds)

-- what is kept of a feed that goes on
pub at_serving : {L : Type 0} (a : Asked) (s : SnapshotStage L) (t : Pausing L) (now : ℕ) (x : List ℕ)
    → s ≡ stage.Serving t → IsReady a s now x
    → IsPast a.start x (λ c H. serve.IsListed c t.serving.feed t.roster now H)
at_serving a s t now x is at = subst (λ s. IsReady a s now x) is at
