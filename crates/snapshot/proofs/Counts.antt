-- How many items a session has whose lines are not refused.
use Rattle.std.proofs.Common.{◌≡◌, ◌+◌, ◌*◌, ◌≤◌, List, [], ◌∷◌, length, length-append, map, append-nil, sym, ap, refl}
use Rattle.std.proofs.Common.{subst, arith, Bool, true, false, Option, Some, None, fold}
use Rattle.std.proofs.lemmas.List.{length-map}
use Rattle.dover_model.specs.Common.{most_items, IsValid, printed, Session, JobItem, instance_of, admitted_jobs}
use Rattle.dover_model.specs.Common.{new_session, with_named, may_finish_early, session_with, settled, TraceLine}
use Rattle.dover_model.specs.Common.{Printed, Placed, put_in}
use Rattle.dover_model.specs.declared.events.Version.{Version}
use Rattle.dover_model.specs.declared.events.Version.TheVariants.{One, Three, Four}
use Rattle.dover_model.proofs.lists.Beginnings.{begins_length}
use Rattle.dover_model.proofs.runs.Ending.{few_printed}
use Rattle.dover_model.proofs.sessions.Former.{none_early}
use Rattle.dover_model.proofs.sessions.Growing.{item_in, with_line_named, lines_at, settled_of_run, reads_new}
use Rattle.dover_model.proofs.lists.Tests.{never}
use Rattle.dover_model.proofs.sessions.Walks.{WalksTo, walks}
use Rattle.snapshot.specs.Stored.{NoneRefused}
use Rattle.snapshot.proofs.RunItems.{jobs_only, no_places}
use Rattle.dover_model.proofs.sessions.SessionParts.{FollowsItems}
use Rattle.dover_model.proofs.valid.ValidParts.{valid_parts}

-- each line names an item at most
names_few : (lines : List TraceLine) (S T : Session) → fold with_line_named S lines ≡ T
    → length T.items ≤ length S.items + length lines
names_few [] S T names = omega (arith, ap (λ (X : Session). length X.items) names)
names_few (l ∷ lines) S T names = omega (
  arith,
  names_few lines (with_line_named S l) T names,
  one_more (item_in S l),
) where
  one_more : (o : Option _) → length (with_named S o).items ≤ length S.items + 1
  one_more None = omega arith
  one_more (Some i) = omega (arith, length-append S.items (i ∷ []))

module _ (S : Session) (valid : IsValid (instance_of S)) (follows : FollowsItems S.rules [] 0 S.items)
    (good : NoneRefused S.items) where
  -- its trace is read up to some mark
  read : WalksTo S.rules [] 0 S.items []
  read = walks S.rules S.items [] [] 0 (reads_new S.rules (valid_parts valid).ratio)
      (subst (FollowsItems S.rules [] 0) (sym (append-nil S.items)) follows)
      (subst (λ xs. IsValid (instance_of (session_with S.rules xs))) (sym (append-nil S.items)) valid)

  -- there are no more items than steps
  pub good_few : length S.items ≤ 5 * length (admitted_jobs S.items) + 1
  good_few =
      let lines_are : lines_at S read.later ≡ map Printed (settled (instance_of S) read.later) =
      ap (λ (ps : List Placed). put_in ps 0 (settled (instance_of S) read.later)) (no_places S.rules [] S.items good) in
      omega (
        arith,
        names_few (lines_at S read.later) (new_session S.rules) S read.reads.names,
        ap length lines_are,
        length-map (settled (instance_of S) read.later) Printed,
        few_printed (instance_of S) valid,
        begins_length (settled (instance_of S) read.later) (printed (instance_of S))
            (settled_of_run (instance_of S) read.later valid),
      )

  -- of a million jobs they are few enough
  pub good_count : length (admitted_jobs S.items) ≤ 1_000_000 → length S.items ≤ most_items S.rules.version
  good_count listed = by_version (may_finish_early S.rules.version) refl where
    jobs_most : (v : Version) → 1_000_000 ≤ most_items v
    jobs_most One = omega arith
    jobs_most _ = omega arith

    steps_most : (v : Version) → may_finish_early v ≡ true → 5_000_001 ≤ most_items v
    steps_most Three e = omega arith
    steps_most Four e = omega arith
    steps_most _ e = never e

    by_version : (b : Bool) → may_finish_early S.rules.version ≡ b → length S.items ≤ most_items S.rules.version
    by_version true three = omega (arith, good_few, listed, steps_most S.rules.version three)
    by_version false plain = omega (
      arith,
      ap length (jobs_only S.items good (none_early S.rules [] 0 S.items plain follows)),
      length-map (admitted_jobs S.items) JobItem,
      listed,
      jobs_most S.rules.version,
    )
