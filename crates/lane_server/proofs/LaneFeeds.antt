-- The feeds of lanes that ended.
use Rattle.std.proofs.Common.{◌≡◌, ◌≤◌, ◌<◌, ◌+◌, ◌⊎◌, inl, inr, ℕ, zero, suc, List, [], ◌∷◌, ◌++◌, length, refl, ap}
use Rattle.std.proofs.Common.{◌∙◌, subst, arith, Bool, true, false, cond, ◌≢◌, append-nil}
use Rattle.std.specs.List.{list_all, range_with_len}
use Rattle.std.proofs.lemmas.Bool.{and_parts, cases_lt}
use Rattle.dover_model.specs.Lines.{whole_lines, in_lines}
use Rattle.dover_model.specs.Feed as feeds
use Rattle.dover_model.specs.Feed.{Standing, Short, account, account_of_lines, is_ended}
use Rattle.dover_model.specs.Due.{due, fault_text}
use Rattle.dover_model.proofs.lists.Tests.{never}
use Rattle.lane_server.specs.Lanes.{lane_count, Handed, Input, InputStanding, Open, Closed, Faulty, input, lane_lines}
use Rattle.lane_server.specs.Lanes.{is_fine, all_ended}
use Rattle.lane_server.specs.Alone.{lane_feed, closed_feed, served_alone}
use Rattle.lane_server.proofs.Alone.{lane_feed_account}

-- a test that all numbers of a range pass
passes : (test : ℕ → Bool) (from count n : ℕ) → list_all test (range_with_len from count) ≡ true → from ≤ n
    → n < from + count → test n ≡ true
passes test from zero n all least most = absurd (omega arith)
passes test from (suc count) n all least most = by_order (cases_lt from n)
    (λ later. passes test (from + 1) count n both.1 (omega arith) (omega arith)) where
      both : (test from ≡ true) × (list_all test (range_with_len (from + 1) count) ≡ true)
      both = and_parts (test from) (list_all test (range_with_len (from + 1) count)) all

      by_order : (from < n) ⊎ (n ≤ from) → (from < n → test n ≡ true) → test n ≡ true
      by_order (inl later) behind = behind later
      by_order (inr same) behind = subst (λ m. test m ≡ true) {x = from} {y = n} (omega (arith, same, least)) both.0

-- a feed that has a line and is fine has ended
fine_ended : (ls : List (List ℕ)) → is_fine ls ≡ true → (ls ≡ [] → ⊥) → is_ended (account_of_lines ls) ≡ true
fine_ended [] fine some = absurd (some refl)
fine_ended (l ∷ ls) fine some = fine

-- where all have ended, the lines of each lane are fine
each_fine : (handed : List Handed) (lane : ℕ) → all_ended handed ≡ true → lane < lane_count
    → is_fine (lane_lines handed lane) ≡ true
unfolding all_ended
each_fine handed lane all low =
    passes (λ i. is_fine (lane_lines handed i)) 0 lane_count lane all (omega arith) (omega (arith, low))

-- where all have ended, the feed of a lane that has a line has ended
pub lane_ended : (bytes : List ℕ) (lane : ℕ) → all_ended (input bytes).handed ≡ true → lane < lane_count
    → lane_feed (input bytes) lane ≢ []
    → is_ended (account (lane_feed (input bytes) lane)) ≡ true
lane_ended bytes lane all low some = ap is_ended (lane_feed_account bytes lane)
    ∙ fine_ended (lane_lines (input bytes).handed lane) (each_fine (input bytes).handed lane all low)
    (λ none. some (ap in_lines none))

-- a feed that has ended isn't closed by a line more
closed_ended : (F : List ℕ) → is_ended (account F) ≡ true → closed_feed F ≡ due F
closed_ended [] ended = never ended
closed_ended (b ∷ F) ended =
    ap (λ ls. due (b ∷ F) ++ in_lines ls) (no_short (length (whole_lines (b ∷ F))) (account (b ∷ F)).standing ended)
    ∙ append-nil (due (b ∷ F)) where
      no_short : (whole : ℕ) (s : Standing)
          → elim s [ feeds.Open ↦ false | feeds.Ended ↦ true | feeds.Faulty line cause ↦ false ] ≡ true
          → cond (elim s [ feeds.Open ↦ true | feeds.Ended ↦ false | feeds.Faulty line cause ↦ false ])
          (fault_text (suc whole) Short ∷ []) [] ≡ []
      no_short whole feeds.Ended ended = refl
      no_short whole _ ended = never ended

-- what stands on the output for a lane whose feed has ended is due for that feed
pub served_ended : (a : Input) (lane : ℕ) → is_ended (account (lane_feed a lane)) ≡ true
    → served_alone a lane ≡ due (lane_feed a lane)
served_ended a lane ended = by_standing a.standing where
  by_standing : (s : InputStanding) → served_alone (record a { standing = s }) lane ≡ due (lane_feed a lane)
  by_standing Closed = closed_ended (lane_feed a lane) ended
  by_standing _ = refl
