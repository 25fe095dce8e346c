-- Lines of feeds have no line feed, and a text behind whole lines is cut on its own.
use Rattle.std.proofs.Common.{◌≡◌, ℕ, List, [], ◌∷◌, ◌++◌, append_assoc, append-nil, refl, sym, ap, ◌∙◌}
use Rattle.std.proofs.Common.{cond, codes, Some, None}
use Rattle.std.specs.List.{AllByRecursion, fold}
use Rattle.std.proofs.lemmas.List.Sums.{fold-append}
use Rattle.dover_model.specs.Common.{job_numbers, in_lines, lines_of, whole_lines, rest_of, cut, is_too_long, FeedLine}
use Rattle.dover_model.specs.Common.{RatioLine, FactorLine, JobLine, TickLine, DoneLine, EndLine, feed_text, next_line}
use Rattle.dover_model.specs.Common.{no_lines, account}
use Rattle.dover_model.proofs.texts.NoFeeds.{feedless_numbers}
use Rattle.dover_model.proofs.texts.Cuts.{CutText, HasNoFeed, onto, cut_append, cut_in_lines}

-- a line of a feed
pub feedless_feed : (line : FeedLine) → HasNoFeed (feed_text line)
feedless_feed (RatioLine p q None) = feedless_numbers (codes "k") (p ∷ q ∷ []) refl
feedless_feed (RatioLine p q (Some version)) = feedless_numbers (codes "k") (p ∷ q ∷ version ∷ []) refl
feedless_feed (FactorLine p q version b c) =
    feedless_numbers (codes "k") (p ∷ q ∷ version ∷ b ∷ c ∷ []) refl
feedless_feed (JobLine j) = feedless_numbers (codes "job") (job_numbers j) refl
feedless_feed (TickLine t) = feedless_numbers (codes "tick") (t ∷ []) refl
feedless_feed (DoneLine t n) = feedless_numbers (codes "done") (t ∷ n ∷ []) refl
feedless_feed EndLine = refl

-- ---- lines that were joined

-- joined lines that are the same were the same
pub same_lines : (ls ms : List (List ℕ)) → AllByRecursion HasNoFeed ls → AllByRecursion HasNoFeed ms
    → in_lines ls ≡ in_lines ms → ls ≡ ms
same_lines ls ms one other same =
    ap (λ (c : CutText). c.0) (sym (cut_in_lines ls one) ∙ ap cut same ∙ cut_in_lines ms other)

module _ (F : List ℕ) (whole : rest_of F ≡ []) (H : List ℕ) where
  -- what follows whole lines is cut on its own
  cut_behind : cut (F ++ H) ≡ (whole_lines F ++ whole_lines H, rest_of H)
  cut_behind = cut_append F H
      ∙ ap (λ rest. let c : CutText = (whole_lines F ++ (onto rest (cut H)).0, (onto rest (cut H)).1) in c) whole

  pub whole_behind : whole_lines (F ++ H) ≡ whole_lines F ++ whole_lines H
  whole_behind = ap (λ (c : CutText). c.0) cut_behind

  pub rest_behind : rest_of (F ++ H) ≡ rest_of H
  rest_behind = ap (λ (c : CutText). c.1) cut_behind

  -- its own lines are the whole ones
  pub lines_whole : lines_of F ≡ whole_lines F
  lines_whole = ap (λ rest. whole_lines F ++ cond (is_too_long rest) (rest ∷ []) []) whole ∙ append-nil (whole_lines F)

  pub lines_behind : lines_of (F ++ H) ≡ lines_of F ++ lines_of H
  lines_behind = ap (λ (c : CutText). c.0 ++ cond (is_too_long c.1) (c.1 ∷ []) []) cut_behind
      ∙ append_assoc (whole_lines F) (whole_lines H) (cond (is_too_long (rest_of H)) (rest_of H ∷ []) [])
      ∙ ap (λ ls. ls ++ lines_of H) (sym lines_whole)

  pub account_behind : account (F ++ H) ≡ fold next_line (account F) (lines_of H)
  account_behind = ap (fold next_line no_lines) lines_behind ∙ fold-append next_line no_lines (lines_of F) (lines_of H)

-- the lines of joined lines
module _ (ls : List (List ℕ)) (feedless : AllByRecursion HasNoFeed ls) where
  pub whole_joined : whole_lines (in_lines ls) ≡ ls
  whole_joined = ap (λ (c : CutText). c.0) (cut_in_lines ls feedless)

  pub rest_joined : rest_of (in_lines ls) ≡ []
  rest_joined = ap (λ (c : CutText). c.1) (cut_in_lines ls feedless)

  pub lines_joined : lines_of (in_lines ls) ≡ ls
  lines_joined = lines_whole (in_lines ls) rest_joined [] ∙ whole_joined
