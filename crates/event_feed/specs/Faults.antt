-- Which line of a feed is at fault, and with which job its ratio is broken.
use Rattle.std.specs.Prelude.{◌≡◌, ℕ, List, [], ◌∷◌, ◌++◌}
use Rattle.dover_model.specs.Common.{account_of_lines}
use Rattle.event_feed.specs.Answers.{NewFault}
use Rattle.event_feed.specs.declared.faults.FeedFault.{FeedFault}

-- the first of the lines that is at fault has this fault; where the ratio is broken, the other job is named
pub record IsFirstFault (fault : FeedFault) (ls : List (List ℕ)) : Type 0 where
  pub before : List (List ℕ)
  pub line : List ℕ
  pub more : List (List ℕ)
  pub lines : ls ≡ before ++ line ∷ more
  pub new : NewFault line fault (account_of_lines before) (account_of_lines (before ++ line ∷ []))
