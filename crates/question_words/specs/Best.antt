-- What the word `best` says of the jobs of a feed.
use Rattle.std.specs.Prelude.{◌≡◌, ◌≤◌, ℕ, List, [], ◌∷◌, length, codes}
use Rattle.clairvoyant.specs.best.BestSet.{IsBestSet, value_of, pieces_of}
use Rattle.dover_model.specs.Common.{bound, Instance, IsListable, with_numbers, in_lines, observed, spread}
use Rattle.dover_model.specs.Common.{completed_value, worth}
use Rattle.dover_port.specs.declared.status.Status.{Status}
use Rattle.dover_port.specs.declared.status.Status.TheVariants.{Done, Refused}
use Rattle.dialogue.specs.Sizes.{size_text}
use Rattle.question_words.specs.Texts.{piece_lines}

-- how many jobs there are, what the chosen ones are worth, what the run completes, the bound on what any schedule is
-- worth, and the schedule of the chosen jobs, as the run observed them
abbrev pub best_text : Instance → (chosen : List ℕ) → List ℕ
best_text J chosen = in_lines (
    with_numbers (codes "jobs") (length J.jobs ∷ [])
    ∷ with_numbers (codes "optimum") (value_of (observed J).jobs chosen ∷ [])
    ∷ with_numbers (codes "value") (completed_value J ∷ [])
    ∷ with_numbers (codes "bound") (bound J.rules.ratio (completed_value J) ∷ [])
    ∷ piece_lines (pieces_of (observed J).jobs chosen))

-- The chosen jobs are the best that one schedule can serve, as the run observed them, and theirs does. The run
-- completes no more, and no schedule is worth more.
pub record IsOptimum (J : Instance) (chosen : List ℕ) : Type 0 where
  pub best : IsBestSet (observed J).jobs chosen
  pub earned : worth (observed J) (spread (pieces_of (observed J).jobs chosen)) ≡ value_of (observed J).jobs chosen
  pub most : (s : List ℕ) → worth (observed J) s ≤ value_of (observed J).jobs chosen
  pub above : completed_value J ≤ value_of (observed J).jobs chosen
  pub within : value_of (observed J).jobs chosen ≤ bound J.rules.ratio (completed_value J)

-- the jobs are at most 20, and worth no more and due no later than those of version Two may be
abbrev pub IsFew : Instance → Type 0
IsFew J = (length J.jobs ≤ 20) × IsListable J

-- Done with the best set, and Refused exactly where the jobs aren't few
abbrev pub SaysBest : Instance → Status → List ℕ → Type 0
SaysBest J Done text = IsFew J × ((chosen : List ℕ) × IsOptimum J chosen × (text ≡ best_text J chosen))
SaysBest J Refused text = (IsFew J → ⊥) × (text ≡ size_text)
SaysBest J _ text = ⊥
