-- What the word `feasible` says of the jobs of a feed.
use Rattle.std.specs.Prelude.{◌≡◌, ℕ, List, [], ◌∷◌, length, codes}
use Rattle.dover_model.specs.Common.{Instance, IsListable, with_numbers, in_lines, Meets}
use Rattle.dover_model.specs.declared.pieces.Piece.{Piece}
use Rattle.dover_port.specs.declared.status.Status.{Status}
use Rattle.dover_port.specs.declared.status.Status.TheVariants.{Done, No, Refused}
use Rattle.clairvoyant.specs.feasible.Feasibility.{ShowsAll, ShowsWindow}
use Rattle.dialogue.specs.Sizes.{size_text}
use Rattle.question_words.specs.Texts.{piece_lines}

-- how many pieces there are, and each of them
abbrev pub pieces_text : List Piece → List ℕ
pieces_text pieces = in_lines (with_numbers (codes "feasible") (length pieces ∷ []) ∷ piece_lines pieces)

-- a window with more work than ticks
abbrev pub window_text : (a b work : ℕ) → List ℕ
window_text a b work = in_lines (with_numbers (codes "window") (a ∷ b ∷ work ∷ []) ∷ [])

-- Done where some schedule serves every job, with the pieces of one that does, and else No, with the window that shows
-- it; and Refused exactly where the jobs are more, or worth more or due later, than those of version Two may be
abbrev pub SaysFeasible : Instance → Status → List ℕ → Type 0
SaysFeasible J Done text = IsListable J × Meets J
    × ((pieces : List Piece) × ShowsAll J.jobs pieces × (text ≡ pieces_text pieces))
SaysFeasible J No text = IsListable J × (Meets J → ⊥)
    × ((a : ℕ) × (b : ℕ) × (work : ℕ) × ShowsWindow J.jobs a b work × (text ≡ window_text a b work))
SaysFeasible J Refused text = (IsListable J → ⊥) × (text ≡ size_text)
SaysFeasible J _ text = ⊥
