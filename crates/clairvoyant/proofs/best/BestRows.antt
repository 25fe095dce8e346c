-- The pieces and the value of a set, by computation.
use Rattle.std.proofs.Common.{◌≡◌, ℕ, [], ◌∷◌, refl}
use Rattle.dover_model.specs.declared.pieces.Piece.{Piece}
use Rattle.dover_model.proofs.rows.Written.{job}
use Rattle.clairvoyant.specs.best.BestSet.{value_of, pieces_of}

-- the ticks from one on and before another
abbrev piece : ℕ → ℕ → ℕ → Piece
piece from until number = record { from = from; until = until; number = number }

-- a long job is held while a shorter one runs
best_pieces : pieces_of (job 0 10 14 10 ∷ job 1 2 5 2 ∷ job 1 3 8 3 ∷ []) (0 ∷ 2 ∷ []) ≡ piece 0 1 0 ∷ piece 1 4 2
    ∷ piece 4 13 0 ∷ []
best_pieces = refl

best_value : value_of (job 0 10 14 10 ∷ job 1 2 5 2 ∷ job 1 3 8 3 ∷ []) (0 ∷ 2 ∷ []) ≡ 13
best_value = refl
