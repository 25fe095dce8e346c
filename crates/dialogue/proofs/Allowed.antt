-- What holds before each read.
use Rattle.std.proofs.Common.{ℕ, List, [], ◌∷◌, ◌++◌}
use Rattle.dover_port.specs.Moves.{Move, EachReadFrom}
use Rattle.dover_port.specs.Moves.Move.{Got, Ended, Put}

-- a weaker test of each read
pub reads_weaker : (P Q : List ℕ → List ℕ → Type 0) → ((got put : List ℕ) → P got put → Q got put) → (got put : List ℕ)
    → (xs : List Move) → EachReadFrom P got put xs → EachReadFrom Q got put xs
reads_weaker P Q weaker got put [] it = tt
reads_weaker P Q weaker got put (Got bytes ∷ xs) it =
    (weaker got put it.0, reads_weaker P Q weaker (got ++ bytes) put xs it.1)
reads_weaker P Q weaker got put (Ended ∷ xs) it = (weaker got put it.0, it.1)
reads_weaker P Q weaker got put (Put bytes ∷ xs) it = reads_weaker P Q weaker got (put ++ bytes) xs it
