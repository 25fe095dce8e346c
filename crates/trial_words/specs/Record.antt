-- What the moves of a call come to, by how it ended.
use Rattle.std.specs.Prelude.{◌≡◌, ℕ, List, []}
use Rattle.dover_port.specs.Moves.{Move, ArePuts, outs, IsProperPrefix}
use Rattle.dover_port.specs.declared.status.Status.{Status}
use Rattle.dover_port.specs.declared.status.Status.TheVariants.{Done, Refused, WriteFault, Memory}

-- nothing is read, and the text was put: all of it, or a front of it where a write failed
abbrev pub Puts : Status → List ℕ → List Move → Type 0
Puts Done text moves = ArePuts moves × (outs moves ≡ text)
Puts WriteFault text moves = ArePuts moves × IsProperPrefix (outs moves) text
Puts _ text moves = ⊥

-- so it was, or nothing was put where there was no memory
abbrev pub Writes : Status → List ℕ → List Move → Type 0
Writes Memory text moves = moves ≡ []
Writes status text moves = Puts status text moves

-- the same of a text that refuses what was asked for
abbrev pub Refuses : Status → List ℕ → List Move → Type 0
Refuses Refused text moves = ArePuts moves × (outs moves ≡ text)
Refuses WriteFault text moves = ArePuts moves × IsProperPrefix (outs moves) text
Refuses _ text moves = ⊥
