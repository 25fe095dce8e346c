-- What is put of the answer to tasks.
use Rattle.std.specs.Prelude.{ℕ, List, [], Option, Result, Ok, Err}
use Rattle.dover_port.specs.Moves.{Move, Passes, CutsShort}
use Rattle.dover_port.specs.declared.status.Status.{Status}
use Rattle.dialogue.specs.declared.talker.Stop.{Stop}
use Rattle.dialogue.specs.declared.talker.Stop.TheVariants.{NoMemory, Unwritten}

-- what is to be said was put, or a front of it that isn't all, or there was no memory for it
abbrev pub SaysBy : (says : Status → List ℕ → Type 0) → (old new : Option (List Move)) → (after : List ℕ)
    → Result Status Stop → Type 0
SaysBy says old new after (Ok status) = (text : List ℕ) × says status text × Passes old new [] after text
SaysBy says old new after (Err Unwritten) =
    (status : Status) × (text : List ℕ) × says status text × CutsShort old new [] text
SaysBy says old new after (Err NoMemory) = Passes old new [] after []
