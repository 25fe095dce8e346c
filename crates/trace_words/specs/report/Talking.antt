-- What is put of the answer.
use Rattle.std.specs.Prelude.{ℕ, List, [], Option, Result, Ok, Err}
use Rattle.dover_port.specs.Moves.{Move, Passes, CutsShort}
use Rattle.dialogue.specs.declared.talker.Stop.{Stop}
use Rattle.dialogue.specs.declared.talker.Stop.TheVariants.{NoMemory, Unwritten}

-- a text of which this holds was put, but for what is kept back after, or a front of it that isn't all, or there was no
-- memory for it
abbrev pub Puts : {T : Type 0} → Result T Stop → (old new : Option (List Move)) → (after : List ℕ)
    → (Holds : List ℕ → Type 0) → Type 0
Puts (Ok x) old new after Holds = (text : List ℕ) × Holds text × Passes old new [] after text
Puts (Err NoMemory) old new after Holds = Passes old new [] after []
Puts (Err Unwritten) old new after Holds = (text : List ℕ) × Holds text × CutsShort old new [] text
