-- The texts that are put where a task text is refused.
use Rattle.std.specs.Prelude.{ℕ, suc, List, [], ◌∷◌, length}
use Rattle.dover_model.specs.Common.{fault_text, Standing, Open, Ended, Faulty, whole_lines, in_lines}
use Rattle.dover_model.specs.Feed.{Short}
use Rattle.task_words.specs.reading.Account.{account}

-- the line of the fault, or where the input ended before the text, that it is short
abbrev pub refusal_lines : (whole : ℕ) → Standing → List (List ℕ)
refusal_lines whole Open = fault_text (suc whole) Short ∷ []
refusal_lines whole Ended = []
refusal_lines whole (Faulty line cause) = fault_text line cause ∷ []

-- what refuses the task text of these bytes where the input ends behind them
abbrev pub refusal_text : (until : ℕ) → List ℕ → List ℕ
refusal_text until bytes = in_lines (refusal_lines (length (whole_lines bytes)) (account until bytes).standing)
