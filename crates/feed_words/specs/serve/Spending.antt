-- How many comparisons a call makes.
use Rattle.std.specs.Prelude.{ℕ, List}
use Rattle.dover_model.specs.Common.{account, CostsAtMost}
use Rattle.event_feed.specs.Answers.{admitted_in}
use Rattle.dover_port.specs.Moves.{Move, ins}

-- The n jobs that were admitted, none before a ratio line, cost at most 80 * (n + 1) * d comparisons, where n + 1 has
-- at most d binary digits.
abbrev pub IsFrugal : (before after : ℕ) → List Move → Type 0
IsFrugal before after moves = CostsAtMost (admitted_in (account (ins moves))) before after
