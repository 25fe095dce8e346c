-- What the word `bait` writes.
use Rattle.std.specs.Prelude.{ℕ, List, [], ◌∷◌, length, codes, ◌⊎◌}
use Rattle.dover_model.specs.Common.{Fraction, Instance, completed_value, bound, bait_jobs, bait_plan, worth}
use Rattle.dover_model.specs.Common.{with_numbers, in_lines}
use Rattle.dover_port.specs.Moves.{Move}
use Rattle.dover_port.specs.declared.status.Status.{Status}
use Rattle.dialogue.specs.Sizes.{size_text}
use Rattle.stated_jobs.specs.bait.Baiting.{FitsLimits}
use Rattle.stated_jobs.specs.bait.BaitingRuns.{baiting_feed}
use Rattle.trial_words.specs.Record.{Puts, Refuses}

-- the baiting feed of so many rounds
abbrev pub bait_instance : Fraction → (rounds : ℕ) → Instance
bait_instance k rounds = baiting_feed k rounds

-- what is written of a feed that is within the limits: how many jobs it has, what its run completes, what the schedule
-- of its unit jobs and its bait is worth, and the bound
abbrev pub bait_text : Fraction → (rounds : ℕ) → List ℕ
bait_text k rounds = let value = completed_value (bait_instance k rounds) in in_lines (
    with_numbers (codes "jobs") (length (bait_jobs k rounds) ∷ [])
    ∷ with_numbers (codes "value") (value ∷ [])
    ∷ with_numbers (codes "schedule") (worth (bait_instance k rounds) (bait_plan k rounds) ∷ [])
    ∷ with_numbers (codes "bound") (bound k value ∷ [])
    ∷ []
    )

-- Of baiting jobs that fit the limits, what their run comes to was put, and of others that they don't.
abbrev pub Baits : Fraction → (rounds : ℕ) → Status → List Move → Type 0
Baits k rounds status moves = (FitsLimits k rounds × Puts status (bait_text k rounds) moves)
    ⊎ ((FitsLimits k rounds → ⊥) × Refuses status size_text moves)
