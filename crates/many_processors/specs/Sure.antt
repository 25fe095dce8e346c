-- Jobs that no run on several processors loses.
use Rattle.std.specs.Prelude.{◌≡◌, ℕ}
use Rattle.dover_model.specs.declared.events.Role.TheVariants.{Done}
use Rattle.dover_model.specs.Instance.{Instance}
use Rattle.dover_model.specs.Sound.{Each}
use Rattle.many_processors.specs.Observed.{end_state}

-- at the end of the run the job of this number is done
abbrev pub IsCompleted : (processors : ℕ) → Instance → (n : ℕ) → Type 0
IsCompleted processors J n = Each (λ p. p.task.number ≡ n → p.task.role ≡ Done) (end_state processors J).jobs
