-- What is kept of a run that is watched.
use Rattle.std.specs.Prelude.{◌≡◌, ℕ, List, get_or, false}
use Rattle.std.specs.List.{fold, list_any}
use Rattle.dover_model.specs.Run.{value_of_end}
use Rattle.dover_model.specs.declared.events.Event.{Event}
use Rattle.question_words.specs.Loss.{completes}
use Rattle.question_words.specs.declared.completing.Completion.{Completion}

-- the value that an End names, and whether the job of each number is completed, if no flag was lost
pub record HasSeen (w : Completion) (events : List Event) : Type 0 where
  pub value : w.value ≡ fold (λ value e. value_of_end e value) 0 events
  pub done : w.lost ≡ false → (n : ℕ) → get_or w.done.items n false ≡ list_any (completes n) events
