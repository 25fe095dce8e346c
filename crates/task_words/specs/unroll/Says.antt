-- What the word `unroll` says of tasks.
use Rattle.std.specs.Prelude.{◌≡◌, ℕ, List}
use Rattle.dover_model.specs.Instance.{Declaration}
use Rattle.dover_port.specs.declared.status.Status.{Status}
use Rattle.dover_port.specs.declared.status.Status.TheVariants.{Done, Refused}
use Rattle.dialogue.specs.Sizes.{size_text}
use Rattle.task_words.specs.tasks.Tasks.{unrolled}
use Rattle.task_words.specs.tasks.Limits.{Fits}
use Rattle.task_words.specs.declared.tasks.task.PeriodicTask.{PeriodicTask}
use Rattle.event_feed.specs.Feeds.{IsFeedOf}

-- Done with the feed of all jobs that they release before a tick, and Refused exactly where these are too many for a
-- feed, or worth too much
abbrev pub Says : (until : ℕ) → Declaration → List PeriodicTask → Status → List ℕ → Type 0
Says until rules tasks Done text = Fits until tasks × IsFeedOf (unrolled until rules tasks) text
Says until rules tasks Refused text = (Fits until tasks → ⊥) × (text ≡ size_text)
Says until rules tasks _ text = ⊥
