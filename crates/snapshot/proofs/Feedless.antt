-- Lines of snapshots have no line feed.
use Rattle.std.proofs.Common.{List, [], ◌∷◌, ◌++◌, map, refl, decimal, codes}
use Rattle.std.specs.List.{AllByRecursion}
use Rattle.dover_model.specs.declared.events.Role.{Role}
use Rattle.dover_model.specs.declared.events.Role.TheVariants.{Coming}
use Rattle.dover_model.specs.declared.events.Task.{Task}
use Rattle.dover_model.specs.JobFacts.{job_numbers}
use Rattle.dover_model.proofs.texts.NoFeeds.{feedless_line, feedless_decimals, feedless_numbers}
use Rattle.dover_model.proofs.texts.Cuts.{HasNoFeed}
use Rattle.snapshot.specs.Snapshot.{Head, head_line, head_numbers, role_word, state_line, stored_lines}
use Rattle.dover_model.specs.Common.{Item, JobItem, RefusedItem, FinishItem, DoneLine}
use Rattle.event_feed.proofs.Behind.{feedless_feed}

-- the word of a role
feedless_role : (role : Role) → HasNoFeed (role_word role)
feedless_role Coming = refl
feedless_role _ = refl

-- the first line of a snapshot
pub feedless_head : (h : Head) → HasNoFeed (head_line h)
feedless_head h = feedless_numbers (codes "snapshot") (head_numbers h) refl

-- the line of a job
feedless_state : (t : Task) → HasNoFeed (state_line t)
feedless_state t =
    let numbers = feedless_decimals (t.number ∷ t.had ∷ job_numbers t.job) in
    feedless_line (codes "state") (decimal t.number ∷ role_word t.role ∷ map decimal (t.had ∷ job_numbers t.job)) refl
    (numbers.0, (feedless_role t.role, numbers.1))

-- the lines of what was handed in, and the last line
pub feedless_stored : (items : List Item) (tasks : List Task)
    → AllByRecursion HasNoFeed (stored_lines items tasks ++ codes "resume" ∷ [])
feedless_stored [] tasks = (refl, tt)
feedless_stored (JobItem j ∷ items) [] = feedless_stored items []
feedless_stored (JobItem j ∷ items) (t ∷ tasks) = (feedless_state t, feedless_stored items tasks)
feedless_stored (RefusedItem r ∷ items) tasks = feedless_stored items tasks
feedless_stored (FinishItem f ∷ items) tasks =
    (feedless_feed (DoneLine f.at f.finish.number), feedless_stored items tasks)
