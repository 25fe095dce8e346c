-- What is due of a run up to a horizon.
use Rattle.std.proofs.Common.{◌+◌, ◌*◌, arith, sym, ◌≤◌, length, [], ℕ, List, ◌∷◌, append-nil}
use Rattle.std.specs.List.{AllByRecursion}
use Rattle.dover_model.specs.Common.{Horizon, Mark, MayFollow, due_by, Instance, IsValid, printed, Begins, JobFacts}
use Rattle.dover_model.specs.Common.{IsJob, last_tick, most_jobs}
use Rattle.dover_model.specs.declared.horizon.Horizon.TheVariants.{End}
use Rattle.dover_model.proofs.sessions.Growing.{settled_of_run}
use Rattle.dover_model.proofs.lists.Beginnings.{begins_length}
use Rattle.dover_model.proofs.runs.Ending.{few_printed}
use Rattle.dover_model.proofs.valid.ValidParts.{valid_parts}
use Rattle.dover_model.proofs.valid.JobLimits.{job_limits}

-- a horizon may follow itself, where it may follow another
pub follows_on : (from to : Horizon) → MayFollow from to → MayFollow to to
follows_on (Mark m) (Mark t) follows = (omega arith, follows.1)
follows_on (Mark m) End follows = tt
follows_on End (Mark t) follows = absurd follows
follows_on End End follows = tt

-- what is due up to a horizon begins the run
pub due_begins : (J : Instance) (to : Horizon) → IsValid J → Begins (due_by J to) (printed J)
due_begins J (Mark t) valid = settled_of_run J t valid
due_begins J End valid = ([], sym (append-nil (printed J)))

-- these are few steps
pub due_few : (J : Instance) (to : Horizon) → IsValid J
    → length (due_by J to) ≤ 5 * most_jobs J.rules.version + 1
due_few J to valid = omega (
  arith,
  few_printed J valid,
  (valid_parts valid).count,
  begins_length (due_by J to) (printed J) (due_begins J to valid),
)

-- jobs released at this tick or later may follow it
pub may_follow : (t : ℕ) (jobs : List JobFacts) → AllByRecursion (λ j. t ≤ j.release) jobs → AllByRecursion IsJob jobs
    → AllByRecursion (λ j. MayFollow (Mark t) (Mark j.release)) jobs
may_follow t [] later each = tt
may_follow t (j ∷ jobs) later each =
    let window : j.release + j.work ≤ j.deadline = (job_limits each.0).window in let due : j.deadline ≤ last_tick =
    (job_limits each.0).due in
    ((later.0, omega arith), may_follow t jobs later.1 each.1)
