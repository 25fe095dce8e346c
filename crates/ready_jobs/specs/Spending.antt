-- What the comparisons of a course are for.
use Rattle.std.specs.Prelude.{ℕ, ◌≤◌, ◌<◌, ◌+◌, ◌*◌, ◌^◌, List, length, Option, Some, None, filter}
use Rattle.dover_model.specs.Common.{is_held, HasSpentFor, HasSpentFreely}
use Rattle.dover_model.specs.declared.events.Event.{Event}
use Rattle.dover_model.specs.declared.events.Event.TheVariants.{Take}
use Rattle.dover_model.specs.declared.events.Task.{Task}
use Rattle.waiting_pool.specs.Pools.{orders_of}
use Rattle.ready_jobs.specs.Course.{Course, state_of_course}

-- up to here each time that one of the jobs released so far began or ceased to wait cost 20 * d comparisons at most
abbrev pub HasPaid : Course → (start now : ℕ) → Type 0
HasPaid c start now = HasSpentFor c.jobs (state_of_course c) start now

-- the same, even where the running job finishes now
abbrev pub HasPaidFreely : Course → (start now : ℕ) → Type 0
HasPaidFreely c start now = HasSpentFreely c.jobs (state_of_course c) start now

-- the same where the last step was printed at this tick: the running job may finish till one is printed at the clock
pub record HasPaidSince (c : Course) (last start now : ℕ) : Type 0 where
  pub paid : HasPaid c start now
  pub freely : last < c.clock → HasPaidFreely c start now

-- how many held jobs wait again by a step: all of them by a take
abbrev pub wait_again : Event → List Task → ℕ
wait_again (Take at stops starts) held = length held
wait_again e held = 0

-- the same of what a call answers
abbrev pub wait_again_by : Option Event → List Task → ℕ
wait_again_by (Some e) held = wait_again e held
wait_again_by None held = 0

-- the comparisons of one call, with d the binary digits of how many jobs are ready: for each order in which jobs wait
-- at most 6 * d, and by a take d more for each job that was held
abbrev pub CostsOnce : Course → Option Event → (before now : ℕ) → Type 0
CostsOnce c answer before now = (d : ℕ) → length c.ready + 1 < 2 ^ d
    → now ≤ before + orders_of c.rules.version * d * (6 + wait_again_by answer (filter is_held c.ready))
