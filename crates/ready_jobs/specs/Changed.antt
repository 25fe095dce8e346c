-- What a step makes of the ready jobs.
use Rattle.std.specs.Prelude.{[], ◌≡◌, ◌≤◌, ◌==◌, ◌&&◌, ℕ, List, None, map, if◌then◌else◌, filter, sum_by}
use Rattle.std.specs.List.{list_any}
use Rattle.dover_model.specs.declared.events.Event.{Event}
use Rattle.dover_model.specs.declared.events.Role.TheVariants.{Waiting}
use Rattle.dover_model.specs.declared.events.Task.{Task}
use Rattle.dover_model.specs.Common.{Fraction, is_done, value_sum, Prints, open_step, with_role, role_after, is_ready}
use Rattle.dover_model.specs.State.{is_open_job}
use Rattle.waiting_pool.specs.Reordered.{IsReordered}
use Rattle.ready_jobs.specs.Parts.{Parted, ready_of, state_of}

-- one for the job of this number
abbrev pub named : ℕ → Task → ℕ
named n t = if t.number == n then 1 else 0

-- each number is there at most once
abbrev pub AreOnce : List Task → Type 0
AreOnce tasks = (n : ℕ) → sum_by (named n) tasks ≤ 1

-- the job as one that waits
abbrev pub made_wait : Task → Task
made_wait t = with_role t Waiting

-- the job after a printed step
abbrev pub printed : Event → Task → Task
printed e t = with_role t (role_after e t.number t.role)

-- the running job is over; where no other is ready, the state isn't pressed any more
abbrev pub completed : Parted → Parted
completed p = record p {
  running = None;
  pressed = p.pressed && list_any is_open_job (ready_of (record p { running = None }));
}

-- what a change of each job leaves ready, and what it does: the jobs done are worth so much
pub record Leaves (f : Task → Task) (xs ys : List Task) (worth : ℕ) : Type 0 where
  pub ready : IsReordered (filter is_ready (map f xs)) ys
  pub done : value_sum (filter is_done (map f xs)) ≡ worth

-- the open step of these jobs, for some ratio, is printed
abbrev pub IsNext : Parted → Event → Type 0
IsNext p e = (k : Fraction) × (open_step (record { ratio = k; version = p.version; finishes = [] }) (state_of p)
    ≡ Prints e)
