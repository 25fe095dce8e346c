-- What each job can still bring about, as a number.
use Rattle.std.specs.Prelude.{ℕ, ◌+◌, List, Bool, ◌||◌, ◌&&◌, nat_lt, if◌then◌else◌, sum_by}
use Rattle.dover_model.specs.declared.events.Task.{Task}
use Rattle.dover_model.specs.Finishes.{Finish, goes_on}
use Rattle.dover_model.specs.State.{is_running, is_held, latest_start, State}
use Rattle.dover_model.specs.declared.events.Role.{Role}
use Rattle.dover_model.specs.declared.events.Role.TheVariants.{Coming, Fresh, Waiting, Held, Running, Done, Gone}

-- what the job adds to the value that a take has to beat, where it goes on
abbrev pub stands : List Finish → Task → ℕ
stands finishes t = if is_held t || (is_running t && goes_on finishes t) then t.job.value else 0

-- what stands against a take
abbrev pub standing : List Finish → List Task → ℕ
standing finishes tasks = sum_by (stands finishes) tasks

-- one where it is true
abbrev pub one_if : Bool → ℕ
one_if b = if b then 1 else 0

-- what jobs to come, fresh jobs and the running job weigh at least
pub record Scale : Type 0 where
  pub coming : ℕ
  pub fresh : ℕ
  pub runs : ℕ

-- what a job can still bring about, where w stands against a take: beside what its role weighs, one where it could take
-- later
abbrev pub weight_in : Scale → Role → ℕ → ℕ → Task → ℕ
weight_in z Coming clock w t = z.coming
weight_in z Fresh clock w t = z.fresh
weight_in z Waiting clock w t = z.runs + 1 + one_if (nat_lt clock (latest_start t) || nat_lt w t.job.value)
weight_in z Held clock w t = z.runs + 1 + one_if (nat_lt clock (latest_start t))
weight_in z Running clock w t = z.runs + one_if (nat_lt clock (latest_start t))
weight_in z Done clock w t = 0
weight_in z Gone clock w t = 0

-- of a job in its role
abbrev pub weight : Scale → ℕ → ℕ → Task → ℕ
weight z clock w t = weight_in z t.role clock w t

-- of all jobs
abbrev pub weights_by : List Finish → Scale → State → ℕ
weights_by finishes z s = sum_by (weight z s.clock (standing finishes s.tasks)) s.tasks
