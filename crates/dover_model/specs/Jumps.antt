-- Many silent ticks at once.
use Rattle.std.specs.Prelude.{◌≡◌, ℕ, ◌+◌, ◌≤◌, map, true, if◌then◌else◌}
use Rattle.dover_model.specs.declared.events.Role.TheVariants.{Coming, Fresh, Waiting, Running}
use Rattle.dover_model.specs.declared.events.Task.{Task}
use Rattle.dover_model.specs.State.{State, is_ready_behind, is_running, left, latest_start}
use Rattle.dover_model.specs.Sound.{Each, NoneRuns}

-- the running job has n ticks more
abbrev pub ticked_by : ℕ → Task → Task
ticked_by n t = record {
  number = t.number;
  job = t.job;
  role = t.role;
  had =
      if is_running t then t.had + n else t.had;
}

-- the state with the clock n further, and n ticks more for the running job
abbrev pub later_by : ℕ → State → State
later_by n s = record s { clock = s.clock + n; tasks = map (ticked_by n) s.tasks }

-- nothing is due before n ticks have passed: no decision, completion, latest start or release
pub record NothingDue (n : ℕ) (s : State) : Type 0 where
  pub none_fresh : Each (λ t. t.role ≡ Fresh → ⊥) s.tasks
  pub running : Each (λ t. t.role ≡ Running → n ≤ left t) s.tasks
  pub waiting : Each (λ t. t.role ≡ Waiting → s.clock + n ≤ latest_start t) s.tasks
  pub coming : Each (λ t. t.role ≡ Coming → s.clock + n ≤ t.job.release) s.tasks
  -- the processor is free only where no job is ready
  pub busy : NoneRuns s.tasks → Each (λ t. is_ready_behind t ≡ true → ⊥) s.tasks
