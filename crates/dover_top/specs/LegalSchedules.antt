-- What is promised of a schedule that is drawn.
use Rattle.std.specs.Prelude.{◌≡◌, ◌≤◌, ℕ, List, map, sum_by}
use Rattle.dover_model.specs.Common.{Instance, worth}
use Rattle.dover_port.specs.Moves.{Move, ins}
use Rattle.schedule_judge.specs.Account.{account}
use Rattle.schedule_judge.specs.Jobs.{value_done}
use Rattle.schedule_judge.specs.declared.intake.Standing.TheVariants.{Ended}

-- the text that was read is a legal schedule, and so a schedule of its jobs: some schedule of these, tick by tick, is
-- worth what it completes or more
pub record IsLegal (moves : List Move) : Type 0 where
  pub ended : (account (ins moves)).standing ≡ Ended
  pub some_schedule : (J : Instance) → J.jobs ≡ map (λ told. told.job) (account (ins moves)).schedule.jobs
      → (s : List ℕ) × (sum_by value_done (account (ins moves)).schedule.jobs ≤ worth J s)
