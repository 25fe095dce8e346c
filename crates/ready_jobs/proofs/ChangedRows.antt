-- What printed steps leave of worked ready jobs, by computation.
use Rattle.dover_model.specs.Common.{fraction, is_done, value_sum, Prints, open_step, is_ready}
use Rattle.std.proofs.Common.{◌≡◌, ℕ, [], ◌∷◌, map, refl, false, Some, None, filter}
use Rattle.dover_model.specs.declared.events.Event.TheVariants.{Preempt, Take, Complete}
use Rattle.dover_model.specs.declared.events.Role.{Role}
use Rattle.dover_model.specs.declared.events.Role.TheVariants.{Fresh, Waiting, Held, Running}
use Rattle.dover_model.specs.declared.events.Task.{Task}
use Rattle.dover_model.specs.declared.events.Version.TheVariants.{One}
use Rattle.ready_jobs.specs.Parts.{Parted, ready_of, state_of}
use Rattle.ready_jobs.specs.Changed.{printed}

-- the job runs, is held and so on, and has had so many ticks; these jobs have no density but 1
abbrev ready_job : Role → (number work deadline had : ℕ) → Task
ready_job role number work deadline had = record {
  number = number;
  job = record { release = 0; work = work; deadline = deadline; value = work };
  role = role;
  had = had;
}

-- one job runs, one is held, and one waits that is heavy against both
abbrev worked : Parted
worked = record {
  version = One;
  clock = 2;
  pressed = false;
  running = Some (ready_job Running 1 3 5 1);
  fresh = None;
  held = ready_job Held 0 4 30 1 ∷ [];
  waiting = ready_job Waiting 2 20 22 0 ∷ [];
  room = 4;
}

takes_next : open_step (record { ratio = fraction 1 1; version = One; finishes = [] }) (state_of worked)
    ≡ Prints (Take 2 1 2)
takes_next = refl

takes : filter is_ready (map (printed (Take 2 1 2)) (ready_of worked))
    ≡ ready_job Waiting 1 3 5 1 ∷ ready_job Waiting 0 4 30 1 ∷ ready_job Running 2 20 22 0 ∷ []
takes = refl

completes : filter is_ready (map (printed (Complete 2 1)) (ready_of worked))
    ≡ ready_job Held 0 4 30 1 ∷ ready_job Waiting 2 20 22 0 ∷ []
completes = refl

completes_worth : value_sum (filter is_done (map (printed (Complete 2 1)) (ready_of worked))) ≡ 3
completes_worth = refl

preempts : filter is_ready (map (printed (Preempt 2 1 3)) (ready_of (record worked
    { fresh = Some (ready_job Fresh 3 1 4 0) })))
    ≡ ready_job Held 1 3 5 1 ∷ ready_job Running 3 1 4 0 ∷ ready_job Held 0 4 30 1 ∷ ready_job Waiting 2 20 22 0 ∷ []
preempts = refl
