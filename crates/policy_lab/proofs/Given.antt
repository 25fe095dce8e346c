-- What one tick of a policy's run does to the tasks.
use Rattle.std.proofs.Common.{◌≡◌, ℕ, ◌+◌, ◌≤◌, ◌<◌, List, refl, ap, Bool, true, false, cond, eqb, arith, nat_le}
use Rattle.std.proofs.Common.{nat_lt, ◌&&◌}
use Rattle.dover_model.specs.declared.events.Task.{Task}
use Rattle.dover_model.specs.Common.{left, Each, given}
use Rattle.policy_lab.specs.PolicyRun.{is_ready}

-- the three tests, on numbers
tests_say : (r t l d : ℕ) → (nat_le r t && nat_lt 0 l && nat_le (t + l) d) ≡ true → (r ≤ t) × (0 < l) × (t + l ≤ d)
tests_say r t l d h = (grind arith, grind arith, grind arith)

say_tests : (r t l d : ℕ) → r ≤ t → 0 < l → t + l ≤ d → (nat_le r t && nat_lt 0 l && nat_le (t + l) d) ≡ true
say_tests r t l d released some fits = grind arith

-- what it is to be ready
pub ready_says : (t : ℕ) (task : Task) → is_ready t task ≡ true → (task.job.release ≤ t) × (0 < left task)
    × (t + left task ≤ task.job.deadline)
ready_says t task h = tests_say task.job.release t (left task) task.job.deadline h

pub says_ready : (t : ℕ) (task : Task) → task.job.release ≤ t → 0 < left task → t + left task ≤ task.job.deadline
    → is_ready t task ≡ true
says_ready t task released some fits = say_tests task.job.release t (left task) task.job.deadline released some fits

-- the job of this number alone is given the tick
pub given_other : (n : ℕ) (task : Task) → eqb task.number n ≡ false → given n task ≡ task
given_other n task other = ap (λ b. cond b (record task { had = task.had + 1 }) task) other

-- numbers and jobs stay
pub given_number : (n : ℕ) (task : Task) → (given n task).number ≡ task.number
given_number n task = by_test (eqb task.number n) where
  by_test : (b : Bool) → (cond b (record task { had = task.had + 1 }) task).number ≡ task.number
  by_test true = refl
  by_test false = refl

pub given_job : (n : ℕ) (task : Task) → (given n task).job ≡ task.job
given_job n task = by_test (eqb task.number n) where
  by_test : (b : Bool) → (cond b (record task { had = task.had + 1 }) task).job ≡ task.job
  by_test true = refl
  by_test false = refl

-- a tick that goes to a number goes to a job that is ready
abbrev pub Fits : ℕ → ℕ → List Task → Type 0
Fits n t tasks = Each (λ task. eqb task.number n ≡ true → is_ready t task ≡ true) tasks
