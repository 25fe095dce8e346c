-- What comparisons are for: the times that jobs begin and cease to wait.
use Rattle.std.specs.Prelude.{ℕ, [], ◌+◌, ◌-◌, ◌*◌, length, ◌^◌, ◌≤◌, ◌<◌, sum_by}
use Rattle.dover_model.specs.State.{State, is_waiting}
use Rattle.dover_model.specs.Weights.{weights_by, weight, Scale, one_if}
use Rattle.dover_model.specs.Step.{Move}
use Rattle.dover_model.specs.WaitingMoves.{enters, leaves}

-- a job to come or a fresh one can cease to wait twice, one that waits or is held once more than it can take,
-- and the running one as often as it can take
abbrev pub exits_scale : Scale
exits_scale = record { coming = 2; fresh = 2; runs = 0 }

-- how many wait
abbrev pub waiting_count : State → ℕ
waiting_count s = sum_by (λ t. one_if (is_waiting t)) s.tasks

-- how often jobs may still cease to wait
abbrev pub exits : State → ℕ
exits s = weights_by [] exits_scale s

-- how often n jobs have begun and ceased to wait so far, at most, where the state has those that aren't over: four
-- times each, but for what may still come
abbrev pub waits_among : ℕ → State → ℕ
waits_among n s = (4 * n + waiting_count s) - 2 * exits s

-- the same where the state has all jobs
abbrev pub waits_so_far : State → ℕ
waits_so_far s = waits_among (length s.tasks) s

-- up to here each time that one of n jobs began or ceased to wait cost 20 * d comparisons at most
abbrev pub HasSpentFor : ℕ → State → (start now : ℕ) → Type 0
HasSpentFor n s start now = (d : ℕ) → n + 1 < 2 ^ d → now ≤ start + 20 * d * waits_among n s

-- how often jobs may still cease to wait, whatever finishes now: nothing stands against a take
abbrev pub exits_freely : State → ℕ
exits_freely s = sum_by (weight exits_scale s.clock 0) s.tasks

-- the same as HasSpentFor, whatever finishes now
abbrev pub HasSpentFreely : ℕ → State → (start now : ℕ) → Type 0
HasSpentFreely n s start now =
    (d : ℕ) → n + 1 < 2 ^ d → now ≤ start + 20 * d * ((4 * n + waiting_count s) - 2 * exits_freely s)

-- the comparisons of a call that serves n jobs are few
abbrev pub CostsAtMost : (n before after : ℕ) → Type 0
CostsAtMost n before after = (d : ℕ) → n + 1 < 2 ^ d → after ≤ before + 80 * (n + 1) * d

-- so many comparisons, where jobs wait in so many orders: in each d for each job that begins to wait, and 3 * d for
-- each that ceases to
abbrev pub cost_of : (orders d : ℕ) → State → Move → ℕ
cost_of orders d s m = orders * d * enters s m + 3 * orders * d * leaves s m
