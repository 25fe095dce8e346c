-- Steps by which a job gets the processor, or frees it.
use Rattle.std.specs.Prelude.{ℕ, Bool, true, false, ◌==◌, List, Option, Some, None, fold}
use Rattle.dover_model.specs.declared.events.Event.{Event}
use Rattle.dover_model.specs.declared.events.Event.TheVariants.{Release, Run, Preempt, Take, Complete, Abandon, End}
use Rattle.dover_model.specs.Step.{Move, Prints}

-- the job of this number takes the processor
abbrev pub is_take_of : ℕ → Move → Bool
is_take_of n (Prints (Take at stops starts)) = starts == n
is_take_of n _ = false

-- the job of this number preempts
abbrev pub is_preempt_of : ℕ → Move → Bool
is_preempt_of n (Prints (Preempt at stops starts)) = starts == n
is_preempt_of n _ = false

-- the job of this number gets the processor: a free one, or by a preemption or a take
abbrev pub gets : ℕ → Move → Bool
gets n (Prints (Run at starts)) = starts == n
gets n (Prints (Preempt at stops starts)) = starts == n
gets n (Prints (Take at stops starts)) = starts == n
gets n _ = false

-- some job does
abbrev pub changes_hands : Move → Bool
changes_hands (Prints (Run at starts)) = true
changes_hands (Prints (Preempt at stops starts)) = true
changes_hands (Prints (Take at stops starts)) = true
changes_hands _ = false

-- a job begins or goes on at a free processor
abbrev pub is_run : Move → Bool
is_run (Prints (Run at n)) = true
is_run _ = false

-- the running job is done
abbrev pub is_complete : Move → Bool
is_complete (Prints (Complete at n)) = true
is_complete _ = false

-- the number of the job that has the processor behind a printed step, where this one had it before
abbrev pub runner_after : Option ℕ → Event → Option ℕ
runner_after before (Release n job) = before
runner_after before (Run at n) = Some n
runner_after before (Preempt at stops starts) = Some starts
runner_after before (Take at stops starts) = Some starts
runner_after before (Complete at n) = None
runner_after before (Abandon at n) = before
runner_after before (End value) = before

-- the number of the job that has the processor behind these printed steps
abbrev pub runner_of : List Event → Option ℕ
runner_of events = fold runner_after None events
