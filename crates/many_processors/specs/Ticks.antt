-- Who has the ticks of a run on several processors.
use Rattle.std.specs.Prelude.{◌≡◌, ℕ, ◌≤◌, List, ◌==◌, Bool, false}
use Rattle.std.specs.List.{count_by}
use Rattle.dover_model.specs.declared.events.Role.TheVariants.{Running}
use Rattle.dover_model.specs.Instance.{Instance}
use Rattle.dover_model.specs.Sound.{IsMember}
use Rattle.dover_model.specs.Step as single
use Rattle.dover_model.specs.Windows.{crosses}
use Rattle.dover_model.specs.Underload as underload
use Rattle.dover_model.specs.Processor as processor
use Rattle.many_processors.specs.State.{Placed, State}
use Rattle.many_processors.specs.Step.{Move, Prints, Waits, Ticks}

-- some job runs on processor q
abbrev pub SomeRunsOn : ℕ → State → Type 0
SomeRunsOn q s = (p : Placed) × IsMember p s.jobs × (p.task.role ≡ Running) × (p.owner ≡ q)

-- no number stands there twice
abbrev pub AreDifferent : List ℕ → Type 0
AreDifferent numbers = (n : ℕ) → count_by (λ m. n == m) numbers ≤ 1

-- a take or an abandonment
abbrev pub takes_or_abandons : Move → Bool
takes_or_abandons (Prints q e) = underload.takes_or_abandons (single.Prints e)
takes_or_abandons (Waits n) = false
takes_or_abandons Ticks = false

-- job n preempts
abbrev pub is_preempt_of : ℕ → Move → Bool
is_preempt_of n (Prints q e) = processor.is_preempt_of n (single.Prints e)
is_preempt_of n (Waits other) = false
is_preempt_of n Ticks = false

-- job n takes a processor
abbrev pub is_take_of : ℕ → Move → Bool
is_take_of n (Prints q e) = processor.is_take_of n (single.Prints e)
is_take_of n (Waits other) = false
is_take_of n Ticks = false

-- a job begins or goes on at a free processor
abbrev pub is_run : Move → Bool
is_run (Prints q e) = processor.is_run (single.Prints e)
is_run (Waits n) = false
is_run Ticks = false

-- a job is completed
abbrev pub is_complete : Move → Bool
is_complete (Prints q e) = processor.is_complete (single.Prints e)
is_complete (Waits n) = false
is_complete Ticks = false

-- no tick is in the windows of more jobs than so many
abbrev pub FewAtOnce : ℕ → Instance → Type 0
FewAtOnce processors J = (t : ℕ) → count_by (crosses t) J.jobs ≤ processors
