-- Lists of finishes, by the completions that they lead to on several processors.
use Rattle.std.specs.Prelude.{◌≡◌, ◌<◌, ◌⊎◌, ◌==◌, ℕ, List, Bool, true, false, not, Option, Some, None}
use Rattle.dover_model.specs.declared.events.Event.{Event}
use Rattle.dover_model.specs.declared.events.Event.TheVariants.{Complete, Run}
use Rattle.dover_model.specs.declared.events.Role.TheVariants.{Running}
use Rattle.dover_model.specs.declared.events.Version.{Version}
use Rattle.dover_model.specs.Finishes.{Finish}
use Rattle.dover_model.specs.Instance.{Instance}
use Rattle.dover_model.specs.Settled.{tick_of_event}
use Rattle.dover_model.specs.State.{is_over}
use Rattle.dover_model.specs.Sound.{Each, EachTwo, IsMember}
use Rattle.many_processors.specs.State.{Placed, State}
use Rattle.many_processors.specs.Step.{Move, all_seen, finishing, first_some}
use Rattle.many_processors.specs.Settled.{settled_steps, settled_state, settled}

-- the completion of the job that has come to the first of these finishes that is due, if one is
abbrev pub due_completion : ℕ → Version → List Finish → State → Option Move
due_completion processors version finishes s = first_some (finishing (all_seen processors version s)) finishes

-- in a state these finishes lead to the completion to which those of the instance do
abbrev pub IsDueAlike : ℕ → Instance → List Finish → State → Type 0
IsDueAlike processors J finishes s = due_completion processors J.rules.version finishes s
    ≡ due_completion processors J.rules.version J.rules.finishes s

-- they do so up to the barrier of the mark, and there
pub record AreDueAlike (processors : ℕ) (J : Instance) (mark : ℕ) (finishes : List Finish) : Type 0 where
  pub before : Each (λ x. IsDueAlike processors J finishes x.before) (settled_steps processors J mark)
  pub there : IsDueAlike processors J finishes (settled_state processors J mark)

-- no running job has come to one of these finishes
abbrev pub NoneIsDue : ℕ → Version → List Finish → State → Type 0
NoneIsDue processors version finishes s = due_completion processors version finishes s ≡ None

-- none has up to the barrier of the mark, nor there
pub record AreYetToCome (processors : ℕ) (J : Instance) (mark : ℕ) (finishes : List Finish) : Type 0 where
  pub before : Each (λ x. NoneIsDue processors J.rules.version finishes x.before) (settled_steps processors J mark)
  pub there : NoneIsDue processors J.rules.version finishes (settled_state processors J mark)

-- in a state all of these finishes that are due complete the same job
abbrev pub CompleteOne : ℕ → Version → List Finish → State → Type 0
CompleteOne processors version finishes s =
    let completes : Finish → Option Move = finishing (all_seen processors version s) in
    EachTwo (λ f g. (m n : Move) → completes f ≡ Some m → completes g ≡ Some n → m ≡ n) finishes

-- the printed step completes a job, or gives a free processor to another job than number n
abbrev pub is_beside : ℕ → Event → Bool
is_beside n (Complete at k) = true
is_beside n (Run at k) = not (k == n)
is_beside n _ = false

-- the job runs at the barrier of the mark, and of the mark's tick nothing was printed but completions and other jobs
-- that got a free processor
pub record RunsAtMark (processors : ℕ) (J : Instance) (mark : ℕ) (p : Placed) : Type 0 where
  pub member : IsMember p (settled_state processors J mark).jobs
  pub runs : p.task.role ≡ Running
  pub before : Each (λ x. (tick_of_event x.1 < mark) ⊎ (is_beside p.task.number x.1 ≡ true))
      (settled processors J mark)

-- each of these finishes is of a job that is over
abbrev pub AreOverFor : List Finish → State → Type 0
AreOverFor finishes s = Each (λ f. Each (λ p. p.task.number ≡ f.number → is_over p.task ≡ true) s.jobs) finishes
