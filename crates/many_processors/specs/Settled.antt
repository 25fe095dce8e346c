-- The steps of a run on several processors that no later job can change.
use Rattle.std.specs.Prelude.{◌≡◌, ◌≤◌, ℕ, zero, suc, ◌+◌, ◌*◌, ◌++◌, List, [], ◌∷◌, length, Bool, true, false, ◌&&◌}
use Rattle.std.specs.Prelude.{nat_le}
use Rattle.std.specs.Prelude.{filter_map, fold}
use Rattle.dover_model.specs.declared.events.Event.{Event}
use Rattle.dover_model.specs.declared.events.Role.TheVariants.{Coming}
use Rattle.dover_model.specs.Instance.{Instance, Rules}
use Rattle.dover_model.specs.Settled as one_settled
use Rattle.dover_model.specs.Sound.{Each}
use Rattle.dover_model.specs.Step as single
use Rattle.many_processors.specs.State.{Placed, State, opening}
use Rattle.many_processors.specs.Step.{Move, Prints, Waits, Ticks, open_step, after}
use Rattle.many_processors.specs.Run.{Step, placed_event_of}

-- a decision at a latest start, or a silent tick
abbrev pub waits_for_mark : Move → Bool
waits_for_mark (Prints q e) = one_settled.waits_for_mark (single.Prints e)
waits_for_mark (Waits n) = false
waits_for_mark Ticks = true

-- The open steps from s that come before the first late one at the mark or after it, of which there are at most so
-- many.
abbrev pub settled_from : ℕ → Rules → ℕ → ℕ → State → List Step
settled_from processors rules mark zero s = []
settled_from processors rules mark (suc more) s =
    let m = open_step processors rules s in
    elim (waits_for_mark m && nat_le mark s.clock)
    [ true ↦ [] | false ↦ record { before = s; move = m } ∷ settled_from processors rules mark more (after s m) ]

-- the open steps up to there: a tick each below the mark, and at most five more for each job
abbrev pub settled_steps : ℕ → Instance → ℕ → List Step
settled_steps processors J mark =
    settled_from processors J.rules mark (mark + 5 * length J.jobs + 1) (opening J.jobs)

-- the printed ones among them, with their processors
abbrev pub settled : ℕ → Instance → ℕ → List (ℕ × Event)
settled processors J mark = filter_map (λ step. placed_event_of step.move) (settled_steps processors J mark)

-- the state after them
abbrev pub settled_state : ℕ → Instance → ℕ → State
settled_state processors J mark =
    fold (λ s step. after step.before step.move) (opening J.jobs) (settled_steps processors J mark)

-- the state with these jobs behind its own
abbrev pub with_later : State → List Placed → State
with_later s more = record { clock = s.clock; jobs = s.jobs ++ more; pressed = s.pressed }

-- jobs to come, at the mark or later
abbrev pub AllComeFrom : ℕ → List Placed → Type 0
AllComeFrom mark more = Each (λ p. p.task.role ≡ Coming) more × Each (λ p. mark ≤ p.task.job.release) more

-- the open step is a late one at the mark or after it
abbrev pub IsBarrier : ℕ → Rules → ℕ → State → Type 0
IsBarrier processors rules mark s = (waits_for_mark (open_step processors rules s) && nat_le mark s.clock) ≡ true

-- it comes before any late one at the mark or after it
abbrev pub IsBefore : ℕ → Rules → ℕ → State → Type 0
IsBefore processors rules mark s = (waits_for_mark (open_step processors rules s) && nat_le mark s.clock) ≡ false

-- these are the open steps from s that come before the barrier
abbrev pub IsSettledRun : ℕ → Rules → ℕ → State → List Step → Type 0
IsSettledRun processors rules mark s [] = IsBarrier processors rules mark s
IsSettledRun processors rules mark s (x ∷ xs) = (x ≡ record { before = s; move = open_step processors rules s })
    × IsBefore processors rules mark s
    × IsSettledRun processors rules mark (after s (open_step processors rules s)) xs
