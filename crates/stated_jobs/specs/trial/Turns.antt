-- The turns of a stated feed of a seed: in each a job is drawn, and perhaps a line behind it that says a job done.
use Rattle.std.specs.Prelude.{ℕ, zero, suc, ◌+◌, ◌-◌, ◌%◌, ◌==◌, List, [], ◌∷◌, Option, Some, None, if◌then◌else◌}
use Rattle.dover_model.specs.Common.{Fraction, next_state, high_bits, job_of_draws, JobFacts}
use Rattle.stated_jobs.specs.declared.trial.turns.Done.{Done}
use Rattle.stated_jobs.specs.declared.trial.turns.Turn.{Turn}

-- the state after the four draws of a job
abbrev pub next_four : ℕ → ℕ
next_four state = next_state (next_state (next_state (next_state state)))

-- the job of the next four draws, after a tick
abbrev pub next_job : Fraction → (state last : ℕ) → JobFacts
next_job k state last = job_of_draws k last (high_bits (next_state state)) (high_bits (next_state (next_state state)))
    (high_bits (next_state (next_state (next_state state)))) (high_bits (next_four state))

-- What two draws say behind the job of this number, released at this tick: nothing where the first is a multiple of 4,
-- else that the job, or the one before it, is done by a tick.
abbrev pub done_of_draws : (number release tick back : ℕ) → Option Done
done_of_draws number release tick back =
    if tick % 4 == 0 then None else Some (record { tick = release + tick % 8; number = number - back % 2 })

-- the turn of the next six draws, after so many jobs and a tick
abbrev pub next_turn : Fraction → (number state last : ℕ) → Turn
next_turn k number state last =
    let job = next_job k state last in
    let fifth = next_state (next_four state) in
    record { job = job; done = done_of_draws number job.release (high_bits fifth) (high_bits (next_state fifth)) }

-- the last tick that is named in a turn
abbrev pub last_named : Turn → ℕ
last_named turn = elim turn.done [ None ↦ turn.job.release | Some done ↦ done.tick ]

-- so many turns from a state of the generator, after so many jobs and a tick
abbrev pub drawn_turns_from : Fraction → (count : ℕ) → (number state last : ℕ) → List Turn
drawn_turns_from k zero number state last = []
drawn_turns_from k (suc count) number state last =
    let turn = next_turn k number state last in
    turn ∷ drawn_turns_from k count (suc number) (next_state (next_state (next_four state))) (last_named turn)

-- so many turns from a seed
abbrev pub drawn_turns : (seed count : ℕ) → Fraction → List Turn
drawn_turns seed count k = drawn_turns_from k count 0 seed 0
