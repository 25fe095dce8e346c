-- The next turn, and those after it.
use Rattle.std.proofs.Common.{◌≡◌, ℕ, zero, suc, ◌+◌, ◌-◌, ◌≤◌, ◌∷◌, ◌%◌, ◌==◌, Option, Some, None, sym, ap, ◌∙◌, arith}
use Rattle.std.proofs.Common.{Bool, true, false, if◌then◌else◌}
use Rattle.dover_model.specs.Common.{Fraction, next_state, high_bits, JobFacts}
use Rattle.stated_jobs.specs.trial.Turns.{next_four, next_job, next_turn, last_named, done_of_draws, drawn_turns_from}
use Rattle.stated_jobs.specs.declared.trial.turns.Done.{Done}
use Rattle.stated_jobs.specs.declared.trial.turns.Turn.{Turn}

-- the state after six draws
abbrev pub next_six : ℕ → ℕ
next_six state = next_state (next_state (next_four state))

-- a turn of these parts
abbrev pub turn_of : JobFacts → Option Done → Turn
turn_of job said = record { job = job; done = said }

-- a job and what is said behind it are the next turn
pub turn_is : (k : Fraction) (number state last release tick back : ℕ) (job : JobFacts) (said : Option Done)
    → job ≡ next_job k state last → release ≡ job.release → tick ≡ next_state (next_four state)
    → back ≡ next_six state → said ≡ done_of_draws number release (high_bits tick) (high_bits back)
    → turn_of job said ≡ next_turn k number state last
turn_is k number state last release tick back job said job_is release_is tick_is back_is said_is =
    ap (λ d. turn_of job d) (said_is
    ∙ ap (λ r. done_of_draws number r (high_bits tick) (high_bits back)) release_is
    ∙ ap (λ t. done_of_draws number job.release (high_bits t) (high_bits back)) tick_is
    ∙ ap (λ b. done_of_draws number job.release (high_bits (next_state (next_four state))) (high_bits b)) back_is)
    ∙ ap (λ (j : JobFacts). turn_of j
    (done_of_draws number j.release (high_bits (next_state (next_four state))) (high_bits (next_six state)))) job_is

-- what is said of a job is said at its release or soon after
done_soon : (number release tick back : ℕ) (job : JobFacts) → job.release ≡ release
    → last_named (turn_of job (done_of_draws number release tick back)) ≤ release + 7
done_soon number release tick back job is = by (tick % 4 == 0) where
  by : (none : Bool) → last_named (turn_of job
      (if none then None else Some (record { tick = release + tick % 8; number = number - back % 2 }))) ≤ release + 7
  by true = omega (arith, is)
  by false = omega arith

-- and its release soon after the tick before it
pub named_soon : (k : Fraction) (number state last release tick back : ℕ) (job : JobFacts) (said : Option Done)
    → job ≡ next_job k state last → release ≡ job.release
    → said ≡ done_of_draws number release (high_bits tick) (high_bits back)
    → last_named (turn_of job said) ≤ last + 14
named_soon k number state last release tick back job said job_is release_is said_is =
    let early : job.release ≤ last + 7 = rw job_is (omega arith) in
    let soon : last_named (turn_of job said) ≤ release + 7 =
    rw said_is (done_soon number release (high_bits tick) (high_bits back) job (sym release_is)) in
    omega (arith, early, soon, release_is)

-- where some are still to come, the next turn is before the others
pub one_turn : (k : Fraction) (left number state last : ℕ) (turn : Turn) (state2 last2 : ℕ) → 1 ≤ left
    → turn ≡ next_turn k number state last → state2 ≡ next_six state → last2 ≡ last_named turn
    → drawn_turns_from k left number state last ≡ turn ∷ drawn_turns_from k (left - 1) (number + 1) state2 last2
one_turn k zero number state last turn state2 last2 some here later named = absurd (omega arith)
one_turn k (suc left) number state last turn state2 last2 some here later named =
    let fewer : suc left - 1 ≡ left = omega arith in
    let more : number + 1 ≡ suc number = omega arith in
    ap (λ (t : Turn). t ∷ drawn_turns_from k left (suc number) (next_six state) (last_named t)) (sym here)
    ∙ ap (λ n. turn ∷ drawn_turns_from k left (suc number) (next_six state) n) (sym named)
    ∙ ap (λ n. turn ∷ drawn_turns_from k left (suc number) n last2) (sym later)
    ∙ ap (λ n. turn ∷ drawn_turns_from k left n state2 last2) (sym more)
    ∙ ap (λ n. turn ∷ drawn_turns_from k n (number + 1) state2 last2) (sym fewer)
