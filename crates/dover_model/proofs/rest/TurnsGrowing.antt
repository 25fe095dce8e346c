-- Turns that are over, with one turn more behind them.
use Rattle.std.proofs.Common.{◌≡◌, ℕ, ◌+◌, ◌≤◌, List, [], ◌∷◌, ◌++◌, length, length-append, map, refl, sym, ap, ◌∙◌}
use Rattle.std.proofs.Common.{arith, append-nil, append_assoc}
use Rattle.std.proofs.lemmas.List.{map-append}
use Rattle.dover_model.specs.Common.{Finish, Event, End, Rules, Instance, printed, completed_value, IsAtRest, IsTurn}
use Rattle.dover_model.specs.Common.{Turn, TurnsEnd, behind, behind_finish, before_end, completed_turns, end_tick}
use Rattle.dover_model.specs.Common.{one_run, printed_turns, turn_under, turns_finishes, turns_jobs}
use Rattle.dover_model.proofs.rest.Apart.{before_append, end_at_rest}
use Rattle.dover_model.proofs.rest.InTurns.{behind_turns, completed_more, one_more, one_run_prints}
use Rattle.dover_model.proofs.rest.RestTick.{rests_from}
use Rattle.dover_model.proofs.rest.Turns.{before_behind, before_twice, behind_none}

-- ---- jobs and finishes

-- the jobs of all
pub jobs_behind : (turns : List Turn) (more : Turn) → turns_jobs (turns ++ more ∷ []) ≡ turns_jobs turns ++ more.jobs
jobs_behind [] more = append-nil more.jobs
jobs_behind (turn ∷ turns) more = ap (λ js. turn.jobs ++ js) (jobs_behind turns more)
    ∙ sym (append_assoc turn.jobs (turns_jobs turns) more.jobs)

-- finishes that are numbered behind others, twice
pub finishes_twice : (n m : ℕ) (fs : List Finish)
    → map (behind_finish n) (map (behind_finish m) fs) ≡ map (behind_finish (n + m)) fs
finishes_twice n m [] = refl
finishes_twice n m (f ∷ fs) =
    let sum : n + (m + f.number) ≡ n + m + f.number = omega arith in
    ap (λ k. record { number = k; had = f.had } ∷ map (behind_finish n) (map (behind_finish m) fs)) sum
    ∙ ap (λ gs. behind_finish (n + m) f ∷ gs) (finishes_twice n m fs)

none_first : (fs : List Finish) → map (behind_finish 0) fs ≡ fs
none_first [] = refl
none_first (f ∷ fs) =
    let sum : 0 + f.number ≡ f.number = omega arith in
    ap (λ k. record { number = k; had = f.had } ∷ map (behind_finish 0) fs) sum ∙ ap (λ gs. f ∷ gs) (none_first fs)

-- the finishes of all
pub finishes_behind : (turns : List Turn) (more : Turn) → turns_finishes (turns ++ more ∷ [])
    ≡ turns_finishes turns ++ map (behind_finish (length (turns_jobs turns))) more.finishes
finishes_behind [] more = append-nil more.finishes ∙ sym (none_first more.finishes)
finishes_behind (turn ∷ turns) more =
    ap (λ fs. turn.finishes ++ map step fs) (finishes_behind turns more)
    ∙ ap (λ fs. turn.finishes ++ fs) (map-append step (turns_finishes turns) (map inner more.finishes)
    ∙ ap (λ fs. map step (turns_finishes turns) ++ fs) numbers)
    ∙ sym (append_assoc turn.finishes (map step (turns_finishes turns)) (map both more.finishes)) where
      step : Finish → Finish
      step = behind_finish (length turn.jobs)

      inner : Finish → Finish
      inner = behind_finish (length (turns_jobs turns))

      both : Finish → Finish
      both = behind_finish (length (turns_jobs (turn ∷ turns)))

      numbers : map step (map inner more.finishes) ≡ map both more.finishes
      numbers = finishes_twice (length turn.jobs) (length (turns_jobs turns)) more.finishes
          ∙ ap (λ n. map (behind_finish n) more.finishes) (sym (length-append turn.jobs (turns_jobs turns)))

module _ (rules : Rules) where
  -- what they complete
  pub completed_behind : (turns : List Turn) (more : Turn) → completed_turns rules (turns ++ more ∷ [])
      ≡ completed_turns rules turns + completed_value (turn_under rules more)
  completed_behind [] more = completed_more rules more [] ∙ omega arith
  completed_behind (turn ∷ turns) more = omega (
    arith,
    completed_behind turns more,
    completed_more rules turn turns,
    completed_more rules turn (turns ++ more ∷ []),
  )

  -- ---- one turn more

  -- it is over at a later tick, where it is at rest
  pub ends_behind : (turns : List Turn) (more : Turn) (from last later : ℕ) → TurnsEnd rules from turns last
      → IsTurn rules last more → last ≤ later → IsAtRest (turn_under rules more) later
      → TurnsEnd rules from (turns ++ more ∷ []) later
  ends_behind [] more from last later ends turn on rest = (
    (
      turn.0,
      turn.1,
      (λ j member. let at : last ≤ j.release = turn.2 j member in let low : from ≤ last = ends in omega arith),
    ),
    (later, (let low : from ≤ last = ends in omega arith), rest, (let same : later ≤ later = omega arith in same)),
  )
  ends_behind (first ∷ turns) more from last later ends turn on rest = (
    ends.0,
    (
      ends.1.0,
      ends.1.1,
      ends.1.2,
      ends_behind turns more ends.1.0 last later ends.1.3 turn on rest,
    ),
  )

  module _ (more : Turn) (last : ℕ) (turn : IsTurn rules last more) where
    abbrev J : Instance
    J = turn_under rules more

    abbrev rest : ℕ
    rest = last + end_tick J

    at_rest : IsAtRest J rest
    at_rest = rests_from J turn.0 rest (omega arith)

    -- what they print, turn by turn
    turns_print : (turns : List Turn)
        → printed_turns rules (turns ++ more ∷ []) ≡ behind_turns rules turns (printed J)
    turns_print [] =
        let value : completed_value J + 0 ≡ completed_value J = omega arith in
        ap (λ v. before_end (printed J) ++ (End v ∷ [])) value ∙ sym (end_at_rest J rest turn.0 at_rest)
        ∙ sym (behind_none (printed J))
    turns_print (first ∷ turns) =
        ap (λ es. before_end (printed (turn_under rules first))
        ++ map (behind (length first.jobs) (completed_value (turn_under rules first))) es) (turns_print turns)
        ∙ one_more rules first turns (printed J)

    -- behind turns that are over, what is printed of a further one is what is printed of it alone
    pub printed_of_last : (turns : List Turn) → TurnsEnd rules 0 turns last
        → printed (one_run rules (turns ++ more ∷ []))
        ≡ before_end (printed (one_run rules turns))
        ++ map (behind (length (turns_jobs turns)) (completed_turns rules turns)) (printed J)
    printed_of_last turns ends =
        one_run_prints rules (turns ++ more ∷ []) rest
        (ends_behind turns more 0 last rest ends turn (omega arith) at_rest)
        ∙ turns_print turns
        ∙ ap (λ es. before_end es
        ++ map (behind (length (turns_jobs turns)) (completed_turns rules turns)) (printed J))
        (sym (one_run_prints rules turns last ends))

    -- and so it is before the End
    pub before_end_of_last : (turns : List Turn) → TurnsEnd rules 0 turns last
        → before_end (printed (one_run rules (turns ++ more ∷ [])))
        ≡ before_end (printed (one_run rules turns))
        ++ map (behind (length (turns_jobs turns)) (completed_turns rules turns)) (before_end (printed J))
    before_end_of_last turns ends =
        ap before_end (printed_of_last turns ends)
        ∙ before_append (before_end (printed (one_run rules turns))) (map number (printed J))
        ∙ ap (λ es. es ++ before_end (map number (printed J))) (before_twice (printed (one_run rules turns)))
        ∙ ap (λ es. before_end (printed (one_run rules turns)) ++ es)
        (before_behind (length (turns_jobs turns)) (completed_turns rules turns) (printed J)) where
          number : Event → Event
          number = behind (length (turns_jobs turns)) (completed_turns rules turns)
