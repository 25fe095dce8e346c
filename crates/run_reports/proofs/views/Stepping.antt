-- How many printed steps of a run there are, beside what is weighed before each.
use Rattle.std.proofs.Common.{◌≡◌, ℕ, suc, List, [], ◌∷◌, length, refl, ap, ◌∙◌}
use Rattle.std.proofs.Common.{filter_map, option_map}
use Rattle.std.specs.List.{cons_option}
use Rattle.dover_model.specs.declared.events.Event.{Event}
use Rattle.dover_model.specs.Common.{Instance, Fraction, privileged, value_sum, Move, Prints, Waits, Ticks, Step}
use Rattle.dover_model.specs.Common.{event_of, printed_of, run}
use Rattle.run_record.specs.intervals.Rows.{IsRunOf, weight_of, weights}
use Rattle.run_record.specs.ledger.Rooms.{room_before, room_of_step, rooms}

-- as many are weighed as are printed
as_many : (steps : List Step) → length (filter_map weight_of steps) ≡ length (printed_of steps)
as_many [] = refl
as_many (x ∷ steps) = by_move x.move (as_many steps) where
  by_move : (m : Move) → length (filter_map weight_of steps) ≡ length (printed_of steps)
      → length (cons_option (option_map (λ (e : Event). value_sum (privileged x.before)) (event_of m))
      (filter_map weight_of steps))
      ≡ length (cons_option (event_of m) (printed_of steps))
  by_move (Prints e) same = ap suc same
  by_move (Waits n) same = same
  by_move Ticks same = same

-- of a run
pub same_length : (k : Fraction) (steps : List Event) (J : Instance) → IsRunOf k steps J → (worths : List ℕ)
    → worths ≡ weights J
    → length worths ≡ length steps
same_length k steps J of worths are = ap length are ∙ as_many (run J) ∙ ap length of.prints

-- as many rooms are left as steps are printed
rooms_many : (steps : List Step) → length (filter_map room_of_step steps) ≡ length (printed_of steps)
rooms_many [] = refl
rooms_many (x ∷ steps) = by_move x.move (rooms_many steps) where
  by_move : (m : Move) → length (filter_map room_of_step steps) ≡ length (printed_of steps)
      → length (cons_option (option_map (room_before x.before) (event_of m)) (filter_map room_of_step steps))
      ≡ length (cons_option (event_of m) (printed_of steps))
  by_move (Prints e) same = ap suc same
  by_move (Waits n) same = same
  by_move Ticks same = same

-- of a run
pub rooms_length : (k : Fraction) (steps : List Event) (J : Instance) → IsRunOf k steps J → (leaves : List ℕ)
    → leaves ≡ rooms J → length leaves ≡ length steps
rooms_length k steps J of leaves are = ap length are ∙ rooms_many (run J) ∙ ap length of.prints
