-- What a port over two streams tells of its moves.
use Rattle.std.specs.Prelude.{◌≡◌, ℕ, zero, suc, List, [], ◌∷◌, ◌++◌, Option, None, Some, option_map, refl}
use Rattle.std.specs.Coded.{Coded, code_by, coded×, coded_ℕ, coded_list, coded_option}
use Rattle.dover_port.specs.Moves.{Move}
use Rattle.dover_port.specs.Moves.Move.{Got, Ended, Put}

-- Before the first call, by what the reader has left and what the writer holds: there is no move, where both tell it
-- and the writer holds nothing. Else nothing is told, then or later.
abbrev pub begun : Option (List ℕ) → Option (List ℕ) → Option (List Move)
begun None held = None
begun (Some left) None = None
begun (Some left) (Some []) = Some []
begun (Some left) (Some (byte ∷ bytes)) = None

-- one move more, where they are told
abbrev pub grown : Option (List Move) → Move → Option (List Move)
grown moves move = option_map (λ before. before ++ move ∷ []) moves

-- what is left, where the moves are told
abbrev pub left_of : Option (List Move) → Option (List ℕ) → Option (List ℕ)
left_of None left = None
left_of (Some moves) left = left

-- ---- how moves are stored: the number of the kind, and the bytes

abbrev number_of_kind : Move → ℕ
number_of_kind (Got bytes) = 0
number_of_kind Ended = 1
number_of_kind (Put bytes) = 2

abbrev bytes_of : Move → List ℕ
bytes_of (Got bytes) = bytes
bytes_of Ended = []
bytes_of (Put bytes) = bytes

abbrev move_of : ℕ → List ℕ → Move
move_of zero bytes = Got bytes
move_of (suc zero) bytes = Ended
move_of (suc (suc n)) bytes = Put bytes

pub same_move : (move : Move) → move_of (number_of_kind move) (bytes_of move) ≡ move
same_move (Got bytes) = refl
same_move Ended = refl
same_move (Put bytes) = refl

abbrev move_code : Coded Move
move_code =
    code_by (ℕ × List ℕ) (coded× coded_ℕ (coded_list coded_ℕ)) (λ move. (number_of_kind move, bytes_of move))
    (λ parts. move_of parts.0 parts.1) same_move

abbrev pub told_code : Coded (Option (List Move))
told_code = coded_option (coded_list move_code)
