-- The texts that are put, and how an answer is.
use Rattle.std.specs.Prelude.{◌≡◌, ℕ, List, [], ◌∷◌, ◌++◌, map, codes, Option, Result, Ok, Err}
use Rattle.dover_model.specs.Common.{fault_text, with_numbers, in_lines}
use Rattle.dover_model.specs.declared.pieces.Piece.{Piece}
use Rattle.dover_port.specs.Moves.{Move, Passes, CutsShort}
use Rattle.dover_port.specs.declared.status.Status.{Status}
use Rattle.dialogue.specs.declared.talker.Stop.{Stop}
use Rattle.dialogue.specs.declared.talker.Stop.TheVariants.{NoMemory, Unwritten}
use Rattle.event_feed.specs.Kept.{cause_of_fault}
use Rattle.event_feed.specs.declared.listed.NotListed.{NotListed}
use Rattle.event_feed.specs.declared.listed.NotListed.TheVariants.{Fault, TooMany}
use Rattle.question_words.specs.declared.answer.Answer.{Answer}
use Rattle.question_words.specs.declared.answer.Rows.{Rows}
use Rattle.question_words.specs.declared.answer.Rows.TheVariants.{Pieces, Stretches, Policies}
use Rattle.question_words.specs.declared.answer.Named.{Named}
use Rattle.question_words.specs.declared.answer.Named.TheVariants.{Edf, Dense}
use Rattle.question_words.specs.declared.answer.PolicyRow.{PolicyRow}
use Rattle.question_words.specs.declared.answer.StretchRow.{StretchRow}

-- the line of a piece
abbrev pub piece_line : Piece → List ℕ
piece_line piece = with_numbers (codes "piece") (piece.from ∷ piece.until ∷ piece.number ∷ [])

-- the line of each piece
abbrev pub piece_lines : List Piece → List (List ℕ)
piece_lines pieces = map piece_line pieces

-- the line of a stretch
abbrev pub stretch_line : StretchRow → List ℕ
stretch_line x = with_numbers (codes "stretch") (x.from ∷ x.until ∷ x.total ∷ x.cap ∷ x.value ∷ [])

-- the line of each stretch
abbrev pub stretch_lines : List StretchRow → List (List ℕ)
stretch_lines xs = map stretch_line xs

-- the word of a policy's line
abbrev pub word_of : Named → List ℕ
word_of Edf = codes "edf"
word_of Dense = codes "dense"

-- the line of a policy
abbrev pub policy_line : PolicyRow → List ℕ
policy_line row = with_numbers (word_of row.named) (row.value ∷ row.completed ∷ row.stops ∷ [])

-- the line of each policy
abbrev pub policy_lines : List PolicyRow → List (List ℕ)
policy_lines rows = map policy_line rows

-- the lines of the rows
abbrev pub row_text : Rows → List ℕ
row_text (Pieces pieces) = in_lines (piece_lines pieces.items)
row_text (Stretches xs) = in_lines (stretch_lines xs.items)
row_text (Policies rows last) = in_lines (policy_lines rows.items) ++ last

-- the line that refuses a feed whose jobs aren't listed
abbrev pub refusal_line : NotListed → List ℕ
refusal_line (Fault fault) = fault_text fault.line (cause_of_fault fault.cause)
refusal_line TooMany = codes "refused size"

-- the text of an answer
abbrev pub text_of : Answer → List ℕ
text_of answer = answer.head ++ row_text answer.rows

-- the answer was put, or a front of its text that isn't all
abbrev pub PutsBy : Answer → (old new : Option (List Move)) → (after : List ℕ) → Result Status Stop → Type 0
PutsBy answer old new after (Ok status) = (status ≡ answer.status) × Passes old new [] after (text_of answer)
PutsBy answer old new after (Err Unwritten) = CutsShort old new [] (text_of answer)
PutsBy answer old new after (Err NoMemory) = ⊥
