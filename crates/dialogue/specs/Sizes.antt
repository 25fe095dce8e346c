-- What refuses an input whose jobs don't fit the limits of a word.
use Rattle.std.specs.Prelude.{ℕ, List, [], ◌∷◌, codes}
use Rattle.dover_model.specs.Lines.{in_lines}

abbrev pub size_text : List ℕ
size_text = in_lines (codes "refused size" ∷ [])
