-- Lines of a report, one after another.
use Rattle.std.specs.Prelude.{ℕ, List, [], ◌∷◌, ◌++◌, map, codes}
use Rattle.std.specs.List.{enumerate_from}
use Rattle.dover_model.specs.Common.{Fraction, factor_numbers, with_numbers, in_lines}
use Rattle.run_record.specs.declared.intervals.interval.Interval.{Interval}

-- the text with one more line, of this word and these numbers
abbrev pub with_line : List ℕ → List ℕ → List ℕ → List ℕ
with_line text word numbers = text ++ in_lines (with_numbers word numbers ∷ [])

-- the line of a ratio, with its factor where one is declared
abbrev pub ratio_line : Fraction → List ℕ
ratio_line k = with_numbers (codes "ratio") (k.p ∷ k.q ∷ factor_numbers k.factor)

-- the line of an interval with its number
abbrev pub row_line : ℕ × Interval → List ℕ
row_line n_i = with_numbers (codes "interval")
    (n_i.0 ∷ n_i.1.from ∷ n_i.1.until ∷ n_i.1.regular ∷ n_i.1.taken ∷ n_i.1.displaced ∷ n_i.1.abandoned ∷ [])

-- the lines of intervals, with their numbers from 1 on
abbrev pub row_lines : List Interval → List (List ℕ)
row_lines rows = map row_line (enumerate_from 1 rows)
