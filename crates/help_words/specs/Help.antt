-- What is told of the program itself.
use Rattle.std.specs.Prelude.{ℕ, ◌-◌, List, [], ◌∷◌, ◌++◌, Bool, ◌||◌, Option, Some, None, if◌then◌else◌, codes}
use Rattle.std.specs.Prelude.{bytes_eq, filter, flat_map, get_or, length, nat_eq}
use Rattle.std.specs.List.{starts_with}
use Rattle.std.specs.Str.Lines.{lines}
use Rattle.dover_model.specs.Lines.{in_lines}
use Rattle.dover_port.specs.declared.status.Status.{Status}
use Rattle.dover_port.specs.declared.status.Status.TheVariants.{Done, WriteFault, Memory, Usage}
use Rattle.help_words.specs.declared.usage.TheConstants.{USAGE, VERSION}

-- whether a word asks for help
abbrev pub asks_help : List ℕ → Bool
asks_help word = bytes_eq word (codes "help") || bytes_eq word (codes "--help") || bytes_eq word (codes "-h")

-- whether it asks for the version
abbrev pub asks_version : List ℕ → Bool
asks_version word = bytes_eq word (codes "version") || bytes_eq word (codes "--version")

-- a line of the usage is a row of a word if it begins with two blanks, the word and a blank
abbrev pub is_row_of : (word line : List ℕ) → Bool
is_row_of word line = starts_with nat_eq line (codes "  " ++ word ++ codes " ")

-- the rows of a word
unfoldable pub rows_of : List ℕ → List (List ℕ)
rows_of word = filter (is_row_of word) (lines USAGE.now)

-- these rows, and where there are more
abbrev pub short_usage : List (List ℕ) → List ℕ
short_usage rows = codes "usage: dover WORD.. [< INPUT]\n" ++ in_lines rows
    ++ codes "more:     dover WORD --help, man dover, and docs/MANUAL.md\n"

-- what is told of a word by its rows, if it has some
abbrev pub told_by : List (List ℕ) → Option (List ℕ)
told_by [] = None
told_by (row ∷ rows) = Some (short_usage (row ∷ rows))

-- the last of these words
abbrev pub last_of : List (List ℕ) → List ℕ
last_of words = get_or words (length words - 1) []

-- what words are told that ask about the program itself: a word for help alone is told the usage, behind or before
-- other words that of the first of these, and a word for the version the version
abbrev pub told : List (List ℕ) → Option (List ℕ)
told [] = None
told (word ∷ []) = if asks_help word then Some USAGE.now else (if asks_version word
    then Some (codes "dover " ++ VERSION.now ++ codes "\n") else None)
told (word ∷ next ∷ more) = if asks_help word then told_by (rows_of next) else (
    if asks_help (last_of (next ∷ more)) then told_by (rows_of word) else None)

-- the statuses with which telling may end
abbrev pub CanTell : Status → Type 0
CanTell Done = Unit {0}
CanTell WriteFault = Unit {0}
CanTell Memory = Unit {0}
CanTell Usage = Unit {0}
CanTell _ = ⊥

-- ---- words that ask for nothing

-- where to look for words, told of a word by its rows
abbrev pub hint_by : List (List ℕ) → List ℕ
hint_by [] = codes "usage: dover WORD.., and dover help says which words there are\n"
hint_by (row ∷ rows) = short_usage (row ∷ rows)

-- a word in quotes behind a blank
abbrev pub quoted : List ℕ → List ℕ
quoted word = codes " '" ++ word ++ codes "'"

-- what words are told that ask for nothing: no words the usage, and others a hint by the first, and which they are
abbrev pub told_wrong : List (List ℕ) → List ℕ
told_wrong [] = USAGE.now
told_wrong (word ∷ words) = hint_by (rows_of word) ++ codes "dover: these words ask for nothing:"
    ++ flat_map quoted (word ∷ words) ++ codes "\n"
