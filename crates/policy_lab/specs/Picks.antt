-- What a policy is: of the jobs that are ready it picks the one that is to run.
use Rattle.std.specs.Prelude.{◌≡◌, ◌≢◌, ◌≤◌, ℕ, List, [], ◌∷◌, map, Option, Some, None}
use Rattle.dover_model.specs.declared.events.Entry.{Entry}
use Rattle.dover_model.specs.Sound.{IsMember, Each}

-- the number that is picked from a list of entries, if one is
abbrev pub Picks : Type 0
Picks = List Entry → Option ℕ

-- the number of an entry's job
abbrev pub number_of : Entry → ℕ
number_of e = e.number

-- the entries' numbers differ
abbrev pub HaveOwnNumbers : List Entry → Type 0
HaveOwnNumbers [] = Unit {0}
HaveOwnNumbers (e ∷ entries) = Each (λ other. other.number ≢ e.number) entries × HaveOwnNumbers entries

-- entries of jobs that are ready: their numbers differ, and each has work left
pub record AreReady (entries : List Entry) : Type 0 where
  pub apart : HaveOwnNumbers entries
  pub unfinished : Each (λ e. 1 ≤ e.left) entries

-- None of no entries, and otherwise the number of one of them
abbrev pub IsPick : List Entry → Option ℕ → Type 0
IsPick entries None = entries ≡ []
IsPick entries (Some number) = IsMember number (map number_of entries)

-- it picks one of the ready jobs wherever there is one
abbrev pub IsPolicy : Picks → Type 0
IsPolicy picks = (entries : List Entry) → AreReady entries → IsPick entries (picks entries)
