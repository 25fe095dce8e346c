-- What is read field by field is what the line spells.
use Rattle.std.proofs.Common.{◌≡◌, ◌≢◌, ℕ, ◌≤◌, List, [], ◌∷◌, ◌++◌, length, refl, sym, ap, ◌∙◌, Bool, true, false}
use Rattle.std.proofs.Common.{cond, not, Option, Some, None, codes, bytes_eq, option_and_then, option_map, le-ltb}
use Rattle.std.proofs.lemmas.Slice.Eq.{bytes_eq-Decides}
use Rattle.dover_model.specs.declared.events.Role.{Role}
use Rattle.dover_model.specs.declared.events.Role.TheVariants.{Coming}
use Rattle.dover_model.specs.Common.{numeral, numerals, fields_of, numbers_after, numbers_of}
use Rattle.dover_model.proofs.lists.Tests.{never}
use Rattle.line_text.proofs.Words.{IsNot, uncounted, Lacks, differs}
use Rattle.snapshot.specs.Reading.{head_from, read_head, role_of_word, task_from, task_of_fields, read_task}
use Rattle.snapshot.specs.Forms.{behind_number, behind_word}
use Rattle.snapshot.specs.Snapshot.{role_word}
use Rattle.snapshot.proofs.Spelled.{role_back, role_from}

-- ---- a first line

-- it has six numbers, or eight
not_six_or_eight : (ns : List ℕ) → length ns ≢ 6 → length ns ≢ 8 → head_from ns ≡ None
not_six_or_eight (a ∷ b ∷ c ∷ d ∷ e ∷ f ∷ []) other more = absurd (other refl)
not_six_or_eight (a ∷ b ∷ c ∷ d ∷ e ∷ f ∷ g ∷ i ∷ []) other more = absurd (more refl)
not_six_or_eight _ other more = refl

-- so fields with no numbers, or others than so many, are none
pub no_head_of : (o : Option (List ℕ)) → IsNot 6 o → IsNot 8 o → None ≡ option_and_then head_from o
no_head_of None other more = refl
no_head_of (Some ns) other more = sym (not_six_or_eight ns (other ns refl) (more ns refl))

-- behind the word are its numbers
pub head_behind : (line rest : List ℕ) → length line ≤ 128 → line ≡ codes "snapshot" ++ 32 ∷ rest
    → read_head line ≡ option_and_then head_from (numerals (fields_of rest))
head_behind line rest fits is =
    ap (λ b. cond b None (option_and_then head_from (numbers_of (codes "snapshot") line)))
    (le-ltb 128 (length line) fits)
    ∙ ap (λ l. option_and_then head_from (numbers_of (codes "snapshot") l)) is

-- and a line that doesn't begin with the word is none
pub no_head_in : (line : List ℕ) → length line ≤ 128 → Lacks line (codes "snapshot") → read_head line ≡ None
no_head_in line fits lacks =
    ap (λ b. cond b None (option_and_then head_from (numbers_of (codes "snapshot") line)))
    (le-ltb 128 (length line) fits)
    ∙ by (fields_of line) refl where
      by : (fields : List (List ℕ)) → fields_of line ≡ fields
          → option_and_then head_from (numbers_after (codes "snapshot") fields) ≡ None
      by [] cut = refl
      by (word ∷ []) cut = alone (bytes_eq word (codes "snapshot")) where
        alone : (b : Bool) → option_and_then head_from (cond b (Some []) None) ≡ None
        alone true = refl
        alone false = refl
      by (word ∷ field ∷ fields) cut = other (bytes_eq word (codes "snapshot")) refl where
        other : (b : Bool) → bytes_eq word (codes "snapshot") ≡ b
            → option_and_then head_from (cond b (numerals (field ∷ fields)) None) ≡ None
        other true same = absurd (differs line word field fields cut (codes "snapshot") lacks same)
        other false apart = refl

-- ---- the line of a job

-- it has six numbers
not_five : (r : Role) (n : ℕ) (ns : List ℕ) → length ns ≢ 5 → task_from r (n ∷ ns) ≡ None
not_five r n (a ∷ b ∷ c ∷ d ∷ e ∷ []) other = absurd (other refl)
not_five r n _ other = refl

-- so fields with no numbers, or others than five, are none
pub no_numbers : (r : Role) (n : ℕ) (o : Option (List ℕ)) → IsNot 5 o
    → None ≡ option_and_then (λ ns. task_from r (n ∷ ns)) o
no_numbers r n = uncounted (λ ns. task_from r (n ∷ ns)) 5 (not_five r n)

-- the word of a role is the first field
word_in_front : (r : Role) (rest : List ℕ) → fields_of (role_word r ++ 32 ∷ rest) ≡ role_word r ∷ fields_of rest
word_in_front Coming rest = refl
word_in_front _ rest = refl

-- behind it are the numbers
pub behind_role : (n : ℕ) (line rest : List ℕ) (r : Role) → line ≡ role_word r ++ 32 ∷ rest
    → role_of_word (role_word r) ≡ Some r
    → behind_number n (fields_of line) ≡ option_and_then (λ ns. task_from r (n ∷ ns)) (numerals (fields_of rest))
behind_role n line rest r is stored = ap (λ l. behind_number n (fields_of l)) is
    ∙ ap (behind_number n) (word_in_front r rest)
    ∙ ap (option_and_then (λ q. option_and_then (λ ns. task_from q (n ∷ ns)) (numerals (fields_of rest)))) stored

-- a line that begins with no such word is none
pub no_role : (n : ℕ) (line : List ℕ)
    → ((r : Role) → role_of_word (role_word r) ≡ Some r → Lacks line (role_word r))
    → behind_number n (fields_of line) ≡ None
no_role n line lacks = by (fields_of line) refl where
  by : (fields : List (List ℕ)) → fields_of line ≡ fields → behind_number n fields ≡ None
  by [] cut = refl
  by (word ∷ []) cut = alone (role_of_word word) where
    alone : (o : Option Role) → option_and_then (λ q. task_from q (n ∷ [])) o ≡ None
    alone None = refl
    alone (Some r) = refl
  by (word ∷ field ∷ fields) cut = other (role_of_word word) refl where
    other : (o : Option Role) → role_of_word word ≡ o
        → option_and_then (λ q. option_and_then (λ ns. task_from q (n ∷ ns)) (numerals (field ∷ fields))) o ≡ None
    other None read = refl
    other (Some r) read =
        let it = role_from word r read in
        absurd (differs line word field fields cut (role_word r) (lacks r (role_back r it.1))
        ((bytes_eq-Decides word (role_word r)).1 (sym it.0)))

-- the number in front, and the fields behind it
first_then : (fields : List (List ℕ)) (o : Option ℕ)
    → option_and_then (λ (first : ℕ × List (List ℕ)). behind_number first.0 first.1) (option_map (λ n. (n, fields)) o)
    ≡ option_and_then (λ n. behind_number n fields) o
first_then fields None = refl
first_then fields (Some n) = refl

-- fields are read one by one
by_fields : (word : List ℕ) (fields : List (List ℕ)) → bytes_eq word (codes "state") ≡ true
    → task_of_fields (word ∷ fields) ≡ behind_word fields
by_fields word [] is = refl
by_fields word (number ∷ []) is = by (numeral number) where
  by : (o : Option ℕ) → None ≡ option_and_then (λ (first : ℕ × List (List ℕ)). behind_number first.0 first.1)
      (option_map (λ n. (n, [])) o)
  by None = refl
  by (Some n) = refl
by_fields word (number ∷ role ∷ fields) is =
    ap (λ b. cond b (option_and_then (λ r. option_and_then (task_from r) (numerals (number ∷ fields)))
    (role_of_word role)) None) is
    ∙ by (numeral number) (role_of_word role) (numerals fields)
    ∙ sym (first_then (role ∷ fields) (numeral number)) where
      by : (o : Option ℕ) (r : Option Role) (rest : Option (List ℕ))
          → option_and_then (λ q. option_and_then (task_from q)
          (option_and_then (λ n. option_map (λ ns. n ∷ ns) rest) o)) r
          ≡ option_and_then (λ n. option_and_then (λ q. option_and_then (λ ns. task_from q (n ∷ ns)) rest) r) o
      by (Some n) (Some q) (Some ns) = refl
      by None (Some q) rest = refl
      by _ _ _ = refl

-- so is a line
pub task_behind : (line rest : List ℕ) → length line ≤ 128 → line ≡ codes "state" ++ 32 ∷ rest
    → read_task line ≡ behind_word (fields_of rest)
task_behind line rest fits is =
    ap (λ b. cond b None (task_of_fields (fields_of line))) (le-ltb 128 (length line) fits)
    ∙ ap (λ l. task_of_fields (fields_of l)) is ∙ by_fields (codes "state") (fields_of rest) refl

-- and one that doesn't begin with the word is none
pub no_task_in : (line : List ℕ) → length line ≤ 128 → Lacks line (codes "state") → read_task line ≡ None
no_task_in line fits lacks =
    ap (λ b. cond b None (task_of_fields (fields_of line))) (le-ltb 128 (length line) fits)
    ∙ by (fields_of line) refl where
      by : (fields : List (List ℕ)) → fields_of line ≡ fields → task_of_fields fields ≡ None
      by (word ∷ number ∷ role ∷ fields) cut = other (bytes_eq word (codes "state")) refl where
        other : (b : Bool) → bytes_eq word (codes "state") ≡ b
            → cond b (option_and_then (λ r. option_and_then (task_from r) (numerals (number ∷ fields)))
            (role_of_word role)) None ≡ None
        other true same = absurd (differs line word number (role ∷ fields) cut (codes "state") lacks same)
        other false apart = refl
      by _ cut = refl

-- a test whose denial fails
pub denied : (b : Bool) → not b ≡ false → b ≡ true
denied true h = refl
denied false h = never (sym h)
