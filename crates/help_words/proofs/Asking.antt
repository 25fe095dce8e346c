-- What words ask for, by some of them.
use Rattle.std.proofs.Common.{◌≡◌, ℕ, ◌-◌, ◌≤◌, List, [], ◌∷◌, ◌++◌, false, Option, Some, None, String}
use Rattle.std.proofs.Common.{ap, arith, codes, flat_map, get_or, if◌then◌else◌, length, map, slice_get, string_bytes}
use Rattle.std.proofs.Common.{suc, sym, ◌∙◌}
use Rattle.std.proofs.lemmas.List.{get_or-map, length-map}
use Rattle.std.specs.declared.alloc.Global.{Global}
use Rattle.help_words.specs.Help.{asks_help, hint_by, last_of, quoted, rows_of, told, told_by, told_wrong}

-- the last of the words from the second on is the last word
last_is : (n : String Global) (more : List (String Global)) (last : String Global)
    → last ≡ get_or (n ∷ more) (length more) last → last_of (map string_bytes (n ∷ more)) ≡ string_bytes last
last_is n more last is = let all : length (map string_bytes (n ∷ more)) - 1 ≡ length more =
    omega (arith, length-map more string_bytes) in
    ap (λ m. get_or (map string_bytes (n ∷ more)) m []) all
    ∙ get_or-map string_bytes (n ∷ more) (length more) last [] (omega arith) ∙ ap string_bytes (sym is)

-- what words are told of which the first asks for no help, by the last
pub by_last : (words : List (String Global)) (first word last : String Global) → 2 ≤ length words
    → first ≡ get_or words 0 first → word ≡ get_or words 0 word → last ≡ get_or words (length words - 1) last
    → asks_help (string_bytes first) ≡ false → told (map string_bytes words)
    ≡ (if asks_help (string_bytes last) then told_by (rows_of (string_bytes word)) else None)
by_last [] first word last many is-first is-word is-last other = absurd (omega (arith, many))
by_last (w ∷ []) first word last many is-first is-word is-last other = absurd (omega (arith, many))
by_last (w ∷ n ∷ more) first word last many is-first is-word is-last other =
    let end : length (w ∷ n ∷ more) - 1 ≡ suc (length more) = omega arith in
    let is : last ≡ get_or (n ∷ more) (length more) last = is-last ∙ ap (λ m. get_or (w ∷ n ∷ more) m last) end in
    ap (λ b. if b then told_by (rows_of (string_bytes n)) else told_else (string_bytes w) ends)
    (ap (λ v. asks_help (string_bytes v)) (sym is-first) ∙ other)
    ∙ ap (λ l. told_else (string_bytes w) l) (last_is n more last is)
    ∙ ap (λ v. told_else (string_bytes v) (string_bytes last)) (sym is-word) where
      ends : List ℕ
      ends = last_of (map string_bytes (n ∷ more))

      told_else : List ℕ → List ℕ → Option (List ℕ)
      told_else a l = if asks_help l then told_by (rows_of a) else None

-- what words are told that ask for nothing, by the first
pub wrong_of : (words : List (String Global)) (word : String Global) → Some word ≡ slice_get words 0
    → told_wrong (map string_bytes words) ≡ hint_by (rows_of (string_bytes word))
    ++ codes "dover: these words ask for nothing:" ++ flat_map quoted (map string_bytes words) ++ codes "\n"
wrong_of [] word is = absurd cc
wrong_of (w ∷ words) word is = let e : word ≡ w = cc in
    ap (λ v. hint_by (rows_of (string_bytes v)) ++ codes "dover: these words ask for nothing:"
    ++ flat_map quoted (map string_bytes (w ∷ words)) ++ codes "\n") (sym e)
