-- What is read of a text, line by line, as the text grows.
use Rattle.std.proofs.Common.{◌≡◌, ℕ, ◌<◌, List, [], ◌∷◌, ◌++◌, length, length-append, refl, sym, ap, ◌∙◌, subst, arith}
use Rattle.std.proofs.Common.{Bool, true, false, cond, fold, ltb-true, lt-ltb, append_assoc, append-nil}
use Rattle.std.proofs.lemmas.List.Sums.{fold-append}
use Rattle.dover_model.specs.Lines.{lines_of, whole_lines, rest_of, is_too_long, cut}
use Rattle.dover_model.proofs.texts.Cuts.{CutText, onto, cut_append, first_onto, first_part}

-- what is longer is too long as well
pub longer : (l more : List ℕ) → is_too_long l ≡ true → is_too_long (l ++ more) ≡ true
longer l more long = let above : 128 < length l = ltb-true _ _ long in
    lt-ltb 128 (length (l ++ more)) (omega (arith, length-append l more))

-- the lines that count of a cut text
abbrev pub counted_lines : List (List ℕ) → List ℕ → List (List ℕ)
counted_lines ls rest = ls ++ cond (is_too_long rest) (rest ∷ []) []

-- where the first part is too long, the lines that count begin with it
pub first_counts : (ls : List (List ℕ)) (rest : List ℕ) → is_too_long (first_part ls rest) ≡ true
    → (more : List (List ℕ)) × (counted_lines ls rest ≡ first_part ls rest ∷ more)
first_counts [] rest long = ([], ap (λ b. cond b (rest ∷ []) []) long)
first_counts (l ∷ ls) rest long = (counted_lines ls rest, refl)

-- a reading, line by line, to which lines that are too long are one and the same
module _ {A : Type 0} (next : A → List ℕ → A) (start : A)
    (same : (a : A) (l m : List ℕ) → is_too_long l ≡ true → is_too_long m ≡ true → next a l ≡ next a m)
    (F G : List ℕ) where
  -- the lines behind the whole ones of F
  abbrev behind : CutText
  behind = onto (rest_of F) (cut G)

  -- what is read of the whole lines of F
  abbrev whole : A
  whole = fold next start (whole_lines F)

  -- all lines are those, and then these
  all_lines_of : fold next start (lines_of (F ++ G)) ≡ fold next whole (counted_lines behind.0 behind.1)
  all_lines_of = ap (λ (c : CutText). fold next start (counted_lines c.0 c.1)) (cut_append F G)
      ∙ ap (fold next start) (append_assoc (whole_lines F) behind.0 (cond (is_too_long behind.1) (behind.1 ∷ []) []))
      ∙ fold-append next start (whole_lines F) (counted_lines behind.0 behind.1)

  -- what is read of F, where its rest doesn't count
  short_read : is_too_long (rest_of F) ≡ false → fold next start (lines_of F) ≡ whole
  short_read short = ap (λ b. fold next start (whole_lines F ++ cond b (rest_of F ∷ []) [])) short
      ∙ ap (fold next start) (append-nil (whole_lines F))

  -- and where it does
  long_read : is_too_long (rest_of F) ≡ true → fold next start (lines_of F) ≡ next whole (rest_of F)
  long_read long = ap (λ b. fold next start (whole_lines F ++ cond b (rest_of F ∷ []) [])) long
      ∙ fold-append next start (whole_lines F) (rest_of F ∷ [])

  -- then the line that the rest becomes is too long as well
  first_long : is_too_long (rest_of F) ≡ true → is_too_long (first_part behind.0 behind.1) ≡ true
  first_long long = subst (λ l. is_too_long l ≡ true) (sym (first_onto (rest_of F) (cut G)))
      (longer (rest_of F) (first_part (cut G).0 (cut G).1) long)

  -- what is read of a text that grows is what is read of the text, with further lines
  pub read_append : (ls : List (List ℕ))
      × (fold next start (lines_of (F ++ G)) ≡ fold next (fold next start (lines_of F)) ls)
  read_append = by_length (is_too_long (rest_of F)) refl where
    by_length : (b : Bool) → is_too_long (rest_of F) ≡ b → (ls : List (List ℕ))
        × (fold next start (lines_of (F ++ G)) ≡ fold next (fold next start (lines_of F)) ls)
    by_length false short = (
      counted_lines behind.0 behind.1,
      all_lines_of ∙ ap (λ a. fold next a (counted_lines behind.0 behind.1)) (sym (short_read short)),
    )
    by_length true long =
        let it : (more : List (List ℕ)) × (counted_lines behind.0 behind.1 ≡ first_part behind.0 behind.1 ∷ more) =
        first_counts behind.0 behind.1 (first_long long) in (
          it.0,
          all_lines_of ∙ ap (fold next whole) it.1
              ∙ ap (λ a. fold next a it.0)
              (same whole (first_part behind.0 behind.1) (rest_of F) (first_long long) long)
              ∙ ap (λ a. fold next a it.0) (sym (long_read long)),
        )
