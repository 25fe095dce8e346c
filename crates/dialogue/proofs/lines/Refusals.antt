-- How lines are put together of numbers that come in two parts.
use Rattle.std.proofs.Common.{◌≡◌, ℕ, List, [], ◌∷◌, ◌++◌, map, decimal, append_assoc, refl, ap, sym, ◌∙◌}
use Rattle.dover_model.specs.Lines.{line_of, with_numbers}
use Rattle.line_text.specs.Writing.{numbers_behind}
use Rattle.line_text.proofs.Written.{with_numbers-behind}

-- numbers behind numbers
behind_more : (xs ys : List ℕ) → numbers_behind xs ++ numbers_behind ys ≡ numbers_behind (xs ++ ys)
behind_more [] ys = refl
behind_more (x ∷ xs) ys = ap (λ bs. 32 ∷ bs) (append_assoc (decimal x) (numbers_behind xs) (numbers_behind ys)
    ∙ ap (λ bs. decimal x ++ bs) (behind_more xs ys))

-- a word, numbers and what is behind them
two_parts : (word xs ys tail : List ℕ) → with_numbers word xs ++ (numbers_behind ys ++ tail)
    ≡ word ++ (numbers_behind (xs ++ ys) ++ tail)
two_parts word xs ys tail =
    ap (λ bs. bs ++ (numbers_behind ys ++ tail)) (sym (with_numbers-behind word xs))
    ∙ append_assoc word (numbers_behind xs) (numbers_behind ys ++ tail)
    ∙ ap (λ bs. word ++ bs) (sym (append_assoc (numbers_behind xs) (numbers_behind ys) tail)
    ∙ ap (λ bs. bs ++ tail) (behind_more xs ys))

-- the line of a word and numbers
pub whole_line : (word xs ys tail : List ℕ) → with_numbers word xs ++ (numbers_behind ys ++ tail)
    ≡ with_numbers word (xs ++ ys) ++ tail
whole_line word xs ys tail =
    two_parts word xs ys tail
    ∙ sym (append_assoc word (numbers_behind (xs ++ ys)) tail)
    ∙ ap (λ bs. bs ++ tail) (with_numbers-behind word (xs ++ ys))

-- a word, numbers, a word and what is behind it
last_word : (word ns last tail : List ℕ) → word ++ (numbers_behind ns ++ (32 ∷ (last ++ tail)))
    ≡ line_of (word ∷ (map decimal ns ++ (last ∷ []))) ++ tail
last_word word [] last tail = sym (append_assoc word (32 ∷ last) tail)
last_word word (n ∷ ns) last tail =
    ap (λ bs. word ++ (32 ∷ bs)) (append_assoc (decimal n) (numbers_behind ns) (32 ∷ (last ++ tail))
    ∙ last_word (decimal n) ns last tail)
    ∙ sym (append_assoc word (32 ∷ line_of (decimal n ∷ (map decimal ns ++ (last ∷ [])))) tail)

-- the line of a word, numbers and a word
pub refused_line : (word xs ys last tail : List ℕ)
    → with_numbers word xs ++ (numbers_behind ys ++ (32 ∷ (last ++ tail)))
    ≡ line_of (word ∷ (map decimal (xs ++ ys) ++ (last ∷ []))) ++ tail
refused_line word xs ys last tail =
    two_parts word xs ys (32 ∷ (last ++ tail)) ∙ last_word word (xs ++ ys) last tail
