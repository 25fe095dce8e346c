-- Lines of a word and a number each, written from the last to the first.
use Rattle.std.proofs.Common.{◌≡◌, ℕ, List, [], ◌∷◌, ◌++◌, sym, ap, ◌∙◌, append_assoc}
use Rattle.dover_model.specs.Lines.{with_numbers, in_lines}

-- one line
pub one_written : (word ns ms : List ℕ) (more : List (List ℕ)) (none all : List ℕ) → none ≡ 10 ∷ []
    → all ≡ with_numbers word ns ++ none → ns ≡ ms → all ++ in_lines more ≡ in_lines (with_numbers word ms ∷ more)
one_written word ns ms more none all feed first same = ap (λ t. t ++ in_lines more) (first
    ∙ ap (λ t. with_numbers word ns ++ t) feed ∙ ap (λ l. with_numbers word l ++ 10 ∷ []) same)

-- the lines of these words and numbers, and lines behind them
abbrev pub four : (a b c d : List ℕ) (k l m n : ℕ) → List (List ℕ) → List ℕ
four a b c d k l m n more = in_lines (
    with_numbers a (k ∷ []) ∷ with_numbers b (l ∷ []) ∷ with_numbers c (m ∷ []) ∷ with_numbers d (n ∷ []) ∷ more)

-- a line that others follow
pub front : (a t more : List ℕ) → (a ++ 10 ∷ t) ++ more ≡ (a ++ 10 ∷ []) ++ (t ++ more)
front a t more = append_assoc a (10 ∷ t) more ∙ sym (append_assoc a (10 ∷ []) (t ++ more))

-- four lines
lines_of : (a b c d more : List ℕ) → (a ++ 10 ∷ (b ++ 10 ∷ (c ++ 10 ∷ (d ++ 10 ∷ [])))) ++ more
    ≡ (a ++ 10 ∷ []) ++ ((b ++ 10 ∷ []) ++ ((c ++ 10 ∷ []) ++ ((d ++ 10 ∷ []) ++ more)))
lines_of a b c d more = front a (b ++ 10 ∷ (c ++ 10 ∷ (d ++ 10 ∷ []))) more
    ∙ ap (λ t. (a ++ 10 ∷ []) ++ t) (front b (c ++ 10 ∷ (d ++ 10 ∷ [])) more
    ∙ ap (λ t. (b ++ 10 ∷ []) ++ t) (front c (d ++ 10 ∷ []) more))

-- each is written with the line feed before it
pub four_written : (a b c d : List ℕ) (k l m n : ℕ) (more : List (List ℕ)) (none one two three all : List ℕ)
    → none ≡ 10 ∷ []
    → one ≡ with_numbers (10 ∷ d) (n ∷ []) ++ none
    → two ≡ with_numbers (10 ∷ c) (m ∷ []) ++ one
    → three ≡ with_numbers (10 ∷ b) (l ∷ []) ++ two
    → all ≡ with_numbers a (k ∷ []) ++ three
    → all ++ in_lines more ≡ four a b c d k l m n more
four_written a b c d k l m n more none one two three all feed first second third fourth =
    ap (λ t. t ++ in_lines more) (fourth
    ∙ ap (λ t. with_numbers a (k ∷ []) ++ t) (third ∙ ap (λ t. with_numbers (10 ∷ b) (l ∷ []) ++ t)
    (second ∙ ap (λ t. with_numbers (10 ∷ c) (m ∷ []) ++ t) (first
    ∙ ap (λ t. with_numbers (10 ∷ d) (n ∷ []) ++ t) feed))))
    ∙ lines_of (with_numbers a (k ∷ [])) (with_numbers b (l ∷ [])) (with_numbers c (m ∷ [])) (with_numbers d (n ∷ []))
    (in_lines more)

-- other numbers, each the same
pub four_same : (a b c d : List ℕ) (k l m n p q r s : ℕ) (more : List (List ℕ)) → k ≡ p → l ≡ q → m ≡ r → n ≡ s
    → four a b c d k l m n more ≡ four a b c d p q r s more
four_same a b c d k l m n p q r s more first second third fourth =
    ap (λ x. four a b c d x l m n more) first ∙ ap (λ x. four a b c d p x m n more) second
    ∙ ap (λ x. four a b c d p q x n more) third ∙ ap (λ x. four a b c d p q r x more) fourth
