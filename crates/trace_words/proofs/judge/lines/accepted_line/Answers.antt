use Rattle.std.proofs.Common.{◌≡◌, ℕ, List, ◌∷◌, ◌++◌, [], length, append_assoc, codes, decimal, sym, ap, ◌∙◌, arith}
use Rattle.dover_model.specs.Lines.{with_numbers}
use Rattle.trace_words.proofs.judge.lines.accepted_line.Goals as goal

-- the line with its second number
both : (value bound : ℕ) → with_numbers (codes "accepted") (value ∷ []) ++ 32 ∷ (decimal bound ++ 10 ∷ [])
    ≡ with_numbers (codes "accepted") (value ∷ bound ∷ []) ++ 10 ∷ []
both value bound = ap (λ l. codes "accepted" ++ 32 ∷ l)
    (sym (append_assoc (decimal value) (32 ∷ decimal bound) (10 ∷ [])))

pub put_long-requires : goal.put_long-requires
put_long-requires c = omega (arith, ap (λ (bs : List ℕ). length bs) c.new-line.ensures)

pub put_word-requires : goal.put_word-requires
put_word-requires c =
    omega (arith, ap (λ (bs : List ℕ). length bs) c.new-line.ensures, c.put_long.ensures.size)

pub put_with_wide-requires : goal.put_with_wide-requires
put_with_wide-requires c = omega (
  arith,
  ap (λ (bs : List ℕ). length bs) c.new-line.ensures,
  c.put_long.ensures.size,
  ap (λ (bs : List ℕ). length bs) c.put_word.ensures,
)

pub returns : goal.returns
returns c = c.put_with_wide.ensures.is
    ∙ ap (λ l. with_numbers (codes "accepted") (c.args.value ∷ []) ++ l)
    (c.put_word.ensures ∙ ap (λ l. 32 ∷ l)
    (c.put_long.ensures.is ∙ ap (λ l. decimal c.args.bound ++ l) c.new-line.ensures))
    ∙ both c.args.value c.args.bound
