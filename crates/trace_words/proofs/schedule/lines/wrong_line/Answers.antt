use Rattle.std.proofs.Common.{◌≡◌, ℕ, List, ◌∷◌, ◌++◌, [], length, append_assoc, length-append, codes, decimal, sym, ap}
use Rattle.std.proofs.Common.{◌∙◌, arith}
use Rattle.dover_model.specs.Lines.{with_numbers}
use Rattle.schedule_judge.specs.declared.causes.Cause.{Cause}
use Rattle.trace_words.specs.schedule.Talk.{cause_word, wrong_text}
use Rattle.trace_words.proofs.schedule.lines.wrong_line.Goals as goal

-- the line with its cause
both : (line : ℕ) (cause : Cause) → with_numbers (codes "wrong") (line ∷ []) ++ 32 ∷ (cause_word cause ++ 10 ∷ [])
    ≡ wrong_text line cause
both line cause = ap (λ l. codes "wrong" ++ 32 ∷ l)
    (sym (append_assoc (decimal line) (32 ∷ cause_word cause) (10 ∷ [])))

pub put_word-requires : goal.put_word-requires
put_word-requires c = omega (arith, ap (λ (bs : List ℕ). length bs) c.new-line.ensures, c.cause_word.ensures.short)

pub put_word-requires-2 : goal.put_word-requires-2
put_word-requires-2 c = omega (
  arith,
  ap (λ (bs : List ℕ). length bs) c.new-line.ensures,
  ap (λ (bs : List ℕ). length bs) c.put_word.ensures,
  length-append c.cause_word.result.now c.new-line.result,
  c.cause_word.ensures.short,
)

pub put_with_wide-requires : goal.put_with_wide-requires
put_with_wide-requires c = omega (
  arith,
  ap (λ (bs : List ℕ). length bs) c.new-line.ensures,
  ap (λ (bs : List ℕ). length bs) c.put_word.ensures,
  length-append c.cause_word.result.now c.new-line.result,
  ap (λ (bs : List ℕ). length bs) c.put_word-2.ensures,
  c.cause_word.ensures.short,
)

pub returns : goal.returns
returns c = c.put_with_wide.ensures.is
    ∙ ap (λ l. with_numbers (codes "wrong") (c.args.number ∷ []) ++ l)
    (c.put_word-2.ensures ∙ ap (λ l. 32 ∷ l)
    (c.put_word.ensures ∙ ap (λ l. c.cause_word.result.now ++ l) c.new-line.ensures
    ∙ ap (λ w. w ++ 10 ∷ []) c.cause_word.ensures.is))
    ∙ both c.args.number c.args.cause
