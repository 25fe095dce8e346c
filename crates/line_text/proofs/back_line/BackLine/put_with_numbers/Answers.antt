use Rattle.std.proofs.Common.{◌≡◌, List, ℕ, ◌-◌, ◌++◌, drop, length, length-append, append_assoc, sym, ap, ◌∙◌, arith}
use Rattle.std.proofs.lemmas.List.{length-drop}
use Rattle.dover_model.specs.Lines.{with_numbers}
use Rattle.line_text.specs.Writing.{numbers_behind}
use Rattle.line_text.proofs.Written.{with_numbers-behind, length-numbers_behind}
use Rattle.line_text.proofs.back_line.BackLine.put_with_numbers.Goals as goal

pub put_before-self-inside-requires-clause-room : goal.put_before-self-inside-requires-clause-room
put_before-self-inside-requires-clause-room c =
    let size : length c.args.self.now ≡ length c.self.inside.bytes - c.self.inside.start =
    ap (λ (bs : List ℕ). length bs) (sym c.self.view_is) ∙ length-drop c.self.inside.start c.self.inside.bytes in
    omega (arith, size, c.requires.fits, c.self.ranges, length-numbers_behind c.args.numbers.now c.requires.short)

pub put_word-requires : goal.put_word-requires
put_word-requires c = omega (
  arith,
  ap (λ (bs : List ℕ). length bs) c.put_before-self-inside.ensures.written,
  length-append (numbers_behind c.args.numbers.now) (drop c.self.inside.start c.self.inside.bytes),
  ap (λ (bs : List ℕ). length bs) c.self.view_is,
  c.requires.fits,
  length-numbers_behind c.args.numbers.now c.requires.short,
)

pub returns : goal.returns
returns c =
    let word = c.args.word.now in
    let numbers = numbers_behind c.args.numbers.now in
    c.put_word.ensures ∙ ap (λ bs. word ++ bs) c.put_before-self-inside.ensures.written
    ∙ sym (append_assoc word numbers (drop c.self.inside.start c.self.inside.bytes))
    ∙ ap (λ bs. bs ++ drop c.self.inside.start c.self.inside.bytes) (with_numbers-behind word c.args.numbers.now)
    ∙ ap (λ bs. with_numbers word c.args.numbers.now ++ bs) c.self.view_is
