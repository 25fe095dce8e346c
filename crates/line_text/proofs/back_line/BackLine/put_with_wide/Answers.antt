use Rattle.std.proofs.Common.{◌≡◌, ℕ, List, ◌-◌, ◌^◌, ◌<◌, ◌++◌, drop, length, length-append, get_or, append_assoc, sym}
use Rattle.std.proofs.Common.{ap, ◌∙◌, arith, rules, length-drop}
use Rattle.dover_model.specs.Lines.{with_numbers}
use Rattle.line_text.specs.Writing.{numbers_behind}
use Rattle.line_text.proofs.Written.{with_numbers-behind, numbers_few}
use Rattle.line_text.proofs.back_line.BackLine.put_with_wide.Goals as goal

pub put_before-self-inside-requires-clause-room : goal.put_before-self-inside-requires-clause-room
put_before-self-inside-requires-clause-room c =
    let small : (i : ℕ) → get_or c.args.numbers.now i 0 < 2 ^ 64 = λ i. search rules in
    let size : length c.args.self.now ≡ length c.self.inside.bytes - c.self.inside.start =
    ap (λ (bs : List ℕ). length bs) (sym c.self.view_is) ∙ length-drop c.self.inside.start c.self.inside.bytes in
    omega (arith, size, c.requires, c.self.ranges, numbers_few c.args.numbers.now small)

pub put_word-requires : goal.put_word-requires
put_word-requires c =
    let small : (i : ℕ) → get_or c.args.numbers.now i 0 < 2 ^ 64 = λ i. search rules in
    omega (
      arith,
      ap (λ (bs : List ℕ). length bs) c.put_before-self-inside.ensures.written,
      length-append (numbers_behind c.args.numbers.now) (drop c.self.inside.start c.self.inside.bytes),
      ap (λ (bs : List ℕ). length bs) c.self.view_is,
      c.requires,
      numbers_few c.args.numbers.now small,
    )

pub returns-clause-is : goal.returns-clause-is
returns-clause-is c =
    let word = c.args.word.now in
    let numbers = numbers_behind c.args.numbers.now in
    c.put_word.ensures ∙ ap (λ bs. word ++ bs) c.put_before-self-inside.ensures.written
    ∙ sym (append_assoc word numbers (drop c.self.inside.start c.self.inside.bytes))
    ∙ ap (λ bs. bs ++ drop c.self.inside.start c.self.inside.bytes) (with_numbers-behind word c.args.numbers.now)
    ∙ ap (λ bs. with_numbers word c.args.numbers.now ++ bs) c.self.view_is

pub returns-clause-size : goal.returns-clause-size
returns-clause-size c =
    let small : (i : ℕ) → get_or c.args.numbers.now i 0 < 2 ^ 64 = λ i. search rules in
    omega (
      arith,
      ap (λ (bs : List ℕ). length bs) c.put_word.ensures,
      length-append c.args.word.now (drop c.put_before-self-inside.result c.put_before-self-inside.new.bytes),
      ap (λ (bs : List ℕ). length bs) c.put_before-self-inside.ensures.written,
      length-append (numbers_behind c.args.numbers.now) (drop c.self.inside.start c.self.inside.bytes),
      ap (λ (bs : List ℕ). length bs) c.self.view_is,
      numbers_few c.args.numbers.now small,
    )
