use Rattle.std.proofs.Common.{◌≡◌, List, ℕ, ◌-◌, ◌++◌, length, length-append, sym, ap, ◌∙◌, arith, length-drop}
use Rattle.line_text.specs.Writing.{numbers_behind}
use Rattle.line_text.proofs.Written.{length-numbers_behind}
use Rattle.line_text.proofs.back_line.BackLine.put_numbers.Goals as goal

pub put_before-self-inside-requires-clause-room : goal.put_before-self-inside-requires-clause-room
put_before-self-inside-requires-clause-room c =
    let size : length c.args.self.now ≡ length c.self.inside.bytes - c.self.inside.start =
    ap (λ (bs : List ℕ). length bs) (sym c.self.view_is) ∙ length-drop c.self.inside.start c.self.inside.bytes in
    omega (arith, size, c.requires.fits, c.self.ranges, length-numbers_behind c.args.numbers.now c.requires.short)

pub returns-clause-is : goal.returns-clause-is
returns-clause-is c = c.put_before-self-inside.ensures.written
    ∙ ap (λ bs. numbers_behind c.args.numbers.now ++ bs) c.self.view_is

pub returns-clause-size : goal.returns-clause-size
returns-clause-size c = omega (
  arith,
  ap (λ (bs : List ℕ). length bs) (returns-clause-is c),
  length-append (numbers_behind c.args.numbers.now) c.args.self.now,
  length-numbers_behind c.args.numbers.now c.requires.short,
)
