use Rattle.std.proofs.Common.{◌≡◌, ◌≤◌, ℕ, List, ◌+◌, ◌-◌, ◌++◌, drop, length, ap, sym, ◌∙◌, arith, length-drop}
use Rattle.line_text.specs.Writing.{numbers_behind}
use Rattle.line_text.proofs.Written.{drop_into}
use Rattle.line_text.proofs.back_line.BackLine.put_spelled.Goals as goal

pub returns-clause-is : goal.returns-clause-is
returns-clause-is c =
    let start : ℕ = c.self.inside.start in
    let bytes : List ℕ = c.self.inside.bytes in
    let low : ℕ = start - 76 in
    let part : List ℕ = c.copy_from_slice.new.self in
    let size : length c.args.self.now ≡ length bytes - start =
    ap (λ (bs : List ℕ). length bs) (sym c.self.view_is) ∙ length-drop start bytes in
    let high : 76 ≤ start = omega (arith, size, c.requires, c.self.ranges) in
    drop_into low (start - low) c.spelled.inside.start bytes part (omega (arith, c.self.invariant, c.self.ranges))
    (omega (arith, c.spelled.invariant.0, c.copy_from_slice.ensures.len))
    ∙ ap (λ bs. drop c.spelled.inside.start bs ++ drop (low + (start - low)) bytes) c.copy_from_slice.ensures.after
    ∙ ap (λ bs. bs ++ drop (low + (start - low)) bytes) c.spelled.invariant.1
    ∙ ap (λ ns. numbers_behind ns ++ drop (low + (start - low)) bytes) c.spelled.view_is
    ∙ ap (λ n. numbers_behind c.args.spelled.now ++ drop n bytes) (omega (arith, high))
    ∙ ap (λ bs. numbers_behind c.args.spelled.now ++ bs) c.self.view_is
