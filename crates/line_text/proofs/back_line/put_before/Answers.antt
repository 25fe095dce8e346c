use Rattle.std.proofs.Common.{◌≡◌, ℕ, ◌+◌, ◌-◌, ◌<◌, ◌≤◌, List, ◌∷◌, ◌++◌, length, get_or, drop, slice_set, sym, ap}
use Rattle.std.proofs.Common.{◌∙◌, subst, arith, decimal}
use Rattle.std.proofs.lemmas.List.{drop_more, length-set}
use Rattle.line_text.specs.Writing.{numbers_behind}
use Rattle.line_text.proofs.Written.{number_before, one_longer, no_longer}
use Rattle.line_text.proofs.back_line.put_before.Goals as goal

-- there is room for the number before those that are written, and for its space
fits : (ns : List ℕ) (left start end : ℕ) → 0 < left → left ≤ length ns → length (numbers_behind ns) ≤ end
    → start + length (numbers_behind (drop left ns)) ≡ end → length (decimal (get_or ns (left - 1) 0)) < start
fits ns left start end some few room at =
    let back : left - 1 + 1 ≡ left = omega (arith, some) in
    omega (
      arith,
      room,
      at,
      ap (λ k. length (numbers_behind (drop k ns))) back,
      one_longer ns (left - 1) (omega (arith, some, few)),
      no_longer ns (left - 1),
    )

pub write_digits-start-requires : goal.write_digits-start-requires
write_digits-start-requires c =
    let room = fits c.args.numbers.now c.loop-left.left c.loop-left.start c.args.end c.loop-left-test.true
    c.loop-left.invariant.few c.requires.room c.loop-left.invariant.start in
    (omega (arith, room), omega (arith, c.loop-left.invariant.start, c.loop-left.invariant.size, c.requires.end))

pub overflow_sub-start : goal.overflow_sub-start
overflow_sub-start c =
    let room = fits c.args.numbers.now c.loop-left.left c.loop-left.start c.args.end c.loop-left-test.true
    c.loop-left.invariant.few c.requires.room c.loop-left.invariant.start in
    omega (arith, room, c.write_digits-start.ensures.start)

pub loop-left-preserved : goal.loop-left-preserved
loop-left-preserved c =
    let some : 0 < c.loop-left.left = c.loop-left-test.true in
    let i : ℕ = c.loop-left.left - 1 in
    let numbers : List ℕ = c.args.numbers.now in
    let written : List ℕ = c.write_digits-start.new.buf in
    let at : ℕ = c.write_digits-start.result in
    let within : i < length numbers = omega (arith, some, c.loop-left.invariant.few) in
    let room = fits numbers c.loop-left.left c.loop-left.start c.args.end some c.loop-left.invariant.few c.requires.room
    c.loop-left.invariant.start in
    let low : 1 ≤ at = omega (arith, room, c.write_digits-start.ensures.start) in
    let back : i + 1 ≡ c.loop-left.left = omega (arith, some) in
    let size : length written ≡ length c.args.bytes.now = c.write_digits-start.auto.buf ∙ c.loop-left.invariant.size in
    let next : drop i numbers ≡ get_or numbers i 0 ∷ drop c.loop-left.left numbers =
    drop_more numbers i 0 within ∙ ap (λ k. get_or numbers i 0 ∷ drop k numbers) back in
    record {
      size = length-set written (at - 1) 32 ∙ size;
      few = omega (arith, c.loop-left.invariant.few);
      start = omega (
        arith,
        low,
        c.loop-left.invariant.start,
        c.write_digits-start.ensures.start,
        one_longer numbers i within,
        ap (λ k. length (numbers_behind (drop k numbers))) back,
      );
      written = subst (λ ns. drop (at - 1) (slice_set written (at - 1) 32) ≡ numbers_behind ns
          ++ drop c.args.end c.args.bytes.now) (sym next)
          (number_before written at (get_or numbers i 0) (drop c.loop-left.left numbers)
          (drop c.loop-left.start c.loop-left.bytes)
          (drop c.args.end c.args.bytes.now) low (omega (
            arith,
            size,
            c.requires.end,
            c.loop-left.invariant.start,
            c.write_digits-start.ensures.start,
          )) c.write_digits-start.ensures.written c.loop-left.invariant.written);
    }
