-- A line that is written number by number.
use Rattle.std.proofs.Common.{◌≡◌, ℕ, zero, suc, ◌+◌, ◌-◌, ◌*◌, ◌^◌, ◌<◌, ◌≤◌, List, [], ◌∷◌, ◌++◌, length}
use Rattle.std.proofs.Common.{length-append, append_assoc, append-nil, ap, ◌∙◌, sym, arith, decimal, drop, set, get_or}
use Rattle.std.proofs.Common.{take, subst, length-take-le, drop-drop}
use Rattle.std.proofs.lemmas.Fmt.{length-decimal-le}
use Rattle.std.proofs.lemmas.List.{drop-set, drop_more, drop-append-le}
use Rattle.std.proofs.Math.Seq.{drop-append-add}
use borrow.Rule.Slice.PartMut.{put_mid, post_of}
use Rattle.dover_model.specs.Common.{AreShort, with_numbers}
use Rattle.dover_model.proofs.texts.Fields.{length-with_numbers}
use Rattle.line_text.specs.Writing.{numbers_behind}

-- a word and numbers are the word with the numbers behind it
pub with_numbers-behind : (word ns : List ℕ) → word ++ numbers_behind ns ≡ with_numbers word ns
with_numbers-behind word [] = append-nil word
with_numbers-behind word (n ∷ ns) = ap (λ bs. word ++ 32 ∷ bs) (with_numbers-behind (decimal n) ns)

-- numbers are no longer than so
pub length-numbers_behind : (ns : List ℕ) → AreShort ns → length (numbers_behind ns) ≤ 19 * length ns
length-numbers_behind ns short = omega (
  arith,
  ap (λ (bs : List ℕ). length bs) (with_numbers-behind [] ns),
  length-with_numbers [] ns short,
)

-- ---- a line that is written from its end

-- a number and a space go before what is written
pub number_before : (written : List ℕ) (at n : ℕ) (ns behind tail : List ℕ) → 1 ≤ at → at ≤ length written
    → drop at written ≡ decimal n ++ behind → behind ≡ numbers_behind ns ++ tail
    → drop (at - 1) (set written (at - 1) 32) ≡ numbers_behind (n ∷ ns) ++ tail
number_before written at n ns behind tail some inside digits rest =
    drop-set written (at - 1) 32 (omega arith)
    ∙ ap (λ i. 32 ∷ drop i written) (back at some)
    ∙ ap (λ bs. 32 ∷ bs) (digits ∙ ap (λ bs. decimal n ++ bs) rest
    ∙ sym (append_assoc (decimal n) (numbers_behind ns) tail)) where
      back : (m : ℕ) → 1 ≤ m → m - 1 + 1 ≡ m
      back m low = omega arith

-- with the number before them, numbers are longer by its digits and a space
pub one_longer : (ns : List ℕ) (i : ℕ) → i < length ns → length (numbers_behind (drop i ns))
    ≡ 1 + length (decimal (get_or ns i 0)) + length (numbers_behind (drop (i + 1) ns))
one_longer ns i within = omega (
  arith,
  ap (λ (ms : List ℕ). length (numbers_behind ms)) (drop_more ns i 0 within),
  length-append (decimal (get_or ns i 0)) (numbers_behind (drop (i + 1) ns)),
)

-- numbers from any on are no longer than all
pub no_longer : (ns : List ℕ) (i : ℕ) → length (numbers_behind (drop i ns)) ≤ length (numbers_behind ns)
no_longer ns zero = omega arith
no_longer [] (suc i) = omega arith
no_longer (n ∷ ns) (suc i) = omega (arith, no_longer ns i, length-append (decimal n) (numbers_behind ns))

-- a number of 64 bits has at most twenty digits
pub digits : (n : ℕ) → n < 2 ^ 64 → length (decimal n) ≤ 20
digits n small = length-decimal-le 20 n (omega arith) (omega arith) small

-- numbers of 64 bits, each behind a space
pub numbers_few : (ns : List ℕ) → ((i : ℕ) → get_or ns i 0 < 2 ^ 64) → length (numbers_behind ns) ≤ 21 * length ns
numbers_few [] small = omega arith
numbers_few (n ∷ ns) small = omega (
  arith,
  digits n (small 0),
  numbers_few ns (λ i. small (suc i)),
  length-append (decimal n) (numbers_behind ns),
)

-- what is dropped up to a place in a part that was written is the rest of the part and what follows it
pub drop_into : (low k s : ℕ) (bytes part : List ℕ) → low ≤ length bytes → s ≤ length part
    → drop (low + s) (put_mid low k bytes part) ≡ drop s part ++ drop (low + k) bytes
drop_into low k s bytes part inside within =
    let front : length (take low bytes) ≡ low = length-take-le low bytes inside in
    subst (λ n. drop (n + s) (put_mid low k bytes part) ≡ drop s (part ++ post_of low k bytes)) front
    (drop-append-add (take low bytes) (part ++ post_of low k bytes) s)
    ∙ drop-append-le s part (post_of low k bytes) within
    ∙ ap (λ bs. drop s part ++ bs) (drop-drop k low bytes)
