-- Bytes that are cut into the lines that a reader takes.
use Rattle.std.proofs.Common.{◌≡◌, ◌≤◌, ◌<◌, ◌+◌, ◌-◌, ℕ, List, [], ◌∷◌, ◌++◌, length, take, drop, refl, sym, ap, ◌∙◌}
use Rattle.std.proofs.Common.{subst, Bool, true, false, cond, Result, Ok, Err, append_assoc, append-nil}
use Rattle.std.proofs.Common.{arith, length-append, length-drop, take-append-drop}
use Rattle.std.proofs.lemmas.List.{take_rest}
use Rattle.std.proofs.Math.Seq.{take-append_seam}
use Rattle.dover_model.specs.Lines.{lines_of, rest_of, is_too_long}
use Rattle.line_text.specs.Cutting as cutting
use Rattle.dialogue.specs.Reading.{Reading, lines_talk, read_lines}
use Rattle.dialogue.specs.Taking.{HasTaken, IsOrderly, TakesBytes, TakesLine}
use Rattle.dialogue.specs.Turns.{AllGiven}
use Rattle.dialogue.specs.Turns as turns
use Rattle.dialogue.proofs.Reading.{bytes_behind}

module _ {A : Type 0} (r : Reading A) where
  -- bytes that bring a line to an end
  pub line_taken : {E : Type 0} (stands : List (List ℕ) → Type 0) (costs : A → Type 0) (lines : cutting.Cutting)
      (x y line : List ℕ) (result : Result (Unit {0}) E) → lines_of y ≡ lines_of x ++ line ∷ []
      → cutting.StandsFor lines y → TakesLine r stands costs (lines_of x) line result
      → TakesBytes r (HasTaken stands lines) costs y result
  line_taken stands costs lines x y line (Ok done) is cut it =
      record { cut = cut; taken = subst (λ ls. stands ls) (sym is) it }
  line_taken stands costs lines x y line (Err error) is cut it =
      subst (λ ls. r.lacks (read_lines r ls) false × costs (read_lines r ls)) (sym is) it

  -- a byte that doesn't
  pub byte_taken : (stands : List (List ℕ) → Type 0) (lines : cutting.Cutting) (x : List ℕ) (byte : ℕ)
      → is_too_long (rest_of x) ≡ false → cutting.StandsFor lines (cutting.with_byte x byte)
      → lines_of (x ++ byte ∷ []) ≡ lines_of x → stands (lines_of x) → HasTaken stands lines (x ++ byte ∷ [])
  byte_taken stands lines x byte short cut same it = record {
    cut = subst (cutting.StandsFor lines) (ap (λ b. cond b x (x ++ byte ∷ [])) short) cut;
    taken = subst (λ ls. stands ls) (sym same) it;
  }

  -- Behind x a front of the piece was taken, and the rest is left.
  pub record HasTakenFront (stands : List ℕ → Type 0) (x piece rest : List ℕ) (more : Bool) : Type 0 where
    pub front : List ℕ
    pub cut : piece ≡ front ++ rest
    pub taken : stands (x ++ front)
    pub goes_on : r.goes_on (read_lines r (lines_of (x ++ front))) ≡ more

  -- nothing was
  pub front_none : (taken : List ℕ → Type 0) (x piece : List ℕ) → taken x
      → r.goes_on (read_lines r (lines_of x)) ≡ true → HasTakenFront taken x piece piece true
  front_none taken x piece it on = record {
    front = [];
    cut = refl;
    taken = subst (λ y. taken y) (sym (append-nil x)) it;
    goes_on = ap (λ y. r.goes_on (read_lines r (lines_of y))) (append-nil x) ∙ on;
  }

  -- so many bytes of the piece were
  pub front_takes : (taken : List ℕ → Type 0) (x piece rest : List ℕ) (more : Bool)
      → (h : HasTakenFront taken x piece rest more) → length rest < length piece
      → turns.Takes (lines_talk r) (AllGiven taken) x piece (length piece - length rest)
  front_takes taken x piece rest more h some =
      let n : length piece ≡ length h.front + length rest =
      ap (λ (l : List ℕ). length l) h.cut ∙ length-append h.front rest in
      let front : take (length piece - length rest) piece ≡ h.front =
      ap (λ k. take k piece) (let e : length piece - length rest ≡ length h.front = omega (arith, n) in e)
      ∙ ap (take (length h.front)) h.cut ∙ take-append_seam h.front rest in (
        omega (arith, some),
        omega arith,
        ([], refl, (subst (λ l. taken (x ++ l)) (sym front) h.taken, refl)),
      )

  -- and where nothing is left, all of it was
  pub front_whole : (taken : List ℕ → Type 0) (x piece rest : List ℕ) (more : Bool)
      → (h : HasTakenFront taken x piece rest more) → rest ≡ [] → taken (x ++ piece)
  front_whole taken x piece rest more h none = subst (λ l. taken (x ++ l))
      (sym (h.cut ∙ ap (λ l. h.front ++ l) none ∙ append-nil h.front)) h.taken

  module _ (old : List ℕ → Type 0) (x piece rest : List ℕ) (h : HasTakenFront old x piece rest true) (n : ℕ) where
    -- the bytes in other brackets
    taken_is : (x ++ h.front) ++ take n rest ≡ x ++ (h.front ++ take n rest)
    taken_is = append_assoc x h.front (take n rest)

    cut_more : piece ≡ (h.front ++ take n rest) ++ drop n rest
    cut_more = h.cut ∙ ap (λ l. h.front ++ l) (sym (take-append-drop n rest))
        ∙ sym (append_assoc h.front (take n rest) (drop n rest))

    -- less is left
    pub rest_less : 1 ≤ n → n ≤ length rest → length (take (length rest - n) (drop n rest)) < length piece
    rest_less some fits = omega (
      arith,
      ap (λ (l : List ℕ). length l) (take_rest rest n),
      length-drop n rest,
      ap (λ (l : List ℕ). length l) h.cut,
      length-append h.front rest,
    )

    -- more was taken
    pub front_more : (taken : List ℕ → Type 0) (more : Bool) → taken ((x ++ h.front) ++ take n rest)
        → r.goes_on (read_lines r (lines_of ((x ++ h.front) ++ take n rest))) ≡ more
        → HasTakenFront taken x piece (take (length rest - n) (drop n rest)) more
    front_more taken more it on = record {
      front = h.front ++ take n rest;
      cut = cut_more ∙ ap (λ l. (h.front ++ take n rest) ++ l) (sym (take_rest rest n));
      taken = subst (λ y. taken y) taken_is it;
      goes_on = ap (λ y. r.goes_on (read_lines r (lines_of y))) (sym taken_is) ∙ on;
    }

    -- what holds of its front holds of the piece
    pub of_piece : (o : IsOrderly r) (P : A → Type 0) → ((a : A) (line : List ℕ) → P a → P (r.next a line))
        → P (read_lines r (lines_of ((x ++ h.front) ++ take n rest))) → P (read_lines r (lines_of (x ++ piece)))
    of_piece o P keeps it = subst (λ y. P (read_lines r (lines_of y)))
        (ap (λ l. l ++ drop n rest) taken_is ∙ append_assoc x (h.front ++ take n rest) (drop n rest)
        ∙ ap (λ l. x ++ l) (sym cut_more))
        (bytes_behind r o P keeps ((x ++ h.front) ++ take n rest) (drop n rest) it)
