-- With no front of a line a task text is over.
use Rattle.std.proofs.Common.{◌≡◌, ℕ, ◌<◌, ◌≤◌, ◌+◌, List, [], ◌∷◌, ◌++◌, length, take, refl, sym, ap, ◌∙◌, arith, Bool}
use Rattle.std.proofs.Common.{zero, suc, true, false, cond, not, length-append, append-nil, le-ltb, ltb-false}
use Rattle.std.proofs.Common.{ltb-true, nat_lt, take-take, length-take, length-take-le}
use Rattle.std.proofs.lemmas.List.{take-append-le}
use Rattle.std.specs.List.{list_all}
use Rattle.std.proofs.lemmas.Bool.{and_parts, and_from, not-true}
use Rattle.dover_model.specs.Lines.{cut, whole_lines, rest_of, lines_of, is_too_long}
use Rattle.dover_model.proofs.texts.Cuts.{CutText, HasNoFeed, is_feed, onto, put_before, cut_append, cut_other}
use Rattle.line_text.specs.Cutting.{Cutting, IsWholeLine}
use Rattle.task_words.specs.reading.Account.{account, account_of_lines, is_open}
use Rattle.task_words.specs.reading.Keeping.{TextStands}
use Rattle.task_words.specs.declared.reading.text.TaskText.{TaskText}
use Rattle.task_words.proofs.reading.Accounts.{goes_on}

-- bytes without a line feed are no whole line
cut_none : (p : List ℕ) → HasNoFeed p → cut p ≡ ([], p)
cut_none [] none = refl
cut_none (b ∷ p) none = let both = and_parts (not (is_feed b)) (list_all (λ c. not (is_feed c)) p) none in
    cut_other b p (not-true (is_feed b) both.0) ∙ ap (λ (c : CutText). put_before b c.0 c.1) (cut_none p both.1)

-- a front of a line has none either
none_before : (k : ℕ) (line : List ℕ) → HasNoFeed line → HasNoFeed (take k line)
none_before zero line none = refl
none_before (suc k) [] none = refl
none_before (suc k) (b ∷ line) none =
    let both = and_parts (not (is_feed b)) (list_all (λ c. not (is_feed c)) line) none in
    and_from (not (is_feed b)) (list_all (λ c. not (is_feed c)) (take k line)) both.0 (none_before k line both.1)

module _ (x p : List ℕ) (none : HasNoFeed p) (short : length p ≤ 128) (fresh : rest_of x ≡ []) where
  -- where no line has begun, a front of a line is the rest behind it
  cut_front : cut (x ++ p) ≡ (whole_lines x, p)
  cut_front = cut_append x p
      ∙ ap (λ (r : List ℕ). let c : CutText = onto r (cut p) in let all : CutText = (whole_lines x ++ c.0, c.1) in all)
      fresh
      ∙ ap (λ (c : CutText). let all : CutText = (whole_lines x ++ c.0, c.1) in all) (cut_none p none)
      ∙ ap (λ ls. let all : CutText = (ls, p) in all) (append-nil (whole_lines x))

  -- and the lines are the same
  same_lines : lines_of (x ++ p) ≡ lines_of x
  same_lines = ap (λ (c : CutText). c.0 ++ cond (is_too_long c.1) (c.1 ∷ []) []) cut_front
      ∙ ap (λ b. whole_lines x ++ cond b (p ∷ []) []) (le-ltb 128 (length p) short)
      ∙ ap (λ r. whole_lines x ++ cond (is_too_long r) (r ∷ []) []) (sym fresh)

-- behind bytes with which the text goes on no front of what is taken at once ends it
pub front_open : (until : ℕ) (text : TaskText) (x piece : List ℕ) (n : ℕ) → TextStands until text x
    → n ≤ length piece
    → (1 < n → IsWholeLine text.lines (take n piece)) → (k : ℕ) → k < n
    → is_open (account until (x ++ take k piece)) ≡ true
front_open until text x piece n stands within whole k less = by (nat_lt 1 n) refl where
  opened : is_open (account until x) ≡ true
  opened = ap goes_on stands.keeps.stands

  by : (b : Bool) → nat_lt 1 n ≡ b → is_open (account until (x ++ take k piece)) ≡ true
  by false few =
      let none : k ≡ 0 = omega (arith, less, ltb-false 1 n few) in
      ap (λ i. is_open (account until (x ++ take i piece))) none
      ∙ ap (λ bs. is_open (account until bs)) (append-nil x) ∙ opened
  by true many =
      let line = whole (ltb-true 1 n many) in
      let size : n ≡ length line.line + 1 = omega (
        arith,
        length-take-le n piece within,
        ap length line.ended,
        length-append line.line (10 ∷ []),
      ) in
      let front : take k piece ≡ take k line.line =
      sym (take-take k n piece (omega (arith, less))) ∙ ap (take k) line.ended
      ∙ take-append-le k line.line (10 ∷ []) (omega (arith, less, size)) in
      ap (λ bs. is_open (account until (x ++ bs))) front
      ∙ ap (λ ls. is_open (account_of_lines until ls)) (same_lines x (take k line.line)
      (none_before k line.line line.one)
      (omega (arith, length-take k line.line, line.short)) (sym stands.cut.rest ∙ line.fresh))
      ∙ opened

-- what is taken at once is no more than a line
pub few_taken : (c : Cutting) (piece : List ℕ) (n : ℕ) → n ≤ length piece → (1 < n → IsWholeLine c (take n piece))
    → n ≤ 129
few_taken c piece n within whole = by (nat_lt 1 n) refl where
  by : (b : Bool) → nat_lt 1 n ≡ b → n ≤ 129
  by false few = omega (arith, ltb-false 1 n few)
  by true many = let line = whole (ltb-true 1 n many) in omega (
    arith,
    length-take-le n piece within,
    ap length line.ended,
    length-append line.line (10 ∷ []),
    line.short,
  )
