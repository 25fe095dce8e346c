-- What a whole line adds, where no line has begun.
use Rattle.std.proofs.Common.{◌≡◌, ℕ, ◌<◌, ◌≤◌, ◌+◌, ◌-◌, List, [], ◌∷◌, ◌++◌, length, take, get_or, refl, sym, ap, ◌∙◌}
use Rattle.std.proofs.Common.{suc, zero, arith, min, subst, Bool, true, false, cond, not, length-append, ◌==◌}
use Rattle.std.proofs.Common.{append-nil, take_at, length-take, eqb-true}
use Rattle.std.specs.List.{list_all}
use Rattle.std.proofs.lemmas.List.{take_more}
use Rattle.std.proofs.lemmas.List.Concat.{flat_map-cons}
use Rattle.std.proofs.lemmas.Bool.{and_from}
use Rattle.dover_model.specs.Lines.{cut, whole_lines, rest_of, lines_of, is_too_long}
use Rattle.dover_model.proofs.texts.Cuts.{CutText, HasNoFeed, onto, cut_append, cut_in_lines}
use Rattle.line_text.specs.declared.cutting.ByteEffect.TheVariants.{Line}
use Rattle.line_text.specs.Cutting.{Cutting, StandsFor, HasCut, IsWholeLine, begun_line, most_count}

-- where no line has begun, the lines are the whole ones
pub lines_whole : (bytes : List ℕ) → rest_of bytes ≡ [] → lines_of bytes ≡ whole_lines bytes
lines_whole bytes none = ap (λ r. whole_lines bytes ++ cond (is_too_long r) (r ∷ []) []) none
    ∙ append-nil (whole_lines bytes)

-- a line with its line feed
one_line : (line : List ℕ) → HasNoFeed line → cut (line ++ 10 ∷ []) ≡ (line ∷ [], [])
one_line line one =
    ap cut (sym (flat_map-cons (λ (l : List ℕ). l ++ 10 ∷ []) line [] ∙ append-nil (line ++ 10 ∷ [])))
    ∙ cut_in_lines (line ∷ []) (one, tt)

module _ (x line : List ℕ) (one : HasNoFeed line) (none : rest_of x ≡ []) where
  cut_whole : cut (x ++ (line ++ 10 ∷ [])) ≡ (whole_lines x ++ line ∷ [], [])
  cut_whole = cut_append x (line ++ 10 ∷ [])
      ∙ ap (λ (r : List ℕ). let c : CutText = onto r (cut (line ++ 10 ∷ [])) in let all : CutText =
      (whole_lines x ++ c.0, c.1) in all) none
      ∙ ap (λ (c : CutText). let all : CutText = (whole_lines x ++ c.0, c.1) in all) (one_line line one)

  -- no line has begun behind it
  none_begun : rest_of (x ++ (line ++ 10 ∷ [])) ≡ []
  none_begun = ap (λ (c : CutText). c.1) cut_whole

  -- it is a line more
  line_more : lines_of (x ++ (line ++ 10 ∷ [])) ≡ lines_of x ++ line ∷ []
  line_more = lines_whole (x ++ (line ++ 10 ∷ [])) none_begun ∙ ap (λ (c : CutText). c.0) cut_whole
      ∙ ap (λ ls. ls ++ line ∷ []) (sym (lines_whole x none))

module _ (c : Cutting) (x bytes : List ℕ) (it : IsWholeLine c bytes) (cut_so : begun_line c ≡ rest_of x) where
  -- no line has begun behind a whole one
  pub whole_none : rest_of (x ++ bytes) ≡ []
  whole_none = ap (λ bs. rest_of (x ++ bs)) it.ended ∙ none_begun x it.line it.one (sym cut_so ∙ it.fresh)

  -- the bytes without the last one are the line
  without_feed : take (length bytes - 1) bytes ≡ it.line
  without_feed =
      let size : length bytes ≡ length it.line + 1 = ap length it.ended ∙ length-append it.line (10 ∷ []) in
      let less : length bytes - 1 ≡ length it.line = omega (arith, size) in
      ap (λ n. take n bytes) less ∙ ap (take (length it.line)) it.ended
      ∙ take_at it.line (10 ∷ []) (length it.line) refl

  -- it is a line more
  pub whole_cut : HasCut Line (take (length bytes - 1) bytes) x (x ++ bytes)
  whole_cut = subst (λ l. HasCut Line l x (x ++ bytes)) (sym without_feed)
      (subst (λ bs. HasCut Line it.line x (x ++ bs)) (sym it.ended) (
        ap (λ (k : CutText). k.0) (cut_whole x it.line it.one none),
        none_begun x it.line it.one none,
        line_more x it.line it.one none,
      )) where
        none : rest_of x ≡ []
        none = sym cut_so ∙ it.fresh

-- what is kept after a whole line, which is counted
pub whole_stands : (c : Cutting) (n : ℕ) (x bytes : List ℕ) → n ≡ min (c.count + 1) most_count → IsWholeLine c bytes
    → StandsFor c x → StandsFor (record { line = c.line; count = n; last = c.last }) (x ++ bytes)
whole_stands c n x bytes counted it stands = record {
  count = omega (
    arith,
    counted,
    stands.count,
    ap length (whole_cut c x bytes it stands.rest).0,
    length-append (whole_lines x) (take (length bytes - 1) bytes ∷ []),
  );
  rest = it.fresh ∙ sym none;
  over = stands.over ∙ ap is_too_long (sym stands.rest ∙ it.fresh ∙ sym none);
} where
  none : rest_of (x ++ bytes) ≡ []
  none = whole_none c x bytes it stands.rest

-- ---- the first line feed

-- bytes of which none is a line feed
none_feed : (bytes : List ℕ) (n : ℕ) → n ≤ length bytes → ((k : ℕ) → k < n → (get_or bytes k 0 == 10) ≡ true → ⊥)
    → HasNoFeed (take n bytes)
none_feed bytes zero within none = refl
none_feed [] (suc n) within none = absurd (omega arith)
none_feed (b ∷ bytes) (suc n) within none =
    and_from (not (b == 10)) (list_all (λ c. not (c == 10)) (take n bytes)) (by (b == 10) refl)
    (none_feed bytes n (omega arith) (λ k less. none (suc k) (omega arith))) where
      by : (c : Bool) → (b == 10) ≡ c → not c ≡ true
      by true is = absurd (none zero (omega arith) is)
      by false is = refl

-- the bytes up to the first line feed, with it, are a whole line
pub first_whole : (c : Cutting) (bytes : List ℕ) (at : ℕ) → at < length bytes
    → ((k : ℕ) → k < at → (get_or bytes k 0 == 10) ≡ true → ⊥)
    → (get_or bytes at 0 == 10) ≡ true → at ≤ 128 → begun_line c ≡ [] → IsWholeLine c (take (at + 1) bytes)
first_whole c bytes at within none feed few fresh = record {
  line = take at bytes;
  ended = take_more bytes at 0 within ∙ ap (λ b. take at bytes ++ b ∷ []) (eqb-true _ _ feed);
  one = none_feed bytes at (omega arith) none;
  short = omega (arith, length-take at bytes);
  fresh = fresh;
}
