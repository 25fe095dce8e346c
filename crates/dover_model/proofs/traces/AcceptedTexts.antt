-- A text that is accepted is the trace of the valid session that it is accepted with.
use Rattle.std.proofs.Common.{◌≡◌, ℕ, List, [], ◌∷◌, ◌++◌, length, append-nil, refl, sym, ap, ◌∙◌, subst, arith, Bool}
use Rattle.std.proofs.Common.{true, false, cond, ◌&&◌, ◌||◌, Option, Some, None, suc, take, ◌-◌, nat_lt, bytes_eq}
use Rattle.std.proofs.Common.{eqb-true, append_assoc}
use Rattle.std.specs.List.{starts_with}
use Rattle.std.specs.Option.{option_map_or}
use Rattle.std.proofs.lemmas.Bool.{and_parts}
use Rattle.std.proofs.lemmas.Slice.Eq.{bytes_eq-Decides, starts_is}
use Rattle.dover_model.specs.Common.{in_lines, whole_lines, rest_of, is_too_long, Session, IsValidSession}
use Rattle.dover_model.specs.Common.{is_valid_session, trace_lines, trace_of_session, Accepted, Wrong, begins_trace_of}
use Rattle.dover_model.specs.Common.{begins_trace, named_session, first_wrong, expected_after, good_verdict}
use Rattle.dover_model.specs.Common.{wrong_verdict, verdict, ends_with_end, is_empty, text_lines, Begins}
use Rattle.dover_model.specs.Verdict.{Short}
use Rattle.dover_model.proofs.lists.Tests.{never}
use Rattle.dover_model.proofs.texts.Cuts.{CutText, is_feed, put_before, cut_feed, cut_other}
use Rattle.dover_model.proofs.traces.Named.{beginnings_pass}
use Rattle.dover_model.proofs.traces.WrongStays.{next_wrong, after_end_fails}

-- ---- a text is its whole lines and its rest

-- a cut text, joined
abbrev joined : CutText → List ℕ
joined c = in_lines c.0 ++ c.1

-- with a byte before it
before_joined : (b : ℕ) (ls : List (List ℕ)) (rest : List ℕ) → joined (put_before b ls rest) ≡ b ∷ joined (ls, rest)
before_joined b [] rest = refl
before_joined b (l ∷ ls) rest = refl

pub text_joined : (bytes : List ℕ) → in_lines (whole_lines bytes) ++ rest_of bytes ≡ bytes
text_joined [] = refl
text_joined (b ∷ bytes) = by (is_feed b) refl (text_joined bytes) where
  by : (c : Bool) → is_feed b ≡ c → in_lines (whole_lines bytes) ++ rest_of bytes ≡ bytes
      → in_lines (whole_lines (b ∷ bytes)) ++ rest_of (b ∷ bytes) ≡ b ∷ bytes
  by true feed behind = ap joined (cut_feed b bytes feed) ∙ ap (λ l. 10 ∷ l) behind
      ∙ ap (λ n. n ∷ bytes) (sym (eqb-true b 10 feed))
  by false other behind = ap joined (cut_other b bytes other) ∙ before_joined b (whole_lines bytes) (rest_of bytes)
      ∙ ap (λ l. b ∷ l) behind

-- no byte
empty_is : (bytes : List ℕ) → is_empty bytes ≡ true → bytes ≡ []
empty_is [] empty = refl
empty_is (b ∷ bytes) empty = absurd (let e : length (b ∷ bytes) ≡ 0 = eqb-true (length (b ∷ bytes)) 0 empty in
    omega arith)

-- ---- lines of which none is wrong

-- they begin a trace
none_begins : (before ls : List (List ℕ)) → first_wrong before ls ≡ None → begins_trace before ≡ true
    → begins_trace (before ++ ls) ≡ true
none_begins before [] none passes = subst (λ xs. begins_trace xs ≡ true) (sym (append-nil before)) passes
none_begins before (l ∷ ls) none passes =
    by_test (begins_trace (before ++ l ∷ [])) refl none (none_begins (before ++ l ∷ []) ls) where
      by_test : (b : Bool) → begins_trace (before ++ l ∷ []) ≡ b → next_wrong b before l ls ≡ None
          → (first_wrong (before ++ l ∷ []) ls ≡ None → begins_trace (before ++ l ∷ []) ≡ true
          → begins_trace ((before ++ l ∷ []) ++ ls) ≡ true)
          → begins_trace (before ++ l ∷ ls) ≡ true
      by_test true is h onward =
          subst (λ xs. begins_trace xs ≡ true) (append_assoc before (l ∷ []) ls) (onward h is)
      by_test false is h onward = absurd (let e : Some (suc (length before)) ≡ None = h in cc)

-- lines that end begin the trace of the valid session that they name
starts_of : (ls : List (List ℕ)) (S : Session) → ends_with_end ls ≡ true → named_session ls ≡ Some S
    → begins_trace ls ≡ true → IsValidSession S × Begins ls (trace_lines S)
starts_of [] S ended named passes = never ended
starts_of (l ∷ ls) S ended named passes =
    let h : begins_trace_of (l ∷ ls) S ≡ true =
    sym (ap (λ o. option_map_or (begins_trace_of (l ∷ ls)) o false) named) ∙ passes in
    let both = and_parts (is_valid_session S) (starts_with bytes_eq (trace_lines S) (l ∷ ls)) h in (
      record { passes = both.0 },
      (
        _,
        (starts_is bytes_eq-Decides (trace_lines S) (l ∷ ls)
            (starts_with bytes_eq (trace_lines S) (l ∷ ls)) refl).0 both.1,
      ),
    )

-- and are all of it
whole_by : (ls : List (List ℕ)) (S : Session) (more : List (List ℕ)) → IsValidSession S → ends_with_end ls ≡ true
    → trace_lines S ≡ ls ++ more → trace_lines S ≡ ls
whole_by ls S [] valid ended is = is ∙ append-nil ls
whole_by ls S (x ∷ more) valid ended is = absurd (
    let one : begins_trace (ls ++ x ∷ []) ≡ true =
    beginnings_pass S (ls ++ x ∷ []) valid (more, is ∙ sym (append_assoc ls (x ∷ []) more)) in
    let two : begins_trace (ls ++ x ∷ []) ≡ false = after_end_fails ls x ended in
    let e : true ≡ false = sym one ∙ two in cc)

-- ---- texts

-- lines that end, name this session and begin a trace, with nothing behind them, are the session's trace
trace_of_lines : (T : List ℕ) (S : Session) → ends_with_end (whole_lines T) ≡ true → rest_of T ≡ []
    → named_session (whole_lines T) ≡ Some S → begins_trace (whole_lines T) ≡ true
    → IsValidSession S × (T ≡ trace_of_session S)
trace_of_lines T S ended empty named passes =
    let it : IsValidSession S × Begins (whole_lines T) (trace_lines S) =
    starts_of (whole_lines T) S ended named passes in
    let whole : trace_lines S ≡ whole_lines T = whole_by (whole_lines T) S it.1.0 it.0 ended it.1.1 in (
      it.0,
      sym (text_joined T) ∙ ap (λ r. in_lines (whole_lines T) ++ r) empty ∙ append-nil (in_lines (whole_lines T))
          ∙ ap in_lines (sym whole),
    )

-- an accepted text is the trace of the valid session that it is accepted with
pub accepted_is_trace : (T : List ℕ) (S : Session) → verdict T ≡ Accepted S
    → IsValidSession S × (T ≡ trace_of_session S)
accepted_is_trace T S is = by_first (first_wrong [] (text_lines T)) refl is where
  by_good : (a b : Bool) (o : Option Session) → ends_with_end (whole_lines T) ≡ a → is_empty (rest_of T) ≡ b
      → named_session (whole_lines T) ≡ o → first_wrong [] (text_lines T) ≡ None
      → cond (a && b) (option_map_or Accepted o (Short (length (whole_lines T)))) (Short (length (whole_lines T)))
      ≡ Accepted S
      → IsValidSession S × (T ≡ trace_of_session S)
  by_good true true (Some Q) ended empty named none h =
      let same : Q ≡ S = (let e : Accepted Q ≡ Accepted S = h in cc) in
      let nothing : rest_of T ≡ [] = empty_is (rest_of T) empty in
      let lines : text_lines T ≡ whole_lines T =
      ap (λ r. whole_lines T ++ cond (is_too_long r || (nat_lt 0 (length r) && ends_with_end (whole_lines T)))
      (r ∷ []) []) nothing ∙ append-nil (whole_lines T) in
      let passes : begins_trace (whole_lines T) ≡ true =
      none_begins [] (whole_lines T) (ap (first_wrong []) (sym lines) ∙ none) refl in
      trace_of_lines T S ended nothing (named ∙ ap Some same) passes
  by_good _ _ _ ended empty named none h =
      absurd (let e : Short (length (whole_lines T)) ≡ Accepted S = h in cc)

  by_first : (o : Option ℕ) → first_wrong [] (text_lines T) ≡ o
      → option_map_or (wrong_verdict T) o (good_verdict T) ≡ Accepted S
      → IsValidSession S × (T ≡ trace_of_session S)
  by_first (Some n) wrong h = absurd (
      let e : Wrong n (expected_after (take (n - 1) (text_lines T))) ≡ Accepted S = h in cc)
  by_first None none h = by_good (ends_with_end (whole_lines T)) (is_empty (rest_of T)) (named_session (whole_lines T))
      refl refl refl none h
