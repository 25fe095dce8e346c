-- The verdict of a text whose lines are read one by one.
use Rattle.std.proofs.Common.{◌≡◌, ℕ, List, ◌∷◌, refl, true, None, ◌-◌, ◌++◌, ap, ◌∙◌, false, cond, suc, length, take}
use Rattle.std.proofs.Common.{[], arith, Some, sym, Bool, append-nil, nat_lt, ◌&&◌, ◌||◌}
use Rattle.std.specs.Option.{option_map_or}
use Rattle.std.proofs.lemmas.List.{take-append-le}
use Rattle.std.proofs.Math.Seq.{take-length}
use Rattle.std.proofs.lemmas.Bool.{and_right}
use Rattle.dover_model.specs.Common.{trace_lines, begins_trace, first_wrong, text_lines, good_verdict, wrong_verdict}
use Rattle.dover_model.specs.Common.{verdict, Wrong, expected_after, ends_with_end, Accepted, is_empty, named_session}
use Rattle.dover_model.specs.Common.{whole_lines, rest_of, is_too_long, Session, IsValidSession}
use Rattle.dover_model.specs.Verdict.{rest_counts, Short}
use Rattle.dover_model.proofs.lists.Beginnings.{begins_onward}
use Rattle.dover_model.proofs.traces.Named.{beginnings_pass, trace_names_session}
use Rattle.dover_model.proofs.traces.Accepting.{none_wrong}
use Rattle.dover_model.proofs.traces.WrongStays.{begun, Starts, next_wrong, wrong_next, too_long_fails, after_end_fails}
use Rattle.dover_model.proofs.lists.Tests.{never}
use Rattle.dover_model.proofs.traces.TraceEnds.{trace_ends}

-- of lines that begin a trace none is wrong
pub begun_not_wrong : (ls : List (List ℕ)) → begins_trace ls ≡ true → first_wrong [] ls ≡ None
begun_not_wrong [] passes = refl
begun_not_wrong (l ∷ ls) passes =
    let it : Starts (l ∷ ls) = begun l ls passes in
    none_wrong [] (l ∷ ls)
    (λ front begins. beginnings_pass it.session front it.valid
    (begins_onward front (l ∷ ls) (trace_lines it.session) begins it.begins))

-- a text whose lines begin a trace isn't wrong
pub good_text : (T : List ℕ) → begins_trace (whole_lines T) ≡ true → rest_counts T ≡ false → verdict T ≡ good_verdict T
good_text T passes none =
    let lines : text_lines T ≡ whole_lines T = ap (λ b. whole_lines T ++ cond b (rest_of T ∷ []) []) none
    ∙ append-nil (whole_lines T) in
    ap (λ o. option_map_or (wrong_verdict T) o (good_verdict T))
    (ap (first_wrong []) lines ∙ begun_not_wrong (whole_lines T) passes)

-- a text whose last line is the first with which its lines begin no trace is wrong at that line
pub wrong_text : (T : List ℕ) (ls : List (List ℕ)) (l : List ℕ) → text_lines T ≡ ls ++ l ∷ [] → begins_trace ls ≡ true
    → begins_trace (ls ++ l ∷ []) ≡ false → verdict T ≡ Wrong (suc (length ls)) (expected_after ls)
wrong_text T ls l lines passes fails =
    let first : first_wrong [] (text_lines T) ≡ Some (suc (length ls)) = ap (first_wrong []) lines
    ∙ wrong_next [] ls l [] (begun_not_wrong ls passes)
    ∙ ap (λ b. next_wrong b ls l []) fails in
    let before : take (suc (length ls) - 1) (text_lines T) ≡ ls = ap (take (suc (length ls) - 1)) lines
    ∙ take-append-le (suc (length ls) - 1) ls (l ∷ []) (omega arith) ∙ ap (λ n. take n ls) (omega arith)
    ∙ take-length ls in
    ap (λ o. option_map_or (wrong_verdict T) o (good_verdict T)) first
    ∙ ap (λ xs. Wrong (suc (length ls)) (expected_after xs)) before

-- a whole line is wrong
pub wrong_line : (T : List ℕ) (ls : List (List ℕ)) (l : List ℕ) → whole_lines T ≡ ls ++ l ∷ [] → rest_of T ≡ []
    → begins_trace ls ≡ true
    → begins_trace (ls ++ l ∷ []) ≡ false → verdict T ≡ Wrong (suc (length ls)) (expected_after ls)
wrong_line T ls l lines empty passes fails = wrong_text T ls l
    (ap (λ r. whole_lines T ++ cond (is_too_long r || (nat_lt 0 (length r) && ends_with_end (whole_lines T)))
    (r ∷ []) []) empty
    ∙ append-nil (whole_lines T) ∙ lines) passes fails

-- a rest that counts is wrong
pub wrong_rest : (T : List ℕ) → rest_counts T ≡ true → begins_trace (whole_lines T) ≡ true
    → verdict T ≡ Wrong (suc (length (whole_lines T))) (expected_after (whole_lines T))
wrong_rest T counts passes =
    wrong_text T (whole_lines T) (rest_of T) (ap (λ b. whole_lines T ++ cond b (rest_of T ∷ []) []) counts) passes
    (by_tests (is_too_long (rest_of T)) (ends_with_end (whole_lines T)) refl refl counts) where
      by_tests : (a b : Bool) → is_too_long (rest_of T) ≡ a → ends_with_end (whole_lines T) ≡ b
          → (a || (nat_lt 0 (length (rest_of T)) && b)) ≡ true
          → begins_trace (whole_lines T ++ rest_of T ∷ []) ≡ false
      by_tests true b long e h = too_long_fails (whole_lines T) (rest_of T) long
      by_tests false true short ended h = after_end_fails (whole_lines T) (rest_of T) ended
      by_tests false false short goes_on h = never (sym (and_right (nat_lt 0 (length (rest_of T))) false refl) ∙ h)

-- a trace with nothing behind it is accepted
pub accepted_text : (T : List ℕ) (S : Session) → IsValidSession S → whole_lines T ≡ trace_lines S → rest_of T ≡ []
    → good_verdict T ≡ Accepted S
accepted_text T S valid lines empty =
    ap (λ r. cond (ends_with_end (whole_lines T) && is_empty r)
    (option_map_or Accepted (named_session (whole_lines T)) (Short (length (whole_lines T))))
    (Short (length (whole_lines T)))) empty
    ∙ ap (λ ls. cond (ends_with_end ls && true) (option_map_or Accepted (named_session ls) (Short (length ls)))
    (Short (length ls))) lines
    ∙ ap (λ b. cond (b && true)
    (option_map_or Accepted (named_session (trace_lines S)) (Short (length (trace_lines S))))
    (Short (length (trace_lines S))))
    (trace_ends S valid)
    ∙ ap (λ o. option_map_or Accepted o (Short (length (trace_lines S))))
    (trace_names_session S valid)

-- a text that hasn't ended is short
pub short_text : (T : List ℕ) → ends_with_end (whole_lines T) ≡ false → good_verdict T ≡ Short (length (whole_lines T))
short_text T on = ap (λ b. cond (b && is_empty (rest_of T))
    (option_map_or Accepted (named_session (whole_lines T)) (Short (length (whole_lines T))))
    (Short (length (whole_lines T)))) on
