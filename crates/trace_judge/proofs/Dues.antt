-- The numbers of a step that is due in place of a wrong line have numerals.
use Rattle.std.proofs.Common.{◌≡◌, ℕ, zero, suc, ◌-◌, List, [], ◌∷◌, ◌++◌, length, take, refl, ap, ◌∙◌, subst}
use Rattle.std.proofs.Common.{Bool, true, false, cond, ◌&&◌, Option, Some, None, arith, append_assoc}
use Rattle.std.specs.Prelude.{slice_get}
use Rattle.std.specs.Option.{option_map_or, option_and_then}
use Rattle.std.proofs.lemmas.List.{take-append-le}
use Rattle.std.proofs.lemmas.Bool.{and_parts}
use Rattle.std.proofs.Math.Seq.{take-length}
use Rattle.dover_model.specs.declared.events.Event.{Event}
use Rattle.dover_model.specs.Common.{whole_lines, rest_of, printed, Session, instance_of, is_valid_session, AreShort}
use Rattle.dover_model.specs.Common.{step_numbers, Expected, Nothing, Verdict, Accepted, Wrong, named_session}
use Rattle.dover_model.specs.Common.{begins_trace, begins_trace_of, ends_with_end, is_empty, text_lines, first_wrong}
use Rattle.dover_model.specs.Common.{expected_after, good_verdict, wrong_verdict, verdict}
use Rattle.dover_model.specs.Verdict.{Step, Short, step_after}
use Rattle.dover_model.proofs.lists.Members.{some_same}
use Rattle.dover_model.proofs.traces.ShortNumbers.{printed_short, AreAllShort}
use Rattle.dover_model.proofs.traces.WrongStays.{next_wrong}
use Rattle.dover_model.proofs.sessions.SessionParts.{session_jobs}

-- the numbers of what is due have numerals
abbrev IsShortDue : Expected → Type 0
IsShortDue (Step e) = AreShort (step_numbers e)
IsShortDue _ = Unit {0}

-- one of the steps is due, or nothing
nth_short : (es : List Event) (n : ℕ) → AreAllShort es → IsShortDue (option_map_or Step (slice_get es n) Nothing)
nth_short [] n all = tt
nth_short (e ∷ es) zero all = all.0
nth_short (e ∷ es) (suc n) all = nth_short es n all.1

-- the session that these lines name is valid
named_valid : (l : List ℕ) (ls : List (List ℕ)) (o : Option Session)
    → option_map_or (begins_trace_of (l ∷ ls)) o false ≡ true
    → (n : ℕ) → IsShortDue (option_map_or Step (option_and_then (step_after n) o) Nothing)
named_valid l ls None passes n = tt
named_valid l ls (Some S) passes n =
    nth_short (printed (instance_of S)) _ (printed_short (instance_of S)
    (session_jobs {S = S} (record { passes = (and_parts (is_valid_session S) _ passes).0 })))

-- what is due after lines that begin a trace
begun_due : (ls : List (List ℕ)) → begins_trace ls ≡ true → IsShortDue (expected_after ls)
begun_due [] passes = tt
begun_due (l ∷ ls) passes = by_end (ends_with_end (l ∷ ls)) where
  by_end : (b : Bool) → IsShortDue (cond b Nothing
      (option_map_or Step (option_and_then (step_after (length ls)) (named_session (l ∷ ls))) Nothing))
  by_end true = tt
  by_end false = named_valid l ls (named_session (l ∷ ls)) passes (length ls)

-- the lines before the first wrong one begin a trace
before_wrong : (before ls : List (List ℕ)) (n : ℕ) → begins_trace before ≡ true → first_wrong before ls ≡ Some n
    → begins_trace (take (n - 1) (before ++ ls)) ≡ true
before_wrong before [] n passes wrong = absurd (let e : None ≡ Some n = wrong in cc)
before_wrong before (l ∷ ls) n passes wrong = by_test (begins_trace (before ++ l ∷ [])) refl wrong
    (λ more h. before_wrong (before ++ l ∷ []) ls n more h) where
      by_test : (b : Bool) → begins_trace (before ++ l ∷ []) ≡ b → next_wrong b before l ls ≡ Some n
          → (begins_trace (before ++ l ∷ []) ≡ true → first_wrong (before ++ l ∷ []) ls ≡ Some n
          → begins_trace (take (n - 1) ((before ++ l ∷ []) ++ ls)) ≡ true)
          → begins_trace (take (n - 1) (before ++ l ∷ ls)) ≡ true
      by_test true more h onward =
          subst (λ xs. begins_trace (take (n - 1) xs) ≡ true) (append_assoc before (l ∷ []) ls) (onward more h)
      by_test false fails h onward =
          let at : suc (length before) ≡ n = some_same _ _ h in
          let here : take (n - 1) (before ++ l ∷ ls) ≡ before =
          ap (λ k. take k (before ++ l ∷ ls)) (let e : n - 1 ≡ length before = omega arith in e)
          ∙ take-append-le (length before) before (l ∷ ls) (omega arith) ∙ take-length before in
          ap begins_trace here ∙ passes

-- what is due by the verdict
abbrev due_of : Verdict → Expected
due_of (Wrong line due) = due
due_of _ = Nothing

-- a good verdict tells of nothing that is due
good_due : (a : Bool) (o : Option Session) (k : ℕ)
    → IsShortDue (due_of (cond a (option_map_or Accepted o (Short k)) (Short k)))
good_due true None k = tt
good_due true (Some S) k = tt
good_due false o k = tt

-- what is due in place of a wrong line
verdict_due : (T : List ℕ) → IsShortDue (due_of (verdict T))
verdict_due T = by_first (first_wrong [] (text_lines T)) refl where
  by_first : (o : Option ℕ) → first_wrong [] (text_lines T) ≡ o
      → IsShortDue (due_of (option_map_or (wrong_verdict T) o (good_verdict T)))
  by_first (Some n) wrong = begun_due (take (n - 1) (text_lines T)) (before_wrong [] (text_lines T) n refl wrong)
  by_first None none = good_due (ends_with_end (whole_lines T) && is_empty (rest_of T)) (named_session (whole_lines T))
      (length (whole_lines T))

-- the same of a step
pub due_short : (T : List ℕ) (line : ℕ) (e : Event) → verdict T ≡ Wrong line (Step e) → AreShort (step_numbers e)
due_short T line e is = subst (λ v. IsShortDue (due_of v)) is (verdict_due T)
