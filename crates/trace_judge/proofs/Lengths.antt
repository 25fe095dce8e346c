-- A text that isn't wrong has at most so many bytes.
use Rattle.std.proofs.Common.{◌≡◌, ◌≤◌, ◌<◌, ℕ, List, ◌∷◌, ◌++◌, [], length, refl, sym, ap, ◌∙◌, Bool, true, false}
use Rattle.std.proofs.Common.{arith, append_assoc, ◌||◌, nat_lt, ◌&&◌, ltb-false}
use Rattle.dover_model.specs.Common.{whole_lines, rest_of, is_too_long, trace_lines, Wrong, begins_trace, ends_with_end}
use Rattle.dover_model.specs.Common.{verdict, Begins}
use Rattle.dover_model.proofs.lists.Beginnings.{begins_onward}
use Rattle.dover_model.proofs.traces.Named.{beginnings_pass}
use Rattle.dover_model.proofs.lists.Tests.{never}
use Rattle.dover_model.proofs.traces.WrongStays.{begun, Starts, too_long_fails}
use Rattle.line_text.proofs.Lengths.{AreNotTooLong, text_few}
use Rattle.trace_judge.specs.Judging.{Judged, IsGood, StandsFor, is_wrong}
use Rattle.trace_judge.specs.declared.judge.Found.{Found}
use Rattle.trace_judge.specs.declared.judge.Found.TheVariants.{Good, Wrong as Bad, NoMemory}
use Rattle.trace_judge.specs.Reads.{expected_of}
use Rattle.trace_judge.proofs.Judging.{few_lines, reads_begins}

-- ---- the lines of a text that begins a trace

-- what lines that begin a trace begin with begins one too
fronts_pass : (ls : List (List ℕ)) → begins_trace ls ≡ true → (l : List ℕ) (front : List (List ℕ))
    → Begins (front ++ l ∷ []) ls
    → begins_trace (front ++ l ∷ []) ≡ true
fronts_pass [] passes l [] begins = absurd (let e : [] ≡ l ∷ begins.0 = begins.1 in cc)
fronts_pass [] passes l (x ∷ front) begins = absurd (let e : [] ≡ x ∷ ((front ++ l ∷ []) ++ begins.0) = begins.1 in cc)
fronts_pass (x ∷ ls) passes l front begins =
    let it : Starts (x ∷ ls) = begun x ls passes in
    beginnings_pass it.session (front ++ l ∷ []) it.valid
    (begins_onward (front ++ l ∷ []) (x ∷ ls) (trace_lines it.session) begins it.begins)

-- no line of them is too long
lines_short : (before ls : List (List ℕ)) → begins_trace (before ++ ls) ≡ true → AreNotTooLong ls
lines_short before [] passes = tt
lines_short before (l ∷ ls) passes = (
  by_length (is_too_long l) refl,
  lines_short (before ++ l ∷ []) ls (ap begins_trace (append_assoc before (l ∷ []) ls) ∙ passes),
) where
  by_length : (b : Bool) → is_too_long l ≡ b → length l ≤ 128
  by_length true long = never (sym (too_long_fails before l long)
      ∙ fronts_pass (before ++ l ∷ ls) passes l before (ls, sym (append_assoc before (l ∷ []) ls)))
  by_length false fits = ltb-false _ _ fits

-- ---- the text

-- where no rest counts, the rest isn't too long
rest_short : (a b : Bool) → (a || b) ≡ false → a ≡ false
rest_short true b none = none
rest_short false b none = refl

module _ (judge : Judged) (x : List ℕ) where
  -- of what is kept of lines that are right
  few_good : IsGood judge x → length x < 5_160_000_000_129
  few_good good =
      let passes : begins_trace (whole_lines x) ≡ true = reads_begins judge.reader (whole_lines x) good.reads in
      let few : length (whole_lines x) ≤ 40_000_000_000 = few_lines (whole_lines x) passes in
      let rest : length (rest_of x) ≤ 128 = ltb-false _ _ (rest_short (is_too_long (rest_of x))
      (nat_lt 0 (length (rest_of x)) && ends_with_end (whole_lines x)) good.counts) in
      omega (arith, text_few x 40_000_000_000 (lines_short [] (whole_lines x) passes) few rest)

  -- a text that isn't wrong has at most so many bytes
  pub few_bytes : StandsFor judge x → is_wrong (verdict x) ≡ false → length x < 5_160_000_000_129
  few_bytes stands right = by_found judge.found stands where
    by_found : (f : Found) → (elim f as (λ _. Type 0) [
      | Good ↦ IsGood judge x
      | Bad line due ↦ verdict x ≡ Wrong line (expected_of due)
      | NoMemory ↦ ⊥
    ]) → length x < 5_160_000_000_129
    by_found Good good = few_good good
    by_found (Bad line due) wrong = never (sym right ∙ ap is_wrong wrong)
    by_found NoMemory none = absurd none
