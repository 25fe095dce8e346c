-- A wrong verdict stays the same, whatever follows.
use Rattle.std.proofs.Common.{◌≡◌, ℕ, suc, ◌+◌, ◌-◌, ◌*◌, ◌≤◌, ◌<◌, ◌⊎◌, inl, inr, List, [], ◌∷◌, ◌++◌, length}
use Rattle.std.proofs.Common.{length-append, map, take, refl, sym, ap, ◌∙◌, subst, Bool, true, false, cond, ◌&&◌, ◌||◌}
use Rattle.std.proofs.Common.{arith, decimal, codes, Option, Some, None}
use Rattle.std.specs.Prelude.{nat_lt, bytes_eq}
use Rattle.std.specs.List.{AllByRecursion, starts_with}
use Rattle.std.specs.Option.{option_map_or}
use Rattle.std.proofs.lemmas.Bool.{ltb-true, lt-ltb, and_parts, false_from_ne_true, and_right}
use Rattle.std.proofs.lemmas.Fmt.{length-decimal-le}
use Rattle.std.proofs.lemmas.List.{append_assoc, append-nil, take-append-le}
use Rattle.std.proofs.lemmas.Slice.Eq.{bytes_eq-Decides, starts_is}
use Rattle.dover_model.specs.Common.{Factor, factor_numbers, Refusal, BadJob, Release, Run, Preempt, Take, Complete}
use Rattle.dover_model.specs.Common.{Abandon, End, job_numbers, AreShort, cut, whole_lines, rest_of, is_too_long}
use Rattle.dover_model.specs.Common.{line_of, Session, IsValidSession, is_valid_session, RefusedLine, RefusedJob}
use Rattle.dover_model.specs.Common.{RefusedDone, refusal_word, refused_numbers, header_numbers, TraceLine, Printed}
use Rattle.dover_model.specs.Common.{Refuses, text_of_line, trace_lines, Accepted, Wrong, Expected, begins_trace_of}
use Rattle.dover_model.specs.Common.{begins_trace, named_session, first_wrong, expected_after, good_verdict}
use Rattle.dover_model.specs.Common.{wrong_verdict, verdict, ends_with_end, is_empty, text_lines, Begins}
use Rattle.dover_model.specs.Verdict.{Short, is_end_text, rest_counts}
use Rattle.dover_model.proofs.lists.Members.{some_same, all_at}
use Rattle.dover_model.proofs.lists.Tests.{never}
use Rattle.dover_model.proofs.lists.Beginnings.{begins_either, begins_length}
use Rattle.dover_model.proofs.texts.Cuts.{CutText, onto, cut_append, first_onto, first_part}
use Rattle.dover_model.proofs.texts.Fields.{length-with_numbers}
use Rattle.dover_model.proofs.texts.TraceLines.{HasShortNumbers}
use Rattle.dover_model.proofs.traces.ShortNumbers.{lines_short}
use Rattle.dover_model.proofs.texts.NoFeeds.{header_short}
use Rattle.dover_model.proofs.traces.TraceEnds.{HaveNoEnd, TextsEnd, texts_end, none_ends}
use Rattle.dover_model.proofs.traces.Accepting.{lines_of_cut}
use Rattle.dover_model.proofs.valid.Valid.{all_front}
use Rattle.dover_model.proofs.sessions.SessionParts.{session_jobs}
use Rattle.dover_model.proofs.valid.ValidParts.{valid_parts}

-- ---- lengths of a trace's lines

-- numbers, and a word behind them
pub length_then_word : (front ns word : List ℕ) → AreShort ns
    → length (line_of (front ∷ map decimal ns ++ word ∷ [])) ≤ length front + 19 * length ns + 1 + length word
length_then_word front [] word short = omega (arith, length-append front (32 ∷ word))
length_then_word front (n ∷ ns) word short =
    let more : length (line_of (decimal n ∷ map decimal ns ++ word ∷ [])) ≤ length (decimal n) + 19 * length ns + 1
    + length word =
    length_then_word (decimal n) ns word short.1 in
    let digits : length (decimal n) ≤ 18 = length-decimal-le 18 n (omega arith) short.0 (omega arith) in
    omega (arith, length-append front (32 ∷ line_of (decimal n ∷ map decimal ns ++ word ∷ [])))

-- the word of a refusal is short
pub refusal_brief : (refusal : Refusal) → length (refusal_word refusal) ≤ 5
refusal_brief BadJob = omega arith
refusal_brief _ = omega arith

-- no longer than a line may be
abbrev IsLine : List ℕ → Type 0
IsLine l = length l ≤ 128

-- each line of a trace
text_is_line : (line : TraceLine) → HasShortNumbers line → IsLine (text_of_line line)
text_is_line (Printed (Release n j)) short = omega (arith, length-with_numbers (codes "job") (n ∷ job_numbers j) short)
text_is_line (Printed (Run at n)) short = omega (arith, length-with_numbers (codes "run") (at ∷ n ∷ []) short)
text_is_line (Printed (Preempt at stops starts)) short =
    omega (arith, length-with_numbers (codes "preempt") (at ∷ stops ∷ starts ∷ []) short)
text_is_line (Printed (Take at stops starts)) short =
    omega (arith, length-with_numbers (codes "take") (at ∷ stops ∷ starts ∷ []) short)
text_is_line (Printed (Complete at n)) short = omega (arith, length-with_numbers (codes "complete") (at ∷ n ∷ []) short)
text_is_line (Printed (Abandon at n)) short = omega (arith, length-with_numbers (codes "abandon") (at ∷ n ∷ []) short)
text_is_line (Printed (End value)) short = omega (arith, length-with_numbers (codes "end") (value ∷ []) short)
text_is_line (Refuses r) short = by_line r.at r.line short where
  by_line : (at : ℕ) (line : RefusedLine) → AreShort (at ∷ refused_numbers line)
      → IsLine (text_of_line (Refuses (record { at = at; line = line })))
  by_line at (RefusedJob j refusal) short = omega (
    arith,
    length_then_word (codes "refuse") (at ∷ job_numbers j) (refusal_word refusal) short,
    refusal_brief refusal,
  )
  by_line at (RefusedDone tick number) short =
      omega (arith, length_then_word (codes "refuse") (at ∷ tick ∷ number ∷ []) (codes "done") short)

-- all lines of a trace
texts_are_lines : (lines : List TraceLine) → AllByRecursion HasShortNumbers lines
    → AllByRecursion IsLine (map text_of_line lines)
texts_are_lines [] short = tt
texts_are_lines (line ∷ lines) short = (text_is_line line short.0, texts_are_lines lines short.1)

-- a factor has two numbers, where there is one
factor_few : (o : Option Factor) → length (factor_numbers o) ≤ 2
factor_few None = omega arith
factor_few (Some f) = omega arith

-- no line of a valid session's trace is too long
trace_is_lines : (S : Session) → IsValidSession S → AllByRecursion IsLine (trace_lines S)
trace_is_lines S valid = (
  omega (
    arith,
    factor_few S.rules.ratio.factor,
    length-with_numbers (codes "dover") (header_numbers S.rules)
        (header_short S.rules (valid_parts (session_jobs valid)).ratio),
  ),
  texts_are_lines _ (lines_short S valid),
)

-- ---- lines that begin no trace

-- a valid session, whose trace the lines begin
pub record Starts (ls : List (List ℕ)) : Type 0 where
  pub session : Session
  pub valid : IsValidSession session
  pub begins : Begins ls (trace_lines session)

-- lines that begin a trace begin that of a valid session
pub begun : (l : List ℕ) (ls : List (List ℕ)) → begins_trace (l ∷ ls) ≡ true → Starts (l ∷ ls)
begun l ls passes = by_named (named_session (l ∷ ls)) refl passes where
  by_named : (o : Option Session) → named_session (l ∷ ls) ≡ o
      → option_map_or (begins_trace_of (l ∷ ls)) o false ≡ true → Starts (l ∷ ls)
  by_named None is h = never h
  by_named (Some S) is h =
      let both = and_parts (is_valid_session S) (starts_with bytes_eq (trace_lines S) (l ∷ ls)) h in
      record {
        session = S;
        valid = record { passes = both.0 };
        begins = (
          _,
          (starts_is bytes_eq-Decides (trace_lines S) (l ∷ ls)
              (starts_with bytes_eq (trace_lines S) (l ∷ ls)) refl).0 both.1,
        );
      }

-- lines of which a first one is there
begun_some : (ls : List (List ℕ)) (l : List ℕ) → begins_trace (ls ++ l ∷ []) ≡ true
    → Starts (ls ++ l ∷ [])
begun_some [] l passes = begun l [] passes
begun_some (x ∷ ls) l passes = begun x (ls ++ l ∷ []) passes

-- with a line that is too long, lines begin no trace
pub too_long_fails : (ls : List (List ℕ)) (l : List ℕ) → is_too_long l ≡ true
    → begins_trace (ls ++ l ∷ []) ≡ false
too_long_fails ls l long = false_from_ne_true _ clash where
  clash : begins_trace (ls ++ l ∷ []) ≡ true → ⊥
  clash passes =
      let it : Starts (ls ++ l ∷ []) = begun_some ls l passes in
      let all : AllByRecursion IsLine (ls ++ l ∷ it.begins.0) =
      subst (AllByRecursion IsLine) (it.begins.1 ∙ append_assoc ls (l ∷ []) it.begins.0)
      (trace_is_lines it.session it.valid) in
      let low : length l ≤ 128 = all_at IsLine ls l it.begins.0 all in
      let high : 128 < length l = ltb-true _ _ long in
      omega arith

-- with a line behind the text of End, lines begin no trace
pub after_end_fails : (ls : List (List ℕ)) (l : List ℕ) → ends_with_end ls ≡ true
    → begins_trace (ls ++ l ∷ []) ≡ false
after_end_fails ls l ended = false_from_ne_true _ clash where
  clash : begins_trace (ls ++ l ∷ []) ≡ true → ⊥
  clash passes =
      let it : Starts (ls ++ l ∷ []) = begun_some ls l passes in
      let ends : TextsEnd it.session = texts_end it.session it.valid in
      let front : Begins ls (trace_lines it.session) =
      (l ∷ it.begins.0, it.begins.1 ∙ append_assoc ls (l ∷ []) it.begins.0) in
      by_either it ends (begins_either ls ends.front ends.last (trace_lines it.session) front
      ([], ends.whole ∙ sym (append-nil (ends.front ++ ends.last ∷ [])))) where
        by_either : (it : Starts (ls ++ l ∷ [])) (ends : TextsEnd it.session) → Begins ls ends.front
            ⊎ Begins (ends.front ++ ends.last ∷ []) ls → ⊥
        by_either it ends (inl begins) =
            absurd (let e : false ≡ true =
            sym (none_ends ls None (all_front (λ x. is_end_text x ≡ false) ls begins.0
            (subst HaveNoEnd begins.1 ends.before)) refl)
            ∙ ended in cc)
        by_either it ends (inr begins) =
            let one : length (ends.front ++ ends.last ∷ []) ≤ length ls =
            begins_length (ends.front ++ ends.last ∷ []) ls begins in
            let two : length (ls ++ l ∷ []) ≤ length (trace_lines it.session) =
            begins_length (ls ++ l ∷ []) (trace_lines it.session) it.begins in
            let three : length (trace_lines it.session) ≡ length (ends.front ++ ends.last ∷ []) =
            ap length ends.whole in
            omega (arith, length-append ls (l ∷ []))

-- ---- the first wrong line

-- what one line more says
abbrev pub next_wrong : Bool → List (List ℕ) → List ℕ → List (List ℕ) → Option ℕ
next_wrong b before l ls = elim b [
  | true ↦ first_wrong (before ++ l ∷ []) ls
  | false ↦ Some (suc
      (length before))
]

-- a first wrong line is still the first with more lines behind
wrong_append : (before ls more : List (List ℕ)) (n : ℕ) → first_wrong before ls ≡ Some n
    → first_wrong before (ls ++ more) ≡ Some n
wrong_append before [] more n wrong = absurd (let e : None ≡ Some n = wrong in cc)
wrong_append before (l ∷ ls) more n wrong =
    by_test (begins_trace (before ++ l ∷ [])) wrong (wrong_append (before ++ l ∷ []) ls more n) where
      by_test : (b : Bool) → next_wrong b before l ls ≡ Some n
          → (first_wrong (before ++ l ∷ []) ls ≡ Some n
          → first_wrong (before ++ l ∷ []) (ls ++ more) ≡ Some n)
          → next_wrong b before l (ls ++ more) ≡ Some n
      by_test true h onward = onward h
      by_test false h onward = h

-- it is one of the lines
wrong_within : (before ls : List (List ℕ)) (n : ℕ) → first_wrong before ls ≡ Some n
    → n ≤ length before + length ls
wrong_within before [] n wrong = absurd (let e : None ≡ Some n = wrong in cc)
wrong_within before (l ∷ ls) n wrong =
    by_test (begins_trace (before ++ l ∷ [])) wrong (wrong_within (before ++ l ∷ []) ls n) where
      by_test : (b : Bool) → next_wrong b before l ls ≡ Some n
          → (first_wrong (before ++ l ∷ []) ls ≡ Some n → n ≤ length (before ++ l ∷ []) + length ls)
          → n ≤ length before + length (l ∷ ls)
      by_test true h onward = omega (arith, onward h, length-append before (l ∷ []))
      by_test false h onward = let e : suc (length before) ≡ n = some_same _ _ h in omega arith

-- where none of the lines is wrong, the next one tells
pub wrong_next : (before ls : List (List ℕ)) (l : List ℕ) (more : List (List ℕ))
    → first_wrong before ls ≡ None
    → first_wrong before (ls ++ l ∷ more)
    ≡ next_wrong (begins_trace ((before ++ ls) ++ l ∷ [])) (before ++ ls) l more
wrong_next before [] l more none =
    subst (λ xs. first_wrong before (l ∷ more)
    ≡ next_wrong (begins_trace (xs ++ l ∷ [])) xs l more)
    (sym (append-nil before)) refl
wrong_next before (x ∷ ls) l more none =
    by_test (begins_trace (before ++ x ∷ [])) none (wrong_next (before ++ x ∷ []) ls l more) where
      by_test : (b : Bool) → next_wrong b before x ls ≡ None
          → (first_wrong (before ++ x ∷ []) ls ≡ None
          → first_wrong (before ++ x ∷ []) (ls ++ l ∷ more) ≡ next_wrong
          (begins_trace (((before ++ x ∷ []) ++ ls) ++ l ∷ []))
          ((before ++ x ∷ []) ++ ls) l more)
          → next_wrong b before x (ls ++ l ∷ more)
          ≡ next_wrong (begins_trace ((before ++ x ∷ ls) ++ l ∷ []))
          (before ++ x ∷ ls) l more
      by_test true h onward = subst
          (λ xs. first_wrong (before ++ x ∷ []) (ls ++ l ∷ more)
          ≡ next_wrong (begins_trace (xs ++ l ∷ [])) xs l more)
          (append_assoc before (x ∷ []) ls) (onward h)
      by_test false h onward = absurd (let e : Some (suc (length before)) ≡ None = h in cc)

-- the n-th line is the first wrong one of both, and the same lines stand before it
abbrev SameWrong : ℕ → List (List ℕ) → List (List ℕ) → Type 0
SameWrong n xs ys = (first_wrong [] ys ≡ Some n) × (take (n - 1) ys ≡ take (n - 1) xs)

-- with more lines behind
same_append : (xs more : List (List ℕ)) (n : ℕ) → first_wrong [] xs ≡ Some n → SameWrong n xs (xs ++ more)
same_append xs more n wrong = (
  wrong_append [] xs more n wrong,
  let low : n ≤ 0 + length xs = wrong_within [] xs n wrong in
      take-append-le (n - 1) xs more (omega arith),
)

-- with another wrong line in place of the last, and more lines behind
same_instead : (ls : List (List ℕ)) (x y : List ℕ) (more : List (List ℕ)) (n : ℕ)
    → begins_trace (ls ++ y ∷ []) ≡ false
    → first_wrong [] (ls ++ x ∷ []) ≡ Some n → SameWrong n (ls ++ x ∷ []) (ls ++ y ∷ more)
same_instead ls x y more n wrong_y wrong_x = by_first (first_wrong [] ls) refl where
  by_first : (o : Option ℕ) → first_wrong [] ls ≡ o → SameWrong n (ls ++ x ∷ []) (ls ++ y ∷ more)
  by_first (Some m) early =
      let one : SameWrong m ls (ls ++ x ∷ []) = same_append ls (x ∷ []) m early in
      let other : SameWrong m ls (ls ++ y ∷ more) = same_append ls (y ∷ more) m early in
      let same : m ≡ n = some_same m n (sym one.0 ∙ wrong_x) in
      subst (λ k. SameWrong k (ls ++ x ∷ []) (ls ++ y ∷ more)) same (other.0, other.1 ∙ sym one.1)
  by_first None none =
      let here : next_wrong (begins_trace (ls ++ x ∷ [])) ls x []
      ≡ Some n = sym (wrong_next [] ls x [] none)
      ∙ wrong_x in
      let last : suc (length ls) ≡ n = by_test (begins_trace (ls ++ x ∷ [])) here in
      let there : first_wrong [] (ls ++ y ∷ more) ≡ Some (suc (length ls)) = wrong_next [] ls y more none
      ∙ ap (λ b. next_wrong b ls y more) wrong_y in (
        there ∙ ap Some last,
        take-append-le (n - 1) ls (y ∷ more) (omega arith)
            ∙ sym (take-append-le (n - 1) ls (x ∷ []) (omega arith)),
      ) where
        by_test : (b : Bool) → next_wrong b ls x [] ≡ Some n → suc (length ls) ≡ n
        by_test true h = absurd (let e : None ≡ Some n = h in cc)
        by_test false h = some_same _ _ h

-- ---- texts that grow

-- whether the rest of a cut text counts
abbrev counts : CutText → Bool
counts c = is_too_long c.1 || (nat_lt 0 (length c.1) && ends_with_end c.0)

-- a rest that counts is wrong, and so is each line that it becomes
counted_fails : (ls : List (List ℕ)) (rest more : List ℕ) → counts (ls, rest) ≡ true
    → begins_trace (ls ++ (rest ++ more) ∷ []) ≡ false
counted_fails ls rest more counted = by_tests (is_too_long rest) (ends_with_end ls) refl refl counted where
  by_tests : (a b : Bool) → is_too_long rest ≡ a → ends_with_end ls ≡ b → (a || (nat_lt 0 (length rest) && b)) ≡ true
      → begins_trace (ls ++ (rest ++ more) ∷ []) ≡ false
  by_tests true b long e h = too_long_fails ls (rest ++ more)
      (let above : 128 < length rest = ltb-true _ _ long in
      lt-ltb 128 (length (rest ++ more)) (omega (arith, length-append rest more)))
  by_tests false true short ended h = after_end_fails ls (rest ++ more) ended
  by_tests false false short goes_on h = never (sym (and_right (nat_lt 0 (length rest)) false refl) ∙ h)

-- a rest that counts still does with more behind it
still_counts : (ls : List (List ℕ)) (rest more : List ℕ) → counts (ls, rest) ≡ true → counts (ls, rest ++ more) ≡ true
still_counts ls rest more counted = by_tests (is_too_long rest) (nat_lt 0 (length rest)) refl refl counted where
  by_tests : (a b : Bool) → is_too_long rest ≡ a → nat_lt 0 (length rest) ≡ b → (a || (b && ends_with_end ls)) ≡ true
      → (is_too_long (rest ++ more) || (nat_lt 0 (length (rest ++ more)) && ends_with_end ls)) ≡ true
  by_tests true b long e h = ap (λ t. t || (nat_lt 0 (length (rest ++ more)) && ends_with_end ls))
      (let above : 128 < length rest = ltb-true _ _ long in
      lt-ltb 128 (length (rest ++ more)) (omega (arith, length-append rest more)))
  by_tests false true short some h =
      ap (λ t. is_too_long (rest ++ more) || (t && ends_with_end ls))
      (let above : 0 < length rest = ltb-true _ _ some in
      lt-ltb 0 (length (rest ++ more)) (omega (arith, length-append rest more)))
      ∙ ap (λ t. is_too_long (rest ++ more) || t) h ∙ or_true (is_too_long (rest ++ more)) where
        or_true : (b : Bool) → (b || true) ≡ true
        or_true true = refl
        or_true false = refl
  by_tests false false short none h = never h

-- lines, and a cut text whose first part has a rest before it, where that counts: its lines begin with that part
first_is_line : (ls bs : List (List ℕ)) (rest l more : List ℕ) → first_part bs l ≡ rest ++ more
    → counts (ls, rest) ≡ true
    → (zs : List (List ℕ)) × (lines_of_cut (ls ++ bs, l) ≡ ls ++ (rest ++ more) ∷ zs)
first_is_line ls [] rest l more first counted = (
  [],
  ap (λ xs. lines_of_cut (xs, l)) (append-nil ls)
      ∙ ap (λ b. ls ++ cond b (l ∷ []) [])
      (subst (λ k. counts (ls, k) ≡ true) (sym first) (still_counts ls rest more counted))
      ∙ ap (λ k. ls ++ k ∷ []) first,
)
first_is_line ls (b ∷ bs) rest l more first counted = (
  bs ++ cond (counts (ls ++ b ∷ bs, l)) (l ∷ []) [],
  append_assoc ls (b ∷ bs) (cond (counts (ls ++ b ∷ bs, l)) (l ∷ []) [])
      ∙ ap (λ k. ls ++ k ∷ (bs ++ cond (counts (ls ++ b ∷ bs, l)) (l ∷ []) [])) first,
)

module _ (T more : List ℕ) (n : ℕ) (wrong : first_wrong [] (text_lines T) ≡ Some n) where
  -- the first wrong line of a text stays so
  wrong_stays : SameWrong n (text_lines T) (text_lines (T ++ more))
  wrong_stays = by_counts (rest_counts T) refl where
    behind : CutText
    behind = onto (rest_of T) (cut more)

    grown : text_lines (T ++ more) ≡ lines_of_cut (whole_lines T ++ behind.0, behind.1)
    grown = ap lines_of_cut (cut_append T more)

    by_counts : (b : Bool) → rest_counts T ≡ b → SameWrong n (text_lines T) (text_lines (T ++ more))
    by_counts false none =
        let old : text_lines T ≡ whole_lines T = ap (λ b. whole_lines T ++ cond b (rest_of T ∷ []) []) none
        ∙ append-nil (whole_lines T) in
        let rest : List (List ℕ) = behind.0 ++ cond (counts (whole_lines T ++ behind.0, behind.1))
        (behind.1 ∷ []) [] in
        let new : text_lines (T ++ more) ≡ text_lines T ++ rest = grown
        ∙ append_assoc (whole_lines T) behind.0 (cond (counts (whole_lines T ++ behind.0, behind.1))
        (behind.1 ∷ []) [])
        ∙ ap (λ ls. ls ++ rest) (sym old) in
        subst (SameWrong n (text_lines T)) (sym new) (same_append (text_lines T) rest n wrong)
    by_counts true counted =
        let tail : List ℕ = first_part (cut more).0 (cut more).1 in
        let old : text_lines T ≡ whole_lines T ++ rest_of T ∷ [] =
        ap (λ b. whole_lines T ++ cond b (rest_of T ∷ []) []) counted in
        let it : (zs : List (List ℕ))
        × (lines_of_cut (whole_lines T ++ behind.0, behind.1) ≡ whole_lines T ++ (rest_of T ++ tail) ∷ zs) =
        first_is_line (whole_lines T) behind.0 (rest_of T) behind.1 tail (first_onto (rest_of T)
        (cut more)) counted in
        let same : SameWrong n (whole_lines T ++ rest_of T ∷ []) (whole_lines T ++ (rest_of T ++ tail) ∷ it.0) =
        same_instead (whole_lines T) (rest_of T) (rest_of T ++ tail) it.0 n
        (counted_fails (whole_lines T) (rest_of T) tail counted)
        (ap (first_wrong []) (sym old) ∙ wrong) in
        subst (λ xs. SameWrong n xs (text_lines (T ++ more))) (sym old)
        (subst (SameWrong n (whole_lines T ++ rest_of T ∷ [])) (sym (grown ∙ it.1)) same)

  -- so the verdict stays
  same_verdict : verdict (T ++ more) ≡ verdict T
  same_verdict =
      ap (λ o. option_map_or (wrong_verdict (T ++ more)) o (good_verdict
      (T ++ more))) wrong_stays.0
      ∙ ap (λ ls. Wrong n (expected_after ls)) wrong_stays.1
      ∙ sym (ap (λ o. option_map_or (wrong_verdict T) o (good_verdict T)) wrong)

-- a good verdict isn't a wrong one
good_not_wrong : (a b : Bool) (o : Option Session) (k line : ℕ) (e : Expected)
    → cond a (option_map_or Accepted o (Short k)) (Short k) ≡ Wrong line e → ⊥
good_not_wrong true b (Some S) k line e h = absurd (let f : Accepted S ≡ Wrong line e = h in cc)
good_not_wrong _ _ _ k line e h = absurd (let f : Short k ≡ Wrong line e = h in cc)

-- a wrong verdict stays the same, whatever follows
pub wrong_verdict_stays : (T more : List ℕ) (line : ℕ) (e : Expected) → verdict T ≡ Wrong line e
    → verdict (T ++ more) ≡ Wrong line e
wrong_verdict_stays T more line e is = by_first (first_wrong [] (text_lines T)) refl where
  by_first : (o : Option ℕ) → first_wrong [] (text_lines T) ≡ o
      → verdict (T ++ more) ≡ Wrong line e
  by_first (Some n) wrong = same_verdict T more n wrong ∙ is
  by_first None none =
      let good : good_verdict T
      ≡ Wrong line e = sym (ap (λ o. option_map_or (wrong_verdict T) o (good_verdict T)) none)
      ∙ is in
      absurd (good_not_wrong (ends_with_end (whole_lines T) && is_empty (rest_of T)) true
      (named_session (whole_lines T))
      (length (whole_lines T)) line e good)
