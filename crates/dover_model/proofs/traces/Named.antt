-- A trace names its session, and its beginnings are beginnings of traces.
use Rattle.std.proofs.Common.{◌≡◌, ℕ, List, [], ◌∷◌, ◌++◌, map, refl, sym, ap, ◌∙◌, subst, true, false, decimal, codes}
use Rattle.std.proofs.Common.{Option, Some, None, bytes_eq, fold, option_and_then, option_map}
use Rattle.std.specs.List.{AllByRecursion, starts_with}
use Rattle.std.specs.Option.{option_or, option_map_or}
use Rattle.std.proofs.lemmas.List.Sums.{fold-append}
use Rattle.std.proofs.lemmas.Slice.Eq.{bytes_eq-Decides, starts_is}
use Rattle.dover_model.specs.Common.{Version, IsRatio, fraction, with_factor, factor_numbers, Factor, Declaration, cut}
use Rattle.dover_model.specs.Common.{whole_lines, numbers_of, numbers_after, with_numbers, Item, Session}
use Rattle.dover_model.specs.Common.{IsValidSession, session_with, new_session, with_named, header, version_number}
use Rattle.dover_model.specs.Common.{header_numbers, TraceLine, Printed, text_of_line, trace_lines, trace_of_session}
use Rattle.dover_model.specs.Common.{named_item, begins_trace_of, rules_of, named_session, named_behind, begins_trace}
use Rattle.dover_model.specs.Common.{Run, Preempt, Take, Complete, Abandon, End, AreShort, Begins}
use Rattle.dover_model.specs.Verdict.{finish_from, rules_from}
use Rattle.dover_model.proofs.lists.Members.{some_same, heads, tails}
use Rattle.dover_model.proofs.lists.Beginnings.{begins_behind, begins_map}
use Rattle.dover_model.proofs.texts.Cuts.{CutText, cut_in_lines, HasNoFeed}
use Rattle.dover_model.proofs.texts.Fields.{HasNoSpace, fields_of-line_of, decimals-HasNoSpace, numerals-decimals}
use Rattle.dover_model.proofs.texts.TraceLines.{item_of_line, HasShortNumbers, item_of-text_of_line, version_back}
use Rattle.dover_model.proofs.sessions.Growing.{all_lines, item_in, with_line_named, LinesName}
use Rattle.dover_model.proofs.traces.ShortNumbers.{lines_short}
use Rattle.dover_model.proofs.texts.NoFeeds.{feedless_texts, feedless_header, header_short}
use Rattle.dover_model.proofs.sessions.Walks.{session_names, session_front, begins_front, lines_append}
use Rattle.std.proofs.lemmas.Bool.{and_from}
use Rattle.dover_model.proofs.valid.Valid.{all_front}
use Rattle.dover_model.proofs.sessions.SessionParts.{session_jobs}
use Rattle.dover_model.proofs.valid.ValidParts.{valid_parts}

-- ---- the header

-- the rules of a header's numbers
rules_back : (p q : ℕ) (o : Option Factor) (v : Version)
    → rules_from (version_number v ∷ p ∷ q ∷ factor_numbers o)
    ≡ Some (record { ratio = record { p = p; q = q; factor = o }; version = v })
rules_back p q None v = ap (option_map (λ version. record { ratio = fraction p q; version = version })) (version_back v)
rules_back p q (Some f) v =
    ap (option_map (λ version. record { ratio = with_factor (fraction p q) f.b f.c; version = version }))
    (version_back v)

-- a header names its rules
pub header_names : (rules : Declaration) → IsRatio rules.ratio → rules_of (header rules) ≡ Some rules
header_names rules ratio =
    let ns : List ℕ = header_numbers rules in
    ap (λ fields. option_and_then rules_from (numbers_after (codes "dover") fields))
    (fields_of-line_of (codes "dover") (map decimal ns) refl (decimals-HasNoSpace ns (header_short rules ratio)))
    ∙ ap (option_and_then rules_from) (numerals-decimals ns (header_short rules ratio))
    ∙ rules_back rules.ratio.p rules.ratio.q rules.ratio.factor rules.version

-- ---- items

-- what the first word of a line is
pub first_word : (word ns : List ℕ) → HasNoSpace word → AreShort ns
    → numbers_of (codes "complete") (with_numbers word ns) ≡ numbers_after (codes "complete") (word ∷ map decimal ns)
first_word word ns none short = ap (numbers_after (codes "complete"))
    (fields_of-line_of word (map decimal ns) none (decimals-HasNoSpace ns short))

-- each text names what its line names behind a session
pub named_text : (S : Session) (line : TraceLine) → HasShortNumbers line
    → named_item S (text_of_line line) ≡ item_in S line
named_text S line short = ap (λ o. option_or o (finish_named line)) (item_of-text_of_line line short)
    ∙ by_line line short
  where
    finish_named : TraceLine → Option Item
    finish_named l = option_and_then (finish_from S) (numbers_of (codes "complete") (text_of_line l))

    by_line : (l : TraceLine) → HasShortNumbers l → option_or (item_of_line l) (finish_named l) ≡ item_in S l
    by_line (Printed (Run at n)) short =
        ap (option_and_then (finish_from S)) (first_word (codes "run") (at ∷ n ∷ []) refl short)
    by_line (Printed (Preempt at stops starts)) short =
        ap (option_and_then (finish_from S)) (first_word (codes "preempt") (at ∷ stops ∷ starts ∷ []) refl short)
    by_line (Printed (Take at stops starts)) short =
        ap (option_and_then (finish_from S)) (first_word (codes "take") (at ∷ stops ∷ starts ∷ []) refl short)
    by_line (Printed (Complete at n)) short =
        ap (option_and_then (finish_from S)) (first_word (codes "complete") (at ∷ n ∷ []) refl short
        ∙ numerals-decimals (at ∷ n ∷ []) short)
    by_line (Printed (Abandon at n)) short =
        ap (option_and_then (finish_from S)) (first_word (codes "abandon") (at ∷ n ∷ []) refl short)
    by_line (Printed (End value)) short =
        ap (option_and_then (finish_from S)) (first_word (codes "end") (value ∷ []) refl short)
    by_line _ short = refl

-- texts name what their lines name
pub texts_name : (S : Session) (lines : List TraceLine) → AllByRecursion HasShortNumbers lines
    → named_behind S (map text_of_line lines) ≡ fold with_line_named S lines
texts_name S [] short = refl
texts_name S (line ∷ lines) short =
    ap (λ o. named_behind (with_named S o) (map text_of_line lines))
    (named_text S line short.0)
    ∙ texts_name (with_line_named S line) lines short.1

-- the session that a header and lines name
pub lines_name : (rules : Declaration) (lines : List TraceLine) (items : List Item)
    → IsRatio rules.ratio
    → AllByRecursion HasShortNumbers lines
    → LinesName lines (session_with rules items)
    → named_session (header rules ∷ map text_of_line lines) ≡ Some (session_with rules items)
lines_name rules lines items ratio short names =
    ap (option_map (λ r. named_behind (new_session r) (map text_of_line lines))) (header_names rules ratio)
    ∙ ap Some (texts_name (new_session rules) lines short ∙ names)

-- a valid session's trace names it
pub trace_names_session : (S : Session) → IsValidSession S → named_session (trace_lines S) ≡ Some S
trace_names_session S valid =
    lines_name S.rules (all_lines S) S.items (valid_parts (session_jobs valid)).ratio (lines_short S valid)
    (session_names S valid)

-- ---- texts

-- no line of a valid session's trace has a line feed
pub trace_feedless : (S : Session) → IsValidSession S → AllByRecursion HasNoFeed (trace_lines S)
trace_feedless S valid = (feedless_header S.rules, feedless_texts (all_lines S))

-- the trace is cut into its lines
pub trace_cut : (S : Session) → IsValidSession S → cut (trace_of_session S) ≡ (trace_lines S, [])
trace_cut S valid = cut_in_lines (trace_lines S) (trace_feedless S valid)

-- equal traces of valid sessions are of equal sessions
pub same_trace : (S T : Session) → IsValidSession S → IsValidSession T → trace_of_session S ≡ trace_of_session T → S ≡ T
same_trace S T valid_S valid_T same =
    let lines : trace_lines S ≡ trace_lines T = sym (ap (λ (c : CutText). c.0) (trace_cut S valid_S))
    ∙ ap whole_lines same
    ∙ ap (λ (c : CutText). c.0) (trace_cut T valid_T) in
    some_same S T (sym (trace_names_session S valid_S) ∙ ap named_session lines ∙ trace_names_session T valid_T)

-- ---- beginnings

-- lines begin others where the test says so
pub starts_begins : (ls ms : List (List ℕ)) → Begins ls ms → starts_with bytes_eq ms ls ≡ true
starts_begins ls ms it = (starts_is bytes_eq-Decides ms ls (starts_with bytes_eq ms ls) refl).1 it.0 it.1

-- first texts are texts of first lines
pub first_texts : (ls : List (List ℕ)) (lines : List TraceLine) → Begins ls (map text_of_line lines)
    → (front : List TraceLine) × (ls ≡ map text_of_line front) × Begins front lines
first_texts [] lines begins = ([], refl, (lines, refl))
first_texts (l ∷ ls) [] begins = absurd (let e : [] ≡ l ∷ (ls ++ begins.0) = begins.1 in cc)
first_texts (l ∷ ls) (line ∷ lines) begins =
    let rest : map text_of_line lines ≡ ls ++ begins.0 =
    tails (text_of_line line) l (map text_of_line lines) (ls ++ begins.0) begins.1 in
    let it : (front : List TraceLine) × (ls ≡ map text_of_line front) × Begins front lines =
    first_texts ls lines (begins.0, rest) in (
      line ∷ it.0,
      ap (λ x. x ∷ ls) (sym (heads (text_of_line line) l (map text_of_line lines) (ls ++ begins.0) begins.1))
          ∙ ap (λ xs. text_of_line line ∷ xs) it.1,
      (it.2.0, ap (λ xs. line ∷ xs) it.2.1),
    )

-- a header and first lines of a valid session's trace begin a trace
front_begins_trace : (S : Session) → IsValidSession S → (front : List TraceLine) → Begins front (all_lines S)
    → begins_trace (header S.rules ∷ map text_of_line front) ≡ true
front_begins_trace S valid front begins =
    let first = lines_append (new_session S.rules) front in
    let items : List Item = first.0 in
    let second = lines_append (session_with S.rules items) begins.0 in
    let more : List Item = second.0 in
    let whole : S ≡ session_with S.rules (items ++ more) = sym (session_names S valid)
    ∙ ap (fold with_line_named (new_session S.rules)) begins.1
    ∙ fold-append with_line_named (new_session S.rules) front begins.0
    ∙ ap (λ T. fold with_line_named T begins.0) first.1 ∙ second.1 in
    let all : S.items ≡ items ++ more = ap (λ (T : Session). T.items) whole in
    let valid_all : IsValidSession (session_with S.rules (items ++ more)) =
    subst (λ xs. IsValidSession (session_with S.rules xs)) all valid in
    let begins_all : Begins front (all_lines (session_with S.rules (items ++ more))) =
    subst (λ xs. Begins front (all_lines (session_with S.rules xs))) all begins in
    let short : AllByRecursion HasShortNumbers front =
    all_front HasShortNumbers front begins.0 (subst (AllByRecursion HasShortNumbers) begins.1 (lines_short S valid)) in
    let here : Begins front (all_lines (session_with S.rules items)) =
    begins_front S.rules items more valid_all front first.1 begins_all in
    ap (λ o. option_map_or (begins_trace_of (header S.rules ∷ map text_of_line front)) o false)
    (lines_name S.rules front items (valid_parts (session_jobs valid)).ratio short first.1)
    ∙ and_from _ _ (session_front S.rules items more valid_all).passes
    (starts_begins (header S.rules ∷ map text_of_line front) (trace_lines (session_with S.rules items))
    (begins_behind (header S.rules ∷ []) (map text_of_line front)
    (map text_of_line (all_lines (session_with S.rules items)))
    (begins_map text_of_line front (all_lines (session_with S.rules items)) here)))

-- the first lines of a valid session's trace begin a trace
pub beginnings_pass : (S : Session) (ls : List (List ℕ)) → IsValidSession S → Begins ls (trace_lines S)
    → begins_trace ls ≡ true
beginnings_pass S [] valid begins = refl
beginnings_pass S (l ∷ ls) valid begins =
    let first : header S.rules ≡ l =
    heads (header S.rules) l (map text_of_line (all_lines S)) (ls ++ begins.0) begins.1 in
    let rest : map text_of_line (all_lines S) ≡ ls ++ begins.0 =
    tails (header S.rules) l (map text_of_line (all_lines S)) (ls ++ begins.0) begins.1 in
    let it : (front : List TraceLine) × (ls ≡ map text_of_line front) × Begins front (all_lines S) =
    first_texts ls (all_lines S) (begins.0, rest) in
    subst (λ xs. begins_trace (l ∷ xs) ≡ true) (sym it.1)
    (subst (λ h. begins_trace (h ∷ map text_of_line it.0) ≡ true) first
    (front_begins_trace S valid it.0 it.2))
