-- A trace has one End, in its last line.
use Rattle.std.proofs.Common.{◌≡◌, ℕ, ◌⊎◌, inl, inr, max, List, [], ◌∷◌, ◌++◌, map, take, drop, refl, sym, ap, ◌∙◌}
use Rattle.std.proofs.Common.{subst, Bool, true, false, decimal, codes, Option, Some, None, ◌-◌, MatchBool, filter}
use Rattle.std.proofs.Common.{append_assoc, append-nil}
use Rattle.std.specs.List.{AllByRecursion, cons_option, last_or}
use Rattle.std.specs.Option.{option_map_or}
use Rattle.std.proofs.lemmas.List.{map-append}
use Rattle.dover_model.specs.Common.{Event, Release, Run, Preempt, Take, Complete, Abandon, End, job_numbers, IsRatio}
use Rattle.dover_model.specs.Common.{Rules, Declaration, Instance, IsValid, State, opening, is_done, is_over, value_sum}
use Rattle.dover_model.specs.Common.{Move, Prints, step, open_step, after, Step, is_end, event_of}
use Rattle.dover_model.specs.Common.{printed_of, printed, run, settled, settled_steps, AllComeFrom, IsWholeRun}
use Rattle.dover_model.specs.Common.{IsSettledRun, Begins, Each, Keeps, AreShort, with_numbers, numbers_after, Session}
use Rattle.dover_model.specs.Common.{instance_of, IsValidSession, header, text_of, refused_word, refused_numbers}
use Rattle.dover_model.specs.Common.{header_numbers, TraceLine, Printed, Refuses, Placed, put_in, places_of}
use Rattle.dover_model.specs.Common.{text_of_line, trace_lines, lines_among, ends_with_end}
use Rattle.dover_model.specs.Verdict.{is_one_number, is_end_text}
use Rattle.dover_model.proofs.steps.Kept.{step_kept, open_kept, opening_keeps}
use Rattle.dover_model.proofs.runs.Ending.{end_over, run_is_whole}
use Rattle.dover_model.proofs.settled.Settling.{settled_is_run}
use Rattle.dover_model.proofs.settled.Prefixes.{open_not_end}
use Rattle.dover_model.proofs.lists.Beginnings.{begins_either}
use Rattle.dover_model.proofs.texts.Fields.{HasNoSpace, fields_of-line_of, decimals-HasNoSpace, numerals-decimals}
use Rattle.dover_model.proofs.sessions.PutIn.{RefusesWithin, put_in-more_steps}
use Rattle.dover_model.proofs.sessions.Growing.{Reads, all_lines, within_more, settled_of_run}
use Rattle.dover_model.proofs.texts.TraceLines.{HasShortNumbers, then_word, refused_HasNoSpace}
use Rattle.dover_model.proofs.traces.ShortNumbers.{lines_short, all_take, all_drop}
use Rattle.dover_model.proofs.texts.NoFeeds.{header_short}
use Rattle.dover_model.proofs.sessions.Walks.{session_reads}
use Rattle.dover_model.proofs.lists.Tests.{never}
use Rattle.dover_model.proofs.valid.Valid.{all_front}
use Rattle.dover_model.proofs.lists.Members.{all_at}
use Rattle.dover_model.proofs.settled.Releasing.{end_behind}
use Rattle.dover_model.proofs.sessions.SessionParts.{session_jobs}
use Rattle.dover_model.proofs.valid.ValidParts.{valid_parts}

-- ---- steps

-- none of the events is End
abbrev pub HasNoEnd : List Event → Type 0
HasNoEnd es = AllByRecursion (λ e. is_end (Prints e) ≡ false) es

-- End is the last of the events alone
pub record EndsOnce (es : List Event) : Type 0 where
  pub front : List Event
  pub value : ℕ
  pub whole : es ≡ front ++ End value ∷ []
  pub before : HasNoEnd front

-- with one step more, which isn't End
no_end_more : (m : Move) (es : List Event) → is_end m ≡ false → HasNoEnd es → HasNoEnd (cons_option (event_of m) es)
no_end_more (Prints e) es on all = (on, all)
no_end_more _ es on all = all

module _ (J : Instance) (valid : IsValid J) (rules : Rules) where
  -- a whole run prints End once
  ends_once : (xs : List Step) (s : State) → Keeps J s → IsWholeRun rules s xs → EndsOnce (printed_of xs)
  ends_once [] s keeps whole = absurd whole
  ends_once (x ∷ xs) s keeps whole =
      subst (λ (y : Step). EndsOnce (cons_option (event_of y.move) (printed_of xs))) (sym whole.0)
      (by_end (is_end (step rules s)) refl whole.1
      (ends_once xs (after s (step rules s)) (step_kept J valid s keeps rules))) where
        by_end : (b : Bool) → is_end (step rules s) ≡ b
            → MatchBool b (xs ≡ []) (IsWholeRun rules (after s (step rules s)) xs)
            → (IsWholeRun rules (after s (step rules s)) xs → EndsOnce (printed_of xs))
            → EndsOnce (cons_option (event_of (step rules s)) (printed_of xs))
        by_end true last none more =
            let it : (step rules s ≡ Prints (End (value_sum (filter is_done s.tasks))))
            × Each (λ t. is_over t ≡ true) s.tasks =
            end_over J valid s keeps rules last in
            record {
              front = [];
              value = value_sum (filter is_done s.tasks);
              whole = ap (λ m. cons_option (event_of m) (printed_of xs)) it.0
                  ∙ ap (λ ys. End (value_sum (filter is_done s.tasks)) ∷ printed_of ys) none;
              before = tt;
            }
        by_end false on rest more =
            let it : EndsOnce (printed_of xs) = more rest in
            record {
              front = cons_option (event_of (step rules s)) it.front;
              value = it.value;
              whole = ap (cons_option (event_of (step rules s))) it.whole
                  ∙ sym (end_behind (event_of (step rules s)) it.front (End it.value));
              before = no_end_more (step rules s) it.front on it.before;
            }

  -- settled steps print no End
  settled_no_end : (mark : ℕ) (xs : List Step) (s : State) → Keeps J s → IsSettledRun rules mark s xs
      → HasNoEnd (printed_of xs)
  settled_no_end mark [] s keeps settles = tt
  settled_no_end mark (x ∷ xs) s keeps settles =
      subst (λ (y : Step). HasNoEnd (cons_option (event_of y.move) (printed_of xs))) (sym settles.0)
      (no_end_more (open_step rules s) (printed_of xs) (open_not_end J valid J valid rules mark [] none s keeps)
      (settled_no_end mark xs (after s (open_step rules s)) (open_kept J valid s keeps rules) settles.2)) where
        none : AllComeFrom mark []
        none = (λ t m. absurd m, λ t m. absurd m)

-- the run of a valid instance prints End once
pub run_ends_once : (J : Instance) → IsValid J → EndsOnce (printed J)
run_ends_once J valid = ends_once J valid J.rules (run J) (opening J.jobs) (opening_keeps J) (run_is_whole J valid)

-- what is settled comes before End
pub settled_before_end : (J : Instance) (mark : ℕ) (valid : IsValid J)
    → Begins (settled J mark) (run_ends_once J valid).front
settled_before_end J mark valid =
    by_either (begins_either (settled J mark) it.front (End it.value) (printed J) (settled_of_run J mark valid)
    ([], it.whole ∙ sym (append-nil (it.front ++ End it.value ∷ [])))) where
      it : EndsOnce (printed J)
      it = run_ends_once J valid

      by_either : Begins (settled J mark) it.front ⊎ Begins (it.front ++ End it.value ∷ []) (settled J mark)
          → Begins (settled J mark) it.front
      by_either (inl begins) = begins
      by_either (inr ended) = never (sym (all_at (λ e. is_end (Prints e) ≡ false) it.front (End it.value) ended.0
          (subst HasNoEnd (ended.1 ∙ append_assoc it.front (End it.value ∷ []) ended.0)
          (settled_no_end J valid J.rules mark (settled_steps J mark) (opening J.jobs) (opening_keeps J)
          (settled_is_run J mark valid)))))

-- ---- lines

-- the line isn't End
abbrev pub IsNoEnd : TraceLine → Type 0
IsNoEnd (Printed e) = is_end (Prints e) ≡ false
IsNoEnd (Refuses r) = Unit {0}

-- lines of steps, and lines behind
steps_no_end : (steps : List Event) (behind : List TraceLine) → HasNoEnd steps → AllByRecursion IsNoEnd behind
    → AllByRecursion IsNoEnd (map Printed steps ++ behind)
steps_no_end [] behind none rest = rest
steps_no_end (e ∷ steps) behind none rest = (none.0, steps_no_end steps behind none.1 rest)

-- refused lines among steps that aren't End
put_in_no_end : (ps : List Placed) (before : ℕ) (steps : List Event) → HasNoEnd steps
    → AllByRecursion IsNoEnd (put_in ps before steps)
put_in_no_end [] before steps none =
    subst (AllByRecursion IsNoEnd) (append-nil (map Printed steps)) (steps_no_end steps [] none tt)
put_in_no_end (p ∷ ps) before steps none =
    steps_no_end (take (p.place - before) steps)
    (Refuses p.refused ∷ put_in ps (max before p.place) (drop (p.place - before) steps))
    (all_take (λ e. is_end (Prints e) ≡ false) (p.place - before) steps none) (
      tt,
      put_in_no_end ps (max before p.place) (drop (p.place - before) steps)
          (all_drop (λ e. is_end (Prints e) ≡ false) (p.place - before) steps none),
    )

-- a trace's lines: those before End, none of which is End, and End
pub record LinesEnd (S : Session) : Type 0 where
  pub front : List TraceLine
  pub value : ℕ
  pub whole : all_lines S ≡ front ++ Printed (End value) ∷ []
  pub before : AllByRecursion IsNoEnd front

-- the lines of a valid session's trace end so
pub lines_end : (S : Session) → IsValidSession S → LinesEnd S
lines_end S valid =
    let reads : (mark : ℕ) × Reads S mark = session_reads S valid in
    let it : EndsOnce (printed (instance_of S)) = run_ends_once (instance_of S) (session_jobs valid) in
    let within : RefusesWithin S it.front =
    within_more S (settled (instance_of S) reads.0) it.front reads.1.within
    (settled_before_end (instance_of S) reads.0 (session_jobs valid)) in
    record {
      front = lines_among S it.front;
      value = it.value;
      whole = ap (lines_among S) it.whole ∙ put_in-more_steps (places_of S) 0 it.front (End it.value ∷ []) within;
      before = put_in_no_end (places_of S) 0 it.front it.before;
    }

-- ---- texts

-- what a line's first fields say of its end
end_cut : (word ns : List ℕ) → HasNoSpace word → AreShort ns
    → is_end_text (with_numbers word ns) ≡ option_map_or is_one_number
    (numbers_after (codes "end") (word ∷ map decimal ns)) false
end_cut word ns none short = ap (λ fields. option_map_or is_one_number (numbers_after (codes "end") fields) false)
    (fields_of-line_of word (map decimal ns) none (decimals-HasNoSpace ns short))

-- the text of End
pub end_text : (value : ℕ) → AreShort (value ∷ []) → is_end_text (text_of (End value)) ≡ true
end_text value short = end_cut (codes "end") (value ∷ []) refl short
    ∙ ap (λ o. option_map_or is_one_number o false) (numerals-decimals (value ∷ []) short)

-- the text of another line
pub other_text : (line : TraceLine) → HasShortNumbers line → IsNoEnd line → is_end_text (text_of_line line) ≡ false
other_text (Printed (Release n j)) short on = end_cut (codes "job") (n ∷ job_numbers j) refl short
other_text (Printed (Run at n)) short on = end_cut (codes "run") (at ∷ n ∷ []) refl short
other_text (Printed (Preempt at stops starts)) short on =
    end_cut (codes "preempt") (at ∷ stops ∷ starts ∷ []) refl short
other_text (Printed (Take at stops starts)) short on = end_cut (codes "take") (at ∷ stops ∷ starts ∷ []) refl short
other_text (Printed (Complete at n)) short on = end_cut (codes "complete") (at ∷ n ∷ []) refl short
other_text (Printed (Abandon at n)) short on = end_cut (codes "abandon") (at ∷ n ∷ []) refl short
other_text (Printed (End value)) short on = never (sym on)
other_text (Refuses r) short on = ap (λ fields. option_map_or is_one_number (numbers_after (codes "end") fields) false)
    (fields_of-line_of (codes "refuse") (map decimal (r.at ∷ refused_numbers r.line) ++ refused_word r.line ∷ []) refl
    (then_word (refused_word r.line) (r.at ∷ refused_numbers r.line) (refused_HasNoSpace r.line) short))

-- the header
header_text : (rules : Declaration) → IsRatio rules.ratio → is_end_text (header rules) ≡ false
header_text rules ratio =
    end_cut (codes "dover") (header_numbers rules) refl
    (header_short rules ratio)

-- none of these texts is that of End
abbrev pub HaveNoEnd : List (List ℕ) → Type 0
HaveNoEnd ls = AllByRecursion (λ l. is_end_text l ≡ false) ls

-- texts of lines that aren't End
other_texts : (lines : List TraceLine) → AllByRecursion HasShortNumbers lines → AllByRecursion IsNoEnd lines
    → HaveNoEnd (map text_of_line lines)
other_texts [] short none = tt
other_texts (line ∷ lines) short none = (other_text line short.0 none.0, other_texts lines short.1 none.1)

-- a trace's texts: those before the text of End, and that
pub record TextsEnd (S : Session) : Type 0 where
  pub front : List (List ℕ)
  pub last : List ℕ
  pub whole : trace_lines S ≡ front ++ last ∷ []
  pub before : HaveNoEnd front
  pub ends : is_end_text last ≡ true

-- the texts of a valid session's trace end so
pub texts_end : (S : Session) → IsValidSession S → TextsEnd S
texts_end S valid =
    let it : LinesEnd S = lines_end S valid in
    let short : AllByRecursion HasShortNumbers (it.front ++ Printed (End it.value) ∷ []) =
    subst (AllByRecursion HasShortNumbers) it.whole (lines_short S valid) in
    record {
      front = header S.rules ∷ map text_of_line it.front;
      last = text_of (End it.value);
      whole = ap (λ lines. header S.rules ∷ map text_of_line lines) it.whole
          ∙ ap (λ ls. header S.rules ∷ ls) (map-append text_of_line it.front (Printed (End it.value) ∷ []));
      before = (
        header_text S.rules (valid_parts (session_jobs valid)).ratio,
        other_texts it.front
            (all_front HasShortNumbers it.front (Printed (End it.value) ∷ []) short) it.before,
      );
      ends = end_text it.value (all_at HasShortNumbers it.front (Printed (End it.value)) [] short);
    }

-- the last of texts
last_behind : (o : Option (List ℕ)) (ls : List (List ℕ)) (l : List ℕ) → last_or o (ls ++ l ∷ []) ≡ Some l
last_behind o [] l = refl
last_behind o (x ∷ ls) l = last_behind (Some x) ls l

-- a valid session's trace ends with End
pub trace_ends : (S : Session) → IsValidSession S → ends_with_end (trace_lines S) ≡ true
trace_ends S valid =
    let it : TextsEnd S = texts_end S valid in
    ap ends_with_end it.whole ∙ ap (λ o. option_map_or is_end_text o false) (last_behind None it.front it.last)
    ∙ it.ends

-- texts of which none is that of End don't end with it
pub none_ends : (ls : List (List ℕ)) (o : Option (List ℕ)) → HaveNoEnd ls → option_map_or is_end_text o false ≡ false
    → option_map_or is_end_text (last_or o ls) false ≡ false
none_ends [] o none other = other
none_ends (l ∷ ls) o none other = none_ends ls (Some l) none.1 none.0
