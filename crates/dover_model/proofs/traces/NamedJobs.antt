-- A trace of valid jobs names them, however many are ready at once.
use Rattle.std.proofs.Common.{◌≡◌, ℕ, List, [], ◌∷◌, ◌++◌, map, refl, sym, ap, ◌∙◌, Option, filter_map, option_and_then}
use Rattle.std.specs.List.{cons_option}
use Rattle.dover_model.specs.Common.{JobFacts, Event, Release, Complete, Declaration, Instance, IsValid, declared_by}
use Rattle.dover_model.specs.Common.{whole_lines, Step, run, printed, printed_of, event_of, Item, JobItem, Session}
use Rattle.dover_model.specs.Common.{session_with, instance_of, admitted_jobs, job_of_item, running, Move, Prints}
use Rattle.dover_model.specs.Common.{header, Printed, text_of_line, places_after, put_in, trace_lines, session_of}
use Rattle.dover_model.specs.Common.{trace, trace_of_session, handed_by, item_of, rules_of}
use Rattle.dover_model.proofs.texts.Cuts.{CutText, cut_in_lines}
use Rattle.dover_model.proofs.sessions.Growing.{all_lines}
use Rattle.dover_model.proofs.sessions.JobSessions.{instance_back}
use Rattle.dover_model.proofs.lists.Members.{some_same, heads, tails}
use Rattle.dover_model.proofs.traces.Named.{header_names}
use Rattle.dover_model.proofs.texts.NoFeeds.{feedless_texts, feedless_header}
use Rattle.dover_model.proofs.runs.ReleaseCounts.{released, releases}
use Rattle.dover_model.proofs.sessions.RunSessions.{run_jobs}
use Rattle.dover_model.proofs.traces.ShortNumbers.{AreAllShort, printed_short}
use Rattle.dover_model.proofs.steps.Shown.{no_job_shown, items_of, items_cons}
use Rattle.dover_model.proofs.texts.TraceLines.{item_of_line, item_of-text_of_line}
use Rattle.dover_model.proofs.valid.ValidParts.{valid_parts}

-- among the items of jobs alone no line is refused
none_placed : (rules : Declaration) (before : List Item) (jobs : List JobFacts)
    → places_after rules before (map JobItem jobs) ≡ []
none_placed rules before [] = refl
none_placed rules before (j ∷ jobs) = none_placed rules (before ++ JobItem j ∷ []) jobs

-- so each line of their trace is a printed step
steps_alone : (J : Instance) → J.rules.finishes ≡ []
    → trace_lines (session_of J) ≡ header (declared_by J.rules) ∷ map text_of_line (map Printed (printed J))
steps_alone J plain =
    let lines : List (List ℕ) → List (List ℕ) = λ texts. header (declared_by J.rules) ∷ texts in
    ap (λ ps. lines (map text_of_line (put_in ps 0 (printed (instance_of (session_of J))))))
    (none_placed (declared_by J.rules) [] J.jobs)
    ∙ ap (λ K. lines (map text_of_line (map Printed (printed K)))) (instance_back J plain)

-- the job that a text names, if it is that of a release
abbrev job_named : List ℕ → Option JobFacts
job_named text = option_and_then job_of_item (item_of text)

-- the texts of printed steps name the released jobs
named_back : (es : List Event) → AreAllShort es
    → filter_map job_named (map text_of_line (map Printed es)) ≡ releases es
named_back [] short = refl
named_back (e ∷ es) short =
    let js : List JobFacts = filter_map job_named (map text_of_line (map Printed es)) in
    ap (λ o. cons_option (option_and_then job_of_item o) js) (item_of-text_of_line (Printed e) short.0)
    ∙ by_event e js ∙ ap (cons_option (released e)) (named_back es short.1)
  where
    by_event : (e : Event) (js : List JobFacts)
        → cons_option (option_and_then job_of_item (item_of_line (Printed e))) js ≡ cons_option (released e) js
    by_event (Release n j) js = refl
    by_event _ js = refl

-- the jobs that steps release are those that they show
shown_released : (xs : List Step) → releases (printed_of xs) ≡ admitted_jobs (items_of xs)
shown_released [] = refl
shown_released (x ∷ xs) = by_move x.move (shown_released xs) ∙ sym (items_cons x xs) where
  by_move : (m : Move) → releases (printed_of xs) ≡ admitted_jobs (items_of xs)
      → releases (cons_option (event_of m) (printed_of xs))
      ≡ admitted_jobs (cons_option (handed_by (record { before = x.before; move = m })) [])
      ++ admitted_jobs (items_of xs)
  by_move (Prints (Release n j)) rest = ap (λ js. j ∷ js) rest
  by_move (Prints (Complete at n)) rest =
      rest ∙ ap (λ js. js ++ admitted_jobs (items_of xs)) (sym (no_job_shown x.before.clock (running x.before)))
  by_move _ rest = rest

-- the texts of a run's printed steps name its jobs
run_named : (J : Instance) → IsValid J → filter_map job_named (map text_of_line (map Printed (printed J))) ≡ J.jobs
run_named J valid = named_back (printed J) (printed_short J valid) ∙ shown_released (run J) ∙ run_jobs J valid

-- a trace is cut into its lines
cut_back : (S : Session) → whole_lines (trace_of_session S) ≡ trace_lines S
cut_back S = ap (λ (c : CutText). c.0)
    (cut_in_lines (trace_lines S) (feedless_header S.rules, feedless_texts (all_lines S)))

-- equal traces of valid jobs are of equal jobs
pub same_jobs : (J K : Instance) → J.rules.finishes ≡ [] → K.rules.finishes ≡ [] → IsValid J → IsValid K
    → trace J ≡ trace K → J ≡ K
same_jobs J K plain_J plain_K valid_J valid_K same =
    let texts_of : Instance → List (List ℕ) = λ I. map text_of_line (map Printed (printed I)) in
    let lines : header (declared_by J.rules) ∷ texts_of J ≡ header (declared_by K.rules) ∷ texts_of K =
    sym (steps_alone J plain_J) ∙ sym (cut_back (session_of J)) ∙ ap whole_lines same
    ∙ cut_back (session_of K) ∙ steps_alone K plain_K in
    let rules : declared_by J.rules ≡ declared_by K.rules =
    some_same (declared_by J.rules) (declared_by K.rules) (sym
    (header_names (declared_by J.rules) (valid_parts valid_J).ratio)
    ∙ ap rules_of (heads (header (declared_by J.rules)) (header (declared_by K.rules)) (texts_of J) (texts_of K) lines)
    ∙ header_names (declared_by K.rules) (valid_parts valid_K).ratio) in
    let jobs : J.jobs ≡ K.jobs = sym (run_named J valid_J)
    ∙ ap (filter_map job_named)
    (tails (header (declared_by J.rules)) (header (declared_by K.rules)) (texts_of J) (texts_of K) lines)
    ∙ run_named K valid_K in
    sym (instance_back J plain_J)
    ∙ ap (λ js. instance_of (session_with (declared_by J.rules) (map JobItem js))) jobs
    ∙ ap (λ r. instance_of (session_with r (map JobItem K.jobs))) rules ∙ instance_back K plain_K
