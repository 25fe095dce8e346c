-- What follows from what the lines of a trace so far have come to.
use Rattle.std.proofs.Common.{◌≡◌, ℕ, ◌+◌, ◌-◌, List, ◌++◌, ap, ◌∙◌, subst, arith, ◌∷◌, length, map, sym}
use Rattle.std.proofs.Common.{[], true, false, cond, Some, slice_get, option_map, option_and_then, append_assoc}
use Rattle.std.specs.List.{AllByRecursion}
use Rattle.std.proofs.lemmas.List.Elements.{filter_map-append}
use Rattle.std.specs.Option.{option_map_or}
use Rattle.std.proofs.lemmas.List.{map-append, length-map}
use Rattle.dover_model.specs.Common.{Instance, IsValid, State, opening, Step, printed_of, printed, run, last_deadline}
use Rattle.dover_model.specs.Common.{Keeps, IsWholeRun, Begins, Session, instance_of, admitted_jobs, IsValidSession}
use Rattle.dover_model.specs.Common.{new_session, lines_among, texts_among, Printed, text_of_line, places_of}
use Rattle.dover_model.specs.Common.{trace_lines, named_session, named_behind, Nothing, begins_trace, ends_with_end}
use Rattle.dover_model.specs.Common.{refused_count, expected_after, Leads, Passes, PrintsNext, open_step, after, header}
use Rattle.dover_model.specs.Common.{text_of}
use Rattle.dover_model.specs.Verdict.{Step as Due, step_after}
use Rattle.dover_model.proofs.steps.Kept.{opening_keeps, open_kept}
use Rattle.dover_model.proofs.runs.Ending.{potential, Ends, ends, run_is_whole}
use Rattle.dover_model.proofs.runs.RunLaws.{one_run}
use Rattle.dover_model.proofs.valid.Valid.{all_front}
use Rattle.dover_model.proofs.sessions.PutIn.{RefusesWithin, put_in-more_steps}
use Rattle.dover_model.proofs.sessions.Growing.{all_lines, LinesName, begins_more}
use Rattle.dover_model.proofs.texts.TraceLines.{HasShortNumbers}
use Rattle.dover_model.proofs.traces.ShortNumbers.{lines_short}
use Rattle.dover_model.proofs.traces.Named.{lines_name, header_names, texts_name, beginnings_pass}
use Rattle.dover_model.proofs.settled.Leading.{leads_passes, passes_keeps, leads_whole, prints_first}
use Rattle.dover_model.specs.declared.events.Event.{Event}
use Rattle.dover_model.proofs.lists.Members.{some_same, by_bool}
use Rattle.dover_model.proofs.lists.Beginnings.{begins_behind, begins_map}
use Rattle.dover_model.proofs.finishes.Readiness.{IsReady, opening_ready, open_ready}
use Rattle.dover_model.proofs.traces.WrongStays.{after_end_fails}
use Rattle.dover_model.proofs.lists.Tests.{never}
use Rattle.trace_judge.specs.Reading.{Sees}
use Rattle.trace_judge.proofs.Counts.{length-lines, get_behind}
use Rattle.dover_model.proofs.settled.Waiting.{next_exists}
use Rattle.dover_model.proofs.sessions.SessionParts.{session_jobs}
use Rattle.dover_model.proofs.valid.ValidParts.{valid_parts}

-- steps that pass leave no job that waits or is held at a finish
pub passes_ready : (J : Instance) → IsValid J → (mark : ℕ) (xs : List Step) (s z : State) → Keeps J s
    → IsReady J.rules.finishes s → Passes J.rules mark s xs z → IsReady J.rules.finishes z
passes_ready J valid mark [] s z keeps ready passes = subst (IsReady J.rules.finishes) passes ready
passes_ready J valid mark (x ∷ xs) s z keeps ready passes =
    passes_ready J valid mark xs (after s (open_step J.rules s)) z (open_kept J valid s keeps J.rules)
    (open_ready J valid s keeps J.rules ready) passes.2

module _ (S : Session) (valid : IsValidSession S) (floor : ℕ)
    (z : State) (steps : List Step)
    (leads : Leads (instance_of S).rules floor (opening (admitted_jobs S.items)) steps z) where
  -- the state is a sound one of the jobs
  pub led_keeps : Keeps (instance_of S) z
  led_keeps = passes_keeps (instance_of S) (session_jobs valid) (instance_of S).rules floor steps
      (opening (admitted_jobs S.items)) z
      (opening_keeps (instance_of S))
      (leads_passes (instance_of S).rules floor steps (opening (admitted_jobs S.items)) z leads)

  -- no job that waits or is held has come to a finish
  pub led_ready : IsReady (instance_of S).rules.finishes z
  led_ready = passes_ready (instance_of S) (session_jobs valid) floor steps (opening (admitted_jobs S.items)) z
      (opening_keeps (instance_of S)) (opening_ready (instance_of S).rules.finishes (admitted_jobs S.items))
      (leads_passes (instance_of S).rules floor steps (opening (admitted_jobs S.items)) z leads)

  -- the rest of the run
  pub led_rest : (ys : List Step) × IsWholeRun (instance_of S).rules z ys
      × (printed (instance_of S) ≡ printed_of steps ++ printed_of ys)
  led_rest =
      let J : Instance = instance_of S in
      let it : Ends (instance_of S).rules z (potential J.rules.finishes (last_deadline J.jobs) z + 1) =
      ends J (session_jobs valid) (instance_of S).rules (potential J.rules.finishes (last_deadline J.jobs) z) z
      led_keeps
      led_ready (omega arith) in (
        it.0,
        it.1,
        ap printed_of
            (one_run (instance_of S).rules (opening J.jobs) (run J) (steps ++ it.0)
            (run_is_whole J (session_jobs valid))
            (leads_whole J (session_jobs valid) (instance_of S).rules floor steps it.0 (opening J.jobs) z
            (opening_keeps J)
            leads it.1))
            ∙ filter_map-append _ steps it.0,
      )

  module _ (within : RefusesWithin S (printed_of steps)) where
    -- the lines begin those of the session's trace
    pub led_lines : Begins (lines_among S (printed_of steps)) (all_lines S)
    led_lines = begins_more S (printed_of steps) (printed (instance_of S)) within (printed_of led_rest.0, led_rest.2)

    -- they have short numbers
    pub led_short : AllByRecursion HasShortNumbers (lines_among S (printed_of steps))
    led_short = all_front HasShortNumbers (lines_among S (printed_of steps)) led_lines.0
        (subst (AllByRecursion HasShortNumbers) led_lines.1 (lines_short S valid))

    -- where they name the items, their texts name the session
    pub led_named : LinesName (lines_among S (printed_of steps)) S
        → named_session (texts_among S (printed_of steps)) ≡ Some S
    led_named names =
        lines_name S.rules (lines_among S (printed_of steps)) S.items (valid_parts (session_jobs valid)).ratio led_short
        names

module _ (ls : List (List ℕ)) (S : Session) (floor : ℕ) (z : State) (sees : Sees ls S floor z) where
  -- the jobs of the session
  abbrev J : Instance
  J = instance_of S

  -- the steps so far
  abbrev so_far : List Event
  so_far = printed_of sees.steps

  -- the state is a sound one of the jobs
  pub sees_keeps : Keeps J z
  sees_keeps = led_keeps S sees.valid floor z sees.steps sees.leads

  -- no job that waits or is held has come to a finish
  pub sees_ready : IsReady J.rules.finishes z
  sees_ready = led_ready S sees.valid floor z sees.steps sees.leads

  -- the rest of the run
  pub sees_rest : (ys : List Step) × IsWholeRun (instance_of S).rules z ys × (printed J ≡ so_far ++ printed_of ys)
  sees_rest = led_rest S sees.valid floor z sees.steps sees.leads

  -- the lines begin those of the session's trace
  pub sees_lines : Begins (lines_among S so_far) (all_lines S)
  sees_lines = led_lines S sees.valid floor z sees.steps sees.leads sees.within

  -- so they begin a trace
  pub sees_begins : begins_trace ls ≡ true
  sees_begins = subst (λ xs. begins_trace xs ≡ true) (sym sees.lines)
      (beginnings_pass S (texts_among S so_far) sees.valid
      (begins_behind (header S.rules ∷ []) (map text_of_line (lines_among S so_far)) (map text_of_line (all_lines S))
      (begins_map text_of_line (lines_among S so_far) (all_lines S) sees_lines)))

  -- they have short numbers
  pub sees_short : AllByRecursion HasShortNumbers (lines_among S so_far)
  sees_short = led_short S sees.valid floor z sees.steps sees.leads sees.within

  -- they name the items
  pub sees_names : LinesName (lines_among S so_far) S
  sees_names = sym (texts_name (new_session S.rules) (lines_among S so_far) sees_short)
      ∙ some_same _ _ (ap (option_map
      (λ r. named_behind (new_session r) (map text_of_line (lines_among S so_far))))
      (sym (header_names S.rules (valid_parts (session_jobs sees.valid)).ratio)) ∙ ap named_session (sym sees.lines)
      ∙ sees.named)

  module _ (e : Event) (y : State) (next : PrintsNext (instance_of S).rules z e y) where
    -- what the run prints next
    pub sees_next : (more : List Event) × (printed J ≡ so_far ++ e ∷ more)
    sees_next =
        let it : (more : List Event) × (printed_of sees_rest.0 ≡ e ∷ more) =
        prints_first J (session_jobs sees.valid) (instance_of S).rules next.steps sees_rest.0 z y e sees_keeps
        next.idles
        next.prints
        sees_rest.1 in
        (it.0, sees_rest.2 ∙ ap (λ es. so_far ++ es) it.1)

    -- the line that comes next in the trace
    pub sees_next_text : (more : List (List ℕ)) × (trace_lines S ≡ ls ++ text_of e ∷ more)
    sees_next_text = (
      map text_of_line (map Printed sees_next.0),
      ap (texts_among S) sees_next.1
          ∙ ap (λ xs. header S.rules ∷ map text_of_line xs)
          (put_in-more_steps (places_of S) 0 so_far (e ∷ sees_next.0) sees.within)
          ∙ ap (λ xs. header S.rules ∷ xs)
          (map-append text_of_line (lines_among S so_far) (map Printed (e ∷ sees_next.0)))
          ∙ ap (λ xs. xs ++ text_of e ∷ map text_of_line (map Printed sees_next.0)) (sym sees.lines),
    )

    -- with it the lines begin a trace
    pub next_begins : begins_trace (ls ++ text_of e ∷ []) ≡ true
    next_begins = beginnings_pass S (ls ++ text_of e ∷ []) sees.valid
        (sees_next_text.0, sees_next_text.1 ∙ sym (append_assoc ls (text_of e ∷ []) sees_next_text.0))

    -- so the trace has not ended
    pub sees_goes_on : ends_with_end ls ≡ false
    sees_goes_on = by_bool _ (ends_with_end ls)
        (λ ended. never (sym (after_end_fails ls (text_of e) ended) ∙ next_begins))
        (λ on. on)

    -- the step that is due is that one
    pub sees_expects : expected_after ls ≡ Due e
    sees_expects = ap expected_after sees.lines
        ∙ ap (λ b. cond b Nothing
        (option_map_or Due (option_and_then (step_after count) (named_session (texts_among S so_far))) Nothing))
        (ap ends_with_end (sym sees.lines) ∙ sees_goes_on)
        ∙ ap (λ o. option_map_or Due (option_and_then (step_after count) o) Nothing)
        (ap named_session (sym sees.lines) ∙ sees.named)
        ∙ ap (λ o. option_map_or Due o Nothing) at_count where
          count : ℕ
          count = length (map text_of_line (lines_among S so_far))

          at_count : step_after count S ≡ Some e
          at_count = ap (λ n. slice_get (printed J) n) here ∙ ap (λ es. slice_get es (length so_far)) sees_next.1
              ∙ get_behind so_far e sees_next.0 where
                here : count - refused_count S ≡ length so_far
                here = omega (arith, length-map (lines_among S so_far) text_of_line, length-lines S so_far)

-- some step is printed next
pub sees_some_next : (ls : List (List ℕ)) (S : Session) (floor : ℕ) (z : State) → Sees ls S floor z → (e : Event)
    × (y : State) × PrintsNext (instance_of S).rules z e y
sees_some_next ls S floor z sees =
    next_exists (instance_of S) (session_jobs sees.valid) (instance_of S).rules (sees_rest ls S floor z sees).0 z
    (sees_keeps ls S floor z sees)
    (sees_rest ls S floor z sees).1

-- lines whose steps lead to a state have not ended
pub sees_not_ended : (ls : List (List ℕ)) (S : Session) (floor : ℕ) (z : State) → Sees ls S floor z
    → ends_with_end ls ≡ false
sees_not_ended ls S floor z sees =
    let it : (e : Event) × (y : State) × PrintsNext (instance_of S).rules z e y = sees_some_next ls S floor z sees in
    sees_goes_on ls S floor z sees it.0 it.1 it.2
