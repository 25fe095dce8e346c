-- Lines that continue a trace, and what they come to.
use Rattle.std.proofs.Common.{◌≡◌, ◌+◌, List, ◌∷◌, ◌++◌, map, ap, ℕ, suc, ◌≤◌, max, Bool, true, false, cond, arith, []}
use Rattle.std.proofs.Common.{refl, ◌<◌, length, length-append, sym, ◌∙◌, subst, inl, inr, append-nil, nat_le, ◌&&◌}
use Rattle.std.proofs.Common.{nat_lt, Some, None, ltb-true, ltb-false, fold}
use Rattle.std.proofs.lemmas.List.{map-append}
use Rattle.std.specs.Option.{option_or}
use Rattle.std.proofs.lemmas.Bool.{lt-leb, false_from_ne_true}
use Rattle.std.specs.List.{AllByRecursion}
use Rattle.std.proofs.lemmas.List.Sums.{fold-append}
use Rattle.dover_model.specs.Common.{Declaration, Rules, Instance, IsValid, with_jobs, with_finishes, header, text_of}
use Rattle.dover_model.specs.Common.{refused_text, TraceLine, text_of_line, Printed, Refuses, Placed, places_of}
use Rattle.dover_model.specs.Common.{lines_among, texts_among, put_in, JobFacts, State, opening, with_later, is_coming}
use Rattle.dover_model.specs.Common.{is_over, Prints, open_step, after, due_finish, Step, is_end, printed_of, printed}
use Rattle.dover_model.specs.Common.{waits_for_mark, settled, settled_steps, settled_state, Each, Keeps, open_at}
use Rattle.dover_model.specs.Common.{IsSettledRun, IsBarrier, JobItem, RefusedItem, Refused, Session, instance_of}
use Rattle.dover_model.specs.Common.{admitted_jobs, FinishItem, EarlyFinish, IsDeclarable, IsValidSession, with_item}
use Rattle.dover_model.specs.Common.{with_named, mark_after, new_session, named_session, Finish, IsOpenPath, GoesOn}
use Rattle.dover_model.specs.Common.{Leads, Passes, Idles, PrintsNext, floor_after, with_fresh, IsRatio, WaitsUntil}
use Rattle.dover_model.specs.Common.{Item}
use Rattle.dover_model.specs.declared.events.Event.{Event}
use Rattle.dover_model.specs.declared.events.Event.TheVariants.{Release, Complete}
use Rattle.dover_model.specs.declared.events.Role.TheVariants.{Fresh, Running}
use Rattle.dover_model.specs.declared.events.Task.{Task}
use Rattle.dover_model.proofs.steps.Kept.{opening_keeps, each_job}
use Rattle.dover_model.proofs.runs.Ending.{potential}
use Rattle.dover_model.proofs.settled.Settling.{Settles as Reaches, settles, settled_is_run, at_barrier}
use Rattle.dover_model.proofs.valid.Valid.{all_from}
use Rattle.dover_model.proofs.settled.Prefixes.{step_open, come_from, opening_later, later_keeps}
use Rattle.dover_model.proofs.settled.Releasing.{coming_task, barrier_releases}
use Rattle.dover_model.proofs.sessions.PutIn.{RefusesWithin, AllPlacedWithin, put_in-more_steps, put_in-more_refused}
use Rattle.dover_model.proofs.sessions.PutIn.{places_after-append}
use Rattle.dover_model.proofs.sessions.Growing.{Reads, LinesName, item_in, with_line_named, reads_later, Finishes}
use Rattle.dover_model.proofs.sessions.Growing.{finishing_job, finish_instance, finish_is_named, job_instance}
use Rattle.dover_model.proofs.sessions.Growing.{refused_instance, all_behind}
use Rattle.admission.proofs.Joining.{admitted_valid}
use Rattle.dover_model.proofs.sessions.Accounts.{follows_behind, mark_behind}
use Rattle.dover_model.proofs.lists.Members.{each_behind, all_at, all_each}
use Rattle.dover_model.proofs.finishes.Early.{finish_in, NameNone, run_names_none}
use Rattle.dover_model.proofs.texts.TraceLines.{item_of_line}
use Rattle.dover_model.proofs.runs.Runs.{printed_append}
use Rattle.dover_model.proofs.settled.Paths.{one_settled_run}
use Rattle.dover_model.proofs.rest.Resting.{path_state}
use Rattle.dover_model.proofs.finishes.Meeting.{finishing_valid}
use Rattle.dover_model.proofs.finishes.Further.{none_due_before, same_open, next_at_mark}
use Rattle.dover_model.proofs.steps.Roles.{passes}
use Rattle.dover_model.proofs.lists.Tests.{never}
use Rattle.trace_judge.specs.Reading.{Sees, HasRoom, MayRelease, MayRefuse, release_text, completion_text}
use Rattle.trace_judge.proofs.Items.{reads_mark, mark_next}
use Rattle.dover_model.proofs.settled.Leading.{leads_later_mark, leads_append, leads_passes, settles_passes}
use Rattle.dover_model.proofs.settled.Leading.{passes_append, passes_settled, settles_silent, idles_silent, idles_leads}
use Rattle.dover_model.proofs.settled.Leading.{settles_clock, passes_keeps, prints_goes_on, stops_before, Later}
use Rattle.dover_model.proofs.settled.Leading.{passes_later, coming_goes_on, idles_settles}
use Rattle.dover_model.proofs.runs.Released.{NoneComes, none_comes_passes, none_comes_after, printed_names_none}
use Rattle.dover_model.proofs.runs.Released.{after_release}
use Rattle.trace_judge.proofs.Seeing.{led_named, sees_keeps, sees_ready, sees_names, sees_next}
use Rattle.dover_model.proofs.sessions.SessionParts.{MayFinish, session_parts, session_from, session_jobs}
use Rattle.dover_model.proofs.sessions.SessionParts.{session_declared, FollowsItems}
use Rattle.trace_judge.proofs.Follows.{refused_parts}
use Rattle.dover_model.proofs.valid.ValidParts.{valid_from}
use Rattle.dover_model.proofs.sessions.Walks.{tick_of_item}

-- lines that come to a state, and what was printed up to it
abbrev pub SeesWith : List (List ℕ) → Session → ℕ → State → List Event → Type 0
SeesWith ls S floor z es = (s : Sees ls S floor z) × (printed_of s.steps ≡ es)

-- texts with further lines behind
texts_behind : (rules : Declaration) (front more : List TraceLine)
    → header rules ∷ map text_of_line (front ++ more) ≡ (header rules ∷ map text_of_line front) ++ map text_of_line more
texts_behind rules front more = ap (λ xs. header rules ∷ xs) (map-append text_of_line front more)

-- steps that pass are a path
pub passes_path : (rules : Rules) (mark : ℕ) (xs : List Step) (s z : State) → Passes rules mark s xs z
    → IsOpenPath rules mark s xs z
passes_path rules mark [] s z passes = sym passes
passes_path rules mark (x ∷ xs) s z passes =
    (passes.0, passes.1, passes_path rules mark xs (after s (open_step rules s)) z passes.2)

-- the clock isn't above the floor after an event
clock_below : (floor : ℕ) (late : Bool) (clock : ℕ) → clock ≤ max floor (cond late (suc clock) clock)
clock_below floor true clock = omega arith
clock_below floor false clock = omega arith

-- the event itself comes before it
late_before : (floor : ℕ) (late : Bool) (clock : ℕ)
    → (late && nat_le (max floor (cond late (suc clock) clock)) clock) ≡ false
late_before floor true clock = lt-leb (max floor (suc clock)) clock (omega arith)
late_before floor false clock = refl

-- a printed step names no finish
pub printed_unfinished : (ls : List (List ℕ)) (S : Session) (floor : ℕ) (z : State) (sees : Sees ls S floor z)
    (e : Event) (y : State) → PrintsNext (instance_of S).rules z e y → finish_in S e ≡ None
printed_unfinished ls S floor z sees e y next =
    let it : (more : List Event) × (printed (instance_of S) ≡ printed_of sees.steps ++ e ∷ more) =
    sees_next ls S floor z sees e y next in
    all_at (λ e. finish_in S e ≡ None) (printed_of sees.steps) e it.0
    (subst (NameNone S) it.1 (run_names_none S (session_jobs sees.valid)))

module _ (ls : List (List ℕ)) (S : Session) (floor : ℕ) (z : State) (sees : Sees ls S floor z) where
  -- the jobs of the session
  abbrev J : Instance
  J = instance_of S

  -- the steps so far
  abbrev so_far : List Event
  so_far = printed_of sees.steps

  -- so many more are within as well
  within_more : (es : List Event) → AllPlacedWithin 0 (so_far ++ es) (places_of S)
  within_more es = all_from (λ (p : Placed). p.place ≤ 0 + length so_far) (λ p. p.place ≤ 0 + length (so_far ++ es))
      (places_of S)
      (λ p low. omega (arith, length-append so_far es)) sees.within

  -- with steps that print nothing
  prints_same : (xs : List Step) → printed_of xs ≡ [] → printed_of (sees.steps ++ xs) ≡ so_far
  prints_same xs silent = printed_append sees.steps xs ∙ ap (λ es. so_far ++ es) silent ∙ append-nil so_far

  -- what is settled at a tick from the floor on
  pub settled_from_floor : (t : ℕ) → floor ≤ t → (ys : List Step) × IsSettledRun J.rules t z ys
      × (settled_steps J t ≡ sees.steps ++ ys)
  settled_from_floor t later =
      let it : Reaches J.rules t z (potential J.rules.finishes t z) =
      settles J (session_jobs sees.valid) J.rules t (potential J.rules.finishes t z) z (sees_keeps ls S floor z sees)
      (sees_ready ls S floor z sees) (omega arith) in (
        it.0,
        it.1,
        one_settled_run J.rules t (settled_steps J t) (sees.steps ++ it.0) (opening J.jobs)
            (settled_is_run J t (session_jobs sees.valid))
            (passes_settled J.rules t sees.steps it.0 (opening J.jobs) z
            (leads_passes J.rules t sees.steps (opening J.jobs) z
            (leads_later_mark J.rules floor t later sees.steps (opening J.jobs) z sees.leads)) it.1),
      )

  -- ---- a barrier

  module _ (t : ℕ) (y : State) (later : floor ≤ t) (waits : WaitsUntil J.rules t z y) where
    -- the steps so far and the silent ones come to it
    pub passes_there : Passes J.rules t (opening J.jobs) (sees.steps ++ waits.steps) y
    passes_there = passes_append J.rules t sees.steps waits.steps (opening J.jobs) z y
        (leads_passes J.rules t sees.steps (opening J.jobs) z
        (leads_later_mark J.rules floor t later sees.steps (opening J.jobs) z sees.leads))
        (settles_passes J.rules t waits.steps z y waits.settles)

    -- they are all that is settled there
    pub settled_there : settled_steps J t ≡ sees.steps ++ waits.steps
    settled_there = one_settled_run J.rules t (settled_steps J t) (sees.steps ++ waits.steps) (opening J.jobs)
        (settled_is_run J t (session_jobs sees.valid))
        (subst (IsSettledRun J.rules t (opening J.jobs)) (append-nil (sees.steps ++ waits.steps))
        (passes_settled J.rules t (sees.steps ++ waits.steps) [] (opening J.jobs) y passes_there waits.barrier))

    -- so no more is printed
    pub printed_there : settled J t ≡ so_far
    printed_there = ap printed_of settled_there
        ∙ prints_same waits.steps (settles_silent J.rules t waits.steps z y waits.settles)

    -- and the state there is the settled one
    pub state_there : settled_state J t ≡ y
    state_there = path_state J.rules t (settled_steps J t) (opening J.jobs) y
        (subst (λ steps. IsOpenPath J.rules t (opening J.jobs) steps y) (sym settled_there)
        (passes_path J.rules t (sees.steps ++ waits.steps) (opening J.jobs) y passes_there))

  -- ---- one line more

  -- the line of a step more, where no line more is refused
  module _ (T : Session) (places : places_of T ≡ places_of S) (e : Event) where
    -- it comes behind the others
    among_step : lines_among T (so_far ++ e ∷ []) ≡ lines_among S so_far ++ Printed e ∷ []
    among_step = ap (λ ps. put_in ps 0 (so_far ++ e ∷ [])) places
        ∙ put_in-more_steps (places_of S) 0 so_far (e ∷ []) sees.within

    -- the refused ones are within
    within_step : RefusesWithin T (so_far ++ e ∷ [])
    within_step = subst (AllPlacedWithin 0 (so_far ++ e ∷ [])) (sym places) (within_more (e ∷ []))

  -- a line more, and what is printed up to it
  module _ (T : Session) (rules : T.rules ≡ S.rules) (valid : IsValidSession T) (line : TraceLine)
      (names : with_line_named S line ≡ T) (steps : List Step) (es : List Event) (print : printed_of steps ≡ es)
      (among : lines_among T es ≡ lines_among S so_far ++ line ∷ []) (within : RefusesWithin T es) (tick : ℕ)
      (y : State) (leads : Leads (instance_of T).rules tick (opening (admitted_jobs T.items)) steps y)
      (released : NoneComes y.tasks) (clock : y.clock ≤ tick) (mark : mark_after 0 T.items ≤ tick)
      (tight : (t : ℕ) → mark_after 0 T.items ≤ t → t < tick → length (settled (instance_of T) t) < length es) where
    -- the lines of the steps
    among_steps : lines_among T (printed_of steps) ≡ lines_among S so_far ++ line ∷ []
    among_steps = ap (lines_among T) print ∙ among

    -- the lines so far, and its text
    lines_more : ls ++ text_of_line line ∷ [] ≡ texts_among T (printed_of steps)
    lines_more = ap (λ xs. xs ++ text_of_line line ∷ []) sees.lines
        ∙ sym (texts_behind S.rules (lines_among S so_far) (line ∷ []))
        ∙ ap (λ k. header k ∷ map text_of_line (lines_among S so_far ++ line ∷ [])) (sym rules)
        ∙ ap (λ xs. header T.rules ∷ map text_of_line xs) (sym among_steps)

    -- they name the session
    names_more : LinesName (lines_among T (printed_of steps)) T
    names_more = ap (λ k. fold with_line_named (new_session k) (lines_among T (printed_of steps))) rules
        ∙ ap (fold with_line_named (new_session S.rules)) among_steps
        ∙ fold-append with_line_named (new_session S.rules) (lines_among S so_far) (line ∷ [])
        ∙ ap (λ V. with_line_named V line) (sees_names ls S floor z sees) ∙ names

    -- they are within the steps as well
    within_steps : RefusesWithin T (printed_of steps)
    within_steps = subst (λ us. AllPlacedWithin 0 us (places_of T)) (sym print) within

    -- its text comes to the state
    sees_line : SeesWith (ls ++ text_of_line line ∷ []) T tick y es
    sees_line = (
      record {
        valid = valid;
        named = ap named_session lines_more ∙ led_named T valid tick y steps leads within_steps names_more;
        steps = steps;
        leads = leads;
        lines = lines_more;
        within = within_steps;
        released = released;
        clock = clock;
        mark = mark;
        tight = subst (λ us. (t : ℕ) → mark_after 0 T.items ≤ t → t < tick
            → length (settled (instance_of T) t) < length us) (sym print) tight;
      },
      print,
    )

  -- an item more: its line, and the steps that lead to a state with it
  module _ (x : Item) (K : Instance) (is_K : instance_of (with_item S x) ≡ K) (valid_K : IsValid K) (room : HasRoom S)
      (follows : FollowsItems S.rules S.items (mark_after 0 S.items) (x ∷ []))
      (line : TraceLine) (names : item_in S line ≡ Some x) (steps : List Step) (es : List Event)
      (print : printed_of steps ≡ es)
      (among : lines_among (with_item S x) es ≡ lines_among S so_far ++ line ∷ [])
      (within : RefusesWithin (with_item S x) es) (y : State)
      (leads : Leads K.rules (tick_of_item x) (opening K.jobs) steps y) (released : NoneComes y.tasks)
      (clock : y.clock ≤ tick_of_item x) where
    -- the session is valid
    valid_item : IsValidSession (with_item S x)
    valid_item = session_from (record {
      declared = session_declared sees.valid;
      jobs = subst IsValid (sym is_K) valid_K;
      count = omega (arith, room, length-append S.items (x ∷ []));
      items = follows_behind S.rules [] 0 S.items (x ∷ []) (session_parts sees.valid).items follows;
    })

    -- the mark is at its tick
    mark_item : mark_after 0 (S.items ++ x ∷ []) ≡ tick_of_item x
    mark_item = mark_behind 0 S.items x ∙ sym (mark_next S.rules S.items (mark_after 0 S.items) x [] follows)

    -- its text comes to the state
    sees_item : SeesWith (ls ++ text_of_line line ∷ []) (with_item S x) (tick_of_item x) y es
    sees_item = sees_line (with_item S x) refl valid_item line (ap (with_named S) names) steps es print among within
        (tick_of_item x) y
        (subst (λ (I : Instance). Leads I.rules (tick_of_item x) (opening I.jobs) steps y) (sym is_K) leads)
        released clock (omega (arith, mark_item)) (λ t marked low. absurd (omega (arith, mark_item)))

  -- ---- a printed step

  module _ (e : Event) (y : State) (next : PrintsNext J.rules z e y) (more : is_end (Prints e) ≡ false) where
    -- the state before the step is a sound one
    keeps_y : Keeps J y
    keeps_y = passes_keeps J (session_jobs sees.valid) J.rules y.clock next.steps z y (sees_keeps ls S floor z sees)
        (leads_passes J.rules y.clock next.steps z y (idles_leads J.rules next.steps z y next.idles))

    -- some job isn't over
    goes_on : GoesOn y
    goes_on = prints_goes_on J (session_jobs sees.valid) J.rules y e keeps_y next.prints more

    -- so the step is an open one
    opens : open_step J.rules y ≡ Prints e
    opens = sym (step_open J.rules y goes_on) ∙ next.prints

    -- the floor after it
    abbrev new_floor : ℕ
    new_floor = max floor (floor_after y e)

    -- no job is to come
    none_y : NoneComes y.tasks
    none_y = none_comes_passes J.rules y.clock next.steps z y
        (leads_passes J.rules y.clock next.steps z y (idles_leads J.rules next.steps z y next.idles)) sees.released

    -- the steps with it
    abbrev steps_more : List Step
    steps_more = sees.steps ++ (next.steps ++ open_at J.rules y ∷ [])

    -- what they print
    print_more : printed_of steps_more ≡ so_far ++ e ∷ []
    print_more = printed_append sees.steps (next.steps ++ open_at J.rules y ∷ [])
        ∙ ap (λ es. so_far ++ es) (printed_append next.steps (open_at J.rules y ∷ [])
        ∙ ap (λ es. es ++ printed_of (open_at J.rules y ∷ [])) (idles_silent J.rules next.steps z y next.idles)
        ∙ ap (λ m. printed_of (record { before = y; move = m } ∷ [])) opens)

    -- they lead to the state after it
    lead_more : Leads J.rules new_floor (opening J.jobs) steps_more (after y (Prints e))
    lead_more =
        leads_append J.rules new_floor sees.steps (next.steps ++ open_at J.rules y ∷ []) (opening J.jobs) z
        (after y (Prints e))
        (leads_later_mark J.rules floor new_floor (omega arith) sees.steps (opening J.jobs) z sees.leads)
        (leads_append J.rules new_floor next.steps (open_at J.rules y ∷ []) z y (after y (Prints e))
        (leads_later_mark J.rules y.clock new_floor (clock_below floor (waits_for_mark (Prints e)) y.clock) next.steps z
        y
        (idles_leads J.rules next.steps z y next.idles)) (
          refl,
          subst (λ m. (waits_for_mark m && nat_le new_floor y.clock) ≡ false) (sym opens)
              (late_before floor (waits_for_mark (Prints e)) y.clock),
          goes_on,
          ap (after y) opens,
        ))

    -- no further item is named
    names_none : with_line_named S (Printed e) ≡ S
    names_none = ap (with_named S) (ap (option_or (item_of_line (Printed e))) (printed_unfinished ls S floor z sees e y
        next)
        ∙ ap (λ o. option_or o None) (printed_names_none J (session_jobs sees.valid) y keeps_y J.rules none_y e opens))

    -- at a tick below the floor less is settled
    tight_more : (t : ℕ) → mark_after 0 S.items ≤ t → t < new_floor
        → length (settled J t) < length (so_far ++ e ∷ [])
    tight_more t marked low =
        omega (arith, length-append so_far (e ∷ []), by_floor (nat_lt t floor) refl) where
          by_floor : (b : Bool) → nat_lt t floor ≡ b → length (settled J t) ≤ length so_far
          by_floor true below = let less : length (settled J t) < length so_far =
              sees.tight t marked (ltb-true _ _ below) in omega arith
          by_floor false above =
              let from_floor : floor ≤ t = ltb-false _ _ above in
              let early : t < floor_after y e = omega arith in
              let it : (ys : List Step) × IsSettledRun J.rules t z ys × (settled_steps J t ≡ sees.steps ++ ys) =
              settled_from_floor t from_floor in
              let none : printed_of it.0 ≡ [] =
              stops_before J (session_jobs sees.valid) J.rules t next.steps it.0 z y e (sees_keeps ls S floor z sees)
              (let low_z : z.clock ≤ floor = sees.clock in omega arith) next.idles opens early it.1 in
              omega (arith, ap length (ap printed_of it.2 ∙ prints_same it.0 none))

    -- the text of the next printed step comes to the state after it
    pub sees_step : SeesWith (ls ++ text_of e ∷ []) S new_floor (after y (Prints e)) (so_far ++ e ∷ [])
    sees_step = sees_line S refl sees.valid (Printed e) names_none steps_more (so_far ++ e ∷ []) print_more
        (among_step S refl e) (within_more (e ∷ [])) new_floor (after y (Prints e)) lead_more
        (none_comes_after y (Prints e) none_y) (clock_below floor (waits_for_mark (Prints e)) y.clock)
        (let low : mark_after 0 S.items ≤ floor = sees.mark in omega arith) tight_more

  -- ---- silent steps

  -- silent steps that don't pass the floor change nothing else
  pub sees_idles : (xs : List Step) (y : State) → Idles J.rules z xs y → y.clock ≤ floor → SeesWith ls S floor y so_far
  sees_idles xs y idles low =
      let print_same : printed_of (sees.steps ++ xs) ≡ so_far = prints_same xs (idles_silent J.rules xs z y idles) in
      let leads_on : Leads J.rules y.clock z xs y = idles_leads J.rules xs z y idles in (
        record {
          valid = sees.valid;
          named = sees.named;
          steps = sees.steps ++ xs;
          leads = leads_append J.rules floor sees.steps xs (opening J.jobs) z y sees.leads
              (leads_later_mark J.rules y.clock floor low xs z y leads_on);
          lines = sees.lines ∙ ap (texts_among S) (sym print_same);
          within = subst (λ es. AllPlacedWithin 0 es (places_of S)) (sym print_same) sees.within;
          released = none_comes_passes J.rules y.clock xs z y
              (leads_passes J.rules y.clock xs z y leads_on) sees.released;
          clock = low;
          mark = sees.mark;
          tight = subst (λ es. (t : ℕ) → mark_after 0 S.items ≤ t → t < floor → length (settled J t) < length es)
              (sym print_same) sees.tight;
        },
        print_same,
      )

  -- ---- a job

  module _ (j : JobFacts) (y : State) (may : MayRelease S floor z j y) where
    -- the number of the job
    abbrev n : ℕ
    n = length (admitted_jobs S.items)

    -- the session with the job
    abbrev S_more : Session
    S_more = with_item S (JobItem j)

    -- the session so far is read up to its mark
    reads : Reads S (mark_after 0 S.items)
    reads = reads_mark S sees.valid

    -- the jobs are released by then
    known : AllByRecursion (λ i. i.release ≤ j.release) J.jobs
    known = let low : mark_after 0 S.items ≤ floor = sees.mark in let ordered : floor ≤ j.release = may.no_fall in
        all_from (λ i. i.release ≤ mark_after 0 S.items) (λ i. i.release ≤ j.release) J.jobs
        (λ i here. omega arith) reads.known

    -- the jobs with the new one
    abbrev K : Instance
    K = with_jobs J (j ∷ [])

    -- they are valid
    valid_K : IsValid K
    valid_K = admitted_valid J j (session_jobs sees.valid) known may.admitted

    -- the job, to come
    abbrev coming : List Task
    coming = coming_task n j ∷ []

    -- the state before it
    keeps_before : Keeps J y
    keeps_before = passes_keeps J (session_jobs sees.valid) J.rules j.release (sees.steps ++ may.waits.steps)
        (opening J.jobs) y
        (opening_keeps J) (passes_there j.release y may.no_fall may.waits)

    -- the job comes at its release
    late : Each (λ i. j.release ≤ i.release) (j ∷ [])
    late i (inl e) = let same : i.release ≡ j.release = ap (λ (x : JobFacts). x.release) e in omega arith
    late i (inr m) = absurd m

    -- the clock is there
    at_release : y.clock ≡ j.release
    at_release =
        let here : (waits_for_mark (open_step J.rules y) ≡ true) × (j.release ≤ y.clock) =
        at_barrier (waits_for_mark (open_step J.rules y)) j.release y.clock may.waits.barrier in
        let high : j.release ≤ y.clock = here.1 in
        let low_z : z.clock ≤ floor = sees.clock in
        let ordered : floor ≤ j.release = may.no_fall in
        let low : y.clock ≤ j.release =
        settles_clock J.rules j.release may.waits.steps z y may.waits.settles (omega arith) in
        omega arith

    -- the steps before it, with the job behind
    behind : Later J.rules j.release (opening J.jobs) y coming (sees.steps ++ may.waits.steps)
    behind = passes_later J (session_jobs sees.valid) K valid_K J.rules j.release coming
        (come_from j.release n (j ∷ []) late)
        (coming_task n j) (inl refl)
        (sees.steps ++ may.waits.steps) (opening J.jobs) y (opening_keeps J)
        (later_keeps J (j ∷ []) j.release valid_K late) (passes_there j.release y may.no_fall may.waits)

    -- the release
    releases : open_step J.rules (with_later y coming) ≡ Prints (Release n j)
    releases = barrier_releases J y keeps_before J.rules known_y
        (at_barrier (waits_for_mark (open_step J.rules y)) j.release y.clock may.waits.barrier).0
        n j (sym at_release) where
          known_y : Each (λ (t : Task). t.job.release ≤ y.clock) y.tasks
          known_y t m =
              let low : t.job.release ≤ j.release = each_job (λ i. i.release ≤ j.release) y.tasks
              (subst (AllByRecursion (λ i. i.release ≤ j.release)) (sym keeps_before.jobs) known) t m in
              omega (arith, at_release)

    -- the steps with it
    abbrev steps_job : List Step
    steps_job = behind.steps ++ open_at J.rules (with_later y coming) ∷ []

    -- the state after it
    abbrev fresh : State
    fresh = with_fresh y n j

    -- they lead to it
    lead_job : Leads J.rules j.release (opening K.jobs) steps_job fresh
    lead_job = subst (λ u. Leads J.rules j.release u steps_job fresh)
        (sym (opening_later J (j ∷ []) j.release valid_K late))
        (leads_append J.rules j.release behind.steps (open_at J.rules (with_later y coming) ∷ [])
        (with_later (opening J.jobs) coming)
        (with_later y coming) fresh behind.leads (
          refl,
          subst (λ m. (waits_for_mark m && nat_le j.release y.clock) ≡ false) (sym releases) refl,
          coming_goes_on y coming (coming_task n j) (inl refl) refl,
          ap (after (with_later y coming)) releases ∙ after_release J y keeps_before j at_release,
        ))

    -- what they print
    print_job : printed_of steps_job ≡ so_far ++ Release n j ∷ []
    print_job = printed_append behind.steps (open_at J.rules (with_later y coming) ∷ [])
        ∙ ap (λ es. es ++ printed_of (open_at J.rules (with_later y coming) ∷ []))
        (behind.printed
        ∙ prints_same may.waits.steps (settles_silent J.rules j.release may.waits.steps z y may.waits.settles))
        ∙ ap (λ m. so_far ++ printed_of (record { before = with_later y coming; move = m } ∷ [])) releases

    -- a job has no place
    places_job : places_of S_more ≡ places_of S
    places_job = places_after-append S.rules [] S.items (JobItem j ∷ []) ∙ append-nil (places_of S)

    -- the text of the job's release comes to the state after it
    pub sees_release : SeesWith (ls ++ release_text S j ∷ []) S_more j.release fresh (so_far ++ Release n j ∷ [])
    sees_release = sees_item (JobItem j) K (job_instance S j) valid_K may.room (
      record {
        no_fall = let low : mark_after 0 S.items ≤ floor = sees.mark in
            let ordered : floor ≤ j.release = may.no_fall in omega arith;
        room = may.not_full;
      },
      tt,
    ) (Printed (Release n j)) refl steps_job (so_far ++ Release n j ∷ []) print_job
        (among_step S_more places_job (Release n j)) (within_step S_more places_job (Release n j)) fresh lead_job
        (each_behind (λ t. is_coming t ≡ false) y.tasks (record { number = n; job = j; role = Fresh; had = 0 })
        (none_comes_passes J.rules j.release may.waits.steps z y
        (settles_passes J.rules j.release may.waits.steps z y may.waits.settles) sees.released) refl) (omega arith)

  -- ---- a refused line

  module _ (r : Refused) (y : State) (may : MayRefuse S floor z r y) where
    -- the session with the refused line
    abbrev S_refused : Session
    S_refused = with_item S (RefusedItem r)

    -- no more is settled at its tick
    all_settled : length (settled J r.at) ≡ length so_far
    all_settled = ap length (printed_there r.at y (refused_parts may).no_fall may.waits)

    -- its place
    abbrev placed : Placed
    placed = record { place = length (settled J r.at); refused = r }

    -- the places, and its own
    places_refused : places_of S_refused ≡ places_of S ++ placed ∷ []
    places_refused = places_after-append S.rules [] S.items (RefusedItem r ∷ [])

    -- the lines, and its own
    among_refused : lines_among S_refused so_far ≡ lines_among S so_far ++ Refuses r ∷ []
    among_refused = ap (λ ps. put_in ps 0 so_far) places_refused
        ∙ put_in-more_refused (places_of S) 0 so_far placed (omega (arith, all_settled)) sees.within

    -- they are within
    within_refused : RefusesWithin S_refused so_far
    within_refused = subst (AllPlacedWithin 0 so_far) (sym places_refused)
        (all_behind (λ (p : Placed). p.place ≤ 0 + length so_far) (places_of S) placed sees.within
        (omega (arith, all_settled)))

    -- the mark before it
    mark_low : mark_after 0 S.items ≤ r.at
    mark_low = let low : mark_after 0 S.items ≤ floor = sees.mark in let ordered : floor ≤ r.at =
        (refused_parts may).no_fall in
        omega arith

    -- the text of the refused line leaves the state as it is
    pub sees_refused : SeesWith (ls ++ refused_text r ∷ []) S_refused r.at z so_far
    sees_refused = sees_item (RefusedItem r) J (refused_instance S r) (session_jobs sees.valid) may.room
        (record { no_fall = mark_low; known = (refused_parts may).known; line = (refused_parts may).line }, tt)
        (Refuses r) refl sees.steps so_far refl among_refused within_refused z
        (leads_later_mark J.rules floor r.at (refused_parts may).no_fall sees.steps (opening J.jobs) z sees.leads)
        sees.released
        (let low : z.clock ≤ floor = sees.clock in let ordered : floor ≤ r.at = (refused_parts may).no_fall in
        omega arith)

  -- ---- an early completion

  module _ (f : EarlyFinish) (xs : List Step) (y : State) (room : HasRoom S) (may : MayFinish S floor f)
      (idles : Idles J.rules z xs y) (now : y.clock ≡ f.at) (barrier : IsBarrier J.rules f.at y) where
    -- the session with the finish
    abbrev S_done : Session
    S_done = with_item S (FinishItem f)

    -- the jobs, with the finish
    abbrev J_done : Instance
    J_done = with_finishes J (f.finish ∷ [])

    -- the completion
    abbrev done : Event
    done = Complete f.at f.finish.number

    -- the mark before it
    mark_before : mark_after 0 S.items ≤ f.at
    mark_before = let low : mark_after 0 S.items ≤ floor = sees.mark in let ordered : floor ≤ f.at = may.no_fall in
        omega arith

    -- the session so far is read up to its tick
    reads_f : Reads S f.at
    reads_f = reads_later S (mark_after 0 S.items) f.at (reads_mark S sees.valid) mark_before

    -- the job that finishes
    it : Finishes S f
    it = finishing_job S f may.right

    -- its number
    number_is : it.job.number ≡ f.finish.number
    number_is = sym (ap (λ (g : Finish). g.number) it.is)

    -- the steps so far lead there
    leads_y : Leads J.rules f.at (opening J.jobs) (sees.steps ++ xs) y
    leads_y = leads_append J.rules f.at sees.steps xs (opening J.jobs) z y
        (leads_later_mark J.rules floor f.at may.no_fall sees.steps (opening J.jobs) z sees.leads)
        (leads_later_mark J.rules y.clock f.at (omega (arith, now)) xs z y (idles_leads J.rules xs z y idles))

    -- the silent ones come to the barrier
    abbrev waits_y : WaitsUntil J.rules f.at z y
    waits_y = record {
      steps = xs;
      settles = idles_settles J.rules f.at xs z y idles (omega (arith, now));
      barrier = barrier;
    }

    -- they are the settled ones
    settled_are : settled_steps J f.at ≡ sees.steps ++ xs
    settled_are = settled_there f.at y may.no_fall waits_y

    -- and the state there is the settled one
    state_is : settled_state J f.at ≡ y
    state_is = state_there f.at y may.no_fall waits_y

    -- the finish is due in none of them
    none_due : Each (λ x. due_finish (f.finish ∷ []) x.before ≡ None) (sees.steps ++ xs)
    none_due = subst (λ steps. Each (λ x. due_finish (f.finish ∷ []) x.before ≡ None) steps) settled_are
        (subst (λ g. Each (λ x. due_finish (g ∷ []) x.before ≡ None) (settled_steps J f.at)) (sym it.is)
        (none_due_before J (session_jobs sees.valid) f.at it.job it.runs))

    -- so they lead there with the finish as well
    leads_same : (steps : List Step) (s : State) → Each (λ x. due_finish (f.finish ∷ []) x.before ≡ None) steps
        → Leads J.rules f.at s steps y → Leads J_done.rules f.at s steps y
    leads_same [] s none leads = leads
    leads_same (x ∷ steps) s none leads =
        let same : open_step J_done.rules s ≡ open_step J.rules s =
        same_open J (session_jobs sees.valid) (f.finish ∷ []) f.at s
        (subst (λ (v : Step). due_finish (f.finish ∷ []) v.before ≡ None) leads.0 (none x (inl refl))) in (
          leads.0 ∙ ap (λ m. let v : Step = record { before = s; move = m } in v) (sym same),
          ap (λ m. waits_for_mark m && nat_le f.at s.clock) same ∙ leads.1,
          leads.2,
          subst (λ m. Leads J_done.rules f.at (after s m) steps y) (sym same)
              (leads_same steps (after s (open_step J.rules s)) (λ v member. none v (inr member)) leads.3),
        )

    -- its completion is next
    completes : open_step J_done.rules y ≡ Prints done
    completes = subst (λ (s : State). open_step J_done.rules s ≡ Prints done) state_is
        (subst (λ g. open_step (with_finishes J (g ∷ [])).rules (settled_state J f.at) ≡ Prints done) (sym it.is)
        (next_at_mark J (session_jobs sees.valid) f.at it.job it.runs ∙ ap (λ n. Prints (Complete f.at n)) number_is))

    -- some job isn't over
    runs_y : GoesOn y
    runs_y = subst GoesOn state_is (false_from_ne_true _ (λ over.
        never (sym (passes is_over it.job Running false it.runs.runs refl)
        ∙ all_each is_over (settled_state J f.at).tasks over it.job it.runs.member)))

    -- the steps with it
    abbrev steps_done : List Step
    steps_done = (sees.steps ++ xs) ++ open_at J_done.rules y ∷ []

    -- the state after it
    abbrev y_done : State
    y_done = after y (Prints done)

    -- they lead to it
    lead_done : Leads J_done.rules f.at (opening J.jobs) steps_done y_done
    lead_done = leads_append J_done.rules f.at (sees.steps ++ xs) (open_at J_done.rules y ∷ []) (opening J.jobs) y
        y_done
        (leads_same (sees.steps ++ xs) (opening J.jobs) none_due leads_y) (
          refl,
          ap (λ m. waits_for_mark m && nat_le f.at y.clock) completes,
          runs_y,
          ap (after y) completes,
        )

    -- what they print
    print_done : printed_of steps_done ≡ so_far ++ done ∷ []
    print_done = printed_append (sees.steps ++ xs) (open_at J_done.rules y ∷ [])
        ∙ ap (λ es. es ++ printed_of (open_at J_done.rules y ∷ []))
        (prints_same xs (idles_silent J.rules xs z y idles))
        ∙ ap (λ m. so_far ++ printed_of (record { before = y; move = m } ∷ [])) completes

    -- a finish has no place
    places_done : places_of S_done ≡ places_of S
    places_done = places_after-append S.rules [] S.items (FinishItem f ∷ []) ∙ append-nil (places_of S)

    -- the completion names the finish
    named_done : item_in S (Printed done) ≡ Some (FinishItem f)
    named_done = ap (λ n. item_in S (Printed (Complete f.at n))) (sym number_is) ∙ finish_is_named S f reads_f it

    -- the text of the completion comes to the state after it
    pub sees_completion : SeesWith (ls ++ completion_text f ∷ []) S_done f.at y_done (so_far ++ done ∷ [])
    sees_completion = sees_item (FinishItem f) J_done (finish_instance S f)
        (finishing_valid J (J.rules.finishes ++ f.finish ∷ []) (session_jobs sees.valid)) room
        (record { no_fall = mark_before; known = may.known; right = may.right }, tt) (Printed done) named_done
        steps_done (so_far ++ done ∷ []) print_done (among_step S_done places_done done)
        (within_step S_done places_done done) y_done lead_done
        (none_comes_after y (Prints done)
        (none_comes_passes J.rules y.clock xs z y
        (leads_passes J.rules y.clock xs z y (idles_leads J.rules xs z y idles)) sees.released)) (omega (arith, now))

-- ---- the header

-- the header comes to the opening state of no jobs
pub sees_header : (rules : Declaration) → IsRatio rules.ratio → IsDeclarable rules
    → SeesWith (header rules ∷ []) (new_session rules) 0 (opening []) []
sees_header rules ratio declared = (
  record {
    valid = valid_new;
    named = led_named (new_session rules) valid_new 0 (opening []) [] refl tt refl;
    steps = [];
    leads = refl;
    lines = refl;
    within = tt;
    released = λ t m. absurd m;
    clock = omega arith;
    mark = omega arith;
    tight = λ t marked low. absurd (omega arith);
  },
  refl,
) where
  valid_new : IsValidSession (new_session rules)
  valid_new = session_from (record {
    declared = declared;
    jobs = valid_from (record {
      ratio = ratio;
      each = tt;
      due = omega arith;
      in_order = tt;
      count = omega arith;
      total = omega arith;
      densities = tt;
    });
    count = omega arith;
    items = tt;
  })
