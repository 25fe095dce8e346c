-- The session of a run is valid, and its run is that run.
use Rattle.std.proofs.Common.{◌≡◌, ℕ, ◌+◌, ◌≤◌, inl, inr, max, List, [], ◌∷◌, ◌++◌, length, map, append_assoc, refl}
use Rattle.std.proofs.Common.{sym, ap, ◌∙◌, subst, Bool, true, false, cond, arith, append-nil, Option, Some, None}
use Rattle.std.proofs.Common.{MatchBool, count_by, filter}
use Rattle.std.proofs.lemmas.List.Sums.{sum_by-cons}
use Rattle.std.specs.List.{cons_option}
use Rattle.std.proofs.lemmas.List.Elements.{filter_map-append}
use Rattle.dover_model.specs.Common.{last_deadline, last_tick_in, most_items, Complete, End, Running, Task, Finish}
use Rattle.dover_model.specs.Common.{Instance}
use Rattle.dover_model.specs.Common.{IsValid, declared_by, having, finishing, State, opening, is_coming, is_running}
use Rattle.dover_model.specs.Common.{is_privileged, is_over, running, left, Move, Prints, Ticks, step, open_step, after}
use Rattle.dover_model.specs.Common.{Step, is_end, run, printed, printed_of, event_of, step_at, IsWholeRun, is_complete}
use Rattle.dover_model.specs.Common.{is_run, IsPath, IsMember, Each, Keeps, Item, JobItem, instance_of, admitted_jobs}
use Rattle.dover_model.specs.Common.{early_finishes, session_with, may_finish_early, IsValidSession, IsNeverFull}
use Rattle.dover_model.specs.Common.{early_of, handed_by, session_of_run}
use Rattle.dover_model.proofs.sessions.SessionParts.{early_declarable, FollowsItems, session_from}
use Rattle.dover_model.proofs.lists.Members.{found, some_same}
use Rattle.dover_model.proofs.steps.Roles.{passes, is_running_role}
use Rattle.dover_model.proofs.steps.Moves.{active_slack}
use Rattle.dover_model.proofs.steps.Kept.{open_deed, step_kept, opening_keeps}
use Rattle.dover_model.proofs.steps.Deeds.{Deed, Completed, Arrived}
use Rattle.dover_model.proofs.finishes.Meeting.{finishing_valid}
use Rattle.dover_model.proofs.runs.Ending.{later_clock, end_over, run_is_whole, few_printed}
use Rattle.dover_model.proofs.runs.ReleaseCounts.{over_not_coming, releases, run_releases}
use Rattle.dover_model.proofs.runs.RunLaws.{one_run}
use Rattle.dover_model.proofs.runs.Once.{runs_complete}
use Rattle.dover_model.proofs.lists.Tests.{never, none_is_some}
use Rattle.dover_model.proofs.steps.Shown.{early_says, Handed, coming_in, deed_in, items_of, items_cons, Comes}
use Rattle.dover_model.proofs.steps.Shown.{Finishes}
use Rattle.dover_model.proofs.finishes.EarlyEnds.{as_open, same_here, AreOf, shown_own, shown_all, path_of, opening_in}
use Rattle.dover_model.proofs.finishes.EarlyEnds.{right_there}
use Rattle.dover_model.proofs.runs.Ending.{due_by}
use Rattle.dover_model.proofs.valid.Limiting.{items_enough}
use Rattle.dover_model.proofs.valid.ValidParts.{valid_parts}

module _ (J : Instance) (valid : IsValid J) where
  -- ---- each item may stand

  -- one step more
  path_more : (xs : List Step) (s t : State) → IsPath J.rules s xs t → is_end (step J.rules t) ≡ false
      → IsPath J.rules s (xs ++ step_at J.rules t ∷ []) (after t (step J.rules t))
  path_more [] s t here on = subst (λ z. IsPath J.rules z (step_at J.rules t ∷ []) (after t (step J.rules t))) here
      (refl, on, refl)
  path_more (x ∷ xs) s t path on = (path.0, path.1, path_more xs (after s (step J.rules s)) t path.2 on)

  -- what it shows, by its deed
  deed_hands : (s : State) (item : Item) (m : Move) → Deed J.rules.ratio s Ticks m
      → handed_by (record { before = s; move = m }) ≡ Some item → Handed s m item
  deed_hands s item m (Completed r member runs) e = Finishes refl (early_says s.clock (running s) item e)
  deed_hands s item m (Arrived c member comes now first stale busy free) e =
      Comes c.job now (sym (some_same (JobItem c.job) item e))
  deed_hands s item m _ e = none_is_some e

  -- the clock of a finish is within the limits
  known_here : (s : State) → Keeps J s → (r : Task) → running s ≡ Some r
      → s.clock ≤ last_tick_in J.rules.version
  known_here s keeps r is =
      let it = found is_running s.tasks r is in
      let slack : s.clock + left r ≤ r.job.deadline = active_slack s keeps.sound r it.0
      (passes is_privileged r Running true (is_running_role r it.1) refl) in
      let due : r.job.deadline ≤ last_deadline J.jobs = due_by J valid s keeps r it.0 in
      omega (arith, slack, due, (valid_parts valid).due)

  -- End shows nothing
  end_shows : (s : State) (m : Move) → is_end m ≡ true → handed_by (record { before = s; move = m }) ≡ None
  end_shows s (Prints (End value)) e = refl
  end_shows s _ e = never e

  -- items up to one, and those behind it
  all_parted : (o : Option Item) (items more : List Item)
      → (items ++ cons_option o []) ++ more ≡ items ++ cons_option o more
  all_parted None items more = ap (λ is. is ++ more) (append-nil items)
  all_parted (Some i) items more = append_assoc items (i ∷ []) more

  module _ (three : may_finish_early J.rules.version ≡ true) where
    follows_run : (back front : List Step) (s : State) → IsPath J.rules (opening J.jobs) front s
        → IsWholeRun J.rules s back → (mark : ℕ) → mark ≤ s.clock
        → IsNeverFull (session_with (declared_by J.rules) (items_of front ++ items_of back))
        → FollowsItems (declared_by J.rules) (items_of front) mark (items_of back)
    follows_run [] front s path whole mark low never = absurd whole
    follows_run (x ∷ back) front s path whole mark low never =
        subst (λ (y : Step). NoneFull (handed_by y)
        → FollowsItems (declared_by J.rules) (items_of front) mark (cons_option (handed_by y) (items_of back)))
        (sym whole.0)
        (λ here. by_end here (is_end (step J.rules s)) refl whole.1 (λ on rest.
        follows_run back (front ++ step_at J.rules s ∷ []) (after s (step J.rules s))
        (path_more front (opening J.jobs) s path on) rest)) never where
          -- no job finds it full, with this item
          NoneFull : Option Item → Type 0
          NoneFull o =
              IsNeverFull (session_with (declared_by J.rules) (items_of front ++ cons_option o (items_of back)))

          keeps_s : Keeps J s
          keeps_s = (path_of J valid front (opening J.jobs) s (opening_keeps J) path).1

          on_clock : s.clock ≤ (after s (step J.rules s)).clock
          on_clock = later_clock s (step J.rules s)

          behind : items_of (front ++ step_at J.rules s ∷ [])
              ≡ items_of front ++ cons_option (handed_by (step_at J.rules s)) []
          behind = filter_map-append handed_by front (step_at J.rules s ∷ [])

          by_item : (o : Option Item) → handed_by (step_at J.rules s) ≡ o → NoneFull o → is_end (step J.rules s) ≡ false
              → ((m : ℕ) → m ≤ (after s (step J.rules s)).clock
              → FollowsItems (declared_by J.rules) (items_of front ++ cons_option o []) m (items_of back))
              → FollowsItems (declared_by J.rules) (items_of front) mark (cons_option o (items_of back))
          by_item None e room on more = subst (λ is. FollowsItems (declared_by J.rules) is mark (items_of back))
              (append-nil (items_of front)) (more mark (omega (arith, low, on_clock)))
          by_item (Some item) e room on more = by_kind (deed_hands s item (open_step J.rules s)
              (open_deed J valid s keeps_s J.rules)
              (ap (λ m. handed_by (record { before = s; move = m })) (sym (as_open J valid s keeps_s on)) ∙ e)) where
                by_kind : Handed s (open_step J.rules s) item
                    → FollowsItems (declared_by J.rules) (items_of front) mark (item ∷ items_of back)
                by_kind (Comes j now is) = subst
                    (λ i. NoneFull (Some i) → ((m : ℕ) → m ≤ (after s (step J.rules s)).clock
                    → FollowsItems (declared_by J.rules) (items_of front ++ i ∷ []) m (items_of back))
                    → FollowsItems (declared_by J.rules) (items_of front) mark (i ∷ items_of back)) (sym is)
                    (λ has rest. (
                      record { no_fall = omega (arith, low, now); room = has (items_of front) j (items_of back) refl },
                      rest (max mark j.release) (omega
                          (arith, low, now, on_clock)),
                    )) room more
                by_kind (Finishes complete shows) = subst
                    (λ i. ((m : ℕ) → m ≤ (after s (step J.rules s)).clock
                    → FollowsItems (declared_by J.rules) (items_of front ++ i ∷ []) m (items_of back))
                    → FollowsItems (declared_by J.rules) (items_of front) mark (i ∷ items_of back)) shows.shown
                    (λ rest. (
                      record {
                        no_fall = low;
                        known = known_here s keeps_s shows.job shows.is;
                        right = right_there J valid front s path shows.job shows.is
                            (ap is_complete (as_open J valid s keeps_s on) ∙ complete) shows.some three;
                      },
                      rest (max mark s.clock) (omega (arith, low, on_clock)),
                    )) more

          by_end : NoneFull (handed_by (step_at J.rules s)) → (b : Bool) → is_end (step J.rules s) ≡ b
              → MatchBool b (back ≡ []) (IsWholeRun J.rules (after s (step J.rules s)) back)
              → (is_end (step J.rules s) ≡ false → IsWholeRun J.rules (after s (step J.rules s)) back → (m : ℕ)
              → m ≤ (after s (step J.rules s)).clock
              → IsNeverFull (session_with (declared_by J.rules)
              (items_of (front ++ step_at J.rules s ∷ []) ++ items_of back))
              → FollowsItems (declared_by J.rules) (items_of (front ++ step_at J.rules s ∷ [])) m (items_of back))
              → FollowsItems (declared_by J.rules) (items_of front) mark
              (cons_option (handed_by (step_at J.rules s)) (items_of back))
          by_end room true last none more = subst (λ xs. FollowsItems (declared_by J.rules) (items_of front) mark
              (cons_option (handed_by (step_at J.rules s)) (items_of xs))) (sym none)
              (subst (λ o. FollowsItems (declared_by J.rules) (items_of front) mark (cons_option {X = Item} o []))
              (sym (end_shows s (step J.rules s) last)) tt)
          by_end room false on rest more = by_item (handed_by (step_at J.rules s)) refl room on (λ m high.
              subst (λ is. FollowsItems (declared_by J.rules) is m (items_of back)) behind (more on rest m high
              (subst (λ is. IsNeverFull (session_with (declared_by J.rules) is))
              (sym (ap (λ is. is ++ items_of back) behind
              ∙ all_parted (handed_by (step_at J.rules s)) (items_of front) (items_of back))) room)))

  -- ---- the whole run

  -- none of jobs that are over is to come
  none_in : (tasks : List Task) → Each (λ t. is_over t ≡ true) tasks → coming_in tasks ≡ []
  none_in [] over = refl
  none_in (t ∷ tasks) over =
      ap (λ b. map (λ (u : Task). u.job) (cond b (t ∷ filter is_coming tasks) (filter is_coming tasks)))
      (over_not_coming t (over t (inl refl))) ∙ none_in tasks (λ u m. over u (inr m))

  -- a whole run shows all jobs that are to come
  whole_in : (xs : List Step) (s : State) → Keeps J s → IsWholeRun J.rules s xs
      → admitted_jobs (items_of xs) ≡ coming_in s.tasks
  whole_in [] s kept whole = absurd whole
  whole_in (x ∷ xs) s kept whole = items_cons x xs
      ∙ ap (λ (y : Step). admitted_jobs (cons_option (handed_by y) []) ++ admitted_jobs (items_of xs)) whole.0
      ∙ by_end (is_end (step J.rules s)) refl whole.1
      (whole_in xs (after s (step J.rules s)) (step_kept J valid s kept J.rules)) where
        by_end : (b : Bool) → is_end (step J.rules s) ≡ b
            → MatchBool b (xs ≡ []) (IsWholeRun J.rules (after s (step J.rules s)) xs)
            → (IsWholeRun J.rules (after s (step J.rules s)) xs
            → admitted_jobs (items_of xs) ≡ coming_in (after s (step J.rules s)).tasks)
            → admitted_jobs (cons_option (handed_by (step_at J.rules s)) []) ++ admitted_jobs (items_of xs)
            ≡ coming_in s.tasks
        by_end true last none more =
            ap (λ o. admitted_jobs (cons_option o []) ++ admitted_jobs (items_of xs)) (end_shows s
            (step J.rules s) last)
            ∙ ap (λ ys. admitted_jobs (items_of ys)) none
            ∙ sym (none_in s.tasks (end_over J valid s kept J.rules last).1)
        by_end false on rest more =
            ap (λ js. admitted_jobs (cons_option (handed_by (step_at J.rules s)) []) ++ js) (more rest)
            ∙ ap (λ m. admitted_jobs (cons_option (handed_by (record { before = s; move = m })) [])
            ++ coming_in (after s m).tasks) (as_open J valid s kept on)
            ∙ deed_in J.rules.ratio s kept.sound (open_step J.rules s) (open_deed J valid s kept J.rules)

  -- the session's jobs are the run's
  pub run_jobs : admitted_jobs (items_of (run J)) ≡ J.jobs
  run_jobs = whole_in (run J) (opening J.jobs) (opening_keeps J) (run_is_whole J valid) ∙ opening_in J valid 0 J.jobs

  -- the steps of a whole run are of the run
  pub whole_of : (xs : List Step) (s : State) → Keeps J s → IsWholeRun J.rules s xs → AreOf J valid xs
  whole_of [] s kept whole = absurd whole
  whole_of (x ∷ xs) s kept whole = by_end (is_end (step J.rules s)) whole.1
      (whole_of xs (after s (step J.rules s)) (step_kept J valid s kept J.rules)) where
        here : (y : Step) → y ≡ x → Keeps J y.before × (y ≡ step_at J.rules y.before)
        here y e = subst (λ (z : Step). Keeps J z.before × (z ≡ step_at J.rules z.before)) (sym (e
            ∙ whole.0)) (kept, refl)

        by_end : (b : Bool) → MatchBool b (xs ≡ []) (IsWholeRun J.rules (after s (step J.rules s)) xs)
            → (IsWholeRun J.rules (after s (step J.rules s)) xs → AreOf J valid xs) → AreOf J valid (x ∷ xs)
        by_end b onward more y (inl e) = here y e
        by_end true none more y (inr member) = absurd (subst (IsMember y) none member)
        by_end false onward more y (inr member) = more onward y member

  -- with the session's finishes it is the same run
  abbrev all_shown : List Finish
  all_shown = early_finishes (items_of (run J))

  same_run : (xs : List Step) (s : State) → IsWholeRun J.rules s xs → Each (λ x. IsMember x (run J)) xs
      → IsWholeRun (having J.rules all_shown) s xs
  same_run [] s whole members = whole
  same_run (x ∷ xs) s whole members = (
    whole.0 ∙ ap (λ m. let y : Step = record { before = s; move = m } in y) (sym same),
    subst (λ m. MatchBool (is_end m) (xs ≡ []) (IsWholeRun (having J.rules all_shown) (after s m) xs)) (sym same)
        (by_end (is_end (step J.rules s)) whole.1
        (λ rest. same_run xs (after s (step J.rules s)) rest (λ y m. members y (inr m)))),
  ) where
    same : step (having J.rules all_shown) s ≡ step J.rules s
    same = same_here J valid all_shown
        (shown_own J valid (run J) (whole_of (run J) (opening J.jobs) (opening_keeps J) (run_is_whole J valid))) s
        (λ r is complete some. shown_all J valid (run J) s (subst (λ (y : Step). IsMember y (run J)) whole.0 (members x
        (inl refl)))
        r is complete some)

    by_end : (b : Bool) → MatchBool b (xs ≡ []) (IsWholeRun J.rules (after s (step J.rules s)) xs)
        → (IsWholeRun J.rules (after s (step J.rules s)) xs
        → IsWholeRun (having J.rules all_shown) (after s (step J.rules s)) xs)
        → MatchBool b (xs ≡ []) (IsWholeRun (having J.rules all_shown) (after s (step J.rules s)) xs)
    by_end true none more = none
    by_end false rest more = more rest

  valid_run : IsValid (instance_of (session_of_run J))
  valid_run = subst (λ js. IsValid (record { rules = having J.rules all_shown; jobs = js })) (sym run_jobs)
      (finishing_valid J all_shown valid)

  pub same_printed : printed (instance_of (session_of_run J)) ≡ printed J
  same_printed = ap (λ js. printed (record { rules = having J.rules all_shown; jobs = js })) run_jobs
      ∙ ap printed_of (one_run (having J.rules all_shown) (opening J.jobs) (run (finishing J all_shown)) (run J)
      (run_is_whole (finishing J all_shown) (finishing_valid J all_shown valid))
      (same_run (run J) (opening J.jobs) (run_is_whole J valid) (λ x member. member)))

  -- there are at most three items for each job
  shown_few : (xs : List Step) → length (items_of xs) + count_by (λ x. is_run x.move) xs ≤ length (printed_of xs)
  shown_few [] = omega arith
  shown_few (x ∷ xs) = omega (
    arith,
    sum_by-cons (λ (y : Step). cond (is_run y.move) 1 0) x xs,
    shown_few xs,
    by_move x.move (running x.before),
  ) where
    early_one : (clock : ℕ) (o : Option Task)
        → length (cons_option (early_of clock o) (items_of xs)) ≤ length (items_of xs) + 1
    early_one clock o = one (early_of clock o) where
      one : (i : Option Item) → length (cons_option i (items_of xs)) ≤ length (items_of xs) + 1
      one None = omega arith
      one (Some i) = omega arith

    by_move : (m : Move) (o : Option Task)
        → length (cons_option (handed_by (record { before = x.before; move = m })) (items_of xs)) + cond (is_run m) 1 0
        + length (printed_of xs)
        ≤ length (items_of xs) + length (cons_option (event_of m) (printed_of xs))
    by_move (Prints (Complete at n)) o = omega (arith, early_one x.before.clock (running x.before))
    by_move _ o = omega arith

  shown_most : (xs : List Step)
      → length (items_of xs) ≤ length (releases (printed_of xs)) + count_by (λ x. is_complete x.move) xs
  shown_most [] = omega arith
  shown_most (x ∷ xs) = omega (
    arith,
    sum_by-cons (λ (y : Step). cond (is_complete y.move) 1 0) x xs,
    shown_most xs,
    by_move x.move,
  ) where
    one : (i : Option Item) → length (cons_option i (items_of xs)) ≤ length (items_of xs) + 1
    one None = omega arith
    one (Some i) = omega arith

    by_move : (m : Move)
        → length (cons_option (handed_by (record { before = x.before; move = m })) (items_of xs))
        + length (releases (printed_of xs))
        ≤ length (items_of xs) + length (releases (cons_option (event_of m) (printed_of xs))) + cond (is_complete m) 1 0
    by_move (Prints (Complete at n)) = omega (arith, one (early_of x.before.clock (running x.before)))
    by_move _ = omega arith

  -- the session of a run is valid, where no job finds it full
  pub run_session_valid : may_finish_early J.rules.version ≡ true → IsNeverFull (session_of_run J)
      → IsValidSession (session_of_run J)
  run_session_valid three never = session_from (record {
    declared = early_declarable (declared_by J.rules) three;
    jobs = valid_run;
    count = few;
    items = follows_run three (run J) [] (opening J.jobs) refl (run_is_whole J valid) 0 (omega arith) never;
  }) where
    few : length (session_of_run J).items ≤ most_items J.rules.version
    few = omega (
      arith,
      (valid_parts valid).count,
      items_enough J.rules.version,
      shown_few (run J),
      shown_most (run J),
      few_printed J valid,
      run_releases J valid,
      runs_complete J valid,
    )
