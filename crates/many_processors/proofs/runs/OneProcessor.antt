-- With one processor a run prints what it prints on the machine of one processor.
use Rattle.std.proofs.Common.{◌≡◌, ℕ, suc, zero, ◌+◌, ◌≤◌, ◌<◌, ◌⊎◌, inl, inr, List, [], ◌∷◌, map, refl}
use Rattle.std.proofs.Common.{sym}
use Rattle.std.proofs.Common.{ap, ◌∙◌, subst, Bool, true, false, cond, arith, eqb, eqb-true, eq-eqb, ◌&&◌, ◌||◌, ◌==◌}
use Rattle.std.proofs.Common.{Option, Some, None, find, filter, nat_lt}
use Rattle.std.specs.Prelude.{filter_map, fold}
use Rattle.std.specs.Bool.{then_some}
use Rattle.std.specs.List.{list_any, list_all, cons_option}
use Rattle.std.proofs.lemmas.Bool.{and_parts}
use Rattle.dover_model.specs.declared.events.Event.{Event}
use Rattle.dover_model.specs.declared.events.Event.TheVariants.{Run, Preempt, Take, Complete, Abandon, End, Release}
use Rattle.dover_model.specs.declared.events.Role.{Role}
use Rattle.dover_model.specs.declared.events.Role.TheVariants.{Coming, Fresh, Waiting, Held, Running, Done, Gone}
use Rattle.dover_model.specs.declared.events.Task.{Task}
use Rattle.dover_model.specs.Finishes.{Finish, has_come_to, is_finish_of, is_due}
use Rattle.dover_model.specs.Fraction.{Fraction}
use Rattle.dover_model.specs.Step as single
use Rattle.dover_model.specs.Step.{◌or_else◌ as ◌otherwise◌}
use Rattle.dover_model.specs.Run as one_run
use Rattle.dover_model.specs.Common.{Rules, Instance, IsValid, View, is_over, is_done, is_running, left}
use Rattle.dover_model.specs.Common.{is_privileged, is_ready_behind, is_open_job, value_sum, IsMember, Each, with_role}
use Rattle.dover_model.specs.Common.{displaced, to_come, is_complete, running, first}
use Rattle.dover_model.proofs.lists.Tests.{never, none_is_some}
use Rattle.dover_model.proofs.lists.Members.{map_same, map_map, on_map, found, all_each}
use Rattle.dover_model.proofs.lists.Members.{map_member}
use Rattle.dover_model.proofs.steps.Deeds.{Deed, Completed, Resumed, Started, Began, Preempted, Stayed, Arrived}
use Rattle.dover_model.proofs.steps.Deeds.{Taken, Abandoned, Rested, deed_of}
use Rattle.dover_model.proofs.steps.Kept.{come_coming}
use Rattle.dover_model.proofs.steps.Roles.{passes, by_role, is_privileged_role}
use Rattle.many_processors.specs.State.{Placed, State, tasks_of, seen_by, seen_from, opening, unplaced}
use Rattle.many_processors.specs.Step.{Move, Prints, Waits, Ticks, on, Seen, seen, all_seen, step, after}
use Rattle.many_processors.specs.Step.{◌or_else◌, ◌or_try◌, first_some, for_one, placed, free_one, completion}
use Rattle.many_processors.specs.Step.{resumption, dispatch, finishing, is_preempted, runs_longer, deciding}
use Rattle.many_processors.specs.Step.{decision, urgent_or}
use Rattle.many_processors.specs.Step.{placed_after, in_role, placed_on, is_own_of, ticked, with_tick, pressed_after}
use Rattle.many_processors.specs.Run as many
use Rattle.many_processors.specs.Run.{run_from, run, enough, is_end, HasEnd, placed_event_of, printed_on}
use Rattle.many_processors.specs.Sound.{Keeps}
use Rattle.many_processors.proofs.steps.Seeing.{each_sees, whole}
use Rattle.many_processors.proofs.steps.Cases as cases
use Rattle.many_processors.proofs.steps.Cases.{StepCase, step_case, is_finished, then_none}
use Rattle.many_processors.proofs.steps.Placing.{off_seen, own_seen, own_running, all_left, seen_of}
use Rattle.many_processors.proofs.steps.Stepping.{real, same_job, event_task, Gives, role_stays}
use Rattle.many_processors.proofs.steps.Turns.{all_quiet, running_job, step_kept, opening_kept, of_tasks}
use Rattle.many_processors.proofs.runs.EachStep.{no_completion}
use Rattle.many_processors.proofs.runs.RunEnds.{run_ends}
use Rattle.many_processors.proofs.runs.Weighing.{goes_on}

-- ---- the step

-- a move of one processor, or another move of it
or_on : (q : Seen) (o : Option single.Move) (m : single.Move)
    → (placed q o or_else on q.processor m) ≡ on q.processor (o otherwise m)
or_on q None m = refl
or_on q (Some n) m = refl

-- no job has come to a finish where none runs
none_is_due : (finishes : List Finish) → find (is_finish_of None) finishes ≡ None
none_is_due [] = refl
none_is_due (f ∷ finishes) = none_is_due finishes

-- where this finish is due, the job that runs is done
abbrev done_at : ℕ → Option Task → Option Finish → Option Move
done_at clock ro None = None
done_at clock None (Some f) = None
done_at clock (Some r) (Some f) = Some (Prints 0 (Complete clock r.number))

module _ (k : Fraction) (clock : ℕ) (ro fh fw fr co ms : Option Task) (hr pr pv : ℕ) (dense : Bool) where
  -- what the processor sees
  abbrev v : View
  v = record {
    clock = clock;
    running = ro;
    first_held = fh;
    first_waiting = fw;
    fresh = fr;
    coming = co;
    must_start = ms;
    held_room = hr;
    privileged_room = pr;
    privileged_value = pv;
    yields = dense;
  }

  abbrev q : Seen
  q = record { processor = 0; view = v }

-- case by case it is that of one processor
first_case : (clock : ℕ) (ro fh fw fr co ms : Option Task) (hr pr pv : ℕ) (dense : Bool) (k : Fraction)
    → first_some completion (q k clock ro fh fw fr co ms hr pr pv dense ∷ [])
    ≡ placed (q k clock ro fh fw fr co ms hr pr pv dense)
    (single.completion (v k clock ro fh fw fr co ms hr pr pv dense) ro)
first_case clock None fh fw fr co ms hr pr pv dense k = refl
first_case clock (Some r) fh fw fr co ms hr pr pv dense k = by_left (left r == 0) where
  by_left : (b : Bool) → (then_some b (Prints 0 (Complete clock r.number)) or_try None)
      ≡ placed (q k clock (Some r) fh fw fr co ms hr pr pv dense)
      (then_some b (single.Prints (Complete clock r.number)))
  by_left true = refl
  by_left false = refl

dispatch_case : (clock : ℕ) (ro fh fw fr co ms : Option Task) (hr pr pv : ℕ) (dense : Bool) (k : Fraction) (rest : Move)
    → (first_some resumption (q k clock ro fh fw fr co ms hr pr pv dense ∷ [])
    or_else for_one dispatch (free_one (q k clock ro fh fw fr co ms hr pr pv dense ∷ [])) or_else rest)
    ≡ (placed (q k clock ro fh fw fr co ms hr pr pv dense)
    (single.dispatch (v k clock ro fh fw fr co ms hr pr pv dense) ro fh fw) or_else rest)
dispatch_case clock (Some r) None fw fr co ms hr pr pv dense k rest = refl
dispatch_case clock (Some r) (Some p) fw fr co ms hr pr pv dense k rest = refl
dispatch_case clock None (Some p) fw fr co ms hr pr pv dense k rest = refl
dispatch_case clock None None (Some o) fr co ms hr pr pv dense k rest = refl
dispatch_case clock None None None fr co ms hr pr pv dense k rest = refl

decision_case : (clock : ℕ) (ro fh fw fr co ms : Option Task) (hr pr pv : ℕ) (dense : Bool) (k : Fraction)
    → for_one decision (deciding (q k clock ro fh fw fr co ms hr pr pv dense ∷ []))
    ≡ placed (q k clock ro fh fw fr co ms hr pr pv dense)
    (single.decision (v k clock ro fh fw fr co ms hr pr pv dense) ro fr)
decision_case clock None fh fw fr co ms hr pr pv dense k = refl
decision_case clock (Some r) fh fw fr co ms hr pr pv dense k =
    ap (for_one decision) (by_test (is_preempted (q k clock (Some r) fh fw fr co ms hr pr pv dense))) where
      by_test : (b : Bool) → (first runs_longer (cond b (q k clock (Some r) fh fw fr co ms hr pr pv dense ∷ []) [])
          or_try Some (q k clock (Some r) fh fw fr co ms hr pr pv dense))
          ≡ Some (q k clock (Some r) fh fw fr co ms hr pr pv dense)
      by_test true = refl
      by_test false = refl

finish_case : (clock : ℕ) (ro fh fw fr co ms : Option Task) (hr pr pv : ℕ) (dense : Bool) (k : Fraction)
    (finishes : List Finish)
    → first_some (finishing (q k clock ro fh fw fr co ms hr pr pv dense ∷ [])) finishes
    ≡ done_at clock ro (find (is_finish_of ro) finishes)
finish_case clock ro fh fw fr co ms hr pr pv dense k [] = refl
finish_case clock None fh fw fr co ms hr pr pv dense k (f ∷ finishes) =
    finish_case clock None fh fw fr co ms hr pr pv dense k finishes
finish_case clock (Some r) fh fw fr co ms hr pr pv dense k (f ∷ finishes) =
    by_test (has_come_to r f) (finish_case clock (Some r) fh fw fr co ms hr pr pv dense k finishes) where
      by_test : (b : Bool) → first_some (finishing (q k clock (Some r) fh fw fr co ms hr pr pv dense ∷ [])) finishes
          ≡ done_at clock (Some r) (find (is_finish_of (Some r)) finishes)
          → ((then_some b (Prints 0 (Complete clock r.number)) or_try None)
          or_try first_some (finishing (q k clock (Some r) fh fw fr co ms hr pr pv dense ∷ [])) finishes)
          ≡ done_at clock (Some r) (cond b (Some f) (find (is_finish_of (Some r)) finishes))
      by_test true rest = refl
      by_test false rest = rest

-- so the first that applies is that of one processor
urgent_one : (rules : Rules) (w : View) (other : single.Move)
    → urgent_or rules (record { processor = 0; view = w } ∷ []) (on 0 other)
    ≡ on 0 (single.finish_or w.clock (find (is_finish_of w.running) rules.finishes)
    (single.urgent_or rules.ratio w other))
urgent_one rules w other = pieces ∙ by_due w.running (find (is_finish_of w.running) rules.finishes) refl refl where
  s : Seen
  s = record { processor = 0; view = w }

  c : Option single.Move
  c = single.completion w w.running

  d : Option single.Move
  d = single.dispatch w w.running w.first_held w.first_waiting

  e : Option single.Move
  e = single.decision w w.running w.fresh

  a : Option single.Move
  a = single.arrival w w.coming

  l : Option single.Move
  l = single.alarm rules.ratio w w.running w.must_start

  due : Option Move
  due = done_at w.clock w.running (find (is_finish_of w.running) rules.finishes)

  behind : Move
  behind = placed s e or_else placed s a or_else placed s l or_else on 0 other

  pieces : urgent_or rules (s ∷ []) (on 0 other) ≡ (placed s c or_else placed s d or_else due or_else behind)
  pieces =
      ap (λ o. o or_else first_some resumption (s ∷ []) or_else for_one dispatch (free_one (s ∷ []))
      or_else first_some (finishing (s ∷ [])) rules.finishes or_else for_one decision (deciding (s ∷ []))
      or_else placed s a or_else placed s l or_else on 0 other)
      (first_case w.clock w.running w.first_held w.first_waiting w.fresh w.coming w.must_start w.held_room
      w.privileged_room w.privileged_value w.yields rules.ratio)
      ∙ ap (λ m. placed s c or_else m)
      (dispatch_case w.clock w.running w.first_held w.first_waiting w.fresh w.coming w.must_start w.held_room
      w.privileged_room w.privileged_value w.yields rules.ratio
      (first_some (finishing (s ∷ [])) rules.finishes or_else for_one decision (deciding (s ∷ []))
      or_else placed s a or_else placed s l or_else on 0 other)
      ∙ ap (λ m. placed s d or_else m)
      (ap (λ o. o or_else for_one decision (deciding (s ∷ [])) or_else placed s a or_else placed s l or_else on 0 other)
      (finish_case w.clock w.running w.first_held w.first_waiting w.fresh w.coming w.must_start w.held_room
      w.privileged_room w.privileged_value w.yields rules.ratio rules.finishes)
      ∙ ap (λ m. due or_else m)
      (ap (λ o. o or_else placed s a or_else placed s l or_else on 0 other)
      (decision_case w.clock w.running w.first_held w.first_waiting w.fresh w.coming w.must_start w.held_room
      w.privileged_room w.privileged_value w.yields rules.ratio))))

  lifted : (placed s c or_else placed s d or_else behind) ≡ on 0 (single.urgent_or rules.ratio w other)
  lifted = ap (λ m. placed s c or_else m) (ap (λ m. placed s d or_else m)
      (ap (λ m. placed s e or_else m) (ap (λ m. placed s a or_else m) (or_on s l other) ∙ or_on s a (l otherwise other))
      ∙ or_on s e (a otherwise l otherwise other))
      ∙ or_on s d (e otherwise a otherwise l otherwise other))
      ∙ or_on s c (d otherwise e otherwise a otherwise l otherwise other)

  by_due : (ro : Option Task) (o : Option Finish) → w.running ≡ ro → find (is_finish_of w.running) rules.finishes ≡ o
      → (placed s c or_else placed s d or_else done_at w.clock ro o or_else behind)
      ≡ on 0 (single.finish_or w.clock o (single.urgent_or rules.ratio w other))
  by_due ro None runs is = lifted
  by_due None (Some f) runs is = none_is_some (sym (none_is_due rules.finishes)
      ∙ sym (ap (λ o. find (is_finish_of o) rules.finishes) runs) ∙ is)
  by_due (Some r) (Some f) runs is =
      ap (λ o. placed s (single.completion w o) or_else placed s (single.dispatch w o w.first_held w.first_waiting)
      or_else done_at w.clock (Some r) (Some f) or_else behind) runs
      ∙ by_left (left r == 0)
      ∙ ap (λ n. Prints 0 (Complete w.clock n)) (sym same) where
        come : has_come_to r f ≡ true
        come = (found (is_finish_of (Some r)) rules.finishes f
            (sym (ap (λ o. find (is_finish_of o) rules.finishes) runs) ∙ is)).1

        same : f.number ≡ r.number
        same = eqb-true _ _ (and_parts (f.number == r.number) (f.had == r.had)
            (and_parts ((f.number == r.number) && (f.had == r.had)) (nat_lt 0 r.had) come).0).0

        by_left : (b : Bool) → (placed s (then_some b (single.Prints (Complete w.clock r.number)))
            or_else done_at w.clock (Some r) (Some f) or_else behind) ≡ Prints 0 (Complete w.clock r.number)
        by_left true = refl
        by_left false = refl

-- ---- the state

module _ (J : Instance) (valid : IsValid J) (s : State) (keeps : Keeps 1 J s) where
  one_most : (n : ℕ) → n < 1 → n ≡ 0
  one_most n low = omega (arith, low)

  -- each job on a processor is on this one
  on_zero : Each (λ p. is_privileged p.task ≡ true → p.owner ≡ 0) s.jobs
  on_zero p member is_on = one_most p.owner (keeps.placed.owners p member is_on)

  seen_all : Each (λ p. seen_by 0 p ≡ p.task) s.jobs
  seen_all p member = by_test (is_privileged p.task) refl where
    by_test : (b : Bool) → is_privileged p.task ≡ b → seen_by 0 p ≡ p.task
    by_test true is_on = own_seen 0 p (on_zero p member is_on)
    by_test false off = off_seen 0 p off

  -- the processor sees all
  seen_whole : seen_from 0 s ≡ whole s
  seen_whole = ap (λ ts. record { clock = s.clock; tasks = ts; pressed = s.pressed })
      (map_same (seen_by 0) (λ (p : Placed). p.task) s.jobs seen_all)

  -- the step of the state is that of one processor
  step_one : step 1 J.rules s ≡ on 0 (single.step J.rules (whole s))
  step_one =
      ap (λ m. urgent_or J.rules (seen J.rules.version s 0 ∷ []) m) (by_end (list_all is_over (tasks_of s.jobs)))
      ∙ ap (λ t. urgent_or J.rules (record { processor = 0; view = single.view J.rules.version t } ∷ [])
      (on 0 (single.ending (whole s) otherwise single.Ticks))) seen_whole
      ∙ urgent_one J.rules (single.view J.rules.version (whole s))
      (single.ending (whole s) otherwise single.Ticks) where
        by_end : (b : Bool)
            → (then_some b (Prints 0 (End (value_sum (filter is_done (tasks_of s.jobs))))) or_else Ticks)
            ≡ on 0 (then_some b (single.Prints (End (value_sum (filter is_done (tasks_of s.jobs)))))
            otherwise single.Ticks)
        by_end true = refl
        by_end false = refl

  -- ---- what a step leaves

  -- of one job an event leaves what it leaves on one processor
  event_same : (e : Event) (p : Placed) → (is_privileged p.task ≡ true → p.owner ≡ 0)
      → (placed_after 0 e p).task ≡ with_role p.task (single.role_after e p.task.number p.task.role)
  event_same (Release n job) p own = by_test (eqb p.task.number n) where
    by_test : (b : Bool) → (cond b (in_role p Fresh) p).task ≡ with_role p.task (cond b Fresh p.task.role)
    by_test true = refl
    by_test false = refl
  event_same (Run at n) p own = by_test (eqb p.task.number n) where
    by_test : (b : Bool) → (cond b (placed_on 0 p) p).task ≡ with_role p.task (cond b Running p.task.role)
    by_test true = refl
    by_test false = refl
  event_same (Preempt at r n) p own = by_test (eqb p.task.number n) (eqb p.task.number r) where
    by_test : (b c : Bool) → (cond b (placed_on 0 p) (cond c (in_role p Held) p)).task
        ≡ with_role p.task (cond b Running (cond c Held p.task.role))
    by_test true c = refl
    by_test false true = refl
    by_test false false = refl
  event_same (Take at r n) p own = by_test (eqb p.task.number n) (is_own_of 0 p) refl where
    active : (t : Task) → is_privileged t ≡ true → displaced t.role ≡ Waiting
    active t is_on = elim (is_privileged_role t is_on) [ inl e ↦ ap displaced e | inr e ↦ ap displaced e ]

    resting : (t : Task) → is_privileged t ≡ false → displaced t.role ≡ t.role
    resting t off = each t.role off where
      each : (role : Role) → is_privileged (with_role t role) ≡ false → displaced role ≡ role
      each Held h = never (sym h)
      each Running h = never (sym h)
      each Coming h = refl
      each Fresh h = refl
      each Waiting h = refl
      each Done h = refl
      each Gone h = refl

    off_here : (b : Bool) → is_privileged p.task ≡ b → is_own_of 0 p ≡ false → is_privileged p.task ≡ false
    off_here false e not_own = e
    off_here true e not_own = never (sym not_own
        ∙ ap (λ b. b && p.owner == 0) e ∙ eq-eqb p.owner 0 (own e))

    by_test : (b c : Bool) → is_own_of 0 p ≡ c → (cond b (placed_on 0 p) (cond c (in_role p Waiting) p)).task
        ≡ with_role p.task (cond b Running (displaced p.task.role))
    by_test true c e = refl
    by_test false true e = ap (with_role p.task)
        (sym (active p.task (and_parts (is_privileged p.task) (p.owner == 0) e).0))
    by_test false false e = ap (with_role p.task)
        (sym (resting p.task (off_here (is_privileged p.task) refl e)))
  event_same (Complete at n) p own = by_test (eqb p.task.number n) where
    by_test : (b : Bool) → (cond b (in_role p Done) p).task ≡ with_role p.task (cond b Done p.task.role)
    by_test true = refl
    by_test false = refl
  event_same (Abandon at n) p own = by_test (eqb p.task.number n) where
    by_test : (b : Bool) → (cond b (in_role p Gone) p).task ≡ with_role p.task (cond b Gone p.task.role)
    by_test true = refl
    by_test false = refl
  event_same (End value) p own = refl

  abbrev moved : Event → List Task
  moved e = map (λ t. with_role t (single.role_after e t.number t.role)) (tasks_of s.jobs)

  tasks_same : (e : Event) → tasks_of (map (placed_after 0 e) s.jobs) ≡ moved e
  tasks_same e = map_map (λ (p : Placed). p.task) (placed_after 0 e) s.jobs
      ∙ map_same (λ p. (placed_after 0 e p).task)
      (λ p. with_role p.task (single.role_after e p.task.number p.task.role)) s.jobs
      (λ p member. event_same e p (on_zero p member))
      ∙ sym (map_map (λ t. with_role t (single.role_after e t.number t.role)) (λ (p : Placed). p.task) s.jobs)

  -- no job is fresh, and one that runs is done by the event
  record IsLastOf (e : Event) : Type 0 where
    stale : Each (λ t. t.role ≡ Fresh → ⊥) (moved e)
    free : Each (λ t. t.role ≡ Running → ⊥) (moved e)

  any_same : (f g : Task → Bool) (tasks : List Task) → Each (λ t. f t ≡ g t) tasks → list_any f tasks ≡ list_any g tasks
  any_same f g [] same = refl
  any_same f g (t ∷ tasks) same = ap (λ b. b || list_any f tasks) (same t (inl refl))
      ∙ ap (λ b. g t || b) (any_same f g tasks (λ u m. same u (inr m)))

  behind_is_open : (t : Task) → (t.role ≡ Fresh → ⊥) → (t.role ≡ Running → ⊥) → is_ready_behind t ≡ is_open_job t
  behind_is_open t stale free = by_role (λ u role. (role ≡ Fresh → ⊥) → (role ≡ Running → ⊥)
      → is_ready_behind u ≡ is_open_job u) t each stale free where
        each : (role : Role) → (role ≡ Fresh → ⊥) → (role ≡ Running → ⊥)
            → is_ready_behind (with_role t role) ≡ is_open_job (with_role t role)
        each Fresh f r = absurd (f refl)
        each Running f r = absurd (r refl)
        each Coming f r = refl
        each Waiting f r = refl
        each Held f r = refl
        each Done f r = refl
        each Gone f r = refl

  pressed_same : (e : Event) → (is_complete (single.Prints e) ≡ true → IsLastOf e)
      → pressed_after e s.pressed (moved e) ≡ single.pressed_after e s.pressed (moved e)
  pressed_same (Release n job) last = refl
  pressed_same (Run at n) last = refl
  pressed_same (Preempt at r n) last = refl
  pressed_same (Take at r n) last = refl
  pressed_same (Complete at n) last = ap (λ b. s.pressed && b)
      (any_same is_ready_behind is_open_job (moved (Complete at n))
      (λ t member. behind_is_open t ((last refl).stale t member) ((last refl).free t member)))
  pressed_same (Abandon at n) last = refl
  pressed_same (End value) last = refl

  -- the state after a move is that of one processor
  after_one : (m : single.Move) → ((e : Event) → m ≡ single.Prints e → is_complete m ≡ true → IsLastOf e)
      → whole (after s (on 0 m)) ≡ single.after (whole s) m
  after_one (single.Prints e) last =
      ap (λ ts. record { clock = s.clock; tasks = ts; pressed = pressed_after e s.pressed ts }) (tasks_same e)
      ∙ ap (λ b. record { clock = s.clock; tasks = moved e; pressed = b }) (pressed_same e (last e refl))
  after_one (single.Waits n) last = ap (λ ts. record { clock = s.clock; tasks = ts; pressed = s.pressed })
      (map_map (λ (p : Placed). p.task) (λ p. cond (eqb p.task.number n) (in_role p Waiting) p) s.jobs
      ∙ map_same (λ p. (cond (eqb p.task.number n) (in_role p Waiting) p).task)
      (λ p. with_role p.task (cond (eqb p.task.number n) Waiting p.task.role)) s.jobs
      (λ p member. by_test p (eqb p.task.number n))
      ∙ sym (map_map (λ t. with_role t (cond (eqb t.number n) Waiting t.role)) (λ (p : Placed). p.task) s.jobs)) where
        by_test : (p : Placed) (b : Bool) → (cond b (in_role p Waiting) p).task
            ≡ with_role p.task (cond b Waiting p.task.role)
        by_test p true = refl
        by_test p false = refl
  after_one single.Ticks last = ap (λ ts. record { clock = s.clock + 1; tasks = ts; pressed = s.pressed })
      (map_map (λ (p : Placed). p.task) ticked s.jobs
      ∙ map_same (λ p. (ticked p).task) (λ p. single.ticked p.task) s.jobs
      (λ p member. by_test p (is_running p.task))
      ∙ sym (map_map single.ticked (λ (p : Placed). p.task) s.jobs)) where
        by_test : (p : Placed) (b : Bool) → (cond b (record { task = with_tick p.task; owner = p.owner }) p).task
            ≡ record {
              number = p.task.number;
              job = p.task.job;
              role = p.task.role;
              had = cond b (p.task.had
                  + 1) p.task.had;
            }
        by_test p true = refl
        by_test p false = refl

-- ---- while a job is fresh, cases 1 to 3 don't apply

-- a job that runs goes on, and where none does none is behind
record IsCalm (finishes : List Finish) (s : State) : Type 0 where
  goes : Each (λ p. p.task.role ≡ Running → is_finished finishes p.task ≡ false) s.jobs
  rests : Each (λ p. p.task.role ≡ Running → ⊥) s.jobs → Each (λ p. is_ready_behind p.task ≡ true → ⊥) s.jobs

abbrev FreshIsCalm : List Finish → State → Type 0
FreshIsCalm finishes s = Each (λ p. p.task.role ≡ Fresh → IsCalm finishes s) s.jobs

-- the event is a release
abbrev is_release : Event → Bool
is_release (Release n job) = true
is_release _ = false

-- no event gives Fresh but a release
gives_fresh : (e : Event) (t : Task) → is_release e ≡ false → Gives e t Fresh → ⊥
gives_fresh (Release n job) t calm gives = never (sym calm)
gives_fresh (Run at n) t calm gives = let f : Fresh ≡ Running = gives.1 in cc
gives_fresh (Preempt at r n) t calm (inl gives) = let f : Fresh ≡ Running = gives.1 in cc
gives_fresh (Preempt at r n) t calm (inr gives) = let f : Fresh ≡ Held = gives.1 in cc
gives_fresh (Take at r n) t calm (inl gives) = let f : Fresh ≡ Running = gives.1 in cc
gives_fresh (Take at r n) t calm (inr gives) = let f : Fresh ≡ Waiting = gives in cc
gives_fresh (Complete at n) t calm gives = let f : Fresh ≡ Done = gives.1 in cc
gives_fresh (Abandon at n) t calm gives = let f : Fresh ≡ Gone = gives.1 in cc
gives_fresh (End value) t calm gives = gives

-- the event of a move, if it has one
abbrev event_in : Move → Event
event_in (Prints i e) = e
event_in (Waits n) = End 0
event_in Ticks = End 0

-- a move is a completion
abbrev completes : Move → Bool
completes (Prints i e) = is_complete (single.Prints e)
completes (Waits n) = false
completes Ticks = false

completes_on : (i : ℕ) (n : single.Move) → completes (on i n) ≡ is_complete n
completes_on i (single.Prints e) = refl
completes_on i (single.Waits n) = refl
completes_on i single.Ticks = refl

module _ (J : Instance) (valid : IsValid J) (s : State) (keeps : Keeps 1 J s)
    (calm : FreshIsCalm J.rules.finishes s) where
  abbrev all : List Seen
  all = all_seen 1 J.rules.version s

  one_is : 1 ≤ 1
  one_is = omega arith

  only : (r : Seen) → IsMember r all → r ≡ seen J.rules.version s 0
  only r (inl e) = e
  only r (inr none) = absurd none

  task_member : (p : Placed) → IsMember p s.jobs → IsMember p.task (map (seen_by 0) s.jobs)
  task_member p member = subst (λ t. IsMember t (map (seen_by 0) s.jobs)) (seen_all J valid s keeps p member)
      (map_member (seen_by 0) s.jobs p member)

  of_seen : (t : Task) → IsMember t (map (seen_by 0) s.jobs) → (p : Placed) × IsMember p s.jobs × (p.task ≡ t)
  of_seen t member = let it = seen_of 0 s.jobs t member in
      (it.0, it.1, sym (seen_all J valid s keeps it.0 it.1) ∙ it.2)

  -- where none is fresh, none is behind an event but a release
  none_after : (i : ℕ) (e : Event) → is_release e ≡ false → Each (λ p. p.task.role ≡ Fresh → ⊥) s.jobs
      → FreshIsCalm J.rules.finishes (after s (Prints i e))
  none_after i e other none = on_map (placed_after i e)
      (λ p. p.task.role ≡ Fresh → IsCalm J.rules.finishes (after s (Prints i e))) s.jobs
      (λ p member fresh. absurd (none p member (role_stays e p.task (placed_after i e p).task Fresh (event_task i e p)
      (gives_fresh e p.task other) fresh)))

  same_fresh : (f : Task) → IsMember f (map (seen_by 0) s.jobs) → f.role ≡ Fresh
      → Each (λ p. p.task.role ≡ Fresh → eqb p.task.number f.number ≡ true) s.jobs
  same_fresh f member fresh p p_member is = eq-eqb p.task.number f.number
      ((keeps.sound 0).one_fresh p.task f (task_member p p_member) member is fresh)

  -- what runs has some left, and isn't due
  module _ (some_left : Each (λ p. is_privileged p.task ≡ true → 1 ≤ left p.task) s.jobs) where
    deed_calm : (n : single.Move) → Deed J.rules.ratio (seen_from 0 s) (single.Prints (End 0)) n
        → is_complete n ≡ false → cases.is_ending n ≡ false
        → (cases.is_run (on 0 n) ≡ true)
        ⊎ Each (λ p. p.task.role ≡ Running → is_due J.rules.finishes p.task ≡ false) s.jobs
        → FreshIsCalm J.rules.finishes (after s (on 0 n))
    deed_calm n (Completed r member runs) kind goes due = never (sym kind)
    deed_calm n (Rested quiet) kind goes due = never (sym goes)
    deed_calm n (Resumed p member held none least why) kind goes due = none_after 0 (Run s.clock p.number) refl
        (λ f f_member fresh. let x = of_seen p member in
        (calm f f_member fresh).rests (λ r r_member runs. none r.task (task_member r r_member) runs) x.0 x.1
        (ap is_ready_behind x.2 ∙ passes is_ready_behind p Held true held refl))
    deed_calm n (Started o member waits none first_one fits next) kind goes due = none_after 0
        (Run s.clock o.number) refl
        (λ f f_member fresh. let x = of_seen o member in
        (calm f f_member fresh).rests (λ r r_member runs. none r.task (task_member r r_member) runs) x.0 x.1
        (ap is_ready_behind x.2 ∙ passes is_ready_behind o Waiting true waits refl))
    deed_calm n (Began f member fresh none free) kind goes due = on_map (placed_after 0 (Run s.clock f.number))
        (λ p. p.task.role ≡ Fresh → IsCalm J.rules.finishes (after s (on 0 n))) s.jobs
        (λ p p_member is. absurd (by_test p (eqb p.task.number f.number)
        (same_fresh f member fresh p p_member (role_stays (Run s.clock f.number) p.task
        (placed_after 0 (Run s.clock f.number) p).task Fresh (event_task 0 (Run s.clock f.number) p)
        (gives_fresh (Run s.clock f.number) p.task refl) is)) is)) where
          by_test : (p : Placed) (b : Bool) → b ≡ true → (cond b (placed_on 0 p) p).task.role ≡ Fresh → ⊥
          by_test p true e is = let g : Running ≡ Fresh = is in cc
          by_test p false e is = never e
    deed_calm n (Preempted r f member runs some_r f_member fresh before fits) kind goes due =
        on_map (placed_after 0 (Preempt s.clock r.number f.number))
        (λ p. p.task.role ≡ Fresh → IsCalm J.rules.finishes (after s (on 0 n))) s.jobs
        (λ p p_member is. absurd (by_test p (eqb p.task.number f.number) (eqb p.task.number r.number)
        (same_fresh f f_member fresh p p_member (role_stays (Preempt s.clock r.number f.number) p.task
        (placed_after 0 (Preempt s.clock r.number f.number) p).task Fresh
        (event_task 0 (Preempt s.clock r.number f.number) p)
        (gives_fresh (Preempt s.clock r.number f.number) p.task refl) is)) is)) where
          by_test : (p : Placed) (b c : Bool) → b ≡ true
              → (cond b (placed_on 0 p) (cond c (in_role p Held) p)).task.role ≡ Fresh → ⊥
          by_test p true c e is = let g : Running ≡ Fresh = is in cc
          by_test p false c e is = never e
    deed_calm n (Stayed r f member runs some_r f_member fresh why) kind goes due =
        on_map (λ p. cond (eqb p.task.number f.number) (in_role p Waiting) p)
        (λ p. p.task.role ≡ Fresh → IsCalm J.rules.finishes (after s (on 0 n))) s.jobs
        (λ p p_member is. absurd (by_test p p_member (eqb p.task.number f.number) refl is)) where
          by_test : (p : Placed) → IsMember p s.jobs → (b : Bool) → eqb p.task.number f.number ≡ b
              → (cond b (in_role p Waiting) p).task.role ≡ Fresh → ⊥
          by_test p p_member true e is = let g : Waiting ≡ Fresh = is in cc
          by_test p p_member false e is = never (sym e ∙ same_fresh f f_member fresh p p_member is)
    deed_calm n (Taken r x member runs some_r x_member waits now stale heavy) kind goes due =
        none_after 0 (Take s.clock r.number x.number) refl
        (λ f f_member fresh. stale f.task (task_member f f_member) fresh)
    deed_calm n (Abandoned r x member runs some_r x_member waits now stale light) kind goes due =
        none_after 0 (Abandon s.clock x.number) refl (λ f f_member fresh. stale f.task (task_member f f_member) fresh)
    deed_calm n (Arrived c member comes now first_one stale busy free) kind goes (inl is_run) = never is_run
    deed_calm n (Arrived c member comes now first_one stale busy free) kind goes (inr due) =
        on_map h (λ p. p.task.role ≡ Fresh → IsCalm J.rules.finishes (after s (Prints 0 (Release c.number c.job))))
        s.jobs
        (λ p p_member fresh. calm_after) where
          e : Event
          e = Release c.number c.job

          h : Placed → Placed
          h = placed_after 0 (Release c.number c.job)

          x : (p : Placed) × IsMember p s.jobs × (p.task ≡ c)
          x = of_seen c member

          still_runs : (p : Placed) → IsMember p s.jobs → p.task.role ≡ Running → (h p).task.role ≡ Running
          still_runs p p_member runs = by_test (eqb p.task.number c.number) refl where
            by_test : (b : Bool) → eqb p.task.number c.number ≡ b → (cond b (in_role p Fresh) p).task.role ≡ Running
            by_test false other = runs
            by_test true same = absurd (
                let is_x : p ≡ x.0 = same_job 1 J valid s keeps p x.0 p_member x.1
                (eqb-true _ _ same ∙ sym (ap (λ (t : Task). t.number) x.2)) in
                let g : Coming ≡ Running = sym (ap (λ (t : Task). t.role) x.2 ∙ comes)
                ∙ sym (ap (λ (u : Placed). u.task.role) is_x) ∙ runs in cc)

          was_behind : (p : Placed) → is_ready_behind (h p).task ≡ true → is_ready_behind p.task ≡ true
          was_behind p = by_test (eqb p.task.number c.number) where
            by_test : (b : Bool) → is_ready_behind (cond b (in_role p Fresh) p).task ≡ true
                → is_ready_behind p.task ≡ true
            by_test true behind = never behind
            by_test false behind = behind

          calm_after : IsCalm J.rules.finishes (after s (Prints 0 (Release c.number c.job)))
          calm_after = record {
            goes = on_map h (λ p. p.task.role ≡ Running → is_finished J.rules.finishes p.task ≡ false) s.jobs
                (λ p p_member runs.
                let before : p.task.role ≡ Running = role_stays e p.task (h p).task Running (event_task 0 e p)
                (λ gives. let g : Running ≡ Fresh = gives.1 in cc) runs in
                ap (is_finished J.rules.finishes) (event_task 0 e p).1
                ∙ goes_on J.rules.finishes p.task (some_left p p_member
                (passes is_privileged p.task Running true before refl)) (due p p_member before));
            rests = λ none. on_map h (λ p. is_ready_behind p.task ≡ true → ⊥) s.jobs
                (λ p p_member behind. free (λ t t_member runs. let y = of_seen t t_member in
                none (h y.0) (map_member h s.jobs y.0 y.1)
                (still_runs y.0 y.1 (ap (λ (u : Task). u.role) y.2 ∙ runs)))
                p.task (task_member p p_member) (was_behind p behind));
          }

  acts_calm : (gone : Bool) (m : Move) → cases.Acts J.rules.ratio (seen J.rules.version s 0) gone m
      → Each (λ o. completion o ≡ None) all
      → (cases.is_run m ≡ true) ⊎ Each (λ p. p.task.role ≡ Running → is_due J.rules.finishes p.task ≡ false) s.jobs
      → FreshIsCalm J.rules.finishes (after s m)
  acts_calm gone m acts going due = subst (λ (y : Move). FreshIsCalm J.rules.finishes (after s y)) (sym acts.is)
      (deed_calm (all_left 1 s J.rules.version keeps.sound keeps.placed going) acts.move
      (deed_of J.rules.ratio J.rules.version (seen_from 0 s) (single.Prints (End 0)) (keeps.sound 0)
      (real 1 J valid s keeps 0) acts.move acts.case)
      (no_completion J.rules.ratio (seen J.rules.version s 0) (going (seen J.rules.version s 0) (inl refl)) acts.move
      acts.case) acts.goes_on
      (subst (λ (y : Move). (cases.is_run y ≡ true)
      ⊎ Each (λ p. p.task.role ≡ Running → is_due J.rules.finishes p.task ≡ false) s.jobs) acts.is due))

  -- no job is fresh where one completes
  none_fresh : (x : Placed) → IsMember x s.jobs → x.task.role ≡ Running → is_finished J.rules.finishes x.task ≡ true
      → Each (λ p. p.task.role ≡ Fresh → ⊥) s.jobs
  none_fresh x member runs finished f f_member fresh =
      never (sym ((calm f f_member fresh).goes x member runs) ∙ finished)

  -- nor where one is abandoned
  stale_at : (n : single.Move) → Deed J.rules.ratio (seen_from 0 s) (single.Prints (End 0)) n → cases.is_gone n ≡ true
      → Each (λ p. p.task.role ≡ Fresh → ⊥) s.jobs
  stale_at n (Abandoned r x member runs some_r x_member waits now stale light) kind =
      λ f f_member fresh. stale f.task (task_member f f_member) fresh
  stale_at n (Completed r member runs) kind = never kind
  stale_at n (Resumed p member held none least why) kind = never kind
  stale_at n (Started o member waits none first_one fits next) kind = never kind
  stale_at n (Began f member fresh none free) kind = never kind
  stale_at n (Preempted r f member runs some_r f_member fresh before fits) kind = never kind
  stale_at n (Stayed r f member runs some_r f_member fresh why) kind = never kind
  stale_at n (Arrived c member comes now first_one stale busy free) kind = never kind
  stale_at n (Taken r x member runs some_r x_member waits now stale heavy) kind = never kind
  stale_at n (Rested quiet) kind = never kind

  due_of : (r : Seen) (m : Move) → IsMember r all → cases.IsDecided J.rules r all m
      → (cases.is_run m ≡ true) ⊎ Each (λ p. p.task.role ≡ Running → is_due J.rules.finishes p.task ≡ false) s.jobs
  due_of r m member (inl is) = inl is
  due_of r m member (inr known) = inr (λ p p_member runs. known.0 (seen J.rules.version s 0) (inl refl) p.task
      (subst (λ i. running (seen_from i s) ≡ Some p.task)
      (on_zero J valid s keeps p p_member (passes is_privileged p.task Running true runs refl))
      (own_running s keeps.sound p p_member runs)))

  case_calm : (m : Move) → StepCase true J.rules s all m → FreshIsCalm J.rules.finishes (after s m)
  case_calm m (cases.Completed r member t runs finished) =
      let x = running_job 1 J valid one_is J.rules s keeps 0 t (subst (λ (y : Seen). y.view.running ≡ Some t)
      (only r member) runs) in
      none_after r.processor (Complete r.view.clock t.number) refl
      (none_fresh x.0 x.1 x.3 (ap (is_finished J.rules.finishes) x.2 ∙ finished))
  case_calm m (cases.Acted r member n acts going decided) = acts_calm false m
      (subst (λ y. cases.Acts J.rules.ratio y false m) (only r member) acts) going (due_of r m member decided)
  case_calm m (cases.Abandoned r member n acts it going light) = subst
      (λ (y : Move). FreshIsCalm J.rules.finishes (after s y)) (sym it.is)
      (none_after r.processor (Abandon r.view.clock it.job.number) refl (stale_at own.move
      (deed_of J.rules.ratio J.rules.version (seen_from 0 s) (single.Prints (End 0)) (keeps.sound 0)
      (real 1 J valid s keeps 0) own.move own.case) own.kind)) where
        own : cases.Acts J.rules.ratio (seen J.rules.version s 0) true m
        own = subst (λ y. cases.Acts J.rules.ratio y true m) (only r member) acts
  case_calm m (cases.Ended may over) = none_after 0 (End (value_sum (filter is_done (tasks_of s.jobs)))) refl
      (λ f f_member fresh. never (sym (passes is_over f.task Fresh false fresh refl)
      ∙ all_each is_over (tasks_of s.jobs) over f.task (map_member (λ (u : Placed). u.task) s.jobs f f_member)))
  case_calm m (cases.Rested quiet unended) = on_map ticked
      (λ p. p.task.role ≡ Fresh → IsCalm J.rules.finishes (after s Ticks)) s.jobs
      (λ p member fresh. absurd ((all_quiet 1 J valid one_is J.rules s keeps quiet 0 (omega arith)).stale p.task
      (task_member p member) (by_test p (is_running p.task) fresh))) where
        by_test : (p : Placed) (b : Bool)
            → (cond b (record { task = with_tick p.task; owner = p.owner }) p).task.role ≡ Fresh → p.task.role ≡ Fresh
        by_test p true e = e
        by_test p false e = e

  -- ---- the completion of the job that runs

  last_of : (x : Placed) → IsMember x s.jobs → x.task.role ≡ Running → is_finished J.rules.finishes x.task ≡ true
      → (at : ℕ) → IsLastOf J valid s keeps (Complete at x.task.number)
  last_of x x_member x_runs finished at = record {
    stale = on_map (λ t. with_role t (cond (eqb t.number x.task.number) Done t.role)) (λ t. t.role ≡ Fresh → ⊥)
        (tasks_of s.jobs) (λ t member. by_fresh t member (eqb t.number x.task.number));
    free = on_map (λ t. with_role t (cond (eqb t.number x.task.number) Done t.role)) (λ t. t.role ≡ Running → ⊥)
        (tasks_of s.jobs) (λ t member. by_runs t member (eqb t.number x.task.number) refl);
  } where
    by_fresh : (t : Task) → IsMember t (tasks_of s.jobs) → (b : Bool) → cond b Done t.role ≡ Fresh → ⊥
    by_fresh t member true e = let g : Done ≡ Fresh = e in cc
    by_fresh t member false e = let p = of_tasks s.jobs t member in
        none_fresh x x_member x_runs finished p.0 p.1 (ap (λ (u : Task). u.role) p.2 ∙ e)

    by_runs : (t : Task) → IsMember t (tasks_of s.jobs) → (b : Bool) → eqb t.number x.task.number ≡ b
        → cond b Done t.role ≡ Running → ⊥
    by_runs t member true same e = let g : Done ≡ Running = e in cc
    by_runs t member false other e =
        let p = of_tasks s.jobs t member in
        never (sym other ∙ eq-eqb t.number x.task.number (sym (ap (λ (u : Task). u.number) p.2)
        ∙ (keeps.sound 0).one_runs p.0.task x.task (task_member p.0 p.1) (task_member x x_member)
        (ap (λ (u : Task). u.role) p.2 ∙ e) x_runs))

  step_last : (m : Move) → StepCase true J.rules s all m → completes m ≡ true → IsLastOf J valid s keeps (event_in m)
  step_last m (cases.Completed r member t runs finished) kind =
      let x = running_job 1 J valid one_is J.rules s keeps 0 t (subst (λ (y : Seen). y.view.running ≡ Some t)
      (only r member) runs) in
      subst (λ n. IsLastOf J valid s keeps (Complete r.view.clock n)) (ap (λ (u : Task). u.number) x.2)
      (last_of x.0 x.1 x.3 (ap (is_finished J.rules.finishes) x.2 ∙ finished) r.view.clock)
  step_last m (cases.Acted r member n acts going decided) kind =
      never (sym (no_completion J.rules.ratio r (going r member) acts.move acts.case)
      ∙ sym (completes_on r.processor acts.move) ∙ sym (ap completes acts.is) ∙ kind)
  step_last m (cases.Abandoned r member n acts it going light) kind = never (sym (ap completes it.is) ∙ kind)
  step_last m (cases.Ended may over) kind = never kind
  step_last m (cases.Rested quiet unended) kind = never kind

  abbrev one_step : single.Move
  one_step = single.step J.rules (whole s)

  here : StepCase true J.rules s all (on 0 one_step)
  here = subst (StepCase true J.rules s all) (step_one J valid s keeps)
      (step_case J.rules s all (each_sees 1 J.rules.version s))

  -- after it the state is that of one processor, and a fresh job is calm
  step_after : whole (after s (on 0 one_step)) ≡ single.after (whole s) one_step
  step_after = after_one J valid s keeps one_step
      (λ e is kind. subst (IsLastOf J valid s keeps) (ap (λ n. event_in (on 0 n)) is)
      (step_last (on 0 one_step) here (completes_on 0 one_step ∙ kind)))

  step_calm : FreshIsCalm J.rules.finishes (after s (on 0 one_step))
  step_calm = case_calm (on 0 one_step) here

-- ---- the run

-- an event on processor 0
abbrev at_zero : Event → ℕ × Event
at_zero e = (0, e)

shown_on : (n : single.Move) (es : List Event)
    → cons_option (placed_event_of (on 0 n)) (map at_zero es) ≡ map at_zero (cons_option (one_run.event_of n) es)
shown_on (single.Prints e) es = refl
shown_on (single.Waits n) es = refl
shown_on single.Ticks es = refl

end_on : (n : single.Move) → is_end (on 0 n) ≡ one_run.is_end n
end_on (single.Prints (End value)) = refl
end_on (single.Prints (Release n job)) = refl
end_on (single.Prints (Run at n)) = refl
end_on (single.Prints (Preempt at r n)) = refl
end_on (single.Prints (Take at r n)) = refl
end_on (single.Prints (Complete at n)) = refl
end_on (single.Prints (Abandon at n)) = refl
end_on (single.Waits n) = refl
end_on single.Ticks = refl

abbrev shown : List many.Step → List (ℕ × Event)
shown steps = filter_map (λ step. placed_event_of step.move) steps

-- the events without their processors
bare_shown : (m : Move) (es : List (ℕ × Event))
    → cons_option (many.event_of m) (map (λ p. p.1) es) ≡ map (λ p. p.1) (cons_option (placed_event_of m) es)
bare_shown (Prints q e) es = refl
bare_shown (Waits n) es = refl
bare_shown Ticks es = refl

bare : (steps : List many.Step) → filter_map (λ step. many.event_of step.move) steps ≡ map (λ p. p.1) (shown steps)
bare [] = refl
bare (x ∷ steps) = ap (λ es. cons_option (many.event_of x.move) es) (bare steps) ∙ bare_shown x.move (shown steps)

bare_at_zero : (es : List Event) → map (λ p. p.1) (map at_zero es) ≡ es
bare_at_zero [] = refl
bare_at_zero (e ∷ es) = ap (λ more. e ∷ more) (bare_at_zero es)

module _ (J : Instance) (valid : IsValid J) where
  runs_alike : (more : ℕ) (s : State) → Keeps 1 J s → FreshIsCalm J.rules.finishes s
      → HasEnd (run_from 1 J.rules more s)
      → (fuel : ℕ) → more ≤ fuel
      → shown (run_from 1 J.rules more s) ≡ map at_zero (one_run.printed_of (one_run.run_from J.rules fuel (whole s)))
  runs_alike zero s keeps calm ends fuel low = never ends
  runs_alike (suc more) s keeps calm ends zero low = absurd (omega (arith, low))
  runs_alike (suc more) s keeps calm ends (suc fuel) low =
      subst (λ (y : Move). list_any (λ x. is_end x.move) (from_move y) ≡ true → shown (from_move y)
      ≡ map at_zero (one_run.printed_of (one_run.run_from J.rules (suc fuel) (whole s)))) (sym same)
      (by_end (one_run.is_end m) refl
      (runs_alike more (after s (on 0 m)) next_keeps (step_calm J valid s keeps calm))) ends
    where
      m : single.Move
      m = single.step J.rules (whole s)

      same : step 1 J.rules s ≡ on 0 m
      same = step_one J valid s keeps

      next_keeps : Keeps 1 J (after s (on 0 m))
      next_keeps = subst (λ (y : Move). Keeps 1 J (after s y)) same (step_kept 1 J valid (omega arith) J.rules s keeps)

      from_move : Move → List many.Step
      from_move y = record { before = s; move = y }
          ∷ elim (is_end y) [ true ↦ [] | false ↦ run_from 1 J.rules more (after s y) ]

      by_end : (b : Bool) → one_run.is_end m ≡ b
          → (HasEnd (run_from 1 J.rules more (after s (on 0 m))) → (fuel : ℕ) → more ≤ fuel
          → shown (run_from 1 J.rules more (after s (on 0 m)))
          ≡ map at_zero (one_run.printed_of (one_run.run_from J.rules fuel (whole (after s (on 0 m))))))
          → list_any (λ x. is_end x.move) (from_move (on 0 m)) ≡ true
          → shown (from_move (on 0 m))
          ≡ map at_zero (one_run.printed_of (record { before = whole s; move = m }
          ∷ elim b [ true ↦ [] | false ↦ one_run.run_from J.rules fuel (single.after (whole s) m) ]))
      by_end true e rest ends =
          ap (λ b. shown (record { before = s; move = on 0 m }
          ∷ elim b [ true ↦ [] | false ↦ run_from 1 J.rules more (after s (on 0 m)) ])) (end_on m ∙ e)
          ∙ shown_on m []
      by_end false e rest ends =
          let goes : is_end (on 0 m) ≡ false = end_on m ∙ e in
          let onward : HasEnd (run_from 1 J.rules more (after s (on 0 m))) =
          ap (λ b. b || list_any (λ x. is_end x.move)
          (elim b [ true ↦ [] | false ↦ run_from 1 J.rules more (after s (on 0 m)) ])) (sym goes) ∙ ends in
          ap (λ b. shown (record { before = s; move = on 0 m }
          ∷ elim b [ true ↦ [] | false ↦ run_from 1 J.rules more (after s (on 0 m)) ])) goes
          ∙ ap (λ es. cons_option (placed_event_of (on 0 m)) es) (rest onward fuel (omega (arith, low))
          ∙ ap (λ t. map at_zero (one_run.printed_of (one_run.run_from J.rules fuel t)))
          (step_after J valid s keeps calm))
          ∙ shown_on m (one_run.printed_of (one_run.run_from J.rules fuel (single.after (whole s) m)))

  -- with one processor a run prints what it prints on the machine of one
  pub one_prints : printed_on 1 J ≡ map at_zero (one_run.printed J)
  one_prints = runs_alike (enough J.jobs) (opening J.jobs) (opening_kept 1 J)
      (on_map unplaced (λ p. p.task.role ≡ Fresh → IsCalm J.rules.finishes (opening J.jobs)) (to_come 0 J.jobs)
      (λ t member fresh. absurd (let g : Coming ≡ Fresh = sym (come_coming 0 J.jobs t member).0 ∙ fresh in cc)))
      (run_ends 1 J valid (omega arith)) (one_run.enough J.jobs) (omega arith)
      ∙ ap (λ ts. map at_zero (one_run.printed_of (one_run.run_from J.rules (one_run.enough J.jobs)
      (record { clock = 0; tasks = ts; pressed = false })))) (as_they_come (to_come 0 J.jobs)) where
        as_they_come : (ts : List Task) → tasks_of (map unplaced ts) ≡ ts
        as_they_come [] = refl
        as_they_come (t ∷ ts) = ap (λ us. t ∷ us) (as_they_come ts)

  -- and is worth as much
  pub one_value : many.completed_value 1 J ≡ one_run.completed_value J
  one_value = ap (λ es. fold (λ value e. one_run.value_of_end e value) 0 es)
      (bare (run 1 J) ∙ ap (λ (ps : List (ℕ × Event)). map (λ p. p.1) ps) one_prints ∙ bare_at_zero (one_run.printed J))
