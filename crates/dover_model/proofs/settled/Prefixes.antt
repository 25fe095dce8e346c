-- What is settled stays: jobs that are released at the mark or later don't change it.
use Rattle.std.proofs.Common.{◌≡◌, ℕ, suc, ◌+◌, ◌≤◌, ◌<◌, inl, inr, List, [], ◌∷◌, ◌++◌, length, map, refl, sym, ap}
use Rattle.std.proofs.Common.{◌∙◌, subst, Bool, true, false, cond, arith, eqb, Option, Some, None, MatchBool, filter}
use Rattle.std.proofs.Common.{ne_eqb}
use Rattle.std.specs.Bool.{then_some}
use Rattle.std.specs.List.{list_all, cons_option}
use Rattle.dover_model.specs.Common.{Fraction, JobFacts, Event, End, Role, Coming, Fresh, Waiting, Held, Running, Done}
use Rattle.dover_model.specs.Common.{Gone, Task, Rules, Instance, IsValid, with_jobs, State, with_later, opening}
use Rattle.dover_model.specs.Common.{to_come, is_over, is_done, value_sum, Move, Prints, Ticks, view, step, open_step}
use Rattle.dover_model.specs.Common.{after, urgent_or, ◌or_else◌, with_role, ticked, displaced, finish_or, due_finish}
use Rattle.dover_model.specs.Common.{Step, is_end, event_of, printed_of, printed, run, waits_for_mark, settled}
use Rattle.dover_model.specs.Common.{settled_steps, AllComeFrom, IsWholeRun, IsBefore, IsSettledRun, Begins, IsMember}
use Rattle.dover_model.specs.Common.{Each, IsNumberedFrom, Keeps}
use Rattle.dover_model.proofs.lists.Members.{all_each, on_map, member_front, member_behind}
use Rattle.dover_model.proofs.steps.Roles.{numbers_above}
use Rattle.dover_model.proofs.steps.Deeds.{Deed, Completed, Resumed, Started, Began, Preempted, Stayed, Arrived, Taken}
use Rattle.dover_model.proofs.steps.Deeds.{Abandoned, Rested, end_rests, over_rests}
use Rattle.dover_model.proofs.steps.Kept.{open_deed, open_kept, opening_keeps, come_coming}
use Rattle.dover_model.proofs.runs.Ending.{run_is_whole}
use Rattle.dover_model.proofs.valid.Valid.{valid_front}
use Rattle.dover_model.proofs.settled.Later.{same_step}
use Rattle.dover_model.proofs.settled.Settling.{late_early, at_barrier, settled_is_run}
use Rattle.dover_model.proofs.lists.Tests.{never}
use Rattle.std.specs.Prelude.{◌&&◌}
use Rattle.std.specs.List.{list_any}
use Rattle.dover_model.specs.Common.{is_open_job}
use Rattle.dover_model.proofs.settled.Later.{any_front, role_passes}

-- a state
abbrev state_of : Bool → ℕ → List Task → State
state_of pressed clock tasks = record { clock = clock; pressed = pressed; tasks = tasks }

-- none
abbrev pub no_events : List Event
no_events = []

-- ---- a step leaves the jobs behind as they are

-- what changes none behind leaves them
map_behind : (f : Task → Task) (tasks more : List Task) → Each (λ u. f u ≡ u) more
    → map f (tasks ++ more) ≡ map f tasks ++ more
map_behind f [] [] same = refl
map_behind f [] (u ∷ more) same = let here : f u ≡ u = same u (inl refl) in
    let rest : map f more ≡ more = map_behind f [] more (λ x m. same x (inr m)) in cc
map_behind f (t ∷ tasks) more same = ap (λ ts. f t ∷ ts) (map_behind f tasks more same)

-- a job behind has another number than each job before
apart_numbers : (n : ℕ) (tasks more : List Task) → IsNumberedFrom n (tasks ++ more) → (t u : Task) → IsMember t tasks
    → IsMember u more
    → u.number ≡ t.number → ⊥
apart_numbers n [] more numbered t u mt mu same = mt
apart_numbers n (x ∷ tasks) more numbered t u (inl e) mu same =
    let here : t.number ≡ n = ap (λ (y : Task). y.number) e ∙ numbered.0 in
    let above : suc n ≤ u.number = numbers_above (suc n) (tasks ++ more) numbered.1 u (member_behind tasks more u mu) in
    omega arith
apart_numbers n (x ∷ tasks) more numbered t u (inr mt) mu same =
    apart_numbers (suc n) tasks more numbered.1 t u mt mu same

-- a job that a move does not name keeps its role
unnamed : (u : Task) (n : ℕ) (new : Role) → (u.number ≡ n → ⊥) → with_role u (cond (eqb u.number n) new u.role) ≡ u
unnamed u n new differs = ap (λ b. with_role u (cond b new u.role)) (ne_eqb u.number n differs)

module _ (k : Fraction) (s : State) (more : List Task) (coming : Each (λ u. u.role ≡ Coming) more)
    (apart : (t u : Task) → IsMember t s.tasks → IsMember u more → u.number ≡ t.number → ⊥) where
  -- no job behind is named
  one_named : (r : Task) → IsMember r s.tasks → (new : Role)
      → Each (λ u. with_role u (cond (eqb u.number r.number) new u.role) ≡ u) more
  one_named r member new u mu = unnamed u r.number new (apart r u member mu)

  -- a preemption leaves the jobs behind
  behind_preempt : (r f : Task) → IsMember r s.tasks → IsMember f s.tasks
      → Each (λ u. with_role u (cond (eqb u.number f.number) Running (cond (eqb u.number r.number) Held u.role)) ≡ u)
      more
  behind_preempt r f member f_member u mu =
      ap (λ b. with_role u (cond b Running (cond (eqb u.number r.number) Held u.role)))
      (ne_eqb u.number f.number (apart f u f_member mu))
      ∙ one_named r member Held u mu

  -- so does a take
  behind_take : (x : Task) → IsMember x s.tasks
      → Each (λ u. with_role u (cond (eqb u.number x.number) Running (displaced u.role)) ≡ u) more
  behind_take x member u mu =
      ap (λ b. with_role u (cond b Running (displaced u.role))) (ne_eqb u.number x.number (apart x u member mu))
      ∙ subst (λ role. with_role u (displaced role) ≡ with_role u role) (sym (coming u mu)) refl

  -- so does a silent tick
  behind_tick : Each (λ u. ticked u ≡ u) more
  behind_tick u mu = subst (λ role. ticked (with_role u role) ≡ with_role u role) (sym (coming u mu)) refl

  -- a change by f is the same with the jobs behind
  same_by : (clock : ℕ) (f : Task → Task) → Each (λ u. f u ≡ u) more
      → state_of s.pressed clock (map f (s.tasks ++ more)) ≡ with_later (state_of s.pressed clock (map f s.tasks)) more
  same_by clock f same = ap (state_of s.pressed clock) (map_behind f s.tasks more same)

  -- so does a change of one role
  role_by : (r : Task) → IsMember r s.tasks → (new : Role)
      → state_of s.pressed s.clock (map (λ t. with_role t (cond (eqb t.number r.number) new t.role)) (s.tasks ++ more))
      ≡ with_later
      (state_of s.pressed s.clock (map (λ t. with_role t (cond (eqb t.number r.number) new t.role)) s.tasks)) more
  role_by r member new = same_by s.clock (λ t. with_role t (cond (eqb t.number r.number) new t.role))
      (one_named r member new)

  -- so does each deed
  pub same_after : (m : Move) → Deed k s Ticks m → after (with_later s more) m ≡ with_later (after s m) more
  same_after m (Completed r member runs) =
      let same : map (λ t. with_role t (cond (eqb t.number r.number) Done t.role)) (s.tasks ++ more)
      ≡ map (λ t. with_role t (cond (eqb t.number r.number) Done t.role)) s.tasks ++ more =
      map_behind (λ t. with_role t (cond (eqb t.number r.number) Done t.role)) s.tasks more
      (one_named r member Done) in
      ap (λ tasks. state_of (s.pressed && list_any is_open_job tasks) s.clock tasks) same
      ∙ ap (λ b. state_of (s.pressed && b) s.clock
      (map (λ t. with_role t (cond (eqb t.number r.number) Done t.role)) s.tasks ++ more))
      (any_front is_open_job (map (λ t. with_role t (cond (eqb t.number r.number) Done t.role)) s.tasks) more
      (role_passes is_open_job (λ _. refl) more coming))
  same_after m (Resumed p member held none least why) = role_by p member Running
  same_after m (Started o member waiting none first fits next) = role_by o member Running
  same_after m (Began f member fresh none free) = role_by f member Running
  same_after m (Preempted r f member runs some f_member fresh before fits) =
      same_by s.clock (λ u. with_role u
      (cond (eqb u.number f.number) Running (cond (eqb u.number r.number) Held u.role)))
      (behind_preempt r f member f_member)
  same_after m (Stayed r f member runs some f_member fresh why) = role_by f f_member Waiting
  same_after m (Arrived c member comes now first stale busy free) = role_by c member Fresh
  same_after m (Taken r x member runs some x_member waiting now stale heavy) =
      same_by s.clock (λ u. with_role u (cond (eqb u.number x.number) Running (displaced u.role)))
      (behind_take x x_member)
  same_after m (Abandoned r x member runs some x_member waiting now stale light) = ap (state_of true s.clock)
      (map_behind (λ t. with_role t (cond (eqb t.number x.number) Gone t.role)) s.tasks more (one_named x x_member
      Gone))
  same_after m (Rested quiet) = same_by (s.clock + 1) ticked behind_tick

-- ---- beginnings

-- nothing begins each list
begins_nothing : (es : List Event) → Begins no_events es
begins_nothing es = (es, refl)

-- one event more
pub begins_cons : (e : Option Event) (es fs : List Event) → Begins es fs → Begins (cons_option e es) (cons_option e fs)
begins_cons None es fs it = it
begins_cons (Some e) es fs it = (it.0, ap (λ xs. e ∷ xs) it.1)

-- ---- where all jobs are over, the open steps are silent

-- jobs that are over stay so
pub over_ticked : (s : State) → Each (λ t. is_over t ≡ true) s.tasks
    → Each (λ t. is_over t ≡ true) (after s Ticks).tasks
over_ticked s over = on_map ticked (λ t. is_over t ≡ true) s.tasks over

module _ (J : Instance) (valid : IsValid J) (rules : Rules) (mark : ℕ) where
  -- where all jobs are over, nothing more is settled
  pub over_silent : (xs : List Step) (s : State) → Keeps J s → Each (λ t. is_over t ≡ true) s.tasks
      → IsSettledRun rules mark s xs
      → printed_of xs ≡ no_events
  over_silent [] s keeps over run = refl
  over_silent (x ∷ xs) s keeps over run =
      let ticks : open_step rules s ≡ Ticks =
      over_rests rules.ratio s Ticks over (open_step rules s) (open_deed J valid s keeps rules) in
      ap (λ (y : Step). cons_option (event_of y.move) (printed_of xs)) run.0
      ∙ ap (λ m. cons_option (event_of m) (printed_of xs)) ticks
      ∙ over_silent xs (after s (open_step rules s)) (open_kept J valid s keeps rules)
      (subst (λ m. Each (λ t. is_over t ≡ true) (after s m).tasks) (sym ticks) (over_ticked s over)) run.2

-- a step is an open step, where some job isn't over
pub step_open : (rules : Rules) (s : State) → list_all is_over s.tasks ≡ false → step rules s ≡ open_step rules s
step_open rules s some = ap (λ b. finish_or s.clock (due_finish rules.finishes s) (urgent_or rules.ratio
    (view rules.version s)
    (then_some b (Prints (End (value_sum (filter is_done s.tasks)))) or_else Ticks))) some

-- an open step isn't End
pub open_goes_on : (J : Instance) → IsValid J → (rules : Rules) (s : State) → Keeps J s
    → is_end (open_step rules s) ≡ false
open_goes_on J valid rules s keeps = by_end (is_end (open_step rules s)) refl where
  by_end : (b : Bool) → is_end (open_step rules s) ≡ b → is_end (open_step rules s) ≡ false
  by_end true e = never (ap is_end
      (sym (end_rests rules.ratio s Ticks (open_step rules s) (open_deed J valid s keeps rules) e)) ∙ e)
  by_end false e = e

-- ---- with jobs behind

module _ (J : Instance) (valid : IsValid J) (K : Instance) (valid_more : IsValid K) (rules : Rules) (mark : ℕ)
    (more : List Task)
    (come : AllComeFrom mark more) where
  -- before the barrier, the open step is the same, and the state after it
  module _ (s : State) (keeps : Keeps J s) (keeps_more : Keeps K (with_later s more))
      (before : IsBefore rules mark s) where
    pub behind_step : open_step rules (with_later s more) ≡ open_step rules s
    behind_step = same_step rules s more mark come.0 come.1
        (late_early (waits_for_mark (open_step rules s)) mark s.clock before)

    pub behind_after : after (with_later s more) (open_step rules (with_later s more)) ≡ with_later
        (after s (open_step rules s)) more
    behind_after = ap (after (with_later s more)) behind_step
        ∙ same_after rules.ratio s more come.0 (apart_numbers 0 s.tasks more keeps_more.sound.numbered)
        (open_step rules s)
        (open_deed J valid s keeps rules)

    pub behind_keeps : Keeps K (with_later (after s (open_step rules s)) more)
    behind_keeps = subst (Keeps K) behind_after (open_kept K valid_more (with_later s more) keeps_more rules)

  -- what is settled begins what is settled later
  pub settled_begins_settled : (mark2 : ℕ) → mark ≤ mark2 → (xs ys : List Step) (s : State) → Keeps J s
      → Keeps K (with_later s more)
      → IsSettledRun rules mark s xs → IsSettledRun rules mark2 (with_later s more) ys
      → Begins (printed_of xs) (printed_of ys)
  settled_begins_settled mark2 later [] ys s keeps keeps_more run longer = begins_nothing (printed_of ys)
  settled_begins_settled mark2 later (x ∷ xs) [] s keeps keeps_more run longer =
      let it : (waits_for_mark (open_step rules (with_later s more)) ≡ true) × (mark2 ≤ s.clock) =
      at_barrier (waits_for_mark (open_step rules (with_later s more))) mark2 s.clock longer in
      let early : s.clock < mark = late_early (waits_for_mark (open_step rules s)) mark s.clock run.1
      (sym (ap waits_for_mark (behind_step s keeps keeps_more run.1)) ∙ it.0) in
      absurd (omega (arith, it.1))
  settled_begins_settled mark2 later (x ∷ xs) (y ∷ ys) s keeps keeps_more run longer =
      let more_run : IsSettledRun rules mark2 (with_later (after s (open_step rules s)) more) ys =
      subst (λ (z : State). IsSettledRun rules mark2 z ys) (behind_after s keeps keeps_more run.1) longer.2 in
      let rest : Begins (printed_of xs) (printed_of ys) =
      settled_begins_settled mark2 later xs ys (after s (open_step rules s)) (open_kept J valid s keeps rules)
      (behind_keeps s keeps keeps_more run.1) run.2 more_run in
      let same : y.move ≡ x.move = ap (λ (z : Step). z.move) longer.0 ∙ behind_step s keeps keeps_more run.1
      ∙ sym (ap (λ (z : Step). z.move) run.0) in
      subst (λ m. Begins (cons_option (event_of x.move) (printed_of xs)) (cons_option (event_of m) (printed_of ys)))
      (sym same)
      (begins_cons (event_of x.move) (printed_of xs) (printed_of ys) rest)

  -- an open step isn't End
  pub open_not_end : (s : State) → Keeps J s → is_end (open_step rules s) ≡ false
  open_not_end s keeps = open_goes_on J valid rules s keeps

  -- what is settled begins what the run prints
  pub settled_begins_run : (xs ys : List Step) (s : State) → Keeps J s → Keeps K (with_later s more)
      → IsSettledRun rules mark s xs
      → IsWholeRun rules (with_later s more) ys → Begins (printed_of xs) (printed_of ys)
  settled_begins_run [] ys s keeps keeps_more run whole = begins_nothing (printed_of ys)
  settled_begins_run (x ∷ xs) [] s keeps keeps_more run whole = absurd whole
  settled_begins_run (x ∷ xs) (y ∷ ys) s keeps keeps_more run whole = by_over (list_all is_over (s.tasks ++ more)) refl
      (settled_begins_run xs ys (after s (open_step rules s)) (open_kept J valid s keeps rules)
      (behind_keeps s keeps keeps_more run.1) run.2) where
        by_over : (b : Bool) → list_all is_over (s.tasks ++ more) ≡ b
            → (IsWholeRun rules (with_later (after s (open_step rules s)) more) ys
            → Begins (printed_of xs) (printed_of ys))
            → Begins (printed_of (x ∷ xs)) (printed_of (y ∷ ys))
        by_over true all rest = subst (λ (es : List Event). Begins es (printed_of (y ∷ ys)))
            (sym (over_silent J valid rules mark (x ∷ xs) s keeps
            (λ t m. all_each is_over (s.tasks ++ more) all t (member_front s.tasks more t m)) run))
            (begins_nothing (printed_of (y ∷ ys)))
        by_over false some rest =
            let same_m : step rules (with_later s more) ≡ open_step rules s = step_open rules (with_later s more) some
            ∙ behind_step s keeps keeps_more run.1 in
            let on : is_end (step rules (with_later s more)) ≡ false = ap is_end same_m ∙ open_not_end s keeps in
            let onward : IsWholeRun rules (after (with_later s more) (step rules (with_later s more))) ys =
            subst (λ b. MatchBool b (ys ≡ [])
            (IsWholeRun rules (after (with_later s more) (step rules (with_later s more))) ys)) on whole.1 in
            let to : after (with_later s more) (step rules (with_later s more)) ≡ with_later
            (after s (open_step rules s)) more =
            ap (after (with_later s more)) (step_open rules (with_later s more) some)
            ∙ behind_after s keeps keeps_more run.1 in
            let tail : Begins (printed_of xs) (printed_of ys) =
            rest (subst (λ (z : State). IsWholeRun rules z ys) to onward) in
            let same : y.move ≡ x.move = ap (λ (z : Step). z.move) whole.0 ∙ same_m
            ∙ sym (ap (λ (z : Step). z.move) run.0) in
            subst (λ m. Begins (cons_option (event_of x.move) (printed_of xs))
            (cons_option (event_of m) (printed_of ys))) (sym same)
            (begins_cons (event_of x.move) (printed_of xs) (printed_of ys) tail)

-- ---- of instances

-- jobs to come, and those behind them
pub come_append : (n : ℕ) (jobs more : List JobFacts)
    → to_come n (jobs ++ more) ≡ to_come n jobs ++ to_come (n + length jobs) more
come_append n [] more = ap (λ m. to_come m more) (omega arith)
come_append n (j ∷ jobs) more = ap (λ ts. record { number = n; job = j; role = Coming; had = 0 } ∷ ts)
    (come_append (suc n) jobs more ∙ ap (λ m. to_come (suc n) jobs ++ to_come m more) (omega arith))

-- jobs to come that are released at the mark or later
pub come_from : (mark n : ℕ) (jobs : List JobFacts) → Each (λ j. mark ≤ j.release) jobs
    → AllComeFrom mark (to_come n jobs)
come_from mark n jobs late = (λ t m. (come_coming n jobs t m).0, releases n jobs late) where
  releases : (n : ℕ) (jobs : List JobFacts) → Each (λ j. mark ≤ j.release) jobs
      → Each (λ (t : Task). mark ≤ t.job.release) (to_come n jobs)
  releases n [] late t member = absurd member
  releases n (j ∷ jobs) late t (inl e) = subst (λ (x : Task). mark ≤ x.job.release) (sym e) (late j (inl refl))
  releases n (j ∷ jobs) late t (inr member) = releases (suc n) jobs (λ i m. late i (inr m)) t member

module _ (J : Instance) (more : List JobFacts) (mark : ℕ) (valid_more : IsValid (with_jobs J more))
    (late : Each (λ j. mark ≤ j.release) more) where
  -- the first jobs are a valid instance
  valid : IsValid J
  valid = valid_front J more valid_more

  -- the opening with jobs behind
  pub opening_later : opening (J.jobs ++ more) ≡ with_later (opening J.jobs) (to_come (length J.jobs) more)
  opening_later = ap (state_of false 0)
      (come_append 0 J.jobs more ∙ ap (λ n. to_come 0 J.jobs ++ to_come n more) (omega arith))

  -- it is a sound state of all jobs
  pub later_keeps : Keeps (with_jobs J more) (with_later (opening J.jobs) (to_come (length J.jobs) more))
  later_keeps = subst (Keeps (with_jobs J more)) opening_later (opening_keeps (with_jobs J more))

  -- the settled steps begin those of a longer instance at a later mark
  pub settled_prefix : (mark2 : ℕ) → mark ≤ mark2 → Begins (settled J mark) (settled (with_jobs J more) mark2)
  settled_prefix mark2 later =
      settled_begins_settled J valid (with_jobs J more) valid_more J.rules mark (to_come (length J.jobs) more)
      (come_from mark (length J.jobs) more late) mark2 later
      (settled_steps J mark) (settled_steps (with_jobs J more) mark2) (opening J.jobs) (opening_keeps J) later_keeps
      (settled_is_run J mark valid)
      (subst (λ (z : State). IsSettledRun J.rules mark2 z (settled_steps (with_jobs J more) mark2)) opening_later
      (settled_is_run (with_jobs J more) mark2 valid_more))

  -- the settled steps begin what the run of a longer instance prints
  pub printed_prefix : Begins (settled J mark) (printed (with_jobs J more))
  printed_prefix = settled_begins_run J valid (with_jobs J more) valid_more J.rules mark (to_come (length J.jobs) more)
      (come_from mark (length J.jobs) more late)
      (settled_steps J mark) (run (with_jobs J more)) (opening J.jobs) (opening_keeps J) later_keeps
      (settled_is_run J mark valid)
      (subst (λ (z : State). IsWholeRun J.rules z (run (with_jobs J more))) opening_later
      (run_is_whole (with_jobs J more) valid_more))
