-- What is settled at a job's release without it, and then its release, begin what is settled there with it.
use Rattle.std.proofs.Common.{◌≡◌, ℕ, ◌+◌, ◌≤◌, ◌<◌, ◌⊎◌, inl, inr, List, [], ◌∷◌, ◌++◌, length, refl, sym, ap, ◌∙◌}
use Rattle.std.proofs.Common.{subst, Bool, true, false, cond, arith, eqb, Option, Some, None, find, eq-eqb}
use Rattle.std.specs.Bool.{then_some}
use Rattle.std.specs.Option.{option_or}
use Rattle.std.specs.List.{AllByRecursion, cons_option}
use Rattle.std.proofs.lemmas.List.Folds.{find-append}
use Rattle.dover_model.specs.Common.{JobFacts, Event, Release, Preempt, Complete, Coming, Task, Rules, Instance}
use Rattle.dover_model.specs.Common.{IsValid, with_jobs, State, with_later, opening, is_coming, is_running, left, Move}
use Rattle.dover_model.specs.Common.{Prints, Waits, Ticks, View, view, open_step, after, urgent_or, ◌or_else◌}
use Rattle.dover_model.specs.Common.{completion, dispatch, decision, arrival, alarm, preempts, resumed, runs}
use Rattle.dover_model.specs.Common.{declared_open_step, due_finish, finish_or, is_finish_of, Step, event_of}
use Rattle.dover_model.specs.Common.{printed_of, waits_for_mark, settled, settled_steps, AllComeFrom, IsBefore}
use Rattle.dover_model.specs.Common.{IsSettledRun, Begins, IsMember, Each, Keeps}
use Rattle.dover_model.proofs.lists.Members.{found, not_found, some_same}
use Rattle.dover_model.proofs.steps.Roles.{is_coming_role}
use Rattle.dover_model.proofs.steps.Moves.{says}
use Rattle.dover_model.proofs.steps.Kept.{each_job, open_kept, opening_keeps}
use Rattle.dover_model.proofs.runs.Ending.{clock_after}
use Rattle.dover_model.proofs.settled.Later.{view_later, role_passes, find_front}
use Rattle.dover_model.proofs.finishes.Finishing.{late_unfinished}
use Rattle.dover_model.proofs.valid.Valid.{valid_front}
use Rattle.dover_model.proofs.settled.Settling.{late_early, at_barrier, settled_is_run}
use Rattle.dover_model.proofs.settled.Prefixes.{behind_step, behind_after, behind_keeps, begins_cons, come_from}
use Rattle.dover_model.proofs.settled.Prefixes.{opening_later, later_keeps}
use Rattle.dover_model.proofs.lists.Tests.{never}

-- a step of the cases before the arrival
abbrev IsEarly : Option Move → Type 0
IsEarly o = (m : Move) → o ≡ Some m → waits_for_mark m ≡ false

-- nothing is early
none_early : IsEarly None
none_early m some = absurd (let e : None ≡ Some m = some in cc)

-- a step that isn't late is early
some_early : (n : Move) → waits_for_mark n ≡ false → IsEarly (Some n)
some_early n early m some = subst (λ x. waits_for_mark x ≡ false) (some_same n m some) early

-- so is a test of it
then_early : (b : Bool) (n : Move) → waits_for_mark n ≡ false → IsEarly (then_some b n)
then_early true n early = some_early n early
then_early false n early = none_early

-- a completion is early
completion_early : (v : View) (r : Option Task) → IsEarly (completion v r)
completion_early v None = none_early
completion_early v (Some r) = then_early (eqb (left r) 0) (Prints (Complete v.clock r.number)) refl

-- so is a Run
dispatch_early : (v : View) (r p o : Option Task) → IsEarly (dispatch v r p o)
dispatch_early v (Some r) p o = none_early
dispatch_early v None (Some p) o = some_early (runs v (resumed v p o)) refl
dispatch_early v None None (Some o) = some_early (runs v o) refl
dispatch_early v None None None = none_early

-- so is what becomes of a fresh job
decision_early : (v : View) (r f : Option Task) → IsEarly (decision v r f)
decision_early v r None = none_early
decision_early v None (Some f) = some_early (runs v f) refl
decision_early v (Some r) (Some f) = by_room (preempts v f r) where
  by_room : (b : Bool) → IsEarly (Some (cond b (Prints (Preempt v.clock r.number f.number)) (Waits f.number)))
  by_room true = some_early (Prints (Preempt v.clock r.number f.number)) refl
  by_room false = some_early (Waits f.number) refl

-- so is an arrival
arrival_early : (v : View) (c : Option Task) → IsEarly (arrival v c)
arrival_early v None = none_early
arrival_early v (Some c) = then_early (eqb c.job.release v.clock) (Prints (Release c.number c.job)) refl

-- of early cases and a rest, all are empty where the step is late
all_empty : (a b d c : Option Move) (rest : Move) → IsEarly a → IsEarly b → IsEarly d → IsEarly c
    → waits_for_mark (a or_else b or_else d or_else c or_else rest) ≡ true
    → (a ≡ None) × (b ≡ None) × (d ≡ None) × (c ≡ None)
all_empty (Some m) b d c rest ea eb ed ec late = never (sym (ea m refl) ∙ late)
all_empty None (Some m) d c rest ea eb ed ec late = never (sym (eb m refl) ∙ late)
all_empty None None (Some m) c rest ea eb ed ec late = never (sym (ed m refl) ∙ late)
all_empty None None None (Some m) rest ea eb ed ec late = never (sym (ec m refl) ∙ late)
all_empty None None None None rest ea eb ed ec late = (refl, refl, refl, refl)

-- a job to come
abbrev pub coming_task : ℕ → JobFacts → Task
coming_task n j = record { number = n; job = j; role = Coming; had = 0 }

-- where a job to come may arrive now, one does
now_arrives : (v : View) (c : Task) → c.job.release ≡ v.clock
    → arrival v (Some c) ≡ Some (Prints (Release c.number c.job))
now_arrives v c now = ap (λ b. then_some b (Prints (Release c.number c.job))) (eq-eqb c.job.release v.clock now)

module _ (J : Instance) (s : State) (keeps : Keeps J s) (rules : Rules)
    (known : Each (λ (t : Task). t.job.release ≤ s.clock) s.tasks)
    (late : waits_for_mark (open_step rules s) ≡ true) where
  -- what is seen
  abbrev seen : View
  seen = view rules.version s

  -- no job finishes early
  unfinished : (due_finish rules.finishes s ≡ None) × (waits_for_mark (declared_open_step rules s) ≡ true)
  unfinished = late_unfinished s.clock (due_finish rules.finishes s) (declared_open_step rules s) late

  -- none of the cases before the sixth applies
  empty : (completion seen seen.running ≡ None)
      × (dispatch seen seen.running seen.first_held seen.first_waiting ≡ None) ×
      (decision seen seen.running seen.fresh ≡ None) × (arrival seen seen.coming ≡ None)
  empty = all_empty _ _ _ _ (alarm rules.ratio seen seen.running seen.must_start or_else Ticks)
      (completion_early seen seen.running) (dispatch_early seen seen.running seen.first_held seen.first_waiting)
      (decision_early seen seen.running seen.fresh)
      (arrival_early seen seen.coming) unfinished.1

  -- none is to come
  find_none : (o : Option Task) → find is_coming s.tasks ≡ o → o ≡ None
  find_none None e = refl
  find_none (Some c) e =
      let it : IsMember c s.tasks × (is_coming c ≡ true) = found is_coming s.tasks c e in
      let ahead : s.clock ≤ c.job.release = (says s keeps.sound c it.0 Coming (is_coming_role c it.1)).1 in
      let low : c.job.release ≤ s.clock = known c it.0 in
      let here : arrival seen (Some c) ≡ Some (Prints (Release c.number c.job)) = now_arrives seen c (omega arith) in
      let there : arrival seen (Some c) ≡ None = ap (arrival seen) (sym e) ∙ empty.3 in
      absurd (let clash : Some (Prints (Release c.number c.job)) ≡ None = sym here ∙ there in cc)

  -- each is released
  pub none_coming : Each (λ t. is_coming t ≡ false) s.tasks
  none_coming = not_found is_coming s.tasks (find_none (find is_coming s.tasks) refl)

  -- a job that comes now is found
  first_coming : (n : ℕ) (j : JobFacts) → find is_coming (s.tasks ++ coming_task n j ∷ []) ≡ Some (coming_task n j)
  first_coming n j = find-append is_coming s.tasks (coming_task n j ∷ [])
      ∙ ap (λ o. option_or o (Some (coming_task n j))) (find_none (find is_coming s.tasks) refl)

  -- at the barrier of its release, a job behind is released
  pub barrier_releases : (n : ℕ) (j : JobFacts) → j.release ≡ s.clock
      → open_step rules (with_later s (coming_task n j ∷ [])) ≡ Prints (Release n j)
  barrier_releases n j now =
      ap (λ o. finish_or s.clock o (declared_open_step rules (with_later s (coming_task n j ∷ []))))
      (ap (λ o. find (is_finish_of o) rules.finishes)
      (find_front is_running s.tasks (coming_task n j ∷ [])
      (role_passes is_running (λ _. refl) (coming_task n j ∷ []) (λ t m. comes t m))) ∙ unfinished.0)
      ∙ ap (λ v. urgent_or rules.ratio v Ticks) (view_later rules.version s (coming_task n j ∷ []) (λ t m. comes t m))
      ∙ ap (λ c. completion seen seen.running or_else dispatch seen seen.running seen.first_held seen.first_waiting
      or_else decision
      seen seen.running
      seen.fresh or_else arrival seen c or_else alarm rules.ratio seen seen.running seen.must_start or_else Ticks)
      (first_coming n j)
      ∙ ap (λ a. a or_else dispatch seen seen.running seen.first_held seen.first_waiting or_else decision seen
      seen.running
      seen.fresh or_else arrival seen
      (Some (coming_task n j)) or_else alarm rules.ratio seen seen.running seen.must_start or_else Ticks) empty.0
      ∙ ap (λ a. a or_else decision seen seen.running seen.fresh or_else arrival seen
      (Some (coming_task n j)) or_else alarm rules.ratio seen seen.running seen.must_start or_else Ticks) empty.1
      ∙ ap (λ a. a or_else arrival seen
      (Some (coming_task n j)) or_else alarm rules.ratio seen seen.running seen.must_start or_else Ticks) empty.2
      ∙ ap (λ a. a or_else alarm rules.ratio seen seen.running seen.must_start or_else Ticks)
      (now_arrives seen (coming_task n j) now) where
        comes : Each (λ t. t.role ≡ Coming) (coming_task n j ∷ [])
        comes t (inl e) = ap (λ (x : Task). x.role) e
        comes t (inr m) = absurd m

-- an event at the end, behind another at the front
pub end_behind : (e : Option Event) (es : List Event) (last : Event)
    → cons_option e es ++ last ∷ [] ≡ cons_option e (es ++ last ∷ [])
end_behind None es last = refl
end_behind (Some e) es last = refl

-- the clock reaches the mark, but doesn't pass it before the barrier
pub within_mark : (rules : Rules) (mark : ℕ) (s : State) → IsBefore rules mark s → s.clock ≤ mark
    → (after s (open_step rules s)).clock ≤ mark
within_mark rules mark s before low = by_clock (clock_after s (open_step rules s)) where
  by_clock : ((after s (open_step rules s)).clock ≡ s.clock)
      ⊎ ((open_step rules s ≡ Ticks) × ((after s (open_step rules s)).clock ≡ s.clock + 1))
      → (after s (open_step rules s)).clock ≤ mark
  by_clock (inl same) = omega arith
  by_clock (inr it) = let next : (after s (open_step rules s)).clock ≡ s.clock + 1 = it.1 in
      let early : s.clock < mark =
      late_early (waits_for_mark (open_step rules s)) mark s.clock before (ap waits_for_mark it.0) in
      omega arith

module _ (J : Instance) (valid : IsValid J) (K : Instance) (valid_more : IsValid K) (rules : Rules) (n : ℕ)
    (j : JobFacts)
    (known : AllByRecursion (λ i. i.release ≤ j.release) J.jobs)
    (come : AllComeFrom j.release (coming_task n j ∷ [])) where
  -- the job of each task is released by then
  known_in : (s : State) → Keeps J s → Each (λ (t : Task). t.job.release ≤ j.release) s.tasks
  known_in s keeps = each_job (λ i. i.release ≤ j.release) s.tasks
      (subst (AllByRecursion (λ i. i.release ≤ j.release)) (sym keeps.jobs) known)

  -- at the barrier, with the job behind
  at_release : (s : State) → Keeps J s → s.clock ≤ j.release → IsSettledRun rules j.release s []
      → open_step rules (with_later s (coming_task n j ∷ [])) ≡ Prints (Release n j)
  at_release s keeps low here =
      let it : (waits_for_mark (open_step rules s) ≡ true) × (j.release ≤ s.clock) =
      at_barrier (waits_for_mark (open_step rules s)) j.release s.clock here in
      let now : j.release ≡ s.clock = omega (arith, it.1) in
      barrier_releases J s keeps rules
      (λ t m. let less : t.job.release ≤ j.release = known_in s keeps t m in omega arith) it.0 n j now

  -- what is settled without the job, and then its release, begin what is settled with it
  pub then_released : (xs ys : List Step) (s : State) → Keeps J s → Keeps K (with_later s (coming_task n j ∷ []))
      → s.clock ≤ j.release
      → IsSettledRun rules j.release s xs → IsSettledRun rules j.release (with_later s (coming_task n j ∷ [])) ys
      → Begins (printed_of xs ++ Release n j ∷ []) (printed_of ys)
  then_released [] [] s keeps keeps_more low run longer =
      let it : (waits_for_mark (open_step rules (with_later s (coming_task n j ∷ []))) ≡ true) × (j.release ≤ s.clock) =
      at_barrier (waits_for_mark (open_step rules (with_later s (coming_task n j ∷ [])))) j.release s.clock longer in
      never (sym (ap waits_for_mark (at_release s keeps low run)) ∙ it.0)
  then_released [] (y ∷ ys) s keeps keeps_more low run longer =
      let same : y.move ≡ Prints (Release n j) = ap (λ (z : Step). z.move) longer.0 ∙ at_release s keeps low run in
      subst (λ m. Begins (Release n j ∷ []) (cons_option (event_of m) (printed_of ys))) (sym same) (printed_of ys, refl)
  then_released (x ∷ xs) [] s keeps keeps_more low run longer =
      let it : (waits_for_mark (open_step rules (with_later s (coming_task n j ∷ []))) ≡ true) × (j.release ≤ s.clock) =
      at_barrier (waits_for_mark (open_step rules (with_later s (coming_task n j ∷ [])))) j.release s.clock longer in
      let early : s.clock < j.release =
      late_early (waits_for_mark (open_step rules s)) j.release s.clock run.1
      (sym (ap waits_for_mark (behind_step J valid K valid_more rules j.release
      (coming_task n j ∷ []) come s keeps keeps_more run.1)) ∙ it.0) in
      absurd (omega (arith, it.1))
  then_released (x ∷ xs) (y ∷ ys) s keeps keeps_more low run longer =
      let more_run : IsSettledRun rules j.release (with_later (after s (open_step rules s)) (coming_task n j ∷ [])) ys =
      subst (λ (z : State). IsSettledRun rules j.release z ys)
      (behind_after J valid K valid_more rules j.release (coming_task n j ∷ []) come s keeps keeps_more run.1)
      longer.2 in
      let rest : Begins (printed_of xs ++ Release n j ∷ []) (printed_of ys) =
      then_released xs ys (after s (open_step rules s)) (open_kept J valid s keeps rules)
      (behind_keeps J valid K valid_more rules j.release (coming_task n j ∷ []) come s keeps keeps_more run.1)
      (within_mark rules j.release s run.1 low) run.2 more_run in
      let same : y.move ≡ x.move = ap (λ (z : Step). z.move) longer.0
      ∙ behind_step J valid K valid_more rules j.release (coming_task n j ∷ []) come s keeps keeps_more run.1
      ∙ sym (ap (λ (z : Step). z.move) run.0) in
      subst (λ (es : List Event). Begins es (printed_of (y ∷ ys)))
      (sym (end_behind (event_of x.move) (printed_of xs) (Release n j)))
      (subst (λ m. Begins (cons_option (event_of x.move) (printed_of xs ++ Release n j ∷ []))
      (cons_option (event_of m) (printed_of ys)))
      (sym same) (begins_cons (event_of x.move) (printed_of xs ++ Release n j ∷ []) (printed_of ys) rest))

-- a job released last is settled right behind what is settled without it
pub settled_then_released : (J : Instance) (j : JobFacts) → IsValid (with_jobs J (j ∷ []))
    → AllByRecursion (λ i. i.release ≤ j.release) J.jobs
    → Begins (settled J j.release ++ Release (length J.jobs) j ∷ []) (settled (with_jobs J (j ∷ [])) j.release)
settled_then_released J j valid_more known =
    then_released J (valid_front J (j ∷ []) valid_more) (with_jobs J (j ∷ [])) valid_more J.rules
    (length J.jobs) j known
    (come_from j.release (length J.jobs) (j ∷ []) late)
    (settled_steps J j.release) (settled_steps (with_jobs J (j ∷ [])) j.release) (opening J.jobs) (opening_keeps J)
    (later_keeps J (j ∷ []) j.release valid_more late) (omega arith)
    (settled_is_run J j.release (valid_front J (j ∷ []) valid_more))
    (subst (λ (z : State). IsSettledRun J.rules j.release z (settled_steps (with_jobs J (j ∷ [])) j.release))
    (opening_later J (j ∷ []) j.release valid_more late)
    (settled_is_run (with_jobs J (j ∷ [])) j.release valid_more)) where
      late : Each (λ i. j.release ≤ i.release) (j ∷ [])
      late i (inl e) = let same : i.release ≡ j.release = ap (λ (x : JobFacts). x.release) e in omega arith
      late i (inr m) = absurd m
