-- What is settled in the tick of a mark where a job may finish there, and what that job had before.
use Rattle.std.proofs.Common.{◌≡◌, ℕ, ◌+◌, ◌≤◌, ◌<◌, ◌⊎◌, inl, inr, List, [], ◌∷◌, map, refl, sym, ap, ◌∙◌, subst}
use Rattle.std.proofs.Common.{Bool, true, false, cond, not, arith, eqb, eqb-true, eq-eqb, nat_lt, ltb-true, ltb-false}
use Rattle.dover_model.specs.declared.events.Event.{Event}
use Rattle.dover_model.specs.declared.events.Event.TheVariants.{Run, Preempt, Take, Complete, Abandon, End, Release}
use Rattle.dover_model.specs.declared.events.Role.TheVariants.{Fresh, Running, Waiting, Done}
use Rattle.dover_model.specs.declared.events.Task.{Task}
use Rattle.dover_model.specs.Settled.{tick_of_event}
use Rattle.dover_model.specs.Common.{Instance, IsValid, IsMember, Each, Rules, is_running}
use Rattle.dover_model.specs.Step as single
use Rattle.dover_model.proofs.lists.Tests.{never}
use Rattle.dover_model.proofs.lists.Members.{map_member, on_map}
use Rattle.dover_model.proofs.finishes.Further.{map_back}
use Rattle.dover_model.proofs.finishes.Meeting.{given_in}
use Rattle.dover_model.proofs.settled.Settling.{late_early}
use Rattle.dover_model.proofs.steps.Deeds.{Deed, Completed, Resumed, Started, Began, Preempted, Stayed, Arrived}
use Rattle.dover_model.proofs.steps.Deeds.{Taken, Abandoned, Rested, deed_of}
use Rattle.dover_model.proofs.steps.Roles.{passes}
use Rattle.dover_model.proofs.bound.Counting.{one}
use Rattle.many_processors.specs.State.{Placed, State, seen_from}
use Rattle.many_processors.specs.Step.{Move, Prints, Waits, Ticks, on, Seen, seen, all_seen}
use Rattle.many_processors.specs.Step.{open_step, after, placed_after, placed_on, in_role, ticked}
use Rattle.many_processors.specs.Run as many
use Rattle.many_processors.specs.Run.{placed_event_of}
use Rattle.many_processors.specs.Sound.{Keeps}
use Rattle.many_processors.specs.Settled.{waits_for_mark, IsSettledRun}
use Rattle.many_processors.specs.Finishes.{is_beside}
use Rattle.many_processors.proofs.books.TickSteps.{tick_plain}
use Rattle.many_processors.proofs.settled.Finishes.{behind}
use Rattle.many_processors.proofs.settled.Prefixes.{shown}
use Rattle.many_processors.proofs.settled.Settling.{late_none_fresh}
use Rattle.many_processors.proofs.steps.Cases as cases
use Rattle.many_processors.proofs.steps.Cases.{StepCase, open_case}
use Rattle.many_processors.proofs.steps.Placing.{seen_member}
use Rattle.many_processors.proofs.steps.Seeing.{each_sees}
use Rattle.many_processors.proofs.steps.Stepping.{real, event_task, Gives, role_stays, same_job}
use Rattle.many_processors.proofs.steps.Turns.{which, open_kept}

-- ---- what is printed has the tick of its step

-- no job is fresh
abbrev pub NoneFresh : State → Type 0
NoneFresh s = Each (λ p. p.task.role ≡ Fresh → ⊥) s.jobs

-- a printed step is of this tick, and no fresh job waits where there is none
abbrev IsOfTick : State → Move → Type 0
IsOfTick s (Prints q e) = tick_of_event e ≡ s.clock
IsOfTick s (Waits n) = NoneFresh s → ⊥
IsOfTick s Ticks = Unit {0}

module _ (processors : ℕ) (J : Instance) (valid : IsValid J) (some : 1 ≤ processors) (rules : Rules) (s : State)
    (keeps : Keeps processors J s) where
  deed_tick : (i : ℕ) (m : single.Move) → Deed rules.ratio (seen_from i s) (single.Prints (End 0)) m
      → cases.is_ending m ≡ false → IsOfTick s (on i m)
  deed_tick i m (Completed r member runs) goes = refl
  deed_tick i m (Resumed p member held none least why) goes = refl
  deed_tick i m (Started o member waits none first fits next) goes = refl
  deed_tick i m (Began f member fresh none free) goes = refl
  deed_tick i m (Preempted r f member runs left f_member fresh before fits) goes = refl
  deed_tick i m (Stayed r f member runs left f_member fresh why) goes = λ stale.
      let x = seen_member i s.jobs f Fresh (λ e. cc) fresh f_member in
      stale x.0 x.1 (ap (λ (u : Task). u.role) x.2 ∙ fresh)
  deed_tick i m (Arrived c member comes now first stale busy free) goes = now
  deed_tick i m (Taken r x member runs left x_member waits now stale heavy) goes = refl
  deed_tick i m (Abandoned r x member runs left x_member waits now stale light) goes = refl
  deed_tick i m (Rested quiet) goes = never (sym goes)

  acts_tick : (i : ℕ) (gone : Bool) (m : Move) → cases.Acts rules.ratio (seen rules.version s i) gone m → IsOfTick s m
  acts_tick i gone m acts = subst (IsOfTick s) (sym acts.is)
      (deed_tick i acts.move (deed_of rules.ratio rules.version (seen_from i s) (single.Prints (End 0))
      (keeps.sound i) (real processors J valid s keeps i) acts.move acts.case) acts.goes_on)

  case_tick : (m : Move) → StepCase false rules s (all_seen processors rules.version s) m → IsOfTick s m
  case_tick m (cases.Completed q member t runs finished) =
      let i = which processors J valid some rules s keeps q member in ap (λ (r : Seen). r.view.clock) i.0
  case_tick m (cases.Acted q member k acts going why) =
      let i = which processors J valid some rules s keeps q member in
      acts_tick q.processor false m (subst (λ r. cases.Acts rules.ratio r false m) i.0 acts)
  case_tick m (cases.Abandoned q member k acts goes going light) =
      let i = which processors J valid some rules s keeps q member in
      acts_tick q.processor true m (subst (λ r. cases.Acts rules.ratio r true m) i.0 acts)
  case_tick m (cases.Ended may over) = never may
  case_tick m (cases.Rested quiet unended) = tt

  pub open_is : StepCase false rules s (all_seen processors rules.version s) (open_step processors rules s)
  open_is = open_case rules s (all_seen processors rules.version s) (each_sees processors rules.version s)

  pub open_tick : IsOfTick s (open_step processors rules s)
  open_tick = case_tick (open_step processors rules s) open_is

  -- no job is fresh behind a tick
  tick_stale : waits_for_mark (open_step processors rules s) ≡ true → NoneFresh (after s Ticks)
  tick_stale late = on_map ticked (λ p. p.task.role ≡ Fresh → ⊥) s.jobs
      (λ p member fresh. late_none_fresh processors J valid some rules s keeps (open_step processors rules s) open_is
      late p member (sym (tick_plain p).2 ∙ fresh))

-- ---- steps beside a job

-- the step completes a job, or gives a free processor to another job than number n
abbrev pub IsBeside : ℕ → Move → Type 0
IsBeside n (Prints q e) = is_beside n e ≡ true
IsBeside n (Waits k) = ⊥
IsBeside n Ticks = ⊥

-- it leaves the clock
beside_clock : (n : ℕ) (s : State) (m : Move) → IsBeside n m → (after s m).clock ≡ s.clock
beside_clock n s (Prints q e) beside = refl
beside_clock n s (Waits k) beside = absurd beside
beside_clock n s Ticks beside = absurd beside

-- and none becomes fresh
pub beside_stale : (n : ℕ) (s : State) (m : Move) → IsBeside n m → NoneFresh s → NoneFresh (after s m)
beside_stale n s (Prints q e) beside stale = on_map (placed_after q e) (λ p. p.task.role ≡ Fresh → ⊥) s.jobs
    (λ p member fresh. stale p member (role_stays e p.task (placed_after q e p).task Fresh (event_task q e p)
    (not_fresh e p.task beside) fresh)) where
      not_fresh : (e : Event) (t : Task) → is_beside n e ≡ true → Gives e t Fresh → ⊥
      not_fresh (Complete at k) t b gives = let f : Fresh ≡ Done = gives.1 in cc
      not_fresh (Run at k) t b gives = let f : Fresh ≡ Running = gives.1 in cc
      not_fresh (Preempt at r k) t b gives = never b
      not_fresh (Take at r k) t b gives = never b
      not_fresh (Abandon at k) t b gives = never b
      not_fresh (Release k job) t b gives = never b
      not_fresh (End value) t b gives = never b
beside_stale n s (Waits k) beside stale = absurd beside
beside_stale n s Ticks beside stale = absurd beside

-- a running job of this number ran before
pub beside_ran : (p : Placed) (s : State) (m : Move) → p.task.role ≡ Running → IsBeside p.task.number m
    → IsMember p (after s m).jobs → IsMember p s.jobs
beside_ran p s (Prints q (Complete at k)) runs beside member = by_test (eqb was.0.task.number k) was.2 where
  was : (u : Placed) × IsMember u s.jobs × (p ≡ placed_after q (Complete at k) u)
  was = map_back (placed_after q (Complete at k)) s.jobs p member

  by_test : (b : Bool) → p ≡ cond b (in_role was.0 Done) was.0 → IsMember p s.jobs
  by_test true e = absurd (let f : Running ≡ Done = sym runs ∙ ap (λ (u : Placed). u.task.role) e in cc)
  by_test false e = subst (λ u. IsMember u s.jobs) (sym e) was.1
beside_ran p s (Prints q (Run at k)) runs beside member = by_test (eqb was.0.task.number k) refl was.2 where
  was : (u : Placed) × IsMember u s.jobs × (p ≡ placed_after q (Run at k) u)
  was = map_back (placed_after q (Run at k)) s.jobs p member

  by_test : (b : Bool) → eqb was.0.task.number k ≡ b → p ≡ cond b (placed_on q was.0) was.0 → IsMember p s.jobs
  by_test true f e = never (sym (ap not (eq-eqb k p.task.number (sym (eqb-true _ _ f)
      ∙ sym (ap (λ (u : Placed). u.task.number) e)))) ∙ beside)
  by_test false f e = subst (λ u. IsMember u s.jobs) (sym e) was.1
beside_ran p s (Prints q (Preempt at r k)) runs beside member = never beside
beside_ran p s (Prints q (Take at r k)) runs beside member = never beside
beside_ran p s (Prints q (Abandon at k)) runs beside member = never beside
beside_ran p s (Prints q (Release k job)) runs beside member = never beside
beside_ran p s (Prints q (End value)) runs beside member = never beside
beside_ran p s (Waits k) runs beside member = absurd beside
beside_ran p s Ticks runs beside member = absurd beside

-- ---- what a job had before

-- each job of this number has had less
abbrev pub Less : ℕ → ℕ → State → Type 0
Less n h s = Each (λ p. p.task.number ≡ n → p.task.had + 1 ≤ h) s.jobs

-- of a change that leaves numbers, and after which no job has had less
less_mapped : (n h : ℕ) (jobs : List Placed) (g : Placed → Placed)
    → ((p : Placed) → ((g p).task.number ≡ p.task.number) × (p.task.had ≤ (g p).task.had))
    → Each (λ p. p.task.number ≡ n → p.task.had + 1 ≤ h) (map g jobs)
    → Each (λ p. p.task.number ≡ n → p.task.had + 1 ≤ h) jobs
less_mapped n h jobs g grows low p member same =
    let later : (g p).task.had + 1 ≤ h = low (g p) (map_member g jobs p member) ((grows p).0 ∙ same) in
    omega (arith, later, (grows p).1)

-- what is less after a move was less before
less_before : (n h : ℕ) (s : State) (m : Move) → Less n h (after s m) → Less n h s
less_before n h s (Prints q e) low = less_mapped n h s.jobs (placed_after q e) (λ p.
    let it = event_task q e p in
    (ap (λ (t : Task). t.number) it.1, omega (arith, ap (λ (t : Task). t.had) it.1))) low
less_before n h s (Waits k) low = less_mapped n h s.jobs (λ p. cond (eqb p.task.number k) (in_role p Waiting) p)
    (λ p. by_test p (eqb p.task.number k)) low where
      by_test : (p : Placed) (b : Bool) → ((cond b (in_role p Waiting) p).task.number ≡ p.task.number)
          × (p.task.had ≤ (cond b (in_role p Waiting) p).task.had)
      by_test p true = (refl, omega arith)
      by_test p false = (refl, omega arith)
less_before n h s Ticks low = less_mapped n h s.jobs ticked
    (λ p. ((tick_plain p).0, omega (arith, (tick_plain p).4))) low

-- the clock is as before, or the move is a tick
clock_after : (s : State) (m : Move) → ((after s m).clock ≡ s.clock) ⊎ (m ≡ Ticks)
clock_after s (Prints q e) = inl refl
clock_after s (Waits n) = inl refl
clock_after s Ticks = inr refl

module _ (processors : ℕ) (J : Instance) (valid : IsValid J) (some : 1 ≤ processors) where
  -- before a tick, the job that runs then had one less
  tick_before : (s : State) → Keeps processors J s → (p : Placed) → IsMember p (after s Ticks).jobs
      → p.task.role ≡ Running → Less p.task.number p.task.had s
  tick_before s keeps p member runs v v_member same =
      let was : (u : Placed) × IsMember u s.jobs × (p ≡ ticked u) = map_back ticked s.jobs p member in
      let plain = tick_plain was.0 in
      let number : p.task.number ≡ was.0.task.number = ap (λ (x : Placed). x.task.number) was.2 ∙ plain.0 in
      let ran : is_running was.0.task ≡ true = passes is_running was.0.task Running true
      (sym plain.2 ∙ ap (λ (x : Placed). x.task.role) (sym was.2) ∙ runs) refl in
      let had : p.task.had ≡ was.0.task.had + one (is_running was.0.task) =
      ap (λ (x : Placed). x.task.had) was.2 ∙ plain.4 in
      let more : was.0.task.had + one (is_running was.0.task) ≡ was.0.task.had + 1 =
      ap (λ b. was.0.task.had + one b) ran in
      let it : v ≡ was.0 = same_job processors J valid s keeps v was.0 v_member was.1 (same ∙ number) in
      omega (arith, had, more, ap (λ (x : Placed). x.task.had) it)

-- a job that runs behind a tick had it
tick_had : (s : State) (p : Placed) → IsMember p (after s Ticks).jobs → p.task.role ≡ Running → 1 ≤ p.task.had
tick_had s p member runs =
    let was : (u : Placed) × IsMember u s.jobs × (p ≡ ticked u) = map_back ticked s.jobs p member in
    let plain = tick_plain was.0 in
    let ran : is_running was.0.task ≡ true = passes is_running was.0.task Running true
    (sym plain.2 ∙ ap (λ (x : Placed). x.task.role) (sym was.2) ∙ runs) refl in
    let had : p.task.had ≡ was.0.task.had + one (is_running was.0.task) =
    ap (λ (x : Placed). x.task.had) was.2 ∙ plain.4 in
    let more : was.0.task.had + one (is_running was.0.task) ≡ was.0.task.had + 1 =
    ap (λ b. was.0.task.had + one b) ran in omega (arith, had, more)

-- ---- the settled steps

-- the step is taken before the mark, or at it, beside job n, where no job is fresh
abbrev pub IsEarlyOrBeside : ℕ → ℕ → many.Step → Type 0
IsEarlyOrBeside mark n x = (x.before.clock < mark)
    ⊎ ((x.before.clock ≡ mark) × NoneFresh x.before × IsBeside n x.move)

module _ (processors : ℕ) (J : Instance) (valid : IsValid J) (some : 1 ≤ processors) (mark n : ℕ) where
  abbrev step_of : State → Move
  step_of s = open_step processors J.rules s

  -- what is said of a printed step
  abbrev Says : many.Step → Type 0
  Says x = (q : ℕ) (e : Event) → x.move ≡ Prints q e → (tick_of_event e < mark) ⊎ (is_beside n e ≡ true)

  -- is so of the step
  one_is : (s : State) → Keeps processors J s → s.clock ≤ mark → (s.clock ≡ mark → NoneFresh s)
      → (step_of s ≡ Ticks → s.clock < mark)
      → ((q : ℕ) (e : Event) → step_of s ≡ Prints q e → (tick_of_event e < mark) ⊎ (is_beside n e ≡ true))
      → IsEarlyOrBeside mark n (record { before = s; move = step_of s })
  one_is s keeps low stale early says = by_clock (nat_lt s.clock mark) refl where
    by_move : (m : Move) → step_of s ≡ m → s.clock ≡ mark → IsOfTick s m
        → ((q : ℕ) (e : Event) → m ≡ Prints q e → (tick_of_event e < mark) ⊎ (is_beside n e ≡ true))
        → IsBeside n m
    by_move (Waits k) e here tick says = absurd (tick (stale here))
    by_move Ticks e here tick says = absurd (omega (arith, early e, here))
    by_move (Prints q x) e here tick says = by_said (says q x refl) where
      by_said : (tick_of_event x < mark) ⊎ (is_beside n x ≡ true) → is_beside n x ≡ true
      by_said (inl less) = absurd (omega (arith, less, tick, here))
      by_said (inr beside) = beside

    by_clock : (b : Bool) → nat_lt s.clock mark ≡ b → IsEarlyOrBeside mark n (record { before = s; move = step_of s })
    by_clock true e = inl (ltb-true _ _ e)
    by_clock false e =
        let high : mark ≤ s.clock = ltb-false _ _ e in
        let here : s.clock ≡ mark = omega (arith, high, low) in
        inr (here, stale here, by_move (step_of s) refl here (open_tick processors J valid some J.rules s keeps) says)

  -- behind it
  next_low : (s : State) → (step_of s ≡ Ticks → s.clock < mark) → s.clock ≤ mark → (after s (step_of s)).clock ≤ mark
  next_low s early low = by_clock (clock_after s (step_of s)) where
    by_clock : ((after s (step_of s)).clock ≡ s.clock) ⊎ (step_of s ≡ Ticks) → (after s (step_of s)).clock ≤ mark
    by_clock (inl same) = omega (arith, same, low)
    by_clock (inr ticks) = subst (λ m. (after s m).clock ≤ mark) (sym ticks) (omega (arith, early ticks))

  next_stale : (s : State) → Keeps processors J s → IsEarlyOrBeside mark n (record { before = s; move = step_of s })
      → (after s (step_of s)).clock ≡ mark → NoneFresh (after s (step_of s))
  next_stale s keeps (inr it) there = beside_stale n s (step_of s) it.2 it.1
  next_stale s keeps (inl low) there = by_clock (clock_after s (step_of s)) where
    by_clock : ((after s (step_of s)).clock ≡ s.clock) ⊎ (step_of s ≡ Ticks) → NoneFresh (after s (step_of s))
    by_clock (inl same) = absurd (omega (arith, low, same, there))
    by_clock (inr ticks) = subst (λ m. NoneFresh (after s m)) (sym ticks)
        (tick_stale processors J valid some J.rules s keeps (ap waits_for_mark ticks))

  -- so it is with all
  pub all_are : (xs : List many.Step) (s : State) → Keeps processors J s → s.clock ≤ mark
      → (s.clock ≡ mark → NoneFresh s) → IsSettledRun processors J.rules mark s xs → Each Says xs
      → Each (IsEarlyOrBeside mark n) xs
  all_are [] s keeps low stale run says y member = absurd member
  all_are (x ∷ xs) s keeps low stale run says y member = by_member member
      (all_are xs (after s (step_of s)) (open_kept processors J valid some J.rules s keeps) (next_low s early low)
      (next_stale s keeps here) run.2 (λ z m. says z (inr m)) y) where
        early : step_of s ≡ Ticks → s.clock < mark
        early ticks = late_early (waits_for_mark (step_of s)) mark s.clock run.1 (ap waits_for_mark ticks)

        here : IsEarlyOrBeside mark n (record { before = s; move = step_of s })
        here = one_is s keeps low stale early (subst Says run.0 (says x (inl refl)))

        by_member : IsMember y (x ∷ xs) → (IsMember y xs → IsEarlyOrBeside mark n y) → IsEarlyOrBeside mark n y
        by_member (inl e) rest = subst (IsEarlyOrBeside mark n) (sym (e ∙ run.0)) here
        by_member (inr m) rest = rest m

  -- what printed steps say is so of the steps
  pub said : (xs : List many.Step)
      → Each (λ x. (tick_of_event x.1 < mark) ⊎ (is_beside n x.1 ≡ true)) (shown xs) → Each Says xs
  said xs all x member q e is = all (q, e)
      (given_in (λ (y : many.Step). placed_event_of y.move) xs x (q, e) member (ap placed_event_of is))

module _ (processors : ℕ) (J : Instance) (valid : IsValid J) (some : 1 ≤ processors) (mark : ℕ) (p : Placed)
    (runs : p.task.role ≡ Running) where
  -- what is known of it on the way to the mark: before that it had less, and it had some
  abbrev pub Came : State → Type 0
  Came s = (s.clock < mark → Less p.task.number p.task.had s × (1 ≤ p.task.had)) × (s.clock ≡ mark → IsMember p s.jobs)

  came_before : (s : State) → Keeps processors J s
      → IsEarlyOrBeside mark p.task.number (record { before = s; move = open_step processors J.rules s })
      → Came (after s (open_step processors J.rules s)) → Came s
  came_before s keeps kind rest = (here, stays kind) where
    m : Move
    m = open_step processors J.rules s

    by_tick : s.clock < mark → m ≡ Ticks → (b : Bool) → nat_lt (s.clock + 1) mark ≡ b
        → Less p.task.number p.task.had s × (1 ≤ p.task.had)
    by_tick low ticks true e =
        let it = rest.0 (subst (λ (n : Move). (after s n).clock < mark) (sym ticks) (ltb-true _ _ e)) in
        (less_before p.task.number p.task.had s m it.0, it.1)
    by_tick low ticks false e =
        let high : mark ≤ s.clock + 1 = ltb-false _ _ e in
        let last : IsMember p (after s Ticks).jobs = subst (λ n. IsMember p (after s n).jobs) ticks
        (rest.1 (subst (λ (n : Move). (after s n).clock ≡ mark) (sym ticks) (omega (arith, high, low)))) in
        (tick_before processors J valid some s keeps p last runs, tick_had s p last runs)

    here : s.clock < mark → Less p.task.number p.task.had s × (1 ≤ p.task.had)
    here low = by_clock (clock_after s m) where
      by_clock : ((after s m).clock ≡ s.clock) ⊎ (m ≡ Ticks) → Less p.task.number p.task.had s × (1 ≤ p.task.had)
      by_clock (inl same) =
          let it = rest.0 (omega (arith, same, low)) in (less_before p.task.number p.task.had s m it.0, it.1)
      by_clock (inr ticks) = by_tick low ticks (nat_lt (s.clock + 1) mark) refl

    stays : IsEarlyOrBeside mark p.task.number (record { before = s; move = m }) → s.clock ≡ mark → IsMember p s.jobs
    stays (inl low) now = absurd (omega (arith, low, now))
    stays (inr it) now = beside_ran p s m runs it.2 (rest.1 (beside_clock p.task.number s m it.2 ∙ now))

  -- where the job runs at the mark, and no step of its tick gave it a processor
  pub had_less : (xs : List many.Step) (s : State) → Keeps processors J s → IsSettledRun processors J.rules mark s xs
      → IsMember p (behind s xs).jobs → (behind s xs).clock ≡ mark → Each (IsEarlyOrBeside mark p.task.number) xs
      → Came s × Each (λ x. x.before.clock < mark → Less p.task.number p.task.had x.before) xs
  had_less [] s keeps run member there all =
      ((λ low. absurd (omega (arith, low, there)), λ here. member), λ x none. absurd none)
  had_less (x ∷ xs) s keeps run member there all =
      let rest = had_less xs (after s (open_step processors J.rules s))
      (open_kept processors J valid some J.rules s keeps) run.2
      (subst (λ (z : many.Step). IsMember p (behind (after z.before z.move) xs).jobs) run.0 member)
      (subst (λ (z : many.Step). (behind (after z.before z.move) xs).clock ≡ mark) run.0 there)
      (λ y y_member. all y (inr y_member)) in
      let here = came_before s keeps (subst (IsEarlyOrBeside mark p.task.number) run.0 (all x (inl refl))) rest.0 in
      (here, by_member here rest.1) where
        by_member : Came s → Each (λ y. y.before.clock < mark → Less p.task.number p.task.had y.before) xs
            → Each (λ y. y.before.clock < mark → Less p.task.number p.task.had y.before) (x ∷ xs)
        by_member here rest y (inl e) =
            subst (λ (z : many.Step). z.before.clock < mark → Less p.task.number p.task.had z.before)
            (sym (e ∙ run.0)) (λ low. (here.0 low).0)
        by_member here rest y (inr y_member) = rest y y_member
