-- What is settled begins what is settled later, and what the run prints.
use Rattle.std.proofs.Common.{◌≡◌, ℕ, suc, zero, ◌+◌, ◌≤◌, ◌<◌, ◌⊎◌, inl, inr, List, [], ◌∷◌, ◌++◌, length, map, refl}
use Rattle.std.proofs.Common.{sym}
use Rattle.std.proofs.Common.{ap, ◌∙◌, subst, Bool, true, false, cond, arith, eqb, eqb-true, ◌&&◌, ◌||◌, ◌==◌}
use Rattle.std.proofs.Common.{Option, Some, None, filter}
use Rattle.std.specs.Prelude.{filter_map}
use Rattle.std.specs.Bool.{then_some}
use Rattle.std.specs.List.{list_any, list_all, cons_option}
use Rattle.std.proofs.lemmas.List.{map-append}
use Rattle.dover_model.specs.declared.events.Event.{Event}
use Rattle.dover_model.specs.declared.events.Event.TheVariants.{Run, Preempt, Take, Complete, Abandon, End, Release}
use Rattle.dover_model.specs.declared.events.Role.TheVariants.{Coming, Fresh, Waiting, Held, Running, Done, Gone}
use Rattle.dover_model.specs.declared.events.Task.{Task}
use Rattle.dover_model.specs.JobFacts.{JobFacts}
use Rattle.dover_model.specs.Fraction.{Fraction}
use Rattle.dover_model.specs.State as one
use Rattle.dover_model.specs.Step as single
use Rattle.dover_model.specs.WholeRun.{Begins}
use Rattle.dover_model.specs.Common.{Rules, Instance, IsValid, with_jobs, is_over, is_done, is_running, is_privileged}
use Rattle.dover_model.specs.Common.{is_ready_behind, value_sum, IsMember, Each, IsNumberedFrom, to_come}
use Rattle.dover_model.proofs.lists.Tests.{never}
use Rattle.dover_model.proofs.lists.Members.{map_same, map_self, on_map, all_each, member_front, member_behind}
use Rattle.dover_model.proofs.lists.Members.{map_member}
use Rattle.dover_model.proofs.settled.Later.{any_front, role_passes}
use Rattle.dover_model.proofs.settled.Prefixes.{come_append}
use Rattle.dover_model.proofs.settled.Settling.{late_early, at_barrier}
use Rattle.dover_model.proofs.steps.Deeds.{Deed, Completed, Resumed, Started, Began, Preempted, Stayed, Arrived}
use Rattle.dover_model.proofs.steps.Deeds.{Taken, Abandoned, Rested, deed_of}
use Rattle.dover_model.proofs.steps.Kept.{come_coming}
use Rattle.dover_model.proofs.steps.Roles.{passes}
use Rattle.dover_model.proofs.valid.Valid.{valid_front}
use Rattle.many_processors.specs.State.{Placed, State, tasks_of, seen_by, seen_from, opening, unplaced}
use Rattle.many_processors.specs.Step.{Move, Prints, Waits, Ticks, on, Seen, seen, all_seen, step, open_step, after}
use Rattle.many_processors.specs.Step.{placed_after, in_role, placed_on, is_own_of, ticked, with_tick, pressed_after}
use Rattle.many_processors.specs.Step.{urgent_or, ◌or_else◌}
use Rattle.many_processors.specs.Run as many
use Rattle.many_processors.specs.Run.{run_from, run, enough, is_end, HasEnd, placed_event_of, printed_on}
use Rattle.many_processors.specs.Sound.{Keeps}
use Rattle.many_processors.specs.Settled.{waits_for_mark, settled_steps, settled, with_later, AllComeFrom, IsBefore}
use Rattle.many_processors.specs.Settled.{IsSettledRun}
use Rattle.many_processors.proofs.steps.Seeing.{each_sees, seen_either}
use Rattle.many_processors.proofs.steps.Cases as cases
use Rattle.many_processors.proofs.steps.Cases.{StepCase, open_case}
use Rattle.many_processors.proofs.steps.Placing.{seen_same, seen_of, seen_is}
use Rattle.many_processors.proofs.steps.Stepping.{real}
use Rattle.many_processors.proofs.steps.Turns.{which, running_job, open_kept, opening_kept}
use Rattle.many_processors.proofs.runs.EachStep.{open_goes_on}
use Rattle.many_processors.proofs.runs.Honest.{tasks_numbered}
use Rattle.many_processors.proofs.runs.RunEnds.{run_ends}
use Rattle.many_processors.proofs.settled.Later.{same_step}
use Rattle.many_processors.proofs.settled.Settling.{settled_is_run}

-- ---- which jobs a move names

abbrev pub names_of : Event → List ℕ
names_of (Release n job) = n ∷ []
names_of (Run at n) = n ∷ []
names_of (Preempt at r n) = n ∷ r ∷ []
names_of (Take at r n) = n ∷ []
names_of (Complete at n) = n ∷ []
names_of (Abandon at n) = n ∷ []
names_of (End value) = []

abbrev pub named_by : Move → List ℕ
named_by (Prints q e) = names_of e
named_by (Waits n) = n ∷ []
named_by Ticks = []

-- a job of this number is among these tasks, and isn't over
abbrev IsOpenOne : List Task → ℕ → Type 0
IsOpenOne tasks n = (t : Task) × IsMember t tasks × (t.number ≡ n) × (is_over t ≡ false)

-- one job, or two
one_name : (tasks : List Task) (t : Task) → IsMember t tasks → is_over t ≡ false
    → Each (IsOpenOne tasks) (t.number ∷ [])
one_name tasks t member stays n (inl e) = (t, member, sym e, stays)
one_name tasks t member stays n (inr none) = absurd none

two_names : (tasks : List Task) (t u : Task) → IsMember t tasks → is_over t ≡ false → IsMember u tasks
    → is_over u ≡ false → Each (IsOpenOne tasks) (t.number ∷ u.number ∷ [])
two_names tasks t u t_member t_stays u_member u_stays n (inl e) = (t, t_member, sym e, t_stays)
two_names tasks t u t_member t_stays u_member u_stays n (inr later) = one_name tasks u u_member u_stays n later

-- each deed names jobs that it finds
deed_names : (k : Fraction) (s : one.State) (q : ℕ) (m : single.Move) → Deed k s (single.Prints (End 0)) m
    → Each (IsOpenOne s.tasks) (named_by (on q m))
deed_names k s q m (Completed r member runs) = one_name s.tasks r member (passes is_over r Running false runs refl)
deed_names k s q m (Resumed p member held none least why) =
    one_name s.tasks p member (passes is_over p Held false held refl)
deed_names k s q m (Started o member waits none first fits next) =
    one_name s.tasks o member (passes is_over o Waiting false waits refl)
deed_names k s q m (Began f member fresh none free) =
    one_name s.tasks f member (passes is_over f Fresh false fresh refl)
deed_names k s q m (Preempted r f member runs some f_member fresh before fits) = two_names s.tasks f r f_member
    (passes is_over f Fresh false fresh refl) member (passes is_over r Running false runs refl)
deed_names k s q m (Stayed r f member runs some f_member fresh why) =
    one_name s.tasks f f_member (passes is_over f Fresh false fresh refl)
deed_names k s q m (Arrived c member comes now first stale busy free) =
    one_name s.tasks c member (passes is_over c Coming false comes refl)
deed_names k s q m (Taken r x member runs some x_member waits now stale heavy) =
    one_name s.tasks x x_member (passes is_over x Waiting false waits refl)
deed_names k s q m (Abandoned r x member runs some x_member waits now stale light) =
    one_name s.tasks x x_member (passes is_over x Waiting false waits refl)
deed_names k s q m (Rested quiet) = λ n none. absurd none

-- a job of this number is in the state, and isn't over
abbrev pub IsHere : State → ℕ → Type 0
IsHere s n = (p : Placed) × IsMember p s.jobs × (p.task.number ≡ n) × (is_over p.task ≡ false)

module _ (processors : ℕ) (J : Instance) (valid : IsValid J) (some : 1 ≤ processors) (rules : Rules) (s : State)
    (keeps : Keeps processors J s) where
  abbrev all : List Seen
  all = all_seen processors rules.version s

  acts_name : (i : ℕ) (gone : Bool) (m : Move) → cases.Acts rules.ratio (seen rules.version s i) gone m
      → Each (IsHere s) (named_by m)
  acts_name i gone m acts n member =
      let t = deed_names rules.ratio (seen_from i s) i acts.move
      (deed_of rules.ratio rules.version (seen_from i s) (single.Prints (End 0)) (keeps.sound i)
      (real processors J valid s keeps i) acts.move acts.case) n
      (subst (λ m. IsMember n (named_by m)) acts.is member) in
      let p = seen_of i s.jobs t.0 t.1 in
      let same : seen_by i p.0 ≡ (p.0).task = seen_is i p.0 (λ done. never (sym t.3
      ∙ ap is_over (sym p.2) ∙ passes is_over (seen_by i p.0) Done true done refl)) in
      (p.0, p.1, sym (seen_same i p.0).0 ∙ ap (λ (u : Task). u.number) p.2 ∙ t.2, ap is_over (sym same ∙ p.2) ∙ t.3)

  only_here : (x : Placed) → IsMember x s.jobs → is_over x.task ≡ false → Each (IsHere s) (x.task.number ∷ [])
  only_here x member stays n (inl e) = (x, member, sym e, stays)
  only_here x member stays n (inr none) = absurd none

  -- a step names jobs of its state that aren't over
  pub named_here : (may_end : Bool) (m : Move) → StepCase may_end rules s all m → Each (IsHere s) (named_by m)
  named_here may_end m (cases.Completed q member t runs finished) =
      let i = which processors J valid some rules s keeps q member in
      let x = running_job processors J valid some rules s keeps q.processor t
      (subst (λ (r : Seen). r.view.running ≡ Some t) i.0 runs) in
      subst (λ k. Each (IsHere s) (k ∷ [])) (ap (λ (u : Task). u.number) x.2) (only_here x.0 x.1
      (passes is_over x.0.task Running false x.3 refl))
  named_here may_end m (cases.Acted q member n acts going decided) =
      let i = which processors J valid some rules s keeps q member in
      acts_name q.processor false m (subst (λ r. cases.Acts rules.ratio r false m) i.0 acts)
  named_here may_end m (cases.Abandoned q member n acts it going light) =
      let i = which processors J valid some rules s keeps q member in
      acts_name q.processor true m (subst (λ r. cases.Acts rules.ratio r true m) i.0 acts)
  named_here may_end m (cases.Ended may over) = λ n none. absurd none
  named_here may_end m (cases.Rested quiet unended) = λ n none. absurd none

  -- ---- where all jobs are over, the open step is silent

  over_acts : (all_over : Each (λ p. is_over p.task ≡ true) s.jobs) (i : ℕ) (gone : Bool) (m : Move)
      → cases.Acts rules.ratio (seen rules.version s i) gone m → ⊥
  over_acts all_over i gone m acts = by_deed acts.move
      (deed_of rules.ratio rules.version (seen_from i s) (single.Prints (End 0)) (keeps.sound i)
      (real processors J valid s keeps i) acts.move acts.case) acts.goes_on where
        over_seen : Each (λ t. is_over t ≡ true) (map (seen_by i) s.jobs)
        over_seen = on_map (seen_by i) (λ t. is_over t ≡ true) s.jobs
            (λ p member. by_test p member (one_seen p)) where
              one_seen : (p : Placed) → (seen_by i p ≡ p.task) ⊎ (is_over (seen_by i p) ≡ true)
              one_seen p = elim (seen_either i p) [ inl it ↦ inl it.0 | inr it ↦ inr (ap is_over it.0) ]

              by_test : (p : Placed) → IsMember p s.jobs → (seen_by i p ≡ p.task) ⊎ (is_over (seen_by i p) ≡ true)
                  → is_over (seen_by i p) ≡ true
              by_test p member (inl same) = ap is_over same ∙ all_over p member
              by_test p member (inr over) = over

        none_open : (n : ℕ) → IsOpenOne (map (seen_by i) s.jobs) n → ⊥
        none_open n t = never (sym t.3 ∙ over_seen t.0 t.1)

        by_deed : (n : single.Move) → Deed rules.ratio (seen_from i s) (single.Prints (End 0)) n
            → cases.is_ending n ≡ false → ⊥
        by_deed n (Rested quiet) goes = never (sym goes)
        by_deed n (Completed r member runs) goes =
            none_open r.number (r, member, refl, passes is_over r Running false runs refl)
        by_deed n (Resumed p member held none least why) goes = none_open p.number
            (p, member, refl, passes is_over p Held false held refl)
        by_deed n (Started o member waits none first fits next) goes = none_open o.number
            (o, member, refl, passes is_over o Waiting false waits refl)
        by_deed n (Began f member fresh none free) goes = none_open f.number
            (f, member, refl, passes is_over f Fresh false fresh refl)
        by_deed n (Preempted r f member runs some f_member fresh before fits) goes = none_open f.number
            (f, f_member, refl, passes is_over f Fresh false fresh refl)
        by_deed n (Stayed r f member runs some f_member fresh why) goes = none_open f.number
            (f, f_member, refl, passes is_over f Fresh false fresh refl)
        by_deed n (Arrived c member comes now first stale busy free) goes = none_open c.number
            (c, member, refl, passes is_over c Coming false comes refl)
        by_deed n (Taken r x member runs some x_member waits now stale heavy) goes = none_open x.number
            (x, x_member, refl, passes is_over x Waiting false waits refl)
        by_deed n (Abandoned r x member runs some x_member waits now stale light) goes = none_open x.number
            (x, x_member, refl, passes is_over x Waiting false waits refl)

  over_ticks : (m : Move) → Each (λ p. is_over p.task ≡ true) s.jobs → StepCase false rules s all m → m ≡ Ticks
  over_ticks m all_over (cases.Completed q member t runs finished) =
      let i = which processors J valid some rules s keeps q member in
      let x = running_job processors J valid some rules s keeps q.processor t
      (subst (λ (r : Seen). r.view.running ≡ Some t) i.0 runs) in
      never (sym (passes is_over x.0.task Running false x.3 refl) ∙ all_over x.0 x.1)
  over_ticks m all_over (cases.Acted q member n acts going decided) =
      let i = which processors J valid some rules s keeps q member in
      absurd (over_acts all_over q.processor false m (subst (λ r. cases.Acts rules.ratio r false m) i.0 acts))
  over_ticks m all_over (cases.Abandoned q member n acts it going light) =
      let i = which processors J valid some rules s keeps q member in
      absurd (over_acts all_over q.processor true m (subst (λ r. cases.Acts rules.ratio r true m) i.0 acts))
  over_ticks m all_over (cases.Ended may over) = never may
  over_ticks m all_over (cases.Rested quiet unended) = refl

  -- and a step that may be the end is it
  pub over_ends : (m : Move) → Each (λ p. is_over p.task ≡ true) s.jobs → list_all is_over (tasks_of s.jobs) ≡ true
      → StepCase true rules s all m → is_end m ≡ true
  over_ends m all_over listed (cases.Completed q member t runs finished) =
      let i = which processors J valid some rules s keeps q member in
      let x = running_job processors J valid some rules s keeps q.processor t
      (subst (λ (r : Seen). r.view.running ≡ Some t) i.0 runs) in
      never (sym (passes is_over x.0.task Running false x.3 refl) ∙ all_over x.0 x.1)
  over_ends m all_over listed (cases.Acted q member n acts going decided) =
      let i = which processors J valid some rules s keeps q member in
      absurd (over_acts all_over q.processor false m (subst (λ r. cases.Acts rules.ratio r false m) i.0 acts))
  over_ends m all_over listed (cases.Abandoned q member n acts it going light) =
      let i = which processors J valid some rules s keeps q member in
      absurd (over_acts all_over q.processor true m (subst (λ r. cases.Acts rules.ratio r true m) i.0 acts))
  over_ends m all_over listed (cases.Ended may over) = refl
  over_ends m all_over listed (cases.Rested quiet unended) = never (sym (unended refl) ∙ listed)

-- ---- jobs behind are left alone

-- an event leaves a job on no processor that it doesn't name
pub event_behind : (q : ℕ) (e : Event) (p : Placed) → is_privileged p.task ≡ false
    → Each (λ n. p.task.number ≡ n → ⊥) (names_of e) → placed_after q e p ≡ p
event_behind q (Release n job) p off apart = by_test (eqb p.task.number n) refl where
  by_test : (b : Bool) → eqb p.task.number n ≡ b → cond b (in_role p Fresh) p ≡ p
  by_test true same = absurd (apart n (inl refl) (eqb-true _ _ same))
  by_test false other = refl
event_behind q (Run at n) p off apart = by_test (eqb p.task.number n) refl where
  by_test : (b : Bool) → eqb p.task.number n ≡ b → cond b (placed_on q p) p ≡ p
  by_test true same = absurd (apart n (inl refl) (eqb-true _ _ same))
  by_test false other = refl
event_behind q (Preempt at r n) p off apart = by_test (eqb p.task.number n) (eqb p.task.number r) refl refl where
  by_test : (b c : Bool) → eqb p.task.number n ≡ b → eqb p.task.number r ≡ c
      → cond b (placed_on q p) (cond c (in_role p Held) p) ≡ p
  by_test true c same other = absurd (apart n (inl refl) (eqb-true _ _ same))
  by_test false true other same = absurd (apart r (inr (inl refl)) (eqb-true _ _ same))
  by_test false false other others = refl
event_behind q (Take at r n) p off apart = by_test (eqb p.task.number n) (is_own_of q p) refl
    (ap (λ b. b && p.owner == q) off) where
      by_test : (b c : Bool) → eqb p.task.number n ≡ b → c ≡ false
          → cond b (placed_on q p) (cond c (in_role p Waiting) p) ≡ p
      by_test true c same none = absurd (apart n (inl refl) (eqb-true _ _ same))
      by_test false true other none = never (sym none)
      by_test false false other none = refl
event_behind q (Complete at n) p off apart = by_test (eqb p.task.number n) refl where
  by_test : (b : Bool) → eqb p.task.number n ≡ b → cond b (in_role p Done) p ≡ p
  by_test true same = absurd (apart n (inl refl) (eqb-true _ _ same))
  by_test false other = refl
event_behind q (Abandon at n) p off apart = by_test (eqb p.task.number n) refl where
  by_test : (b : Bool) → eqb p.task.number n ≡ b → cond b (in_role p Gone) p ≡ p
  by_test true same = absurd (apart n (inl refl) (eqb-true _ _ same))
  by_test false other = refl
event_behind q (End value) p off apart = refl

-- what is pressed doesn't look at jobs to come
pressed_front : (e : Event) (pressed : Bool) (tasks more : List Task) → Each (λ t. t.role ≡ Coming) more
    → pressed_after e pressed (tasks ++ more) ≡ pressed_after e pressed tasks
pressed_front (Complete at n) pressed tasks more coming = ap (λ b. pressed && b)
    (any_front is_ready_behind tasks more (role_passes is_ready_behind (λ _. refl) more coming))
pressed_front (Release n job) pressed tasks more coming = refl
pressed_front (Run at n) pressed tasks more coming = refl
pressed_front (Preempt at r n) pressed tasks more coming = refl
pressed_front (Take at r n) pressed tasks more coming = refl
pressed_front (Abandon at n) pressed tasks more coming = refl
pressed_front (End value) pressed tasks more coming = refl

module _ (s : State) (more : List Placed) (coming : Each (λ p. p.task.role ≡ Coming) more) where
  -- a change that leaves them
  changed_front : (h : Placed → Placed) → Each (λ p. h p ≡ p) more
      → map h (s.jobs ++ more) ≡ map h s.jobs ++ more
  changed_front h same = map-append h s.jobs more
      ∙ ap (λ ps. map h s.jobs ++ ps) (map_same h (λ p. p) more same ∙ map_self (λ p. p) more (λ p. refl))

  -- after a move that names none of them
  after_later : (m : Move) → Each (λ p. Each (λ n. p.task.number ≡ n → ⊥) (named_by m)) more
      → after (with_later s more) m ≡ with_later (after s m) more
  after_later (Prints q e) apart =
      ap (λ js. record { clock = s.clock; jobs = js; pressed = pressed_after e s.pressed (tasks_of js) })
      (changed_front (placed_after q e) (λ p member. event_behind q e p
      (passes is_privileged p.task Coming false (coming p member) refl) (apart p member)))
      ∙ ap (λ b. record { clock = s.clock; jobs = map (placed_after q e) s.jobs ++ more; pressed = b })
      (ap (pressed_after e s.pressed) (map-append (λ (p : Placed). p.task) (map (placed_after q e) s.jobs) more)
      ∙ pressed_front e s.pressed (tasks_of (map (placed_after q e) s.jobs)) (tasks_of more)
      (on_map (λ (p : Placed). p.task) (λ t. t.role ≡ Coming) more coming))
  after_later (Waits n) apart = ap (λ js. record { clock = s.clock; jobs = js; pressed = s.pressed })
      (changed_front (λ p. cond (eqb p.task.number n) (in_role p Waiting) p)
      (λ p member. by_test p member (eqb p.task.number n) refl)) where
        by_test : (p : Placed) → IsMember p more → (b : Bool) → eqb p.task.number n ≡ b
            → cond b (in_role p Waiting) p ≡ p
        by_test p member true same = absurd (apart p member n (inl refl) (eqb-true _ _ same))
        by_test p member false other = refl
  after_later Ticks apart = ap (λ js. record { clock = s.clock + 1; jobs = js; pressed = s.pressed })
      (changed_front ticked (λ p member. ap (λ b. cond b (record { task = with_tick p.task; owner = p.owner }) p)
      (passes is_running p.task Coming false (coming p member) refl)))

-- ---- printed steps

abbrev pub shown : List many.Step → List (ℕ × Event)
shown steps = filter_map (λ step. placed_event_of step.move) steps

-- nothing begins each list
begins_nothing : (es : List (ℕ × Event)) → Begins [] es
begins_nothing es = (es, refl)

begins_cons : (e : Option (ℕ × Event)) (es fs : List (ℕ × Event)) → Begins es fs
    → Begins (cons_option e es) (cons_option e fs)
begins_cons None es fs it = it
begins_cons (Some e) es fs it = (it.0, ap (λ xs. e ∷ xs) it.1)

-- a step is an open step, where some job isn't over
pub step_open : (processors : ℕ) (rules : Rules) (s : State) → list_all is_over (tasks_of s.jobs) ≡ false
    → step processors rules s ≡ open_step processors rules s
step_open processors rules s some = ap (λ b. urgent_or rules (all_seen processors rules.version s)
    (then_some b (Prints 0 (End (value_sum (filter is_done (tasks_of s.jobs))))) or_else Ticks)) some

-- jobs that are over stay so in a tick
over_ticked : (jobs : List Placed) → Each (λ p. is_over p.task ≡ true) jobs
    → Each (λ p. is_over p.task ≡ true) (map ticked jobs)
over_ticked jobs over = on_map ticked (λ p. is_over p.task ≡ true) jobs
    (λ p member. by_test p member (is_running p.task)) where
      by_test : (p : Placed) → IsMember p jobs → (b : Bool)
          → is_over (cond b (record { task = with_tick p.task; owner = p.owner }) p).task ≡ true
      by_test p member true = over p member
      by_test p member false = over p member

module _ (processors : ℕ) (some : 1 ≤ processors) (J : Instance) (valid : IsValid J) (rules : Rules) (mark : ℕ) where
  pub open_here : (s : State)
      → StepCase false rules s (all_seen processors rules.version s) (open_step processors rules s)
  open_here s = open_case rules s (all_seen processors rules.version s) (each_sees processors rules.version s)

  -- where all jobs are over, the open step is silent, and all stay over
  pub over_open : (s : State) → Keeps processors J s → Each (λ p. is_over p.task ≡ true) s.jobs
      → (open_step processors rules s ≡ Ticks)
      × Each (λ p. is_over p.task ≡ true) (after s (open_step processors rules s)).jobs
  over_open s keeps over =
      let ticks = over_ticks processors J valid some rules s keeps (open_step processors rules s) over (open_here s) in
      (ticks, subst (λ m. Each (λ p. is_over p.task ≡ true) (after s m).jobs) (sym ticks) (over_ticked s.jobs over))

  -- so nothing more is settled
  over_silent : (xs : List many.Step) (s : State) → Keeps processors J s → Each (λ p. is_over p.task ≡ true) s.jobs
      → IsSettledRun processors rules mark s xs → shown xs ≡ []
  over_silent [] s keeps over run = refl
  over_silent (x ∷ xs) s keeps over run =
      let it = over_open s keeps over in
      ap (λ (y : many.Step). cons_option (placed_event_of y.move) (shown xs)) run.0
      ∙ ap (λ m. cons_option (placed_event_of m) (shown xs)) it.0
      ∙ over_silent xs (after s (open_step processors rules s)) (open_kept processors J valid some rules s keeps)
      it.1 run.2

module _ (processors : ℕ) (some : 1 ≤ processors) (J : Instance) (valid : IsValid J) (K : Instance)
    (valid_more : IsValid K) (rules : Rules) (mark : ℕ) (more : List Placed) (come : AllComeFrom mark more) where
  -- before the barrier, the open step is the same, and the state after it
  module _ (s : State) (keeps : Keeps processors J s) (keeps_more : Keeps processors K (with_later s more))
      (before : IsBefore processors rules mark s) where
    pub behind_step : open_step processors rules (with_later s more) ≡ open_step processors rules s
    behind_step = same_step s more come.0 processors rules mark come.1
        (late_early (waits_for_mark (open_step processors rules s)) mark s.clock before)

    -- no job behind has the number of one in front
    apart : Each (λ p. Each (λ n. p.task.number ≡ n → ⊥) (named_by (open_step processors rules s))) more
    apart p member n named same =
        let x = named_here processors J valid some rules s keeps false (open_step processors rules s)
        (open_here processors some J valid rules mark s) n named in
        two_lists 0 s.jobs more (tasks_numbered processors K (with_later s more) keeps_more) x.0 p x.1 member
        (x.2 ∙ sym same) where
          above : (k : ℕ) (ps : List Placed) → IsNumberedFrom k (tasks_of ps) → Each (λ u. k ≤ u.task.number) ps
          above k [] row u m = absurd m
          above k (y ∷ ps) row u (inl e) = omega (arith, row.0, ap (λ (z : Placed). z.task.number) e)
          above k (y ∷ ps) row u (inr m) = omega (arith, above (suc k) ps row.1 u m)

          two_lists : (k : ℕ) (ps qs : List Placed) → IsNumberedFrom k (tasks_of (ps ++ qs)) → (u v : Placed)
              → IsMember u ps → IsMember v qs → u.task.number ≡ v.task.number → ⊥
          two_lists k [] qs row u v mu mv same = mu
          two_lists k (y ∷ ps) qs row u v (inl e) mv same = omega (
            arith,
            row.0,
            ap (λ (z : Placed). z.task.number) e,
            same,
            above (suc k) (ps ++ qs) row.1 v (member_behind ps qs v mv),
          )
          two_lists k (y ∷ ps) qs row u v (inr mu) mv same = two_lists (suc k) ps qs row.1 u v mu mv same

    pub behind_after : after (with_later s more) (open_step processors rules s)
        ≡ with_later (after s (open_step processors rules s)) more
    behind_after = after_later s more come.0 (open_step processors rules s) apart

    pub behind_keeps : Keeps processors K (with_later (after s (open_step processors rules s)) more)
    behind_keeps = subst (Keeps processors K)
        (ap (after (with_later s more)) behind_step ∙ behind_after)
        (open_kept processors K valid_more some rules (with_later s more) keeps_more)

  -- what is settled begins what is settled later
  settled_begins_settled : (mark2 : ℕ) → mark ≤ mark2 → (xs ys : List many.Step) (s : State) → Keeps processors J s
      → Keeps processors K (with_later s more) → IsSettledRun processors rules mark s xs
      → IsSettledRun processors rules mark2 (with_later s more) ys → Begins (shown xs) (shown ys)
  settled_begins_settled mark2 later [] ys s keeps keeps_more run longer = begins_nothing (shown ys)
  settled_begins_settled mark2 later (x ∷ xs) [] s keeps keeps_more run longer =
      let it = at_barrier (waits_for_mark (open_step processors rules (with_later s more))) mark2 s.clock longer in
      let early : s.clock < mark = late_early (waits_for_mark (open_step processors rules s)) mark s.clock run.1
      (sym (ap waits_for_mark (behind_step s keeps keeps_more run.1)) ∙ it.0) in
      absurd (omega (arith, it.1, early, later))
  settled_begins_settled mark2 later (x ∷ xs) (y ∷ ys) s keeps keeps_more run longer =
      let to = ap (after (with_later s more)) (behind_step s keeps keeps_more run.1)
      ∙ behind_after s keeps keeps_more run.1 in
      let rest : Begins (shown xs) (shown ys) =
      settled_begins_settled mark2 later xs ys (after s (open_step processors rules s))
      (open_kept processors J valid some rules s keeps)
      (behind_keeps s keeps keeps_more run.1) run.2
      (subst (λ (z : State). IsSettledRun processors rules mark2 z ys) to longer.2) in
      let same : y.move ≡ x.move = ap (λ (z : many.Step). z.move) longer.0 ∙ behind_step s keeps keeps_more run.1
      ∙ sym (ap (λ (z : many.Step). z.move) run.0) in
      subst (λ m. Begins (cons_option (placed_event_of x.move) (shown xs)) (cons_option (placed_event_of m) (shown ys)))
      (sym same) (begins_cons (placed_event_of x.move) (shown xs) (shown ys) rest)

  -- the steps of a run from a state with jobs behind, where the first is this one
  abbrev pub from_move : ℕ → State → Move → List many.Step
  from_move fuel z m = record { before = z; move = m }
      ∷ elim (is_end m) [ true ↦ [] | false ↦ run_from processors rules fuel (after z m) ]

  -- what is settled begins what the run prints
  settled_begins_run : (xs : List many.Step) (s : State) → Keeps processors J s
      → Keeps processors K (with_later s more) → IsSettledRun processors rules mark s xs
      → (fuel : ℕ) → HasEnd (run_from processors rules fuel (with_later s more))
      → Begins (shown xs) (shown (run_from processors rules fuel (with_later s more)))
  settled_begins_run [] s keeps keeps_more run fuel ends =
      begins_nothing (shown (run_from processors rules fuel (with_later s more)))
  settled_begins_run (x ∷ xs) s keeps keeps_more run zero ends = never ends
  settled_begins_run (x ∷ xs) s keeps keeps_more run (suc fuel) ends =
      by_over (list_all is_over (tasks_of (s.jobs ++ more))) refl
      (settled_begins_run xs (after s (open_step processors rules s)) (open_kept processors J valid some rules s keeps)
      (behind_keeps s keeps keeps_more run.1) run.2 fuel) where
        open_m : Move
        open_m = open_step processors rules s

        z : State
        z = with_later s more

        in_front : Each (λ t. is_over t ≡ true) (tasks_of (s.jobs ++ more)) → Each (λ p. is_over p.task ≡ true) s.jobs
        in_front over p member = over p.task (map_member (λ (u : Placed). u.task) (s.jobs ++ more) p
            (member_front s.jobs more p member))

        by_end : (b : Bool) → is_end open_m ≡ b → b ≡ false
            → (HasEnd (run_from processors rules fuel (with_later (after s open_m) more))
            → Begins (shown xs) (shown (run_from processors rules fuel (with_later (after s open_m) more))))
            → list_any (λ y. is_end y.move) (record { before = z; move = open_m }
            ∷ elim b [ true ↦ [] | false ↦ run_from processors rules fuel (after z open_m) ]) ≡ true
            → Begins (shown (x ∷ xs)) (shown (record { before = z; move = open_m }
            ∷ elim b [ true ↦ [] | false ↦ run_from processors rules fuel (after z open_m) ]))
        by_end true e on rest ends = never (sym on)
        by_end false e on rest ends =
            let to : after z open_m ≡ with_later (after s open_m) more = behind_after s keeps keeps_more run.1 in
            let onward : HasEnd (run_from processors rules fuel (after z open_m)) =
            ap (λ b. b || list_any (λ y. is_end y.move) (run_from processors rules fuel (after z open_m))) (sym e)
            ∙ ends in
            let tail : Begins (shown xs) (shown (run_from processors rules fuel (after z open_m))) =
            subst (λ (u : State). Begins (shown xs) (shown (run_from processors rules fuel u))) (sym to)
            (rest (subst (λ (u : State). HasEnd (run_from processors rules fuel u)) to onward)) in
            subst (λ m. Begins (cons_option (placed_event_of m) (shown xs)) (cons_option (placed_event_of open_m)
            (shown (run_from processors rules fuel (after z open_m))))) (sym (ap (λ (y : many.Step). y.move) run.0))
            (begins_cons (placed_event_of open_m) (shown xs)
            (shown (run_from processors rules fuel (after z open_m))) tail)

        by_over : (b : Bool) → list_all is_over (tasks_of (s.jobs ++ more)) ≡ b
            → (HasEnd (run_from processors rules fuel (with_later (after s open_m) more))
            → Begins (shown xs) (shown (run_from processors rules fuel (with_later (after s open_m) more))))
            → Begins (shown (x ∷ xs)) (shown (run_from processors rules (suc fuel) z))
        by_over true over rest = subst (λ (es : List (ℕ × Event)). Begins es
            (shown (run_from processors rules (suc fuel) z)))
            (sym (over_silent processors some J valid rules mark (x ∷ xs) s keeps
            (in_front (all_each is_over (tasks_of (s.jobs ++ more)) over)) run))
            (begins_nothing (shown (run_from processors rules (suc fuel) z)))
        by_over false unended rest =
            subst (λ m. list_any (λ y. is_end y.move) (from_move fuel z m) ≡ true
            → Begins (shown (x ∷ xs)) (shown (from_move fuel z m)))
            (sym (step_open processors rules z unended ∙ behind_step s keeps keeps_more run.1))
            (by_end (is_end open_m) refl (open_goes_on open_m (open_here processors some J valid rules mark s))
            rest) ends

-- ---- of instances

-- jobs to come, of none
abbrev pub come_behind : ℕ → List JobFacts → List Placed
come_behind n jobs = map unplaced (to_come n jobs)

pub come_from : (mark n : ℕ) (jobs : List JobFacts) → Each (λ j. mark ≤ j.release) jobs
    → AllComeFrom mark (come_behind n jobs)
come_from mark n jobs late = (
  on_map unplaced (λ p. p.task.role ≡ Coming) (to_come n jobs) (λ t member. (come_coming n jobs t member).0),
  on_map unplaced (λ p. mark ≤ p.task.job.release) (to_come n jobs) (releases n jobs late),
) where
  releases : (n : ℕ) (jobs : List JobFacts) → Each (λ j. mark ≤ j.release) jobs
      → Each (λ (t : Task). mark ≤ t.job.release) (to_come n jobs)
  releases n [] late t member = absurd member
  releases n (j ∷ jobs) late t (inl e) = subst (λ (x : Task). mark ≤ x.job.release) (sym e) (late j (inl refl))
  releases n (j ∷ jobs) late t (inr member) = releases (suc n) jobs (λ i m. late i (inr m)) t member

module _ (processors : ℕ) (some : 1 ≤ processors) (J : Instance) (more : List JobFacts) (mark : ℕ)
    (valid_more : IsValid (with_jobs J more)) (late : Each (λ j. mark ≤ j.release) more) where
  pub front_valid : IsValid J
  front_valid = valid_front J more valid_more

  -- the opening with jobs behind
  pub opening_later : opening (J.jobs ++ more) ≡ with_later (opening J.jobs) (come_behind (length J.jobs) more)
  opening_later = ap (λ js. record { clock = 0; jobs = js; pressed = false })
      (ap (map unplaced) (come_append 0 J.jobs more
      ∙ ap (λ n. to_come 0 J.jobs ++ to_come n more) (omega arith))
      ∙ map-append unplaced (to_come 0 J.jobs) (to_come (length J.jobs) more))

  -- it is a sound state of all jobs
  pub later_keeps : Keeps processors (with_jobs J more)
      (with_later (opening J.jobs) (come_behind (length J.jobs) more))
  later_keeps = subst (Keeps processors (with_jobs J more)) opening_later (opening_kept processors (with_jobs J more))

  -- the settled steps begin those of a longer instance at a later mark
  pub settled_prefix : (mark2 : ℕ) → mark ≤ mark2
      → Begins (settled processors J mark) (settled processors (with_jobs J more) mark2)
  settled_prefix mark2 later =
      settled_begins_settled processors some J front_valid (with_jobs J more) valid_more J.rules mark
      (come_behind (length J.jobs) more) (come_from mark (length J.jobs) more late) mark2 later
      (settled_steps processors J mark) (settled_steps processors (with_jobs J more) mark2) (opening J.jobs)
      (opening_kept processors J) later_keeps (settled_is_run processors J front_valid some mark)
      (subst (λ (z : State). IsSettledRun processors J.rules mark2 z
      (settled_steps processors (with_jobs J more) mark2))
      opening_later (settled_is_run processors (with_jobs J more) valid_more some mark2))

  -- and what the run of a longer instance prints
  pub printed_prefix : Begins (settled processors J mark) (printed_on processors (with_jobs J more))
  printed_prefix = subst (λ (z : State). Begins (settled processors J mark)
      (shown (run_from processors J.rules (enough (J.jobs ++ more)) z))) (sym opening_later)
      (settled_begins_run processors some J front_valid (with_jobs J more) valid_more J.rules mark
      (come_behind (length J.jobs) more) (come_from mark (length J.jobs) more late) (settled_steps processors J mark)
      (opening J.jobs) (opening_kept processors J) later_keeps (settled_is_run processors J front_valid some mark)
      (enough (J.jobs ++ more))
      (subst (λ (z : State). HasEnd (run_from processors J.rules (enough (J.jobs ++ more)) z)) opening_later
      (run_ends processors (with_jobs J more) valid_more some)))
