-- The steps of jobs that are moved in time.
use Rattle.std.proofs.Common.{◌≡◌, ℕ, ◌+◌, ◌-◌, ◌≤◌, ◌<◌, inl, inr, List, [], ◌∷◌, length, map, refl, sym, ap, ◌∙◌}
use Rattle.std.proofs.Common.{subst, Bool, true, false, cond, arith, eqb, Option, Some, None}
use Rattle.std.specs.Prelude.{nat_lt, nat_le, not, ◌&&◌, ◌||◌}
use Rattle.std.specs.Bool.{then_some}
use Rattle.std.specs.List.{find, filter, fold, sum_by, list_all, list_any}
use Rattle.std.proofs.lemmas.Bool.{ne_eqb, eq-eqb, eqb-true, eqb-false, lt-ltb, ltb-true, ltb-false, le-ltb}
use Rattle.dover_model.specs.Common.{Fraction, Release, Preempt, Take, Complete, Abandon, End, Version, One}
use Rattle.dover_model.specs.Common.{Task, Rules, State, is_coming, is_fresh, is_waiting, is_held, is_running}
use Rattle.dover_model.specs.Common.{is_privileged, is_done, is_over, left, latest_start, running, room, demand_by}
use Rattle.dover_model.specs.Common.{least, value_sum, is_heavy, first, earlier, due_first, starts_before, Move, Prints}
use Rattle.dover_model.specs.Common.{Waits, Ticks, View, view, ◌or_else◌, completion, dispatch, decision, arrival}
use Rattle.dover_model.specs.Common.{alarm, urgent_or, step, ending, after, ticked, runs, preempts, is_at_latest_start}
use Rattle.dover_model.specs.Common.{declared_step, due_finish, finish_or, Finish, is_finish_of, Step, is_end, event_of}
use Rattle.dover_model.specs.Common.{printed_of, IsWholeRun, Each, JobFacts, later_job, later_event}
use Rattle.dover_model.proofs.steps.Kept.{move_of}
use Rattle.dover_model.proofs.lists.Members.{map_map, map_same, sum_map, member_filter, on_map}
use Rattle.dover_model.proofs.runs.RunLaws.{tasks_in, changed_event, whole_carried}
use Rattle.dover_model.proofs.steps.Cases.{choice, urgent_moved}
use Rattle.dover_model.specs.Common.{is_open_job}
use Rattle.dover_model.specs.Orders.{waiting_order, by_density, is_less_dense}

-- the task with its job c ticks later
abbrev pub moved_task : ℕ → Task → Task
moved_task c t = record { number = t.number; job = later_job c t.job; role = t.role; had = t.had }

-- the state with all c ticks later
abbrev pub moved_state : ℕ → State → State
moved_state c s = record s { clock = s.clock + c; tasks = map (moved_task c) s.tasks }

-- a task whose work fits before its deadline
abbrev pub IsFitting : Task → Type 0
IsFitting t = t.job.work ≤ t.job.deadline

-- ---- numbers

-- a lesser tick stays lesser
lt_later : (c a b : ℕ) → nat_lt (a + c) (b + c) ≡ nat_lt a b
lt_later c a b = by_test (nat_lt a b) refl where
  by_test : (test : Bool) → nat_lt a b ≡ test → nat_lt (a + c) (b + c) ≡ test
  by_test true e = let less : a < b = ltb-true _ _ e in lt-ltb _ _ (omega arith)
  by_test false e = let less : b ≤ a = ltb-false _ _ e in le-ltb _ _ (omega arith)

-- equal ticks stay equal
eq_later : (c a b : ℕ) → eqb (a + c) (b + c) ≡ eqb a b
eq_later c a b = by_test (eqb a b) refl where
  by_test : (test : Bool) → eqb a b ≡ test → eqb (a + c) (b + c) ≡ test
  by_test true e = let same : a ≡ b = eqb-true _ _ e in eq-eqb _ _ (omega arith)
  by_test false e = let other : a ≡ b → ⊥ = eqb-false _ _ e in ne_eqb _ _ (λ same. other (omega arith))

-- so is the latest start
latest_later : (c : ℕ) (t : Task) → IsFitting t → latest_start (moved_task c t) ≡ latest_start t + c
latest_later c t fits = omega arith

-- ---- lists

-- the option's task c ticks later
abbrev moved_option : ℕ → Option Task → Option Task
moved_option c None = None
moved_option c (Some t) = Some (moved_task c t)

module _ (c : ℕ) (p q : Task → Bool) where
  -- a filter of moved tasks
  filter_later : (tasks : List Task) → Each (λ t. p (moved_task c t) ≡ q t) tasks
      → filter p (map (moved_task c) tasks) ≡ map (moved_task c) (filter q tasks)
  filter_later [] same = refl
  filter_later (t ∷ tasks) same =
      ap (λ b. cond b (moved_task c t ∷ filter p (map (moved_task c) tasks)) (filter p (map (moved_task c) tasks)))
      (same t (inl refl))
      ∙ by_test (q t) (filter_later tasks (λ u member. same u (inr member))) where
        by_test : (b : Bool) → filter p (map (moved_task c) tasks) ≡ map (moved_task c) (filter q tasks)
            → cond b (moved_task c t ∷ filter p (map (moved_task c) tasks)) (filter p (map (moved_task c) tasks))
            ≡ map (moved_task c) (cond b (t ∷ filter q tasks) (filter q tasks))
        by_test true rest = ap (λ ts. moved_task c t ∷ ts) rest
        by_test false rest = rest

module _ (c : ℕ) (p : Task → Bool) (same : (t : Task) → p (moved_task c t) ≡ p t) where
  -- what is found among them
  find_later : (tasks : List Task) → find p (map (moved_task c) tasks) ≡ moved_option c (find p tasks)
  find_later [] = refl
  find_later (t ∷ tasks) =
      ap (λ b. cond b (Some (moved_task c t)) (find p (map (moved_task c) tasks))) (same t)
      ∙ by_test (p t) (find_later tasks) where
        by_test : (b : Bool) → find p (map (moved_task c) tasks) ≡ moved_option c (find p tasks)
            → cond b (Some (moved_task c t)) (find p (map (moved_task c) tasks)) ≡ moved_option c
            (cond b (Some t) (find p tasks))
        by_test true rest = refl
        by_test false rest = rest

  -- whether all pass
  all_later : (tasks : List Task) → list_all p (map (moved_task c) tasks) ≡ list_all p tasks
  all_later [] = refl
  all_later (t ∷ tasks) = ap (λ b. b && list_all p (map (moved_task c) tasks)) (same t)
      ∙ ap (λ b. p t && b) (all_later tasks)

-- ---- what a view shows

module _ (c : ℕ) where
  -- a fold that keeps the first
  fold_later : (before : Task → Task → Bool)
      → ((a b : Task) → IsFitting a → IsFitting b → before (moved_task c a) (moved_task c b) ≡ before a b)
      → (tasks : List Task) (a : Task) → IsFitting a → Each IsFitting tasks
      → fold (earlier before) (moved_task c a) (map (moved_task c) tasks) ≡ moved_task c (fold (earlier before) a tasks)
  fold_later before same [] a fit fits = refl
  fold_later before same (t ∷ tasks) a fit fits =
      ap (λ b. fold (earlier before) (cond b (moved_task c t) (moved_task c a)) (map (moved_task c) tasks))
      (same t a (fits t (inl refl)) fit)
      ∙ by_test (before t a) (fold_later before same tasks t (fits t (inl refl)) (λ u member. fits u (inr member)))
      (fold_later before same tasks a fit (λ u member. fits u (inr member))) where
        by_test : (b : Bool) → fold (earlier before) (moved_task c t) (map (moved_task c) tasks) ≡ moved_task c
            (fold (earlier before) t tasks)
            → fold (earlier before) (moved_task c a) (map (moved_task c) tasks) ≡ moved_task c
            (fold (earlier before) a tasks)
            → fold (earlier before) (cond b (moved_task c t) (moved_task c a)) (map (moved_task c) tasks)
            ≡ moved_task c (fold (earlier before) (cond b t a) tasks)
        by_test true one other = one
        by_test false one other = other

  -- the first of moved tasks
  first_later : (before : Task → Task → Bool)
      → ((a b : Task) → IsFitting a → IsFitting b → before (moved_task c a) (moved_task c b) ≡ before a b)
      → (tasks : List Task) → Each IsFitting tasks
      → first before (map (moved_task c) tasks) ≡ moved_option c (first before tasks)
  first_later before same [] fits = refl
  first_later before same (t ∷ tasks) fits =
      ap Some (fold_later before same tasks t (fits t (inl refl)) (λ u member. fits u (inr member)))

  -- the order by deadline
  due_later : (v : Version) (a b : Task) → IsFitting a → IsFitting b
      → due_first v (moved_task c a) (moved_task c b) ≡ due_first v a b
  due_later One a b fit fit2 =
      ap (λ less. less || (eqb (a.job.deadline + c) (b.job.deadline + c) && nat_lt a.number b.number))
      (lt_later c a.job.deadline b.job.deadline)
      ∙ ap (λ same. nat_lt a.job.deadline b.job.deadline || (same && nat_lt a.number b.number))
      (eq_later c a.job.deadline b.job.deadline)
  due_later _ a b fit fit2 = ap (λ less. less || (eqb (a.job.deadline + c) (b.job.deadline + c)
      && (nat_lt b.job.value a.job.value || (eqb a.job.value b.job.value && nat_lt a.number b.number))))
      (lt_later c a.job.deadline b.job.deadline)
      ∙ ap (λ same. nat_lt a.job.deadline b.job.deadline || (same
      && (nat_lt b.job.value a.job.value || (eqb a.job.value b.job.value && nat_lt a.number b.number))))
      (eq_later c a.job.deadline b.job.deadline)

  -- two keys c later
  keys_later : (x y a b : ℕ) (rest : Bool) → x ≡ a + c → y ≡ b + c
      → (nat_lt x y || (eqb x y && rest)) ≡ (nat_lt a b || (eqb a b && rest))
  keys_later x y a b rest ex ey = ap (λ z. nat_lt z y || (eqb z y && rest)) ex
      ∙ ap (λ z. nat_lt (a + c) z || (eqb (a + c) z && rest)) ey
      ∙ ap (λ less. less || (eqb (a + c) (b + c) && rest)) (lt_later c a b)
      ∙ ap (λ same. nat_lt a b || (same && rest)) (eq_later c a b)

  -- the order by latest start
  start_later : (v : Version) (a b : Task) → IsFitting a → IsFitting b
      → starts_before v (moved_task c a) (moved_task c b) ≡ starts_before v a b
  start_later One a b fit fit2 =
      keys_later (latest_start (moved_task c a)) (latest_start (moved_task c b)) (latest_start a) (latest_start b)
      (nat_lt a.number b.number) (latest_later c a fit) (latest_later c b fit2)
  start_later _ a b fit fit2 =
      keys_later (latest_start (moved_task c a)) (latest_start (moved_task c b)) (latest_start a) (latest_start b)
      (nat_lt b.job.value a.job.value || (eqb a.job.value b.job.value && nat_lt a.number b.number))
      (latest_later c a fit) (latest_later c b fit2)

  -- the demand up to a task
  demand_later : (set : List Task) (t : Task)
      → demand_by (λ (u : Task). u.job.deadline) left (map (moved_task c) set) (moved_task c t) ≡ demand_by
      (λ (u : Task). u.job.deadline) left set t
  demand_later set t = ap (λ us. left t + sum_by left us)
      (filter_later c (λ u. nat_lt u.job.deadline (t.job.deadline + c)) (λ u. nat_lt u.job.deadline t.job.deadline) set
      (λ u member. lt_later c u.job.deadline t.job.deadline))
      ∙ ap (λ m. left t + m) (sum_map (moved_task c) left (filter (λ u. nat_lt u.job.deadline t.job.deadline) set))

  -- the room
  room_later : (clock : ℕ) (set : List Task) → room (clock + c) (map (moved_task c) set) ≡ room clock set
  room_later clock set = ap least
      (map_map (λ (t : Task). t.job.deadline -
      (clock + c + demand_by (λ (u : Task). u.job.deadline) left (map (moved_task c) set) t)) (moved_task c) set
      ∙ map_same (λ (t : Task). t.job.deadline + c -
      (clock + c + demand_by (λ (u : Task). u.job.deadline) left (map (moved_task c) set) (moved_task c t)))
      (λ (t : Task). t.job.deadline - (clock + demand_by (λ (u : Task). u.job.deadline) left set t)) set
      (λ t m. ap (λ d. t.job.deadline + c - (clock + c + d)) (demand_later set t)
      ∙ differ t.job.deadline clock (demand_by (λ (u : Task). u.job.deadline) left set t))) where
        differ : (d k m : ℕ) → d + c - (k + c + m) ≡ d - (k + m)
        differ d k m = omega arith

  -- the values
  value_later : (tasks : List Task) → value_sum (map (moved_task c) tasks) ≡ value_sum tasks
  value_later tasks = sum_map (moved_task c) (λ (t : Task). t.job.value) tasks

  -- the view with all c ticks later
  abbrev moved_view : View → View
  moved_view v = record {
    clock = v.clock + c;
    running = moved_option c v.running;
    first_held = moved_option c v.first_held;
    first_waiting = moved_option c v.first_waiting;
    fresh = moved_option c v.fresh;
    coming = moved_option c v.coming;
    must_start = moved_option c v.must_start;
    held_room = v.held_room;
    privileged_room = v.privileged_room;
    privileged_value = v.privileged_value;
    yields = v.yields;
  }

  -- any that passes does so later
  any_later : (p : Task → Bool) → ((t : Task) → p (moved_task c t) ≡ p t) → (tasks : List Task)
      → list_any p (map (moved_task c) tasks) ≡ list_any p tasks
  any_later p same [] = refl
  any_later p same (t ∷ tasks) = ap (λ b. b || list_any p (map (moved_task c) tasks)) (same t)
      ∙ ap (λ b. p t || b) (any_later p same tasks)

  -- the order of waiting jobs
  waiting_later : (v : Version) (pressed : Bool) (a b : Task) → IsFitting a → IsFitting b
      → waiting_order v pressed (moved_task c a) (moved_task c b) ≡ waiting_order v pressed a b
  waiting_later v true a b fit fit2 =
      ap (λ d. is_less_dense b a || (not (is_less_dense a b) && d)) (due_later v a b fit fit2)
  waiting_later v false a b fit fit2 = due_later v a b fit fit2

  -- some of them fit as well
  filter_fits : (p : Task → Bool) (tasks : List Task) → Each IsFitting tasks → Each IsFitting (filter p tasks)
  filter_fits p tasks fits t member = fits t (member_filter p tasks t member).0

  -- the view of a moved state
  view_later : (version : Version) (s : State) → Each IsFitting s.tasks
      → view version (moved_state c s) ≡ moved_view (view version s)
  view_later version s fits =
      let e_held : filter is_held (map (moved_task c) s.tasks) ≡ map (moved_task c) (filter is_held s.tasks) =
      filter_later c is_held is_held s.tasks (λ _ _. refl) in
      let e_waiting : filter is_waiting (map (moved_task c) s.tasks) ≡ map (moved_task c) (filter is_waiting s.tasks) =
      filter_later c is_waiting is_waiting s.tasks (λ _ _. refl) in
      let e_privileged : filter is_privileged (map (moved_task c) s.tasks) ≡ map (moved_task c)
      (filter is_privileged s.tasks) =
      filter_later c is_privileged is_privileged s.tasks (λ _ _. refl) in
      let e_late : filter (is_at_latest_start (moved_state c s)) (map (moved_task c) (filter is_waiting s.tasks))
      ≡ map (moved_task c) (filter (is_at_latest_start s) (filter is_waiting s.tasks)) =
      filter_later c (is_at_latest_start (moved_state c s)) (is_at_latest_start s) (filter is_waiting s.tasks)
      (λ t member. ap (λ l. eqb l (s.clock + c)) (latest_later c t (filter_fits is_waiting s.tasks fits t member))
      ∙ eq_later c (latest_start t) s.clock) in
      rw (
        find_later c is_running (λ _. refl) s.tasks,
        find_later c is_fresh (λ _. refl) s.tasks,
        find_later c is_coming (λ _. refl) s.tasks,
        e_held,
        e_waiting,
        e_privileged,
        first_later (due_first version) (due_later version) (filter is_held s.tasks) (filter_fits is_held s.tasks fits),
        first_later (waiting_order version (by_density version s.pressed))
            (waiting_later version (by_density version s.pressed)) (filter is_waiting s.tasks)
            (filter_fits is_waiting s.tasks fits),
        e_late,
        first_later (starts_before version) (start_later version)
            (filter (is_at_latest_start s) (filter is_waiting s.tasks))
            (filter_fits (is_at_latest_start s) (filter is_waiting s.tasks) (filter_fits is_waiting s.tasks fits)),
        room_later s.clock (filter is_held s.tasks),
        room_later s.clock (filter is_privileged s.tasks),
        value_later (filter is_privileged s.tasks),
      )

  -- ---- steps

  -- the move c ticks later
  abbrev pub moved_move : Move → Move
  moved_move (Prints e) = Prints (later_event c e)
  moved_move (Waits m) = Waits m
  moved_move Ticks = Ticks

  -- the same of an option
  abbrev moved_choice : Option Move → Option Move
  moved_choice = choice moved_move

  -- End stays End
  moved_end : (m : Move) → is_end (moved_move m) ≡ is_end m
  moved_end (Prints (Release m job)) = refl
  moved_end _ = refl

  -- a completion
  completion_later : (v : View) (r : Option Task)
      → completion (moved_view v) (moved_option c r) ≡ moved_choice (completion v r)
  completion_later v None = refl
  completion_later v (Some r) = by_test (eqb (left r) 0) where
    by_test : (b : Bool) → then_some b (Prints (Complete (v.clock + c) r.number)) ≡ moved_choice
        (then_some b (Prints (Complete v.clock r.number)))
    by_test true = refl
    by_test false = refl

  -- a dispatch
  dispatch_later : (v : View) (r p o : Option Task)
      → dispatch (moved_view v) (moved_option c r) (moved_option c p) (moved_option c o) ≡ moved_choice
      (dispatch v r p o)
  dispatch_later v None (Some p) (Some o) =
      ap (λ b. Some (runs (moved_view v) (cond (b && nat_le (left o) v.held_room) (moved_task c o) (moved_task c p))))
      (lt_later c o.job.deadline p.job.deadline)
      ∙ by_test (nat_lt o.job.deadline p.job.deadline && nat_le (left o) v.held_room) where
        by_test : (b : Bool) → Some (runs (moved_view v) (cond b (moved_task c o) (moved_task c p))) ≡ moved_choice
            (Some (runs v (cond b o p)))
        by_test true = refl
        by_test false = refl
  dispatch_later v None None (Some o) = refl
  dispatch_later v _ _ _ = refl

  -- a decision on a fresh job
  decision_later : (v : View) (r f : Option Task)
      → decision (moved_view v) (moved_option c r) (moved_option c f) ≡ moved_choice (decision v r f)
  decision_later v (Some r) (Some f) =
      ap (λ b. Some (cond ((b && nat_le f.job.work v.privileged_room) && not (v.yields && is_less_dense f r))
      (Prints (Preempt (v.clock + c) r.number f.number)) (Waits f.number)))
      (lt_later c f.job.deadline r.job.deadline) ∙ by_test (preempts v f r) where
        by_test : (b : Bool) → Some (cond b (Prints (Preempt (v.clock + c) r.number f.number)) (Waits f.number))
            ≡ moved_choice (Some (cond b (Prints (Preempt v.clock r.number f.number)) (Waits f.number)))
        by_test true = refl
        by_test false = refl
  decision_later v None (Some f) = refl
  decision_later v _ _ = refl

  -- an arrival
  arrival_later : (v : View) (o : Option Task) → arrival (moved_view v) (moved_option c o) ≡ moved_choice (arrival v o)
  arrival_later v None = refl
  arrival_later v (Some t) =
      ap (λ b. then_some b (Prints (Release t.number (later_job c t.job)))) (eq_later c t.job.release v.clock)
      ∙ by_test (eqb t.job.release v.clock) where
        by_test : (b : Bool) → then_some b (Prints (Release t.number (later_job c t.job))) ≡ moved_choice
            (then_some b (Prints (Release t.number t.job)))
        by_test true = refl
        by_test false = refl

  -- a decision at a latest start
  alarm_later : (k : Fraction) (v : View) (r x : Option Task)
      → alarm k (moved_view v) (moved_option c r) (moved_option c x) ≡ moved_choice (alarm k v r x)
  alarm_later k v (Some r) (Some x) = by_test (is_heavy k x.job.value v.privileged_value) where
    by_test : (b : Bool) → Some
        (Prints (cond b (Take (v.clock + c) r.number x.number) (Abandon (v.clock + c) x.number)))
        ≡ moved_choice (Some (Prints (cond b (Take v.clock r.number x.number) (Abandon v.clock x.number))))
    by_test true = refl
    by_test false = refl
  alarm_later k v None (Some x) = refl
  alarm_later k v _ _ = refl

  -- the first of the cases that applies
  urgent_later : (k : Fraction) (v : View) (m : Move)
      → urgent_or k (moved_view v) (moved_move m) ≡ moved_move (urgent_or k v m)
  urgent_later k v = urgent_moved moved_move k v (moved_view v) (completion_later v v.running)
      (dispatch_later v v.running v.first_held v.first_waiting) (decision_later v v.running v.fresh)
      (arrival_later v v.coming) (alarm_later k v v.running v.must_start)

  -- the end
  ending_later : (s : State) → (ending (moved_state c s) or_else Ticks) ≡ moved_move (ending s or_else Ticks)
  ending_later s =
      let e_done : value_sum (filter is_done (map (moved_task c) s.tasks)) ≡ value_sum (filter is_done s.tasks) =
      ap value_sum (filter_later c is_done is_done s.tasks (λ _ _. refl)) ∙ value_later (filter is_done s.tasks) in
      ap (λ b. then_some b (Prints (End (value_sum (filter is_done (map (moved_task c) s.tasks))))) or_else Ticks)
      (all_later c is_over (λ _. refl) s.tasks)
      ∙ ap (λ v. then_some (list_all is_over s.tasks) (Prints (End v)) or_else Ticks) e_done
      ∙ by_test (list_all is_over s.tasks) where
        by_test : (b : Bool) → (then_some b (Prints (End (value_sum (filter is_done s.tasks)))) or_else Ticks)
            ≡ moved_move (then_some b (Prints (End (value_sum (filter is_done s.tasks)))) or_else Ticks)
        by_test true = refl
        by_test false = refl

  module _ (rules : Rules) where
    -- the step of a moved state, where no job finishes early
    declared_later : (s : State) → Each IsFitting s.tasks
        → declared_step rules (moved_state c s) ≡ moved_move (declared_step rules s)
    declared_later s fits = ap (λ v. urgent_or rules.ratio v (ending (moved_state c s) or_else Ticks))
        (view_later rules.version s fits)
        ∙ ap (urgent_or rules.ratio (moved_view (view rules.version s))) (ending_later s)
        ∙ urgent_later rules.ratio (view rules.version s) (ending s or_else Ticks)

    -- the finish that is due then
    finish_later : (s : State) → due_finish rules.finishes (moved_state c s) ≡ due_finish rules.finishes s
    finish_later s = ap (λ o. find (is_finish_of o) rules.finishes) (find_later c is_running (λ _. refl) s.tasks)
        ∙ by_running (running s) where
          by_running : (o : Option Task)
              → find (is_finish_of (moved_option c o)) rules.finishes ≡ find (is_finish_of o) rules.finishes
          by_running None = refl
          by_running (Some r) = refl

    -- the step of a moved state
    pub step_later : (s : State) → Each IsFitting s.tasks → step rules (moved_state c s) ≡ moved_move (step rules s)
    step_later s fits = ap (λ o. finish_or (s.clock + c) o (declared_step rules (moved_state c s))) (finish_later s)
        ∙ ap (finish_or (s.clock + c) (due_finish rules.finishes s)) (declared_later s fits)
        ∙ by_due (due_finish rules.finishes s) where
          by_due : (o : Option Finish) → finish_or (s.clock + c) o (moved_move (declared_step rules s))
              ≡ moved_move (finish_or s.clock o (declared_step rules s))
          by_due None = refl
          by_due (Some f) = refl

    -- a state
    abbrev state_of : Bool → ℕ → List Task → State
    state_of pressed clock tasks = record { clock = clock; pressed = pressed; tasks = tasks }

    -- a change of roles and a move in time
    change_later : (f : Task → Task) → ((t : Task) → f (moved_task c t) ≡ moved_task c (f t)) → (tasks : List Task)
        → map f (map (moved_task c) tasks) ≡ map (moved_task c) (map f tasks)
    change_later f same [] = refl
    change_later f same (t ∷ tasks) = let here : f (moved_task c t) ≡ moved_task c (f t) = same t in
        let rest : map f (map (moved_task c) tasks) ≡ map (moved_task c) (map f tasks) = change_later f same tasks in cc

    -- the state after the step
    pub after_later : (s : State) (m : Move) → after (moved_state c s) (moved_move m) ≡ moved_state c (after s m)
    after_later s Ticks = ap (λ clock. state_of s.pressed clock (map (ticked) (map (moved_task c) s.tasks))) (omega
        arith)
        ∙ ap (state_of s.pressed (s.clock + 1 + c)) (change_later ticked (λ _. refl) s.tasks)
    after_later s (Prints (Complete at m)) = ap
        (λ tasks. state_of (s.pressed && list_any is_open_job tasks) (s.clock + c) tasks)
        (change_later _ (λ _. refl) s.tasks)
        ∙ ap (λ b. state_of (s.pressed && b) (s.clock + c) (map (moved_task c) (after s (Prints (Complete at
        m))).tasks))
        (any_later is_open_job (λ _. refl) (after s (Prints (Complete at m))).tasks)
    after_later s (Prints (Abandon at m)) = ap (state_of true (s.clock + c)) (change_later _ (λ _. refl) s.tasks)
    after_later s (Prints (Release n j)) = ap (state_of s.pressed (s.clock + c)) (change_later _ (λ _. refl) s.tasks)
    after_later s _ = ap (state_of s.pressed (s.clock + c)) (change_later _ (λ _. refl) s.tasks)

    -- the jobs fit after a step as before it
    fits_after : (s : State) (m : Move) → Each IsFitting s.tasks → Each IsFitting (after s m).tasks
    fits_after s m fits = subst (Each IsFitting) (sym (move_of s m).tasks) (on_map (move_of s m).by IsFitting s.tasks
        (λ t member. subst (λ (j : JobFacts). j.work ≤ j.deadline) (sym ((move_of s m).job t)) (fits t member)))

    -- what a step prints
    event_moved : (m : Move) → event_of (moved_move m) ≡ changed_event (later_event c) (event_of m)
    event_moved (Prints e) = refl
    event_moved _ = refl

    -- the whole run of a moved state
    pub whole_later : (zs : List Step) (s : State) → Each IsFitting s.tasks → IsWholeRun rules s zs
        → (ys : List Step) × IsWholeRun rules (moved_state c s) ys × (length ys ≡ length zs)
        × (printed_of ys ≡ map (later_event c) (printed_of zs)) × (tasks_in ys ≡ map (moved_task c) (tasks_in zs))
    whole_later zs s fits whole =
        whole_carried rules rules (moved_state c) moved_move (later_event c) (map (moved_task c))
        (λ x. Each IsFitting x.tasks) (λ x. refl) step_later after_later fits_after moved_end event_moved zs s fits
        whole
