-- The steps of tasks that stand behind tasks that are over, under greater numbers.
use Rattle.std.proofs.Common.{◌≡◌, ℕ, ◌+◌, ◌-◌, ◌≤◌, ◌<◌, inl, inr, List, [], ◌∷◌, ◌++◌, length, map, refl, sym}
use Rattle.std.proofs.Common.{ap, ◌∙◌, subst, Bool, true, false, cond, arith, eqb, Option, Some, None}
use Rattle.std.specs.Prelude.{nat_lt, nat_le, not, ◌&&◌, ◌||◌, ◌==◌}
use Rattle.std.specs.Bool.{then_some}
use Rattle.std.specs.List.{find, filter, fold, sum_by, list_all, list_any, cons_option}
use Rattle.std.proofs.lemmas.Bool.{ne_eqb, eq-eqb, eqb-true, eqb-false, lt-ltb, ltb-true, ltb-false, le-ltb}
use Rattle.std.proofs.lemmas.List.Sums.{sum_by-cons}
use Rattle.dover_model.specs.Common.{Fraction, Release, Run, Preempt, Take, Complete, Abandon, End, Role, Fresh}
use Rattle.dover_model.specs.Common.{Waiting, Held, Running, Done, Gone, Version, One, Task, Rules, having}
use Rattle.dover_model.specs.Common.{State, is_coming, is_fresh, is_waiting, is_held, is_running, is_privileged}
use Rattle.dover_model.specs.Common.{is_done, is_over, left, latest_start, room, demand_by, least, value_sum, is_heavy}
use Rattle.dover_model.specs.Common.{first, earlier, due_first, starts_before, Move, Prints, Waits, Ticks, View, view}
use Rattle.dover_model.specs.Common.{with_role, ticked, displaced, ◌or_else◌, completion, dispatch, decision, arrival}
use Rattle.dover_model.specs.Common.{alarm, urgent_or, step, open_step, ending, after, preempts, runs}
use Rattle.dover_model.specs.Common.{is_at_latest_start, due_finish, finish_or, declared_step, declared_open_step, Step}
use Rattle.dover_model.specs.Common.{is_end, event_of, printed_of, waits_for_mark, open_at, IsWholeRun}
use Rattle.dover_model.specs.Common.{IsSettledRun, Each, behind, behind_finish, Finish, is_finish_of, has_come_to}
use Rattle.dover_model.proofs.lists.Members.{map_map, map_same, sum_map}
use Rattle.dover_model.proofs.runs.RunLaws.{tasks_in, changed_event, cons_changed, whole_carried}
use Rattle.dover_model.proofs.steps.Cases.{choice, urgent_moved}
use Rattle.dover_model.proofs.steps.Roles.{of_over, ticked_over}
use Rattle.dover_model.proofs.finishes.Finishing.{none_without}
use Rattle.std.specs.Option.{option_or}
use Rattle.std.proofs.lemmas.List.Folds.{find-append}
use Rattle.dover_model.specs.Common.{is_open_job}
use Rattle.dover_model.specs.Orders.{waiting_order, by_density, is_less_dense}

-- the task under a number that is greater by n
abbrev pub shifted : ℕ → Task → Task
shifted n t = record { number = n + t.number; job = t.job; role = t.role; had = t.had }

-- the tasks of a state behind others, under greater numbers
abbrev pub beside : ℕ → List Task → State → State
beside n overs s = record s { tasks = overs ++ map (shifted n) s.tasks }

-- ---- numbers

-- a lesser number stays lesser
lt_shift : (n a b : ℕ) → nat_lt (n + a) (n + b) ≡ nat_lt a b
lt_shift n a b = by_test (nat_lt a b) refl where
  by_test : (test : Bool) → nat_lt a b ≡ test → nat_lt (n + a) (n + b) ≡ test
  by_test true e = let less : a < b = ltb-true _ _ e in lt-ltb _ _ (omega arith)
  by_test false e = let less : b ≤ a = ltb-false _ _ e in le-ltb _ _ (omega arith)

-- equal numbers stay equal
eq_shift : (n a b : ℕ) → eqb (n + a) (n + b) ≡ eqb a b
eq_shift n a b = by_test (eqb a b) refl where
  by_test : (test : Bool) → eqb a b ≡ test → eqb (n + a) (n + b) ≡ test
  by_test true e = let same : a ≡ b = eqb-true _ _ e in eq-eqb _ _ (omega arith)
  by_test false e = let other : a ≡ b → ⊥ = eqb-false _ _ e in ne_eqb _ _ (λ same. other (omega arith))

-- ---- lists

-- the option's task under a greater number
abbrev shift_option : ℕ → Option Task → Option Task
shift_option n None = None
shift_option n (Some t) = Some (shifted n t)

module _ (n : ℕ) (p : Task → Bool) (same : (t : Task) → p (shifted n t) ≡ p t) where
  -- a filter of shifted tasks
  filter_shift : (tasks : List Task) → filter p (map (shifted n) tasks) ≡ map (shifted n) (filter p tasks)
  filter_shift [] = refl
  filter_shift (t ∷ tasks) =
      ap (λ b. cond b (shifted n t ∷ filter p (map (shifted n) tasks)) (filter p (map (shifted n) tasks))) (same t)
      ∙ by_test (p t) (filter_shift tasks) where
        by_test : (b : Bool) → filter p (map (shifted n) tasks) ≡ map (shifted n) (filter p tasks)
            → cond b (shifted n t ∷ filter p (map (shifted n) tasks)) (filter p (map (shifted n) tasks))
            ≡ map (shifted n) (cond b (t ∷ filter p tasks) (filter p tasks))
        by_test true rest = ap (λ ts. shifted n t ∷ ts) rest
        by_test false rest = rest

  -- what is found among them
  find_shift : (tasks : List Task) → find p (map (shifted n) tasks) ≡ shift_option n (find p tasks)
  find_shift [] = refl
  find_shift (t ∷ tasks) =
      ap (λ b. cond b (Some (shifted n t)) (find p (map (shifted n) tasks))) (same t)
      ∙ by_test (p t) (find_shift tasks) where
        by_test : (b : Bool) → find p (map (shifted n) tasks) ≡ shift_option n (find p tasks)
            → cond b (Some (shifted n t)) (find p (map (shifted n) tasks)) ≡ shift_option n
            (cond b (Some t) (find p tasks))
        by_test true rest = refl
        by_test false rest = rest

  -- whether all pass
  all_shift : (tasks : List Task) → list_all p (map (shifted n) tasks) ≡ list_all p tasks
  all_shift [] = refl
  all_shift (t ∷ tasks) = ap (λ b. b && list_all p (map (shifted n) tasks)) (same t)
      ∙ ap (λ b. p t && b) (all_shift tasks)

module _ (p : Task → Bool) where
  -- a filter that none of the first passes
  filter_back : (overs tasks : List Task) → Each (λ t. p t ≡ false) overs → filter p (overs ++ tasks) ≡ filter p tasks
  filter_back [] tasks none = refl
  filter_back (t ∷ overs) tasks none =
      ap (λ b. cond b (t ∷ filter p (overs ++ tasks)) (filter p (overs ++ tasks))) (none t (inl refl))
      ∙ filter_back overs tasks (λ u m. none u (inr m))

  -- what none of the first passes is found behind
  find_back : (overs tasks : List Task) → Each (λ t. p t ≡ false) overs → find p (overs ++ tasks) ≡ find p tasks
  find_back [] tasks none = refl
  find_back (t ∷ overs) tasks none = ap (λ b. cond b (Some t) (find p (overs ++ tasks))) (none t (inl refl))
      ∙ find_back overs tasks (λ u m. none u (inr m))

  -- where the first pass, all do if those behind do
  all_back : (overs tasks : List Task) → Each (λ t. p t ≡ true) overs → list_all p (overs ++ tasks) ≡ list_all p tasks
  all_back [] tasks all = refl
  all_back (t ∷ overs) tasks all = ap (λ b. b && list_all p (overs ++ tasks)) (all t (inl refl))
      ∙ all_back overs tasks (λ u m. all u (inr m))

-- the value of those that pass, of both lists
value_append : (p : Task → Bool) (overs tasks : List Task)
    → value_sum (filter p (overs ++ tasks)) ≡ value_sum (filter p overs) + value_sum (filter p tasks)
value_append p [] tasks = omega arith
value_append p (t ∷ overs) tasks = by_test (p t) (value_append p overs tasks) where
  by_test : (b : Bool) → value_sum (filter p (overs ++ tasks)) ≡ value_sum (filter p overs) + value_sum (filter p tasks)
      → value_sum (cond b (t ∷ filter p (overs ++ tasks)) (filter p (overs ++ tasks)))
      ≡ value_sum (cond b (t ∷ filter p overs) (filter p overs)) + value_sum (filter p tasks)
  by_test true rest = omega (
    arith,
    rest,
    sum_by-cons (λ (u : Task). u.job.value) t (filter p (overs ++ tasks)),
    sum_by-cons (λ (u : Task). u.job.value) t (filter p overs),
  )
  by_test false rest = rest

-- ---- what a view shows

module _ (n : ℕ) where
  -- a fold that keeps the first
  fold_shift : (before : Task → Task → Bool) → ((a b : Task) → before (shifted n a) (shifted n b) ≡ before a b)
      → (tasks : List Task) (a : Task)
      → fold (earlier before) (shifted n a) (map (shifted n) tasks) ≡ shifted n (fold (earlier before) a tasks)
  fold_shift before same [] a = refl
  fold_shift before same (t ∷ tasks) a =
      ap (λ b. fold (earlier before) (cond b (shifted n t) (shifted n a)) (map (shifted n) tasks)) (same t a)
      ∙ by_test (before t a) (fold_shift before same tasks t) (fold_shift before same tasks a) where
        by_test : (b : Bool) → fold (earlier before) (shifted n t) (map (shifted n) tasks) ≡ shifted n
            (fold (earlier before) t tasks)
            → fold (earlier before) (shifted n a) (map (shifted n) tasks) ≡ shifted n (fold (earlier before) a tasks)
            → fold (earlier before) (cond b (shifted n t) (shifted n a)) (map (shifted n) tasks)
            ≡ shifted n (fold (earlier before) (cond b t a) tasks)
        by_test true one other = one
        by_test false one other = other

  -- the first of shifted tasks
  first_shift : (before : Task → Task → Bool) → ((a b : Task) → before (shifted n a) (shifted n b) ≡ before a b)
      → (tasks : List Task)
      → first before (map (shifted n) tasks) ≡ shift_option n (first before tasks)
  first_shift before same [] = refl
  first_shift before same (t ∷ tasks) = ap Some (fold_shift before same tasks t)

  -- the order by deadline
  due_shift : (v : Version) (a b : Task) → due_first v (shifted n a) (shifted n b) ≡ due_first v a b
  due_shift One a b = ap (λ less. nat_lt a.job.deadline b.job.deadline || (eqb a.job.deadline b.job.deadline && less))
      (lt_shift n a.number b.number)
  due_shift _ a b = ap (λ less. nat_lt a.job.deadline b.job.deadline || (eqb a.job.deadline b.job.deadline
      && (nat_lt b.job.value a.job.value || (eqb a.job.value b.job.value && less)))) (lt_shift n a.number b.number)

  -- the order of waiting jobs
  waiting_shift : (v : Version) (dense : Bool) (a b : Task)
      → waiting_order v dense (shifted n a) (shifted n b) ≡ waiting_order v dense a b
  waiting_shift v true a b = ap (λ d. is_less_dense b a || (not (is_less_dense a b) && d)) (due_shift v a b)
  waiting_shift v false a b = due_shift v a b

  -- the order by latest start
  latest_shift : (v : Version) (a b : Task) → starts_before v (shifted n a) (shifted n b) ≡ starts_before v a b
  latest_shift One a b =
      ap (λ less. nat_lt (latest_start a) (latest_start b) || (eqb (latest_start a) (latest_start b) && less))
      (lt_shift n a.number b.number)
  latest_shift _ a b = ap (λ less. nat_lt (latest_start a) (latest_start b) || (eqb (latest_start a) (latest_start b)
      && (nat_lt b.job.value a.job.value || (eqb a.job.value b.job.value && less)))) (lt_shift n a.number b.number)

  -- the demand up to a task
  demand_shift : (set : List Task) (t : Task)
      → demand_by (λ (u : Task). u.job.deadline) left (map (shifted n) set) (shifted n t) ≡ demand_by
      (λ (u : Task). u.job.deadline) left set t
  demand_shift set t = ap (λ us. left t + sum_by left us)
      (filter_shift n (λ u. nat_lt u.job.deadline t.job.deadline) (λ u. refl) set)
      ∙ ap (λ m. left t + m) (sum_map (shifted n) left (filter (λ u. nat_lt u.job.deadline t.job.deadline) set))

  -- the room
  room_shift : (clock : ℕ) (set : List Task) → room clock (map (shifted n) set) ≡ room clock set
  room_shift clock set = ap least
      (map_map (λ (t : Task). t.job.deadline -
      (clock + demand_by (λ (u : Task). u.job.deadline) left (map (shifted n) set) t)) (shifted n) set
      ∙ map_same (λ (t : Task). t.job.deadline -
      (clock + demand_by (λ (u : Task). u.job.deadline) left (map (shifted n) set) (shifted n t)))
      (λ (t : Task). t.job.deadline - (clock + demand_by (λ (u : Task). u.job.deadline) left set t)) set
      (λ t m. ap (λ d. t.job.deadline - (clock + d)) (demand_shift set t)))

  -- the values
  value_shift : (tasks : List Task) → value_sum (map (shifted n) tasks) ≡ value_sum tasks
  value_shift tasks = sum_map (shifted n) (λ (t : Task). t.job.value) tasks

  -- the view with its tasks under greater numbers
  abbrev shifted_view : View → View
  shifted_view v = record {
    clock = v.clock;
    running = shift_option n v.running;
    first_held = shift_option n v.first_held;
    first_waiting = shift_option n v.first_waiting;
    fresh = shift_option n v.fresh;
    coming = shift_option n v.coming;
    must_start = shift_option n v.must_start;
    held_room = v.held_room;
    privileged_room = v.privileged_room;
    privileged_value = v.privileged_value;
    yields = v.yields;
  }

  module _ (overs : List Task) (over : Each (λ t. is_over t ≡ true) overs) where
    -- a test that fails of what is over
    over_fails : (p : Task → Bool) → ((t : Task) → p (with_role t Done) ≡ false)
        → ((t : Task) → p (with_role t Gone) ≡ false)
        → Each (λ t. p t ≡ false) overs
    over_fails p done gone t member = of_over (λ role. p (with_role t role) ≡ false) (done t) (gone t) t (over t member)

    -- what is found is found behind
    find_there : (p : Task → Bool) → ((t : Task) → p (with_role t Done) ≡ false)
        → ((t : Task) → p (with_role t Gone) ≡ false)
        → ((t : Task) → p (shifted n t) ≡ p t) → (tasks : List Task)
        → find p (overs ++ map (shifted n) tasks) ≡ shift_option n (find p tasks)
    find_there p done gone same tasks = find_back p overs (map (shifted n) tasks) (over_fails p done gone)
        ∙ find_shift n p same tasks

    -- so is what passes
    filter_there : (p : Task → Bool) → ((t : Task) → p (with_role t Done) ≡ false)
        → ((t : Task) → p (with_role t Gone) ≡ false)
        → ((t : Task) → p (shifted n t) ≡ p t) → (tasks : List Task)
        → filter p (overs ++ map (shifted n) tasks) ≡ map (shifted n) (filter p tasks)
    filter_there p done gone same tasks = filter_back p overs (map (shifted n) tasks) (over_fails p done gone)
        ∙ filter_shift n p same tasks

    -- some job is open just where one is behind
    open_there : (tasks : List Task)
        → list_any is_open_job (overs ++ map (shifted n) tasks) ≡ list_any is_open_job tasks
    open_there tasks = front overs (over_fails is_open_job (λ _. refl) (λ _. refl)) where
      back : (ts : List Task) → list_any is_open_job (map (shifted n) ts) ≡ list_any is_open_job ts
      back [] = refl
      back (t ∷ ts) = ap (λ b. is_open_job t || b) (back ts)

      front : (us : List Task) → Each (λ t. is_open_job t ≡ false) us
          → list_any is_open_job (us ++ map (shifted n) tasks) ≡ list_any is_open_job tasks
      front [] none = back tasks
      front (u ∷ us) none = ap (λ b. b || list_any is_open_job (us ++ map (shifted n) tasks)) (none u (inl refl))
          ∙ front us (λ x m. none x (inr m))

    -- the view of a state behind
    view_beside : (version : Version) (s : State) → view version (beside n overs s) ≡ shifted_view (view version s)
    view_beside version s =
        let e_running : find is_running (overs ++ map (shifted n) s.tasks) ≡ shift_option n (find is_running s.tasks) =
        find_there is_running (λ _. refl) (λ _. refl) (λ _. refl) s.tasks in
        let e_fresh : find is_fresh (overs ++ map (shifted n) s.tasks) ≡ shift_option n (find is_fresh s.tasks) =
        find_there is_fresh (λ _. refl) (λ _. refl) (λ _. refl) s.tasks in
        let e_coming : find is_coming (overs ++ map (shifted n) s.tasks) ≡ shift_option n (find is_coming s.tasks) =
        find_there is_coming (λ _. refl) (λ _. refl) (λ _. refl) s.tasks in
        let e_held : filter is_held (overs ++ map (shifted n) s.tasks) ≡ map (shifted n) (filter is_held s.tasks) =
        filter_there is_held (λ _. refl) (λ _. refl) (λ _. refl) s.tasks in
        let e_waiting : filter is_waiting (overs ++ map (shifted n) s.tasks) ≡ map (shifted n)
        (filter is_waiting s.tasks) =
        filter_there is_waiting (λ _. refl) (λ _. refl) (λ _. refl) s.tasks in
        let e_privileged : filter is_privileged (overs ++ map (shifted n) s.tasks) ≡ map (shifted n)
        (filter is_privileged s.tasks) =
        filter_there is_privileged (λ _. refl) (λ _. refl) (λ _. refl) s.tasks in
        rw (
          e_running,
          e_fresh,
          e_coming,
          e_held,
          e_waiting,
          e_privileged,
          first_shift (due_first version) (due_shift version) (filter is_held s.tasks),
          first_shift (waiting_order version (by_density version s.pressed))
              (waiting_shift version (by_density version s.pressed)) (filter is_waiting s.tasks),
          filter_shift n (is_at_latest_start s) (λ _. refl) (filter is_waiting s.tasks),
          first_shift (starts_before version) (latest_shift version)
              (filter (is_at_latest_start s) (filter is_waiting s.tasks)),
          room_shift s.clock (filter is_held s.tasks),
          room_shift s.clock (filter is_privileged s.tasks),
          value_shift (filter is_privileged s.tasks),
        )

-- ---- steps

-- the move with its jobs behind n others, which came to this value
abbrev pub moved : ℕ → ℕ → Move → Move
moved n value (Prints e) = Prints (behind n value e)
moved n value (Waits m) = Waits (n + m)
moved n value Ticks = Ticks

-- the same of an option
abbrev moved_option : ℕ → ℕ → Option Move → Option Move
moved_option n value = choice (moved n value)

-- End stays End
moved_end : (n value : ℕ) (m : Move) → is_end (moved n value m) ≡ is_end m
moved_end n value (Prints (Release m job)) = refl
moved_end n value _ = refl

-- a late step stays late
moved_late : (n value : ℕ) (m : Move) → waits_for_mark (moved n value m) ≡ waits_for_mark m
moved_late n value (Prints (Release m job)) = refl
moved_late n value _ = refl

module _ (n value : ℕ) where
  -- a completion
  completion_shift : (v : View) (r : Option Task)
      → completion (shifted_view n v) (shift_option n r) ≡ moved_option n value (completion v r)
  completion_shift v None = refl
  completion_shift v (Some r) = by_test (eqb (left r) 0) where
    by_test : (b : Bool) → then_some b (Prints (Complete v.clock (n + r.number))) ≡ moved_option n value
        (then_some b (Prints (Complete v.clock r.number)))
    by_test true = refl
    by_test false = refl

  -- a dispatch
  dispatch_shift : (v : View) (r p o : Option Task)
      → dispatch (shifted_view n v) (shift_option n r) (shift_option n p) (shift_option n o) ≡ moved_option n value
      (dispatch v r p o)
  dispatch_shift v None (Some p) (Some o) =
      by_test (nat_lt o.job.deadline p.job.deadline && nat_le (left o) v.held_room) where
        by_test : (b : Bool) → Some (runs (shifted_view n v) (cond b (shifted n o) (shifted n p)))
            ≡ moved_option n value
            (Some (runs v (cond b o p)))
        by_test true = refl
        by_test false = refl
  dispatch_shift v None None (Some o) = refl
  dispatch_shift v _ _ _ = refl

  -- a decision on a fresh job
  decision_shift : (v : View) (r f : Option Task)
      → decision (shifted_view n v) (shift_option n r) (shift_option n f) ≡ moved_option n value (decision v r f)
  decision_shift v (Some r) (Some f) = by_test (preempts v f r) where
    by_test : (b : Bool) → Some (cond b (Prints (Preempt v.clock (n + r.number) (n + f.number))) (Waits (n + f.number)))
        ≡ moved_option n value (Some (cond b (Prints (Preempt v.clock r.number f.number)) (Waits f.number)))
    by_test true = refl
    by_test false = refl
  decision_shift v None (Some f) = refl
  decision_shift v _ _ = refl

  -- an arrival
  arrival_shift : (v : View) (c : Option Task)
      → arrival (shifted_view n v) (shift_option n c) ≡ moved_option n value (arrival v c)
  arrival_shift v None = refl
  arrival_shift v (Some c) = by_test (eqb c.job.release v.clock) where
    by_test : (b : Bool) → then_some b (Prints (Release (n + c.number) c.job)) ≡ moved_option n value
        (then_some b (Prints (Release c.number c.job)))
    by_test true = refl
    by_test false = refl

  -- a decision at a latest start
  alarm_shift : (k : Fraction) (v : View) (r x : Option Task)
      → alarm k (shifted_view n v) (shift_option n r) (shift_option n x) ≡ moved_option n value (alarm k v r x)
  alarm_shift k v (Some r) (Some x) = by_test (is_heavy k x.job.value v.privileged_value) where
    by_test : (b : Bool) → Some
        (Prints (cond b (Take v.clock (n + r.number) (n + x.number)) (Abandon v.clock (n + x.number))))
        ≡ moved_option n value (Some (Prints (cond b (Take v.clock r.number x.number) (Abandon v.clock x.number))))
    by_test true = refl
    by_test false = refl
  alarm_shift k v None (Some x) = refl
  alarm_shift k v _ _ = refl

  -- the first of the cases that applies
  urgent_shift : (k : Fraction) (v : View) (m : Move)
      → urgent_or k (shifted_view n v) (moved n value m) ≡ moved n value (urgent_or k v m)
  urgent_shift k v = urgent_moved (moved n value) k v (shifted_view n v) (completion_shift v v.running)
      (dispatch_shift v v.running v.first_held v.first_waiting) (decision_shift v v.running v.fresh)
      (arrival_shift v v.coming) (alarm_shift k v v.running v.must_start)

-- ---- finishes

-- of a job behind others no finish comes that is one of theirs
first_none : (n : ℕ) (first : List Finish) → Each (λ f. f.number < n) first → (t : Task)
    → find (is_finish_of (Some (shifted n t))) first ≡ None
first_none n [] own t = refl
first_none n (f ∷ first) own t = ap (λ b. cond b (Some f) (find (is_finish_of (Some (shifted n t))) first))
    (ap (λ b. (b && (f.had == t.had)) && nat_lt 0 t.had)
    (ne_eqb f.number (n + t.number) (λ same. let low : f.number < n = own f (inl refl) in omega arith)))
    ∙ first_none n first (λ g member. own g (inr member)) t

-- the option's finish behind others
abbrev behind_option : ℕ → Option Finish → Option Finish
behind_option n None = None
behind_option n (Some f) = Some (behind_finish n f)

-- and its own finishes come as before
behind_same : (n : ℕ) (finishes : List Finish) (t : Task)
    → find (is_finish_of (Some (shifted n t))) (map (behind_finish n) finishes)
    ≡ behind_option n (find (is_finish_of (Some t)) finishes)
behind_same n [] t = refl
behind_same n (f ∷ finishes) t =
    ap (λ b. cond ((b && (f.had == t.had)) && nat_lt 0 t.had) (Some (behind_finish n f))
    (find (is_finish_of (Some (shifted n t))) (map (behind_finish n) finishes))) (eq_shift n f.number t.number)
    ∙ by_test (has_come_to t f) (behind_same n finishes t) where
      by_test : (b : Bool) → find (is_finish_of (Some (shifted n t))) (map (behind_finish n) finishes)
          ≡ behind_option n (find (is_finish_of (Some t)) finishes)
          → cond b (Some (behind_finish n f))
          (find (is_finish_of (Some (shifted n t))) (map (behind_finish n) finishes))
          ≡ behind_option n (cond b (Some f) (find (is_finish_of (Some t)) finishes))
      by_test true same = refl
      by_test false same = same

module _ (rules : Rules) (n : ℕ) (first : List Finish) (own : Each (λ f. f.number < n) first) (overs : List Task)
    (over : Each (λ t. is_over t ≡ true) overs) where
  -- the rules of the whole run
  abbrev pub joint : Rules
  joint = having rules (first ++ map (behind_finish n) rules.finishes)

  -- what those that are over came to
  abbrev pub came_to : ℕ
  came_to = value_sum (filter is_done overs)

  -- the end of a state behind
  ending_beside : (s : State) → (ending (beside n overs s) or_else Ticks) ≡ moved n came_to (ending s or_else Ticks)
  ending_beside s =
      let e_all : list_all is_over (overs ++ map (shifted n) s.tasks) ≡ list_all is_over s.tasks =
      all_back is_over overs (map (shifted n) s.tasks) over ∙ all_shift n is_over (λ _. refl) s.tasks in
      let e_done : value_sum (filter is_done (overs ++ map (shifted n) s.tasks)) ≡ came_to + value_sum
      (filter is_done s.tasks) =
      value_append is_done overs (map (shifted n) s.tasks)
      ∙ ap (λ ts. came_to + value_sum ts) (filter_shift n is_done (λ _. refl) s.tasks)
      ∙ ap (λ v. came_to + v) (value_shift n (filter is_done s.tasks)) in
      ap (λ b. then_some b (Prints (End (value_sum (filter is_done (overs ++ map (shifted n) s.tasks))))) or_else Ticks)
      e_all
      ∙ ap (λ v. then_some (list_all is_over s.tasks) (Prints (End v)) or_else Ticks) e_done
      ∙ by_test (list_all is_over s.tasks) where
        by_test : (b : Bool) → (then_some b (Prints (End (came_to + value_sum (filter is_done s.tasks)))) or_else Ticks)
            ≡ moved n came_to (then_some b (Prints (End (value_sum (filter is_done s.tasks)))) or_else Ticks)
        by_test true = refl
        by_test false = refl

  -- the finish that is due behind
  due_beside : (s : State) → due_finish joint.finishes (beside n overs s)
      ≡ behind_option n (due_finish rules.finishes s)
  due_beside s = ap (λ o. find (is_finish_of o) joint.finishes)
      (find_there n overs over is_running (λ _. refl) (λ _. refl) (λ _. refl) s.tasks)
      ∙ by_running (find is_running s.tasks) where
        by_running : (o : Option Task) → find (is_finish_of (shift_option n o)) joint.finishes
            ≡ behind_option n (find (is_finish_of o) rules.finishes)
        by_running None = none_without joint.finishes ∙ ap (behind_option n) (sym (none_without rules.finishes))
        by_running (Some r) = find-append (is_finish_of (Some (shifted n r))) first (map
            (behind_finish n) rules.finishes)
            ∙ ap (λ o. option_or o (find (is_finish_of (Some (shifted n r))) (map (behind_finish n) rules.finishes)))
            (first_none n first own r)
            ∙ behind_same n rules.finishes r

  -- the step with it
  finish_beside : (s : State) (m : Move)
      → finish_or s.clock (due_finish joint.finishes (beside n overs s)) (moved n came_to m)
      ≡ moved n came_to (finish_or s.clock (due_finish rules.finishes s) m)
  finish_beside s m = ap (λ o. finish_or s.clock o (moved n came_to m)) (due_beside s)
      ∙ by_due (due_finish rules.finishes s) where
        by_due : (o : Option Finish) → finish_or s.clock (behind_option n o) (moved n came_to m)
            ≡ moved n came_to (finish_or s.clock o m)
        by_due None = refl
        by_due (Some f) = refl

  -- the step of a state behind
  pub step_beside : (s : State) → step joint (beside n overs s) ≡ moved n came_to (step rules s)
  step_beside s = ap (finish_or s.clock (due_finish joint.finishes (beside n overs s)))
      (ap (λ v. urgent_or rules.ratio v (ending (beside n overs s) or_else Ticks))
      (view_beside n overs over rules.version s)
      ∙ ap (urgent_or rules.ratio (shifted_view n (view rules.version s))) (ending_beside s)
      ∙ urgent_shift n came_to rules.ratio (view rules.version s) (ending s or_else Ticks))
      ∙ finish_beside s (declared_step rules s)

  -- the open step of a state behind
  pub open_beside : (s : State) → open_step joint (beside n overs s) ≡ moved n came_to (open_step rules s)
  open_beside s = ap (finish_or s.clock (due_finish joint.finishes (beside n overs s)))
      (ap (λ v. urgent_or rules.ratio v Ticks) (view_beside n overs over rules.version s)
      ∙ urgent_shift n came_to rules.ratio (view rules.version s) Ticks)
      ∙ finish_beside s (declared_open_step rules s)

  module _ (low : Each (λ t. t.number < n) overs) where
    -- a change that leaves what is over, and is one behind
    change_beside : (clock : ℕ) (f g : Task → Task) → Each (λ u. f u ≡ u) overs
        → ((t : Task) → f (shifted n t) ≡ shifted n (g t)) → (tasks : List Task)
        → map f (overs ++ map (shifted n) tasks) ≡ overs ++ map (shifted n) (map g tasks)
    change_beside clock f g still same tasks = front overs still where
      back : (ts : List Task) → map f (map (shifted n) ts) ≡ map (shifted n) (map g ts)
      back [] = refl
      back (t ∷ ts) = let here : f (shifted n t) ≡ shifted n (g t) = same t in
          let rest : map f (map (shifted n) ts) ≡ map (shifted n) (map g ts) = back ts in cc

      front : (us : List Task) → Each (λ u. f u ≡ u) us
          → map f (us ++ map (shifted n) tasks) ≡ us ++ map (shifted n) (map g tasks)
      front [] none = back tasks
      front (u ∷ us) none = let here : f u ≡ u = none u (inl refl) in
          let rest : map f (us ++ map (shifted n) tasks) ≡ us ++ map (shifted n) (map g tasks) =
          front us (λ x m. none x (inr m)) in cc

    -- none that is over has a number from n on
    unnamed : (m : ℕ) → Each (λ u. eqb u.number (n + m) ≡ false) overs
    unnamed m u member = let less : u.number < n = low u member in ne_eqb u.number (n + m) (λ same. omega arith)

    -- a change of one role leaves what is over
    one_still : (m : ℕ) (new : Role) → Each (λ u. with_role u (cond (eqb u.number (n + m)) new u.role) ≡ u) overs
    one_still m new u member = ap (λ b. with_role u (cond b new u.role)) (unnamed m u member)

    -- and is one behind
    one_same : (m : ℕ) (new : Role) (t : Task) → with_role (shifted n t) (cond (eqb (n + t.number) (n + m)) new t.role)
        ≡ shifted n (with_role t (cond (eqb t.number m) new t.role))
    one_same m new t = ap (λ b. with_role (shifted n t) (cond b new t.role)) (eq_shift n t.number m)

    -- so the change of one role
    one_beside : (clock m : ℕ) (new : Role) (tasks : List Task)
        → map (λ t. with_role t (cond (eqb t.number (n + m)) new t.role)) (overs ++ map (shifted n) tasks)
        ≡ overs ++ map (shifted n) (map (λ t. with_role t (cond (eqb t.number m) new t.role)) tasks)
    one_beside clock m new tasks = change_beside clock (λ t. with_role t (cond (eqb t.number (n + m)) new t.role))
        (λ t. with_role t (cond (eqb t.number m) new t.role)) (one_still m new) (one_same m new) tasks

    -- what is over isn't displaced
    over_displaced : (u : Task) → is_over u ≡ true → with_role u (displaced u.role) ≡ u
    over_displaced u over_u = of_over (λ role. with_role u (displaced role) ≡ with_role u role) refl refl u over_u

    -- a state
    abbrev state_of : Bool → ℕ → List Task → State
    state_of pressed clock tasks = record { clock = clock; pressed = pressed; tasks = tasks }

    -- the state after the step of a state behind
    pub after_beside : (s : State) (m : Move)
        → after (beside n overs s) (moved n came_to m) ≡ beside n overs (after s m)
    after_beside s (Prints (Release m job)) = ap (state_of s.pressed s.clock) (one_beside s.clock m Fresh s.tasks)
    after_beside s (Prints (Run at m)) = ap (state_of s.pressed s.clock) (one_beside s.clock m Running s.tasks)
    after_beside s (Prints (Complete at m)) =
        ap (λ tasks. state_of (s.pressed && list_any is_open_job tasks) s.clock tasks)
        (one_beside s.clock m Done s.tasks)
        ∙ ap (λ b. state_of (s.pressed && b) s.clock (overs ++ map (shifted n) (after s (Prints (Complete at
        m))).tasks))
        (open_there n overs over (after s (Prints (Complete at m))).tasks)
    after_beside s (Prints (Abandon at m)) = ap (state_of true s.clock) (one_beside s.clock m Gone s.tasks)
    after_beside s (Waits m) = ap (state_of s.pressed s.clock) (one_beside s.clock m Waiting s.tasks)
    after_beside s (Prints (Preempt at stops starts)) = ap (state_of s.pressed s.clock) (change_beside s.clock
        (λ t. with_role t (cond (eqb t.number (n + starts)) Running (cond (eqb t.number (n + stops)) Held t.role)))
        (λ t. with_role t (cond (eqb t.number starts) Running (cond (eqb t.number stops) Held t.role)))
        (λ u member. ap (λ b. with_role u (cond b Running (cond (eqb u.number (n + stops)) Held u.role)))
        (unnamed starts u member)
        ∙ one_still stops Held u member)
        (λ t. ap (λ b. with_role (shifted n t) (cond b Running (cond (eqb (n + t.number) (n + stops)) Held t.role)))
        (eq_shift n t.number starts)
        ∙ ap (λ b. with_role (shifted n t) (cond (eqb t.number starts) Running (cond b Held t.role)))
        (eq_shift n t.number stops)) s.tasks)
    after_beside s (Prints (Take at stops starts)) = ap (state_of s.pressed s.clock) (change_beside s.clock
        (λ t. with_role t (cond (eqb t.number (n + starts)) Running (displaced t.role)))
        (λ t. with_role t (cond (eqb t.number starts) Running (displaced t.role)))
        (λ u member. ap (λ b. with_role u (cond b Running (displaced u.role))) (unnamed starts u member)
        ∙ over_displaced u (over u member))
        (λ t. ap (λ b. with_role (shifted n t) (cond b Running (displaced t.role))) (eq_shift n t.number starts))
        s.tasks)
    after_beside s (Prints (End value)) =
        ap (state_of s.pressed s.clock) (change_beside s.clock (λ t. with_role t t.role) (λ t. with_role t t.role)
        (λ u member. refl) (λ t. refl) s.tasks)
    after_beside s Ticks = ap (state_of s.pressed (s.clock + 1)) (change_beside s.clock ticked ticked
        (λ u member. ticked_over u (over u member)) (λ t. refl) s.tasks)

    -- what a step prints
    event_moved : (m : Move) → event_of (moved n came_to m) ≡ changed_event (behind n came_to) (event_of m)
    event_moved (Prints e) = refl
    event_moved _ = refl

    -- the whole run of a state behind
    pub whole_beside : (zs : List Step) (s : State) → IsWholeRun rules s zs
        → (ys : List Step) × IsWholeRun joint (beside n overs s) ys × (length ys ≡ length zs)
        × (printed_of ys ≡ map (behind n came_to) (printed_of zs))
        × (tasks_in ys ≡ overs ++ map (shifted n) (tasks_in zs))
    whole_beside zs s whole =
        whole_carried rules joint (beside n overs) (moved n came_to) (behind n came_to)
        (λ ts. overs ++ map (shifted n) ts) (λ x. Unit {0}) (λ x. refl) (λ x holds. step_beside x) after_beside
        (λ x m holds. tt) (moved_end n came_to) event_moved zs s tt whole

    -- the settled run of a state behind
    pub settled_beside : (mark : ℕ) (xs : List Step) (s : State) → IsSettledRun rules mark s xs
        → (ys : List Step) × IsSettledRun joint mark (beside n overs s) ys × (length ys ≡ length xs)
        × (printed_of ys ≡ map (behind n came_to) (printed_of xs))
    settled_beside mark [] s run = (
      [],
      ap (λ m. waits_for_mark m && nat_le mark s.clock) (open_beside s)
          ∙ ap (λ b. b && nat_le mark s.clock) (moved_late n came_to (open_step rules s)) ∙ run,
      refl,
      refl,
    )
    settled_beside mark (x ∷ xs) s run = let it = settled_beside mark xs (after s (open_step rules s)) run.2 in (
      open_at joint (beside n overs s) ∷ it.0,
      (
        refl,
        ap (λ m. waits_for_mark m && nat_le mark s.clock) (open_beside s)
            ∙ ap (λ b. b && nat_le mark s.clock) (moved_late n came_to (open_step rules s)) ∙ run.1,
        subst (λ t. IsSettledRun joint mark t it.0)
            (sym (ap (after (beside n overs s)) (open_beside s) ∙ after_beside s (open_step rules s))) it.1,
      ),
      omega (arith, it.2),
      ap (λ m. cons_option (event_of m) (printed_of it.0)) (open_beside s)
          ∙ ap (λ e. cons_option e (printed_of it.0)) (event_moved (open_step rules s))
          ∙ cons_changed (behind n came_to) (event_of (open_step rules s)) (printed_of xs) (printed_of it.0) it.3
          ∙ sym (ap (λ (y : Step). map (behind n came_to) (cons_option (event_of y.move) (printed_of xs))) run.0),
    )
