-- A number that falls at each step but a silent tick: what each job can still bring about.
use Rattle.std.proofs.Common.{◌≡◌, ℕ, ◌+◌, ◌-◌, ◌≤◌, ◌<◌, ◌⊎◌, inl, inr, List, map, refl, sym, ap, ◌∙◌, subst, Bool}
use Rattle.std.proofs.Common.{true, false, cond, ◌||◌, arith, eqb, nat_lt, sum_by, ltb-true, ltb-false, lt-ltb, eq-eqb}
use Rattle.std.proofs.Common.{ne_eqb}
use Rattle.dover_model.specs.Common.{Fraction, Role, Coming, Fresh, Waiting, Held, Running, Done, Gone, Take, Preempt}
use Rattle.dover_model.specs.Common.{Task, State, is_running, is_privileged, is_ready_behind, privileged, left}
use Rattle.dover_model.specs.Common.{latest_start, value_sum, is_heavy, Finish, goes_on, Move, Prints, Ticks, after}
use Rattle.dover_model.specs.Common.{with_role, displaced, ticked, IsMember, IsSound, FitsRole, leaves, one_if}
use Rattle.dover_model.specs.Common.{weight_in, weight, stands, standing}
use Rattle.dover_model.proofs.lists.Members.{by_bool, cond_le, sum_le, sum_map, sum_zero, sum_plus, sum_filter}
use Rattle.dover_model.proofs.lists.Members.{term_le_sum}
use Rattle.dover_model.proofs.finishes.Readiness.{IsReady, Decides, going}
use Rattle.dover_model.proofs.steps.Roles.{is_running_role, is_privileged_role, one_number, passes}
use Rattle.dover_model.proofs.steps.Loads.{Fits, sum_change}
use Rattle.dover_model.proofs.steps.OneChange.{changed, state_with, on_changed_role}
use Rattle.dover_model.proofs.steps.Moves.{says, active_slack}
use Rattle.dover_model.proofs.steps.Ticking.{Quiet}
use Rattle.dover_model.proofs.steps.Deeds.{Deed, Completed, Resumed, Started, Began, Preempted, Stayed, Arrived, Taken}
use Rattle.dover_model.proofs.steps.Deeds.{Abandoned, Rested}
use Rattle.dover_model.proofs.steps.Leaving.{one_leaves, none_leaves, preempt_leaves, take_leaves}
use Rattle.dover_model.proofs.steps.Preempting.{waits_sound, r_there, held_sound, f_there, same_tasks}
use Rattle.dover_model.proofs.lists.Tests.{never}
use Rattle.dover_model.proofs.bound.Calculus.{heavy_more}
use Rattle.dover_model.specs.Weights.{Scale, weights_by}

-- each move lowers the weights by n at least
pub record Lowers (z : Scale) (n : ℕ) : Type 0 where
  pub one : n ≤ 1
  pub arrival : z.fresh + n ≤ z.coming
  pub decision : z.runs + 2 + n ≤ z.fresh
  pub completion : n ≤ z.runs

-- how many steps can still be printed, or silent waits be taken: a release, a decision, a take, a Run, and a completion
-- or an abandonment
abbrev pub steps_scale : Scale
steps_scale = record { coming = 5; fresh = 4; runs = 1 }

-- each move takes a step
pub steps_lower : Lowers steps_scale 1
steps_lower = record { one = omega arith; arrival = omega arith; decision = omega arith; completion = omega arith }

-- ---- tests as numbers

-- at most one
pub one_most : (b : Bool) → one_if b ≤ 1
one_most true = omega arith
one_most false = omega arith

-- a weaker test weighs more
or_less : (a b c : Bool) → (b ≡ true → c ≡ true) → one_if (a || b) ≤ one_if (a || c)
or_less false true false h = never (h refl)
or_less _ _ _ h = omega arith

-- of two tests, one weighs less than either
or_more : (a b : Bool) → one_if a ≤ one_if (a || b)
or_more true b = omega arith
or_more false b = omega arith

-- of two tests, one of which fails
or_none : (a b : Bool) → b ≡ false → one_if (a || b) ≤ one_if a
or_none true b h = omega arith
or_none false true h = never (sym h)
or_none false false h = omega arith

-- what is above more is above less
pub lower_test : (w w' v : ℕ) → w ≤ w' → nat_lt w' v ≡ true → nat_lt w v ≡ true
lower_test w w' v more less = grind (arith, ltb-true, lt-ltb)

-- what is at most is not above
not_less : (a b : ℕ) → b ≤ a → nat_lt a b ≡ false
not_less a b low = by_test (nat_lt a b) refl where
  by_test : (t : Bool) → nat_lt a b ≡ t → t ≡ false
  by_test false e = refl
  by_test true e = let less : a < b = ltb-true _ _ e in absurd (omega arith)

-- a stronger test weighs less
test_less : (a b c d : ℕ) → (a < b → c < d) → one_if (nat_lt a b) ≤ one_if (nat_lt c d)
test_less a b c d h = by_test (nat_lt a b) (nat_lt c d) refl refl where
  by_test : (x y : Bool) → nat_lt a b ≡ x → nat_lt c d ≡ y → one_if x ≤ one_if y
  by_test false y e f = omega arith
  by_test true true e f = omega arith
  by_test true false e f = let low : d ≤ c = ltb-false _ _ f in let less : c < d = h (ltb-true _ _ e) in
      absurd (omega arith)

-- where more stands against a take, no job can bring about more
pub weight_less : (z : Scale) (role : Role) (clock w w' : ℕ) (t : Task) → w ≤ w'
    → weight_in z role clock w' t ≤ weight_in z role clock w t
weight_less z Waiting clock w w' t more =
    omega (
      arith,
      or_less (nat_lt clock (latest_start t)) (nat_lt w' t.job.value) (nat_lt w t.job.value)
          (lower_test w w' t.job.value more),
    )
weight_less z _ clock w w' t more = omega arith

-- the weight of a job of a known role
pub weight_of : (z : Scale) (clock w : ℕ) (t : Task) (role : Role) → t.role ≡ role
    → weight z clock w t ≡ weight_in z role clock w t
weight_of z clock w t role e = ap (λ x. weight_in z x clock w t) e

module _ (finishes : List Finish) where
  -- of all jobs, in steps
  abbrev pub weights : State → ℕ
  weights s = weights_by finishes steps_scale s

  -- what a job of a known role adds
  pub stands_of : (t : Task) (role : Role) → t.role ≡ role → stands finishes t ≡ stands finishes (with_role t role)
  stands_of t role e = ap (λ x. stands finishes (with_role t x)) e

  -- a running job that goes on adds its value
  pub stands_running : (t : Task) → goes_on finishes t ≡ true → stands finishes (with_role t Running) ≡ t.job.value
  stands_running t goes = ap (λ b. cond b t.job.value 0) goes

  -- one that doesn't adds nothing
  pub stands_done : (t : Task) → goes_on finishes t ≡ false → stands finishes (with_role t Running) ≡ 0
  stands_done t ends = ap (λ b. cond b t.job.value 0) ends

  -- a held job adds no less than a running one
  pub stands_held : (t : Task) → t.role ≡ Running → stands finishes t ≤ stands finishes (with_role t Held)
  stands_held t runs = let same : stands finishes t
      ≡ stands finishes (with_role t Running) = stands_of t Running runs in
      let less : stands finishes (with_role t Running) ≤ t.job.value = cond_le
      (goes_on finishes t) t.job.value in omega arith

  -- ---- one job gets a new role

  module _ (z : Scale) (s : State) (sound : IsSound s) (r : Task) (member : IsMember r s.tasks) (new : Role)
      (no_less : stands finishes r ≤ stands finishes (with_role r new)) where
    -- where this one adds no less, no less stands
    pub standing_more : standing finishes s.tasks ≤ standing finishes (state_with s r new).tasks
    standing_more = rw (sum_map (λ t. with_role t (changed r new t)) (stands finishes) s.tasks)
        (sum_le (stands finishes) (λ t. stands finishes (with_role t (changed r new t))) s.tasks
        (on_changed_role 0 s.tasks sound.numbered r member new (λ t role. stands finishes t ≤ stands finishes
        (with_role t role)) no_less
        (λ t m _. omega arith)))

    -- the weights change as the weight of this one, or fall more
    pub one_weighs : (a b : ℕ) → ((w : ℕ) → weight z s.clock w (with_role r new) + a ≤ weight z s.clock w r + b)
        → weights_by finishes z (state_with s r new) + a ≤ weights_by finishes z s + b
    one_weighs a b falls = rw
        (sum_map (λ t. with_role t (changed r new t)) (weight z s.clock (standing finishes
        (state_with s r new).tasks)) s.tasks)
        (sum_change (λ t. weight z s.clock (standing finishes (state_with s r new).tasks) (with_role t
        (changed r new t)))
        (weight z s.clock (standing finishes s.tasks)) a b 0 s.tasks r sound.numbered member
        (rw (eq-eqb r.number r.number refl)
        (omega (
          arith,
          falls (standing finishes s.tasks),
          weight_less z new s.clock (standing finishes s.tasks) (standing finishes (state_with s r new).tasks)
              (with_role r new) standing_more,
        )))
        (on_changed_role 0 s.tasks sound.numbered r member new
        (λ t role. (t.number ≡ r.number → ⊥)
        → weight z s.clock (standing finishes (state_with s r new).tasks) (with_role t role) ≤ weight z s.clock
        (standing finishes s.tasks) t)
        (λ differs. absurd (differs refl))
        (λ t m _ _. weight_less z t.role s.clock (standing finishes s.tasks)
        (standing finishes (state_with s r new).tasks) t standing_more)))

  -- ---- a take

  -- a displaced job weighs no more, or one more if it ran
  displaced_weight : (z : Scale) (role : Role) (clock w w' : ℕ) (t : Task) → w ≤ w'
      → (is_privileged (with_role t role) ≡ true → t.job.value ≤ w')
      → weight_in z (displaced role) clock w' (with_role t (displaced role)) ≤ weight_in z role clock w t + one_if
      (is_running (with_role t role))
  displaced_weight z Waiting clock w w' t more stood = omega (arith, weight_less z Waiting clock w w' t more)
  displaced_weight z Held clock w w' t more stood =
      omega (
        arith,
        or_none (nat_lt clock (latest_start t)) (nat_lt w' t.job.value)
            (not_less w' t.job.value (stood refl)),
      )
  displaced_weight z Running clock w w' t more stood =
      omega (
        arith,
        or_none (nat_lt clock (latest_start t)) (nat_lt w' t.job.value)
            (not_less w' t.job.value (stood refl)),
      )
  displaced_weight z _ clock w w' t more stood = omega arith

  -- only running and held jobs add
  stands_most : (t : Task) → stands finishes t ≤ cond (is_privileged t) t.job.value 0
  stands_most t = by_role t.role where
    by_role : (role : Role) → stands finishes (with_role t role) ≤ cond (is_privileged (with_role t role)) t.job.value 0
    by_role Running = by_left (goes_on finishes t) where
      by_left : (b : Bool) → cond b t.job.value 0 ≤ t.job.value
      by_left true = omega arith
      by_left false = omega arith
    by_role _ = omega arith

  module _ (z : Scale) (k : Fraction) (s : State) (sound : IsSound s) (r x : Task) (member : IsMember r s.tasks)
      (runs : r.role ≡ Running)
      (some : goes_on finishes r ≡ true) (x_member : IsMember x s.tasks) (waiting : x.role ≡ Waiting)
      (goes : goes_on finishes x ≡ true)
      (now : latest_start x ≡ s.clock) (heavy : is_heavy k x.job.value (value_sum (privileged s)) ≡ true) where
    -- the role after the take
    abbrev role_then : Task → Role
    role_then t = cond (eqb t.number x.number) Running (displaced t.role)

    -- the tasks after the take
    abbrev tasks_then : List Task
    tasks_then = map (λ t. with_role t (role_then t)) s.tasks

    -- less than the value of x stood against it
    pub stood_less : standing finishes s.tasks < x.job.value
    stood_less =
        let sums : sum_by (λ t. t.job.value) (privileged s)
        ≡ sum_by (λ t. cond (is_privileged t) t.job.value 0) s.tasks =
        sum_filter is_privileged (λ t. t.job.value) s.tasks in
        let less : value_sum (privileged s) < x.job.value = heavy_more k x.job.value (value_sum (privileged s))
        heavy in
        let most : standing finishes s.tasks ≤ sum_by (λ t. cond (is_privileged t) t.job.value 0) s.tasks =
        sum_le (stands finishes) (λ t. cond (is_privileged t) t.job.value 0) s.tasks (λ t m. stands_most t) in
        omega arith

    -- then x stands
    pub stands_then : x.job.value ≤ standing finishes tasks_then
    stands_then =
        let at_x : stands finishes (with_role x (role_then x)) ≡ x.job.value =
        ap (λ b. stands finishes (with_role x (cond b Running (displaced x.role)))) (eq-eqb x.number x.number refl)
        ∙ stands_running x goes in
        let term : stands finishes (with_role x (role_then x)) ≤ sum_by (λ t. stands finishes (with_role t
        (role_then t))) s.tasks =
        term_le_sum (λ t. stands finishes (with_role t (role_then t))) s.tasks x x_member in
        rw (sum_map (λ t. with_role t (role_then t)) (stands finishes) s.tasks) (omega arith)

    -- each running or held job stood
    pub stood : (t : Task) → IsMember t s.tasks → is_privileged t ≡ true → t.job.value ≤ standing finishes s.tasks
    stood t m is_in = let same : stands finishes t ≡ t.job.value = by_active (is_privileged_role t is_in) in
        let term : stands finishes t ≤ standing finishes s.tasks = term_le_sum
        (stands finishes) s.tasks t m in omega arith where
          by_active : (t.role ≡ Running) ⊎ (t.role ≡ Held) → stands finishes t ≡ t.job.value
          by_active (inl e) = stands_of t Running e
              ∙ stands_running t (subst (λ y. goes_on finishes y ≡ true)
              (sym (one_number 0 s.tasks sound.numbered t r m member (sound.one_runs t r m member e runs))) some)
          by_active (inr e) = stands_of t Held e

    -- one job runs at most
    one_runs : sum_by (λ t. one_if (is_running t)) s.tasks ≤ 1
    one_runs =
        let most : sum_by (λ t. one_if (is_running t)) s.tasks + 0 ≤ sum_by (λ (t : Task). 0) s.tasks + 1 =
        sum_change (λ t. one_if (is_running t)) (λ t. 0) 0 1 0 s.tasks r sound.numbered member
        (omega (arith, one_most (is_running r)))
        (λ u m differs. by_bool _ (is_running u)
        (λ e. absurd (differs (sound.one_runs u r m member (is_running_role u e) runs)))
        (λ e. omega (arith, ap one_if e))) in
        omega (arith, sum_zero (λ (t : Task). 0) s.tasks (λ t m. refl))

    -- a take lowers the weights
    pub take_weighs : weights_by finishes z (after s (Prints
        (Take s.clock r.number x.number))) + 1 ≤ weights_by finishes z s
    take_weighs =
        let up : standing finishes s.tasks ≤ standing finishes tasks_then = omega (arith, stood_less, stands_then) in
        let at_x : weight z s.clock (standing finishes tasks_then) (with_role x (role_then x)) + 2 ≤ weight z s.clock
        (standing finishes s.tasks) x + one_if
        (is_running x) + 0 =
        rw (eq-eqb x.number x.number refl) (omega (
          arith,
          spent,
          weight_of z s.clock (standing finishes s.tasks) x Waiting waiting,
          or_more_right (nat_lt s.clock (latest_start x)) (nat_lt (standing finishes s.tasks) x.job.value)
              (lt-ltb _ _ stood_less),
        )) in
        let all : sum_by (λ t. weight z s.clock (standing finishes tasks_then) (with_role t
        (role_then t))) s.tasks + 2 ≤ sum_by
        (λ t. weight z s.clock (standing finishes s.tasks) t + one_if (is_running t)) s.tasks + 0 =
        sum_change (λ t. weight z s.clock (standing finishes tasks_then) (with_role t (role_then t)))
        (λ t. weight z s.clock (standing finishes s.tasks) t + one_if
        (is_running t)) 2 0 0 s.tasks x sound.numbered x_member at_x
        (λ t m differs. rw (ne_eqb t.number x.number differs)
        (displaced_weight z t.role s.clock (standing finishes s.tasks) (standing finishes tasks_then) t up
        (λ is_in. let low : t.job.value ≤ standing finishes s.tasks = stood t m is_in in omega arith))) in
        rw (sum_map (λ t. with_role t (role_then t)) (weight z s.clock (standing finishes tasks_then)) s.tasks)
        (omega (
          arith,
          sum_plus (weight z s.clock (standing finishes s.tasks)) (λ t. one_if (is_running t)) s.tasks,
          one_runs,
        )) where
          or_more_right : (a b : Bool) → b ≡ true → one_if (a || b) ≡ 1
          or_more_right true b h = refl
          or_more_right false b h = ap one_if h

          spent : one_if (nat_lt s.clock (latest_start x)) ≡ 0
          spent = ap one_if (not_less s.clock (latest_start x) (omega (arith, now)))

  -- ---- a tick

  module _ (z : Scale) (s : State) (sound : IsSound s) (quiet : Quiet s) where
    -- no job weighs more after a silent tick
    pub tick_weight : (w w' : ℕ) (t : Task) (role : Role) → FitsRole s.clock role (with_role t role)
        → (role ≡ Waiting → latest_start t ≡ s.clock → ⊥)
        → (role ≡ Running → 1 ≤ left t) → (is_privileged (with_role t role) ≡ true → s.clock + left t ≤ t.job.deadline)
        → t.had ≤ t.job.work → weight_in z role (s.clock + 1) w' (ticked (with_role t role))
        ≤ weight_in z role s.clock w t
    tick_weight w w' t Waiting fits early some slack most =
        let in_time : s.clock + left t ≤ t.job.deadline = fits.2 in
        let not_now : latest_start t ≡ s.clock → ⊥ = early refl in
        let ahead : s.clock < latest_start t = omega arith in
        omega (
          arith,
          one_most (nat_lt (s.clock + 1) (latest_start t) || nat_lt w' t.job.value),
          ap (λ b. one_if (b || nat_lt w t.job.value))
              (lt-ltb _ _ ahead),
        )
    tick_weight w w' t Held fits early some slack most =
        omega (arith, test_less (s.clock + 1) (latest_start t) s.clock (latest_start t) (λ h. omega arith))
    tick_weight w w' t Running fits early some slack most =
        let some_left : 1 ≤ left t = some refl in
        let in_time : s.clock + left t ≤ t.job.deadline = slack refl in
        omega (
          arith,
          test_less (s.clock + 1) (t.job.deadline - (t.job.work - (t.had + 1))) s.clock (latest_start t)
              (λ h. omega arith),
        )
    tick_weight w w' t _ fits early some slack most = omega arith

    -- a silent tick does not raise the weights
    pub tick_weighs : weights_by finishes z (after s Ticks) ≤ weights_by finishes z s
    tick_weighs = rw (sum_map ticked (weight z (s.clock + 1) (standing finishes (map ticked s.tasks))) s.tasks)
        (sum_le (λ t. weight z (s.clock + 1) (standing finishes (map ticked s.tasks)) (ticked t))
        (weight z s.clock (standing finishes s.tasks)) s.tasks
        (λ t m. tick_weight (standing finishes s.tasks) (standing finishes (map ticked s.tasks)) t t.role
        (sound.roles t m)
        (quiet.early t m) (quiet.busy t m)
        (active_slack s sound t m) (sound.at_most_work t m)))

  -- ---- a preemption

  -- of a job that neither runs nor is held
  pub stood_not : (t : Task) (role : Role) → t.role ≡ role → stands finishes (with_role t role) ≡ 0 → (n : ℕ)
      → stands finishes t ≤ n
  stood_not t role e none n = omega (arith, stands_of t role e, none)

  module _ (z : Scale) (n : ℕ) (low : Lowers z n) (s : State) (sound : IsSound s) (r f : Task)
      (member : IsMember r s.tasks)
      (runs : r.role ≡ Running) (some : 1 ≤ left r)
      (f_member : IsMember f s.tasks) (fresh : f.role ≡ Fresh) (before : f.job.deadline < r.job.deadline)
      (fits : Fits (left f) s) where
    -- the running job is held, the fresh one waits
    abbrev held_state : State
    held_state = state_with (state_with s f Waiting) r Held

    -- the fresh job decides
    first_weighs : weights_by finishes z (state_with s f Waiting) + n ≤ weights_by finishes z s + 0
    first_weighs = one_weighs z s sound f f_member Waiting
        (stood_not f Fresh fresh refl (stands finishes (with_role f Waiting))) n 0
        (λ w. omega (
          arith,
          low.decision,
          weight_of z s.clock w f Fresh fresh,
          one_most (nat_lt s.clock (latest_start f) || nat_lt w f.job.value),
        ))

    -- the running job is held again
    second_weighs : weights_by finishes z held_state + 0 ≤ weights_by finishes z (state_with s f Waiting) + 1
    second_weighs = one_weighs z (state_with s f Waiting)
        (waits_sound s sound r f member runs some f_member fresh before fits) r
        (r_there s sound r f member runs some f_member fresh before fits) Held
        (stands_held r runs) 0 1
        (λ w. omega (arith, weight_of z s.clock w r Running runs))

    -- the waiting job runs
    third_weighs : weights_by finishes z (state_with held_state
        (with_role f Waiting) Running) + 1 ≤ weights_by finishes z held_state + 0
    third_weighs = one_weighs z held_state (held_sound s sound r f member runs some f_member fresh before fits)
        (with_role f Waiting)
        (f_there s sound r f member runs some f_member fresh before fits) Running
        (omega arith) 1 0 (λ w. omega (arith, or_more (nat_lt s.clock (latest_start f)) (nat_lt w f.job.value)))

    -- a preemption lowers the weights
    pub preempt_weighs : weights_by finishes z (after s (Prints
        (Preempt s.clock r.number f.number))) + n ≤ weights_by finishes z s
    preempt_weighs =
        let whole : weights_by finishes z (state_with held_state
        (with_role f Waiting) Running) + n ≤ weights_by finishes z s =
        omega (arith, first_weighs, second_weighs, third_weighs) in
        subst (λ (tasks : List Task). weights_by finishes z
        (record s { tasks = tasks }) + n ≤ weights_by finishes z s)
        (same_tasks s sound r f member runs some f_member fresh before fits) whole

  -- ---- each deed but a rest

  -- a move lowers the weights by n at least, and by one for a job that ceases to wait
  pub record Weighs (z : Scale) (n : ℕ) (s : State) (m : Move) : Type 0 where
    pub drop : ℕ
    pub least : n ≤ drop
    pub leaving : leaves s m ≤ drop
    pub falls : weights_by finishes z (after s m) + drop ≤ weights_by finishes z s

  module _ (z : Scale) (n : ℕ) (low : Lowers z n) (k : Fraction) (s : State) (other : Move) (sound : IsSound s)
      (ready : IsReady finishes s) where
    -- a job behind goes on
    behind_goes : (t : Task) → IsMember t s.tasks → is_ready_behind t ≡ true → 1 ≤ left t → goes_on finishes t ≡ true
    behind_goes t member behind some = going finishes t some (ready t member behind)

    -- each deed but a rest lowers the weights
    pub deed_lowers : (m : Move) → Deed k s other m → Decides finishes s m → (Quiet s × (m ≡ other)) ⊎ Weighs z n s m
    deed_lowers m (Completed r member runs) it = inr (record {
      drop = n;
      least = omega arith;
      leaving = omega (arith, none_leaves s sound r member Done Running runs refl);
      falls = omega (
        arith,
        one_weighs z s sound r member Done (omega (
          arith,
          stands_of r Running runs,
          stands_done r
              (it.ends refl r member runs),
        )) n 0
            (λ w. omega (arith, low.completion, weight_of z s.clock w r Running runs)),
      );
    })
    deed_lowers m (Resumed p member held none least why) it = inr (record {
      drop = 1;
      least = low.one;
      leaving = omega (arith, none_leaves s sound p member Running Held held refl);
      falls = omega (
        arith,
        one_weighs z s sound p member Running
            (omega (
              arith,
              stands_of p Held held,
              stands_running p
                  (behind_goes p member (passes is_ready_behind p Held true held refl)
                  (says s sound p member Held held).0),
            )) 1 0
            (λ w. omega (arith, weight_of z s.clock w p Held held)),
      );
    })
    deed_lowers m (Started o member waiting none first fits next) it = inr (record {
      drop = 1;
      least = low.one;
      leaving = one_leaves s sound o member Running;
      falls = omega (
        arith,
        one_weighs z s sound o member Running (stood_not o Waiting waiting refl (stands finishes
            (with_role o Running))) 1 0
            (λ w. omega (
              arith,
              weight_of z s.clock w o Waiting waiting,
              or_more (nat_lt s.clock (latest_start o)) (nat_lt w o.job.value),
            )),
      );
    })
    deed_lowers m (Began f member fresh none free) it = inr (record {
      drop = n;
      least = omega arith;
      leaving = omega (arith, none_leaves s sound f member Running Fresh fresh refl);
      falls = omega (
        arith,
        one_weighs z s sound f member Running (stood_not f Fresh fresh refl (stands finishes (with_role f Running))) n 0
            (λ w. omega (
              arith,
              low.decision,
              weight_of z s.clock w f Fresh fresh,
              one_most (nat_lt s.clock (latest_start f)),
            )),
      );
    })
    deed_lowers m (Preempted r f member runs some f_member fresh before fits) it = inr (record {
      drop = n;
      least = omega arith;
      leaving = omega (arith, preempt_leaves s sound r f member f_member runs fresh);
      falls = preempt_weighs z n low s sound r f member runs some f_member fresh before fits;
    })
    deed_lowers m (Stayed r f member runs some f_member fresh why) it = inr (record {
      drop = n;
      least = omega arith;
      leaving = omega (arith, none_leaves s sound f f_member Waiting Fresh fresh refl);
      falls = omega (
        arith,
        one_weighs z s sound f f_member Waiting (stood_not f Fresh fresh refl (stands finishes
            (with_role f Waiting))) n 0
            (λ w. omega (
              arith,
              low.decision,
              weight_of z s.clock w f Fresh fresh,
              one_most
                  (nat_lt s.clock (latest_start f) || nat_lt w f.job.value),
            )),
      );
    })
    deed_lowers m (Arrived c member comes now first stale busy free) it = inr (record {
      drop = n;
      least = omega arith;
      leaving = omega (arith, none_leaves s sound c member Fresh Coming comes refl);
      falls = omega (
        arith,
        one_weighs z s sound c member Fresh (stood_not c Coming comes refl (stands finishes (with_role c Fresh))) n 0
            (λ w. omega (arith, low.arrival, weight_of z s.clock w c Coming comes)),
      );
    })
    deed_lowers m (Taken r x member runs some x_member waiting now stale heavy) it = inr (record {
      drop = 1;
      least = low.one;
      leaving = take_leaves s sound r x x_member;
      falls = take_weighs z k s sound r x member runs (going finishes r some
          (it.goes refl r member runs)) x_member waiting
          (behind_goes x x_member (passes is_ready_behind x Waiting true waiting refl)
          (says s sound x x_member Waiting waiting).0) now heavy;
    })
    deed_lowers m (Abandoned r x member runs some x_member waiting now stale light) it = inr (record {
      drop = 1;
      least = low.one;
      leaving = one_leaves s sound x x_member Gone;
      falls = omega (
        arith,
        one_weighs z s sound x x_member Gone (stood_not x Waiting waiting refl (stands finishes (with_role x Gone))) 1 0
            (λ w. omega (arith, weight_of z s.clock w x Waiting waiting)),
      );
    })
    deed_lowers m (Rested quiet) it = inl (quiet, refl)

  -- each deed but a rest lowers the steps that can still be taken
  pub deed_weighs : (k : Fraction) (s : State) (other : Move) → IsSound s → IsReady finishes s → (m : Move)
      → Deed k s other m → Decides finishes s m
      → (Quiet s × (m ≡ other)) ⊎ (weights (after s m) + 1 ≤ weights s)
  deed_weighs k s other sound ready m deed told =
      by_case (deed_lowers steps_scale 1 steps_lower k s other sound ready m deed told) where
        by_case : (Quiet s × (m ≡ other)) ⊎ Weighs steps_scale 1 s m → (Quiet s × (m ≡ other))
            ⊎ (weights (after s m) + 1 ≤ weights s)
        by_case (inl rest) = inl rest
        by_case (inr it) = inr (let least : 1 ≤ it.drop = it.least in omega (arith, it.falls))
