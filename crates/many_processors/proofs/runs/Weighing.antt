-- What each job can still bring about, as a number that falls at each step but a silent tick.
use Rattle.std.proofs.Common.{◌≡◌, ℕ, ◌+◌, ◌≤◌, ◌<◌, ◌⊎◌, inl, inr, List, map, refl, sym, ap, ◌∙◌, subst, Bool}
use Rattle.std.proofs.Common.{true, false, cond, ◌||◌, ◌==◌, arith, eqb, nat_lt, sum_by, eq-eqb, eqb-true, lt-ltb}
use Rattle.std.proofs.Common.{ltb-true}
use Rattle.std.proofs.lemmas.Bool.{and_parts, eqb-false}
use Rattle.dover_model.specs.declared.events.Event.TheVariants.{Preempt, Take}
use Rattle.dover_model.specs.declared.events.Task.{Task}
use Rattle.dover_model.specs.declared.events.Role.{Role}
use Rattle.dover_model.specs.declared.events.Role.TheVariants.{Coming, Fresh, Waiting, Held, Running, Done, Gone}
use Rattle.dover_model.specs.Finishes.{Finish, is_due}
use Rattle.dover_model.specs.Common.{Fraction, is_privileged, is_running, is_ready_behind, left, latest_start}
use Rattle.dover_model.specs.Common.{with_role}
use Rattle.dover_model.specs.Common.{IsMember, Each, FitsRole, Instance, IsHeavy}
use Rattle.dover_model.specs.Common.{weight_in, weight, one_if}
use Rattle.dover_model.specs.Step as single
use Rattle.dover_model.proofs.bound.Calculus.{heavy_more}
use Rattle.dover_model.proofs.lists.Tests.{never}
use Rattle.dover_model.proofs.lists.Members.{map_member, sum_le, sum_map, sum_zero, sum_plus, on_map}
use Rattle.dover_model.proofs.lists.Members.{term_le_sum}
use Rattle.dover_model.proofs.runs.Potential.{steps_scale, one_most, weight_less, weight_of, tick_weight}
use Rattle.dover_model.proofs.steps.Moves.{active_slack}
use Rattle.dover_model.proofs.steps.Roles.{passes, is_privileged_role, is_running_role}
use Rattle.dover_model.proofs.steps.Ticking.{Quiet}
use Rattle.many_processors.specs.State.{Placed, State, seen_by, seen_from}
use Rattle.many_processors.specs.Step.{placed_after, in_role, placed_on, is_own_of, ticked, with_tick, after, Ticks}
use Rattle.many_processors.specs.Sound.{Keeps}
use Rattle.many_processors.proofs.books.Booked.{own_sum, value_of, sum_at}
use Rattle.many_processors.proofs.steps.Cases.{is_finished}
use Rattle.many_processors.proofs.steps.Kept.{had_most}
use Rattle.many_processors.proofs.books.Moved.{StaysFor, own_stays}
use Rattle.many_processors.proofs.books.MovedSteps.{own_grows, off_own, other_own, task_stays}
use Rattle.many_processors.proofs.steps.Placing.{own_seen, off_seen}

-- what a job can still bring about, where a take has to beat w
abbrev pub weighs_one : (clock w : ℕ) → Placed → ℕ
weighs_one clock w p = weight steps_scale clock w p.task

-- all jobs
abbrev pub weighs : (clock w : ℕ) → List Placed → ℕ
weighs clock w jobs = sum_by (weighs_one clock w) jobs

-- a take has to beat w on each processor, no job behind has come to a finish, and where w isn't zero no job that runs
-- has come to its end
pub record Lasting (finishes : List Finish) (processors : ℕ) (s : State) (w : ℕ) : Type 0 where
  pub low : (q : ℕ) → q < processors → w ≤ own_sum q value_of s.jobs
  pub ready : Each (λ p. is_ready_behind p.task ≡ true → is_due finishes p.task ≡ false) s.jobs
  pub going : (w ≡ 0) ⊎ Each (λ p. p.task.role ≡ Running → is_finished finishes p.task ≡ false) s.jobs

-- a job of this role can take no more, where a take has to beat w: it is at its latest start or past it, and where it
-- waits, it is worth w at most
abbrev pub SpentIn : Role → (clock w : ℕ) → Task → Type 0
SpentIn Coming clock w t = ⊥
SpentIn Fresh clock w t = ⊥
SpentIn Waiting clock w t = (latest_start t ≤ clock) × (t.job.value ≤ w)
SpentIn Held clock w t = latest_start t ≤ clock
SpentIn Running clock w t = latest_start t ≤ clock
SpentIn Done clock w t = Unit {0}
SpentIn Gone clock w t = Unit {0}

-- nor can job n
abbrev pub IsSpent : ℕ → State → ℕ → Type 0
IsSpent n s w = Each (λ p. p.task.number ≡ n → SpentIn p.task.role s.clock w p.task) s.jobs

-- after a step it is so with less weight, and a job that can take no more still can't
abbrev pub Falls : List Finish → (processors : ℕ) → State → State → ℕ → Type 0
Falls finishes processors s t w = (more : ℕ) × Lasting finishes processors t more
    × (weighs t.clock more t.jobs + 1 ≤ weighs s.clock w s.jobs) × ((n : ℕ) → IsSpent n s w → IsSpent n t more)

-- ---- tests as numbers

or_more : (a b : Bool) → one_if a ≤ one_if (a || b)
or_more true b = omega arith
or_more false b = omega arith

-- a job that runs weighs less than it did before
runs_less : (clock w : ℕ) (t : Task) (role : Role) → (role ≡ Held) ⊎ ((role ≡ Waiting) ⊎ (role ≡ Fresh))
    → weight_in steps_scale Running clock w t + 1 ≤ weight_in steps_scale role clock w t
runs_less clock w t role (inl e) = subst (λ r. weight_in steps_scale Running clock w t + 1
    ≤ weight_in steps_scale r clock w t) (sym e) (omega arith)
runs_less clock w t role (inr (inl e)) = subst (λ r. weight_in steps_scale Running clock w t + 1
    ≤ weight_in steps_scale r clock w t) (sym e)
    (omega (arith, or_more (nat_lt clock (latest_start t)) (nat_lt w t.job.value)))
runs_less clock w t role (inr (inr e)) = subst (λ r. weight_in steps_scale Running clock w t + 1
    ≤ weight_in steps_scale r clock w t) (sym e) (omega (arith, one_most (nat_lt clock (latest_start t))))

-- of a job of a known role
pub spent_as : (clock w : ℕ) (t : Task) (role : Role) → t.role ≡ role → SpentIn t.role clock w t
    → SpentIn role clock w t
spent_as clock w t role e spent = subst (λ r. SpentIn r clock w t) e spent

-- where a take has to beat more, it stays so
spent_more : (role : Role) (clock w more : ℕ) (t : Task) → w ≤ more → SpentIn role clock w t
    → SpentIn role clock more t
spent_more Waiting clock w more t low spent = (spent.0, omega (arith, low, spent.1))
spent_more Coming clock w more t low spent = absurd spent
spent_more Fresh clock w more t low spent = absurd spent
spent_more Held clock w more t low spent = spent
spent_more Running clock w more t low spent = spent
spent_more Done clock w more t low spent = tt
spent_more Gone clock w more t low spent = tt

-- what becomes of a job is of its number, and can take no more where the job can't
abbrev StaysSpent : (clock w more : ℕ) → Placed → Placed → Type 0
StaysSpent clock w more p u = (u.task.number ≡ p.task.number)
    × (SpentIn p.task.role clock w p.task → SpentIn u.task.role clock more u.task)

-- so it is with all jobs
all_spent : (s : State) (w more clock : ℕ) (h : Placed → Placed) (pressed : Bool)
    → Each (λ p. (((h p).task.number ≡ p.task.number)
    × (SpentIn p.task.role s.clock w p.task → SpentIn (h p).task.role clock more (h p).task))) s.jobs
    → (n : ℕ) → IsSpent n s w → IsSpent n (record { clock = clock; jobs = map h s.jobs; pressed = pressed }) more
all_spent s w more clock h pressed each n spent = on_map h
    (λ p. p.task.number ≡ n → SpentIn p.task.role clock more p.task) s.jobs
    (λ p member same. (each p member).1 (spent p member (sym (each p member).0 ∙ same)))

-- what isn't at its end
pub goes_on : (finishes : List Finish) (t : Task) → 1 ≤ left t → is_due finishes t ≡ false → is_finished finishes t
    ≡ false
goes_on finishes t some none = ap (λ b. b || is_due finishes t) (some_left (left t) some) ∙ none where
  some_left : (n : ℕ) → 1 ≤ n → (n == 0) ≡ false
  some_left n some = by_test (n == 0) refl where
    by_test : (b : Bool) → (n == 0) ≡ b → (n == 0) ≡ false
    by_test false e = e
    by_test true e = absurd (let zero_n : n ≡ 0 = eqb-true _ _ e in omega (arith, zero_n, some))

module _ (processors : ℕ) (J : Instance) (s : State) (keeps : Keeps processors J s) where
  -- each job fits its role
  pub role_fits : Each (λ p. FitsRole s.clock p.task.role p.task) s.jobs
  role_fits p member = subst (λ t. FitsRole s.clock t.role t) (own_seen p.owner p refl)
      ((keeps.sound p.owner).roles (seen_by p.owner p) (map_member (seen_by p.owner) s.jobs p member))

  pub fits_in : (role : Role) → Each (λ p. p.task.role ≡ role → FitsRole s.clock role p.task) s.jobs
  fits_in role p member e = subst (λ r. FitsRole s.clock r p.task) e (role_fits p member)

  -- a running or held job has slack
  pub on_slack : Each (λ p. is_privileged p.task ≡ true → s.clock + left p.task ≤ p.task.job.deadline) s.jobs
  on_slack p member on =
      let same : seen_by p.owner p ≡ p.task = own_seen p.owner p refl in
      subst (λ t. s.clock + left t ≤ t.job.deadline) same
      (active_slack (seen_from p.owner s) (keeps.sound p.owner) (seen_by p.owner p)
      (map_member (seen_by p.owner) s.jobs p member) (ap is_privileged same ∙ on))

  -- where one job changes
  pub one_falls : (h : Placed → Placed) (w : ℕ) (x : Placed) → IsMember x s.jobs
      → Each (λ p. (p.task.number ≡ x.task.number → ⊥) → h p ≡ p) s.jobs
      → weighs_one s.clock w (h x) + 1 ≤ weighs_one s.clock w x
      → weighs s.clock w (map h s.jobs) + 1 ≤ weighs s.clock w s.jobs
  one_falls h w x member others less = omega (
    arith,
    less,
    sum_map h (weighs_one s.clock w) s.jobs,
    sum_at (λ p. weighs_one s.clock w (h p)) (weighs_one s.clock w) 0 s.jobs x (keeps.sound 0).numbered member
        (λ p m differs. ap (weighs_one s.clock w) (others p m differs)),
  )

  -- one job has the number
  pub number_count : (x : Placed) → IsMember x s.jobs
      → sum_by (λ p. one_if (eqb p.task.number x.task.number)) s.jobs ≡ 1
  number_count x member = omega (
    arith,
    sum_at (λ p. one_if (eqb p.task.number x.task.number)) (λ p. 0) 0 s.jobs x (keeps.sound 0).numbered member
        (λ p m differs. fails p (eqb p.task.number x.task.number) refl differs),
    ap one_if (eq-eqb x.task.number x.task.number refl),
    sum_zero (λ (p : Placed). 0) s.jobs (λ p m. refl),
  ) where
    fails : (p : Placed) (b : Bool) → eqb p.task.number x.task.number ≡ b → (p.task.number ≡ x.task.number → ⊥)
        → one_if (eqb p.task.number x.task.number) ≡ 0
    fails p false e differs = ap one_if e
    fails p true e differs = absurd (differs (eqb-true _ _ e))

  -- where x falls by two and y rises by one
  two_fall : (h : Placed → Placed) (w more : ℕ) (x y : Placed) → IsMember x s.jobs → IsMember y s.jobs
      → Each (λ p. weighs_one s.clock more (h p) + (one_if (eqb p.task.number x.task.number)
      + one_if (eqb p.task.number x.task.number))
      ≤ weighs_one s.clock w p + one_if (eqb p.task.number y.task.number)) s.jobs
      → weighs s.clock more (map h s.jobs) + 1 ≤ weighs s.clock w s.jobs
  two_fall h w more x y x_member y_member each = omega (
    arith,
    number_count x x_member,
    number_count y y_member,
    sum_map h (weighs_one s.clock more) s.jobs,
    sum_plus (λ p. weighs_one s.clock more (h p))
        (λ p. one_if (eqb p.task.number x.task.number) + one_if (eqb p.task.number x.task.number)) s.jobs,
    sum_plus (λ p. one_if (eqb p.task.number x.task.number)) (λ p. one_if (eqb p.task.number x.task.number)) s.jobs,
    sum_plus (weighs_one s.clock w) (λ p. one_if (eqb p.task.number y.task.number)) s.jobs,
    sum_le (λ p. weighs_one s.clock more (h p) + (one_if (eqb p.task.number x.task.number)
        + one_if (eqb p.task.number x.task.number)))
        (λ p. weighs_one s.clock w p + one_if (eqb p.task.number y.task.number)) s.jobs each,
  )

  module _ (finishes : List Finish) (w : ℕ) (it : Lasting finishes processors s w)
      (one_job : (p u : Placed) → IsMember p s.jobs → IsMember u s.jobs → p.task.number ≡ u.task.number → p ≡ u) where
    -- where nothing leaves a processor
    pub grows : (h : Placed → Placed) (pressed : Bool) → Each (λ p. (h p).task.job ≡ p.task.job) s.jobs
        → ((q : ℕ) → Each (λ p. is_own_of q p ≡ true → is_own_of q (h p) ≡ true) s.jobs)
        → Each (λ p. is_ready_behind (h p).task ≡ true → is_due finishes (h p).task ≡ false) s.jobs
        → Each (λ p. (h p).task.role ≡ Running → ((h p).task ≡ p.task) ⊎ (is_finished finishes (h p).task ≡ false))
        s.jobs
        → weighs s.clock w (map h s.jobs) + 1 ≤ weighs s.clock w s.jobs
        → Each (λ p. StaysSpent s.clock w w p (h p)) s.jobs
        → Falls finishes processors s (record { clock = s.clock; jobs = map h s.jobs; pressed = pressed }) w
    grows h pressed same own ready going less spent = (
      w,
      record {
        low = λ q q_low. omega (arith, it.low q q_low, own_grows q h s.jobs same (own q));
        ready = on_map h (λ p. is_ready_behind p.task ≡ true → is_due finishes p.task ≡ false) s.jobs ready;
        going = by_going it.going;
      },
      less,
      all_spent s w w s.clock h pressed spent,
    ) where
      by_going : (w ≡ 0) ⊎ Each (λ p. p.task.role ≡ Running → is_finished finishes p.task ≡ false) s.jobs
          → (w ≡ 0) ⊎ Each (λ p. p.task.role ≡ Running → is_finished finishes p.task ≡ false) (map h s.jobs)
      by_going (inl none) = inl none
      by_going (inr all) = inr (on_map h (λ p. p.task.role ≡ Running → is_finished finishes p.task ≡ false) s.jobs
          (λ p m runs. by_same p m runs (going p m runs))) where
            by_same : (p : Placed) → IsMember p s.jobs → (h p).task.role ≡ Running
                → ((h p).task ≡ p.task) ⊎ (is_finished finishes (h p).task ≡ false)
                → is_finished finishes (h p).task ≡ false
            by_same p m runs (inl e) = subst (λ t. is_finished finishes t ≡ false) (sym e)
                (all p m (sym (ap (λ (t : Task). t.role) e) ∙ runs))
            by_same p m runs (inr new) = new

    -- the job x, in another role
    module _ (x : Placed) (member : IsMember x s.jobs) where
      -- of each job
      abbrev moved : (Placed → Placed) → Placed → Placed
      moved f p = cond (eqb p.task.number x.task.number) (f p) p

      moved_parts : (f : Placed → Placed) (P : Placed → Placed → Type 0) → P x (f x) → Each (λ p. P p p) s.jobs
          → Each (λ p. P p (moved f p)) s.jobs
      moved_parts f P here others p m = by_test (eqb p.task.number x.task.number) refl where
        by_test : (b : Bool) → eqb p.task.number x.task.number ≡ b → P p (cond b (f p) p)
        by_test true e = subst (λ u. P u (f u)) (sym (one_job p x m member (eqb-true _ _ e))) here
        by_test false e = others p m

      moved_other : (f : Placed → Placed) → Each (λ p. (p.task.number ≡ x.task.number → ⊥) → moved f p ≡ p) s.jobs
      moved_other f p m differs = by_test (eqb p.task.number x.task.number) refl where
        by_test : (b : Bool) → eqb p.task.number x.task.number ≡ b → cond b (f p) p ≡ p
        by_test true e = absurd (differs (eqb-true _ _ e))
        by_test false e = refl

      moved_x : (f : Placed → Placed) → moved f x ≡ f x
      moved_x f = ap (λ b. cond b (f x) x) (eq-eqb x.task.number x.task.number refl)

      -- it gets processor i
      pub run_falls : (i : ℕ) (pressed : Bool)
          → (x.task.role ≡ Held) ⊎ ((x.task.role ≡ Waiting) ⊎ (x.task.role ≡ Fresh))
          → ((is_privileged x.task ≡ true) → x.owner ≡ i) → is_finished finishes x.task ≡ false
          → Falls finishes processors s (record {
            clock = s.clock;
            jobs = map (λ p. cond (eqb p.task.number x.task.number) (placed_on i p) p) s.jobs;
            pressed = pressed;
          }) w
      run_falls i pressed role mine goes = grows (moved (placed_on i)) pressed
          (moved_parts (placed_on i) (λ p u. u.task.job ≡ p.task.job) refl (λ p m. refl))
          (λ q. moved_parts (placed_on i) (λ p u. is_own_of q p ≡ true → is_own_of q u ≡ true)
          (λ own. let both = and_parts (is_privileged x.task) (x.owner == q) own in
          eq-eqb i q (sym (mine both.0) ∙ eqb-true _ _ both.1)) (λ p m own. own))
          (moved_parts (placed_on i) (λ p u. is_ready_behind u.task ≡ true → is_due finishes u.task ≡ false)
          (λ e. never e) (λ p m e. it.ready p m e))
          (moved_parts (placed_on i) (λ p u. u.task.role ≡ Running
          → (u.task ≡ p.task) ⊎ (is_finished finishes u.task ≡ false)) (λ e. inr goes) (λ p m e. inl refl))
          (one_falls (moved (placed_on i)) w x member (moved_other (placed_on i))
          (subst (λ u. weighs_one s.clock w u + 1 ≤ weighs_one s.clock w x) (sym (moved_x (placed_on i)))
          (runs_less s.clock w x.task x.task.role role)))
          (moved_parts (placed_on i) (StaysSpent s.clock w w) (refl, from_role role) (λ p m. (refl, λ h. h))) where
            from_role : (x.task.role ≡ Held) ⊎ ((x.task.role ≡ Waiting) ⊎ (x.task.role ≡ Fresh))
                → SpentIn x.task.role s.clock w x.task → latest_start x.task ≤ s.clock
            from_role (inl e) spent = spent_as s.clock w x.task Held e spent
            from_role (inr (inl e)) spent = (spent_as s.clock w x.task Waiting e spent).0
            from_role (inr (inr e)) spent = absurd (spent_as s.clock w x.task Fresh e spent)

      -- it is in another role, on no processor before and after
      pub off_falls : (role : Role) (pressed : Bool) → is_privileged x.task ≡ false
          → (role ≡ Running → ⊥) → (is_ready_behind (with_role x.task role) ≡ true → is_due finishes x.task ≡ false)
          → weight_in steps_scale role s.clock w (with_role x.task role) + 1
          ≤ weight_in steps_scale x.task.role s.clock w x.task
          → (SpentIn x.task.role s.clock w x.task → SpentIn role s.clock w (with_role x.task role))
          → Falls finishes processors s (record {
            clock = s.clock;
            jobs = map (λ p. cond (eqb p.task.number x.task.number) (in_role p role) p) s.jobs;
            pressed = pressed;
          }) w
      off_falls role pressed off not_running ready less spends = grows (moved (λ p. in_role p role)) pressed
          (moved_parts (λ p. in_role p role) (λ p u. u.task.job ≡ p.task.job) refl (λ p m. refl))
          (λ q. moved_parts (λ p. in_role p role) (λ p u. is_own_of q p ≡ true → is_own_of q u ≡ true)
          (λ own. never (sym (off_own q x off) ∙ own)) (λ p m own. own))
          (moved_parts (λ p. in_role p role) (λ p u. is_ready_behind u.task ≡ true → is_due finishes u.task ≡ false)
          ready (λ p m e. it.ready p m e))
          (moved_parts (λ p. in_role p role) (λ p u. u.task.role ≡ Running
          → (u.task ≡ p.task) ⊎ (is_finished finishes u.task ≡ false)) (λ e. absurd (not_running e))
          (λ p m e. inl refl))
          (one_falls (moved (λ p. in_role p role)) w x member (moved_other (λ p. in_role p role))
          (subst (λ u. weighs_one s.clock w u + 1 ≤ weighs_one s.clock w x) (sym (moved_x (λ p. in_role p role))) less))
          (moved_parts (λ p. in_role p role) (StaysSpent s.clock w w) (refl, spends) (λ p m. (refl, λ h. h)))

      -- it is done
      pub done_falls : (pressed : Bool) → x.task.role ≡ Running → is_finished finishes x.task ≡ true
          → Falls finishes processors s (record {
            clock = s.clock;
            jobs = map (λ p. cond (eqb p.task.number x.task.number) (in_role p Done) p) s.jobs;
            pressed = pressed;
          }) w
      done_falls pressed runs ends = by_going it.going where
        by_going : (w ≡ 0) ⊎ Each (λ p. p.task.role ≡ Running → is_finished finishes p.task ≡ false) s.jobs
            → Falls finishes processors s (record {
              clock = s.clock;
              jobs = map (λ p. cond (eqb p.task.number x.task.number) (in_role p Done) p) s.jobs;
              pressed = pressed;
            }) w
        by_going (inr all) = never (sym (all x member runs) ∙ ends)
        by_going (inl none) = (
          w,
          record {
            low = λ q q_low. omega (arith, none);
            ready = on_map (moved (λ p. in_role p Done))
                (λ p. is_ready_behind p.task ≡ true → is_due finishes p.task ≡ false) s.jobs
                (moved_parts (λ p. in_role p Done) (λ p u. is_ready_behind u.task ≡ true → is_due finishes u.task
                ≡ false)
                (λ e. never e) (λ p m e. it.ready p m e));
            going = inl none;
          },
          one_falls (moved (λ p. in_role p Done)) w x member (moved_other (λ p. in_role p Done))
              (subst (λ u. weighs_one s.clock w u + 1 ≤ weighs_one s.clock w x) (sym (moved_x (λ p. in_role p Done)))
              (omega (arith, weight_of steps_scale s.clock w x.task Running runs))),
          all_spent s w w s.clock (moved (λ p. in_role p Done)) pressed
              (moved_parts (λ p. in_role p Done) (StaysSpent s.clock w w) (refl, λ h. tt) (λ p m. (refl, λ h. h))),
        )

    -- ---- two jobs change

    module _ (x y : Placed) (x_member : IsMember x s.jobs) (y_member : IsMember y s.jobs) (i : ℕ)
        (y_runs : y.task.role ≡ Running) (y_owner : y.owner ≡ i) (x_off : is_privileged x.task ≡ false)
        (x_goes : is_finished finishes x.task ≡ false) (y_goes : is_due finishes y.task ≡ false) (at : ℕ)
        (pressed : Bool) where
      -- x preempts y
      abbrev held_by : Placed → Placed
      held_by = placed_after i (Preempt at y.task.number x.task.number)

      held_parts : (P : Placed → Placed → Type 0) → P x (placed_on i x) → P y (in_role y Held)
          → Each (λ p. P p p) s.jobs → Each (λ p. P p (held_by p)) s.jobs
      held_parts P begin hold others p member =
          by_test (eqb p.task.number x.task.number) (eqb p.task.number y.task.number) refl refl where
            by_test : (b c : Bool) → eqb p.task.number x.task.number ≡ b → eqb p.task.number y.task.number ≡ c
                → P p (cond b (placed_on i p) (cond c (in_role p Held) p))
            by_test true c e f = subst (λ u. P u (placed_on i u)) (sym (one_job p x member x_member (eqb-true _ _ e)))
                begin
            by_test false true e f = subst (λ u. P u (in_role u Held))
                (sym (one_job p y member y_member (eqb-true _ _ f))) hold
            by_test false false e f = others p member

      pub preempt_falls : x.task.role ≡ Fresh → Falls finishes processors s (record {
        clock = s.clock;
        jobs = map (placed_after i (Preempt at y.task.number x.task.number)) s.jobs;
        pressed = pressed;
      }) w
      preempt_falls fresh = grows held_by pressed
          (held_parts (λ p u. u.task.job ≡ p.task.job) refl refl (λ p m. refl))
          (λ q. held_parts (λ p u. is_own_of q p ≡ true → is_own_of q u ≡ true)
          (λ own. never (sym (off_own q x x_off) ∙ own))
          (λ own. (and_parts (is_privileged y.task) (y.owner == q) own).1) (λ p m own. own))
          (held_parts (λ p u. is_ready_behind u.task ≡ true → is_due finishes u.task ≡ false)
          (λ e. never e) (λ e. y_goes) (λ p m e. it.ready p m e))
          (held_parts (λ p u. u.task.role ≡ Running → (u.task ≡ p.task) ⊎ (is_finished finishes u.task ≡ false))
          (λ e. inr x_goes) (λ e. absurd (let f : Held ≡ Running = e in cc)) (λ p m e. inl refl))
          (two_fall held_by w w x y x_member y_member falls)
          (held_parts (StaysSpent s.clock w w)
          (refl, λ spent. absurd (spent_as s.clock w x.task Fresh fresh spent))
          (refl, λ spent. spent_as s.clock w y.task Running y_runs spent) (λ p m. (refl, λ h. h))) where
            falls : Each (λ p. weighs_one s.clock w (held_by p) + (one_if (eqb p.task.number x.task.number)
                + one_if (eqb p.task.number x.task.number))
                ≤ weighs_one s.clock w p + one_if (eqb p.task.number y.task.number)) s.jobs
            falls p member = by_test (eqb p.task.number x.task.number) (eqb p.task.number y.task.number) refl refl where
              by_test : (b c : Bool) → eqb p.task.number x.task.number ≡ b → eqb p.task.number y.task.number ≡ c
                  → weighs_one s.clock w (cond b (placed_on i p) (cond c (in_role p Held) p)) + (one_if b + one_if b)
                  ≤ weighs_one s.clock w p + one_if c
              by_test true c e f =
                  let same : p ≡ x = one_job p x member x_member (eqb-true _ _ e) in
                  omega (
                    arith,
                    one_most (nat_lt s.clock (latest_start p.task)),
                    weight_of steps_scale s.clock w p.task Fresh (ap (λ (u : Placed). u.task.role) same ∙ fresh),
                  )
              by_test false true e f =
                  let same : p ≡ y = one_job p y member y_member (eqb-true _ _ f) in
                  omega (
                    arith,
                    weight_of steps_scale s.clock w p.task Running (ap (λ (u : Placed). u.task.role) same ∙ y_runs),
                  )
              by_test false false e f = omega arith

      -- x takes from y
      module _ (waits : x.task.role ≡ Waiting) (now : latest_start x.task ≡ s.clock) (k : Fraction)
          (heavy : IsHeavy k x.task.job.value (own_sum i value_of s.jobs))
          (i_low : i < processors)
          (least : (q : ℕ) → q < processors → own_sum i value_of s.jobs ≤ own_sum q value_of s.jobs)
          (all_go : Each (λ p. p.task.role ≡ Running → is_finished finishes p.task ≡ false) s.jobs)
          (all_due : Each (λ p. p.task.role ≡ Running → is_due finishes p.task ≡ false) s.jobs) where
        abbrev displaced_by : Placed → Placed
        displaced_by = placed_after i (Take at y.task.number x.task.number)

        abbrev lost : ℕ
        lost = own_sum i value_of s.jobs

        take_parts : (P : Placed → Placed → Type 0) → P x (placed_on i x)
            → Each (λ p. is_own_of i p ≡ true → P p (in_role p Waiting)) s.jobs
            → Each (λ p. is_own_of i p ≡ false → P p p) s.jobs → Each (λ p. P p (displaced_by p)) s.jobs
        take_parts P begin stop others p member =
            by_test (eqb p.task.number x.task.number) (is_own_of i p) refl refl where
              by_test : (b c : Bool) → eqb p.task.number x.task.number ≡ b → is_own_of i p ≡ c
                  → P p (cond b (placed_on i p) (cond c (in_role p Waiting) p))
              by_test true c e f = subst (λ u. P u (placed_on i u)) (sym (one_job p x member x_member (eqb-true _ _ e)))
                  begin
              by_test false true e f = stop p member f
              by_test false false e f = others p member f

        on_it : (p : Placed) → is_own_of i p ≡ true → (is_privileged p.task ≡ true) × (p.owner ≡ i)
        on_it p own = let both = and_parts (is_privileged p.task) (p.owner == i) own in (both.0, eqb-true _ _ both.1)

        more : lost < x.task.job.value
        more = heavy_more k x.task.job.value lost heavy

        -- what x is worth stands there then
        low_here : lost ≤ own_sum i value_of (map displaced_by s.jobs)
        low_here = omega (
          arith,
          more,
          sum_map displaced_by (λ p. cond (is_own_of i p) (value_of p) 0) s.jobs,
          term_le_sum (λ p. cond (is_own_of i (displaced_by p)) (value_of (displaced_by p)) 0) s.jobs x x_member,
          at_x,
        ) where
          is_x : displaced_by x ≡ placed_on i x
          is_x = ap (λ b. cond b (placed_on i x) (cond (is_own_of i x) (in_role x Waiting) x))
              (eq-eqb x.task.number x.task.number refl)

          at_x : cond (is_own_of i (displaced_by x)) (value_of (displaced_by x)) 0 ≡ x.task.job.value
          at_x = ap (λ (u : Placed). cond (is_own_of i u) (value_of u) 0) is_x
              ∙ ap (λ b. cond b x.task.job.value 0) (eq-eqb i i refl)

        stays : (q : ℕ) → (i ≡ q → ⊥) → Each (StaysFor q displaced_by) s.jobs
        stays q other = take_parts (λ p u. ((is_own_of q p ≡ true) × (u.task ≡ p.task) × (u.owner ≡ p.owner))
            ⊎ ((is_own_of q p ≡ false) × (is_own_of q u ≡ false)))
            (inr (off_own q x x_off, other_own q i (placed_on i x) refl other))
            (λ p member own. inr (other_own q i p (on_it p own).1 other, off_own q (in_role p Waiting) refl))
            (λ p member not_own. task_stays q (λ u. u) p refl refl)

        low_after : (q : ℕ) → q < processors → lost ≤ own_sum q value_of (map displaced_by s.jobs)
        low_after q q_low = by_test (eqb i q) refl where
          by_test : (b : Bool) → eqb i q ≡ b → lost ≤ own_sum q value_of (map displaced_by s.jobs)
          by_test true e = subst (λ n. lost ≤ own_sum n value_of (map displaced_by s.jobs)) (eqb-true i q e) low_here
          by_test false e = omega (
            arith,
            least q q_low,
            own_stays q displaced_by (λ t. t.job.value) s.jobs (stays q (eqb-false i q e)),
          )

        -- each weighs no more, but y
        not_above : (v : ℕ) → v ≤ lost → (a : Bool) → one_if (a || nat_lt lost v) ≡ one_if a
        not_above v low a = by_test (nat_lt lost v) refl a where
          by_test : (b : Bool) → nat_lt lost v ≡ b → (a : Bool) → one_if (a || nat_lt lost v) ≡ one_if a
          by_test false e true = refl
          by_test false e false = ap one_if e
          by_test true e a = absurd (let less : lost < v = ltb-true lost v e in omega (arith, less, low))

        own_value : Each (λ p. is_own_of i p ≡ true → p.task.job.value ≤ lost) s.jobs
        own_value p member own = omega (
          arith,
          term_le_sum (λ u. cond (is_own_of i u) (value_of u) 0) s.jobs p member,
          ap (λ b. cond b (value_of p) 0) own,
        )

        -- y is what runs there
        is_y : Each (λ p. p.task.role ≡ Running → p.owner ≡ i → p ≡ y) s.jobs
        is_y p member runs owner =
            let p_seen : seen_by i p ≡ p.task = own_seen i p owner in
            let y_seen : seen_by i y ≡ y.task = own_seen i y y_owner in
            one_job p y member y_member
            (sym (ap (λ (t : Task). t.number) p_seen)
            ∙ (keeps.sound i).one_runs (seen_by i p) (seen_by i y) (map_member (seen_by i) s.jobs p member)
            (map_member (seen_by i) s.jobs y y_member) (ap (λ (t : Task). t.role) p_seen ∙ runs)
            (ap (λ (t : Task). t.role) y_seen ∙ y_runs) ∙ ap (λ (t : Task). t.number) y_seen)

        falls : Each (λ p. weighs_one s.clock lost (displaced_by p) + (one_if (eqb p.task.number x.task.number)
            + one_if (eqb p.task.number x.task.number))
            ≤ weighs_one s.clock w p + one_if (eqb p.task.number y.task.number)) s.jobs
        falls p member = by_test (eqb p.task.number x.task.number) (is_own_of i p) refl refl where
          by_role : is_own_of i p ≡ true → (p.task.role ≡ Running) ⊎ (p.task.role ≡ Held)
              → weighs_one s.clock lost (in_role p Waiting) + 0
              ≤ weighs_one s.clock w p + one_if (eqb p.task.number y.task.number)
          by_role own (inl runs) = omega (
            arith,
            not_above p.task.job.value (own_value p member own) (nat_lt s.clock (latest_start p.task)),
            weight_of steps_scale s.clock w p.task Running runs,
            ap one_if (eq-eqb p.task.number y.task.number
                (ap (λ (u : Placed). u.task.number) (is_y p member runs (on_it p own).1))),
          )
          by_role own (inr held) = omega (
            arith,
            not_above p.task.job.value (own_value p member own) (nat_lt s.clock (latest_start p.task)),
            weight_of steps_scale s.clock w p.task Held held,
          )

          by_test : (b c : Bool) → eqb p.task.number x.task.number ≡ b → is_own_of i p ≡ c
              → weighs_one s.clock lost (cond b (placed_on i p) (cond c (in_role p Waiting) p)) + (one_if b + one_if b)
              ≤ weighs_one s.clock w p + one_if (eqb p.task.number y.task.number)
          by_test true c e f =
              let same : p ≡ x = one_job p x member x_member (eqb-true _ _ e) in
              let late : latest_start p.task ≡ s.clock = ap (λ (u : Placed). latest_start u.task) same ∙ now in
              let over : w < p.task.job.value =
              omega (arith, more, it.low i i_low, ap (λ (u : Placed). u.task.job.value) same) in
              omega (
                arith,
                weight_of steps_scale s.clock w p.task Waiting (ap (λ (u : Placed). u.task.role) same ∙ waits),
                ap one_if (not_less s.clock (latest_start p.task) (omega (arith, late))),
                or_right (nat_lt s.clock (latest_start p.task)) (nat_lt w p.task.job.value) (lt-ltb _ _ over),
              ) where
                or_right : (a b : Bool) → b ≡ true → one_if (a || b) ≡ 1
                or_right true b h = refl
                or_right false b h = ap one_if h

                not_less : (a b : ℕ) → b ≤ a → nat_lt a b ≡ false
                not_less a b low = by_less (nat_lt a b) refl where
                  by_less : (t : Bool) → nat_lt a b ≡ t → nat_lt a b ≡ false
                  by_less false e = e
                  by_less true e = absurd (let less : a < b = ltb-true a b e in omega (arith, less, low))
          by_test false true e own = by_role own (is_privileged_role p.task (on_it p own).0)
          by_test false false e f = omega (
            arith,
            weight_less steps_scale p.task.role s.clock w lost p.task (it.low i i_low),
          )

        pub take_falls : Falls finishes processors s (record {
          clock = s.clock;
          jobs = map (placed_after i (Take at y.task.number x.task.number)) s.jobs;
          pressed = pressed;
        }) w
        take_falls = (
          lost,
          record {
            low = low_after;
            ready = on_map displaced_by (λ p. is_ready_behind p.task ≡ true → is_due finishes p.task ≡ false) s.jobs
                (take_parts (λ p u. is_ready_behind u.task ≡ true → is_due finishes u.task ≡ false) (λ e. never e)
                (λ p member own e. own_due p member (is_privileged_role p.task (on_it p own).0))
                (λ p member not_own e. it.ready p member e));
            going = inr (on_map displaced_by (λ p. p.task.role ≡ Running → is_finished finishes p.task ≡ false) s.jobs
                (take_parts (λ p u. u.task.role ≡ Running → is_finished finishes u.task ≡ false) (λ e. x_goes)
                (λ p member own e. absurd (let f : Waiting ≡ Running = e in cc))
                (λ p member not_own e. all_go p member e)));
          },
          two_fall displaced_by w lost x y x_member y_member falls,
          all_spent s w lost s.clock displaced_by pressed (take_parts (StaysSpent s.clock w lost)
              (refl, λ spent. (spent_as s.clock w x.task Waiting waits spent).0)
              (λ p member own. (refl, own_spent p member own (is_privileged_role p.task (on_it p own).0)))
              (λ p member not_own. (refl, spent_more p.task.role s.clock w lost p.task (it.low i i_low)))),
        ) where
          own_spent : (p : Placed) → IsMember p s.jobs → is_own_of i p ≡ true
              → (p.task.role ≡ Running) ⊎ (p.task.role ≡ Held) → SpentIn p.task.role s.clock w p.task
              → (latest_start p.task ≤ s.clock) × (p.task.job.value ≤ lost)
          own_spent p member own (inl e) spent =
              (spent_as s.clock w p.task Running e spent, own_value p member own)
          own_spent p member own (inr e) spent = (spent_as s.clock w p.task Held e spent, own_value p member own)

          own_due : (p : Placed) → IsMember p s.jobs → (p.task.role ≡ Running) ⊎ (p.task.role ≡ Held)
              → is_due finishes p.task ≡ false
          own_due p member (inl e) = all_due p member e
          own_due p member (inr e) = it.ready p member (passes is_ready_behind p.task Held true e refl)

    -- ---- a silent tick

    module _ (some_left : Each (λ p. is_privileged p.task ≡ true → 1 ≤ left p.task) s.jobs)
        (quiet : Quiet (seen_from 0 s)) where
      tick_task : (p : Placed) → (ticked p).task ≡ single.ticked p.task
      tick_task p = by_test (is_running p.task) where
        by_test : (b : Bool) → (cond b (record { task = with_tick p.task; owner = p.owner }) p).task
            ≡ record {
              number = p.task.number;
              job = p.task.job;
              role = p.task.role;
              had = cond b (p.task.had + 1) p.task.had;
            }
        by_test true = refl
        by_test false = refl

      tick_ready : Each (λ p. is_ready_behind (ticked p).task ≡ true → is_due finishes (ticked p).task ≡ false) s.jobs
      tick_ready p member = by_test (is_running p.task) refl where
        apart : (role : Role) → is_running (with_role p.task role) ≡ true → is_ready_behind (with_role p.task role)
            ≡ true
            → ⊥
        apart Running e f = never f
        apart Coming e f = never e
        apart Fresh e f = never e
        apart Waiting e f = never e
        apart Held e f = never e
        apart Done e f = never e
        apart Gone e f = never e

        by_test : (b : Bool) → is_running p.task ≡ b
            → is_ready_behind (cond b (record { task = with_tick p.task; owner = p.owner }) p).task ≡ true
            → is_due finishes (cond b (record { task = with_tick p.task; owner = p.owner }) p).task ≡ false
        by_test true e f = absurd (apart p.task.role e f)
        by_test false e f = it.ready p member f

      pub ticks_last : Lasting finishes processors (after s Ticks) 0
          × (weighs (s.clock + 1) 0 (map ticked s.jobs) ≤ weighs s.clock w s.jobs)
          × ((n : ℕ) → IsSpent n s w → IsSpent n (after s Ticks) 0)
      ticks_last = (
        record {
          low = λ q q_low. omega arith;
          ready = on_map ticked (λ p. is_ready_behind p.task ≡ true → is_due finishes p.task ≡ false) s.jobs tick_ready;
          going = inl refl;
        },
        omega (
          arith,
          sum_map ticked (weighs_one (s.clock + 1) 0) s.jobs,
          sum_le (λ p. weighs_one (s.clock + 1) 0 (ticked p)) (weighs_one s.clock w) s.jobs
              (λ p member. subst (λ t. weight steps_scale (s.clock + 1) 0 t
              ≤ weighs_one s.clock w p) (sym (tick_task p))
              (tick_weight finishes steps_scale (seen_from 0 s) (keeps.sound 0) quiet w 0 p.task p.task.role
              (role_fits p member) (early p member)
              (λ runs. some_left p member (passes is_privileged p.task Running true runs refl))
              (on_slack p member) (had_most s keeps.sound p member))),
        ),
        all_spent s w 0 (s.clock + 1) ticked s.pressed
            (λ p member. tick_spent p member (is_running p.task) refl),
      ) where
        early : Each (λ p. p.task.role ≡ Waiting → latest_start p.task ≡ s.clock → ⊥) s.jobs
        early p member waits = quiet.early p.task (subst (λ t. IsMember t (map (seen_by 0) s.jobs))
            (off_seen 0 p (passes is_privileged p.task Waiting false waits refl))
            (map_member (seen_by 0) s.jobs p member)) waits

        tick_spent : (p : Placed) → IsMember p s.jobs → (b : Bool) → is_running p.task ≡ b
            → ((cond b (record { task = with_tick p.task; owner = p.owner }) p).task.number ≡ p.task.number)
            × (SpentIn p.task.role s.clock w p.task
            → SpentIn (cond b (record { task = with_tick p.task; owner = p.owner }) p).task.role (s.clock + 1) 0
            (cond b (record { task = with_tick p.task; owner = p.owner }) p).task)
        tick_spent p member true e = (refl, λ spent. runs_spent (is_running_role p.task e) spent) where
          runs_spent : p.task.role ≡ Running → SpentIn p.task.role s.clock w p.task
              → SpentIn p.task.role (s.clock + 1) 0 (with_tick p.task)
          runs_spent runs spent = subst (λ r. SpentIn r (s.clock + 1) 0 (with_tick p.task)) (sym runs) (omega (
            arith,
            spent_as s.clock w p.task Running runs spent,
            some_left p member (passes is_privileged p.task Running true runs refl),
            on_slack p member (passes is_privileged p.task Running true runs refl),
          ))
        tick_spent p member false e = (refl, λ spent. by_role p.task.role refl spent) where
          by_role : (role : Role) → p.task.role ≡ role → SpentIn role s.clock w p.task
              → SpentIn role (s.clock + 1) 0 p.task
          by_role Coming is spent = absurd spent
          by_role Fresh is spent = absurd spent
          by_role Waiting is spent =
              let fits = fits_in Waiting p member is in
              absurd (early p member is (omega (arith, spent.0, fits.0, fits.2)))
          by_role Held is spent = omega (arith, spent)
          by_role Running is spent = omega (arith, spent)
          by_role Done is spent = tt
          by_role Gone is spent = tt
