-- Each step keeps the books.
use Rattle.std.proofs.Common.{◌≡◌, ℕ, ◌+◌, ◌*◌, ◌≤◌, ◌<◌, ◌⊎◌, inl, inr, List, [], ◌∷◌, map, refl, sym, ap, ◌∙◌, subst}
use Rattle.std.proofs.Common.{Bool, true, false, cond, eqb, arith, Option, Some, None, eq-eqb, ne_eqb, eqb-true}
use Rattle.std.proofs.lemmas.Bool.{cases_lt}
use Rattle.std.proofs.lemmas.List.Sums.{sum_by-cons}
use Rattle.std.proofs.Math.Nat.{mul-le-mul_left}
use Rattle.dover_model.specs.Common.{Fraction, JobFacts, IsHeavy, is_heavy, value_of, Take, Preempt, Role, Coming}
use Rattle.dover_model.specs.Common.{Fresh, Waiting, Held, Running, Done, Gone, Task, State, is_privileged, is_running}
use Rattle.dover_model.specs.Common.{is_ready_behind, is_done, left, latest_start, privileged, value_sum, Prints, Ticks}
use Rattle.dover_model.specs.Common.{after, displaced, with_role, ticked, IsMember, Each, IsSound, NoneRuns, Row}
use Rattle.dover_model.specs.Common.{IsDense, job_value, Job, IsPaid}
use Rattle.dover_model.specs.Intervals.{with_take, with_abandoned, begun}
use Rattle.dover_model.proofs.lists.Members.{sum_map, sum_same, by_bool, sum_zero, sum_filter, on_map, map_member}
use Rattle.dover_model.proofs.steps.Roles.{passes, one_number, is_privileged_role, is_running_role}
use Rattle.dover_model.proofs.steps.Loads.{Fits, load}
use Rattle.dover_model.proofs.steps.Moves.{says, still_fits}
use Rattle.dover_model.proofs.steps.OneChange.{state_with, on_changed, changed_here, changed_there}
use Rattle.dover_model.proofs.steps.Ticking.{Quiet}
use Rattle.dover_model.proofs.steps.Preempting.{differs, waits_sound, r_there, held_sound, f_there, none_runs}
use Rattle.dover_model.proofs.steps.Preempting.{same_tasks}
use Rattle.dover_model.proofs.bound.Calculus.{take_step, heavy_mono, heavy_more, paid_zero}
use Rattle.dover_model.proofs.bound.Books.{scaled_sum}
use Rattle.dover_model.proofs.bound.Booking.{sum_one, sum_changed, active_sum, active_value, active_had, is_gone}
use Rattle.dover_model.proofs.bound.Booking.{is_ready, job_of, sum_where, InBooks, Covered, Taker, OpenGone, UnderWay}
use Rattle.dover_model.proofs.bound.Booking.{Booked, plain_kept, under_kept, sum_stays, active_grows, some_still}
use Rattle.dover_model.proofs.bound.Booking.{ready_still}
use Rattle.dover_model.proofs.bound.Closing.{single_sum, value_of_number}
use Rattle.dover_model.proofs.lists.Tests.{never}

-- what is known of a job by its density, against one of least density, of value v and work w
abbrev pub IsModest : Fraction → ℕ → ℕ → JobFacts → Type 0
IsModest k v w j = IsDense k v w j × (v * j.work ≤ w * j.value)

-- a value that fails the test is not heavy
light_is : (k : Fraction) (v w : ℕ) → is_heavy k v w ≡ false → IsHeavy k v w → ⊥
light_is k v w test heavy = never (sym test ∙ heavy)

-- the value that a step looks at
pub privileged_value : (s : State) → value_sum (privileged s) ≡ active_value s.tasks
privileged_value s = sum_filter is_privileged (λ t. t.job.value) s.tasks

-- ---- starts

module _ (k : Fraction) (v w : ℕ) (s : State) (sound : IsSound s) (closed : List Row) (r : Task)
    (member : IsMember r s.tasks)
    (none : NoneRuns s.tasks) (ready : is_ready r ≡ true) where
  -- of a ready job: it is neither done nor gone
  not_over : (role : Role) → is_ready (with_role r role) ≡ true → (is_done (with_role r role) ≡ false)
      × (is_gone (with_role r role) ≡ false)
  not_over Done e = never e
  not_over Gone e = never e
  not_over _ e = (refl, refl)

  -- a job that runs while an interval is under way
  pub runs_on : (row : Row) → Booked k v w s closed (Some row) → Booked k v w (state_with s r Running) closed (Some row)
  runs_on row books = plain_kept k v w s sound.numbered closed (Some row) r member Running (record {
    not_done = (not_over r.role ready).0;
    not_gone = (not_over r.role ready).1;
    never_done = refl;
    never_gone = refl;
    stays_active = λ _. refl;
    ready = λ _. inl ready;
    idle = λ e _. let c : Some row ≡ None = e in cc;
    taker = λ d taker. absurd (none taker.job taker.member taker.runs);
  }) books

  -- one that starts an interval
  pub runs_first : Booked k v w s closed None
      → Booked k v w (state_with s r Running) closed
      (Some (record { interval = begun s.clock; regular = []; taken = []; gone = []; had = 0 }))
  runs_first books = record {
    under = record {
      active = (with_role r Running, changed_here 0 s.tasks sound.numbered r member Running, refl);
      begun = omega arith;
      regular_sum = refl;
      abandoned_sum = refl;
      lost = refl;
      none_taken = refl;
      no_taken = refl;
      span = omega arith;
      plain = λ _. refl;
      taker = λ took. never took;
      gone = λ n_j m. absurd m;
    };
    ready = λ t m is_r τ low high. inl
        (ready_still k v w s sound.numbered closed None r member Running
        (λ _. inl ready) books.ready t m is_r τ low high);
    rows = books.rows;
    done = λ f. omega (
      arith,
      books.done f,
      sum_stays k v w s sound.numbered closed None r member Running is_done (λ t. f (job_of t))
          (ap (λ b. cond b (f (job_of r)) 0) (not_over r.role ready).0),
    );
    gone = λ f. omega (
      arith,
      books.gone f,
      sum_stays k v w s sound.numbered closed None r member Running is_gone (λ t. f (job_of t))
          (ap (λ b. cond b (f (job_of r)) 0) (not_over r.role ready).1),
    );
  }

-- ---- a job that neither runs nor will be held

module _ (k : Fraction) (s : State) (sound : IsSound s) (r : Task) (member : IsMember r s.tasks) (new : Role)
    (stands : r.role ≡ Running → ⊥)
    (free : new ≡ Held → ⊥) where
  -- the job that took is the same
  pub taker_still : (d : ℕ) → Taker k s d → Taker k (state_with s r new) d
  taker_still d taker = record {
    job = taker.job;
    member = changed_there s.tasks r taker.job new taker.member
        (λ same. stands (ap (λ (t : Task). t.role)
        (sym (one_number 0 s.tasks sound.numbered taker.job r taker.member member same)) ∙ taker.runs));
    runs = taker.runs;
    alone = on_changed 0 s.tasks sound.numbered r member new (λ t. t.role ≡ Held → ⊥) free (λ t m _. taker.alone t m);
    tight = taker.tight;
    worth = taker.worth;
  }

module _ (k : Fraction) (v w : ℕ) (s : State) (sound : IsSound s) (closed : List Row) (current : Option Row)
    (books : Booked k v w s closed current) where
  -- a fresh job waits
  pub waits_booked : (f : Task) → IsMember f s.tasks → f.role ≡ Fresh
      → Booked k v w (state_with s f Waiting) closed current
  waits_booked f member fresh = plain_kept k v w s sound.numbered closed current f member Waiting (record {
    not_done = passes is_done f Fresh false fresh refl;
    not_gone = passes is_gone f Fresh false fresh refl;
    never_done = refl;
    never_gone = refl;
    stays_active = λ e. never (sym (passes is_privileged f Fresh false fresh refl) ∙ e);
    ready = λ _. inl (passes is_ready f Fresh true fresh refl);
    idle = λ _ e. never e;
    taker = taker_still k s sound f member Waiting (λ e. let c : Fresh ≡ Running = sym fresh ∙ e in cc)
        (λ e. let c : Waiting ≡ Held = e in cc);
  }) books

  -- a job is released
  pub arrives_booked : (c : Task) → IsMember c s.tasks → c.role ≡ Coming → c.job.release ≡ s.clock
      → Booked k v w (state_with s c Fresh) closed current
  arrives_booked c member comes now = plain_kept k v w s sound.numbered closed current c member Fresh (record {
    not_done = passes is_done c Coming false comes refl;
    not_gone = passes is_gone c Coming false comes refl;
    never_done = refl;
    never_gone = refl;
    stays_active = λ e. never (sym (passes is_privileged c Coming false comes refl) ∙ e);
    ready = λ _. inr (omega (arith, now));
    idle = λ _ e. never e;
    taker = taker_still k s sound c member Fresh (λ e. let d : Coming ≡ Running = sym comes ∙ e in cc)
        (λ e. let d : Fresh ≡ Held = e in cc);
  }) books

-- ---- a preemption, where an interval is under way

module _ (k : Fraction) (v w : ℕ) (s : State) (sound : IsSound s) (closed : List Row) (row : Row)
    (books : Booked k v w s closed (Some row)) where
  -- the running job is held
  pub held_booked : (r : Task) → IsMember r s.tasks → r.role ≡ Running → (amount : ℕ) → 1 ≤ amount → Fits amount s
      → Booked k v w (state_with s r Held) closed (Some row)
  held_booked r member runs amount some fits =
      plain_kept k v w s sound.numbered closed (Some row) r member Held (record {
        not_done = passes is_done r Running false runs refl;
        not_gone = passes is_gone r Running false runs refl;
        never_done = refl;
        never_gone = refl;
        stays_active = λ _. refl;
        ready = λ _. inl (passes is_ready r Running true runs refl);
        idle = λ e _. let c : Some row ≡ None = e in cc;
        taker = λ d taker. absurd (let slack : s.clock + load s.tasks taker.job + amount ≤ taker.job.job.deadline =
            fits taker.job taker.member (passes is_privileged taker.job Running true taker.runs refl) in
            omega (arith, taker.tight));
      }) books

module _ (k : Fraction) (v w : ℕ) (s : State) (sound : IsSound s) (closed : List Row) (row : Row)
    (books : Booked k v w s closed (Some row))
    (r f : Task) (member : IsMember r s.tasks) (runs : r.role ≡ Running) (some : 1 ≤ left r)
    (f_member : IsMember f s.tasks) (fresh : f.role ≡ Fresh) (before : f.job.deadline < r.job.deadline)
    (fits : Fits (left f) s) where
  -- the books after a preemption
  pub preempts_booked : Booked k v w (after s (Prints (Preempt s.clock r.number f.number))) closed (Some row)
  preempts_booked =
      let one_sound : IsSound (state_with s f Waiting) =
      waits_sound s sound r f member runs some f_member fresh before fits in
      let two_sound : IsSound (state_with (state_with s f Waiting) r Held) =
      held_sound s sound r f member runs some f_member fresh before fits in
      let f_left : 1 ≤ left f = (says s sound f f_member Fresh fresh).1 in
      let first : Booked k v w (state_with s f Waiting) closed (Some row) =
      waits_booked k v w s sound closed (Some row) books f f_member fresh in
      let second : Booked k v w (state_with (state_with s f Waiting) r Held) closed (Some row) =
      held_booked k v w (state_with s f Waiting) one_sound closed row first r
      (r_there s sound r f member runs some f_member fresh before fits) runs (left f) f_left
      (still_fits s sound f f_member (left f) Waiting never fits) in
      let third : Booked k v w
      (state_with (state_with (state_with s f Waiting) r Held) (with_role f Waiting) Running) closed (Some row) =
      runs_on k v w (state_with (state_with s f Waiting) r Held) two_sound closed (with_role f Waiting)
      (f_there s sound r f member runs some f_member fresh before fits)
      (none_runs s sound r f member runs some f_member fresh before fits) refl row second in
      subst (λ (tasks : List Task). Booked k v w (record s { tasks = tasks }) closed (Some row))
      (same_tasks s sound r f member runs some f_member fresh before fits) third

-- ---- an abandonment

module _ (k : Fraction) (v w : ℕ) (s : State) (sound : IsSound s) (closed : List Row) (row : Row)
    (books : Booked k v w s closed (Some row))
    (x : Task) (member : IsMember x s.tasks) (waiting : x.role ≡ Waiting)
    (dense : IsDense k v w x.job) (now : latest_start x ≡ s.clock)
    (light : is_heavy k x.job.value (value_sum (privileged s)) ≡ false) where
  -- the row with the job
  abbrev pub with_gone : Row
  with_gone = record {
    interval = with_abandoned row.interval s.clock (value_of s x.number);
    regular = row.regular;
    taken = row.taken;
    gone = job_of x ∷ row.gone;
    had = row.had;
  }

  -- the job doesn't count
  idle : is_privileged x ≡ false
  idle = passes is_privileged x Waiting false waiting refl

  -- what is known of the row stays
  still : UnderWay k v w (state_with s x Gone) closed row
  still = under_kept k v w s (state_with s x Gone) closed row refl
      (some_still k v w s sound.numbered closed (Some row) x member Gone (λ e. never (sym idle ∙ e)) books.under.active)
      (active_grows k v w s sound.numbered closed (Some row) x member Gone (λ t. t.job.value) refl
      (λ e. never (sym idle ∙ e)))
      (active_grows k v w s sound.numbered closed (Some row) x member Gone (λ t. t.had) refl
      (λ e. never (sym idle ∙ e)))
      (taker_still k s sound x member Gone (λ e. let c : Waiting ≡ Running = sym waiting ∙ e in cc)
      (λ e. let c : Gone ≡ Held = e in cc) row.interval.displaced) books.under

  -- what is known of the job
  known : OpenGone k v w (state_with s x Gone) closed with_gone x.job
  known = record {
    covered = books.ready x member (passes is_ready x Waiting true waiting refl);
    reach = let most : left x ≤ x.job.work = omega arith in omega (arith, now);
    light = λ heavy. light_is k x.job.value (value_sum (privileged s)) light
        (heavy_mono k x.job.value (value_sum (privileged s))
        (row.interval.regular + active_value (state_with s x Gone).tasks)
        (omega (
          arith,
          privileged_value s,
          active_grows k v w s sound.numbered closed (Some row) x member Gone (λ t. t.job.value) refl
              (λ e. never (sym idle ∙ e)),
        )) heavy);
    dense = dense;
  }

  -- of each abandoned job
  each : Each (λ n_j. OpenGone k v w (state_with s x Gone) closed with_gone n_j.1) with_gone.gone
  each n_j (inl e) = subst (λ (y : Job). OpenGone k v w (state_with s x Gone) closed with_gone y.1) (sym e) known
  each n_j (inr m) = record {
    covered = (still.gone n_j m).covered;
    reach = (still.gone n_j m).reach;
    light = (still.gone n_j m).light;
    dense =
        (still.gone n_j m).dense;
  }

  -- the books after an abandonment
  pub abandons_booked : Booked k v w (state_with s x Gone) closed (Some with_gone)
  abandons_booked = record {
    under = record {
      active = still.active;
      begun = still.begun;
      regular_sum = still.regular_sum;
      abandoned_sum = omega (
        arith,
        still.abandoned_sum,
        sum_by-cons job_value (job_of x) row.gone,
        value_of_number s sound.numbered x member,
      );
      lost = ap (λ vs. value_of s x.number ∷ vs) still.lost
          ∙ ap (λ y. y ∷ map job_value row.gone) (value_of_number s sound.numbered x member);
      none_taken = still.none_taken;
      no_taken = still.no_taken;
      span = still.span;
      plain = still.plain;
      taker = still.taker;
      gone = each;
    };
    ready = ready_still k v w s sound.numbered closed (Some row) x member Gone (λ e. never e) books.ready;
    rows = books.rows;
    done = λ f. sum_stays k v w s sound.numbered closed (Some row) x member Gone is_done (λ t. f (job_of t))
        (ap (λ b. cond b (f (job_of x)) 0) (passes is_done x Waiting false waiting refl)) ∙ books.done f;
    gone = λ f. omega (
      arith,
      books.gone f,
      sum_by-cons f (job_of x) row.gone,
      sum_changed (λ t. cond (is_gone t) (f (job_of t)) 0) s.tasks x Gone sound.numbered member,
      ap (λ b. cond b (f (job_of x)) 0) (passes is_gone x Waiting false waiting refl),
    );
  }

-- ---- a take

-- a displaced job is not active
pub displaced_idle : (t : Task) (role : Role) → is_privileged (with_role t (displaced role)) ≡ false
displaced_idle t Coming = refl
displaced_idle t _ = refl

-- a displaced job is ready where it was
displaced_ready : (t : Task) (role : Role) → is_ready (with_role t (displaced role)) ≡ is_ready (with_role t role)
displaced_ready t Coming = refl
displaced_ready t _ = refl

-- done where it was
pub displaced_done : (t : Task) (role : Role) → is_done (with_role t (displaced role)) ≡ is_done (with_role t role)
displaced_done t Coming = refl
displaced_done t _ = refl

-- gone where it was
pub displaced_gone : (t : Task) (role : Role) → is_gone (with_role t (displaced role)) ≡ is_gone (with_role t role)
displaced_gone t Coming = refl
displaced_gone t _ = refl

module _ (k : Fraction) (some_q : 1 ≤ k.q) (ratio : k.q ≤ k.p) (v w : ℕ) (s : State) (sound : IsSound s)
    (closed : List Row) (row : Row)
    (books : Booked k v w s closed (Some row))
    (modest : Each (λ t. IsModest k v w t.job) s.tasks) (r x : Task) (member : IsMember x s.tasks)
    (waiting : x.role ≡ Waiting)
    (now : latest_start x ≡ s.clock)
    (heavy : is_heavy k x.job.value (value_sum (privileged s)) ≡ true) where
  -- the role of a job after the take
  abbrev role_then : Task → Role
  role_then t = cond (eqb t.number x.number) Running (displaced t.role)

  -- the state after the take
  abbrev then : State
  then = after s (Prints (Take s.clock r.number x.number))

  -- the row with what is displaced
  abbrev pub with_displaced : Row
  with_displaced = record {
    interval = with_take row.interval s.clock (value_sum (privileged s));
    regular = row.regular;
    taken = row.taken;
    gone = row.gone;
    had = row.had;
  }

  -- of each task, by whether it is x
  by_number : (t : Task) → IsMember t s.tasks → (P : Role → Type 0) → (t ≡ x → P Running)
      → ((t.number ≡ x.number → ⊥) → P (displaced t.role))
      → P (role_then t)
  by_number t m P here there = by_test (eqb t.number x.number) refl where
    by_test : (b : Bool) → eqb t.number x.number ≡ b → P (cond b Running (displaced t.role))
    by_test true e = here (one_number 0 s.tasks sound.numbered t x m member (eqb-true _ _ e))
    by_test false e = there (λ same. never (sym e ∙ eq-eqb _ _ same))

  -- x is there
  x_then : IsMember (with_role x Running) then.tasks
  x_then = subst (λ b. IsMember (with_role x (cond b Running (displaced x.role))) then.tasks)
      (eq-eqb x.number x.number refl)
      (map_member (λ t. with_role t (role_then t)) s.tasks x member)

  -- x counts alone
  alone_then : (f : Task → ℕ) → ((t : Task) (role : Role) → f (with_role t role) ≡ f t) → active_sum f then.tasks ≡ f x
  alone_then f same = sum_map (λ t. with_role t (role_then t)) (λ t. cond (is_privileged t) (f t) 0) s.tasks ∙ omega (
    arith,
    sum_one (λ t. cond (is_privileged (with_role t (role_then t))) (f (with_role t (role_then t))) 0) (λ t. 0) 0
        (f x) 0 s.tasks x sound.numbered member
        (ap (λ b. cond (is_privileged (with_role x (cond b Running (displaced x.role))))
        (f (with_role x (cond b Running (displaced x.role)))) 0 + 0) (eq-eqb x.number x.number refl)
        ∙ ap (λ n. n + 0) (same x Running)
        ∙ omega arith)
        (λ t m differs. ap (λ b. cond (is_privileged (with_role t (cond b Running (displaced t.role))))
        (f (with_role t (cond b Running (displaced t.role)))) 0) (ne_eqb t.number x.number differs)
        ∙ ap (λ b. cond b (f (with_role t (displaced t.role))) 0) (displaced_idle t t.role)),
    sum_zero (λ (t : Task). 0) s.tasks (λ t m. refl),
  )

  -- a sum over jobs that pass stays
  where_stays : (p : Task → Bool) (f : Job → ℕ) → p (with_role x Running) ≡ p x
      → ((t : Task) (role : Role) → p (with_role t (displaced role)) ≡ p (with_role t role))
      → sum_where p f then.tasks ≡ sum_where p f s.tasks
  where_stays p f here there = sum_map (λ t. with_role t (role_then t)) (λ t. cond (p t) (f (job_of t)) 0) s.tasks
      ∙ sum_same (λ t. cond (p (with_role t (role_then t))) (f (job_of t)) 0) (λ t. cond (p t) (f (job_of t)) 0) s.tasks
      (λ t m. ap (λ b. cond b (f (job_of t)) 0)
      (by_number t m (λ role. p (with_role t role) ≡ p t)
      (λ same. subst (λ (y : Task). p (with_role y Running) ≡ p y) (sym same) here)
      (λ _. there t t.role)))

  -- what is known of the row
  under : UnderWay k v w s closed row
  under = books.under

  -- the running and held jobs had no more than their value pays for
  had_worth : v * active_had s.tasks ≤ w * active_value s.tasks
  had_worth = scaled_sum v w (λ t. cond (is_privileged t) t.had 0) (λ t. cond (is_privileged t) t.job.value 0) s.tasks
      (λ t m. by_active t m (is_privileged t)) where
        by_active : (t : Task) → IsMember t s.tasks → (b : Bool) → v * cond b t.had 0 ≤ w * cond b t.job.value 0
        by_active t m false = omega arith
        by_active t m true =
            let most : v * t.had ≤ v * t.job.work =
            mul-le-mul_left v (sound.at_most_work t m) in
            let worth : v * t.job.work ≤ w * t.job.value = (modest t m).1 in
            omega arith

  -- what was displaced before is little against the value that is displaced
  before_low : IsPaid k row.interval.displaced (active_value s.tasks)
  before_low = by_took (λ plain. under.plain plain) (λ took. under.taker took) where
    by_took : (row.interval.took ≡ false → row.interval.displaced ≡ 0)
        → (row.interval.took ≡ true → Taker k s row.interval.displaced)
        → IsPaid k row.interval.displaced (active_value s.tasks)
    by_took plain taken = by_bool _ row.interval.took
        (λ took. let taker : Taker k s row.interval.displaced = taken took in
        let alone : active_value s.tasks ≡ taker.job.job.value =
        single_sum is_privileged (λ t. t.job.value) s.tasks taker.job sound.numbered taker.member
        (passes is_privileged taker.job Running true taker.runs refl)
        (λ t m differs. by_bool _ (is_privileged t)
        (λ is_in. absurd (by_role taker t m differs (is_privileged_role t is_in))) (λ e. e)) in
        subst (IsPaid k row.interval.displaced) (sym alone) taker.worth)
        (λ e. subst (λ d. IsPaid k d (active_value s.tasks)) (sym (plain e))
        (paid_zero k (active_value s.tasks))) where
          by_role : (taker : Taker k s row.interval.displaced) (t : Task) → IsMember t s.tasks
              → (t.number ≡ taker.job.number → ⊥)
              → (t.role ≡ Running) ⊎ (t.role ≡ Held) → ⊥
          by_role taker t m differs (inl e) = differs (sound.one_runs t taker.job m taker.member e taker.runs)
          by_role taker t m differs (inr e) = taker.alone t m e

  -- the job that takes
  takes : Taker k then (row.interval.displaced + value_sum (privileged s))
  takes = record {
    job = with_role x Running;
    member = x_then;
    runs = refl;
    alone = on_map (λ t. with_role t (role_then t)) (λ t. t.role ≡ Held → ⊥) s.tasks
        (λ t m. by_number t m (λ role. role ≡ Held → ⊥) (λ _ e. let c : Running ≡ Held = e in cc)
        (λ _ e. never (sym (displaced_idle t t.role)
        ∙ passes is_privileged (with_role t (displaced t.role)) Held true e refl)));
    tight =
        let some : 1 ≤ left x = (says s sound x member Waiting waiting).0 in
        let in_time : s.clock + left x ≤ x.job.deadline = (says s sound x member Waiting waiting).2 in
        omega (arith, now);
    worth = take_step k some_q ratio row.interval.displaced (value_sum (privileged s)) x.job.value
        (subst (IsPaid k row.interval.displaced) (sym (privileged_value s)) before_low)
        heavy;
  }

  -- the books after a take
  pub takes_booked : Booked k v w then closed (Some with_displaced)
  takes_booked = record {
    under = record {
      active = (with_role x Running, x_then, refl);
      begun = under.begun;
      regular_sum = under.regular_sum;
      abandoned_sum = under.abandoned_sum;
      lost = under.lost;
      none_taken = under.none_taken;
      no_taken = under.no_taken;
      span =
          let old : v * s.clock ≤ v * row.interval.from + w * (row.interval.regular + row.interval.displaced) + v
          * active_had s.tasks =
          under.span in
          omega (arith, had_worth, ap (λ n. w * n) (privileged_value s));
      plain = λ e. never (sym e);
      taker = λ _. takes;
      gone = λ n_j m. record {
        covered = (under.gone n_j m).covered;
        reach = (under.gone n_j m).reach;
        light = λ heavier. (under.gone n_j m).light
            (heavy_mono k n_j.1.value (row.interval.regular + active_value s.tasks)
            (row.interval.regular + active_value then.tasks)
            (let more : value_sum (privileged s) < x.job.value =
            heavy_more k x.job.value (value_sum (privileged s))
            heavy in
            omega (arith, privileged_value s, alone_then (λ t. t.job.value) (λ t role. refl))) heavier);
        dense = (under.gone n_j m).dense;
      };
    };
    ready = on_map (λ t. with_role t (role_then t))
        (λ t. is_ready t ≡ true → Covered closed (Some with_displaced) t.job.release s.clock) s.tasks
        (λ t m. by_number t m (λ role. is_ready (with_role t role) ≡ true
        → Covered closed (Some with_displaced) t.job.release s.clock)
        (λ same _. books.ready t m
        (subst (λ (y : Task). is_ready y ≡ true) (sym same) (passes is_ready x Waiting true waiting refl)))
        (λ _ e. books.ready t m (sym (displaced_ready t t.role) ∙ e)));
    rows = books.rows;
    done = λ f. where_stays is_done f (sym (passes is_done x Waiting false waiting refl)) displaced_done ∙ books.done f;
    gone = λ f. where_stays is_gone f (sym (passes is_gone x Waiting false waiting refl)) displaced_gone ∙ books.gone f;
  }

-- ---- a silent tick

module _ (k : Fraction) (v w : ℕ) (s : State) (sound : IsSound s) (quiet : Quiet s) (closed : List Row) where
  -- in a quiet state in which none runs, none is active or ready
  pub none_behind : NoneRuns s.tasks → Each (λ t. is_ready t ≡ true → ⊥) s.tasks
  none_behind none t m = by_role t.role refl where
    by_role : (role : Role) → t.role ≡ role → is_ready (with_role t role) ≡ true → ⊥
    by_role Fresh e h = quiet.stale t m e
    by_role Waiting e h = quiet.free none t m (passes is_ready_behind t Waiting true e refl)
    by_role Held e h = quiet.free none t m (passes is_ready_behind t Held true e refl)
    by_role Running e h = none t m e
    by_role _ e h = never h

  -- an active job is ready
  pub active_ready : (t : Task) → is_privileged t ≡ true → is_ready t ≡ true
  active_ready t is_in = by_role (is_privileged_role t is_in) where
    by_role : (t.role ≡ Running) ⊎ (t.role ≡ Held) → is_ready t ≡ true
    by_role (inl e) = passes is_ready t Running true e refl
    by_role (inr e) = passes is_ready t Held true e refl

  -- a sum over jobs that pass is the same
  where_ticks : (p : Task → Bool) (f : Job → ℕ) → ((t : Task) → p (ticked t) ≡ p t)
      → sum_where p f (after s Ticks).tasks ≡ sum_where p f s.tasks
  where_ticks p f same = sum_map ticked (λ t. cond (p t) (f (job_of t)) 0) s.tasks
      ∙ sum_same (λ t. cond (p (ticked t)) (f (job_of t)) 0) (λ t. cond (p t) (f (job_of t)) 0) s.tasks
      (λ t m. ap (λ b. cond b (f (job_of t)) 0) (same t))

  -- where none runs
  pub idle_booked : NoneRuns s.tasks → Booked k v w s closed None → Booked k v w (after s Ticks) closed None
  idle_booked none books = record {
    under = on_map ticked (λ t. is_privileged t ≡ true → ⊥) s.tasks (λ t m. books.under t m);
    ready = on_map ticked (λ t. is_ready t ≡ true → Covered closed None t.job.release (s.clock + 1)) s.tasks
        (λ t m is_r. absurd (none_behind none t m is_r));
    rows = books.rows;
    done = λ f. where_ticks is_done f (λ t. refl) ∙ books.done f;
    gone = λ f. where_ticks is_gone f (λ t. refl) ∙ books.gone f;
  }

  module _ (row : Row) (books : Booked k v w s closed (Some row)) (r : Task) (member : IsMember r s.tasks)
      (runs : r.role ≡ Running) where
    -- what is known of the row
    row_now : UnderWay k v w s closed row
    row_now = books.under

    -- what is covered stays covered for one tick more
    covered_more : (a : ℕ) → Covered closed (Some row) a s.clock → Covered closed (Some row) a (s.clock + 1)
    covered_more a covered τ low high = by_order (cases_lt τ s.clock) where
      by_order : (τ < s.clock) ⊎ (s.clock ≤ τ) → InBooks closed (Some row) τ
      by_order (inl before) = covered τ low before
      by_order (inr now) = inr (let begun : row.interval.from ≤ s.clock = row_now.begun in omega arith)

    -- the running job has one tick more
    had_more : active_had (after s Ticks).tasks ≡ active_had s.tasks + 1
    had_more = sum_map ticked (λ t. cond (is_privileged t) t.had 0) s.tasks ∙ omega (
      arith,
      sum_one (λ t. cond (is_privileged t) (cond (is_running t) (t.had + 1) t.had) 0)
          (λ t. cond (is_privileged t) t.had 0) 0 1 0 s.tasks r sound.numbered member
          (here (is_privileged r) (is_running r) (passes is_privileged r Running true runs refl)
          (passes is_running r Running true runs refl))
          (λ t m differs. ap (λ b. cond (is_privileged t) (cond b (t.had + 1) t.had) 0)
          (by_bool _ (is_running t) (λ e. absurd (differs (sound.one_runs t r m member (is_running_role t e) runs)))
          (λ e. e))),
    ) where
      here : (b c : Bool) → b ≡ true → c ≡ true → cond b (cond c (r.had + 1) r.had) 0 + 0 ≡ cond b r.had 0 + 1
      here true true e f = omega arith
      here true false e f = never f
      here false c e f = never e

    -- the job that took has one tick less to go
    taker_ticks : (d : ℕ) → Taker k s d → Taker k (after s Ticks) d
    taker_ticks d taker = record {
      job = ticked taker.job;
      member = map_member ticked s.tasks taker.job taker.member;
      runs = taker.runs;
      alone = on_map ticked (λ t. t.role ≡ Held → ⊥) s.tasks (λ t m. taker.alone t m);
      tight =
          let some : 1 ≤ left taker.job = quiet.busy taker.job taker.member taker.runs in
          let less : (ticked taker.job).had ≡ taker.job.had + 1 =
          ap (λ b. cond b (taker.job.had + 1) taker.job.had)
          (passes is_running taker.job Running true taker.runs refl) in
          omega (arith, taker.tight);
      worth = taker.worth;
    }

    -- where one runs
    pub tick_booked : Booked k v w (after s Ticks) closed (Some row)
    tick_booked = record {
      under = record {
        active = (ticked r, map_member ticked s.tasks r member, passes is_privileged (ticked r) Running true runs refl);
        begun = let begun : row.interval.from ≤ s.clock = row_now.begun in omega arith;
        regular_sum = row_now.regular_sum;
        abandoned_sum = row_now.abandoned_sum;
        lost = row_now.lost;
        none_taken = row_now.none_taken;
        no_taken = row_now.no_taken;
        span =
            let old : v * s.clock ≤ v * row.interval.from + w * (row.interval.regular + row.interval.displaced) + v
            * active_had s.tasks =
            row_now.span in
            omega (arith, ap (λ n. v * n) had_more);
        plain = row_now.plain;
        taker = λ took. taker_ticks row.interval.displaced (row_now.taker took);
        gone = λ n_j m. record {
          covered = covered_more n_j.1.release (row_now.gone n_j m).covered;
          reach = let reach : n_j.1.deadline ≤ s.clock + n_j.1.work = (row_now.gone n_j m).reach in omega arith;
          light = λ heavy. (row_now.gone n_j m).light
              (subst (λ n. IsHeavy k n_j.1.value (row.interval.regular + n))
              (sum_map ticked (λ t. cond (is_privileged t) t.job.value 0) s.tasks) heavy);
          dense = (row_now.gone n_j m).dense;
        };
      };
      ready = on_map ticked (λ t. is_ready t ≡ true → Covered closed (Some row) t.job.release (s.clock + 1)) s.tasks
          (λ t m is_r. covered_more t.job.release (books.ready t m is_r));
      rows = books.rows;
      done = λ f. where_ticks is_done f (λ t. refl) ∙ books.done f;
      gone = λ f. where_ticks is_gone f (λ t. refl) ∙ books.gone f;
    }
