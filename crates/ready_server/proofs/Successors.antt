-- Who gets the processor where the job that has it is done.
use Rattle.std.proofs.Common.{◌≡◌, ℕ, ◌⊎◌, inl, inr, List, [], ◌∷◌, ◌++◌, map, refl, sym, ap, ◌∙◌, subst, Bool, true}
use Rattle.std.proofs.Common.{false, cond, arith, ◌-◌, Option, Some, None, option_map, nat_le, nat_lt, ◌==◌, ◌&&◌}
use Rattle.std.proofs.Common.{filter, find, eqb-true, eq-eqb, le-leb}
use Rattle.std.specs.List.{cons_option}
use Rattle.dover_model.specs.declared.events.Event.{Event}
use Rattle.dover_model.specs.declared.events.Event.TheVariants.{Run, Complete}
use Rattle.dover_model.specs.declared.events.Role.TheVariants.{Waiting, Running, Done}
use Rattle.dover_model.specs.declared.events.Task.{Task}
use Rattle.dover_model.specs.declared.events.Version.{Version}
use Rattle.dover_model.specs.Common.{is_finish_of, Instance, IsValid, Rules, with_finishes, State, running, is_running}
use Rattle.std.specs.List.{list_any, AllByRecursion}
use Rattle.dover_model.specs.Common.{is_fresh, is_coming, is_waiting, is_held, is_over, is_open_job, room, due_first}
use Rattle.dover_model.specs.Common.{waiting_order, by_density, IsJob}
use Rattle.dover_model.specs.Common.{first, View, Prints, Ticks, view, open_step, declared_open_step, finish_or, after}
use Rattle.dover_model.specs.Common.{with_role, role_after, arrival, event_of, settled, settled_state, finish_now}
use Rattle.dover_model.specs.Common.{RunsAtMark, waits_for_mark, EarlyFinish, finish_at, IsMember, Each, is_ready}
use Rattle.dover_model.specs.Common.{HasPrinted, open_at, Begins}
use Rattle.dover_model.specs.declared.horizon.Horizon.TheVariants.{Mark}
use Rattle.dover_model.proofs.settled.Barriers.{AtBarrier, settled_at_barrier}
use Rattle.dover_model.proofs.finishes.Finishing.{none_without}
use Rattle.dover_model.proofs.finishes.Further.{printed_at_mark}
use Rattle.dover_model.proofs.finishes.Meeting.{finishing_valid}
use Rattle.dover_model.proofs.lists.Members.{find_none, found, member_filter, on_map}
use Rattle.dover_model.proofs.settled.Paths.{printed_more, printed_settled, printed_begins}
use Rattle.dover_model.proofs.steps.ReadyParts.{view_ready}
use Rattle.dover_model.proofs.finishes.RightFinishes.{FinishSays, finish_says, finish_runs}
use Rattle.dover_model.proofs.steps.Roles.{passes, one_number, is_running_role, is_fresh_role, is_waiting_role}
use Rattle.dover_model.proofs.steps.Pressing.{any_member}
use Rattle.dover_model.proofs.steps.Kept.{each_job}
use Rattle.dover_model.proofs.valid.JobLimits.{job_limits}
use Rattle.dover_model.proofs.valid.ValidParts.{valid_parts}
use Rattle.dover_model.proofs.lists.Tests.{never}
use Rattle.dover_model.proofs.settled.Waiting.{some_goes_on}
use Rattle.ready_jobs.specs.Cases.{next_of, next_ready}
use Rattle.ready_jobs.specs.Changed.{AreOnce}
use Rattle.ready_jobs.specs.Course.{Course, state_of_course, Follows, successor_of}
use Rattle.ready_jobs.proofs.Changes.{once_numbered, once_some, once_own}
use Rattle.ready_jobs.proofs.Deciding.{free, free_is}
use Rattle.ready_jobs.proofs.Seeing.{filter_none}
use Rattle.ready_jobs.proofs.Views.{AreApart, view_still}
use Rattle.ready_server.specs.Serving.{Rests, GoesOnWith}
use Rattle.ready_server.specs.declared.server.ReadyServer.{ReadyServer}
use Rattle.ready_server.proofs.Finishing.{settled_there}

-- ---- what is kept shows the same jobs as all do

module _ (c : Course) (J : Instance) (z : State) (follows : Follows c J z) where
  -- the jobs that aren't over
  abbrev whole : List Task
  whole = filter is_ready z.tasks

  whole_once : AreOnce whole
  whole_once = once_some is_ready z.tasks (once_numbered 0 z.tasks follows.keeps.sound.numbered)

  there : (t : Task) → IsMember t whole → IsMember t z.tasks
  there t m = (member_filter is_ready z.tasks t m).0

  whole_apart : AreApart whole
  whole_apart = record {
    own = once_own whole whole_once;
    one_runs = λ t u mt mu runs other. once_own whole whole_once t u mt mu
        (follows.keeps.sound.one_runs t u (there t mt) (there u mu) (is_running_role t runs)
        (is_running_role u other));
    one_fresh = λ t u mt mu fresh other. once_own whole whole_once t u mt mu
        (follows.keeps.sound.one_fresh t u (there t mt) (there u mu) (is_fresh_role t fresh) (is_fresh_role u other));
    none_comes = λ t m. follows.released t (there t m);
    works = λ t m. (job_limits (each_job IsJob z.tasks (subst (AllByRecursion IsJob) (sym follows.keeps.jobs)
        (valid_parts follows.valid).each) t (there t m))).work;
  }

  -- the view is the same
  pub course_view : view c.rules.version (state_of_course c) ≡ view c.rules.version (record z { clock = c.clock })
  course_view = view_still c.rules.version c.clock c.pressed whole c.ready follows.ready whole_apart
      ∙ view_ready c.rules.version (record z { clock = c.clock; pressed = c.pressed })
      ∙ ap (λ b. view c.rules.version (record z { clock = c.clock; pressed = b })) (sym follows.pressed)

  -- so is the one that would be next
  pub course_next : next_ready c.rules.version (state_of_course c)
      ≡ next_ready c.rules.version (record z { clock = c.clock })
  course_next = ap (λ (v : View). next_of v v.first_held v.first_waiting) course_view

-- ---- a job that is done

-- a change leaves those that pass, where what it changes passes neither before nor behind it
filter_change : (p : Task → Bool) (f : Task → Task) (xs : List Task)
    → Each (λ x. (f x ≡ x) ⊎ ((p x ≡ false) × (p (f x) ≡ false))) xs → filter p (map f xs) ≡ filter p xs
filter_change p f [] each = refl
filter_change p f (x ∷ xs) each =
    by_case (each x (inl refl)) (filter_change p f xs (λ y m. each y (inr m))) where
      by_case : (f x ≡ x) ⊎ ((p x ≡ false) × (p (f x) ≡ false)) → filter p (map f xs) ≡ filter p xs
          → cond (p (f x)) (f x ∷ filter p (map f xs)) (filter p (map f xs))
          ≡ cond (p x) (x ∷ filter p xs) (filter p xs)
      by_case (inl same) rest = ap (λ y. cond (p y) (y ∷ filter p (map f xs)) (filter p (map f xs))) same
          ∙ ap (λ ys. cond (p x) (x ∷ ys) ys) rest
      by_case (inr out) rest = ap (λ b. cond b (f x ∷ filter p (map f xs)) (filter p (map f xs))) out.1
          ∙ rest ∙ sym (ap (λ b. cond b (x ∷ filter p xs) (filter p xs)) out.0)

-- which of two jobs is next depends on the room of the held ones
same_next : (v w : View) → v.held_room ≡ w.held_room → (p o : Option Task) → next_of v p o ≡ next_of w p o
same_next v w same None o = refl
same_next v w same (Some p) None = refl
same_next v w same (Some p) (Some o) =
    ap (λ n. Some (cond (nat_lt o.job.deadline p.job.deadline && nat_le (o.job.work - o.had) n) o p)) same

module _ (J : Instance) (valid : IsValid J) (mark : ℕ) (r : Task) (it : RunsAtMark J mark r)
    (released : Each (λ t. is_coming t ≡ false) (settled_state J mark).tasks) where
  abbrev s : State
  s = settled_state J mark

  bar : AtBarrier J mark s
  bar = settled_at_barrier J valid mark

  abbrev e : Event
  e = Complete mark r.number

  abbrev change : Task → Task
  change t = with_role t (role_after e t.number t.role)

  -- the state behind the completion, in the run with the finish
  abbrev y : State
  y = after s (Prints e)

  abbrev J2 : Instance
  J2 = with_finishes J (finish_now r ∷ [])

  valid2 : IsValid J2
  valid2 = finishing_valid J (J.rules.finishes ++ finish_now r ∷ []) valid

  -- each job stays, but for the one that is done
  stays : (t : Task) → IsMember t s.tasks → (change t ≡ t) ⊎ ((t ≡ r) × (change t ≡ with_role r Done))
  stays t m = by_test (t.number == r.number) refl where
    by_test : (b : Bool) → (t.number == r.number) ≡ b → (change t ≡ t) ⊎ ((t ≡ r) × (change t ≡ with_role r Done))
    by_test true same =
        let one : t ≡ r = one_number 0 s.tasks bar.keeps.sound.numbered t r m it.member (eqb-true _ _ same) in
        inr (one, ap (λ b. with_role t (cond b Done t.role)) same ∙ ap (λ u. with_role u Done) one)
    by_test false other = inl (ap (λ b. with_role t (cond b Done t.role)) other)

  -- so the same jobs pass a test of another role
  same_filter : (p : Task → Bool) → p r ≡ false → p (with_role r Done) ≡ false → filter p y.tasks ≡ filter p s.tasks
  same_filter p before behind = filter_change p change s.tasks (λ t m. by_case t (stays t m)) where
    by_case : (t : Task) → (change t ≡ t) ⊎ ((t ≡ r) × (change t ≡ with_role r Done))
        → (change t ≡ t) ⊎ ((p t ≡ false) × (p (change t) ≡ false))
    by_case t (inl same) = inl same
    by_case t (inr one) = inr (ap p one.0 ∙ before, ap p one.1 ∙ behind)

  held_same : filter is_held y.tasks ≡ filter is_held s.tasks
  held_same = same_filter is_held (passes is_held r Running false it.runs refl) refl

  waiting_same : filter is_waiting y.tasks ≡ filter is_waiting s.tasks
  waiting_same = same_filter is_waiting (passes is_waiting r Running false it.runs refl) refl

  -- none is fresh or to come
  stale : find is_fresh y.tasks ≡ None
  stale = find_none is_fresh y.tasks (same_filter is_fresh (passes is_fresh r Running false it.runs refl) refl
      ∙ filter_none is_fresh s.tasks (λ t m. by_test t m (is_fresh t) refl)) where
        by_test : (t : Task) → IsMember t s.tasks → (b : Bool) → is_fresh t ≡ b → is_fresh t ≡ false
        by_test t m false is = is
        by_test t m true is = absurd (bar.none_fresh t m (is_fresh_role t is))

  none_comes : find is_coming y.tasks ≡ None
  none_comes = find_none is_coming y.tasks (same_filter is_coming (passes is_coming r Running false it.runs refl) refl
      ∙ filter_none is_coming s.tasks released)

  -- and none runs
  none_runs : running y ≡ None
  none_runs = by_running (running y) refl where
    by_running : (o : Option Task) → running y ≡ o → o ≡ None
    by_running None is = refl
    by_running (Some u) is =
        let here : IsMember u y.tasks × (is_running u ≡ true) = found is_running y.tasks u is in
        absurd (still u here.0 (is_running_role u here.1)) where
          still : Each (λ u. u.role ≡ Running → ⊥) y.tasks
          still = on_map change (λ u. u.role ≡ Running → ⊥) s.tasks (λ t m. by_case t m (stays t m)) where
            by_case : (t : Task) → IsMember t s.tasks → (change t ≡ t) ⊎ ((t ≡ r) × (change t ≡ with_role r Done))
                → (change t).role ≡ Running → ⊥
            by_case t m (inl same) runs =
                let one : t.number ≡ r.number = bar.keeps.sound.one_runs t r m it.member
                (sym (ap (λ (u : Task). u.role) same) ∙ runs) it.runs in
                let done : (change t).role ≡ Done = ap (λ b. cond b Done t.role) (eq-eqb _ _ one) in
                (let clash : Done ≡ Running = sym done ∙ runs in cc)
            by_case t m (inr one) runs =
                (let clash : Done ≡ Running = sym (ap (λ (u : Task). u.role) one.1) ∙ runs in cc)

  module _ (version : Version) where
    -- the waiting jobs come in the same order, or none waits
    order_same : first (waiting_order version (by_density version y.pressed)) (filter is_waiting y.tasks)
        ≡ first (waiting_order version (by_density version s.pressed)) (filter is_waiting y.tasks)
    order_same = by_open (list_any is_open_job y.tasks) refl where
      and_true : (b : Bool) → (b && true) ≡ b
      and_true true = refl
      and_true false = refl

      by_open : (b : Bool) → list_any is_open_job y.tasks ≡ b
          → first (waiting_order version (by_density version y.pressed)) (filter is_waiting y.tasks)
          ≡ first (waiting_order version (by_density version s.pressed)) (filter is_waiting y.tasks)
      by_open true some =
          ap (λ b. first (waiting_order version (by_density version b)) (filter is_waiting y.tasks))
          (ap (λ b. s.pressed && b) some ∙ and_true s.pressed)
      by_open false none =
          ap (first (waiting_order version (by_density version y.pressed))) none_waits
          ∙ sym (ap (first (waiting_order version (by_density version s.pressed))) none_waits) where
            none_waits : filter is_waiting y.tasks ≡ []
            none_waits = filter_none is_waiting y.tasks (λ t m. by_test t m (is_waiting t) refl) where
              by_test : (t : Task) → IsMember t y.tasks → (b : Bool) → is_waiting t ≡ b → is_waiting t ≡ false
              by_test t m false is = is
              by_test t m true is = never (sym none ∙ any_member is_open_job y.tasks t m
                  (passes is_open_job t Waiting true (is_waiting_role t is) refl))

    -- the one that would be next is next
    next_same : next_ready version y ≡ next_ready version s
    next_same = same_next (view version y) (view version s) (ap (room s.clock) held_same) (view version y).first_held
        (view version y).first_waiting
        ∙ ap (λ hs. next_of (view version s) (first (due_first version) hs) (view version y).first_waiting) held_same
        ∙ ap (next_of (view version s) (view version s).first_held) order_same
        ∙ ap (λ ws. next_of (view version s) (view version s).first_held
        (first (waiting_order version (by_density version s.pressed)) ws)) waiting_same

  abbrev next : Option Task
  next = next_ready J.rules.version s

  -- the open step
  opens : open_step J2.rules y ≡ free (view J.rules.version y) next None None Ticks
  opens = ap (λ o. finish_or y.clock (find (is_finish_of o) J2.rules.finishes) (declared_open_step J2.rules y))
      none_runs
      ∙ ap (λ o. finish_or y.clock o (declared_open_step J2.rules y)) (none_without J2.rules.finishes)
      ∙ sym (free_is J.rules.ratio J.rules.version y Ticks next None None none_runs (next_same J.rules.version) stale
      (ap (arrival (view J.rules.version y)) none_comes))

  done : HasPrinted J2 mark y (settled J mark ++ e ∷ [])
  done = printed_at_mark J valid mark r it

  -- so the run goes on with that one
  pub goes_on_with : GoesOnWith J2 mark (settled J mark ++ e ∷ []) (option_map (λ t. t.number) next)
  goes_on_with = by_next next opens where
    by_next : (o : Option Task) → open_step J2.rules y ≡ free (view J.rules.version y) o None None Ticks
        → GoesOnWith J2 mark (settled J mark ++ e ∷ []) (option_map (λ t. t.number) o)
    by_next None step =
        let late : (waits_for_mark (open_step J2.rules y) && nat_le mark y.clock) ≡ true =
        ap (λ m. waits_for_mark m && nat_le mark y.clock) step ∙ le-leb mark s.clock (omega (arith, bar.clock)) in
        sym (printed_settled J2 mark y (settled J mark ++ e ∷ []) valid2 done late)
    by_next (Some t) step =
        let runs : open_step J2.rules y ≡ Prints (Run mark t.number) =
        step ∙ ap (λ n. Prints (Run n t.number)) bar.clock in
        subst (λ es. Begins ((settled J mark ++ e ∷ []) ++ es) (settled J2 mark))
        (ap (λ m. cons_option (event_of m) []) runs)
        (printed_begins J2 mark (after y (open_step J2.rules y)) _ valid2
        (printed_more J2 mark mark y (after y (open_step J2.rules y)) (settled J mark ++ e ∷ [])
        (open_at J2.rules y ∷ []) done (omega arith)
        (refl, ap (λ m. waits_for_mark m && nat_le mark y.clock) runs, refl)))

-- ---- a server

module _ (s : ReadyServer) (J : Instance) (at : ℕ) (rests : Rests s J (Mark at)) (n : ℕ) (f : EarlyFinish)
    (right : finish_at J at n ≡ Some f) where
  says : FinishSays J at n f
  says = finish_says J at n f right

  abbrev z : State
  z = rests.state

  there_is : settled_state J at ≡ record z { clock = at }
  there_is = settled_there s J at rests

  runs_at : RunsAtMark J at says.job
  runs_at = finish_runs J at n f says

  -- some job isn't over, so the clock is at the mark
  clock_is : s.ready.clock ≡ at
  clock_is = sym rests.follows.clock ∙ rests.given.1.clock (some_goes_on z says.job
      (subst (λ (u : State). IsMember says.job u.tasks) there_is runs_at.member)
      (passes is_over says.job Running false runs_at.runs refl))

  next_is : next_ready s.ready.rules.version (state_of_course s.ready)
      ≡ next_ready J.rules.version (settled_state J at)
  next_is = course_next s.ready J z rests.follows
      ∙ ap (λ clock. next_ready s.ready.rules.version (record z { clock = clock })) clock_is
      ∙ ap (next_ready s.ready.rules.version) (sym there_is)
      ∙ ap (λ version. next_ready version (settled_state J at))
      (sym (ap (λ (rules : Rules). rules.version) rests.follows.rules))

  -- where the job that has the processor is done, the run goes on with the one that the server names
  pub successor_next : GoesOnWith (with_finishes J (f.finish ∷ [])) at (settled J at ++ Complete at n ∷ [])
      (successor_of s.ready)
  successor_next = subst (λ (g : EarlyFinish). GoesOnWith (with_finishes J (g.finish ∷ [])) at
      (settled J at ++ Complete at n ∷ []) (successor_of s.ready)) says.is
      (subst (λ m. GoesOnWith (with_finishes J (finish_now says.job ∷ [])) at
      (settled J at ++ Complete at m ∷ []) (successor_of s.ready)) says.number
      (subst (GoesOnWith (with_finishes J (finish_now says.job ∷ [])) at
      (settled J at ++ Complete at says.job.number ∷ [])) (ap (option_map (λ (t : Task). t.number)) (sym next_is))
      (goes_on_with J rests.follows.valid at says.job runs_at
      (subst (λ (u : State). Each (λ t. is_coming t ≡ false) u.tasks) (sym there_is) rests.follows.released))))
