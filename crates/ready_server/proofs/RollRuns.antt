-- A roll follows each step of a run, and at a mark it has all jobs as they stand.
use Rattle.std.proofs.Common.{◌≡◌, inl, inr, ℕ, suc, ◌+◌, ◌-◌, ◌≤◌, ◌<◌, List, [], ◌∷◌, ◌++◌, length, length-append}
use Rattle.std.proofs.Common.{map, set, refl, sym, ap, ◌∙◌, subst, Bool, true, false, cond, arith, ne_eqb, eqb-true}
use Rattle.std.proofs.Common.{eq-eqb, Option, Some, None, ◌==◌, slice_get, fold}
use Rattle.std.proofs.lemmas.Bool.{eqb-false}
use Rattle.std.proofs.lemmas.List.{length-map}
use Rattle.std.proofs.lemmas.Option.{slice_get_within}
use Rattle.std.specs.List.{cons_option}
use Rattle.dover_model.specs.declared.events.Event.{Event}
use Rattle.dover_model.specs.declared.events.Event.TheVariants.{Release, Run, Preempt, Take, Complete, Abandon}
use Rattle.dover_model.specs.declared.events.Role.{Role}
use Rattle.dover_model.specs.declared.events.Role.TheVariants.{Coming, Fresh, Waiting, Held, Running, Done, Gone}
use Rattle.dover_model.specs.declared.events.Task.{Task}
use Rattle.dover_model.specs.Common.{Fraction, Instance, IsValid, IsOpenPath, HasPrinted, Step, event_of, printed_of}
use Rattle.dover_model.specs.Common.{IsMember, Each, IsNumberedFrom, IsSound, Keeps, NoneRuns, State, opening}
use Rattle.dover_model.specs.Common.{is_running, left, Move, Prints, Waits, Ticks, open_step, after, with_role, ticked}
use Rattle.std.specs.Prelude.{◌&&◌}
use Rattle.std.specs.List.{list_any}
use Rattle.dover_model.specs.Common.{displaced, is_open_job}
use Rattle.dover_model.proofs.steps.Deeds.{Deed, Completed, Resumed, Started, Began, Preempted, Stayed, Arrived, Taken}
use Rattle.dover_model.proofs.steps.Deeds.{Abandoned, Rested}
use Rattle.dover_model.proofs.steps.Kept.{open_deed, open_kept, opening_keeps, come_coming}
use Rattle.dover_model.proofs.lists.Members.{on_map, map_member, map_map}
use Rattle.dover_model.proofs.steps.Moves.{says}
use Rattle.dover_model.proofs.steps.Roles.{one_number, numbered_map, passes, is_running_role}
use Rattle.dover_model.proofs.lists.Tests.{never}
use Rattle.dover_model.proofs.steps.RoleChanges.{with_role_at, all_displaced, displaced_same, task_at}
use Rattle.ready_server.specs.Roster.{Roll, ListedJob, had_with, stopped, released, job_at, with_stop}
use Rattle.ready_server.specs.Roster.{is_turn, halted, started, with_event, empty_roll, roll_of, with_finish}
use Rattle.ready_server.specs.Roster.{finish_here}
use Rattle.ready_server.proofs.Rolls.{calm_role, Lists, Follows, set_here, set_there, length_set, get_front, get_last}
use Rattle.ready_server.proofs.Rolls.{follows_finish, follows_pressing, at_clock, number_is, job_is, had_ran, had_is}
use Rattle.ready_server.proofs.Rolls.{lists_as}
use Rattle.ready_server.proofs.Rolls.{lists_other, lists_same}
use Rattle.ready_server.proofs.RollMoves.{no_turn, idle_turn, halts, starts, displaces}

-- the roll after a step
abbrev pub roll_after : Roll → Move → Roll
roll_after p (Prints e) = with_event p e
roll_after p (Waits n) = p
roll_after p Ticks = p

-- the task of a number
pub numbered_task : (n m : ℕ) (tasks : List Task) → IsNumberedFrom n tasks → n ≤ m → m < n + length tasks
    → (t : Task) × IsMember t tasks × (t.number ≡ m)
numbered_task n m [] numbered low high = absurd (omega (arith, low, high))
numbered_task n m (t ∷ tasks) numbered low high =
    by_test (t.number == m) refl (λ above. numbered_task (suc n) m tasks numbered.1 above (omega (arith, high))) where
      by_test : (b : Bool) → (t.number == m) ≡ b
          → (suc n ≤ m → (u : Task) × IsMember u tasks × (u.number ≡ m))
          → (u : Task) × IsMember u (t ∷ tasks) × (u.number ≡ m)
      by_test true e more = (t, inl refl, eqb-true t.number m e)
      by_test false e more =
          let other : t.number ≡ m → ⊥ = eqb-false t.number m e in
          let it = more (omega (arith, low, numbered.0, other)) in
          (it.0, inr it.1, it.2)

module _ (s : State) (sound : IsSound s) (p : Roll) (follows : Follows s p) where
  not_coming : (t : Task) (role : Role) → t.role ≡ role → (role ≡ Coming → ⊥) → t.role ≡ Coming → ⊥
  not_coming t role is out e = out (sym is ∙ e)

  not_running : (t : Task) (role : Role) → t.role ≡ role → (role ≡ Running → ⊥) → t.role ≡ Running → ⊥
  not_running t role is out e = out (sym is ∙ e)

  -- ---- a job that doesn't run gets another role

  -- the role of one that doesn't run changes, and the roll has it so
  module _ (x : Task) (member : IsMember x s.tasks) (idle : x.role ≡ Running → ⊥) (new : Role)
      (idle_now : new ≡ Running → ⊥) (out_now : new ≡ Coming → ⊥) (q : Roll) (same_turn : q.turn ≡ p.turn)
      (same_since : q.since ≡ p.since) (same_takes : q.takes ≡ p.takes)
      (others : Each (λ t. (t.number ≡ x.number → ⊥) → (t.role ≡ Coming → ⊥)
      → slice_get q.jobs t.number ≡ slice_get p.jobs t.number) s.tasks)
      (lists_x : Lists q s.clock (with_role x new))
      (ahead_too : Each (λ t. (t.number ≡ x.number → ⊥) → t.role ≡ Coming → length q.jobs ≤ t.number) s.tasks)
      (few_too : length q.jobs ≤ length s.tasks) where
    pub turned : Follows (at_clock s (with_role_at x.number new s.tasks)) q
    turned = record {
      since = omega (arith, same_since, follows.since);
      turn = λ n e. turn_now n (follows.turn n (sym same_turn ∙ e));
      runs = on_map change (λ t. t.role ≡ Running → q.turn ≡ Some t.number) s.tasks
          (λ t m. runs_now t m (t.number == x.number) refl);
      here = on_map change (λ t. (t.role ≡ Coming → ⊥) → Lists q s.clock t) s.tasks
          (λ t m. here_now t m (t.number == x.number) refl);
      ahead = on_map change (λ t. t.role ≡ Coming → length q.jobs ≤ t.number) s.tasks
          (λ t m. ahead_now t m (t.number == x.number) refl);
      few = omega (arith, few_too, length-map s.tasks change);
    } where
      change : Task → Task
      change t = with_role t (cond (t.number == x.number) new t.role)

      turn_now : (n : ℕ) → (r : Task) × IsMember r s.tasks × (r.role ≡ Running) × (r.number ≡ n)
          → (r : Task) × IsMember r (map change s.tasks) × (r.role ≡ Running) × (r.number ≡ n)
      turn_now n (r, r_in, runs, is) = (
        change r,
        map_member change s.tasks r r_in,
        ap (λ b. cond b new r.role) (ne_eqb r.number x.number (λ e. idle
            (sym (ap (λ (t : Task). t.role) (one_number 0 s.tasks sound.numbered r x r_in member e)) ∙ runs))) ∙ runs,
        is,
      )

      runs_now : (t : Task) → IsMember t s.tasks → (b : Bool) → (t.number == x.number) ≡ b
          → cond b new t.role ≡ Running → q.turn ≡ Some t.number
      runs_now t m true e now = absurd (idle_now now)
      runs_now t m false e now = same_turn ∙ follows.runs t m now

      ahead_now : (t : Task) → IsMember t s.tasks → (b : Bool) → (t.number == x.number) ≡ b
          → cond b new t.role ≡ Coming → length q.jobs ≤ t.number
      ahead_now t m true e now = absurd (out_now now)
      ahead_now t m false e now = ahead_too t m (eqb-false t.number x.number e) now

      here_now : (t : Task) → IsMember t s.tasks → (b : Bool) → (t.number == x.number) ≡ b
          → (cond b new t.role ≡ Coming → ⊥) → Lists q s.clock (with_role t (cond b new t.role))
      here_now t m true e out = subst (λ u. Lists q s.clock (with_role u new))
          (one_number 0 s.tasks sound.numbered x t member m (sym (eqb-true t.number x.number e))) lists_x
      here_now t m false e out =
          let it = follows.here t m out in
          record {
            listed = it.listed;
            there = others t m (eqb-false t.number x.number e) out ∙ it.there;
            is = ap (λ o. job_at (record q { turn = o; since = q.since; takes = q.takes }) s.clock it.listed) same_turn
                ∙ ap (λ n. job_at (record q { turn = p.turn; since = n; takes = q.takes }) s.clock it.listed) same_since
                ∙ ap (λ n. job_at (record q { turn = p.turn; since = p.since; takes = n }) s.clock it.listed) same_takes
                ∙ it.is;
            before = omega (arith, it.before, same_takes);
          }

  -- an abandonment
  abandons : (x : Task) → IsMember x s.tasks → x.role ≡ Waiting
      → Follows (after s (Prints (Abandon s.clock x.number))) (with_event p (Abandon s.clock x.number))
  abandons x member waits = follows_pressing true (at_clock s (with_role_at x.number Gone s.tasks)) _
      (subst (Follows (at_clock s (with_role_at x.number Gone s.tasks)))
      (sym (ap (λ o. elim o [ None ↦ p | Some e ↦ record p { jobs = set p.jobs x.number (stopped 0 Gone p.takes e) } ])
      it.there))
      (turned x member idle Gone (λ e. cc) (λ e. cc) q refl refl refl
      (λ t m other out. set_there p.jobs x.number t.number e_new other)
      (lists_other p s.clock x it (idle_turn s sound p follows x member idle) q Gone e_new
      (set_here p.jobs x.number e_new it.listed it.there) (number_is p s.clock x it) (job_is p s.clock x it) had
      (idle_turn s sound p follows x member idle) refl (omega arith) s.clock)
      (λ t m other comes. omega (arith, follows.ahead t m comes, length_set p.jobs x.number e_new))
      (omega (arith, follows.few, length_set p.jobs x.number e_new)))) where
        idle : x.role ≡ Running → ⊥
        idle = not_running x Waiting waits (λ e. cc)

        it : Lists p s.clock x
        it = follows.here x member (not_coming x Waiting waits (λ e. cc))

        e_new : ListedJob
        e_new = stopped 0 Gone p.takes it.listed

        q : Roll
        q = record p { jobs = set p.jobs x.number e_new }

        had_same : it.listed.task.had ≡ x.had
        had_same = had_is p s.clock x it (idle_turn s sound p follows x member idle)

        had : had_with 0 it.listed.task ≡ x.had
        had = omega (arith, had_same, ap (λ j. j.work) (job_is p s.clock x it), sound.at_most_work x member)

  -- a wait
  stays : (f : Task) → IsMember f s.tasks → f.role ≡ Fresh → Follows (after s (Waits f.number)) p
  stays f member fresh = turned f member idle Waiting (λ e. cc) (λ e. cc) p refl refl refl (λ t m other out. refl)
      (lists_same p s.clock f (follows.here f member (not_coming f Fresh fresh (λ e. cc)))
      (idle_turn s sound p follows f member idle) p Waiting refl refl (idle_turn s sound p follows f member idle)
      (sym (ap calm_role fresh)) s.clock)
      (λ t m other comes. follows.ahead t m comes) follows.few where
        idle : f.role ≡ Running → ⊥
        idle = not_running f Fresh fresh (λ e. cc)

  -- a release
  releases : (c : Task) → IsMember c s.tasks → c.role ≡ Coming
      → Each (λ t. t.role ≡ Coming → c.number ≤ t.number) s.tasks
      → Follows (after s (Prints (Release c.number c.job))) (with_event p (Release c.number c.job))
  releases c member comes first = turned c member idle Fresh (λ e. cc) (λ e. cc) q refl refl refl
      (λ t m other out. get_front p.jobs (e_new ∷ []) t.number (follows.here t m out).listed
      (follows.here t m out).there
      ∙ sym (follows.here t m out).there)
      lists_c
      (λ t m other now. omega (arith, length-append p.jobs (e_new ∷ []), next, first t m now, other))
      (omega (arith, length-append p.jobs (e_new ∷ []), next, low)) where
        idle : c.role ≡ Running → ⊥
        idle = not_running c Coming comes (λ e. cc)

        e_new : ListedJob
        e_new = released c.number c.job

        q : Roll
        q = record p { jobs = p.jobs ++ e_new ∷ [] }

        low : c.number < length s.tasks
        low = slice_get_within s.tasks c.number c (task_at s.tasks c sound.numbered member)

        -- its number is the next one
        next : length p.jobs ≡ c.number
        next = by_test (length p.jobs == c.number) refl where
          high : length p.jobs ≤ c.number
          high = follows.ahead c member comes

          by_test : (b : Bool) → (length p.jobs == c.number) ≡ b → length p.jobs ≡ c.number
          by_test true e = eqb-true (length p.jobs) c.number e
          by_test false e =
              let other : length p.jobs ≡ c.number → ⊥ = eqb-false (length p.jobs) c.number e in
              let t = numbered_task 0 (length p.jobs) s.tasks sound.numbered (omega arith) (omega (arith, high, low)) in
              absurd (none t.0 t.1 t.2 other (λ comes_too. first t.0 t.1 comes_too)) where
                none : (t : Task) → IsMember t s.tasks → t.number ≡ length p.jobs → (length p.jobs ≡ c.number → ⊥)
                    → (t.role ≡ Coming → c.number ≤ t.number) → ⊥
                none t m same other least =
                    let out : t.role ≡ Coming → ⊥ = λ e. absurd (omega (arith, least e, same, high, other)) in
                    let it = follows.here t m out in
                    absurd (omega (arith, slice_get_within p.jobs t.number it.listed it.there, same))

        had_none_yet : c.had ≡ 0
        had_none_yet = (says s sound c member Coming comes).0

        lists_c : Lists q s.clock (with_role c Fresh)
        lists_c = lists_as q s.clock (with_role c Fresh) e_new false
            (subst (λ n. slice_get (p.jobs ++ e_new ∷ []) n ≡ Some e_new) next (get_last p.jobs e_new)) refl refl
            (idle_turn s sound p follows c member idle) refl (sym had_none_yet) (omega arith)

  -- a tick
  passes_tick : Each (λ t. t.role ≡ Running → 1 ≤ left t) s.tasks → Follows (after s Ticks) p
  passes_tick some = record {
    since = omega (arith, follows.since);
    turn = λ n e. let it = follows.turn n e in (ticked it.0, map_member ticked s.tasks it.0 it.1, it.2, it.3);
    runs = on_map ticked (λ t. t.role ≡ Running → p.turn ≡ Some t.number) s.tasks (λ t m. follows.runs t m);
    here = on_map ticked (λ t. (t.role ≡ Coming → ⊥) → Lists p (s.clock + 1) t) s.tasks
        (λ t m out. here_now t m (follows.here t m out) (is_running t) refl);
    ahead = on_map ticked (λ t. t.role ≡ Coming → length p.jobs ≤ t.number) s.tasks (λ t m. follows.ahead t m);
    few = omega (arith, follows.few, length-map s.tasks ticked);
  } where
    here_now : (t : Task) → IsMember t s.tasks → Lists p s.clock t → (b : Bool) → is_running t ≡ b
        → Lists p (s.clock + 1) (ticked t)
    here_now t m it false e =
        let idle = idle_turn s sound p follows t m (λ runs. never (sym e ∙ passes is_running t Running true runs refl))
        in
        subst (λ (u : Task). Lists p (s.clock + 1) u)
        (ap (λ b. record t { had = cond b (t.had + 1) t.had }) (sym e))
        (lists_same p s.clock t it idle p t.role refl refl idle refl (s.clock + 1))
    here_now t m it true e =
        let runs : t.role ≡ Running = is_running_role t e in
        let turns = follows.runs t m runs in
        lists_as p (s.clock + 1) (ticked t) it.listed true it.there (number_is p s.clock t it) (job_is p s.clock t it)
        (ap (λ o. is_turn o t.number) turns ∙ eq-eqb t.number t.number refl) (sym (ap calm_role runs))
        (one_more it.listed.task (had_ran p s.clock t it turns) (ap (λ j. j.work) (job_is p s.clock t it))
        (some t m runs) ∙ ap (λ b. cond b (t.had + 1) t.had) (sym e)) it.before where
          one_more : (u : Task) → had_with (s.clock - p.since) u ≡ t.had → u.job.work ≡ t.job.work → 1 ≤ left t
              → had_with (s.clock + 1 - p.since) u ≡ t.had + 1
          one_more u had work more = omega (arith, had, work, more, follows.since)

  -- ---- printed changes of the job that runs

  -- a completion
  completes : (r : Task) → IsMember r s.tasks → r.role ≡ Running
      → Follows (after s (Prints (Complete s.clock r.number))) (with_event p (Complete s.clock r.number))
  completes r member runs =
      let there : State = at_clock s (with_role_at r.number Done s.tasks) in
      follows_pressing (s.pressed && list_any is_open_job there.tasks) there
      (with_finish (halted p s.clock Done) (finish_here p s.clock))
      (follows_finish there (halted p s.clock Done) (finish_here p s.clock)
      (halts s sound p follows r member runs Done (λ e. cc) (λ e. cc) refl))

  -- one starts where none runs
  runs_on : (g : Task) → IsMember g s.tasks → (g.role ≡ Coming → ⊥) → NoneRuns s.tasks
      → Follows (after s (Prints (Run s.clock g.number))) (with_event p (Run s.clock g.number))
  runs_on g member out none = starts s sound.numbered p follows (no_turn s sound p follows none) g member out
      (sound.at_most_work g member)

  module _ (r : Task) (member : IsMember r s.tasks) (runs : r.role ≡ Running) where
    -- once it has stopped, none runs
    free_after : (role : Role) → (halted p s.clock role).turn ≡ None
    free_after role = ap (λ (o : Option ℕ).
        let q : Roll = elim o [ None ↦ p | Some n ↦ record (with_stop p n (s.clock - p.since) role) { turn = None } ] in
        q.turn) (follows.runs r member runs)

    -- the jobs where it has stopped
    abbrev stopping : Role → List Task
    stopping role = with_role_at r.number role s.tasks

    stopping_numbered : (role : Role) → IsNumberedFrom 0 (stopping role)
    stopping_numbered role = numbered_map (λ t. with_role t (cond (t.number == r.number) role t.role)) (λ t. refl) 0
        s.tasks sound.numbered

    -- a preemption
    preempts : (f : Task) → IsMember f s.tasks → f.role ≡ Fresh
        → Follows (after s (Prints (Preempt s.clock r.number f.number)))
        (with_event p (Preempt s.clock r.number f.number))
    preempts f f_in fresh = subst (λ ts. Follows (at_clock s ts) (started (halted p s.clock Held) s.clock f.number))
        (map_map (λ t. with_role t (cond (t.number == f.number) Running t.role))
        (λ t. with_role t (cond (t.number == r.number) Held t.role)) s.tasks)
        (starts (at_clock s (stopping Held)) (stopping_numbered Held) (halted p s.clock Held)
        (halts s sound p follows r member runs Held (λ e. cc) (λ e. cc) refl) (free_after Held)
        (with_role f (cond (f.number == r.number) Held f.role))
        (map_member (λ t. with_role t (cond (t.number == r.number) Held t.role)) s.tasks f f_in)
        (out (f.number == r.number) f.role fresh) (sound.at_most_work f f_in)) where
          out : (b : Bool) (role : Role) → role ≡ Fresh → cond b Held role ≡ Coming → ⊥
          out true role is e = cc
          out false role is e = cc

    -- a take
    takes : (x : Task) → IsMember x s.tasks → x.role ≡ Waiting
        → Follows (after s (Prints (Take s.clock r.number x.number))) (with_event p (Take s.clock r.number x.number))
    takes x x_in waits = subst (λ ts. Follows (at_clock s ts) (with_event p (Take s.clock r.number x.number)))
        (ap (with_role_at x.number Running)
        (displaced_same s.tasks r sound.numbered member (ap displaced runs))
        ∙ map_map (λ t. with_role t (cond (t.number == x.number) Running t.role))
        (λ t. with_role t (displaced t.role)) s.tasks)
        (starts (at_clock s tasks) numbered q free_q free (with_role g (displaced g.role)) g_in
        (out (x.number == r.number) x.role waits) (sound.at_most_work x x_in)) where
          halted_now : Roll
          halted_now = halted p s.clock Waiting

          q : Roll
          q = record halted_now { takes = suc halted_now.takes }

          free : halted_now.turn ≡ None
          free = free_after Waiting

          tasks : List Task
          tasks = all_displaced (stopping Waiting)

          numbered : IsNumberedFrom 0 tasks
          numbered = numbered_map (λ t. with_role t (displaced t.role)) (λ t. refl) 0 (stopping Waiting)
              (stopping_numbered Waiting)

          free_q : Follows (at_clock s tasks) q
          free_q = displaces (at_clock s (stopping Waiting)) (stopping_numbered Waiting) halted_now
              (halts s sound p follows r member runs Waiting (λ e. cc) (λ e. cc) refl) free

          g : Task
          g = with_role x (cond (x.number == r.number) Waiting x.role)

          g_in : IsMember (with_role g (displaced g.role)) tasks
          g_in = map_member (λ t. with_role t (displaced t.role)) (stopping Waiting) g
              (map_member (λ t. with_role t (cond (t.number == r.number) Waiting t.role)) s.tasks x x_in)

          out : (b : Bool) (role : Role) → role ≡ Waiting → displaced (cond b Waiting role) ≡ Coming → ⊥
          out true role is e = cc
          out false role is e = let no : displaced role ≡ Waiting = ap displaced is in cc

  -- the roll follows each deed
  pub deed_next : (k : Fraction) (m : Move) → Deed k s Ticks m → Follows (after s m) (roll_after p m)
  deed_next k m (Completed r member runs) = completes r member runs
  deed_next k m (Resumed q member holds none least why) =
      runs_on q member (not_coming q Held holds (λ e. cc)) none
  deed_next k m (Started o member waits none first fits next) =
      runs_on o member (not_coming o Waiting waits (λ e. cc)) none
  deed_next k m (Began f member fresh none behind) = runs_on f member (not_coming f Fresh fresh (λ e. cc)) none
  deed_next k m (Preempted r f member runs some f_member fresh before fits) = preempts r member runs f f_member fresh
  deed_next k m (Stayed r f member runs some f_member fresh why) = stays f f_member fresh
  deed_next k m (Arrived c member comes now first stale busy free) = releases c member comes first
  deed_next k m (Taken r x member runs some x_member waits now stale heavy) = takes r member runs x x_member waits
  deed_next k m (Abandoned r x member runs some x_member waits now stale light) = abandons x x_member waits
  deed_next k m (Rested quiet) = passes_tick quiet.busy

-- ---- along a run

module _ (J : Instance) (valid : IsValid J) (mark : ℕ) where
  -- after the steps of a path
  path_follows : (xs : List Step) (s z : State) (p : Roll) → Keeps J s → IsOpenPath J.rules mark s xs z → Follows s p
      → Follows z (fold with_event p (printed_of xs))
  path_follows [] s z p keeps here follows = subst (λ t. Follows t p) (sym here) follows
  path_follows (x ∷ xs) s z p keeps path follows =
      subst (Follows z) (by_move (open_step J.rules s)
      ∙ ap (λ (y : Step). fold with_event p (cons_option (event_of y.move) (printed_of xs))) (sym path.0))
      (path_follows xs (after s (open_step J.rules s)) z (roll_after p (open_step J.rules s))
      (open_kept J valid s keeps J.rules) path.2
      (deed_next s keeps.sound p follows J.rules.ratio (open_step J.rules s) (open_deed J valid s keeps J.rules))) where
        by_move : (m : Move) → fold with_event (roll_after p m) (printed_of xs)
            ≡ fold with_event p (cons_option (event_of m) (printed_of xs))
        by_move (Prints e) = refl
        by_move (Waits n) = refl
        by_move Ticks = refl

  pub opening_follows : Follows (opening J.jobs) empty_roll
  opening_follows = record {
    since = omega arith;
    turn = λ n e. absurd (let no : None ≡ Some n = e in cc);
    runs = λ t m runs. absurd (two (sym (come_coming 0 J.jobs t m).0 ∙ runs));
    here = λ t m out. absurd (out (come_coming 0 J.jobs t m).0);
    ahead = λ t m comes. omega arith;
    few = omega arith;
  } where
    two : Coming ≡ Running → ⊥
    two e = cc

  -- the roll of the printed steps follows the state
  pub roll_follows : (z : State) (events : List Event) → HasPrinted J mark z events → Follows z (roll_of events)
  roll_follows z events it = subst (λ es. Follows z (roll_of es)) it.prints
      (path_follows it.steps (opening J.jobs) z empty_roll (opening_keeps J) it.path opening_follows)
