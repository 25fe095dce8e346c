-- Every run of a valid instance on some processors ends, within the fuel of `run`, and prints few steps.
use Rattle.std.proofs.Common.{◌≡◌, ℕ, suc, zero, ◌+◌, ◌-◌, ◌*◌, ◌≤◌, ◌<◌, ◌⊎◌, inl, inr, List, [], length, map}
use Rattle.std.proofs.Common.{refl, sym, ap, ◌∙◌, subst, Bool, true, false, ◌||◌, arith, Some, None}
use Rattle.std.proofs.Common.{nat_lt, Option, ◌∷◌}
use Rattle.std.specs.Prelude.{filter_map}
use Rattle.std.specs.List.{AllByRecursion, list_any, list_all, cons_option}
use Rattle.dover_model.specs.declared.events.Event.{Event}
use Rattle.dover_model.specs.declared.events.Event.TheVariants.{Run, Preempt, Take, Complete, Abandon, End, Release}
use Rattle.dover_model.specs.declared.events.Task.{Task}
use Rattle.dover_model.specs.declared.events.Role.{Role}
use Rattle.dover_model.specs.declared.events.Role.TheVariants.{Coming, Fresh, Waiting, Held, Running, Done, Gone}
use Rattle.dover_model.specs.Finishes.{is_due}
use Rattle.dover_model.specs.Common.{Rules, Instance, IsValid, IsJob, last_deadline, is_over, is_privileged, left}
use Rattle.dover_model.specs.Common.{is_ready_behind, latest_start, IsMember, Each}
use Rattle.dover_model.specs.Common.{weight, weight_in, to_come, IsHeavy, is_complete}
use Rattle.dover_model.specs.Step as single
use Rattle.dover_model.proofs.finishes.Readiness.{none_due}
use Rattle.dover_model.proofs.lists.Tests.{never}
use Rattle.dover_model.proofs.lists.Members.{map_member, sum_map, on_map, not_all}
use Rattle.dover_model.proofs.runs.Ending.{sum_each}
use Rattle.dover_model.proofs.runs.Potential.{steps_scale, one_most, weight_of}
use Rattle.dover_model.proofs.steps.Deeds.{Deed, Completed, Resumed, Started, Began, Preempted, Stayed, Arrived}
use Rattle.dover_model.proofs.steps.Deeds.{Taken, Abandoned, Rested, deed_of}
use Rattle.dover_model.proofs.steps.Kept.{come_coming, each_job}
use Rattle.dover_model.proofs.steps.Roles.{passes}
use Rattle.dover_model.proofs.steps.Ticking.{Quiet}
use Rattle.dover_model.proofs.valid.Dues.{dues_most}
use Rattle.dover_model.proofs.valid.JobLimits.{job_limits}
use Rattle.many_processors.specs.Step.{open_step, is_free}
use Rattle.many_processors.specs.State.{Placed, State, tasks_of, seen_by, seen_from, opening, unplaced}
use Rattle.many_processors.specs.Step.{Move, Prints, Waits, Ticks, on, Seen, seen, all_seen, numbers_from, after}
use Rattle.many_processors.specs.Step.{step, completion}
use Rattle.many_processors.specs.Run as many
use Rattle.many_processors.specs.Run.{run_from, run, enough, is_end, event_of, printed, HasEnd}
use Rattle.many_processors.specs.Sound.{Keeps}
use Rattle.many_processors.proofs.steps.Seeing.{each_sees, below_numbers}
use Rattle.many_processors.proofs.steps.Cases as cases
use Rattle.many_processors.proofs.steps.Cases.{StepCase, step_case, open_case, IsQuiet, then_none, is_finished}
use Rattle.many_processors.proofs.steps.Cases.{is_run, is_take, NoneDue}
use Rattle.many_processors.proofs.books.Booked.{own_sum, value_of, seen_value}
use Rattle.many_processors.proofs.steps.Placing.{seen_member, seen_own, off_seen, all_left, own_running}
use Rattle.many_processors.proofs.steps.Stepping.{real, same_job}
use Rattle.many_processors.proofs.steps.Turns.{which, running_job, all_quiet, of_tasks, step_kept, opening_kept}
use Rattle.many_processors.proofs.runs.EachStep.{no_completion, tick_quiet, open_goes_on}
use Rattle.many_processors.proofs.runs.Weighing.{weighs, weighs_one, Lasting, Falls, goes_on, fits_in, on_slack}
use Rattle.many_processors.proofs.runs.Weighing.{run_falls, IsSpent, spent_as}
use Rattle.many_processors.proofs.runs.Weighing.{off_falls, done_falls, preempt_falls, take_falls, ticks_last}

module _ (processors : ℕ) (J : Instance) (valid : IsValid J) (some : 1 ≤ processors) (s : State)
    (keeps : Keeps processors J s) (w : ℕ) (it : Lasting J.rules.finishes processors s w) (due : ℕ) where
  abbrev rules : Rules
  rules = J.rules

  -- after the step less can come, and a job that can take no more still can't
  abbrev pub Down : State → Type 0
  Down t = (more : ℕ) × Lasting J.rules.finishes processors t more
      × ((due - t.clock) + weighs t.clock more t.jobs + 1 ≤ (due - s.clock) + weighs s.clock w s.jobs)
      × ((n : ℕ) → IsSpent n s w → IsSpent n t more)

  down : (jobs : List Placed) (pressed : Bool)
      → Falls J.rules.finishes processors s (record { clock = s.clock; jobs = jobs; pressed = pressed }) w
      → Down (record { clock = s.clock; jobs = jobs; pressed = pressed })
  down jobs pressed falls = (falls.0, falls.1, omega (arith, falls.2), falls.3)

  one_job : (p u : Placed) → IsMember p s.jobs → IsMember u s.jobs → p.task.number ≡ u.task.number → p ≡ u
  one_job = same_job processors J valid s keeps

  -- what is known of a move on processor i that isn't a completion
  abbrev Decided : ℕ → Move → Type 0
  Decided i m = (is_run m ≡ true) ⊎ (Each (λ p. p.task.role ≡ Running → is_due J.rules.finishes p.task ≡ false) s.jobs
      × ((is_take m ≡ false) ⊎ ((q : ℕ) → q < processors → own_sum i value_of s.jobs ≤ own_sum q value_of s.jobs)))

  -- ---- what one processor does

  module _ (some_left : Each (λ p. is_privileged p.task ≡ true → 1 ≤ left p.task) s.jobs) (i : ℕ)
      (i_low : i < processors) where
    own_one : (r : Task) → IsMember r (map (seen_by i) s.jobs) → r.role ≡ Running
        → (x : Placed) × IsMember x s.jobs × (x.task ≡ r) × (x.owner ≡ i)
    own_one r member runs =
        let x = seen_member i s.jobs r Running (λ e. cc) runs member in
        let own = seen_own i x.0 (ap is_privileged x.3 ∙ passes is_privileged r Running true runs refl) in
        (x.0, x.1, x.2, own.1)

    -- a job behind goes on, and a fresh one
    behind_goes : (x : Placed) → IsMember x s.jobs → 1 ≤ left x.task → is_ready_behind x.task ≡ true
        → is_finished J.rules.finishes x.task ≡ false
    behind_goes x member some behind = goes_on J.rules.finishes x.task some (it.ready x member behind)

    fresh_goes : (x : Placed) → IsMember x s.jobs → x.task.role ≡ Fresh → is_finished J.rules.finishes x.task ≡ false
    fresh_goes x member fresh =
        let fits = fits_in processors J s keeps Fresh x member fresh in
        goes_on J.rules.finishes x.task fits.1 (none_due J.rules.finishes x.task fits.0)

    -- a job that begins or goes on
    runs : (role : Role) → (role ≡ Done → ⊥) → (role ≡ Held) ⊎ ((role ≡ Waiting) ⊎ (role ≡ Fresh))
        → (Each (λ x. x.task.role ≡ role → is_finished J.rules.finishes x.task ≡ false) s.jobs)
        → (t : Task) → IsMember t (map (seen_by i) s.jobs) → t.role ≡ role
        → Down (after s (Prints i (Run s.clock t.number)))
    runs role other kind goes t member e =
        let x = seen_member i s.jobs t role other e member in
        let in_it : x.0.task.role ≡ role = ap (λ (u : Task). u.role) x.2 ∙ e in
        subst (λ (u : Task). Down (after s (Prints i (Run s.clock u.number)))) x.2
        (down _ _ (run_falls processors J s keeps J.rules.finishes w it one_job x.0 x.1 i _
        (subst (λ r. (r ≡ Held) ⊎ ((r ≡ Waiting) ⊎ (r ≡ Fresh))) (sym in_it) kind)
        (λ on. (seen_own i x.0 (ap is_privileged (x.3 ∙ sym x.2) ∙ on)).1) (goes x.0 x.1 in_it)))

    -- a job that is abandoned
    leaves : (x : Task) → IsMember x (map (seen_by i) s.jobs) → x.role ≡ Waiting
        → Down (after s (Prints i (Abandon s.clock x.number)))
    leaves x x_member waits =
        let z = seen_member i s.jobs x Waiting (λ e. cc) waits x_member in
        let is_w : z.0.task.role ≡ Waiting = ap (λ (u : Task). u.role) z.2 ∙ waits in
        subst (λ (u : Task). Down (after s (Prints i (Abandon s.clock u.number)))) z.2
        (down _ _ (off_falls processors J s keeps J.rules.finishes w it one_job z.0 z.1 Gone _
        (passes is_privileged z.0.task Waiting false is_w refl) (λ e. absurd (let f : Gone ≡ Running = e in cc))
        (λ e. never e) (omega (arith, weight_of steps_scale s.clock w z.0.task Waiting is_w)) (λ spent. tt)))

    gone_down : (m : single.Move) → Deed J.rules.ratio (seen_from i s) (single.Prints (End 0)) m → cases.is_gone m
        ≡ true
        → Down (after s (on i m))
    gone_down m (Abandoned r x member runs_r some_r x_member waits now stale light) kind = leaves x x_member waits
    gone_down m (Completed r member runs_r) kind = never kind
    gone_down m (Resumed p member held none least why) kind = never kind
    gone_down m (Started o member waits none first fits next) kind = never kind
    gone_down m (Began f member fresh none free) kind = never kind
    gone_down m (Preempted r f member runs_r some_r f_member fresh before fits) kind = never kind
    gone_down m (Stayed r f member runs_r some_r f_member fresh why) kind = never kind
    gone_down m (Arrived c member comes now first stale busy free) kind = never kind
    gone_down m (Taken r x member runs_r some_r x_member waits now stale heavy) kind = never kind
    gone_down m (Rested quiet) kind = never kind

    -- a deed lets less come
    deed_down : (m : single.Move) → Deed J.rules.ratio (seen_from i s) (single.Prints (End 0)) m → is_complete m ≡ false
        → cases.is_ending m ≡ false → Decided i (on i m) → Down (after s (on i m))
    deed_down m (Completed r member runs_r) kind ends decided = never (sym kind)
    deed_down m (Resumed p member held none least why) kind ends decided = runs Held (λ e. cc) (inl refl)
        (λ x x_member e. behind_goes x x_member (fits_in processors J s keeps Held x x_member e).0
        (passes is_ready_behind x.task Held true e refl)) p member held
    deed_down m (Started o member waits none first fits next) kind ends decided = runs Waiting (λ e. cc)
        (inr (inl refl))
        (λ x x_member e. behind_goes x x_member (fits_in processors J s keeps Waiting x x_member e).0
        (passes is_ready_behind x.task Waiting true e refl)) o member waits
    deed_down m (Began f member fresh none free) kind ends decided = runs Fresh (λ e. cc) (inr (inr refl)) fresh_goes
        f member fresh
    deed_down m (Preempted r f member runs_r some_r f_member fresh before fits) kind ends (inl is) = never is
    deed_down m (Preempted r f member runs_r some_r f_member fresh before fits) kind ends (inr decided) =
        let y = own_one r member runs_r in
        let x = seen_member i s.jobs f Fresh (λ e. cc) fresh f_member in
        let is_fresh : x.0.task.role ≡ Fresh = ap (λ (u : Task). u.role) x.2 ∙ fresh in
        let y_runs : y.0.task.role ≡ Running = ap (λ (u : Task). u.role) y.2 ∙ runs_r in
        subst (λ n. Down (after s (Prints i (Preempt s.clock n f.number)))) (ap (λ (u : Task). u.number) y.2)
        (subst (λ n. Down (after s (Prints i (Preempt s.clock y.0.task.number n)))) (ap (λ (u : Task). u.number) x.2)
        (down _ _ (preempt_falls processors J s keeps J.rules.finishes w it one_job x.0 y.0 x.1 y.1 i y_runs y.3
        (passes is_privileged x.0.task Fresh false is_fresh refl) (fresh_goes x.0 x.1 is_fresh)
        (decided.0 y.0 y.1 y_runs) s.clock _ is_fresh)))
    deed_down m (Stayed r f member runs_r some_r f_member fresh why) kind ends decided =
        let x = seen_member i s.jobs f Fresh (λ e. cc) fresh f_member in
        let is_fresh : x.0.task.role ≡ Fresh = ap (λ (u : Task). u.role) x.2 ∙ fresh in
        subst (λ (u : Task). Down (after s (Waits u.number))) x.2
        (down _ _ (off_falls processors J s keeps J.rules.finishes w it one_job x.0 x.1 Waiting s.pressed
        (passes is_privileged x.0.task Fresh false is_fresh refl) (λ e. absurd (let f : Waiting ≡ Running = e in cc))
        (λ e. none_due J.rules.finishes x.0.task (fits_in processors J s keeps Fresh x.0 x.1 is_fresh).0)
        (omega (
          arith,
          weight_of steps_scale s.clock w x.0.task Fresh is_fresh,
          one_most (nat_lt s.clock (latest_start x.0.task) || nat_lt w x.0.task.job.value),
        )) (λ spent. absurd (spent_as s.clock w x.0.task Fresh is_fresh spent))))
    deed_down m (Arrived c member comes now first stale busy free) kind ends decided =
        let x = seen_member i s.jobs c Coming (λ e. cc) comes member in
        let is_coming : x.0.task.role ≡ Coming = ap (λ (u : Task). u.role) x.2 ∙ comes in
        subst (λ n. Down (after s (Prints i (Release n c.job)))) (ap (λ (u : Task). u.number) x.2)
        (down _ _ (off_falls processors J s keeps J.rules.finishes w it one_job x.0 x.1 Fresh _
        (passes is_privileged x.0.task Coming false is_coming refl) (λ e. absurd (let f : Fresh ≡ Running = e in cc))
        (λ e. never e) (omega (arith, weight_of steps_scale s.clock w x.0.task Coming is_coming))
        (λ spent. absurd (spent_as s.clock w x.0.task Coming is_coming spent))))
    deed_down m (Taken r x member runs_r some_r x_member waits now stale heavy) kind ends (inl is) = never is
    deed_down m (Taken r x member runs_r some_r x_member waits now stale heavy) kind ends (inr decided) =
        by_least decided.1 where
          y : (u : Placed) × IsMember u s.jobs × (u.task ≡ r) × (u.owner ≡ i)
          y = own_one r member runs_r

          z : (u : Placed) × IsMember u s.jobs × (u.task ≡ x) × (seen_by i u ≡ x)
          z = seen_member i s.jobs x Waiting (λ e. cc) waits x_member

          is_w : z.0.task.role ≡ Waiting
          is_w = ap (λ (u : Task). u.role) z.2 ∙ waits

          by_least : (is_take (Prints i (Take s.clock r.number x.number)) ≡ false)
              ⊎ ((q : ℕ) → q < processors → own_sum i value_of s.jobs ≤ own_sum q value_of s.jobs)
              → Down (after s (Prints i (Take s.clock r.number x.number)))
          by_least (inl is) = never (sym is)
          by_least (inr least) =
              subst (λ n. Down (after s (Prints i (Take s.clock n x.number)))) (ap (λ (u : Task). u.number) y.2)
              (subst (λ n. Down (after s (Prints i (Take s.clock y.0.task.number n)))) (ap (λ (u : Task). u.number) z.2)
              (down _ _ (take_falls processors J s keeps J.rules.finishes w it one_job z.0 y.0 z.1 y.1 i
              (ap (λ (u : Task). u.role) y.2 ∙ runs_r) y.3
              (passes is_privileged z.0.task Waiting false is_w refl)
              (behind_goes z.0 z.1 (fits_in processors J s keeps Waiting z.0 z.1 is_w).0
              (passes is_ready_behind z.0.task Waiting true is_w refl))
              (decided.0 y.0 y.1 (ap (λ (u : Task). u.role) y.2 ∙ runs_r)) s.clock _ is_w
              (ap latest_start z.2 ∙ now) J.rules.ratio
              (subst (λ (u : Task). IsHeavy J.rules.ratio u.job.value (own_sum i value_of s.jobs)) (sym z.2)
              (subst (IsHeavy J.rules.ratio x.job.value) (seen_value s i) heavy)) i_low least
              (λ p p_member e. goes_on J.rules.finishes p.task
              (some_left p p_member (passes is_privileged p.task Running true e refl)) (decided.0 p p_member e))
              decided.0)))
    deed_down m (Abandoned r x member runs_r some_r x_member waits now stale light) kind ends decided =
        leaves x x_member waits
    deed_down m (Rested quiet) kind ends decided = never (sym ends)

  -- ---- every step

  abbrev all : List Seen
  all = all_seen processors J.rules.version s

  see : (q : ℕ) → q < processors → IsMember (seen J.rules.version s q) all
  see q less = map_member (seen J.rules.version s) (numbers_from 0 processors) q
      (below_numbers q 0 processors (omega arith) (omega (arith, less)))

  left_of : Each (λ o. completion o ≡ None) all → Each (λ p. is_privileged p.task ≡ true → 1 ≤ left p.task) s.jobs
  left_of going = all_left processors s J.rules.version keeps.sound keeps.placed going

  deed_at : (i : ℕ) (gone : Bool) (m : Move) (acts : cases.Acts J.rules.ratio (seen J.rules.version s i) gone m)
      → Deed J.rules.ratio (seen_from i s) (single.Prints (End 0)) acts.move
  deed_at i gone m acts = deed_of J.rules.ratio J.rules.version (seen_from i s) (single.Prints (End 0)) (keeps.sound i)
      (real processors J valid s keeps i) acts.move acts.case

  acts_down : (i : ℕ) → i < processors → (m : Move) → cases.Acts J.rules.ratio (seen J.rules.version s i) false m
      → Each (λ o. completion o ≡ None) all → Decided i m → Down (after s m)
  acts_down i less m acts going decided = subst (λ (x : Move). Down (after s x)) (sym acts.is)
      (deed_down (left_of going) i less acts.move (deed_at i false m acts)
      (no_completion J.rules.ratio (seen J.rules.version s i) (going (seen J.rules.version s i) (see i less))
      acts.move acts.case)
      acts.goes_on (subst (Decided i) acts.is decided))

  leaves_down : (i : ℕ) → i < processors → (m : Move) → cases.Acts J.rules.ratio (seen J.rules.version s i) true m
      → Each (λ o. completion o ≡ None) all → Down (after s m)
  leaves_down i less m acts going = subst (λ (x : Move). Down (after s x)) (sym acts.is)
      (gone_down (left_of going) i less acts.move (deed_at i true m acts) acts.kind)

  -- what is known of the moves
  decided_of : (q : Seen) → IsMember q all → (m : Move) → cases.IsDecided J.rules q all m → Decided q.processor m
  decided_of q member m (inl is) = inl is
  decided_of q member m (inr known) = inr (
    λ p p_member runs. known.0 (seen J.rules.version s p.owner)
        (see p.owner (keeps.placed.owners p p_member (passes is_privileged p.task Running true runs refl))) p.task
        (own_running s keeps.sound p p_member runs),
    by_least known.1,
  ) where
    is_seen : (q ≡ seen J.rules.version s q.processor) × (q.processor < processors)
    is_seen = which processors J valid some J.rules s keeps q member

    here : q.view.privileged_value ≡ own_sum q.processor value_of s.jobs
    here = ap (λ (o : Seen). o.view.privileged_value) is_seen.0 ∙ seen_value s q.processor

    by_least : (is_take m ≡ false)
        ⊎ Each (λ o. (is_free o ≡ false) × (q.view.privileged_value ≤ o.view.privileged_value)) all
        → (is_take m ≡ false)
        ⊎ ((j : ℕ) → j < processors → own_sum q.processor value_of s.jobs ≤ own_sum j value_of s.jobs)
    by_least (inl is) = inl is
    by_least (inr least) = inr (λ j less. omega (
      arith,
      (least (seen J.rules.version s j)
          (see j less)).1,
      here,
      seen_value s j,
    ))

  -- ---- a tick comes before the last deadline

  tick_early : Quiet (seen_from 0 s) → Each (λ p. is_privileged p.task ≡ true → 1 ≤ left p.task) s.jobs
      → list_all is_over (tasks_of s.jobs) ≡ false → s.clock < last_deadline J.jobs
  tick_early quiet some_left unended = by_role x.0.task.role refl where
    open_one : (t : Task) × IsMember t (tasks_of s.jobs) × (is_over t ≡ false)
    open_one = not_all is_over (tasks_of s.jobs) unended

    x : (p : Placed) × IsMember p s.jobs × (p.task ≡ open_one.0)
    x = of_tasks s.jobs open_one.0 open_one.1

    not_past : is_over x.0.task ≡ false
    not_past = ap is_over x.2 ∙ open_one.2

    due_by : x.0.task.job.deadline ≤ last_deadline J.jobs
    due_by = subst (λ (t : Task). t.job.deadline ≤ last_deadline J.jobs) (sym x.2)
        (each_job (λ j. j.deadline ≤ last_deadline J.jobs) (tasks_of s.jobs)
        (subst (AllByRecursion (λ j. j.deadline ≤ last_deadline J.jobs)) (sym keeps.jobs) (dues_most J.jobs 0))
        open_one.0 open_one.1)

    off_member : is_privileged x.0.task ≡ false → IsMember x.0.task (map (seen_by 0) s.jobs)
    off_member off = subst (λ t. IsMember t (map (seen_by 0) s.jobs)) (off_seen 0 x.0 off)
        (map_member (seen_by 0) s.jobs x.0 x.1)

    on_early : is_privileged x.0.task ≡ true → s.clock < last_deadline J.jobs
    on_early on = omega (arith, on_slack processors J s keeps x.0 x.1 on, some_left x.0 x.1 on, due_by)

    by_role : (role : Role) → x.0.task.role ≡ role → s.clock < last_deadline J.jobs
    by_role Coming e =
        let member : IsMember x.0.task (map (seen_by 0) s.jobs) = off_member
        (passes is_privileged x.0.task Coming false e
        refl) in
        let ahead : s.clock < x.0.task.job.release = quiet.ahead x.0.task member e in
        let job : IsJob x.0.task.job = (real processors J valid s keeps 0).each x.0.task member in
        omega (arith, ahead, (job_limits job).window, due_by)
    by_role Fresh e = absurd (quiet.stale x.0.task (off_member (passes is_privileged x.0.task Fresh false e refl)) e)
    by_role Waiting e = let fits = fits_in processors J s keeps Waiting x.0 x.1 e in
        omega (arith, fits.0, fits.2, due_by)
    by_role Held e = on_early (passes is_privileged x.0.task Held true e refl)
    by_role Running e = on_early (passes is_privileged x.0.task Running true e refl)
    by_role Done e = never (sym not_past ∙ passes is_over x.0.task Done true e refl)
    by_role Gone e = never (sym not_past ∙ passes is_over x.0.task Gone true e refl)

  -- each step but End lets less come
  case_down : (may_end : Bool) (m : Move) → StepCase may_end J.rules s all m → (m ≡ Ticks → s.clock < due)
      → is_end m ≡ false → Down (after s m)
  case_down may_end m (cases.Completed q member t served finished) early more =
      let i = which processors J valid some J.rules s keeps q member in
      let x = running_job processors J valid some J.rules s keeps q.processor t
      (subst (λ (r : Seen). r.view.running ≡ Some t) i.0 served) in
      subst (λ (u : Task). Down (after s (Prints q.processor (Complete q.view.clock u.number)))) x.2
      (down _ _ (done_falls processors J s keeps J.rules.finishes w it one_job x.0 x.1 _ x.3
      (ap (is_finished J.rules.finishes) x.2 ∙ finished)))
  case_down may_end m (cases.Acted q member n acts going decided) early more =
      let i = which processors J valid some J.rules s keeps q member in
      acts_down q.processor i.1 m (subst (λ r. cases.Acts J.rules.ratio r false m) i.0 acts) going
      (decided_of q member m decided)
  case_down may_end m (cases.Abandoned q member n acts goes going light) early more =
      let i = which processors J valid some J.rules s keeps q member in
      leaves_down q.processor i.1 m (subst (λ r. cases.Acts J.rules.ratio r true m) i.0 acts) going
  case_down may_end m (cases.Ended may over) early more = never (sym more)
  case_down may_end m (cases.Rested quiet unended) early more =
      let some_left = left_of quiet.going in
      let first : Quiet (seen_from 0 s) = all_quiet processors J valid some J.rules s keeps quiet 0
      (omega (arith, some)) in
      let last = ticks_last processors J s keeps J.rules.finishes w it one_job some_left first in
      (0, last.0, omega (arith, last.1, early refl), last.2)

  step_case_here : StepCase true J.rules s all (step processors J.rules s)
  step_case_here = step_case J.rules s all (each_sees processors J.rules.version s)

  pub step_down : last_deadline J.jobs ≤ due → is_end (step processors J.rules s) ≡ false
      → Down (after s (step processors J.rules s))
  step_down last = case_down true (step processors J.rules s) step_case_here
      (λ ticks. let it = tick_quiet true J.rules s all (step processors J.rules s) step_case_here ticks in
      let before : s.clock < last_deadline J.jobs =
      tick_early (all_quiet processors J valid some J.rules s keeps it.0 0 (omega (arith, some))) (left_of it.0.going)
      (it.1 refl) in
      omega (arith, before, last))

  pub open_down : (open_step processors J.rules s ≡ Ticks → s.clock < due)
      → Down (after s (open_step processors J.rules s))
  open_down early = case_down false (open_step processors J.rules s) here early (open_goes_on _ here) where
    here : StepCase false J.rules s all (open_step processors J.rules s)
    here = open_case J.rules s all (each_sees processors J.rules.version s)

-- ---- the run

module _ (processors : ℕ) (J : Instance) (valid : IsValid J) (some : 1 ≤ processors) where
  -- with so much that can come it ends
  ends : (more : ℕ) (s : State) (w : ℕ) → Keeps processors J s → Lasting J.rules.finishes processors s w
      → (last_deadline J.jobs - s.clock) + weighs s.clock w s.jobs ≤ more
      → HasEnd (run_from processors J.rules (suc more) s)
  ends zero s w keeps it few = by_end (is_end (step processors J.rules s)) refl where
    by_end : (b : Bool) → is_end (step processors J.rules s) ≡ b → HasEnd (run_from processors J.rules 1 s)
    by_end true e = ap (λ b. b || list_any (λ x. is_end x.move) (elim b [
      | true ↦ []
      | false ↦ run_from processors J.rules 0 (after s (step processors J.rules s))
    ])) e
    by_end false e = let d = step_down processors J valid some s keeps w it (last_deadline J.jobs) (omega arith)
        e in absurd (omega (arith, d.2, few))
  ends (suc more) s w keeps it few = by_end (is_end (step processors J.rules s)) refl
      (ends more (after s (step processors J.rules s))) where
        by_end : (b : Bool) → is_end (step processors J.rules s) ≡ b
            → ((v : ℕ) → Keeps processors J (after s (step processors J.rules s))
            → Lasting J.rules.finishes processors (after s (step processors J.rules s)) v
            → (last_deadline J.jobs - (after s (step processors J.rules s)).clock)
            + weighs (after s (step processors J.rules s)).clock v (after s (step processors J.rules s)).jobs ≤ more
            → HasEnd (run_from processors J.rules (suc more) (after s (step processors J.rules s))))
            → HasEnd (run_from processors J.rules (suc (suc more)) s)
        by_end true e onward = ap (λ b. b || list_any (λ x. is_end x.move) (elim b [
          | true ↦ []
          | false ↦ run_from processors J.rules (suc more) (after s (step processors J.rules s))
        ])) e
        by_end false e onward =
            let d = step_down processors J valid some s keeps w it (last_deadline J.jobs) (omega arith) e in
            ap (λ b. b || list_any (λ x. is_end x.move) (elim b [
              | true ↦ []
              | false ↦ run_from processors J.rules (suc more) (after s (step processors J.rules s))
            ])) e
            ∙ onward d.0 (step_kept processors J valid some J.rules s keeps) d.1 (omega (arith, d.2, few))

  -- of which no more steps are printed than the jobs can bring about, and End
  abbrev shown : List many.Step → ℕ
  shown steps = length (filter_map (λ x. event_of x.move) steps)

  few_from : (more : ℕ) (s : State) (w : ℕ) → Keeps processors J s → Lasting J.rules.finishes processors s w
      → shown (run_from processors J.rules more s) ≤ weighs s.clock w s.jobs + 1
  few_from zero s w keeps it = omega arith
  few_from (suc more) s w keeps it = by_move (step processors J.rules s) (is_end (step processors J.rules s)) refl
      (step_down processors J valid some s keeps w it (last_deadline J.jobs) (omega arith))
      (few_from more (after s (step processors J.rules s)))
      (step_kept processors J valid some J.rules s keeps) where
        one_most : (o : Option Event) → length (cons_option o []) ≤ 1
        one_most None = omega arith
        one_most (Some e) = omega arith

        by_move : (m : Move) (b : Bool) → is_end m ≡ b
            → (is_end m ≡ false → Down processors J valid some s keeps w it (last_deadline J.jobs) (after s m))
            → ((v : ℕ) → Keeps processors J (after s m) → Lasting J.rules.finishes processors (after s m) v
            → shown (run_from processors J.rules more (after s m))
            ≤ weighs (after s m).clock v (after s m).jobs + 1)
            → Keeps processors J (after s m)
            → shown (record { before = s; move = m }
            ∷ elim b [ true ↦ [] | false ↦ run_from processors J.rules more (after s m) ])
            ≤ weighs s.clock w s.jobs + 1
        by_move m true e down rest kept = omega (arith, one_most (event_of m))
        by_move (Prints q x) false e down rest kept =
            let d = down e in omega (arith, d.2, rest d.0 kept d.1)
        by_move (Waits n) false e down rest kept = let d = down e in omega (arith, d.2, rest d.0 kept d.1)
        by_move Ticks false e down rest kept = let d = down e in omega (arith, d.2, rest d.0 kept d.1)

  pub opening_lasts : Lasting J.rules.finishes processors (opening J.jobs) 0
  opening_lasts = record {
    low = λ q less. omega arith;
    ready = on_map unplaced (λ p. is_ready_behind p.task ≡ true → is_due J.rules.finishes p.task ≡ false)
        (to_come 0 J.jobs) (λ t member behind. never (sym (passes is_ready_behind t Coming false
        (come_coming 0 J.jobs t member).0 refl) ∙ behind));
    going = inl refl;
  }

  pub opening_weighs : weighs 0 0 (opening J.jobs).jobs ≡ 5 * length J.jobs
  opening_weighs = sum_map unplaced (weighs_one 0 0) (to_come 0 J.jobs)
      ∙ sum_each 5 (weight steps_scale 0 0) 0 J.jobs
      (λ t member. ap (λ role. weight_in steps_scale role 0 0 t) (come_coming 0 J.jobs t member).0)

  -- the run of a valid instance ends
  pub run_ends : HasEnd (run processors J)
  run_ends = subst (λ n. HasEnd (run_from processors J.rules n (opening J.jobs)))
      (let same : suc (last_deadline J.jobs + 5 * length J.jobs) ≡ enough J.jobs = omega arith in same)
      (ends (last_deadline J.jobs + 5 * length J.jobs) (opening J.jobs) 0 (opening_kept processors J) opening_lasts
      (omega (arith, opening_weighs)))

  -- of which at most five steps for each job are printed, and End
  pub few_printed : length (printed processors J) ≤ 5 * length J.jobs + 1
  few_printed = omega (
    arith,
    few_from (enough J.jobs) (opening J.jobs) 0 (opening_kept processors J) opening_lasts,
    opening_weighs,
  )
