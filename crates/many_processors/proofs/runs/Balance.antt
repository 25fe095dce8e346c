-- Over a run a job begins or goes on at a free processor as often as one is completed.
use Rattle.std.proofs.Common.{◌≡◌, ℕ, suc, zero, ◌+◌, ◌≤◌, map, refl, sym, ap, ◌∙◌, subst}
use Rattle.std.proofs.Common.{Bool, true, false, cond, arith, eqb, eqb-true, eq-eqb, sum_by, ◌&&◌, ◌||◌, ◌==◌, Some}
use Rattle.std.specs.List.{list_any}
use Rattle.std.proofs.lemmas.Bool.{and_parts}
use Rattle.dover_model.specs.declared.events.Event.TheVariants.{Run, Preempt, Take, Complete, Abandon, End, Release}
use Rattle.dover_model.specs.declared.events.Role.{Role}
use Rattle.dover_model.specs.declared.events.Role.TheVariants.{Coming, Fresh, Waiting, Held, Running, Done, Gone}
use Rattle.dover_model.specs.declared.events.Task.{Task}
use Rattle.dover_model.specs.Common.{Instance, IsValid, IsMember, Each, one_if, to_come, is_running, is_over}
use Rattle.dover_model.specs.Common.{is_privileged}
use Rattle.dover_model.specs.Step as single
use Rattle.dover_model.proofs.lists.Members.{sum_map, sum_zero, sum_same, on_map, all_each, map_member}
use Rattle.dover_model.proofs.lists.Tests.{never}
use Rattle.dover_model.proofs.steps.Deeds.{Deed, Completed, Resumed, Started, Began, Preempted, Stayed, Arrived}
use Rattle.dover_model.proofs.steps.Deeds.{Taken, Abandoned, Rested, deed_of}
use Rattle.dover_model.proofs.steps.Kept.{come_coming}
use Rattle.dover_model.proofs.steps.Roles.{passes, is_running_role}
use Rattle.many_processors.specs.State.{Placed, State, seen_by, seen_from, opening, tasks_of, unplaced}
use Rattle.many_processors.specs.Step.{Move, Prints, Waits, Ticks, on, Seen, seen, all_seen, step, after, placed_after}
use Rattle.many_processors.specs.Step.{in_role, placed_on, is_own_of, ticked, with_tick}
use Rattle.many_processors.specs.Run.{run_from, run, enough, is_end, HasEnd}
use Rattle.many_processors.specs.Sound.{Keeps}
use Rattle.many_processors.specs.Ticks.{is_run, is_complete}
use Rattle.many_processors.proofs.books.Booked.{sum_at}
use Rattle.many_processors.proofs.steps.Cases as cases
use Rattle.many_processors.proofs.steps.Cases.{StepCase, step_case}
use Rattle.many_processors.proofs.steps.Placing.{seen_member, seen_own, own_seen}
use Rattle.many_processors.proofs.steps.Seeing.{each_sees}
use Rattle.many_processors.proofs.steps.Stepping.{real}
use Rattle.many_processors.proofs.steps.Turns.{which, running_job, step_kept, opening_kept}
use Rattle.many_processors.proofs.runs.EachStep.{acts_go_on, counted, step_of, others, first_counted}
use Rattle.many_processors.proofs.runs.RunEnds.{run_ends}

-- one for a job that runs
abbrev runs_one : Placed → ℕ
runs_one p = one_if (is_running p.task)

-- so many jobs run
abbrev busy : State → ℕ
busy s = sum_by runs_one s.jobs

-- by its role
runs_by : (p : Placed) (role : Role) (b : Bool) → p.task.role ≡ role → is_running (single.with_role p.task role) ≡ b
    → runs_one p ≡ one_if b
runs_by p role b e is = ap one_if (passes is_running p.task role b e is)

-- the step leaves as many running jobs, but for one that begins and one that is completed
abbrev Balanced : State → Move → Type 0
Balanced s m = busy (after s m) + one_if (is_complete m) ≡ busy s + one_if (is_run m)

module _ (processors : ℕ) (J : Instance) (valid : IsValid J) (some : 1 ≤ processors) (s : State)
    (keeps : Keeps processors J s) where
  -- where one job changes
  changed : (f g : Placed → ℕ) (x : Placed) → IsMember x s.jobs
      → Each (λ p. (p.task.number ≡ x.task.number → ⊥) → f p ≡ g p) s.jobs
      → sum_by f s.jobs + g x ≡ sum_by g s.jobs + f x
  changed f g x member others = sum_at f g 0 s.jobs x (keeps.sound 0).numbered member others

  -- a change of this job alone
  abbrev only : ℕ → (Placed → Placed) → Placed → Placed
  only n h p = cond (eqb p.task.number n) (h p) p

  one_changes : (h : Placed → Placed) (x : Placed) → IsMember x s.jobs
      → sum_by runs_one (map (only x.task.number h) s.jobs) + runs_one x ≡ busy s + runs_one (h x)
  one_changes h x member = omega (
    arith,
    sum_map (only x.task.number h) runs_one s.jobs,
    changed (λ p. runs_one (only x.task.number h p)) runs_one x member
        (λ p m differs. by_other p (eqb p.task.number x.task.number) refl differs),
    ap (λ b. runs_one (cond b (h x) x)) (eq-eqb x.task.number x.task.number refl),
  ) where
    by_other : (p : Placed) (b : Bool) → eqb p.task.number x.task.number ≡ b
        → (p.task.number ≡ x.task.number → ⊥) → runs_one (cond b (h p) p) ≡ runs_one p
    by_other p true e differs = absurd (differs (eqb-true _ _ e))
    by_other p false e differs = refl

  module _ (i : ℕ) where
    -- a job that the processor sees in a role
    one_seen : (t : Task) (role : Role) → (role ≡ Done → ⊥) → t.role ≡ role → IsMember t (map (seen_by i) s.jobs)
        → (p : Placed) × IsMember p s.jobs × (p.task ≡ t) × (p.task.role ≡ role)
    one_seen t role other e member =
        let x = seen_member i s.jobs t role other e member in
        (x.0, x.1, x.2, ap (λ (u : Task). u.role) x.2 ∙ e)

    -- a job that begins or goes on
    begins : (t : Task) (role : Role) → (role ≡ Done → ⊥) → is_running (single.with_role t role) ≡ false
        → t.role ≡ role → IsMember t (map (seen_by i) s.jobs) → Balanced s (Prints i (Run s.clock t.number))
    begins t role other off e member =
        let x = one_seen t role other e member in
        subst (λ (u : Task). Balanced s (Prints i (Run s.clock u.number))) x.2
        (omega (
          arith,
          one_changes (placed_on i) x.0 x.1,
          runs_by x.0 role false x.3
              (subst (λ (u : Task). is_running (single.with_role u role) ≡ false) (sym x.2) off),
        ))

    deed_balanced : (m : single.Move) → Deed J.rules.ratio (seen_from i s) (single.Prints (End 0)) m
        → cases.is_ending m ≡ false → Balanced s (on i m)
    deed_balanced m (Completed r member runs) goes =
        let x = one_seen r Running (λ e. cc) runs member in
        subst (λ (u : Task). Balanced s (Prints i (Complete s.clock u.number))) x.2
        (omega (arith, one_changes (λ p. in_role p Done) x.0 x.1, runs_by x.0 Running true x.3 refl))
    deed_balanced m (Resumed p member held none least why) goes = begins p Held (λ e. cc) refl held member
    deed_balanced m (Started o member waits none first fits next) goes = begins o Waiting (λ e. cc) refl waits member
    deed_balanced m (Began f member fresh none free) goes = begins f Fresh (λ e. cc) refl fresh member
    deed_balanced m (Stayed r f member runs left f_member fresh why) goes =
        let x = one_seen f Fresh (λ e. cc) fresh f_member in
        subst (λ (u : Task). Balanced s (Waits u.number)) x.2
        (omega (arith, one_changes (λ p. in_role p Waiting) x.0 x.1, runs_by x.0 Fresh false x.3 refl))
    deed_balanced m (Arrived c member comes now first stale full free) goes =
        let x = one_seen c Coming (λ e. cc) comes member in
        subst (λ n. Balanced s (Prints i (Release n c.job))) (ap (λ (u : Task). u.number) x.2)
        (omega (arith, one_changes (λ p. in_role p Fresh) x.0 x.1, runs_by x.0 Coming false x.3 refl))
    deed_balanced m (Abandoned r x member runs left x_member waits now stale light) goes =
        let z = one_seen x Waiting (λ e. cc) waits x_member in
        subst (λ (u : Task). Balanced s (Prints i (Abandon s.clock u.number))) z.2
        (omega (arith, one_changes (λ p. in_role p Gone) z.0 z.1, runs_by z.0 Waiting false z.3 refl))
    deed_balanced m (Rested quiet) goes = never (sym goes)
    deed_balanced m (Preempted r f member runs left f_member fresh before fits) goes =
        let y = one_seen r Running (λ e. cc) runs member in
        let x = one_seen f Fresh (λ e. cc) fresh f_member in
        subst (λ n. Balanced s (Prints i (Preempt s.clock n f.number))) (ap (λ (u : Task). u.number) y.2)
        (subst (λ n. Balanced s (Prints i (Preempt s.clock y.0.task.number n))) (ap (λ (u : Task). u.number) x.2)
        (swapped x.0 x.1 x.3 y.0 y.1 y.3)) where
          swapped : (x : Placed) → IsMember x s.jobs → x.task.role ≡ Fresh → (y : Placed) → IsMember y s.jobs
              → y.task.role ≡ Running → Balanced s (Prints i (Preempt s.clock y.task.number x.task.number))
          swapped x x_member x_fresh y y_member y_runs = omega (
            arith,
            sum_map (placed_after i (Preempt s.clock y.task.number x.task.number)) runs_one s.jobs,
            changed (λ p. runs_one (placed_after i (Preempt s.clock y.task.number x.task.number) p))
                (λ p. runs_one (only y.task.number (λ u. in_role u Held) p)) x x_member
                (λ p m differs. by_other p (eqb p.task.number x.task.number) refl differs),
            ap (λ b. runs_one (cond b (placed_on i x) (only y.task.number (λ u. in_role u Held) x)))
                (eq-eqb x.task.number x.task.number refl),
            off_after (eqb x.task.number y.task.number),
            one_changes (λ u. in_role u Held) y y_member,
            sum_map (only y.task.number (λ u. in_role u Held)) runs_one s.jobs,
            runs_by y Running true y_runs refl,
          ) where
            by_other : (p : Placed) (b : Bool) → eqb p.task.number x.task.number ≡ b
                → (p.task.number ≡ x.task.number → ⊥)
                → runs_one (cond b (placed_on i p) (only y.task.number (λ u. in_role u Held) p))
                ≡ runs_one (only y.task.number (λ u. in_role u Held) p)
            by_other p true e differs = absurd (differs (eqb-true _ _ e))
            by_other p false e differs = refl

            off_after : (b : Bool) → runs_one (cond b (in_role x Held) x) ≡ 0
            off_after true = refl
            off_after false = runs_by x Fresh false x_fresh refl
    deed_balanced m (Taken r x member runs left x_member waits now stale heavy) goes =
        let z = one_seen x Waiting (λ e. cc) waits x_member in
        let y = seen_member i s.jobs r Running (λ e. cc) runs member in
        let mine = seen_own i y.0 (ap is_privileged y.3 ∙ passes is_privileged r Running true runs refl) in
        subst (λ n. Balanced s (Prints i (Take s.clock n x.number))) (ap (λ (u : Task). u.number) y.2)
        (subst (λ n. Balanced s (Prints i (Take s.clock y.0.task.number n))) (ap (λ (u : Task). u.number) z.2)
        (swapped z.0 z.1 z.3 y.0 y.1 (ap (λ (u : Task). u.role) y.2 ∙ runs) mine.1)) where
          swapped : (x : Placed) → IsMember x s.jobs → x.task.role ≡ Waiting → (y : Placed) → IsMember y s.jobs
              → y.task.role ≡ Running → y.owner ≡ i
              → Balanced s (Prints i (Take s.clock y.task.number x.task.number))
          swapped x x_member x_waits y y_member y_runs y_own = omega (
            arith,
            sum_map (placed_after i (Take s.clock y.task.number x.task.number)) runs_one s.jobs,
            changed (λ p. runs_one (placed_after i (Take s.clock y.task.number x.task.number) p))
                (λ p. runs_one (displaced p)) x x_member
                (λ p m differs. by_other p (eqb p.task.number x.task.number) refl differs),
            ap (λ b. runs_one (cond b (placed_on i x) (displaced x))) (eq-eqb x.task.number x.task.number refl),
            off_after (is_own_of i x),
            changed (λ p. runs_one (displaced p)) runs_one y y_member (λ p m differs. by_own p m (is_own_of i p) refl
                (is_running p.task) refl differs),
            y_after (is_own_of i y) y_is_own,
            runs_by y Running true y_runs refl,
          ) where
            displaced : Placed → Placed
            displaced p = cond (is_own_of i p) (in_role p Waiting) p

            by_other : (p : Placed) (b : Bool) → eqb p.task.number x.task.number ≡ b
                → (p.task.number ≡ x.task.number → ⊥)
                → runs_one (cond b (placed_on i p) (displaced p)) ≡ runs_one (displaced p)
            by_other p true e differs = absurd (differs (eqb-true _ _ e))
            by_other p false e differs = refl

            off_after : (b : Bool) → runs_one (cond b (in_role x Waiting) x) ≡ 0
            off_after true = refl
            off_after false = runs_by x Waiting false x_waits refl

            y_is_own : is_own_of i y ≡ true
            y_is_own = ap (λ b. b && eqb y.owner i) (passes is_privileged y.task Running true y_runs refl)
                ∙ eq-eqb y.owner i y_own

            y_after : (b : Bool) → b ≡ true → runs_one (cond b (in_role y Waiting) y) ≡ 0
            y_after true e = refl
            y_after false e = never e

            by_own : (p : Placed) → IsMember p s.jobs → (b : Bool) → is_own_of i p ≡ b → (c : Bool)
                → is_running p.task ≡ c → (p.task.number ≡ y.task.number → ⊥)
                → runs_one (cond b (in_role p Waiting) p) ≡ runs_one p
            by_own p member false e c f differs = refl
            by_own p member true e false f differs = sym (ap one_if f)
            by_own p member true e true f differs =
                let p_own : p.owner ≡ i = eqb-true _ _ (and_parts (is_privileged p.task) (p.owner == i) e).1 in
                let there = (λ (u : Placed) (u_member : IsMember u s.jobs) (u_own : u.owner ≡ i).
                subst (λ t. IsMember t (map (seen_by i) s.jobs)) (own_seen i u u_own)
                (map_member (seen_by i) s.jobs u u_member)) in
                absurd (differs ((keeps.sound i).one_runs p.task y.task (there p member p_own)
                (there y y_member y_own) (is_running_role p.task f) y_runs))

  acts_balanced : (i : ℕ) (gone : Bool) (m : Move) → cases.Acts J.rules.ratio (seen J.rules.version s i) gone m
      → Balanced s m
  acts_balanced i gone m acts = subst (Balanced s) (sym acts.is)
      (deed_balanced i acts.move (deed_of J.rules.ratio J.rules.version (seen_from i s) (single.Prints (End 0))
      (keeps.sound i) (real processors J valid s keeps i) acts.move acts.case) acts.goes_on)

  -- a tick lets the same jobs run
  ticks_balanced : Balanced s Ticks
  ticks_balanced = omega (
    arith,
    sum_map ticked runs_one s.jobs,
    sum_same (λ p. runs_one (ticked p)) runs_one s.jobs (λ p member. by_test p (is_running p.task)),
  ) where
    by_test : (p : Placed) (b : Bool)
        → runs_one (cond b (record { task = with_tick p.task; owner = p.owner }) p) ≡ runs_one p
    by_test p true = refl
    by_test p false = refl

  -- where all jobs are over none runs
  over_none : Each (λ p. is_over p.task ≡ true) s.jobs → busy s ≡ 0
  over_none over = sum_zero runs_one s.jobs (λ p member. by_test p member (is_running p.task) refl) where
    by_test : (p : Placed) → IsMember p s.jobs → (b : Bool) → is_running p.task ≡ b → runs_one p ≡ 0
    by_test p member false e = ap one_if e
    by_test p member true e = never (sym (passes is_over p.task Running false (is_running_role p.task e) refl)
        ∙ over p member)

  case_balanced : (m : Move) → StepCase true J.rules s (all_seen processors J.rules.version s) m
      → (is_end m ≡ true → busy s ≡ 0) × Balanced s m
  case_balanced m (cases.Completed q member t runs finished) =
      let i = which processors J valid some J.rules s keeps q member in
      let x = running_job processors J valid some J.rules s keeps q.processor t
      (subst (λ (r : Seen). r.view.running ≡ Some t) i.0 runs) in (
        λ e. never e,
        subst (λ (u : Task). Balanced s (Prints q.processor (Complete q.view.clock u.number))) x.2
            (omega (arith, one_changes (λ p. in_role p Done) x.0 x.1, runs_by x.0 Running true x.3 refl)),
      )
  case_balanced m (cases.Acted q member n acts going why) =
      let i = which processors J valid some J.rules s keeps q member in (
        λ e. never (sym (ap is_end acts.is ∙ acts_go_on q.processor acts.move acts.goes_on) ∙ e),
        acts_balanced q.processor false m (subst (λ r. cases.Acts J.rules.ratio r false m) i.0 acts),
      )
  case_balanced m (cases.Abandoned q member n acts it going light) =
      let i = which processors J valid some J.rules s keeps q member in (
        λ e. never (sym (ap is_end it.is) ∙ e),
        acts_balanced q.processor true m (subst (λ r. cases.Acts J.rules.ratio r true m) i.0 acts),
      )
  case_balanced m (cases.Ended may over) = (
    λ e. over_none (λ p member. all_each is_over (tasks_of s.jobs) over p.task
        (map_member (λ (u : Placed). u.task) s.jobs p member)),
    omega (arith, sum_map (λ p. p) runs_one s.jobs),
  )
  case_balanced m (cases.Rested quiet unended) = (λ e. never e, ticks_balanced)

  pub step_balanced : (is_end (step processors J.rules s) ≡ true → busy s ≡ 0) × Balanced s (step processors J.rules s)
  step_balanced = case_balanced (step processors J.rules s)
      (step_case J.rules s (all_seen processors J.rules.version s) (each_sees processors J.rules.version s))

-- End is no completion and no run
end_counts : (m : Move) → is_end m ≡ true → (one_if (is_complete m) ≡ 0) × (one_if (is_run m) ≡ 0)
end_counts (Prints q (End value)) e = (refl, refl)
end_counts (Prints q (Run at k)) e = never e
end_counts (Prints q (Preempt at r k)) e = never e
end_counts (Prints q (Take at r k)) e = never e
end_counts (Prints q (Complete at k)) e = never e
end_counts (Prints q (Abandon at k)) e = never e
end_counts (Prints q (Release k job)) e = never e
end_counts (Waits k) e = never e
end_counts Ticks e = never e

module _ (processors : ℕ) (J : Instance) (valid : IsValid J) (some : 1 ≤ processors) where
  balance : (more : ℕ) (s : State) → Keeps processors J s → HasEnd (run_from processors J.rules more s)
      → counted processors J is_complete (run_from processors J.rules more s)
      ≡ busy s + counted processors J is_run (run_from processors J.rules more s)
  balance zero s keeps ends = never ends
  balance (suc more) s keeps ends = by_end (is_end (step_of processors J s)) refl
      (first_counted processors J is_complete more s)
      (first_counted processors J is_run more s)
      (balance more (after s (step_of processors J s)) (step_kept processors J valid some J.rules s keeps)) ends where
        it : (is_end (step_of processors J s) ≡ true → busy s ≡ 0) × Balanced s (step_of processors J s)
        it = step_balanced processors J valid some s keeps

        by_end : (b : Bool) → is_end (step_of processors J s) ≡ b
            → counted processors J is_complete (run_from processors J.rules (suc more) s)
            ≡ one_if (is_complete (step_of processors J s))
            + counted processors J is_complete (others processors J b more s)
            → counted processors J is_run (run_from processors J.rules (suc more) s)
            ≡ one_if (is_run (step_of processors J s)) + counted processors J is_run (others processors J b more s)
            → (HasEnd (run_from processors J.rules more (after s (step_of processors J s)))
            → counted processors J is_complete (run_from processors J.rules more (after s (step_of processors J s)))
            ≡ busy (after s (step_of processors J s))
            + counted processors J is_run (run_from processors J.rules more (after s (step_of processors J s))))
            → (b || list_any (λ x. is_end x.move) (others processors J b more s)) ≡ true
            → counted processors J is_complete (run_from processors J.rules (suc more) s)
            ≡ busy s + counted processors J is_run (run_from processors J.rules (suc more) s)
        by_end true e completes runs later ends = let none = end_counts (step_of processors J s) e in
            omega (arith, completes, runs, none.0, none.1, it.0 e)
        by_end false e completes runs later ends = omega (arith, completes, runs, it.1, later ends)

  -- over a run there are as many of the one as of the other
  pub as_many : counted processors J is_run (run processors J) ≡ counted processors J is_complete (run processors J)
  as_many = omega (
    arith,
    balance (enough J.jobs) (opening J.jobs) (opening_kept processors J)
        (run_ends processors J valid some),
    none_runs,
  ) where
    none_runs : busy (opening J.jobs) ≡ 0
    none_runs = sum_zero runs_one (opening J.jobs).jobs (on_map unplaced (λ p. runs_one p ≡ 0) (to_come 0 J.jobs)
        (λ t member. runs_by (unplaced t) Coming false (come_coming 0 J.jobs t member).0 refl))
