-- Where no tick is in the windows of more jobs than there are processors, no job is lost.
use Rattle.std.proofs.Common.{◌≡◌, ℕ, ◌+◌, ◌≤◌, ◌<◌, ◌⊎◌, inl, inr, List, map, refl, sym, ap, ◌∙◌, subst, Bool, true}
use Rattle.std.proofs.Common.{false}
use Rattle.std.proofs.Common.{cond, arith, eqb, eqb-true, eq-eqb, sum_by, nat_le, nat_lt, ◌&&◌, ◌==◌, le-leb, lt-ltb}
use Rattle.std.proofs.Common.{None, []}
use Rattle.std.specs.List.{count_by}
use Rattle.dover_model.specs.declared.events.Event.{Event}
use Rattle.dover_model.specs.declared.events.Event.TheVariants.{Run, Preempt, Take, Complete, Abandon, End, Release}
use Rattle.dover_model.specs.declared.events.Task.{Task}
use Rattle.dover_model.specs.declared.events.Role.TheVariants.{Coming, Waiting, Running, Done, Gone}
use Rattle.dover_model.specs.JobFacts.{JobFacts}
use Rattle.dover_model.specs.Fraction.{Fraction}
use Rattle.dover_model.specs.State as one_state
use Rattle.dover_model.specs.Underload as underload
use Rattle.dover_model.specs.Underload.{abandons}
use Rattle.dover_model.specs.Common.{Instance, IsValid, is_privileged, is_running, is_done, is_over, IsMember, Each}
use Rattle.dover_model.specs.Common.{one_if, to_come}
use Rattle.dover_model.specs.Step as single
use Rattle.dover_model.proofs.bound.Counting.{one}
use Rattle.dover_model.proofs.lists.Tests.{never}
use Rattle.dover_model.proofs.lists.Members.{map_member, on_map, sum_map, sum_le, sum_plus, sum_same, sum_filter, found}
use Rattle.dover_model.proofs.lists.Members.{term_le_sum, all_each}
use Rattle.dover_model.proofs.steps.Deeds.{Deed, Completed, Resumed, Started, Began, Preempted, Stayed, Arrived, Taken}
use Rattle.dover_model.proofs.steps.Deeds.{Abandoned, Rested, deed_of}
use Rattle.dover_model.proofs.steps.Kept.{come_coming}
use Rattle.dover_model.proofs.steps.Roles.{passes, is_running_role, is_over_role}
use Rattle.many_processors.specs.State.{Placed, State, tasks_of, seen_by, seen_from, opening, unplaced}
use Rattle.many_processors.specs.Step.{Move, Prints, Waits, Ticks, on, Seen, seen, all_seen, numbers_from, step, after}
use Rattle.many_processors.specs.Step.{completion, is_free, placed_after, in_role, ticked, with_tick}
use Rattle.many_processors.specs.Run.{run, enough, completed_value}
use Rattle.many_processors.specs.Sound.{Keeps}
use Rattle.many_processors.specs.Ticks.{FewAtOnce, takes_or_abandons}
use Rattle.dover_model.specs.Windows.{crosses}
use Rattle.many_processors.proofs.books.TickSteps.{serves, running_many}
use Rattle.many_processors.proofs.steps.Seeing.{each_sees, below_numbers, numbers_below}
use Rattle.many_processors.proofs.steps.Cases as cases
use Rattle.many_processors.proofs.steps.Cases.{StepCase, step_case, some_from}
use Rattle.many_processors.proofs.steps.Kept.{job_released}
use Rattle.many_processors.proofs.steps.Placing.{seen_member, seen_own, all_left}
use Rattle.many_processors.proofs.steps.Stepping.{real, same_job, event_task, role_stays, gives_gone}
use Rattle.many_processors.proofs.steps.Turns.{which, of_tasks, opening_kept}
use Rattle.many_processors.proofs.runs.Outcomes.{Outcome, outcome}
use Rattle.many_processors.proofs.runs.RanFor.{count_all}
use Rattle.many_processors.proofs.runs.RunEnds.{run_ends}
use Rattle.many_processors.proofs.runs.Weighing.{fits_in, on_slack, number_count}

-- ---- moves

-- the job of a take or an abandonment waits
waiting_one : (k : Fraction) (s : one_state.State) (m : single.Move) → Deed k s (single.Prints (End 0)) m
    → underload.takes_or_abandons m ≡ true → (x : Task) × IsMember x s.tasks × (x.role ≡ Waiting)
waiting_one k s m (Taken r x member runs some x_member waits now stale heavy) lost = (x, x_member, waits)
waiting_one k s m (Abandoned r x member runs some x_member waits now stale light) lost = (x, x_member, waits)
waiting_one k s m (Completed r member runs) lost = never lost
waiting_one k s m (Resumed p member held none least why) lost = never lost
waiting_one k s m (Started o member waits none first fits next) lost = never lost
waiting_one k s m (Began f member fresh none free) lost = never lost
waiting_one k s m (Preempted r f member runs some f_member fresh before fits) lost = never lost
waiting_one k s m (Stayed r f member runs some f_member fresh why) lost = never lost
waiting_one k s m (Arrived c member comes now first stale busy free) lost = never lost
waiting_one k s m (Rested quiet) lost = never lost

-- what one processor does is a take or an abandonment just where its move is
lost_on : (q : ℕ) (n : single.Move) → takes_or_abandons (on q n) ≡ underload.takes_or_abandons n
lost_on q (single.Prints e) = refl
lost_on q (single.Waits n) = refl
lost_on q single.Ticks = refl

-- a take or an abandonment gives no free processor
lost_no_run : (m : Move) → takes_or_abandons m ≡ true → cases.is_run m ≡ true → ⊥
lost_no_run (Prints q (Run at n)) lost is = never lost
lost_no_run (Prints q (Release n job)) lost is = never is
lost_no_run (Prints q (Preempt at r n)) lost is = never is
lost_no_run (Prints q (Take at r n)) lost is = never is
lost_no_run (Prints q (Complete at n)) lost is = never is
lost_no_run (Prints q (Abandon at n)) lost is = never is
lost_no_run (Prints q (End value)) lost is = never is
lost_no_run (Waits n) lost is = never is
lost_no_run Ticks lost is = never is

-- one of them that is no abandonment is a take
lost_take : (q : ℕ) (n : single.Move) → underload.takes_or_abandons n ≡ true → cases.is_gone n ≡ false
    → cases.is_take (on q n) ≡ true
lost_take q (single.Prints (Take at r n)) lost stays = refl
lost_take q (single.Prints (Abandon at n)) lost stays = never (sym stays)
lost_take q (single.Prints (Run at n)) lost stays = never lost
lost_take q (single.Prints (Release n job)) lost stays = never lost
lost_take q (single.Prints (Preempt at r n)) lost stays = never lost
lost_take q (single.Prints (Complete at n)) lost stays = never lost
lost_take q (single.Prints (End value)) lost stays = never lost
lost_take q (single.Waits n) lost stays = never lost
lost_take q single.Ticks lost stays = never lost

-- an abandonment is one of them
gone_lost : (n : single.Move) → cases.is_gone n ≡ true → underload.takes_or_abandons n ≡ true
gone_lost (single.Prints (Abandon at n)) is = refl
gone_lost (single.Prints (Take at r n)) is = never is
gone_lost (single.Prints (Run at n)) is = never is
gone_lost (single.Prints (Release n job)) is = never is
gone_lost (single.Prints (Preempt at r n)) is = never is
gone_lost (single.Prints (Complete at n)) is = never is
gone_lost (single.Prints (End value)) is = never is
gone_lost (single.Waits n) is = never is
gone_lost single.Ticks is = never is

-- ---- a state

module _ (processors : ℕ) (J : Instance) (valid : IsValid J) (some : 1 ≤ processors) (few : FewAtOnce processors J)
    (s : State) (keeps : Keeps processors J s) where
  abbrev all : List Seen
  all = all_seen processors J.rules.version s

  both_true : (a b : Bool) → a ≡ true → b ≡ true → (a && b) ≡ true
  both_true true true e f = refl
  both_true true false e f = never f
  both_true false b e f = never e

  module _ (busy : Each (λ o. is_free o ≡ false) all) (going : Each (λ o. completion o ≡ None) all) where
    -- a job runs on each processor
    runs_one : (q : ℕ) → q < processors → (p : Placed) × IsMember p s.jobs × (serves q p ≡ true)
    runs_one q low =
        let here : IsMember (seen J.rules.version s q) all = map_member (seen J.rules.version s)
        (numbers_from 0 processors) q (below_numbers q 0 processors (omega arith) (omega (arith, low))) in
        let t = some_from (seen J.rules.version s q).view.running (busy (seen J.rules.version s q) here) in
        let it = found is_running (map (seen_by q) s.jobs) t.0 t.1 in
        let x = seen_member q s.jobs t.0 Running (λ e. cc) (is_running_role t.0 it.1) it.0 in
        let own = seen_own q x.0 (ap is_privileged x.3
        ∙ passes is_privileged t.0 Running true (is_running_role t.0 it.1) refl) in
        (x.0, x.1, both_true (is_running x.0.task) (x.0.owner == q) (ap is_running x.2 ∙ it.1) (eq-eqb _ _ own.1))

    -- so there are as many as processors
    runs_many : processors ≤ sum_by (λ p. one (is_running p.task)) s.jobs
    runs_many = omega (
      arith,
      count_all 0 processors,
      running_many (λ (j : ℕ). 1) s.jobs 0 processors
          (λ j member. let x = runs_one j (omega (arith, (numbers_below j 0 processors member).1)) in
          omega (arith, term_le_sum (λ p. one (serves j p)) s.jobs x.0 x.1, ap one x.2)),
    )

    -- each of them has the tick in its window
    module _ (x : Placed) (x_member : IsMember x s.jobs) (waits : x.task.role ≡ Waiting) where
      in_window : (p : Placed) → p.task.job.release ≤ s.clock → s.clock < p.task.job.deadline
          → crosses s.clock p.task.job ≡ true
      in_window p come before = both_true (nat_le p.task.job.release s.clock) (nat_lt s.clock p.task.job.deadline)
          (le-leb _ _ come) (lt-ltb _ _ before)

      x_crosses : crosses s.clock x.task.job ≡ true
      x_crosses = let fits = fits_in processors J s keeps Waiting x x_member waits in
          in_window x fits.1 (omega (arith, fits.0, fits.2))

      run_crosses : (p : Placed) → IsMember p s.jobs → is_running p.task ≡ true → crosses s.clock p.task.job ≡ true
      run_crosses p member runs =
          let role : p.task.role ≡ Running = is_running_role p.task runs in
          let is_on : is_privileged p.task ≡ true = passes is_privileged p.task Running true role refl in
          in_window p (job_released s keeps.sound p member
          (λ e. absurd (let f : Coming ≡ Running = sym e ∙ role in cc)))
          (omega (
            arith,
            on_slack processors J s keeps p member is_on,
            all_left processors s J.rules.version keeps.sound keeps.placed going p member is_on,
          ))

      is_x : (p : Placed) → IsMember p s.jobs → eqb p.task.number x.task.number ≡ true → p ≡ x
      is_x p member same = same_job processors J valid s keeps p x member x_member (eqb-true _ _ same)

      each_counts : Each (λ p. one (is_running p.task) + one_if (eqb p.task.number x.task.number)
          ≤ one (crosses s.clock p.task.job)) s.jobs
      each_counts p member = by_tests (is_running p.task) (eqb p.task.number x.task.number) refl refl where
        by_tests : (a b : Bool) → is_running p.task ≡ a → eqb p.task.number x.task.number ≡ b
            → one a + one_if b ≤ one (crosses s.clock p.task.job)
        by_tests true true runs same = absurd (let f : Waiting ≡ Running =
            sym waits ∙ sym (ap (λ (u : Placed). u.task.role) (is_x p member same)) ∙ is_running_role p.task runs in cc)
        by_tests true false runs other = omega (arith, ap one (run_crosses p member runs))
        by_tests false true stands same =
            omega (arith, ap one (ap (λ (u : Placed). crosses s.clock u.task.job) (is_x p member same) ∙ x_crosses))
        by_tests false false stands other = omega arith

      -- which is one job too many
      crowded : ⊥
      crowded = omega (
        arith,
        few s.clock,
        runs_many,
        number_count processors J s keeps x x_member,
        sum_plus (λ (p : Placed). one (is_running p.task)) (λ p. one_if (eqb p.task.number x.task.number)) s.jobs,
        sum_le (λ p. one (is_running p.task) + one_if (eqb p.task.number x.task.number))
            (λ p. one (crosses s.clock p.task.job)) s.jobs each_counts,
        ap (count_by (crosses s.clock)) keeps.jobs,
        sum_map (λ (t : Task). t.job) (λ j. one (crosses s.clock j)) (tasks_of s.jobs),
        sum_map (λ (p : Placed). p.task) (λ t. one (crosses s.clock t.job)) s.jobs,
      )

  -- what is lost waits on each processor
  lost_waits : (i : ℕ) (gone : Bool) (m : Move) (acts : cases.Acts J.rules.ratio (seen J.rules.version s i) gone m)
      → underload.takes_or_abandons acts.move ≡ true
      → (x : Placed) × IsMember x s.jobs × (x.task.role ≡ Waiting)
  lost_waits i gone m acts lost =
      let t = waiting_one J.rules.ratio (seen_from i s) acts.move
      (deed_of J.rules.ratio J.rules.version (seen_from i s) (single.Prints (End 0)) (keeps.sound i)
      (real processors J valid s keeps i) acts.move acts.case) lost in
      let x = seen_member i s.jobs t.0 Waiting (λ e. cc) t.2 t.1 in
      (x.0, x.1, ap (λ (u : Task). u.role) x.2 ∙ t.2)

  -- no step loses a job
  by_case : (m : Move) → StepCase true J.rules s all m → takes_or_abandons m ≡ false
  by_case m (cases.Completed q member t runs finished) = refl
  by_case m (cases.Acted q member n acts going decided) = by_test (takes_or_abandons m) refl where
    i : (q ≡ seen J.rules.version s q.processor) × (q.processor < processors)
    i = which processors J valid some J.rules s keeps q member

    own : cases.Acts J.rules.ratio (seen J.rules.version s q.processor) false m
    own = subst (λ r. cases.Acts J.rules.ratio r false m) i.0 acts

    none_free : underload.takes_or_abandons own.move ≡ true → takes_or_abandons m ≡ true
        → cases.IsDecided J.rules q all m → Each (λ o. is_free o ≡ false) all
    none_free moved lost (inl runs) = absurd (lost_no_run m lost runs)
    none_free moved lost (inr (calm, inl no_take)) =
        never (sym no_take ∙ ap cases.is_take own.is ∙ lost_take q.processor own.move moved own.kind)
    none_free moved lost (inr (calm, inr least)) = λ o o_member. (least o o_member).0

    by_test : (b : Bool) → takes_or_abandons m ≡ b → takes_or_abandons m ≡ false
    by_test false e = e
    by_test true e =
        let moved : underload.takes_or_abandons own.move ≡ true =
        sym (lost_on q.processor own.move) ∙ sym (ap takes_or_abandons own.is) ∙ e in
        let x = lost_waits q.processor false m own moved in
        absurd (crowded (none_free moved e decided) going x.0 x.1 x.2)
  by_case m (cases.Abandoned q member n acts it going light) =
      let i = which processors J valid some J.rules s keeps q member in
      let own = subst (λ r. cases.Acts J.rules.ratio r true m) i.0 acts in
      let x = lost_waits q.processor true m own (gone_lost own.move own.kind) in
      absurd (crowded (λ o o_member. (light o o_member).0) going x.0 x.1 x.2)
  by_case m (cases.Ended may over) = refl
  by_case m (cases.Rested quiet unended) = refl

  pub step_keeps_all : takes_or_abandons (step processors J.rules s) ≡ false
  step_keeps_all = by_case (step processors J.rules s)
      (step_case J.rules s all (each_sees processors J.rules.version s))

  -- and none is gone behind a step
  abbrev NoneGone : List Placed → Type 0
  NoneGone jobs = Each (λ p. p.task.role ≡ Gone → ⊥) jobs

  none_goes : (m : Move) → takes_or_abandons m ≡ false → NoneGone s.jobs → NoneGone (after s m).jobs
  none_goes (Prints q e) kept none = on_map (placed_after q e) (λ p. p.task.role ≡ Gone → ⊥) s.jobs
      (λ p member gone. none p member (role_stays e p.task (placed_after q e p).task Gone (event_task q e p)
      (gives_gone e p.task (no_abandon e kept)) gone)) where
        no_abandon : (e : Event) → underload.takes_or_abandons (single.Prints e) ≡ false
            → abandons (single.Prints e) ≡ false
        no_abandon (Abandon at n) h = never (sym h)
        no_abandon (Take at r n) h = refl
        no_abandon (Run at n) h = refl
        no_abandon (Release n job) h = refl
        no_abandon (Preempt at r n) h = refl
        no_abandon (Complete at n) h = refl
        no_abandon (End value) h = refl
  none_goes (Waits n) kept none = on_map (λ p. cond (eqb p.task.number n) (in_role p Waiting) p)
      (λ p. p.task.role ≡ Gone → ⊥) s.jobs (λ p member. by_test p member (eqb p.task.number n)) where
        by_test : (p : Placed) → IsMember p s.jobs → (b : Bool) → (cond b (in_role p Waiting) p).task.role ≡ Gone → ⊥
        by_test p member true gone = let f : Waiting ≡ Gone = gone in cc
        by_test p member false gone = none p member gone
  none_goes Ticks kept none = on_map ticked (λ p. p.task.role ≡ Gone → ⊥) s.jobs
      (λ p member. by_test p member (is_running p.task)) where
        by_test : (p : Placed) → IsMember p s.jobs → (b : Bool)
            → (cond b (record { task = with_tick p.task; owner = p.owner }) p).task.role ≡ Gone → ⊥
        by_test p member true gone = none p member gone
        by_test p member false gone = none p member gone

-- ---- the run

module _ (processors : ℕ) (J : Instance) (valid : IsValid J) (some : 1
    ≤ processors) (few : FewAtOnce processors J) where
  at_end : Outcome processors J (λ past s. Each (λ p. p.task.role ≡ Gone → ⊥) s.jobs) [] (run processors J)
  at_end = outcome processors some J valid (λ past s. Each (λ p. p.task.role ≡ Gone → ⊥) s.jobs)
      (λ past s keeps none. none_goes processors J valid some few s keeps (step processors J.rules s)
      (step_keeps_all processors J valid some few s keeps) none)
      (enough J.jobs) (opening J.jobs) [] (opening_kept processors J)
      (on_map unplaced (λ p. p.task.role ≡ Gone → ⊥) (to_come 0 J.jobs)
      (λ t member gone. let f : Coming ≡ Gone = sym (come_coming 0 J.jobs t member).0 ∙ gone in cc))
      (run_ends processors J valid some)

  -- the run completes all that there is
  pub all_completed : completed_value processors J ≡ sum_by (λ j. j.value) J.jobs
  all_completed = at_end.value ∙ sum_filter is_done (λ t. t.job.value) (tasks_of at_end.last.jobs)
      ∙ sum_same (λ t. cond (is_done t) t.job.value 0) (λ t. t.job.value) (tasks_of at_end.last.jobs)
      (λ t member. ap (λ b. cond b t.job.value 0) (is_done_one t member))
      ∙ sym (sum_map (λ (t : Task). t.job) (λ j. j.value) (tasks_of at_end.last.jobs))
      ∙ ap (sum_by (λ (j : JobFacts). j.value)) at_end.keeps.jobs where
        is_done_one : (t : Task) → IsMember t (tasks_of at_end.last.jobs) → is_done t ≡ true
        is_done_one t member =
            by_role (is_over_role t (all_each is_over (tasks_of at_end.last.jobs) at_end.over t member)) where
              by_role : (t.role ≡ Done) ⊎ (t.role ≡ Gone) → is_done t ≡ true
              by_role (inl e) = passes is_done t Done true e refl
              by_role (inr e) = let p = of_tasks at_end.last.jobs t member in
                  absurd (at_end.holds p.0 p.1 (ap (λ (u : Task). u.role) p.2 ∙ e))
