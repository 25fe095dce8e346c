-- Over a run a job preempts once at most, and takes a processor once at most.
use Rattle.std.proofs.Common.{◌≡◌, ℕ, suc, zero, ◌+◌, ◌≤◌, ◌<◌, ◌⊎◌, inl, inr, List, map, refl, sym, ap, ◌∙◌, subst}
use Rattle.std.proofs.Common.{Bool, true, false, cond, arith, eqb, eqb-true, eq-eqb}
use Rattle.std.proofs.lemmas.Bool.{false_from_ne_true, eqb-false}
use Rattle.dover_model.specs.declared.events.Event.{Event}
use Rattle.dover_model.specs.declared.events.Event.TheVariants.{Run, Preempt, Take, Complete, Abandon, End, Release}
use Rattle.dover_model.specs.declared.events.Role.{Role}
use Rattle.dover_model.specs.declared.events.Role.TheVariants.{Coming, Fresh, Waiting, Held, Running, Done, Gone}
use Rattle.dover_model.specs.declared.events.Task.{Task}
use Rattle.dover_model.specs.Common.{Instance, IsValid, IsMember, Each, one_if, IsHeavy, last_deadline, latest_start}
use Rattle.dover_model.specs.Step as single
use Rattle.dover_model.proofs.bound.Calculus.{heavy_more}
use Rattle.dover_model.proofs.lists.Members.{on_map}
use Rattle.dover_model.proofs.lists.Tests.{never}
use Rattle.dover_model.proofs.steps.Deeds.{Deed, Completed, Resumed, Started, Began, Preempted, Stayed, Arrived}
use Rattle.dover_model.proofs.steps.Deeds.{Taken, Abandoned, Rested, deed_of}
use Rattle.many_processors.specs.State.{Placed, State, seen_by, seen_from, opening}
use Rattle.many_processors.specs.Step.{Move, Prints, Waits, Ticks, on, seen, all_seen, step, after, placed_after}
use Rattle.many_processors.specs.Step.{in_role, placed_on, ticked, is_own_of}
use Rattle.many_processors.specs.Run as many
use Rattle.many_processors.specs.Run.{run_from, run, enough, is_end}
use Rattle.many_processors.specs.Sound.{Keeps}
use Rattle.many_processors.specs.Ticks.{is_preempt_of, is_take_of}
use Rattle.many_processors.proofs.books.Booked.{own_sum, value_of, seen_value}
use Rattle.many_processors.proofs.books.TickSteps.{tick_plain}
use Rattle.many_processors.proofs.runs.EachStep.{counted, step_of, others, first_counted}
use Rattle.many_processors.proofs.runs.RunEnds.{opening_lasts, step_down}
use Rattle.many_processors.proofs.runs.Weighing.{Lasting, SpentIn, IsSpent, spent_as}
use Rattle.many_processors.proofs.steps.Cases as cases
use Rattle.many_processors.proofs.steps.Cases.{StepCase, step_case}
use Rattle.many_processors.proofs.steps.Placing.{seen_member}
use Rattle.many_processors.proofs.steps.Seeing.{each_sees}
use Rattle.many_processors.proofs.steps.Stepping.{real, event_task, Gives, same_job}
use Rattle.many_processors.proofs.steps.Turns.{which, step_kept, opening_kept}

-- the job isn't decided on: it is to come, or fresh
abbrev is_early : Role → Bool
is_early Coming = true
is_early Fresh = true
is_early _ = false

-- the job of number n is decided on
abbrev IsDecided : ℕ → State → Type 0
IsDecided n s = Each (λ p. p.task.number ≡ n → is_early p.task.role ≡ false) s.jobs

-- the number of the job that an event releases is none of these
abbrev ReleasesNone : ℕ → Move → Type 0
ReleasesNone n (Prints q (Release k job)) = n ≡ k → ⊥
ReleasesNone n _ = Unit {0}

-- an event other than its release gives a job no early role
gives_late : (e : Event) (q n : ℕ) (t : Task) (role : Role) → ReleasesNone n (Prints q e) → t.number ≡ n
    → Gives e t role → is_early role ≡ false
gives_late (Release k job) q n t role other same gives = absurd (other (sym same ∙ gives.0))
gives_late (Run at k) q n t role other same gives = ap is_early gives.1
gives_late (Preempt at r k) q n t role other same (inl gives) = ap is_early gives.1
gives_late (Preempt at r k) q n t role other same (inr gives) = ap is_early gives.1
gives_late (Take at r k) q n t role other same (inl gives) = ap is_early gives.1
gives_late (Take at r k) q n t role other same (inr gives) = ap is_early gives
gives_late (Complete at k) q n t role other same gives = ap is_early gives.1
gives_late (Abandon at k) q n t role other same gives = ap is_early gives.1
gives_late (End value) q n t role other same gives = absurd gives

-- so a job that is decided on stays so
stays_decided : (n : ℕ) (s : State) (m : Move) → ReleasesNone n m → IsDecided n s → IsDecided n (after s m)
stays_decided n s (Prints q e) other decided = on_map (placed_after q e)
    (λ p. p.task.number ≡ n → is_early p.task.role ≡ false) s.jobs (λ p member same.
    let it = event_task q e p in
    let number : p.task.number ≡ n = sym (ap (λ (t : Task). t.number) it.1) ∙ same in
    ap (λ (t : Task). is_early t.role) it.1
    ∙ by_role p member number it.0 it.2) where
      by_role : (p : Placed) → IsMember p s.jobs → p.task.number ≡ n → (role : Role)
          → (role ≡ p.task.role) ⊎ Gives e p.task role → is_early role ≡ false
      by_role p member number role (inl e) = ap is_early e ∙ decided p member number
      by_role p member number role (inr gives) = gives_late e q n p.task role other number gives
stays_decided n s (Waits k) other decided = on_map (λ p. cond (eqb p.task.number k) (in_role p Waiting) p)
    (λ p. p.task.number ≡ n → is_early p.task.role ≡ false) s.jobs (λ p member. by_test p (eqb p.task.number k)
    (decided p member)) where
      by_test : (p : Placed) (b : Bool) → (p.task.number ≡ n → is_early p.task.role ≡ false)
          → (cond b (in_role p Waiting) p).task.number ≡ n → is_early (cond b (in_role p Waiting) p).task.role ≡ false
      by_test p true known same = refl
      by_test p false known same = known same
stays_decided n s Ticks other decided = on_map ticked (λ p. p.task.number ≡ n → is_early p.task.role ≡ false) s.jobs
    (λ p member same. ap is_early (tick_plain p).2 ∙ decided p member (sym (tick_plain p).0 ∙ same))

module _ (processors : ℕ) (J : Instance) (valid : IsValid J) (some : 1 ≤ processors) (n : ℕ) (s : State)
    (keeps : Keeps processors J s) where
  -- a job that some processor sees in an early role
  early_seen : (i : ℕ) (t : Task) → IsMember t (map (seen_by i) s.jobs) → (role : Role) → t.role ≡ role → t.number ≡ n
      → is_early role ≡ true → IsDecided n s → ⊥
  early_seen i t member role e same early decided = by_role role e early where
    found_at : (r : Role) → (r ≡ Done → ⊥) → t.role ≡ r → is_early r ≡ true → ⊥
    found_at r other e early =
        let x = seen_member i s.jobs t r other e member in
        never (sym (decided x.0 x.1 (ap (λ (u : Task). u.number) x.2 ∙ same))
        ∙ ap (λ (u : Task). is_early u.role) x.2 ∙ ap is_early e ∙ early)

    by_role : (r : Role) → t.role ≡ r → is_early r ≡ true → ⊥
    by_role Coming e early = found_at Coming (λ d. cc) e early
    by_role Fresh e early = found_at Fresh (λ d. cc) e early
    by_role Waiting e early = never early
    by_role Held e early = never early
    by_role Running e early = never early
    by_role Done e early = never early
    by_role Gone e early = never early

  -- who preempts isn't decided on, and no deed releases a job that is
  deed_early : (i : ℕ) (m : single.Move) → Deed J.rules.ratio (seen_from i s) (single.Prints (End 0)) m → IsDecided n s
      → ReleasesNone n (on i m) × (is_preempt_of n (on i m) ≡ true → ⊥)
  deed_early i m (Completed r member runs) decided = (tt, λ e. never e)
  deed_early i m (Resumed p member held none least why) decided = (tt, λ e. never e)
  deed_early i m (Started o member waits none first fits next) decided = (tt, λ e. never e)
  deed_early i m (Began f member fresh none free) decided = (tt, λ e. never e)
  deed_early i m (Preempted r f member runs left f_member fresh before fits) decided =
      (tt, λ e. early_seen i f f_member Fresh fresh (eqb-true _ _ e) refl decided)
  deed_early i m (Stayed r f member runs left f_member fresh why) decided = (tt, λ e. never e)
  deed_early i m (Arrived c member comes now first stale busy free) decided =
      (λ e. early_seen i c member Coming comes (sym e) refl decided, λ e. never e)
  deed_early i m (Taken r x member runs left x_member waits now stale heavy) decided = (tt, λ e. never e)
  deed_early i m (Abandoned r x member runs left x_member waits now stale light) decided = (tt, λ e. never e)
  deed_early i m (Rested quiet) decided = (tt, λ e. never e)

  acts_early : (i : ℕ) (gone : Bool) (m : Move) → cases.Acts J.rules.ratio (seen J.rules.version s i) gone m
      → IsDecided n s → ReleasesNone n m × (is_preempt_of n m ≡ true → ⊥)
  acts_early i gone m acts decided = subst (λ m. ReleasesNone n m × (is_preempt_of n m ≡ true → ⊥)) (sym acts.is)
      (deed_early i acts.move (deed_of J.rules.ratio J.rules.version (seen_from i s) (single.Prints (End 0))
      (keeps.sound i) (real processors J valid s keeps i) acts.move acts.case) decided)

  -- so it is with every step
  case_early : (m : Move) → StepCase true J.rules s (all_seen processors J.rules.version s) m → IsDecided n s
      → ReleasesNone n m × (is_preempt_of n m ≡ true → ⊥)
  case_early m (cases.Completed q member t runs finished) decided = (tt, λ e. never e)
  case_early m (cases.Acted q member n acts going why) decided =
      let i = which processors J valid some J.rules s keeps q member in
      acts_early q.processor false m (subst (λ r. cases.Acts J.rules.ratio r false m) i.0 acts) decided
  case_early m (cases.Abandoned q member n acts it going light) decided =
      let i = which processors J valid some J.rules s keeps q member in
      acts_early q.processor true m (subst (λ r. cases.Acts J.rules.ratio r true m) i.0 acts) decided
  case_early m (cases.Ended may over) decided = (tt, λ e. never e)
  case_early m (cases.Rested quiet unended) decided = (tt, λ e. never e)

  step_early : IsDecided n s → ReleasesNone n (step processors J.rules s)
      × (is_preempt_of n (step processors J.rules s) ≡ true → ⊥)
  step_early = case_early (step processors J.rules s)
      (step_case J.rules s (all_seen processors J.rules.version s) (each_sees processors J.rules.version s))

-- behind its preemption a job is decided on
preempt_decides : (n : ℕ) (s : State) (m : Move) → is_preempt_of n m ≡ true → IsDecided n (after s m)
preempt_decides n s (Prints q (Preempt at r k)) e = on_map (placed_after q (Preempt at r k))
    (λ p. p.task.number ≡ n → is_early p.task.role ≡ false) s.jobs (λ p member same.
    let it = event_task q (Preempt at r k) p in
    let number : p.task.number ≡ k = sym (ap (λ (t : Task). t.number) it.1) ∙ same ∙ sym (eqb-true _ _ e) in
    ap (λ b. is_early (cond b (placed_on q p) (cond (eqb p.task.number r) (in_role p Held) p)).task.role)
    (eq-eqb p.task.number k number))
preempt_decides n s (Prints q (Run at k)) e = never e
preempt_decides n s (Prints q (Take at r k)) e = never e
preempt_decides n s (Prints q (Complete at k)) e = never e
preempt_decides n s (Prints q (Abandon at k)) e = never e
preempt_decides n s (Prints q (Release k job)) e = never e
preempt_decides n s (Prints q (End value)) e = never e
preempt_decides n s (Waits k) e = never e
preempt_decides n s Ticks e = never e

module _ (processors : ℕ) (J : Instance) (valid : IsValid J) (some : 1 ≤ processors) (n : ℕ) where
  -- so many are preemptions by it
  abbrev preempts_in : List many.Step → ℕ
  preempts_in xs = counted processors J (is_preempt_of n) xs

  -- a job that is decided on preempts no more
  none_more : (more : ℕ) (s : State) → Keeps processors J s → IsDecided n s
      → preempts_in (run_from processors J.rules more s) ≡ 0
  none_more zero s keeps decided = refl
  none_more (suc more) s keeps decided =
      let it = step_early processors J valid some n s keeps decided in
      let none : one_if (is_preempt_of n (step_of processors J s)) ≡ 0 =
      ap one_if (false_from_ne_true (is_preempt_of n (step_of processors J s)) it.1) in
      omega (
        arith,
        first_counted processors J (is_preempt_of n) more s,
        none,
        by_end (is_end (step_of processors J s))
            (none_more more (after s (step_of processors J s)) (step_kept processors J valid some J.rules s keeps)
            (stays_decided n s (step_of processors J s) it.0 decided)),
      ) where
        by_end : (b : Bool) → preempts_in (run_from processors J.rules more (after s (step_of processors J s))) ≡ 0
            → preempts_in (others processors J b more s) ≡ 0
        by_end true rest = refl
        by_end false rest = rest

  once : (more : ℕ) (s : State) → Keeps processors J s → preempts_in (run_from processors J.rules more s) ≤ 1
  once zero s keeps = omega arith
  once (suc more) s keeps = by_test (is_preempt_of n (step_of processors J s)) refl
      (first_counted processors J (is_preempt_of n) more s)
      (by_end (is_end (step_of processors J s)) (once more (after s (step_of processors J s)) next)) where
        next : Keeps processors J (after s (step_of processors J s))
        next = step_kept processors J valid some J.rules s keeps

        by_end : (b : Bool) → preempts_in (run_from processors J.rules more (after s (step_of processors J s))) ≤ 1
            → preempts_in (others processors J b more s) ≤ 1
        by_end true rest = omega arith
        by_end false rest = rest

        no_more : (b : Bool) → is_preempt_of n (step_of processors J s) ≡ true
            → preempts_in (others processors J b more s) ≡ 0
        no_more true e = refl
        no_more false e = none_more more (after s (step_of processors J s)) next
            (preempt_decides n s (step_of processors J s) e)

        by_test : (b : Bool) → is_preempt_of n (step_of processors J s) ≡ b
            → preempts_in (run_from processors J.rules (suc more) s)
            ≡ one_if b + preempts_in (others processors J (is_end (step_of processors J s)) more s)
            → preempts_in (others processors J (is_end (step_of processors J s)) more s) ≤ 1
            → preempts_in (run_from processors J.rules (suc more) s) ≤ 1
        by_test true e all low = omega (arith, all, no_more (is_end (step_of processors J s)) e)
        by_test false e all low = omega (arith, all, low)

  -- a job preempts once at most
  pub preempts_once : preempts_in (run processors J) ≤ 1
  preempts_once = once (enough J.jobs) (opening J.jobs) (opening_kept processors J)

-- ---- takes

module _ (processors : ℕ) (J : Instance) (valid : IsValid J) (some : 1 ≤ processors) (n : ℕ) (s : State)
    (keeps : Keeps processors J s) (w : ℕ) (it : Lasting J.rules.finishes processors s w) where
  -- a job that can take no more takes none, and who has taken can take no more
  abbrev TakesLast : Move → Type 0
  TakesLast m = is_take_of n m ≡ true → (IsSpent n s w → ⊥) × ((more : ℕ) → IsSpent n (after s m) more)

  deed_last : (i : ℕ) → i < processors → (m : single.Move)
      → Deed J.rules.ratio (seen_from i s) (single.Prints (End 0)) m → TakesLast (on i m)
  deed_last i low m (Completed r member runs) e = never e
  deed_last i low m (Resumed p member held none least why) e = never e
  deed_last i low m (Started o member waits none first fits next) e = never e
  deed_last i low m (Began f member fresh none free) e = never e
  deed_last i low m (Preempted r f member runs left f_member fresh before fits) e = never e
  deed_last i low m (Stayed r f member runs left f_member fresh why) e = never e
  deed_last i low m (Arrived c member comes now first stale busy free) e = never e
  deed_last i low m (Taken r x member runs left x_member waits now stale heavy) e = (not_spent, taken) where
    z : (u : Placed) × IsMember u s.jobs × (u.task ≡ x) × (seen_by i u ≡ x)
    z = seen_member i s.jobs x Waiting (λ e. cc) waits x_member

    is_n : x.number ≡ n
    is_n = eqb-true _ _ e

    more : own_sum i value_of s.jobs < x.job.value
    more = heavy_more J.rules.ratio x.job.value (own_sum i value_of s.jobs)
        (subst (IsHeavy J.rules.ratio x.job.value) (seen_value s i) heavy)

    not_spent : IsSpent n s w → ⊥
    not_spent spent =
        let late = spent_as s.clock w z.0.task Waiting (ap (λ (u : Task). u.role) z.2 ∙ waits)
        (spent z.0 z.1 (ap (λ (u : Task). u.number) z.2 ∙ is_n)) in
        omega (arith, more, late.1, it.low i low, ap (λ (u : Task). u.job.value) z.2)

    taken : (v : ℕ) → IsSpent n (after s (Prints i (Take s.clock r.number x.number))) v
    taken v = on_map (placed_after i (Take s.clock r.number x.number))
        (λ p. p.task.number ≡ n → SpentIn p.task.role s.clock v p.task) s.jobs
        (λ p p_member. by_test p p_member (eqb p.task.number x.number) (is_own_of i p) refl) where
          by_test : (p : Placed) → IsMember p s.jobs → (b c : Bool) → eqb p.task.number x.number ≡ b
              → (cond b (placed_on i p) (cond c (in_role p Waiting) p)).task.number ≡ n
              → SpentIn (cond b (placed_on i p) (cond c (in_role p Waiting) p)).task.role s.clock v
              (cond b (placed_on i p) (cond c (in_role p Waiting) p)).task
          by_test p p_member true c f same =
              let is_z : p ≡ z.0 = same_job processors J valid s keeps p z.0 p_member z.1
              (eqb-true _ _ f ∙ sym (ap (λ (u : Task). u.number) z.2)) in
              omega (arith, ap (λ (u : Placed). latest_start u.task) is_z, ap latest_start z.2, now)
          by_test p p_member false true f same = absurd (eqb-false _ _ f (same ∙ sym is_n))
          by_test p p_member false false f same = absurd (eqb-false _ _ f (same ∙ sym is_n))
  deed_last i low m (Abandoned r x member runs left x_member waits now stale light) e = never e
  deed_last i low m (Rested quiet) e = never e

  acts_last : (i : ℕ) → i < processors → (gone : Bool) (m : Move)
      → cases.Acts J.rules.ratio (seen J.rules.version s i) gone m → TakesLast m
  acts_last i low gone m acts = subst TakesLast (sym acts.is)
      (deed_last i low acts.move (deed_of J.rules.ratio J.rules.version (seen_from i s) (single.Prints (End 0))
      (keeps.sound i) (real processors J valid s keeps i) acts.move acts.case))

  case_last : (m : Move) → StepCase true J.rules s (all_seen processors J.rules.version s) m → TakesLast m
  case_last m (cases.Completed q member t runs finished) = λ e. never e
  case_last m (cases.Acted q member k acts going why) =
      let i = which processors J valid some J.rules s keeps q member in
      acts_last q.processor i.1 false m (subst (λ r. cases.Acts J.rules.ratio r false m) i.0 acts)
  case_last m (cases.Abandoned q member k acts goes going light) =
      let i = which processors J valid some J.rules s keeps q member in
      acts_last q.processor i.1 true m (subst (λ r. cases.Acts J.rules.ratio r true m) i.0 acts)
  case_last m (cases.Ended may over) = λ e. never e
  case_last m (cases.Rested quiet unended) = λ e. never e

  step_last : TakesLast (step processors J.rules s)
  step_last = case_last (step processors J.rules s)
      (step_case J.rules s (all_seen processors J.rules.version s) (each_sees processors J.rules.version s))

module _ (processors : ℕ) (J : Instance) (valid : IsValid J) (some : 1 ≤ processors) (n : ℕ) where
  -- so many are takes by it
  abbrev takes_in : List many.Step → ℕ
  takes_in xs = counted processors J (is_take_of n) xs

  -- a job that can take no more takes no more
  no_takes : (more : ℕ) (s : State) (w : ℕ) → Keeps processors J s → Lasting J.rules.finishes processors s w
      → IsSpent n s w → takes_in (run_from processors J.rules more s) ≡ 0
  no_takes zero s w keeps it spent = refl
  no_takes (suc more) s w keeps it spent = omega (
    arith,
    first_counted processors J (is_take_of n) more s,
    ap one_if (false_from_ne_true (is_take_of n (step_of processors J s))
        (λ e. (step_last processors J valid some n s keeps w it e).0 spent)),
    by_end (is_end (step_of processors J s)) refl (no_takes more (after s (step_of processors J s))),
  ) where
    by_end : (b : Bool) → is_end (step_of processors J s) ≡ b
        → ((v : ℕ) → Keeps processors J (after s (step_of processors J s))
        → Lasting J.rules.finishes processors (after s (step_of processors J s)) v
        → IsSpent n (after s (step_of processors J s)) v
        → takes_in (run_from processors J.rules more (after s (step_of processors J s))) ≡ 0)
        → takes_in (others processors J b more s) ≡ 0
    by_end true e rest = refl
    by_end false e rest =
        let d = step_down processors J valid some s keeps w it (last_deadline J.jobs) (omega arith) e in
        rest d.0 (step_kept processors J valid some J.rules s keeps) d.1 (d.3 n spent)

  once_taken : (more : ℕ) (s : State) (w : ℕ) → Keeps processors J s → Lasting J.rules.finishes processors s w
      → takes_in (run_from processors J.rules more s) ≤ 1
  once_taken zero s w keeps it = omega arith
  once_taken (suc more) s w keeps it = by_test (is_take_of n (step_of processors J s)) refl
      (is_end (step_of processors J s)) refl (first_counted processors J (is_take_of n) more s)
      (once_taken more (after s (step_of processors J s))) where
        next : Keeps processors J (after s (step_of processors J s))
        next = step_kept processors J valid some J.rules s keeps

        by_test : (b : Bool) → is_take_of n (step_of processors J s) ≡ b
            → (c : Bool) → is_end (step_of processors J s) ≡ c
            → takes_in (run_from processors J.rules (suc more) s) ≡ one_if b + takes_in (others processors J c more s)
            → ((v : ℕ) → Keeps processors J (after s (step_of processors J s))
            → Lasting J.rules.finishes processors (after s (step_of processors J s)) v
            → takes_in (run_from processors J.rules more (after s (step_of processors J s))) ≤ 1)
            → takes_in (run_from processors J.rules (suc more) s) ≤ 1
        by_test true e true f all rest = omega (arith, all)
        by_test false e true f all rest = omega (arith, all)
        by_test true e false f all rest =
            let d = step_down processors J valid some s keeps w it (last_deadline J.jobs) (omega arith) f in
            omega (
              arith,
              all,
              no_takes more (after s (step_of processors J s)) d.0 next d.1
                  ((step_last processors J valid some n s keeps w it e).1 d.0),
            )
        by_test false e false f all rest =
            let d = step_down processors J valid some s keeps w it (last_deadline J.jobs) (omega arith) f in
            omega (arith, all, rest d.0 next d.1)

  -- a job takes a processor once at most
  pub takes_once : takes_in (run processors J) ≤ 1
  takes_once = once_taken (enough J.jobs) (opening J.jobs) 0 (opening_kept processors J)
      (opening_lasts processors J valid some)
