-- Behind the finish of one job at a mark, another one that may finish there may do so still.
use Rattle.std.proofs.Common.{◌≡◌, ℕ, suc, zero, ◌≤◌, ◌<◌, ◌⊎◌, inl, inr, List}
use Rattle.std.proofs.Common.{[], ◌∷◌, ◌++◌, map, refl, sym, ap, ◌∙◌, subst}
use Rattle.std.proofs.Common.{Bool, true, false, cond, not, arith, ◌&&◌, ◌||◌, ◌==◌, eqb, eqb-true, nat_le}
use Rattle.std.proofs.Common.{Some, None, le-leb}
use Rattle.std.proofs.lemmas.Bool.{eqb-false}
use Rattle.dover_model.specs.declared.events.Event.{Event}
use Rattle.dover_model.specs.declared.events.Event.TheVariants.{Run, Preempt, Take, Complete, Abandon, End, Release}
use Rattle.dover_model.specs.declared.events.Role.{Role}
use Rattle.dover_model.specs.declared.events.Role.TheVariants.{Fresh, Waiting, Held, Running, Done}
use Rattle.dover_model.specs.declared.events.Task.{Task}
use Rattle.dover_model.specs.Finishes.{Finish, has_come_to, is_due}
use Rattle.dover_model.specs.Fraction.{Fraction}
use Rattle.dover_model.specs.Settled.{tick_of_event}
use Rattle.dover_model.specs.Common.{Instance, IsValid, IsMember, Each, Rules, View, is_coming, is_privileged, left}
use Rattle.dover_model.specs.Common.{Begins as BeginsAs, with_finishes, finish_now, is_complete}
use Rattle.dover_model.specs.Step as single
use Rattle.dover_model.proofs.finishes.Meeting.{finishing_valid, given_by, given_in}
use Rattle.dover_model.proofs.lists.Tests.{never}
use Rattle.dover_model.proofs.lists.Members.{map_member, some_same}
use Rattle.dover_model.proofs.steps.Cases.{Case, Completes, Resumes, Starts, Begins, Preempts, Stays, Arrives, Takes}
use Rattle.dover_model.proofs.steps.Cases.{Abandons, Rests, NoneArrives}
use Rattle.dover_model.proofs.steps.Deeds.{Deed, Completed, Resumed, Started, Began, Preempted, Stayed, Arrived}
use Rattle.dover_model.proofs.steps.Deeds.{Taken, Abandoned, Rested, deed_of}
use Rattle.dover_model.proofs.settled.Settling.{at_barrier}
use Rattle.dover_model.proofs.steps.Roles.{passes}
use Rattle.many_processors.specs.State.{Placed, State, tasks_of, seen_by, seen_from, opening}
use Rattle.many_processors.proofs.steps.Seeing.{each_sees, seen_sees, below_numbers}
use Rattle.std.specs.List.{find}
use Rattle.many_processors.specs.Step.{Move, Prints, Waits, Ticks, on, Seen, seen, all_seen}
use Rattle.many_processors.specs.Step.{open_step, after, placed_after, placed_on}
use Rattle.many_processors.specs.Step.{in_role, completion, completion_of, numbers_from}
use Rattle.many_processors.specs.Run as many
use Rattle.many_processors.specs.Run.{placed_event_of}
use Rattle.many_processors.specs.Sound.{Keeps}
use Rattle.many_processors.specs.Settled.{waits_for_mark, settled_steps, settled_state, IsSettledRun}
use Rattle.many_processors.specs.Finishes.{RunsAtMark, is_beside}
use Rattle.many_processors.proofs.runs.EachStep.{no_completion}
use Rattle.many_processors.proofs.settled.AtMark.{barrier, stays_at_mark, come_parts, completes_not, finishes_not}
use Rattle.many_processors.proofs.settled.Finishes.{behind}
use Rattle.many_processors.proofs.settled.MarkTick.{NoneFresh, IsBeside, beside_stale, open_is}
use Rattle.many_processors.proofs.settled.Settling.{settled_is_run}
use Rattle.many_processors.proofs.steps.Cases as cases
use Rattle.many_processors.proofs.steps.Cases.{StepCase, is_finished, none_finishes, then_none, unanswered}
use Rattle.many_processors.proofs.steps.Placing.{seen_member, own_running}
use Rattle.many_processors.proofs.steps.Stepping.{real, same_job}
use Rattle.many_processors.proofs.steps.Turns.{which, running_job, open_kept}

-- the first job to come hasn't its release at the mark
abbrev NoneNow : ℕ → State → Type 0
NoneNow mark s = (c : Task) → find is_coming (tasks_of s.jobs) ≡ Some c → c.job.release ≡ mark → ⊥

-- a job is released
abbrev is_arrival : single.Move → Bool
is_arrival (single.Prints (Release n job)) = true
is_arrival _ = false

-- where none is to come now, none is
none_arrives : (k : Fraction) (v : View) (n : single.Move) → Case k v (single.Prints (End 0)) n
    → ((c : Task) → v.coming ≡ Some c → (c.job.release == v.clock) ≡ true → ⊥) → is_arrival n ≡ false
none_arrives k v n (Arrives ro c settles stale coming now) none = absurd (none c coming now)
none_arrives k v n (Takes r x settles stale ahead late heavy) none = refl
none_arrives k v n (Abandons r x settles stale ahead late light) none = refl
none_arrives k v n (Completes r running done) none = refl
none_arrives k v n (Resumes p free held) none = refl
none_arrives k v n (Starts o free no_held first) none = refl
none_arrives k v n (Begins y settles fresh) none = refl
none_arrives k v n (Preempts r y settles fresh fits) none = refl
none_arrives k v n (Stays r y settles fresh tight) none = refl
none_arrives k v n (Rests ro settles stale ahead quiet) none = refl

-- the first job to come is the same behind a change that leaves jobs to come
find_same : (g : Placed → Placed) (jobs : List Placed)
    → Each (λ p. ((g p).task ≡ p.task) ⊎ ((is_coming p.task ≡ false) × (is_coming (g p).task ≡ false))) jobs
    → find is_coming (tasks_of (map g jobs)) ≡ find is_coming (tasks_of jobs)
find_same g [] same = refl
find_same g (p ∷ jobs) same = by_first (same p (inl refl)) (find_same g jobs (λ q member. same q (inr member))) where
  by_first : ((g p).task ≡ p.task) ⊎ ((is_coming p.task ≡ false) × (is_coming (g p).task ≡ false))
      → find is_coming (tasks_of (map g jobs)) ≡ find is_coming (tasks_of jobs)
      → find is_coming (tasks_of (map g (p ∷ jobs))) ≡ find is_coming (tasks_of (p ∷ jobs))
  by_first (inl e) rest = ap (λ t. cond (is_coming t) (Some t) (find is_coming (tasks_of (map g jobs)))) e
      ∙ ap (λ o. cond (is_coming p.task) (Some p.task) o) rest
  by_first (inr both) rest = ap (λ b. cond b (Some (g p).task) (find is_coming (tasks_of (map g jobs)))) both.1
      ∙ rest ∙ sym (ap (λ b. cond b (Some p.task) (find is_coming (tasks_of jobs))) both.0)

-- at a late step none arrives
late_ahead : (k : Fraction) (v : View) (q : ℕ) (n : single.Move) → Case k v (single.Prints (End 0)) n
    → waits_for_mark (on q n) ≡ true → NoneArrives v v.coming
late_ahead k v q n (Takes r x settles stale ahead late heavy) waits = ahead
late_ahead k v q n (Abandons r x settles stale ahead late light) waits = ahead
late_ahead k v q n (Completes r running done) waits = never waits
late_ahead k v q n (Resumes p none held) waits = never waits
late_ahead k v q n (Starts o none no_held first) waits = never waits
late_ahead k v q n (Begins y settles fresh) waits = never waits
late_ahead k v q n (Preempts r y settles fresh fits) waits = never waits
late_ahead k v q n (Stays r y settles fresh tight) waits = never waits
late_ahead k v q n (Arrives ro c settles stale coming now) waits = never waits
late_ahead k v q n (Rests ro settles stale ahead quiet) waits = never waits

module _ (processors : ℕ) (J : Instance) (valid : IsValid J) (some : 1 ≤ processors) (rules : Rules) (s : State)
    (keeps : Keeps processors J s) where
  -- where a processor sees none arrive, none is to come now
  none_now : (q : Seen) → IsMember q (all_seen processors rules.version s) → NoneArrives q.view q.view.coming
      → NoneNow s.clock s
  none_now q member none c is now =
      let sees = each_sees processors rules.version s q member in
      eqb-false _ _ (subst (NoneArrives q.view) (sees.coming ∙ is) none) (now ∙ sym sees.clock)

  late_none_now : (m : Move) → StepCase false rules s (all_seen processors rules.version s) m → waits_for_mark m ≡ true
      → NoneNow s.clock s
  late_none_now m (cases.Completed q member t runs finished) waits = never waits
  late_none_now m (cases.Acted q member n acts going decided) waits = none_now q member
      (late_ahead rules.ratio q.view q.processor acts.move acts.case (sym (ap waits_for_mark acts.is) ∙ waits))
  late_none_now m (cases.Abandoned q member n acts it going light) waits = none_now q member
      (late_ahead rules.ratio q.view q.processor acts.move acts.case (sym (ap waits_for_mark acts.is) ∙ waits))
  late_none_now m (cases.Ended may over) waits = never may
  late_none_now m (cases.Rested quiet unended) waits =
      let member = first_seen processors some in
      none_now (seen rules.version s 0) member (quiet.ahead (seen rules.version s 0) member) where
        first_seen : (n : ℕ) → 1 ≤ n → IsMember (seen rules.version s 0) (all_seen n rules.version s)
        first_seen zero low = absurd (omega (arith, low))
        first_seen (suc n) low = inl refl

  -- ---- a step of the mark's tick

  module _ (u : Placed) (u_member : IsMember u s.jobs) (runs_u : u.task.role ≡ Running)
      (goes : is_finished rules.finishes u.task ≡ false) (stale : NoneFresh s) (now : NoneNow s.clock s) where
    -- it completes another job, or gives a processor to one
    abbrev IsOther : ℕ → Type 0
    IsOther k = (k ≡ u.task.number → ⊥) × Each (λ p. p.task.number ≡ k → is_coming p.task ≡ false) s.jobs

    abbrev Passes : Move → Type 0
    Passes (Prints q (Complete at k)) = IsOther k
    Passes (Prints q (Run at k)) = IsOther k
    Passes _ = ⊥

    is_other : (x : Placed) → IsMember x s.jobs → is_coming x.task ≡ false → (x.task.number ≡ u.task.number → ⊥)
        → IsOther x.task.number
    is_other x member off differs = (
      differs,
      λ p p_member same.
          ap (λ (y : Placed). is_coming y.task) (same_job processors J valid s keeps p x p_member member same) ∙ off,
    )

    other_role : (i : ℕ) (t : Task) (role : Role) → (role ≡ Done → ⊥) → (role ≡ Running → ⊥) → t.role ≡ role
        → is_coming (single.with_role t role) ≡ false → IsMember t (map (seen_by i) s.jobs) → IsOther t.number
    other_role i t role not_done not_running e off member =
        let x = seen_member i s.jobs t role not_done e member in
        subst IsOther (ap (λ (y : Task). y.number) x.2)
        (is_other x.0 x.1 (ap is_coming x.2 ∙ passes is_coming t role false e off) (λ same.
        let is_u : x.0 ≡ u = same_job processors J valid s keeps x.0 u x.1 u_member same in
        not_running (sym e ∙ sym (ap (λ (y : Task). y.role) x.2) ∙ ap (λ (y : Placed). y.task.role) is_u ∙ runs_u)))

    deed_passes : (i : ℕ) (m : single.Move) → Deed rules.ratio (seen_from i s) (single.Prints (End 0)) m
        → is_complete m ≡ false → cases.is_ending m ≡ false → waits_for_mark (on i m) ≡ false → is_arrival m ≡ false
        → Passes (on i m)
    deed_passes i m (Completed r member runs) kind ends early arrives = never (sym kind)
    deed_passes i m (Resumed p member held none least why) kind ends early arrives =
        other_role i p Held (λ e. cc) (λ e. cc) held refl member
    deed_passes i m (Started o member waits none first fits next) kind ends early arrives =
        other_role i o Waiting (λ e. cc) (λ e. cc) waits refl member
    deed_passes i m (Began f member fresh none free) kind ends early arrives =
        let x = seen_member i s.jobs f Fresh (λ e. cc) fresh member in
        absurd (stale x.0 x.1 (ap (λ (y : Task). y.role) x.2 ∙ fresh))
    deed_passes i m (Preempted r f member runs left f_member fresh before fits) kind ends early arrives =
        let x = seen_member i s.jobs f Fresh (λ e. cc) fresh f_member in
        stale x.0 x.1 (ap (λ (y : Task). y.role) x.2 ∙ fresh)
    deed_passes i m (Stayed r f member runs left f_member fresh why) kind ends early arrives =
        let x = seen_member i s.jobs f Fresh (λ e. cc) fresh f_member in
        stale x.0 x.1 (ap (λ (y : Task). y.role) x.2 ∙ fresh)
    deed_passes i m (Arrived c member comes is_now first no_fresh busy free) kind ends early arrives =
        never (sym arrives)
    deed_passes i m (Taken r x member runs left x_member waits is_now no_fresh heavy) kind ends early arrives =
        never (sym early)
    deed_passes i m (Abandoned r x member runs left x_member waits is_now no_fresh light) kind ends early arrives =
        never (sym early)
    deed_passes i m (Rested quiet) kind ends early arrives = never (sym ends)

    case_passes : (m : Move) → StepCase false rules s (all_seen processors rules.version s) m
        → waits_for_mark m ≡ false → Passes m
    case_passes m (cases.Completed q member t served finished) early =
        let i = which processors J valid some rules s keeps q member in
        let x = running_job processors J valid some rules s keeps q.processor t
        (subst (λ (r : Seen). r.view.running ≡ Some t) i.0 served) in
        subst IsOther (ap (λ (y : Task). y.number) x.2)
        (is_other x.0 x.1 (passes is_coming x.0.task Running false x.3 refl) (λ same.
        let is_u : x.0 ≡ u = same_job processors J valid s keeps x.0 u x.1 u_member same in
        never (sym goes ∙ ap (λ (y : Placed). is_finished rules.finishes y.task) (sym is_u)
        ∙ ap (is_finished rules.finishes) x.2 ∙ finished)))
    case_passes m (cases.Acted q member n acts going decided) early =
        let i = which processors J valid some rules s keeps q member in
        by_acts q.processor (subst (λ r. cases.Acts rules.ratio r false m) i.0 acts)
        (subst (λ r. completion r ≡ None) i.0 (going q member)) where
          by_acts : (i : ℕ) → cases.Acts rules.ratio (seen rules.version s i) false m
              → completion (seen rules.version s i) ≡ None → Passes m
          by_acts i acts none = subst Passes (sym acts.is) (deed_passes i acts.move
              (deed_of rules.ratio rules.version (seen_from i s) (single.Prints (End 0)) (keeps.sound i)
              (real processors J valid s keeps i) acts.move acts.case)
              (no_completion rules.ratio (seen rules.version s i) none acts.move acts.case) acts.goes_on
              (sym (ap waits_for_mark acts.is) ∙ early)
              (none_arrives rules.ratio (seen rules.version s i).view acts.move acts.case
              (λ c is is_now. now c (sym (seen_sees rules.version s i).coming ∙ is) (eqb-true _ _ is_now))))
    case_passes m (cases.Abandoned q member n acts it going light) early = never (sym early ∙ ap waits_for_mark it.is)
    case_passes m (cases.Ended may over) early = never may
    case_passes m (cases.Rested quiet unended) early = never (sym early)

    step_passes : waits_for_mark (open_step processors rules s) ≡ false → Passes (open_step processors rules s)
    step_passes = case_passes (open_step processors rules s) (open_is processors J valid some rules s keeps)

    -- what stays so behind it
    stays_number : (k : ℕ) (f : Placed → Placed) → (k ≡ u.task.number → ⊥) → cond (eqb u.task.number k) (f u) u ≡ u
    stays_number k f other = by_test (eqb u.task.number k) refl where
      by_test : (b : Bool) → eqb u.task.number k ≡ b → cond b (f u) u ≡ u
      by_test true e = absurd (other (sym (eqb-true _ _ e)))
      by_test false e = refl

    first_same : (m : ℕ) (f : Placed → Placed) → IsOther m → ((p : Placed) → is_coming (f p).task ≡ false)
        → (c : Task) → find is_coming (tasks_of (map (λ p. cond (eqb p.task.number m) (f p) p) s.jobs)) ≡ Some c
        → c.job.release ≡ s.clock → ⊥
    first_same m f other off c is = now c (sym (find_same (λ p. cond (eqb p.task.number m) (f p) p) s.jobs
        (λ p member. by_test p member (eqb p.task.number m) refl)) ∙ is) where
          by_test : (p : Placed) → IsMember p s.jobs → (b : Bool) → eqb p.task.number m ≡ b
              → ((cond b (f p) p).task ≡ p.task) ⊎ ((is_coming p.task ≡ false)
              × (is_coming (cond b (f p) p).task ≡ false))
          by_test p member true e = inr (other.1 p member (eqb-true _ _ e), off p)
          by_test p member false e = inl refl

    passes_beside : (m : Move) → Passes m → IsBeside u.task.number m × IsMember u (after s m).jobs
        × ((after s m).clock ≡ s.clock) × NoneNow s.clock (after s m)
    passes_beside (Prints q (Complete at k)) other = (
      refl,
      subst (λ y. IsMember y (map (placed_after q (Complete at k)) s.jobs))
          (stays_number k (λ p. in_role p Done) other.0)
          (map_member (placed_after q (Complete at k)) s.jobs u u_member),
      refl,
      first_same k (λ p. in_role p Done) other (λ p. refl),
    )
    passes_beside (Prints q (Run at k)) other = (
      ap not (not_same (eqb k u.task.number) refl),
      subst (λ y. IsMember y (map (placed_after q (Run at k)) s.jobs)) (stays_number k (placed_on q) other.0)
          (map_member (placed_after q (Run at k)) s.jobs u u_member),
      refl,
      first_same k (placed_on q) other (λ p. refl),
    ) where
      not_same : (b : Bool) → eqb k u.task.number ≡ b → eqb k u.task.number ≡ false
      not_same false e = e
      not_same true e = absurd (other.0 (eqb-true _ _ e))
    passes_beside (Prints q (Preempt at r k)) other = absurd other
    passes_beside (Prints q (Take at r k)) other = absurd other
    passes_beside (Prints q (Abandon at k)) other = absurd other
    passes_beside (Prints q (Release k job)) other = absurd other
    passes_beside (Prints q (End value)) other = absurd other
    passes_beside (Waits k) other = absurd other
    passes_beside Ticks other = absurd other

-- ---- behind a finish

-- finishes of which none is due, behind others
none_more : (fs gs : List Finish) (t : Task) → is_due fs t ≡ false → is_due gs t ≡ false → is_due (fs ++ gs) t ≡ false
none_more [] gs t none more = more
none_more (f ∷ fs) gs t none more = by_first (has_come_to t f) none (λ later. none_more fs gs t later more) where
  by_first : (b : Bool) → (b || is_due fs t) ≡ false → (is_due fs t ≡ false → is_due (fs ++ gs) t ≡ false)
      → (b || is_due (fs ++ gs) t) ≡ false
  by_first true none rest = never (sym none)
  by_first false none rest = rest none

-- a settled run from behind a part of it
run_behind : (processors : ℕ) (rules : Rules) (mark : ℕ) (zs xs : List many.Step) (s : State)
    → IsSettledRun processors rules mark s (zs ++ xs) → IsSettledRun processors rules mark (behind s zs) xs
run_behind processors rules mark [] xs s run = run
run_behind processors rules mark (z ∷ zs) xs s run =
    subst (λ (y : many.Step). IsSettledRun processors rules mark (behind (after y.before y.move) zs) xs) (sym run.0)
    (run_behind processors rules mark zs xs (after s (open_step processors rules s)) run.2)

behind_append : (zs xs : List many.Step) (s : State) → behind s (zs ++ xs) ≡ behind (behind s zs) xs
behind_append [] xs s = refl
behind_append (z ∷ zs) xs s = behind_append zs xs (after z.before z.move)

module _ (processors : ℕ) (J : Instance) (valid : IsValid J) (some : 1 ≤ processors) (mark : ℕ) (p u : Placed)
    (at_p : RunsAtMark processors J mark p) (at_u : RunsAtMark processors J mark u)
    (apart : p.task.number ≡ u.task.number → ⊥) where
  -- with the finish of the one
  abbrev K : Instance
  K = with_finishes J (finish_now p.task ∷ [])

  abbrev there : State
  there = settled_state processors J mark

  is_late : waits_for_mark (open_step processors J.rules there) ≡ true
  is_late = (at_barrier (waits_for_mark (open_step processors J.rules there)) mark there.clock
      (barrier processors J valid some mark).barrier).0

  -- the other goes on
  goes_on : is_finished K.rules.finishes u.task ≡ false
  goes_on = ap (λ b. b || is_due K.rules.finishes u.task) left_some
      ∙ none_more J.rules.finishes (finish_now p.task ∷ []) u.task
      (none_finishes J.rules.finishes (all_seen processors J.rules.version there)
      (finishes_not processors J.rules there is_late).0 sees sees_member u.task runs_there)
      (ap (λ b. b || false) (by_come (has_come_to u.task (finish_now p.task)) refl)) where
        keeps : Keeps processors J there
        keeps = (barrier processors J valid some mark).keeps

        sees : Seen
        sees = seen J.rules.version there u.owner

        sees_member : IsMember sees (all_seen processors J.rules.version there)
        sees_member =
            let low : u.owner < processors = keeps.placed.owners u at_u.member
            (passes is_privileged u.task Running true at_u.runs refl) in
            map_member (seen J.rules.version there) (numbers_from 0 processors) u.owner
            (below_numbers u.owner 0 processors (omega arith) (omega (arith, low)))

        runs_there : sees.view.running ≡ Some u.task
        runs_there = own_running there keeps.sound u at_u.member at_u.runs

        left_some : (left u.task == 0) ≡ false
        left_some = then_none _ _ (subst (λ o. completion_of sees o ≡ None) runs_there
            (unanswered completion (all_seen processors J.rules.version there)
            (completes_not processors J.rules there is_late).0 sees sees_member))

        by_come : (b : Bool) → has_come_to u.task (finish_now p.task) ≡ b
            → has_come_to u.task (finish_now p.task) ≡ false
        by_come false e = e
        by_come true e = absurd (apart (sym (come_parts u.task (finish_now p.task) e).0))

  -- on the way on it stays, and all steps are beside it
  walk : (xs : List many.Step) (s : State) → Keeps processors J s → s.clock ≡ mark → NoneFresh s → NoneNow mark s
      → IsMember u s.jobs → IsSettledRun processors K.rules mark s xs
      → IsMember u (behind s xs).jobs × Each (λ x. IsBeside u.task.number x.move) xs
  walk [] s keeps clock stale now member run = (member, λ x none. absurd none)
  walk (x ∷ xs) s keeps clock stale now member run =
      let now_here : NoneNow s.clock s = subst (λ n. NoneNow n s) (sym clock) now in
      let it = passes_beside processors J valid some K.rules s keeps u member at_u.runs goes_on stale now_here
      (open_step processors K.rules s)
      (step_passes processors J valid some K.rules s keeps u member at_u.runs goes_on stale now_here
      (early (waits_for_mark (open_step processors K.rules s)) run.1)) in
      let rest = walk xs (after s (open_step processors K.rules s)) (open_kept processors J valid some K.rules s keeps)
      (it.2 ∙ clock) (beside_stale u.task.number s (open_step processors K.rules s) it.0 stale)
      (subst (λ n. NoneNow n (after s (open_step processors K.rules s))) clock it.3) it.1 run.2 in (
        subst (λ (y : many.Step). IsMember u (behind (after y.before y.move) xs).jobs) (sym run.0) rest.0,
        all_beside it.0 rest.1,
      ) where
        early : (b : Bool) → (b && nat_le mark s.clock) ≡ false → b ≡ false
        early false e = refl
        early true e = never (sym e ∙ le-leb mark s.clock (omega (arith, clock)))

        all_beside : IsBeside u.task.number (open_step processors K.rules s)
            → Each (λ y. IsBeside u.task.number y.move) xs → Each (λ y. IsBeside u.task.number y.move) (x ∷ xs)
        all_beside here rest y (inl e) =
            subst (λ (z : many.Step). IsBeside u.task.number z.move) (sym (e ∙ run.0)) here
        all_beside here rest y (inr y_member) = rest y y_member

  begins : BeginsAs (settled_steps processors J mark) (settled_steps processors K mark)
  begins = stays_at_mark processors J valid some mark p at_p

  walked : IsMember u (behind there begins.0).jobs × Each (λ x. IsBeside u.task.number x.move) begins.0
  walked = walk begins.0 there (barrier processors J valid some mark).keeps (barrier processors J valid some mark).clock
      (barrier processors J valid some mark).none_fresh
      (subst (λ n. NoneNow n there) (barrier processors J valid some mark).clock
      (late_none_now processors J valid some J.rules there (barrier processors J valid some mark).keeps
      (open_step processors J.rules there)
      (open_is processors J valid some J.rules there (barrier processors J valid some mark).keeps) is_late))
      at_u.member (run_behind processors K.rules mark (settled_steps processors J mark) begins.0 (opening J.jobs)
      (subst (IsSettledRun processors K.rules mark (opening J.jobs)) begins.1
      (settled_is_run processors K (finishing_valid J K.rules.finishes valid) some mark)))

  -- so the other may finish there still
  pub runs_again : RunsAtMark processors K mark u
  runs_again = record {
    member = subst (λ (s : State). IsMember u s.jobs)
        (sym (ap (behind (opening J.jobs)) begins.1
        ∙ behind_append (settled_steps processors J mark) begins.0 (opening J.jobs))) walked.0;
    runs = at_u.runs;
    before = λ e member.
        let x = given_by (λ (y : many.Step). placed_event_of y.move) (settled_steps processors K mark) e member in
        by_part e x.0 (split (settled_steps processors J mark) begins.0 x.0
        (subst (IsMember x.0) begins.1 x.1)) x.2;
  } where
    split : (zs xs : List many.Step) (x : many.Step) → IsMember x (zs ++ xs) → IsMember x zs ⊎ IsMember x xs
    split [] xs x member = inr member
    split (z ∷ zs) xs x (inl e) = inl (inl e)
    split (z ∷ zs) xs x (inr member) = by_rest (split zs xs x member) where
      by_rest : IsMember x zs ⊎ IsMember x xs → IsMember x (z ∷ zs) ⊎ IsMember x xs
      by_rest (inl m) = inl (inr m)
      by_rest (inr m) = inr m

    by_move : (m : Move) (e : ℕ × Event) → IsBeside u.task.number m → placed_event_of m ≡ Some e
        → is_beside u.task.number e.1 ≡ true
    by_move (Prints q x) e beside is = subst (λ (y : ℕ × Event). is_beside u.task.number y.1 ≡ true)
        (some_same _ _ is) beside
    by_move (Waits k) e beside is = absurd beside
    by_move Ticks e beside is = absurd beside

    by_part : (e : ℕ × Event) (x : many.Step)
        → IsMember x (settled_steps processors J mark) ⊎ IsMember x begins.0 → placed_event_of x.move ≡ Some e
        → (tick_of_event e.1 < mark) ⊎ (is_beside u.task.number e.1 ≡ true)
    by_part e x (inl member) is = at_u.before e (given_in (λ (y : many.Step). placed_event_of y.move)
        (settled_steps processors J mark) x e member is)
    by_part e x (inr member) is = inr (by_move x.move e (walked.1 x member) is)
