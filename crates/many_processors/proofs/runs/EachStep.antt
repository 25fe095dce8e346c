-- What holds of each step from a state of a run, what a run carries to its end, and what is so in each tick.
use Rattle.std.proofs.Common.{◌≡◌, ℕ, suc, zero, ◌+◌, ◌≤◌, ◌<◌, ◌⊎◌, inl, inr, List, [], map, refl, sym, ap, ◌∙◌, subst}
use Rattle.std.proofs.Common.{Bool, true, false, None}
use Rattle.std.specs.List.{list_all, count_by}
use Rattle.std.proofs.lemmas.List.Sums.{sum_by-cons}
use Rattle.dover_model.specs.declared.events.Event.TheVariants.{Run, Preempt, Take, Complete, Abandon, End, Release}
use Rattle.dover_model.specs.declared.events.Task.{Task}
use Rattle.dover_model.specs.declared.events.Role.TheVariants.{Fresh, Waiting, Held, Running}
use Rattle.dover_model.specs.Fraction.{Fraction}
use Rattle.dover_model.specs.Common.{Rules, Instance, IsValid, View, is_privileged, is_ready_behind, IsMember, Each}
use Rattle.dover_model.specs.Common.{NoneRuns, is_complete, is_over, one_if}
use Rattle.dover_model.specs.Step as single
use Rattle.dover_model.proofs.lists.Tests.{never}
use Rattle.dover_model.proofs.lists.Members.{map_member}
use Rattle.dover_model.proofs.steps.Cases.{Case, Completes, Resumes, Starts, Begins, Preempts, Stays, Arrives, Takes}
use Rattle.dover_model.proofs.steps.Cases.{Abandons, Rests}
use Rattle.dover_model.proofs.steps.Roles.{passes}
use Rattle.dover_model.proofs.steps.Ticking.{Quiet}
use Rattle.many_processors.specs.State.{Placed, State, tasks_of, seen_by, seen_from, opening}
use Rattle.many_processors.specs.Step.{Move, Ticks, on, Seen, all_seen, step, after, completion, completion_of}
use Rattle.many_processors.specs.Run as many
use Rattle.many_processors.specs.Run.{run_from, run, is_end, enough}
use Rattle.many_processors.specs.Sound.{Keeps}
use Rattle.many_processors.specs.Ticks.{SomeRunsOn}
use Rattle.many_processors.proofs.steps.Seeing.{each_sees}
use Rattle.many_processors.proofs.steps.Cases as cases
use Rattle.many_processors.proofs.steps.Cases.{StepCase, step_case, IsQuiet, then_none}
use Rattle.many_processors.proofs.steps.Placing.{seen_member, seen_own, own_seen, off_member}
use Rattle.many_processors.proofs.steps.Turns.{all_quiet, step_kept, opening_kept}

-- ---- each step

module _ (processors : ℕ) (J : Instance) (valid : IsValid J) (some : 1 ≤ processors) (P : many.Step → Type 0)
    (holds : (s : State) → Keeps processors J s → P (record { before = s; move = step processors J.rules s })) where
  each_from : (more : ℕ) (s : State) → Keeps processors J s → Each P (run_from processors J.rules more s)
  each_from zero s keeps x member = absurd member
  each_from (suc more) s keeps x (inl e) = subst P (sym e) (holds s keeps)
  each_from (suc more) s keeps x (inr member) = by_end (is_end (step processors J.rules s)) member
      (each_from more (after s (step processors J.rules s)) (step_kept processors J valid some J.rules s keeps) x) where
        by_end : (b : Bool) → IsMember x (elim b [
          | true ↦ []
          | false ↦ run_from processors J.rules more (after s (step processors J.rules s))
        ]) → (IsMember x (run_from processors J.rules more (after s (step processors J.rules s))) → P x) → P x
        by_end true none rest = absurd none
        by_end false later rest = rest later

  -- what holds of each step from a state that keeps what states keep holds of each step of a run
  pub each_step : Each P (run processors J)
  each_step = each_from (enough J.jobs) (opening J.jobs) (opening_kept processors J)

-- ---- each tick

-- the move is a silent tick
abbrev pub is_tick : Move → Bool
is_tick Ticks = true
is_tick _ = false

-- what one processor does is none
pub no_tick : (k : Fraction) (v : View) (q : ℕ) (n : single.Move) → Case k v (single.Prints (End 0)) n
    → is_tick (on q n) ≡ false
no_tick k v q n (Completes r running done) = refl
no_tick k v q n (Resumes p none held) = refl
no_tick k v q n (Starts o none no_held waits) = refl
no_tick k v q n (Begins y settles fresh) = refl
no_tick k v q n (Preempts r y settles fresh fits) = refl
no_tick k v q n (Stays r y settles fresh tight) = refl
no_tick k v q n (Arrives ro c settles stale coming now) = refl
no_tick k v q n (Takes r x settles stale ahead late heavy) = refl
no_tick k v q n (Abandons r x settles stale ahead late light) = refl
no_tick k v q n (Rests ro settles stale ahead quiet) = refl

-- what one processor does is no End
pub acts_go_on : (q : ℕ) (n : single.Move) → cases.is_ending n ≡ false → is_end (on q n) ≡ false
acts_go_on q (single.Prints (End value)) h = never (sym h)
acts_go_on q (single.Prints (Release n job)) h = refl
acts_go_on q (single.Prints (Run at n)) h = refl
acts_go_on q (single.Prints (Preempt at r n)) h = refl
acts_go_on q (single.Prints (Take at r n)) h = refl
acts_go_on q (single.Prints (Complete at n)) h = refl
acts_go_on q (single.Prints (Abandon at n)) h = refl
acts_go_on q (single.Waits n) h = refl
acts_go_on q single.Ticks h = refl

-- where no job has nothing left, none completes so
pub no_completion : (k : Fraction) (q : Seen) → completion q ≡ None → (n : single.Move)
    → Case k q.view (single.Prints (End 0)) n → is_complete n ≡ false
no_completion k q going n (Completes r running done) =
    never (sym (then_none _ _ (subst (λ o. completion_of q o ≡ None) running going)) ∙ done)
no_completion k q going n (Resumes p none held) = refl
no_completion k q going n (Starts o none no_held waits) = refl
no_completion k q going n (Begins y settles fresh) = refl
no_completion k q going n (Preempts r y settles fresh fits) = refl
no_completion k q going n (Stays r y settles fresh tight) = refl
no_completion k q going n (Arrives ro c settles stale coming now) = refl
no_completion k q going n (Takes r x settles stale ahead late heavy) = refl
no_completion k q going n (Abandons r x settles stale ahead late light) = refl
no_completion k q going n (Rests ro settles stale ahead quiet) = refl

-- where the run may not end, no step is End
pub open_goes_on : {rules : Rules} {s : State} {all : List Seen} (m : Move) → StepCase false rules s all m
    → is_end m ≡ false
open_goes_on m (cases.Completed q member t runs finished) = refl
open_goes_on m (cases.Acted q member n acts going decided) = ap is_end acts.is
    ∙ acts_go_on q.processor acts.move acts.goes_on
open_goes_on m (cases.Abandoned q member n acts it going light) = ap is_end it.is
open_goes_on m (cases.Ended may over) = never may
open_goes_on m (cases.Rested quiet unended) = refl

-- where a tick passes, no other case applies
pub tick_quiet : (may_end : Bool) (rules : Rules) (s : State) (all : List Seen) (m : Move)
    → StepCase may_end rules s all m → m ≡ Ticks
    → IsQuiet rules s all × (may_end ≡ true → list_all is_over (tasks_of s.jobs) ≡ false)
tick_quiet may_end rules s all m (cases.Completed q member t runs finished) e = never (ap is_tick e)
tick_quiet may_end rules s all m (cases.Acted q member n acts going decided) e =
    never (sym (no_tick rules.ratio q.view q.processor acts.move acts.case) ∙ sym (ap is_tick acts.is) ∙ ap is_tick e)
tick_quiet may_end rules s all m (cases.Abandoned q member n acts it going light) e =
    never (sym (ap is_tick it.is) ∙ ap is_tick e)
tick_quiet may_end rules s all m (cases.Ended may over) e = never (ap is_tick e)
tick_quiet may_end rules s all m (cases.Rested quiet unended) e = (quiet, unended)

module _ (processors : ℕ) (J : Instance) (valid : IsValid J) (some : 1 ≤ processors) (s : State)
    (keeps : Keeps processors J s) where
  pub quiet_at : step processors J.rules s ≡ Ticks → IsQuiet J.rules s (all_seen processors J.rules.version s)
  quiet_at ticks = (tick_quiet true J.rules s (all_seen processors J.rules.version s) (step processors J.rules s)
      (step_case J.rules s (all_seen processors J.rules.version s) (each_sees processors J.rules.version s)) ticks).0

  module _ (ticks : step processors J.rules s ≡ Ticks) (q : ℕ) (low : q < processors) where
    quiet : Quiet (seen_from q s)
    quiet = all_quiet processors J valid some J.rules s keeps (quiet_at ticks) q low

    -- where the processor sees a job that is ready, one runs on it
    busy_where_seen : (t : Task) → IsMember t (map (seen_by q) s.jobs) → (t.role ≡ Fresh) ⊎ (is_ready_behind t ≡ true)
        → SomeRunsOn q s
    busy_where_seen t member (inl fresh) = absurd (quiet.stale t member fresh)
    busy_where_seen t member (inr behind) = by_runs quiet.runs_or_none quiet.free where
      by_runs : ((r : Task) × IsMember r (map (seen_by q) s.jobs) × (r.role ≡ Running))
          ⊎ NoneRuns (map (seen_by q) s.jobs)
          → (NoneRuns (map (seen_by q) s.jobs) → Each (λ u. is_ready_behind u ≡ true → ⊥) (map (seen_by q) s.jobs))
          → SomeRunsOn q s
      by_runs (inr none) free = absurd (free none t member behind)
      by_runs (inl it) free =
          let x = seen_member q s.jobs it.0 Running (λ e. cc) it.2 it.1 in
          let own = seen_own q x.0 (ap is_privileged x.3 ∙ passes is_privileged it.0 Running true it.2 refl) in
          (x.0, x.1, ap (λ (u : Task). u.role) x.2 ∙ it.2, own.1)

    -- where a job waits, one runs on each processor
    pub busy_where_one_waits : (p : Placed) → IsMember p s.jobs → (p.task.role ≡ Fresh) ⊎ (p.task.role ≡ Waiting)
        → SomeRunsOn q s
    busy_where_one_waits p member (inl fresh) = busy_where_seen p.task
        (off_member q s.jobs p member (passes is_privileged p.task Fresh false fresh refl)) (inl fresh)
    busy_where_one_waits p member (inr waits) = busy_where_seen p.task
        (off_member q s.jobs p member (passes is_privileged p.task Waiting false waits refl))
        (inr (passes is_ready_behind p.task Waiting true waits refl))

    -- where a job is held, one runs on its processor
    pub busy_where_one_is_held : (p : Placed) → IsMember p s.jobs → p.task.role ≡ Held → p.owner ≡ q → SomeRunsOn q s
    busy_where_one_is_held p member held own = busy_where_seen p.task
        (subst (λ t. IsMember t (map (seen_by q) s.jobs)) (own_seen q p own) (map_member (seen_by q) s.jobs p member))
        (inr (passes is_ready_behind p.task Held true held refl))

-- ---- how many steps pass a test

module _ (processors : ℕ) (J : Instance) where
  -- so many of these
  abbrev pub counted : (Move → Bool) → List many.Step → ℕ
  counted test xs = count_by (λ x. test x.move) xs

  -- the step of a state
  abbrev pub step_of : State → Move
  step_of s = step processors J.rules s

  -- the steps behind the first
  abbrev pub others : Bool → ℕ → State → List many.Step
  others b more s = elim b [ true ↦ [] | false ↦ run_from processors J.rules more (after s (step_of s)) ]

  -- the first and the others
  pub first_counted : (test : Move → Bool) (more : ℕ) (s : State)
      → counted test (run_from processors J.rules (suc more) s)
      ≡ one_if (test (step_of s)) + counted test (others (is_end (step_of s)) more s)
  first_counted test more s = sum_by-cons (λ (x : many.Step). one_if (test x.move))
      (record { before = s; move = step_of s }) (others (is_end (step_of s)) more s)
