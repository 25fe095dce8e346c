-- A preemption as three changes of one role each: the fresh job waits, the running job is held, and the waiting job
-- runs.
use Rattle.std.proofs.Common.{◌≡◌, ◌≤◌, ◌<◌, List, map, refl, sym, ap, ◌∙◌, subst, Bool, true, false, cond, arith, eqb}
use Rattle.dover_model.specs.Common.{Role, Fresh, Waiting, Held, Running, Preempt, Task, State, is_privileged, left}
use Rattle.dover_model.specs.Common.{Prints, after, with_role, IsMember, Each, NoneRuns, FitsRole, IsSound}
use Rattle.dover_model.proofs.lists.Members.{map_same, map_map}
use Rattle.dover_model.proofs.steps.Loads.{Fits}
use Rattle.dover_model.proofs.steps.OneChange.{changed, state_with, on_changed, changed_here, changed_there}
use Rattle.dover_model.proofs.steps.OneChange.{stays_sound}
use Rattle.dover_model.proofs.steps.Moves.{says, waits, holds, starts, still_fits}
use Rattle.dover_model.proofs.steps.Roles.{one_number, passes}
use Rattle.dover_model.proofs.lists.Tests.{never}

module _ (s : State) (sound : IsSound s) (r f : Task) (member : IsMember r s.tasks) (runs : r.role ≡ Running)
    (some : 1 ≤ left r)
    (f_member : IsMember f s.tasks) (fresh : f.role ≡ Fresh) (before : f.job.deadline < r.job.deadline)
    (fits : Fits (left f) s) where
  -- the fresh job waits
  abbrev pub one_waits : State
  one_waits = state_with s f Waiting

  -- that job
  abbrev pub waiting_one : Task
  waiting_one = with_role f Waiting

  -- the running job is held
  abbrev pub one_held : State
  one_held = state_with one_waits r Held

  -- the two are different jobs
  pub differs : r.number ≡ f.number → ⊥
  differs same = let twin : r ≡ f = one_number 0 s.tasks sound.numbered r f member f_member same in
      let e : Running ≡ Fresh = sym runs ∙ ap (λ (x : Task). x.role) twin ∙ fresh in cc

  -- the first state is sound
  pub waits_sound : IsSound one_waits
  waits_sound = stays_sound s sound f Waiting f_member (waits s sound f f_member fresh)

  -- r is in it
  pub r_there : IsMember r one_waits.tasks
  r_there = changed_there s.tasks f r Waiting member differs

  -- the second state is sound
  pub held_sound : IsSound one_held
  held_sound = stays_sound one_waits waits_sound r Held r_there (holds one_waits waits_sound r r_there runs some)

  -- the waiting job is in it
  pub f_there : IsMember waiting_one one_held.tasks
  f_there = changed_there one_waits.tasks r waiting_one Held (changed_here 0 s.tasks sound.numbered f f_member Waiting)
      (λ same. differs (sym same))

  -- none in it runs
  pub none_runs : NoneRuns one_held.tasks
  none_runs = on_changed 0 one_waits.tasks waits_sound.numbered r r_there Held (λ t. t.role ≡ Running → ⊥)
      (λ e. absurd (cc))
      (λ t m apart other. apart (waits_sound.one_runs t r m r_there other runs))

  -- the waiting job is due before the held ones
  pub first : Each (λ t. t.role ≡ Held → f.job.deadline < t.job.deadline) one_held.tasks
  first = on_changed 0 one_waits.tasks waits_sound.numbered r r_there Held
      (λ t. t.role ≡ Held → f.job.deadline < t.job.deadline) (λ _. before)
      (λ t m apart held. let later : r.job.deadline < t.job.deadline =
      waits_sound.running_first r t r_there m runs held in omega arith)

  -- what is true of the fresh job
  f_says : FitsRole s.clock Fresh f
  f_says = says s sound f f_member Fresh fresh

  -- it still fits
  pub fits_still : Fits (left f) one_held
  fits_still = still_fits one_waits waits_sound r r_there (left f) Held
      (λ _. passes is_privileged r Running true runs refl)
      (still_fits s sound f f_member (left f) Waiting never fits)

  -- the third state is sound
  pub last_sound : IsSound (state_with one_held waiting_one Running)
  last_sound = stays_sound one_held held_sound waiting_one Running f_there
      (starts one_held held_sound waiting_one f_there none_runs first (λ e. absurd (cc))
      f_says.2 f_says.3 fits_still)

  -- the role that is left of three changes
  same_role : (b c : Bool) (role : Role)
      → cond b Running (cond c Held (cond b Waiting role)) ≡ cond b Running (cond c Held role)
  same_role true c role = refl
  same_role false c role = refl

  -- the three changes are the preemption
  pub same_tasks : (state_with one_held waiting_one Running).tasks
      ≡ (after s (Prints (Preempt s.clock r.number f.number))).tasks
  same_tasks =
      ap (map (λ t. with_role t (changed waiting_one Running t)))
      (map_map (λ t. with_role t (changed r Held t)) (λ t. with_role t (changed f Waiting t)) s.tasks)
      ∙ map_map (λ t. with_role t (changed waiting_one Running t))
      (λ t. with_role t (cond (eqb t.number r.number) Held (cond (eqb t.number f.number) Waiting t.role))) s.tasks
      ∙ map_same (λ t. with_role t (cond (eqb t.number f.number) Running
      (cond (eqb t.number r.number) Held (cond (eqb t.number f.number) Waiting t.role))))
      (λ t. with_role t (cond (eqb t.number f.number) Running (cond (eqb t.number r.number) Held t.role))) s.tasks
      (λ t m. ap (with_role t) (same_role (eqb t.number f.number) (eqb t.number r.number) t.role))

  -- a preemption keeps a sound state sound
  pub preempts_sound : IsSound (after s (Prints (Preempt s.clock r.number f.number)))
  preempts_sound = subst (λ (tasks : List Task). IsSound (record s { tasks = tasks })) same_tasks
      last_sound
