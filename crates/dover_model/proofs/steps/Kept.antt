-- Every step and every open step of a valid instance keeps a sound state sound.
use Rattle.std.proofs.Common.{◌≡◌, ℕ, suc, ◌+◌, ◌≤◌, ◌⊎◌, inl, inr, List, [], ◌∷◌, map, refl, sym, ap, ◌∙◌, subst, Bool}
use Rattle.std.proofs.Common.{true, false, cond, arith, eqb}
use Rattle.std.specs.Bool.{then_some}
use Rattle.std.specs.List.{AllByRecursion, list_all, filter}
use Rattle.dover_model.specs.Common.{JobFacts, IsJob, Rules, Instance, IsValid, Fraction, Role, Coming, Fresh, Waiting}
use Rattle.dover_model.specs.Common.{Held, Running, Done, Gone, Take, End, Task, State, opening, to_come, is_running}
use Rattle.dover_model.specs.Common.{is_over, is_done, is_ready_behind, is_privileged, left, value_sum, Move, Prints}
use Rattle.dover_model.specs.Common.{Waits, Ticks, view, after, with_role, displaced, role_after, ticked, step}
use Rattle.dover_model.specs.Common.{open_step, declared_step, declared_open_step, ending, ◌or_else◌, IsMember, Each}
use Rattle.dover_model.specs.Common.{EachTwo, IsNumberedFrom, FitsRole, IsSound, jobs_of, Keeps}
use Rattle.dover_model.proofs.lists.Members.{map_member, map_same, map_self, map_map, all_member}
use Rattle.dover_model.proofs.steps.Roles.{passes, numbers_above, is_privileged_role, one_number}
use Rattle.dover_model.proofs.steps.Loads.{with_roles, state_in}
use Rattle.dover_model.proofs.steps.OneChange.{changed, state_with, stays_sound}
use Rattle.dover_model.proofs.steps.Moves.{says, completes, resumes, starts, waits, abandons, arrives, displaced_sound}
use Rattle.dover_model.proofs.steps.Moves.{displaced_free}
use Rattle.dover_model.proofs.steps.Ticking.{Quiet, ticks_sound}
use Rattle.dover_model.proofs.steps.Cases.{step_case}
use Rattle.dover_model.proofs.steps.Deeds.{Realistic, Deed, Completed, Resumed, Started, Began, Preempted, Stayed}
use Rattle.dover_model.proofs.steps.Deeds.{Arrived, Taken, Abandoned, Rested, deed_of}
use Rattle.dover_model.proofs.finishes.Finishing.{finish_deed}
use Rattle.dover_model.proofs.steps.Preempting.{preempts_sound}
use Rattle.dover_model.proofs.lists.Tests.{never}
use Rattle.dover_model.proofs.valid.ValidParts.{ReleasesInOrder, valid_parts}
use Rattle.std.specs.List.{list_any}
use Rattle.std.specs.Prelude.{◌&&◌}
use Rattle.std.proofs.lemmas.Bool.{and_parts}
use Rattle.dover_model.specs.Common.{is_open_job}
use Rattle.dover_model.proofs.steps.OneChange.{changed_there}
use Rattle.dover_model.proofs.steps.Pressing.{HasReady, sound_pressing, any_member, any_kept, one_open, displaced_open}

-- ---- the jobs of the tasks

-- a move changes no number and no job, and takes no tick away
pub record Moved (s t : State) : Type 0 where
  pub by : Task → Task
  pub tasks : t.tasks ≡ map by s.tasks
  pub number : (x : Task) → (by x).number ≡ x.number
  pub job : (x : Task) → (by x).job ≡ x.job
  pub had : (x : Task) → x.had ≤ (by x).had

-- how a move changes the tasks
pub move_of : (s : State) (m : Move) → Moved s (after s m)
move_of s (Prints e) = record {
  by = λ t. with_role t (role_after e t.number t.role);
  tasks = refl;
  number = λ x. refl;
  job = λ x. refl;
  had = λ x. omega arith;
}
move_of s (Waits n) = record {
  by = λ t. with_role t (cond (eqb t.number n) Waiting t.role);
  tasks = refl;
  number = λ x. refl;
  job = λ x. refl;
  had = λ x. omega arith;
}
move_of s Ticks =
    record { by = ticked; tasks = refl; number = λ x. refl; job = λ x. refl; had = λ x. by_test x (is_running x) } where
      by_test : (x : Task) (b : Bool) → x.had ≤ cond b (x.had + 1) x.had
      by_test x true = omega arith
      by_test x false = omega arith

-- a move keeps the jobs of the tasks
pub jobs_kept : (s : State) (m : Move) → jobs_of (after s m).tasks ≡ jobs_of s.tasks
jobs_kept s m = let it : Moved s (after s m) = move_of s m in
    ap jobs_of it.tasks ∙ map_map (λ (t : Task). t.job) it.by s.tasks
    ∙ map_same (λ t. (it.by t).job) (λ (t : Task). t.job) s.tasks (λ t _. it.job t)

-- what holds of all jobs holds of the job of each task
pub each_job : (P : JobFacts → Type 0) (tasks : List Task) → AllByRecursion P (jobs_of tasks)
    → Each (λ t. P t.job) tasks
each_job P tasks all t member = all_member P (jobs_of tasks) all t.job (map_member (λ x. x.job) tasks t member)

-- releases are in the order of numbers
ordered : (n : ℕ) (tasks : List Task) → IsNumberedFrom n tasks → ReleasesInOrder (jobs_of tasks)
    → EachTwo (λ t u. t.number ≤ u.number → t.job.release ≤ u.job.release) tasks
ordered n [] numbered order t u mt mu before = absurd mt
ordered n (x ∷ tasks) numbered order t u (inl e) (inl e2) before = let same : t.job.release ≡ u.job.release =
    ap (λ (y : Task). y.job.release) (e ∙ sym e2) in omega arith
ordered n (x ∷ tasks) numbered order t u (inl e) (inr mu) before =
    let later : x.job.release ≤ u.job.release = each_job (λ j. x.job.release ≤ j.release) tasks order.0 u mu in
    let same : t.job.release ≡ x.job.release = ap (λ (y : Task). y.job.release) e in omega arith
ordered n (x ∷ tasks) numbered order t u (inr mt) (inl e) before = absurd (
    let above : suc n ≤ t.number = numbers_above (suc n) tasks numbered.1 t mt in
    let here : u.number ≡ n = ap (λ (y : Task). y.number) e ∙ numbered.0 in omega arith)
ordered n (x ∷ tasks) numbered order t u (inr mt) (inr mu) before =
    ordered (suc n) tasks numbered.1 order.1 t u mt mu before

-- the tasks of a valid instance keep its limits
pub realistic : (J : Instance) → IsValid J → (s : State) → Keeps J s → Realistic s.tasks
realistic J valid s keeps = record {
  each = each_job IsJob s.tasks (subst (AllByRecursion IsJob) (sym keeps.jobs) (valid_parts valid).each);
  in_order = ordered 0 s.tasks keeps.sound.numbered (subst ReleasesInOrder (sym keeps.jobs)
      (valid_parts valid).in_order);
}

-- ---- the deeds

-- where one that runs has some left, each has
busy_one : (s : State) → IsSound s → (r : Task) → IsMember r s.tasks → r.role ≡ Running → 1 ≤ left r
    → Each (λ t. t.role ≡ Running → 1 ≤ left t) s.tasks
busy_one s sound r member runs some t m other =
    subst (λ x. 1 ≤ left x) (sym
    (one_number 0 s.tasks sound.numbered t r m member (sound.one_runs t r m member other runs))) some

-- the job that takes is unchanged by the displacement of the others
pub taker_there : (s : State) (x : Task) → IsMember x s.tasks → x.role ≡ Waiting
    → IsMember x (with_roles (λ t. displaced t.role) s.tasks)
taker_there s x member waiting =
    subst (λ role. IsMember (with_role x role) (with_roles (λ t. displaced t.role) s.tasks))
    (ap displaced waiting ∙ sym waiting)
    (map_member (λ t. with_role t (displaced t.role)) s.tasks x member)

module _ (s : State) (sound : IsSound s) (r x : Task) (member : IsMember r s.tasks) (runs : r.role ≡ Running)
    (some : 1 ≤ left r)
    (x_member : IsMember x s.tasks) (waiting : x.role ≡ Waiting)
    (stale : Each (λ t. t.role ≡ Fresh → ⊥) s.tasks) where
  -- the state in which all running and held jobs are displaced
  abbrev apart : State
  apart = state_in s (λ t. displaced t.role)

  -- it is sound
  apart_sound : IsSound apart
  apart_sound = displaced_sound s sound stale (busy_one s sound r member runs some)

  -- in it none runs or is held
  free : Each (λ t. (t.role ≡ Running) ⊎ (t.role ≡ Held) → ⊥) apart.tasks
  free = displaced_free s sound stale (busy_one s sound r member runs some)

  -- then the taker starts
  taken : IsSound (state_with apart x Running)
  taken = stays_sound apart apart_sound x Running (taker_there s x x_member waiting)
      (starts apart apart_sound x (taker_there s x x_member waiting) (λ t m e. free t m (inl e))
      (λ t m e. absurd (free t m (inr e)))
      (λ e. let f : Waiting ≡ Coming = sym waiting ∙ e in cc)
      (says s sound x x_member Waiting waiting).1
      (says s sound x x_member Waiting waiting).2
      (λ t m is_in. absurd (free t m (is_privileged_role t is_in))))

  -- a take keeps a sound state sound
  pub takes_sound : IsSound (after s (Prints (Take s.clock r.number x.number)))
  takes_sound = subst (λ (tasks : List Task). IsSound (record s { tasks = tasks }))
      (map_map (λ t. with_role t (changed x Running t)) (λ t. with_role t (displaced t.role)) s.tasks) taken

module _ (k : Fraction) (s : State) (other : Move) (sound : IsSound s) (real : Realistic s.tasks)
    (rested : Quiet s → IsSound (after s other)) where
  -- each deed keeps a sound state sound
  pub deed_sound : (m : Move) → Deed k s other m → IsSound (after s m)
  deed_sound m (Completed r member runs) =
      sound_pressing (s.pressed && list_any is_open_job (with_roles (changed r Done) s.tasks)) (state_with s r Done)
      (stays_sound s sound r Done member (completes s sound r member runs))
  deed_sound m (Resumed p member held none least why) =
      stays_sound s sound p Running member
      (resumes s sound p member held none least)
  deed_sound m (Started o member waiting none first fits next) = stays_sound s sound o Running member
      (starts s sound o member none first (λ e. let f : Waiting ≡ Coming = sym waiting ∙ e in cc)
      (says s sound o member Waiting waiting).1 (says s sound o member Waiting waiting).2 fits)
  deed_sound m (Began f member fresh none free) = stays_sound s sound f Running member
      (starts s sound f member none (λ t mt held. absurd (free t mt (passes is_ready_behind t Held true held refl)))
      (λ e. let g : Fresh ≡ Coming = sym fresh ∙ e in cc)
      (says s sound f member Fresh fresh).2
      (says s sound f member Fresh fresh).3
      (λ t mt is_in. absurd (by_active t mt (is_privileged_role t is_in)))) where
        by_active : (t : Task) → IsMember t s.tasks → (t.role ≡ Running) ⊎ (t.role ≡ Held) → ⊥
        by_active t mt (inl e) = none t mt e
        by_active t mt (inr e) = free t mt (passes is_ready_behind t Held true e refl)
  deed_sound m (Preempted r f member runs some f_member fresh before fits) =
      preempts_sound s sound r f member runs some f_member fresh before fits
  deed_sound m (Stayed r f member runs some f_member fresh why) =
      stays_sound s sound f Waiting f_member (waits s sound f f_member fresh)
  deed_sound m (Arrived c member comes now first stale busy free) =
      stays_sound s sound c Fresh member (arrives s sound c member comes now (real.each c member) first stale)
  deed_sound m (Taken r x member runs some x_member waiting now stale heavy) =
      takes_sound s sound r x member runs some x_member waiting stale
  deed_sound m (Abandoned r x member runs some x_member waiting now stale light) =
      sound_pressing true (state_with s x Gone) (stays_sound s sound x Gone x_member (abandons s sound x x_member
      waiting))
  deed_sound m (Rested quiet) = rested quiet

-- a deed leaves some job ready where it leaves the state pressed
pub deed_ready : (k : Fraction) (s : State) (other : Move) → IsSound s → HasReady s → HasReady (after s other)
    → (m : Move) → Deed k s other m → HasReady (after s m)
deed_ready k s other sound some rested m (Completed r member runs) both = (and_parts _ _ both).1
deed_ready k s other sound some rested m (Resumed p member held none least why) pressed =
    any_kept is_open_job _ (λ t. one_open Running (λ _. refl) (eqb t.number p.number) t t.role) s.tasks (some pressed)
deed_ready k s other sound some rested m (Started o member waiting none first fits next) pressed =
    any_kept is_open_job _ (λ t. one_open Running (λ _. refl) (eqb t.number o.number) t t.role) s.tasks (some pressed)
deed_ready k s other sound some rested m (Began f member fresh none free) pressed =
    any_kept is_open_job _ (λ t. one_open Running (λ _. refl) (eqb t.number f.number) t t.role) s.tasks (some pressed)
deed_ready k s other sound some rested m (Preempted r f member runs left_some f_member fresh before fits) pressed =
    any_kept is_open_job _ (λ t ready. one_open Running (λ _. refl) (eqb t.number f.number) t
    (cond (eqb t.number r.number) Held t.role)
    (one_open Held (λ _. refl) (eqb t.number r.number) t t.role ready)) s.tasks (some pressed)
deed_ready k s other sound some rested m (Stayed r f member runs left_some f_member fresh why) pressed =
    any_kept is_open_job _ (λ t. one_open Waiting (λ _. refl) (eqb t.number f.number) t t.role) s.tasks (some pressed)
deed_ready k s other sound some rested m (Arrived c member comes now first stale busy free) pressed =
    any_kept is_open_job _ (λ t. one_open Fresh (λ _. refl) (eqb t.number c.number) t t.role) s.tasks (some pressed)
deed_ready k s other sound some rested m (Taken r x member runs left_some x_member waiting now stale heavy) pressed =
    any_kept is_open_job _ (λ t ready. one_open Running (λ _. refl) (eqb t.number x.number) t (displaced t.role)
    (displaced_open t t.role ready)) s.tasks (some pressed)
deed_ready k s other sound some rested m (Abandoned r x member runs left_some x_member waiting now stale light) _ =
    any_member is_open_job (with_roles (changed x Gone) s.tasks) r
    (changed_there s.tasks x r Gone member (λ same. let one : r ≡ x =
    one_number 0 s.tasks sound.numbered r x member x_member same in
    let clash : Running ≡ Waiting = sym runs ∙ ap (λ (t : Task). t.role) one ∙ waiting in cc))
    (passes is_open_job r Running true runs refl)
deed_ready k s other sound some rested m (Rested quiet) pressed = rested pressed

-- a silent tick leaves ready jobs ready
pub ticks_ready : (s : State) → HasReady s → HasReady (after s Ticks)
ticks_ready s some pressed = any_kept is_open_job ticked (λ t ready. ready) s.tasks (some pressed)

-- End changes nothing
pub end_same : (s : State) (value : ℕ) → (after s (Prints (End value))).tasks ≡ s.tasks
end_same s value = map_self (λ t. with_role t t.role) s.tasks (λ t. refl)

module _ (J : Instance) (valid : IsValid J) (s : State) (keeps : Keeps J s) where
  -- the deed of a step
  pub step_deed : (rules : Rules) → Deed rules.ratio s (ending s or_else Ticks) (step rules s)
  step_deed rules = finish_deed rules.ratio s (ending s or_else Ticks) rules.finishes (declared_step rules s)
      (deed_of rules.ratio rules.version s (ending s or_else Ticks) keeps.sound (realistic J valid s keeps) _
      (step_case rules.ratio (view rules.version s) (ending s or_else Ticks)))

  -- the deed of an open step
  pub open_deed : (rules : Rules) → Deed rules.ratio s Ticks (open_step rules s)
  open_deed rules = finish_deed rules.ratio s Ticks rules.finishes (declared_open_step rules s)
      (deed_of rules.ratio rules.version s Ticks keeps.sound (realistic J valid s keeps) _
      (step_case rules.ratio (view rules.version s) Ticks))

  -- a deed keeps a sound state of the instance
  pub deed_kept : (k : Fraction) (m : Move) → Deed k s Ticks m → Keeps J (after s m)
  deed_kept k m deed = record {
    sound = deed_sound k s Ticks keeps.sound (realistic J valid s keeps) (ticks_sound s keeps.sound) m deed;
    jobs = jobs_kept s m ∙ keeps.jobs;
    pressed = deed_ready k s Ticks keeps.sound keeps.pressed (ticks_ready s keeps.pressed) m deed;
  }

  -- so does an open step
  pub open_kept : (rules : Rules) → Keeps J (after s (open_step rules s))
  open_kept rules = deed_kept rules.ratio (open_step rules s) (open_deed rules)

  -- a step keeps a sound state of the instance
  pub step_kept : (rules : Rules) → Keeps J (after s (step rules s))
  step_kept rules = record {
    sound = deed_sound rules.ratio s (ending s or_else Ticks) keeps.sound (realistic J valid s keeps)
        (by_end (list_all is_over s.tasks)) _
        (step_deed rules);
    jobs = jobs_kept s (step rules s) ∙ keeps.jobs;
    pressed = deed_ready rules.ratio s (ending s or_else Ticks) keeps.sound keeps.pressed
        (ready_end (list_all is_over s.tasks)) _ (step_deed rules);
  } where
    ready_end : (b : Bool)
        → HasReady (after s (then_some b (Prints (End (value_sum (filter is_done s.tasks)))) or_else Ticks))
    ready_end true pressed = any_kept is_open_job (λ t. with_role t t.role) (λ t ready. ready) s.tasks (keeps.pressed
        pressed)
    ready_end false pressed = ticks_ready s keeps.pressed pressed

    by_end : (b : Bool) → Quiet s
        → IsSound (after s (then_some b (Prints (End (value_sum (filter is_done s.tasks)))) or_else Ticks))
    by_end true quiet = subst (λ (tasks : List Task). IsSound (record s { tasks = tasks }))
        (sym (end_same s (value_sum (filter is_done s.tasks)))) keeps.sound
    by_end false quiet = ticks_sound s keeps.sound quiet

-- ---- the opening

-- jobs to come are numbered in a row
pub come_numbered : (n : ℕ) (jobs : List JobFacts) → IsNumberedFrom n (to_come n jobs)
come_numbered n [] = tt
come_numbered n (j ∷ jobs) = (refl, come_numbered (suc n) jobs)

-- the jobs of the jobs to come
pub come_jobs : (n : ℕ) (jobs : List JobFacts) → jobs_of (to_come n jobs) ≡ jobs
come_jobs n [] = refl
come_jobs n (j ∷ jobs) = ap (λ js. j ∷ js) (come_jobs (suc n) jobs)

-- jobs to come are to come, and had nothing
pub come_coming : (n : ℕ) (jobs : List JobFacts) → Each (λ t. (t.role ≡ Coming) × (t.had ≡ 0)) (to_come n jobs)
come_coming n [] t member = absurd member
come_coming n (j ∷ jobs) t (inl e) = subst (λ (x : Task). (x.role ≡ Coming) × (x.had ≡ 0)) (sym e) (refl, refl)
come_coming n (j ∷ jobs) t (inr member) = come_coming (suc n) jobs t member

-- the opening is a sound state of the instance
pub opening_keeps : (J : Instance) → Keeps J (opening J.jobs)
opening_keeps J = record {
  sound = record {
    numbered = come_numbered 0 J.jobs;
    at_most_work = λ t m. let none : t.had ≡ 0 = (facts t m).1 in omega arith;
    roles = λ t m. subst (λ role. FitsRole 0 role t) (sym (facts t m).0) ((facts t m).1, omega arith);
    coming_last = λ t u mt mu _ _. (facts u mu).0;
    one_runs = λ t u mt mu runs _. absurd (other Running (λ e. cc) t mt runs);
    one_fresh = λ t u mt mu fresh _. absurd (other Fresh (λ e. cc) t mt fresh);
    distinct = λ t u mt mu is_in _ _. absurd (out t mt is_in);
    running_first = λ t u mt mu runs _. absurd (other Running (λ e. cc) t mt runs);
    room = λ t mt is_in. absurd (out t mt is_in);
  };
  jobs = come_jobs 0 J.jobs;
  pressed = λ e. never e;
} where
  facts : Each (λ t. (t.role ≡ Coming) × (t.had ≡ 0)) (to_come 0 J.jobs)
  facts = come_coming 0 J.jobs

  other : (role : Role) → (Coming ≡ role → ⊥) → (t : Task) → IsMember t (to_come 0 J.jobs) → t.role ≡ role → ⊥
  other role apart t m e = apart (sym (facts t m).0 ∙ e)

  out : (t : Task) → IsMember t (to_come 0 J.jobs) → is_privileged t ≡ true → ⊥
  out t m is_in = never (sym (passes is_privileged t Coming false (facts t m).0 refl) ∙ is_in)
