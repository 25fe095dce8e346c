-- Every step of a valid instance on some processors keeps what every state keeps.
use Rattle.std.proofs.Common.{◌⊎◌, inl, inr, ◌≡◌, ℕ, ◌≤◌, ◌<◌, List, [], ◌∷◌, map, refl, sym, ap, ◌∙◌}
use Rattle.std.proofs.Common.{subst, Bool, true, false, cond}
use Rattle.std.proofs.Common.{eqb, eqb-true}
use Rattle.std.proofs.lemmas.Bool.{eqb-false}
use Rattle.dover_model.specs.declared.events.Event.{Event}
use Rattle.dover_model.specs.declared.events.Event.TheVariants.{Run, Preempt, Take, Complete, Abandon, End, Release}
use Rattle.dover_model.specs.declared.events.Task.{Task}
use Rattle.dover_model.specs.declared.events.Role.{Role}
use Rattle.dover_model.specs.declared.events.Version.{Version}
use Rattle.dover_model.specs.declared.events.Role.TheVariants.{Coming, Fresh, Waiting, Held, Running, Done, Gone}
use Rattle.dover_model.specs.Underload.{abandons}
use Rattle.dover_model.specs.JobFacts.{JobFacts}
use Rattle.dover_model.specs.Common.{Fraction, is_privileged, left, with_role, is_complete}
use Rattle.dover_model.specs.Common.{IsMember, Each, FitsRole, IsSound, Instance, IsValid, jobs_of}
use Rattle.dover_model.specs.State as one
use Rattle.dover_model.specs.Step as single
use Rattle.dover_model.proofs.lists.Tests.{never}
use Rattle.dover_model.proofs.lists.Members.{map_self}
use Rattle.dover_model.proofs.steps.Roles.{passes}
use Rattle.dover_model.proofs.steps.Deeds.{Realistic, Deed, Completed, Resumed, Started, Began, Preempted, Stayed}
use Rattle.dover_model.proofs.steps.Deeds.{Arrived}
use Rattle.dover_model.proofs.steps.Deeds.{Taken, Abandoned, Rested, deed_of}
use Rattle.dover_model.proofs.steps.Moves.{arrives}
use Rattle.dover_model.proofs.steps.OneChange.{stays_sound}
use Rattle.dover_model.proofs.steps.Kept.{deed_sound, realistic, end_same}
use Rattle.many_processors.specs.State.{Placed, State, tasks_of, seen_by, seen_from}
use Rattle.many_processors.specs.Step.{Move, Prints, Waits, on, placed_after, in_role, placed_on, is_own_of, seen}
use Rattle.many_processors.specs.Step.{after}
use Rattle.many_processors.specs.Sound.{Keeps}
use Rattle.many_processors.proofs.steps.Cases.{Acts}
use Rattle.many_processors.proofs.steps.Placing.{seen_same, off_seen, seen_member, off_member, one_placed, seen_own}
use Rattle.many_processors.proofs.steps.Kept.{off_role, seen_fits, job_released, one_goes, run_beside, preempt_beside}
use Rattle.many_processors.proofs.steps.Kept.{take_beside, same_after, run_after, preempt_after, take_after, seen_role}
use Rattle.many_processors.proofs.steps.Keeping.{changed_placed, one_off, run_changed, preempt_changed}
use Rattle.many_processors.proofs.steps.Keeping.{take_changed, jobs_stay, Changed, unchanged}

-- a state is sound by its clock and its tasks
pub sound_of : (s t : one.State) → s.clock ≡ t.clock → s.tasks ≡ t.tasks → IsSound s → IsSound t
sound_of s t same_clock same_tasks it = subst
    (λ c. IsSound (record { clock = c; tasks = t.tasks; pressed = t.pressed }))
    same_clock (subst (λ ts. IsSound (record { clock = s.clock; tasks = ts; pressed = t.pressed })) same_tasks
    (record {
      numbered = it.numbered;
      at_most_work = it.at_most_work;
      roles = it.roles;
      coming_last = it.coming_last;
      one_runs = it.one_runs;
      one_fresh = it.one_fresh;
      distinct = it.distinct;
      running_first = it.running_first;
      room = it.room;
    }))

-- the role that an event gives to a job, where it gives one
abbrev pub Gives : Event → Task → Role → Type 0
Gives (Release n job) t role = (t.number ≡ n) × (role ≡ Fresh)
Gives (Run at n) t role = (t.number ≡ n) × (role ≡ Running)
Gives (Preempt at r n) t role = ((t.number ≡ n) × (role ≡ Running)) ⊎ ((t.number ≡ r) × (role ≡ Held))
Gives (Take at r n) t role = ((t.number ≡ n) × (role ≡ Running)) ⊎ (role ≡ Waiting)
Gives (Complete at n) t role = (t.number ≡ n) × (role ≡ Done)
Gives (Abandon at n) t role = (t.number ≡ n) × (role ≡ Gone)
Gives (End value) t role = ⊥

-- the job u is t in a role that the event gives, or in its own
abbrev pub Becomes : Event → Task → Task → Type 0
Becomes e t u = (role : Role) × (u ≡ with_role t role) × ((role ≡ t.role) ⊎ Gives e t role)

-- a printed event changes no more of a job than its role
pub event_task : (q : ℕ) (e : Event) (p : Placed) → Becomes e p.task (placed_after q e p).task
event_task q (Release n job) p = by_test (eqb p.task.number n) refl where
  by_test : (b : Bool) → eqb p.task.number n ≡ b → Becomes (Release n job) p.task (cond b (in_role p Fresh) p).task
  by_test true same = (Fresh, refl, inr (eqb-true _ _ same, refl))
  by_test false other = (p.task.role, refl, inl refl)
event_task q (Run at n) p = by_test (eqb p.task.number n) refl where
  by_test : (b : Bool) → eqb p.task.number n ≡ b → Becomes (Run at n) p.task (cond b (placed_on q p) p).task
  by_test true same = (Running, refl, inr (eqb-true _ _ same, refl))
  by_test false other = (p.task.role, refl, inl refl)
event_task q (Preempt at r n) p = by_test (eqb p.task.number n) (eqb p.task.number r) refl refl where
  by_test : (b c : Bool) → eqb p.task.number n ≡ b → eqb p.task.number r ≡ c
      → Becomes (Preempt at r n) p.task (cond b (placed_on q p) (cond c (in_role p Held) p)).task
  by_test true c same other = (Running, refl, inr (inl (eqb-true _ _ same, refl)))
  by_test false true other same = (Held, refl, inr (inr (eqb-true _ _ same, refl)))
  by_test false false other others = (p.task.role, refl, inl refl)
event_task q (Take at r n) p = by_test (eqb p.task.number n) (is_own_of q p) refl where
  by_test : (b c : Bool) → eqb p.task.number n ≡ b
      → Becomes (Take at r n) p.task (cond b (placed_on q p) (cond c (in_role p Waiting) p)).task
  by_test true c same = (Running, refl, inr (inl (eqb-true _ _ same, refl)))
  by_test false true other = (Waiting, refl, inr (inr refl))
  by_test false false other = (p.task.role, refl, inl refl)
event_task q (Complete at n) p = by_test (eqb p.task.number n) refl where
  by_test : (b : Bool) → eqb p.task.number n ≡ b → Becomes (Complete at n) p.task (cond b (in_role p Done) p).task
  by_test true same = (Done, refl, inr (eqb-true _ _ same, refl))
  by_test false other = (p.task.role, refl, inl refl)
event_task q (Abandon at n) p = by_test (eqb p.task.number n) refl where
  by_test : (b : Bool) → eqb p.task.number n ≡ b → Becomes (Abandon at n) p.task (cond b (in_role p Gone) p).task
  by_test true same = (Gone, refl, inr (eqb-true _ _ same, refl))
  by_test false other = (p.task.role, refl, inl refl)
event_task q (End value) p = (p.task.role, refl, inl refl)

-- a role that the event doesn't give is the job's from before
pub role_stays : (e : Event) (t u : Task) (role : Role) → Becomes e t u → (Gives e t role → ⊥) → u.role ≡ role
    → t.role ≡ role
role_stays e t u role it other is = by_kind it.2 where
  new : it.0 ≡ role
  new = sym (ap (λ (x : Task). x.role) it.1) ∙ is

  by_kind : (it.0 ≡ t.role) ⊎ Gives e t it.0 → t.role ≡ role
  by_kind (inl same) = sym same ∙ new
  by_kind (inr gives) = absurd (other (subst (Gives e t) new gives))

-- no event gives Done but a completion
pub gives_done : (e : Event) (t : Task) → is_complete (single.Prints e) ≡ false → Gives e t Done → ⊥
gives_done (Release n job) t calm gives = let f : Done ≡ Fresh = gives.1 in cc
gives_done (Run at n) t calm gives = let f : Done ≡ Running = gives.1 in cc
gives_done (Preempt at r n) t calm (inl gives) = let f : Done ≡ Running = gives.1 in cc
gives_done (Preempt at r n) t calm (inr gives) = let f : Done ≡ Held = gives.1 in cc
gives_done (Take at r n) t calm (inl gives) = let f : Done ≡ Running = gives.1 in cc
gives_done (Take at r n) t calm (inr gives) = let f : Done ≡ Waiting = gives in cc
gives_done (Complete at n) t calm gives = never (sym calm)
gives_done (Abandon at n) t calm gives = let f : Done ≡ Gone = gives.1 in cc
gives_done (End value) t calm gives = gives

-- nor Gone but an abandonment
pub gives_gone : (e : Event) (t : Task) → abandons (single.Prints e) ≡ false → Gives e t Gone → ⊥
gives_gone (Release n job) t calm gives = let f : Gone ≡ Fresh = gives.1 in cc
gives_gone (Run at n) t calm gives = let f : Gone ≡ Running = gives.1 in cc
gives_gone (Preempt at r n) t calm (inl gives) = let f : Gone ≡ Running = gives.1 in cc
gives_gone (Preempt at r n) t calm (inr gives) = let f : Gone ≡ Held = gives.1 in cc
gives_gone (Take at r n) t calm (inl gives) = let f : Gone ≡ Running = gives.1 in cc
gives_gone (Take at r n) t calm (inr gives) = let f : Gone ≡ Waiting = gives in cc
gives_gone (Complete at n) t calm gives = let f : Gone ≡ Done = gives.1 in cc
gives_gone (Abandon at n) t calm gives = never (sym calm)
gives_gone (End value) t calm gives = gives

module _ (processors : ℕ) (J : Instance) (valid : IsValid J) (s : State) (keeps : Keeps processors J s) where
  -- the tasks of each processor keep the limits of the instance
  pub real : (q : ℕ) → Realistic (map (seen_by q) s.jobs)
  real q = realistic J valid calm (record { sound = calm_sound; jobs = same_jobs; pressed = λ e. never e }) where
    calm : one.State
    calm = record { clock = s.clock; tasks = map (seen_by q) s.jobs; pressed = false }

    calm_sound : IsSound (record { clock = s.clock; tasks = map (seen_by q) s.jobs; pressed = false })
    calm_sound = sound_of (seen_from q s) (record { clock = s.clock; tasks = map (seen_by q) s.jobs; pressed = false })
        refl refl (keeps.sound q)

    each : (jobs : List Placed) → jobs_of (map (seen_by q) jobs) ≡ jobs_of (tasks_of jobs)
    each [] = refl
    each (p ∷ jobs) = both ((seen_same q p).1) (each jobs) where
      both : {x y : JobFacts} → {xs ys : List JobFacts} → x ≡ y → xs ≡ ys → x ∷ xs ≡ y ∷ ys
      both {x} {y} {xs} {ys} e f = ap (λ z. z ∷ xs) e ∙ ap (λ zs. y ∷ zs) f

    same_jobs : jobs_of (map (seen_by q) s.jobs) ≡ J.jobs
    same_jobs = each s.jobs ∙ keeps.jobs

  -- a job by its number
  pub same_job : (p u : Placed) → IsMember p s.jobs → IsMember u s.jobs → p.task.number ≡ u.task.number → p ≡ u
  same_job = one_placed 0 0 s.jobs (keeps.sound 0).numbered

  -- the state after an event, as it is sound and placed
  event_keeps : (i : ℕ) (e : Event)
      → ((q : ℕ) → IsSound (one.state_at s.clock (map (seen_by q) (map (placed_after i e) s.jobs))))
      → Each (Changed processors (placed_after i e)) s.jobs
      → Keeps processors J (after s (Prints i e))
  event_keeps i e sound changed = record {
    sound = λ q. sound_of (one.state_at s.clock (map (seen_by q) (map (placed_after i e) s.jobs)))
        (seen_from q (after s (Prints i e))) refl refl (sound q);
    jobs = jobs_stay (placed_after i e) s.jobs (λ p member. ap (λ (t : Task). t.job) (event_task i e p).1) ∙ keeps.jobs;
    placed = changed_placed processors s keeps.placed (placed_after i e) s.clock _ changed;
  }

  -- a job that is done
  pub completes_kept : (i at : ℕ) (x : Placed) → IsMember x s.jobs → (x.task.role ≡ Coming → ⊥)
      → Keeps processors J (after s (Prints i (Complete at x.task.number)))
  completes_kept i at x member came = event_keeps i (Complete at x.task.number)
      (one_goes s keeps.sound x.task.number Done (λ e. cc) (λ e. cc)
      (λ p mp same. let is_x : x ≡ p = same_job x p member mp (sym same) in
      let p_came : p.task.role ≡ Coming → ⊥ = subst (λ (y : Placed). y.task.role ≡ Coming → ⊥) is_x came in
      (p_came, refl, job_released s keeps.sound p mp p_came)))
      (one_off processors s keeps.placed x.task.number Done (λ p. refl))

  -- a job that is abandoned
  abandons_kept : (i at : ℕ) (x : Placed) → IsMember x s.jobs → x.task.role ≡ Waiting
      → Keeps processors J (after s (Prints i (Abandon at x.task.number)))
  abandons_kept i at x member waits = event_keeps i (Abandon at x.task.number)
      (one_goes s keeps.sound x.task.number Gone (λ e. cc) (λ e. cc)
      (λ p mp same. let is_x : x ≡ p = same_job x p member mp (sym same) in
      let p_waits : p.task.role ≡ Waiting = subst (λ (y : Placed). y.task.role ≡ Waiting) is_x waits in
      let fits = waiting_fits p mp p_waits in
      (λ e. absurd (let f : Waiting ≡ Coming = sym p_waits ∙ e in cc), refl, (fits.0, fits.1))))
      (one_off processors s keeps.placed x.task.number Gone (λ p. refl)) where
        waiting_fits : (p : Placed) → IsMember p s.jobs → p.task.role ≡ Waiting → FitsRole s.clock Waiting p.task
        waiting_fits p mp waits =
            subst (λ role. FitsRole s.clock role p.task) waits
            (subst (λ t. FitsRole s.clock t.role t)
            (off_seen 0 p (passes is_privileged p.task Waiting false waits refl))
            (seen_fits s keeps.sound 0 p mp))

  -- a fresh job that waits
  waits_kept : (x : Placed) → IsMember x s.jobs → x.task.role ≡ Fresh
      → Keeps processors J (after s (Waits x.task.number))
  waits_kept x member fresh = record {
    sound = λ q. sound_of (one.state_at s.clock
        (map (seen_by q) (map (λ p. cond (eqb p.task.number x.task.number) (in_role p Waiting) p) s.jobs)))
        (seen_from q (after s (Waits x.task.number))) refl refl
        (one_goes s keeps.sound x.task.number Waiting (λ e. cc) (λ e. cc)
        (λ p mp same. let is_x : x ≡ p = same_job x p member mp (sym same) in
        let p_fresh : p.task.role ≡ Fresh = subst (λ (y : Placed). y.task.role ≡ Fresh) is_x fresh in
        let fits = fresh_fits p mp p_fresh in
        (λ e. absurd (let f : Fresh ≡ Coming = sym p_fresh ∙ e in cc), refl, (fits.1, fits.2, fits.3))) q);
    jobs = jobs_stay (λ p. cond (eqb p.task.number x.task.number) (in_role p Waiting) p) s.jobs
        (λ p member. by_test p (eqb p.task.number x.task.number)) ∙ keeps.jobs;
    placed = changed_placed processors s keeps.placed
        (λ p. cond (eqb p.task.number x.task.number) (in_role p Waiting) p)
        s.clock _ (one_off processors s keeps.placed x.task.number Waiting (λ p. refl));
  } where
    by_test : (p : Placed) (b : Bool) → (cond b (in_role p Waiting) p).task.job ≡ p.task.job
    by_test p true = refl
    by_test p false = refl

    fresh_fits : (p : Placed) → IsMember p s.jobs → p.task.role ≡ Fresh → FitsRole s.clock Fresh p.task
    fresh_fits p mp fresh =
        subst (λ role. FitsRole s.clock role p.task) fresh
        (subst (λ t. FitsRole s.clock t.role t) (off_seen 0 p (passes is_privileged p.task Fresh false fresh refl))
        (seen_fits s keeps.sound 0 p mp))

  -- a job that is released
  releases_kept : (i n : ℕ) (job : JobFacts) (x : Placed) → IsMember x s.jobs → x.task.role ≡ Coming
      → x.task.job.release ≡ s.clock → n ≡ x.task.number
      → Each (λ t. t.role ≡ Coming → x.task.number ≤ t.number) (map (seen_by i) s.jobs)
      → Each (λ t. t.role ≡ Fresh → ⊥) (map (seen_by i) s.jobs)
      → Keeps processors J (after s (Prints i (Release n job)))
  releases_kept i n job x member comes now is_n first stale = event_keeps i (Release n job) sound
      (one_off processors s keeps.placed n Fresh (λ p. refl)) where
        x_member : (q : ℕ) → IsMember x.task (map (seen_by q) s.jobs)
        x_member q = off_member q s.jobs x member (passes is_privileged x.task Coming false comes refl)

        -- what is seen by one in such a role is seen by each
        moved : (q : ℕ) (role : Role) → (role ≡ Done → ⊥) → ((t : Task) → t.role ≡ role → is_privileged t ≡ false)
            → (t : Task) → t.role ≡ role → IsMember t (map (seen_by q) s.jobs) → IsMember t (map (seen_by i) s.jobs)
        moved q role other off t e mt =
            let it = seen_member q s.jobs t role other e mt in
            subst (λ u. IsMember u (map (seen_by i) s.jobs)) it.2
            (off_member i s.jobs it.0 it.1 (off it.0.task (ap (λ (u : Task). u.role) it.2 ∙ e)))

        allowed : (q : ℕ) → IsSound (record (seen_from q s) {
          tasks = map (λ t. with_role t
              (cond (eqb t.number x.task.number) Fresh t.role)) (map (seen_by q) s.jobs);
        })
        allowed q = stays_sound (seen_from q s) (keeps.sound q) x.task Fresh (x_member q)
            (arrives (seen_from q s) (keeps.sound q) x.task (x_member q) comes now
            ((real q).each x.task (x_member q))
            (λ t mt e. first t (moved q Coming (λ e. cc) (λ u f. passes is_privileged u Coming false f refl) t e mt) e)
            (λ t mt e. stale t (moved q Fresh (λ e. cc) (λ u f. passes is_privileged u Fresh false f refl) t e mt) e))

        sound : (q : ℕ) → IsSound (one.state_at s.clock (map (seen_by q) (map (placed_after i (Release n job)) s.jobs)))
        sound q = sound_of (record (seen_from q s) {
          tasks = map (λ t. with_role t
              (cond (eqb t.number x.task.number) Fresh t.role)) (map (seen_by q) s.jobs);
        })
            (one.state_at s.clock (map (seen_by q) (map (placed_after i (Release n job)) s.jobs))) refl
            (ap (λ k. map (λ t. with_role t (cond (eqb t.number k) Fresh t.role)) (map (seen_by q) s.jobs)) (sym is_n)
            ∙ sym (same_after q (placed_after i (Release n job)) (Release n job) s.jobs
            (λ p mp. by_number p (eqb p.task.number n)))) (allowed q) where
              by_number : (p : Placed) (b : Bool) → seen_by q (cond b (in_role p Fresh) p)
                  ≡ with_role (seen_by q p) (cond b Fresh (seen_by q p).role)
              by_number p true = off_role p Fresh refl q ∙ sym (seen_role q p Fresh)
              by_number p false = refl

  -- nothing happens
  pub ends_kept : (i value : ℕ) → Keeps processors J (after s (Prints i (End value)))
  ends_kept i value = event_keeps i (End value)
      (λ q. sound_of (seen_from q s) (one.state_at s.clock (map (seen_by q) (map (placed_after i (End value)) s.jobs)))
      refl (ap (map (seen_by q)) (sym (map_self (λ p. p) s.jobs (λ p. refl)))) (keeps.sound q))
      (λ p member. unchanged processors s keeps.placed (placed_after i (End value)) p member refl)

  module _ (some_left : Each (λ p. is_privileged p.task ≡ true → 1 ≤ left p.task) s.jobs) (i : ℕ)
      (low : i < processors) where
    -- either processor i or another
    by_processor : (tasks : ℕ → List Task) → IsSound (one.state_at s.clock (tasks i))
        → ((q : ℕ) → (i ≡ q → ⊥) → IsSound (one.state_at s.clock (tasks q)))
        → (q : ℕ) → IsSound (one.state_at s.clock (tasks q))
    by_processor tasks here others q = by_test (eqb i q) refl where
      by_test : (b : Bool) → eqb i q ≡ b → IsSound (one.state_at s.clock (tasks q))
      by_test true e = subst (λ k. IsSound (one.state_at s.clock (tasks k))) (eqb-true _ _ e) here
      by_test false e = others q (eqb-false _ _ e)

    -- a job that begins on i, or goes on there
    runs_kept : (at n : ℕ) → Each (λ p. p.task.number ≡ n → p.task.role ≡ Coming → ⊥) s.jobs
        → IsSound (single.after (seen_from i s) (single.Prints (Run at n)))
        → Keeps processors J (after s (Prints i (Run at n)))
    runs_kept at n came here = event_keeps i (Run at n)
        (by_processor (λ q. map (seen_by q) (map (placed_after i (Run at n)) s.jobs))
        (sound_of (single.after (seen_from i s) (single.Prints (Run at n)))
        (one.state_at s.clock (map (seen_by i) (map (placed_after i (Run at n)) s.jobs))) refl
        (sym (run_after i at n s.jobs)) here)
        (λ q other. run_beside s keeps.sound some_left i q other at n came))
        (run_changed processors s keeps.placed i low at n)

    -- the job x runs there
    module _ (x : Placed) (x_member : IsMember x s.jobs) (x_runs : x.task.role ≡ Running) (own : x.owner ≡ i) where
      -- it is the one of its number
      is_one : Each (λ p. p.task.number ≡ x.task.number → (is_privileged p.task ≡ true) × (p.owner ≡ i)) s.jobs
      is_one p member same =
          let is_x : x ≡ p = same_job x p x_member member (sym same) in
          subst (λ (y : Placed). (is_privileged y.task ≡ true) × (y.owner ≡ i)) is_x
          (passes is_privileged x.task Running true x_runs refl, own)

      -- one that preempts it
      preempts_kept : (at n : ℕ) → Each (λ p. p.task.number ≡ n → p.task.role ≡ Coming → ⊥) s.jobs
          → IsSound (single.after (seen_from i s) (single.Prints (Preempt at x.task.number n)))
          → Keeps processors J (after s (Prints i (Preempt at x.task.number n)))
      preempts_kept at n came here = event_keeps i (Preempt at x.task.number n)
          (by_processor (λ q. map (seen_by q) (map (placed_after i (Preempt at x.task.number n)) s.jobs))
          (sound_of (single.after (seen_from i s) (single.Prints (Preempt at x.task.number n)))
          (one.state_at s.clock (map (seen_by i) (map (placed_after i (Preempt at x.task.number n)) s.jobs))) refl
          (sym (preempt_after i at x.task.number n s.jobs (λ p member same. (is_one p member same).1))) here)
          (λ q other. preempt_beside s keeps.sound some_left i q other at x.task.number n came is_one)) changed where
            changed : Each (Changed processors (placed_after i (Preempt at x.task.number n))) s.jobs
            changed = preempt_changed processors s keeps.placed i low at x.task.number n
                (λ p member same. (is_one p member same).0)

      -- one that takes from it
      takes_kept : (at r n : ℕ) → Each (λ p. p.task.number ≡ n → p.task.role ≡ Coming → ⊥) s.jobs
          → IsSound (single.after (seen_from i s) (single.Prints (Take at r n)))
          → Keeps processors J (after s (Prints i (Take at r n)))
      takes_kept at r n came here = event_keeps i (Take at r n)
          (by_processor (λ q. map (seen_by q) (map (placed_after i (Take at r n)) s.jobs))
          (sound_of (single.after (seen_from i s) (single.Prints (Take at r n)))
          (one.state_at s.clock (map (seen_by i) (map (placed_after i (Take at r n)) s.jobs))) refl
          (sym (take_after i at r n s.jobs)) here)
          (λ q other. take_beside s keeps.sound some_left i q other at r n came)) changed where
            changed : Each (Changed processors (placed_after i (Take at r n))) s.jobs
            changed = take_changed processors s keeps.placed i low at r n

-- ---- what one processor does

module _ (processors : ℕ) (J : Instance) (valid : IsValid J) (s : State) (keeps : Keeps processors J s)
    (some_left : Each (λ p. is_privileged p.task ≡ true → 1 ≤ left p.task) s.jobs) (k : Fraction) (i : ℕ)
    (low : i < processors) where
  -- what is left where nothing else is done
  abbrev no_move : single.Move
  no_move = single.Prints (End 0)

  -- a deed keeps the state of the processor sound
  here : (m : single.Move) → Deed k (seen_from i s) no_move m → IsSound (single.after (seen_from i s) m)
  here = deed_sound k (seen_from i s) no_move (keeps.sound i) (real processors J valid s keeps i)
      (λ quiet. sound_of (seen_from i s) (single.after (seen_from i s) no_move) refl (sym (end_same (seen_from i s) 0))
      (keeps.sound i))

  -- a job of a number that a member of what the processor sees has
  came_one : (t : Task) → IsMember t (map (seen_by i) s.jobs) → (role : Role) → (role ≡ Done → ⊥) → (role ≡ Coming → ⊥)
      → t.role ≡ role → Each (λ p. p.task.number ≡ t.number → p.task.role ≡ Coming → ⊥) s.jobs
  came_one t member role other came e p mp same comes =
      let x = seen_member i s.jobs t role other e member in
      let is_x : p ≡ x.0 = same_job processors J valid s keeps p x.0 mp x.1 (same
      ∙ sym (ap (λ (u : Task). u.number) x.2)) in
      came (sym e ∙ sym (ap (λ (u : Task). u.role) x.2) ∙ sym (ap (λ (y : Placed). y.task.role) is_x) ∙ comes)

  -- the running job that the processor sees is one of its own
  own_one : (r : Task) → IsMember r (map (seen_by i) s.jobs) → r.role ≡ Running
      → (x : Placed) × IsMember x s.jobs × (x.task ≡ r) × (x.owner ≡ i)
  own_one r member runs =
      let x = seen_member i s.jobs r Running (λ e. cc) runs member in
      let own = seen_own i x.0 (ap is_privileged x.3 ∙ passes is_privileged r Running true runs refl) in
      (x.0, x.1, x.2, own.1)

  -- each deed keeps what a state keeps
  pub deed_kept : (m : single.Move) → Deed k (seen_from i s) no_move m → Keeps processors J (after s (on i m))
  deed_kept m (Completed r member runs) =
      let x = own_one r member runs in
      subst (λ (t : Task). Keeps processors J (after s (Prints i (Complete s.clock t.number)))) x.2
      (completes_kept processors J valid s keeps i s.clock x.0 x.1
      (λ e. let f : Running ≡ Coming = sym runs ∙ sym (ap (λ (u : Task). u.role) x.2) ∙ e in cc))
  deed_kept m (Resumed p member held none least why) =
      runs_kept processors J valid s keeps some_left i low s.clock p.number
      (came_one p member Held (λ e. cc) (λ e. cc) held)
      (here (single.Prints (Run s.clock p.number)) (Resumed p member held none least why))
  deed_kept m (Started o member waits none first fits next) =
      runs_kept processors J valid s keeps some_left i low s.clock o.number
      (came_one o member Waiting (λ e. cc) (λ e. cc) waits)
      (here (single.Prints (Run s.clock o.number)) (Started o member waits none first fits next))
  deed_kept m (Began f member fresh none free) =
      runs_kept processors J valid s keeps some_left i low s.clock f.number
      (came_one f member Fresh (λ e. cc) (λ e. cc) fresh)
      (here (single.Prints (Run s.clock f.number)) (Began f member fresh none free))
  deed_kept m (Preempted r f member runs some f_member fresh before fits) =
      let x = own_one r member runs in
      subst (λ n. Keeps processors J (after s (Prints i (Preempt s.clock n f.number))))
      (ap (λ (u : Task). u.number) x.2)
      (preempts_kept processors J valid s keeps some_left i low x.0 x.1 (ap (λ (u : Task). u.role) x.2 ∙ runs) x.3
      s.clock f.number (came_one f f_member Fresh (λ e. cc) (λ e. cc) fresh)
      (subst (λ n. IsSound (single.after (seen_from i s) (single.Prints (Preempt s.clock n f.number))))
      (sym (ap (λ (u : Task). u.number) x.2))
      (here (single.Prints (Preempt s.clock r.number f.number))
      (Preempted r f member runs some f_member fresh before fits))))
  deed_kept m (Stayed r f member runs some f_member fresh why) =
      let x = seen_member i s.jobs f Fresh (λ e. cc) fresh f_member in
      subst (λ (t : Task). Keeps processors J (after s (Waits t.number))) x.2
      (waits_kept processors J valid s keeps x.0 x.1 (ap (λ (u : Task). u.role) x.2 ∙ fresh))
  deed_kept m (Arrived c member comes now first stale busy free) =
      let x = seen_member i s.jobs c Coming (λ e. cc) comes member in
      releases_kept processors J valid s keeps i c.number c.job x.0 x.1 (ap (λ (u : Task). u.role) x.2 ∙ comes)
      (ap (λ (u : Task). u.job.release) x.2 ∙ now) (sym (ap (λ (u : Task). u.number) x.2))
      (λ t mt e. subst (λ n. n ≤ t.number) (sym (ap (λ (u : Task). u.number) x.2)) (first t mt e)) stale
  deed_kept m (Taken r x member runs some x_member waits now stale heavy) =
      let y = own_one r member runs in
      takes_kept processors J valid s keeps some_left i low y.0 y.1 (ap (λ (u : Task). u.role) y.2 ∙ runs) y.3
      s.clock r.number x.number (came_one x x_member Waiting (λ e. cc) (λ e. cc) waits)
      (here (single.Prints (Take s.clock r.number x.number))
      (Taken r x member runs some x_member waits now stale heavy))
  deed_kept m (Abandoned r x member runs some x_member waits now stale light) =
      let y = seen_member i s.jobs x Waiting (λ e. cc) waits x_member in
      subst (λ (t : Task). Keeps processors J (after s (Prints i (Abandon s.clock t.number)))) y.2
      (abandons_kept processors J valid s keeps i s.clock y.0 y.1 (ap (λ (u : Task). u.role) y.2 ∙ waits))
  deed_kept m (Rested quiet) = ends_kept processors J valid s keeps i 0

  -- so does a case of a step on the processor
  pub acts_kept : (version : Version) (gone : Bool) (m : Move) → Acts k (seen version s i) gone m
      → Keeps processors J (after s m)
  acts_kept version gone m acts = subst (λ (x : Move). Keeps processors J (after s x)) (sym acts.is)
      (deed_kept acts.move
      (deed_of k version (seen_from i s) no_move (keeps.sound i) (real processors J valid s keeps i)
      acts.move acts.case))
