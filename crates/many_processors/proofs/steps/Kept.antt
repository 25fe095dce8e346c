-- Every step of a valid instance keeps a state sound, as each processor sees it.
use Rattle.std.proofs.Common.{◌≡◌, ℕ, ◌+◌, ◌≤◌, ◌⊎◌, inl, inr, List, map, refl, sym, ap, ◌∙◌}
use Rattle.std.proofs.Common.{subst, Bool, true, false, cond, arith, ◌&&◌, not, ◌==◌}
use Rattle.std.proofs.Common.{eqb, eqb-true, eq-eqb, ne_eqb}
use Rattle.std.proofs.lemmas.Bool.{and_parts}
use Rattle.dover_model.specs.declared.events.Event.{Event}
use Rattle.dover_model.specs.declared.events.Event.TheVariants.{Run, Preempt, Take}
use Rattle.dover_model.specs.declared.events.Task.{Task}
use Rattle.dover_model.specs.declared.events.Role.{Role}
use Rattle.dover_model.specs.declared.events.Role.TheVariants.{Coming, Fresh, Waiting, Held, Running, Done, Gone}
use Rattle.dover_model.specs.Common.{is_privileged, left, with_role, IsMember, Each}
use Rattle.dover_model.specs.Common.{FitsRole, IsSound, displaced}
use Rattle.dover_model.specs.State.{state_at}
use Rattle.dover_model.specs.Step as single
use Rattle.dover_model.proofs.lists.Tests.{never}
use Rattle.dover_model.proofs.lists.Members.{map_member, map_map, map_same}
use Rattle.dover_model.proofs.steps.Roles.{passes, is_privileged_role}
use Rattle.dover_model.proofs.steps.Moves.{active_slack}
use Rattle.many_processors.specs.State.{Placed, State, is_elsewhere, seen_by, seen_from}
use Rattle.many_processors.specs.Step.{placed_after, in_role, placed_on}
use Rattle.many_processors.specs.Step.{is_own_of}
use Rattle.many_processors.proofs.steps.Beside.{Beside, Side, beside_sound}
use Rattle.many_processors.proofs.steps.Placing.{seen_same, off_seen, own_seen, seen_is, seen_own}

-- who has come is released
pub released : (clock : ℕ) (role : Role) (t : Task) → FitsRole clock role t → (role ≡ Coming → ⊥) → t.job.release
    ≤ clock
released clock Coming t fits came = absurd (came refl)
released clock Fresh t fits came = fits.2
released clock Waiting t fits came = fits.1
released clock Held t fits came = fits.1
released clock Running t fits came = fits
released clock Done t fits came = fits
released clock Gone t fits came = fits.1

-- a role on no processor
pub off_role : (p : Placed) (role : Role) → is_privileged (with_role p.task role) ≡ false → (q : ℕ)
    → seen_by q (in_role p role) ≡ with_role p.task role
off_role p role off q = off_seen q (in_role p role) off

-- ---- what is beside

module _ (s : State) (sound : (q : ℕ) → IsSound (seen_from q s)) where
  -- what a processor knows of a job by the role in which it sees it
  pub seen_fits : (q : ℕ) → Each (λ p. FitsRole s.clock (seen_by q p).role (seen_by q p)) s.jobs
  seen_fits q p member = (sound q).roles (seen_by q p) (map_member (seen_by q) s.jobs p member)

  -- a job had no more than its work
  pub had_most : Each (λ p. p.task.had ≤ p.task.job.work) s.jobs
  had_most p member =
      let it = seen_same 0 p in
      omega (
        arith,
        (sound 0).at_most_work (seen_by 0 p) (map_member (seen_by 0) s.jobs p member),
        it.2,
        ap (λ (j : _). j.work) it.1,
      )

  -- a job that has come is seen as one that has
  pub seen_came : (q : ℕ) (p : Placed) → (p.task.role ≡ Coming → ⊥) → (seen_by q p).role ≡ Coming → ⊥
  seen_came q p came e = came
      (sym (ap (λ (t : Task). t.role) (seen_is q p (λ d. let f : Coming ≡ Done = sym e ∙ d in cc)))
      ∙ e)

  -- it is released
  pub job_released : Each (λ p. (p.task.role ≡ Coming → ⊥) → p.task.job.release ≤ s.clock) s.jobs
  job_released p member came =
      omega (
        arith,
        released s.clock (seen_by 0 p).role (seen_by 0 p) (seen_fits 0 p member) (seen_came 0 p came),
        ap (λ (j : _). j.release) (seen_same 0 p).1,
      )

  -- a job that has come, as over
  pub goes_over : (q : ℕ)
      → Each (λ p. (p.task.role ≡ Coming → ⊥) → Beside s.clock (seen_by q p) (with_role p.task Done))
      s.jobs
  goes_over q p member came = record {
    number = sym (seen_same q p).0;
    out = refl;
    came = seen_came q p came;
    comes = λ e. cc;
    stale = λ e. cc;
    at_most_work = had_most p member;
    fits = job_released p member came;
  }

  -- a job in another role than Coming and Fresh, on no processor
  pub goes_off : (q : ℕ) (role : Role) → (role ≡ Coming → ⊥) → (role ≡ Fresh → ⊥)
      → Each (λ p. (p.task.role ≡ Coming → ⊥) → is_privileged (with_role p.task role) ≡ false
      → FitsRole s.clock role (with_role p.task role) → Beside s.clock (seen_by q p) (with_role p.task role)) s.jobs
  goes_off q role not_coming not_fresh p member came off fits = record {
    number = sym (seen_same q p).0;
    out = off;
    came = seen_came q p came;
    comes = not_coming;
    stale = not_fresh;
    at_most_work = had_most p member;
    fits = fits;
  }

  -- a change of the jobs that leaves each as it is, or is beside
  pub jobs_beside : (q : ℕ) (h : Placed → Placed) → Each (λ p. Side s.clock (seen_by q p) (seen_by q (h p))) s.jobs
      → IsSound (state_at s.clock (map (seen_by q) (map h s.jobs)))
  jobs_beside q h side = subst (λ ts. IsSound (state_at s.clock ts)) (sym (map_map (seen_by q) h s.jobs))
      (beside_sound s.clock (seen_by q) (λ p. seen_by q (h p)) s.jobs side (still (sound q))) where
        still : IsSound (seen_from q s) → IsSound (state_at s.clock (map (seen_by q) s.jobs))
        still it = record {
          numbered = it.numbered;
          at_most_work = it.at_most_work;
          roles = it.roles;
          coming_last = it.coming_last;
          one_runs = it.one_runs;
          one_fresh = it.one_fresh;
          distinct = it.distinct;
          running_first = it.running_first;
          room = it.room;
        }

  -- ---- one job changes, beside each processor

  -- the job of number n in a role on no processor, to which it fits
  pub one_goes : (n : ℕ) (role : Role) → (role ≡ Coming → ⊥) → (role ≡ Fresh → ⊥)
      → Each (λ p. p.task.number ≡ n → (p.task.role ≡ Coming → ⊥) × (is_privileged (with_role p.task role) ≡ false)
      × FitsRole s.clock role (with_role p.task role)) s.jobs
      → (q : ℕ) → IsSound (state_at s.clock
      (map (seen_by q) (map (λ p. cond (eqb p.task.number n) (in_role p role) p) s.jobs)))
  one_goes n role not_coming not_fresh all q = jobs_beside q (λ p. cond (eqb p.task.number n) (in_role p role) p)
      (λ p member. by_number p member (eqb p.task.number n) refl) where
        by_number : (p : Placed) → IsMember p s.jobs → (b : Bool) → eqb p.task.number n ≡ b
            → Side s.clock (seen_by q p) (seen_by q (cond b (in_role p role) p))
        by_number p member false e = inl refl
        by_number p member true e =
            let it = all p member (eqb-true _ _ e) in
            inr (subst (Beside s.clock (seen_by q p)) (sym (off_role p role it.1 q))
            (goes_off q role not_coming not_fresh p member it.0 it.1 it.2))

-- ---- what happens on processor i, as others see it

module _ (s : State) (sound : (q : ℕ) → IsSound (seen_from q s))
    (some_left : Each (λ p. is_privileged p.task ≡ true → 1 ≤ left p.task) s.jobs)
    (i q : ℕ) (other : i ≡ q → ⊥) where
  -- a job that runs on i or is held by it is over for them
  elsewhere : (p : Placed) → is_privileged p.task ≡ true → p.owner ≡ i → seen_by q p ≡ with_role p.task Done
  elsewhere p on own = ap (λ b. cond b (with_role p.task Done) p.task)
      (first (is_privileged p.task) (p.owner == q) on (ne_eqb _ _ (λ e. other (sym own ∙ e)))) where
        first : (a b : Bool) → a ≡ true → b ≡ false → (a && not b) ≡ true
        first true false e f = refl
        first true true e f = never (sym f)
        first false b e f = never e

  -- a job that gets processor i
  gets : Each (λ p. (p.task.role ≡ Coming → ⊥) → Side s.clock (seen_by q p) (seen_by q (placed_on i p))) s.jobs
  gets p member came = inr (subst (Beside s.clock (seen_by q p)) (sym (elsewhere (placed_on i p) refl refl))
      (goes_over s sound q p member came))

  -- a job that begins on i, or goes on there
  pub run_beside : (at n : ℕ) → Each (λ p. p.task.number ≡ n → p.task.role ≡ Coming → ⊥) s.jobs
      → IsSound (state_at s.clock (map (seen_by q) (map (placed_after i (Run at n)) s.jobs)))
  run_beside at n came = jobs_beside s sound q (placed_after i (Run at n))
      (λ p member. by_number p member (eqb p.task.number n) refl) where
        by_number : (p : Placed) → IsMember p s.jobs → (b : Bool) → eqb p.task.number n ≡ b
            → Side s.clock (seen_by q p) (seen_by q (cond b (placed_on i p) p))
        by_number p member true e = gets p member (came p member (eqb-true _ _ e))
        by_number p member false e = inl refl

  -- one that preempts the job r, which runs there
  pub preempt_beside : (at r n : ℕ) → Each (λ p. p.task.number ≡ n → p.task.role ≡ Coming → ⊥) s.jobs
      → Each (λ p. p.task.number ≡ r → (is_privileged p.task ≡ true) × (p.owner ≡ i)) s.jobs
      → IsSound (state_at s.clock (map (seen_by q) (map (placed_after i (Preempt at r n)) s.jobs)))
  preempt_beside at r n came runs = jobs_beside s sound q (placed_after i (Preempt at r n))
      (λ p member. by_number p member (eqb p.task.number n) (eqb p.task.number r) refl refl) where
        by_number : (p : Placed) → IsMember p s.jobs → (b c : Bool) → eqb p.task.number n ≡ b → eqb p.task.number r ≡ c
            → Side s.clock (seen_by q p) (seen_by q (cond b (placed_on i p) (cond c (in_role p Held) p)))
        by_number p member true c e f = gets p member (came p member (eqb-true _ _ e))
        by_number p member false false e f = inl refl
        by_number p member false true e f =
            let it = runs p member (eqb-true _ _ f) in
            inl (elsewhere (in_role p Held) refl it.1 ∙ sym (elsewhere p it.0 it.1))

  -- one that takes it
  pub take_beside : (at r n : ℕ) → Each (λ p. p.task.number ≡ n → p.task.role ≡ Coming → ⊥) s.jobs
      → IsSound (state_at s.clock (map (seen_by q) (map (placed_after i (Take at r n)) s.jobs)))
  take_beside at r n came = jobs_beside s sound q (placed_after i (Take at r n))
      (λ p member. by_number p member (eqb p.task.number n) (is_own_of i p) refl refl) where
        by_number : (p : Placed) → IsMember p s.jobs → (b c : Bool) → eqb p.task.number n ≡ b → is_own_of i p ≡ c
            → Side s.clock (seen_by q p) (seen_by q (cond b (placed_on i p) (cond c (in_role p Waiting) p)))
        by_number p member true c e f = gets p member (came p member (eqb-true _ _ e))
        by_number p member false false e f = inl refl
        by_number p member false true e f =
            let it = and_parts (is_privileged p.task) (p.owner == i) f in
            let own : p.owner ≡ i = eqb-true _ _ it.1 in
            let seen : seen_by i p ≡ p.task = own_seen i p own in
            let came : p.task.role ≡ Coming → ⊥ =
            λ comes. never (sym (passes is_privileged p.task Coming false comes refl) ∙ it.0) in
            let slack : s.clock + left p.task ≤ p.task.job.deadline =
            subst (λ t. s.clock + left t ≤ t.job.deadline) seen
            (active_slack (seen_from i s) (sound i) (seen_by i p) (map_member (seen_by i) s.jobs p member)
            (ap is_privileged seen ∙ it.0)) in
            inr (subst (Beside s.clock (seen_by q p)) (sym (off_role p Waiting refl q))
            (goes_off s sound q Waiting (λ e. cc) (λ e. cc) p member came refl
            (some_left p member it.0, job_released s sound p member came, slack)))

-- ---- what happens on processor i, as it sees it

module _ (i : ℕ) where
  -- the job that gets the processor
  gets_own : (p : Placed) → seen_by i (placed_on i p) ≡ with_role p.task Running
  gets_own p = ap (λ b. cond (not b) (with_role p.task Done) (with_role p.task Running)) (eq-eqb i i refl)

  -- what is seen in another role is the job in that role
  pub seen_role : (p : Placed) (role : Role) → with_role (seen_by i p) role ≡ with_role p.task role
  seen_role p role = by_test (is_elsewhere i p) where
    by_test : (b : Bool) → with_role (cond b (with_role p.task Done) p.task) role ≡ with_role p.task role
    by_test true = refl
    by_test false = refl

  -- a change of jobs that is that of one processor
  pub same_after : (h : Placed → Placed) (e : Event) (jobs : List Placed)
      → Each (λ p. seen_by i (h p) ≡ with_role (seen_by i p) (single.role_after e p.task.number (seen_by i p).role))
      jobs
      → map (seen_by i) (map h jobs)
      ≡ map (λ t. with_role t (single.role_after e t.number t.role)) (map (seen_by i) jobs)
  same_after h e jobs same = map_map (seen_by i) h jobs
      ∙ map_same (λ p. seen_by i (h p))
      (λ p. with_role (seen_by i p) (single.role_after e (seen_by i p).number (seen_by i p).role)) jobs
      (λ p member. same p member ∙ ap (λ n. with_role (seen_by i p) (single.role_after e n (seen_by i p).role))
      (sym (seen_same i p).0))
      ∙ sym (map_map (λ t. with_role t (single.role_after e t.number t.role)) (seen_by i) jobs)

  -- of a job that runs
  pub run_after : (at n : ℕ) (jobs : List Placed) → map (seen_by i) (map (placed_after i (Run at n)) jobs)
      ≡ map (λ t. with_role t (single.role_after (Run at n) t.number t.role)) (map (seen_by i) jobs)
  run_after at n jobs = same_after (placed_after i (Run at n)) (Run at n) jobs
      (λ p member. by_number p (eqb p.task.number n)) where
        by_number : (p : Placed) (b : Bool) → seen_by i (cond b (placed_on i p) p)
            ≡ with_role (seen_by i p) (cond b Running (seen_by i p).role)
        by_number p true = gets_own p ∙ sym (seen_role p Running)
        by_number p false = refl

  -- of one that preempts
  pub preempt_after : (at r n : ℕ) (jobs : List Placed)
      → Each (λ p. p.task.number ≡ r → p.owner ≡ i) jobs
      → map (seen_by i) (map (placed_after i (Preempt at r n)) jobs)
      ≡ map (λ t. with_role t (single.role_after (Preempt at r n) t.number t.role)) (map (seen_by i) jobs)
  preempt_after at r n jobs runs = same_after (placed_after i (Preempt at r n)) (Preempt at r n) jobs
      (λ p member. by_number p member (eqb p.task.number n) (eqb p.task.number r) refl) where
        by_number : (p : Placed) → IsMember p jobs → (b c : Bool) → eqb p.task.number r ≡ c
            → seen_by i (cond b (placed_on i p) (cond c (in_role p Held) p))
            ≡ with_role (seen_by i p) (cond b Running (cond c Held (seen_by i p).role))
        by_number p member true c e = gets_own p ∙ sym (seen_role p Running)
        by_number p member false true e =
            let it = runs p member (eqb-true _ _ e) in
            own_seen i (in_role p Held) it ∙ sym (seen_role p Held)
        by_number p member false false e = refl

  -- of one that takes
  pub take_after : (at r n : ℕ) (jobs : List Placed)
      → map (seen_by i) (map (placed_after i (Take at r n)) jobs)
      ≡ map (λ t. with_role t (single.role_after (Take at r n) t.number t.role)) (map (seen_by i) jobs)
  take_after at r n jobs = same_after (placed_after i (Take at r n)) (Take at r n) jobs
      (λ p member. by_number p member (eqb p.task.number n) (is_own_of i p) refl) where
        active : (t : Task) → is_privileged t ≡ true → displaced t.role ≡ Waiting
        active t on = by_role (is_privileged_role t on) where
          by_role : (t.role ≡ Running) ⊎ (t.role ≡ Held) → displaced t.role ≡ Waiting
          by_role (inl e) = ap displaced e
          by_role (inr e) = ap displaced e

        resting : (t : Task) → is_privileged t ≡ false → displaced t.role ≡ t.role
        resting t off = each t.role off where
          each : (role : Role) → is_privileged (with_role t role) ≡ false → displaced role ≡ role
          each Held h = never (sym h)
          each Running h = never (sym h)
          each Coming h = refl
          each Fresh h = refl
          each Waiting h = refl
          each Done h = refl
          each Gone h = refl

        unchanged : (p : Placed) → is_own_of i p ≡ false → displaced (seen_by i p).role ≡ (seen_by i p).role
        unchanged p not_own = by_test (is_privileged (seen_by i p)) refl where
          by_test : (b : Bool) → is_privileged (seen_by i p) ≡ b → displaced (seen_by i p).role ≡ (seen_by i p).role
          by_test false e = resting (seen_by i p) e
          by_test true e =
              let it = seen_own i p e in
              never (sym not_own ∙ both (is_privileged p.task) (p.owner == i) (sym (ap is_privileged it.0) ∙ e)
              (eq-eqb _ _ it.1)) where
                both : (a b : Bool) → a ≡ true → b ≡ true → (a && b) ≡ true
                both true true e f = refl
                both true false e f = never f
                both false b e f = never e

        by_number : (p : Placed) → IsMember p jobs → (b c : Bool) → is_own_of i p ≡ c
            → seen_by i (cond b (placed_on i p) (cond c (in_role p Waiting) p))
            ≡ with_role (seen_by i p) (cond b Running (displaced (seen_by i p).role))
        by_number p member true c e = gets_own p ∙ sym (seen_role p Running)
        by_number p member false false e = ap (with_role (seen_by i p)) (sym (unchanged p e))
        by_number p member false true e =
            let it = and_parts (is_privileged p.task) (p.owner == i) e in
            let seen : seen_by i p ≡ p.task = own_seen i p (eqb-true _ _ it.1) in
            off_role p Waiting refl i ∙ sym (seen_role p Waiting)
            ∙ ap (with_role (seen_by i p)) (sym (active (seen_by i p) (ap is_privileged seen ∙ it.0)))
