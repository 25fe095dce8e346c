-- What a change of jobs does to where they are.
use Rattle.std.proofs.Common.{◌≡◌, ℕ, ◌<◌, inl, inr, List, [], ◌∷◌, map, refl, sym, ap, ◌∙◌}
use Rattle.std.proofs.Common.{subst, Bool, true, false, cond, eqb, eqb-true}
use Rattle.dover_model.specs.declared.events.Event.TheVariants.{Run, Preempt, Take}
use Rattle.dover_model.specs.declared.events.Role.{Role}
use Rattle.dover_model.specs.declared.events.Role.TheVariants.{Waiting, Held}
use Rattle.dover_model.specs.JobFacts.{JobFacts}
use Rattle.dover_model.specs.Common.{is_privileged, left, with_role, IsMember, Each, jobs_of}
use Rattle.dover_model.proofs.lists.Tests.{never}
use Rattle.dover_model.proofs.lists.Members.{on_map}
use Rattle.many_processors.specs.State.{Placed, State, tasks_of}
use Rattle.many_processors.specs.Step.{placed_after, in_role, placed_on, is_own_of}
use Rattle.many_processors.specs.Sound.{ArePlaced}

-- what a change does to one job
pub record Changed (processors : ℕ) (h : Placed → Placed) (p : Placed) : Type 0 where
  pub number : (h p).task.number ≡ p.task.number
  pub job : (h p).task.job ≡ p.task.job
  pub left : left (h p).task ≡ left p.task
  pub owner : is_privileged (h p).task ≡ true → (h p).owner < processors

module _ (processors : ℕ) (s : State) (placed : ArePlaced processors s) where
  -- the jobs are still placed
  pub changed_placed : (h : Placed → Placed) (clock : ℕ) (pressed : Bool)
      → Each (Changed processors h) s.jobs
      → ArePlaced processors (record { clock = clock; jobs = map h s.jobs; pressed = pressed })
  changed_placed h clock pressed changed = record {
    owners = on_map h (λ p. is_privileged p.task ≡ true → p.owner < processors) s.jobs
        (λ p member. (changed p member).owner);
  }

  -- a job that is unchanged
  pub unchanged : (h : Placed → Placed) (p : Placed) → IsMember p s.jobs → h p ≡ p → Changed processors h p
  unchanged h p member same = record {
    number = ap (λ (x : Placed). x.task.number) same;
    job = ap (λ (x : Placed). x.task.job) same;
    left = ap (λ (x : Placed). left x.task) same;
    owner = λ on. subst (λ (x : Placed). x.owner < processors) (sym same)
        (placed.owners p member (sym (ap (λ (x : Placed). is_privileged x.task) same) ∙ on));
  }

  -- a job in a role on no processor
  pub goes_off : (h : Placed → Placed) (p : Placed) (role : Role) → is_privileged (with_role p.task role) ≡ false
      → h p ≡ in_role p role → Changed processors h p
  goes_off h p role off same = record {
    number = ap (λ (x : Placed). x.task.number) same;
    job = ap (λ (x : Placed). x.task.job) same;
    left = ap (λ (x : Placed). left x.task) same;
    owner = λ on. never (sym (ap (λ (x : Placed). is_privileged x.task) same ∙ off) ∙ on);
  }

  -- a job that gets processor i
  pub gets_on : (h : Placed → Placed) (p : Placed) (i : ℕ) → i < processors → h p ≡ placed_on i p
      → Changed processors h p
  gets_on h p i low same = record {
    number = ap (λ (x : Placed). x.task.number) same;
    job = ap (λ (x : Placed). x.task.job) same;
    left = ap (λ (x : Placed). left x.task) same;
    owner = λ on. subst (λ (x : Placed). x.owner < processors) (sym same) low;
  }

  -- a running job that is held
  pub held_on : (h : Placed → Placed) (p : Placed) → IsMember p s.jobs → is_privileged p.task ≡ true
      → h p ≡ in_role p Held → Changed processors h p
  held_on h p member on same = record {
    number = ap (λ (x : Placed). x.task.number) same;
    job = ap (λ (x : Placed). x.task.job) same;
    left = ap (λ (x : Placed). left x.task) same;
    owner = λ _. subst (λ (x : Placed). x.owner < processors) (sym same) (placed.owners p member on);
  }

  -- the job of number n in a role on no processor
  pub one_off : (n : ℕ) (role : Role) → ((p : Placed) → is_privileged (with_role p.task role) ≡ false)
      → Each (Changed processors (λ p. cond (eqb p.task.number n) (in_role p role) p)) s.jobs
  one_off n role off p member = by_number (eqb p.task.number n) refl where
    by_number : (b : Bool) → eqb p.task.number n ≡ b
        → Changed processors (λ p. cond (eqb p.task.number n) (in_role p role) p) p
    by_number true e = goes_off (λ p. cond (eqb p.task.number n) (in_role p role) p) p role (off p)
        (ap (λ b. cond b (in_role p role) p) e)
    by_number false e = unchanged (λ p. cond (eqb p.task.number n) (in_role p role) p) p member
        (ap (λ b. cond b (in_role p role) p) e)

  -- a job that begins on processor i, or goes on there
  pub run_changed : (i : ℕ) → i < processors → (at n : ℕ)
      → Each (Changed processors (placed_after i (Run at n))) s.jobs
  run_changed i low at n p member = by_number (eqb p.task.number n) refl where
    by_number : (b : Bool) → eqb p.task.number n ≡ b → Changed processors (placed_after i (Run at n)) p
    by_number true e = gets_on (placed_after i (Run at n)) p i low (ap (λ b. cond b (placed_on i p) p) e)
    by_number false e = unchanged (placed_after i (Run at n)) p member (ap (λ b. cond b (placed_on i p) p) e)

  -- one that preempts a job that runs there
  pub preempt_changed : (i : ℕ) → i < processors → (at r n : ℕ)
      → Each (λ p. p.task.number ≡ r → is_privileged p.task ≡ true) s.jobs
      → Each (Changed processors (placed_after i (Preempt at r n))) s.jobs
  preempt_changed i low at r n all p member =
      by_number (eqb p.task.number n) (eqb p.task.number r) refl refl where
        by_number : (b c : Bool) → eqb p.task.number n ≡ b → eqb p.task.number r ≡ c
            → Changed processors (placed_after i (Preempt at r n)) p
        by_number true c e f = gets_on (placed_after i (Preempt at r n)) p i low
            (ap (λ b. cond b (placed_on i p) (cond (eqb p.task.number r) (in_role p Held) p)) e)
        by_number false true e f = held_on (placed_after i (Preempt at r n)) p member (all p member (eqb-true _ _ f))
            (ap (λ b. cond b (placed_on i p) (cond (eqb p.task.number r) (in_role p Held) p)) e
            ∙ ap (λ c. cond c (in_role p Held) p) f)
        by_number false false e f = unchanged (placed_after i (Preempt at r n)) p member
            (ap (λ b. cond b (placed_on i p) (cond (eqb p.task.number r) (in_role p Held) p)) e
            ∙ ap (λ c. cond c (in_role p Held) p) f)

  -- one that takes it
  pub take_changed : (i : ℕ) → i < processors → (at r n : ℕ)
      → Each (Changed processors (placed_after i (Take at r n))) s.jobs
  take_changed i low at r n p member =
      by_number (eqb p.task.number n) (is_own_of i p) refl refl where
        by_number : (b c : Bool) → eqb p.task.number n ≡ b → is_own_of i p ≡ c
            → Changed processors (placed_after i (Take at r n)) p
        by_number true c e f = gets_on (placed_after i (Take at r n)) p i low
            (ap (λ b. cond b (placed_on i p) (cond (is_own_of i p) (in_role p Waiting) p)) e)
        by_number false true e f = goes_off (placed_after i (Take at r n)) p Waiting refl
            (ap (λ b. cond b (placed_on i p) (cond (is_own_of i p) (in_role p Waiting) p)) e
            ∙ ap (λ c. cond c (in_role p Waiting) p) f)
        by_number false false e f = unchanged (placed_after i (Take at r n)) p member
            (ap (λ b. cond b (placed_on i p) (cond (is_own_of i p) (in_role p Waiting) p)) e
            ∙ ap (λ c. cond c (in_role p Waiting) p) f)

-- the jobs of the tasks stay
pub jobs_stay : (h : Placed → Placed) (jobs : List Placed) → Each (λ p. (h p).task.job ≡ p.task.job) jobs
    → jobs_of (tasks_of (map h jobs)) ≡ jobs_of (tasks_of jobs)
jobs_stay h [] same = refl
jobs_stay h (p ∷ jobs) same = both (same p (inl refl)) (jobs_stay h jobs (λ u m. same u (inr m))) where
  both : {x y : JobFacts} → {xs ys : List JobFacts} → x ≡ y → xs ≡ ys → x ∷ xs ≡ y ∷ ys
  both {x} {y} {xs} {ys} e f = ap (λ z. z ∷ xs) e ∙ ap (λ zs. y ∷ zs) f
