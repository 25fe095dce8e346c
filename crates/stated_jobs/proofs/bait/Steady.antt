-- A run of a chain of links, each taking from the one before it: what every state keeps, and what is done at the end.
use Rattle.std.proofs.Common.{◌≡◌, ℕ, ◌+◌, ◌≤◌, ◌<◌, ◌⊎◌, inl, inr, List, [], ◌∷◌, map, refl, sym, ap, ◌∙◌, subst, Bool}
use Rattle.std.proofs.Common.{true, false, cond, arith, eqb, sum_by, filter, nat_lt, ◌&&◌, eqb-true, eq-eqb, ne_eqb}
use Rattle.std.proofs.Common.{ltb-false}
use Rattle.std.specs.List.{list_all}
use Rattle.std.specs.Bool.{then_some}
use Rattle.std.proofs.lemmas.Bool.{cases_lt}
use Rattle.dover_model.specs.Common.{JobFacts, Fraction, Rules, goes_on, is_complete, State, is_privileged, is_over}
use Rattle.dover_model.specs.Common.{is_done, privileged, left, value_sum, is_heavy, Move, Prints, Ticks, step, after}
use Rattle.dover_model.specs.Common.{with_role, displaced, ticked, ending, ◌or_else◌, IsMember, Each, EachTwo, FitsRole}
use Rattle.dover_model.specs.Common.{IsNumberedFrom, NoneRuns, IsSound, jobs_of}
use Rattle.dover_model.proofs.finishes.Readiness.{step_decides}
use Rattle.dover_model.specs.declared.events.Role.{Role}
use Rattle.dover_model.specs.declared.events.Role.TheVariants.{Coming, Fresh, Waiting, Held, Running, Done, Gone}
use Rattle.dover_model.specs.declared.events.Event.TheVariants.{Take, End}
use Rattle.dover_model.specs.declared.events.Task.{Task}
use Rattle.dover_model.proofs.lists.Members.{on_map, map_member, sum_filter, sum_zero, sum_map, sum_same, term_le_sum}
use Rattle.dover_model.proofs.steps.Roles.{one_number, numbers_above, passes, is_privileged_role, is_over_role}
use Rattle.dover_model.proofs.steps.Loads.{sum_change, with_roles, Fits, load}
use Rattle.dover_model.proofs.steps.Pressing.{pressing}
use Rattle.dover_model.proofs.steps.OneChange.{changed, state_with, EachOther, on_changed, changed_here, changed_there}
use Rattle.dover_model.proofs.steps.Moves.{says, displaced_rests}
use Rattle.dover_model.proofs.steps.Ticking.{Quiet}
use Rattle.dover_model.proofs.steps.Deeds.{Deed, Completed, Resumed, Started, Began, Preempted, Stayed, Arrived, Taken}
use Rattle.dover_model.proofs.steps.Deeds.{Abandoned, Rested}
use Rattle.dover_model.proofs.bound.Calculus.{heavy_more}
use Rattle.dover_model.proofs.steps.Kept.{end_same}
use Rattle.dover_model.proofs.lists.Tests.{never}

-- where the move completes the job that runs, that has no work left
abbrev pub DoneAtEnd : State → Move → Type 0
DoneAtEnd s m = is_complete m ≡ true → Each (λ t. t.role ≡ Running → left t ≡ 0) s.tasks

-- so it is where no job finishes early
pub done_at_end : (s : State) → IsSound s → (rules : Rules) → rules.finishes ≡ [] → DoneAtEnd s (step rules s)
done_at_end s sound rules plain ends t member runs = by_left (nat_lt 0 (left t)) refl
    (subst (λ fs. goes_on fs t ≡ false) plain ((step_decides s sound rules).ends ends t member runs)) where
      by_left : (b : Bool) → nat_lt 0 (left t) ≡ b → (b && true) ≡ false → left t ≡ 0
      by_left true some stops = never (sym stops)
      by_left false none stops = let low : left t ≤ 0 = ltb-false 0 (left t) none in omega arith

-- a link of the greatest value, which is the last
abbrev pub IsLast : ℕ → (JobFacts → Type 0) → JobFacts → Type 0
IsLast most Link j = Link j × (j.value ≡ most)

-- What the jobs have to have: each is a link or light. No job has slack. A link of more value is heavy against one of
-- less. The light ones are light against the links that they meet. Each link but those of most value is followed one
-- tick before it is due. The last is due at its own tick.
pub record IsChained (k : Fraction) (jobs : List JobFacts) (most : ℕ) (Link Light : JobFacts → Type 0) : Type 0 where
  pub kinds : Each (λ j. Link j ⊎ Light j) jobs
  pub tight : Each (λ j. j.deadline ≡ j.release + j.work) jobs
  pub heavier : (a b : JobFacts) → Link a → Link b → a.value < b.value → is_heavy k b.value a.value ≡ true
  pub lighter : (a r : JobFacts) → Light a → Link r → a.release < r.deadline → is_heavy k a.value r.value ≡ false
  pub least : 1 ≤ most
  pub at_most : (a : JobFacts) → Link a → a.value ≤ most
  pub next : (a : JobFacts) → Link a
      → (a.value ≡ most) ⊎ ((u : JobFacts) × IsMember u jobs × Link u × (a.value < u.value)
      × (u.release + 1 ≡ a.deadline))
  pub late : (a : JobFacts) → IsLast most Link a → Each (λ j. j.release < a.deadline) jobs
  pub due : (a b : JobFacts) → IsLast most Link a → Link b → b.deadline ≤ a.deadline
  pub first : (j : JobFacts) × (rest : List JobFacts) × (jobs ≡ j ∷ rest) × Link j
  pub due_last : ℕ
  pub ends : (a : JobFacts) → IsLast most Link a → a.deadline ≡ due_last
  pub known : Each (λ j. j.deadline ≡ due_last → IsLast most Link j) jobs
  pub one : sum_by (λ j. cond (eqb j.deadline due_last) j.value 0) jobs ≡ most

-- of a job that waits or is about to: it is at its latest start, and if it's no link it came now
abbrev pub Pending : (JobFacts → Type 0) → (JobFacts → Type 0) → ℕ → Task → Type 0
Pending Link Light clock t = (clock + left t ≡ t.job.deadline) × (Link t.job ⊎ (Light t.job × (t.job.release ≡ clock)))

-- what a role says of a job
abbrev pub Stands : ℕ → (JobFacts → Type 0) → (JobFacts → Type 0) → ℕ → Role → Task → Type 0
Stands most Link Light clock Coming t = Unit {0}
Stands most Link Light clock Held t = ⊥
Stands most Link Light clock Running t = (clock + left t ≡ t.job.deadline) × Link t.job
Stands most Link Light clock Done t = IsLast most Link t.job
Stands most Link Light clock Gone t = IsLast most Link t.job → ⊥
Stands most Link Light clock _ t = Pending Link Light clock t

-- what a role says of a link of more value than the one that runs
abbrev pub Follows : ℕ → Role → Task → Type 0
Follows clock Coming t = Unit {0}
Follows clock Fresh t = t.job.release ≡ clock
Follows clock Waiting t = t.job.release ≡ clock
Follows clock _ t = ⊥

-- to come, or the first job, fresh
abbrev pub IsUnbegun : Task → Type 0
IsUnbegun t = (t.role ≡ Coming) ⊎ ((t.role ≡ Fresh) × (t.number ≡ 0))

-- What each state keeps. Where none runs, the run hasn't begun, or all jobs are over.
pub record IsSteady (most : ℕ) (Link Light : JobFacts → Type 0) (s : State) : Type 0 where
  pub stands : Each (λ t. Stands most Link Light s.clock t.role t) s.tasks
  pub follows : EachTwo (λ r u. r.role ≡ Running → Link u.job → r.job.value < u.job.value → Follows s.clock u.role u)
      s.tasks
  pub idle : NoneRuns s.tasks → Each IsUnbegun s.tasks ⊎ Each (λ t. is_over t ≡ true) s.tasks

-- a steady state is steady pressed or not
steady_either : (b : Bool) {most : ℕ} {Link Light : JobFacts → Type 0} {s : State} → IsSteady most Link Light s
    → IsSteady most Link Light (pressing b s)
steady_either b steady = record { stands = steady.stands; follows = steady.follows; idle = steady.idle }

-- what is mapped comes from a member
pub member_map : {X Y : Type 0} (f : X → Y) (xs : List X) (y : Y) → IsMember y (map f xs) → (x : X) × IsMember x xs
    × (f x ≡ y)
member_map f [] y member = absurd member
member_map f (x ∷ xs) y (inl e) = (x, inl refl, sym e)
member_map f (x ∷ xs) y (inr member) = let it : (z : _) × IsMember z xs × (f z ≡ y) = member_map f xs y member in
    (it.0, inr it.1, it.2)

-- a follower hasn't been released before now
released_now : (clock : ℕ) (role : Role) (t : Task) → FitsRole clock role t → Follows clock role t
    → clock ≤ t.job.release
released_now clock Coming t fits follows = fits.1
released_now clock Fresh t fits follows = omega (arith, follows)
released_now clock Waiting t fits follows = omega (arith, follows)
released_now clock _ t fits follows = absurd follows

-- the first task has the first job
first_task : (tasks : List Task) (j : JobFacts) (rest : List JobFacts) → IsNumberedFrom 0 tasks
    → jobs_of tasks ≡ j ∷ rest
    → (t : Task) → IsMember t tasks → t.number ≡ 0 → t.job ≡ j
first_task [] j rest numbered are t member zero = absurd member
first_task (x ∷ tasks) j rest numbered are t (inl e) zero = ap (λ (y : Task). y.job) e
    ∙ (let same : x.job ≡ j = cc in same)
first_task (x ∷ tasks) j rest numbered are t (inr member) zero = absurd
    (let above : 1 ≤ t.number = numbers_above 1 tasks numbered.1 t member in omega arith)

-- some task has the number 0
zero_task : (tasks : List Task) → IsNumberedFrom 0 tasks → (t : Task) → IsMember t tasks → (z : Task) × IsMember z tasks
    × (z.number ≡ 0)
zero_task [] numbered t member = absurd member
zero_task (x ∷ tasks) numbered t member = (x, inl refl, numbered.0)

-- a role that isn't over
not_over : (t : Task) (role : Role) → is_over (with_role t role) ≡ false → t.role ≡ role → is_over t ≡ true → ⊥
not_over t role out e over = never (sym (passes is_over t role false e out) ∙ over)

-- a displaced follower is one
displaced_follows : (clock : ℕ) (role : Role) (t : Task) → Follows clock role t
    → Follows clock (displaced role) (with_role t (displaced role))
displaced_follows clock Held t follows = absurd follows
displaced_follows clock Running t follows = absurd follows
displaced_follows clock _ t follows = follows

-- a follower is one after a tick
tick_follows : (clock : ℕ) (role : Role) (t : Task) → Follows clock role (with_role t role) → (role ≡ Fresh → ⊥)
    → (role ≡ Waiting → ⊥)
    → Follows (clock + 1) role (ticked (with_role t role))
tick_follows clock Coming t follows stale quiet = tt
tick_follows clock Fresh t follows stale quiet = absurd (stale refl)
tick_follows clock Waiting t follows stale quiet = absurd (quiet refl)
tick_follows clock _ t follows stale quiet = follows

module _ (most : ℕ) (Link Light : JobFacts → Type 0) where
  -- a displaced link waits
  displaced_stands : (clock : ℕ) (role : Role) (t : Task) → Stands most Link Light clock role t
      → Stands most Link Light clock (displaced role) (with_role t (displaced role))
  displaced_stands clock Held t stands = absurd stands
  displaced_stands clock Running t stands = (stands.0, inl stands.1)
  displaced_stands clock _ t stands = stands

  -- what a role says one tick later
  tick_stands : (clock : ℕ) (role : Role) (t : Task) → Stands most Link Light clock role (with_role t role)
      → (role ≡ Fresh → ⊥)
      → (role ≡ Waiting → ⊥) → (role ≡ Running → 1 ≤ left t)
      → Stands most Link Light (clock + 1) role (ticked (with_role t role))
  tick_stands clock Coming t stands stale quiet busy = tt
  tick_stands clock Fresh t stands stale quiet busy = absurd (stale refl)
  tick_stands clock Waiting t stands stale quiet busy = absurd (quiet refl)
  tick_stands clock Held t stands stale quiet busy = absurd stands
  tick_stands clock Running t stands stale quiet busy = (
    let whole : clock + left t ≡ t.job.deadline = stands.0 in let some : 1 ≤ left t = busy refl in omega arith,
    stands.1,
  )
  tick_stands clock _ t stands stale quiet busy = stands

module _ (k : Fraction) (jobs : List JobFacts) (most : ℕ) (Link Light : JobFacts → Type 0)
    (chained : IsChained k jobs most Link Light) where
  -- a job that came and is due is over, if it doesn't run
  over_by : (clock due : ℕ) (role : Role) (t : Task) → FitsRole clock role (with_role t role)
      → Stands most Link Light clock role (with_role t role)
      → clock ≡ due → t.job.release < due → (Link t.job → t.job.deadline ≤ due) → (role ≡ Running → ⊥)
      → is_over (with_role t role) ≡ true
  over_by clock due Coming t fits stands now came late apart =
      absurd (let low : clock ≤ t.job.release = fits.1 in omega arith)
  over_by clock due Fresh t fits stands now came late apart = absurd (by_kind stands.1) where
    by_kind : Link t.job ⊎ (Light t.job × (t.job.release ≡ clock)) → ⊥
    by_kind (inl link) = let low : t.job.deadline ≤ due = late link in let some : 1 ≤ left t = fits.1 in
        let fit : clock + left t ≤ t.job.deadline = fits.3 in omega arith
    by_kind (inr light) = let here : t.job.release ≡ clock = light.1 in omega arith
  over_by clock due Waiting t fits stands now came late apart = absurd (by_kind stands.1) where
    by_kind : Link t.job ⊎ (Light t.job × (t.job.release ≡ clock)) → ⊥
    by_kind (inl link) = let low : t.job.deadline ≤ due = late link in let some : 1 ≤ left t = fits.0 in
        let fit : clock + left t ≤ t.job.deadline = fits.2 in omega arith
    by_kind (inr light) = let here : t.job.release ≡ clock = light.1 in omega arith
  over_by clock due Held t fits stands now came late apart = absurd stands
  over_by clock due Running t fits stands now came late apart = absurd (apart refl)
  over_by clock due _ t fits stands now came late apart = refl

  module _ (s : State) (sound : IsSound s) (are : jobs_of s.tasks ≡ jobs) where
    -- what holds of each job holds of that of each task
    of_task : (P : JobFacts → Type 0) → Each P jobs → Each (λ t. P t.job) s.tasks
    of_task P all t m = all t.job (subst (IsMember t.job) are (map_member (λ (x : Task). x.job) s.tasks t m))

    -- the task of a job
    task_of : (u : JobFacts) → IsMember u jobs → (t : Task) × IsMember t s.tasks × (t.job ≡ u)
    task_of u member = member_map (λ (x : Task). x.job) s.tasks u (subst (IsMember u) (sym are) member)

    -- the last link counts for its value
    counted : (t : Task) → IsMember t s.tasks → IsLast most Link t.job
        → cond (eqb t.job.deadline chained.due_last) t.job.value 0 ≡ most
    counted t m last = ap (λ b. cond b t.job.value 0)
        (eq-eqb t.job.deadline chained.due_last (chained.ends t.job last)) ∙ last.1

    -- the sum over the tasks
    one_task : sum_by (λ t. cond (eqb t.job.deadline chained.due_last) t.job.value 0) s.tasks ≡ most
    one_task = sym (sum_map (λ (t : Task). t.job) (λ j. cond (eqb j.deadline chained.due_last) j.value 0) s.tasks)
        ∙ ap (sum_by (λ j. cond (eqb j.deadline chained.due_last) j.value 0)) are ∙ chained.one

    -- there is one last link
    pub alone : (t u : Task) → IsMember t s.tasks → IsMember u s.tasks → IsLast most Link t.job → IsLast most Link u.job
        → (t.number ≡ u.number → ⊥) → ⊥
    alone t u mt mu last_t last_u apart =
        let more : sum_by (λ x. cond (eqb x.number u.number) most 0) s.tasks + most
        ≤ sum_by (λ x. cond (eqb x.job.deadline chained.due_last) x.job.value 0) s.tasks + 0 =
        sum_change (λ x. cond (eqb x.number u.number) most 0)
        (λ x. cond (eqb x.job.deadline chained.due_last) x.job.value 0) most 0 0 s.tasks t sound.numbered mt
        (let none : cond (eqb t.number u.number) most 0 ≡ 0 =
        ap (λ b. cond b most 0) (ne_eqb t.number u.number apart) in
        omega (arith, none, counted t mt last_t))
        (λ x mx _. at_most_one x mx (eqb x.number u.number) refl) in
        let some : cond (eqb u.number u.number) most 0 ≤ sum_by (λ x. cond (eqb x.number u.number) most 0) s.tasks =
        term_le_sum (λ x. cond (eqb x.number u.number) most 0) s.tasks u mu in
        let all : cond (eqb u.number u.number) most 0 ≡ most =
        ap (λ b. cond b most 0) (eq-eqb u.number u.number refl) in
        let positive : 1 ≤ most = chained.least in
        omega (arith, one_task) where
          at_most_one : (x : Task) → IsMember x s.tasks → (b : Bool) → eqb x.number u.number ≡ b
              → cond b most 0 ≤ cond (eqb x.job.deadline chained.due_last) x.job.value 0
          at_most_one x mx true same = subst
              (λ (y : Task). most ≤ cond (eqb y.job.deadline chained.due_last) y.job.value 0)
              (sym (one_number 0 s.tasks sound.numbered x u mx mu (eqb-true _ _ same)))
              (omega (arith, counted u mu last_u))
          at_most_one x mx false differs = omega arith

    module _ (steady : IsSteady most Link Light s) where
      -- what the role of t says of it
      pub stands_as : (t : Task) → IsMember t s.tasks → (role : Role) → t.role ≡ role
          → Stands most Link Light s.clock role t
      stands_as t m role e = subst (λ x. Stands most Link Light s.clock x t) e (steady.stands t m)

      -- one job gets a new role
      one_steady : (r : Task) → IsMember r s.tasks → (new : Role) → Stands most Link Light s.clock new (with_role r new)
          → (new ≡ Running → EachOther r
          (λ u. Link u.job → r.job.value < u.job.value → Follows s.clock u.role u) s.tasks)
          → EachOther r (λ t. t.role ≡ Running → Link r.job → t.job.value < r.job.value
          → Follows s.clock new (with_role r new)) s.tasks
          → (NoneRuns (state_with s r new).tasks
          → Each IsUnbegun (state_with s r new).tasks ⊎ Each (λ t. is_over t ≡ true) (state_with s r new).tasks)
          → IsSteady most Link Light (state_with s r new)
      one_steady r member new stands before behind idle = record {
        stands = on_changed 0 s.tasks sound.numbered r member new (λ t. Stands most Link Light s.clock t.role t) stands
            (λ t m _. steady.stands t m);
        follows = λ t u mt mu. on_changed 0 s.tasks sound.numbered r member new
            (λ x. (y : Task) → IsMember y (with_roles (changed r new) s.tasks) → x.role ≡ Running → Link y.job
            → x.job.value < y.job.value
            → Follows s.clock y.role y)
            (on_changed 0 s.tasks sound.numbered r member new
            (λ y. new ≡ Running → Link y.job → r.job.value < y.job.value → Follows s.clock y.role y)
            (λ _ _ less. absurd (omega arith)) (λ y my apart runs. before runs y my apart))
            (λ x mx apart. on_changed 0 s.tasks sound.numbered r member new
            (λ y. x.role ≡ Running → Link y.job → x.job.value < y.job.value → Follows s.clock y.role y)
            (λ runs link less. behind x mx apart runs link less)
            (λ y my _. steady.follows x y mx my))
            t mt u mu;
        idle = idle;
      }

      -- what runs is the one that runs
      only_runner : (r t : Task) → IsMember r s.tasks → IsMember t s.tasks → r.role ≡ Running → t.role ≡ Running → t ≡ r
      only_runner r t mr mt runs other =
          one_number 0 s.tasks sound.numbered t r mt mr (sound.one_runs t r mt mr other runs)

      -- roles that differ are those of different jobs
      pub differ : (r t : Task) (a b : Role) → IsMember r s.tasks → IsMember t s.tasks → r.role ≡ a → t.role ≡ b
          → (a ≡ b → ⊥)
          → t.number ≡ r.number → ⊥
      differ r t a b mr mt ra tb apart same =
          apart (sym ra ∙ ap (λ (x : Task). x.role) (sym (one_number 0 s.tasks sound.numbered t r mt mr same)) ∙ tb)

      -- a link that runs ends as the last
      pub completes : (r : Task) → IsMember r s.tasks → r.role ≡ Running → left r ≡ 0
          → IsSteady most Link Light (state_with s r Done)
      completes r member runs done = elim (chained.next r.job standing.1) [
        | inr it ↦ let t : (x : Task) × IsMember x s.tasks × (x.job ≡ it.0) = task_of it.0 it.1 in
            let now : s.clock ≤ t.0.job.release = released_now s.clock t.0.role t.0 (sound.roles t.0 t.1)
            (steady.follows r t.0 member t.1 runs (subst Link (sym t.2) it.2)
            (subst (λ (j : JobFacts). r.job.value < j.value) (sym t.2) it.3)) in
            let one_more : t.0.job.release + 1 ≡ r.job.deadline =
            subst (λ (j : JobFacts). j.release + 1 ≡ r.job.deadline) (sym t.2) it.4 in
            let whole : s.clock + left r ≡ r.job.deadline = standing.0 in
            absurd (omega arith)
        | inl top ↦ one_steady r member Done (standing.1, top) (λ e. absurd (cc))
            (λ t m apart other. absurd (apart (ap (λ (x : Task). x.number) (only_runner r t member m runs other))))
            (λ _. inr (on_changed 0 s.tasks sound.numbered r member Done (λ t. is_over t ≡ true) refl
            (λ t m apart. over_by s.clock r.job.deadline t.role t (sound.roles t m) (steady.stands t m)
            (let whole : s.clock + left r ≡ r.job.deadline = standing.0 in omega arith)
            (of_task (λ j. j.release < r.job.deadline) (chained.late r.job (standing.1, top)) t m)
            (λ link. chained.due r.job t.job (standing.1, top) link)
            (λ other. apart (ap (λ (x : Task). x.number) (only_runner r t member m runs other))))))
      ] where
        standing : (s.clock + left r ≡ r.job.deadline) × Link r.job
        standing = stands_as r member Running runs

      -- the processor stays with the one that runs
      still_runs : (r f : Task) (a new : Role) → IsMember r s.tasks → IsMember f s.tasks → r.role ≡ Running → f.role ≡ a
          → (a ≡ Running → ⊥)
          → NoneRuns (state_with s f new).tasks → ⊥
      still_runs r f a new member f_member runs is_a apart none =
          none r (changed_there s.tasks f r new member (differ f r a Running f_member member is_a runs apart)) runs

      -- the first job begins
      begins : (f : Task) → IsMember f s.tasks → f.role ≡ Fresh → NoneRuns s.tasks
          → IsSteady most Link Light (state_with s f Running)
      begins f member fresh none = elim (steady.idle none) [
        | inr over ↦ absurd (not_over f Fresh refl fresh (over f member))
        | inl unbegun ↦ one_steady f member Running (
          (stands_as f member Fresh fresh).0,
          subst Link (sym (first_task s.tasks chained.first.0 chained.first.1 sound.numbered
              (are ∙ chained.first.2) f member (number_zero (unbegun f member)))) chained.first.3,
        )
            (λ _ u mu apart link less. still u mu apart (number_zero (unbegun f member)) (unbegun u mu))
            (λ t m apart other. absurd (none t m other))
            (λ still_none. absurd (still_none (with_role f Running)
            (changed_here 0 s.tasks sound.numbered f member Running) refl))
      ] where
        number_zero : IsUnbegun f → f.number ≡ 0
        number_zero (inl comes) = absurd (let e : Coming ≡ Fresh = sym comes ∙ fresh in cc)
        number_zero (inr it) = it.1

        still : (u : Task) → IsMember u s.tasks → (u.number ≡ f.number → ⊥) → f.number ≡ 0 → IsUnbegun u
            → Follows s.clock u.role u
        still u mu apart zero (inl comes) = subst (λ role. Follows s.clock role u) (sym comes) tt
        still u mu apart zero (inr it) = absurd (apart (it.1 ∙ sym zero))

      -- a job is released
      arrives : (c : Task) → IsMember c s.tasks → c.role ≡ Coming → c.job.release ≡ s.clock
          → Each (λ t. t.role ≡ Coming → c.number ≤ t.number) s.tasks
          → Each (λ t. t.role ≡ Fresh → ⊥) s.tasks → IsSteady most Link Light (state_with s c Fresh)
      arrives c member comes now least stale =
          one_steady c member Fresh (whole, by_kind (of_task (λ j. Link j ⊎ Light j) chained.kinds c member))
          (λ e. absurd (cc))
          (λ t m apart runs link less. now)
          (λ none. by_idle (steady.idle
          (λ t m runs. still_runs t c Coming Fresh m member runs comes (λ e. cc) none))) where
            whole : s.clock + left c ≡ c.job.deadline
            whole = let nothing : c.had ≡ 0 = (says s sound c member Coming comes).0 in
                let tight : c.job.deadline ≡ c.job.release + c.job.work =
                of_task (λ j. j.deadline ≡ j.release + j.work) chained.tight c member in omega arith

            by_kind : Link c.job ⊎ Light c.job → Link c.job ⊎ (Light c.job × (c.job.release ≡ s.clock))
            by_kind (inl link) = inl link
            by_kind (inr light) = inr (light, now)

            by_zero : (z : Task) → IsMember z s.tasks → z.number ≡ 0 → IsUnbegun z → c.number ≡ 0
            by_zero z mz zero (inl to_come) = let low : c.number ≤ z.number = least z mz to_come in omega arith
            by_zero z mz zero (inr it) = absurd (stale z mz it.0)

            by_idle : Each IsUnbegun s.tasks ⊎ Each (λ t. is_over t ≡ true) s.tasks
                → Each IsUnbegun (state_with s c Fresh).tasks
                ⊎ Each (λ t. is_over t ≡ true) (state_with s c Fresh).tasks
            by_idle (inr over) = absurd (not_over c Coming refl comes (over c member))
            by_idle (inl unbegun) = let z : (x : Task) × IsMember x s.tasks × (x.number ≡ 0) =
                zero_task s.tasks sound.numbered c member in
                inl (on_changed 0 s.tasks sound.numbered c member Fresh IsUnbegun
                (inr (refl, by_zero z.0 z.1 z.2 (unbegun z.0 z.1)))
                (λ t m apart. unbegun t m))

      -- a fresh job waits
      stays : (r f : Task) → IsMember r s.tasks → r.role ≡ Running → IsMember f s.tasks → f.role ≡ Fresh
          → IsSteady most Link Light (state_with s f Waiting)
      stays r f member runs f_member fresh =
          one_steady f f_member Waiting (stands_as f f_member Fresh fresh) (λ e. absurd (cc))
          (λ t m apart other link less. subst (λ role. Follows s.clock role f) fresh
          (steady.follows t f m f_member other link less))
          (λ none. absurd (still_runs r f Fresh Waiting member f_member runs fresh (λ e. cc) none))

      -- no job preempts
      pub no_preemption : (r f : Task) → IsMember r s.tasks → r.role ≡ Running → IsMember f s.tasks → f.role ≡ Fresh
          → Fits (left f) s → ⊥
      no_preemption r f member runs f_member fresh fits =
          let fit : s.clock + load s.tasks r + left f ≤ r.job.deadline =
          fits r member (passes is_privileged r Running true runs refl) in
          let whole : s.clock + left r ≡ r.job.deadline = (stands_as r member Running runs).0 in
          let some : 1 ≤ left f = (says s sound f f_member Fresh fresh).1 in
          omega arith

      -- what stands against a take is the value of the one that runs
      standing_value : (r : Task) → IsMember r s.tasks → r.role ≡ Running → value_sum (privileged s) ≡ r.job.value
      standing_value r member runs = sum_filter is_privileged (λ t. t.job.value) s.tasks
          ∙ (let zero : sum_by (λ (t : Task). 0) s.tasks ≡ 0 = sum_zero (λ (t : Task). 0) s.tasks (λ t m. refl) in
          let here : cond (is_privileged r) r.job.value 0 ≡ r.job.value =
          ap (λ b. cond b r.job.value 0) (passes is_privileged r Running true runs refl) in
          let above : sum_by (λ (t : Task). 0) s.tasks + r.job.value ≤ sum_by
          (λ t. cond (is_privileged t) t.job.value 0) s.tasks + 0 =
          sum_change (λ (t : Task). 0)
          (λ t. cond (is_privileged t) t.job.value 0) r.job.value 0 0 s.tasks r sound.numbered member
          (omega (arith, here)) (λ u mu apart. omega arith) in
          let below : sum_by (λ t. cond (is_privileged t) t.job.value 0) s.tasks + 0 ≤ sum_by (λ (t : Task). 0) s.tasks
          + r.job.value =
          sum_change (λ t. cond (is_privileged t) t.job.value 0)
          (λ (t : Task). 0) 0 r.job.value 0 s.tasks r sound.numbered member
          (omega (arith, here)) (λ u mu apart. by_test u mu apart (is_privileged u) refl) in
          omega arith) where
            by_role : (u : Task) → IsMember u s.tasks → (u.number ≡ r.number → ⊥) → (u.role ≡ Running) ⊎ (u.role ≡ Held)
                → ⊥
            by_role u mu apart (inl other) = apart (ap (λ (x : Task). x.number) (only_runner r u member mu runs other))
            by_role u mu apart (inr is_h) = stands_as u mu Held is_h

            by_test : (u : Task) → IsMember u s.tasks → (u.number ≡ r.number → ⊥) → (b : Bool) → is_privileged u ≡ b
                → cond b u.job.value 0 ≤ 0
            by_test u mu apart true is_in = absurd (by_role u mu apart (is_privileged_role u is_in))
            by_test u mu apart false out = omega arith

      -- a job is abandoned
      abandons : (r x : Task) → IsMember r s.tasks → r.role ≡ Running → IsMember x s.tasks → x.role ≡ Waiting
          → is_heavy k x.job.value (value_sum (privileged s)) ≡ false → IsSteady most Link Light (state_with s x Gone)
      abandons r x member runs x_member waiting light = one_steady x x_member Gone
          (λ last. by_more last (cases_lt r.job.value x.job.value)) (λ e. absurd (cc))
          (λ t m apart other link less. not_less link
          (subst (λ (y : Task). y.job.value < x.job.value) (only_runner r t member m runs other) less))
          (λ none. absurd (still_runs r x Waiting Gone member x_member runs waiting (λ e. cc) none)) where
            link_r : Link r.job
            link_r = (stands_as r member Running runs).1

            light_r : is_heavy k x.job.value r.job.value ≡ false
            light_r = ap (is_heavy k x.job.value) (sym (standing_value r member runs)) ∙ light

            not_less : Link x.job → r.job.value < x.job.value → ⊥
            not_less link less = never (sym light_r ∙ chained.heavier r.job x.job link_r link less)

            by_more : IsLast most Link x.job → (r.job.value < x.job.value) ⊎ (x.job.value ≤ r.job.value) → ⊥
            by_more last (inl less) = not_less last.0 less
            by_more last (inr high) = alone r x member x_member (
              link_r,
              let low : r.job.value ≤ most = chained.at_most r.job link_r in
                  let top : x.job.value ≡ most = last.1 in omega arith,
            ) last (differ x r Waiting Running x_member member waiting runs (λ e. cc))

      module _ (r x : Task) (member : IsMember r s.tasks) (runs : r.role ≡ Running) (some : 1 ≤ left r)
          (x_member : IsMember x s.tasks)
          (waiting : x.role ≡ Waiting) (heavy : is_heavy k x.job.value (value_sum (privileged s)) ≡ true) where
        -- the state after the take
        abbrev pub taken : State
        taken = after s (Prints (Take s.clock r.number x.number))

        -- of the taker, and of each displaced job
        pub on_taken : (P : Task → Type 0) → P (with_role x Running)
            → EachOther x (λ t. P (with_role t (displaced t.role))) s.tasks
            → Each P taken.tasks
        on_taken P here others =
            on_map (λ t. with_role t (cond (eqb t.number x.number) Running (displaced t.role))) P s.tasks
            (λ t m. by_number t m (eqb t.number x.number) refl) where
              by_number : (t : Task) → IsMember t s.tasks → (b : Bool) → eqb t.number x.number ≡ b
                  → P (with_role t (cond b Running (displaced t.role)))
              by_number t m true same = subst (λ (y : Task). P (with_role y Running))
                  (sym (one_number 0 s.tasks sound.numbered t x m x_member (eqb-true _ _ same))) here
              by_number t m false differs = others t m (λ same. never (sym differs ∙ eq-eqb _ _ same))

        -- the taker is there
        taken_here : IsMember (with_role x Running) taken.tasks
        taken_here = subst (λ b. IsMember (with_role x (cond b Running (displaced x.role))) taken.tasks)
            (eq-eqb x.number x.number refl)
            (map_member (λ t. with_role t (cond (eqb t.number x.number) Running (displaced t.role))) s.tasks x x_member)

        -- what is known of the one that runs
        runner : (s.clock + left r ≡ r.job.deadline) × Link r.job
        runner = stands_as r member Running runs

        -- the taker is heavy against it
        heavy_r : is_heavy k x.job.value r.job.value ≡ true
        heavy_r = ap (is_heavy k x.job.value) (sym (standing_value r member runs)) ∙ heavy

        -- the taker is a link
        taker_links : Link x.job ⊎ (Light x.job × (x.job.release ≡ s.clock)) → Link x.job
        taker_links (inl link) = link
        taker_links (inr light) = never (sym (chained.lighter x.job r.job light.0 runner.1
            (let whole : s.clock + left r ≡ r.job.deadline = runner.0 in let now : x.job.release ≡ s.clock = light.1 in
            omega arith)) ∙ heavy_r)

        -- a link takes from one of less value
        takes : IsSteady most Link Light taken
        takes = let pending : Pending Link Light s.clock x = stands_as x x_member Waiting waiting in record {
          stands = on_taken (λ t. Stands most Link Light s.clock t.role t) (pending.0, taker_links pending.1)
              (λ t m apart. displaced_stands most Link Light s.clock t.role t (steady.stands t m));
          follows = λ t u mt mu. on_taken
              (λ a. (y : Task) → IsMember y taken.tasks → a.role ≡ Running → Link y.job → a.job.value < y.job.value
              → Follows s.clock y.role y)
              (on_taken (λ y. Running ≡ Running → Link y.job → x.job.value < y.job.value → Follows s.clock y.role y)
              (λ _ _ less. absurd (omega arith))
              (λ y my apart _ link less. displaced_follows s.clock y.role y (steady.follows r y member my runs link
              (let more : r.job.value < x.job.value = heavy_more k x.job.value r.job.value heavy_r in omega arith))))
              (λ a ma apart y my a_runs. absurd (displaced_rests a.role a_runs)) t mt u mu;
          idle = λ none. absurd (none (with_role x Running) taken_here refl);
        }

      -- a silent tick
      ticks : Quiet s → IsSteady most Link Light (after s Ticks)
      ticks quiet = record {
        stands = on_map ticked (λ t. Stands most Link Light (s.clock + 1) t.role t) s.tasks
            (λ t m. tick_stands most Link Light s.clock t.role t (steady.stands t m) (quiet.stale t m) (none_waits t m)
            (quiet.busy t m));
        follows = λ t u mt mu. on_map ticked
            (λ a. (y : Task) → IsMember y (map ticked s.tasks) → a.role ≡ Running → Link y.job
            → a.job.value < y.job.value
            → Follows (s.clock + 1) y.role y) s.tasks
            (λ a ma. on_map ticked (λ y. a.role ≡ Running → Link y.job → a.job.value < y.job.value
            → Follows (s.clock + 1) y.role y) s.tasks
            (λ y my runs link less. tick_follows s.clock y.role y (steady.follows a y ma my runs link less)
            (quiet.stale y my) (none_waits y my)))
            t mt u mu;
        idle = λ none. by_idle (steady.idle (λ t m runs. none (ticked t) (map_member ticked s.tasks t m) runs));
      } where
        none_waits : (t : Task) → IsMember t s.tasks → t.role ≡ Waiting → ⊥
        none_waits t m waits = quiet.early t m waits
            (let whole : s.clock + left t ≡ t.job.deadline = (stands_as t m Waiting waits).0 in omega arith)

        by_idle : Each IsUnbegun s.tasks ⊎ Each (λ t. is_over t ≡ true) s.tasks
            → Each IsUnbegun (map ticked s.tasks) ⊎ Each (λ t. is_over t ≡ true) (map ticked s.tasks)
        by_idle (inl unbegun) = inl (on_map ticked IsUnbegun s.tasks unbegun)
        by_idle (inr over) = inr (on_map ticked (λ t. is_over t ≡ true) s.tasks over)

      -- each deed keeps a steady state
      deed_steady : (other : Move) → (Quiet s → IsSteady most Link Light (after s other)) → (m : Move)
          → Deed k s other m → DoneAtEnd s m
          → IsSteady most Link Light (after s m)
      deed_steady other rested m (Completed r member runs) done =
          steady_either _ (completes r member runs (done refl r member runs))
      deed_steady other rested m (Resumed p member is_h none least why) _ = absurd (stands_as p member Held is_h)
      deed_steady other rested m (Started o member waiting none first fits next) _ =
          absurd (by_idle (steady.idle none)) where
            by_idle : Each IsUnbegun s.tasks ⊎ Each (λ t. is_over t ≡ true) s.tasks → ⊥
            by_idle (inl unbegun) = elim (unbegun o member) [
              | inl comes ↦ let e : Waiting ≡ Coming = sym waiting ∙ comes in cc
              | inr it ↦ let e : Waiting ≡ Fresh = sym waiting ∙ it.0 in cc
            ]
            by_idle (inr over) = not_over o Waiting refl waiting (over o member)
      deed_steady other rested m (Began f member fresh none free) _ = begins f member fresh none
      deed_steady other rested m (Preempted r f member runs some f_member fresh before fits) _ =
          absurd (no_preemption r f member runs f_member fresh fits)
      deed_steady other rested m (Stayed r f member runs some f_member fresh why) _ =
          stays r f member runs f_member fresh
      deed_steady other rested m (Arrived c member comes now first stale busy free) _ =
          arrives c member comes now first stale
      deed_steady other rested m (Taken r x member runs some x_member waiting now stale heavy) _ =
          takes r x member runs some x_member waiting heavy
      deed_steady other rested m (Abandoned r x member runs some x_member waiting now stale light) _ =
          steady_either true (abandons r x member runs x_member waiting light)
      deed_steady other rested m (Rested quiet) _ = rested quiet

      -- a step keeps a steady state
      pub step_steady : (m : Move) → Deed k s (ending s or_else Ticks) m → DoneAtEnd s m
          → IsSteady most Link Light (after s m)
      step_steady m deed done =
          deed_steady (ending s or_else Ticks) (by_end (list_all is_over s.tasks)) m deed done where
            by_end : (b : Bool) → Quiet s
                → IsSteady most Link Light
                (after s (then_some b (Prints (End (value_sum (filter is_done s.tasks)))) or_else Ticks))
            by_end true quiet = subst
                (λ (tasks : List Task). IsSteady most Link Light (record s { tasks = tasks }))
                (sym (end_same s (value_sum (filter is_done s.tasks)))) steady
            by_end false quiet = ticks quiet

      -- where all jobs are over, those that are done are worth the last link
      pub value_of_steady : Each (λ t. is_over t ≡ true) s.tasks → value_sum (filter is_done s.tasks) ≡ most
      value_of_steady over = sum_filter is_done (λ t. t.job.value) s.tasks
          ∙ sum_same (λ t. cond (is_done t) t.job.value 0)
          (λ t. cond (eqb t.job.deadline chained.due_last) t.job.value 0) s.tasks
          (λ t m. by_role t m (is_over_role t (over t m))) ∙ one_task where
            by_due : (t : Task) → IsMember t s.tasks → t.role ≡ Gone → (b : Bool)
                → eqb t.job.deadline chained.due_last ≡ b → cond b t.job.value 0 ≡ 0
            by_due t m gone true same = absurd (stands_as t m Gone gone
                (of_task (λ j. j.deadline ≡ chained.due_last → IsLast most Link j) chained.known t m
                (eqb-true _ _ same)))
            by_due t m gone false differs = refl

            by_role : (t : Task) → IsMember t s.tasks → (t.role ≡ Done) ⊎ (t.role ≡ Gone)
                → cond (is_done t) t.job.value 0 ≡ cond (eqb t.job.deadline chained.due_last) t.job.value 0
            by_role t m (inl done) = let last : IsLast most Link t.job = stands_as t m Done done in
                ap (λ b. cond b t.job.value 0) (passes is_done t Done true done refl) ∙ last.1 ∙ sym (counted t m last)
            by_role t m (inr gone) = ap (λ b. cond b t.job.value 0) (passes is_done t Gone false gone refl)
                ∙ sym (by_due t m gone (eqb t.job.deadline chained.due_last) refl)
