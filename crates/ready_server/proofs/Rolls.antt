-- A roll follows the states of a run.
use Rattle.std.proofs.Common.{◌≡◌, ℕ, zero, suc, ◌-◌, ◌≤◌, List, [], ◌∷◌, ◌++◌, length, set, refl, sym, ap, ◌∙◌, subst}
use Rattle.std.proofs.Common.{Bool, true, false, cond, arith, eq-eqb, ne_eqb, Option, Some, None, slice_get}
use Rattle.dover_model.specs.declared.events.Role.{Role}
use Rattle.dover_model.specs.declared.events.Role.TheVariants.{Coming, Fresh, Waiting, Held, Running, Done, Gone}
use Rattle.dover_model.specs.declared.events.Task.{Task}
use Rattle.dover_model.specs.Common.{JobFacts, IsMember, Each, State, with_role}
use Rattle.dover_model.proofs.steps.Pressing.{pressing}
use Rattle.ready_server.specs.Roster.{Roll, ListedJob, had_with, is_turn, is_displaced, job_at, with_finish}
use Rattle.ready_server.specs.declared.roster.ListedFinish.{ListedFinish}

-- the role of a job in a roll: what is fresh there waits
abbrev pub calm_role : Role → Role
calm_role Coming = Coming
calm_role Fresh = Waiting
calm_role Waiting = Waiting
calm_role Held = Held
calm_role Running = Running
calm_role Done = Done
calm_role Gone = Gone

abbrev pub calm : Task → Task
calm t = with_role t (calm_role t.role)

-- the roll has this job as it is
pub record Lists (p : Roll) (clock : ℕ) (t : Task) : Type 0 where
  pub listed : ListedJob
  pub there : slice_get p.jobs t.number ≡ Some listed
  pub is : job_at p clock listed ≡ calm t
  pub before : listed.takes ≤ p.takes

-- the roll has the jobs of the state that were released
pub record Follows (s : State) (p : Roll) : Type 0 where
  pub since : p.since ≤ s.clock
  pub turn : (n : ℕ) → p.turn ≡ Some n → (r : Task) × IsMember r s.tasks × (r.role ≡ Running) × (r.number ≡ n)
  pub runs : Each (λ t. t.role ≡ Running → p.turn ≡ Some t.number) s.tasks
  pub here : Each (λ t. (t.role ≡ Coming → ⊥) → Lists p s.clock t) s.tasks
  pub ahead : Each (λ t. t.role ≡ Coming → length p.jobs ≤ t.number) s.tasks
  pub few : length p.jobs ≤ length s.tasks

-- it follows it whether it is pressed or not
pub follows_pressing : (b : Bool) (s : State) (p : Roll) → Follows s p → Follows (pressing b s) p
follows_pressing b s p it = record {
  since = it.since;
  turn = it.turn;
  runs = it.runs;
  here = it.here;
  ahead = it.ahead;
  few = it.few;
}

-- it follows it whatever finishes it has
lists_finish : (q : Roll) (f : ListedFinish) (clock : ℕ) (t : Task) → Lists q clock t
    → Lists (with_finish q (Some f)) clock t
lists_finish q f clock t it = record { listed = it.listed; there = it.there; is = it.is; before = it.before }

pub follows_finish : (s : State) (q : Roll) (o : Option ListedFinish) → Follows s q → Follows s (with_finish q o)
follows_finish s q None it = it
follows_finish s q (Some f) it = record {
  since = it.since;
  turn = it.turn;
  runs = it.runs;
  here = λ t m out. lists_finish q f s.clock t (it.here t m out);
  ahead = it.ahead;
  few = it.few;
}

-- ---- lists

pub set_here : {X : Type 0} (xs : List X) (n : ℕ) (x y : X) → slice_get xs n ≡ Some y → slice_get (set xs n x) n
    ≡ Some x
set_here [] n x y there = absurd (let e : None ≡ Some y = there in cc)
set_here (z ∷ xs) zero x y there = refl
set_here (z ∷ xs) (suc n) x y there = set_here xs n x y there

pub set_there : {X : Type 0} (xs : List X) (n m : ℕ) (x : X) → (m ≡ n → ⊥) → slice_get (set xs n x) m ≡ slice_get xs m
set_there [] n m x other = refl
set_there (z ∷ xs) zero zero x other = absurd (other refl)
set_there (z ∷ xs) zero (suc m) x other = refl
set_there (z ∷ xs) (suc n) zero x other = refl
set_there (z ∷ xs) (suc n) (suc m) x other = set_there xs n m x (λ e. other (ap suc e))

pub get_front : {X : Type 0} (xs ys : List X) (n : ℕ) (x : X) → slice_get xs n ≡ Some x → slice_get (xs ++ ys) n
    ≡ Some x
get_front [] ys n x there = absurd (let e : None ≡ Some x = there in cc)
get_front (z ∷ xs) ys zero x there = there
get_front (z ∷ xs) ys (suc n) x there = get_front xs ys n x there

pub get_last : {X : Type 0} (xs : List X) (x : X) → slice_get (xs ++ x ∷ []) (length xs) ≡ Some x
get_last [] x = refl
get_last (z ∷ xs) x = get_last xs x

pub length_set : {X : Type 0} (xs : List X) (n : ℕ) (x : X) → length (set xs n x) ≡ length xs
length_set [] n x = refl
length_set (z ∷ xs) zero x = refl
length_set (z ∷ xs) (suc n) x = ap suc (length_set xs n x)

-- these tasks at the same clock
abbrev pub at_clock : State → List Task → State
at_clock s tasks = record s { tasks = tasks }

-- ---- one job

-- a task of these parts
abbrev task_of : ℕ → JobFacts → Role → ℕ → Task
task_of n job role had = record { number = n; job = job; role = role; had = had }

-- tasks of the same parts are the same
same_parts : (a b : Task) → a.number ≡ b.number → a.job ≡ b.job → a.role ≡ b.role → a.had ≡ b.had → a ≡ b
same_parts a b number job role had =
    ap (λ n. task_of n a.job a.role a.had) number ∙ ap (λ j. task_of b.number j a.role a.had) job
    ∙ ap (λ r. task_of b.number b.job r a.had) role ∙ ap (task_of b.number b.job b.role) had

-- a job of the roll is the task that has its parts
pub lists_as : (p : Roll) (clock : ℕ) (t : Task) (e : ListedJob) (b : Bool) → slice_get p.jobs t.number ≡ Some e
    → e.task.number ≡ t.number → e.task.job ≡ t.job → is_turn p.turn t.number ≡ b
    → cond b Running (cond (is_displaced p.takes e) Waiting e.task.role) ≡ calm_role t.role
    → cond b (had_with (clock - p.since) e.task) e.task.had ≡ t.had → e.takes ≤ p.takes → Lists p clock t
lists_as p clock t e b there number job turn role had low = record {
  listed = e;
  there = there;
  is = same_parts (job_at p clock e) (calm t) number job
      (ap (λ c. cond c Running (cond (is_displaced p.takes e) Waiting e.task.role)) turn_e ∙ role)
      (ap (λ c. cond c (had_with (clock - p.since) e.task) e.task.had) turn_e ∙ had);
  before = low;
} where
  turn_e : is_turn p.turn e.task.number ≡ b
  turn_e = ap (is_turn p.turn) number ∙ turn

-- a job that isn't the one that runs
module _ (p : Roll) (clock : ℕ) (t : Task) (it : Lists p clock t) where
  pub number_is : it.listed.task.number ≡ t.number
  number_is = ap (λ (u : Task). u.number) it.is

  pub job_is : it.listed.task.job ≡ t.job
  job_is = ap (λ (u : Task). u.job) it.is

  -- where it runs
  module _ (turns : p.turn ≡ Some t.number) where
    pub turn_here : is_turn p.turn it.listed.task.number ≡ true
    turn_here = ap (λ o. is_turn o it.listed.task.number) turns ∙ eq-eqb t.number it.listed.task.number (sym number_is)

    pub had_ran : had_with (clock - p.since) it.listed.task ≡ t.had
    had_ran = ap (λ b. cond b (had_with (clock - p.since) it.listed.task) it.listed.task.had) (sym turn_here)
        ∙ ap (λ (u : Task). u.had) it.is

  -- where another runs, or none
  module _ (idle : is_turn p.turn t.number ≡ false) where
    pub idle_here : is_turn p.turn it.listed.task.number ≡ false
    idle_here = ap (is_turn p.turn) number_is ∙ idle

    pub had_is : it.listed.task.had ≡ t.had
    had_is = ap (λ b. cond b (had_with (clock - p.since) it.listed.task) it.listed.task.had) (sym idle_here)
        ∙ ap (λ (u : Task). u.had) it.is

    pub role_is : cond (is_displaced p.takes it.listed) Waiting it.listed.task.role ≡ calm_role t.role
    role_is = ap (λ b. cond b Running (cond (is_displaced p.takes it.listed) Waiting it.listed.task.role))
        (sym idle_here) ∙ ap (λ (u : Task). u.role) it.is

    -- another roll, in which it doesn't run either, has it in another role
    pub lists_other : (q : Roll) (role : Role) (e : ListedJob) → slice_get q.jobs t.number ≡ Some e
        → e.task.number ≡ t.number → e.task.job ≡ t.job → e.task.had ≡ t.had → is_turn q.turn t.number ≡ false
        → cond (is_displaced q.takes e) Waiting e.task.role ≡ calm_role role → e.takes ≤ q.takes
        → (clock2 : ℕ) → Lists q clock2 (with_role t role)
    lists_other q role e there number job had idle_too same low clock2 =
        lists_as q clock2 (with_role t role) e false there number job idle_too same had low

    -- with the same list, takes and role it is as before
    pub lists_same : (q : Roll) (role : Role) → slice_get q.jobs t.number ≡ slice_get p.jobs t.number
        → q.takes ≡ p.takes → is_turn q.turn t.number ≡ false → calm_role role ≡ calm_role t.role
        → (clock2 : ℕ) → Lists q clock2 (with_role t role)
    lists_same q role same takes idle_too calm_too = lists_other q role it.listed (same ∙ it.there) number_is job_is
        had_is idle_too
        (ap (λ n. cond (is_displaced n it.listed) Waiting it.listed.task.role) takes ∙ role_is ∙ sym calm_too)
        (subst (λ n. it.listed.takes ≤ n) (sym takes) it.before)

-- no more ticks
pub had_none : (t : Task) (n : ℕ) → t.had ≤ t.job.work → had_with (n - n) t ≡ t.had
had_none t n most = omega arith

-- a number that isn't that of the job which runs
pub not_turn : (turn : Option ℕ) (n m : ℕ) → turn ≡ Some m → (n ≡ m → ⊥) → is_turn turn n ≡ false
not_turn turn n m is other = ap (λ o. is_turn o n) is ∙ ne_eqb m n (λ e. other (sym e))

pub none_turn : (turn : Option ℕ) (n : ℕ) → turn ≡ None → is_turn turn n ≡ false
none_turn turn n is = ap (λ o. is_turn o n) is
