-- What the books of a run keep in each state, and steps that change no interval.
use Rattle.std.proofs.Common.{◌≡◌, ℕ, ◌+◌, ◌*◌, ◌≤◌, ◌<◌, ◌⊎◌, inl, inr, List, [], map, refl, sym, ap, ◌∙◌, subst, Bool}
use Rattle.std.proofs.Common.{true, false, cond, eqb, arith, Option, Some, None, sum_by, eq-eqb, ne_eqb, eqb-true}
use Rattle.std.proofs.Math.Nat.{mul-le-mul_left}
use Rattle.dover_model.specs.Common.{Fraction, JobFacts, IsHeavy, Role, Coming, Fresh, Waiting, Held, Running, Done}
use Rattle.dover_model.specs.Common.{Gone, Task, State, is_privileged, is_done, left, with_role, IsMember, Each}
use Rattle.dover_model.specs.Common.{IsNumberedFrom, Row, IsRow, IsDense, IsPaid, job_value, Job, in_rows}
use Rattle.dover_model.proofs.lists.Members.{sum_map}
use Rattle.dover_model.proofs.steps.Roles.{one_number}
use Rattle.dover_model.proofs.steps.Loads.{sum_change, with_roles}
use Rattle.dover_model.proofs.steps.OneChange.{changed, state_with, on_changed, changed_here, changed_there}
use Rattle.dover_model.proofs.bound.Calculus.{heavy_mono}
use Rattle.dover_model.proofs.lists.Tests.{never}
use Rattle.std.specs.List.{list_any}
use Rattle.std.specs.Prelude.{◌&&◌}
use Rattle.dover_model.specs.Common.{is_open_job, after, Prints, Complete, Abandon}
use Rattle.dover_model.proofs.steps.Pressing.{pressing}

-- ---- sums over the tasks

-- a sum in which one term changes
pub sum_one : (f g : Task → ℕ) (a b n : ℕ) (tasks : List Task) (r : Task) → IsNumberedFrom n tasks → IsMember r tasks
    → f r + a ≡ g r + b
    → ((u : Task) → IsMember u tasks → (u.number ≡ r.number → ⊥) → f u ≡ g u) → sum_by f tasks + a ≡ sum_by g tasks + b
sum_one f g a b n tasks r numbered member here others =
    let up : sum_by f tasks + a ≤ sum_by g tasks + b =
    sum_change f g a b n tasks r numbered member (omega (arith, here))
    (λ u m differs. omega (arith, others u m differs)) in
    let down : sum_by g tasks + b ≤ sum_by f tasks + a =
    sum_change g f b a n tasks r numbered member (omega (arith, here))
    (λ u m differs. omega (arith, others u m differs)) in
    omega arith

-- a sum after one job has a new role
pub sum_changed : (F : Task → ℕ) (tasks : List Task) (r : Task) (new : Role) → IsNumberedFrom 0 tasks → IsMember r tasks
    → sum_by F (with_roles (changed r new) tasks) + F r ≡ sum_by F tasks + F (with_role r new)
sum_changed F tasks r new numbered member = ap (λ n. n + F r) (sum_map (λ t. with_role t (changed r new t)) F tasks)
    ∙ sum_one (λ t. F (with_role t (changed r new t))) F (F r) (F (with_role r new)) 0 tasks r numbered member
    (ap (λ b. F (with_role r (cond b new r.role)) + F r) (eq-eqb r.number r.number refl) ∙ omega arith)
    (λ u m differs. ap (λ b. F (with_role u (cond b new u.role))) (ne_eqb u.number r.number differs))

-- of the running and the held jobs
abbrev pub active_sum : (Task → ℕ) → List Task → ℕ
active_sum f tasks = sum_by (λ t. cond (is_privileged t) (f t) 0) tasks

-- their value
abbrev pub active_value : List Task → ℕ
active_value tasks = active_sum (λ t. t.job.value) tasks

-- the ticks that they had
abbrev pub active_had : List Task → ℕ
active_had tasks = active_sum (λ t. t.had) tasks

-- abandoned
abbrev pub is_gone : Task → Bool
is_gone t = elim t.role [
  | Coming ↦ false
  | Fresh ↦ false
  | Waiting ↦ false
  | Held ↦ false
  | Running ↦ false
  | Done ↦
      false
  | Gone ↦ true
]

-- released and not over
abbrev pub is_ready : Task → Bool
is_ready t = elim t.role
    [ Coming ↦ false | Fresh ↦ true | Waiting ↦ true | Held ↦ true | Running ↦ true | Done ↦ false | Gone ↦ false ]

-- the job under its number
abbrev pub job_of : Task → Job
job_of t = (t.number, t.job)

-- a sum over the jobs that pass
abbrev pub sum_where : (Task → Bool) → (Job → ℕ) → List Task → ℕ
sum_where p f tasks = sum_by (λ t. cond (p t) (f (job_of t)) 0) tasks

-- ---- the books

-- the tick is in a closed row or in the one under way
abbrev pub InBooks : List Row → Option Row → ℕ → Type 0
InBooks closed None τ = in_rows closed τ ≡ true
InBooks closed (Some row) τ = (in_rows closed τ ≡ true) ⊎ (row.interval.from ≤ τ)

-- so is each tick from a on and before b
abbrev pub Covered : List Row → Option Row → ℕ → ℕ → Type 0
Covered closed current a b = (τ : ℕ) → a ≤ τ → τ < b → InBooks closed current τ

-- some job runs or is held
abbrev pub SomeActive : List Task → Type 0
SomeActive tasks = (t : Task) × IsMember t tasks × (is_privileged t ≡ true)

-- none does
abbrev pub NoneActive : List Task → Type 0
NoneActive tasks = Each (λ t. is_privileged t ≡ true → ⊥) tasks

-- the job that took: it runs alone, has no slack, and is worth enough for what is displaced
pub record Taker (k : Fraction) (s : State) (d : ℕ) : Type 0 where
  pub job : Task
  pub member : IsMember job s.tasks
  pub runs : job.role ≡ Running
  pub alone : Each (λ t. t.role ≡ Held → ⊥) s.tasks
  pub tight : s.clock + left job ≡ job.job.deadline
  pub worth : IsPaid k d job.job.value

-- what is known of a job that is abandoned in the interval under way
pub record OpenGone (k : Fraction) (v w : ℕ) (s : State) (closed : List Row) (row : Row) (j : JobFacts) : Type 0 where
  pub covered : Covered closed (Some row) j.release s.clock
  pub reach : j.deadline ≤ s.clock + j.work
  pub light : IsHeavy k j.value (row.interval.regular + active_value s.tasks) → ⊥
  pub dense : IsDense k v w j

-- what is known of the interval under way
pub record UnderWay (k : Fraction) (v w : ℕ) (s : State) (closed : List Row) (row : Row) : Type 0 where
  pub active : SomeActive s.tasks
  pub begun : row.interval.from ≤ s.clock
  pub regular_sum : row.interval.regular ≡ sum_by job_value row.regular
  pub abandoned_sum : row.interval.abandoned ≡ sum_by job_value row.gone
  pub lost : row.interval.lost ≡ map job_value row.gone
  pub none_taken : row.interval.taken ≡ 0
  pub no_taken : row.taken ≡ []
  pub span : v * s.clock ≤ v * row.interval.from + w * (row.interval.regular + row.interval.displaced) + v
      * active_had s.tasks
  pub plain : row.interval.took ≡ false → row.interval.displaced ≡ 0
  pub taker : row.interval.took ≡ true → Taker k s row.interval.displaced
  pub gone : Each (λ n_j. OpenGone k v w s closed row n_j.1) row.gone

-- what is known of the interval under way, or that no job is active
abbrev pub Open : Fraction → ℕ → ℕ → State → List Row → Option Row → Type 0
Open k v w s closed None = NoneActive s.tasks
Open k v w s closed (Some row) = UnderWay k v w s closed row

-- a sum over the completed jobs of the row under way
abbrev pub open_done : (Job → ℕ) → Option Row → ℕ
open_done f None = 0
open_done f (Some row) = sum_by f row.regular

-- one over its abandoned jobs
abbrev pub open_gone : (Job → ℕ) → Option Row → ℕ
open_gone f None = 0
open_gone f (Some row) = sum_by f row.gone

-- what the books keep: the interval under way, that each ready job is covered, the closed rows, and that each job that
-- is over is in one
pub record Booked (k : Fraction) (v w : ℕ) (s : State) (closed : List Row) (current : Option Row) : Type 0 where
  pub under : Open k v w s closed current
  pub ready : Each (λ t. is_ready t ≡ true → Covered closed current t.job.release s.clock) s.tasks
  pub rows : Each (IsRow k v w (in_rows closed)) closed
  pub done : (f : Job → ℕ)
      → sum_where is_done f s.tasks ≡ sum_by (λ row. sum_by f row.regular + sum_by f row.taken) closed
      + open_done f current
  pub gone : (f : Job → ℕ)
      → sum_where is_gone f s.tasks ≡ sum_by (λ row. sum_by f row.gone) closed + open_gone f current

-- ---- pressed or not

-- the books are those of the state, pressed or not
pub booked_pressing : (b : Bool) (k : Fraction) (v w : ℕ) (s : State) (closed : List Row) (current : Option Row)
    → Booked k v w s closed current → Booked k v w (pressing b s) closed current
booked_pressing b k v w s closed current books = record {
  under = open_pressing current books.under;
  ready = books.ready;
  rows = books.rows;
  done = books.done;
  gone = books.gone;
} where
  taker_pressing : (d : ℕ) → Taker k s d → Taker k (pressing b s) d
  taker_pressing d it = record {
    job = it.job;
    member = it.member;
    runs = it.runs;
    alone = it.alone;
    tight = it.tight;
    worth = it.worth;
  }

  open_pressing : (o : Option Row) → Open k v w s closed o → Open k v w (pressing b s) closed o
  open_pressing None none = none
  open_pressing (Some row) under = record {
    active = under.active;
    begun = under.begun;
    regular_sum = under.regular_sum;
    abandoned_sum = under.abandoned_sum;
    lost = under.lost;
    none_taken = under.none_taken;
    no_taken = under.no_taken;
    span = under.span;
    plain = under.plain;
    taker = λ took. taker_pressing row.interval.displaced (under.taker took);
    gone = λ n_j m. let it = under.gone n_j m in
        record { covered = it.covered; reach = it.reach; light = it.light; dense = it.dense };
  }

-- so behind a completion
pub books_done : (k : Fraction) (v w : ℕ) (s : State) (r : Task) {closed : List Row} {current : Option Row}
    → Booked k v w (state_with s r Done) closed current
    → Booked k v w (after s (Prints (Complete s.clock r.number))) closed current
books_done k v w s r {closed} {current} books =
    booked_pressing (s.pressed && list_any is_open_job (with_roles (changed r Done) s.tasks)) k v w
    (state_with s r Done)
    closed current books

-- and behind an abandonment
pub books_gone : (k : Fraction) (v w : ℕ) (s : State) (x : Task) {closed : List Row} {current : Option Row}
    → Booked k v w (state_with s x Gone) closed current
    → Booked k v w (after s (Prints (Abandon s.clock x.number))) closed current
books_gone k v w s x {closed} {current} books =
    booked_pressing true k v w (state_with s x Gone) closed current books

-- ---- changes that no interval sees

-- what is known of the interval under way stays, where the running and held jobs grow
pub under_kept : (k : Fraction) (v w : ℕ) (s t : State) (closed : List Row) (row : Row) → t.clock ≡ s.clock
    → SomeActive t.tasks
    → active_value s.tasks ≤ active_value t.tasks → active_had s.tasks ≤ active_had t.tasks
    → (Taker k s row.interval.displaced → Taker k t row.interval.displaced) → UnderWay k v w s closed row
    → UnderWay k v w t closed row
under_kept k v w s t closed row same some value had taker under = record {
  active = some;
  begun = let low : row.interval.from ≤ s.clock = under.begun in omega (arith, same);
  regular_sum = under.regular_sum;
  abandoned_sum = under.abandoned_sum;
  lost = under.lost;
  none_taken = under.none_taken;
  no_taken = under.no_taken;
  span =
      let old : v * s.clock ≤ v * row.interval.from + w * (row.interval.regular + row.interval.displaced) + v
      * active_had s.tasks = under.span in
      omega (arith, ap (λ n. v * n) same, mul-le-mul_left v had);
  plain = under.plain;
  taker = λ took. taker (under.taker took);
  gone = λ n_j member. record {
    covered = subst (λ c. Covered closed (Some row) n_j.1.release c) (sym same) (under.gone n_j member).covered;
    reach = let reach : n_j.1.deadline ≤ s.clock + n_j.1.work = (under.gone n_j member).reach in omega (arith, same);
    light = λ heavy. (under.gone n_j member).light
        (heavy_mono k n_j.1.value (row.interval.regular + active_value s.tasks)
        (row.interval.regular + active_value t.tasks) (omega arith) heavy);
    dense = (under.gone n_j member).dense;
  };
}

-- a term that stays 0 or grows
grows : (b c : Bool) (n : ℕ) → (b ≡ true → c ≡ true) → cond b n 0 ≤ cond c n 0
grows true true n h = omega arith
grows true false n h = never (h refl)
grows false c n h = omega arith

-- two terms that are nothing
nothing : (b c : Bool) (n : ℕ) → b ≡ false → c ≡ false → cond b n 0 ≡ cond c n 0
nothing false false n e f = refl
nothing true c n e f = never (sym e)
nothing false true n e f = never (sym f)

-- what a change of one role must meet to be none of a row's
pub record Plain (k : Fraction) (s : State) (r : Task) (new : Role) (current : Option Row) : Type 0 where
  pub not_done : is_done r ≡ false
  pub not_gone : is_gone r ≡ false
  pub never_done : is_done (with_role r new) ≡ false
  pub never_gone : is_gone (with_role r new) ≡ false
  pub stays_active : is_privileged r ≡ true → is_privileged (with_role r new) ≡ true
  pub ready : is_ready (with_role r new) ≡ true → (is_ready r ≡ true) ⊎ (s.clock ≤ r.job.release)
  pub idle : current ≡ None → is_privileged (with_role r new) ≡ true → ⊥
  pub taker : (d : ℕ) → Taker k s d → Taker k (state_with s r new) d

module _ (k : Fraction) (v w : ℕ) (s : State) (numbered : IsNumberedFrom 0 s.tasks) (closed : List Row)
    (current : Option Row) (r : Task)
    (member : IsMember r s.tasks) (new : Role) where
  -- a sum over jobs that pass is the same
  pub sum_stays : (p : Task → Bool) (f : Task → ℕ)
      → cond (p r) (f r) 0 ≡ cond (p (with_role r new)) (f (with_role r new)) 0
      → sum_by (λ t. cond (p t) (f t) 0) (with_roles (changed r new) s.tasks) ≡ sum_by (λ t. cond (p t) (f t) 0) s.tasks
  sum_stays p f same = omega (arith, same, sum_changed (λ t. cond (p t) (f t) 0) s.tasks r new numbered member)

  -- a sum over the running and held jobs does not fall
  pub active_grows : (f : Task → ℕ) → f (with_role r new) ≡ f r
      → (is_privileged r ≡ true → is_privileged (with_role r new) ≡ true)
      → active_sum f s.tasks ≤ active_sum f (with_roles (changed r new) s.tasks)
  active_grows f same stays = omega (
    arith,
    sum_changed (λ t. cond (is_privileged t) (f t) 0) s.tasks r new numbered member,
    grows (is_privileged r) (is_privileged (with_role r new)) (f r) stays,
    ap (λ n. cond (is_privileged (with_role r new)) n 0) same,
  )

  -- some job is still active
  pub some_still : (is_privileged r ≡ true → is_privileged (with_role r new) ≡ true) → SomeActive s.tasks
      → SomeActive (with_roles (changed r new) s.tasks)
  some_still stays some = by_number (eqb some.0.number r.number) refl where
    by_number : (b : Bool) → eqb some.0.number r.number ≡ b → SomeActive (with_roles (changed r new) s.tasks)
    by_number true e =
        let same : some.0 ≡ r = one_number 0 s.tasks numbered some.0 r some.1 member (eqb-true _ _ e) in (
          with_role r new,
          changed_here 0 s.tasks numbered r member new,
          stays (subst (λ (t : Task). is_privileged t ≡ true) same some.2),
        )
    by_number false e = (
      some.0,
      changed_there s.tasks r some.0 new some.1 (λ same. never (sym e ∙ eq-eqb _ _ same)),
      some.2,
    )

  -- each ready job is covered
  pub ready_still : (is_ready (with_role r new) ≡ true → (is_ready r ≡ true) ⊎ (s.clock ≤ r.job.release))
      → Each (λ t. is_ready t ≡ true → Covered closed current t.job.release s.clock) s.tasks
      → Each (λ t. is_ready t ≡ true → Covered closed current t.job.release s.clock)
      (with_roles (changed r new) s.tasks)
  ready_still was ready = on_changed 0 s.tasks numbered r member new
      (λ t. is_ready t ≡ true → Covered closed current t.job.release s.clock)
      (λ is_r. by_ready (was is_r)) (λ t m _. ready t m) where
        by_ready : (is_ready r ≡ true) ⊎ (s.clock ≤ r.job.release) → Covered closed current r.job.release s.clock
        by_ready (inl before) = ready r member before
        by_ready (inr now) = λ τ low high. absurd (omega arith)

  -- the books stay
  pub plain_kept : Plain k s r new current → Booked k v w s closed current
      → Booked k v w (state_with s r new) closed current
  plain_kept plain books = record {
    under = by_open current plain.idle books.under;
    ready = ready_still plain.ready books.ready;
    rows = books.rows;
    done = λ f. sum_stays is_done (λ t. f (job_of t))
        (nothing (is_done r) (is_done (with_role r new)) (f (job_of r)) plain.not_done plain.never_done) ∙ books.done f;
    gone = λ f. sum_stays is_gone (λ t. f (job_of t))
        (nothing (is_gone r) (is_gone (with_role r new)) (f (job_of r)) plain.not_gone plain.never_gone) ∙ books.gone f;
  } where
    by_open : (o : Option Row) → (o ≡ None → is_privileged (with_role r new) ≡ true → ⊥) → Open k v w s closed o
        → Open k v w (state_with s r new) closed o
    by_open None idle none =
        on_changed 0 s.tasks numbered r member new (λ t. is_privileged t ≡ true → ⊥) (idle refl) (λ t m _. none t m)
    by_open (Some row) idle under =
        under_kept k v w s (state_with s r new) closed row refl (some_still plain.stays_active under.active)
        (active_grows (λ t. t.job.value) refl plain.stays_active) (active_grows (λ t. t.had) refl plain.stays_active)
        (plain.taker row.interval.displaced) under
