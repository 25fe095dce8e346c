-- What a right finish says, and where one is right.
use Rattle.std.proofs.Common.{◌≡◌, ℕ, ◌<◌, refl, ap, ◌∙◌, Bool, true, false, cond, Option, Some, None, nat_lt, ◌==◌}
use Rattle.std.proofs.Common.{option_and_then, eqb-true, eq-eqb}
use Rattle.std.specs.Bool.{then_some}
use Rattle.std.specs.List.{AllByRecursion, list_all}
use Rattle.dover_model.specs.Common.{Instance, Task, running, is_running, Step, settled_steps, settled_state}
use Rattle.dover_model.specs.Common.{finish_now, RunsAtMark, EarlyFinish, finish_at}
use Rattle.dover_model.specs.Session.{finishing_at}
use Rattle.dover_model.proofs.lists.Members.{some_same, found, all_member}
use Rattle.dover_model.proofs.steps.Roles.{is_running_role}
use Rattle.dover_model.proofs.lists.Tests.{none_is_some, each, below}

-- all settled steps were taken before the mark's tick
abbrev pub all_before : Instance → ℕ → Bool
all_before J t = list_all (λ x. nat_lt x.before.clock t) (settled_steps J t)

-- what a right finish at tick t of the job of number n says
pub record FinishSays (J : Instance) (t n : ℕ) (f : EarlyFinish) : Type 0 where
  pub job : Task
  pub runs : running (settled_state J t) ≡ Some job
  pub before : AllByRecursion (λ x. x.before.clock < t) (settled_steps J t)
  pub number : job.number ≡ n
  pub is : record { at = t; finish = finish_now job } ≡ f

pub finish_says : (J : Instance) (t n : ℕ) (f : EarlyFinish) → finish_at J t n ≡ Some f → FinishSays J t n f
finish_says J t n f right = by_test (all_before J t) refl right where
  by_number : (r : Task) (b : Bool) → (r.number == n) ≡ b → running (settled_state J t) ≡ Some r
      → AllByRecursion (λ x. x.before.clock < t) (settled_steps J t)
      → then_some b (record { at = t; finish = finish_now r }) ≡ Some f → FinishSays J t n f
  by_number r false same some early e = none_is_some e
  by_number r true same some early e = record {
    job = r;
    runs = some;
    before = early;
    number = eqb-true _ _ same;
    is = some_same (record { at = t; finish = finish_now r }) f e;
  }

  by_runner : (o : Option Task) → running (settled_state J t) ≡ o
      → AllByRecursion (λ x. x.before.clock < t) (settled_steps J t)
      → option_and_then (finishing_at t n) o ≡ Some f → FinishSays J t n f
  by_runner None none early e = none_is_some e
  by_runner (Some r) some early e = by_number r (r.number == n) refl some early e

  by_test : (b : Bool) → all_before J t ≡ b
      → cond b (option_and_then (finishing_at t n) (running (settled_state J t))) None ≡ Some f → FinishSays J t n f
  by_test false all e = none_is_some e
  by_test true all e = by_runner (running (settled_state J t)) refl
      ((each (λ (x : Step). nat_lt x.before.clock t) (λ x. x.before.clock < t) (λ x. below x.before.clock t)
      (settled_steps J t)).0 all) e

-- its job may finish there
pub finish_runs : (J : Instance) (t n : ℕ) (f : EarlyFinish) (says : FinishSays J t n f) → RunsAtMark J t says.job
finish_runs J t n f says = let it = found is_running (settled_state J t).tasks says.job says.runs in record {
  member = it.0;
  runs = is_running_role says.job it.1;
  before = all_member (λ x. x.before.clock < t) (settled_steps J t) says.before;
}

-- of the job that runs at the barrier it is right, where all settled steps were taken before
pub right_finish : (J : Instance) (t : ℕ) (r : Task) → running (settled_state J t) ≡ Some r → all_before J t ≡ true
    → finish_at J t r.number ≡ Some (record { at = t; finish = finish_now r })
right_finish J t r some early =
    ap (λ b. cond b (option_and_then (finishing_at t r.number) (running (settled_state J t))) None) early
    ∙ ap (option_and_then (finishing_at t r.number)) some
    ∙ ap (λ b. then_some {T = EarlyFinish} b (record { at = t; finish = finish_now r })) (eq-eqb r.number r.number refl)

-- none is right where a settled step was taken in the mark's tick
pub none_late : (J : Instance) (t n : ℕ) → all_before J t ≡ false → finish_at J t n ≡ None
none_late J t n late = ap (λ b. cond b (option_and_then (finishing_at t n) (running (settled_state J t))) None) late

-- none is right of a job that doesn't run
pub none_other : (J : Instance) (t n : ℕ) → ((r : Task) → running (settled_state J t) ≡ Some r → r.number ≡ n → ⊥)
    → finish_at J t n ≡ None
none_other J t n other = by_test (all_before J t) where
  by_number : (r : Task) → running (settled_state J t) ≡ Some r → (b : Bool) → (r.number == n) ≡ b
      → then_some {T = EarlyFinish} b (record { at = t; finish = finish_now r }) ≡ None
  by_number r some false e = refl
  by_number r some true e = absurd (other r some (eqb-true _ _ e))

  by_runner : (o : Option Task) → running (settled_state J t) ≡ o → option_and_then (finishing_at t n) o ≡ None
  by_runner None e = refl
  by_runner (Some r) e = by_number r e (r.number == n) refl

  by_test : (b : Bool) → cond b (option_and_then (finishing_at t n) (running (settled_state J t))) None ≡ None
  by_test false = refl
  by_test true = by_runner (running (settled_state J t)) refl
