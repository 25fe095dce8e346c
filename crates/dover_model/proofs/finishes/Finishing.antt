-- Early finishes, as facts.
use Rattle.std.proofs.Common.{◌≡◌, ℕ, List, [], ◌∷◌, refl, sym, ap, ◌∙◌, subst, Bool, true, false, cond, Option, Some}
use Rattle.std.proofs.Common.{None, ◌==◌, ◌&&◌, ◌||◌, nat_lt, find, eqb-true}
use Rattle.std.proofs.lemmas.Bool.{and_parts}
use Rattle.dover_model.specs.Common.{Fraction, Finish, is_finish_of, has_come_to, is_due, Running, Complete, Task}
use Rattle.dover_model.specs.Common.{State, is_running, running, Move, Prints, due_finish, finish_or, waits_for_mark}
use Rattle.dover_model.specs.Common.{is_complete, IsMember}
use Rattle.dover_model.proofs.lists.Members.{found}
use Rattle.dover_model.proofs.steps.Roles.{is_running_role}
use Rattle.dover_model.proofs.steps.Deeds.{Deed, Completed}
use Rattle.dover_model.proofs.lists.Tests.{never}

-- a finish that is due is the running job's
pub record IsDue (finishes : List Finish) (s : State) (f : Finish) : Type 0 where
  pub member : IsMember f finishes
  pub job : Task
  pub is : running s ≡ Some job
  pub there : IsMember job s.tasks
  pub runs : job.role ≡ Running
  pub comes : has_come_to job f ≡ true
  pub number : f.number ≡ job.number

-- so it is
pub finish_due : (finishes : List Finish) (s : State) (f : Finish) → due_finish finishes s ≡ Some f → IsDue finishes s f
finish_due finishes s f due = by_running (running s) refl it.1 where
  it : IsMember f finishes × (is_finish_of (running s) f ≡ true)
  it = found (is_finish_of (running s)) finishes f due

  by_running : (o : Option Task) → running s ≡ o → is_finish_of o f ≡ true → IsDue finishes s f
  by_running None none comes = never comes
  by_running (Some r) some comes =
      let there : IsMember r s.tasks × (is_running r ≡ true) = found is_running s.tasks r some in
      record {
        member = it.0;
        job = r;
        is = some;
        there = there.0;
        runs = is_running_role r there.1;
        comes = comes;
        number = eqb-true _ _ (and_parts (f.number == r.number) (f.had == r.had)
            (and_parts ((f.number == r.number) && (f.had == r.had)) (nat_lt 0 r.had) comes).0).0;
      }

-- and names what the job has had
pub due_had : (finishes : List Finish) (s : State) (f : Finish) (it : IsDue finishes s f) → f.had ≡ it.job.had
due_had finishes s f it = eqb-true _ _ (and_parts (f.number == it.job.number) (f.had == it.job.had)
    (and_parts ((f.number == it.job.number) && (f.had == it.job.had)) (nat_lt 0 it.job.had) it.comes).0).1

-- where a finish is due, the running job is done, and else the deed is the same
pub finish_deed : (k : Fraction) (s : State) (other : Move) (finishes : List Finish) (m : Move) → Deed k s other m
    → Deed k s other (finish_or s.clock (due_finish finishes s) m)
finish_deed k s other finishes m deed = by_due (due_finish finishes s) refl where
  by_due : (o : Option Finish) → due_finish finishes s ≡ o → Deed k s other (finish_or s.clock o m)
  by_due None e = deed
  by_due (Some f) e =
      let it : IsDue finishes s f = finish_due finishes s f e in
      subst (λ n. Deed k s other (Prints (Complete s.clock n))) (sym it.number) (Completed it.job it.there it.runs)

-- a late step is no finish
pub late_unfinished : (clock : ℕ) (o : Option Finish) (m : Move) → waits_for_mark (finish_or clock o m) ≡ true
    → (o ≡ None) × (waits_for_mark m ≡ true)
late_unfinished clock None m late = (refl, late)
late_unfinished clock (Some f) m late = never late

-- the job has come to none of these finishes, where none is found
pub none_comes : (t : Task) (finishes : List Finish) → find (is_finish_of (Some t)) finishes ≡ None
    → is_due finishes t ≡ false
none_comes t [] none = refl
none_comes t (f ∷ finishes) none = by_test (has_come_to t f) none (none_comes t finishes) where
  by_test : (b : Bool) → cond b (Some f) (find (is_finish_of (Some t)) finishes) ≡ None
      → (find (is_finish_of (Some t)) finishes ≡ None → is_due finishes t ≡ false)
      → (b || is_due finishes t) ≡ false
  by_test true none more = absurd (let e : Some f ≡ None = none in cc)
  by_test false none more = more none

-- it has come to one of them, where one is found
pub some_comes : (t : Task) (finishes : List Finish) (f : Finish) → find (is_finish_of (Some t)) finishes ≡ Some f
    → is_due finishes t ≡ true
some_comes t [] f some = absurd (let e : None ≡ Some f = some in cc)
some_comes t (g ∷ finishes) f some = by_test (has_come_to t g) some (some_comes t finishes f) where
  by_test : (b : Bool) → cond b (Some g) (find (is_finish_of (Some t)) finishes) ≡ Some f
      → (find (is_finish_of (Some t)) finishes ≡ Some f → is_due finishes t ≡ true)
      → (b || is_due finishes t) ≡ true
  by_test true some more = refl
  by_test false some more = more some

-- where none runs, none is due
pub none_without : (finishes : List Finish) → find (is_finish_of None) finishes ≡ None
none_without [] = refl
none_without (f ∷ finishes) = none_without finishes

-- a step that is no completion is the declared one
pub not_complete : (clock : ℕ) (o : Option Finish) (m n : Move) → finish_or clock o m ≡ n → is_complete n ≡ false
    → m ≡ n
not_complete clock None m n e other = e
not_complete clock (Some f) m n e other = never (sym (ap is_complete e ∙ other))
