-- A job is done exactly where it has had what it needs.
use Rattle.std.proofs.Common.{◌≡◌, ℕ, ◌≤◌, ◌<◌, List, [], ◌∷◌, refl, sym, ap, ◌∙◌, subst, Bool, true, false, cond}
use Rattle.std.proofs.Common.{arith, eqb}
use Rattle.std.specs.Prelude.{◌==◌, ◌&&◌, ◌||◌, nat_lt, nat_le}
use Rattle.std.specs.Bool.{then_some}
use Rattle.std.specs.List.{filter, list_all}
use Rattle.std.proofs.lemmas.Bool.{eqb-true, eqb-false, leb-true, leb-false}
use Rattle.dover_model.specs.Common.{JobFacts, Fraction, Rules, Instance, IsValid, Finish, is_due, need, goes_on, Role}
use Rattle.dover_model.specs.Common.{Coming, Fresh, Waiting, Held, Running, Done, Gone, End, Task, State, opening}
use Rattle.dover_model.specs.Common.{is_ready_behind, is_over, is_done, left, value_sum, Move, Prints, Ticks, ◌or_else◌}
use Rattle.dover_model.specs.Common.{after, with_role, displaced, ticked, step, ending, IsMember, Each, IsSound, Keeps}
use Rattle.dover_model.proofs.lists.Members.{on_map}
use Rattle.dover_model.proofs.steps.Roles.{passes}
use Rattle.dover_model.proofs.steps.Moves.{says}
use Rattle.dover_model.proofs.steps.Ticking.{Quiet}
use Rattle.dover_model.proofs.steps.OneChange.{state_with, on_changed}
use Rattle.dover_model.proofs.steps.Deeds.{Deed, Completed, Resumed, Started, Began, Preempted, Stayed, Arrived, Taken}
use Rattle.dover_model.proofs.steps.Deeds.{Abandoned, Rested}
use Rattle.dover_model.proofs.steps.Kept.{step_deed, end_same, come_coming}
use Rattle.dover_model.proofs.finishes.Readiness.{IsReady, Decides, step_decides}
use Rattle.dover_model.proofs.lists.Tests.{never}

-- a job that asks for no more ticks than it needs
abbrev pub needing : List Finish → ℕ × JobFacts → JobFacts
needing finishes (n, j) =
    record { release = j.release; work = need finishes n j.work; deadline = j.deadline; value = j.value }

-- ---- needs

-- a number that is taken only where it is lower makes no more
no_more : (a b : Bool) (m n most : ℕ) → nat_le m n ≡ b → n ≤ most → cond (a && b) m n ≤ most
no_more true true m n most e low = let less : m ≤ n = leb-true _ _ e in omega arith
no_more true false m n most e low = low
no_more false b m n most e low = low

-- a job needs no more than its work
pub need_most : (finishes : List Finish) (n work : ℕ) → need finishes n work ≤ work
need_most [] n work = omega arith
need_most (f ∷ finishes) n work =
    no_more ((f.number == n) && nat_lt 0 f.had) _ _ _ _ refl (need_most finishes n work)

-- a job that has come to a finish needs no more than it had
pub need_had : (finishes : List Finish) (t : Task) (work : ℕ) → is_due finishes t ≡ true
    → need finishes t.number work ≤ t.had
need_had [] t work due = never due
need_had (f ∷ finishes) t work due =
    by_tests (f.number == t.number) (f.had == t.had) (nat_lt 0 t.had) (nat_lt 0 f.had)
    (nat_le f.had (need finishes t.number work)) refl refl refl refl due (need_had finishes t work) where
      by_tests : (a b c d e : Bool) → (f.had == t.had) ≡ b → nat_lt 0 t.had ≡ c → nat_lt 0 f.had ≡ d
          → nat_le f.had (need finishes t.number work) ≡ e → (((a && b) && c) || is_due finishes t) ≡ true
          → (is_due finishes t ≡ true → need finishes t.number work ≤ t.had)
          → cond ((a && d) && e) f.had (need finishes t.number work) ≤ t.had
      by_tests true true true true true eb ec ed ee h more = let same : f.had ≡ t.had = eqb-true _ _ eb in omega arith
      by_tests true true true true false eb ec ed ee h more =
          let same : f.had ≡ t.had = eqb-true _ _ eb in
          let above : need finishes t.number work < f.had = leb-false _ _ ee in omega arith
      by_tests true true true false e eb ec ed ee h more =
          let same : f.had ≡ t.had = eqb-true _ _ eb in
          never (sym (sym ec ∙ ap (nat_lt 0) (sym same) ∙ ed))
      by_tests true true false d e eb ec ed ee h more = no_more d e _ _ _ ee (more h)
      by_tests true false c d e eb ec ed ee h more = no_more d e _ _ _ ee (more h)
      by_tests false b c d e eb ec ed ee h more = more h

-- one that has come to none, and has had no more than it needs and less than its work, needs more
pub need_more : (finishes : List Finish) (t : Task) (work : ℕ) → is_due finishes t ≡ false
    → t.had ≤ need finishes t.number work → t.had < work → t.had < need finishes t.number work
need_more [] t work none low less = less
need_more (f ∷ finishes) t work none low less =
    by_tests (f.number == t.number) (f.had == t.had) (nat_lt 0 t.had) (nat_lt 0 f.had)
    (nat_le f.had (need finishes t.number work)) refl refl refl refl none low
    (λ later rest. need_more finishes t work later rest less) where
      by_tests : (a b c d e : Bool) → (f.had == t.had) ≡ b → nat_lt 0 t.had ≡ c → nat_lt 0 f.had ≡ d
          → nat_le f.had (need finishes t.number work) ≡ e → (((a && b) && c) || is_due finishes t) ≡ false
          → t.had ≤ cond ((a && d) && e) f.had (need finishes t.number work)
          → (is_due finishes t ≡ false → t.had ≤ need finishes t.number work → t.had < need finishes t.number work)
          → t.had < cond ((a && d) && e) f.had (need finishes t.number work)
      by_tests true true true d e eb ec ed ee h low more = never (sym h)
      by_tests true true false true e eb ec ed ee h low more =
          let same : f.had ≡ t.had = eqb-true _ _ eb in
          never (sym ec ∙ ap (nat_lt 0) (sym same) ∙ ed)
      by_tests true true false false e eb ec ed ee h low more = more h low
      by_tests true false c true true eb ec ed ee h low more =
          let apart : f.had ≡ t.had → ⊥ = eqb-false _ _ eb in omega arith
      by_tests true false c true false eb ec ed ee h low more = more h low
      by_tests true false c false e eb ec ed ee h low more = more h low
      by_tests false b c d e eb ec ed ee h low more = more h low

-- ---- what each task has had

-- a job has had no more than it needs, all of it where it is done, and less where it is given up
pub record Served (finishes : List Finish) (t : Task) : Type 0 where
  pub low : t.had ≤ need finishes t.number t.job.work
  pub done : t.role ≡ Done → t.had ≡ need finishes t.number t.job.work
  pub gone : t.role ≡ Gone → t.had < need finishes t.number t.job.work

-- so has each
abbrev pub AllServed : List Finish → State → Type 0
AllServed finishes s = Each (Served finishes) s.tasks

module _ (finishes : List Finish) (t : Task) where
  -- in a role in which it isn't over
  open_role : (role : Role) → is_over (with_role t role) ≡ false → Served finishes t
      → Served finishes (with_role t role)
  open_role role out it = record {
    low = it.low;
    done = λ e. never (sym out ∙ ap (λ x. is_over (with_role t x)) e);
    gone = λ e. never (sym out ∙ ap (λ x. is_over (with_role t x)) e);
  }

  -- where it is displaced
  displaced_served : (role : Role) → Served finishes (with_role t role) → Served finishes (with_role t (displaced role))
  displaced_served Held it = record { low = it.low; done = λ e. absurd (cc); gone = λ e. absurd (cc) }
  displaced_served Running it = record { low = it.low; done = λ e. absurd (cc); gone = λ e. absurd (cc) }
  displaced_served _ it = it

  -- after a silent tick
  tick_served : (role : Role) → (role ≡ Running → t.had < need finishes t.number t.job.work)
      → Served finishes (with_role t role) → Served finishes (ticked (with_role t role))
  tick_served Running more it = record {
    low = let less : t.had < need finishes t.number t.job.work = more refl in omega arith;
    done = λ e. absurd (cc);
    gone = λ e. absurd (cc);
  }
  tick_served _ more it = it

module _ (finishes : List Finish) (s : State) (sound : IsSound s) (ready : IsReady finishes s)
    (served : AllServed finishes s) where
  -- one with work left that has come to no finish needs more
  needs_more : (t : Task) → IsMember t s.tasks → 1 ≤ left t → is_due finishes t ≡ false
      → t.had < need finishes t.number t.job.work
  needs_more t member some none = need_more finishes t t.job.work none (served t member).low (omega arith)

  -- the running job, where it doesn't go on, has had what it needs
  pub needs_none : (t : Task) → IsMember t s.tasks → goes_on finishes t ≡ false
      → t.had ≡ need finishes t.number t.job.work
  needs_none t member ends = by_tests (nat_lt 0 (left t)) (is_due finishes t) refl refl ends where
    by_tests : (a b : Bool) → nat_lt 0 (left t) ≡ a → is_due finishes t ≡ b
        → (a && Rattle.std.specs.Prelude.not b) ≡ false
        → t.had ≡ need finishes t.number t.job.work
    by_tests true true e due h =
        let low : t.had ≤ need finishes t.number t.job.work = (served t member).low in
        let high : need finishes t.number t.job.work ≤ t.had = need_had finishes t t.job.work due in omega arith
    by_tests true false e due h = never (sym h)
    by_tests false b e due h =
        let low : t.had ≤ need finishes t.number t.job.work = (served t member).low in
        let none : left t ≤ 0 = Rattle.std.proofs.lemmas.Bool.ltb-false _ _ e in
        omega (arith, need_most finishes t.number t.job.work)

  -- after one job's new role
  one_served : (r : Task) → IsMember r s.tasks → (new : Role) → Served finishes (with_role r new)
      → AllServed finishes (state_with s r new)
  one_served r member new here = on_changed 0 s.tasks sound.numbered r member new (Served finishes) here
      (λ t m _. served t m)

  -- after a silent tick
  pub ticks_served : Quiet s → Each (λ t. t.role ≡ Running → is_due finishes t ≡ false) s.tasks
      → AllServed finishes (after s Ticks)
  ticks_served quiet none = on_map ticked (Served finishes) s.tasks (λ t member. tick_served finishes t t.role
      (λ runs. needs_more t member (quiet.busy t member runs) (none t member runs)) (served t member))

  -- after each deed
  pub deed_served : (k : Fraction) (other : Move) → (m : Move)
      → (Quiet s → m ≡ other → AllServed finishes (after s other))
      → Deed k s other m → Decides finishes s m → AllServed finishes (after s m)
  deed_served k other m rests (Completed r member runs) it = one_served r member Done (record {
    low = (served r member).low;
    done = λ e. needs_none r member (it.ends refl r member runs);
    gone = λ e. absurd (cc);
  })
  deed_served k other m rests (Resumed p member held none least why) it =
      one_served p member Running (open_role finishes p Running refl (served p member))
  deed_served k other m rests (Started o member waiting none first fits next) it =
      one_served o member Running (open_role finishes o Running refl (served o member))
  deed_served k other m rests (Began f member fresh none free) it =
      one_served f member Running (open_role finishes f Running refl (served f member))
  deed_served k other m rests (Preempted r f member runs some f_member fresh before fits) it =
      on_map (λ t. with_role t (cond (eqb t.number f.number) Running (cond (eqb t.number r.number) Held t.role)))
      (Served finishes) s.tasks (λ t mt. by_numbers t mt (eqb t.number f.number) (eqb t.number r.number)) where
        by_numbers : (t : Task) → IsMember t s.tasks → (b c : Bool)
            → Served finishes (with_role t (cond b Running (cond c Held t.role)))
        by_numbers t mt true c = open_role finishes t Running refl (served t mt)
        by_numbers t mt false true = open_role finishes t Held refl (served t mt)
        by_numbers t mt false false = served t mt
  deed_served k other m rests (Stayed r f member runs some f_member fresh why) it =
      one_served f f_member Waiting (open_role finishes f Waiting refl (served f f_member))
  deed_served k other m rests (Arrived c member comes now first stale busy free) it =
      one_served c member Fresh (open_role finishes c Fresh refl (served c member))
  deed_served k other m rests (Taken r x member runs some x_member waiting now stale heavy) it =
      on_map (λ t. with_role t (cond (eqb t.number x.number) Running (displaced t.role))) (Served finishes) s.tasks
      (λ t mt. by_number t mt (eqb t.number x.number)) where
        by_number : (t : Task) → IsMember t s.tasks → (b : Bool)
            → Served finishes (with_role t (cond b Running (displaced t.role)))
        by_number t mt true = open_role finishes t Running refl (served t mt)
        by_number t mt false = displaced_served finishes t t.role (served t mt)
  deed_served k other m rests (Abandoned r x member runs some x_member waiting now stale light) it =
      one_served x x_member Gone (record {
        low = (served x x_member).low;
        done = λ e. absurd (cc);
        gone = λ e. needs_more x x_member (says s sound x x_member Waiting waiting).0
            (ready x x_member (passes is_ready_behind x Waiting true waiting refl));
      })
  deed_served k other m rests (Rested quiet) it = rests quiet refl

-- at the opening
pub opening_served : (finishes : List Finish) (jobs : List JobFacts) → AllServed finishes (opening jobs)
opening_served finishes jobs t member = record {
  low = let none : t.had ≡ 0 = (come_coming 0 jobs t member).1 in omega arith;
  done = λ e. let f : Coming ≡ Done = sym (come_coming 0 jobs t member).0 ∙ e in absurd (cc);
  gone = λ e. let f : Coming ≡ Gone = sym (come_coming 0 jobs t member).0 ∙ e in absurd (cc);
}

module _ (J : Instance) (valid : IsValid J) (s : State) (keeps : Keeps J s) (rules : Rules)
    (ready : IsReady rules.finishes s) (served : AllServed rules.finishes s) where
  -- after a step
  pub step_served : AllServed rules.finishes (after s (step rules s))
  step_served = deed_served rules.finishes s keeps.sound ready served rules.ratio (ending s or_else Ticks)
      (step rules s)
      (λ quiet rests. by_end quiet (list_all is_over s.tasks) rests) (step_deed J valid s keeps rules) told where
        told : Decides rules.finishes s (step rules s)
        told = step_decides s keeps.sound rules

        by_end : Quiet s → (b : Bool)
            → step rules s ≡ (then_some b (Prints (End (value_sum (filter is_done s.tasks)))) or_else Ticks)
            → AllServed rules.finishes
            (after s (then_some b (Prints (End (value_sum (filter is_done s.tasks)))) or_else Ticks))
        by_end quiet true rests =
            subst (λ (tasks : List Task). AllServed rules.finishes (record s { tasks = tasks }))
            (sym (end_same s (value_sum (filter is_done s.tasks)))) served
        by_end quiet false rests = ticks_served rules.finishes s keeps.sound ready served quiet
            (told.goes (ap Rattle.dover_model.specs.Processor.is_complete rests))
