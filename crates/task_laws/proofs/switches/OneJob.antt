-- What a step does to one job.
use Rattle.std.proofs.Common.{◌≡◌, ℕ, suc, ◌+◌, ◌≤◌, ◌<◌, inl, inr, List, [], ◌∷◌, refl, sym, ap}
use Rattle.std.proofs.Common.{◌∙◌, subst, Bool, true, false, cond, arith, eqb}
use Rattle.std.specs.Prelude.{◌==◌, ◌&&◌, ◌||◌}
use Rattle.std.specs.Bool.{then_some}
use Rattle.std.specs.List.{list_all, list_any, filter}
use Rattle.std.proofs.lemmas.Bool.{eqb-true, eqb-false, eq-eqb, ne_eqb}
use Rattle.dover_model.specs.Common.{Fraction}
use Rattle.dover_model.specs.declared.events.Role.{Role}
use Rattle.dover_model.specs.declared.events.Role.TheVariants.{Coming, Fresh, Waiting, Held, Running, Done, Gone}
use Rattle.dover_model.specs.declared.events.Event.TheVariants.{End}
use Rattle.dover_model.specs.declared.events.Task.{Task}
use Rattle.dover_model.specs.Common.{State, is_fresh, is_over, is_done}
use Rattle.dover_model.specs.Common.{value_sum, Move, Prints, Waits, Ticks}
use Rattle.dover_model.specs.Common.{after, ◌or_else◌, with_role, displaced, ticked, role_after}
use Rattle.dover_model.specs.Common.{role_then}
use Rattle.dover_model.specs.Common.{gets}
use Rattle.task_laws.specs.Switches.{is_complete_of}
use Rattle.dover_model.specs.Common.{IsMember, IsSound, IsNumberedFrom}
use Rattle.dover_model.specs.Common.{one_if}
use Rattle.task_laws.specs.Switches.{is_preempted, is_taken_from}
use Rattle.dover_model.proofs.lists.Members.{map_member}
use Rattle.dover_model.proofs.steps.Roles.{passes, one_number, numbers_above}
use Rattle.dover_model.proofs.steps.Deeds.{Deed, Completed, Resumed, Started, Began, Preempted, Stayed, Arrived, Taken}
use Rattle.dover_model.proofs.steps.Deeds.{Abandoned, Rested}
use Rattle.dover_model.proofs.runs.Once.{rest_of}
use Rattle.dover_model.proofs.lists.Tests.{never}

-- ---- what a step does to one job

-- it is to get the processor: it isn't over, and doesn't run
abbrev pub off : Role → ℕ
off Coming = 1
off Fresh = 1
off Waiting = 1
off Held = 1
off Running = 0
off Done = 0
off Gone = 0

-- it isn't over
abbrev pub alive : Role → ℕ
alive Coming = 1
alive Fresh = 1
alive Waiting = 1
alive Held = 1
alive Running = 1
alive Done = 0
alive Gone = 0

-- it isn't decided on
abbrev pub young : Role → ℕ
young Coming = 1
young Fresh = 1
young Waiting = 0
young Held = 0
young Running = 0
young Done = 0
young Gone = 0

-- it runs
abbrev pub on : Role → ℕ
on Coming = 0
on Fresh = 0
on Waiting = 0
on Held = 0
on Running = 1
on Done = 0
on Gone = 0

-- it is fresh
abbrev pub fresh_role : Role → Bool
fresh_role Coming = false
fresh_role Fresh = true
fresh_role Waiting = false
fresh_role Held = false
fresh_role Running = false
fresh_role Done = false
fresh_role Gone = false

-- what a step does to the role of a job that gets the processor, is preempted, is stopped by a take, or completes
pub record Turned (old new : Role) (gets stopped taken done : Bool) : Type 0 where
  pub off : off new + one_if gets ≤ off old + one_if stopped + one_if taken
  pub alive : alive new + one_if done ≤ alive old
  pub young : young new + one_if (gets && fresh_role old) ≤ young old
  pub on : on new ≤ on old + one_if gets

-- nothing happens to it
still : (old : Role) (stopped taken : Bool) → Turned old old false stopped taken false
still old stopped taken = record { off = omega arith; alive = omega arith; young = omega arith; on = omega arith }

module _ (s : State) (sound : IsSound s) (n : ℕ) (t : Task) (member : IsMember t s.tasks) (is_n : t.number ≡ n) where
  -- a job of this number is this one
  pub same_task : (r : Task) → IsMember r s.tasks → r.number ≡ n → t ≡ r
  same_task r m same = one_number 0 s.tasks sound.numbered t r member m (is_n ∙ sym same)

  -- where one job gets a new role, whose number the tests look for
  one_turned : (r : Task) → IsMember r s.tasks → (old new : Role) → r.role ≡ old → (is_get is_done : Bool)
      → Turned old new is_get false false is_done
      → Turned t.role (cond (eqb t.number r.number) new t.role) (is_get && eqb r.number n) false false
      (is_done && eqb r.number n)
  one_turned r m old new was is_get is_done turned = by_number (eqb r.number n) refl where
    by_number : (b : Bool) → eqb r.number n ≡ b
        → Turned t.role (cond (eqb t.number r.number) new t.role) (is_get && b) false false (is_done && b)
    by_number true e =
        let same : t ≡ r = same_task r m (eqb-true _ _ e) in
        subst (λ b. Turned t.role (cond b new t.role) (is_get && true) false false (is_done && true))
        (sym (eq-eqb t.number r.number (is_n ∙ sym (eqb-true _ _ e))))
        (subst (λ role. Turned role new (is_get && true) false false (is_done && true))
        (sym (ap (λ (x : Task). x.role) same ∙ was)) (plain is_get is_done turned)) where
          plain : (a b : Bool) → Turned old new a false false b → Turned old new (a && true) false false (b && true)
          plain true true it = it
          plain true false it = it
          plain false true it = it
          plain false false it = it
    by_number false e =
        subst (λ b. Turned t.role (cond b new t.role) (is_get && false) false false (is_done && false))
        (sym (ne_eqb t.number r.number (λ same. eqb-false _ _ e (sym same ∙ is_n))))
        (none is_get is_done) where
          none : (a b : Bool) → Turned t.role t.role (a && false) false false (b && false)
          none true true = still t.role false false
          none true false = still t.role false false
          none false true = still t.role false false
          none false false = still t.role false false

  -- what a deed does to the job
  pub deed_turned : (k : Fraction) (other : Move)
      → Turned t.role (role_then other t) (gets n other) (is_preempted n other) (is_taken_from n other)
      (is_complete_of n other)
      → (m : Move) → Deed k s other m
      → Turned t.role (role_then m t) (gets n m) (is_preempted n m) (is_taken_from n m) (is_complete_of n m)
  deed_turned k other rests m (Completed r r_member runs) = one_turned r r_member Running Done runs false true
      (record { off = omega arith; alive = omega arith; young = omega arith; on = omega arith })
  deed_turned k other rests m (Resumed p p_member held none least why) =
      one_turned p p_member Held Running held true false
      (record { off = omega arith; alive = omega arith; young = omega arith; on = omega arith })
  deed_turned k other rests m (Started o o_member waiting none ahead fits next) =
      one_turned o o_member Waiting Running waiting true false
      (record { off = omega arith; alive = omega arith; young = omega arith; on = omega arith })
  deed_turned k other rests m (Began f f_member fresh none free) =
      one_turned f f_member Fresh Running fresh true false
      (record { off = omega arith; alive = omega arith; young = omega arith; on = omega arith })
  deed_turned k other rests m (Stayed r f r_member runs some f_member fresh why) =
      one_turned f f_member Fresh Waiting fresh false false
      (record { off = omega arith; alive = omega arith; young = omega arith; on = omega arith })
  deed_turned k other rests m (Arrived c c_member comes now least stale busy free) =
      one_turned c c_member Coming Fresh comes false false
      (record { off = omega arith; alive = omega arith; young = omega arith; on = omega arith })
  deed_turned k other rests m (Abandoned r x r_member runs some x_member waiting now stale light) =
      one_turned x x_member Waiting Gone waiting false false
      (record { off = omega arith; alive = omega arith; young = omega arith; on = omega arith })
  deed_turned k other rests m (Rested quiet) = rests
  deed_turned k other rests m (Preempted r f r_member runs some f_member fresh before fits) =
      by_numbers (eqb f.number n) (eqb r.number n) refl refl where
        by_numbers : (a b : Bool) → eqb f.number n ≡ a → eqb r.number n ≡ b
            → Turned t.role
            (cond (eqb t.number f.number) Running (cond (eqb t.number r.number) Held t.role)) a b false false
        by_numbers true b e e2 =
            subst (λ c. Turned t.role (cond c Running (cond (eqb t.number r.number) Held t.role)) true b false false)
            (sym (eq-eqb t.number f.number (is_n ∙ sym (eqb-true _ _ e))))
            (subst (λ role. Turned role Running true b false false)
            (sym (ap (λ (x : Task). x.role) (same_task f f_member (eqb-true _ _ e)) ∙ fresh))
            (record { off = omega arith; alive = omega arith; young = omega arith; on = omega arith }))
        by_numbers false true e e2 =
            subst (λ c. Turned t.role (cond c Running (cond (eqb t.number r.number) Held t.role)) false true false
            false)
            (sym (ne_eqb t.number f.number (λ same. eqb-false _ _ e (sym same ∙ is_n))))
            (subst (λ c. Turned t.role (cond c Held t.role) false true false false)
            (sym (eq-eqb t.number r.number (is_n ∙ sym (eqb-true _ _ e2))))
            (subst (λ role. Turned role Held false true false false)
            (sym (ap (λ (x : Task). x.role) (same_task r r_member (eqb-true _ _ e2)) ∙ runs))
            (record { off = omega arith; alive = omega arith; young = omega arith; on = omega arith })))
        by_numbers false false e e2 =
            subst (λ c. Turned t.role (cond c Running (cond (eqb t.number r.number) Held t.role)) false false false
            false)
            (sym (ne_eqb t.number f.number (λ same. eqb-false _ _ e (sym same ∙ is_n))))
            (subst (λ c. Turned t.role (cond c Held t.role) false false false false)
            (sym (ne_eqb t.number r.number (λ same. eqb-false _ _ e2 (sym same ∙ is_n))))
            (still t.role false false))
  deed_turned k other rests m (Taken r x r_member runs some x_member waiting now stale heavy) =
      by_number (eqb x.number n) refl where
        by_role : (role : Role) → t.role ≡ role → Turned role (displaced role) false false (eqb r.number n) false
        by_role Held e = record { off = omega arith; alive = omega arith; young = omega arith; on = omega arith }
        by_role Running e =
            subst (λ b. Turned Running Waiting false false b false)
            (sym (eq-eqb r.number n (sym (sound.one_runs t r member r_member e runs) ∙ is_n)))
            (record { off = omega arith; alive = omega arith; young = omega arith; on = omega arith })
        by_role role e = still role false (eqb r.number n)

        by_number : (a : Bool) → eqb x.number n ≡ a
            → Turned t.role (cond (eqb t.number x.number) Running (displaced t.role)) a false (eqb r.number n) false
        by_number true e =
            subst (λ c. Turned t.role (cond c Running (displaced t.role)) true false (eqb r.number n) false)
            (sym (eq-eqb t.number x.number (is_n ∙ sym (eqb-true _ _ e))))
            (subst (λ role. Turned role Running true false (eqb r.number n) false)
            (sym (ap (λ (y : Task). y.role) (same_task x x_member (eqb-true _ _ e)) ∙ waiting))
            (record { off = omega arith; alive = omega arith; young = omega arith; on = omega arith }))
        by_number false e =
            subst (λ c. Turned t.role (cond c Running (displaced t.role)) false false (eqb r.number n) false)
            (sym (ne_eqb t.number x.number (λ same. eqb-false _ _ e (sym same ∙ is_n))))
            (by_role t.role refl)

-- it changes no role
pub rest_turned : (s : State) (n : ℕ) (t : Task)
    → Turned t.role (role_then (rest_of s) t) (gets n (rest_of s)) (is_preempted n (rest_of s))
    (is_taken_from n (rest_of s)) (is_complete_of n (rest_of s))
rest_turned s n t = by_end (list_all is_over s.tasks) where
  end_move : Bool → Move
  end_move b = then_some b (Prints (End (value_sum (filter is_done s.tasks)))) or_else Ticks

  by_end : (b : Bool) → Turned t.role (role_then (end_move b) t) (gets n (end_move b)) (is_preempted n (end_move b))
      (is_taken_from n (end_move b)) (is_complete_of n (end_move b))
  by_end true = still t.role false false
  by_end false = still t.role false false

-- the job behind a move
abbrev pub next : Move → Task → Task
next (Prints e) t = with_role t (role_after e t.number t.role)
next (Waits m) t = with_role t (cond (eqb t.number m) Waiting t.role)
next Ticks t = ticked t

-- it is there
pub next_there : (s : State) (m : Move) (t : Task) → IsMember t s.tasks → IsMember (next m t) (after s m).tasks
next_there s (Prints e) t member = map_member (λ u. with_role u (role_after e u.number u.role)) s.tasks t member
next_there s (Waits m) t member = map_member (λ u. with_role u (cond (eqb u.number m) Waiting u.role)) s.tasks t member
next_there s Ticks t member = map_member ticked s.tasks t member

-- with its number
pub next_number : (m : Move) (t : Task) → (next m t).number ≡ t.number
next_number (Prints e) t = refl
next_number _ t = refl

-- and its role
pub next_role : (m : Move) (t : Task) → (next m t).role ≡ role_then m t
next_role (Prints e) t = refl
next_role _ t = refl

-- a job of this number is fresh just where the one that has it is
pub fresh_any : (n k : ℕ) (tasks : List Task) → IsNumberedFrom k tasks → (t : Task) → IsMember t tasks → t.number ≡ n
    → list_any (λ u. (u.number == n) && is_fresh u) tasks ≡ is_fresh t
fresh_any n k [] all t member is_n = absurd member
fresh_any n k (x ∷ tasks) all t (inl e) is_n =
    by_first (x.number == n) (is_fresh x)
    (eq-eqb x.number n (sym (ap (λ (y : Task). y.number) e) ∙ is_n))
    (none (suc k) tasks all.1 (let here : x.number ≡ k = all.0 in
    let same : t.number ≡ x.number = ap (λ (y : Task). y.number) e in omega arith))
    ∙ ap is_fresh (sym e) where
      by_first : (a b : Bool) → a ≡ true → list_any (λ u. (u.number == n) && is_fresh u) tasks ≡ false
          → ((a && b) || list_any (λ u. (u.number == n) && is_fresh u) tasks) ≡ b
      by_first true true e2 rest = refl
      by_first true false e2 rest = rest
      by_first false b e2 rest = never e2

      none : (l : ℕ) (more : List Task) → IsNumberedFrom l more → n < l
          → list_any (λ u. (u.number == n) && is_fresh u) more ≡ false
      none l [] all2 less = refl
      none l (y ∷ more) all2 less =
          by_test (y.number == n) (ne_eqb y.number n (λ same. omega (arith, all2.0, same)))
          (none (suc l) more all2.1 (omega arith)) where
            by_test : (a : Bool) → a ≡ false → list_any (λ u. (u.number == n) && is_fresh u) more ≡ false
                → ((a && is_fresh y) || list_any (λ u. (u.number == n) && is_fresh u) more) ≡ false
            by_test true e2 rest = never (sym e2)
            by_test false e2 rest = rest
fresh_any n k (x ∷ tasks) all t (inr member) is_n =
    by_test (x.number == n)
    (ne_eqb x.number n (λ same. let low : suc k ≤ t.number = numbers_above (suc k) tasks all.1 t member in
    omega (arith, all.0, same, is_n)))
    (fresh_any n (suc k) tasks all.1 t member is_n) where
      by_test : (a : Bool) → a ≡ false → list_any (λ u. (u.number == n) && is_fresh u) tasks ≡ is_fresh t
          → ((a && is_fresh x) || list_any (λ u. (u.number == n) && is_fresh u) tasks) ≡ is_fresh t
      by_test true e2 rest = never (sym e2)
      by_test false e2 rest = rest

-- a job is fresh by its role
pub fresh_same : (t : Task) → is_fresh t ≡ fresh_role t.role
fresh_same t = by_role t.role refl where
  by_role : (role : Role) → t.role ≡ role → is_fresh t ≡ fresh_role t.role
  by_role Fresh e = passes is_fresh t Fresh true e refl ∙ sym (ap fresh_role e)
  by_role role e = passes is_fresh t role false e refl ∙ sym (ap fresh_role e)
