-- How many jobs a change lets cease to wait, or begin to.
use Rattle.std.proofs.Common.{◌≡◌, ℕ, ◌+◌, ◌≤◌, refl, sym, subst, Bool, true, false, not, cond, eqb, arith, ◌&&◌}
use Rattle.std.proofs.Common.{sum_by, eqb-true, ne_eqb}
use Rattle.dover_model.specs.Common.{Role, Coming, Fresh, Held, Running, Preempt, Take, Task}
use Rattle.dover_model.specs.Common.{State, is_waiting, Prints, with_role, displaced, IsMember, IsSound, leaves}
use Rattle.dover_model.proofs.lists.Members.{sum_le, sum_zero}
use Rattle.dover_model.proofs.steps.Roles.{passes, one_number}
use Rattle.dover_model.proofs.steps.Loads.{sum_change}
use Rattle.dover_model.proofs.steps.OneChange.{changed, on_changed_role}
use Rattle.dover_model.proofs.lists.Tests.{never}

-- one where a job waits before and not after
abbrev pub ceases : Bool → Bool → ℕ
ceases before then_waits = cond (before && not then_waits) 1 0

-- that is one at most
one_at_most : (a b : Bool) → ceases a b ≤ 1
one_at_most true true = omega arith
one_at_most true false = omega arith
one_at_most false b = omega arith

-- and none where nothing changes
still_waits : (a : Bool) → ceases a a ≤ 0
still_waits true = omega arith
still_waits false = omega arith

-- or where the job did not wait
did_not_wait : (a b : Bool) → a ≡ false → ceases a b ≤ 0
did_not_wait true b h = never (sym h)
did_not_wait false b h = omega arith

module _ (s : State) (sound : IsSound s) (r : Task) (member : IsMember r s.tasks) (new : Role) where
  -- a change lets as many cease as the job that changes
  leaving : (most : ℕ) → ceases (is_waiting r) (is_waiting (with_role r new)) ≤ most
      → sum_by (λ t. ceases (is_waiting t) (is_waiting (with_role t (changed r new t)))) s.tasks ≤ most
  leaving most here =
      let all : sum_by (λ t. ceases (is_waiting t) (is_waiting (with_role t (changed r new t)))) s.tasks + 0 ≤ sum_by
      (λ (t : Task). 0) s.tasks + most =
      sum_change (λ t. ceases (is_waiting t) (is_waiting (with_role t (changed r new t))))
      (λ t. 0) 0 most 0 s.tasks r sound.numbered member
      (on_changed_role 0 s.tasks sound.numbered r member new
      (λ t role. t.number ≡ r.number → ceases (is_waiting t) (is_waiting (with_role t role)) + 0 ≤ 0 + most)
      (λ _. omega arith)
      (λ t m differs same. absurd (differs same)) r member refl)
      (on_changed_role 0 s.tasks sound.numbered r member new
      (λ t role. (t.number ≡ r.number → ⊥) → ceases (is_waiting t) (is_waiting (with_role t role)) ≤ 0)
      (λ differs. absurd (differs refl))
      (λ t m _ _. still_waits (is_waiting t))) in
      omega (arith, sum_zero (λ (t : Task). 0) s.tasks (λ t m. refl))

  -- one job at most ceases to wait
  pub one_leaves : sum_by (λ t. ceases (is_waiting t) (is_waiting (with_role t (changed r new t)))) s.tasks ≤ 1
  one_leaves = leaving 1 (one_at_most (is_waiting r) (is_waiting (with_role r new)))

  -- none does, where the job that changes didn't wait
  pub none_leaves : (role : Role) → r.role ≡ role → is_waiting (with_role r role) ≡ false
      → sum_by (λ t. ceases (is_waiting t) (is_waiting (with_role t (changed r new t)))) s.tasks ≤ 0
  none_leaves role e out =
      leaving 0 (did_not_wait (is_waiting r) (is_waiting (with_role r new)) (passes is_waiting r role false e out))

module _ (s : State) (sound : IsSound s) (r f : Task) (member : IsMember r s.tasks) (f_member : IsMember f s.tasks)
    (runs : r.role ≡ Running)
    (fresh : f.role ≡ Fresh) where
  -- a preemption lets none cease to wait
  pub preempt_leaves : leaves s (Prints (Preempt s.clock r.number f.number)) ≤ 0
  preempt_leaves =
      let least : leaves s (Prints (Preempt s.clock r.number f.number)) ≤ sum_by (λ (t : Task). 0) s.tasks =
      sum_le (λ t. ceases (is_waiting t)
      (is_waiting (with_role t (cond (eqb t.number f.number) Running (cond (eqb t.number r.number) Held t.role)))))
      (λ t. 0) s.tasks
      (λ t m. by_tests t m (eqb t.number f.number) (eqb t.number r.number) refl refl) in
      omega (arith, sum_zero (λ (t : Task). 0) s.tasks (λ t m. refl)) where
        by_tests : (t : Task) → IsMember t s.tasks → (x y : Bool) → eqb t.number f.number ≡ x
            → eqb t.number r.number ≡ y
            → ceases (is_waiting t) (is_waiting (with_role t (cond x Running (cond y Held t.role)))) ≤ 0
        by_tests t m true y is_f is_r =
            did_not_wait (is_waiting t) (is_waiting (with_role t Running))
            (subst (λ x. is_waiting x ≡ false)
            (sym (one_number 0 s.tasks sound.numbered t f m f_member (eqb-true _ _ is_f)))
            (passes is_waiting f Fresh false fresh refl))
        by_tests t m false true is_f is_r =
            did_not_wait (is_waiting t) (is_waiting (with_role t Held))
            (subst (λ x. is_waiting x ≡ false)
            (sym (one_number 0 s.tasks sound.numbered t r m member (eqb-true _ _ is_r)))
            (passes is_waiting r Running false runs refl))
        by_tests t m false false is_f is_r = still_waits (is_waiting t)

-- a displaced job does not cease to wait
displaced_stay : (t : Task) → ceases (is_waiting t) (is_waiting (with_role t (displaced t.role))) ≤ 0
displaced_stay t = by_role t.role where
  by_role : (role : Role) → ceases (is_waiting (with_role t role)) (is_waiting (with_role t (displaced role))) ≤ 0
  by_role Coming = omega arith
  by_role _ = omega arith

-- a take lets one job at most cease to wait
pub take_leaves : (s : State) → IsSound s → (r x : Task) → IsMember x s.tasks
    → leaves s (Prints (Take s.clock r.number x.number)) ≤ 1
take_leaves s sound r x member =
    let all : leaves s (Prints (Take s.clock r.number x.number)) + 0 ≤ sum_by (λ (t : Task). 0) s.tasks + 1 =
    sum_change (λ t. ceases (is_waiting t)
    (is_waiting (with_role t (cond (eqb t.number x.number) Running (displaced t.role)))))
    (λ t. 0) 0 1 0 s.tasks x sound.numbered member
    (omega (
      arith,
      one_at_most (is_waiting x)
          (is_waiting (with_role x (cond (eqb x.number x.number) Running (displaced x.role)))),
    ))
    (λ t m differs. subst (λ b. ceases (is_waiting t) (is_waiting (with_role t (cond b Running (displaced t.role))))
    ≤ 0)
    (sym (ne_eqb t.number x.number differs)) (displaced_stay t)) in
    omega (arith, sum_zero (λ (t : Task). 0) s.tasks (λ t m. refl))
