-- Where a feed pauses no job is to come: each is released by the mark, and is fresh before the barrier.
use Rattle.std.proofs.Common.{◌≡◌, ℕ, ◌≤◌, refl, sym, subst, true, arith, Option, Some, None}
use Rattle.std.specs.List.{AllByRecursion, find}
use Rattle.std.proofs.lemmas.Bool.{eqb-false}
use Rattle.dover_model.specs.declared.events.Role.TheVariants.{Coming}
use Rattle.dover_model.specs.declared.events.Task.{Task}
use Rattle.dover_model.specs.Common.{Instance, IsValid, State, is_coming, Move, Ticks, View, view, due_finish}
use Rattle.dover_model.specs.Common.{declared_open_step, open_step, waits_for_mark, settled_state, IsMember, Each}
use Rattle.dover_model.proofs.settled.Barriers.{AtBarrier, settled_at_barrier}
use Rattle.dover_model.proofs.steps.Cases.{Case, Takes}
use Rattle.dover_model.proofs.steps.Cases.{Abandons, Rests, NoneArrives, step_case}
use Rattle.dover_model.proofs.finishes.Finishing.{late_unfinished}
use Rattle.dover_model.proofs.steps.Kept.{each_job}
use Rattle.dover_model.proofs.lists.Members.{found, not_found}
use Rattle.dover_model.proofs.steps.Moves.{says}
use Rattle.dover_model.proofs.steps.Roles.{fails, is_coming_role}
use Rattle.dover_model.proofs.settled.Settling.{at_barrier}
use Rattle.dover_model.proofs.lists.Tests.{never}

module _ (J : Instance) (valid : IsValid J) (mark : ℕ) (known : AllByRecursion (λ j. j.release ≤ mark) J.jobs) where
  -- the state at the barrier
  abbrev s : State
  s = settled_state J mark

  -- what holds there
  bar : AtBarrier J mark s
  bar = settled_at_barrier J valid mark

  -- what its next step looks at
  abbrev v : View
  v = view J.rules.version s

  -- a job that is to come is due now
  due_now : (t : Task) → IsMember t s.tasks → t.role ≡ Coming → t.job.release ≡ s.clock
  due_now t m comes =
      let low : t.job.release ≤ mark =
      each_job (λ j. j.release ≤ mark) s.tasks
      (subst (AllByRecursion (λ j. j.release ≤ mark)) (sym bar.keeps.jobs) known) t m in
      let high : s.clock ≤ t.job.release = (says s bar.keeps.sound t m Coming comes).1 in
      omega (arith, bar.clock)

  -- where none arrives, none is to come
  none_left : NoneArrives v v.coming → Each (λ t. t.role ≡ Coming → ⊥) s.tasks
  none_left none t m comes = by_first (find is_coming s.tasks) refl none where
    by_first : (o : Option Task) → find is_coming s.tasks ≡ o → NoneArrives v o → ⊥
    by_first None e n = fails is_coming t Coming refl (not_found is_coming s.tasks e t m) comes
    by_first (Some c) e n =
        let it : IsMember c s.tasks × (is_coming c ≡ true) = found is_coming s.tasks c e in
        eqb-false _ _ n (due_now c it.0 (is_coming_role c it.1))

  -- none arrives at a late step
  late_none : (m : Move) → Case J.rules.ratio v Ticks m → waits_for_mark m ≡ true → NoneArrives v v.coming
  late_none m (Takes r x settles stale ahead some heavy) late = ahead
  late_none m (Abandons r x settles stale ahead some light) late = ahead
  late_none m (Rests ro settles stale ahead none) late = ahead
  late_none m _ late = never late

  -- at the barrier none is to come
  pub none_to_come : Each (λ t. t.role ≡ Coming → ⊥) s.tasks
  none_to_come = none_left (late_none (declared_open_step J.rules s) (step_case J.rules.ratio v Ticks)
      (late_unfinished s.clock (due_finish J.rules.finishes s) (declared_open_step J.rules s)
      (at_barrier (waits_for_mark (open_step J.rules s)) mark s.clock bar.barrier).0).1)
