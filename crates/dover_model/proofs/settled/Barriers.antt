-- The state in which the settled steps of a mark end: the clock is the mark, and no job is fresh.
use Rattle.std.proofs.Common.{◌≡◌, ℕ, ◌+◌, ◌≤◌, ◌<◌, ◌⊎◌, inl, inr, List, [], ◌∷◌, sym, ap, subst, true, arith, fold}
use Rattle.dover_model.specs.Common.{Fraction, Fresh, Instance, IsValid, State, opening, Move, Ticks, open_step, after}
use Rattle.dover_model.specs.Common.{Step, waits_for_mark, settled_state, IsBarrier, IsBefore, IsSettledRun, Each}
use Rattle.dover_model.specs.Common.{Keeps}
use Rattle.dover_model.proofs.steps.Deeds.{Deed, Taken, Abandoned, Rested}
use Rattle.dover_model.proofs.steps.Kept.{open_deed, open_kept, opening_keeps}
use Rattle.dover_model.proofs.runs.Ending.{clock_after}
use Rattle.dover_model.proofs.settled.Settling.{late_early, at_barrier, settled_is_run}
use Rattle.dover_model.proofs.lists.Tests.{never}

-- no job is fresh where a late step is taken
pub late_none_fresh : (k : Fraction) (s : State) (m : Move) → Deed k s Ticks m → waits_for_mark m ≡ true
    → Each (λ t. t.role ≡ Fresh → ⊥) s.tasks
late_none_fresh k s m (Taken r x member runs some x_member waiting now stale heavy) late = stale
late_none_fresh k s m (Abandoned r x member runs some x_member waiting now stale light) late = stale
late_none_fresh k s m (Rested quiet) late = quiet.stale
late_none_fresh k s m _ late = never late

-- the state after these steps
abbrev pub state_after : State → List Step → State
state_after s xs = fold (λ s step. after step.before step.move) s xs

-- a sound state at the mark, with none fresh, in which a late step is next
pub record AtBarrier (J : Instance) (mark : ℕ) (s : State) : Type 0 where
  pub keeps : Keeps J s
  pub clock : s.clock ≡ mark
  pub barrier : IsBarrier J.rules mark s
  pub none_fresh : Each (λ t. t.role ≡ Fresh → ⊥) s.tasks

module _ (J : Instance) (valid : IsValid J) (mark : ℕ) where
  -- the clock doesn't pass the mark before the barrier
  pub clock_stays : (s : State) → s.clock ≤ mark → IsBefore J.rules mark s
      → (after s (open_step J.rules s)).clock ≤ mark
  clock_stays s low before = by_clock (clock_after s (open_step J.rules s)) where
    by_clock : ((after s (open_step J.rules s)).clock ≡ s.clock)
        ⊎ ((open_step J.rules s ≡ Ticks) × ((after s (open_step J.rules s)).clock ≡ s.clock + 1))
        → (after s (open_step J.rules s)).clock ≤ mark
    by_clock (inl same) = omega arith
    by_clock (inr it) =
        let less : s.clock < mark =
        late_early (waits_for_mark (open_step J.rules s)) mark s.clock before (ap waits_for_mark it.0) in
        omega (arith, it.1)

  -- a settled run ends at its barrier
  pub ends_at_barrier : (xs : List Step) (s : State) → Keeps J s → s.clock ≤ mark → IsSettledRun J.rules mark s xs
      → AtBarrier J mark (state_after s xs)
  ends_at_barrier [] s keeps low run =
      let it : (waits_for_mark (open_step J.rules s) ≡ true) × (mark ≤ s.clock) =
      at_barrier (waits_for_mark (open_step J.rules s)) mark s.clock run in
      record {
        keeps = keeps;
        clock = omega (arith, it.1);
        barrier = run;
        none_fresh = late_none_fresh J.rules.ratio s _ (open_deed J valid s keeps J.rules) it.0;
      }
  ends_at_barrier (x ∷ xs) s keeps low run =
      subst (λ (z : State). AtBarrier J mark (state_after z xs)) (sym (ap (λ (y : Step). after y.before y.move) run.0))
      (ends_at_barrier xs (after s (open_step J.rules s)) (open_kept J valid s keeps J.rules)
      (clock_stays s low run.1) run.2)

  -- so do the settled steps of an instance
  pub settled_at_barrier : AtBarrier J mark (settled_state J mark)
  settled_at_barrier = ends_at_barrier _ (opening J.jobs) (opening_keeps J) (omega arith) (settled_is_run J mark valid)
