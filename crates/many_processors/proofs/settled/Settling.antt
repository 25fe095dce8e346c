-- The open steps reach the barrier of a mark, within the fuel of `settled_from`; there the clock is the mark, and no
-- job is fresh.
use Rattle.std.proofs.Common.{◌≡◌, ℕ, suc, zero, ◌+◌, ◌-◌, ◌*◌, ◌≤◌, ◌<◌, inl, List, [], ◌∷◌, length, refl, sym, ap}
use Rattle.std.proofs.Common.{◌∙◌, subst, Bool, true, false, arith, nat_le, ◌&&◌, fold, map, None}
use Rattle.dover_model.specs.declared.events.Event.TheVariants.{End}
use Rattle.dover_model.specs.declared.events.Role.TheVariants.{Fresh}
use Rattle.dover_model.specs.Fraction.{Fraction}
use Rattle.dover_model.specs.Common.{Rules, Instance, IsValid, View, is_fresh, is_privileged, IsMember, Each}
use Rattle.dover_model.specs.Step as single
use Rattle.dover_model.proofs.lists.Tests.{never}
use Rattle.dover_model.proofs.lists.Members.{not_found}
use Rattle.dover_model.proofs.settled.Settling.{late_early, at_barrier}
use Rattle.dover_model.proofs.steps.Cases.{Case, Completes, Resumes, Starts, Begins, Preempts, Stays, Arrives, Takes}
use Rattle.dover_model.proofs.steps.Cases.{Abandons, Rests}
use Rattle.dover_model.proofs.steps.Roles.{passes}
use Rattle.many_processors.specs.State.{State, seen_by, opening}
use Rattle.many_processors.specs.Step.{Move, Prints, Waits, Ticks, on, Seen, seen, all_seen, open_step, after}
use Rattle.many_processors.specs.Run as many
use Rattle.many_processors.specs.Sound.{Keeps}
use Rattle.many_processors.specs.Settled.{waits_for_mark, settled_from, settled_steps, IsBarrier, IsBefore}
use Rattle.many_processors.specs.Settled.{IsSettledRun}
use Rattle.many_processors.proofs.steps.Seeing.{each_sees}
use Rattle.many_processors.proofs.steps.Cases as cases
use Rattle.many_processors.proofs.steps.Cases.{StepCase, open_case}
use Rattle.many_processors.proofs.steps.Placing.{off_member}
use Rattle.many_processors.proofs.steps.Turns.{which, open_kept, opening_kept}
use Rattle.many_processors.proofs.runs.RunEnds.{open_down, opening_lasts, opening_weighs}
use Rattle.many_processors.proofs.runs.Weighing.{weighs, Lasting}

-- the steps, or none
abbrev unless : Bool → List many.Step → List many.Step
unless b steps = elim b [ true ↦ [] | false ↦ steps ]

-- ---- a late step

-- where one processor takes a late one, no job is fresh for it
late_view : (k : Fraction) (v : View) (q : ℕ) (n : single.Move) → Case k v (single.Prints (End 0)) n
    → waits_for_mark (on q n) ≡ true → v.fresh ≡ None
late_view k v q n (Takes r x settles stale ahead late heavy) waits = stale
late_view k v q n (Abandons r x settles stale ahead late light) waits = stale
late_view k v q n (Completes r running done) waits = never waits
late_view k v q n (Resumes p none held) waits = never waits
late_view k v q n (Starts o none no_held first) waits = never waits
late_view k v q n (Begins y settles fresh) waits = never waits
late_view k v q n (Preempts r y settles fresh fits) waits = never waits
late_view k v q n (Stays r y settles fresh tight) waits = never waits
late_view k v q n (Arrives ro c settles stale coming now) waits = never waits
late_view k v q n (Rests ro settles stale ahead quiet) waits = never waits

module _ (processors : ℕ) (J : Instance) (valid : IsValid J) (some : 1 ≤ processors) (rules : Rules) (s : State)
    (keeps : Keeps processors J s) where
  abbrev all : List Seen
  all = all_seen processors rules.version s

  -- where a processor sees no fresh job, none is
  none_fresh_seen : (q : Seen) → IsMember q all → q.view.fresh ≡ None → Each (λ p. p.task.role ≡ Fresh → ⊥) s.jobs
  none_fresh_seen q member none p p_member fresh =
      let i = which processors J valid some rules s keeps q member in
      let nobody = not_found is_fresh (map (seen_by q.processor) s.jobs)
      (sym (ap (λ (r : Seen). r.view.fresh) i.0) ∙ none) in
      never (sym (nobody p.task (off_member q.processor s.jobs p p_member
      (passes is_privileged p.task Fresh false fresh refl))) ∙ passes is_fresh p.task Fresh true fresh refl)

  -- at a late step none is
  pub late_none_fresh : (m : Move) → StepCase false rules s all m → waits_for_mark m ≡ true
      → Each (λ p. p.task.role ≡ Fresh → ⊥) s.jobs
  late_none_fresh m (cases.Completed q member t runs finished) waits = never waits
  late_none_fresh m (cases.Acted q member n acts going decided) waits = none_fresh_seen q member
      (late_view rules.ratio q.view q.processor acts.move acts.case (sym (ap waits_for_mark acts.is) ∙ waits))
  late_none_fresh m (cases.Abandoned q member n acts it going light) waits = none_fresh_seen q member
      (late_view rules.ratio q.view q.processor acts.move acts.case (sym (ap waits_for_mark acts.is) ∙ waits))
  late_none_fresh m (cases.Ended may over) waits = never may
  late_none_fresh m (cases.Rested quiet unended) waits =
      let q : Seen = seen rules.version s 0 in
      none_fresh_seen q (first_seen processors some) (quiet.stale q (first_seen processors some)) where
        first_seen : (n : ℕ) → 1 ≤ n → IsMember (seen rules.version s 0) (all_seen n rules.version s)
        first_seen zero low = absurd (omega (arith, low))
        first_seen (suc n) low = inl refl

-- ---- the barrier

-- what is known at the barrier
pub record AtBarrier (processors : ℕ) (J : Instance) (mark : ℕ) (s : State) : Type 0 where
  pub keeps : Keeps processors J s
  pub clock : s.clock ≡ mark
  pub barrier : IsBarrier processors J.rules mark s
  pub none_fresh : Each (λ p. p.task.role ≡ Fresh → ⊥) s.jobs

module _ (processors : ℕ) (J : Instance) (valid : IsValid J) (some : 1 ≤ processors) (mark : ℕ) where
  abbrev step_of : State → Move
  step_of s = open_step processors J.rules s

  before_mark : (s : State) → IsBefore processors J.rules mark s → step_of s ≡ Ticks → s.clock < mark
  before_mark s before ticks = late_early (waits_for_mark (step_of s)) mark s.clock before (ap waits_for_mark ticks)

  -- open steps from s reach it
  settles : (more : ℕ) (s : State) (w : ℕ) → Keeps processors J s → Lasting J.rules.finishes processors s w
      → (mark - s.clock) + weighs s.clock w s.jobs ≤ more
      → IsSettledRun processors J.rules mark s (settled_from processors J.rules mark (suc more) s)
  settles zero s w keeps it few = by_barrier (waits_for_mark (step_of s) && nat_le mark s.clock) refl where
    by_barrier : (b : Bool) → (waits_for_mark (step_of s) && nat_le mark s.clock) ≡ b
        → IsSettledRun processors J.rules mark s (unless b (record { before = s; move = step_of s }
        ∷ settled_from processors J.rules mark 0 (after s (step_of s))))
    by_barrier true here = here
    by_barrier false before =
        let d = open_down processors J valid some s keeps w it mark (before_mark s before) in
        absurd (omega (arith, d.2, few))
  settles (suc more) s w keeps it few = by_barrier (waits_for_mark (step_of s) && nat_le mark s.clock) refl
      (settles more (after s (step_of s))) where
        by_barrier : (b : Bool) → (waits_for_mark (step_of s) && nat_le mark s.clock) ≡ b
            → ((v : ℕ) → Keeps processors J (after s (step_of s))
            → Lasting J.rules.finishes processors (after s (step_of s)) v
            → (mark - (after s (step_of s)).clock) + weighs (after s (step_of s)).clock v (after s (step_of s)).jobs
            ≤ more
            → IsSettledRun processors J.rules mark (after s (step_of s))
            (settled_from processors J.rules mark (suc more) (after s (step_of s))))
            → IsSettledRun processors J.rules mark s (unless b (record { before = s; move = step_of s }
            ∷ settled_from processors J.rules mark (suc more) (after s (step_of s))))
        by_barrier true here onward = here
        by_barrier false before onward =
            let d = open_down processors J valid some s keeps w it mark (before_mark s before) in
            (refl, before, onward d.0 (open_kept processors J valid some J.rules s keeps) d.1 (omega (arith, d.2, few)))

  -- the settled steps are all before the barrier
  pub settled_is_run : IsSettledRun processors J.rules mark (opening J.jobs) (settled_steps processors J mark)
  settled_is_run = subst (λ n. IsSettledRun processors J.rules mark (opening J.jobs)
      (settled_from processors J.rules mark n (opening J.jobs)))
      (let same : suc (mark + 5 * length J.jobs) ≡ mark + 5 * length J.jobs + 1 = omega arith in same)
      (settles (mark + 5 * length J.jobs) (opening J.jobs) 0 (opening_kept processors J)
      (opening_lasts processors J valid some) (omega (arith, opening_weighs processors J valid some)))

  clock_low : (s : State) (m : Move) → (m ≡ Ticks → s.clock < mark) → s.clock ≤ mark → (after s m).clock ≤ mark
  clock_low s (Prints q e) early low = low
  clock_low s (Waits n) early low = low
  clock_low s Ticks early low = omega (arith, early refl)

  -- a settled run ends at its barrier
  ends_at_barrier : (xs : List many.Step) (s : State) → Keeps processors J s → s.clock ≤ mark
      → IsSettledRun processors J.rules mark s xs
      → AtBarrier processors J mark (fold (λ t step. after step.before step.move) s xs)
  ends_at_barrier [] s keeps low run =
      let it = at_barrier (waits_for_mark (step_of s)) mark s.clock run in
      record {
        keeps = keeps;
        clock = omega (arith, it.1, low);
        barrier = run;
        none_fresh = late_none_fresh processors J valid some J.rules s keeps (step_of s)
            (open_case J.rules s (all_seen processors J.rules.version s) (each_sees processors J.rules.version s)) it.0;
      }
  ends_at_barrier (x ∷ xs) s keeps low run =
      subst (λ (z : State). AtBarrier processors J mark (fold (λ t step. after step.before step.move) z xs))
      (sym (ap (λ (y : many.Step). after y.before y.move) run.0))
      (ends_at_barrier xs (after s (step_of s)) (open_kept processors J valid some J.rules s keeps)
      (clock_low s (step_of s) (before_mark s run.1) low) run.2)

  pub settled_at_barrier : AtBarrier processors J mark
      (fold (λ t step. after step.before step.move) (opening J.jobs) (settled_steps processors J mark))
  settled_at_barrier = ends_at_barrier (settled_steps processors J mark) (opening J.jobs) (opening_kept processors J)
      (omega arith) settled_is_run
