-- The open steps reach the barrier of a mark, within the fuel of `settled`.
use Rattle.std.proofs.Common.{◌≡◌, ℕ, suc, zero, ◌+◌, ◌*◌, ◌≤◌, ◌<◌, inl, inr, List, [], ◌∷◌, length, refl, sym, ap}
use Rattle.std.proofs.Common.{◌∙◌, subst, Bool, true, false, arith, nat_le, ◌&&◌, leb-true, leb-false}
use Rattle.dover_model.specs.Common.{Rules, Instance, IsValid, State, opening, open_step, after, Step, waits_for_mark}
use Rattle.dover_model.specs.Common.{settled_from, settled_steps, open_at, IsBefore, IsSettledRun, Keeps}
use Rattle.dover_model.proofs.steps.Kept.{open_kept, opening_keeps}
use Rattle.dover_model.proofs.runs.Ending.{potential, Brings, open_brings, deed_falls, tick_falls, opening_weighs}
use Rattle.dover_model.proofs.finishes.Readiness.{IsReady, open_ready, opening_ready}
use Rattle.dover_model.proofs.lists.Tests.{never}

-- a late step before the barrier is taken before the mark
pub late_early : (late : Bool) (mark clock : ℕ) → (late && nat_le mark clock) ≡ false → late ≡ true → clock < mark
late_early true mark clock before late = leb-false _ _ before
late_early false mark clock before late = never late

-- a barrier is a late step at the mark or after it
pub at_barrier : (late : Bool) (mark clock : ℕ) → (late && nat_le mark clock) ≡ true → (late ≡ true) × (mark ≤ clock)
at_barrier true mark clock both = (refl, leb-true _ _ both)
at_barrier false mark clock both = never both

-- a settled run of so many steps at most
abbrev pub Settles : Rules → ℕ → State → ℕ → Type 0
Settles rules mark s most = (xs : List Step) × IsSettledRun rules mark s xs × (length xs ≤ most)

module _ (J : Instance) (valid : IsValid J) (rules : Rules) (mark : ℕ) where
  -- an open step before the barrier lowers the potential
  open_falls : (s : State) → Keeps J s → IsReady rules.finishes s → IsBefore rules mark s
      → potential rules.finishes mark (after s (open_step rules s)) < potential rules.finishes mark s
  open_falls s keeps ready before = by_case (open_brings J valid s keeps rules ready) where
    by_case : Brings rules.finishes s (open_step rules s)
        → potential rules.finishes mark (after s (open_step rules s)) < potential rules.finishes mark s
    by_case (inl it) = tick_falls rules.finishes mark s (open_step rules s) keeps.sound it.1 it.0
        (late_early (waits_for_mark (open_step rules s)) mark s.clock before (ap waits_for_mark it.1))
    by_case (inr falls) = deed_falls rules.finishes mark s (open_step rules s) falls

  -- the open steps reach the barrier
  pub settles : (most : ℕ) (s : State) → Keeps J s → IsReady rules.finishes s
      → potential rules.finishes mark s ≤ most → Settles rules mark s most
  settles zero s keeps ready low = by_barrier (waits_for_mark (open_step rules s) && nat_le mark s.clock) refl where
    by_barrier : (b : Bool) → (waits_for_mark (open_step rules s) && nat_le mark s.clock) ≡ b → Settles rules mark s 0
    by_barrier true here = ([], here, omega arith)
    by_barrier false before = absurd
        (let less : potential rules.finishes mark (after s
        (open_step rules s)) < potential rules.finishes mark s = open_falls s keeps ready before in
        omega arith)
  settles (suc most) s keeps ready low =
      by_barrier (waits_for_mark (open_step rules s) && nat_le mark s.clock) refl
      (settles most (after s (open_step rules s))) where
        by_barrier : (b : Bool) → (waits_for_mark (open_step rules s) && nat_le mark s.clock) ≡ b
            → (Keeps J (after s (open_step rules s)) → IsReady rules.finishes (after s (open_step rules s))
            → potential rules.finishes mark (after s (open_step rules s)) ≤ most
            → Settles rules mark (after s (open_step rules s)) most) → Settles rules mark s (suc most)
        by_barrier true here onward = ([], here, omega arith)
        by_barrier false before onward =
            let less : potential rules.finishes mark (after s
            (open_step rules s)) < potential rules.finishes mark s = open_falls s keeps ready before in
            let rest : Settles rules mark (after s (open_step rules s)) most =
            onward (open_kept J valid s keeps rules) (open_ready J valid s keeps rules ready) (omega arith) in
            (open_at rules s ∷ rest.0, (refl, before, rest.1), omega (arith, rest.2))

-- the steps, or none
abbrev pub unless : Bool → List Step → List Step
unless b steps = elim b [ true ↦ [] | false ↦ steps ]

-- enough fuel gives the settled run
pub enough_settled : (rules : Rules) (mark fuel : ℕ) (s : State) (xs : List Step) → IsSettledRun rules mark s xs
    → length xs ≤ fuel
    → settled_from rules mark fuel s ≡ xs
enough_settled rules mark zero s [] here fits = refl
enough_settled rules mark (suc fuel) s [] here fits =
    ap (λ b. unless b (open_at rules s ∷ settled_from rules mark fuel (after s (open_step rules s)))) here
enough_settled rules mark zero s (x ∷ xs) run fits = absurd (omega arith)
enough_settled rules mark (suc fuel) s (x ∷ xs) run fits =
    ap (λ b. unless b (open_at rules s ∷ settled_from rules mark fuel (after s (open_step rules s)))) run.1
    ∙ ap (λ ys. open_at rules s ∷ ys)
    (enough_settled rules mark fuel (after s (open_step rules s)) xs run.2 (omega arith))
    ∙ ap (λ y. y ∷ xs) (sym run.0)

-- the settled steps are all before the barrier
pub settled_is_run : (J : Instance) (mark : ℕ) → IsValid J
    → IsSettledRun J.rules mark (opening J.jobs) (settled_steps J mark)
settled_is_run J mark valid =
    let it : Settles J.rules mark (opening J.jobs) (mark + 5 * length J.jobs) =
    settles J valid J.rules mark (mark + 5 * length J.jobs) (opening J.jobs) (opening_keeps J)
    (opening_ready J.rules.finishes J.jobs) (omega (arith, opening_weighs J.rules.finishes J.jobs)) in
    subst (IsSettledRun J.rules mark (opening J.jobs))
    (sym (enough_settled J.rules mark (mark + 6 * length J.jobs + 1) (opening J.jobs) it.0 it.1 (omega (arith, it.2))))
    it.1
