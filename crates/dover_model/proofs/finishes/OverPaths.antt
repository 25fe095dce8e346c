-- Where each finish is of a job that is over, silent steps are those without finishes.
use Rattle.std.proofs.Common.{◌≡◌, ℕ, List, [], ◌∷◌, sym, ap, ◌∙◌, subst, nat_le, ◌&&◌}
use Rattle.dover_model.specs.Common.{Instance, IsValid, bare, State, open_step, after, Step, event_of, waits_for_mark}
use Rattle.dover_model.specs.Common.{AreOverFor, Keeps, Settles, Idles}
use Rattle.dover_model.proofs.steps.Kept.{open_kept}
use Rattle.dover_model.proofs.finishes.Further.{over_open}
use Rattle.dover_model.proofs.finishes.OverFor.{over_after}

module _ (J : Instance) (valid : IsValid J) where
  -- jobs that are over stay so by silent steps without finishes, which are those with them
  pub settles_over : (mark : ℕ) (xs : List Step) (s z : State) → Keeps J s → AreOverFor J.rules.finishes s
      → Settles (bare J.rules) mark s xs z → Settles J.rules mark s xs z × AreOverFor J.rules.finishes z
  settles_over mark [] s z keeps over here = (here, subst (AreOverFor J.rules.finishes) here over)
  settles_over mark (x ∷ xs) s z keeps over settles =
      let same : open_step J.rules s ≡ open_step (bare J.rules) s = over_open J.rules s over in
      let rest : Settles J.rules mark (after s (open_step (bare J.rules) s)) xs z × AreOverFor J.rules.finishes z =
      settles_over mark xs (after s (open_step (bare J.rules) s)) z (open_kept J valid s keeps (bare J.rules))
      (over_after J valid s keeps (bare J.rules) J.rules.finishes over) settles.3 in (
        (
          settles.0 ∙ ap (λ m. let y : Step = record { before = s; move = m } in y) (sym same),
          ap (λ m. waits_for_mark m && nat_le mark s.clock) same ∙ settles.1,
          ap event_of same ∙ settles.2,
          subst (λ m. Settles J.rules mark (after s m) xs z) (sym same) rest.0,
        ),
        rest.1,
      )

  -- so silent steps with finishes are those without them
  pub idles_over : (xs : List Step) (s z : State) → Keeps J s → AreOverFor J.rules.finishes s
      → Idles J.rules s xs z → Idles (bare J.rules) s xs z
  idles_over [] s z keeps over here = here
  idles_over (x ∷ xs) s z keeps over idles =
      let same : open_step J.rules s ≡ open_step (bare J.rules) s = over_open J.rules s over in (
        idles.0 ∙ ap (λ m. let y : Step = record { before = s; move = m } in y) same,
        ap event_of (sym same) ∙ idles.1,
        idles.2,
        subst (λ m. Idles (bare J.rules) (after s m) xs z) same
            (idles_over xs (after s (open_step J.rules s)) z (open_kept J valid s keeps J.rules)
            (over_after J valid s keeps J.rules J.rules.finishes over) idles.3),
      )
