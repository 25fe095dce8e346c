-- Runs of version Four in which no job is abandoned are those of version Three.
use Rattle.std.proofs.Common.{◌≡◌, ℕ, zero, suc, inl, inr, List, [], ◌∷◌, refl, sym, ap, ◌∙◌, Bool, true, false}
use Rattle.std.specs.Prelude.{◌&&◌}
use Rattle.std.specs.List.{list_any}
use Rattle.dover_model.specs.Common.{Three, Release, Run, Preempt, Take, Complete, Abandon, End, Rules, Instance, State}
use Rattle.dover_model.specs.Common.{is_open_job, opening, Move, Prints, Waits, Ticks, step, after, urgent_or}
use Rattle.dover_model.specs.Common.{finish_or, due_finish, ending, ◌or_else◌, Step, is_end, run, enough, Each}
use Rattle.dover_model.specs.declared.events.Version.TheVariants.{Four}
use Rattle.dover_model.specs.Instance.{in_version}
use Rattle.dover_model.specs.Step.{seen_by}
use Rattle.dover_model.specs.Run.{run_from}
use Rattle.dover_model.specs.Underload.{abandons}
use Rattle.dover_model.proofs.lists.Tests.{never}

-- no other step than an abandonment begins a pressed state
calm_stays : (s : State) (m : Move) → abandons m ≡ false → s.pressed ≡ false → (after s m).pressed ≡ false
calm_stays s (Prints (Release n job)) none calm = calm
calm_stays s (Prints (Run at n)) none calm = calm
calm_stays s (Prints (Preempt at stops starts)) none calm = calm
calm_stays s (Prints (Take at stops starts)) none calm = calm
calm_stays s (Prints (Complete at n)) none calm =
    ap (λ b. b && list_any is_open_job (after s (Prints (Complete at n))).tasks) calm
calm_stays s (Prints (Abandon at n)) none calm = never (sym none)
calm_stays s (Prints (End value)) none calm = calm
calm_stays s (Waits n) none calm = calm
calm_stays s Ticks none calm = calm

-- the steps behind one, unless it is End
abbrev pub behind_it : Bool → List Step → List Step
behind_it ends xs = elim ends [ true ↦ [] | false ↦ xs ]

-- steps that are the same while no state is pressed are a run that is the same, where none is an abandonment
module _ (one other : Rules) (same : (s : State) → s.pressed ≡ false → step one s ≡ step other s) where
  alike : (fuel : ℕ) (s : State) → s.pressed ≡ false → Each (λ x. abandons x.move ≡ false) (run_from one fuel s)
      → run_from one fuel s ≡ run_from other fuel s
  alike zero s calm none = refl
  alike (suc fuel) s calm none =
      ap (λ xs. record { before = s; move = step one s } ∷ xs)
      (by_end (is_end (step one s)) (λ x m. none x (inr m))
      (alike fuel (after s (step one s)) (calm_stays s (step one s) (none _ (inl refl)) calm)))
      ∙ ap (λ m. record { before = s; move = m }
      ∷ behind_it (is_end m) (run_from other fuel (after s m))) (same s calm) where
        by_end : (b : Bool)
            → Each (λ x. abandons x.move ≡ false) (behind_it b (run_from one fuel (after s (step one s))))
            → (Each (λ x. abandons x.move ≡ false) (run_from one fuel (after s (step one s)))
            → run_from one fuel (after s (step one s)) ≡ run_from other fuel (after s (step one s)))
            → behind_it b (run_from one fuel (after s (step one s)))
            ≡ behind_it b (run_from other fuel (after s (step one s)))
        by_end true none more = refl
        by_end false none more = more none

module _ (J : Instance) where
  -- while the state isn't pressed, the step of Four is that of Three
  same_step : (s : State) → s.pressed ≡ false
      → step (in_version Four J).rules s ≡ step (in_version Three J).rules s
  same_step s calm = ap (λ b. finish_or s.clock (due_finish J.rules.finishes s)
      (urgent_or J.rules.ratio (seen_by Four s b) (ending s or_else Ticks))) calm

  -- where no job is abandoned in version Four, or in version Three, the runs are the same
  pub four_is_three : Each (λ x. abandons x.move ≡ false) (run (in_version Four J))
      → run (in_version Four J) ≡ run (in_version Three J)
  four_is_three none = alike (in_version Four J).rules (in_version Three J).rules same_step (enough J.jobs)
      (opening J.jobs) refl none

  pub three_is_four : Each (λ x. abandons x.move ≡ false) (run (in_version Three J))
      → run (in_version Four J) ≡ run (in_version Three J)
  three_is_four none = sym (alike (in_version Three J).rules (in_version Four J).rules
      (λ s calm. sym (same_step s calm)) (enough J.jobs) (opening J.jobs) refl none)
