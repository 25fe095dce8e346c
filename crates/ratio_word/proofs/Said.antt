-- What is put of an answer is what is to be said.
use Rattle.std.proofs.Common.{◌≡◌, ◌++◌, ◌∷◌, [], List, Option, Some, None, codes, inl, inr, refl, subst, sym, ap}
use Rattle.dover_model.specs.Common.{Declaration as Rules, Fraction, IsRatio, JobFacts, in_lines, rules_with}
use Rattle.dover_model.specs.declared.events.Version.{Version}
use Rattle.dover_port.specs.declared.status.Status.TheVariants.{Done, No}
use Rattle.event_feed.specs.Feeds.{rules_text}
use Rattle.admission.specs.Kept.{HasExtremes}
use Rattle.admission.specs.Least.{AllKeep, IsLeast}
use Rattle.ratio_word.specs.Says.{AreExtremeLines, SaysRatio, bound_line, extreme_lines}
use Rattle.admission.specs.declared.extremes.Extremes.{Extremes}

-- the lines of the two jobs are
extremes_shown : (k : Fraction) (jobs : List JobFacts) (o : Option Extremes) → HasExtremes k jobs o
    → AreExtremeLines jobs (extreme_lines o)
extremes_shown k jobs None none = inl (none, refl)
extremes_shown k jobs (Some e) it = inr (e.least, e.densest, it.least, it.densest, refl)

module _ (rules : Rules) (jobs : List JobFacts) (o : Option Extremes) (by : Fraction)
    (has : HasExtremes by jobs o) where
  pub says_done : (k : Fraction) (version : Version) → rules ≡ rules_with by version → IsLeast by.factor jobs k
      → SaysRatio rules jobs Done (in_lines (rules_text (rules_with k version) ∷ extreme_lines o ++ bound_line k ∷ []))
  says_done k version same least = (
    k,
    subst (λ f. IsLeast f jobs k) (sym (ap (λ (r : Rules). r.ratio.factor) same)) least,
    (
      extreme_lines o,
      extremes_shown by jobs o has,
      ap (λ v. in_lines (rules_text (rules_with k v) ∷ extreme_lines o ++ bound_line k ∷ [])) (sym (ap (λ (r : Rules). r.version) same)),
    ),
  )

  pub says_no : ((k : Fraction) → IsRatio k → AllKeep k jobs → ⊥)
      → SaysRatio rules jobs No (in_lines (codes "none" ∷ extreme_lines o))
  says_no none = (none, (extreme_lines o, extremes_shown by jobs o has, refl))
