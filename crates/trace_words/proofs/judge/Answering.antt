-- The line of an accepted trace.
use Rattle.std.proofs.Common.{◌≡◌, ℕ, List, ◌∷◌, ◌++◌, [], sym, ap, ◌∙◌, subst, Option, Result, codes}
use Rattle.dover_model.specs.Common.{bound, Fraction, with_numbers, completed_value, instance_of}
use Rattle.dover_model.specs.declared.events.Version.{Version}
use Rattle.dover_model.specs.Verdict as model
use Rattle.dover_port.specs.Moves.{Move, PutsThrough}
use Rattle.dover_port.specs.declared.port.Failed.{Failed}
use Rattle.trace_judge.specs.Judging.{Tells}
use Rattle.trace_judge.specs.declared.verdict.Verdict.TheVariants.{Accepted}
use Rattle.trace_words.specs.judge.Line.{verdict_text}

-- the line of these numbers is that of the verdict
pub accepted_puts : (a b : Option (List Move)) (result : Result (Unit {0}) Failed) (p q : List ℕ) (k : Fraction)
    (version : Version)
    (value most jobs : ℕ) (text : List ℕ) → Tells (Accepted k version value most jobs) text
    → PutsThrough a b result p q (with_numbers (codes "accepted") (value ∷ most ∷ []) ++ 10 ∷ [])
    → PutsThrough a b result p q (verdict_text (model.verdict text))
accepted_puts a b result p q k version value most jobs text tells puts =
    let worth : ℕ = completed_value (instance_of tells.0) in
    let same : most ≡ bound tells.0.rules.ratio worth =
    tells.5 ∙ ap (λ r. bound r value) tells.2 ∙ ap (bound tells.0.rules.ratio) tells.4 in
    subst (PutsThrough a b result p q)
    (ap (λ v. with_numbers (codes "accepted") (v ∷ most ∷ []) ++ 10 ∷ []) tells.4
    ∙ ap (λ b. with_numbers (codes "accepted") (worth ∷ b ∷ []) ++ 10 ∷ []) same
    ∙ sym (ap verdict_text tells.1)) puts
