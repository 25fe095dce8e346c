-- What the word `compare` says of the jobs of a feed.
use Rattle.std.specs.Prelude.{◌≡◌, ◌≤◌, ℕ, List, [], ◌∷◌, codes, Option, Some, None}
use Rattle.dover_model.specs.Common.{bound, Instance, IsListable, with_numbers, in_lines, observed, completed_value}
use Rattle.dover_model.specs.Common.{worth, jobs_under, with_factor}
use Rattle.dover_model.specs.declared.factors.Factor.{Factor}
use Rattle.dover_model.specs.declared.events.Version.TheVariants.{Four}
use Rattle.dover_port.specs.declared.status.Status.{Status}
use Rattle.dover_port.specs.declared.status.Status.TheVariants.{Done, Refused}
use Rattle.policy_lab.specs.Picks.{Picks}
use Rattle.policy_lab.specs.Counts.{served_count, stops}
use Rattle.policy_lab.specs.PolicyRun.{policy_run}
use Rattle.policy_lab.specs.Standard.{earliest_deadline, greatest_density}
use Rattle.dialogue.specs.Sizes.{size_text}

-- the factor, or 2 where there is none
abbrev pub factor_or_two : Option Factor → Factor
factor_or_two None = record { b = 2; c = 1 }
factor_or_two (Some f) = f

-- the jobs as they were declared, by the rules of version Four with the feed's factor, or 2 where it declares none
abbrev pub by_four : Instance → Instance
by_four J = let f = factor_or_two J.rules.ratio.factor in jobs_under Four (with_factor J.rules.ratio f.b f.c) J.jobs

-- what the schedule of a policy is worth
abbrev pub worth_of : Picks → Instance → ℕ
worth_of picks J = worth J (policy_run picks J.jobs)

-- the line of a policy: what its schedule is worth, how many jobs it serves, and how often it stops one that it hasn't
-- served yet
abbrev pub line_of : List ℕ → Picks → Instance → List ℕ
line_of word picks J = let s = policy_run picks J.jobs in
    with_numbers word (worth J s ∷ served_count J.jobs s ∷ stops J.jobs s ∷ [])

-- the value that the run of these jobs completes, and that by the rules of version Four, what the two policies'
-- schedules come to of the jobs as the run observed them, and the bound on what any is worth
abbrev pub compare_text : Instance → List ℕ
compare_text J = in_lines (
    with_numbers (codes "dover") (completed_value J ∷ [])
    ∷ with_numbers (codes "four") (completed_value (by_four J) ∷ [])
    ∷ line_of (codes "edf") earliest_deadline (observed J)
    ∷ line_of (codes "dense") greatest_density (observed J)
    ∷ with_numbers (codes "bound") (bound J.rules.ratio (completed_value J) ∷ [])
    ∷ [])

-- neither what version Four completes nor a policy's schedule is worth more than the bound
pub record AreWithin (J : Instance) : Type 0 where
  pub four : completed_value (by_four J) ≤ bound J.rules.ratio (completed_value J)
  pub edf : worth_of earliest_deadline (observed J) ≤ bound J.rules.ratio (completed_value J)
  pub dense : worth_of greatest_density (observed J) ≤ bound J.rules.ratio (completed_value J)

-- Done with the numbers, and Refused exactly where the jobs are more, or worth more or due later, than those of version
-- Two may be
abbrev pub SaysCompare : Instance → Status → List ℕ → Type 0
SaysCompare J Done text = IsListable J × AreWithin J × (text ≡ compare_text J)
SaysCompare J Refused text = (IsListable J → ⊥) × (text ≡ size_text)
SaysCompare J _ text = ⊥
