-- What the word `ratio` says of jobs.
use Rattle.std.specs.Prelude.{◌≡◌, ◌⊎◌, ℕ, List, [], ◌∷◌, ◌++◌, codes, Option, Some, None}
use Rattle.dover_model.specs.Common.{Declaration as Rules, Fraction, IsRatio, JobFacts, bound, in_lines, rules_with}
use Rattle.dover_model.specs.Common.{with_numbers}
use Rattle.dover_port.specs.declared.status.Status.{Status}
use Rattle.dover_port.specs.declared.status.Status.TheVariants.{Done, No}
use Rattle.admission.specs.Kept.{IsDensest, IsLeastDense}
use Rattle.admission.specs.declared.extremes.Numbered.{Numbered}
use Rattle.event_feed.specs.Feeds.{rules_text}
use Rattle.admission.specs.declared.extremes.Extremes.{Extremes}
use Rattle.admission.specs.Least.{AllKeep, IsLeast}

-- the line of a job behind a word: its number, its value and its work
abbrev pub job_line : List ℕ → Numbered → List ℕ
job_line word x = with_numbers word (x.number ∷ x.job.value ∷ x.job.work ∷ [])

-- the first of the least dense jobs and the first of the densest, if there are jobs, and the line of each
abbrev pub AreExtremeLines : List JobFacts → List (List ℕ) → Type 0
AreExtremeLines jobs ls = ((jobs ≡ []) × (ls ≡ []))
    ⊎ ((least : Numbered) × (densest : Numbered) × IsLeastDense jobs least × IsDensest jobs densest
    × (ls ≡ job_line (codes "least") least ∷ job_line (codes "densest") densest ∷ []))

-- the lines of these two
abbrev pub extreme_lines : Option Extremes → List (List ℕ)
extreme_lines None = []
extreme_lines (Some e) =
    job_line (codes "least") e.least ∷ job_line (codes "densest") e.densest ∷ []

-- what a run is to complete for which the bound is told
abbrev pub told : ℕ
told = 1_000_000

-- the line of the bound: where a run completes this value, no schedule is worth more than that
abbrev pub bound_line : Fraction → List ℕ
bound_line k = with_numbers (codes "bound") (told ∷ bound k told ∷ [])

-- Done with the line that declares the least ratio that all jobs keep, with the version and the factor as they are, the
-- two jobs that set it, and the bound by it; and No where no ratio within the limits is kept by all, with the two jobs
abbrev pub SaysRatio : Rules → List JobFacts → Status → List ℕ → Type 0
SaysRatio rules jobs Done text = (k : Fraction) × IsLeast rules.ratio.factor jobs k
    × ((ls : List (List ℕ)) × AreExtremeLines jobs ls
    × (text ≡ in_lines (rules_text (rules_with k rules.version) ∷ ls ++ bound_line k ∷ [])))
SaysRatio rules jobs No text = ((k : Fraction) → IsRatio k → AllKeep k jobs → ⊥)
    × ((ls : List (List ℕ)) × AreExtremeLines jobs ls × (text ≡ in_lines (codes "none" ∷ ls)))
SaysRatio rules jobs _ text = ⊥
