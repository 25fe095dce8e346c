-- The least ratio that the jobs of a run keep.
use Rattle.std.specs.Prelude.{◌≡◌, ℕ, List, [], ◌∷◌, ◌++◌, length, codes, Option, Some, None}
use Rattle.dover_model.specs.Common.{Fraction, Instance, JobFacts, bound, completed_value, in_lines, report, with_numbers}
use Rattle.dover_model.specs.declared.factors.Factor.{Factor}
use Rattle.admission.specs.Kept.{HasExtremes}
use Rattle.admission.specs.Least.{IsLeast}
use Rattle.run_reports.specs.declared.report.kept.Densities.{Densities}
use Rattle.run_reports.specs.declared.report.kept.Kept.{Kept}

-- ---- what the report says of it

-- the line of a ratio, and of the bound by it of a value
abbrev pub kept_line : Fraction → ℕ → List ℕ
kept_line k value = with_numbers (codes "kept") (k.p ∷ k.q ∷ bound k value ∷ [])

-- the line of the least ratio that the jobs keep where a factor is declared, and else none
abbrev pub AreKeptBy : Option Factor → Instance → List (List ℕ) → Type 0
AreKeptBy None J ls = ls ≡ []
AreKeptBy (Some f) J ls = (k : Fraction) × IsLeast (Some f) J.jobs k × (ls ≡ kept_line k (completed_value J) ∷ [])

-- by the ratio of the run
abbrev pub AreKeptLines : Instance → List (List ℕ) → Type 0
AreKeptLines J ls = AreKeptBy J.rules.ratio.factor J ls

-- the text is the report on the run, and behind it the line of the least ratio where a factor is declared
abbrev pub IsReportText : Instance → (text : List ℕ) → Type 0
IsReportText J text = (ls : List (List ℕ)) × AreKeptLines J ls × (text ≡ report J ++ in_lines ls)

-- ---- what is kept while it is sought, and of it

-- the lines of what is found
abbrev pub kept_lines : Option Kept → List (List ℕ)
kept_lines None = []
kept_lines (Some it) = with_numbers (codes "kept") (it.least.p ∷ it.least.q ∷ it.bound ∷ []) ∷ []

-- so many jobs they are, and these are the least dense and the densest
pub record HaveDensities (k : Fraction) (jobs : List JobFacts) (d : Densities) : Type 0 where
  pub count : d.count ≡ length jobs
  pub extremes : HasExtremes k jobs d.extremes
