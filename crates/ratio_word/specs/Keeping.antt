-- What is kept of a text.
use Rattle.std.specs.Prelude.{◌≡◌, ◌≤◌, ℕ, List, [], ◌∷◌, ◌++◌, length, true, Option, Some}
use Rattle.std.specs.Prelude.{None, is_some, Result, Ok, Err}
use Rattle.dover_model.specs.declared.events.Version.TheVariants.{Three}
use Rattle.dover_model.specs.Common.{most_jobs, Declaration as Rules, JobFacts, rules_with}
use Rattle.event_feed.specs.Kept.{cause_of_fault}
use Rattle.event_feed.specs.declared.faults.Cause.{Cause}
use Rattle.dover_model.specs.Feed as feed
use Rattle.task_words.specs.reading.Account.{rules_of_line}
use Rattle.task_words.specs.declared.reading.lines.TaskLine.TheVariants.{Declared, Factored, Task, End}
use Rattle.admission.specs.Kept.{HasExtremes}
use Rattle.ratio_word.specs.Account.{TextAccount, account_of_lines, job_cause, with_fault, with_job}
use Rattle.ratio_word.specs.declared.intake.Declaration.{Declaration}
use Rattle.ratio_word.specs.declared.intake.Intake.{Intake}
use Rattle.ratio_word.specs.declared.intake.Progress.{Progress}
use Rattle.ratio_word.specs.declared.intake.Progress.TheVariants as progress
use Rattle.ratio_word.specs.declared.lines.TextLine.{TextLine}
use Rattle.ratio_word.specs.declared.lines.TextLine.TheVariants.{Plain, Job, Mark}

-- the rules that were declared, and of the jobs so far how many they are, the least dense and the densest
pub record KeepsDeclared (d : Declaration) (rules : Rules) (jobs : List JobFacts) : Type 0 where
  pub rules_are : rules ≡ rules_with d.ratio d.version
  pub count : d.count ≡ length jobs
  pub few : d.count ≤ most_jobs Three
  pub extremes : HasExtremes d.ratio jobs d.extremes

-- the same, where there may be no ratio line yet, and then there is no job
abbrev pub KeepsRules : Option Declaration → Option Rules → List JobFacts → Type 0
KeepsRules None None jobs = jobs ≡ []
KeepsRules None (Some rules) jobs = ⊥
KeepsRules (Some d) None jobs = ⊥
KeepsRules (Some d) (Some rules) jobs = KeepsDeclared d rules jobs

-- this is kept of an account
pub record KeepsAccount (intake : Intake) (a : TextAccount) : Type 0 where
  pub counted : intake.lines ≡ a.lines
  pub rules : KeepsRules intake.declared a.rules a.jobs

-- how the account stands
abbrev pub StandsAt : Progress → Intake → TextAccount → Type 0
StandsAt progress.Open intake a = (a.standing ≡ feed.Open) × KeepsAccount intake a
StandsAt progress.Ended intake a = (a.standing ≡ feed.Ended) × KeepsAccount intake a × (is_some intake.declared ≡ true)
StandsAt (progress.Refused cause) intake a = a.standing ≡ feed.Faulty intake.lines (cause_of_fault cause)

-- the job stands behind the others, or this is why it doesn't
abbrev pub Takes : JobFacts → Rules → List JobFacts → Declaration → Result (Unit {0}) Cause → Type 0
Takes j rules jobs d (Ok done) =
    (job_cause rules.version (length jobs) j ≡ None) × KeepsDeclared d rules (jobs ++ j ∷ [])
Takes j rules jobs d (Err cause) = job_cause rules.version (length jobs) j ≡ Some (cause_of_fault cause)

-- a line that declares these rules, or nothing
abbrev pub Declares : TextLine → Option Rules → Type 0
Declares (Plain (Declared p q version)) declared = declared ≡ rules_of_line (Declared p q version)
Declares (Plain (Factored p q version b c)) declared = declared ≡ rules_of_line (Factored p q version b c)
Declares (Plain (Task task)) declared = ⊥
Declares (Plain End) declared = ⊥
Declares (Job release work deadline value) declared = ⊥
Declares Mark declared = ⊥

-- the first cause of a line that offers a job
abbrev pub offer_cause : TextAccount → JobFacts → Option feed.Cause
offer_cause a j = elim a.rules [
  | None ↦ Some feed.Declared
  | Some rules ↦ job_cause rules.version (length a.jobs) j
]

-- the account with such a line
abbrev pub with_offer : TextAccount → JobFacts → Option feed.Cause → TextAccount
with_offer a j None = with_job a j
with_offer a j (Some why) = with_fault a why

-- a text of this account ended without a fault, and this is kept of its jobs
abbrev pub IsEnded : Declaration → TextAccount → Type 0
IsEnded d a = (a.standing ≡ feed.Ended) × ((rules : Rules) × (a.rules ≡ Some rules) × KeepsDeclared d rules a.jobs)

-- the text of these lines stands so, and no comparison was counted since
pub record Stands (before : ℕ) (intake : Intake) (at : Progress) (count : ℕ) (ls : List (List ℕ)) : Type 0 where
  pub reads : StandsAt at intake (account_of_lines ls)
  pub counts : count ≡ before
