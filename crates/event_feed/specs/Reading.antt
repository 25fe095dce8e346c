-- What a line makes of what is kept, and its answer, step by step.
use Rattle.dover_model.specs.Common.{fraction, with_factor, AreShort, version_number, JobFacts, job_numbers}
use Rattle.dover_model.specs.Common.{Declaration, refusal_of, Session, admitted_jobs, FeedLine, RatioLine, FactorLine}
use Rattle.dover_model.specs.Common.{JobLine, TickLine, DoneLine, EndLine, Account, Open, declared_rules, factor_rules}
use Rattle.dover_model.specs.Common.{cause_of, with_fault, with_line}
use Rattle.std.specs.Prelude.{◌≡◌, ℕ, ◌≤◌, Option, Some, None, Result, Ok, Err}
use Rattle.dover_model.specs.declared.events.Version.{Version}
use Rattle.dover_model.specs.declared.events.Version.TheVariants.{One, Two, Three, Four}
use Rattle.admission.specs.Answers as admission
use Rattle.admission.specs.Answers.{refusal_of_refused}
use Rattle.admission.specs.declared.refused.Refused.{Refused}
use Rattle.event_feed.specs.declared.faults.Cause.{Cause}
use Rattle.event_feed.specs.declared.fed.Fed.{Fed}
use Rattle.event_feed.specs.declared.kept_session.KeptSession.{KeptSession}
use Rattle.event_feed.specs.Kept.{cause_of_fault, IsKeptOf, KeepsSession, session_behind}
use Rattle.event_feed.specs.Answers.{IsFed, NamesOther}

-- the number with which a ratio line declares a version
abbrev pub declared_number : Version → Option ℕ
declared_number One = None
declared_number Two = Some 2
declared_number Three = Some 3
declared_number Four = Some 4

-- the line that declares these rules, with the factor where there is one
abbrev pub rules_line : Declaration → FeedLine
rules_line rules = elim rules.ratio.factor [
  | None ↦ RatioLine rules.ratio.p rules.ratio.q (declared_number rules.version)
  | Some f ↦ FactorLine rules.ratio.p rules.ratio.q (version_number rules.version) f.b f.c
]

-- the rules that a first line declares, if it may
abbrev pub first_rules : FeedLine → Option Declaration
first_rules (RatioLine p q version) = declared_rules (fraction p q) version
first_rules (FactorLine p q version b c) = factor_rules (with_factor (fraction p q) b c) version
first_rules (JobLine j) = None
first_rules (TickLine t) = None
first_rules (DoneLine t n) = None
first_rules EndLine = None

-- the line is at fault
pub record IsFault (line : Option FeedLine) (a after : Account) (cause : Cause) : Type 0 where
  pub after_is : after ≡ with_fault a (cause_of_fault cause)
  pub other : NamesOther line a cause

-- the answer to a line of an open account in which it is counted
abbrev pub Gives : Option FeedLine → Account → Account → Result Fed Cause → Type 0
Gives line a after (Ok fed) = IsFed a after fed
Gives line a after (Err cause) = IsFault line a after cause

-- what is kept afterwards, and the answer
pub record IsTaken (kept : Option KeptSession) (line : Option FeedLine) (a after : Account)
    (answer : Result Fed Cause) : Type 0 where
  pub keeps : KeepsSession kept (session_behind answer a.session after.session) after.mark
  pub gives : Gives line a after answer

-- an account that goes on
abbrev pub open_account : ℕ → Option Session → ℕ → Account
open_account lines session mark = record { lines = lines; session = session; mark = mark; standing = Open }

-- a line that has one of the forms, in an account that goes on
abbrev pub TakesIn : Account → FeedLine → Option KeptSession → Result Fed Cause → Type 0
TakesIn a line kept answer = IsTaken kept (Some line) a (with_line a line (cause_of a line)) answer

-- a line that has one of the forms, after the first
abbrev pub Takes : FeedLine → ℕ → Session → ℕ → KeptSession → Result Fed Cause → Type 0
Takes line lines S mark kept answer = TakesIn (open_account lines (Some S) mark) line (Some kept) answer

-- a job that comes next isn't admitted
pub record Refuses (kept : KeptSession) (S : Session) (mark : ℕ) (j : JobFacts) (refused : Refused) : Type 0 where
  pub kept_of : IsKeptOf kept S mark
  pub numerals : AreShort (job_numbers j)
  pub no_fall : mark ≤ j.release
  pub refusal : refusal_of S.rules (admitted_jobs S.items) j ≡ Some (refusal_of_refused refused)
  pub other : admission.NamesOther S.rules.ratio (admitted_jobs S.items) j refused
