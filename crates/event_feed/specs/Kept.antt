-- What is kept of the lines of a feed, and for which lines it stands.
use Rattle.std.specs.Prelude.{◌≡◌, ℕ, ◌+◌, ◌≤◌, List, [], ◌∷◌, ◌++◌, Bool, true, false, Option, Some, None, IsSome}
use Rattle.std.specs.Prelude.{IfSome, Result, Ok, Err}
use Rattle.dover_model.specs.Common.{most_lines, JobFacts, Session, JobItem, admitted_jobs, with_item, Account}
use Rattle.dover_model.specs.Common.{account_of_lines}
use Rattle.dover_model.specs.declared.events.Version.TheVariants.{Three}
use Rattle.dover_model.specs.declared.events.Refusal.TheVariants as refusal
use Rattle.dover_model.specs.Feed as model
use Rattle.admission.specs.Kept as admission
use Rattle.admission.specs.declared.refused.Refused.{Refused}
use Rattle.admission.specs.declared.refused.Refused.TheVariants as refused
use Rattle.event_feed.specs.declared.faults.Cause.{Cause}
use Rattle.event_feed.specs.declared.faults.Cause.TheVariants.{Lines, Line, Declared, Order, BadJob, Count, Total}
use Rattle.event_feed.specs.declared.faults.Cause.TheVariants.{Ratio, Short}
use Rattle.event_feed.specs.declared.faults.FeedFault.{FeedFault}
use Rattle.event_feed.specs.declared.fed.Fed.{Fed}
use Rattle.event_feed.specs.declared.fed.Fed.TheVariants as fed
use Rattle.event_feed.specs.declared.intake.Standing.{Standing}
use Rattle.event_feed.specs.declared.intake.Standing.TheVariants.{Open, Over, Faulty}
use Rattle.event_feed.specs.declared.kept_session.KeptSession.{KeptSession}

-- ---- causes

-- the cause without the other job
abbrev pub cause_of_fault : Cause → model.Cause
cause_of_fault Lines = model.Lines
cause_of_fault Line = model.Line
cause_of_fault Declared = model.Declared
cause_of_fault Order = model.Order
cause_of_fault BadJob = model.NotAdmitted refusal.BadJob
cause_of_fault Count = model.NotAdmitted refusal.Count
cause_of_fault Total = model.NotAdmitted refusal.Total
cause_of_fault (Ratio other) = model.NotAdmitted refusal.Ratio
cause_of_fault Short = model.Short

-- the cause of a job that isn't admitted
abbrev pub cause_of_refused : Refused → Cause
cause_of_refused refused.BadJob = BadJob
cause_of_refused refused.Count = Count
cause_of_refused refused.Total = Total
cause_of_refused (refused.Ratio other) = Ratio other

-- ---- what is kept

-- the lines that are counted, the session once it is declared, and whether the feed goes on
pub record Kept : Type 0 where
  pub lines : ℕ
  pub session : Option KeptSession
  pub standing : Standing

-- the ratio and the version, the admitted jobs, and the mark
pub record IsKeptOf (kept : KeptSession) (S : Session) (mark : ℕ) : Type 0 where
  pub rules : S.rules ≡ kept.admission.rules
  pub jobs : admission.StandsFor kept.admission (admitted_jobs S.items)
  pub marked : kept.mark ≡ mark

-- the session that is kept behind what a line said: the one before it, where it offers a job, and else the one after
abbrev pub session_by : Fed → (before after : Option Session) → Option Session
session_by (fed.Job number job) before after = before
session_by _ before after = after

-- the same behind the answer
abbrev pub session_behind : {E : Type 0} → Result Fed E → (before after : Option Session) → Option Session
session_behind (Ok said) before after = session_by said before after
session_behind (Err fault) before after = after

-- the session is kept if there is one, and before that the mark is 0
abbrev pub KeepsSession : Option KeptSession → Option Session → ℕ → Type 0
KeepsSession None None mark = mark ≡ 0
KeepsSession None (Some S) mark = ⊥
KeepsSession (Some kept) None mark = ⊥
KeepsSession (Some kept) (Some S) mark = IsKeptOf kept S mark

-- whether the feed goes on, without the other job of a fault
abbrev pub standing_of : Standing → model.Standing
standing_of Open = model.Open
standing_of Over = model.Ended
standing_of (Faulty fault) = model.Faulty fault.line (cause_of_fault fault.cause)

-- the lines of an account are counted, and whether it goes on is kept
pub record KeepsStanding (kept : Kept) (a : Account) : Type 0 where
  pub counted : kept.lines ≡ a.lines
  pub standing : standing_of kept.standing ≡ a.standing

-- this is kept of an account
pub record KeepsAccount (kept : Kept) (a : Account) : Type 0 where
  pub counted : kept.lines ≡ a.lines
  pub session : KeepsSession kept.session a.session a.mark
  pub standing : standing_of kept.standing ≡ a.standing

-- this is kept of these lines
pub record StandsFor (kept : Kept) (ls : List (List ℕ)) : Type 0 where
  pub by_account : KeepsAccount kept (account_of_lines ls)

-- the account behind an answer, without what becomes of a job that is offered
abbrev pub before_offer : {E : Type 0} → Result Fed E → (before after : Account) → Account
before_offer answer before after =
    record after { session = session_behind answer before.session after.session }

-- this is kept of these lines and one more, behind the answer to it; of a job that it offers nothing is kept
abbrev pub StandsBehind : {E : Type 0} → Result Fed E → Kept → List (List ℕ) → (line : List ℕ) → Type 0
StandsBehind answer kept ls line =
    KeepsAccount kept (before_offer answer (account_of_lines ls) (account_of_lines (ls ++ line ∷ [])))

-- the limits of all jobs leave room for this one
abbrev pub HasRoom : Kept → JobFacts → Type 0
HasRoom kept job = IfSome kept.session (λ s. admission.HasRoom s.admission job)

-- the job is accepted behind the session, and all else stays
pub record Accepts (job : JobFacts) (kept after : Kept) : Type 0 where
  pub lines : after.lines ≡ kept.lines
  pub standing : after.standing ≡ kept.standing
  pub session : (S : Session) (mark : ℕ) → KeepsSession kept.session (Some S) mark
      → KeepsSession after.session (Some (with_item S (JobItem job))) mark

-- ---- what a caller knows of it

-- the end line came
abbrev pub has_ended : Kept → Bool
has_ended kept = elim kept.standing [ Open ↦ false | Over ↦ true | Faulty fault ↦ false ]

-- the fault, if there is one
abbrev pub fault_of : Kept → Option FeedFault
fault_of kept = elim kept.standing [ Open ↦ None | Over ↦ None | Faulty fault ↦ Some fault ]

-- the ratio was declared, and neither a fault nor the end line came
pub record IsGoing (kept : Kept) : Type 0 where
  pub declared : IsSome kept.session
  pub no_fault : fault_of kept ≡ None
  pub not_ended : has_ended kept ≡ false

-- how many lines there may be, once a version is declared
abbrev pub most_lines_of : Option KeptSession → ℕ
most_lines_of None = 1
most_lines_of (Some kept) = most_lines kept.admission.rules.version

-- a feed may have so many lines more
abbrev pub HasLines : Kept → ℕ → Type 0
HasLines kept more = kept.lines + more ≤ most_lines_of kept.session

-- no line is counted that no feed may have, but for the one that is at fault for that
abbrev pub IsCounted : Standing → ℕ → Type 0
IsCounted Open lines = lines ≤ most_lines Three
IsCounted Over lines = lines ≤ most_lines Three
IsCounted (Faulty fault) lines = lines ≤ most_lines Three + 1
