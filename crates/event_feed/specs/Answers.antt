-- What the answers to the lines of a feed say of its account.
use Rattle.std.specs.Prelude.{◌≡◌, ◌≢◌, ℕ, suc, ◌≤◌, ◌⊎◌, List, [], ◌∷◌, length, true, if◌then◌else◌, Option, Some}
use Rattle.std.specs.Prelude.{None, Result, Ok, Err}
use Rattle.dover_model.specs.Common.{last_tick_in, AreShort, JobFacts, job_numbers, job_of_numbers, Fraction}
use Rattle.dover_model.specs.Common.{refusal_of, Session, JobItem, refused_at, with_item, new_session, admitted_jobs}
use Rattle.dover_model.specs.Common.{refuses_lines, refusal_at, may_finish_early, is_right, Item, instance_of, is_full}
use Rattle.dover_model.specs.Common.{refused_mark, FeedLine, JobLine, DoneLine, feed_line, Account, Open, Ended, Faulty}
use Rattle.dover_model.specs.Common.{rules_with, with_fault, account_of_lines, with_good_line}
use Rattle.dover_model.specs.declared.events.Version.{Version}
use Rattle.dover_model.specs.declared.events.Refusal.{Refusal}
use Rattle.dover_model.specs.declared.events.Refusal.TheVariants.{Full}
use Rattle.dover_model.specs.Feed.{with_refused_done}
use Rattle.admission.specs.Answers.{IsOther}
use Rattle.event_feed.specs.declared.faults.Cause.{Cause}
use Rattle.event_feed.specs.declared.faults.Cause.TheVariants as cause
use Rattle.event_feed.specs.declared.faults.FeedFault.{FeedFault}
use Rattle.event_feed.specs.declared.fed.Fed.{Fed}
use Rattle.event_feed.specs.declared.fed.Fed.TheVariants as fed
use Rattle.event_feed.specs.Kept.{cause_of_fault}

-- how many jobs an account has admitted
abbrev pub admitted_in : Account → ℕ
admitted_in a = elim a.session [ None ↦ 0 | Some S ↦ length (admitted_jobs S.items) ]

-- ---- what a good line makes of the account in which it is counted

-- the account with its next line counted
abbrev pub counted : Account → Account
counted a = record a { lines = suc a.lines }

-- the rules are declared, and nothing is handed in yet
pub record DeclaresRatio (k : Fraction) (version : Version) (a after : Account) : Type 0 where
  pub first : a.session ≡ None
  pub no_mark : a.mark ≡ 0
  pub after_is : after ≡ record a { session = Some (new_session (rules_with k version)) }

-- what the line of a job hands in that may be admitted: the job, or its refusal, where it finds no room
abbrev pub offered_item : Session → JobFacts → Item
offered_item S job =
    if is_full (instance_of S) job.release then refused_at job.release job Full else JobItem job

-- a job is handed in under the number of the jobs before it, or refused since it finds no room, and the mark is its
-- release
pub record AddsJob (number : ℕ) (job : JobFacts) (a after : Account) : Type 0 where
  pub session : Session
  pub before_is : a.session ≡ Some session
  pub after_is : after ≡ record a { session = Some (with_item session (offered_item session job)); mark = job.release }
  pub numbered : number ≡ length (admitted_jobs session.items)
  pub admitted : refusal_of session.rules (admitted_jobs session.items) job ≡ None
  pub no_fall : a.mark ≤ job.release
  pub numerals : AreShort (job_numbers job)

-- the mark is this tick
pub record MovesMark (tick : ℕ) (a after : Account) : Type 0 where
  pub session : Session
  pub before_is : a.session ≡ Some session
  pub after_is : after ≡ record a { mark = tick }
  pub no_fall : a.mark ≤ tick
  pub known : tick ≤ last_tick_in session.rules.version

-- the feed is ended
pub record EndsFeed (a after : Account) : Type 0 where
  pub session : Session
  pub before_is : a.session ≡ Some session
  pub after_is : after ≡ record a { standing = Ended }

-- a job line that is refused by itself or for the jobs before it is handed in, at the mark as it is
pub record AddsRefused (job : JobFacts) (refusal : Refusal) (a after : Account) : Type 0 where
  pub session : Session
  pub before_is : a.session ≡ Some session
  pub version : refuses_lines session.rules.version ≡ true
  pub after_is : after ≡ record a { session = Some (with_item session (refused_at a.mark job refusal)) }
  pub numerals : AreShort (job_numbers job)
  pub refused : refusal_at session a.mark job ≡ Some refusal
  pub not_full : refusal ≢ Full
  pub stays : refused_mark a.mark job refusal ≡ a.mark

-- the account with a done line: a finish where it is right behind the session, and a refused line where it isn't
abbrev pub with_done : Session → (tick number : ℕ) → Account → Account
with_done S tick number a =
    if is_right S a.mark tick number then with_good_line a (DoneLine tick number) else with_refused_done a tick number

-- a done line is handed in
pub record AddsDone (tick number : ℕ) (a after : Account) : Type 0 where
  pub session : Session
  pub before_is : a.session ≡ Some session
  pub version : may_finish_early session.rules.version ≡ true
  pub after_is : after ≡ with_done session tick number a
  pub numerals : AreShort (number ∷ [])
  pub known : tick ≤ last_tick_in session.rules.version

-- what the answer says
abbrev pub IsFed : Account → Account → Fed → Type 0
IsFed a after (fed.Ratio k version) = DeclaresRatio k version a after
IsFed a after (fed.Job number job) = AddsJob number job a after
IsFed a after (fed.Tick tick) = MovesMark tick a after
IsFed a after fed.Over = EndsFeed a after
IsFed a after (fed.Refused release work deadline value refusal) =
    AddsRefused (job_of_numbers release work deadline value) refusal a after
IsFed a after (fed.Done tick number) = AddsDone tick number a after

-- ---- faults

-- an earlier job and that of the line break the ratio
pub record BreaksRatio (line : Option FeedLine) (a : Account) (other : ℕ) : Type 0 where
  pub session : Session
  pub before_is : a.session ≡ Some session
  pub job : JobFacts
  pub line_is : line ≡ Some (JobLine job)
  pub earlier : IsOther session.rules.ratio (admitted_jobs session.items) job other

-- where the ratio is broken, the other job is named
abbrev pub NamesOther : Option FeedLine → Account → Cause → Type 0
NamesOther line a cause.Lines = Unit {0}
NamesOther line a cause.Line = Unit {0}
NamesOther line a cause.Declared = Unit {0}
NamesOther line a cause.Order = Unit {0}
NamesOther line a cause.BadJob = Unit {0}
NamesOther line a cause.Count = Unit {0}
NamesOther line a cause.Total = Unit {0}
NamesOther line a (cause.Ratio other) = BreaksRatio line a other
NamesOther line a cause.Short = Unit {0}

-- the line is at fault
pub record NewFault (bytes : List ℕ) (fault : FeedFault) (before after : Account) : Type 0 where
  pub opened : before.standing ≡ Open
  pub line : fault.line ≡ suc before.lines
  pub after_is : after ≡ with_fault (counted before) (cause_of_fault fault.cause)
  pub other : NamesOther (feed_line bytes) (counted before) fault.cause

-- a line before was at fault
pub record OldFault (fault : FeedFault) (before after : Account) : Type 0 where
  pub faulty : before.standing ≡ Faulty fault.line (cause_of_fault fault.cause)
  pub after_is : after ≡ before

-- ---- the answers

-- the answer to a line, by the accounts of the lines before it and of those and it
abbrev pub Answers : List ℕ → Account → Account → Result Fed FeedFault → Type 0
Answers bytes before after (Ok fed) = (before.standing ≡ Open) × IsFed (counted before) after fed
Answers bytes before after (Err fault) = NewFault bytes fault before after ⊎ OldFault fault before after

-- the fault at an end of input after so many lines
abbrev pub short_after : ℕ → FeedFault
short_after lines = record { line = suc lines; cause = cause.Short }

-- the answer at an end of input after these lines
abbrev pub EndAnswers : {X : Type 0} → List (List ℕ) → Result X FeedFault → Type 0
EndAnswers ls (Ok done) = (account_of_lines ls).standing ≡ Ended
EndAnswers ls (Err fault) =
    (((account_of_lines ls).standing ≡ Open) × (fault ≡ short_after (length ls)))
    ⊎ ((account_of_lines ls).standing ≡ Faulty fault.line (cause_of_fault fault.cause))

-- the fault that is answered, if one is
abbrev pub fault_in : Result Fed FeedFault → Option FeedFault
fault_in (Ok fed) = None
fault_in (Err fault) = Some fault
