-- The jobs that a feed has admitted so far, and the done lines behind them.
use Rattle.std.specs.Prelude.{◌≡◌, ℕ, ◌≤◌, List, [], ◌∷◌, ◌++◌, length, take, drop, Bool, true, false, not, ◌&&◌}
use Rattle.std.specs.Prelude.{nat_lt, Option, Some, None}
use Rattle.std.specs.List.{fold, count_by, AllByRecursion}
use Rattle.dover_model.specs.Common.{last_tick, most_jobs, Finish, Fraction, JobFacts, Declaration, Instance, under}
use Rattle.dover_model.specs.Common.{Account, rules_with, is_open, Item, JobItem, RefusedItem, FinishItem, RefusedLine}
use Rattle.dover_model.specs.Common.{RefusedJob, RefusedDone, EarlyFinish, Session, instance_of, finish_at}
use Rattle.dover_model.specs.Common.{admitted_jobs, is_same_refusal}
use Rattle.dover_model.specs.declared.events.Refusal.TheVariants.{Full}
use Rattle.dover_model.specs.declared.events.Version.{Version}
use Rattle.dover_model.specs.declared.events.Version.TheVariants.{Two}
use Rattle.event_feed.specs.declared.listed.DoneLine.{DoneLine}
use Rattle.event_feed.specs.declared.listed.Listed.{Listed}

-- ---- how many jobs are listed

-- the refused line is of a job that found no room
abbrev pub lacked_room : RefusedLine → Bool
lacked_room (RefusedJob j refusal) = is_same_refusal refusal Full
lacked_room (RefusedDone tick number) = false

-- the item is a job that could be admitted, whether it found room or not
abbrev pub is_offered : Item → Bool
is_offered (JobItem j) = true
is_offered (RefusedItem r) = lacked_room r.line
is_offered (FinishItem f) = false

-- how many of these an account has
abbrev pub offered_in : Account → ℕ
offered_in a = elim a.session [ None ↦ 0 | Some S ↦ count_by is_offered S.items ]

-- more than a list may have, which has as many as a feed of version Two may
abbrev pub has_too_many : Account → Bool
has_too_many a = nat_lt (most_jobs Two) (offered_in a)

-- whether more lines are to be listed
abbrev pub wants_more : Account → Bool
wants_more a = is_open a && not (has_too_many a)

-- ---- the run of what is listed

-- the jobs before a done line, with these finishes
abbrev pub jobs_before : Declaration → List JobFacts → List Finish → DoneLine → Instance
jobs_before rules jobs finishes d = record { rules = under rules finishes; jobs = take d.behind jobs }

-- these finishes, and this one behind them, if it is one
abbrev pub with_early : List Finish → Option EarlyFinish → List Finish
with_early finishes None = finishes
with_early finishes (Some f) = finishes ++ f.finish ∷ []

-- these finishes, and that of the done line, where it is right in the run of the jobs before it
abbrev pub with_right : Declaration → List JobFacts → List Finish → DoneLine → List Finish
with_right rules jobs finishes d =
    with_early finishes (finish_at (jobs_before rules jobs finishes d) d.at d.number)

-- the finishes of the done lines that are right
abbrev pub right_finishes : Declaration → List JobFacts → List DoneLine → List Finish
right_finishes rules jobs done_lines = fold (with_right rules jobs) [] done_lines

-- the jobs, and these finishes
abbrev pub handed : Declaration → List JobFacts → List DoneLine → Instance
handed rules jobs done_lines = record { rules = under rules (right_finishes rules jobs done_lines); jobs = jobs }

-- what is declared
abbrev pub declared_in : Listed → Declaration
declared_in listed = rules_with listed.ratio listed.version

-- the jobs, under the rules that were declared and with the finishes
abbrev pub listed_instance : Listed → Instance
listed_instance listed = handed (declared_in listed) listed.jobs.items listed.done_lines.items

-- ---- how done lines stand among jobs

-- the done line stands behind some of these jobs: those are released by its tick, and the others no sooner
pub record StandsAmong (jobs : List JobFacts) (d : DoneLine) : Type 0 where
  pub behind : d.behind ≤ length jobs
  pub known : d.at ≤ last_tick
  pub before : AllByRecursion (λ j. j.release ≤ d.at) (take d.behind jobs)
  pub later : AllByRecursion (λ j. d.at ≤ j.release) (drop d.behind jobs)

-- a done line comes behind another
pub record ComesBehind (d e : DoneLine) : Type 0 where
  pub jobs : d.behind ≤ e.behind
  pub ticks : d.at ≤ e.at

-- each comes behind those before it
abbrev pub AreInTurn : List DoneLine → Type 0
AreInTurn [] = Unit {0}
AreInTurn (d ∷ done_lines) = AllByRecursion (ComesBehind d) done_lines × AreInTurn done_lines

-- the done lines stand among these jobs, in turn
pub record StandAmong (jobs : List JobFacts) (done_lines : List DoneLine) : Type 0 where
  pub each : AllByRecursion (StandsAmong jobs) done_lines
  pub in_turn : AreInTurn done_lines

-- ---- what is listed of a session

-- a session is declared, of no more jobs than a word takes that keeps all of them
abbrev pub HasFewJobs : Option Session → Type 0
HasFewJobs None = ⊥
HasFewJobs (Some S) = length (admitted_jobs S.items) ≤ most_jobs Two

-- the session at this mark declares these rules, and its run is that of these jobs and done lines
pub record ListsOf (declared : Fraction × Version) (jobs : List JobFacts) (done_lines : List DoneLine)
    (session : Option Session) (mark : ℕ) : Type 0 where
  pub named : Session
  pub there : session ≡ Some named
  pub run : handed (rules_with declared.0 declared.1) jobs done_lines ≡ instance_of named
  pub among : StandAmong jobs done_lines
  pub marked : AllByRecursion (λ d. d.at ≤ mark) done_lines

-- so it is, or nothing is declared
abbrev pub Lists : Option (Fraction × Version) → List JobFacts → List DoneLine → Option Session → (mark : ℕ) → Type 0
Lists None jobs done_lines session mark = (jobs ≡ []) × (done_lines ≡ []) × (session ≡ None)
Lists (Some declared) jobs done_lines session mark = ListsOf declared jobs done_lines session mark

-- the same of an account
abbrev pub ListsIn : Option (Fraction × Version) → List JobFacts → List DoneLine → Account → Type 0
ListsIn declared jobs done_lines a = Lists declared jobs done_lines a.session a.mark
