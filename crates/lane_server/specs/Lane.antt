-- What a lane keeps of its feed, and what it still has to give.
use Rattle.std.specs.Prelude.{◌≡◌, ◌⊎◌, ℕ, List, [], ◌∷◌, ◌++◌, length, map, drop, true, false, if◌then◌else◌}
use Rattle.std.specs.Prelude.{Option, Some, None}
use Rattle.std.specs.Option.{option_map_or}
use Rattle.dover_model.specs.declared.events.Event.{Event}
use Rattle.dover_model.specs.declared.events.Refusal.TheVariants.{Full}
use Rattle.dover_model.specs.Common.{JobFacts, job_numbers, IsValid, with_jobs, with_finishes, Item, FinishItem}
use Rattle.dover_model.specs.Common.{is_full, RefusedJob, RefusedDone, Session, instance_of, with_item, finish_at}
use Rattle.dover_model.specs.Common.{refused_done_at, settled, text_of, refused_text, Account, Cause, Open, Faulty}
use Rattle.dover_model.specs.Common.{account_of_lines, is_open, is_ended, due_lines, AreShort, MayFollow, due_by}
use Rattle.dover_model.specs.Common.{Fraction}
use Rattle.dover_model.proofs.sessions.Accounts.{IsKept}
use Rattle.dover_model.specs.declared.horizon.Horizon.{Horizon}
use Rattle.dover_model.specs.declared.horizon.Horizon.TheVariants.{Mark, End}
use Rattle.dover_model.specs.declared.events.Version.{Version}
use Rattle.event_feed.specs.Answers.{DeclaresRatio, AddsJob, counted, offered_item}
use Rattle.event_feed.specs.Kept as feed
use Rattle.event_feed.specs.DueLines.{out_text, HasNumerals}
use Rattle.event_feed.specs.declared.fed.Fed.{Fed}
use Rattle.event_feed.specs.declared.fed.Fed.TheVariants as fed
use Rattle.event_feed.specs.Faults.{IsFirstFault}
use Rattle.event_feed.specs.declared.due_line.DueLine.{DueLine}
use Rattle.event_feed.specs.declared.due_line.DueLine.TheVariants.{Refused}
use Rattle.lane_server.specs.declared.lane.Lane.{Lane}
use Rattle.lane_server.specs.declared.lane.Work.{Work}
use Rattle.lane_server.specs.declared.lane.Work.TheVariants.{Nothing, Give, Run, Admit, Finish}
use Rattle.ready_server.specs.Serving.{Serves, HasPlaceUnlessFull}
use Rattle.ready_server.specs.declared.server.ReadyServer.{ReadyServer}

-- ---- how a feed stands

-- the session is there
abbrev pub IsDeclared : Account → Type 0
IsDeclared a = (S : Session) × (a.session ≡ Some S)

-- memory is asked for: the line that makes b of a declares the rules, or admits a job
abbrev pub AsksForMemory : Account → Account → Type 0
AsksForMemory a b = ((k : Fraction) × (version : Version) × DeclaresRatio k version (counted a) b)
    ⊎ ((n : ℕ) × (job : JobFacts) × AddsJob n job (counted a) b)

-- a line at fault was read
abbrev pub IsFaulty : Account → Type 0
IsFaulty a = (line : ℕ) × (cause : Cause) × (a.standing ≡ Faulty line cause)

-- ---- a line that is due

-- where it refuses the feed of these lines, it does so for the first that is at fault, and names the job with which its
-- ratio is broken
abbrev pub NamesFault : DueLine → List (List ℕ) → Type 0
NamesFault (Refused line cause) ls = IsFirstFault (record { line = line; cause = cause }) ls
NamesFault _ ls = Unit {0}

-- ---- how far a server is

-- up to where the run of a feed's jobs is due: to its mark, or to its end
abbrev pub reach : Account → Horizon
reach a = if is_ended a then End else Mark a.mark

-- the server has printed all that is due of the account's session, or there is neither
abbrev pub Fits : Account → Option ReadyServer → Type 0
Fits a None = a.session ≡ None
Fits a (Some server) = (S : Session) × (a.session ≡ Some S)
    × Serves server (instance_of S) (reach a) (due_by (instance_of S) (reach a))

-- ---- what is still to give

-- of what is due of the session up to the horizon these lines are left
pub record Running (to : Horizon) (server : ReadyServer) (a : Account)
    (rest : List (List ℕ)) : Type 0 where
  pub session : Session
  pub there : a.session ≡ Some session
  pub reached : reach a ≡ to
  pub valid : IsValid (instance_of session)
  pub from : Horizon
  pub follows : MayFollow from to
  pub events : List Event
  pub served : Serves server (instance_of session) from events
  pub left : List Event
  pub due : due_by (instance_of session) to ≡ events ++ left
  pub texts : rest ≡ map text_of left

-- the lines that a job line adds behind what is settled at its release without it: what is settled further there with
-- the job, or the line that refuses it, where it finds no room
abbrev pub job_lines : Session → JobFacts → List (List ℕ)
job_lines S job = if is_full (instance_of S) job.release
    then refused_text (record { at = job.release; line = RefusedJob job Full }) ∷ []
    else map text_of (drop (length (settled (instance_of S) job.release))
    (settled (with_jobs (instance_of S) (job ∷ [])) job.release))

-- The server serves the session without its last item, the job or its refusal, and has room for the job, if there may
-- be; and these lines are left: what is settled at the job's release without it, and what it adds.
pub record Admitting (job : JobFacts) (server : ReadyServer) (a : Account)
    (rest : List (List ℕ)) : Type 0 where
  pub session : Session
  pub there : a.session ≡ Some (with_item session (offered_item session job))
  pub reached : reach a ≡ Mark job.release
  pub valid : IsValid (with_jobs (instance_of session) (job ∷ []))
  pub numerals : AreShort (job.release ∷ job_numbers job)
  pub room : HasPlaceUnlessFull server
  pub from : Horizon
  pub follows : MayFollow from (Mark job.release)
  pub events : List Event
  pub served : Serves server (instance_of session) from events
  pub left : List Event
  pub due : settled (instance_of session) job.release ≡ events ++ left
  pub texts : rest ≡ map text_of left ++ job_lines session job

-- what a done line hands in at a mark that isn't above its tick: the finish, where it is right, or the refused line
abbrev pub done_item : Session → (at number : ℕ) → Item
done_item S at number =
    option_map_or FinishItem (finish_at (instance_of S) at number) (refused_done_at at at number)

-- the lines that it adds behind what is settled at its tick without it: what is settled further there with the finish,
-- or the line that refuses it
abbrev pub done_lines : Session → (at number : ℕ) → List (List ℕ)
done_lines S at number = elim (finish_at (instance_of S) at number) [
  | None ↦ refused_text (record { at = at; line = RefusedDone at number }) ∷ []
  | Some f ↦ map text_of (drop (length (settled (instance_of S) at))
      (settled (with_finishes (instance_of S) (f.finish ∷ [])) at))
]

-- The server serves the session without its last item, the done line, and these lines are left: what is settled at the
-- line's tick without it, and what it adds.
pub record Finishing (at number : ℕ) (server : ReadyServer) (a : Account)
    (rest : List (List ℕ)) : Type 0 where
  pub session : Session
  pub there : a.session ≡ Some (with_item session (done_item session at number))
  pub reached : reach a ≡ Mark at
  pub valid : IsValid (instance_of session)
  pub numerals : AreShort (at ∷ at ∷ number ∷ [])
  pub from : Horizon
  pub follows : MayFollow from (Mark at)
  pub events : List Event
  pub served : Serves server (instance_of session) from events
  pub left : List Event
  pub due : settled (instance_of session) at ≡ events ++ left
  pub texts : rest ≡ map text_of left ++ done_lines session at number

-- what the work under way still gives
abbrev pub Owes : Work → Option ReadyServer → Account → List (List ℕ) → Type 0
Owes Nothing server a rest = (rest ≡ []) × Fits a server
Owes (Give out) server a rest = (rest ≡ out_text out ∷ []) × Fits a server × HasNumerals out
Owes (Run to) None a rest = ⊥
Owes (Run to) (Some server) a rest = Running to server a rest
Owes (Admit job) None a rest = ⊥
Owes (Admit job) (Some server) a rest = Admitting job server a rest
Owes (Finish at number) None a rest = ⊥
Owes (Finish at number) (Some server) a rest = Finishing at number server a rest

-- a line that refuses the feed, and is left to give, names its fault
abbrev pub GivesFault : Work → List (List ℕ) → Type 0
GivesFault (Give out) ls = NamesFault out ls
GivesFault _ ls = Unit {0}

-- ---- a lane

-- the intake stands for the lines; where a job is still to be admitted, for the session before it
abbrev pub IntakeStands : Work → feed.Kept → List (List ℕ) → Type 0
IntakeStands (Admit job) intake ls = (S : Session)
    → (account_of_lines ls).session ≡ Some (with_item S (offered_item S job))
    → feed.KeepsAccount intake (record (account_of_lines ls) { session = Some S })
IntakeStands _ intake ls = feed.StandsFor intake ls

-- the work that follows what a line said: where that is a job, to admit it, and else none of the kind
abbrev pub TurnsTo : Fed → Work → Type 0
TurnsTo (fed.Job number job) work = work ≡ Admit job
TurnsTo _ work = (job : JobFacts) → work ≡ Admit job → ⊥

-- The lane was handed these lines, and these are left to give.
pub record Stands (lane : Lane) (ls rest : List (List ℕ))
    : Type 0 where
  pub intake : IntakeStands lane.work lane.intake ls
  pub opened : lane.is_open ≡ is_open (account_of_lines ls)
  pub unended : lane.is_open ≡ true → feed.has_ended lane.intake ≡ false
  pub marked : lane.mark ≡ (account_of_lines ls).mark
  pub owes : Owes lane.work lane.server (account_of_lines ls) rest
  pub names : GivesFault lane.work ls

-- it was handed these lines, and all that is due for them was given
pub record IsQuiet (lane : Lane) (ls : List (List ℕ)) : Type 0
  where
    pub stands : Stands lane ls []
    pub quiet : lane.work ≡ Nothing

-- it gives the first of the lines that are left, if one is
abbrev pub Gives : Option DueLine → Lane → List (List ℕ) → List (List ℕ)
    → Type 0
Gives None lane ls rest = (rest ≡ []) × IsQuiet lane ls
Gives (Some out) lane ls rest = (more : List (List ℕ)) × (rest ≡ out_text out ∷ more)
    × Stands lane ls more × HasNumerals out × NamesFault out ls

-- the account goes on, and the lane's server has taken its session to its mark
pub record IsOpenAt (lane : Lane) (a : Account) : Type 0 where
  pub opened : lane.is_open ≡ true
  pub kept : IsKept a
  pub stands : a.standing ≡ Open
  pub fits : Fits a lane.server
  pub marked : lane.mark ≡ a.mark

-- what is due for b beyond a is left to give
pub record Adds (lane : Lane) (a b : Account) : Type 0 where
  pub opened : lane.is_open ≡ is_open b
  pub rest : List (List ℕ)
  pub due : due_lines b ≡ due_lines a ++ rest
  pub marked : lane.mark ≡ b.mark
  pub owes : Owes lane.work lane.server b rest
  pub names : (ls : List (List ℕ)) → GivesFault lane.work ls
