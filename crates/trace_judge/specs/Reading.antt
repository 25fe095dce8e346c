-- What the lines of a trace so far have come to, and which line may come next.
use Rattle.std.specs.Prelude.{◌≡◌, ◌≤◌, ◌<◌, ◌+◌, ℕ, List, length, false, Some, None, IsTrue}
use Rattle.std.specs.List.{AllByRecursion}
use Rattle.dover_model.specs.Common.{State, opening, is_coming, Step, printed_of, Each, settled, Session, instance_of}
use Rattle.dover_model.specs.Common.{admitted_jobs, IsValidSession, mark_after, Refused, may_be_refused, EarlyFinish}
use Rattle.dover_model.specs.Common.{is_full, places_of, texts_among, named_session, Leads, WaitsUntil, most_items}
use Rattle.dover_model.specs.Common.{JobFacts, refusal_of, text_of, refused_text}
use Rattle.dover_model.specs.Session.{may_finish}
use Rattle.dover_model.specs.declared.events.Event.TheVariants.{Release, Complete}

-- The lines begin the trace of the valid session that they name. The steps printed among them lead to the state z, in
-- which no job is to come.
-- They are settled at each tick from the floor on, and at no tick below it at which an item could come.
pub record Sees (ls : List (List ℕ)) (S : Session) (floor : ℕ) (z : State) : Type 0 where
  pub valid : IsValidSession S
  pub named : named_session ls ≡ Some S
  pub steps : List Step
  pub leads : Leads (instance_of S).rules floor (opening (admitted_jobs S.items)) steps z
  pub lines : ls ≡ texts_among S (printed_of steps)
  pub within : AllByRecursion (λ p. p.place ≤ 0 + length (printed_of steps)) (places_of S)
  pub released : Each (λ t. is_coming t ≡ false) z.tasks
  pub clock : z.clock ≤ floor
  pub mark : mark_after 0 S.items ≤ floor
  pub tight : (t : ℕ) → mark_after 0 S.items ≤ t → t < floor
      → length (settled (instance_of S) t) < length (printed_of steps)

-- the session may have one item more
abbrev pub HasRoom : Session → Type 0
HasRoom S = length S.items < most_items S.rules.version

-- the release of the job may come next, and the silent steps before it lead to z
pub record MayRelease (S : Session) (floor : ℕ) (s : State) (j : JobFacts) (z : State) : Type 0 where
  pub room : HasRoom S
  pub admitted : refusal_of S.rules (admitted_jobs S.items) j ≡ None
  pub not_full : is_full (instance_of S) j.release ≡ false
  pub no_fall : floor ≤ j.release
  pub waits : WaitsUntil (instance_of S).rules j.release s z

-- the refused line may come next, and the silent steps before it lead to z
pub record MayRefuse (S : Session) (floor : ℕ) (s : State) (r : Refused) (z : State) : Type 0 where
  pub room : HasRoom S
  pub refused : IsTrue (may_be_refused S floor r)
  pub waits : WaitsUntil (instance_of S).rules r.at s z

-- the early completion may come next, and the silent steps before it lead to z
pub record MayComplete (S : Session) (floor : ℕ) (s : State) (f : EarlyFinish) (z : State) : Type 0 where
  pub room : HasRoom S
  pub finishes : IsTrue (may_finish S floor f)
  pub waits : WaitsUntil (instance_of S).rules f.at s z

-- the text of the completion of a job that finishes early
abbrev pub completion_text : EarlyFinish → List ℕ
completion_text f = text_of (Complete f.at f.finish.number)

-- the text of the release of the session's next job
abbrev pub release_text : Session → JobFacts → List ℕ
release_text S j = text_of (Release (length (admitted_jobs S.items)) j)

-- the line is the text of the release of a job that may come next
abbrev pub IsReleaseNext : Session → ℕ → State → List ℕ → Type 0
IsReleaseNext S floor s line = (j : JobFacts) × (line ≡ release_text S j) × (z : State) × MayRelease S floor s j z

-- the line is the text of a refused line that may come next
abbrev pub IsRefusedNext : Session → ℕ → State → List ℕ → Type 0
IsRefusedNext S floor s line = (r : Refused) × (line ≡ refused_text r) × (z : State) × MayRefuse S floor s r z

-- the line is the text of an early completion that may come next
abbrev pub IsCompletionNext : Session → ℕ → State → List ℕ → Type 0
IsCompletionNext S floor s line =
    (f : EarlyFinish) × (line ≡ completion_text f) × (z : State) × MayComplete S floor s f z
