-- A feed that is paused, and the lines of its snapshot.
use Rattle.std.specs.Prelude.{◌≡◌, ℕ, List, [], ◌∷◌, ◌++◌, ◌-◌, max, take, drop, length, map, Bool, true, false}
use Rattle.std.specs.Prelude.{Some, codes, if◌then◌else◌}
use Rattle.dover_model.specs.Common.{account, Declaration, Session, instance_of, settled}
use Rattle.dover_model.specs.declared.events.Task.{Task}
use Rattle.snapshot.specs.Snapshot.{MayPause, head_line, state_line, done_line}
use Rattle.ready_server.specs.declared.roster.ListedFinish.{ListedFinish}
use Rattle.ready_server.specs.Roster.{Roll, Kept, job_at}
use Rattle.ready_server.specs.Rostering.{Serves}
use Rattle.ready_server.specs.declared.server.ReadyServer.{ReadyServer}

-- the feed may pause, has so many lines and this mark, and the server has taken the run of its jobs up to there, which
-- the roster has read
pub record IsTakenTo (s : ReadyServer) (k : Kept) (lines mark : ℕ) (F : List ℕ) : Type 0 where
  pub may : MayPause F
  pub lines_are : lines ≡ (account F).lines
  pub mark_is : mark ≡ (account F).mark
  pub session : Session
  pub named : (account F).session ≡ Some session
  pub served : Serves s k (instance_of session) mark (settled (instance_of session) mark)

-- the lines of these early finishes and of these jobs, the first of this number, where each finish stands behind as
-- many jobs as it came
abbrev pub merged : ℕ → List ListedFinish → List Task → List (List ℕ)
merged n [] tasks = map state_line tasks
merged n (f ∷ finishes) tasks = map state_line (take (f.behind - n) tasks)
    ++ done_line f.at f.number ∷ merged (max n f.behind) finishes (drop (f.behind - n) tasks)

-- the lines of a snapshot behind the first, from the job and the early finish of these numbers on
abbrev pub lines_from : Roll → (mark job finish : ℕ) → List (List ℕ)
lines_from p mark job finish = merged job (drop finish p.finishes) (drop job (map (job_at p mark) p.jobs))

-- the first line of a snapshot, of what a roster has at a mark
abbrev pub first_line : Roll → Declaration → (lines mark : ℕ) → List ℕ
first_line p rules lines mark =
    head_line (record { rules = rules; lines = lines; mark = mark; jobs = length p.jobs })

-- the lines that are still to write, of which the first is written or not, and the last is or isn't
abbrev pub lines_left : (begun over : Bool) → Roll → Declaration → (lines mark job finish : ℕ) → List (List ℕ)
lines_left begun over p rules lines mark job finish = if over then [] else
    ((if begun then [] else first_line p rules lines mark ∷ []) ++ lines_from p mark job finish ++ codes "resume" ∷ [])

-- the next of these lines is written with its line feed, if there is one more
abbrev pub Writes : (old new : List (List ℕ)) → List ℕ → Bool → Type 0
Writes old new text true = (line : List ℕ) × (old ≡ line ∷ new) × (text ≡ line ++ 10 ∷ [])
Writes old new text false = (old ≡ []) × (new ≡ [])
