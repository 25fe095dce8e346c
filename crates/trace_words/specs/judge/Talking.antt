-- What is kept of a text that is judged, and the last word on it.
use Rattle.std.specs.Prelude.{◌≡◌, ℕ, List, Bool}
use Rattle.dover_model.specs.Common.{Session, CostsAtMost, Accepted, verdict, refused_count}
use Rattle.trace_judge.specs.Judging.{Judged, StandsFor, HasPaidFor, Tells, jobs_named, keeps, steps_told}
use Rattle.trace_judge.specs.declared.judge.Closed.{Closed}

-- the comparisons from `start` on are few for the jobs that the lines of the bytes name
abbrev pub Costs : (start steps : ℕ) → List ℕ → Type 0
Costs start steps bytes = CostsAtMost (jobs_named bytes) start steps

-- what a call is about: what tells the end, and the comparisons from which those of the call count
pub record Call (T : Type 0) : Type 0 where
  pub teller : T
  pub start : ℕ

-- this tells the end; the judge stands for the bytes, what it cost is paid for by them, and it keeps the steps or
-- doesn't
pub record IsReady {T : Type 0} (keep : Bool) (call : Call T) (given : T) (judge : Judged) (steps : ℕ)
    (bytes : List ℕ) : Type 0 where
  pub teller : given ≡ call.teller
  pub stands : StandsFor judge bytes
  pub paid : HasPaidFor judge bytes call.start steps
  pub keep_is : keeps judge ≡ keep

-- the judge's last word on the text: its verdict, the steps of its run if they were kept, and how many refused lines it
-- has
pub record IsClosed (keep : Bool) (closed : Closed) (text : List ℕ) : Type 0 where
  pub tells : Tells closed.verdict text
  pub steps : closed.steps.items ≡ steps_told keep (verdict text)
  pub refused : (S : Session) → verdict text ≡ Accepted S → closed.refused ≡ refused_count S
