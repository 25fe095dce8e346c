-- Sessions of versions One and Two are what they were before version Three.
use Rattle.std.proofs.Common.{◌≡◌, ℕ, ◌≤◌, max, List, [], ◌∷◌, ◌++◌, refl, sym, ap, ◌∙◌, Bool, true, false, cond, Some}
use Rattle.std.proofs.Common.{None, nat_lt, ltb-false}
use Rattle.dover_model.specs.Common.{Version, Three, Refusal, JobFacts, Declaration, refusal_of, Item}
use Rattle.dover_model.specs.Common.{JobItem, RefusedItem, FinishItem, Session, instance_of, session_with}
use Rattle.dover_model.specs.Common.{admitted_jobs, early_finishes, may_finish_early, late_refusal, finish_at, early_at}
use Rattle.dover_model.specs.Common.{RefusedLine, RefusedJob, RefusedDone, Refused, IsValidSession, refusal_in}
use Rattle.dover_model.proofs.sessions.Fullness.{refused_alone}
use Rattle.dover_model.proofs.lists.Tests.{never, none_is_some}
use Rattle.dover_model.proofs.sessions.SessionParts.{MayRefuse, MayBeRefused, FollowsItems, session_parts}
use Rattle.dover_model.specs.declared.events.Version.TheVariants.{Four}

-- no finish is right
none_right : (S : Session) (t n : ℕ) → may_finish_early S.rules.version ≡ false → early_at S t n ≡ None
none_right S t n former = ap (λ b. cond b (finish_at (instance_of S) t n) None) former

-- so none stands among the items
pub none_early : (rules : Declaration) (before : List Item) (mark : ℕ) (items : List Item)
    → may_finish_early rules.version ≡ false → FollowsItems rules before mark items → early_finishes items ≡ []
none_early rules before mark [] former follows = refl
none_early rules before mark (JobItem j ∷ items) former follows =
    none_early rules (before ++ JobItem j ∷ []) (max mark j.release) items former follows.1
none_early rules before mark (RefusedItem r ∷ items) former follows =
    none_early rules (before ++ RefusedItem r ∷ []) (max mark r.at) items former follows.1
none_early rules before mark (FinishItem f ∷ items) former follows =
    none_is_some (sym (none_right (session_with rules before) f.at f.finish.number former) ∙ follows.0.right)

pub no_finishes : (S : Session) → may_finish_early S.rules.version ≡ false → IsValidSession S
    → early_finishes S.items ≡ []
no_finishes S former valid = none_early S.rules [] 0 S.items former (session_parts valid).items

-- no late job line is refused alone
pub late_none : (v : Version) → may_finish_early v ≡ false → late_refusal v ≡ None
late_none Three former = never (sym former)
late_none Four former = never (sym former)
late_none _ former = refl

-- a refused line is a job line that isn't late, with the cause for which it isn't admitted
pub job_refused : (S : Session) (mark : ℕ) (r : Refused) → may_finish_early S.rules.version ≡ false
    → MayBeRefused S mark r
    → (j : JobFacts) × (refusal : Refusal) × (r.line ≡ RefusedJob j refusal) × (r.at ≤ j.release)
    × (refusal_of S.rules (admitted_jobs S.items) j ≡ Some refusal)
job_refused S mark r former may = by_line r.line refl may.line where
  by_line : (line : RefusedLine) → r.line ≡ line → MayRefuse S r.at line
      → (j : JobFacts) × (refusal : Refusal) × (r.line ≡ RefusedJob j refusal) × (r.at ≤ j.release)
      × (refusal_of S.rules (admitted_jobs S.items) j ≡ Some refusal)
  by_line (RefusedDone tick number) is done = never (sym former ∙ done.version)
  by_line (RefusedJob j refusal) is job = by_order (nat_lt j.release r.at) refl job.cause where
    by_order : (b : Bool) → nat_lt j.release r.at ≡ b
        → cond b (late_refusal S.rules.version) (refusal_in S j) ≡ Some refusal
        → (j : JobFacts) × (refusal : Refusal) × (r.line ≡ RefusedJob j refusal) × (r.at ≤ j.release)
        × (refusal_of S.rules (admitted_jobs S.items) j ≡ Some refusal)
    by_order true late cause = none_is_some (sym (late_none S.rules.version former) ∙ cause)
    by_order false ordered cause = (j, refusal, is, ltb-false _ _ ordered, refused_alone S j refusal former cause)
