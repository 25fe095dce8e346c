-- A session is never full where it is valid, and where few jobs are admitted.
use Rattle.std.proofs.Common.{◌≡◌, ℕ, ◌≤◌, List, [], ◌∷◌, ◌++◌, length, sym, ap, ◌∙◌, subst, false, arith}
use Rattle.std.proofs.Common.{append_assoc, append-nil, length-append}
use Rattle.std.proofs.lemmas.List.Elements.{filter_map-append}
use Rattle.dover_model.specs.Common.{most_ready, most_jobs, Version, Three, JobFacts, Declaration, IsValid}
use Rattle.dover_model.specs.Common.{Item, JobItem, Session, session_with, instance_of}
use Rattle.dover_model.specs.Common.{job_of_item, admitted_jobs, may_finish_early, is_full, IsNeverFull, IsValidSession}
use Rattle.dover_model.proofs.lists.Members.{heads, tails}
use Rattle.dover_model.proofs.sessions.Fullness.{few_ready}
use Rattle.dover_model.proofs.lists.Tests.{never}
use Rattle.dover_model.proofs.sessions.SessionParts.{FollowsItems, session_parts}
use Rattle.dover_model.proofs.valid.ValidParts.{valid_parts}
use Rattle.dover_model.specs.declared.events.Version.TheVariants.{Four}

module _ (rules : Declaration) where
  -- what follows behind the first item
  tail_follows : (before : List Item) (mark : ℕ) (i : Item) (items : List Item)
      → FollowsItems rules before mark (i ∷ items)
      → (m : ℕ) × FollowsItems rules (before ++ i ∷ []) m items
  tail_follows before mark (JobItem j) items follows = (_, follows.1)
  tail_follows before mark _ items follows = (_, follows.1)

  -- no job among items that follow each other finds it full
  follow_never : (items before : List Item) (mark : ℕ) → FollowsItems rules before mark items
      → (front : List Item) (j : JobFacts) (back : List Item) → items ≡ front ++ JobItem j ∷ back
      → is_full (instance_of (session_with rules (before ++ front))) j.release ≡ false
  follow_never [] before mark follows [] j back is = absurd (cc)
  follow_never [] before mark follows (f ∷ front) j back is = absurd (cc)
  follow_never (i ∷ items) before mark follows [] j back is =
      ap (λ is. is_full (instance_of (session_with rules is)) j.release) (append-nil before)
      ∙ (subst (λ x. FollowsItems rules before mark (x ∷ items)) (heads i (JobItem j) items back is) follows).0.room
  follow_never (i ∷ items) before mark follows (f ∷ front) j back is =
      let first : i ≡ f = heads i f items (front ++ JobItem j ∷ back) is in
      let rest = tail_follows before mark i items follows in
      ap (λ is. is_full (instance_of (session_with rules is)) j.release)
      (ap (λ x. before ++ x ∷ front) (sym first) ∙ sym (append_assoc before (i ∷ []) front))
      ∙ follow_never items (before ++ i ∷ []) rest.0 rest.1 front j back
      (tails i f items (front ++ JobItem j ∷ back) is)

-- a valid session is never full
pub valid_never : (S : Session) → IsValidSession S → IsNeverFull S
valid_never S valid = follow_never S.rules S.items [] 0 (session_parts valid).items

-- nor is one of no more jobs than may be ready at once
pub few_never : (S : Session) → length (admitted_jobs S.items) ≤ most_ready → IsNeverFull S
few_never S few front j back is = few_ready (instance_of (session_with S.rules front)) j.release (omega (
  arith,
  few,
  ap (λ items. length (admitted_jobs items)) is,
  ap length (filter_map-append job_of_item front (JobItem j ∷ back)),
  length-append (admitted_jobs front) (j ∷ admitted_jobs back),
))

-- so none of versions One and Two is
pub former_never : (S : Session) → may_finish_early S.rules.version ≡ false → IsValid (instance_of S) → IsNeverFull S
former_never S former valid = few_never S (by_version S.rules.version former (valid_parts valid).count) where
  by_version : (v : Version) → may_finish_early v ≡ false → length (admitted_jobs S.items) ≤ most_jobs v
      → length (admitted_jobs S.items) ≤ most_ready
  by_version Three former few = never (sym former)
  by_version Four former few = never (sym former)
  by_version _ former few = few
