-- Items of a session, one after another.
use Rattle.std.proofs.Common.{ℕ, max, List, ◌∷◌, ◌++◌, sym, subst, ◌≡◌, ◌≤◌, ap, arith, [], append_assoc, append-nil}
use Rattle.dover_model.specs.Common.{Declaration, IsValid, Item, JobItem, RefusedItem, FinishItem, mark_after}
use Rattle.dover_model.specs.Common.{instance_of, Session, IsValidSession, session_with}
use Rattle.dover_model.proofs.sessions.Walks.{tick_of_item, Takes, takes, follows_next, jobs_append}
use Rattle.dover_model.proofs.sessions.Growing.{Reads, reads_new}
use Rattle.dover_model.proofs.sessions.SessionParts.{FollowsItems, session_parts, session_jobs}
use Rattle.dover_model.proofs.valid.ValidParts.{valid_parts}

-- and the other way round
pub behind_follows : (rules : Declaration) (before : List Item) (mark : ℕ) (items more : List Item)
    → FollowsItems rules before mark (items ++ more)
    → FollowsItems rules (before ++ items) (mark_after mark items) more
behind_follows rules before mark [] more follows =
    subst (λ is. FollowsItems rules is mark more) (sym (append-nil before)) follows
behind_follows rules before mark (JobItem j ∷ items) more follows =
    subst (λ is. FollowsItems rules is (mark_after (max mark j.release) items) more)
    (append_assoc before (JobItem j ∷ []) items)
    (behind_follows rules (before ++ JobItem j ∷ []) (max mark j.release) items more follows.1)
behind_follows rules before mark (RefusedItem r ∷ items) more follows =
    subst (λ is. FollowsItems rules is (mark_after (max mark r.at) items) more)
    (append_assoc before (RefusedItem r ∷ []) items)
    (behind_follows rules (before ++ RefusedItem r ∷ []) (max mark r.at) items more follows.1)
behind_follows rules before mark (FinishItem f ∷ items) more follows =
    subst (λ is. FollowsItems rules is (mark_after (max mark f.at) items) more)
    (append_assoc before (FinishItem f ∷ []) items)
    (behind_follows rules (before ++ FinishItem f ∷ []) (max mark f.at) items more follows.1)

-- the greater of two ordered ticks
later : (mark t : ℕ) → mark ≤ t → max mark t ≡ t
later mark t ordered = omega arith

-- the mark after a first item that may follow
pub mark_next : (rules : Declaration) (before : List Item) (mark : ℕ) (x : Item) (more : List Item)
    → FollowsItems rules before mark (x ∷ more)
    → mark_after (tick_of_item x) more ≡ mark_after mark (x ∷ more)
mark_next rules before mark (JobItem j) more follows =
    ap (λ m. mark_after m more) (sym (later mark j.release follows.0.no_fall))
mark_next rules before mark (RefusedItem r) more follows =
    ap (λ m. mark_after m more) (sym (later mark r.at follows.0.no_fall))
mark_next rules before mark (FinishItem f) more follows =
    ap (λ m. mark_after m more) (sym (later mark f.at follows.0.no_fall))

-- a valid session is read up to its mark, item by item
reads_items : (rules : Declaration) (more items : List Item) (mark : ℕ) → Reads (session_with rules items) mark
    → FollowsItems rules items mark more → IsValid (instance_of (session_with rules (items ++ more)))
    → Reads (session_with rules (items ++ more)) (mark_after mark more)
reads_items rules [] items mark reads follows valid =
    subst (λ xs. Reads (session_with rules xs) mark) (sym (append-nil items)) reads
reads_items rules (x ∷ more) items mark reads follows valid =
    let one : Takes (session_with rules items) x =
    takes rules items mark reads x more follows (jobs_append rules items (x ∷ more) valid) in
    let same : (items ++ x ∷ []) ++ more ≡ items ++ (x ∷ more) = append_assoc items (x ∷ []) more in
    subst (Reads (session_with rules (items ++ (x ∷ more)))) (mark_next rules items mark x more follows)
    (subst (λ xs. Reads (session_with rules xs) (mark_after (tick_of_item x) more)) same
    (reads_items rules more (items ++ x ∷ []) (tick_of_item x) one.reads (follows_next rules items mark x more follows)
    (subst (λ xs. IsValid (instance_of (session_with rules xs))) (sym same) valid)))

-- a valid session is read up to its mark
pub reads_mark : (S : Session) → IsValidSession S → Reads S (mark_after 0 S.items)
reads_mark S valid = reads_items S.rules S.items [] 0 (reads_new S.rules (valid_parts (session_jobs valid)).ratio)
    (session_parts valid).items (session_jobs valid)
