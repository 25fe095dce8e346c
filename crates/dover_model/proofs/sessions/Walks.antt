-- A valid session, item by item: each prefix of its items is a session whose lines begin its trace.
use Rattle.std.proofs.Common.{◌≡◌, ℕ, ◌≤◌, ◌⊎◌, inl, inr, max, List, [], ◌∷◌, ◌++◌, length, length-append, refl, sym}
use Rattle.std.proofs.Common.{ap, ◌∙◌, subst, arith, Option, Some, None, fold, append_assoc, append-nil}
use Rattle.std.proofs.lemmas.List.Sums.{fold-append}
use Rattle.std.proofs.lemmas.List.Elements.{filter_map-append}
use Rattle.dover_model.specs.Common.{Release, Complete, Declaration, IsValid, with_jobs, Item, JobItem, RefusedItem}
use Rattle.dover_model.specs.Common.{Session, instance_of, admitted_jobs, job_of_item, with_named, FinishItem}
use Rattle.dover_model.specs.Common.{early_finishes, session_with, with_item, new_session, IsValidSession, TraceLine}
use Rattle.dover_model.specs.Common.{Printed, Refuses, Begins}
use Rattle.dover_model.proofs.valid.Valid.{valid_front}
use Rattle.dover_model.proofs.lists.Beginnings.{begins_itself, begins_onward, begins_all, begins_either}
use Rattle.dover_model.proofs.sessions.Growing.{Reads, lines_at, all_lines, reads_new, reads_later, lines_later}
use Rattle.dover_model.proofs.sessions.Growing.{lines_of_trace, reads_job, lines_job, reads_refused, lines_refused}
use Rattle.dover_model.proofs.sessions.Growing.{instance_with, LinesName, trace_names, item_in, with_line_named}
use Rattle.dover_model.proofs.sessions.Growing.{one_named, Finishes, finishing_job, reads_finish, lines_finish}
use Rattle.dover_model.proofs.sessions.Growing.{finish_is_named}
use Rattle.dover_model.proofs.finishes.Meeting.{finishing_valid}
use Rattle.dover_model.proofs.sessions.SessionParts.{FollowsItems, SessionParts, session_parts, session_from}
use Rattle.dover_model.proofs.sessions.SessionParts.{session_jobs}
use Rattle.dover_model.proofs.valid.ValidParts.{valid_parts}

-- the tick at which an item comes
abbrev pub tick_of_item : Item → ℕ
tick_of_item (JobItem j) = j.release
tick_of_item (RefusedItem r) = r.at
tick_of_item (FinishItem f) = f.at

-- the session with one item more is read, and the lines before it and its own begin its lines
pub record Takes (S : Session) (x : Item) : Type 0 where
  pub line : TraceLine
  pub names : item_in S line ≡ Some x
  pub before : Reads S (tick_of_item x)
  pub reads : Reads (with_item S x) (tick_of_item x)
  pub begins : Begins (lines_at S (tick_of_item x) ++ line ∷ []) (lines_at (with_item S x) (tick_of_item x))

module _ (rules : Declaration) (items : List Item) (mark : ℕ) (reads : Reads (session_with rules items) mark) where
  -- a session takes an item that may follow, where its jobs stay valid
  pub takes : (x : Item) (more : List Item) → FollowsItems rules items mark (x ∷ more)
      → IsValid (instance_with rules (admitted_jobs items ++ admitted_jobs (x ∷ more)))
      → Takes (session_with rules items) x
  takes (JobItem j) more follows valid =
      let before : Reads (session_with rules items) j.release =
      reads_later (session_with rules items) mark j.release reads follows.0.no_fall in
      let valid_more : IsValid (with_jobs (instance_of (session_with rules items)) (j ∷ [])) =
      finishing_valid (with_jobs (instance_with rules (admitted_jobs items)) (j ∷ [])) (early_finishes items)
      (valid_front (with_jobs (instance_with rules (admitted_jobs items)) (j ∷ [])) (admitted_jobs more)
      (subst (λ jobs. IsValid (instance_with rules jobs))
      (sym (append_assoc (admitted_jobs items) (j ∷ []) (admitted_jobs more))) valid)) in
      record {
        line = Printed (Release (length (admitted_jobs items)) j);
        names = refl;
        before = before;
        reads =
            reads_job (session_with rules items) j before valid_more;
        begins = lines_job (session_with rules items) j before valid_more;
      }
  takes (RefusedItem r) more follows valid =
      let before : Reads (session_with rules items) r.at =
      reads_later (session_with rules items) mark r.at reads follows.0.no_fall in
      record {
        line = Refuses r;
        names = refl;
        before = before;
        reads = reads_refused (session_with rules items) r before;
        begins = subst (Begins (lines_at (session_with rules items) r.at ++ Refuses r ∷ []))
            (sym (lines_refused (session_with rules items) r before))
            (begins_itself (lines_at (session_with rules items) r.at ++ Refuses r ∷ []));
      }
  takes (FinishItem f) more follows valid =
      let before : Reads (session_with rules items) f.at =
      reads_later (session_with rules items) mark f.at reads follows.0.no_fall in
      let it : Finishes (session_with rules items) f =
      finishing_job (session_with rules items) f follows.0.right in
      record {
        line = Printed (Complete f.at it.job.number);
        names = finish_is_named (session_with rules items) f before it;
        before = before;
        reads = reads_finish (session_with rules items) f before it;
        begins = lines_finish (session_with rules items) f before it;
      }

-- the later of a mark and a tick that isn't before it
later_one : (mark t : ℕ) → mark ≤ t → max mark t ≡ t
later_one mark t ordered = omega arith

-- the items behind a first one follow it
pub follows_next : (rules : Declaration) (items : List Item) (mark : ℕ) (x : Item) (more : List Item)
    → FollowsItems rules items mark (x ∷ more)
    → FollowsItems rules (items ++ x ∷ []) (tick_of_item x) more
follows_next rules items mark (JobItem j) more follows =
    subst (λ m. FollowsItems rules (items ++ JobItem j ∷ []) m more) (later_one mark j.release follows.0.no_fall)
    follows.1
follows_next rules items mark (RefusedItem r) more follows =
    subst (λ m. FollowsItems rules (items ++ RefusedItem r ∷ []) m more) (later_one mark r.at follows.0.no_fall)
    follows.1
follows_next rules items mark (FinishItem f) more follows =
    subst (λ m. FollowsItems rules (items ++ FinishItem f ∷ []) m more)
    (later_one mark f.at follows.0.no_fall) follows.1

-- an item comes no sooner than the mark
tick_later : (rules : Declaration) (before : List Item) (mark : ℕ) (x : Item) (more : List Item)
    → FollowsItems rules before mark (x ∷ more)
    → mark ≤ tick_of_item x
tick_later rules before mark (JobItem j) more follows = follows.0.no_fall
tick_later rules before mark _ more follows = follows.0.no_fall

-- the jobs of items and of further items
pub jobs_append : (rules : Declaration) (items more : List Item)
    → IsValid (instance_of (session_with rules (items ++ more)))
    → IsValid (instance_with rules (admitted_jobs items ++ admitted_jobs more))
jobs_append rules items more valid =
    subst (λ jobs. IsValid (instance_with rules jobs)) (filter_map-append job_of_item items more)
    (finishing_valid (instance_of (session_with rules (items ++ more))) [] valid)

-- a session that has gone on by some items: it is read up to a mark, its lines begin with the earlier ones, and the
-- rest may follow
pub record WalksTo (rules : Declaration) (items : List Item) (mark : ℕ) (more rest : List Item) : Type 0 where
  pub later : ℕ
  pub reads : Reads (session_with rules (items ++ more)) later
  pub begins : Begins (lines_at (session_with rules items) mark) (lines_at (session_with rules (items ++ more)) later)
  pub follows : FollowsItems rules (items ++ more) later rest

-- a valid session goes on by its items
pub walks : (rules : Declaration) (more items rest : List Item) (mark : ℕ) → Reads (session_with rules items) mark
    → FollowsItems rules items mark (more ++ rest)
    → IsValid (instance_of (session_with rules (items ++ (more ++ rest)))) → WalksTo rules items mark more rest
walks rules [] items rest mark reads follows valid =
    let all : List Item = items ++ [] in
    let same : items ≡ items ++ [] = sym (append-nil items) in
    record {
      later = mark;
      reads = subst (λ xs. Reads (session_with rules xs) mark) same reads;
      begins = subst (λ xs. Begins (lines_at (session_with rules items) mark) (lines_at (session_with rules xs) mark))
          same
          (begins_itself (lines_at (session_with rules items) mark));
      follows = subst (λ xs. FollowsItems rules xs mark rest) same follows;
    }
walks rules (x ∷ more) items rest mark reads follows valid =
    let one : Takes (session_with rules items) x =
    takes rules items mark reads x (more ++ rest) follows (jobs_append rules items (x ∷ (more ++ rest)) valid) in
    let it : WalksTo rules (items ++ x ∷ []) (tick_of_item x) more rest =
    walks rules more (items ++ x ∷ []) rest (tick_of_item x) one.reads
    (follows_next rules items mark x (more ++ rest) follows)
    (subst (λ xs. IsValid (instance_of (session_with rules xs)))
    (sym (append_assoc items (x ∷ []) (more ++ rest))) valid) in
    let same : (items ++ x ∷ []) ++ more ≡ items ++ (x ∷ more) = append_assoc items (x ∷ []) more in
    let here : Begins (lines_at (session_with rules items) mark)
    (lines_at (session_with rules items) (tick_of_item x)) =
    lines_later (session_with rules items) mark (tick_of_item x) reads
    (tick_later rules items mark x (more ++ rest) follows) in
    let next : Begins (lines_at (session_with rules items) (tick_of_item x))
    (lines_at (session_with rules (items ++ x ∷ [])) (tick_of_item x)) =
    begins_onward _ (lines_at (session_with rules items) (tick_of_item x) ++ one.line ∷ []) _
    (begins_all (lines_at (session_with rules items) (tick_of_item x)) (one.line ∷ [])) one.begins in
    record {
      later = it.later;
      reads = subst (λ xs. Reads (session_with rules xs) it.later) same it.reads;
      begins = subst (λ xs. Begins (lines_at (session_with rules items) mark)
          (lines_at (session_with rules xs) it.later)) same
          (begins_onward _ (lines_at (session_with rules items) (tick_of_item x)) _ here
          (begins_onward _ (lines_at (session_with rules (items ++ x ∷ [])) (tick_of_item x)) _ next it.begins));
      follows = subst (λ xs. FollowsItems rules xs it.later rest) same it.follows;
    }

-- ---- valid sessions

-- a valid session is read up to some mark
pub session_reads : (S : Session) → IsValidSession S → (mark : ℕ) × Reads S mark
session_reads S valid =
    let start : Reads (new_session S.rules) 0 = reads_new S.rules (valid_parts (session_jobs valid)).ratio in
    let follows : FollowsItems S.rules [] 0 (S.items ++ []) =
    subst (FollowsItems S.rules [] 0) (sym (append-nil S.items)) (session_parts valid).items in
    let it : WalksTo S.rules [] 0 S.items [] =
    walks S.rules S.items [] [] 0 start follows
    (subst (λ xs. IsValid (instance_of (session_with S.rules xs))) (sym (append-nil S.items))
    (session_jobs valid)) in
    (it.later, it.reads)

-- the lines of a valid session's trace name it
pub session_names : (S : Session) → IsValidSession S → LinesName (all_lines S) S
session_names S valid = let it : (mark : ℕ) × Reads S mark = session_reads S valid in trace_names S it.0 it.1

-- the first items may stand without the others
pub follows_front : (rules : Declaration) (before : List Item) (mark : ℕ) (items more : List Item)
    → FollowsItems rules before mark (items ++ more)
    → FollowsItems rules before mark items
follows_front rules before mark [] more follows = tt
follows_front rules before mark (JobItem j ∷ items) more follows =
    (follows.0, follows_front rules (before ++ JobItem j ∷ []) (max mark j.release) items more follows.1)
follows_front rules before mark (RefusedItem r ∷ items) more follows =
    (follows.0, follows_front rules (before ++ RefusedItem r ∷ []) (max mark r.at) items more follows.1)
follows_front rules before mark (FinishItem f ∷ items) more follows =
    (follows.0, follows_front rules (before ++ FinishItem f ∷ []) (max mark f.at) items more follows.1)

-- the session of the first items of a valid one is valid
pub session_front : (rules : Declaration) (items more : List Item) → IsValidSession (session_with rules (items ++ more))
    → IsValidSession (session_with rules items)
session_front rules items more valid = session_from (record {
  declared = parts.declared;
  jobs = finishing_valid (instance_with rules (admitted_jobs items)) (early_finishes items)
      (valid_front (instance_with rules (admitted_jobs items)) (admitted_jobs more)
      (jobs_append rules items more parts.jobs));
  count = omega (arith, parts.count, length-append items more);
  items = follows_front rules [] 0 items more parts.items;
}) where
  parts : SessionParts (session_with rules (items ++ more))
  parts = session_parts valid

-- ---- beginnings of a trace

-- lines add items at the end alone
pub lines_append : (S : Session) (lines : List TraceLine)
    → (more : List Item) × (fold with_line_named S lines ≡ session_with S.rules (S.items ++ more))
lines_append S [] = ([], ap (session_with S.rules) (sym (append-nil S.items)))
lines_append S (line ∷ lines) = by_item (item_in S line) (λ T. lines_append T lines) where
  by_item : (o : Option Item)
      → ((T : Session) → (more : List Item) × (fold with_line_named T lines ≡ session_with T.rules (T.items ++ more)))
      → (more : List Item) × (fold with_line_named (with_named S o) lines ≡ session_with S.rules (S.items ++ more))
  by_item None rest = rest S
  by_item (Some x) rest =
      let it = rest (with_item S x) in
      (x ∷ it.0, it.1 ∙ ap (session_with S.rules) (append_assoc S.items (x ∷ []) it.0))

-- the first lines of a valid session's trace are first lines of the trace of the items that they name
module _ (rules : Declaration) (items more : List Item) (valid : IsValidSession (session_with rules (items ++ more)))
    (front : List TraceLine)
    (names : LinesName front (session_with rules items)) (begins : Begins front (all_lines (session_with rules
    (items ++ more)))) where
  -- the session of the items that are named
  walk_here : WalksTo rules [] 0 items more
  walk_here = walks rules items [] more 0 (reads_new rules (valid_parts parts.jobs).ratio) parts.items parts.jobs where
    parts : SessionParts (session_with rules (items ++ more))
    parts = session_parts valid

  -- by what comes next
  by_next : (rest : List Item) → more ≡ rest → Begins front (all_lines (session_with rules items))
  by_next [] none = subst (λ xs. Begins front (all_lines (session_with rules xs)))
      (ap (λ xs. items ++ xs) none ∙ append-nil items) begins
  by_next (x ∷ rest) next = by_either
      (begins_either front (lines_at (session_with rules items) (tick_of_item x)) one.line
      (all_lines (session_with rules (items ++ more))) begins whole) where
        valid_next : IsValidSession (session_with rules (items ++ x ∷ rest))
        valid_next = subst (λ xs. IsValidSession (session_with rules (items ++ xs))) next valid

        follows : FollowsItems rules items walk_here.later (x ∷ rest)
        follows = subst (FollowsItems rules items walk_here.later) next walk_here.follows

        one : Takes (session_with rules items) x
        one = takes rules items walk_here.later walk_here.reads x rest follows
            (jobs_append rules items (x ∷ rest) (session_jobs valid_next))

        same : (items ++ x ∷ []) ++ (rest ++ []) ≡ items ++ x ∷ rest
        same = append_assoc items (x ∷ []) (rest ++ []) ∙ ap (λ xs. items ++ x ∷ xs) (append-nil rest)

        onward : WalksTo rules (items ++ x ∷ []) (tick_of_item x) rest []
        onward = walks rules rest (items ++ x ∷ []) [] (tick_of_item x) one.reads
            (subst (FollowsItems rules (items ++ x ∷ []) (tick_of_item x)) (sym (append-nil rest))
            (follows_next rules items walk_here.later x rest follows))
            (subst (λ xs. IsValid (instance_of (session_with rules xs))) (sym same) (session_jobs valid_next))

        all_items : (items ++ x ∷ []) ++ rest ≡ items ++ more
        all_items = append_assoc items (x ∷ []) rest ∙ ap (λ xs. items ++ xs) (sym next)

        whole : Begins (lines_at (session_with rules items) (tick_of_item x) ++ one.line ∷ [])
            (all_lines (session_with rules (items ++ more)))
        whole = subst (λ xs. Begins (lines_at (session_with rules items) (tick_of_item x) ++ one.line ∷ [])
            (all_lines (session_with rules xs)))
            all_items
            (begins_onward _ (lines_at (session_with rules (items ++ x ∷ [])) (tick_of_item x)) _ one.begins
            (begins_onward _ (lines_at (session_with rules ((items ++ x ∷ []) ++ rest)) onward.later) _ onward.begins
            (lines_of_trace (session_with rules ((items ++ x ∷ []) ++ rest)) onward.later onward.reads)))

        too_many : Begins (lines_at (session_with rules items) (tick_of_item x) ++ one.line ∷ []) front → ⊥
        too_many it =
            let named : fold with_line_named (new_session rules)
            (lines_at (session_with rules items) (tick_of_item x) ++ one.line ∷ [])
            ≡ session_with rules (items ++ x ∷ []) =
            one_named (lines_at (session_with rules items) (tick_of_item x)) (session_with rules items) one.line x
            one.before.names one.names in
            let all : fold with_line_named (session_with rules (items ++ x ∷ [])) it.0 ≡ session_with rules items =
            ap (λ T. fold with_line_named T it.0) (sym named)
            ∙ sym (fold-append with_line_named (new_session rules)
            (lines_at (session_with rules items) (tick_of_item x) ++ one.line ∷ []) it.0)
            ∙ ap (fold with_line_named (new_session rules)) (sym it.1) ∙ names in
            let more = lines_append (session_with rules (items ++ x ∷ [])) it.0 in
            let same : items ≡ (items ++ x ∷ []) ++ more.0 = ap (λ (T : Session). T.items) (sym all ∙ more.1) in
            omega (
              arith,
              ap length same,
              length-append (items ++ x ∷ []) more.0,
              length-append items (x ∷ []),
            )

        by_either : Begins front (lines_at (session_with rules items) (tick_of_item x)) ⊎ Begins
            (lines_at (session_with rules items) (tick_of_item x) ++ one.line ∷ []) front
            → Begins front (all_lines (session_with rules items))
        by_either (inl it) = begins_onward front (lines_at (session_with rules items) (tick_of_item x))
            (all_lines (session_with rules items)) it
            (lines_of_trace (session_with rules items) (tick_of_item x) one.before)
        by_either (inr it) = absurd (too_many it)

  -- the lines begin the trace of the session that they name
  pub begins_front : Begins front (all_lines (session_with rules items))
  begins_front = by_next more refl
