-- What the lines say that hand in what was read of a snapshot, and the first items of a valid session.
use Rattle.std.proofs.Common.{◌≡◌, ℕ, ◌+◌, ◌≤◌, max, List, [], ◌∷◌, ◌++◌, length, length-append, append-nil}
use Rattle.std.proofs.Common.{append_assoc}
use Rattle.std.proofs.Common.{ap, sym, ◌∙◌, subst, inl, inr, arith, Some, None, fold}
use Rattle.std.proofs.lemmas.List.{map-append}
use Rattle.dover_model.specs.Common.{most_lines, Declaration, Item, JobItem, RefusedItem, FinishItem, mark_after}
use Rattle.dover_model.specs.Common.{IsValidSession, admitted_jobs, refused_of_item, Each, feed_text}
use Rattle.dover_model.specs.Common.{next_line, account_of_lines}
use Rattle.dover_model.proofs.lists.Members.{each_append}
use Rattle.dover_model.proofs.sessions.Accounts.{Holds}
use Rattle.dover_model.proofs.sessions.SessionParts.{FollowsItems, session_parts, session_from, session_jobs}
use Rattle.dover_model.proofs.sessions.SessionParts.{session_declared}
use Rattle.dover_model.proofs.valid.ValidParts.{valid_parts}
use Rattle.event_feed.specs.Reading.{open_account}
use Rattle.event_feed.proofs.Saying.{rules_account}
use Rattle.snapshot.specs.Snapshot.{Head}
use Rattle.snapshot.specs.Reading.{stored}
use Rattle.snapshot.specs.Stored.{NoneRefused, ratio_text, line_of_item, item_lines, fed_lines, fed_account}
use Rattle.snapshot.proofs.Came.{front_valid}
use Rattle.snapshot.proofs.Counts.{good_count}
use Rattle.snapshot.proofs.ItemLines.{items_account}

-- the account of the lines of a valid session
pub fed_is : (h : Head) (items : List Item) → IsValidSession (stored h items) → NoneRefused items
    → length items + 1 ≤ most_lines h.rules.version → account_of_lines (fed_lines h items) ≡ fed_account h items
fed_is h items valid good few = ap (λ a. fold next_line a (item_lines items))
    (rules_account h.rules (valid_parts (session_jobs valid)).ratio (session_declared valid))
    ∙ items_account h.rules [] 1 0 items (session_jobs valid) good (session_parts valid).items (omega (arith, few))
    ∙ ap (λ n. open_account n (Some (stored h items)) (mark_after 0 items))
    (let e : 1 + length items ≡ length items + 1 = omega arith in e)

-- the lines with one more
pub lines_more : (h : Head) (items : List Item) (i : Item)
    → fed_lines h items ++ feed_text (line_of_item i) ∷ [] ≡ fed_lines h (items ++ i ∷ [])
lines_more h items i =
    ap (λ ls. ratio_text h ∷ ls) (sym (map-append (λ (x : Item). feed_text (line_of_item x)) items (i ∷ [])))

-- one more that isn't refused
pub good_more : (items : List Item) (i : Item) → NoneRefused items → refused_of_item i ≡ None
    → NoneRefused (items ++ i ∷ [])
good_more items i good none = each_append (λ x. refused_of_item x ≡ None) items (i ∷ []) good last where
  last : Each (λ x. refused_of_item x ≡ None) (i ∷ [])
  last x (inl e) = ap refused_of_item e ∙ none
  last x (inr none) = absurd none

-- ---- parts of valid sessions

-- items that may stand, and those behind them
pub follows_parts : (rules : Declaration) (before : List Item) (mark : ℕ) (items more : List Item)
    → FollowsItems rules before mark (items ++ more)
    → FollowsItems rules before mark items × FollowsItems rules (before ++ items) (mark_after mark items) more
follows_parts rules before mark [] more it =
    (tt, subst (λ is. FollowsItems rules is mark more) (sym (append-nil before)) it)
follows_parts rules before mark (JobItem j ∷ items) more it =
    let rest = follows_parts rules (before ++ JobItem j ∷ []) (max mark j.release) items more it.1 in (
      (it.0, rest.0),
      subst (λ is. FollowsItems rules is (mark_after (max mark j.release) items) more)
          (append_assoc before (JobItem j ∷ []) items) rest.1,
    )
follows_parts rules before mark (RefusedItem r ∷ items) more it =
    let rest = follows_parts rules (before ++ RefusedItem r ∷ []) (max mark r.at) items more it.1 in (
      (it.0, rest.0),
      subst (λ is. FollowsItems rules is (mark_after (max mark r.at) items) more)
          (append_assoc before (RefusedItem r ∷ []) items) rest.1,
    )
follows_parts rules before mark (FinishItem f ∷ items) more it =
    let rest = follows_parts rules (before ++ FinishItem f ∷ []) (max mark f.at) items more it.1 in (
      (it.0, rest.0),
      subst (λ is. FollowsItems rules is (mark_after (max mark f.at) items) more)
          (append_assoc before (FinishItem f ∷ []) items) rest.1,
    )

module _ (h : Head) (items more : List Item) (valid : IsValidSession (stored h (items ++ more))) where
  parts : FollowsItems h.rules [] 0 items × FollowsItems h.rules items (mark_after 0 items) more
  parts = follows_parts h.rules [] 0 items more (session_parts valid).items

  -- the first items are a valid session
  pub front_session : IsValidSession (stored h items)
  front_session = session_from (record {
    declared = session_declared valid;
    jobs = front_valid h.rules items more (session_jobs valid);
    count = omega (arith, (session_parts valid).count, length-append items more);
    items = parts.0;
  })

  -- behind which the others may stand
  pub more_follows : FollowsItems h.rules items (mark_after 0 items) more
  more_follows = parts.1

-- what an account keeps that goes on, with few jobs and none refused, is a valid session
pub kept_session : (h : Head) (items : List Item) (mark lines : ℕ) → Holds (stored h items) mark lines
    → NoneRefused items → length (admitted_jobs items) ≤ 1_000_000 → IsValidSession (stored h items)
kept_session h items mark lines it good few = session_from (record {
  declared = it.declared;
  jobs = it.reads.valid;
  count = good_count (stored h items) it.reads.valid it.follows good few;
  items = it.follows;
})
