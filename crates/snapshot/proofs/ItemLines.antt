-- What the lines say that hand in a session without refused lines.
use Rattle.std.proofs.Common.{◌≡◌, ℕ, suc, ◌+◌, ◌≤◌, ◌<◌, max, inl, inr, List, [], ◌∷◌, ◌++◌, length, append_assoc}
use Rattle.std.proofs.Common.{append-nil, refl, sym, ap, ◌∙◌, subst, Bool, true, false, cond, arith, Some, None, nat_lt}
use Rattle.std.proofs.Common.{is_some, ◌&&◌, fold, option_map, le-ltb, le-leb}
use Rattle.dover_model.specs.Common.{last_tick_in, most_lines, JobFacts, IsJob, Finish, Declaration, IsValid, with_jobs}
use Rattle.dover_model.specs.Common.{refusal_of, refusal_in, Item, JobItem, RefusedItem, FinishItem, Session}
use Rattle.dover_model.specs.Common.{mark_after, EarlyFinish, admitted_jobs, instance_of, session_with, with_item}
use Rattle.dover_model.specs.Common.{with_named, may_finish_early, early_at, finish_at, is_right, FeedLine, JobLine}
use Rattle.dover_model.specs.Common.{DoneLine, feed_line, feed_text, Account, Lines, Line, Order, NotAdmitted, NotDone}
use Rattle.dover_model.specs.Common.{HasNumerals, late_cause, with_fault, with_line, cause_of, next_line}
use Rattle.std.specs.Bool.{then_some}
use Rattle.std.specs.Option.{option_or}
use Rattle.dover_model.specs.declared.events.Refusal.TheVariants.{Full}
use Rattle.dover_model.proofs.texts.FeedLines.{feed_line-feed_text}
use Rattle.dover_model.proofs.valid.Admitting.{valid_admitted}
use Rattle.dover_model.proofs.settled.Barriers.{settled_at_barrier}
use Rattle.dover_model.proofs.sessions.Growing.{job_instance, Finishes, finishing_job}
use Rattle.dover_model.proofs.valid.Limiting.{jobs_most, tick_most}
use Rattle.dover_model.proofs.lists.Members.{all_last}
use Rattle.dover_model.proofs.rest.Resting.{numbers_below}
use Rattle.dover_model.proofs.lists.Tests.{none_is_some}
use Rattle.event_feed.specs.Reading.{open_account}
use Rattle.event_feed.proofs.Counting.{after_form}
use Rattle.snapshot.specs.Stored.{NoneRefused, item_lines}
use Rattle.snapshot.proofs.Came.{front_valid}
use Rattle.event_feed.proofs.Saying.{job_numerals}
use Rattle.dover_model.proofs.sessions.SessionParts.{MayBeAdmitted, FollowsItems}
use Rattle.dover_model.proofs.valid.ValidParts.{valid_parts}

-- the line of a finish that is right has numerals
pub finish_numerals : (S : Session) (f : EarlyFinish) → IsValid (instance_of S) → f.at ≤ last_tick_in S.rules.version
    → early_at S f.at f.finish.number ≡ Some f → HasNumerals (DoneLine f.at f.finish.number)
finish_numerals S f valid known right = (
  omega (arith, known, tick_most S.rules.version),
  (omega (arith, number, (valid_parts valid).count, jobs_most S.rules.version), tt),
) where
  says : Finishes S f
  says = finishing_job S f right

  number : f.finish.number < length (instance_of S).jobs
  number = subst (λ m. m < length (instance_of S).jobs) (sym (ap (λ (g : Finish). g.number) says.is))
      (numbers_below (instance_of S) _ (settled_at_barrier (instance_of S) valid f.at).keeps says.job
      says.runs.member)

module _ (S : Session) (lines mark : ℕ) (few : suc lines ≤ most_lines S.rules.version) where
  -- the account in which a line is counted
  abbrev a : Account
  a = open_account (suc lines) (Some S) mark

  -- a line with numerals is read
  pub line_read : (line : FeedLine) → feed_line (feed_text line) ≡ Some line
      → next_line (open_account lines (Some S) mark) (feed_text line) ≡ with_line a line (cause_of a line)
  line_read line back = ap (λ b. cond b (with_fault a Lines) (after_form a (feed_line (feed_text line))))
      (le-ltb _ _ few)
      ∙ ap (after_form a) back

  -- the line of a job that is valid behind the others
  pub job_item_account : (j : JobFacts) → MayBeAdmitted S mark j → IsValid (with_jobs (instance_of S) (j ∷ []))
      → next_line (open_account lines (Some S) mark) (feed_text (JobLine j))
      ≡ open_account (suc lines) (Some (with_item S (JobItem j))) j.release
  job_item_account j may valid =
      line_read (JobLine j) (feed_line-feed_text (JobLine j) (job_numerals j (all_last IsJob
      (instance_of S).jobs j (valid_parts valid).each)))
      ∙ ap (with_line a (JobLine j)) none where
        none : cause_of a (JobLine j) ≡ None
        none = ap (λ b. cond b (Some (late_cause S.rules.version))
            (option_map NotAdmitted (refusal_in S j))) (le-ltb j.release mark may.no_fall)
            ∙ ap (λ b. option_map NotAdmitted (option_or (refusal_of S.rules (admitted_jobs S.items) j)
            (then_some b Full))) may.room
            ∙ ap (λ o. option_map NotAdmitted (option_or o None)) (valid_admitted (instance_of S) j valid)

  -- the line of a finish that is right
  pub finish_item_account : (f : EarlyFinish) → IsValid (instance_of S) → mark ≤ f.at
      → f.at ≤ last_tick_in S.rules.version
      → early_at S f.at f.finish.number ≡ Some f
      → next_line (open_account lines (Some S) mark) (feed_text (DoneLine f.at f.finish.number))
      ≡ open_account (suc lines) (Some (with_item S (FinishItem f))) f.at
  finish_item_account f valid ordered known right =
      line_read line (feed_line-feed_text line (finish_numerals S f valid known right))
      ∙ ap (with_line a line) none
      ∙ ap (λ o. open_account (suc lines) (Some (with_named S (option_map FinishItem o))) f.at) right where
        n : ℕ
        n = f.finish.number

        line : FeedLine
        line = DoneLine f.at n

        three : (b : Bool) → cond b (finish_at (instance_of S) f.at n) None ≡ Some f
            → b ≡ true
        three true e = refl
        three false e = none_is_some e

        none : cause_of a line ≡ None
        none = ap (λ b. cond b (cond (nat_lt (last_tick_in S.rules.version) f.at) (Some Order)
            (cond (is_right S mark f.at n) None (Some NotDone))) (Some Line)) (three
            (may_finish_early S.rules.version) right)
            ∙ ap (λ b. cond b (Some Order) (cond (is_right S mark f.at n) None (Some NotDone)))
            (le-ltb (last_tick_in S.rules.version) f.at known)
            ∙ ap (λ b. cond (b && is_some (early_at S f.at n)) None (Some NotDone)) (le-leb mark f.at ordered)
            ∙ ap (λ o. cond (is_some o) None (Some NotDone)) right

-- the lines of items that follow others
pub items_account : (rules : Declaration) (before : List Item) (lines mark : ℕ) (items : List Item)
    → IsValid (instance_of (session_with rules (before ++ items))) → NoneRefused items
    → FollowsItems rules before mark items → lines + length items ≤ most_lines rules.version
    → fold next_line (open_account lines (Some (session_with rules before)) mark) (item_lines items)
    ≡ open_account (lines + length items) (Some (session_with rules (before ++ items))) (mark_after mark items)
items_account rules before lines mark [] valid good follows few =
    ap (λ is. open_account lines (Some (session_with rules is)) mark) (sym (append-nil before))
    ∙ ap (λ n. open_account n (Some (session_with rules (before ++ []))) mark)
    (let e : lines ≡ lines + 0 = omega arith in e)
items_account rules before lines mark (JobItem j ∷ items) valid good follows few =
    let split : (before ++ JobItem j ∷ []) ++ items ≡ before ++ JobItem j ∷ items = append_assoc before
    (JobItem j ∷ []) items in
    let all : IsValid (instance_of (session_with rules ((before ++ JobItem j ∷ []) ++ items))) =
    subst (λ is. IsValid (instance_of (session_with rules is))) (sym split) valid in
    let next : IsValid (instance_of (session_with rules (before ++ JobItem j ∷ []))) =
    front_valid rules (before ++ JobItem j ∷ []) items all in
    let more : IsValid (with_jobs (instance_of (session_with rules before)) (j ∷ [])) =
    subst IsValid (job_instance (session_with rules before) j) next in
    let same : max mark j.release ≡ j.release = omega (arith, follows.0.no_fall) in
    ap (λ a. fold next_line a (item_lines items)) (job_item_account (session_with rules before) lines mark
    (omega (arith, few)) j follows.0 more)
    ∙ ap (λ m. fold next_line (open_account (suc lines) (Some (session_with rules (before ++ JobItem j ∷ []))) m)
    (item_lines items)) (sym same)
    ∙ items_account rules (before ++ JobItem j ∷ []) (suc lines) (max mark j.release) items all (λ i m. good i (inr m))
    follows.1 (omega (arith, few))
    ∙ ap (λ is. open_account (suc lines + length items) (Some (session_with rules is)) (mark_after
    (max mark j.release) items))
    split
    ∙ ap (λ n. open_account n (Some (session_with rules (before ++ JobItem j ∷ items)))
    (mark_after (max mark j.release) items))
    (let e : suc lines + length items ≡ lines + suc (length items) = omega arith in e)
items_account rules before lines mark (RefusedItem r ∷ items) valid good follows few =
    none_is_some (sym (good (RefusedItem r) (inl refl)))
items_account rules before lines mark (FinishItem f ∷ items) valid good follows few =
    let split : (before ++ FinishItem f ∷ []) ++ items ≡ before ++ FinishItem f ∷ items =
    append_assoc before (FinishItem f ∷ []) items in
    let all : IsValid (instance_of (session_with rules ((before ++ FinishItem f ∷ []) ++ items))) =
    subst (λ is. IsValid (instance_of (session_with rules is))) (sym split) valid in
    let here : IsValid (instance_of (session_with rules before)) =
    front_valid rules before (FinishItem f ∷ items) valid in
    let same : max mark f.at ≡ f.at = omega (arith, follows.0.no_fall) in
    ap (λ a. fold next_line a (item_lines items)) (finish_item_account (session_with rules before) lines mark
    (omega (arith, few)) f here follows.0.no_fall follows.0.known follows.0.right)
    ∙ ap (λ m. fold next_line (open_account (suc lines) (Some (session_with rules (before ++ FinishItem f ∷ []))) m)
    (item_lines items)) (sym same)
    ∙ items_account rules (before ++ FinishItem f ∷ []) (suc lines) (max mark f.at) items all (λ i m. good i (inr m))
    follows.1 (omega (arith, few))
    ∙ ap (λ is. open_account (suc lines + length items) (Some (session_with rules is)) (mark_after
    (max mark f.at) items))
    split
    ∙ ap (λ n. open_account n (Some (session_with rules (before ++ FinishItem f ∷ items)))
    (mark_after (max mark f.at) items))
    (let e : suc lines + length items ≡ lines + suc (length items) = omega arith in e)
