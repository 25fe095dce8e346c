-- A snapshot that is read, and its feed behind it, as a talk.
use Rattle.std.proofs.Common.{◌≡◌, ◌<◌, ◌≤◌, ◌*◌, ◌^◌, ◌-◌, ℕ, List, [], ◌∷◌, ◌++◌, length, refl, sym, ap, ◌∙◌, subst}
use Rattle.std.proofs.Common.{append_assoc, length-append, arith, true, false, inl, inr, codes}
use Rattle.dover_model.specs.declared.events.Task.{Task}
use Rattle.dover_model.specs.Common.{Item, in_lines, lines_of, account, is_open, Begins, CostsAtMost}
use Rattle.dover_model.proofs.lists.Beginnings.{in_lines-append}
use Rattle.dover_model.proofs.lists.Tests.{never}
use Rattle.line_text.proofs.Lengths.{AreNotTooLong}
use Rattle.dover_port.specs.declared.status.Status.{Status}
use Rattle.dialogue.specs.Talk.{IsSteady}
use Rattle.dover_model.proofs.runs.Spending.{few_more}
use Rattle.event_feed.specs.Answers.{admitted_in}
use Rattle.event_feed.proofs.Admitting.{admitted_front}
use Rattle.snapshot.specs.Snapshot.{MayPause, Head, snapshot}
use Rattle.snapshot.specs.Reading.{Reading, Begun, Going, Taken, Refused, reading_of}
use Rattle.feed_words.specs.serve.Keeping.{Call, due_behind, serve_talk}
use Rattle.feed_words.proofs.serve.Talking.{steady}
use Rattle.feed_words.specs.resume.Record.{Behind, IsFrugalFor}
use Rattle.feed_words.specs.resume.Talk.{Asked, feed_of, behind_snapshot, goes_by, due_by, IsAnsweredBy, HasBegun}
use Rattle.feed_words.specs.resume.Talk.{LacksBy, resume_talk}
use Rattle.feed_words.proofs.resume.Bounds.{short_lines, lines_few}
use Rattle.feed_words.proofs.resume.Equally.{admitted_same}
use Rattle.feed_words.proofs.resume.Onward.{taken_on, refused_on, front, feed_may, feed_text, parts_are, behind_on}
use Rattle.feed_words.proofs.resume.Parts.{behind}

-- the call of the feed that stands for all with a snapshot
abbrev pub call_of : (start : ℕ) (x : List ℕ) (h : Head) (items : List Item) (ts : List Task)
    → reading_of (lines_of x) ≡ Taken h items ts → Call
call_of start x h items ts is =
    record { feed = feed_of h items; goes_on = (feed_may x h items ts is).going_on; start = start }

module _ (a : Asked) (x : List ℕ) where
  -- by what the lines say
  pub goes_at : (r : Reading) → reading_of (lines_of x) ≡ r → (resume_talk a).goes_on x ≡ goes_by r x
  goes_at r is = ap (λ r. goes_by r x) is

  pub due_at : (r : Reading) → reading_of (lines_of x) ≡ r → (resume_talk a).due x ≡ due_by r x
  due_at r is = ap (λ r. due_by r x) is

-- a front that has begun a snapshot is one of more bytes
begun_more : (x y : List ℕ) → HasBegun x → HasBegun (x ++ y)
begun_more x y it = (
  it.0,
  (it.1.0 ++ y, ap (λ l. l ++ y) it.1.1 ∙ append_assoc it.0 it.1.0 y),
  it.2,
)

module _ (a : Asked) (x y : List ℕ) where
  -- bytes behind a whole snapshot
  module _ (h : Head) (items : List Item) (ts : List Task) (is : reading_of (lines_of x) ≡ Taken h items ts) where
    abbrev call : Call
    call = call_of a.start x h items ts is

    abbrev H : List ℕ
    H = behind_snapshot h items x

    serves : IsSteady (serve_talk a.at_end (feed_of h items))
    serves = steady call a.at_end

    more_is : reading_of (lines_of (x ++ y)) ≡ Taken h items ts
    more_is = taken_on x y h items ts is

    due_more : (resume_talk a).due (x ++ y) ≡ due_behind (feed_of h items) (H ++ y)
    due_more = due_at a (x ++ y) (Taken h items ts) more_is ∙ ap (due_behind (feed_of h items))
        (behind_on x h items ts is y)

    goes_more : (resume_talk a).goes_on (x ++ y) ≡ is_open (account (feed_of h items ++ (H ++ y)))
    goes_more = goes_at a (x ++ y) (Taken h items ts) more_is
        ∙ ap (λ l. is_open (account (feed_of h items ++ l))) (behind_on x h items ts is y)

    grows_past : Begins ((resume_talk a).due x) ((resume_talk a).due (x ++ y))
    grows_past = let it = serves.grows H y in
        (it.0, due_more ∙ it.1 ∙ ap (λ l. l ++ it.0) (sym (due_at a x (Taken h items ts) is)))

    closed_past : (resume_talk a).goes_on x ≡ false → is_open (account (feed_of h items ++ H)) ≡ false
    closed_past over = sym (goes_at a x (Taken h items ts) is) ∙ over

    answered_past : (resume_talk a).goes_on x ≡ false → (status : Status) (text : List ℕ)
        → IsAnsweredBy a.at_end (reading_of (lines_of x)) x false status text
        → IsAnsweredBy a.at_end (reading_of (lines_of (x ++ y))) (x ++ y) false status text
    answered_past over status text it =
        subst (λ r. IsAnsweredBy a.at_end r (x ++ y) false status text) (sym more_is)
        (subst (λ l. (serve_talk a.at_end (feed_of h items)).answer l false status text)
        (sym (behind_on x h items ts is y))
        (serves.answered H y status text (closed_past over)
        (subst (λ r. IsAnsweredBy a.at_end r x false status text) is it)))

  -- nothing grows to anything
  grows_none : (resume_talk a).due x ≡ [] → Begins ((resume_talk a).due x) ((resume_talk a).due (x ++ y))
  grows_none none = ((resume_talk a).due (x ++ y), ap (λ l. l ++ (resume_talk a).due (x ++ y)) (sym none))

  grows : (r : Reading) → reading_of (lines_of x) ≡ r → Begins ((resume_talk a).due x) ((resume_talk a).due (x ++ y))
  grows Begun is = grows_none (due_at a x Begun is)
  grows (Going h items ts) is = grows_none (due_at a x (Going h items ts) is)
  grows (Taken h items ts) is = grows_past h items ts is
  grows (Refused at) is = grows_none (due_at a x (Refused at) is)

  stays : (r : Reading) → reading_of (lines_of x) ≡ r → (resume_talk a).goes_on x ≡ false
      → (resume_talk a).goes_on (x ++ y) ≡ false
  stays Begun is over = never (sym over ∙ goes_at a x Begun is)
  stays (Going h items ts) is over = never (sym over ∙ goes_at a x (Going h items ts) is)
  stays (Taken h items ts) is over = goes_more h items ts is ∙ (serves h items ts is).stays (H h items ts is) y
      (closed_past h items ts is over)
  stays (Refused at) is over = goes_at a (x ++ y) (Refused at) (refused_on x y at is)

  answered : (r : Reading) → reading_of (lines_of x) ≡ r → (resume_talk a).goes_on x ≡ false
      → (status : Status) (text : List ℕ) → IsAnsweredBy a.at_end (reading_of (lines_of x)) x false status text
      → IsAnsweredBy a.at_end (reading_of (lines_of (x ++ y))) (x ++ y) false status text
  answered Begun is over status text it = never (sym over ∙ goes_at a x Begun is)
  answered (Going h items ts) is over status text it = never (sym over ∙ goes_at a x (Going h items ts) is)
  answered (Taken h items ts) is over status text it = answered_past h items ts is over status text it
  answered (Refused at) is over status text it =
      subst (λ r. IsAnsweredBy a.at_end r (x ++ y) false status text) (sym (refused_on x y at is))
      (subst (λ r. IsAnsweredBy a.at_end r x false status text) is it)

  -- where the snapshot isn't whole
  begun_on : (r : Reading) → reading_of (lines_of x) ≡ r → LacksBy r x
      → ((h : Head) (items : List Item) (ts : List Task) → reading_of (lines_of (x ++ y)) ≡ Taken h items ts → ⊥)
      → HasBegun (x ++ y)
  begun_on (Taken h items ts) is it untaken = absurd (untaken h items ts (taken_on x y h items ts is))
  begun_on _ is it untaken = begun_more x y it

  lacks_on : LacksBy (reading_of (lines_of x)) x → (r : Reading) → reading_of (lines_of (x ++ y)) ≡ r
      → LacksBy r (x ++ y)
  lacks_on it (Taken h items ts) is = tt
  lacks_on it r is = begun_on (reading_of (lines_of x)) refl it
      (λ h items ts taken. absurd (let clash : r ≡ Taken h items ts = sym is ∙ taken in cc))

pub resume_steady : (a : Asked) → IsSteady (resume_talk a)
resume_steady a = record {
  opens = refl;
  nothing = refl;
  grows = λ x y. grows a x y (reading_of (lines_of x)) refl;
  stays = λ x y over. stays a x y (reading_of (lines_of x)) refl over;
  answered = λ x y status text over it. answered a x y (reading_of (lines_of x)) refl over status text it;
  lacking = λ x y it. (it.0, lacks_on a x y it.1 (reading_of (lines_of (x ++ y))) refl);
}

-- ---- how many bytes

-- short lines, each with its line feed
lines_bytes : (ls : List (List ℕ)) → AreNotTooLong ls → length (in_lines ls) ≤ 129 * length ls
lines_bytes [] short = omega arith
lines_bytes (l ∷ ls) short = omega (
  arith,
  lines_bytes ls short.1,
  short.0,
  length-append (l ++ 10 ∷ []) (in_lines ls),
  length-append l (10 ∷ []),
)

module _ (x : List ℕ) (h : Head) (items : List Item) (ts : List Task)
    (is : reading_of (lines_of x) ≡ Taken h items ts) where
  snapshot_bytes : length (snapshot (feed_of h items)) < 520_000_000_000
  snapshot_bytes =
      let it = (front x h items ts is).whole in omega (
        arith,
        ap length (feed_text x h items ts is ∙ ap in_lines it.text ∙ in_lines-append it.front (codes "resume" ∷ [])),
        length-append (in_lines it.front) (in_lines (codes "resume" ∷ [])),
        lines_bytes it.front (short_lines it.front Begun h items ts it.read.reads),
        lines_few h items ts it.front it.read,
      )

  pub few_bytes : is_open (account (feed_of h items ++ behind_snapshot h items x)) ≡ true
      → length (feed_of h items ++ behind_snapshot h items x) < 2_064_000_000_129 → length x < 2 ^ 64 - 1
  few_bytes goes few = omega (
    arith,
    snapshot_bytes,
    ap length (parts_are x h items ts is),
    length-append (snapshot (feed_of h items)) (behind_snapshot h items x),
    length-append (feed_of h items) (behind_snapshot h items x),
    few,
  )

  -- what holds of that feed and the bytes behind its snapshot, and of each other feed with it
  pub past : (T : List ℕ → List ℕ → Type 0)
      → ((F : List ℕ) → MayPause F → snapshot (feed_of h items) ≡ snapshot F → T F (behind_snapshot h items x))
      → Behind x T
  past T each = behind (snapshot (feed_of h items)) (feed_of h items) (feed_may x h items ts is) refl x
      (behind_snapshot h items x) T
      (parts_are x h items ts is) (λ F may text. each F may (sym text))

  -- the comparisons
  pub past_costs : (start now : ℕ)
      → CostsAtMost (admitted_in (account (feed_of h items ++ behind_snapshot h items x))) start now
      → IsFrugalFor start now x
  past_costs start now few = inr (past (λ F H. CostsAtMost (admitted_in (account (F ++ H))) start now)
      (λ F may text. subst (λ n. CostsAtMost n start now)
      (admitted_same (feed_of h items) F (behind_snapshot h items x) (feed_may x h items ts is) may text) few))

-- more bytes cost no less
pub frugal_more : (start now : ℕ) (x y : List ℕ) → IsFrugalFor start now x → IsFrugalFor start now (x ++ y)
frugal_more start now x y (inl (part, begins, few)) =
    inl (part, (begins.0 ++ y, ap (λ l. l ++ y) begins.1 ∙ append_assoc part begins.0 y), few)
frugal_more start now x y (inr it) = inr (behind (snapshot it.feed) it.feed it.may refl (x ++ y) (it.more ++ y)
    (λ F H. CostsAtMost (admitted_in (account (F ++ H))) start now)
    (ap (λ l. l ++ y) it.read ∙ append_assoc (snapshot it.feed) it.more y)
    (λ F may text. few_more (admitted_in (account (F ++ it.more))) (admitted_in (account (F ++ (it.more ++ y))))
    start now
    (subst (λ l. admitted_in (account (F ++ it.more)) ≤ admitted_in (account l)) (append_assoc F it.more y)
    (admitted_front (F ++ it.more) y))
    (it.each F it.more may (it.read ∙ ap (λ l. l ++ it.more) (sym text)))))
