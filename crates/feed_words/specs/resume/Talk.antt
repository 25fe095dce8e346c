-- What `resume` says, by the bytes got.
use Rattle.std.specs.Prelude.{◌≡◌, Bool, true, false, ℕ, suc, List, [], ◌++◌, length, drop}
use Rattle.dover_model.specs.Common.{Item, in_lines, lines_of, whole_lines, account, is_open, Begins}
use Rattle.dover_port.specs.declared.status.Status.{Status}
use Rattle.dover_port.specs.declared.status.Status.TheVariants as status
use Rattle.dialogue.specs.Talk.{Talk}
use Rattle.snapshot.specs.Snapshot.{Head, snapshot}
use Rattle.snapshot.specs.Reading.{Reading, Begun, Going, Taken, Refused, reading_of}
use Rattle.snapshot.specs.Kept.{IsGoing, feed_lines}
use Rattle.feed_words.specs.serve.Keeping.{due_behind, serve_talk}
use Rattle.feed_words.specs.declared.serve.at_end.AtEnd.{AtEnd}
use Rattle.feed_words.specs.resume.Record.{refused_text}

-- What a call is about: what is done where the input ends, and the comparisons from which those of the call count.
pub record Asked : Type 0 where
  pub at_end : AtEnd
  pub start : ℕ

-- one feed with the snapshot of these items: the ratio, a line for each of them, and the tick lines that are left
abbrev pub feed_of : Head → List Item → List ℕ
feed_of h items = in_lines (feed_lines h items)

-- the bytes behind this snapshot
abbrev pub behind_snapshot : Head → List Item → List ℕ → List ℕ
behind_snapshot h items x = drop (length (snapshot (feed_of h items))) x

-- ---- by what the lines say

-- More may be read until a line is refused, or the feed with the snapshot goes on no more.
abbrev pub goes_by : Reading → List ℕ → Bool
goes_by Begun x = true
goes_by (Going h items tasks) x = true
goes_by (Taken h items tasks) x = is_open (account (feed_of h items ++ behind_snapshot h items x))
goes_by (Refused at) x = false

-- Nothing is due for a snapshot, and behind it what is due for its feed beyond what was.
abbrev pub due_by : Reading → List ℕ → List ℕ
due_by Begun x = []
due_by (Going h items tasks) x = []
due_by (Taken h items tasks) x = due_behind (feed_of h items) (behind_snapshot h items x)
due_by (Refused at) x = []

-- a snapshot is refused at this line
abbrev pub IsRefusedAs : (at : ℕ) → Status → List ℕ → Type 0
IsRefusedAs at status.Refused text = text ≡ refused_text at
IsRefusedAs at _ text = ⊥

-- A snapshot is refused where its last line is still to come, or at the line that is; behind it, its feed is served.
abbrev pub IsAnsweredBy : AtEnd → Reading → List ℕ → Bool → Status → List ℕ → Type 0
IsAnsweredBy at_end Begun x ended s text = (ended ≡ true) × IsRefusedAs (suc (length (whole_lines x))) s text
IsAnsweredBy at_end (Going h items tasks) x ended s text =
    (ended ≡ true) × IsRefusedAs (suc (length (whole_lines x))) s text
IsAnsweredBy at_end (Taken h items tasks) x ended s text =
    (serve_talk at_end (feed_of h items)).answer (behind_snapshot h items x) ended s text
IsAnsweredBy at_end (Refused at) x ended s text = IsRefusedAs at s text

-- a front of the bytes is the first line of a snapshot, or more of it
abbrev pub HasBegun : List ℕ → Type 0
HasBegun x = (front : List ℕ) × Begins front x × IsGoing (lines_of front)

-- memory may be lacking behind the first line
abbrev pub LacksBy : Reading → List ℕ → Type 0
LacksBy Begun x = HasBegun x
LacksBy (Going h items tasks) x = HasBegun x
LacksBy (Taken h items tasks) x = Unit {0}
LacksBy (Refused at) x = HasBegun x

-- the talk
abbrev pub resume_talk : Asked → Talk
resume_talk a = record {
  goes_on = λ x. goes_by (reading_of (lines_of x)) x;
  due = λ x. due_by (reading_of (lines_of x)) x;
  answer = λ x ended s text. IsAnsweredBy a.at_end (reading_of (lines_of x)) x ended s text;
  lacks = λ x ended. (ended ≡ false) × LacksBy (reading_of (lines_of x)) x;
}
