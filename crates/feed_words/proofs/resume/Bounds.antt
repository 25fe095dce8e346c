-- A snapshot whose last line is still to come has few lines, and few bytes.
use Rattle.std.proofs.Common.{◌≡◌, ◌<◌, ◌≤◌, ℕ, List, [], ◌∷◌, length, refl, sym, ap, ◌∙◌, subst, Bool, true, false}
use Rattle.std.proofs.Common.{arith, Option, Some, None, fold, ltb-false}
use Rattle.dover_model.specs.declared.events.Task.{Task}
use Rattle.dover_model.specs.Common.{Item, JobItem, RefusedItem, FinishItem}
use Rattle.dover_model.proofs.sessions.SessionParts.{session_parts, session_jobs}
use Rattle.snapshot.specs.Stored.{HasRead}
use Rattle.snapshot.proofs.Counts.{good_few}
use Rattle.snapshot.proofs.Storing.{long}
use Rattle.dover_model.specs.Lines.{lines_of, whole_lines, rest_of, is_too_long}
use Rattle.line_text.proofs.Lengths.{AreNotTooLong, text_few}
use Rattle.snapshot.specs.Snapshot.{Head, stored_lines}
use Rattle.snapshot.specs.Reading.{Reading, Begun, Going, Taken, Refused, next_line, stored}
use Rattle.snapshot.specs.Kept.{IsReading}
use Rattle.snapshot.specs.declared.resuming.Resuming.{Resuming}
use Rattle.snapshot.proofs.Beginning.{Within, within}
use Rattle.feed_words.proofs.resume.Taking.{refused_stays, taken_stays}
use Rattle.feed_words.specs.resume.Opening.{OpeningStands}
use Rattle.feed_words.specs.declared.resume.opening.Opening.{Opening}
use Rattle.feed_words.proofs.resume.Onward.{only_whole}
use Rattle.feed_words.proofs.resume.Opened.{IsRefused, long_refused}

-- where the reading goes on, no line was too long
pub short_lines : (ls : List (List ℕ)) (r : Reading) (h : Head) (items : List Item) (tasks : List Task)
    → fold next_line r ls ≡ Going h items tasks
    → AreNotTooLong ls
short_lines [] r h items tasks goes = tt
short_lines (l ∷ ls) r h items tasks goes =
    (by (is_too_long l) refl, short_lines ls (next_line r l) h items tasks goes) where
      never_taken : (g : Head) (js : List Item) (ts : List Task) → r ≡ Taken g js ts → ⊥
      never_taken g js ts taken = absurd (let clash : Taken g js ts ≡ Going h items tasks =
          sym (ap (λ q. fold next_line (next_line q l) ls) taken ∙ taken_stays g js ts ls) ∙ goes in cc)

      by : (b : Bool) → is_too_long l ≡ b → length l ≤ 128
      by false fits = ltb-false _ _ fits
      by true long =
          let it : IsRefused (next_line r l) = long_refused r l long never_taken in
          absurd (let clash : Refused it.0 ≡ Going h items tasks =
          sym (ap (λ q. fold next_line q ls) it.1 ∙ refused_stays it.0 ls) ∙ goes in cc)

-- there are no more lines than items
stored_few : (items : List Item) (tasks : List Task) → length (stored_lines items tasks) ≤ length items
stored_few [] tasks = omega arith
stored_few (JobItem j ∷ items) [] = omega (arith, stored_few items [])
stored_few (JobItem j ∷ items) (t ∷ tasks) = omega (arith, stored_few items tasks)
stored_few (RefusedItem r ∷ items) tasks = omega (arith, stored_few items tasks)
stored_few (FinishItem f ∷ items) tasks = omega (arith, stored_few items tasks)

-- lines that are read on are few
pub lines_few : (h : Head) (items : List Item) (tasks : List Task) (ls : List (List ℕ)) → HasRead h items tasks ls
    → length ls ≤ 4_000_000_001
lines_few h items tasks ls read =
    let limits : Within h = within h read.limits in
    let jobs : h.jobs ≤ 1_000_000 = omega (arith, limits.jobs) in omega (
      arith,
      ap length read.text,
      stored_few items tasks,
      good_few (stored h items) (session_jobs read.valid) (session_parts read.valid).items read.good,
      long h items tasks ls read [],
      read.count,
      jobs,
    )

-- it has few lines
pub reading_few : (o : Option Resuming) (ls : List (List ℕ)) → IsReading o ls → AreNotTooLong ls
    × (length ls ≤ 4_000_000_001)
reading_few None ls none = (subst AreNotTooLong (sym none) tt, omega (arith, ap length none))
reading_few (Some r) ls it =
    (short_lines ls Begun it.0 it.1 it.2 it.3.reads, lines_few it.0 it.1 it.2 ls it.3)

-- and few bytes
pub reading_bytes : (o : Option Resuming) (x : List ℕ) → IsReading o (lines_of x) → is_too_long (rest_of x) ≡ false
    → length x < 516_000_000_258
reading_bytes o x it short =
    let whole : lines_of x ≡ whole_lines x = only_whole x short in
    let few = reading_few o (lines_of x) it in
    omega (
      arith,
      text_few x 4_000_000_001 (subst AreNotTooLong whole few.0) (omega (arith, few.1, ap length whole))
          (ltb-false _ _ short),
    )

-- so what follows its whole lines has a small number, the one behind the cutter's count
pub next_number : (o : Opening) (x : List ℕ) → OpeningStands o x → (length (whole_lines x) ≤ 4_000_000_001)
    × (o.lines.count ≡ length (whole_lines x))
next_number o x it =
    let lines : lines_of x ≡ whole_lines x = only_whole x it.short in
    let few : length (whole_lines x) ≤ 4_000_000_001 =
    omega (arith, (reading_few o.reader (lines_of x) it.reads).1, ap length lines) in
    (few, omega (arith, it.cut.count, few))
