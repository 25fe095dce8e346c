-- A snapshot as it is read, byte by byte.
use Rattle.std.proofs.Common.{◌≡◌, ◌<◌, ◌≤◌, ◌+◌, ℕ, List, [], ◌∷◌, ◌++◌, length, refl, sym, ap, ◌∙◌, subst, Bool, true}
use Rattle.std.proofs.Common.{false, cond, ◌&&◌, arith, Option, Some, None, Result, Ok, Err, codes, nat_lt, bytes_eq}
use Rattle.std.proofs.Common.{option_and_then, ltb-true}
use Rattle.std.proofs.lemmas.List.Sums.{fold-append}
use Rattle.std.proofs.lemmas.Slice.Eq.{bytes_eq-Decides}
use Rattle.dover_model.specs.declared.events.Task.{Task}
use Rattle.dover_model.specs.Lines.{lines_of, rest_of, is_too_long, fields_of, numbers_of}
use Rattle.dover_model.specs.Common.{Item, early_at, line_of_fields}
use Rattle.snapshot.specs.Snapshot.{Head}
use Rattle.snapshot.specs.Reading.{Reading, Begun, Going, Taken, Refused, head_from, task_of_fields, read_task}
use Rattle.snapshot.specs.Reading.{with_head, with_task, with_last, with_finish, with_other, has_lines_for, is_settled}
use Rattle.snapshot.specs.Reading.{refused_behind, stored, read_done, done_of}
use Rattle.snapshot.specs.Reading.{next_line, reading_of}
use Rattle.snapshot.specs.Kept.{IsReading, IsReady, IsGoing, Answers}
use Rattle.snapshot.specs.Spending.{jobs_read, jobs_kept}
use Rattle.snapshot.proofs.Spending.{jobs_reading}
use Rattle.snapshot.specs.declared.reader.Got.{Got}
use Rattle.snapshot.specs.declared.reader.Got.TheVariants.{More, Ready}
use Rattle.snapshot.specs.declared.reader.SnapFault.{SnapFault}
use Rattle.snapshot.specs.declared.reader.SnapFault.TheVariants.{BadSnapshot, Memory}
use Rattle.snapshot.specs.declared.resuming.Resuming.{Resuming}
use Rattle.line_text.specs.Cutting.{Cutting, StandsFor, with_byte}
use Rattle.feed_words.specs.resume.Opening.{OpeningStands, Takes}
use Rattle.feed_words.specs.declared.resume.opening.Opening.{Opening}

-- ---- a line that is too long

-- the reading is refused
abbrev pub IsRefused : Reading → Type 0
IsRefused r = (at : ℕ) × (r ≡ Refused at)

-- a line that is too long isn't the last
not_last : (l : List ℕ) → is_too_long l ≡ true → bytes_eq l (codes "resume") ≡ false
not_last l long = by (bytes_eq l (codes "resume")) refl where
  by : (b : Bool) → bytes_eq l (codes "resume") ≡ b → b ≡ false
  by false e = refl
  by true e = let same : l ≡ codes "resume" = (bytes_eq-Decides l (codes "resume")).0 e in
      let above : 128 < length l = ltb-true _ _ long in absurd (omega (arith, ap length same))

-- what it makes of a reading: it is refused, unless the snapshot is whole or refused before
abbrev pub long_reading : Reading → Reading
long_reading Begun = Refused 1
long_reading (Going h items tasks) = refused_behind items
long_reading (Taken h items tasks) = Taken h items tasks
long_reading (Refused at) = Refused at

long_done : (l : List ℕ) → is_too_long l ≡ true → read_done l ≡ None
long_done l long = ap (λ b. option_and_then done_of (cond b None (line_of_fields (fields_of l)))) long

pub long_next : (r : Reading) (l : List ℕ) → is_too_long l ≡ true → next_line r l ≡ long_reading r
long_next Begun l long =
    ap (λ b. with_head (cond b None (option_and_then head_from (numbers_of (codes "snapshot") l)))) long
long_next (Going h items tasks) l long = ap (λ o. elim o [
  | None ↦ with_other h items tasks l
  | Some done ↦ with_finish h items tasks (early_at (stored h items) done.0 done.1)
]) (long_done l long) ∙ by (nat_lt (length tasks) h.jobs) where
  by : (b : Bool)
      → cond b (with_task h items tasks (read_task l)) (with_last h items tasks (bytes_eq l (codes "resume")))
      ≡ Refused (length items + 2)
  by true = ap (λ c. with_task h items tasks (cond c None (task_of_fields (fields_of l)))) long
  by false = ap (λ c. cond (c && has_lines_for h items && is_settled h items tasks) (Taken h items tasks)
      (refused_behind items)) (not_last l long)
long_next _ l long = refl

-- it is refused, where no line was before or the snapshot goes on
pub long_refused : (r : Reading) (l : List ℕ) → is_too_long l ≡ true
    → ((h : Head) (items : List Item) (tasks : List Task) → r ≡ Taken h items tasks → ⊥) → IsRefused (next_line r l)
long_refused r l long never = by r (long_next r l long) never where
  by : (r : Reading) → next_line r l ≡ long_reading r
      → ((h : Head) (items : List Item) (tasks : List Task) → r ≡ Taken h items tasks → ⊥)
      → IsRefused (next_line r l)
  by Begun is never = (1, is)
  by (Going h items tasks) is never = (length items + 2, is)
  by (Taken h items tasks) is never = absurd (never h items tasks refl)
  by (Refused at) is never = (at, is)

-- what was read so far isn't taken
reading_going : (o : Option Resuming) (ls : List (List ℕ)) → IsReading o ls → (h : Head) (items : List Item)
    (tasks : List Task) → reading_of ls ≡ Taken h items tasks → ⊥
reading_going None ls none h items tasks taken =
    absurd (let e : Begun ≡ Taken h items tasks = sym (ap reading_of none) ∙ taken in cc)
reading_going (Some r) ls it h items tasks taken =
    absurd (let e : Going it.0 it.1 it.2 ≡ Taken h items tasks = sym it.3.reads ∙ taken in cc)

-- so with the line it is refused
pub with_long : (o : Option Resuming) (ls : List (List ℕ)) (l : List ℕ) → IsReading o ls → is_too_long l ≡ true
    → IsRefused (reading_of (ls ++ l ∷ []))
with_long o ls l it long = subst IsRefused (sym (fold-append next_line Begun ls (l ∷ [])))
    (long_refused (reading_of ls) l long (reading_going o ls it))

-- a refused reading doesn't go on, and isn't taken
going_not : (o : Option Resuming) (ls : List (List ℕ)) (l : List ℕ) → IsRefused (reading_of (ls ++ l ∷ []))
    → IsReading o (ls ++ l ∷ []) → ⊥
going_not None ls l refused none =
    absurd (let e : length (ls ++ l ∷ []) ≡ 0 = ap length none in omega (arith, e, long ls)) where
      long : (xs : List (List ℕ)) → 1 ≤ length (xs ++ l ∷ [])
      long [] = omega arith
      long (x ∷ xs) = omega (arith, long xs)
going_not (Some r) ls l refused it =
    absurd (let e : Going it.0 it.1 it.2 ≡ Refused refused.0 = sym it.3.reads ∙ refused.1 in cc)

ready_not : (o : Option Resuming) (ls : List (List ℕ)) → IsRefused (reading_of ls) → IsReady o ls → ⊥
ready_not None ls refused it = it
ready_not (Some r) ls refused it =
    absurd (let e : Taken it.0 it.1 it.2 ≡ Refused refused.0 = sym it.3.reads ∙ refused.1 in cc)

-- ---- a byte

-- behind a line that isn't too long, each byte is kept
pub byte_kept : (c : Cutting) (x : List ℕ) (byte : ℕ) → is_too_long (rest_of x) ≡ false → StandsFor c (with_byte x byte)
    → StandsFor c (x ++ byte ∷ [])
byte_kept c x byte short it = subst (λ b. StandsFor c (cond b x (x ++ byte ∷ []))) short it

-- a line that was cut, and the reader's answer to it
pub line_taken : (answer : Result Got SnapFault) (o : Opening) (x y line : List ℕ) → rest_of y ≡ []
    → lines_of y ≡ lines_of x ++ line ∷ [] → StandsFor o.lines y
    → is_too_long (rest_of y) ≡ false → Answers answer o.reader (lines_of x ++ line ∷ []) → Takes answer o y
line_taken (Ok More) o x y line whole lines cut short it =
    record { cut = cut; short = short; reads = subst (IsReading o.reader) (sym lines) it }
line_taken (Ok Ready) o x y line whole lines cut short it = (whole, subst (IsReady o.reader) (sym lines) it)
line_taken (Err (BadSnapshot at)) o x y line whole lines cut short it = ap reading_of lines ∙ it
line_taken (Err Memory) o x y line whole lines cut short it = subst IsGoing (sym lines) it

-- a line that is too long
pub long_taken : (answer : Result Got SnapFault) (o : Opening) (old : Option Resuming) (x y line : List ℕ)
    → IsReading old (lines_of x)
    → is_too_long line ≡ true → lines_of y ≡ lines_of x ++ line ∷ [] → Answers answer o.reader (lines_of x ++ line ∷ [])
    → Takes answer o y
long_taken (Ok More) o old x y line was long lines it =
    absurd (going_not o.reader (lines_of x) line (with_long old (lines_of x) line was long) it)
long_taken (Ok Ready) o old x y line was long lines it =
    absurd (ready_not o.reader (lines_of x ++ line ∷ []) (with_long old (lines_of x) line was long) it)
long_taken (Err (BadSnapshot at)) o old x y line was long lines it = ap reading_of lines ∙ it
long_taken (Err Memory) o old x y line was long lines it = subst IsGoing (sym lines) it

-- a line that goes on
pub more_taken : (o : Opening) (reader : Option Resuming) (x y : List ℕ) → o.reader ≡ reader
    → IsReading reader (lines_of x) → lines_of y ≡ lines_of x
    → StandsFor o.lines y → is_too_long (rest_of y) ≡ false → OpeningStands o y
more_taken o reader x y same it lines cut short =
    record {
      cut = cut;
      short = short;
      reads =
          subst (λ r. IsReading r (lines_of y)) (sym same) (subst (IsReading reader) (sym lines) it);
    }

-- the jobs that are served again are in the lines, behind a line that goes on
pub more_jobs : (reader : Option Resuming) (x y : List ℕ) → IsReading reader (lines_of x) → lines_of y ≡ lines_of x
    → jobs_kept reader ≤ jobs_read (reading_of (lines_of y))
more_jobs reader x y it lines = subst (λ ls. jobs_kept reader ≤ jobs_read (reading_of ls)) (sym lines)
    (jobs_reading reader (lines_of x) it)

-- and with a line that was cut
pub line_jobs : (reader : Option Resuming) (x y line : List ℕ) → lines_of y ≡ lines_of x ++ line ∷ []
    → jobs_kept reader ≤ jobs_read (reading_of (lines_of x ++ line ∷ []))
    → jobs_kept reader ≤ jobs_read (reading_of (lines_of y))
line_jobs reader x y line lines few = subst (λ ls. jobs_kept reader ≤ jobs_read (reading_of ls)) (sym lines) few
