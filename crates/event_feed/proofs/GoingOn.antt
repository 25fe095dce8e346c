-- A feed that goes on has few lines and few bytes, and the account of one that doesn't stays.
use Rattle.std.proofs.Common.{◌≡◌, ◌≤◌, ◌<◌, ◌+◌, ℕ, suc, List, ◌∷◌, ◌++◌, [], length, refl, ap, ◌∙◌, subst, Bool, true}
use Rattle.std.proofs.Common.{false, cond, Option, Some, None, arith, nat_lt, fold, ltb-false, ltb-true, append-nil}
use Rattle.std.proofs.lemmas.Bool.{false_from_ne_true}
use Rattle.dover_model.specs.Common.{most_lines, in_lines, lines_of, whole_lines, rest_of, is_too_long, fields_of}
use Rattle.dover_model.specs.Common.{FeedLine, feed_line, line_of_fields, Session, Account, Standing, Open, Ended}
use Rattle.dover_model.specs.Common.{Faulty, Lines, Cause, no_lines, is_open, next_line, read_line, with_fault, account}
use Rattle.dover_model.specs.Common.{most_lines_in, due, closed, fault_text}
use Rattle.dover_model.specs.declared.events.Version.TheVariants.{Three}
use Rattle.dover_model.specs.Feed.{Short}
use Rattle.dover_model.proofs.sessions.Accounts.{account_append}
use Rattle.dover_model.proofs.valid.Limiting.{lines_most_in}
use Rattle.line_text.proofs.Lengths.{AreNotTooLong, text_few}
use Rattle.event_feed.proofs.Counting.{after_form, next_counted, all_counted}

-- ---- an account that doesn't go on

-- it stays
pub closed_stays : (ls : List (List ℕ)) (a : Account) → is_open a ≡ false → fold next_line a ls ≡ a
closed_stays [] a closed = refl
closed_stays (l ∷ ls) a closed =
    ap (λ b. fold next_line b ls) (ap (λ x. cond x (read_line (record a { lines = suc a.lines }) l) a) closed)
    ∙ closed_stays ls a closed

-- so does that of more bytes
pub closed_account : (F G : List ℕ) → is_open (account F) ≡ false → account (F ++ G) ≡ account F
closed_account F G closed = let it = account_append F G in it.1 ∙ closed_stays it.0 (account F) closed

-- where it doesn't go on, the end of the input adds nothing to what is due
pub closed_due : (x : List ℕ) → is_open (account x) ≡ false → closed x ≡ due x
closed_due x over =
    ap (λ b. due x ++ in_lines (cond b (fault_text (suc (length (whole_lines x))) Short ∷ []) [])) over
    ∙ append-nil (due x)

-- ---- the lines of a feed that goes on

-- a line that can be read isn't too long
read_short : (l : List ℕ) (line : FeedLine) → feed_line l ≡ Some line → length l ≤ 128
read_short l line read = by_length (is_too_long l) refl read where
  by_length : (b : Bool) → is_too_long l ≡ b → cond b None (line_of_fields (fields_of l)) ≡ Some line → length l ≤ 128
  by_length true long none = absurd (let e : None ≡ Some line = none in cc)
  by_length false fits some = ltb-false _ _ fits

-- a line at fault doesn't go on
never_open : (a : Account) (cause : Cause) → (with_fault a cause).standing ≡ Open → ⊥
never_open a cause opened = let e : Faulty a.lines cause ≡ Open = opened in cc

-- where an account goes on after a line, the line was counted, and was no longer than a line may be
read_good : (a : Account) (l : List ℕ) → (read_line a l).standing ≡ Open
    → (a.lines ≤ most_lines Three) × (length l ≤ 128)
read_good a l opened = by_count (nat_lt most a.lines) (feed_line l) refl refl opened where
  most : ℕ
  most = most_lines_in a.session

  by_count : (b : Bool) (o : Option FeedLine) → nat_lt most a.lines ≡ b → feed_line l ≡ o
      → (cond b (with_fault a Lines) (after_form a o)).standing ≡ Open → (a.lines ≤ most_lines Three) × (length l ≤ 128)
  by_count true o many read on = absurd (never_open a _ on)
  by_count false None few read on = absurd (never_open a _ on)
  by_count false (Some line) few read on = (
    omega (arith, ltb-false _ _ few, lines_most_in a.session),
    read_short l line read,
  )

-- the same of the next line
next_good : (lines : ℕ) (session : Option Session) (mark : ℕ) (standing : Standing) (l : List ℕ)
    → (next_line (record { lines = lines; session = session; mark = mark; standing = standing }) l).standing ≡ Open
    → (suc lines ≤ most_lines Three) × (length l ≤ 128)
next_good lines session mark Open l opened =
    read_good (record { lines = suc lines; session = session; mark = mark; standing = Open }) l opened
next_good lines session mark Ended l opened = absurd (let e : Ended ≡ Open = opened in cc)
next_good lines session mark (Faulty line cause) l opened = absurd (let e : Faulty line cause ≡ Open = opened in cc)

-- and is one more
pub good_line : (a : Account) (l : List ℕ) → (next_line a l).standing ≡ Open
    → (suc a.lines ≤ most_lines Three) × (length l ≤ 128) × ((next_line a l).lines ≡ suc a.lines)
good_line a l on =
    let good = next_good a.lines a.session a.mark a.standing l on in
    (good.0, good.1, (next_counted a.lines a.session a.mark a.standing l on).1)

-- the lines of an account that goes on are few and short
lines_good : (ls : List (List ℕ)) (a : Account) → (fold next_line a ls).standing ≡ Open
    → AreNotTooLong ls × (a.lines ≤ most_lines Three → a.lines + length ls ≤ most_lines Three)
lines_good [] a opened = (tt, λ few. omega arith)
lines_good (l ∷ ls) a opened =
    let on : (next_line a l).standing ≡ Open = (all_counted ls (next_line a l) opened).0 in
    let good = next_good a.lines a.session a.mark a.standing l on in
    let count : (next_line a l).lines ≡ suc a.lines = (next_counted a.lines a.session a.mark a.standing l on).1 in
    let rest = lines_good ls (next_line a l) opened in
    let all : (next_line a l).lines + length ls ≤ most_lines Three = rest.1 (omega (arith, good.0)) in
    ((good.1, rest.0), λ few. omega arith)

-- the last of lines of which none is too long isn't
last_short : (ls : List (List ℕ)) (l : List ℕ) → AreNotTooLong (ls ++ l ∷ []) → length l ≤ 128
last_short [] l short = short.0
last_short (m ∷ ls) l short = last_short ls l short.1

-- in a feed that goes on, no line that has begun is too long
pub open_short : (x : List ℕ) → (account x).standing ≡ Open → is_too_long (rest_of x) ≡ false
open_short x opened = false_from_ne_true (is_too_long (rest_of x))
    (λ is. let ended : lines_of x ≡ whole_lines x ++ rest_of x ∷ [] =
    ap (λ b. whole_lines x ++ cond b (rest_of x ∷ []) []) is in
    let good = lines_good (lines_of x) no_lines opened in
    let few : length (rest_of x) ≤ 128 =
    last_short (whole_lines x) (rest_of x) (subst AreNotTooLong ended good.0) in
    absurd (omega (arith, few, ltb-true 128 (length (rest_of x)) is)))

-- a feed that goes on has at most so many bytes
pub open_bytes : (x : List ℕ) → (account x).standing ≡ Open → is_too_long (rest_of x) ≡ false
    → length x < 2_064_000_000_129
open_bytes x opened short =
    let whole : lines_of x ≡ whole_lines x = ap (λ b. whole_lines x ++ cond b (rest_of x ∷ []) []) short
    ∙ append-nil (whole_lines x) in
    let good = lines_good (lines_of x) no_lines opened in
    let few : 0 + length (whole_lines x) ≤ most_lines Three =
    subst (λ ls. 0 + length ls ≤ most_lines Three) whole (good.1 (omega arith)) in
    omega (
      arith,
      text_few x (most_lines Three) (subst AreNotTooLong whole good.0) (omega (arith, few))
          (ltb-false _ _ short),
    )
