-- The account of a text with one line more, and the laws of the reading.
use Rattle.std.proofs.Common.{◌≡◌, ◌≤◌, ◌<◌, ℕ, suc, List, ◌∷◌, ◌++◌, [], refl, sym, ap, ◌∙◌, Bool, true, false, cond}
use Rattle.std.proofs.Common.{Option, Some, None, arith, nat_lt, ltb-false, lt-ltb, le-ltb, option_and_then}
use Rattle.std.proofs.lemmas.List.Sums.{fold-append}
use Rattle.dover_model.specs.declared.events.Version.TheVariants.{Three}
use Rattle.dover_model.specs.Common.{most_lines, is_too_long, fields_of, Open, Cause}
use Rattle.dover_model.specs.Feed as feed
use Rattle.dover_model.specs.FeedLine as feeds
use Rattle.dover_model.proofs.lists.Tests.{never}
use Rattle.dialogue.specs.Taking.{IsGood, IsOrderly}
use Rattle.dialogue.proofs.Reading.{closed_answered, closed_stays}
use Rattle.task_words.specs.reading.Lines as tasks
use Rattle.task_words.specs.declared.reading.lines.TaskLine.TheVariants.{Declared, Factored, Task, End}
use Rattle.ratio_word.specs.Lines.{text_line, of_feed}
use Rattle.ratio_word.specs.Account.{TextAccount, no_lines, cause_of, with_fault, with_line, read_line, is_open}
use Rattle.ratio_word.specs.Account.{next_line, account_of_lines}
use Rattle.ratio_word.specs.Talk.{ratio_reading}
use Rattle.ratio_word.specs.declared.lines.TextLine.{TextLine}
use Rattle.ratio_word.specs.declared.lines.TextLine.TheVariants.{Plain, Job, Mark}

-- ---- a line

-- the account with its next line counted
abbrev pub counted : TextAccount → TextAccount
counted a = record a { lines = suc a.lines }

-- the account after a line that is counted, where it has one of the forms or none
abbrev pub after_form : TextAccount → Option TextLine → TextAccount
after_form a o = elim o [ None ↦ with_fault a feed.Line | Some line ↦ with_line a line (cause_of a line) ]

abbrev after_count : TextAccount → Bool → Option TextLine → TextAccount
after_count a many o = cond many (with_fault a feed.Lines) (after_form a o)

-- the next line of an account that goes on
pub next_of : (ls : List (List ℕ)) (l : List ℕ) → (account_of_lines ls).standing ≡ Open
    → account_of_lines (ls ++ l ∷ []) ≡ read_line (counted (account_of_lines ls)) l
next_of ls l opened = cc (fold-append next_line no_lines ls (l ∷ []))

-- a line too many
pub many_lines : (a : TextAccount) (l : List ℕ) → most_lines Three < a.lines
    → read_line a l ≡ with_fault a feed.Lines
many_lines a l many = ap (λ b. after_count a b (text_line l)) (lt-ltb (most_lines Three) a.lines many)

-- a line that isn't
pub line_as : (a : TextAccount) (l : List ℕ) (o : Option TextLine) → a.lines ≤ most_lines Three → text_line l ≡ o
    → read_line a l ≡ after_form a o
line_as a l o few is = ap (λ b. after_count a b (text_line l)) (le-ltb (most_lines Three) a.lines few)
    ∙ ap (after_form a) is

-- ---- a text that grows

-- a line, by whether it is too long
abbrev read_by : Bool → List ℕ → Option TextLine
read_by long l = elim (cond long None (tasks.line_of_fields (fields_of l))) [
  | Some line ↦ Some (Plain line)
  | None ↦ option_and_then of_feed (cond long None (feeds.line_of_fields (fields_of l)))
]

-- lines that are too long count as one and the same
unread : (l : List ℕ) → is_too_long l ≡ true → text_line l ≡ None
unread l long = ap (λ b. read_by b l) long

pub too_long_same : (a : TextAccount) (l m : List ℕ) → is_too_long l ≡ true → is_too_long m ≡ true
    → next_line a l ≡ next_line a m
too_long_same a l m long_l long_m =
    ap (λ o. cond (is_open a) (after_count (counted a) (nat_lt (most_lines Three) (suc a.lines)) o) a)
    (unread l long_l ∙ sym (unread m long_m))

-- an account that doesn't go on stays
pub closed : (a : TextAccount) (l : List ℕ) → is_open a ≡ false → next_line a l ≡ a
closed a l over = ap (λ b. cond b (read_line (counted a) l) a) over

-- ---- the lines of a text that goes on

-- a line that can be read isn't too long
read_short : (l : List ℕ) (line : TextLine) → text_line l ≡ Some line → is_too_long l ≡ false
read_short l line read = by_length (is_too_long l) refl read where
  by_length : (b : Bool) → is_too_long l ≡ b → read_by b l ≡ Some line → is_too_long l ≡ false
  by_length true long none = absurd (let e : None ≡ Some line = none in cc)
  by_length false fits some = fits

-- a line changes no count
same_count : (a : TextAccount) (line : TextLine) (o : Option Cause) → (with_line a line o).lines ≡ a.lines
same_count a (Plain (Declared p q version)) None = refl
same_count a (Plain (Factored p q version b c)) None = refl
same_count a (Plain (Task task)) None = refl
same_count a (Plain End) None = refl
same_count a (Job release work deadline value) None = refl
same_count a Mark None = refl
same_count a line (Some cause) = refl

-- where an account goes on behind a line, the line was counted, and was no longer than a line may be
pub next_good : (a : TextAccount) (l : List ℕ) → is_open (next_line a l) ≡ true
    → IsGood (λ (b : TextAccount). b.lines) a l (next_line a l)
next_good a l on = by_open (is_open a) refl on where
  by_count : (b : Bool) (o : Option TextLine) → nat_lt (most_lines Three) (suc a.lines) ≡ b → text_line l ≡ o
      → is_open (after_count (counted a) b o) ≡ true
      → IsGood (λ (b : TextAccount). b.lines) a l (after_count (counted a) b o)
  by_count true o many read opened = never opened
  by_count false None few read opened = never opened
  by_count false (Some line) few read opened = record {
    short = read_short l line read;
    few = let most : suc a.lines ≤ most_lines Three = ltb-false _ _ few in omega (arith, most);
    counted = same_count (counted a) line (cause_of (counted a) line);
  }

  by_open : (b : Bool) → is_open a ≡ b → is_open (cond b (read_line (counted a) l) a) ≡ true
      → IsGood (λ (b : TextAccount). b.lines) a l (cond b (read_line (counted a) l) a)
  by_open true is opened = by_count (nat_lt (most_lines Three) (suc a.lines)) (text_line l) refl refl opened
  by_open false is opened = never (sym is ∙ opened)

-- the laws of the reading
abbrev pub orderly : IsOrderly ratio_reading
orderly = record {
  opens = refl;
  stays = closed_stays ratio_reading closed;
  answered = closed_answered ratio_reading closed;
  lacking = λ a l none. none;
  same = too_long_same;
  lines = λ a. a.lines;
  none = refl;
  good = next_good;
}
