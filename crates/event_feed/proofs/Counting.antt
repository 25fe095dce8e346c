-- Each line of an open account is counted.
use Rattle.std.proofs.Common.{◌≡◌, ℕ, suc, ◌+◌, List, [], ◌∷◌, length, refl, cond, Bool, true, false, Option, Some}
use Rattle.std.proofs.Common.{None, arith, fold, nat_lt}
use Rattle.dover_model.specs.declared.events.Refusal.{Refusal}
use Rattle.dover_model.specs.Common.{JobFacts, Session, refuses_lines, refused_mark, FeedLine, RatioLine, FactorLine}
use Rattle.dover_model.specs.Common.{JobLine, TickLine, DoneLine, EndLine, feed_line, Account, Cause, Standing, Open}
use Rattle.dover_model.specs.Common.{Ended, Faulty, cause_of, with_line, with_fault, with_refused_at, read_line}
use Rattle.dover_model.specs.Common.{next_line, no_lines, account_of_lines, NotAdmitted, most_lines_in}
use Rattle.dover_model.specs.Feed as model
use Rattle.dover_model.specs.Feed.{with_refused_job}

-- the account after a refused job
abbrev after_refusal : Account → JobFacts → Refusal → Option Session → Account
after_refusal a j refusal None = a
after_refusal a j refusal (Some S) =
    cond (refuses_lines S.rules.version) (with_refused_at a (refused_mark a.mark j refusal) j refusal) (with_fault a
    (NotAdmitted refusal))

-- a refused job changes no count
refused_lines : (a : Account) (j : JobFacts) (refusal : Refusal) (session : Option Session)
    → (after_refusal a j refusal session).lines ≡ a.lines
refused_lines a j refusal None = refl
refused_lines a j refusal (Some S) = by_version (refuses_lines S.rules.version) where
  by_version : (two : Bool)
      → (cond two (with_refused_at a (refused_mark a.mark j refusal) j refusal)
      (with_fault a (NotAdmitted refusal))).lines ≡ a.lines
  by_version true = refl
  by_version false = refl

-- a line that is counted changes no count
formed_lines : (a : Account) (line : FeedLine) (cause : Option Cause) → (with_line a line cause).lines ≡ a.lines
formed_lines a (RatioLine p q version) None = refl
formed_lines a (FactorLine p q version b c) None = refl
formed_lines a (JobLine j) None = refl
formed_lines a (TickLine t) None = refl
formed_lines a (DoneLine t n) None = refl
formed_lines a EndLine None = refl
formed_lines a (RatioLine p q version) (Some cause) = refl
formed_lines a (FactorLine p q version b c) (Some cause) = refl
formed_lines a (JobLine j) (Some (NotAdmitted refusal)) = refused_lines a j refusal a.session
formed_lines a (JobLine j) (Some model.Lines) = refl
formed_lines a (JobLine j) (Some model.Line) = refl
formed_lines a (JobLine j) (Some model.Declared) = refl
formed_lines a (JobLine j) (Some model.Order) = refl
formed_lines a (JobLine j) (Some model.NotDone) = refl
formed_lines a (JobLine j) (Some model.Short) = refl
formed_lines a (TickLine t) (Some cause) = refl
formed_lines a (DoneLine t n) (Some model.NotDone) = refl
formed_lines a (DoneLine t n) (Some (NotAdmitted refusal)) = refl
formed_lines a (DoneLine t n) (Some model.Lines) = refl
formed_lines a (DoneLine t n) (Some model.Line) = refl
formed_lines a (DoneLine t n) (Some model.Declared) = refl
formed_lines a (DoneLine t n) (Some model.Order) = refl
formed_lines a (DoneLine t n) (Some model.Short) = refl
formed_lines a EndLine (Some cause) = refl

-- the account after a line that has one of the forms, if it does
abbrev pub after_form : Account → Option FeedLine → Account
after_form a None = with_fault a model.Line
after_form a (Some line) = with_line a line (cause_of a line)

-- nor does any line
read_lines : (a : Account) (bytes : List ℕ) → (read_line a bytes).lines ≡ a.lines
read_lines a bytes = by_count (nat_lt (most_lines_in a.session) a.lines) (feed_line bytes) where
  by_count : (many : Bool) (line : Option FeedLine)
      → (cond many (with_fault a model.Lines) (after_form a line)).lines ≡ a.lines
  by_count true line = refl
  by_count false None = refl
  by_count false (Some l) = formed_lines a l (cause_of a l)

-- the next line of an open account is counted
pub next_counted : (lines : ℕ) (session : Option Session) (mark : ℕ) (standing : Standing) (bytes : List ℕ)
    → (next_line (record { lines = lines; session = session; mark = mark; standing = standing }) bytes).standing ≡ Open
    → (standing ≡ Open) × ((next_line
    (record { lines = lines; session = session; mark = mark; standing = standing }) bytes).lines ≡ suc lines)
next_counted lines session mark Open bytes opened =
    (refl, read_lines (record { lines = suc lines; session = session; mark = mark; standing = Open }) bytes)
next_counted lines session mark Ended bytes opened = absurd (let e : Ended ≡ Open = opened in cc)
next_counted lines session mark (Faulty line cause) bytes opened =
    absurd (let e : Faulty line cause ≡ Open = opened in cc)

-- all lines behind an account that stays open are counted
pub all_counted : (ls : List (List ℕ)) (a : Account) → (fold next_line a ls).standing ≡ Open
    → (a.standing ≡ Open) × ((fold next_line a ls).lines ≡ a.lines + length ls)
all_counted [] a opened = (opened, omega arith)
all_counted (l ∷ ls) a opened =
    let more : ((next_line a l).standing ≡ Open)
    × ((fold next_line (next_line a l) ls).lines ≡ (next_line a l).lines + length ls) =
    all_counted ls (next_line a l) opened in
    let one : (a.standing ≡ Open) × ((next_line a l).lines ≡ suc a.lines) =
    next_counted a.lines a.session a.mark a.standing l more.0 in
    (one.0, omega (arith, more.1, one.1))

-- an open account counts its lines
pub lines_counted : (ls : List (List ℕ)) → (account_of_lines ls).standing ≡ Open
    → (account_of_lines ls).lines ≡ length ls
lines_counted ls opened = let it : (no_lines.standing ≡ Open) × ((account_of_lines ls).lines ≡ 0 + length ls) =
    all_counted ls no_lines opened in
    omega (arith, it.1)
