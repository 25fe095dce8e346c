-- The account of a text that grows, and of one that goes on.
use Rattle.std.proofs.Common.{◌≡◌, ◌≤◌, ◌<◌, ◌+◌, ℕ, List, ◌∷◌, ◌++◌, [], length, refl, sym, ap, ◌∙◌, subst, Bool}
use Rattle.std.proofs.Common.{true, false, cond, Option, Some, None, arith, nat_le, ◌==◌, fold, ltb-false, codes}
use Rattle.std.proofs.Common.{bytes_eq, append-nil, length-append}
use Rattle.std.proofs.lemmas.Bool.{leb-false}
use Rattle.std.proofs.lemmas.List.Sums.{fold-append}
use Rattle.std.proofs.lemmas.Slice.Eq.{bytes_eq-Decides}
use Rattle.dover_model.specs.declared.events.Event.{Event}
use Rattle.dover_model.specs.declared.events.Event.TheVariants.{Release, Run, Preempt, Take, Complete, Abandon, End}
use Rattle.dover_model.specs.declared.events.Version.TheVariants.{Two}
use Rattle.dover_model.specs.Common.{most_lines, lines_of, whole_lines, rest_of, is_too_long, fields_of}
use Rattle.dover_model.proofs.texts.GrowingTexts.{read_append}
use Rattle.line_text.proofs.Lengths.{AreNotTooLong, text_few}
use Rattle.line_text.specs.traces.Reading.{line_of_fields}
use Rattle.schedule_judge.specs.declared.causes.Cause.{Cause}
use Rattle.schedule_judge.specs.declared.causes.Cause.TheVariants as cause
use Rattle.schedule_judge.specs.declared.intake.Standing.{Standing}
use Rattle.schedule_judge.specs.declared.intake.Standing.TheVariants.{Wrong, TooMany}
use Rattle.schedule_judge.specs.Legal.{Schedule, blank, runs, jobs_stopped, after, cause_of}
use Rattle.schedule_judge.specs.Account.{Account, no_lines, step_of_read, step_in, standing_so, is_too_many}
use Rattle.schedule_judge.specs.Account.{with_step, read_step}
use Rattle.schedule_judge.specs.Account.{counted, is_open, next_line, account_of_lines, account}

-- ---- a line

-- one more line
pub next_of : (ls : List (List ℕ)) (l : List ℕ) → account_of_lines (ls ++ l ∷ []) ≡ next_line (account_of_lines ls) l
next_of ls l = fold-append next_line no_lines ls (l ∷ [])

-- the account behind a line with this step, or none
abbrev pub after_step : Account → Option Event → Account
after_step a o = elim o [ None ↦ standing_so a (Wrong cause.Line) | Some e ↦ read_step a e ]

-- the same by whether it is the first line, and then the header
abbrev pub after_line : Account → (first header : Bool) → Option Event → Account
after_line a first header o = cond first (cond header a (standing_so a (Wrong cause.Header))) (after_step a o)

-- the same by whether the text goes on, and has too many lines
abbrev after_next : Account → (on many header : Bool) → Option Event → Account
after_next a on many header o =
    cond on (cond many (standing_so a TooMany) (after_line (counted a) ((counted a).lines == 1) header o)) a

-- ---- a text that grows

-- a line that is too long has no step
unread : (l : List ℕ) → is_too_long l ≡ true → step_in l ≡ None
unread l long = ap (λ b. cond b None (step_of_read (line_of_fields (fields_of l)))) long

-- nor is it the header
no_header : (l : List ℕ) → is_too_long l ≡ true → bytes_eq l (codes "schedule") ≡ false
no_header l long = by (bytes_eq l (codes "schedule")) refl where
  by : (b : Bool) → bytes_eq l (codes "schedule") ≡ b → b ≡ false
  by true same = sym long ∙ ap is_too_long ((bytes_eq-Decides l (codes "schedule")).0 same)
  by false apart = refl

too_long_same : (a : Account) (l m : List ℕ) → is_too_long l ≡ true → is_too_long m ≡ true
    → next_line a l ≡ next_line a m
too_long_same a l m long_l long_m =
    ap (λ h. after_next a (is_open a) (nat_le (most_lines Two) a.lines) h (step_in l))
    (no_header l long_l ∙ sym (no_header m long_m))
    ∙ ap (after_next a (is_open a) (nat_le (most_lines Two) a.lines) (bytes_eq m (codes "schedule")))
    (unread l long_l ∙ sym (unread m long_m))

account_append : (F G : List ℕ) → (ls : List (List ℕ)) × (account (F ++ G) ≡ fold next_line (account F) ls)
account_append F G = read_append next_line no_lines too_long_same F G

-- an account that doesn't go on stays
next_closed : (a : Account) (l : List ℕ) → is_open a ≡ false → next_line a l ≡ a
next_closed a l closed =
    ap (λ b. after_next a b (nat_le (most_lines Two) a.lines) (bytes_eq l (codes "schedule")) (step_in l)) closed

closed_stays : (ls : List (List ℕ)) (a : Account) → is_open a ≡ false → fold next_line a ls ≡ a
closed_stays [] a closed = refl
closed_stays (l ∷ ls) a closed =
    ap (λ b. fold next_line b ls) (next_closed a l closed) ∙ closed_stays ls a closed

pub closed_account : (F G : List ℕ) → is_open (account F) ≡ false → account (F ++ G) ≡ account F
closed_account F G closed = let it = account_append F G in it.1 ∙ closed_stays it.0 (account F) closed

-- ---- the lines of a text that goes on

-- a line that has a step isn't too long
step_few : (l : List ℕ) (e : Event) → step_in l ≡ Some e → length l ≤ 128
step_few l e read = by (is_too_long l) refl read where
  by : (b : Bool) → is_too_long l ≡ b → cond b None (step_of_read (line_of_fields (fields_of l))) ≡ Some e
      → length l ≤ 128
  by true long none = absurd (let clash : None ≡ Some e = none in cc)
  by false fits some = ltb-false _ _ fits

-- nor is the header
header_few : (l : List ℕ) → bytes_eq l (codes "schedule") ≡ true → length l ≤ 128
header_few l same =
    let is : l ≡ codes "schedule" = (bytes_eq-Decides l (codes "schedule")).0 same in
    let eight : length l ≡ 8 = ap (λ (x : List ℕ). length x) is in omega (arith, eight)

-- a step changes no count
step_count : (a : Account) (e : Event) → (read_step a e).lines ≡ a.lines
step_count a e = by (is_too_many a.schedule e) (cause_of a.schedule e) where
  by : (b : Bool) (o : Option Cause) → (cond b (standing_so a TooMany) (with_step a e o)).lines ≡ a.lines
  by true o = refl
  by false None = refl
  by false (Some c) = refl

-- where an account goes on behind a line, it went on before, the line was counted, and was no longer than a line may be
pub record IsGood (a : Account) (l : List ℕ) (next : Account) : Type 0 where
  pub before : is_open a ≡ true
  pub few : a.lines < most_lines Two
  pub short : length l ≤ 128
  pub lines : next.lines ≡ a.lines + 1

pub next_good : (a : Account) (l : List ℕ) → is_open (next_line a l) ≡ true → IsGood a l (next_line a l)
next_good a l on = by (is_open a) (nat_le (most_lines Two) a.lines) ((counted a).lines == 1)
    (bytes_eq l (codes "schedule")) (step_in l) refl refl refl refl on where
      whole : (o m f h : Bool) → Option Event → Account
      whole o m f h s = cond o (cond m (standing_so a TooMany) (after_line (counted a) f h s)) a

      by : (o m f h : Bool) (s : Option Event) → is_open a ≡ o → nat_le (most_lines Two) a.lines ≡ m
          → bytes_eq l (codes "schedule") ≡ h → step_in l ≡ s → is_open (whole o m f h s) ≡ true
          → IsGood a l (whole o m f h s)
      by false m f h s off many header step good = absurd (let clash : false ≡ true = sym off ∙ good in cc)
      by true true f h s o many header step good = absurd (let clash : false ≡ true = good in cc)
      by true false true true s o many header step good =
          record { before = o; few = leb-false _ _ many; short = header_few l header; lines = omega arith }
      by true false true false s o many header step good = absurd (let clash : false ≡ true = good in cc)
      by true false false h None o many header step good = absurd (let clash : false ≡ true = good in cc)
      by true false false h (Some e) o many header step good = record {
        before = o;
        few = leb-false _ _ many;
        short = step_few l e step;
        lines = let same = step_count (counted a) e in omega (arith, same);
      }

-- the lines of an account that goes on are few and short
pub record AreGood (ls : List (List ℕ)) (a : Account) : Type 0 where
  pub first : is_open a ≡ true
  pub short : AreNotTooLong ls
  pub few : a.lines ≤ most_lines Two → a.lines + length ls ≤ most_lines Two

pub lines_good : (ls : List (List ℕ)) (a : Account) → is_open (fold next_line a ls) ≡ true → AreGood ls a
lines_good [] a on = record { first = on; short = tt; few = λ few. omega arith }
lines_good (l ∷ ls) a on =
    let rest : AreGood ls (next_line a l) = lines_good ls (next_line a l) on in
    let good : IsGood a l (next_line a l) = next_good a l rest.first in
    record {
      first = good.before;
      short = (good.short, rest.short);
      few = λ few. let lines = good.lines in let low = good.few in
          let all = rest.few (omega (arith, lines, low)) in omega (arith, all, lines);
    }

-- a text that goes on has at most so many bytes
pub open_bytes : (x : List ℕ) → is_open (account x) ≡ true → is_too_long (rest_of x) ≡ false → length x < 516_000_129
open_bytes x on short =
    let whole : lines_of x ≡ whole_lines x = ap (λ b. whole_lines x ++ cond b (rest_of x ∷ []) []) short
    ∙ append-nil (whole_lines x) in
    let good = lines_good (lines_of x) no_lines on in
    let few : 0 + length (whole_lines x) ≤ most_lines Two =
    subst (λ ls. 0 + length ls ≤ most_lines Two) whole (good.few (omega arith)) in
    omega (
      arith,
      text_few x (most_lines Two) (subst AreNotTooLong whole good.short) (omega (arith, few)) (ltb-false _ _ short),
    )

-- ---- the steps are few

-- a step is one more
steps_after : (s : Schedule) (e : Event) → length (after s e).steps ≡ length s.steps + 1
steps_after s (Abandon at n) = by (runs s n) where
  with_it : Schedule
  with_it = record s { steps = s.steps ++ Abandon at n ∷ [] }

  by : (b : Bool) → length (cond b (record with_it { jobs = jobs_stopped s.jobs s.turn at; turn = None })
      with_it).steps ≡ length s.steps + 1
  by true = length-append s.steps (Abandon at n ∷ [])
  by false = length-append s.steps (Abandon at n ∷ [])
steps_after s (Release n j) = length-append s.steps (Release n j ∷ [])
steps_after s (Run at n) = length-append s.steps (Run at n ∷ [])
steps_after s (Preempt at stops starts) = length-append s.steps (Preempt at stops starts ∷ [])
steps_after s (Take at stops starts) = length-append s.steps (Take at stops starts ∷ [])
steps_after s (Complete at n) = length-append s.steps (Complete at n ∷ [])
steps_after s (End value) = length-append s.steps (End value ∷ [])

-- no more steps than lines, and no more lines than a text may have
pub record AreFew (a : Account) : Type 0 where
  pub steps : length a.schedule.steps ≤ a.lines
  pub lines : a.lines ≤ most_lines Two

few_next : (a : Account) (l : List ℕ) → AreFew a → AreFew (next_line a l)
few_next a l few = by (is_open a) (nat_le (most_lines Two) a.lines) ((counted a).lines == 1)
    (bytes_eq l (codes "schedule")) (step_in l) refl where
      so : (s : Standing) → a.lines < most_lines Two → AreFew (standing_so (counted a) s)
      so s low = let steps = few.steps in record { steps = omega (arith, steps); lines = omega (arith, low) }

      step : (e : Event) → a.lines < most_lines Two → AreFew (read_step (counted a) e)
      step e low = by_step (is_too_many a.schedule e) (cause_of a.schedule e) where
        by_step : (b : Bool) (o : Option Cause)
            → AreFew (cond b (standing_so (counted a) TooMany) (with_step (counted a) e o))
        by_step true o = so TooMany low
        by_step false None = let steps = few.steps in let more = steps_after a.schedule e in
            record { steps = omega (arith, steps, more); lines = omega (arith, low) }
        by_step false (Some c) = so (Wrong c) low

      by : (o m f h : Bool) (s : Option Event) → nat_le (most_lines Two) a.lines ≡ m
          → AreFew (cond o (cond m (standing_so a TooMany) (after_line (counted a) f h s)) a)
      by false m f h s many = few
      by true true f h s many = record { steps = few.steps; lines = few.lines }
      by true false true true s many = so a.standing (leb-false _ _ many)
      by true false true false s many = so (Wrong cause.Header) (leb-false _ _ many)
      by true false false h None many = so (Wrong cause.Line) (leb-false _ _ many)
      by true false false h (Some e) many = step e (leb-false _ _ many)

few_fold : (ls : List (List ℕ)) (a : Account) → AreFew a → AreFew (fold next_line a ls)
few_fold [] a few = few
few_fold (l ∷ ls) a few = few_fold ls (next_line a l) (few_next a l few)

-- so of any text
pub few_steps : (x : List ℕ) → length (account x).schedule.steps ≤ 4_000_000
few_steps x = let few = few_fold (lines_of x) no_lines (record { steps = omega arith; lines = omega arith }) in
    let steps = few.steps in let lines = few.lines in omega (arith, steps, lines)

-- ---- what each good step keeps

-- what holds of the blank schedule, and stays behind each step that may come, holds of each account
module _ (P : Schedule → Type 0)
    (step : (s : Schedule) (e : Event) → is_too_many s e ≡ false → cause_of s e ≡ None → P s → P (after s e)) where
  keeps_step : (a : Account) (e : Event) → P a.schedule → P (read_step a e).schedule
  keeps_step a e kept = by (is_too_many a.schedule e) (cause_of a.schedule e) refl refl where
    by : (b : Bool) (o : Option Cause) → is_too_many a.schedule e ≡ b → cause_of a.schedule e ≡ o
        → P (cond b (standing_so a TooMany) (with_step a e o)).schedule
    by true o many none = kept
    by false None many none = step a.schedule e many none kept
    by false (Some c) many some = kept

  keeps_next : (a : Account) (l : List ℕ) → P a.schedule → P (next_line a l).schedule
  keeps_next a l kept = by (is_open a) (nat_le (most_lines Two) a.lines) ((counted a).lines == 1)
      (bytes_eq l (codes "schedule")) (step_in l) where
        by : (o m f h : Bool) (s : Option Event)
            → P (cond o (cond m (standing_so a TooMany) (after_line (counted a) f h s)) a).schedule
        by false m f h s = kept
        by true true f h s = kept
        by true false true true s = kept
        by true false true false s = kept
        by true false false h None = kept
        by true false false h (Some e) = keeps_step (counted a) e kept

  keeps_all : (ls : List (List ℕ)) (a : Account) → P a.schedule → P (fold next_line a ls).schedule
  keeps_all [] a kept = kept
  keeps_all (l ∷ ls) a kept = keeps_all ls (next_line a l) (keeps_next a l kept)

  pub account_keeps : P blank → (bytes : List ℕ) → P (account bytes).schedule
  account_keeps begins bytes = keeps_all (lines_of bytes) no_lines begins
