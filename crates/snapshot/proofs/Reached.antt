-- The mark of a feed that goes on is that behind its items, or there is a line that is no item; and its lines are few.
use Rattle.dover_model.specs.Common.{fraction, with_factor, last_tick_in, most_lines, JobFacts, Declaration, Item}
use Rattle.dover_model.specs.Common.{Session, JobItem, RefusedItem, FinishItem, Refused, RefusedJob, RefusedDone}
use Rattle.dover_model.specs.Common.{EarlyFinish, mark_after, with_item, with_named, new_session, early_at, is_right}
use Rattle.dover_model.specs.Common.{refuses_lines, may_finish_early, late_refusal, FeedLine, RatioLine, FactorLine}
use Rattle.dover_model.specs.Common.{JobLine, TickLine, DoneLine, feed_line, Lines, Line, Declared, Order, NotAdmitted}
use Rattle.dover_model.specs.Common.{NotDone, Standing, Open, Ended, Faulty, Account, declared_rules, factor_rules}
use Rattle.dover_model.specs.Common.{first_line_cause, late_cause, later_line_cause, with_fault, with_refused_at}
use Rattle.dover_model.specs.Common.{refusal_in, refused_mark, with_line, next_line, most_lines_in, Cause}
use Rattle.std.proofs.Common.{◌≡◌, ◌⊎◌, inl, inr, ℕ, suc, ◌+◌, ◌≤◌, ◌<◌, List, [], ◌∷◌, ◌++◌, length, length-append}
use Rattle.std.proofs.Common.{refl, sym, ap, subst, Bool, true, false, cond, ◌||◌, arith, Option, Some, None, is_some}
use Rattle.std.proofs.Common.{nat_lt, max, fold, option_map, ltb-false}
use Rattle.std.specs.Option.{option_map_or}
use Rattle.dover_model.specs.declared.events.Version.{Version}
use Rattle.dover_model.specs.declared.events.Version.TheVariants.{One}
use Rattle.dover_model.specs.declared.events.Refusal.{Refusal}
use Rattle.dover_model.proofs.sessions.Accounts.{Holds, HoldsBy, HoldsOpen, IsKept, account_with, mark_behind}
use Rattle.dover_model.proofs.sessions.Growing.{early_says}
use Rattle.event_feed.proofs.Counting.{after_form}

-- there are lines for the ratio and the items, and the mark is that behind them, or there is a line more
pub record Reached (items : List Item) (mark lines : ℕ) : Type 0 where
  pub enough : length items + 1 ≤ lines
  pub by : (mark ≤ mark_after 0 items) ⊎ (length items + 1 < lines)

-- the same of an account that goes on; before the line of the ratio the mark is 0
abbrev pub ReachesBy : Standing → Option Session → ℕ → ℕ → Type 0
ReachesBy Open None mark lines = mark ≡ 0
ReachesBy Open (Some S) mark lines = Reached S.items mark lines
ReachesBy Ended session mark lines = Unit {0}
ReachesBy (Faulty line cause) session mark lines = Unit {0}

abbrev pub Reaches : Account → Type 0
Reaches a = ReachesBy a.standing a.session a.mark a.lines

-- ---- the first line

first_reaches : (lines mark : ℕ) → mark ≡ 0 → (line : FeedLine)
    → Reaches (with_line (account_with (suc lines) None mark Open) line (first_line_cause line))
first_reaches lines mark zero_mark (RatioLine p q version) =
    by_rules (declared_rules (fraction p q) version) refl where
      by_rules : (o : Option Declaration) → declared_rules (fraction p q) version ≡ o
          → Reaches (with_line (account_with (suc lines) None mark Open) (RatioLine p q version)
          (cond (is_some o) None (Some Declared)))
      by_rules None e = tt
      by_rules (Some rules) e =
          subst (λ o. Reaches (account_with (suc lines) (option_map new_session o) mark Open)) (sym e)
          (record { enough = omega arith; by = inl (omega (arith, zero_mark)) })
first_reaches lines mark zero_mark (FactorLine p q version b c) =
    by_rules (factor_rules (with_factor (fraction p q) b c) version) refl where
      by_rules : (o : Option Declaration) → factor_rules (with_factor (fraction p q) b c) version ≡ o
          → Reaches (with_line (account_with (suc lines) None mark Open) (FactorLine p q version b c)
          (cond (is_some o) None (Some Declared)))
      by_rules None e = tt
      by_rules (Some rules) e =
          subst (λ o. Reaches (account_with (suc lines) (option_map new_session o) mark Open)) (sym e)
          (record { enough = omega arith; by = inl (omega (arith, zero_mark)) })
first_reaches lines mark zero_mark _ = tt

-- ---- later lines

module _ (S : Session) (mark lines : ℕ) (it : Reached S.items mark lines) where
  -- the account with the next line counted
  abbrev counted : Account
  counted = account_with (suc lines) (Some S) mark Open

  -- an item that brings the mark is a line more
  item_reaches : (item : Item) (t : ℕ) → t ≤ mark_after (mark_after 0 S.items) (item ∷ [])
      → Reached (S.items ++ item ∷ []) t (suc lines)
  item_reaches item t brings = record {
    enough = omega (arith, length-append S.items (item ∷ []), it.enough);
    by = inl (omega (arith, brings, mark_behind 0 S.items item));
  }

  -- a job moves the mark to its release
  job_reaches : (j : JobFacts) → Reaches (account_with (suc lines) (Some (with_item S (JobItem j))) j.release Open)
  job_reaches j = item_reaches (JobItem j) j.release (omega arith)

  -- a refused line to its tick
  refused_reaches : (r : Refused) → Reached (S.items ++ RefusedItem r ∷ []) r.at (suc lines)
  refused_reaches r = item_reaches (RefusedItem r) r.at (omega arith)

  -- a tick is a line more
  tick_reaches : (t : ℕ) → Reached S.items t (suc lines)
  tick_reaches t = record { enough = omega (arith, it.enough); by = inr (omega (arith, it.enough)) }

  -- the line of a job, by its cause
  job_line_reaches : (j : JobFacts) → Reaches (with_line counted (JobLine j) (later_line_cause S mark (JobLine j)))
  job_line_reaches j = by_order (nat_lt j.release mark) where
    by_version : (refusal : Refusal) (two : Bool)
        → Reaches (cond two (with_refused_at counted (refused_mark mark j refusal) j refusal)
        (with_fault counted (NotAdmitted refusal)))
    by_version refusal true = refused_reaches
        (record { at = refused_mark mark j refusal; line = RefusedJob j refusal })
    by_version refusal false = tt

    by_refusal : (o : Option Refusal) → Reaches (with_line counted (JobLine j) (option_map NotAdmitted o))
    by_refusal None = job_reaches j
    by_refusal (Some refusal) = by_version refusal (refuses_lines S.rules.version)

    by_late : (o : Option Refusal) → Reaches (with_line counted (JobLine j) (Some (option_map_or NotAdmitted o Order)))
    by_late None = tt
    by_late (Some refusal) = by_version refusal (refuses_lines S.rules.version)

    by_order : (b : Bool)
        → Reaches (with_line counted (JobLine j)
        (cond b (Some (late_cause S.rules.version))
        (option_map NotAdmitted (refusal_in S j))))
    by_order true = by_late (late_refusal S.rules.version)
    by_order false = by_refusal (refusal_in S j)

  -- an early finish moves the mark to its tick
  finish_reaches : (t n : ℕ) (o : Option EarlyFinish) → early_at S t n ≡ o
      → Reaches (account_with (suc lines) (Some (with_named S (option_map FinishItem o))) t Open)
  finish_reaches t n None e = tick_reaches t
  finish_reaches t n (Some f) e =
      let at : t ≡ f.at = ap (λ (g : EarlyFinish). g.at) (early_says S t n f e).is in
      item_reaches (FinishItem f) t (omega (arith, at))

  -- a done line
  done_reaches : (t n : ℕ) → Reaches (with_line counted (DoneLine t n) (later_line_cause S mark (DoneLine t n)))
  done_reaches t n = by_version (may_finish_early S.rules.version) where
    by_right : (b : Bool) → Reaches (with_line counted (DoneLine t n) (cond b None (Some NotDone)))
    by_right true = finish_reaches t n (early_at S t n) refl
    by_right false = refused_reaches (record { at = max mark t; line = RefusedDone t n })

    by_tick : (b : Bool)
        → Reaches (with_line counted (DoneLine t n)
        (cond b (Some Order) (cond (is_right S mark t n) None (Some NotDone))))
    by_tick true = tt
    by_tick false = by_right (is_right S mark t n)

    by_version : (b : Bool) → Reaches (with_line counted (DoneLine t n) (cond b
        (cond (nat_lt (last_tick_in S.rules.version) t) (Some Order)
        (cond (is_right S mark t n) None (Some NotDone))) (Some Line)))
    by_version true = by_tick (nat_lt (last_tick_in S.rules.version) t)
    by_version false = tt

  -- a line of any form
  later_reaches : (line : FeedLine) → Reaches (with_line counted line (later_line_cause S mark line))
  later_reaches (JobLine j) = job_line_reaches j
  later_reaches (TickLine t) = by_tests (nat_lt t mark || nat_lt (last_tick_in S.rules.version) t) where
    by_tests : (b : Bool) → Reaches (with_line counted (TickLine t) (cond b (Some Order) None))
    by_tests true = tt
    by_tests false = tick_reaches t
  later_reaches (DoneLine t n) = done_reaches t n
  later_reaches _ = tt

-- ---- each line

open_reaches : (lines : ℕ) (session : Option Session) (mark : ℕ) → ReachesBy Open session mark lines → (bytes : List ℕ)
    → Reaches (next_line (account_with lines session mark Open) bytes)
open_reaches lines None mark zero_mark bytes = by_count (nat_lt 1 (suc lines)) (feed_line bytes) where
  by_count : (b : Bool) (o : Option FeedLine)
      → Reaches (cond b (with_fault (account_with (suc lines) None mark Open) Lines)
      (after_form (account_with (suc lines) None mark Open) o))
  by_count true o = tt
  by_count false None = tt
  by_count false (Some line) = first_reaches lines mark zero_mark line
open_reaches lines (Some S) mark it bytes =
    by_count (nat_lt (most_lines S.rules.version) (suc lines)) (feed_line bytes) where
      by_count : (b : Bool) (o : Option FeedLine)
          → Reaches (cond b (with_fault (account_with (suc lines) (Some S) mark Open) Lines)
          (after_form (account_with (suc lines) (Some S) mark Open) o))
      by_count true o = tt
      by_count false None = tt
      by_count false (Some line) = later_reaches S mark lines it line

line_reaches : (lines : ℕ) (session : Option Session) (mark : ℕ) (standing : Standing)
    → ReachesBy standing session mark lines → (bytes : List ℕ)
    → Reaches (next_line (account_with lines session mark standing) bytes)
line_reaches lines session mark Open it bytes = open_reaches lines session mark it bytes
line_reaches lines session mark _ it bytes = tt

pub lines_reach : (ls : List (List ℕ)) (a : Account) → Reaches a → Reaches (fold next_line a ls)
lines_reach [] a it = it
lines_reach (l ∷ ls) a it = lines_reach ls (next_line a l) (line_reaches a.lines a.session a.mark a.standing it l)

-- ---- few lines

-- an account that goes on has no more lines than there may be with its session
abbrev pub FewBy : Standing → Option Session → ℕ → Type 0
FewBy Open session lines = lines ≤ most_lines_in session
FewBy Ended session lines = Unit {0}
FewBy (Faulty line cause) session lines = Unit {0}

abbrev pub HasFew : Account → Type 0
HasFew a = FewBy a.standing a.session a.lines

-- there may be one line under each version
one_line : (v : Version) → 1 ≤ most_lines v
one_line One = omega arith
one_line _ = omega arith

-- with the first line
few_first : (lines mark : ℕ) → lines ≤ 1 → (line : FeedLine)
    → HasFew (with_line (account_with lines None mark Open) line (first_line_cause line))
few_first lines mark few (RatioLine p q version) =
    by_rules (declared_rules (fraction p q) version) refl where
      by_rules : (o : Option Declaration) → declared_rules (fraction p q) version ≡ o
          → HasFew (with_line (account_with lines None mark Open) (RatioLine p q version)
          (cond (is_some o) None (Some Declared)))
      by_rules None e = tt
      by_rules (Some rules) e = subst (λ o. HasFew (account_with lines (option_map new_session o) mark Open)) (sym e)
          (let it : lines ≤ most_lines rules.version = omega (arith, few, one_line rules.version) in it)
few_first lines mark few (FactorLine p q version b c) =
    by_rules (factor_rules (with_factor (fraction p q) b c) version) refl where
      by_rules : (o : Option Declaration) → factor_rules (with_factor (fraction p q) b c) version ≡ o
          → HasFew (with_line (account_with lines None mark Open) (FactorLine p q version b c)
          (cond (is_some o) None (Some Declared)))
      by_rules None e = tt
      by_rules (Some rules) e = subst (λ o. HasFew (account_with lines (option_map new_session o) mark Open)) (sym e)
          (let it : lines ≤ most_lines rules.version = omega (arith, few, one_line rules.version) in it)
few_first lines mark few _ = tt

module _ (S : Session) (mark lines : ℕ) (few : lines ≤ most_lines S.rules.version) where
  -- the account of so many lines
  abbrev so_many : Account
  so_many = account_with lines (Some S) mark Open

  -- with the line of a job
  few_job : (j : JobFacts) (o : Option Cause) → HasFew (with_line so_many (JobLine j) o)
  few_job j None = few
  few_job j (Some (NotAdmitted refusal)) = by_version (refuses_lines S.rules.version) where
    by_version : (two : Bool)
        → HasFew (cond two (with_refused_at so_many (refused_mark mark j refusal) j refusal)
        (with_fault so_many (NotAdmitted refusal)))
    by_version true = few
    by_version false = tt
  few_job j _ = tt

  -- with a done line
  few_done : (t n : ℕ) (o : Option Cause) → HasFew (with_line so_many (DoneLine t n) o)
  few_done t n None = by_finish (early_at S t n) where
    by_finish : (o : Option EarlyFinish)
        → HasFew (account_with lines (Some (with_named S (option_map FinishItem o))) t Open)
    by_finish None = few
    by_finish (Some f) = few
  few_done t n (Some NotDone) = few
  few_done t n _ = tt

  -- with a later line
  few_later : (line : FeedLine) → HasFew (with_line so_many line (later_line_cause S mark line))
  few_later (JobLine j) = few_job j (later_line_cause S mark (JobLine j))
  few_later (TickLine t) = by_tests (nat_lt t mark || nat_lt (last_tick_in S.rules.version) t) where
    by_tests : (b : Bool) → HasFew (with_line so_many (TickLine t) (cond b (Some Order) None))
    by_tests true = tt
    by_tests false = few
  few_later (DoneLine t n) = few_done t n (later_line_cause S mark (DoneLine t n))
  few_later _ = tt

-- with the next line
few_next : (lines : ℕ) (session : Option Session) (mark : ℕ) (standing : Standing) (bytes : List ℕ)
    → HasFew (next_line (account_with lines session mark standing) bytes)
few_next lines None mark Open bytes = by_count (nat_lt 1 (suc lines)) (feed_line bytes) refl where
  by_count : (b : Bool) (o : Option FeedLine) → nat_lt 1 (suc lines) ≡ b
      → HasFew (cond b (with_fault (account_with (suc lines) None mark Open) Lines)
      (after_form (account_with (suc lines) None mark Open) o))
  by_count true o many = tt
  by_count false None few = tt
  by_count false (Some line) few = few_first (suc lines) mark (ltb-false _ _ few) line
few_next lines (Some S) mark Open bytes =
    by_count (nat_lt (most_lines S.rules.version) (suc lines)) (feed_line bytes) refl where
      by_count : (b : Bool) (o : Option FeedLine) → nat_lt (most_lines S.rules.version) (suc lines) ≡ b
          → HasFew (cond b (with_fault (account_with (suc lines) (Some S) mark Open) Lines)
          (after_form (account_with (suc lines) (Some S) mark Open) o))
      by_count true o many = tt
      by_count false None few = tt
      by_count false (Some line) few = few_later S mark (suc lines) (ltb-false _ _ few) line
few_next lines session mark Ended bytes = tt
few_next lines session mark (Faulty line cause) bytes = tt

-- with further lines
pub lines_few : (ls : List (List ℕ)) (a : Account) → HasFew a → HasFew (fold next_line a ls)
lines_few [] a few = few
lines_few (l ∷ ls) a few =
    lines_few ls (next_line a l) (few_next a.lines a.session a.mark a.standing l)

-- where it goes on with a session
pub few_open : (a : Account) (S : Session) → HasFew a → a.standing ≡ Open → a.session ≡ Some S
    → a.lines ≤ most_lines S.rules.version
few_open a S it opened there =
    subst (λ o. FewBy Open o a.lines) there (subst (λ s. FewBy s a.session a.lines) opened it)

-- what an account keeps that goes on
pub holds_open : (a : Account) (S : Session) → IsKept a → a.standing ≡ Open → a.session ≡ Some S
    → Holds S a.mark a.lines
holds_open a S kept opened there =
    subst (λ o. HoldsOpen o a.mark a.lines) there (subst (λ s. HoldsBy s a.session a.mark a.lines) opened kept)

-- how its mark was reached
pub reaches_open : (a : Account) (S : Session) → Reaches a → a.standing ≡ Open → a.session ≡ Some S
    → Reached S.items a.mark a.lines
reaches_open a S it opened there =
    subst (λ o. ReachesBy Open o a.mark a.lines) there (subst (λ s. ReachesBy s a.session a.mark a.lines) opened it)
