-- How many jobs the account of a feed has admitted, and was offered, as it is read.
use Rattle.std.proofs.Common.{◌≡◌, ◌≤◌, ◌+◌, ℕ, suc, List, ◌∷◌, ◌++◌, [], length, refl, sym, ap, ◌∙◌, subst}
use Rattle.std.proofs.Common.{append_assoc, length-append, Option, Some, None, Bool, true, false, cond, arith, nat_lt}
use Rattle.std.proofs.Common.{max, ◌||◌, fold, count_by, option_map, lt-ltb, ltb-true, append-nil}
use Rattle.std.specs.Option.{option_map_or}
use Rattle.std.proofs.lemmas.List.Elements.{filter_map-append}
use Rattle.std.proofs.lemmas.List.Sums.{sum_by-append}
use Rattle.dover_model.specs.Common.{most_lines, last_tick_in, JobFacts, Session, Item, JobItem, RefusedItem}
use Rattle.dover_model.specs.Common.{FinishItem, Refused, EarlyFinish, refused_at, refused_done_at, with_item}
use Rattle.dover_model.specs.Common.{with_named, early_at, is_right, refusal_in, refused_mark, late_refusal}
use Rattle.dover_model.specs.Common.{may_finish_early, admitted_jobs, job_of_item, refuses_lines, FeedLine, JobLine}
use Rattle.dover_model.specs.Common.{TickLine, DoneLine, feed_line, Account, Standing, Lines, Line, is_open, next_line}
use Rattle.dover_model.specs.Common.{read_line, with_line, with_fault, with_refused_at, later_line_cause, late_cause}
use Rattle.dover_model.specs.Common.{Order, NotAdmitted, NotDone, account}
use Rattle.dover_model.specs.declared.events.Refusal.{Refusal}
use Rattle.dover_model.proofs.sessions.Accounts.{account_append}
use Rattle.event_feed.specs.Answers.{admitted_in}
use Rattle.event_feed.specs.Listing.{is_offered, offered_in, has_too_many}

-- ---- items

-- a job more
pub job_more : (items : List Item) (j : JobFacts)
    → length (admitted_jobs (items ++ JobItem j ∷ [])) ≡ length (admitted_jobs items) + 1
job_more [] j = refl
job_more (JobItem i ∷ items) j = omega (arith, job_more items j)
job_more (RefusedItem r ∷ items) j = job_more items j
job_more (FinishItem f ∷ items) j = job_more items j

-- a refused line more
pub refused_more : (items : List Item) (r : Refused)
    → length (admitted_jobs (items ++ RefusedItem r ∷ [])) ≡ length (admitted_jobs items)
refused_more [] r = refl
refused_more (JobItem i ∷ items) r = omega (arith, refused_more items r)
refused_more (RefusedItem s ∷ items) r = refused_more items r
refused_more (FinishItem f ∷ items) r = refused_more items r

-- an early finish more
pub finish_more : (items : List Item) (f : EarlyFinish)
    → length (admitted_jobs (items ++ FinishItem f ∷ [])) ≡ length (admitted_jobs items)
finish_more [] f = refl
finish_more (JobItem i ∷ items) f = omega (arith, finish_more items f)
finish_more (RefusedItem r ∷ items) f = finish_more items f
finish_more (FinishItem g ∷ items) f = finish_more items f

-- how many a session has admitted
abbrev pub admitted_by : Option Session → ℕ
admitted_by o = elim o [ None ↦ 0 | Some S ↦ length (admitted_jobs S.items) ]

-- ---- a session stays, and no line takes an item back

-- there is a session, and its items begin with these
abbrev BeginsWith : List Item → Account → Type 0
BeginsWith items a = (S : Session) × (a.session ≡ Some S) × ((more : List Item) × (S.items ≡ items ++ more))

-- an account
abbrev account_with : ℕ → Session → ℕ → Standing → Account
account_with lines S mark standing = record { lines = lines; session = Some S; mark = mark; standing = standing }

module _ (lines : ℕ) (S : Session) (mark : ℕ) (standing : Standing) where
  -- the account
  abbrev at : Account
  at = account_with lines S mark standing

  -- nothing comes behind
  none : BeginsWith S.items at
  none = (S, refl, ([], sym (append-nil S.items)))

  -- an item does
  one : (item : Item) → BeginsWith S.items (record at { session = Some (with_item S item) })
  one item = (with_item S item, refl, (item ∷ [], refl))

  -- a job line
  job_keeps : (j : JobFacts) → BeginsWith S.items (with_line at (JobLine j) (later_line_cause S mark (JobLine j)))
  job_keeps j = elim (nat_lt j.release mark) as (λ b. BeginsWith S.items
      (with_line at (JobLine j) (cond b (Some (late_cause S.rules.version))
      (option_map NotAdmitted (refusal_in S j))))) [
        | true ↦ elim (late_refusal S.rules.version) as (λ o. BeginsWith S.items
            (with_line at (JobLine j) (Some (option_map_or NotAdmitted o Order)))) [
              | None ↦ none
              | Some refusal ↦ by_two refusal (refuses_lines S.rules.version)
            ]
        | false ↦ by_refusal (refusal_in S j)
      ] where
        by_two : (refusal : Refusal) (two : Bool)
            → BeginsWith S.items (cond two (with_refused_at at (refused_mark mark j refusal) j refusal)
            (with_fault at (NotAdmitted refusal)))
        by_two refusal true = one (refused_at (refused_mark mark j refusal) j refusal)
        by_two refusal false = none

        by_refusal : (o : Option Refusal) → BeginsWith S.items (with_line at (JobLine j) (option_map NotAdmitted o))
        by_refusal None = one (JobItem j)
        by_refusal (Some refusal) = by_two refusal (refuses_lines S.rules.version)

  -- a done line
  done_keeps : (t m : ℕ) → BeginsWith S.items (with_line at (DoneLine t m) (later_line_cause S mark (DoneLine t m)))
  done_keeps t m = by_version (may_finish_early S.rules.version) where
    by_right : (b : Bool) → BeginsWith S.items (with_line at (DoneLine t m) (cond b None (Some NotDone)))
    by_right true = elim (early_at S t m) as (λ o. BeginsWith S.items
        (record at { session = Some (with_named S (option_map FinishItem o)) })) [
          | None ↦ none
          | Some f ↦ one (FinishItem f)
        ]
    by_right false = one (refused_done_at (max mark t) t m)

    by_version : (b : Bool) → BeginsWith S.items (with_line at (DoneLine t m) (cond b
        (cond (nat_lt (last_tick_in S.rules.version) t) (Some Order)
        (cond (is_right S mark t m) None (Some NotDone))) (Some Line)))
    by_version true = elim (nat_lt (last_tick_in S.rules.version) t) as (λ b. BeginsWith S.items
        (with_line at (DoneLine t m) (cond b (Some Order) (cond (is_right S mark t m) None (Some NotDone))))) [
          | true ↦ none
          | false ↦ by_right (is_right S mark t m)
        ]
    by_version false = none

  -- any line that has a form
  form_keeps : (line : FeedLine) → BeginsWith S.items (with_line at line (later_line_cause S mark line))
  form_keeps (JobLine j) = job_keeps j
  form_keeps (TickLine t) = by_tests (nat_lt t mark || nat_lt (last_tick_in S.rules.version) t) where
    by_tests : (b : Bool) → BeginsWith S.items (with_line at (TickLine t) (cond b (Some Order) None))
    by_tests true = none
    by_tests false = none
  form_keeps (DoneLine t m) = done_keeps t m
  form_keeps _ = none

  -- any line
  read_keeps : (l : List ℕ) → BeginsWith S.items (read_line at l)
  read_keeps l = by_count (nat_lt (most_lines S.rules.version) lines) (feed_line l) where
    by_count : (b : Bool) (o : Option FeedLine) → BeginsWith S.items (cond b (with_fault at Lines)
        (elim o [ None ↦ with_fault at Line | Some line ↦ with_line at line (later_line_cause S mark line) ]))
    by_count true o = none
    by_count false None = none
    by_count false (Some line) = form_keeps line

-- the next line
keeps_next : (items : List Item) (a : Account) (l : List ℕ) → BeginsWith items a → BeginsWith items (next_line a l)
keeps_next items a l (S, there, (more, is)) = (
  next.0,
  next.1,
  (more ++ next.2.0, next.2.1 ∙ ap (λ l. l ++ next.2.0) is ∙ append_assoc items more next.2.0),
) where
  by_open : (b : Bool) → BeginsWith S.items (cond b (read_line (account_with (suc a.lines) S a.mark a.standing) l)
      (account_with a.lines S a.mark a.standing))
  by_open true = read_keeps (suc a.lines) S a.mark a.standing l
  by_open false = none a.lines S a.mark a.standing

  next : BeginsWith S.items (next_line a l)
  next = subst (λ o. BeginsWith S.items (next_line (record a { session = o }) l)) (sym there) (by_open (is_open a))

-- many lines
keeps_lines : (items : List Item) (ls : List (List ℕ)) (a : Account) → BeginsWith items a
    → BeginsWith items (fold next_line a ls)
keeps_lines items [] a it = it
keeps_lines items (l ∷ ls) a it = keeps_lines items ls (next_line a l) (keeps_next items a l it)

module _ (F G : List ℕ) where
  -- more bytes
  items_front : (S : Session) → (account F).session ≡ Some S → BeginsWith S.items (account (F ++ G))
  items_front S there = let more = account_append F G in
      subst (BeginsWith S.items) (sym more.1)
      (keeps_lines S.items more.0 (account F) (S, there, ([], sym (append-nil S.items))))

  -- a session that is there stays, whatever bytes follow
  pub declared_front : (S : Session) × ((account F).session ≡ Some S)
      → (S : Session) × ((account (F ++ G)).session ≡ Some S)
  declared_front it = let kept = items_front it.0 it.1 in (kept.0, kept.1)

-- what is counted of its items stays counted
module _ (count : List Item → ℕ) (up : (items more : List Item) → count items ≤ count (items ++ more)) where
  -- in an account
  abbrev counts : Option Session → ℕ
  counts o = elim o [ None ↦ 0 | Some S ↦ count S.items ]

  count_behind : (ls : List (List ℕ)) (a : Account) → counts a.session ≤ counts (fold next_line a ls).session
  count_behind ls a = by a.session refl where
    by : (o : Option Session) → a.session ≡ o → counts o ≤ counts (fold next_line a ls).session
    by None there = omega arith
    by (Some S) there = let kept = keeps_lines S.items ls a (S, there, ([], sym (append-nil S.items))) in
        omega (arith, up S.items kept.2.0, ap count kept.2.1, ap counts kept.1)

-- so its jobs stay admitted
pub admitted_behind : (ls : List (List ℕ)) (a : Account) → admitted_in a ≤ admitted_in (fold next_line a ls)
admitted_behind = count_behind (λ items. length (admitted_jobs items)) (λ items more. omega (
  arith,
  ap length (filter_map-append job_of_item items more),
  length-append (admitted_jobs items) (admitted_jobs more),
))

pub admitted_front : (F G : List ℕ) → admitted_in (account F) ≤ admitted_in (account (F ++ G))
admitted_front F G = let more = account_append F G in
    subst (λ (b : Account). admitted_in (account F) ≤ admitted_in b) (sym more.1) (admitted_behind more.0 (account F))

-- and those that were offered stay so
offered_behind : (ls : List (List ℕ)) (a : Account) → offered_in a ≤ offered_in (fold next_line a ls)
offered_behind = count_behind (λ items. count_by is_offered items) (λ items more. omega (
  arith,
  sum_by-append (λ (item : Item). cond {A = ℕ} (is_offered item) 1 0) items more,
))

-- too many stay too many
pub too_many_behind : (ls : List (List ℕ)) (a : Account) → has_too_many a ≡ true
    → has_too_many (fold next_line a ls) ≡ true
too_many_behind ls a many = lt-ltb _ _ (omega (arith, offered_behind ls a, ltb-true _ _ many))
