-- The books over a whole run, and that their rows are its intervals.
use Rattle.std.proofs.Common.{◌≡◌, ℕ, ◌+◌, ◌-◌, ◌≤◌, ◌⊎◌, inl, inr, List, [], ◌∷◌, length, refl, sym, ap, ◌∙◌, subst}
use Rattle.std.proofs.Common.{Bool, true, false, cond, arith, ◌==◌, Option, Some, None, MatchBool, sum_by, count_by}
use Rattle.std.proofs.Common.{filter, fold, eqb-true}
use Rattle.std.specs.Bool.{then_some}
use Rattle.std.specs.List.{list_all}
use Rattle.std.proofs.lemmas.List.Sums.{sum_by-cons}
use Rattle.dover_model.specs.Common.{Fraction, is_busy_tick, Row, Job, Finish, need, is_complete, value_of, Run}
use Rattle.dover_model.specs.Common.{Complete, End, Fresh, Waiting, Held, Running, Done, Gone, Task, Instance, IsValid}
use Rattle.dover_model.specs.Common.{State, running, is_running, is_privileged, is_done, is_held, is_over, held}
use Rattle.dover_model.specs.Common.{value_sum, Move, Prints, Ticks, step, after, ending, ◌or_else◌, Step, is_end}
use Rattle.dover_model.specs.Common.{event_of, printed_of, step_at, IsWholeRun, IsMember, Each, IsSound, NoneRuns}
use Rattle.dover_model.specs.Common.{Keeps}
use Rattle.dover_model.specs.Books.{HadNeeds}
use Rattle.dover_model.specs.Intervals.{Interval, with_taken, with_regular, begun, intervals_of}
use Rattle.dover_model.proofs.lists.Members.{each_cons, found, not_found, by_bool, filter_member, member_filter}
use Rattle.dover_model.proofs.steps.Roles.{passes, is_running_role, is_held_role, is_over_role}
use Rattle.dover_model.proofs.steps.Ticking.{Quiet}
use Rattle.dover_model.proofs.steps.Deeds.{Deed, Completed, Resumed, Started, Began, Preempted, Stayed, Arrived, Taken}
use Rattle.dover_model.proofs.steps.Deeds.{Abandoned, Rested}
use Rattle.dover_model.proofs.steps.Kept.{step_deed, step_kept, end_same}
use Rattle.dover_model.proofs.finishes.Readiness.{IsReady, step_decides, step_ready}
use Rattle.dover_model.proofs.finishes.Needing.{AllServed, needs_none, step_served}
use Rattle.dover_model.proofs.runs.Ending.{end_over}
use Rattle.dover_model.proofs.runs.Honest.{value_later}
use Rattle.dover_model.proofs.runs.Runs.{last_value}
use Rattle.dover_model.proofs.bound.Counting.{one}
use Rattle.dover_model.proofs.bound.Booking.{is_ready, SomeActive, Booked}
use Rattle.dover_model.proofs.bound.Closing.{longer, goes_on, ended, closes_plain, closes_taken}
use Rattle.dover_model.proofs.bound.Booked.{IsModest, runs_on, runs_first, waits_booked, arrives_booked}
use Rattle.dover_model.proofs.bound.Booked.{preempts_booked, with_gone, abandons_booked, with_displaced, takes_booked}
use Rattle.dover_model.proofs.bound.Booked.{none_behind, active_ready, idle_booked, tick_booked}
use Rattle.dover_model.proofs.lists.Tests.{never}
use Rattle.dover_model.proofs.valid.ValidParts.{valid_parts}
use Rattle.dover_model.proofs.valid.JobLimits.{ratio_limits}
use Rattle.dover_model.proofs.bound.Booking.{books_done, books_gone}

-- the intervals of the rows, the last of which comes first, before others
abbrev pub rev_onto : List Row → List Interval → List Interval
rev_onto [] later = later
rev_onto (row ∷ rows) later = rev_onto rows (row.interval ∷ later)

-- the interval under way
abbrev pub interval_of : Option Row → Option Interval
interval_of None = None
interval_of (Some row) = Some row.interval

-- the ticks of closed rows
abbrev pub length_of : List Row → ℕ
length_of rows = sum_by (λ row. row.interval.until - row.interval.from) rows

-- the ticks of the interval under way
abbrev pub length_so_far : ℕ → Option Row → ℕ
length_so_far clock None = 0
length_so_far clock (Some row) = clock - row.interval.from

-- one for a tick in which a job runs
abbrev pub busy_ticks : State → Move → ℕ
busy_ticks s m = cond (is_busy_tick (record { before = s; move = m })) 1 0

-- the books after a move, with the intervals that it makes
pub record Next (k : Fraction) (v w : ℕ) (needs : Job → ℕ) (s : State) (m : Move) (closed : List Row)
    (current : Option Row) : Type 0 where
  pub rows : List Row
  pub under_way : Option Row
  pub booked : Booked k v w (after s m) rows under_way
  pub same : (xs : List Step) → rev_onto rows (intervals_of (interval_of under_way) xs) ≡ rev_onto closed
      (intervals_of (interval_of current) (record { before = s; move = m } ∷ xs))
  pub lasts : length_of rows + length_so_far (after s m).clock under_way ≡ length_of closed
      + length_so_far s.clock current + busy_ticks s m
  pub exact : HadNeeds needs closed → HadNeeds needs rows

-- an empty list has no members
none_of_none : {X : Type 0} (xs : List X) → (length xs == 0) ≡ true → (x : X) → IsMember x xs → ⊥
none_of_none [] none x member = member
none_of_none (y ∷ xs) none x member = absurd (let e : length (y ∷ xs) ≡ 0 = eqb-true _ _ none in omega arith)

-- one that is not has one
some_of_some : {X : Type 0} (xs : List X) → (length xs == 0) ≡ false → (x : X) × IsMember x xs
some_of_some [] some = never (sym some)
some_of_some (y ∷ xs) some = (y, inl refl)

module _ (k : Fraction) (some_q : 1 ≤ k.q) (ratio : k.q ≤ k.p) (v w : ℕ) (s : State) (sound : IsSound s)
    (modest : Each (λ t. IsModest k v w t.job) s.tasks) (needs : Job → ℕ) (closed : List Row) where
  -- a move that closes no row
  closes_none : (m : Move) (current under_way : Option Row) → Booked k v w (after s m) closed under_way
      → ((xs : List Step) → rev_onto closed (intervals_of (interval_of under_way) xs) ≡ rev_onto closed
      (intervals_of (interval_of current) (record { before = s; move = m } ∷ xs)))
      → length_so_far (after s m).clock under_way ≡ length_so_far s.clock current + busy_ticks s m
      → Next k v w needs s m closed current
  closes_none m current under_way booked same lasts = record {
    rows = closed;
    exact = λ h. h;
    under_way = under_way;
    booked = booked;
    same = same;
    lasts = omega (arith, lasts);
  }

  -- a completion
  completes_next : (row : Row) → Booked k v w s closed (Some row) → (r : Task) → IsMember r s.tasks → r.role ≡ Running
      → r.had ≡ needs (r.number, r.job) → Next k v w needs s (Prints (Complete s.clock r.number)) closed (Some row)
  completes_next row books r member runs had = by_bool _ (length (held s) == 0) none some where
    -- the interval with a job completed after a take, or before one
    grows : (b : Bool) → Interval
    grows b = cond b (with_taken row.interval s.clock (value_of s r.number))
        (with_regular row.interval s.clock (value_of s r.number))

    -- what the completion makes of the intervals
    ends : (b c : Bool) → (length (held s) == 0) ≡ b → row.interval.took ≡ c → (xs : List Step)
        → rev_onto closed (elim b [
          | true ↦ cond c (with_taken row.interval s.clock (value_of s r.number))
              (with_regular row.interval s.clock (value_of s r.number)) ∷ intervals_of None xs
          | false ↦ intervals_of (Some (cond c (with_taken row.interval s.clock (value_of s r.number))
              (with_regular row.interval s.clock (value_of s r.number)))) xs
        ])
        ≡ rev_onto closed (intervals_of (Some row.interval)
        (record { before = s; move = Prints (Complete s.clock r.number) } ∷ xs))
    ends b c e took xs = ap (λ x. rev_onto closed (elim x [
      | true ↦ cond c (with_taken row.interval s.clock (value_of s r.number))
          (with_regular row.interval s.clock (value_of s r.number)) ∷ intervals_of None xs
      | false ↦ intervals_of (Some (cond c (with_taken row.interval s.clock (value_of s r.number))
          (with_regular row.interval s.clock (value_of s r.number)))) xs
    ])) (sym e)
        ∙ ap (λ x. rev_onto closed (elim (length (held s) == 0) [
          | true ↦ cond x (with_taken row.interval s.clock (value_of s r.number))
              (with_regular row.interval s.clock (value_of s r.number)) ∷ intervals_of None xs
          | false ↦ intervals_of (Some (cond x (with_taken row.interval s.clock (value_of s r.number))
              (with_regular row.interval s.clock (value_of s r.number)))) xs
        ])) (sym took)

    -- the job had what it needs
    one_needs : (n_j : Job) → IsMember n_j ((r.number, r.job) ∷ []) → r.had ≡ needs n_j
    one_needs n_j (inl e) = had ∙ ap needs (sym e)
    one_needs n_j (inr none) = absurd none

    -- none is held
    alone : (length (held s) == 0) ≡ true → Each (λ t. t.role ≡ Held → ⊥) s.tasks
    alone e t m is_h = none_of_none (held s) e t
        (filter_member is_held s.tasks t m (passes is_held t Held true is_h refl))

    none : (length (held s) == 0) ≡ true → Next k v w needs s (Prints (Complete s.clock r.number)) closed (Some row)
    none e = by_bool _ row.interval.took
        (λ took. record {
          rows = ended k v w s sound closed row books r member runs (modest r member).0 (modest r member).1
              (alone e) row.interval.regular
              (row.interval.taken + value_of s r.number) row.regular ((r.number, r.job) ∷ []) r.had ∷ closed;
          under_way = None;
          booked = books_done k v w s r (closes_taken k v w s sound closed row books r member runs (modest r member).0
              (modest r member).1 (alone e) took);
          same = ends true true e took;
          lasts = omega (
            arith,
            sum_by-cons (λ (y : Row). y.interval.until - y.interval.from)
                (ended k v w s sound closed row books r member runs (modest r member).0 (modest r member).1
                (alone e)
                row.interval.regular (row.interval.taken + value_of s r.number) row.regular ((r.number, r.job) ∷ [])
                r.had) closed,
          );
          exact = each_cons (λ (y : Row). Each (λ n_j. y.had ≡ needs n_j) y.taken)
              (ended k v w s sound closed row books r member runs (modest r member).0 (modest r member).1 (alone e)
              row.interval.regular (row.interval.taken + value_of s r.number) row.regular ((r.number, r.job) ∷ [])
              r.had) closed (λ n_j m. one_needs n_j m);
        })
        (λ took. record {
          rows = ended k v w s sound closed row books r member runs (modest r member).0 (modest r member).1
              (alone e)
              (row.interval.regular + value_of s r.number) row.interval.taken
              ((r.number, r.job) ∷ row.regular) row.taken 0 ∷ closed;
          under_way = None;
          booked = books_done k v w s r (closes_plain k v w s sound closed row books r member runs (modest r member).0
              (modest r member).1 (alone e) took);
          same = ends true false e took;
          lasts = omega (
            arith,
            sum_by-cons (λ (y : Row). y.interval.until - y.interval.from)
                (ended k v w s sound closed row books r member runs (modest r member).0 (modest r member).1
                (alone e)
                (row.interval.regular + value_of s r.number) row.interval.taken
                ((r.number, r.job) ∷ row.regular) row.taken 0) closed,
          );
          exact = each_cons (λ (y : Row). Each (λ n_j. y.had ≡ needs n_j) y.taken)
              (ended k v w s sound closed row books r member runs (modest r member).0 (modest r member).1 (alone e)
              (row.interval.regular + value_of s r.number) row.interval.taken
              ((r.number, r.job) ∷ row.regular) row.taken
              0) closed (λ n_j m. absurd (subst (IsMember n_j) books.under.no_taken m));
        })

    some : (length (held s) == 0) ≡ false → Next k v w needs s (Prints (Complete s.clock r.number)) closed (Some row)
    some e =
        let h : (t : Task) × IsMember t (held s) = some_of_some (held s) e in
        let it : IsMember h.0 s.tasks × (is_held h.0 ≡ true) = member_filter is_held s.tasks h.0 h.1 in
        let plain : row.interval.took ≡ false =
        by_bool _ row.interval.took (λ took. absurd ((books.under.taker took).alone h.0 it.0 (is_held_role h.0 it.1)))
        (λ took. took) in
        closes_none (Prints (Complete s.clock r.number)) (Some row)
        (Some (longer k v w s sound closed row books r member runs (modest r member).0 (modest r member).1))
        (books_done k v w s r (goes_on k v w s sound closed row books r member runs (modest r member).0
        (modest r member).1 h.0 it.0 (is_held_role h.0 it.1)))
        (ends false false e plain) (omega arith)

  -- a job that runs where none does
  starts_next : (current : Option Row) → Booked k v w s closed current → (r : Task) → IsMember r s.tasks
      → NoneRuns s.tasks → is_ready r ≡ true
      → Next k v w needs s (Prints (Run s.clock r.number)) closed current
  starts_next None books r member none ready = closes_none (Prints (Run s.clock r.number)) None
      (Some (record { interval = begun s.clock; regular = []; taken = []; gone = []; had = 0 }))
      (runs_first k v w s sound closed r member none ready books) (λ xs. refl) (omega arith)
  starts_next (Some row) books r member none ready = closes_none (Prints (Run s.clock r.number)) (Some row) (Some row)
      (runs_on k v w s sound closed r member none ready row books) (λ xs. refl) (omega arith)

  -- a tick in which none runs
  idle_tick : NoneRuns s.tasks → busy_ticks s Ticks ≡ 0
  idle_tick none = by_runner (running s) refl where
    by_runner : (o : Option Task) → running s ≡ o → one (elim o [ None ↦ false | Some r ↦ true ]) ≡ 0
    by_runner None e = refl
    by_runner (Some r) e = let it : IsMember r s.tasks × (is_running r ≡ true) = found is_running s.tasks r e in
        absurd (none r it.0 (is_running_role r it.1))

  -- one in which one does
  busy_tick : (r : Task) → IsMember r s.tasks → r.role ≡ Running → busy_ticks s Ticks ≡ 1
  busy_tick r member runs = by_runner (running s) refl where
    by_runner : (o : Option Task) → running s ≡ o → one (elim o [ None ↦ false | Some r ↦ true ]) ≡ 1
    by_runner (Some x) e = refl
    by_runner None e = never
        (sym (not_found is_running s.tasks e r member) ∙ passes is_running r Running true runs refl)

  -- a silent tick
  pub tick_next : (current : Option Row) → Booked k v w s closed current → Quiet s
      → Next k v w needs s Ticks closed current
  tick_next current books quiet = by_runner current books quiet.runs_or_none where
    by_runner : (o : Option Row) → Booked k v w s closed o → ((r : Task) × IsMember r s.tasks × (r.role ≡ Running))
        ⊎ NoneRuns s.tasks
        → Next k v w needs s Ticks closed o
    by_runner None books (inl it) = absurd (books.under it.0 it.1 (passes is_privileged it.0 Running true it.2 refl))
    by_runner None books (inr none) =
        closes_none Ticks None None (idle_booked k v w s sound quiet closed none books) (λ xs. refl)
        (omega (arith, idle_tick none))
    by_runner (Some row) books (inl it) =
        closes_none Ticks (Some row) (Some row) (tick_booked k v w s sound quiet closed row books it.0 it.1 it.2)
        (λ xs. refl)
        (let begun : row.interval.from ≤ s.clock = books.under.begun in omega (arith, busy_tick it.0 it.1 it.2))
    by_runner (Some row) books (inr none) =
        let some : SomeActive s.tasks = books.under.active in
        absurd (none_behind k v w s sound quiet closed none some.0 some.1
        (active_ready k v w s sound quiet closed some.0 some.2))

  -- each deed
  pub deed_next : (other : Move) → (current : Option Row) → Booked k v w s closed current
      → (Quiet s → Next k v w needs s other closed current)
      → (m : Move) → Deed k s other m
      → (is_complete m ≡ true → Each (λ t. t.role ≡ Running → t.had ≡ needs (t.number, t.job)) s.tasks)
      → Next k v w needs s m closed current
  deed_next other None books rested m (Completed r member runs) exact =
      absurd (books.under r member (passes is_privileged r Running true runs refl))
  deed_next other (Some row) books rested m (Completed r member runs) exact = completes_next row books r member runs
      (exact refl r member runs)
  deed_next other current books rested m (Resumed p member held none least why) exact =
      starts_next current books p member none (passes is_ready p Held true held refl)
  deed_next other current books rested m (Started o member waiting none first fits next) exact =
      starts_next current books o member none (passes is_ready o Waiting true waiting refl)
  deed_next other current books rested m (Began f member fresh none free) exact =
      starts_next current books f member none (passes is_ready f Fresh true fresh refl)
  deed_next other None books rested m (Preempted r f member runs some f_member fresh before fits) exact =
      absurd (books.under r member (passes is_privileged r Running true runs refl))
  deed_next other (Some row) books rested m (Preempted r f member runs some f_member fresh before fits) exact =
      closes_none m (Some row) (Some row)
      (preempts_booked k v w s sound closed row books r f member runs some f_member fresh before fits)
      (λ xs. refl) (omega arith)
  deed_next other current books rested m (Stayed r f member runs some f_member fresh why) exact =
      closes_none m current current (waits_booked k v w s sound closed current books f f_member fresh)
      (λ xs. refl) (omega arith)
  deed_next other None books rested m (Arrived c member comes now first stale busy free) exact =
      closes_none m None None (arrives_booked k v w s sound closed None books c member comes now)
      (λ xs. refl) (omega arith)
  deed_next other (Some row) books rested m (Arrived c member comes now first stale busy free) exact =
      closes_none m (Some row) (Some row) (arrives_booked k v w s sound closed (Some row) books c member comes now)
      (λ xs. refl) (omega arith)
  deed_next other None books rested m (Taken r x member runs some x_member waiting now stale heavy) exact =
      absurd (books.under r member (passes is_privileged r Running true runs refl))
  deed_next other (Some row) books rested m (Taken r x member runs some x_member waiting now stale heavy) exact =
      closes_none m (Some row)
      (Some (with_displaced k some_q ratio v w s sound closed row books modest r x x_member waiting now heavy))
      (takes_booked k some_q ratio v w s sound closed row books modest r x x_member waiting now heavy)
      (λ xs. refl) (omega arith)
  deed_next other None books rested m (Abandoned r x member runs some x_member waiting now stale light) exact =
      absurd (books.under r member (passes is_privileged r Running true runs refl))
  deed_next other (Some row) books rested m (Abandoned r x member runs some x_member waiting now stale light) exact =
      closes_none m (Some row)
      (Some (with_gone k v w s sound closed row books x x_member waiting (modest x x_member).0 now light))
      (books_gone k v w s x
      (abandons_booked k v w s sound closed row books x x_member waiting (modest x x_member).0 now light))
      (λ xs. refl) (omega arith)
  deed_next other current books rested m (Rested quiet) exact = rested quiet

  -- End
  pub end_next : (value : ℕ) (current : Option Row) → Booked k v w s closed current
      → Next k v w needs s (Prints (End value)) closed current
  end_next value None books = closes_none (Prints (End value)) None None
      (subst (λ (tasks : List Task). Booked k v w (record s { tasks = tasks }) closed None)
      (sym (end_same s value)) books) (λ xs. refl) (omega arith)
  end_next value (Some row) books = closes_none (Prints (End value)) (Some row) (Some row)
      (subst (λ (tasks : List Task). Booked k v w (record s { tasks = tasks }) closed (Some row))
      (sym (end_same s value)) books) (λ xs. refl) (omega arith)

-- what a job needs
abbrev pub needs_by : List Finish → Job → ℕ
needs_by finishes n_j = need finishes n_j.0 n_j.1.work

-- the books at the end of these steps, whose rows are these intervals
pub record AtEnd (J : Instance) (k : Fraction) (v w : ℕ) (xs : List Step) (intervals : List Interval)
    (ticks : ℕ) : Type 0 where
  pub rows : List Row
  pub last : State
  pub keeps : Keeps J last
  pub over : Each (λ t. is_over t ≡ true) last.tasks
  pub booked : Booked k v w last rows None
  pub are : rev_onto rows [] ≡ intervals
  pub lasts : length_of rows ≡ ticks
  pub value : (from : ℕ) → last_value from (printed_of xs) ≡ value_sum (filter is_done last.tasks)
  pub is_last : (from : State) → fold (λ s x. x.before) from xs ≡ last
  pub served : AllServed J.rules.finishes last
  pub exact : HadNeeds (needs_by J.rules.finishes) rows

module _ (J : Instance) (valid : IsValid J) (v w : ℕ)
    (modest : (s : State) → Keeps J s → Each (λ t. IsModest J.rules.ratio v w t.job) s.tasks) where
  -- the books after a step
  step_next : (s : State) → Keeps J s → IsReady J.rules.finishes s → AllServed J.rules.finishes s
      → (closed : List Row) (current : Option Row) → Booked J.rules.ratio v w s closed current
      → Next J.rules.ratio v w (needs_by J.rules.finishes) s (step J.rules s) closed current
  step_next s keeps ready served closed current books =
      deed_next J.rules.ratio (ratio_limits (valid_parts valid).ratio).least
      (ratio_limits (valid_parts valid).ratio).above_one v w s keeps.sound (modest s keeps)
      (needs_by J.rules.finishes) closed
      (ending s or_else Ticks) current books (by_over (list_all is_over s.tasks)) (step J.rules s)
      (step_deed J valid s keeps J.rules)
      (λ ends t member runs. needs_none J.rules.finishes s keeps.sound ready served t member
      ((step_decides s keeps.sound J.rules).ends ends t member runs)) where
        by_over : (b : Bool) → Quiet s
            → Next J.rules.ratio v w (needs_by J.rules.finishes) s
            (then_some b (Prints (End (value_sum (filter is_done s.tasks)))) or_else Ticks) closed current
        by_over true quiet = end_next J.rules.ratio (ratio_limits (valid_parts valid).ratio).least
            (ratio_limits (valid_parts valid).ratio).above_one v w s keeps.sound
            (modest s keeps) (needs_by J.rules.finishes) closed
            (value_sum (filter is_done s.tasks)) current books
        by_over false quiet = tick_next J.rules.ratio (ratio_limits (valid_parts valid).ratio).least
            (ratio_limits (valid_parts valid).ratio).above_one v w s keeps.sound
            (modest s keeps) (needs_by J.rules.finishes) closed current books quiet

  -- where all jobs are over, no interval is under way
  none_under_way : (s : State) → Each (λ t. is_over t ≡ true) s.tasks → (closed : List Row) (row : Row)
      → Booked J.rules.ratio v w s closed (Some row) → ⊥
  none_under_way s over closed row books =
      by_role (is_over_role books.under.active.0 (over books.under.active.0 books.under.active.1)) where
        by_role : (books.under.active.0.role ≡ Done) ⊎ (books.under.active.0.role ≡ Gone) → ⊥
        by_role (inl e) = never (sym (passes is_privileged books.under.active.0 Done false e refl)
            ∙ books.under.active.2)
        by_role (inr e) = never (sym (passes is_privileged books.under.active.0 Gone false e refl)
            ∙ books.under.active.2)

  -- the books at the end of these steps, from these books on
  abbrev pub EndsFrom : List Step → ℕ → List Row → Option Row → Type 0
  EndsFrom xs clock closed current =
      AtEnd J J.rules.ratio v w xs (rev_onto closed (intervals_of (interval_of current) xs))
      (length_of closed + length_so_far clock current + count_by is_busy_tick xs)

  -- the last step
  last_end : (s : State) → Keeps J s → AllServed J.rules.finishes s → (closed : List Row) (current : Option Row)
      → Booked J.rules.ratio v w s closed current → HadNeeds (needs_by J.rules.finishes) closed
      → is_end (step J.rules s) ≡ true → (xs : List Step) → xs ≡ []
      → EndsFrom (step_at J.rules s ∷ xs) s.clock closed current
  last_end s keeps served closed (Some row) books exact last xs none =
      absurd (none_under_way s (end_over J valid s keeps J.rules last).1 closed row books)
  last_end s keeps served closed None books exact last xs none = record {
    rows = closed;
    last = s;
    keeps = keeps;
    over = ends.1;
    booked = books;
    served = served;
    exact = exact;
    is_last = λ from. ap (fold (λ s x. x.before) s) none;
    are = sym (ap (λ m. rev_onto closed (intervals_of None (record { before = s; move = m } ∷ xs))) ends.0
        ∙ ap (λ ys. rev_onto closed (intervals_of None ys)) none);
    lasts = omega (
      arith,
      sum_by-cons (λ x. cond (is_busy_tick x) 1 0) (step_at J.rules s) xs,
      ap (λ m. one (is_busy_tick (record { before = s; move = m }))) ends.0,
      ap (count_by is_busy_tick) none,
    );
    value = λ from. ap (λ m. last_value from (printed_of (record { before = s; move = m } ∷ xs))) ends.0
        ∙ ap (λ ys. last_value (value_sum (filter is_done s.tasks)) (printed_of ys)) none;
  } where
    ends : (step J.rules s ≡ Prints (End (value_sum (filter is_done s.tasks)))) × Each (λ t. is_over t ≡ true) s.tasks
    ends = end_over J valid s keeps J.rules last

  -- the books at the end of a whole run
  pub books_at_end : (xs : List Step) (s : State) → Keeps J s → IsReady J.rules.finishes s
      → AllServed J.rules.finishes s → (closed : List Row) (current : Option Row)
      → Booked J.rules.ratio v w s closed current → HadNeeds (needs_by J.rules.finishes) closed
      → IsWholeRun J.rules s xs → EndsFrom xs s.clock closed current
  books_at_end [] s keeps ready served closed current books exact whole = absurd whole
  books_at_end (x ∷ xs) s keeps ready served closed current books exact whole =
      subst (λ (y : Step). EndsFrom (y ∷ xs) s.clock closed current) (sym whole.0)
      (by_end (is_end (step J.rules s)) refl whole.1
      (λ rows under_way. books_at_end xs (after s (step J.rules s))
      (step_kept J valid s keeps J.rules) (step_ready J valid s keeps J.rules ready)
      (step_served J valid s keeps J.rules ready served) rows under_way)) where
        next : Next J.rules.ratio v w (needs_by J.rules.finishes) s (step J.rules s) closed current
        next = step_next s keeps ready served closed current books

        by_end : (b : Bool) → is_end (step J.rules s) ≡ b
            → MatchBool b (xs ≡ []) (IsWholeRun J.rules (after s (step J.rules s)) xs)
            → ((rows : List Row) (under_way : Option Row)
            → Booked J.rules.ratio v w (after s (step J.rules s)) rows under_way
            → HadNeeds (needs_by J.rules.finishes) rows
            → IsWholeRun J.rules (after s (step J.rules s)) xs
            → EndsFrom xs (after s (step J.rules s)).clock rows under_way)
            → EndsFrom (step_at J.rules s ∷ xs) s.clock closed current
        by_end true last none more = last_end s keeps served closed current books exact last xs none
        by_end false on rest more =
            let it : EndsFrom xs (after s (step J.rules s)).clock next.rows next.under_way =
            more next.rows next.under_way next.booked (next.exact exact) rest in
            record {
              rows = it.rows;
              last = it.last;
              keeps = it.keeps;
              over = it.over;
              booked = it.booked;
              served = it.served;
              exact = it.exact;
              is_last = λ from. it.is_last s;
              are = it.are ∙ next.same xs;
              lasts = omega (
                arith,
                it.lasts,
                next.lasts,
                sum_by-cons (λ x. cond (is_busy_tick x) 1 0) (step_at J.rules s) xs,
              );
              value = value_later (event_of (step J.rules s)) (printed_of xs)
                  (value_sum (filter is_done it.last.tasks)) it.value;
            }
