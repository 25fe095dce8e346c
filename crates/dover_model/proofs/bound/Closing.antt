-- A completion: it ends the interval under way, or adds to it.
use Rattle.std.proofs.Common.{◌≡◌, ℕ, ◌+◌, ◌*◌, ◌≤◌, ◌<◌, ◌⊎◌, inl, inr, List, [], ◌∷◌, length, refl, sym, ap, ◌∙◌}
use Rattle.std.proofs.Common.{subst, Bool, true, false, cond, eqb, arith, nat_le, nat_lt, ◌&&◌, Some, None}
use Rattle.std.proofs.Common.{sum_by, eq-eqb, ne_eqb, le-leb, lt-ltb}
use Rattle.std.proofs.lemmas.Bool.{and_from, or_left, or_right}
use Rattle.std.proofs.lemmas.List.Sums.{sum_by-cons}
use Rattle.std.proofs.Math.Nat.{mul-le-mul_left}
use Rattle.dover_model.specs.Common.{Fraction, IsHeavy, value_of, Held, Running, Done, Task, State, is_privileged}
use Rattle.dover_model.specs.Common.{is_done, left, IsMember, Each, IsNumberedFrom, IsSound, Row, IsRow, TakenIn}
use Rattle.dover_model.specs.Common.{IsDense, IsPaid, job_value, Job, in_rows}
use Rattle.dover_model.specs.Intervals.{with_regular}
use Rattle.dover_model.proofs.lists.Members.{by_bool, each_cons, sum_zero, sum_filter}
use Rattle.dover_model.proofs.steps.Roles.{passes, one_number, is_privileged_role}
use Rattle.dover_model.proofs.steps.OneChange.{state_with, EachOther, on_changed, changed_there}
use Rattle.dover_model.proofs.bound.Calculus.{paid_zero}
use Rattle.dover_model.proofs.bound.Booking.{sum_one, sum_changed, active_sum, active_had, is_gone, is_ready, job_of}
use Rattle.dover_model.proofs.bound.Booking.{sum_where, InBooks, Covered, Taker, UnderWay, Booked}
use Rattle.dover_model.proofs.lists.Tests.{never}

-- ---- single jobs

-- a sum over one job alone
pub single_sum : (p : Task → Bool) (f : Task → ℕ) (tasks : List Task) (r : Task) → IsNumberedFrom 0 tasks
    → IsMember r tasks → p r ≡ true
    → EachOther r (λ t. p t ≡ false) tasks
    → sum_by (λ t. cond (p t) (f t) 0) tasks ≡ f r
single_sum p f tasks r numbered member here others = omega (
  arith,
  sum_one (λ t. cond (p t) (f t) 0) (λ t. 0) 0 (f r) 0 tasks r numbered member
      (ap (λ b. cond b (f r) 0 + 0) here ∙ omega arith)
      (λ t m differs. ap (λ b. cond b (f t) 0) (others t m differs)),
  sum_zero (λ (t : Task). 0) tasks (λ t m. refl),
)

-- the value of the job of a number
pub value_of_number : (s : State) → IsNumberedFrom 0 s.tasks → (r : Task) → IsMember r s.tasks
    → value_of s r.number ≡ r.job.value
value_of_number s numbered r member = sum_filter (λ t. eqb t.number r.number) (λ t. t.job.value) s.tasks
    ∙ single_sum (λ t. eqb t.number r.number) (λ t. t.job.value) s.tasks r numbered member
    (eq-eqb r.number r.number refl)
    (λ t m differs. ne_eqb t.number r.number differs)

-- a tick that is counted is in a row, once the row under way is closed
pub closed_tick : (closed : List Row) (row new : Row) (t τ : ℕ) → new.interval.from ≡ row.interval.from
    → new.interval.until ≡ t → τ < t
    → InBooks closed (Some row) τ → in_rows (new ∷ closed) τ ≡ true
closed_tick closed row new t τ from until before (inl old) =
    or_right (nat_le new.interval.from τ && nat_lt τ new.interval.until) (in_rows closed τ) old
closed_tick closed row new t τ from until before (inr after) =
    or_left (nat_le new.interval.from τ && nat_lt τ new.interval.until) (in_rows closed τ)
    (and_from (nat_le new.interval.from τ) (nat_lt τ new.interval.until) (le-leb _ _ (omega (arith, from)))
    (lt-ltb _ _ (omega (arith, until))))

-- a row stays what it is, where no fewer ticks are busy
pub row_kept : (k : Fraction) (v w : ℕ) (busy more : ℕ → Bool) → ((τ : ℕ) → busy τ ≡ true → more τ ≡ true) → (row : Row)
    → IsRow k v w busy row
    → IsRow k v w more row
row_kept k v w busy more grow row it = record {
  regular_sum = it.regular_sum;
  taken_sum = it.taken_sum;
  abandoned_sum = it.abandoned_sum;
  lost = it.lost;
  ordered = it.ordered;
  displaced = it.displaced;
  span = it.span;
  had_paid = it.had_paid;
  one_taken = it.one_taken;
  taken = λ n_j member. record {
    covered = λ τ low high. grow τ ((it.taken n_j member).covered τ low high);
    reach = (it.taken n_j member).reach;
  };
  gone = λ n_j member. (
    record {
      covered = λ τ low high. grow τ ((it.gone n_j member).0.covered τ low high);
      reach = (it.gone n_j member).0.reach;
      light = (it.gone n_j member).0.light;
    },
    (it.gone n_j member).1,
  );
}

-- a tick in one of some rows is in one of more
pub in_more_rows : (row : Row) (rows : List Row) (τ : ℕ) → in_rows rows τ ≡ true → in_rows (row ∷ rows) τ ≡ true
in_more_rows row rows τ h = or_right (nat_le row.interval.from τ && nat_lt τ row.interval.until) (in_rows rows τ) h

module _ (k : Fraction) (v w : ℕ) (s : State) (sound : IsSound s) (closed : List Row) (row : Row)
    (books : Booked k v w s closed (Some row))
    (r : Task) (member : IsMember r s.tasks) (runs : r.role ≡ Running)
    (dense : IsDense k v w r.job)
    (light : v * r.job.work ≤ w * r.job.value) where
  -- the running job counts
  is_active : is_privileged r ≡ true
  is_active = passes is_privileged r Running true runs refl

  -- its ticks are paid by its value
  had_paid : v * r.had ≤ w * r.job.value
  had_paid = let less : v * r.had ≤ v * r.job.work =
      mul-le-mul_left v (sound.at_most_work r member) in omega arith

  -- a sum over the running and the held jobs falls by its term
  active_falls : (f : Task → ℕ) → active_sum f (state_with s r Done).tasks + f r ≡ active_sum f s.tasks
  active_falls f = omega (
    arith,
    ap (λ b. cond b (f r) 0) is_active,
    sum_changed
        (λ t. cond (is_privileged t) (f t) 0) s.tasks r Done sound.numbered member,
  )

  -- a sum over done jobs rises by its term
  done_rises : (f : Job → ℕ)
      → sum_where is_done f (state_with s r Done).tasks ≡ sum_where is_done f s.tasks + f (job_of r)
  done_rises f = omega (
    arith,
    ap (λ b. cond b (f (job_of r)) 0) (passes is_done r Running false runs refl),
    sum_changed
        (λ t. cond (is_done t) (f (job_of t)) 0) s.tasks r Done sound.numbered member,
  )

  -- one over gone jobs stays
  gone_stays : (f : Job → ℕ) → sum_where is_gone f (state_with s r Done).tasks ≡ sum_where is_gone f s.tasks
  gone_stays f = omega (
    arith,
    ap (λ b. cond b (f (job_of r)) 0) (passes is_gone r Running false runs refl),
    sum_changed
        (λ t. cond (is_gone t) (f (job_of t)) 0) s.tasks r Done sound.numbered member,
  )

  -- what is known of the row
  under : UnderWay k v w s closed row
  under = books.under

  -- ---- where some job is held

  -- the row with the job
  abbrev pub longer : Row
  longer = record {
    interval = with_regular row.interval s.clock (value_of s r.number);
    regular = job_of r ∷ row.regular;
    taken = row.taken;
    gone = row.gone;
    had = row.had;
  }

  -- the books after a completion that leaves a job held
  pub goes_on : (h : Task) → IsMember h s.tasks → h.role ≡ Held
      → Booked k v w (state_with s r Done) closed (Some longer)
  goes_on h h_member is_h = record {
    under = record {
      active = (
        h,
        changed_there s.tasks r h Done h_member
            (λ same. differs (one_number 0 s.tasks sound.numbered h r h_member member same)),
        passes is_privileged h Held true is_h refl,
      );
      begun = under.begun;
      regular_sum = omega (arith, under.regular_sum, sum_by-cons job_value (job_of r) row.regular, value);
      abandoned_sum = under.abandoned_sum;
      lost = under.lost;
      none_taken = under.none_taken;
      no_taken = under.no_taken;
      span =
          let old : v * s.clock ≤ v * row.interval.from + w * (row.interval.regular + row.interval.displaced) + v
          * active_had s.tasks =
          under.span in
          omega (arith, ap (λ n. v * n) (active_falls (λ t. t.had)), had_paid, ap (λ n. w * n) value);
      plain = under.plain;
      taker = λ took. absurd ((under.taker took).alone h h_member is_h);
      gone = λ n_j m. record {
        covered = (under.gone n_j m).covered;
        reach = (under.gone n_j m).reach;
        light = λ heavy. (under.gone n_j m).light
            (subst (λ n. IsHeavy k n_j.1.value n) (omega (arith, active_falls (λ t. t.job.value), value)) heavy);
        dense = (under.gone n_j m).dense;
      };
    };
    ready = on_changed 0 s.tasks sound.numbered r member Done
        (λ t. is_ready t ≡ true → Covered closed (Some longer) t.job.release s.clock)
        (λ e. never e) (λ t m _. books.ready t m);
    rows = books.rows;
    done = λ f. omega (arith, done_rises f, books.done f, sum_by-cons f (job_of r) row.regular);
    gone = λ f. omega (arith, gone_stays f, books.gone f);
  } where
    value : value_of s r.number ≡ r.job.value
    value = value_of_number s sound.numbered r member

    differs : h ≡ r → ⊥
    differs same = let e : Held ≡ Running = sym is_h ∙ ap (λ (t : Task). t.role) same ∙ runs in cc

  -- ---- where none is held

  module _ (alone : Each (λ t. t.role ≡ Held → ⊥) s.tasks) where
    -- no other job counts
    others_idle : EachOther r (λ t. is_privileged t ≡ false) s.tasks
    others_idle t m differs =
        by_bool _ (is_privileged t) (λ is_in. absurd (by_role (is_privileged_role t is_in))) (λ e. e) where
          by_role : (t.role ≡ Running) ⊎ (t.role ≡ Held) → ⊥
          by_role (inl e) = differs (sound.one_runs t r m member e runs)
          by_role (inr e) = alone t m e

    -- it counts alone
    alone_sum : (f : Task → ℕ) → active_sum f s.tasks ≡ f r
    alone_sum f = single_sum is_privileged f s.tasks r sound.numbered member is_active others_idle

    -- the closed row
    abbrev pub ended : ℕ → ℕ → List Job → List Job → ℕ → Row
    ended regular taken regulars takens had = record {
      interval = record {
        from = row.interval.from;
        until = s.clock;
        regular = regular;
        taken = taken;
        displaced =
            row.interval.displaced;
        abandoned = row.interval.abandoned;
        lost = row.interval.lost;
        took = row.interval.took;
      };
      regular = regulars;
      taken = takens;
      gone = row.gone;
      had = had;
    }

    -- the books after one that ends the interval
    pub closes : (regular taken : ℕ) (regulars takens : List Job) (had : ℕ) → regular ≡ sum_by job_value regulars
        → taken ≡ sum_by job_value takens
        → regular + taken ≡ row.interval.regular + r.job.value
        → w * row.interval.regular + v * r.had ≤ w * regular + v * had
        → v * had ≤ w * taken
        → IsPaid k row.interval.displaced taken
        → ((f : Job → ℕ) → sum_by f regulars + sum_by f takens ≡ sum_by f row.regular + f (job_of r))
        → length takens ≤ 1
        → Each (λ n_j. TakenIn v w (in_rows (ended regular taken regulars takens had ∷ closed))
        (ended regular taken regulars takens had) n_j.1) takens
        → Booked k v w (state_with s r Done) (ended regular taken regulars takens had ∷ closed) None
    closes regular taken regulars takens had regular_sum taken_sum all span low displaced lists one takens_are =
        record {
          under = on_changed 0 s.tasks sound.numbered r member Done (λ t. is_privileged t ≡ true → ⊥) (λ e. never e)
              (λ t m differs e. never (sym (others_idle t m differs) ∙ e));
          ready = on_changed 0 s.tasks sound.numbered r member Done
              (λ t. is_ready t ≡ true → Covered (new ∷ closed) None t.job.release s.clock)
              (λ e. never e)
              (λ t m _ is_r τ low high. closed_tick closed row new s.clock τ refl refl high
              (books.ready t m is_r τ low high));
          rows = rows;
          done = λ f. omega (
            arith,
            done_rises f,
            books.done f,
            lists f,
            sum_by-cons (λ y. sum_by f y.regular + sum_by f y.taken) new closed,
          );
          gone = λ f. omega (arith, gone_stays f, books.gone f, sum_by-cons (λ y. sum_by f y.gone) new closed);
        } where
          new : Row
          new = ended regular taken regulars takens had

          new_is : IsRow k v w (in_rows (ended regular taken regulars takens had ∷ closed))
              (ended regular taken regulars takens had)
          new_is = record {
            regular_sum = regular_sum;
            taken_sum = taken_sum;
            abandoned_sum = under.abandoned_sum;
            lost = under.lost;
            ordered = under.begun;
            displaced = displaced;
            span =
                let old : v * s.clock ≤ v * row.interval.from + w * (row.interval.regular + row.interval.displaced) + v
                * active_had s.tasks =
                under.span in
                omega (arith, ap (λ n. v * n) (alone_sum (λ t. t.had)), span);
            had_paid = low;
            one_taken = one;
            taken = takens_are;
            gone = λ n_j m. (
              record {
                covered = λ τ low high. closed_tick closed row
                    (ended regular taken regulars takens had) s.clock τ refl refl high
                    ((under.gone n_j m).covered τ low high);
                reach = (under.gone n_j m).reach;
                light = λ heavy. (under.gone n_j m).light
                    (subst (λ n. IsHeavy k n_j.1.value n) (omega (arith, alone_sum (λ t. t.job.value), all)) heavy);
              },
              (under.gone n_j m).dense,
            );
          }

          rows : Each (IsRow k v w (in_rows (ended regular taken regulars takens had ∷ closed)))
              (ended regular taken regulars takens had ∷ closed)
          rows y (inl e) =
              subst (IsRow k v w (in_rows (ended regular taken regulars takens had ∷ closed))) (sym e) new_is
          rows y (inr m) = row_kept k v w (in_rows closed) (in_rows (ended regular taken regulars takens had ∷ closed))
              (in_more_rows (ended regular taken regulars takens had) closed) y (books.rows y m)

    -- the row ends with a job completed before a take
    pub closes_plain : row.interval.took ≡ false
        → Booked k v w (state_with s r Done)
        (ended (row.interval.regular + value_of s r.number) row.interval.taken (job_of r ∷ row.regular) row.taken 0
        ∷ closed) None
    closes_plain plain = closes (row.interval.regular + value_of s r.number) row.interval.taken
        (job_of r ∷ row.regular) row.taken 0
        (omega (arith, under.regular_sum, sum_by-cons job_value (job_of r) row.regular, value))
        (omega (arith, under.none_taken, ap (sum_by job_value) under.no_taken))
        (omega (arith, under.none_taken, value))
        (omega (arith, had_paid, ap (λ n. w * n) value))
        (omega arith)
        (let none : row.interval.displaced ≡ 0 = under.plain plain in
        subst (λ d. IsPaid k d row.interval.taken) (sym none) (paid_zero k row.interval.taken))
        (λ f. omega (arith, sum_by-cons f (job_of r) row.regular, ap (sum_by f) under.no_taken))
        (omega (arith, ap length under.no_taken))
        (λ n_j m. absurd (subst (IsMember n_j) under.no_taken m)) where
          value : value_of s r.number ≡ r.job.value
          value = value_of_number s sound.numbered r member

    -- the row ends with the job that took
    pub closes_taken : row.interval.took ≡ true
        → Booked k v w (state_with s r Done)
        (ended row.interval.regular (row.interval.taken + value_of s r.number) row.regular (job_of r ∷ []) r.had
        ∷ closed) None
    closes_taken took = closes row.interval.regular (row.interval.taken + value_of s r.number) row.regular
        (job_of r ∷ []) r.had
        under.regular_sum
        (omega (arith, under.none_taken, sum_by-cons job_value (job_of r) [], value))
        (omega (arith, under.none_taken, value))
        (omega arith)
        (omega (arith, had_paid, ap (λ n. w * n) worth))
        (subst (IsPaid k row.interval.displaced) worth
        (subst (λ (t : Task). IsPaid k row.interval.displaced t.job.value) same taker.worth))
        (λ f. omega (arith, sum_by-cons f (job_of r) []))
        (omega arith)
        (each_cons (λ n_j. TakenIn v w (in_rows (new ∷ closed)) new n_j.1) (job_of r) [] taken
        (λ n_j m. absurd m)) where
          value : value_of s r.number ≡ r.job.value
          value = value_of_number s sound.numbered r member

          worth : r.job.value ≡ row.interval.taken + value_of s r.number
          worth = omega (arith, under.none_taken, value)

          taker : Taker k s row.interval.displaced
          taker = under.taker took

          same : taker.job ≡ r
          same = one_number 0 s.tasks sound.numbered taker.job r taker.member member
              (sound.one_runs taker.job r taker.member member taker.runs runs)

          new : Row
          new = ended row.interval.regular (row.interval.taken + value_of s r.number) row.regular (job_of r ∷ []) r.had

          taken : TakenIn v w (in_rows (new ∷ closed)) new r.job
          taken = record {
            covered = λ τ low high. closed_tick closed row new s.clock τ refl refl high
                (books.ready r member (passes is_ready r Running true runs refl) τ low high);
            reach =
                let tight : s.clock + left r ≡ r.job.deadline =
                subst (λ (t : Task). s.clock + left t ≡ t.job.deadline) same taker.tight in
                let most : r.had ≤ r.job.work = sound.at_most_work r member in
                let whole : r.job.deadline + r.had ≡ s.clock + r.job.work = omega arith in
                let times : v * r.job.deadline + v * r.had ≡ v * s.clock + v * r.job.work =
                omega (arith, ap (λ n. v * n) whole) in
                omega (arith, light);
          }
