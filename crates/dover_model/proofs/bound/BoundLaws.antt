-- The rows of a run, and its value against that of every schedule.
use Rattle.std.proofs.Common.{◌≡◌, ℕ, ◌+◌, ◌-◌, ◌*◌, ◌≤◌, ◌<◌, ◌⊎◌, inl, inr, List, [], ◌∷◌, map, refl, sym, ap, ◌∙◌}
use Rattle.std.proofs.Common.{subst, Bool, true, false, cond, arith}
use Rattle.std.specs.Prelude.{None, nat_le, nat_lt, ◌&&◌, ◌||◌}
use Rattle.std.specs.List.{sum_by, count_by, enumerate_from, AllByRecursion}
use Rattle.std.proofs.lemmas.Bool.{cases_lt, le-leb, leb-true}
use Rattle.std.proofs.Math.Nat.{mul-sub, mul-le-mul_right}
use Rattle.std.proofs.lemmas.List.{length-map}
use Rattle.std.proofs.lemmas.List.Sums.{sum_by-cons}
use Rattle.dover_model.specs.Common.{JobFacts, IsJob, IsHeavy, IsWithin, is_busy_tick, IsLeastDense, IsRow, Row}
use Rattle.dover_model.specs.Common.{job_value, completed_in, row_sum, Job, TakenIn, IsPaid, in_rows, observing}
use Rattle.dover_model.specs.Common.{observed, intervals, Coming, Done, Gone, Task, Instance, IsValid, ticks_given}
use Rattle.dover_model.specs.Common.{earned, numbered, worth, State, opening, to_come, is_privileged, is_done, run}
use Rattle.dover_model.specs.Common.{completed_value, IsMember, Each, Keeps}
use Rattle.dover_model.specs.Books.{HasBooks, HadNeeds}
use Rattle.dover_model.specs.Intervals.{Interval}
use Rattle.dover_model.proofs.lists.Members.{sum_le, sum_same, sum_zero, sum_plus, sum_filter, sum_map, all_member}
use Rattle.dover_model.proofs.lists.Members.{each_cons, map_member, on_map}
use Rattle.dover_model.proofs.steps.Roles.{passes, is_over_role}
use Rattle.dover_model.proofs.steps.Kept.{opening_keeps, come_coming}
use Rattle.dover_model.proofs.finishes.Readiness.{opening_ready}
use Rattle.dover_model.proofs.finishes.Needing.{opening_served, needing}
use Rattle.dover_model.proofs.runs.Ending.{run_is_whole}
use Rattle.dover_model.proofs.bound.Calculus.{cancel, within_less}
use Rattle.dover_model.proofs.runs.Serving.{named_once, sum_numbered}
use Rattle.dover_model.proofs.runs.Honest.{sum_tasks, sum_observing}
use Rattle.dover_model.proofs.bound.Counting.{one, total, total_le, total_plus, range_count, total_zero}
use Rattle.dover_model.proofs.bound.Books.{AreBooks}
use Rattle.dover_model.proofs.bound.Augmented.{books_bound}
use Rattle.dover_model.proofs.bound.Booking.{is_gone, is_ready, job_of, sum_where, Booked}
use Rattle.dover_model.proofs.bound.Closing.{row_kept, in_more_rows}
use Rattle.dover_model.proofs.bound.Booked.{IsModest}
use Rattle.dover_model.proofs.bound.BookedRun.{rev_onto, needs_by, EndsFrom, books_at_end}
use Rattle.dover_model.proofs.lists.Tests.{never}
use Rattle.dover_model.proofs.valid.ValidParts.{IsWithinRatio, valid_parts}
use Rattle.dover_model.proofs.valid.JobLimits.{ratio_limits, job_limits}

-- ---- a job of least density

-- what is no denser than what is no denser
no_denser : (i j l : JobFacts) → 1 ≤ j.work → i.value * j.work ≤ j.value * i.work → j.value * l.work ≤ l.value * j.work
    → i.value * l.work ≤ l.value * i.work
no_denser i j l some one other = cancel j.work (i.value * l.work) (l.value * i.work) some (omega (
  arith,
  mul-le-mul_right l.work one,
  mul-le-mul_right i.work other,
))

-- some job has the least density, or there is none
least_dense : (jobs : List JobFacts) → Each (λ j. 1 ≤ j.work) jobs
    → (jobs ≡ []) ⊎ ((j : JobFacts) × IsMember j jobs × Each (λ i. j.value * i.work ≤ i.value * j.work) jobs)
least_dense [] some = inl refl
least_dense (x ∷ jobs) some = inr (by_rest (least_dense jobs (λ y member. some y (inr member)))) where
  by_rest : (jobs ≡ []) ⊎ ((j : JobFacts) × IsMember j jobs × Each (λ i. j.value * i.work ≤ i.value * j.work) jobs)
      → (j : JobFacts) × IsMember j (x ∷ jobs) × Each (λ i. j.value * i.work ≤ i.value * j.work) (x ∷ jobs)
  by_rest (inl none) = (x, inl refl, each) where
    each : Each (λ i. x.value * i.work ≤ i.value * x.work) (x ∷ jobs)
    each i (inl e) = subst (λ (y : JobFacts). x.value * y.work ≤ y.value * x.work) (sym e) (omega arith)
    each i (inr member) = absurd (subst (IsMember i) none member)
  by_rest (inr it) = by_order (cases_lt (x.value * it.0.work) (it.0.value * x.work)) where
    by_order : (x.value * it.0.work < it.0.value * x.work) ⊎ (it.0.value * x.work ≤ x.value * it.0.work)
        → (j : JobFacts) × IsMember j (x ∷ jobs) × Each (λ i. j.value * i.work ≤ i.value * j.work) (x ∷ jobs)
    by_order (inl less) = (x, inl refl, each) where
      each : Each (λ i. x.value * i.work ≤ i.value * x.work) (x ∷ jobs)
      each i (inl e) = subst (λ (y : JobFacts). x.value * y.work ≤ y.value * x.work) (sym e) (omega arith)
      each i (inr member) = no_denser x it.0 i (some it.0 (inr it.1)) (omega arith) (it.2 i member)
    by_order (inr low) = (it.0, inr it.1, each) where
      each : Each (λ i. it.0.value * i.work ≤ i.value * it.0.work) (x ∷ jobs)
      each i (inl e) = subst (λ (y : JobFacts). it.0.value * y.work ≤ y.value * it.0.work) (sym e) low
      each i (inr member) = it.2 i member

-- what holds of each job of an instance holds of each task
each_task : (J : Instance) (s : State) → Keeps J s → (P : JobFacts → Type 0) → Each P J.jobs
    → Each (λ t. P t.job) s.tasks
each_task J s keeps P all t member =
    all t.job (subst (IsMember t.job) keeps.jobs (map_member (λ (x : Task). x.job) s.tasks t member))

-- ---- rows in order

-- rows, the last of which comes first, before others
abbrev in_order : List Row → List Row → List Row
in_order [] later = later
in_order (row ∷ rows) later = in_order rows (row ∷ later)

-- their intervals
intervals_in_order : (rows later : List Row)
    → map (λ row. row.interval) (in_order rows later) ≡ rev_onto rows (map (λ row. row.interval) later)
intervals_in_order [] later = refl
intervals_in_order (row ∷ rows) later = intervals_in_order rows (row ∷ later)

-- of each of them
each_in_order : (P : Row → Type 0) (rows later : List Row) → Each P rows → Each P later → Each P (in_order rows later)
each_in_order P [] later all rest = rest
each_in_order P (row ∷ rows) later all rest =
    each_in_order P rows (row ∷ later) (λ x member. all x (inr member))
    (each_cons P row later (all row (inl refl)) rest)

-- a sum over them
sum_in_order : (f : Row → ℕ) (rows later : List Row) → sum_by f (in_order rows later) ≡ sum_by f rows + sum_by f later
sum_in_order f [] later = omega arith
sum_in_order f (row ∷ rows) later =
    omega (arith, sum_in_order f rows (row ∷ later), sum_by-cons f row later, sum_by-cons f row rows)

-- a tick in one of the later ones
later_in_order : (rows later : List Row) (τ : ℕ) → in_rows later τ ≡ true → in_rows (in_order rows later) τ ≡ true
later_in_order [] later τ h = h
later_in_order (row ∷ rows) later τ h = later_in_order rows (row ∷ later) τ (in_more_rows row later τ h)

-- a tick in one of the others
tick_in_order : (rows later : List Row) (τ : ℕ) → in_rows rows τ ≡ true → in_rows (in_order rows later) τ ≡ true
tick_in_order [] later τ h = never h
tick_in_order (row ∷ rows) later τ h =
    by_row (nat_le row.interval.from τ && nat_lt τ row.interval.until) refl h (later_in_order rows (row ∷ later) τ)
    (tick_in_order rows (row ∷ later) τ) where
      by_row : (b : Bool) → (nat_le row.interval.from τ && nat_lt τ row.interval.until) ≡ b
          → (b || in_rows rows τ) ≡ true
          → (in_rows (row ∷ later) τ ≡ true → in_rows (in_order rows (row ∷ later)) τ ≡ true)
          → (in_rows rows τ ≡ true → in_rows (in_order rows (row ∷ later)) τ ≡ true)
          → in_rows (in_order rows (row ∷ later)) τ ≡ true
      by_row true e h here there = here (ap (λ b. b || in_rows later τ) e)
      by_row false e h here there = there h

-- rows have no more busy ticks than they are long
busy_most : (rows : List Row) (s : List ℕ)
    → total (λ τ m. one (in_rows rows τ)) 0 s ≤ sum_by (λ row. row.interval.until - row.interval.from) rows
busy_most [] s = omega (arith, total_zero 0 s)
busy_most (row ∷ rows) s =
    let parts : total (λ τ m. one (in_rows (row ∷ rows) τ)) 0 s ≤ total
    (λ τ m. one (nat_le row.interval.from τ && nat_lt τ row.interval.until) + one (in_rows rows τ)) 0 s =
    total_le (λ τ m. one (in_rows (row ∷ rows) τ))
    (λ τ m. one (nat_le row.interval.from τ && nat_lt τ row.interval.until) + one (in_rows rows τ)) 0 s
    (λ τ m. either (nat_le row.interval.from τ && nat_lt τ row.interval.until) (in_rows rows τ)) in
    omega (
      arith,
      total_plus (λ τ m. one (nat_le row.interval.from τ && nat_lt τ row.interval.until))
          (λ τ m. one (in_rows rows τ)) 0 s,
      range_count row.interval.from row.interval.until 0 s,
      busy_most rows s,
      sum_by-cons (λ (x : Row). x.interval.until - x.interval.from) row rows,
    ) where
      either : (a b : Bool) → one (a || b) ≤ one a + one b
      either true b = omega arith
      either false b = omega arith

-- a length that is paid for
length_paid : (v w from until worth : ℕ) → from ≤ until → v * until ≤ v * from + w * worth
    → v * (until - from) ≤ w * worth
length_paid v w from until worth ordered paid = omega (arith, mul-sub v until from, paid)

-- ---- jobs with other works

-- the job with this work
abbrev with_work : JobFacts → ℕ → JobFacts
with_work j n = record { release = j.release; work = n; deadline = j.deadline; value = j.value }

-- the books of the jobs of a run as they were observed, and what they complete
pub record SeenBooks (J : Instance) (v w : ℕ) : Type 0 where
  pub rows : List Row
  pub busy : ℕ → Bool
  pub books : AreBooks J.rules.ratio v w (numbered (observed J)) rows busy
  pub completed : sum_by completed_in rows ≡ completed_value J

-- ---- the run of a valid instance

-- no job is less dense than a job of least density, nor more than the ratio lets it be
pub least_modest : (J : Instance) → IsValid J → (j : JobFacts) → IsLeastDense J j
    → Each (IsModest J.rules.ratio j.value j.work) J.jobs
least_modest J valid j least i member = (
  (let ratio : J.rules.ratio.q * i.value * j.work ≤ J.rules.ratio.p * j.value * i.work =
      all_member (IsWithinRatio J.rules.ratio i) J.jobs
      (all_member (λ x. AllByRecursion (IsWithinRatio J.rules.ratio x) J.jobs) J.jobs (valid_parts valid).densities i
      member) j
      least.job in omega arith),
  (let low : j.value * i.work ≤ i.value * j.work = least.least i member in omega arith),
)

-- of no value and no work each job is as dense
nothing_modest : (J : Instance) → Each (IsModest J.rules.ratio 0 0) J.jobs
nothing_modest J i member = (omega arith, omega arith)

module _ (J : Instance) (valid : IsValid J) (v w : ℕ) (modest : Each (IsModest J.rules.ratio v w) J.jobs) where
  -- at the opening nothing is booked
  opening_booked : Booked J.rules.ratio v w (opening J.jobs) [] None
  opening_booked = record {
    under = λ t m is_in. never (sym (passes is_privileged t Coming false (comes t m) refl) ∙ is_in);
    ready = λ t m is_r. never (sym (passes is_ready t Coming false (comes t m) refl) ∙ is_r);
    rows = λ row member. absurd member;
    done = λ f. sum_zero (λ t. cond (is_done t) (f (job_of t)) 0) (to_come 0 J.jobs)
        (λ t m. ap (λ b. cond b (f (job_of t)) 0) (passes is_done t Coming false (comes t m) refl));
    gone = λ f. sum_zero (λ t. cond (is_gone t) (f (job_of t)) 0) (to_come 0 J.jobs)
        (λ t m. ap (λ b. cond b (f (job_of t)) 0) (passes is_gone t Coming false (comes t m) refl));
  } where
    comes : (t : Task) → IsMember t (to_come 0 J.jobs) → t.role ≡ Coming
    comes t m = (come_coming 0 J.jobs t m).0

  -- the books at the end
  end : EndsFrom J valid v w (λ s keeps. each_task J s keeps (IsModest J.rules.ratio v w) modest) (run J) 0 [] None
  end = books_at_end J valid v w (λ s keeps. each_task J s keeps (IsModest J.rules.ratio v w) modest) (run J)
      (opening J.jobs) (opening_keeps J) (opening_ready J.rules.finishes J.jobs)
      (opening_served J.rules.finishes J.jobs) [] None opening_booked (λ row member. absurd member)
      (run_is_whole J valid)

  -- the rows
  abbrev rows : List Row
  rows = in_order end.rows []

  -- they are the intervals
  rows_are_intervals : map (λ row. row.interval) rows ≡ intervals J
  rows_are_intervals = intervals_in_order end.rows [] ∙ end.are

  -- what is known of each
  each_row : Each (IsRow J.rules.ratio v w (in_rows rows)) rows
  each_row = each_in_order (IsRow J.rules.ratio v w (in_rows rows)) end.rows []
      (λ row member. row_kept J.rules.ratio v w (in_rows end.rows) (in_rows rows) (tick_in_order end.rows []) row
      (end.booked.rows row member))
      (λ row member. absurd member)

  -- each job that is completed after a take had what it needs
  each_exact : HadNeeds (needs_by J.rules.finishes) rows
  each_exact = each_in_order (λ row. Each (λ n_j. row.had ≡ needs_by J.rules.finishes n_j) row.taken) end.rows []
      end.exact (λ row member. absurd member)

  -- a sum over the rows
  sum_rows : (f : Row → ℕ) → sum_by f rows ≡ sum_by f end.rows
  sum_rows f = sum_in_order f end.rows [] ∙ omega arith

  -- each job is done or gone
  done_or_gone : (f : Job → ℕ)
      → sum_by f (numbered J) ≡ sum_where is_done f end.last.tasks + sum_where is_gone f end.last.tasks
  done_or_gone f = ap (λ jobs. sum_by f (enumerate_from 0 jobs)) (sym end.keeps.jobs)
      ∙ sum_tasks f 0 end.last.tasks end.keeps.sound.numbered
      ∙ sum_same (λ t. f (job_of t))
      (λ t. cond (is_done t) (f (job_of t)) 0 + cond (is_gone t) (f (job_of t)) 0) end.last.tasks
      (λ t m. by_role t (is_over_role t (end.over t m)))
      ∙ sum_plus (λ t. cond (is_done t) (f (job_of t)) 0) (λ t. cond (is_gone t) (f (job_of t)) 0) end.last.tasks where
        by_role : (t : Task) → (t.role ≡ Done) ⊎ (t.role ≡ Gone)
            → f (job_of t) ≡ cond (is_done t) (f (job_of t)) 0 + cond (is_gone t) (f (job_of t)) 0
        by_role t (inl e) = omega (
          arith,
          ap (λ b. cond b (f (job_of t)) 0) (passes is_done t Done true e refl),
          ap (λ b. cond b (f (job_of t)) 0)
              (passes is_gone t Done false e refl),
        )
        by_role t (inr e) = omega (
          arith,
          ap (λ b. cond b (f (job_of t)) 0) (passes is_done t Gone false e refl),
          ap (λ b. cond b (f (job_of t)) 0)
              (passes is_gone t Gone true e refl),
        )

  -- the done jobs are those completed in a row
  done_rows : (f : Job → ℕ)
      → sum_where is_done f end.last.tasks ≡ sum_by (λ row. sum_by f row.regular + sum_by f row.taken) rows
  done_rows f = omega (arith, end.booked.done f, sum_rows (λ row. sum_by f row.regular + sum_by f row.taken))

  -- the gone jobs are those abandoned in a row
  gone_rows : (f : Job → ℕ) → sum_where is_gone f end.last.tasks ≡ sum_by (λ row. sum_by f row.gone) rows
  gone_rows f = omega (arith, end.booked.gone f, sum_rows (λ row. sum_by f row.gone))

  -- each job is in one row
  each_once : (f : Job → ℕ) → sum_by f (numbered J) ≡ sum_by (row_sum f) rows
  each_once f = omega (
    arith,
    done_or_gone f,
    done_rows f,
    gone_rows f,
    sum_plus (λ row. sum_by f row.regular + sum_by f row.taken)
        (λ row. sum_by f row.gone) rows,
  )

  -- the rows last as long as some job runs
  busy_rows : sum_by (λ row. row.interval.until - row.interval.from) rows ≡ count_by is_busy_tick (run J)
  busy_rows = omega (arith, sum_rows (λ row. row.interval.until - row.interval.from), end.lasts)

  -- what the rows complete is what the run has done
  completed_rows : sum_by completed_in rows ≡ completed_value J
  completed_rows = sum_same completed_in (λ row. sum_by job_value row.regular + sum_by job_value row.taken) rows
      (λ row member. let one : row.interval.regular ≡ sum_by job_value row.regular =
      (each_row row member).regular_sum in
      let other : row.interval.taken ≡ sum_by job_value row.taken = (each_row row member).taken_sum in omega arith)
      ∙ omega (arith, done_rows job_value, sum_filter is_done (λ t. t.job.value) end.last.tasks, end.value 0)

  -- what they abandon is the rest
  abandoned_rows : completed_value J + sum_by (λ row. row.interval.abandoned) rows ≡ sum_by job_value (numbered J)
  abandoned_rows = omega (
    arith,
    done_or_gone job_value,
    gone_rows job_value,
    sum_filter is_done (λ t. t.job.value) end.last.tasks,
    end.value 0,
    sum_same (λ row. row.interval.abandoned) (λ row. sum_by job_value row.gone) rows
        (λ row member. (each_row row member).abandoned_sum),
  )

  -- ---- the jobs as they were observed

  -- a completed job asks for what it needs
  abbrev seen : Job → Job
  seen n_j = (n_j.0, needing J.rules.finishes n_j)

  -- a row of such jobs
  abbrev seen_row : Row → Row
  seen_row row = record {
    interval = row.interval;
    regular = map seen row.regular;
    taken = map seen row.taken;
    gone = row.gone;
    had = row.had;
  }

  -- what is known of each
  each_seen : Each (IsRow J.rules.ratio v w (in_rows rows)) (map seen_row rows)
  each_seen = on_map seen_row (IsRow J.rules.ratio v w (in_rows rows)) rows (λ row member. row_seen row
      (each_row row member)) where
        row_seen : (row : Row) → IsRow J.rules.ratio v w (in_rows rows) row
            → IsRow J.rules.ratio v w (in_rows rows) (seen_row row)
        row_seen row it = record {
          regular_sum = it.regular_sum ∙ sym (sum_map seen job_value row.regular);
          taken_sum = it.taken_sum ∙ sym (sum_map seen job_value row.taken);
          abandoned_sum = it.abandoned_sum;
          lost = it.lost;
          ordered = it.ordered;
          displaced = it.displaced;
          span = it.span;
          had_paid = it.had_paid;
          one_taken = omega (arith, it.one_taken, length-map row.taken seen);
          taken = on_map seen (λ n_j. TakenIn v w (in_rows rows) (seen_row row) n_j.1) row.taken
              (λ n_j m. record { covered = (it.taken n_j m).covered; reach = (it.taken n_j m).reach });
          gone = λ n_j m. (
            record {
              covered = (it.gone n_j m).0.covered;
              reach = (it.gone n_j m).0.reach;
              light = (it.gone n_j m).0.light;
            },
            (it.gone n_j m).1,
          );
        }

  -- a job completed after a take asks for what it had
  seen_exact : Each (λ row. Each (λ n_j. row.had ≤ n_j.1.work) row.taken) (map seen_row rows)
  seen_exact = on_map seen_row (λ row. Each (λ n_j. row.had ≤ n_j.1.work) row.taken) rows
      (λ row member. on_map seen (λ n_j. row.had ≤ n_j.1.work) row.taken
      (λ n_j m. let had : row.had ≡ needs_by J.rules.finishes n_j = each_exact row member n_j m in omega arith))

  -- a sum over the rows of such jobs
  seen_sum : (f : Job → ℕ) → sum_by (row_sum f) (map seen_row rows) ≡ sum_by
      (λ row. sum_by (λ n_j. f (seen n_j)) row.regular + sum_by (λ n_j. f (seen n_j)) row.taken) rows + sum_by
      (λ row. sum_by f row.gone) rows
  seen_sum f = sum_map seen_row (row_sum f) rows
      ∙ sum_same (λ row. row_sum f (seen_row row))
      (λ row. sum_by (λ n_j. f (seen n_j)) row.regular + sum_by (λ n_j. f
      (seen n_j)) row.taken + sum_by f row.gone) rows
      (λ row member. omega (arith, sum_map seen f row.regular, sum_map seen f row.taken))
      ∙ sum_plus (λ row. sum_by (λ n_j. f (seen n_j)) row.regular + sum_by (λ n_j. f (seen n_j)) row.taken)
      (λ row. sum_by f row.gone) rows

  -- a sum over the observed jobs is one over the tasks at the end
  sum_observed : (f : Job → ℕ)
      → sum_by f (numbered (observed J)) ≡ sum_by (λ t. f (t.number, observing t)) end.last.tasks
  sum_observed f = ap (λ (s : State). sum_by f (enumerate_from 0 (map observing s.tasks)))
      (end.is_last (opening J.jobs))
      ∙ sum_observing f 0 end.last.tasks end.keeps.sound.numbered

  -- each observed job is in one row
  each_seen_once : (f : Job → ℕ) → sum_by f (numbered (observed J)) ≡ sum_by (row_sum f) (map seen_row rows)
  each_seen_once f = omega (
    arith,
    sum_observed f,
    sum_same (λ t. f (t.number, observing t))
        (λ t. cond (is_done t) (f (seen (job_of t))) 0 + cond (is_gone t) (f (job_of t)) 0) end.last.tasks
        (λ t m. by_role t m (is_over_role t (end.over t m))),
    sum_plus (λ t. cond (is_done t) (f (seen (job_of t))) 0) (λ t. cond (is_gone t) (f (job_of t)) 0) end.last.tasks,
    done_rows (λ n_j. f (seen n_j)),
    gone_rows f,
    seen_sum f,
  ) where
    by_role : (t : Task) → IsMember t end.last.tasks → (t.role ≡ Done) ⊎ (t.role ≡ Gone)
        → f (t.number, observing t) ≡ cond (is_done t) (f (seen (job_of t))) 0 + cond (is_gone t) (f (job_of t)) 0
    by_role t m (inl e) = omega (
      arith,
      ap (λ n. f (t.number, with_work t.job n))
          (ap (λ b. cond b t.had t.job.work) (passes is_done t Done true e refl) ∙ (end.served t m).done e),
      ap (λ b. cond b (f (seen (job_of t))) 0) (passes is_done t Done true e refl),
      ap (λ b. cond b (f (job_of t)) 0) (passes is_gone t Done false e refl),
    )
    by_role t m (inr e) = omega (
      arith,
      ap (λ n. f (t.number, with_work t.job n))
          (ap (λ b. cond b t.had t.job.work) (passes is_done t Gone false e refl)),
      ap (λ b. cond b (f (seen (job_of t))) 0) (passes is_done t Gone false e refl),
      ap (λ b. cond b (f (job_of t)) 0) (passes is_gone t Gone true e refl),
    )

  -- what the rows of such jobs complete is what the run has done
  completed_seen : sum_by completed_in (map seen_row rows) ≡ completed_value J
  completed_seen = sum_map seen_row completed_in rows ∙ completed_rows

  -- the books of the jobs as they were observed, where the work is some
  pub seen_books : 1 ≤ w → SeenBooks J v w
  seen_books some = record {
    rows = map seen_row rows;
    busy = in_rows rows;
    books = record {
      some_q = (ratio_limits (valid_parts valid).ratio).least;
      ratio = (ratio_limits (valid_parts valid).ratio).above_one;
      some_work = some;
      each_once = each_seen_once;
      names = λ m. named_once m 0 (observed J).jobs;
      rows_are = each_seen;
      exact = seen_exact;
      busy_most = λ ticks. omega (
        arith,
        busy_most rows ticks,
        sum_map seen_row (λ (row : Row). row.interval.until - row.interval.from) rows,
      );
    };
    completed = completed_seen;
  }

  -- the bound on them
  observed_by : 1 ≤ w → (s : List ℕ) → IsWithin J.rules.ratio (worth (observed J) s) (completed_value J)
  observed_by some s = subst (IsWithin J.rules.ratio (worth (observed J) s)) (seen_books some).completed
      (books_bound J.rules.ratio v w (numbered (observed J)) (seen_books some).rows (seen_books some).busy
      (seen_books some).books s)

  -- a schedule is worth no less by the observed jobs than by what they declare
  declared_less : (s : List ℕ) → worth J s ≤ worth (observed J) s
  declared_less s = omega (
    arith,
    ap (λ jobs. sum_by (earned s) (enumerate_from 0 jobs)) (sym end.keeps.jobs),
    sum_tasks (earned s) 0 end.last.tasks end.keeps.sound.numbered,
    sum_le (λ t. earned s (t.number, t.job)) (λ t. earned s (t.number, observing t)) end.last.tasks
        (λ t m. earns_less t (ticks_given s t.number t.job) (by_role t m (is_done t))),
    sum_observed (earned s),
  ) where
    by_role : (t : Task) → IsMember t end.last.tasks → (b : Bool) → cond b t.had t.job.work ≤ t.job.work
    by_role t m true = end.keeps.sound.at_most_work t m
    by_role t m false = omega arith

    earns_less : (t : Task) (given : ℕ) → cond (is_done t) t.had t.job.work ≤ t.job.work
        → cond (nat_le t.job.work given) t.job.value 0 ≤ cond (nat_le (cond (is_done t) t.had t.job.work) given)
        t.job.value 0
    earns_less t given less = by_test (nat_le t.job.work given) (nat_le (cond (is_done t) t.had t.job.work) given)
        refl refl where
          by_test : (a b : Bool) → nat_le t.job.work given ≡ a
              → nat_le (cond (is_done t) t.had t.job.work) given ≡ b → cond a t.job.value 0 ≤ cond b t.job.value 0
          by_test false b e f = omega arith
          by_test true true e f = omega arith
          by_test true false e f = never
              (sym f ∙ le-leb _ _ (let low : t.job.work ≤ given = leb-true _ _ e in omega arith))

  -- of each interval, where it holds of each row
  of_each : (P : Interval → Type 0) → Each (λ row. P row.interval) rows → Each P (intervals J)
  of_each P all = subst (Each P) rows_are_intervals (on_map (λ (row : Row). row.interval) P rows all)

  -- a sum over the intervals
  sum_is : (f : Interval → ℕ) → sum_by f (intervals J) ≡ sum_by (λ row. f row.interval) rows
  sum_is f = ap (sum_by f) (sym rows_are_intervals) ∙ sum_map (λ (row : Row). row.interval) f rows

-- an instance has a job of least density, or no job
pub some_least : (J : Instance) → IsValid J → (J.jobs ≡ []) ⊎ ((j : JobFacts) × IsLeastDense J j)
some_least J valid = by_jobs (least_dense J.jobs (λ j member.
    (job_limits (all_member IsJob J.jobs (valid_parts valid).each j member)).work)) where
      by_jobs : (J.jobs ≡ []) ⊎ ((j : JobFacts) × IsMember j J.jobs
          × Each (λ i. j.value * i.work ≤ i.value * j.work) J.jobs)
          → (J.jobs ≡ []) ⊎ ((j : JobFacts) × IsLeastDense J j)
      by_jobs (inl none) = inl none
      by_jobs (inr it) = inr (it.0, record { job = it.1; least = it.2 })

-- no schedule of the jobs as they were observed is worth more than the bound of what the run completes
pub observed_bound : (J : Instance) (s : List ℕ) → IsValid J
    → IsWithin J.rules.ratio (worth (observed J) s) (completed_value J)
observed_bound J s valid = by_jobs (some_least J valid) where
  by_jobs : (J.jobs ≡ []) ⊎ ((j : JobFacts) × IsLeastDense J j)
      → IsWithin J.rules.ratio (worth (observed J) s) (completed_value J)
  by_jobs (inr it) = observed_by J valid it.0.value it.0.work (least_modest J valid it.0 it.1)
      (job_limits (all_member IsJob J.jobs (valid_parts valid).each it.0 it.1.job)).work s
  by_jobs (inl none) = observed_by J valid 0 1 (λ i member. absurd (subst (IsMember i) none member)) (omega arith) s

-- nor is one of the jobs as they are declared
pub bound : (J : Instance) (s : List ℕ) → IsValid J → IsWithin J.rules.ratio (worth J s) (completed_value J)
bound J s valid = within_less J.rules.ratio (worth J s) (worth (observed J) s) (completed_value J)
    (declared_less J valid 0 0 (nothing_modest J) s) (observed_bound J s valid)

-- ---- what is said of each interval

-- a run has books
pub has_books : (J : Instance) (j : JobFacts) → IsValid J → IsLeastDense J j → HasBooks J j
has_books J j valid least = record {
  rows = rows J valid j.value j.work (least_modest J valid j least);
  are = rows_are_intervals J valid j.value j.work (least_modest J valid j least);
  each_once = each_once J valid j.value j.work (least_modest J valid j least);
  rows_are = each_row J valid j.value j.work (least_modest J valid j least);
  exact = each_exact J valid j.value j.work (least_modest J valid j least);
}

-- each interval begins no later than it ends
pub interval_ordered : (J : Instance) → IsValid J → Each (λ i. i.from ≤ i.until) (intervals J)
interval_ordered J valid = of_each J valid 0 0 (nothing_modest J) (λ i. i.from ≤ i.until)
    (λ row member. (each_row J valid 0 0 (nothing_modest J) row member).ordered)

-- what it displaces is little against what is taken in it
pub interval_displaced : (J : Instance) → IsValid J
    → Each (λ i. IsPaid J.rules.ratio i.displaced i.taken) (intervals J)
interval_displaced J valid = of_each J valid 0 0 (nothing_modest J)
    (λ i. IsPaid J.rules.ratio i.displaced i.taken)
    (λ row member. (each_row J valid 0 0 (nothing_modest J) row member).displaced)

-- its length is paid for
pub interval_paid : (J : Instance) (j : JobFacts) → IsValid J → IsLeastDense J j
    → Each (λ i. j.value * (i.until - i.from) ≤ j.work * (i.regular + i.taken + i.displaced)) (intervals J)
interval_paid J j valid least =
    of_each J valid j.value j.work (least_modest J valid j least)
    (λ i. j.value * (i.until - i.from) ≤ j.work * (i.regular + i.taken + i.displaced))
    (λ row member. length_paid j.value j.work row.interval.from row.interval.until
    (row.interval.regular + row.interval.taken + row.interval.displaced)
    (each_row J valid j.value j.work (least_modest J valid j least) row member).ordered
    (let it : IsRow J.rules.ratio j.value j.work (in_rows (rows J valid j.value j.work (least_modest J valid j least)))
    row = each_row J valid j.value j.work (least_modest J valid j least) row member in
    omega (arith, it.span, it.had_paid)))

-- no job that is abandoned in it is heavy against what is completed in it
pub interval_light : (J : Instance) → IsValid J
    → Each (λ i. Each (λ value. IsHeavy J.rules.ratio value (i.regular + i.taken) → ⊥) i.lost) (intervals J)
interval_light J valid =
    of_each J valid 0 0 (nothing_modest J)
    (λ i. Each (λ value. IsHeavy J.rules.ratio value (i.regular + i.taken) → ⊥) i.lost)
    (λ row member. let it : IsRow J.rules.ratio 0 0 (in_rows (rows J valid 0 0 (nothing_modest J))) row =
    each_row J valid 0 0 (nothing_modest J) row member in
    subst (Each (λ value. IsHeavy J.rules.ratio value (completed_in row) → ⊥)) (sym it.lost)
    (on_map job_value (λ value. IsHeavy J.rules.ratio value (completed_in row) → ⊥) row.gone
    (λ n_j m. (it.gone n_j m).0.light)))

-- what it abandons is the sum of what is lost in it
pub interval_lost : (J : Instance) → IsValid J → Each (λ i. i.abandoned ≡ sum_by (λ value. value) i.lost) (intervals J)
interval_lost J valid = of_each J valid 0 0 (nothing_modest J) (λ i. i.abandoned ≡ sum_by (λ value. value) i.lost)
    (λ row member. let it : IsRow J.rules.ratio 0 0 (in_rows (rows J valid 0 0 (nothing_modest J))) row =
    each_row J valid 0 0 (nothing_modest J) row member in
    it.abandoned_sum ∙ sym (sum_map job_value (λ value. value) row.gone) ∙ ap (sum_by (λ value. value)) (sym it.lost))

-- all intervals complete the value of the run
pub intervals_complete : (J : Instance) → IsValid J
    → sum_by (λ i. i.regular + i.taken) (intervals J) ≡ completed_value J
intervals_complete J valid = sum_is J valid 0 0 (nothing_modest J) (λ i. i.regular + i.taken)
    ∙ completed_rows J valid 0 0 (nothing_modest J)

-- and abandon the rest
pub intervals_abandon : (J : Instance) → IsValid J
    → completed_value J + sum_by (λ i. i.abandoned) (intervals J) ≡ sum_by (λ j. j.value) J.jobs
intervals_abandon J valid = ap (λ n. completed_value J + n) (sum_is J valid 0 0 (nothing_modest J) (λ i. i.abandoned))
    ∙ abandoned_rows J valid 0 0 (nothing_modest J) ∙ sum_numbered (λ j. j.value) 0 J.jobs

-- all intervals last as long as some job runs
pub intervals_last : (J : Instance) → IsValid J
    → sum_by (λ i. i.until - i.from) (intervals J) ≡ count_by is_busy_tick (run J)
intervals_last J valid = sum_is J valid 0 0 (nothing_modest J) (λ i. i.until - i.from)
    ∙ busy_rows J valid 0 0 (nothing_modest J)
