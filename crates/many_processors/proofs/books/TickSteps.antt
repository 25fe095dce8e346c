-- The books after a silent tick.
use Rattle.std.proofs.Common.{◌≡◌, ℕ, suc, zero, ◌+◌, ◌*◌, ◌≤◌, ◌<◌, ◌⊎◌, inl, inr, List, [], ◌∷◌, ◌++◌, length, map}
use Rattle.std.proofs.Common.{refl, sym, ap, ◌∙◌, subst, Bool, true, false, cond, eqb, arith, sum_by, nat_le, nat_lt}
use Rattle.std.proofs.Common.{eqb-true, eq-eqb, ne_eqb, ◌&&◌, ◌==◌, filter}
use Rattle.std.proofs.lemmas.Bool.{and_parts, cases_lt, le-ltb}
use Rattle.std.proofs.lemmas.List.Sums.{sum_by-cons, sum_by-append}
use Rattle.dover_model.specs.declared.events.Task.{Task}
use Rattle.dover_model.specs.declared.events.Role.{Role}
use Rattle.dover_model.specs.declared.events.Role.TheVariants.{Coming, Fresh, Waiting, Held, Running, Done, Gone}
use Rattle.dover_model.specs.JobFacts.{JobFacts}
use Rattle.dover_model.specs.Fraction.{Fraction}
use Rattle.dover_model.specs.Books.{Job}
use Rattle.dover_model.specs.Common.{Rules, is_privileged, is_done, is_over, is_running, is_waiting, is_ready_behind}
use Rattle.dover_model.specs.Common.{left, IsMember, Each, running, NoneRuns}
use Rattle.dover_model.proofs.bound.Booking.{is_gone}
use Rattle.dover_model.proofs.bound.Counting.{one}
use Rattle.dover_model.proofs.lists.Tests.{never}
use Rattle.dover_model.proofs.lists.Members.{map_member, sum_le, sum_same, sum_map, sum_plus, on_map, sum_zero}
use Rattle.dover_model.proofs.lists.Members.{term_le_sum}
use Rattle.dover_model.proofs.lists.Members.{filter_member, found, reduce_none, member_either}
use Rattle.dover_model.proofs.steps.Roles.{passes, is_privileged_role, is_running_role}
use Rattle.dover_model.proofs.steps.Ticking.{Quiet}
use Rattle.many_processors.specs.State.{Placed, State, tasks_of, seen_by, seen_from}
use Rattle.many_processors.specs.Step.{seen, all_seen, is_own_of, numbers_from, ticked, with_tick, is_free}
use Rattle.many_processors.specs.Step.{after, Ticks}
use Rattle.many_processors.specs.Run.{numbers_running}
use Rattle.many_processors.specs.Sound.{Keeps}
use Rattle.many_processors.specs.Books.{open_at, is_open, given_at, IsPaidTwice}
use Rattle.many_processors.proofs.bound.Ticks.{given_front, given_last, length_last, given_more}
use Rattle.many_processors.specs.Schedules.{is_named}
use Rattle.many_processors.proofs.steps.Seeing.{seen_sees, below_numbers, numbers_below}
use Rattle.many_processors.proofs.steps.Cases.{IsQuiet, some_from}
use Rattle.many_processors.proofs.steps.Placing.{seen_member, seen_own, own_seen, off_seen}
use Rattle.many_processors.proofs.steps.Turns.{running_on, runs_by_role}
use Rattle.many_processors.proofs.books.Booked.{own_sum, placed_sum, value_of, number_and_job, Taker, Under, WasBusy}
use Rattle.many_processors.proofs.books.Booked.{is_light_on, Booked, fallen, fallen_value, is_excused, excused_on}
use Rattle.many_processors.proofs.books.Moved.{light_grows}
use Rattle.many_processors.proofs.books.OverSteps.{all_count}

-- ---- sums

-- sums in either order
pub sum_swap : {X Y : Type 0} (f : X → Y → ℕ) (xs : List X) (ys : List Y)
    → sum_by (λ x. sum_by (f x) ys) xs ≡ sum_by (λ y. sum_by (λ x. f x y) xs) ys
sum_swap f [] ys = sym (sum_zero (λ y. 0) ys (λ y m. refl))
sum_swap f (x ∷ xs) ys = omega (
  arith,
  sum_by-cons (λ z. sum_by (f z) ys) x xs,
  sum_swap f xs ys,
  sum_plus (f x) (λ y. sum_by (λ z. f z y) xs) ys,
  sum_same (λ y. sum_by (λ z. f z y) (x ∷ xs)) (λ y. f x y + sum_by (λ z. f z y) xs) ys
      (λ y m. sum_by-cons (λ z. f z y) x xs),
)

-- a number is one processor's at most
none_below : (n q more : ℕ) → n < q → sum_by (λ j. one (eqb n j)) (numbers_from q more) ≡ 0
none_below n q zero low = refl
none_below n q (suc more) low = omega (
  arith,
  sum_by-cons (λ j. one (eqb n j)) q (numbers_from (suc q) more),
  ap one (ne_eqb n q (λ e. absurd (omega (arith, e, low)))),
  none_below n (suc q) more (omega (arith, low)),
)

pub one_number : (n q more : ℕ) → sum_by (λ j. one (eqb n j)) (numbers_from q more) ≤ 1
one_number n q zero = omega arith
one_number n q (suc more) = by_test (eqb n q) refl (one_number n (suc q) more) where
  by_test : (b : Bool) → eqb n q ≡ b → sum_by (λ j. one (eqb n j)) (numbers_from (suc q) more) ≤ 1
      → sum_by (λ j. one (eqb n j)) (numbers_from q (suc more)) ≤ 1
  by_test false e ih = omega (arith, ih, sum_by-cons (λ j. one (eqb n j)) q (numbers_from (suc q) more), ap one e)
  by_test true e ih = omega (
    arith,
    sum_by-cons (λ j. one (eqb n j)) q (numbers_from (suc q) more),
    ap one e,
    none_below n (suc q) more (omega (arith, eqb-true _ _ e)),
  )

-- ---- who runs

-- the job runs on processor q
abbrev pub serves : ℕ → Placed → Bool
serves q p = is_running p.task && p.owner == q

-- a job runs on one processor
one_runs_on : (p : Placed) (q more : ℕ) → sum_by (λ j. one (serves j p)) (numbers_from q more) ≤ one (is_running p.task)
one_runs_on p q more = by_role (is_running p.task) where
  by_role : (a : Bool) → sum_by (λ j. one (a && p.owner == j)) (numbers_from q more) ≤ one a
  by_role true = one_number p.owner q more
  by_role false = omega (arith, sum_zero (λ (j : ℕ). 0) (numbers_from q more) (λ j m. refl))

-- so many run as processors run some
pub running_many : (f : ℕ → ℕ) (jobs : List Placed) (q more : ℕ)
    → Each (λ j. f j ≤ sum_by (λ p. one (serves j p)) jobs) (numbers_from q more)
    → sum_by f (numbers_from q more) ≤ sum_by (λ p. one (is_running p.task)) jobs
running_many f jobs q more each = omega (
  arith,
  sum_le f (λ j. sum_by (λ p. one (serves j p)) jobs) (numbers_from q more) each,
  sum_swap (λ (j : ℕ) p. one (serves j p)) (numbers_from q more) jobs,
  sum_le (λ p. sum_by (λ j. one (serves j p)) (numbers_from q more)) (λ p. one (is_running p.task)) jobs
      (λ p m. one_runs_on p q more),
)

-- the numbers of those that run
pub running_count : (jobs : List Placed)
    → length (map (λ t. t.number) (filter is_running (tasks_of jobs))) ≡ sum_by (λ p. one (is_running p.task)) jobs
running_count [] = refl
running_count (p ∷ jobs) = by_test (is_running p.task) refl (running_count jobs) where
  by_test : (b : Bool) → is_running p.task ≡ b
      → length (map (λ t. t.number) (filter is_running (tasks_of jobs))) ≡ sum_by (λ p. one (is_running p.task)) jobs
      → length (map (λ t. t.number)
      (cond b (p.task ∷ filter is_running (tasks_of jobs)) (filter is_running (tasks_of jobs))))
      ≡ sum_by (λ p. one (is_running p.task)) (p ∷ jobs)
  by_test true e ih = omega (arith, ih, sum_by-cons (λ u. one (is_running u.task)) p jobs, ap one e)
  by_test false e ih = omega (arith, ih, sum_by-cons (λ u. one (is_running u.task)) p jobs, ap one e)

pub running_member : (s : State) (p : Placed) → IsMember p s.jobs → is_running p.task ≡ true
    → IsMember p.task.number (numbers_running s)
running_member s p member e = map_member (λ (t : Task). t.number) (filter is_running (tasks_of s.jobs)) p.task
    (filter_member is_running (tasks_of s.jobs) p.task (map_member (λ (u : Placed). u.task) s.jobs p member) e)

-- ---- one job

-- what the tick leaves
pub tick_plain : (p : Placed) → ((ticked p).task.number ≡ p.task.number) × ((ticked p).task.job ≡ p.task.job)
    × ((ticked p).task.role ≡ p.task.role) × ((ticked p).owner ≡ p.owner)
    × ((ticked p).task.had ≡ p.task.had + one (is_running p.task))
tick_plain p = by_test (is_running p.task) where
  by_test : (b : Bool) → let u = cond b (record { task = with_tick p.task; owner = p.owner }) p in
      (u.task.number ≡ p.task.number) × (u.task.job ≡ p.task.job) × (u.task.role ≡ p.task.role) × (u.owner ≡ p.owner)
      × (u.task.had ≡ p.task.had + one b)
  by_test true = (refl, refl, refl, refl, refl)
  by_test false = (refl, refl, refl, refl, omega arith)

-- a test of the role stays
role_test : (test : Task → Bool) → ((t : Task) (n m : ℕ) → test (record {
  number = t.number;
  job = t.job;
  role = t.role;
  had = n;
}) ≡ test (record { number = t.number; job = t.job; role = t.role; had = m })) → (p : Placed)
    → test (ticked p).task ≡ test p.task
role_test test same p = by_test (is_running p.task) where
  by_test : (b : Bool) → test (cond b (record { task = with_tick p.task; owner = p.owner }) p).task
      ≡ test p.task
  by_test true = same p.task (p.task.had + 1) p.task.had
  by_test false = refl

tick_own : (q : ℕ) (p : Placed) → is_own_of q (ticked p) ≡ is_own_of q p
tick_own q p = by_test (is_running p.task) where
  by_test : (b : Bool) → is_own_of q (cond b (record { task = with_tick p.task; owner = p.owner }) p)
      ≡ is_own_of q p
  by_test true = refl
  by_test false = refl

-- ---- the tick

module _ (k : Fraction) (v w processors : ℕ) (ran : List (List ℕ)) (J : _) (rules : Rules) (s : State)
    (booked : Booked k v w processors ran s) (keeps : Keeps processors J s)
    (some_left : Each (λ p. is_privileged p.task ≡ true → 1 ≤ left p.task) s.jobs)
    (one_job : (p u : Placed) → IsMember p s.jobs → IsMember u s.jobs → p.task.number ≡ u.task.number → p ≡ u)
    (quiet : IsQuiet rules s (all_seen processors rules.version s))
    (each_quiet : (i : ℕ) → i < processors → Quiet (seen_from i s)) (some : 1 ≤ processors) where
  -- what the tick is given to
  abbrev names : List ℕ
  names = numbers_running s

  names_count : length names ≡ sum_by (λ p. one (is_running p.task)) s.jobs
  names_count = running_count s.jobs

  low : (q : ℕ) → IsMember q (numbers_from 0 processors) → q < processors
  low q member = omega (arith, (numbers_below q 0 processors member).1)

  see : (q : ℕ) → q < processors → IsMember (seen rules.version s q) (all_seen processors rules.version s)
  see q less = map_member (seen rules.version s) (numbers_from 0 processors) q
      (below_numbers q 0 processors (omega arith) (omega (arith, less)))

  -- a running job of its own
  runs_here : (q : ℕ) (p : Placed) → IsMember p s.jobs → p.task.role ≡ Running → p.owner ≡ q
      → 1 ≤ sum_by (λ u. one (serves q u)) s.jobs
  runs_here q p member runs own = omega (
    arith,
    term_le_sum (λ u. one (serves q u)) s.jobs p member,
    ap one (first_of (is_running p.task) (p.owner == q) (passes is_running p.task Running true runs refl)
        (eq-eqb _ _ own)),
  ) where
    first_of : (a b : Bool) → a ≡ true → b ≡ true → (a && b) ≡ true
    first_of true true e f = refl
    first_of true false e f = never f
    first_of false b e f = never e

  -- where a job is on processor q, one runs there
  own_runs : (q : ℕ) → q < processors → (p : Placed) → IsMember p s.jobs → is_own_of q p ≡ true
      → 1 ≤ sum_by (λ u. one (serves q u)) s.jobs
  own_runs q less p member own = by_runs (each_quiet q less).runs_or_none where
    on : (is_privileged p.task ≡ true) × ((p.owner == q) ≡ true)
    on = and_parts (is_privileged p.task) (p.owner == q) own

    seen_p : seen_by q p ≡ p.task
    seen_p = own_seen q p (eqb-true _ _ on.1)

    p_member : IsMember p.task (map (seen_by q) s.jobs)
    p_member = subst (λ t. IsMember t (map (seen_by q) s.jobs)) seen_p (map_member (seen_by q) s.jobs p member)

    by_runs : ((r : Task) × IsMember r (map (seen_by q) s.jobs) × (r.role ≡ Running))
        ⊎ NoneRuns (map (seen_by q) s.jobs) → 1 ≤ sum_by (λ u. one (serves q u)) s.jobs
    by_runs (inl it) =
        let x = seen_member q s.jobs it.0 Running (λ e. cc) it.2 it.1 in
        let own_x = seen_own q x.0 (ap is_privileged x.3 ∙ passes is_privileged it.0 Running true it.2 refl) in
        runs_here q x.0 x.1 (ap (λ (t : Task). t.role) x.2 ∙ it.2) own_x.1
    by_runs (inr none) = absurd (by_role (is_privileged_role p.task on.0)) where
      by_role : (p.task.role ≡ Running) ⊎ (p.task.role ≡ Held) → ⊥
      by_role (inl e) = none p.task p_member e
      by_role (inr e) = (each_quiet q less).free none p.task p_member (passes is_ready_behind p.task Held true e refl)

  -- a processor that isn't free serves a job
  busy_serves : (q : ℕ) → is_free (seen rules.version s q) ≡ false → 1 ≤ sum_by (λ u. one (serves q u)) s.jobs
  busy_serves q busy =
      let r = some_from (running (seen_from q s)) busy in
      let it = found is_running (map (seen_by q) s.jobs) r.0 r.1 in
      let is_run : (r.0).role ≡ Running = is_running_role r.0 it.1 in
      let x = seen_member q s.jobs r.0 Running (λ e. cc) is_run it.0 in
      let own_x = seen_own q x.0 (ap is_privileged x.3 ∙ passes is_privileged r.0 Running true is_run refl) in
      runs_here q x.0 x.1 (ap (λ (t : Task). t.role) x.2 ∙ is_run) own_x.1

  -- where none is free, all give the tick
  all_full : ((q : ℕ) → q < processors → is_free (seen rules.version s q) ≡ false) → processors ≤ length names
  all_full busy = omega (
    arith,
    names_count,
    all_count (λ (q : ℕ). 1) 0 processors (λ q m. omega arith),
    running_many (λ (q : ℕ). 1) s.jobs 0 processors (λ q m. busy_serves q (busy q (low q m))),
  )

  -- a job that waits is seen
  none_waits : (q : ℕ) → q < processors → is_free (seen rules.version s q) ≡ true
      → Each (λ p. p.task.role ≡ Waiting → ⊥) s.jobs
  none_waits q less free p member waits =
      reduce_none _ (filter is_waiting (tasks_of s.jobs))
      (sym (seen_sees rules.version s q).first_waiting ∙ quiet.waiting (seen rules.version s q) (see q less) free)
      p.task
      (filter_member is_waiting (tasks_of s.jobs) p.task (map_member (λ (u : Placed). u.task) s.jobs p member)
      (passes is_waiting p.task Waiting true waits refl))

  -- in the tick all processors are busy, or each ready job that isn't excused has it
  abbrev AllHave : Type 0
  AllHave = Each (λ p. is_over p.task ≡ false → is_excused booked.way booked.fell p ≡ false → p.task.job.release
      ≤ s.clock
      → IsMember p.task.number names) s.jobs

  ready_have : Each (λ p. p.task.role ≡ Waiting → ⊥) s.jobs → AllHave
  ready_have no_waiting p member is_ready asked came = by_role p.task.role refl where
    first_quiet : Quiet (seen_from 0 s)
    first_quiet = each_quiet 0 (omega (arith, some))

    off_member : is_privileged p.task ≡ false → IsMember p.task (map (seen_by 0) s.jobs)
    off_member off = subst (λ t. IsMember t (map (seen_by 0) s.jobs)) (off_seen 0 p off)
        (map_member (seen_by 0) s.jobs p member)

    -- a held job is excused: who took its processor would be alone there, and run
    by_held : p.task.role ≡ Held → (b : Bool) → (booked.way p.owner).took ≡ b → ⊥
    by_held held false e = never (sym asked ∙ excused_on booked.way booked.fell p (on held) e) where
      on : p.task.role ≡ Held → is_privileged p.task ≡ true
      on held = passes is_privileged p.task Held true held refl
    by_held held true e =
        let on : is_privileged p.task ≡ true = passes is_privileged p.task Held true held refl in
        let t = (booked.under p.owner (keeps.placed.owners p member on)).taker e in
        let same : p ≡ t.job = one_job p t.job member t.member
        (t.alone p member (ap (λ b. b && p.owner == p.owner) on ∙ eq-eqb p.owner p.owner refl)) in
        let f : Held ≡ Running = sym held ∙ ap (λ (u : Placed). u.task.role) same ∙ t.runs in cc

    by_role : (role : Role) → p.task.role ≡ role → IsMember p.task.number names
    by_role Coming e = absurd (let later : s.clock < p.task.job.release =
        first_quiet.ahead p.task (off_member (passes is_privileged p.task Coming false e refl)) e in
        omega (arith, later, came))
    by_role Fresh e = absurd (first_quiet.stale p.task (off_member (passes is_privileged p.task Fresh false e refl)) e)
    by_role Waiting e = absurd (no_waiting p member e)
    by_role Held e = absurd (by_held e (booked.way p.owner).took refl)
    by_role Running e = running_member s p member (runs_by_role p e)
    by_role Done e = never (sym is_ready ∙ passes is_over p.task Done true e refl)
    by_role Gone e = never (sym is_ready ∙ passes is_over p.task Gone true e refl)

  busy_now : (processors ≤ length names) ⊎ AllHave
  busy_now = by_free (some_free processors) where
    by_free : ((q : ℕ) × (q < processors) × (is_free (seen rules.version s q) ≡ true))
        ⊎ ((q : ℕ) → q < processors → is_free (seen rules.version s q) ≡ false)
        → (processors ≤ length names) ⊎ AllHave
    by_free (inl it) = inr (ready_have (none_waits it.0 it.1 it.2))
    by_free (inr full) = inl (all_full full)

    some_free : (more : ℕ) → ((q : ℕ) × (q < more) × (is_free (seen rules.version s q) ≡ true))
        ⊎ ((q : ℕ) → q < more → is_free (seen rules.version s q) ≡ false)
    some_free zero = inr (λ q less. absurd (omega (arith, less)))
    some_free (suc more) = by_last (is_free (seen rules.version s more)) refl (some_free more) where
      by_last : (b : Bool) → is_free (seen rules.version s more) ≡ b
          → ((q : ℕ) × (q < more) × (is_free (seen rules.version s q) ≡ true))
          ⊎ ((q : ℕ) → q < more → is_free (seen rules.version s q) ≡ false)
          → ((q : ℕ) × (q < suc more) × (is_free (seen rules.version s q) ≡ true))
          ⊎ ((q : ℕ) → q < suc more → is_free (seen rules.version s q) ≡ false)
      by_last true e rest = inl (more, omega arith, e)
      by_last false e (inl it) = inl (it.0, omega (arith, it.1), it.2)
      by_last false e (inr none) = inr (λ q less. by_order q less (cases_lt q more)) where
        by_order : (q : ℕ) → q < suc more → (q < more) ⊎ (more ≤ q) → is_free (seen rules.version s q) ≡ false
        by_order q less (inl before) = none q before
        by_order q less (inr high) = subst (λ n. is_free (seen rules.version s n) ≡ false)
            (let same : more ≡ q = omega (arith, less, high) in same) e

  -- ---- the books

  abbrev ran_more : List (List ℕ)
  ran_more = ran ++ names ∷ []

  comes_same : (q : ℕ) → own_sum q value_of (map ticked s.jobs) ≡ own_sum q value_of s.jobs
  comes_same q = sum_map ticked (λ p. cond (is_own_of q p) (value_of p) 0) s.jobs
      ∙ sum_same (λ p. cond (is_own_of q (ticked p)) (value_of (ticked p)) 0) (λ p. cond (is_own_of q p) (value_of p) 0)
      s.jobs (λ p member. ap (λ b. cond b (value_of (ticked p)) 0) (tick_own q p)
      ∙ ap (λ (j : JobFacts). cond (is_own_of q p) j.value 0) (tick_plain p).1)

  under_ticks : (q : ℕ) → q < processors → Under k q (s.clock + 1) (map ticked s.jobs) (booked.way q)
  under_ticks q less = record {
    none = λ e. (
      (it.none e).0,
      on_map ticked (λ p. is_own_of q p ≡ true → ⊥) s.jobs
          (λ p member own. (it.none e).1 p member (sym (tick_own q p) ∙ own)),
    );
    some = λ e. let x = it.some e in (
      omega (arith, x.0),
      (ticked x.1.0, map_member ticked s.jobs x.1.0 x.1.1, tick_own q x.1.0 ∙ x.1.2),
    );
    calm = it.calm;
    taker = λ e. by_taker (it.taker e);
  } where
    it : Under k q s.clock s.jobs (booked.way q)
    it = booked.under q less

    by_taker : Taker k q (booked.way q).displaced (booked.way q).first s.clock s.jobs
        → Taker k q (booked.way q).displaced (booked.way q).first (s.clock + 1) (map ticked s.jobs)
    by_taker t = record {
      job = ticked t.job;
      member = map_member ticked s.jobs t.job t.member;
      runs = (tick_plain t.job).2 ∙ t.runs;
      owner = (tick_plain t.job).3 ∙ t.owner;
      alone = on_map ticked (λ p. is_own_of q p ≡ true → p.task.number ≡ (ticked t.job).task.number) s.jobs
          (λ p member own. (tick_plain p).0 ∙ t.alone p member (sym (tick_own q p) ∙ own) ∙ sym (tick_plain t.job).0);
      no_laxity = omega (
        arith,
        t.no_laxity,
        (tick_plain t.job).4,
        ap one (runs_by_role t.job t.runs),
        ap (λ (j : JobFacts). j.work) (tick_plain t.job).1,
        ap (λ (j : JobFacts). j.deadline) (tick_plain t.job).1,
        some_left t.job t.member (passes is_privileged t.job.task Running true t.runs refl),
      );
      paid = subst (λ (j : JobFacts). IsPaidTwice k (booked.way q).displaced (booked.way q).first j.value)
          (sym (tick_plain t.job).1) t.paid;
    }

  same_sum : (test : Task → Bool) → ((p : Placed) → test (ticked p).task ≡ test p.task) → (f : Job → ℕ)
      → sum_by (λ p. cond (test p.task) (f (number_and_job p)) 0) (map ticked s.jobs)
      ≡ sum_by (λ p. cond (test p.task) (f (number_and_job p)) 0) s.jobs
  same_sum test same f = sum_map ticked (λ p. cond (test p.task) (f (number_and_job p)) 0) s.jobs
      ∙ sum_same (λ p. cond (test (ticked p).task) (f (number_and_job (ticked p))) 0)
      (λ p. cond (test p.task) (f (number_and_job p)) 0) s.jobs
      (λ p member. ap (λ b. cond b (f (number_and_job (ticked p))) 0) (same p)
      ∙ ap (λ n_j. cond (test p.task) (f n_j) 0)
      (ap (λ n. (n, (ticked p).task.job)) (tick_plain p).0 ∙ ap (λ j. (p.task.number, j)) (tick_plain p).1))

  -- who is excused stays so
  excused_ticks : (p : Placed) → is_excused booked.way booked.fell (ticked p) ≡ is_excused booked.way booked.fell p
  excused_ticks p = by_test (is_running p.task) where
    by_test : (b : Bool) → is_excused booked.way booked.fell
        (cond b (record { task = with_tick p.task; owner = p.owner }) p) ≡ is_excused booked.way booked.fell p
    by_test true = refl
    by_test false = refl

  -- and what fell
  fallen_ticks : fallen booked.fell (map ticked s.jobs) ≡ fallen booked.fell s.jobs
  fallen_ticks = sum_map ticked (fallen_value booked.fell) s.jobs
      ∙ sum_same (λ p. fallen_value booked.fell (ticked p)) (fallen_value booked.fell) s.jobs
      (λ p member. by_test p (is_running p.task)) where
        by_test : (p : Placed) (b : Bool) → fallen_value booked.fell
            (cond b (record { task = with_tick p.task; owner = p.owner }) p) ≡ fallen_value booked.fell p
        by_test p true = refl
        by_test p false = refl

  -- each tick was had by a job on a processor
  had_ticks : placed_sum (λ p. p.task.had) (map ticked s.jobs) ≡ placed_sum (λ p. p.task.had) s.jobs + length names
  had_ticks = omega (
    arith,
    names_count,
    sum_map ticked (λ p. cond (is_privileged p.task) p.task.had 0) s.jobs,
    sum_same (λ p. cond (is_privileged (ticked p).task) (ticked p).task.had 0)
        (λ p. cond (is_privileged p.task) p.task.had 0 + one (is_running p.task)) s.jobs
        (λ p member. ap (λ b. cond b (ticked p).task.had 0) (role_test is_privileged (λ t n m. refl) p)
        ∙ by_on (is_privileged p.task) (is_running p.task) p.task.had (ticked p).task.had (tick_plain p).4
        (running_on p)),
    sum_plus (λ p. cond (is_privileged p.task) p.task.had 0) (λ p. one (is_running p.task)) s.jobs,
  ) where
    by_on : (a b : Bool) (m n : ℕ) → n ≡ m + one b → (b ≡ true → a ≡ true) → cond a n 0 ≡ cond a m 0 + one b
    by_on true b m n e f = e
    by_on false false m n e f = refl
    by_on false true m n e f = never (f refl)

  pub ticks_booked : Booked k v w processors ran_more (after s Ticks)
  ticks_booked = record {
    closed = booked.closed;
    way = booked.way;
    regular = booked.regular;
    taken = booked.taken;
    gone = booked.gone;
    fell = booked.fell;
    lost = booked.lost;
    missed = booked.missed;
    ticks = omega (arith, length_last ran names, booked.ticks);
    in_order = booked.in_order;
    ended = λ c member. omega (arith, booked.ended c member);
    paid = booked.paid;
    under = under_ticks;
    done_sum = λ f. same_sum is_done (role_test is_done (λ t n m. refl)) f ∙ booked.done_sum f;
    gone_sum = λ f. same_sum is_gone (role_test is_gone (λ t n m. refl)) f ∙ booked.gone_sum f;
    regular_sum = booked.regular_sum;
    taken_sum = booked.taken_sum;
    fallen_sum = omega (arith, booked.fallen_sum, fallen_ticks);
    covered = λ τ before. by_cover τ before (cases_lt τ s.clock);
    busy = λ τ before. by_busy τ before (cases_lt τ s.clock);
    ticks_paid = omega (
      arith,
      booked.ticks_paid,
      ap (λ n. v * n) had_ticks,
      ap (λ n. v * n) (sum_by-append (λ (ns : List ℕ). length ns) ran (names ∷ [])),
      ap (λ n. v * n) (sum_by-cons (λ (ns : List ℕ). length ns) names []),
    );
    taken_are = λ o member. let it = booked.taken_are o member in (
      it.0,
      omega (arith, it.1),
      omega (arith, it.2, given_more (is_named o.number) names ran o.job.release o.job.deadline),
    );
    gone_are = λ o member. let it = booked.gone_are o member in record {
      light = omega (
        arith,
        it.light,
        sum_le (λ q. one (is_light_on k booked.way s.jobs o q))
            (λ q. one (is_light_on k booked.way (map ticked s.jobs) o q)) (numbers_from 0 processors)
            (λ q m. light_grows k booked.way booked.way s.jobs (map ticked s.jobs) o q
            (λ e. (e, refl, omega (arith, comes_same q)))),
      );
      reach = it.reach;
      dense = it.dense;
      before = omega (arith, it.before);
    };
  } where
    by_cover : (τ : ℕ) → τ < s.clock + 1 → (τ < s.clock) ⊎ (s.clock ≤ τ) → open_at booked.closed τ
        + sum_by (λ q. one ((booked.way q).lasts && nat_le (booked.way q).from τ)) (numbers_from 0 processors)
        ≤ length (given_at ran_more τ)
    by_cover τ before (inl less) = omega (
      arith,
      booked.covered τ less,
      ap (λ (ns : List ℕ). length ns) (given_front ran names τ (omega (arith, booked.ticks, less))),
    )
    by_cover τ before (inr high) = omega (
      arith,
      sum_zero (λ c. one (is_open τ c)) booked.closed
          (λ c member. closed_by (nat_le c.from τ) (nat_lt τ c.until)
          (le-ltb _ _ (omega (arith, booked.ended c member, high)))),
      running_many (λ q. one ((booked.way q).lasts && nat_le (booked.way q).from τ)) s.jobs 0 processors
          (λ q m. by_lasts q (low q m) (booked.way q).lasts (nat_le (booked.way q).from τ) refl),
      names_count,
      ap (λ (ns : List ℕ). length ns) (ap (given_at ran_more)
          (let same : τ ≡ length ran = omega (arith, booked.ticks, before, high) in same) ∙ given_last ran names),
    ) where
      closed_by : (a b : Bool) → b ≡ false → one (a && b) ≡ 0
      closed_by true false e = refl
      closed_by false b e = refl
      closed_by true true e = never (sym e)

      by_lasts : (q : ℕ) → q < processors → (a b : Bool) → (booked.way q).lasts ≡ a
          → one (a && b) ≤ sum_by (λ p. one (serves q p)) s.jobs
      by_lasts q less false b e = omega arith
      by_lasts q less true b e =
          let x = ((booked.under q less).some e).1 in
          omega (arith, own_runs q less x.0 x.1 x.2, at_most b) where
            at_most : (b : Bool) → one (true && b) ≤ 1
            at_most true = omega arith
            at_most false = omega arith

    still : (τ : ℕ) → given_at ran_more τ ≡ given_at ran τ
        → WasBusy processors ran booked.way booked.fell s.jobs (booked.taken ++ booked.gone) τ
        → WasBusy processors ran_more booked.way booked.fell (map ticked s.jobs) (booked.taken ++ booked.gone) τ
    still τ same (inl full) = inl (omega (arith, full, ap (λ (ns : List ℕ). length ns) same))
    still τ same (inr it) = inr (
      on_map ticked (λ p. is_over p.task ≡ false → is_excused booked.way booked.fell p ≡ false → p.task.job.release ≤ τ
          → IsMember p.task.number (given_at ran_more τ)) s.jobs
          (λ p member is_ready asked came. subst (λ ns. IsMember (ticked p).task.number ns) (sym same)
          (subst (λ n. IsMember n (given_at ran τ)) (sym (tick_plain p).0)
          (it.0 p member (sym (role_test is_over (λ t n m. refl) p) ∙ is_ready) (sym (excused_ticks p) ∙ asked)
          (subst (λ (j : JobFacts). j.release ≤ τ) (tick_plain p).1 came)))),
      (λ o member came before. subst (λ ns. IsMember o.number ns) (sym same) (it.1 o member came before)),
    )

    by_busy : (τ : ℕ) → τ < s.clock + 1 → (τ < s.clock) ⊎ (s.clock ≤ τ)
        → WasBusy processors ran_more booked.way booked.fell (map ticked s.jobs) (booked.taken ++ booked.gone) τ
    by_busy τ before (inl less) = still τ (given_front ran names τ (omega (arith, booked.ticks, less)))
        (booked.busy τ less)
    by_busy τ before (inr high) = now busy_now where
      is_now : τ ≡ s.clock
      is_now = omega (arith, before, high)

      given : given_at ran_more τ ≡ names
      given = ap (given_at ran_more) (let same : τ ≡ length ran = omega (arith, booked.ticks, before, high) in same)
          ∙ given_last ran names

      all_past : Each (λ o. o.at ≤ s.clock) (booked.taken ++ booked.gone)
      all_past o member = by_part (member_either booked.taken booked.gone o member) where
        by_part : IsMember o booked.taken ⊎ IsMember o booked.gone → o.at ≤ s.clock
        by_part (inl m) = (booked.taken_are o m).1
        by_part (inr m) = (booked.gone_are o m).before

      now : (processors ≤ length names) ⊎ AllHave
          → WasBusy processors ran_more booked.way booked.fell (map ticked s.jobs) (booked.taken ++ booked.gone) τ
      now (inl full) = inl (omega (arith, full, ap (λ (ns : List ℕ). length ns) given))
      now (inr have) = inr (
        on_map ticked (λ p. is_over p.task ≡ false → is_excused booked.way booked.fell p ≡ false
            → p.task.job.release ≤ τ
            → IsMember p.task.number (given_at ran_more τ)) s.jobs
            (λ p member is_ready asked came. subst (λ ns. IsMember (ticked p).task.number ns) (sym given)
            (subst (λ n. IsMember n names) (sym (tick_plain p).0)
            (have p member (sym (role_test is_over (λ t n m. refl) p) ∙ is_ready) (sym (excused_ticks p) ∙ asked)
            (subst (λ n. p.task.job.release ≤ n) is_now
            (subst (λ (j : JobFacts). j.release ≤ τ) (tick_plain p).1 came))))),
        (λ o member came before_over. absurd (omega (arith, all_past o member, before_over, is_now))),
      )
