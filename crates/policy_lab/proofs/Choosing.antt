-- A policy's run as it begins, as jobs are released, and as the first of them is taken out.
use Rattle.std.proofs.Common.{◌≡◌, ℕ, zero, suc, ◌+◌, ◌-◌, ◌*◌, ◌%◌, ◌^◌, ◌≤◌, ◌<◌, ◌⊎◌, inl, inr, List, [], ◌∷◌}
use Rattle.std.proofs.Common.{length, refl, sym, ap, ◌∙◌, subst, true, false, cond, arith, eqb, IsPermutation, Some}
use Rattle.std.proofs.Common.{slice_get, nat_cmp, is_lt, eq-eqb}
use Rattle.std.specs.declared.cmp.Ordering.{Ordering}
use Rattle.std.specs.declared.cmp.Ordering.TheVariants.{Less, Equal, Greater}
use Rattle.std.specs.Ordering.{ordering_then}
use Rattle.std.specs.BinaryHeap.{IsHeap, IsUpperBound, KeepsHeap}
use Rattle.std.proofs.lemmas.Bool.{cases_eq, cases_lt}
use Rattle.std.proofs.lemmas.Cmp.{ranked}
use Rattle.std.proofs.lemmas.Nat.{mod-mul-add}
use Rattle.std.proofs.lemmas.Option.{slice_get_within}
use Rattle.std.proofs.lemmas.List.Sorted.{IsPermutation-map, IsPermutation-sym}
use Rattle.dover_model.specs.Common.{JobFacts, IsJob, entry_of, left, IsMember, Each, idle, given, last_deadline}
use Rattle.dover_model.specs.Common.{last_tick, to_come}
use Rattle.dover_model.specs.declared.events.Task.{Task}
use Rattle.dover_model.specs.declared.events.Entry.{Entry}
use Rattle.dover_model.specs.declared.pieces.Piece.{Piece}
use Rattle.dover_model.proofs.lists.Members.{all_member, map_member, on_map, sum_zero}
use Rattle.dover_model.proofs.steps.Roles.{one_number}
use Rattle.dover_model.proofs.runs.Honest.{count_jobs, numbers_low}
use Rattle.dover_model.proofs.valid.Dues.{dues_most}
use Rattle.dover_model.proofs.valid.JobLimits.{job_limits}
use Rattle.dover_model.proofs.valid.ValidParts.{ReleasesInOrder}
use Rattle.clairvoyant.specs.feasible.Progress.{NoneBefore}
use Rattle.clairvoyant.proofs.feasible.EarliestFirst.{by_given}
use Rattle.clairvoyant.proofs.feasible.Keeping.{member_moved}
use Rattle.clairvoyant.proofs.feasible.Numbered.{task_at, releases_rise, come_had}
use Rattle.policy_lab.specs.Picks.{Picks}
use Rattle.policy_lab.specs.Ranks.{IsEntry, IsRanked, turn_by}
use Rattle.policy_lab.specs.PolicyRun.{is_ready, picked}
use Rattle.policy_lab.specs.declared.tally.Tally.{Tally}
use Rattle.policy_lab.specs.Bench.{tasks_at, served_by, entry_with, Turn, turn_cmp, kept_as, kept_of, HasQueue, HasRun}
use Rattle.policy_lab.specs.Bench.{HasTally, IsNext}
use Rattle.policy_lab.proofs.Given.{ready_says, says_ready}
use Rattle.policy_lab.proofs.Runs.{numbered_at, jobs_at, good_at, low_numbers, fits_at}
use Rattle.policy_lab.proofs.Queueing.{queue_begins, queue_comes, queue_ends, queue_pushed, queue_popped}

-- what isn't before another has no less a turn
not_before : (s t : Turn) → is_lt (turn_cmp s t) ≡ false → s.0.0 ≤ t.0.0
not_before s t not = by_turn (nat_cmp t.0.0 s.0.0) refl not where
  by_turn : (o : Ordering) → nat_cmp t.0.0 s.0.0 ≡ o → is_lt (ordering_then o (nat_cmp t.0.1 s.0.1)) ≡ false
      → s.0.0 ≤ t.0.0
  by_turn Less f fails = absurd (let e : true ≡ false = fails in cc)
  by_turn Equal f fails = let same : t.0.0 ≡ s.0.0 = ranked t.0.0 s.0.0 Equal (sym f) in omega (arith, same)
  by_turn Greater f fails = let above : s.0.0 < t.0.0 = ranked t.0.0 s.0.0 Greater (sym f) in omega (arith, above)

-- the top has the least turn
top_least : (x : Turn) (turns : List Turn) → IsUpperBound turn_cmp x turns
    → Each (λ (k : ℕ × ℕ). x.0.0 ≤ k.0) (kept_of turns)
top_least x turns bound = on_map (λ (t : Turn). t.0) (λ (k : ℕ × ℕ). x.0.0 ≤ k.0) turns
    (λ t member. not_before x t (all_member (λ (y : Turn). is_lt (turn_cmp x y) ≡ false) turns bound t member))

-- of two turns with different numbers that isn't greater is less
less_turn : (a b m n : ℕ) → m < 2 ^ 20 → n < 2 ^ 20 → (m ≡ n → ⊥) → a * 2 ^ 20 + m ≤ b * 2 ^ 20 + n
    → a * 2 ^ 20 + m < b * 2 ^ 20 + n
less_turn a b m n low high other most = by_order (cases_lt (a * 2 ^ 20 + m) (b * 2 ^ 20 + n)) where
  by_order : (a * 2 ^ 20 + m < b * 2 ^ 20 + n) ⊎ (b * 2 ^ 20 + n ≤ a * 2 ^ 20 + m) → a * 2 ^ 20 + m < b * 2 ^ 20 + n
  by_order (inl less) = less
  by_order (inr more) = absurd (other (omega (arith, low, high, most, more)))

-- the rank of a job, as it is put
pub put_rank : (ranks : Entry → ℕ) (number amount d v rank : ℕ) (j : JobFacts) → d ≡ j.deadline → v ≡ j.value
    → rank ≡ ranks (record { number = number; deadline = d; latest = d - amount; left = amount; value = v })
    → rank ≡ ranks (entry_with number amount j)
put_rank ranks number amount d v rank j due worth is = is
    ∙ ap (λ x. ranks (with_due x v)) due
    ∙ ap (λ x. ranks (with_due j.deadline x)) worth where
      with_due : ℕ → ℕ → Entry
      with_due x y = record { number = number; deadline = x; latest = x - amount; left = amount; value = y }

-- it is within the limits
pub put_within : (number amount : ℕ) (j : JobFacts) → IsJob j → number < 2 ^ 20 → 1 ≤ amount → amount ≤ j.work
    → IsEntry (entry_with number amount j)
put_within number amount j job few some fits = record {
  some = some;
  small = omega (arith, fits, (job_limits job).small);
  fits = omega (arith, fits, (job_limits job).window);
  due = (job_limits job).due;
  worth = (job_limits job).worth;
  modest = (job_limits job).modest;
  few = few;
}

-- what a job of these tasks adds to what is served
abbrev pub worth_by : (JobFacts → ℕ) → Task → ℕ
worth_by amount u = cond (eqb (left u) 0) (amount u.job) 0

module _ (picks : Picks) (ranks : Entry → ℕ) (ranked : IsRanked picks ranks) (jobs : List JobFacts)
    (order : ReleasesInOrder jobs)
    (good : Each IsJob jobs) (count : length jobs ≤ 1_000_000) where
  -- the jobs at tick t
  abbrev at : ℕ → List Task
  at t = tasks_at picks jobs t

  -- each is due by the greatest deadline
  pub due_last : (t : ℕ) → Each (λ u. u.job.deadline ≤ last_deadline jobs) (at t)
  due_last t u member = all_member (λ (j : JobFacts). j.deadline ≤ last_deadline jobs) jobs (dues_most jobs 0)
      u.job (subst (IsMember u.job) (jobs_at picks jobs t) (map_member (λ (v : Task). v.job) (at t) u member))

  -- numbers are below the count of jobs
  number_low : (t : ℕ) → Each (λ u. u.number < length jobs) (at t)
  number_low t u member =
      let low : u.number < 0 + length (at t) = numbers_low 0 (at t) (numbered_at picks jobs t) u member in
      omega (arith, low, count_jobs (at t), ap length (jobs_at picks jobs t))

  -- and few
  few_numbers : (t : ℕ) → Each (λ u. u.number < 1_000_000) (at t)
  few_numbers t = low_numbers picks jobs ranked.policy count t

  -- the task of a number
  pub task_of : (t i : ℕ) (j : JobFacts) → slice_get jobs i ≡ Some j
      → (u : Task) × IsMember u (at t) × (u.number ≡ i) × (u.job ≡ j)
  task_of t i j found = at_zero (task_at 0 i (at t) j (numbered_at picks jobs t)
      (subst (λ (js : List JobFacts). slice_get js i ≡ Some j) (sym (jobs_at picks jobs t)) found)) where
        at_zero : ((u : Task) × IsMember u (at t) × (u.number ≡ 0 + i) × (u.job ≡ j))
            → (u : Task) × IsMember u (at t) × (u.number ≡ i) × (u.job ≡ j)
        at_zero it = (it.0, it.1, (let same : it.0.number ≡ 0 + i = it.2 in omega (arith, same)), it.3)

  -- its job is at its place
  job_at : (t i : ℕ) (j : JobFacts) → slice_get jobs i ≡ Some j → (u : Task) → IsMember u (at t) → u.number ≡ i
      → u.job ≡ j
  job_at t i j found u member same =
      let it = task_of t i j found in
      ap (λ (v : Task). v.job) (one_number 0 (at t) (numbered_at picks jobs t) u it.0 member it.1 (same ∙ sym it.2))
      ∙ it.3

  -- no job comes before a later tick
  pub ahead_from : (t until released : ℕ) → NoneBefore jobs until released
      → Each (λ u. released ≤ u.number → until ≤ u.job.release) (at t)
  ahead_from t until released none u member high = by_case none where
    by_case : NoneBefore jobs until released → until ≤ u.job.release
    by_case (inl all) = absurd (omega (arith, all, high, number_low t u member))
    by_case (inr next) =
        let it = task_of t released next.0 next.1 in
        let release : it.0.job.release ≡ next.0.release = ap (λ (j : JobFacts). j.release) it.3 in
        let rise : it.0.job.release ≤ u.job.release =
        releases_rise 0 (at t) (numbered_at picks jobs t)
        (subst ReleasesInOrder (sym (jobs_at picks jobs t)) order) it.0
        u it.1 member (omega (arith, it.2, high)) in
        omega (arith, next.2, release, rise)

  -- a job that comes now or later has had nothing
  none_had : (t : ℕ) → Each (λ u. t ≤ u.job.release → u.had ≡ 0) (at t)
  none_had zero u member late = come_had 0 jobs u member
  none_had (suc t) v there later = on_map (given n) (λ u. suc t ≤ u.job.release → u.had ≡ 0) (at t)
      (λ u member. by_given (λ v. suc t ≤ v.job.release → v.had ≡ 0) 1 n u
      (λ same late. absurd (omega (
        arith,
        late,
        (ready_says t u (fits_at picks jobs ranked.policy count t u member (eq-eqb u.number n same))).0,
      )))
      (λ other late. none_had t u member (omega (arith, late)))) v there later where
        n : ℕ
        n = picked picks t (at t)

  -- before the first tick
  pub tally_begins : HasTally picks jobs 0 (record { value = 0; completed = 0; stops = 0; last = idle })
  tally_begins = record {
    value = sym (none (λ j. j.value));
    completed = sym (none (λ j. 1));
    stops = refl;
    few = omega arith;
    last = record { ready = inl refl; over = λ _. inl refl };
  } where
    some_left : (w v : ℕ) → 1 ≤ w → cond (eqb (w - 0) 0) v 0 ≡ 0
    some_left w v some = ap (λ b. cond b v 0) (let e : eqb (w - 0) 0 ≡ false = grind arith in e)

    none : (amount : JobFacts → ℕ) → served_by amount (to_come 0 jobs) ≡ 0
    none amount = sum_zero (worth_by amount) (to_come 0 jobs)
        (λ u member. ap (λ n. cond (eqb (u.job.work - n) 0) (amount u.job) 0) (come_had 0 jobs u member)
        ∙ some_left u.job.work (amount u.job) (job_limits (good_at picks jobs good 0 u member)).work)

  pub run_begins : IsHeap turn_cmp [] → HasRun picks ranks jobs 0 0 0 idle
      (record { value = 0; completed = 0; stops = 0; last = idle }) [] []
  run_begins ordered = record {
    queue = queue_begins ranks (to_come 0 jobs);
    ordered = ordered;
    ahead = λ u member _. omega arith;
    few = omega arith;
    soon = omega arith;
    counts = tally_begins;
    stretched = refl;
  }

  -- as the code finds it
  pub begins_as : (clock released : ℕ) (tally : Tally) (turns : List Turn) (pieces : List Piece) → clock ≡ 0
      → released ≡ 0 → turns ≡ [] → IsHeap turn_cmp turns
      → tally ≡ record { value = 0; completed = 0; stops = 0; last = idle } → pieces ≡ []
      → HasRun picks ranks jobs clock clock released idle tally turns pieces
  begins_as clock released tally turns pieces c r t ordered v p =
      subst (λ x. HasRun picks ranks jobs x x released idle tally turns pieces) (sym c)
      (subst (λ x. HasRun picks ranks jobs 0 0 x idle tally turns pieces) (sym r)
      (subst (λ (x : Tally). HasRun picks ranks jobs 0 0 0 idle x turns pieces) (sym v)
      (subst (λ (x : List Turn). HasRun picks ranks jobs 0 0 0 idle
      (record { value = 0; completed = 0; stops = 0; last = idle }) x pieces) (sym t)
      (subst (λ (x : List Piece). HasRun picks ranks jobs 0 0 0 idle
      (record { value = 0; completed = 0; stops = 0; last = idle }) [] x) (sym p)
      (run_begins (subst (IsHeap turn_cmp) t ordered))))))

  -- ---- releases

  -- the next job is no earlier
  pub next_ahead : (t from released out : ℕ) (tally : Tally) (turns : List Turn) (pieces : List Piece)
      → HasRun picks ranks jobs t from released out tally turns pieces
      → (j : JobFacts) → slice_get jobs released ≡ Some j → from ≤ j.release
  next_ahead t from released out tally turns pieces run j found =
      let it = task_of t released j found in
      omega (
        arith,
        run.ahead it.0 it.1 (omega (arith, it.2)),
        ap (λ (x : JobFacts). x.release) it.3,
      )

  -- one job more is released
  pub run_released : (t released : ℕ) (tally : Tally) (turns now : List Turn) (pieces : List Piece) (j : JobFacts)
      → HasRun picks ranks jobs t t released idle tally turns pieces
      → slice_get jobs released ≡ Some j → j.release ≤ t
      → IsPermutation ((turn_by ranks (entry_with released j.work j), j.work) ∷ kept_of turns) (kept_of now)
      → KeepsHeap turn_cmp turns now
      → HasRun picks ranks jobs t t (released + 1) idle tally now pieces
  run_released t released tally turns now pieces j run found due moved keeps = record {
    queue = queue_pushed ranks t (released + 1) (kept_of turns) (at t) (numbered_at picks jobs t) (few_numbers t) it.0
        it.1 (omega (arith, it.2)) (kept_of now)
        (subst (λ n. HasQueue ranks t (released + 1) n (kept_of turns) (at t)) (sym it.2)
        (queue_comes ranks t released (kept_of turns) (at t) (numbered_at picks jobs t)
        (few_numbers t) comes run.queue))
        (omega (
          arith,
          all_left,
          (job_limits (good_at picks jobs good t it.0 it.1)).work,
          ap
              (λ (x : JobFacts). x.work) it.3,
        ))
        (subst (λ k. IsPermutation (k ∷ kept_of turns) (kept_of now)) (sym as_kept) moved);
    ordered = keeps run.ordered;
    ahead = λ u member high. run.ahead u member (omega (arith, high));
    few = omega (arith, slice_get_within jobs released j found);
    soon = run.soon;
    counts = run.counts;
    stretched = run.stretched;
  } where
    it : (u : Task) × IsMember u (at t) × (u.number ≡ released) × (u.job ≡ j)
    it = task_of t released j found

    comes : Each (λ u. u.number ≡ released → u.job.release ≤ t) (at t)
    comes u member same = omega (arith, due, ap (λ (x : JobFacts). x.release) (job_at t released j found u member same))

    all_left : left it.0 ≡ j.work
    all_left = omega (
      arith,
      none_had t it.0 it.1 (run.ahead it.0 it.1 (omega (arith, it.2))),
      ap (λ (x : JobFacts). x.work) it.3,
    )

    kept_with : ℕ → JobFacts → ℕ → ℕ × ℕ
    kept_with n i l = (turn_by ranks (entry_with n l i), l)

    as_kept : kept_as ranks it.0 ≡ (turn_by ranks (entry_with released j.work j), j.work)
    as_kept = ap (λ n. kept_with n it.0.job (left it.0)) it.2 ∙ ap (λ i. kept_with released i (left it.0)) it.3
        ∙ ap (kept_with released j) all_left

  -- no more comes now
  pub run_on_from : (t until released : ℕ) (tally : Tally) (turns : List Turn) (pieces : List Piece)
      → HasRun picks ranks jobs t t released idle tally turns pieces
      → NoneBefore jobs until released → HasRun picks ranks jobs t until released idle tally turns pieces
  run_on_from t until released tally turns pieces run none = record {
    queue = run.queue;
    ordered = run.ordered;
    ahead = ahead_from t until released none;
    few = run.few;
    soon = run.soon;
    counts = run.counts;
    stretched = run.stretched;
  }

  -- ---- the first of the jobs

  -- the job that was taken out: the others are kept, and no other that is ready has so small a turn
  pub record IsTaken (t released : ℕ) (tally : Tally) (n amount : ℕ) (now : List Turn)
      (pieces : List Piece) : Type 0 where
    pub task : Task
    pub member : IsMember task (at t)
    pub number : task.number ≡ n
    pub low : n < released
    pub amount_is : left task ≡ amount
    pub some : 1 ≤ amount
    pub released_by : task.job.release ≤ t
    pub run : HasRun picks ranks jobs t (t + 1) released n tally now pieces
    pub first : Each (λ u. u.number < released → is_ready t u ≡ true → (u.number ≡ n)
        ⊎ (turn_by ranks (entry_of task) < turn_by ranks (entry_of u))) (at t)

  module _ (t released : ℕ) (tally : Tally) (turns : List Turn) (pieces : List Piece)
      (run : HasRun picks ranks jobs t (t + 1) released idle tally turns pieces)
      (x : Turn) (now : List Turn) (moved : IsPermutation turns (x ∷ now)) (ordered : IsHeap turn_cmp now)
      (bound : IsUpperBound turn_cmp x now) where
    kept_moved : IsPermutation (kept_of turns) (x.0 ∷ kept_of now)
    kept_moved = IsPermutation-map (λ (y : Turn). y.0) turns (x ∷ now) moved

    found : (u : Task) × IsMember u (at t) × (u.number < released) × (u.number ≡ idle → ⊥) × (1 ≤ left u)
        × (x.0 ≡ kept_as ranks u)
    found = run.queue.each x.0 (member_moved (kept_of turns) (x.0 ∷ kept_of now) kept_moved x.0 (inl refl))

    number_is : (u : Task) → IsMember u (at t) → (kept_as ranks u).0 % 2 ^ 20 ≡ u.number
    number_is u member = mod-mul-add (ranks (entry_of u)) (2 ^ 20) u.number (omega (arith, few_numbers t u member))

    named : found.0.number ≡ x.0.0 % 2 ^ 20
    named = sym (ap (λ (k : ℕ × ℕ). k.0 % 2 ^ 20) found.5 ∙ number_is found.0 found.1)

    first_one : (u : Task) → IsMember u (at t) → u.number < released → is_ready t u ≡ true
        → (u.number ≡ found.0.number) ⊎ (u.number ≡ found.0.number → ⊥)
        → (u.number ≡ x.0.0 % 2 ^ 20) ⊎ (turn_by ranks (entry_of found.0) < turn_by ranks (entry_of u))
    first_one u member below ready (inl same) = inl (same ∙ named)
    first_one u member below ready (inr other) = by_place
        (member_moved (x.0 ∷ kept_of now) (kept_of turns)
        (IsPermutation-sym (kept_of turns) (x.0 ∷ kept_of now) kept_moved)
        (kept_as ranks u)
        (run.queue.all u member below (λ same. omega (arith, same, few_numbers t u member)) ready)) where
          by_place : (kept_as ranks u ≡ x.0) ⊎ IsMember (kept_as ranks u) (kept_of now)
              → (u.number ≡ x.0.0 % 2 ^ 20) ⊎ (turn_by ranks (entry_of found.0) < turn_by ranks (entry_of u))
          by_place (inl same) = inl (sym (number_is u member) ∙ ap (λ (k : ℕ × ℕ). k.0 % 2 ^ 20) same)
          by_place (inr there) =
              inr (less_turn (ranks (entry_of found.0)) (ranks (entry_of u)) found.0.number u.number
              (omega (arith, few_numbers t found.0 found.1)) (omega (arith, few_numbers t u member))
              (λ same. other (sym same))
              (subst (λ (k : ℕ × ℕ). k.0 ≤ (kept_as ranks u).0) found.5
              (top_least x now bound (kept_as ranks u) there)))

    pub run_popped : IsTaken t released tally (x.0.0 % 2 ^ 20) x.0.1 now pieces
    run_popped = record {
      task = found.0;
      member = found.1;
      number = named;
      low = subst (λ n. n < released) named found.2;
      amount_is = amount;
      some = subst (λ n. 1 ≤ n) amount found.4;
      released_by = run.queue.past found.0 found.1 found.2;
      run = record {
        queue = subst (λ n. HasQueue ranks t released n (kept_of now) (at t)) named
            (queue_popped ranks t released (kept_of turns) (at t) (numbered_at picks jobs t) (few_numbers t) found.0
            found.1 found.2 (kept_of now) run.queue
            (subst (λ k. IsPermutation (kept_of turns) (k ∷ kept_of now)) found.5 kept_moved));
        ordered = ordered;
        ahead = run.ahead;
        few = run.few;
        soon = run.soon;
        counts = run.counts;
        stretched = run.stretched;
      };
      first = λ u member below ready. first_one u member below ready (cases_eq u.number found.0.number);
    } where
      amount : left found.0 ≡ x.0.1
      amount = sym (ap (λ (k : ℕ × ℕ). k.1) found.5)

  module _ (t released : ℕ) (tally : Tally) (n amount : ℕ) (now : List Turn) (pieces : List Piece)
      (it : IsTaken t released tally n amount now pieces) where
    -- its number is that of a job
    pub taken_low : n < length jobs
    taken_low = omega (arith, it.low, it.run.few)

    its_job : (j : JobFacts) → slice_get jobs n ≡ Some j → it.task.job ≡ j
    its_job j found = job_at t n j found it.task it.member it.number

    -- no more is left than fits before its deadline
    pub taken_left : (j : JobFacts) → slice_get jobs n ≡ Some j → amount ≤ j.deadline
    taken_left j found = omega (
      arith,
      it.amount_is,
      (job_limits (good_at picks jobs good t it.task it.member)).window,
      ap (λ (x : JobFacts). x.deadline) (its_job j found),
    )

    -- it can be done in time
    pub run_fits : (j : JobFacts) → slice_get jobs n ≡ Some j → t + amount ≤ j.deadline
        → IsNext ranks t released n amount (at t)
    run_fits j found fits = record {
      task = it.task;
      member = it.member;
      number = it.number;
      low = it.low;
      amount_is = it.amount_is;
      ready = says_ready t it.task it.released_by (omega (arith, it.some, it.amount_is))
          (omega (arith, fits, it.amount_is, ap (λ (x : JobFacts). x.deadline) (its_job j found)));
      first = it.first;
    }

    -- it can't
    pub run_late : (j : JobFacts) → slice_get jobs n ≡ Some j → j.deadline < t + amount
        → HasRun picks ranks jobs t (t + 1) released idle tally now pieces
    run_late j found late = record {
      queue = queue_ends ranks t released (kept_of now) (at t) (numbered_at picks jobs t)
          (few_numbers t) it.task it.member
          (subst (λ m. m < released) (sym it.number) it.low)
          (subst (λ m. HasQueue ranks t released m (kept_of now) (at t)) (sym it.number) it.run.queue)
          (λ ready. omega (
            arith,
            late,
            (ready_says t it.task ready).2,
            it.amount_is,
            ap (λ (x : JobFacts). x.deadline) (its_job j found),
          ));
      ordered = it.run.ordered;
      ahead = it.run.ahead;
      few = it.run.few;
      soon = it.run.soon;
      counts = it.run.counts;
      stretched = it.run.stretched;
    }

  -- what is first ends by the last tick, and has the job of its number
  pub next_bound : (t released n amount : ℕ) → IsNext ranks t released n amount (at t)
      → t + amount ≤ last_tick
  next_bound t released n amount next = omega (
    arith,
    (ready_says t next.task next.ready).2,
    next.amount_is,
    (job_limits (good_at picks jobs good t next.task next.member)).due,
  )

  pub next_job : (t released n amount : ℕ) (next : IsNext ranks t released n amount (at t)) (j : JobFacts)
      → slice_get jobs n ≡ Some j → next.task.job ≡ j
  next_job t released n amount next j found = job_at t n j found next.task next.member next.number
