-- A policy's run while one job runs: up to where it is done or the next may come.
use Rattle.std.proofs.Common.{◌≡◌, ℕ, suc, ◌+◌, ◌-◌, ◌≤◌, ◌<◌, ◌⊎◌, inl, inr, List, [], ◌∷◌, ◌++◌, length, map}
use Rattle.std.proofs.Common.{replicate, refl, sym, ap, ◌∙◌, subst, Bool, true, false, cond, arith, eqb, sum_by, ◌||◌}
use Rattle.std.proofs.Common.{IsPermutation, eq-eqb, ne_eqb}
use Rattle.std.specs.BinaryHeap.{KeepsHeap}
use Rattle.std.proofs.lemmas.Bool.{cases_eq, cases_lt}
use Rattle.std.proofs.lemmas.List.Sums.{sum_by-cons}
use Rattle.dover_model.specs.Common.{JobFacts, IsJob, entry_of, left, IsMember, Each, idle, last_deadline, last_tick}
use Rattle.dover_model.specs.Common.{stretches, total_value}
use Rattle.dover_model.specs.declared.events.Task.{Task}
use Rattle.dover_model.specs.declared.events.Entry.{Entry}
use Rattle.dover_model.specs.declared.pieces.Piece.{Piece}
use Rattle.dover_model.proofs.lists.Members.{map_member, sum_map, by_bool}
use Rattle.dover_model.proofs.steps.Loads.{sum_change}
use Rattle.dover_model.proofs.steps.Roles.{one_number}
use Rattle.dover_model.proofs.valid.JobLimits.{job_limits}
use Rattle.dover_model.proofs.valid.ValidParts.{ReleasesInOrder}
use Rattle.clairvoyant.specs.feasible.Progress.{NoneBefore}
use Rattle.clairvoyant.proofs.feasible.EarliestFirst.{had_more, given_ticks, given_here, given_other}
use Rattle.policy_lab.specs.Picks.{Picks}
use Rattle.policy_lab.specs.Ranks.{IsRanked, turn_by}
use Rattle.policy_lab.specs.PolicyRun.{is_ready, picked}
use Rattle.policy_lab.specs.declared.tally.Tally.{Tally}
use Rattle.policy_lab.specs.Counts.{stops}
use Rattle.policy_lab.specs.Bench.{tasks_at, schedule_before, served_by, entry_with, Turn, turn_cmp, kept_as, kept_of}
use Rattle.policy_lab.specs.Bench.{HasQueue, HasRun, IsNext, last_at}
use Rattle.policy_lab.specs.Stops.{stop_by}
use Rattle.policy_lab.proofs.Given.{ready_says, says_ready}
use Rattle.policy_lab.proofs.Runs.{numbered_at, good_at, most_served, low_numbers}
use Rattle.policy_lab.proofs.Leading.{Leads, RunsFor, leads_run}
use Rattle.policy_lab.proofs.Counting.{stopped_at, stops_none, stops_one}
use Rattle.policy_lab.proofs.Queueing.{queue_ends, queue_pushed, queue_runs}
use Rattle.policy_lab.proofs.Choosing.{worth_by, due_last, ahead_from}

module _ (picks : Picks) (ranks : Entry → ℕ) (ranked : IsRanked picks ranks) (jobs : List JobFacts)
    (order : ReleasesInOrder jobs)
    (good : Each IsJob jobs) (count : length jobs ≤ 1_000_000) where
  -- the jobs at tick t
  abbrev at : ℕ → List Task
  at t = tasks_at picks jobs t

  -- numbers are few
  few_numbers : (t : ℕ) → Each (λ u. u.number < 1_000_000) (at t)
  few_numbers t = low_numbers picks jobs ranked.policy count t

  module _ (t released n amount until : ℕ) (tally : Tally) (turns : List Turn) (pieces : List Piece)
      (run : HasRun picks ranks jobs t (t + 1) released n tally turns pieces)
      (next : IsNext ranks t released n amount (at t)) (later : t < until) (within : until ≤ t + amount)
      (none : NoneBefore jobs until released) where
    -- so many ticks, and one
    abbrev j : ℕ
    j = until - t - 1

    until_is : t + suc j ≡ until
    until_is = omega (arith, later)

    says : (next.task.job.release ≤ t) × (0 < left next.task) × (t + left next.task ≤ next.task.job.deadline)
    says = ready_says t next.task next.ready

    leads : Leads ranks (suc j) n t (at t)
    leads = record {
      task = next.task;
      member = next.member;
      number = next.number;
      released = says.0;
      long = omega (arith, later, within, next.amount_is);
      fits = says.2;
      ahead = λ u member. by_number u member (cases_lt u.number released);
    } where
      not_ready : (u : Task) → u.job.release ≤ t → is_ready t u ≡ false → (left u ≡ 0) ⊎ (u.job.deadline < t + left u)
      not_ready u due late = by_left (cases_lt 0 (left u)) where
        by_left : (0 < left u) ⊎ (left u ≤ 0) → (left u ≡ 0) ⊎ (u.job.deadline < t + left u)
        by_left (inr over) = inl (omega (arith, over))
        by_left (inl some) = by_due (cases_lt u.job.deadline (t + left u)) where
          by_due : (u.job.deadline < t + left u) ⊎ (t + left u ≤ u.job.deadline)
              → (left u ≡ 0) ⊎ (u.job.deadline < t + left u)
          by_due (inl passed) = inr passed
          by_due (inr fits) = absurd (let e : true ≡ false = sym (says_ready t u due some fits) ∙ late in cc)

      by_number : (u : Task) → IsMember u (at t) → (u.number < released) ⊎ (released ≤ u.number)
          → (u.number ≡ n) ⊎ ((t + suc j ≤ u.job.release) ⊎ ((left u ≡ 0) ⊎ ((u.job.deadline < t + left u)
          ⊎ (turn_by ranks (entry_of next.task) < turn_by ranks (entry_of u)))))
      by_number u member (inr high) =
          inr (inl (omega (
            arith,
            until_is,
            ahead_from picks ranks ranked jobs order good count t until released none u member high,
          )))
      by_number u member (inl below) = by_bool _ (is_ready t u)
          (λ ready. by_first (next.first u member below ready))
          (λ late. by_late (not_ready u (run.queue.past u member below) late)) where
            by_first : (u.number ≡ n) ⊎ (turn_by ranks (entry_of next.task) < turn_by ranks (entry_of u))
                → (u.number ≡ n) ⊎ ((t + suc j ≤ u.job.release) ⊎ ((left u ≡ 0) ⊎ ((u.job.deadline < t + left u)
                ⊎ (turn_by ranks (entry_of next.task) < turn_by ranks (entry_of u)))))
            by_first (inl same) = inl same
            by_first (inr behind) = inr (inr (inr (inr behind)))

            by_late : (left u ≡ 0) ⊎ (u.job.deadline < t + left u)
                → (u.number ≡ n) ⊎ ((t + suc j ≤ u.job.release) ⊎ ((left u ≡ 0) ⊎ ((u.job.deadline < t + left u)
                ⊎ (turn_by ranks (entry_of next.task) < turn_by ranks (entry_of u)))))
            by_late (inl over) = inr (inr (inl over))
            by_late (inr passed) = inr (inr (inr (inl passed)))

    -- what that comes to
    ran : RunsFor picks ranks ranked jobs good count j n t
    ran = leads_run picks ranks ranked jobs good count j n t leads

    came : (at until ≡ map (given_ticks (suc j) n) (at t))
        × (schedule_before picks jobs until ≡ schedule_before picks jobs t ++ replicate (suc j) n)
    came = subst (λ (m : ℕ). (at m ≡ map (given_ticks (suc j) n) (at t))
        × (schedule_before picks jobs m ≡ schedule_before picks jobs t ++ replicate (suc j) n)) until_is
        (ran.tasks, ran.schedule)

    -- the job with these ticks
    abbrev after : Task
    after = had_more (suc j) next.task

    after_member : IsMember after (at until)
    after_member = subst (IsMember after) (sym came.0)
        (subst (λ (u : Task). IsMember u (map (given_ticks (suc j) n) (at t)))
        (given_here (suc j) n next.task next.number)
        (map_member (given_ticks (suc j) n) (at t) next.task next.member))

    queue_then : HasQueue ranks until released after.number (kept_of turns) (at until)
    queue_then = subst (λ (m : ℕ). HasQueue ranks until released m (kept_of turns) (at until)) (sym next.number)
        (subst (HasQueue ranks until released n (kept_of turns)) (sym came.0)
        (subst (λ (m : ℕ). HasQueue ranks m released n (kept_of turns) (map (given_ticks (suc j) n) (at t))) until_is
        (queue_runs ranks t released (kept_of turns) (at t) (numbered_at picks jobs t) (few_numbers t) n (suc j)
        run.queue)))

    -- what is served then
    served_then : (amount_of : JobFacts → ℕ) (gain : ℕ) → worth_by amount_of after ≡ gain
        → served_by amount_of (at until) ≡ served_by amount_of (at t) + gain
    served_then amount_of gain adds =
        let sums : served_by amount_of (at until) ≡ sum_by (λ u. worth_by amount_of (given_ticks (suc j) n u)) (at t) =
        ap (served_by amount_of) came.0 ∙ sum_map (given_ticks (suc j) n) (worth_by amount_of) (at t) in
        let here : worth_by amount_of (given_ticks (suc j) n next.task) ≡ gain =
        ap (worth_by amount_of) (given_here (suc j) n next.task next.number) ∙ adds in
        let before : worth_by amount_of next.task ≡ 0 = not_done (left next.task) (amount_of next.task.job) says.1 in
        let more : sum_by (λ u. worth_by amount_of (given_ticks (suc j) n u)) (at t) + 0
        ≤ sum_by (worth_by amount_of) (at t) + gain =
        sum_change (λ u. worth_by amount_of (given_ticks (suc j) n u)) (worth_by amount_of) 0 gain 0 (at t) next.task
        (numbered_at picks jobs t) next.member (omega (arith, here, before))
        (λ u member other. omega (arith, ap (worth_by amount_of) (stays u other))) in
        let less : sum_by (worth_by amount_of) (at t) + gain
        ≤ sum_by (λ u. worth_by amount_of (given_ticks (suc j) n u)) (at t) + 0 =
        sum_change (worth_by amount_of) (λ u. worth_by amount_of (given_ticks (suc j) n u)) gain 0 0 (at t) next.task
        (numbered_at picks jobs t) next.member (omega (arith, here, before))
        (λ u member other. omega (arith, ap (worth_by amount_of) (stays u other))) in
        omega (arith, sums, more, less) where
          not_done : (l v : ℕ) → 0 < l → cond (eqb l 0) v 0 ≡ 0
          not_done l v some = ap (λ b. cond b v 0) (let e : eqb l 0 ≡ false = grind arith in e)

          stays : (u : Task) → (u.number ≡ next.task.number → ⊥) → given_ticks (suc j) n u ≡ u
          stays u other = given_other (suc j) n u (λ same. other (same ∙ sym next.number))

    -- whether one is stopped
    stopped_now : stopped_at picks jobs t ≡ stop_by tally.last n
    stopped_now = by_last run.counts.last.ready where
      none_by : (tally.last ≡ idle) ⊎ (tally.last ≡ n) → stop_by tally.last n ≡ 0
      none_by (inl is) = ap (λ b. cond {A = ℕ} (b || eqb tally.last n) 0 1) (eq-eqb _ _ is)
      none_by (inr is) = on_both (eqb tally.last idle) (eqb tally.last n) (eq-eqb _ _ is) where
        on_both : (a b : Bool) → b ≡ true → cond {A = ℕ} (a || b) 0 1 ≡ 0
        on_both true b e = refl
        on_both false b e = ap (λ c. cond {A = ℕ} c 0 1) e

      by_last : (tally.last ≡ idle) ⊎ ((u : Task) × IsMember u (at t) × (u.number ≡ tally.last)
          × (tally.last ≡ last_at picks jobs t) × (is_ready t u ≡ true)) → stopped_at picks jobs t
          ≡ stop_by tally.last n
      by_last (inl is) = stops_none picks jobs t (λ u member same. by_first u member same (run.counts.last.over is))
          ∙ sym (none_by (inl is)) where
            by_first : (u : Task) → IsMember u (at t) → u.number ≡ last_at picks jobs t
                → (t ≡ 0) ⊎ Each (λ v. v.number ≡ last_at picks jobs t → left v ≡ 0) (at t)
                → (picked picks t (at t) ≡ u.number) ⊎ (left u ≡ 0)
            by_first u member same (inl first) =
                inl (ap (λ (m : ℕ). picked picks m (at m)) first ∙ sym (ap (last_at picks jobs) first) ∙ sym same)
            by_first u member same (inr over) = inr (over u member same)
      by_last (inr it) = by_number (cases_eq tally.last n) where
        by_number : (tally.last ≡ n) ⊎ (tally.last ≡ n → ⊥) → stopped_at picks jobs t ≡ stop_by tally.last n
        by_number (inl same) = stops_none picks jobs t
            (λ u member last. inl (ran.picks_it ∙ sym same ∙ it.3 ∙ sym last)) ∙ sym (none_by (inr same))
        by_number (inr other) = stops_one picks jobs t it.0 it.1 (it.2 ∙ it.3)
            (λ same. other (sym it.2 ∙ sym same ∙ ran.picks_it)) (ready_says t it.0 it.4).1
            ∙ sym (ap (λ b. cond {A = ℕ} (b || eqb tally.last n) 0 1)
            (ne_eqb tally.last idle (λ same. omega (arith, same, it.2, few_numbers t it.0 it.1)))
            ∙ ap (λ b. cond {A = ℕ} b 0 1) (ne_eqb tally.last n other))

    stops_then : stops jobs (schedule_before picks jobs until) ≡ tally.stops + stop_by tally.last n
    stops_then = ap (λ m. stops jobs (schedule_before picks jobs m)) (sym until_is) ∙ ran.stopped
        ∙ ap (λ m. stops jobs (schedule_before picks jobs t) + m) stopped_now
        ∙ ap (λ m. m + stop_by tally.last n) (sym run.counts.stops)

    last_then : last_at picks jobs until ≡ n
    last_then = ap (last_at picks jobs) (sym until_is) ∙ ran.last

    stop_most : stop_by tally.last n ≤ 1
    stop_most = at_most (eqb tally.last idle || eqb tally.last n) where
      at_most : (b : Bool) → cond {A = ℕ} b 0 1 ≤ 1
      at_most true = omega arith
      at_most false = omega arith

    left_after : left after ≡ amount - (until - t)
    left_after = omega (arith, next.amount_is, later, within)

    soon_then : until ≤ last_deadline jobs
    soon_then = omega (
      arith,
      within,
      next.amount_is,
      says.2,
      due_last picks ranks ranked jobs order good count t next.task next.member,
    )

    -- no more than there is
    pub run_most : until - t ≡ amount
        → (tally.value + next.task.job.value ≤ total_value jobs) × (tally.completed + 1 ≤ 1_000_000)
    run_most all = (
      omega (
        arith,
        run.counts.value,
        most_served picks jobs (λ i. i.value) until,
        served_then (λ i. i.value) next.task.job.value (done (λ i. i.value)),
      ),
      omega (
        arith,
        run.counts.completed,
        most_served picks jobs (λ i. 1) until,
        ones jobs,
        served_then (λ i. 1) 1 (done (λ i. 1)),
        count,
      ),
    ) where
      done : (amount_of : JobFacts → ℕ) → worth_by amount_of after ≡ amount_of next.task.job
      done amount_of =
          ap (λ b. cond b (amount_of next.task.job) 0) (eq-eqb (left after) 0 (omega (arith, left_after, all)))

      ones : (js : List JobFacts) → sum_by (λ (i : JobFacts). 1) js ≡ length js
      ones [] = refl
      ones (i ∷ js) = omega (arith, sum_by-cons (λ (x : JobFacts). 1) i js, ones js)

    -- nor more stops than ticks
    pub run_stops : tally.stops ≤ last_tick
    run_stops = omega (
      arith,
      run.counts.few,
      says.2,
      (job_limits (good_at picks jobs good t next.task next.member)).due,
    )

    -- the job is done
    pub run_done : (now : Tally) (longer : List Piece) → until - t ≡ amount
        → now ≡ record {
          value = tally.value + next.task.job.value;
          completed = tally.completed + 1;
          stops = tally.stops + stop_by tally.last n;
          last = idle;
        }
        → longer ≡ stretches (schedule_before picks jobs t ++ replicate (until - t) n)
        → HasRun picks ranks jobs until until released idle now turns longer
    run_done now longer all now_is stretched = subst
        (λ (x : Tally). HasRun picks ranks jobs until until released idle x turns longer) (sym now_is) (record {
          queue = queue_ends ranks until released (kept_of turns) (at until) (numbered_at picks jobs until)
              (few_numbers until) after after_member (omega (arith, next.number, next.low)) queue_then
              (λ ready. omega (arith, (ready_says until after ready).1, left_after, all));
          ordered = run.ordered;
          ahead = ahead_from picks ranks ranked jobs order good count until until released none;
          few = run.few;
          soon = soon_then;
          counts = record {
            value = ap (λ v. v + next.task.job.value) run.counts.value
                ∙ sym (served_then (λ i. i.value) next.task.job.value (done (λ i. i.value)));
            completed = ap (λ v. v + 1) run.counts.completed ∙ sym (served_then (λ i. 1) 1 (done (λ i. 1)));
            stops = sym stops_then;
            few = omega (arith, run.counts.few, stop_most, later);
            last = record {
              ready = inl refl;
              over = λ _. inr (λ u member same. ended u member (same ∙ last_then));
            };
          };
          stretched = stretched ∙ ap (λ k. stretches (schedule_before picks jobs t ++ replicate k n)) ticks
              ∙ ap stretches (sym came.1);
        }) where
          done : (amount_of : JobFacts → ℕ) → worth_by amount_of after ≡ amount_of next.task.job
          done amount_of =
              ap (λ b. cond b (amount_of next.task.job) 0) (eq-eqb (left after) 0 (omega (arith, left_after, all)))

          ticks : until - t ≡ suc j
          ticks = omega (arith, later)

          ended : (u : Task) → IsMember u (at until) → u.number ≡ n → left u ≡ 0
          ended u member same =
              ap left (one_number 0 (at until) (numbered_at picks jobs until) u after member after_member
              (same ∙ sym next.number)) ∙ (let over : left after ≡ 0 = omega (arith, left_after, all) in over)

    -- it isn't, and is put back
    pub run_back : (now : Tally) (put : List Turn) (longer : List Piece) → until - t < amount
        → now ≡ record {
          value = tally.value;
          completed = tally.completed;
          stops = tally.stops + stop_by tally.last n;
          last = n;
        }
        → IsPermutation ((turn_by ranks (entry_with n (amount - (until - t)) next.task.job), amount - (until - t))
        ∷ kept_of turns) (kept_of put)
        → KeepsHeap turn_cmp turns put
        → longer ≡ stretches (schedule_before picks jobs t ++ replicate (until - t) n)
        → HasRun picks ranks jobs until until released idle now put longer
    run_back now put longer part now_is moved keeps stretched = subst
        (λ (x : Tally). HasRun picks ranks jobs until until released idle x put longer) (sym now_is) (record {
          queue = queue_pushed ranks until released (kept_of turns) (at until) (numbered_at picks jobs until)
              (few_numbers until) after after_member (omega (arith, next.number, next.low)) (kept_of put) queue_then
              (omega (arith, left_after, part))
              (subst (λ k. IsPermutation (k ∷ kept_of turns) (kept_of put)) (sym as_kept) moved);
          ordered = keeps run.ordered;
          ahead = ahead_from picks ranks ranked jobs order good count until until released none;
          few = run.few;
          soon = soon_then;
          counts = record {
            value = run.counts.value ∙ none_more (λ i. i.value);
            completed = run.counts.completed ∙ none_more (λ i. 1);
            stops = sym stops_then;
            few = omega (arith, run.counts.few, stop_most, later);
            last = record {
              ready = inr (after, after_member, next.number, sym last_then, goes_on);
              over = λ is. absurd (omega (arith, is, next.number, few_numbers t next.task next.member));
            };
          };
          stretched = stretched ∙ ap (λ k. stretches (schedule_before picks jobs t ++ replicate k n)) ticks
              ∙ ap stretches (sym came.1);
        }) where
          not_done : (amount_of : JobFacts → ℕ) → worth_by amount_of after ≡ 0
          not_done amount_of = ap (λ b. cond b (amount_of next.task.job) 0)
              (ne_eqb (left after) 0 (λ over. omega (arith, over, left_after, part)))

          none_more : (amount_of : JobFacts → ℕ) → served_by amount_of (at t) ≡ served_by amount_of (at until)
          none_more amount_of = omega (arith, served_then amount_of 0 (not_done amount_of))

          goes_on : is_ready until after ≡ true
          goes_on = says_ready until after (omega (arith, says.0, later)) (omega (arith, left_after, part))
              (omega (arith, left_after, says.2, next.amount_is, within, later))

          ticks : until - t ≡ suc j
          ticks = omega (arith, later)

          kept_with : ℕ → ℕ → ℕ × ℕ
          kept_with m l = (turn_by ranks (entry_with m l next.task.job), l)

          as_kept : kept_as ranks after ≡ (
            turn_by ranks (entry_with n (amount - (until - t)) next.task.job),
            amount -
                (until - t),
          )
          as_kept = ap (λ m. kept_with m (left after)) next.number ∙ ap (kept_with n) left_after
