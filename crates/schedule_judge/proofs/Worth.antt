-- A legal schedule, tick by tick: each completed job is served, so it is worth what it completes.
use Rattle.std.proofs.Common.{◌≡◌, ◌≢◌, ◌≤◌, ◌<◌, ◌+◌, ◌-◌, ℕ, zero, suc, List, ◌∷◌, ◌++◌, [], length, map, set, refl}
use Rattle.std.proofs.Common.{sym, ap}
use Rattle.std.proofs.Common.{◌∙◌, subst, Bool, true, false, not, cond, Option, Some, None, arith, nat_le, nat_lt, ◌==◌}
use Rattle.std.proofs.Common.{eqb}
use Rattle.std.proofs.Common.{get_or, sum_by, le-leb, leb-true, ltb-true, ltb-false, lt-ltb, eqb-true, eq-eqb, ne_eqb}
use Rattle.std.proofs.Common.{length-append, get_or-set_same, get_or-set_other, slice_get}
use Rattle.std.specs.List.{enumerate_from}
use Rattle.std.specs.Option.{option_or, option_map_or}
use Rattle.std.proofs.lemmas.List.{length-set, get_or_append_left}
use Rattle.std.proofs.lemmas.Bool.{eqb-false, leb-false}
use Rattle.std.proofs.lemmas.Option.{slice_get-get_or, slice_get_past}
use Rattle.std.proofs.lemmas.List.Sums.{sum_by-cons}
use Rattle.std.proofs.Math.Seq.{get_or-append_seam}
use Rattle.dover_model.specs.declared.events.Event.{Event}
use Rattle.dover_model.specs.declared.events.Event.TheVariants.{Release, Run, Preempt, Take, Complete, Abandon, End}
use Rattle.dover_model.specs.Common.{JobFacts, Instance, IsValid, IsWithin, completed_value, ticks_given, earned, worth}
use Rattle.dover_model.specs.Common.{idle}
use Rattle.dover_model.proofs.bound.BoundLaws.{bound}
use Rattle.dover_model.proofs.bound.Calculus.{within_less}
use Rattle.dover_model.proofs.runs.Honest.{given_miss, given_hit}
use Rattle.dover_model.proofs.lists.Members.{some_same}
use Rattle.dover_model.proofs.lists.Tests.{never}
use Rattle.schedule_judge.specs.declared.book.Turn.{Turn}
use Rattle.schedule_judge.specs.declared.causes.Cause.{Cause}
use Rattle.schedule_judge.specs.declared.causes.Cause.TheVariants as cause
use Rattle.schedule_judge.specs.declared.jobs.JobState.{JobState}
use Rattle.schedule_judge.specs.declared.jobs.JobState.TheVariants.{Open, Completed, Abandoned}
use Rattle.schedule_judge.specs.declared.jobs.ToldJob.{ToldJob}
use Rattle.schedule_judge.specs.Jobs.{fresh, nobody, ran, settled, told_of, is_open, may_run, value_by, value_done}
use Rattle.schedule_judge.specs.Legal.{Schedule, blank, unless, ran_cause, turn_cause, tick_cause, runs, is_idle}
use Rattle.schedule_judge.specs.Legal.{is_served, run_cause, switch_cause, complete_cause, is_past, abandon_cause}
use Rattle.schedule_judge.specs.Legal.{cause_of, jobs_stopped, after}
use Rattle.schedule_judge.specs.Account.{account, is_too_many}
use Rattle.schedule_judge.proofs.Accounts.{account_keeps}

-- ---- causes

-- where neither of two causes holds
pub neither : (a b : Option Cause) → option_or a b ≡ None → (a ≡ None) × (b ≡ None)
neither None b none = (refl, none)
neither (Some c) b none = absurd (let clash : Some c ≡ None = none in cc)

-- where the cause doesn't hold
pub holds : (b : Bool) (c : Cause) → unless b c ≡ None → b ≡ true
holds true c none = refl
holds false c none = absurd (let clash : Some c ≡ None = none in cc)

-- ---- ticks

-- so many ticks more go to this number
pushed : ℕ → ℕ → List ℕ → List ℕ
pushed zero n s = s
pushed (suc k) n s = pushed k n (s ++ n ∷ [])

length-pushed : (k n : ℕ) (s : List ℕ) → length (pushed k n s) ≡ length s + k
unfolding pushed
length-pushed zero n s = omega arith
length-pushed (suc k) n s = let more = length-pushed k n (s ++ n ∷ []) in omega (arith, more, length-append s (n ∷ []))

-- to another number
pushed_miss : (k n m : ℕ) (j : JobFacts) (s : List ℕ) → n ≢ m → ticks_given (pushed k n s) m j ≡ ticks_given s m j
unfolding pushed
pushed_miss zero n m j s apart = refl
pushed_miss (suc k) n m j s apart = pushed_miss k n m j (s ++ n ∷ []) apart
    ∙ given_miss (λ x. eqb x m) n (ne_eqb n m apart) s j.release j.deadline

-- to this number, within the window
pushed_hit : (k n : ℕ) (j : JobFacts) (s : List ℕ) → j.release ≤ length s → length s + k ≤ j.deadline
    → ticks_given (pushed k n s) n j ≡ ticks_given s n j + k
unfolding pushed
pushed_hit zero n j s low high = omega arith
pushed_hit (suc k) n j s low high =
    let one = given_hit (λ x. eqb x n) n (eq-eqb n n refl) s j.release j.deadline low (omega arith) in
    let more = pushed_hit k n j (s ++ n ∷ []) (omega (arith, length-append s (n ∷ [])))
    (omega (arith, length-append s (n ∷ []))) in omega (arith, one, more)

-- ---- what the ticks so far have given

-- a job of number n: it was released, it lacks no more than its work that is left, and if it is completed nothing
record Given (clock : ℕ) (s : List ℕ) (n : ℕ) (told : ToldJob) : Type 0 where
  released : told.job.release ≤ clock
  lacks : told.job.work ≤ told.left + ticks_given s n told.job
  done : told.state ≡ Completed → told.job.work ≤ ticks_given s n told.job

-- the job that runs has the processor from the end of these ticks on
record HasTurn (jobs : List ToldJob) (turn : Turn) (s : List ℕ) : Type 0 where
  known : turn.number < length jobs
  from : length s ≡ turn.from
  released : (get_or jobs turn.number nobody).job.release ≤ turn.from

-- the ticks up to the one from which a job runs, or up to the last that one did
record Follows (jobs : List ToldJob) (turn : Option Turn) (clock : ℕ) (s : List ℕ) : Type 0 where
  few : length jobs ≤ 1_000_000
  past : length s ≤ clock
  each : (n : ℕ) → n < length jobs → Given clock s n (get_or jobs n nobody)
  runs : (t : Turn) → turn ≡ Some t → HasTurn jobs t s

-- a job is told of
pub told_same : (f : ToldJob → ToldJob) (jobs : List ToldJob) (n : ℕ) → n < length jobs
    → get_or (told_of f jobs n) n nobody ≡ f (get_or jobs n nobody)
told_same f jobs n known = ap (λ b. get_or (cond b (set jobs n (f (get_or jobs n nobody))) jobs) n nobody)
    (lt-ltb n (length jobs) known) ∙ get_or-set_same jobs n (f (get_or jobs n nobody)) nobody known

pub told_other : (f : ToldJob → ToldJob) (jobs : List ToldJob) (n m : ℕ) → m ≢ n
    → get_or (told_of f jobs n) m nobody ≡ get_or jobs m nobody
told_other f jobs n m apart = by (nat_lt n (length jobs)) where
  by : (b : Bool) → get_or (cond b (set jobs n (f (get_or jobs n nobody))) jobs) m nobody ≡ get_or jobs m nobody
  by true = get_or-set_other jobs n m (f (get_or jobs n nobody)) nobody apart
  by false = refl

pub told_count : (f : ToldJob → ToldJob) (jobs : List ToldJob) (n : ℕ) → length (told_of f jobs n) ≡ length jobs
told_count f jobs n = by (nat_lt n (length jobs)) where
  by : (b : Bool) → length (cond b (set jobs n (f (get_or jobs n nobody))) jobs) ≡ length jobs
  by true = length-set jobs n (f (get_or jobs n nobody))
  by false = refl

-- of each job, where something is told of one
each_told : (P : ℕ → ToldJob → Type 0) (f : ToldJob → ToldJob) (jobs : List ToldJob) (n : ℕ) → n < length jobs
    → P n (f (get_or jobs n nobody)) → ((m : ℕ) → m < length jobs → m ≢ n → P m (get_or jobs m nobody))
    → (m : ℕ) → m < length (told_of f jobs n) → P m (get_or (told_of f jobs n) m nobody)
each_told P f jobs n known here others m low = by (eqb m n) refl where
  by : (b : Bool) → eqb m n ≡ b → P m (get_or (told_of f jobs n) m nobody)
  by true same = let is : m ≡ n = eqb-true m n same in
      subst (λ k. P k (get_or (told_of f jobs n) k nobody)) (sym is) (subst (P n) (sym (told_same f jobs n known)) here)
  by false apart = let other : m ≢ n = eqb-false m n apart in
      subst (P m) (sym (told_other f jobs n m other)) (others m (omega (arith, told_count f jobs n)) other)

-- a later clock
later : (clock at : ℕ) (s : List ℕ) (n : ℕ) (told : ToldJob) → clock ≤ at → Given clock s n told → Given at s n told
later clock at s n told on it =
    let released = it.released in record { released = omega arith; lacks = it.lacks; done = it.done }

-- ---- the job that runs stops

module _ (st : Schedule) (s : List ℕ) (it : Follows st.jobs st.turn st.clock s) (at : ℕ) (on : st.clock ≤ at) where
  -- a job that runs does so inside its window
  in_time : (t : Turn) → st.turn ≡ Some t → turn_cause st at ≡ None
      → at ≤ (get_or st.jobs t.number nobody).job.deadline
  in_time t is none = by (nat_lt (get_or st.jobs t.number nobody).job.deadline at) refl
      (subst (λ o. option_map_or (λ told. ran_cause told t.from at) o None ≡ None)
      (slice_get-get_or st.jobs t.number nobody (it.runs t is).known)
      (subst (λ o. option_map_or (λ turn. option_map_or (λ told. ran_cause told turn.from at)
      (slice_get st.jobs turn.number) None) o None ≡ None) is none)) where
        told : ToldJob
        told = get_or st.jobs t.number nobody

        by : (b : Bool) → nat_lt told.job.deadline at ≡ b
            → cond b (Some cause.Late) (cond (nat_lt told.left (at - t.from)) (Some cause.Work) None) ≡ None
            → at ≤ told.job.deadline
        by true late none = absurd (let clash : Some cause.Late ≡ None = none in cc)
        by false fits none = ltb-false _ _ fits

  -- it has had the ticks since, and none runs
  stop : turn_cause st at ≡ None → (x : List ℕ) × Follows (jobs_stopped st.jobs st.turn at) None at x
  stop none = by st.turn refl where
    by : (o : Option Turn) → st.turn ≡ o → (x : List ℕ) × Follows (jobs_stopped st.jobs o at) None at x
    by None is = (
      s,
      record {
        few = it.few;
        past = let past = it.past in omega arith;
        each = λ n low. later st.clock at s n _ on (it.each n low);
        runs = λ t some. absurd (let clash : None ≡ Some t = some in cc);
      },
    )
    by (Some t) is = (
      pushed (at - t.from) t.number s,
      record {
        few = let few = it.few in omega (arith, told_count (ran (at - t.from)) st.jobs t.number);
        past = let past = it.past in let from = turn.from in
            omega (arith, length-pushed (at - t.from) t.number s);
        each = each_told (Given at (pushed (at - t.from) t.number s)) (ran (at - t.from)) st.jobs t.number turn.known
            (let old = it.each t.number turn.known in let lacks = old.lacks in let released = old.released in record {
              released = omega arith;
              lacks = omega (arith, more);
              done = λ over. let enough = old.done over in omega (arith, more);
            })
            (λ m low apart. let old = it.each m low in let released = old.released in
            let same = pushed_miss (at - t.from) t.number m (get_or st.jobs m nobody).job s (λ e. apart (sym e)) in
            record {
              released = omega arith;
              lacks = let lacks = old.lacks in omega (arith, same);
              done = λ over. let enough = old.done over in omega (arith, same);
            });
        runs = λ u some. absurd (let clash : None ≡ Some u = some in cc);
      },
    ) where
      turn : HasTurn st.jobs t s
      turn = it.runs t is

      more : ticks_given (pushed (at - t.from) t.number s) t.number (get_or st.jobs t.number nobody).job
          ≡ ticks_given s t.number (get_or st.jobs t.number nobody).job + (at - t.from)
      more = let from = turn.from in let released = turn.released in let past = it.past in
          pushed_hit (at - t.from) t.number (get_or st.jobs t.number nobody).job s (omega arith)
          (let due = in_time t is none in omega arith)

-- ---- steps

-- a job gets the free processor
start : (jobs : List ToldJob) (at : ℕ) (s : List ℕ) (n : ℕ) → n < length jobs → Follows jobs None at s
    → (x : List ℕ) × Follows jobs (Some (record { number = n; from = at })) at x
start jobs at s n known it = (
  pushed (at - length s) idle s,
  record {
    few = it.few;
    past = let past = it.past in omega (arith, long);
    each = λ m low. let old = it.each m low in let few = it.few in
        let same = pushed_miss (at - length s) idle m (get_or jobs m nobody).job s (omega arith) in record {
          released = old.released;
          lacks = let lacks = old.lacks in omega (arith, same);
          done = λ over. let enough = old.done over in omega (arith, same);
        };
    runs = λ t some. subst (λ u. HasTurn jobs u (pushed (at - length s) idle s)) (some_turn t some) (record {
      known = known;
      from = let past = it.past in omega (arith, long);
      released = (it.each n known).released;
    });
  },
) where
  long : length (pushed (at - length s) idle s) ≡ length s + (at - length s)
  long = length-pushed (at - length s) idle s

  some_turn : (t : Turn) → Some (record { number = n; from = at }) ≡ Some t → record { number = n; from = at } ≡ t
  some_turn t some = some_same _ _ some

-- the same turn, where the jobs keep their number and windows
same_turn : (jobs more : List ToldJob) (turn : Turn) (s : List ℕ) → length jobs ≤ length more
    → (get_or more turn.number nobody).job ≡ (get_or jobs turn.number nobody).job → HasTurn jobs turn s
    → HasTurn more turn s
same_turn jobs more turn s long same it = let known = it.known in let released = it.released in record {
  known = omega arith;
  from = it.from;
  released = subst (λ (j : JobFacts). j.release ≤ turn.from) (sym same) released;
}

-- a job is released
release : (st : Schedule) (s : List ℕ) (j : JobFacts) → Follows st.jobs st.turn st.clock s → st.clock ≤ j.release
    → length st.jobs < 1_000_000 → Follows (st.jobs ++ fresh j ∷ []) st.turn j.release s
release st s j it on few = record {
  few = omega (arith, length-append st.jobs (fresh j ∷ []));
  past = let past = it.past in omega arith;
  each = λ n low. by n low (nat_lt n (length st.jobs)) refl;
  runs = λ t is. let turn = it.runs t is in same_turn st.jobs (st.jobs ++ fresh j ∷ []) t s
      (omega (arith, length-append st.jobs (fresh j ∷ [])))
      (ap (λ (told : ToldJob). told.job) (get_or_append_left st.jobs (fresh j ∷ []) nobody t.number turn.known)) turn;
} where
  by : (n : ℕ) → n < length (st.jobs ++ fresh j ∷ []) → (b : Bool) → nat_lt n (length st.jobs) ≡ b
      → Given j.release s n (get_or (st.jobs ++ fresh j ∷ []) n nobody)
  by n low true e = let known : n < length st.jobs = ltb-true _ _ e in
      subst (Given j.release s n) (sym (get_or_append_left st.jobs (fresh j ∷ []) nobody n known))
      (later st.clock j.release s n (get_or st.jobs n nobody) on (it.each n known))
  by n low false e = let last : length st.jobs ≤ n = ltb-false _ _ e in
      let is : n ≡ length st.jobs = omega (arith, length-append st.jobs (fresh j ∷ [])) in
      subst (λ told. Given j.release s n told)
      (sym (ap (λ m. get_or (st.jobs ++ fresh j ∷ []) m nobody) is ∙ get_or-append_seam st.jobs (fresh j) [] nobody))
      (record {
        released = omega arith;
        lacks = omega arith;
        done = λ over. absurd (let clash : Open ≡ Completed = over in cc);
      })

-- this became of a job, which is completed only where it lacks nothing
settle : (jobs : List ToldJob) (turn : Option Turn) (at n : ℕ) (s : List ℕ) (state : JobState) → n < length jobs
    → Follows jobs turn at s
    → (state ≡ Completed → (get_or jobs n nobody).job.work ≤ ticks_given s n (get_or jobs n nobody).job)
    → Follows (told_of (settled state) jobs n) turn at s
settle jobs turn at n s state known it over = record {
  few = let few = it.few in omega (arith, told_count (settled state) jobs n);
  past = it.past;
  each = each_told (Given at s) (settled state) jobs n known
      (let old = it.each n known in record { released = old.released; lacks = old.lacks; done = over })
      (λ m low apart. it.each m low);
  runs = λ t is. same_turn jobs (told_of (settled state) jobs n) t s
      (omega (arith, told_count (settled state) jobs n)) (job_stays t.number) (it.runs t is);
} where
  job_stays : (m : ℕ) → (get_or (told_of (settled state) jobs n) m nobody).job ≡ (get_or jobs m nobody).job
  job_stays m = by (eqb m n) refl where
    by : (b : Bool) → eqb m n ≡ b
        → (get_or (told_of (settled state) jobs n) m nobody).job ≡ (get_or jobs m nobody).job
    by true e = subst (λ k. (get_or (told_of (settled state) jobs n) k nobody).job ≡ (get_or jobs k nobody).job)
        (sym (eqb-true m n e)) (ap (λ (told : ToldJob). told.job) (told_same (settled state) jobs n known))
    by false e = ap (λ (told : ToldJob). told.job) (told_other (settled state) jobs n m (eqb-false m n e))

-- a job that may run is known
may_known : (jobs : List ToldJob) (n : ℕ) → may_run jobs n ≡ true → n < length jobs
may_known jobs n may = by (nat_lt n (length jobs)) refl where
  by : (b : Bool) → nat_lt n (length jobs) ≡ b → n < length jobs
  by true e = ltb-true _ _ e
  by false e = never (sym (ap (λ o. option_map_or is_open o false) (slice_get_past jobs n (ltb-false _ _ e))) ∙ may)

-- the ticks behind a step
abbrev FollowsOn : Schedule → Type 0
FollowsOn st = (s : List ℕ) × Follows st.jobs st.turn st.clock s

module _ (st : Schedule) (s : List ℕ) (it : Follows st.jobs st.turn st.clock s) (at : ℕ)
    (ticks : tick_cause st at ≡ None) where
  -- the tick isn't before the last one, and the job that runs may have run up to it
  on_time : (st.clock ≤ at) × (turn_cause st at ≡ None)
  on_time = by (nat_lt at st.clock) refl ticks where
    by : (b : Bool) → nat_lt at st.clock ≡ b → cond b (Some cause.Order) (turn_cause st at) ≡ None
        → (st.clock ≤ at) × (turn_cause st at ≡ None)
    by true e none = absurd (let clash : Some cause.Order ≡ None = none in cc)
    by false e none = (ltb-false _ _ e, none)

  -- a known job gets the processor
  starts : (n : ℕ) → n < length st.jobs
      → (x : List ℕ) × Follows (jobs_stopped st.jobs st.turn at) (Some (record { number = n; from = at })) at x
  starts n known = let past = stop st s it at on_time.0 on_time.1 in
      start (jobs_stopped st.jobs st.turn at) at past.0 n (omega (arith, count st.turn)) past.1 where
        count : (o : Option Turn) → length (jobs_stopped st.jobs o at) ≡ length st.jobs
        count None = refl
        count (Some t) = told_count (ran (at - t.from)) st.jobs t.number

  -- a job that runs and has had all its work completes
  completes : (n : ℕ) → runs st n ≡ true → is_served st at n ≡ true
      → (x : List ℕ) × Follows (told_of (settled Completed) (jobs_stopped st.jobs st.turn at) n) None at x
  completes n runs served = by st.turn refl runs served where
    by : (o : Option Turn) → st.turn ≡ o → option_map_or (λ turn. turn.number == n) o false ≡ true
        → option_map_or (λ turn. option_map_or (λ told. nat_le told.left (at - turn.from)) (slice_get st.jobs n) false)
        o false ≡ true
        → (x : List ℕ) × Follows (told_of (settled Completed) (jobs_stopped st.jobs st.turn at) n) None at x
    by None is none served = never none
    by (Some t) is same served =
        let past = stop st s it at on_time.0 on_time.1 in (
          past.0,
          settle jobs None at n past.0 Completed known past.1 (λ over.
              let lacks = (past.1.each n known).lacks in omega (arith, none_left)),
        ) where
          number : t.number ≡ n
          number = eqb-true t.number n same

          known_before : n < length st.jobs
          known_before = subst (λ m. m < length st.jobs) number (it.runs t is).known

          jobs : List ToldJob
          jobs = jobs_stopped st.jobs st.turn at

          stands : jobs ≡ told_of (ran (at - t.from)) st.jobs n
          stands = ap (λ o. jobs_stopped st.jobs o at) is ∙ ap (told_of (ran (at - t.from)) st.jobs) number

          known : n < length jobs
          known = let same = ap (λ (xs : List ToldJob). length xs) stands in
              omega (arith, same, told_count (ran (at - t.from)) st.jobs n, known_before)

          none_left : (get_or jobs n nobody).left ≡ 0
          none_left = let few : (get_or st.jobs n nobody).left ≤ at - t.from = leb-true _ _
              (subst (λ o. option_map_or (λ told. nat_le told.left (at - t.from)) o false ≡ true)
              (slice_get-get_or st.jobs n nobody known_before) served) in
              ap (λ xs. (get_or xs n nobody).left) stands
              ∙ ap (λ (told : ToldJob). told.left) (told_same (ran (at - t.from)) st.jobs n known_before) ∙ omega arith

  -- a known job is given up
  given_up : (n : ℕ) → may_run st.jobs n ≡ true → FollowsOn (after st (Abandon at n))
  given_up n may = by (runs st n) where
    more : Schedule
    more = record st { steps = st.steps ++ Abandon at n ∷ [] }

    count : (o : Option Turn) → length (jobs_stopped st.jobs o at) ≡ length st.jobs
    count None = refl
    count (Some t) = told_count (ran (at - t.from)) st.jobs t.number

    given : (o : Option Turn) (jobs : List ToldJob) → length jobs ≡ length st.jobs
        → ((x : List ℕ) × Follows jobs o at x)
        → (x : List ℕ) × Follows (told_of (settled Abandoned) jobs n) o at x
    given o jobs many past = (
      past.0,
      settle jobs o at n past.0 Abandoned
          (let known = may_known st.jobs n may in omega (arith, many)) past.1
          (λ over. absurd (let clash : Abandoned ≡ Completed = over in cc)),
    )

    by : (b : Bool) → FollowsOn (record (cond b (record more { jobs = jobs_stopped st.jobs st.turn at; turn = None })
        more) {
          jobs = told_of (settled Abandoned)
              (cond b (record more { jobs = jobs_stopped st.jobs st.turn at; turn = None }) more).jobs n;
          clock = at;
        })
    by true = given None (jobs_stopped st.jobs st.turn at) (count st.turn) (stop st s it at on_time.0 on_time.1)
    by false = given st.turn st.jobs refl (
      s,
      record {
        few = it.few;
        past = let past = it.past in let on = on_time.0 in omega arith;
        each = λ m low. later st.clock at s m (get_or st.jobs m nobody) on_time.0 (it.each m low);
        runs = it.runs;
      },
    )

-- a job takes the processor from another
switched : (st : Schedule) (at stops starts_now : ℕ) → FollowsOn st
    → option_or (tick_cause st at) (switch_cause st stops starts_now) ≡ None
    → (x : List ℕ) × Follows (jobs_stopped st.jobs st.turn at) (Some (record { number = starts_now; from = at })) at x
switched st at stops starts_now past none =
    let both = neither (tick_cause st at) (switch_cause st stops starts_now) none in
    let two = neither (unless (runs st stops) cause.Turn)
    (option_or (unless (may_run st.jobs starts_now) cause.Job) (unless (not (stops == starts_now)) cause.Job)) both.1 in
    let three = neither (unless (may_run st.jobs starts_now) cause.Job) (unless (not (stops == starts_now)) cause.Job)
    two.1 in starts st past.0 past.1 at both.0 starts_now (may_known st.jobs starts_now (holds _ cause.Job three.0))

-- each step that may come
each_step : (st : Schedule) (e : Event) → is_too_many st e ≡ false → cause_of st e ≡ None → FollowsOn st
    → FollowsOn (after st e)
each_step st (Release n j) many none past =
    let both = neither (tick_cause st j.release) (unless (n == length st.jobs) cause.Number) none in
    let few : length st.jobs < 1_000_000 = leb-false _ _ many in
    (past.0, release st past.0 j past.1 (on_time st past.0 past.1 j.release both.0).0 few)
each_step st (Run at n) many none past =
    let both = neither (tick_cause st at) (run_cause st n) none in
    let two = neither (unless (is_idle st) cause.Busy) (unless (may_run st.jobs n) cause.Job) both.1 in
    starts st past.0 past.1 at both.0 n (may_known st.jobs n (holds _ cause.Job two.1))
each_step st (Preempt at stops starts_now) many none past = switched st at stops starts_now past none
each_step st (Take at stops starts_now) many none past = switched st at stops starts_now past none
each_step st (Complete at n) many none past =
    let both = neither (tick_cause st at) (complete_cause st at n) none in
    let two = neither (unless (runs st n) cause.Turn) (unless (is_served st at n) cause.Early) both.1 in
    completes st past.0 past.1 at both.0 n (holds _ cause.Turn two.0) (holds _ cause.Early two.1)
each_step st (Abandon at n) many none past =
    let both = neither (tick_cause st at) (abandon_cause st at n) none in
    let two = neither (unless (not (is_past st.jobs at n)) cause.Late) (unless (may_run st.jobs n) cause.Job) both.1 in
    given_up st past.0 past.1 at both.0 n (holds _ cause.Job two.1)
each_step st (End value) many none past = past

-- ---- at the end

-- none is given to no job
begins : FollowsOn blank
begins = (
  [],
  record {
    few = omega arith;
    past = omega arith;
    each = λ n low. absurd (omega arith);
    runs = λ t is. absurd (let clash : None ≡ Some t = is in cc);
  },
)

follows : (bytes : List ℕ) → FollowsOn (account bytes).schedule
follows bytes = account_keeps FollowsOn each_step begins bytes

-- what completed jobs are worth is earned
earned_all : (s : List ℕ) (clock k : ℕ) (jobs : List ToldJob)
    → ((n : ℕ) → n < length jobs → Given clock s (k + n) (get_or jobs n nobody))
    → sum_by value_done jobs ≤ sum_by (earned s) (enumerate_from k (map (λ told. told.job) jobs))
earned_all s clock k [] each = omega arith
earned_all s clock k (told ∷ jobs) each = omega (
  arith,
  sum_by-cons value_done told jobs,
  sum_by-cons (earned s) (k, told.job) (enumerate_from (k + 1) (map (λ told. told.job) jobs)),
  here told.state refl,
  earned_all s clock (k + 1) jobs (λ n low. let on : k + suc n ≡ k + 1 + n = omega arith in
      subst (λ m. Given clock s m (get_or jobs n nobody)) on (each (suc n) (omega arith))),
) where
  here : (state : JobState) → told.state ≡ state → value_by state told.job.value ≤ earned s (k, told.job)
  here Completed is = let first = each 0 (omega arith) in let enough = first.done is in
      let same : k + 0 ≡ k = omega arith in
      let served : told.job.work ≤ ticks_given s k told.job =
      subst (λ m. told.job.work ≤ ticks_given s m told.job) same enough in
      subst (λ b. told.job.value ≤ cond b told.job.value 0) (sym (le-leb _ _ served)) (omega arith)
  here Open is = omega arith
  here Abandoned is = omega arith

pub worth_it : (bytes : List ℕ) (J : Instance) → J.jobs ≡ map (λ told. told.job) (account bytes).schedule.jobs
    → (s : List ℕ) × (sum_by value_done (account bytes).schedule.jobs ≤ worth J s)
worth_it bytes J jobs = let it = follows bytes in (
  it.0,
  subst (λ js. sum_by value_done (account bytes).schedule.jobs ≤ sum_by (earned it.0) (enumerate_from 0 js))
      (sym jobs) (earned_all it.0 (account bytes).schedule.clock 0 (account bytes).schedule.jobs
      (λ n low. let same : n ≡ 0 + n = omega arith in subst (λ m. Given (account bytes).schedule.clock it.0 m
      (get_or (account bytes).schedule.jobs n nobody)) same (it.1.each n low))),
)

pub within_bound : (bytes : List ℕ) (J : Instance) → IsValid J
    → J.jobs ≡ map (λ told. told.job) (account bytes).schedule.jobs
    → IsWithin J.rules.ratio (sum_by value_done (account bytes).schedule.jobs) (completed_value J)
within_bound bytes J valid jobs = let it = worth_it bytes J jobs in
    within_less J.rules.ratio _ (worth J it.0) (completed_value J) it.1 (bound J it.0 valid)
