-- Runs one after another, each in a time of its own.
use Rattle.std.proofs.Common.{◌≡◌, ℕ, zero, suc, ◌+◌, ◌-◌, ◌≤◌, inl, inr, List, [], ◌∷◌, ◌++◌, length, drop, take, map}
use Rattle.std.proofs.Common.{refl, sym, ap, ◌∙◌, subst, arith, cond, Bool, true, false, append_assoc, replicate}
use Rattle.std.proofs.Common.{nat_le, ◌==◌, count_by, sum_by, fold}
use Rattle.std.specs.List.{enumerate_from}
use Rattle.std.proofs.lemmas.List.Sums.{sum_by-cons}
use Rattle.dover_model.specs.Common.{JobFacts, IsJob, Event, End, Coming, idle, Rules, Instance, IsValid, having}
use Rattle.dover_model.specs.Common.{observed, observing, to_come, printed_of, printed, last_deadline}
use Rattle.dover_model.specs.Common.{completed_value, ran, step_at, IsWholeRun, worth, IsWithin, Each, behind}
use Rattle.dover_model.specs.Common.{before_end, later_job, later_event, Turn, turn_under, anew, printed_anew}
use Rattle.dover_model.specs.Rest.{AreAnew, completed_anew}
use Rattle.dover_model.proofs.lists.Members.{all_member, on_map, each_append, map_map}
use Rattle.dover_model.proofs.bound.BoundLaws.{bound as no_more, observed_bound}
use Rattle.dover_model.proofs.runs.Honest.{observed_honest}
use Rattle.dover_model.proofs.rest.InTurns.{completed_more}
use Rattle.dover_model.proofs.rest.TurnSchedules.{one_then, over_by, worth_one_then}
use Rattle.dover_model.proofs.runs.RunLaws.{one_run, tasks_in}
use Rattle.dover_model.proofs.rest.Moving.{moved_task, moved_state, IsFitting, whole_later}
use Rattle.dover_model.proofs.runs.Runs.{last_value, value_last}
use Rattle.dover_model.proofs.rest.Resting.{at_tick, RunsFrom, alone, joined, runs_all, sees_all}
use Rattle.dover_model.proofs.valid.Dues.{later_due, due_least, dues_mono}
use Rattle.dover_model.proofs.rest.Apart.{settled_at_rest, behind_last}
use Rattle.dover_model.proofs.bound.Calculus.{within_less, none_within, within_add}
use Rattle.dover_model.proofs.rest.Parting.{worth_to, worth_append}
use Rattle.dover_model.proofs.valid.ValidParts.{valid_parts}
use Rattle.dover_model.proofs.valid.JobLimits.{job_limits}
use Rattle.dover_model.specs.Common.{state_at}

-- ---- jobs to come, moved in time

module _ (c : ℕ) where
  -- under the same numbers
  come_moved : (n : ℕ) (jobs : List JobFacts) → map (moved_task c) (to_come n jobs) ≡ to_come n (map (later_job c) jobs)
  come_moved n [] = refl
  come_moved n (j ∷ jobs) =
      ap (λ ts. record { number = n; job = later_job c j; role = Coming; had = 0 } ∷ ts) (come_moved (suc n) jobs)

  -- they fit where the jobs do
  come_fits : (n : ℕ) (jobs : List JobFacts) → Each (λ j. j.work ≤ j.deadline) jobs → Each IsFitting (to_come n jobs)
  come_fits n [] fits t member = absurd member
  come_fits n (j ∷ jobs) fits t (inl e) = subst IsFitting (sym e) (fits j (inl refl))
  come_fits n (j ∷ jobs) fits t (inr member) = come_fits (suc n) jobs (λ i m. fits i (inr m)) t member

  -- the later of two deadlines
  due_moved : (d : ℕ) (j : JobFacts) → later_due d j + c ≤ later_due (d + c) (later_job c j)
  due_moved d j = by_test (nat_le d j.deadline) where
    least : (d + c ≤ later_due (d + c) (later_job c j)) × (j.deadline + c ≤ later_due (d + c) (later_job c j))
    least = due_least (d + c) (later_job c j)

    by_test : (b : Bool) → cond b j.deadline d + c ≤ later_due (d + c) (later_job c j)
    by_test true = least.1
    by_test false = least.0

  -- the last deadline
  dues_moved : (d : ℕ) (jobs : List JobFacts)
      → fold later_due d jobs + c ≤ fold later_due (d + c) (map (later_job c) jobs)
  dues_moved d [] = omega arith
  dues_moved d (j ∷ jobs) =
      let rest : fold later_due (later_due d j) jobs + c ≤ fold later_due (later_due d j + c) (map (later_job c) jobs) =
      dues_moved (later_due d j) jobs in
      let more : fold later_due (later_due d j + c) (map (later_job c) jobs) ≤ fold later_due
      (later_due (d + c) (later_job c j)) (map (later_job c) jobs) =
      dues_mono (later_due d j + c) (later_due (d + c) (later_job c j)) (map (later_job c) jobs) (due_moved d j) in
      omega arith

  -- it is so much later, where there is a job
  last_moved : (j : JobFacts) (jobs : List JobFacts)
      → last_deadline (j ∷ jobs) + c ≤ last_deadline (map (later_job c) (j ∷ jobs))
  last_moved j jobs =
      let rest : fold later_due (later_due 0 j) jobs + c ≤ fold later_due (later_due 0 j + c) (map (later_job c) jobs) =
      dues_moved (later_due 0 j) jobs in
      let more : fold later_due (later_due 0 j + c) (map (later_job c) jobs) ≤ fold later_due
      (later_due 0 (later_job c j)) (map (later_job c) jobs) =
      dues_mono (later_due 0 j + c) (later_due 0 (later_job c j)) (map (later_job c) jobs) start in omega arith where
        start : later_due 0 j + c ≤ later_due 0 (later_job c j)
        start = let low : j.deadline + c ≤ later_due 0 (later_job c j) = (due_least 0 (later_job c j)).1 in
            by_test (nat_le 0 j.deadline) low where
              by_test : (b : Bool) → j.deadline + c ≤ later_due 0 (later_job c j)
                  → cond b j.deadline 0 + c ≤ later_due 0 (later_job c j)
              by_test true low = low
              by_test false low = omega arith

  -- so there are as many ticks left
  ticks_moved : (jobs : List JobFacts) → last_deadline jobs ≤ last_deadline (map (later_job c) jobs) - c
  ticks_moved [] = omega arith
  ticks_moved (j ∷ jobs) = omega (arith, last_moved j jobs)

  -- there are as many
  count_moved : (jobs : List JobFacts) → length (map (later_job c) jobs) ≡ length jobs
  count_moved [] = refl
  count_moved (j ∷ jobs) = ap suc (count_moved jobs)

  -- the run from a tick on, of jobs moved in time
  pub moved_runs : (rules : Rules) (jobs : List JobFacts) (events : List Event) (seen : List JobFacts)
      → Each (λ j. j.work ≤ j.deadline) jobs
      → RunsFrom rules 0 jobs events seen
      → RunsFrom rules c (map (later_job c) jobs) (map (later_event c) events) (map (later_job c) seen)
  moved_runs rules jobs events seen fits it =
      let moved = whole_later c rules it.0 (at_tick 0 jobs) (come_fits 0 jobs fits) it.1 in
      let start : moved_state c (at_tick 0 jobs) ≡ at_tick c (map (later_job c) jobs) =
      ap (λ clock. state_at clock (map (moved_task c) (to_come 0 jobs)))
      (omega arith)
      ∙ ap (λ ts. state_at c ts) (come_moved 0 jobs) in (
        moved.0,
        subst (λ s. IsWholeRun rules s moved.0) start moved.1,
        omega (arith, moved.2, it.2, ticks_moved jobs, count_moved jobs),
        moved.3 ∙ ap (map (later_event c)) it.3,
        ap (map observing) moved.4 ∙ map_map observing (moved_task c) (tasks_in it.0)
            ∙ sym (map_map (later_job c) observing (tasks_in it.0)) ∙ ap (map (later_job c)) it.4,
      )

-- ---- the jobs of turns, each in its own time, and later jobs

-- the jobs that each turn has, in one time
abbrev pub jobs_anew : (Turn → List JobFacts) → List (ℕ × Turn) → List JobFacts
jobs_anew of [] = []
jobs_anew of (t_turn ∷ turns) = of t_turn.1 ++ map (later_job t_turn.0) (jobs_anew of turns)

-- all the jobs
pub anew_jobs : (turns : List (ℕ × Turn)) → (anew turns).jobs ≡ jobs_anew (λ turn. turn.jobs) turns
anew_jobs [] = refl
anew_jobs (t_turn ∷ turns) = ap (λ js. t_turn.1.jobs ++ map (later_job t_turn.0) js) (anew_jobs turns)

-- none
abbrev no_ticks : List ℕ
no_ticks = []

-- nothing has no part
none_left : (x y : ℕ) → drop x (take y no_ticks) ≡ no_ticks
none_left zero zero = refl
none_left (suc x) zero = refl
none_left _ _ = refl

-- ticks of a later window
drop_window : (c r d : ℕ) (s : List ℕ) → drop (r + c) (take (d + c) s) ≡ drop r (take d (drop c s))
drop_window zero r d s = ap (λ m. drop m (take (d + 0) s)) (omega arith) ∙ ap (λ m. drop r (take m s)) (omega arith)
drop_window (suc c) r d [] = none_left (r + suc c) (d + suc c) ∙ sym (none_left r d)
drop_window (suc c) r d (m ∷ s) =
    ap (λ k. drop k (take (d + suc c) (m ∷ s))) (let e : r + suc c ≡ suc (r + c) = omega arith in e)
    ∙ ap (λ k. drop (suc (r + c)) (take k (m ∷ s))) (let e : d + suc c ≡ suc (d + c) = omega arith in e)
    ∙ drop_window c r d s

-- a schedule is worth to later jobs what its rest is worth to the jobs
pub worth_later : (c k : ℕ) (jobs : List JobFacts) (s : List ℕ)
    → sum_by (worth_to s) (enumerate_from k (map (later_job c) jobs)) ≡ sum_by (worth_to (drop c s))
    (enumerate_from k jobs)
worth_later c k [] s = refl
worth_later c k (j ∷ jobs) s =
    let here : worth_to s (k, later_job c j) ≡ worth_to (drop c s) (k, j) =
    ap (λ ticks. cond (nat_le j.work (count_by (λ m. m == k) ticks)) j.value 0)
    (drop_window c j.release j.deadline s) in
    omega (
      arith,
      here,
      worth_later c (k + 1) jobs s,
      sum_by-cons (worth_to s) (k, later_job c j) (enumerate_from (k + 1) (map (later_job c) jobs)),
      sum_by-cons (worth_to (drop c s)) (k, j) (enumerate_from (k + 1) jobs),
    )

-- ---- turns, each in its own time

module _ (rules : Rules) where
  -- the instance of one turn
  abbrev of_turn : Turn → Instance
  of_turn turn = turn_under rules turn

  -- the turns without their ticks
  abbrev untimed : List (ℕ × Turn) → List Turn
  untimed turns = map (λ t_turn. t_turn.1) turns

  -- as each turn's run observes them
  abbrev seen : Turn → List JobFacts
  seen turn = (observed (of_turn turn)).jobs

  -- the work of each job fits
  anew_fits : (turns : List (ℕ × Turn)) → AreAnew rules turns → Each (λ j. j.work ≤ j.deadline) (anew turns).jobs
  anew_fits [] all = λ j member. absurd member
  anew_fits (t_turn ∷ turns) all =
      each_append (λ j. j.work ≤ j.deadline) t_turn.1.jobs (map (later_job t_turn.0) (anew turns).jobs)
      (λ j member. let job : IsJob j = all_member IsJob t_turn.1.jobs (valid_parts all.0.0).each j member in
      let window : j.release + j.work ≤ j.deadline = (job_limits job).window in omega arith)
      (on_map (later_job t_turn.0) (λ j. j.work ≤ j.deadline) (anew turns).jobs
      (λ j member. let low : j.work ≤ j.deadline = anew_fits turns all.2 j member in omega arith))

  -- from the opening on
  anew_runs : (turns : List (ℕ × Turn)) → AreAnew rules turns
      → RunsFrom (having rules (anew turns).finishes) 0 (anew turns).jobs (printed_anew rules turns)
      (jobs_anew seen turns)
  anew_runs [] all = (step_at (having rules []) (at_tick 0 []) ∷ [], (refl, refl), omega arith, refl, refl)
  anew_runs (t_turn ∷ turns) all =
      subst (λ es. RunsFrom (having rules (anew (t_turn ∷ turns)).finishes) 0 (anew (t_turn ∷ turns)).jobs
      (es ++ map (behind (length t_turn.1.jobs) (completed_value (of_turn t_turn.1)))
      (map (later_event t_turn.0) (printed_anew rules turns))) (jobs_anew seen (t_turn ∷ turns)))
      (settled_at_rest (of_turn t_turn.1) t_turn.0 all.0.0 all.1)
      (joined (of_turn t_turn.1) all.0.0 0 t_turn.0 (λ j member. omega arith) (omega arith) all.1
      (anew turns).finishes all.0.1
      (map (later_job t_turn.0) (anew turns).jobs)
      (map (later_event t_turn.0) (printed_anew rules turns)) (map (later_job t_turn.0) (jobs_anew seen turns))
      (on_map (later_job t_turn.0) (λ j. t_turn.0 ≤ j.release) (anew turns).jobs (λ j member. omega arith))
      (on_map (later_job t_turn.0) (λ j. t_turn.0 ≤ j.deadline) (anew turns).jobs (λ j member. omega arith))
      (moved_runs t_turn.0 (having rules (anew turns).finishes) (anew turns).jobs (printed_anew rules turns)
      (jobs_anew seen turns) (anew_fits turns all.2) (anew_runs turns all.2)))

  -- the run of all turns is their runs
  pub runs_anew : (turns : List (ℕ × Turn)) → AreAnew rules turns
      → printed (of_turn (anew turns)) ≡ printed_anew rules turns
  runs_anew turns all = runs_all (having rules (anew turns).finishes) (anew turns).jobs (printed_anew rules turns)
      (jobs_anew seen turns) (anew_runs turns all)

  -- it observes the jobs as they do
  observes_anew : (turns : List (ℕ × Turn)) → AreAnew rules turns
      → (observed (of_turn (anew turns))).jobs ≡ jobs_anew seen turns
  observes_anew turns all = sees_all (having rules (anew turns).finishes) (anew turns).jobs (printed_anew rules turns)
      (jobs_anew seen turns) (anew_runs turns all)

  -- an End later
  later_last : (c last : ℕ) (es : List Event)
      → map (later_event c) (es ++ (End last ∷ [])) ≡ map (later_event c) es ++ (End last ∷ [])
  later_last c last [] = refl
  later_last c last (e ∷ es) = ap (λ gs. later_event c e ∷ gs) (later_last c last es)

  -- what is printed ends with the value of all
  pub ends_with_all : (turns : List (ℕ × Turn)) → (es : List Event)
      × (printed_anew rules turns ≡ es ++ (End (completed_anew rules turns) ∷ []))
  ends_with_all [] = ([], refl)
  ends_with_all (t_turn ∷ turns) = let it = ends_with_all turns in (
    front ++ map number (map (later_event t_turn.0) it.0),
    ap (λ es. front ++ map number (map (later_event t_turn.0) es)) it.1
        ∙ ap (λ es. front ++ map number es) (later_last t_turn.0 (completed_anew rules turns) it.0)
        ∙ ap (λ es. front ++ es)
        (behind_last (length t_turn.1.jobs) (completed_value (of_turn t_turn.1))
        (completed_anew rules turns) (map (later_event t_turn.0) it.0))
        ∙ sym (append_assoc front (map number (map (later_event t_turn.0) it.0))
        (End (completed_value (of_turn t_turn.1) + completed_anew rules turns) ∷ []))
        ∙ ap (λ v. (front ++ map number (map (later_event t_turn.0) it.0)) ++ (End v ∷ []))
        (sym (completed_more rules t_turn.1 (untimed turns))),
  ) where
    front : List Event
    front = before_end (printed (of_turn t_turn.1))

    number : Event → Event
    number = behind (length t_turn.1.jobs) (completed_value (of_turn t_turn.1))

  -- it completes what they complete
  pub value_anew : (turns : List (ℕ × Turn)) → AreAnew rules turns
      → completed_value (of_turn (anew turns)) ≡ completed_anew rules turns
  value_anew turns all = let it = ends_with_all turns in
      ap (last_value 0) (runs_anew turns all ∙ it.1) ∙ value_last 0 (completed_anew rules turns) it.0

  -- ---- the bound

  -- the instance of these jobs
  abbrev pub of_rules : List JobFacts → Instance
  of_rules jobs = record { rules = rules; jobs = jobs }

  -- a bound of some jobs and one of later jobs are one of both
  pub within_more : (jobs more : List JobFacts) (tick : ℕ) (s : List ℕ) (a b : ℕ)
      → ((t : List ℕ) → IsWithin rules.ratio (worth (of_rules jobs) t) a)
      → ((t : List ℕ) → IsWithin rules.ratio (worth (of_rules more) t) b)
      → IsWithin rules.ratio (worth (of_rules (jobs ++ map (later_job tick) more)) s) (a + b)
  within_more jobs more tick s a b one other =
      let rest : List ℕ = map (λ m. m - length jobs) s in
      let later : worth (of_rules (map (later_job tick) more)) rest ≡ worth (of_rules more) (drop tick rest) =
      worth_later tick 0 more rest in
      within_less rules.ratio (worth (of_rules (jobs ++ map (later_job tick) more)) s)
      (worth (of_rules jobs) s + worth (of_rules more) (drop tick rest)) (a + b)
      (omega (arith, later, worth_append rules jobs (map (later_job tick) more) s))
      (within_add rules.ratio _ _ _ _ (one s) (other (drop tick rest)))

  -- a bound of each turn is one of all
  within_anew : (of : Turn → List JobFacts)
      → ((turn : Turn) (s : List ℕ) → IsValid (of_turn turn)
      → IsWithin rules.ratio (worth (of_rules (of turn)) s) (completed_value (of_turn turn)))
      → (turns : List (ℕ × Turn)) (s : List ℕ) → AreAnew rules turns
      → IsWithin rules.ratio (worth (of_rules (jobs_anew of turns)) s) (completed_anew rules turns)
  within_anew of each [] s all = none_within rules.ratio
  within_anew of each (t_turn ∷ turns) s all =
      subst (IsWithin rules.ratio (worth (of_rules (of t_turn.1 ++ map (later_job t_turn.0) (jobs_anew of turns))) s))
      (sym (completed_more rules t_turn.1 (untimed turns)))
      (within_more (of t_turn.1) (jobs_anew of turns) t_turn.0 s (completed_value (of_turn t_turn.1))
      (completed_anew rules turns) (λ t. each t_turn.1 t all.0.0) (λ t. within_anew of each turns t all.2))

  -- no schedule of all jobs as they are declared is worth more than the one run allows
  pub declared_anew : (turns : List (ℕ × Turn)) (s : List ℕ) → AreAnew rules turns
      → IsWithin rules.ratio (worth (of_turn (anew turns)) s) (completed_value (of_turn (anew turns)))
  declared_anew turns s all =
      subst (IsWithin rules.ratio (worth (of_turn (anew turns)) s)) (sym (value_anew turns all))
      (subst (λ js. IsWithin rules.ratio (worth (of_rules js) s) (completed_anew rules turns))
      (sym (anew_jobs turns))
      (within_anew (λ turn. turn.jobs) (λ turn t valid. no_more (of_turn turn) t valid) turns s all))

  -- nor one of the jobs as they were observed
  pub observed_anew : (turns : List (ℕ × Turn)) (s : List ℕ) → AreAnew rules turns
      → IsWithin rules.ratio (worth (observed (of_turn (anew turns))) s) (completed_value (of_turn (anew turns)))
  observed_anew turns s all =
      subst (IsWithin rules.ratio (worth (observed (of_turn (anew turns))) s)) (sym (value_anew turns all))
      (subst (λ js. IsWithin rules.ratio (worth (of_rules js) s) (completed_anew rules turns))
      (sym (observes_anew turns all))
      (within_anew seen (λ turn t valid. observed_bound (of_turn turn) t valid) turns s all))

  -- ---- a schedule that is worth as much

  -- ticks that are dropped again
  dropped : (c : ℕ) (s : List ℕ) → drop c (replicate c idle ++ s) ≡ s
  dropped zero s = refl
  dropped (suc c) s = dropped c s

  -- of all jobs as they were observed
  honest_seen : (turns : List (ℕ × Turn)) → AreAnew rules turns
      → (s : List ℕ) × (completed_anew rules turns ≤ worth (of_rules (jobs_anew seen turns)) s)
  honest_seen [] all = ([], omega arith)
  honest_seen (t_turn ∷ turns) all =
      let rest = honest_seen turns all.2 in (
        one_then (length (seen t_turn.1)) t_turn.0 (ran (of_turn t_turn.1)) (replicate t_turn.0 idle ++ rest.0),
        omega (
          arith,
          worth_one_then rules (seen t_turn.1) (map (later_job t_turn.0) (jobs_anew seen turns)) t_turn.0
              (ran (of_turn t_turn.1)) (replicate t_turn.0 idle ++ rest.0)
              (over_by rules t_turn.1 t_turn.0 all.0.0 all.1)
              (on_map (later_job t_turn.0) (λ j. t_turn.0 ≤ j.release) (jobs_anew seen turns)
              (λ j member. omega arith)),
          worth_later t_turn.0 0 (jobs_anew seen turns) (replicate t_turn.0 idle ++ rest.0),
          ap (worth (of_rules (jobs_anew seen turns))) (dropped t_turn.0 rest.0),
          observed_honest (of_turn t_turn.1) all.0.0,
          rest.1,
          completed_more rules t_turn.1 (untimed turns),
        ),
      )

  -- as the one run observes them
  pub honest_anew : (turns : List (ℕ × Turn)) → AreAnew rules turns
      → (s : List ℕ) × (completed_value (of_turn (anew turns)) ≤ worth (observed (of_turn (anew turns))) s)
  honest_anew turns all = let found = honest_seen turns all in (
    found.0,
    subst (λ js. completed_value (of_turn (anew turns)) ≤ worth (of_rules js) found.0)
        (sym (observes_anew turns all)) (omega (arith, found.1, value_anew turns all)),
  )

-- a run of jobs moved in time is the run, moved in time
pub run_moved : (J : Instance) (c : ℕ) → IsValid J
    → IsValid (record { rules = J.rules; jobs = map (later_job c) J.jobs })
    → printed (record { rules = J.rules; jobs = map (later_job c) J.jobs }) ≡ map (later_event c) (printed J)
run_moved J c valid valid_later =
    let own = alone (record { rules = J.rules; jobs = map (later_job c) J.jobs }) valid_later c
    (on_map (later_job c) (λ j. c ≤ j.release) J.jobs (λ j member. omega arith)) in
    let moved = moved_runs c J.rules J.jobs (printed J) (observed J).jobs fits
    (alone J valid 0 (λ j member. omega arith)) in
    sym own.3 ∙ ap printed_of (one_run J.rules (at_tick c (map (later_job c) J.jobs)) own.0 moved.0 own.1 moved.1)
    ∙ moved.3 where
      fits : Each (λ j. j.work ≤ j.deadline) J.jobs
      fits j member = let job : IsJob j = all_member IsJob J.jobs (valid_parts valid).each j member in
          let window : j.release + j.work ≤ j.deadline = (job_limits job).window in omega arith
