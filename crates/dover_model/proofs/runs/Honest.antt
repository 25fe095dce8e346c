-- The jobs done at the end of a run are those that its own schedule serves.
use Rattle.std.proofs.Common.{◌≡◌, ℕ, suc, zero, ◌+◌, ◌≤◌, ◌<◌, ◌⊎◌, inl, inr, List, [], ◌∷◌, ◌++◌, length, map, take}
use Rattle.std.proofs.Common.{refl, sym, ap, ◌∙◌, subst, Bool, true, false, cond, eqb, arith, add-one, append_assoc}
use Rattle.std.proofs.Common.{Option, Some, None, nat_le, MatchBool, sum_by, filter, filter_map, fold, le-leb, leb-true}
use Rattle.std.proofs.Common.{eq-eqb, ne_eqb, append-nil}
use Rattle.std.specs.List.{cons_option, enumerate_from}
use Rattle.std.proofs.lemmas.List.Sums.{sum_by-cons}
use Rattle.std.proofs.lemmas.List.{length_push}
use Rattle.dover_model.specs.Common.{NoneBefore, JobFacts, Event, End, Waiting, Running}
use Rattle.dover_model.specs.Common.{Done, Gone, Task, Instance, IsValid, ticks_given, is_served, worth, Finish, need}
use Rattle.dover_model.specs.Common.{observing, observed, State, opening, running, is_running, is_privileged, is_over}
use Rattle.dover_model.specs.Common.{is_done, left, value_sum, Move, Prints, Waits, Ticks, step, after, with_role}
use Rattle.dover_model.specs.Common.{role_after, ticked, Step, is_end, run, ran, tick_of, number_running, event_of}
use Rattle.dover_model.specs.Common.{printed_of, value_of_end, completed_value, step_at, IsWholeRun, IsMember, Each}
use Rattle.dover_model.specs.Common.{IsNumberedFrom, jobs_of, Keeps}
use Rattle.dover_model.proofs.finishes.Readiness.{IsReady, step_ready, opening_ready}
use Rattle.dover_model.proofs.finishes.Needing.{Served, AllServed, need_most, step_served, opening_served}
use Rattle.dover_model.proofs.lists.Members.{on_map, map_same, found, not_found, sum_same, sum_filter, map_member}
use Rattle.dover_model.proofs.steps.Roles.{passes, is_running_role, is_over_role, is_done_role, one_number}
use Rattle.dover_model.proofs.steps.Moves.{says, active_slack}
use Rattle.dover_model.proofs.steps.Ticking.{Quiet}
use Rattle.dover_model.proofs.steps.Deeds.{tick_quiet}
use Rattle.dover_model.proofs.steps.Kept.{step_deed, step_kept, opening_keeps, come_coming}
use Rattle.dover_model.proofs.runs.Ending.{end_over, run_is_whole}
use Rattle.dover_model.proofs.runs.Serving.{given, given_nil}
use Rattle.dover_model.proofs.runs.Runs.{last_value}
use Rattle.dover_model.proofs.lists.Tests.{never}
use Rattle.dover_model.proofs.valid.Limiting.{jobs_most}
use Rattle.dover_model.proofs.valid.ValidParts.{valid_parts}

-- ---- one tick more

-- a tick that goes to another number
pub given_miss : (p : ℕ → Bool) (m : ℕ) → p m ≡ false → (s : List ℕ) (r d : ℕ)
    → given p r d (s ++ (m ∷ [])) ≡ given p r d s
given_miss p m out [] zero (suc d) = sum_by-cons (λ n. cond (p n) 1 0) m (take d [])
    ∙ ap (λ b. cond b 1 0 + given p 0 d []) out
    ∙ omega (arith, given_nil p 0 d)
given_miss p m out [] (suc r) (suc d) = given_nil p r d
given_miss p m out (x ∷ s) zero (suc d) =
    omega (
      arith,
      sum_by-cons (λ n. cond (p n) 1 0) x (take d (s ++ (m ∷ []))),
      sum_by-cons (λ n. cond (p n) 1 0) x (take d s),
      given_miss p m out s 0 d,
    )
given_miss p m out (x ∷ s) (suc r) (suc d) = given_miss p m out s r d
given_miss p m out _ _ _ = refl

-- a tick that goes to the number, within the window
pub given_hit : (p : ℕ → Bool) (m : ℕ) → p m ≡ true → (s : List ℕ) (r d : ℕ) → r ≤ length s → length s < d
    → given p r d (s ++ (m ∷ [])) ≡ given p r d s + 1
given_hit p m is_in [] zero (suc d) low high = sum_by-cons (λ n. cond (p n) 1 0) m (take d [])
    ∙ ap (λ b. cond b 1 0 + given p 0 d []) is_in
    ∙ omega (arith, given_nil p 0 d)
given_hit p m is_in (x ∷ s) zero (suc d) low high =
    omega (
      arith,
      sum_by-cons (λ n. cond (p n) 1 0) x (take d (s ++ (m ∷ []))),
      sum_by-cons (λ n. cond (p n) 1 0) x (take d s),
      given_hit p m is_in s 0 d (omega arith) (omega arith),
    )
given_hit p m is_in (x ∷ s) (suc r) (suc d) low high = given_hit p m is_in s r d (omega arith) (omega arith)
given_hit p m is_in _ _ _ low high = absurd (omega arith)

-- ---- the ticks so far are those that the jobs had

-- these ticks are those that the jobs had
pub record Gave (past : List ℕ) (s : State) : Type 0 where
  pub clock : length past ≡ s.clock
  pub had : Each (λ t. ticks_given past t.number t.job ≡ t.had) s.tasks

-- no number is as great as that of no job
pub numbers_low : (n : ℕ) (tasks : List Task) → IsNumberedFrom n tasks → Each (λ t. t.number < n + length tasks) tasks
numbers_low n [] all t member = absurd member
numbers_low n (x ∷ tasks) all t (inl e) = let here : t.number ≡ n = ap (λ (y : Task). y.number) e ∙ all.0 in omega arith
numbers_low n (x ∷ tasks) all t (inr member) = let low : t.number < suc n + length tasks =
    numbers_low (suc n) tasks all.1 t member in omega arith

-- there are as many tasks as jobs
pub count_jobs : (tasks : List Task) → length (jobs_of tasks) ≡ length tasks
count_jobs [] = refl
count_jobs (t ∷ tasks) = omega (arith, count_jobs tasks)

module _ (J : Instance) (valid : IsValid J) (s : State) (keeps : Keeps J s) (past : List ℕ) (gave : Gave past s) where
  -- no job has the number that names none
  some_number : Each (λ t. t.number ≡ 4_000_000_000 → ⊥) s.tasks
  some_number t m same =
      let low : t.number < 0 + length s.tasks = numbers_low 0 s.tasks keeps.sound.numbered t m in
      omega (arith, (valid_parts valid).count, jobs_most J.rules.version, count_jobs s.tasks, ap length keeps.jobs)

  module _ (quiet : Quiet s) where
    -- of a job that runs, or that does not
    tick_gives : (o : Option Task) → running s ≡ o → (t : Task) → IsMember t s.tasks → (b : Bool) → is_running t ≡ b
        → ticks_given (past ++ (elim o [ None ↦ 4_000_000_000 | Some r ↦ r.number ] ∷ [])) t.number t.job ≡ cond b
        (t.had + 1) t.had
    tick_gives None none t m true runs = never (sym (not_found is_running s.tasks none t m) ∙ runs)
    tick_gives None none t m false stands =
        given_miss (λ n. eqb n t.number) 4_000_000_000
        (ne_eqb 4_000_000_000 t.number (λ same. some_number t m (sym same))) past t.job.release t.job.deadline
        ∙ gave.had t m
    tick_gives (Some r) some t m true runs =
        let is_r : IsMember r s.tasks × (is_running r ≡ true) = found is_running s.tasks r some in
        let same : r.number ≡ t.number =
        keeps.sound.one_runs r t is_r.0 m (is_running_role r is_r.1) (is_running_role t runs) in
        let released : t.job.release ≤ s.clock = says s keeps.sound t m Running (is_running_role t runs) in
        let some_left : 1 ≤ left t = quiet.busy t m (is_running_role t runs) in
        let slack : s.clock + left t ≤ t.job.deadline =
        active_slack s keeps.sound t m (passes is_privileged t Running true (is_running_role t runs) refl) in
        given_hit (λ n. eqb n t.number) r.number (eq-eqb r.number t.number same) past t.job.release t.job.deadline
        (omega (arith, gave.clock))
        (omega (arith, gave.clock)) ∙ ap (λ n. n + 1) (gave.had t m)
    tick_gives (Some r) some t m false stands =
        let is_r : IsMember r s.tasks × (is_running r ≡ true) = found is_running s.tasks r some in
        given_miss (λ n. eqb n t.number) r.number
        (ne_eqb r.number t.number (λ same. never
        (sym stands ∙ subst (λ (x : Task). is_running x ≡ true)
        (one_number 0 s.tasks keeps.sound.numbered r t is_r.0 m same) is_r.1)))
        past t.job.release t.job.deadline ∙ gave.had t m

    -- a silent tick gives one more
    tick_gave : Gave (past ++ (number_running s ∷ [])) (after s Ticks)
    tick_gave = record {
      clock = length_push past (number_running s) ∙ ap (λ n. n + 1) gave.clock;
      had = on_map ticked (λ t. ticks_given (past ++ (number_running s ∷ [])) t.number t.job ≡ t.had) s.tasks
          (λ t m. tick_gives (running s) refl t m (is_running t) refl);
    }

-- a move but a silent tick gives none
move_gave : (past : List ℕ) (s : State) (m : Move) → (m ≡ Ticks → ⊥) → Gave past s → Gave past (after s m)
move_gave past s (Prints e) other gave =
    record {
      clock = gave.clock;
      had =
          on_map (λ t. with_role t (role_after e t.number t.role))
          (λ t. ticks_given past t.number t.job ≡ t.had) s.tasks gave.had;
    }
move_gave past s (Waits n) other gave =
    record {
      clock = gave.clock;
      had =
          on_map (λ t. with_role t (cond (eqb t.number n) Waiting t.role))
          (λ t. ticks_given past t.number t.job ≡ t.had) s.tasks gave.had;
    }
move_gave past s Ticks other gave = absurd (other refl)

-- ---- over a whole run

-- the schedule that these steps amount to
abbrev pub all_ticks : List Step → List ℕ
all_ticks xs = filter_map tick_of xs

-- the last state of these steps, where these ticks are those that the jobs had
pub record Outcome (J : Instance) (ticks : List ℕ) (xs : List Step) : Type 0 where
  pub last : State
  pub keeps : Keeps J last
  pub over : Each (λ t. is_over t ≡ true) last.tasks
  pub gave : Gave ticks last
  pub served : AllServed J.rules.finishes last
  pub value : (from : ℕ) → last_value from (printed_of xs) ≡ value_sum (filter is_done last.tasks)
  pub is_last : (from : State) → fold (λ s x. x.before) from xs ≡ last

-- one event more before others doesn't change what End names
pub value_later : (e : Option Event) (es : List Event) (value : ℕ) → ((from : ℕ) → last_value from es ≡ value)
    → (from : ℕ)
    → last_value from (cons_option e es) ≡ value
value_later None es value ends from = ends from
value_later (Some e) es value ends from = ends (value_of_end e from)

module _ (J : Instance) (valid : IsValid J) where
  -- what a step gives
  pub gave_after : (s : State) → Keeps J s → (past : List ℕ) → Gave past s → (more : List ℕ)
      → (past2 : List ℕ) × Gave past2 (after s (step J.rules s))
      × (past2 ++ more ≡ past ++ cons_option (tick_of (step_at J.rules s)) more)
  gave_after s keeps past gave more = by_move (step J.rules s) refl where
    by_move : (m : Move) → step J.rules s ≡ m
        → (past2 : List ℕ) × Gave past2 (after s (step J.rules s))
        × (past2 ++ more ≡ past ++ cons_option (tick_of (step_at J.rules s)) more)
    by_move Ticks e =
        let quiet : Quiet s = tick_quiet J.rules.ratio s _ (step J.rules s) (step_deed J valid s keeps J.rules) e in (
          past ++ (number_running s ∷ []),
          subst (λ m. Gave (past ++ (number_running s ∷ [])) (after s m)) (sym e)
              (tick_gave J valid s keeps past gave quiet),
          append_assoc past (number_running s ∷ []) more
              ∙ ap (λ m. past ++ cons_option (tick_of (record { before = s; move = m })) more) (sym e),
        )
    by_move move e = (
      past,
      move_gave past s (step J.rules s) (λ ticks. let c : move ≡ Ticks = sym e ∙ ticks in cc) gave,
      ap
          (λ m. past ++ cons_option (tick_of (record { before = s; move = m })) more) (sym e),
    )

  -- after End nothing more is given or printed
  last_outcome : (s : State) (past : List ℕ) → Keeps J s → Gave past s → AllServed J.rules.finishes s
      → is_end (step J.rules s) ≡ true → (xs : List Step)
      → xs ≡ []
      → Outcome J (past ++ cons_option (tick_of (step_at J.rules s)) (all_ticks xs)) (step_at J.rules s ∷ xs)
  last_outcome s past keeps gave served last xs none = record {
    served = served;
    last = s;
    is_last = λ from. ap (fold (λ s x. x.before) s) none;
    keeps = keeps;
    over = ends.1;
    gave = subst (λ (ticks : List ℕ). Gave ticks s)
        (sym (ap (λ m. past ++ cons_option (tick_of (record { before = s; move = m })) (all_ticks xs)) ends.0
        ∙ ap (λ ys. past ++ all_ticks ys) none ∙ append-nil past)) gave;
    value = λ from. ap (λ m. last_value from (cons_option (event_of m) (printed_of xs))) ends.0
        ∙ ap (λ ys. last_value (value_sum (filter is_done s.tasks)) (printed_of ys)) none;
  } where
    ends : (step J.rules s ≡ Prints (End (value_sum (filter is_done s.tasks)))) × Each (λ t. is_over t ≡ true) s.tasks
    ends = end_over J valid s keeps J.rules last

  -- the outcome of a whole run, after ticks that were given before
  outcome : (xs : List Step) (s : State) (past : List ℕ) → Keeps J s → Gave past s → IsReady J.rules.finishes s
      → AllServed J.rules.finishes s → IsWholeRun J.rules s xs
      → Outcome J (past ++ all_ticks xs) xs
  outcome [] s past keeps gave ready served whole = absurd whole
  outcome (x ∷ xs) s past keeps gave ready served whole =
      subst (λ (y : Step). Outcome J (past ++ cons_option (tick_of y) (all_ticks xs)) (y ∷ xs)) (sym whole.0)
      (by_end (is_end (step J.rules s)) refl whole.1 (gave_after s keeps past gave (all_ticks xs))
      (λ past2 gave2. outcome xs (after s (step J.rules s)) past2 (step_kept J valid s keeps J.rules) gave2
      (step_ready J valid s keeps J.rules ready) (step_served J valid s keeps J.rules ready served))) where
        by_end : (b : Bool) → is_end (step J.rules s) ≡ b
            → MatchBool b (xs ≡ []) (IsWholeRun J.rules (after s (step J.rules s)) xs)
            → (past2 : List ℕ) × Gave past2 (after s (step J.rules s)) ×
            (past2 ++ all_ticks xs ≡ past ++ cons_option (tick_of (step_at J.rules s)) (all_ticks xs))
            → ((past2 : List ℕ) → Gave past2 (after s (step J.rules s))
            → IsWholeRun J.rules (after s (step J.rules s)) xs
            → Outcome J (past2 ++ all_ticks xs) xs)
            → Outcome J (past ++ cons_option (tick_of (step_at J.rules s)) (all_ticks xs)) (step_at J.rules s ∷ xs)
        by_end false on rest gives more =
            let it : Outcome J (gives.0 ++ all_ticks xs) xs = more gives.0 gives.1 rest in
            subst (λ (ticks : List ℕ). Outcome J ticks (step_at J.rules s ∷ xs)) gives.2
            (record {
              last = it.last;
              keeps = it.keeps;
              over = it.over;
              gave = it.gave;
              served = it.served;
              is_last = λ from. it.is_last s;
              value =
                  value_later (event_of (step J.rules s)) (printed_of xs)
                  (value_sum (filter is_done it.last.tasks)) it.value;
            })
        by_end true last none gives more = last_outcome s past keeps gave served last xs none

-- what is less fails the test
not_le : (a b : ℕ) → b < a → nat_le a b ≡ false
not_le a b less = by_test (nat_le a b) refl where
  by_test : (x : Bool) → nat_le a b ≡ x → x ≡ false
  by_test false h = refl
  by_test true h = let low : a ≤ b = leb-true _ _ h in absurd (omega arith)

-- each done job is served what it had, and no gone one is
observed_done : (finishes : List Finish) (ticks : List ℕ) (t : Task) → Served finishes t
    → ticks_given ticks t.number t.job ≡ t.had → (t.role ≡ Done) ⊎ (t.role ≡ Gone)
    → cond (is_served ticks (t.number, observing t)) t.job.value 0 ≡ cond (is_done t) t.job.value 0
observed_done finishes ticks t it had (inl e) =
    ap (λ b. cond b t.job.value 0)
    (le-leb (cond (is_done t) t.had t.job.work) (ticks_given ticks t.number t.job)
    (omega (arith, had, ap (λ b. cond b t.had t.job.work) (passes is_done t Done true e refl)))
    ∙ sym (passes is_done t Done true e refl))
observed_done finishes ticks t it had (inr e) =
    let some : t.had < need finishes t.number t.job.work = it.gone e in
    ap (λ b. cond b t.job.value 0)
    (not_le (cond (is_done t) t.had t.job.work) (ticks_given ticks t.number t.job)
    (omega (
      arith,
      had,
      need_most finishes t.number t.job.work,
      ap (λ b. cond b t.had t.job.work) (passes is_done t Gone false e refl),
    ))
    ∙ sym (passes is_done t Gone false e refl))

-- a sum over jobs with their numbers is one over tasks
pub sum_tasks : (g : ℕ × JobFacts → ℕ) (n : ℕ) (tasks : List Task) → IsNumberedFrom n tasks
    → sum_by g (enumerate_from n (jobs_of tasks)) ≡ sum_by (λ t. g (t.number, t.job)) tasks
sum_tasks g n [] all = refl
sum_tasks g n (x ∷ tasks) all =
    let here : g (n, x.job) ≡ g (x.number, x.job) = ap (λ k. g (k, x.job)) (sym all.0) in
    omega (
      arith,
      sum_by-cons g (n, x.job) (enumerate_from (n + 1) (jobs_of tasks)),
      sum_by-cons (λ t. g (t.number, t.job)) x tasks,
      sum_tasks g
          (n + 1) tasks (subst (λ k. IsNumberedFrom k tasks) (sym (add-one n)) all.1),
    )

-- a sum over jobs as they were observed is one over tasks
pub sum_observing : (f : ℕ × JobFacts → ℕ) (n : ℕ) (tasks : List Task) → IsNumberedFrom n tasks
    → sum_by f (enumerate_from n (map observing tasks)) ≡ sum_by (λ t. f (t.number, observing t)) tasks
sum_observing f n [] all = refl
sum_observing f n (x ∷ tasks) all = omega (
  arith,
  ap (λ k. f (k, observing x)) (sym all.0),
  sum_by-cons f (n, observing x) (enumerate_from (n + 1) (map observing tasks)),
  sum_by-cons (λ t. f (t.number, observing t)) x tasks,
  sum_observing f (n + 1) tasks (subst (λ k. IsNumberedFrom k tasks) (sym (add-one n)) all.1),
)

module _ (J : Instance) (valid : IsValid J) where
  -- the outcome of the whole run
  pub whole_outcome : Outcome J (ran J) (run J)
  whole_outcome = outcome J valid (run J) (opening J.jobs) [] (opening_keeps J)
      (record {
        clock = refl;
        had = λ t m. given_nil (λ n. eqb n t.number) t.job.release t.job.deadline
            ∙ sym (come_coming 0 J.jobs t m).1;
      })
      (opening_ready J.rules.finishes J.jobs) (opening_served J.rules.finishes J.jobs) (run_is_whole J valid)

  -- what the run's own schedule is worth, by the jobs as the run observed them, is the value of the jobs done at its
  -- end
  pub observed_honest : worth (observed J) (ran J) ≡ completed_value J
  observed_honest =
      let it : Outcome J (ran J) (run J) = whole_outcome in
      ap (λ (s : State). sum_by (λ n_j. cond (is_served (ran J) n_j) n_j.1.value 0)
      (enumerate_from 0 (map observing s.tasks))) (it.is_last (opening J.jobs))
      ∙ sum_observing (λ n_j. cond (is_served (ran J) n_j) n_j.1.value 0) 0 it.last.tasks it.keeps.sound.numbered
      ∙ sum_same (λ t. cond (is_served (ran J) (t.number, observing t)) t.job.value 0)
      (λ t. cond (is_done t) t.job.value 0) it.last.tasks
      (λ t m. observed_done J.rules.finishes (ran J) t (it.served t m) (it.gave.had t m)
      (is_over_role t (it.over t m)))
      ∙ sym (sum_filter is_done (λ t. t.job.value) it.last.tasks) ∙ sym (it.value 0)

  -- the observed jobs come no sooner
  pub observed_late : (m : ℕ) → NoneBefore m J.jobs → NoneBefore m (observed J).jobs
  observed_late m late = let it : Outcome J (ran J) (run J) = whole_outcome in
      subst (λ (s : State). NoneBefore m (map observing s.tasks)) (sym (it.is_last (opening J.jobs)))
      (on_map observing (λ j. m ≤ j.release) it.last.tasks (λ t member. late t.job
      (subst (IsMember t.job) it.keeps.jobs (map_member (λ (u : Task). u.job) it.last.tasks t member))))

  -- where no job finishes early, all work is observed
  pub observed_all : J.rules.finishes ≡ [] → observed J ≡ J
  observed_all plain =
      let it : Outcome J (ran J) (run J) = whole_outcome in
      ap (λ jobs. record { rules = J.rules; jobs = jobs })
      (ap (λ (s : State). map observing s.tasks) (it.is_last (opening J.jobs))
      ∙ map_same observing (λ t. t.job) it.last.tasks (λ t m. by_role t (it.served t m) (is_done t) refl)
      ∙ it.keeps.jobs) where
        of_work : JobFacts → ℕ → JobFacts
        of_work j n = record { release = j.release; work = n; deadline = j.deadline; value = j.value }

        by_role : (t : Task) → Served J.rules.finishes t → (b : Bool) → is_done t ≡ b → observing t ≡ t.job
        by_role t it true e = ap (of_work t.job)
            (ap (λ b. cond b t.had t.job.work) e ∙ it.done (is_done_role t e)
            ∙ ap (λ fs. need fs t.number t.job.work) plain)
        by_role t it false e = ap (of_work t.job) (ap (λ b. cond b t.had t.job.work) e)

  -- where no job finishes early, the run's own schedule is worth what it completes
  pub plain_honest : J.rules.finishes ≡ [] → worth J (ran J) ≡ completed_value J
  plain_honest plain = ap (λ K. worth K (ran J)) (sym (observed_all plain)) ∙ observed_honest
