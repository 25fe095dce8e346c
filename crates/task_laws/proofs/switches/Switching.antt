-- How often a job gets the processor, and why: each time but one it was preempted, or a take stopped it.
use Rattle.std.proofs.Common.{◌≡◌, ℕ, ◌+◌, ◌*◌, ◌≤◌, inl, inr, List, [], ◌∷◌, length, refl, sym, ap}
use Rattle.std.proofs.Common.{◌∙◌, subst, Bool, true, false, cond, arith, eqb, add-one}
use Rattle.std.specs.Prelude.{◌&&◌, not, nat_le, nat_lt}
use Rattle.std.specs.Bool.{MatchBool, then_some}
use Rattle.std.specs.List.{count_by, sum_by, list_all, filter, enumerate_from}
use Rattle.std.proofs.lemmas.Bool.{eqb-true, eq-eqb, ne_eqb, le-leb, lt-ltb, and_from}
use Rattle.std.proofs.lemmas.List.Sums.{sum_by-cons}
use Rattle.dover_model.specs.Common.{JobFacts, Fraction}
use Rattle.dover_model.specs.declared.events.Role.{Role}
use Rattle.dover_model.specs.declared.events.Role.TheVariants.{Coming, Fresh, Waiting, Held, Running, Done, Gone}
use Rattle.dover_model.specs.declared.events.Event.TheVariants.{Release, Preempt, Take, End}
use Rattle.dover_model.specs.declared.events.Task.{Task}
use Rattle.dover_model.specs.Common.{Instance, IsValid}
use Rattle.dover_model.specs.Common.{numbered, State, opening, to_come, is_fresh, is_over, is_done, is_privileged}
use Rattle.dover_model.specs.Common.{is_ready_behind, left, value_sum, privileged, is_heavy, Move, Prints, Ticks}
use Rattle.dover_model.specs.Common.{step, after, ◌or_else◌, with_role, displaced, ticked, Step}
use Rattle.dover_model.specs.Common.{is_end, run, IsWholeRun, step_at, role_then, is_take_of, is_preempt_of, is_run}
use Rattle.dover_model.specs.Common.{is_complete, gets, changes_hands}
use Rattle.task_laws.specs.Switches.{is_complete_of, starts, returns, may_preempt}
use Rattle.task_laws.specs.Switches.{may_take, most_changes}
use Rattle.dover_model.specs.Common.{IsMember, Each, NoneRuns, IsSound, IsNumberedFrom, jobs_of}
use Rattle.dover_model.specs.Common.{Keeps, one_if}
use Rattle.task_laws.specs.Switches.{is_preempted, is_taken_from, returns_by, ComesBehind}
use Rattle.dover_model.proofs.lists.Members.{map_member, on_map, filter_member, sum_le, sum_plus, sum_same, sum_zero}
use Rattle.dover_model.proofs.lists.Members.{term_le_sum}
use Rattle.dover_model.proofs.steps.Roles.{passes, one_number}
use Rattle.dover_model.proofs.steps.OneChange.{state_with, on_changed}
use Rattle.dover_model.proofs.steps.Moves.{says, active_slack}
use Rattle.dover_model.proofs.steps.Ticking.{Quiet}
use Rattle.dover_model.proofs.bound.Calculus.{heavy_mono}
use Rattle.dover_model.proofs.steps.Deeds.{Deed, Completed, Resumed, Started, Began, Preempted, Stayed, Arrived, Taken}
use Rattle.dover_model.proofs.steps.Deeds.{Abandoned, Rested}
use Rattle.dover_model.proofs.steps.Kept.{step_deed, step_kept, opening_keeps, come_coming, end_same}
use Rattle.dover_model.proofs.runs.Ending.{run_is_whole}
use Rattle.dover_model.proofs.runs.Once.{takes_once, preempts_once, runs_complete, rest_of, rest_fails}
use Rattle.dover_model.proofs.runs.Runs.{run_states}
use Rattle.dover_model.proofs.lists.Tests.{never}
use Rattle.task_laws.proofs.switches.OneJob.{off, alive, young, Turned, deed_turned, rest_turned, next}
use Rattle.task_laws.proofs.switches.OneJob.{next_there, next_number, next_role, fresh_any, fresh_same}

-- ---- along a run

module _ (J : Instance) (valid : IsValid J) (n : ℕ) where
  -- what the step of a state does to the job
  pub step_turned : (s : State) → Keeps J s → (t : Task) → IsMember t s.tasks → t.number ≡ n
      → Turned t.role (role_then (step J.rules s) t) (gets n (step J.rules s)) (is_preempted n (step J.rules s))
      (is_taken_from n (step J.rules s)) (is_complete_of n (step J.rules s))
  step_turned s keeps t member is_n =
      deed_turned s keeps.sound n t member is_n J.rules.ratio (rest_of s) (rest_turned s n t) (step J.rules s)
      (step_deed J valid s keeps J.rules)

  module _ (Holds : State → Type 0) (kept : (s : State) → Keeps J s → Holds s → Holds (after s (step J.rules s)))
      (pot : Role → ℕ) (gain loss : Step → ℕ)
      (each : (s : State) → Keeps J s → Holds s → (t : Task) → IsMember t s.tasks → t.number ≡ n
      → pot (role_then (step J.rules s) t) + gain (step_at J.rules s) ≤ pot t.role + loss (step_at J.rules s)) where
    -- what a role is worth, and what is lost along a run, pays for what is gained
    along : (xs : List Step) (s : State) → Keeps J s → Holds s → (t : Task) → IsMember t s.tasks → t.number ≡ n
        → IsWholeRun J.rules s xs
        → sum_by gain xs ≤ pot t.role + sum_by loss xs
    along [] s keeps holds t member is_n whole = absurd whole
    along (x ∷ xs) s keeps holds t member is_n whole =
        let here : pot (role_then (step J.rules s) t) + gain (step_at J.rules s) ≤ pot t.role
        + loss (step_at J.rules s) = each s keeps holds t member is_n in
        by_end (is_end (step J.rules s)) whole.1
        (λ rest. along xs (after s (step J.rules s)) (step_kept J valid s keeps J.rules) (kept s keeps holds)
        (next (step J.rules s) t) (next_there s (step J.rules s) t member) (next_number (step J.rules s) t ∙ is_n)
        rest)
        here where
          by_end : (b : Bool) → MatchBool b (xs ≡ []) (IsWholeRun J.rules (after s (step J.rules s)) xs)
              → (IsWholeRun J.rules (after s (step J.rules s)) xs
              → sum_by gain xs ≤ pot (next (step J.rules s) t).role + sum_by loss xs)
              → pot (role_then (step J.rules s) t) + gain (step_at J.rules s) ≤ pot t.role + loss (step_at J.rules s)
              → sum_by gain (x ∷ xs) ≤ pot t.role + sum_by loss (x ∷ xs)
          by_end true none more here = omega (
            arith,
            sum_by-cons gain x xs,
            sum_by-cons loss x xs,
            ap gain whole.0,
            ap loss whole.0,
            ap (sum_by gain) none,
          )
          by_end false rest more here = omega (
            arith,
            sum_by-cons gain x xs,
            sum_by-cons loss x xs,
            ap gain whole.0,
            ap loss whole.0,
            ap pot (next_role (step J.rules s) t),
            more rest,
          )

-- the task of a job to come
come_there : (n k : ℕ) (j : JobFacts) (jobs : List JobFacts) → IsMember (n, j) (enumerate_from k jobs)
    → (t : Task) × IsMember t (to_come k jobs) × (t.number ≡ n) × (t.job ≡ j)
come_there n k j [] member = absurd member
come_there n k j (x ∷ jobs) (inl e) = (
  record { number = k; job = x; role = Coming; had = 0 },
  inl refl,
  sym (ap (λ (p : ℕ × JobFacts). p.0) e),
  sym (ap (λ (p : ℕ × JobFacts). p.1) e),
)
come_there n k j (x ∷ jobs) (inr member) =
    let it : (t : Task) × IsMember t (to_come (k + 1) jobs) × (t.number ≡ n) × (t.job ≡ j) =
    come_there n (k + 1) j jobs member in
    (it.0, inr (subst (λ l. IsMember it.0 (to_come l jobs)) (add-one k) it.1), it.2, it.3)

-- the job of a number, and the number of a job
pub task_there : (n k : ℕ) (j : JobFacts) (tasks : List Task) → IsNumberedFrom k tasks
    → IsMember (n, j) (enumerate_from k (jobs_of tasks))
    → (t : Task) × IsMember t tasks × (t.number ≡ n) × (t.job ≡ j)
task_there n k j [] all member = absurd member
task_there n k j (x ∷ tasks) all (inl e) =
    (x, inl refl, all.0 ∙ sym (ap (λ (p : ℕ × JobFacts). p.0) e), sym (ap (λ (p : ℕ × JobFacts). p.1) e))
task_there n k j (x ∷ tasks) all (inr member) =
    let it : (t : Task) × IsMember t tasks × (t.number ≡ n) × (t.job ≡ j) =
    task_there n (k + 1) j tasks (subst (λ l. IsNumberedFrom l tasks) (sym (add-one k)) all.1) member in
    (it.0, inr it.1, it.2, it.3)

pub job_there : (k : ℕ) (tasks : List Task) → IsNumberedFrom k tasks → (t : Task) → IsMember t tasks
    → IsMember (t.number, t.job) (enumerate_from k (jobs_of tasks))
job_there k [] all t member = absurd member
job_there k (x ∷ tasks) all t (inl e) =
    inl (ap (λ (y : Task). (y.number, y.job)) e ∙ ap (λ (l : ℕ). (l, x.job)) all.0)
job_there k (x ∷ tasks) all t (inr member) =
    inr (job_there (k + 1) tasks (subst (λ l. IsNumberedFrom l tasks) (sym (add-one k)) all.1) t member)

module _ (J : Instance) (valid : IsValid J) (n_j : ℕ × JobFacts) (member : IsMember n_j (numbered J)) where
  -- at the opening it is to come
  pub opens : (t : Task) × IsMember t (opening J.jobs).tasks × (t.number ≡ n_j.0) × (t.job ≡ n_j.1)
  opens = come_there n_j.0 0 n_j.1 J.jobs member

  pub opens_coming : opens.0.role ≡ Coming
  opens_coming = (come_coming 0 J.jobs opens.0 opens.1).0

  -- what the run pays for, with a fact that each step keeps
  pub over_run_with : (Holds : State → Type 0)
      → ((s : State) → Keeps J s → Holds s → Holds (after s (step J.rules s))) → Holds (opening J.jobs)
      → (pot : Role → ℕ) (gain loss : Step → ℕ)
      → ((s : State) → Keeps J s → Holds s → (t : Task) → IsMember t s.tasks → t.number ≡ n_j.0
      → pot (role_then (step J.rules s) t) + gain (step_at J.rules s) ≤ pot t.role + loss (step_at J.rules s))
      → sum_by gain (run J) ≤ pot Coming + sum_by loss (run J)
  over_run_with Holds kept first pot gain loss each =
      let most : sum_by gain (run J) ≤ pot opens.0.role + sum_by loss (run J) =
      along J valid n_j.0 Holds kept pot gain loss each (run J) (opening J.jobs) (opening_keeps J) first opens.0
      opens.1 opens.2 (run_is_whole J valid) in
      omega (arith, most, ap pot opens_coming)

  -- and with none
  pub over_run : (pot : Role → ℕ) (gain loss : Step → ℕ)
      → ((s : State) → Keeps J s → (t : Task) → IsMember t s.tasks → t.number ≡ n_j.0
      → pot (role_then (step J.rules s) t) + gain (step_at J.rules s) ≤ pot t.role + loss (step_at J.rules s))
      → sum_by gain (run J) ≤ pot Coming + sum_by loss (run J)
  over_run pot gain loss each =
      over_run_with (λ s. Unit {0}) (λ s keeps holds. tt) tt pot gain loss (λ s keeps holds. each s keeps)

  -- it gets the processor once, and once more for each time that it lost it to another
  pub gets_paid : count_by (λ x. gets n_j.0 x.move) (run J)
      ≤ 1 + count_by (λ x. is_preempted n_j.0 x.move) (run J) + count_by (λ x. is_taken_from n_j.0 x.move) (run J)
  gets_paid = omega (
    arith,
    over_run off (λ x. one_if (gets n_j.0 x.move))
        (λ x. one_if (is_preempted n_j.0 x.move) + one_if (is_taken_from n_j.0 x.move))
        (λ s keeps t m same. omega (arith, (step_turned J valid n_j.0 s keeps t m same).off)),
    sum_plus (λ x. one_if (is_preempted n_j.0 x.move)) (λ x. one_if (is_taken_from n_j.0 x.move)) (run J),
  )

  -- it completes once at most
  pub completes_once : count_by (λ x. is_complete_of n_j.0 x.move) (run J) ≤ 1
  completes_once = omega (
    arith,
    over_run alive (λ x. one_if (is_complete_of n_j.0 x.move)) (λ x. 0)
        (λ s keeps t m same. omega (arith, (step_turned J valid n_j.0 s keeps t m same).alive)),
    sum_zero (λ (x : Step). 0) (run J) (λ x m. refl),
  )

  -- it starts once at most
  pub starts_once : count_by (starts n_j.0) (run J) ≤ 1
  starts_once = omega (
    arith,
    over_run young (λ x. one_if (starts n_j.0 x)) (λ x. 0)
        (λ s keeps t m same. omega (
          arith,
          (step_turned J valid n_j.0 s keeps t m same).young,
          ap (λ b. one_if (gets n_j.0 (step J.rules s) && b))
              (fresh_any n_j.0 0 s.tasks keeps.sound.numbered t m same ∙ fresh_same t),
        )),
    sum_zero (λ (x : Step). 0) (run J) (λ x m. refl),
  )

-- ---- steps that name different jobs

module _ (jobs : List (ℕ × JobFacts)) (hit : Step → Bool) (named : ℕ → Step → Bool) (test : ℕ × JobFacts → Bool) where
  -- of the jobs that pass, how many of these steps name each
  abbrev pub names : List Step → ℕ
  names xs = sum_by (λ n_j. cond (test n_j) (count_by (named n_j.0) xs) 0) jobs

  -- a step that hits names a job that passes
  abbrev pub Finds : Step → Type 0
  Finds x = hit x ≡ true → (n_j : ℕ × JobFacts) × IsMember n_j jobs × (test n_j ≡ true) × (named n_j.0 x ≡ true)

  -- so no more of them hit than name one
  pub hits_named : (xs : List Step) → Each Finds xs → count_by hit xs ≤ names xs
  hits_named [] finds = omega arith
  hits_named (x ∷ xs) finds = omega (
    arith,
    sum_by-cons (λ y. one_if (hit y)) x xs,
    hits_named xs (λ y m. finds y (inr m)),
    first (hit x) refl,
    sum_plus (λ n_j. cond (test n_j) (one_if (named n_j.0 x)) 0) (λ n_j. cond (test n_j) (count_by (named n_j.0) xs) 0)
        jobs,
    sum_le (λ n_j. cond (test n_j) (one_if (named n_j.0 x)) 0 + cond (test n_j) (count_by (named n_j.0) xs) 0)
        (λ n_j. cond (test n_j) (count_by (named n_j.0) (x ∷ xs)) 0) jobs
        (λ n_j m. by_test (test n_j) (one_if (named n_j.0 x)) (count_by (named n_j.0) xs)
        (count_by (named n_j.0) (x ∷ xs)) (sum_by-cons (λ y. one_if (named n_j.0 y)) x xs)),
  ) where
    by_test : (b : Bool) (one more all : ℕ) → all ≡ one + more → cond b one 0 + cond b more 0 ≤ cond b all 0
    by_test true one more all e = omega (arith, e)
    by_test false one more all e = omega arith

    first : (b : Bool) → hit x ≡ b → one_if (hit x) ≤ sum_by (λ n_j. cond (test n_j) (one_if (named n_j.0 x)) 0) jobs
    first false e = omega (arith, ap one_if e)
    first true e =
        let it : (n_j : ℕ × JobFacts) × IsMember n_j jobs × (test n_j ≡ true) × (named n_j.0 x ≡ true) =
        finds x (inl refl) e in
        omega (
          arith,
          ap one_if e,
          term_le_sum (λ n_j. cond (test n_j) (one_if (named n_j.0 x)) 0) jobs it.0 it.1,
          ap (λ b. cond b (one_if (named it.0.0 x)) 0) it.2,
          ap one_if it.3,
        )

  -- where each names one once at most, no more of them hit than jobs pass
  few_hits : (xs : List Step) → Each Finds xs → Each (λ n_j. count_by (named n_j.0) xs ≤ 1) jobs
      → count_by hit xs ≤ count_by test jobs
  few_hits xs finds once = omega (
    arith,
    hits_named xs finds,
    sum_le (λ n_j. cond (test n_j) (count_by (named n_j.0) xs) 0) (λ n_j. one_if (test n_j)) jobs
        (λ n_j m. by_test (test n_j) (count_by (named n_j.0) xs) (once n_j m)),
  ) where
    by_test : (b : Bool) (most : ℕ) → most ≤ 1 → cond b most 0 ≤ one_if b
    by_test true most low = low
    by_test false most low = omega arith

-- all pass a test that always passes
pub count_all : {X : Type 0} (xs : List X) → count_by (λ x. true) xs ≡ length xs
count_all [] = refl
count_all (x ∷ xs) = omega (arith, sum_by-cons (λ y. 1) x xs, count_all xs)

pub length_enumerate : {X : Type 0} (k : ℕ) (xs : List X) → length (enumerate_from k xs) ≡ length xs
length_enumerate k [] = refl
length_enumerate k (x ∷ xs) = omega (arith, length_enumerate (k + 1) xs)

-- ---- who stops whom

-- a fresh job was released now
abbrev pub IsPrompt : State → Type 0
IsPrompt s = Each (λ t. t.role ≡ Fresh → t.job.release ≡ s.clock) s.tasks

module _ (s : State) (sound : IsSound s) (prompt : IsPrompt s) where
  -- where one job gets a role other than Fresh
  one_prompt : (r : Task) → IsMember r s.tasks → (new : Role) → (new ≡ Fresh → ⊥) → IsPrompt (state_with s r new)
  one_prompt r m new other = on_changed 0 s.tasks sound.numbered r m new (λ t. t.role ≡ Fresh → t.job.release ≡ s.clock)
      (λ e. absurd (other e)) (λ t mt _. prompt t mt)

  -- a displaced job isn't fresh where it wasn't
  displaced_fresh : (role : Role) → displaced role ≡ Fresh → role ≡ Fresh
  displaced_fresh Held e = let c : Waiting ≡ Fresh = e in cc
  displaced_fresh Running e = let c : Waiting ≡ Fresh = e in cc
  displaced_fresh _ e = e

  -- each deed keeps it so
  pub deed_prompt : (k : Fraction) (other : Move) → (Quiet s → IsPrompt (after s other)) → (m : Move) → Deed k s other m
      → IsPrompt (after s m)
  deed_prompt k other rests m (Completed r member runs) = one_prompt r member Done (λ e. cc)
  deed_prompt k other rests m (Resumed p member held none least why) = one_prompt p member Running (λ e. cc)
  deed_prompt k other rests m (Started o member waiting none ahead fits next) = one_prompt o member Running (λ e. cc)
  deed_prompt k other rests m (Began f member fresh none free) = one_prompt f member Running (λ e. cc)
  deed_prompt k other rests m (Preempted r f member runs some f_member fresh before fits) =
      on_map (λ t. with_role t (cond (eqb t.number f.number) Running (cond (eqb t.number r.number) Held t.role)))
      (λ t. t.role ≡ Fresh → t.job.release ≡ s.clock) s.tasks
      (λ t mt. by_tests (eqb t.number f.number) (eqb t.number r.number) t mt) where
        by_tests : (a b : Bool) (t : Task) → IsMember t s.tasks → cond a Running (cond b Held t.role) ≡ Fresh
            → t.job.release ≡ s.clock
        by_tests true b t mt e = let c : Running ≡ Fresh = e in cc
        by_tests false true t mt e = let c : Held ≡ Fresh = e in cc
        by_tests false false t mt e = prompt t mt e
  deed_prompt k other rests m (Stayed r f member runs some f_member fresh why) =
      one_prompt f f_member Waiting (λ e. cc)
  deed_prompt k other rests m (Arrived c member comes now least stale busy free) =
      on_changed 0 s.tasks sound.numbered c member Fresh (λ t. t.role ≡ Fresh → t.job.release ≡ s.clock)
      (λ e. now) (λ t mt _. prompt t mt)
  deed_prompt k other rests m (Taken r x member runs some x_member waiting now stale heavy) =
      on_map (λ t. with_role t (cond (eqb t.number x.number) Running (displaced t.role)))
      (λ t. t.role ≡ Fresh → t.job.release ≡ s.clock) s.tasks
      (λ t mt. by_test (eqb t.number x.number) t mt) where
        by_test : (a : Bool) (t : Task) → IsMember t s.tasks → cond a Running (displaced t.role) ≡ Fresh
            → t.job.release ≡ s.clock
        by_test true t mt e = let c : Running ≡ Fresh = e in cc
        by_test false t mt e = prompt t mt (displaced_fresh t.role e)
  deed_prompt k other rests m (Abandoned r x member runs some x_member waiting now stale light) =
      one_prompt x x_member Gone (λ e. cc)
  deed_prompt k other rests m (Rested quiet) = rests quiet

-- so does what is done where none of the first six cases applies
pub rest_prompt : (s : State) → IsPrompt s → Quiet s → IsPrompt (after s (rest_of s))
rest_prompt s prompt quiet = by_end (list_all is_over s.tasks) where
  by_end : (b : Bool)
      → IsPrompt (after s (then_some b (Prints (End (value_sum (filter is_done s.tasks)))) or_else Ticks))
  by_end true = subst (λ (tasks : List Task). IsPrompt (record s { tasks = tasks }))
      (sym (end_same s (value_sum (filter is_done s.tasks)))) prompt
  by_end false = on_map ticked (λ t. t.role ≡ Fresh → t.job.release ≡ s.clock + 1) s.tasks
      (λ t m fresh. absurd (quiet.stale t m fresh))

-- three tests that hold
all_three : (a b c : Bool) → a ≡ true → b ≡ true → c ≡ true → (a && b && c) ≡ true
all_three a b c ea eb ec = and_from (a && b) c (and_from a b ea eb) ec

-- some job preempts, some job takes
abbrev pub preempts_some : Move → Bool
preempts_some (Prints (Preempt at stops starts)) = true
preempts_some _ = false

abbrev pub takes_some : Move → Bool
takes_some (Prints (Take at stops starts)) = true
takes_some _ = false

module _ (J : Instance) (valid : IsValid J) where
  -- every step of a run, with the state that it is taken from
  each_prompt : Each (λ x. (x.move ≡ step J.rules x.before) × Keeps J x.before × IsPrompt x.before) (run J)
  each_prompt = run_states J valid J.rules IsPrompt
      (λ s keeps prompt on. deed_prompt s keeps.sound prompt J.rules.ratio (rest_of s)
      (rest_prompt s prompt) (step J.rules s) (step_deed J valid s keeps J.rules))
      (run J) (opening J.jobs) (opening_keeps J)
      (λ t m fresh. let comes : t.role ≡ Coming = (come_coming 0 J.jobs t m).0 in
      let e : Coming ≡ Fresh = sym comes ∙ fresh in cc)
      (run_is_whole J valid)

  -- a task is of a job under its number
  pub numbered_there : (s : State) → Keeps J s → (t : Task) → IsMember t s.tasks
      → IsMember (t.number, t.job) (numbered J)
  numbered_there s keeps t member =
      subst (λ jobs. IsMember (t.number, t.job) (enumerate_from 0 jobs)) keeps.jobs
      (job_there 0 s.tasks keeps.sound.numbered t member)

  -- the task of a number is of its job
  pub job_is : (n_j : ℕ × JobFacts) → IsMember n_j (numbered J) → (s : State) → Keeps J s → (r : Task)
      → IsMember r s.tasks → r.number ≡ n_j.0 → r.job ≡ n_j.1
  job_is n_j member s keeps r r_member same =
      let it : (t : Task) × IsMember t s.tasks × (t.number ≡ n_j.0) × (t.job ≡ n_j.1) =
      task_there n_j.0 0 n_j.1 s.tasks keeps.sound.numbered
      (subst (λ jobs. IsMember n_j (enumerate_from 0 jobs)) (sym keeps.jobs) member) in
      ap (λ (t : Task). t.job)
      (one_number 0 s.tasks keeps.sound.numbered r it.0 r_member it.1 (same ∙ sym it.2)) ∙ it.3

  module _ (n_j : ℕ × JobFacts) (member : IsMember n_j (numbered J)) (s : State) (keeps : Keeps J s) where
    -- who preempts the job may do so
    deed_preempted : IsPrompt s → (k : Fraction) (other : Move) → is_preempted n_j.0 other ≡ false → (m : Move)
        → Deed k s other m → is_preempted n_j.0 m ≡ true
        → (m_i : ℕ × JobFacts) × IsMember m_i (numbered J) × (may_preempt n_j.1 m_i ≡ true)
        × (is_preempt_of m_i.0 m ≡ true)
    deed_preempted prompt k other rests m (Preempted r f r_member runs some f_member fresh before fits) e = (
      (f.number, f.job),
      numbered_there s keeps f f_member,
      subst (λ j. may_preempt j (f.number, f.job) ≡ true)
          (job_is n_j member s keeps r r_member (eqb-true _ _ e))
          (and_from (nat_le r.job.release f.job.release) (nat_lt f.job.deadline r.job.deadline)
          (le-leb _ _ (omega (arith, says s keeps.sound r r_member Running runs, prompt f f_member fresh)))
          (lt-ltb _ _ before)),
      eq-eqb f.number f.number refl,
    )
    deed_preempted prompt k other rests m (Rested quiet) e = never (sym rests ∙ e)
    deed_preempted prompt k other rests m _ e = never e

    -- who takes the processor from it may do so
    deed_taken : (k : Fraction) (other : Move) → is_taken_from n_j.0 other ≡ false → (m : Move)
        → Deed k s other m → is_taken_from n_j.0 m ≡ true
        → (m_i : ℕ × JobFacts) × IsMember m_i (numbered J) × (may_take k n_j.1 m_i ≡ true)
        × (is_take_of m_i.0 m ≡ true)
    deed_taken k other rests m (Taken r x r_member runs some x_member waiting now stale heavy) e = (
      (x.number, x.job),
      numbered_there s keeps x x_member,
      subst (λ j. may_take k j (x.number, x.job) ≡ true)
          (job_is n_j member s keeps r r_member (eqb-true _ _ e))
          (all_three (is_heavy k x.job.value r.job.value) (nat_lt x.job.release r.job.deadline)
          (nat_lt r.job.release x.job.deadline)
          (heavy_mono k x.job.value r.job.value (value_sum (privileged s))
          (term_le_sum (λ (t : Task). t.job.value) (privileged s) r
          (filter_member is_privileged s.tasks r r_member active)) heavy)
          (lt-ltb _ _ (let slack : s.clock + left r ≤ r.job.deadline = active_slack s keeps.sound r r_member active in
          let low : x.job.release ≤ s.clock = (says s keeps.sound x x_member Waiting waiting).1 in omega arith))
          (lt-ltb _ _ (let slack : s.clock + left x ≤ x.job.deadline =
          (says s keeps.sound x x_member Waiting waiting).2 in
          let more : 1 ≤ left x = (says s keeps.sound x x_member Waiting waiting).0 in
          let low : r.job.release ≤ s.clock = says s keeps.sound r r_member Running runs in omega arith))),
      eq-eqb x.number x.number refl,
    ) where
      active : is_privileged r ≡ true
      active = passes is_privileged r Running true runs refl
    deed_taken k other rests m (Rested quiet) e = never (sym rests ∙ e)
    deed_taken k other rests m _ e = never e

  -- some job completes, preempts or takes, and it is one of the jobs
  module _ (s : State) (keeps : Keeps J s) where
    deed_completes : (k : Fraction) (other : Move) → is_complete other ≡ false → (m : Move) → Deed k s other m
        → is_complete m ≡ true
        → (m_i : ℕ × JobFacts) × IsMember m_i (numbered J) × (true ≡ true) × (is_complete_of m_i.0 m ≡ true)
    deed_completes k other rests m (Completed r member runs) e =
        ((r.number, r.job), numbered_there s keeps r member, refl, eq-eqb r.number r.number refl)
    deed_completes k other rests m (Rested quiet) e = never (sym rests ∙ e)
    deed_completes k other rests m _ e = never e

    pub deed_preempts : (k : Fraction) (other : Move) → preempts_some other ≡ false → (m : Move) → Deed k s other m
        → preempts_some m ≡ true
        → (m_i : ℕ × JobFacts) × IsMember m_i (numbered J) × (true ≡ true) × (is_preempt_of m_i.0 m ≡ true)
    deed_preempts k other rests m (Preempted r f member runs some f_member fresh before fits) e =
        ((f.number, f.job), numbered_there s keeps f f_member, refl, eq-eqb f.number f.number refl)
    deed_preempts k other rests m (Rested quiet) e = never (sym rests ∙ e)
    deed_preempts k other rests m _ e = never e

    pub deed_takes : (k : Fraction) (other : Move) → takes_some other ≡ false → (m : Move) → Deed k s other m
        → takes_some m ≡ true
        → (m_i : ℕ × JobFacts) × IsMember m_i (numbered J) × (true ≡ true) × (is_take_of m_i.0 m ≡ true)
    deed_takes k other rests m (Taken r x member runs some x_member waiting now stale heavy) e =
        ((x.number, x.job), numbered_there s keeps x x_member, refl, eq-eqb x.number x.number refl)
    deed_takes k other rests m (Rested quiet) e = never (sym rests ∙ e)
    deed_takes k other rests m _ e = never e

  -- what a deed finds, every step of the run finds
  pub each_finds : (hit : Move → Bool) (named : ℕ → Move → Bool) (test : ℕ × JobFacts → Bool)
      → ((s : State) → Keeps J s → IsPrompt s → (m : Move) → Deed J.rules.ratio s (rest_of s) m → hit m ≡ true
      → (m_i : ℕ × JobFacts) × IsMember m_i (numbered J) × (test m_i ≡ true) × (named m_i.0 m ≡ true))
      → Each (Finds (numbered J) (λ x. hit x.move) (λ n x. named n x.move) test) (run J)
  each_finds hit named test by_deed x member e =
      let it : (x.move ≡ step J.rules x.before) × Keeps J x.before × IsPrompt x.before = each_prompt x member in
      by_deed x.before it.1 it.2 x.move
      (subst (Deed J.rules.ratio x.before (rest_of x.before)) (sym it.0) (step_deed J valid x.before it.1 J.rules)) e

  -- it is preempted by jobs that may do so, each once
  pub few_preempt : (n_j : ℕ × JobFacts) → IsMember n_j (numbered J)
      → count_by (λ x. is_preempted n_j.0 x.move) (run J) ≤ count_by (may_preempt n_j.1) (numbered J)
  few_preempt n_j member = few_hits (numbered J) (λ x. is_preempted n_j.0 x.move) (λ n x. is_preempt_of n x.move)
      (may_preempt n_j.1) (run J)
      (each_finds (is_preempted n_j.0) is_preempt_of (may_preempt n_j.1)
      (λ s keeps prompt. deed_preempted n_j member s keeps prompt J.rules.ratio (rest_of s)
      (rest_fails (is_preempted n_j.0) (λ value. refl) refl s)))
      (λ m_i m. preempts_once J m_i.0 valid)

  -- and takes stop it by jobs that may do so, each once
  pub few_take : (n_j : ℕ × JobFacts) → IsMember n_j (numbered J)
      → count_by (λ x. is_taken_from n_j.0 x.move) (run J) ≤ count_by (may_take J.rules.ratio n_j.1) (numbered J)
  few_take n_j member = few_hits (numbered J) (λ x. is_taken_from n_j.0 x.move) (λ n x. is_take_of n x.move)
      (may_take J.rules.ratio n_j.1) (run J)
      (each_finds (is_taken_from n_j.0) is_take_of (may_take J.rules.ratio n_j.1)
      (λ s keeps prompt. deed_taken n_j member s keeps J.rules.ratio (rest_of s)
      (rest_fails (is_taken_from n_j.0) (λ value. refl) refl s)))
      (λ m_i m. takes_once J m_i.0 valid)

  -- so it gets the processor no more often than that
  pub gets_few : (n_j : ℕ × JobFacts) → IsMember n_j (numbered J)
      → count_by (λ x. gets n_j.0 x.move) (run J) ≤ most_changes J.rules.ratio (numbered J) n_j.1
  gets_few n_j member = omega (arith, gets_paid J valid n_j member, few_preempt n_j member, few_take n_j member)

  -- all jobs that complete, preempt or take, each once
  pub completes_few : count_by (λ x. is_complete x.move) (run J) ≤ length J.jobs
  completes_few = omega (
    arith,
    few_hits (numbered J) (λ x. is_complete x.move) (λ n x. is_complete_of n x.move) (λ m_i. true) (run J)
        (each_finds is_complete is_complete_of (λ m_i. true)
        (λ s keeps prompt. deed_completes s keeps J.rules.ratio (rest_of s)
        (rest_fails is_complete (λ value. refl) refl s)))
        (λ m_i m. completes_once J valid m_i m),
    count_all (numbered J),
    length_enumerate 0 J.jobs,
  )

  preempts_few : count_by (λ x. preempts_some x.move) (run J) ≤ length J.jobs
  preempts_few = omega (
    arith,
    few_hits (numbered J) (λ x. preempts_some x.move) (λ n x. is_preempt_of n x.move) (λ m_i. true) (run J)
        (each_finds preempts_some is_preempt_of (λ m_i. true)
        (λ s keeps prompt. deed_preempts s keeps J.rules.ratio (rest_of s)
        (rest_fails preempts_some (λ value. refl) refl s)))
        (λ m_i m. preempts_once J m_i.0 valid),
    count_all (numbered J),
    length_enumerate 0 J.jobs,
  )

  takes_few : count_by (λ x. takes_some x.move) (run J) ≤ length J.jobs
  takes_few = omega (
    arith,
    few_hits (numbered J) (λ x. takes_some x.move) (λ n x. is_take_of n x.move) (λ m_i. true) (run J)
        (each_finds takes_some is_take_of (λ m_i. true)
        (λ s keeps prompt. deed_takes s keeps J.rules.ratio (rest_of s)
        (rest_fails takes_some (λ value. refl) refl s)))
        (λ m_i m. takes_once J m_i.0 valid),
    count_all (numbered J),
    length_enumerate 0 J.jobs,
  )

  -- the processor changes hands as often as jobs run, preempt and take
  pub changes_parts : count_by (λ x. changes_hands x.move) (run J) ≡ count_by (λ x. is_run x.move) (run J)
      + count_by (λ x. preempts_some x.move) (run J) + count_by (λ x. takes_some x.move) (run J)
  changes_parts = omega (
    arith,
    sum_same (λ x. one_if (changes_hands x.move))
        (λ x. one_if (is_run x.move) + one_if (preempts_some x.move) + one_if (takes_some x.move)) (run J)
        (λ x m. by_move x.move),
    sum_plus (λ x. one_if (is_run x.move) + one_if (preempts_some x.move)) (λ x. one_if (takes_some x.move)) (run J),
    sum_plus (λ x. one_if (is_run x.move)) (λ x. one_if (preempts_some x.move)) (run J),
  ) where
    by_move : (m : Move)
        → one_if (changes_hands m) ≡ one_if (is_run m) + one_if (preempts_some m) + one_if (takes_some m)
    by_move (Prints (Release n job)) = refl
    by_move _ = refl

  -- that is three times for each job at most
  pub changes_few : count_by (λ x. changes_hands x.move) (run J) ≤ 3 * length J.jobs
  changes_few = omega (arith, changes_parts, runs_complete J valid, completes_few, preempts_few, takes_few)

-- ---- a job that gets the processor back does so right behind a completion

-- where the processor is free, no job waits or is held
abbrev pub IsTaken : State → Type 0
IsTaken s = NoneRuns s.tasks → Each (λ t. is_ready_behind t ≡ true → ⊥) s.tasks

module _ (s : State) (sound : IsSound s) where
  -- a job that runs behind a move
  runs_then : (m : Move) (t : Task) → IsMember t s.tasks → role_then m t ≡ Running → NoneRuns (after s m).tasks → ⊥
  runs_then m t member runs none = none (next m t) (next_there s m t member) (next_role m t ∙ runs)

  -- a job that runs is no other
  stays_on : (r f : Task) → IsMember r s.tasks → IsMember f s.tasks → r.role ≡ Running → (f.role ≡ Running → ⊥)
      → (new : Role) → cond (eqb r.number f.number) new r.role ≡ Running
  stays_on r f r_member f_member runs other new =
      ap (λ b. cond b new r.role)
      (ne_eqb r.number f.number (λ same. other (sym
      (ap (λ (x : Task). x.role) (one_number 0 s.tasks sound.numbered r f r_member f_member same)) ∙ runs)))
      ∙ runs

  -- behind each deed but a completion
  pub deed_taken_then : (k : Fraction) (other : Move) → (Quiet s → IsTaken (after s other)) → (m : Move)
      → Deed k s other m → is_complete m ≡ false
      → IsTaken (after s m)
  deed_taken_then k other rests m (Completed r member runs) e = never (sym e)
  deed_taken_then k other rests m (Resumed p member held none least why) e = λ free.
      absurd (runs_then m p member (ap (λ b. cond b Running p.role) (eq-eqb p.number p.number refl)) free)
  deed_taken_then k other rests m (Started o member waiting none ahead fits next) e = λ free.
      absurd (runs_then m o member (ap (λ b. cond b Running o.role) (eq-eqb o.number o.number refl)) free)
  deed_taken_then k other rests m (Began f member fresh none free2) e = λ free.
      absurd (runs_then m f member (ap (λ b. cond b Running f.role) (eq-eqb f.number f.number refl)) free)
  deed_taken_then k other rests m (Preempted r f member runs some f_member fresh before fits) e = λ free.
      absurd (runs_then m f f_member (ap (λ b. cond b Running (cond (eqb f.number r.number) Held f.role))
      (eq-eqb f.number f.number refl)) free)
  deed_taken_then k other rests m (Stayed r f member runs some f_member fresh why) e = λ free.
      absurd (runs_then m r member (stays_on r f member f_member runs
      (λ e2. let c : Fresh ≡ Running = sym fresh ∙ e2 in cc) Waiting) free)
  deed_taken_then k other rests m (Arrived c member comes now least stale busy free2) e = λ free.
      on_changed 0 s.tasks sound.numbered c member Fresh (λ t. is_ready_behind t ≡ true → ⊥)
      (λ e2. never e2)
      (λ t mt _. free2 (λ u mu runs. runs_then m u mu (stays_on u c mu member runs
      (λ e2. let d : Coming ≡ Running = sym comes ∙ e2 in cc) Fresh) free) t mt)
  deed_taken_then k other rests m (Taken r x member runs some x_member waiting now stale heavy) e = λ free.
      absurd (runs_then m x x_member (ap (λ b. cond b Running (displaced x.role)) (eq-eqb x.number x.number refl))
      free)
  deed_taken_then k other rests m (Abandoned r x member runs some x_member waiting now stale light) e = λ free.
      absurd (runs_then m r member (stays_on r x member x_member runs
      (λ e2. let c : Waiting ≡ Running = sym waiting ∙ e2 in cc) Gone) free)
  deed_taken_then k other rests m (Rested quiet) e = rests quiet

  -- a job that gets the processor back finds it free, and waited or was held
  pub deed_returns : IsTaken s → (k : Fraction) (other : Move) → returns_by s other ≡ false → (m : Move)
      → Deed k s other m → returns_by s m ≡ true → ⊥
  deed_returns taken k other rests m (Resumed p member held none least why) e =
      taken none p member (passes is_ready_behind p Held true held refl)
  deed_returns taken k other rests m (Started o member waiting none ahead fits next) e =
      taken none o member (passes is_ready_behind o Waiting true waiting refl)
  deed_returns taken k other rests m (Began f member fresh none free) e =
      never (sym (ap not (fresh_any f.number 0 s.tasks sound.numbered f member refl
      ∙ passes is_fresh f Fresh true fresh refl)) ∙ e)
  deed_returns taken k other rests m (Rested quiet) e = never (sym rests ∙ e)
  deed_returns taken k other rests m _ e = never e

-- behind a silent tick or End
pub rest_taken : (s : State) → Quiet s → IsTaken (after s (rest_of s))
rest_taken s quiet = by_end (list_all is_over s.tasks) where
  by_end : (b : Bool)
      → IsTaken (after s (then_some b (Prints (End (value_sum (filter is_done s.tasks)))) or_else Ticks))
  by_end true = subst (λ (tasks : List Task). IsTaken (record s { tasks = tasks }))
      (sym (end_same s (value_sum (filter is_done s.tasks)))) quiet.free
  by_end false = λ free. on_map ticked (λ t. is_ready_behind t ≡ true → ⊥) s.tasks
      (λ t m. quiet.free (λ u mu runs. free (ticked u) (map_member ticked s.tasks u mu) runs) t m)

module _ (J : Instance) (valid : IsValid J) where
  -- every return stands right behind a completion
  returns_from : (xs : List Step) (s : State) → Keeps J s → (behind : Bool) → (behind ≡ false → IsTaken s)
      → IsWholeRun J.rules s xs
      → ComesBehind (λ x. is_complete x.move) returns behind xs
  returns_from [] s keeps behind taken whole = tt
  returns_from (x ∷ xs) s keeps behind taken whole = (
    by_behind behind taken,
    by_end (is_end (step J.rules s)) whole.1
        (λ rest. returns_from xs (after s (step J.rules s)) (step_kept J valid s keeps J.rules)
        (is_complete (step J.rules s))
        (deed_taken_then s keeps.sound J.rules.ratio (rest_of s) (rest_taken s) (step J.rules s)
        (step_deed J valid s keeps J.rules)) rest),
  ) where
    by_behind : (b : Bool) → (b ≡ false → IsTaken s) → returns x ≡ true → b ≡ true
    by_behind true free e = refl
    by_behind false free e = absurd (deed_returns s keeps.sound (free refl) J.rules.ratio (rest_of s)
        (rest_fails (returns_by s) (λ value. refl) refl s) (step J.rules s)
        (step_deed J valid s keeps J.rules)
        (ap (λ (y : Step). returns y) (sym whole.0) ∙ e))

    by_end : (b : Bool) → MatchBool b (xs ≡ []) (IsWholeRun J.rules (after s (step J.rules s)) xs)
        → (IsWholeRun J.rules (after s (step J.rules s)) xs
        → ComesBehind (λ y. is_complete y.move) returns (is_complete (step J.rules s)) xs)
        → ComesBehind (λ y. is_complete y.move) returns (is_complete x.move) xs
    by_end true none more = subst (ComesBehind (λ y. is_complete y.move) returns (is_complete x.move)) (sym none) tt
    by_end false rest more =
        subst (λ (y : Step). ComesBehind (λ z. is_complete z.move) returns (is_complete y.move) xs) (sym whole.0)
        (more rest)

  pub returns_behind : ComesBehind (λ x. is_complete x.move) returns false (run J)
  returns_behind = returns_from (run J) (opening J.jobs) (opening_keeps J) false
      (λ e none t m behind. never (sym (passes is_ready_behind t Coming false (come_coming 0 J.jobs t m).0 refl)
      ∙ behind))
      (run_is_whole J valid)
