-- The jobs of a run as they were observed: which are done, and what they had.
use Rattle.std.proofs.Common.{◌≡◌, ◌<◌, ◌⊎◌, ℕ, zero, suc, ◌+◌, ◌≤◌, inl, inr, List, [], ◌∷◌, length, map, refl, sym}
use Rattle.std.proofs.Common.{ap, ◌∙◌, subst, Bool, true, false, cond, eqb, get_or, arith, ◌||◌, ◌&&◌, ◌==◌, nat_lt}
use Rattle.std.proofs.Common.{nat_le, MatchBool, filter, fold, le-leb, eqb-true, eq-eqb, ne_eqb, ltb-true}
use Rattle.std.specs.Bool.{then_some}
use Rattle.std.specs.List.{AllByRecursion, list_any, list_all, enumerate_from, cons_option}
use Rattle.std.proofs.Math.Bool.{or-false, or-true, or_assoc}
use Rattle.std.proofs.lemmas.List.Sums.{sum_by-cons}
use Rattle.dover_model.specs.declared.events.Event.TheVariants.{Complete, End, Preempt, Take}
use Rattle.dover_model.specs.declared.events.Role.{Role}
use Rattle.dover_model.specs.declared.events.Role.TheVariants.{Coming, Fresh, Waiting, Held, Running, Done, Gone}
use Rattle.dover_model.specs.declared.events.Task.{Task}
use Rattle.dover_model.specs.Common.{Finish, need, Fraction, Instance, IsValid, total_value, IsInOrder, JobFacts, IsJob}
use Rattle.dover_model.specs.Common.{is_job, observing, observed, end_state, served, Step, is_end, run, ran, event_of}
use Rattle.dover_model.specs.Common.{printed_of, ticks_given, is_served, numbered, IsMember, Each, IsNumberedFrom}
use Rattle.dover_model.specs.Common.{Keeps, jobs_of, State, opening, is_over, is_done, value_sum, Move, Prints, Waits}
use Rattle.dover_model.specs.Common.{Ticks, step, after, ending, ◌or_else◌, with_role, displaced, ticked, IsWholeRun}
use Rattle.dover_model.specs.Common.{Job, last_deadline}
use Rattle.dover_model.proofs.steps.Deeds.{Deed, Completed, Resumed, Started, Began, Preempted, Stayed, Arrived, Taken}
use Rattle.dover_model.proofs.steps.Deeds.{Abandoned, Rested}
use Rattle.dover_model.proofs.runs.Ending.{end_over, run_is_whole}
use Rattle.dover_model.proofs.runs.Honest.{Outcome, whole_outcome}
use Rattle.dover_model.proofs.steps.Kept.{step_deed, step_kept, opening_keeps, come_coming, end_same}
use Rattle.dover_model.proofs.lists.Members.{on_map, all_member, map_member}
use Rattle.dover_model.proofs.steps.OneChange.{state_with, on_changed}
use Rattle.dover_model.proofs.rest.Resting.{numbers_below}
use Rattle.dover_model.proofs.steps.Roles.{passes, one_number, is_over_role, numbers_above}
use Rattle.dover_model.proofs.lists.Tests.{never}
use Rattle.dover_model.proofs.steps.Ticking.{Quiet}
use Rattle.question_words.specs.Loss.{completes, is_completed}
use Rattle.question_words.specs.Replaying.{with_work, job_seen, jobs_seen}
use Rattle.dover_model.proofs.bound.Booked.{displaced_done}
use Rattle.dover_model.proofs.valid.Dues.{later_due}
use Rattle.dover_model.proofs.valid.ValidParts.{ReleasesInOrder, order_from, valid_parts}
use Rattle.dover_model.proofs.valid.JobLimits.{job_limits, job_from}

-- ---- which jobs are done

-- the move completes the job of the number
abbrev finishes : ℕ → Move → Bool
finishes n (Prints e) = completes n e
finishes n (Waits m) = false
finishes n Ticks = false

-- these are the jobs that are done
abbrev IsTold : (ℕ → Bool) → State → Type 0
IsTold done s = Each (λ t. is_done t ≡ done t.number) s.tasks

-- those, and the one that a move completes
abbrev with_move : (ℕ → Bool) → Move → ℕ → Bool
with_move done m n = done n || finishes n m

module _ (done : ℕ → Bool) (k : Fraction) (s : State) (are_numbered : IsNumberedFrom 0 s.tasks)
    (told : IsTold done s) where
  -- a job that is as before
  stays_told : (t : Task) → IsMember t s.tasks → is_done t ≡ (done t.number || false)
  stays_told t member = told t member ∙ sym (or-false (done t.number))

  -- one that isn't done
  not_done : (t : Task) (role : Role) → IsMember t s.tasks → t.role ≡ role → is_done (with_role t role) ≡ false
      → false ≡ (done t.number || false)
  not_done t role member is test = sym (passes is_done t role false is test) ∙ stays_told t member

  -- where one job that isn't done gets a new role in which it isn't
  one_told : (m : Move) → ((n : ℕ) → finishes n m ≡ false) → (r : Task) → IsMember r s.tasks → (old new : Role)
      → r.role ≡ old → is_done (with_role r old) ≡ false → is_done (with_role r new) ≡ false
      → IsTold (with_move done m) (state_with s r new)
  one_told m none r member old new is before behind =
      on_changed 0 s.tasks are_numbered r member new (λ t. is_done t ≡ with_move done m t.number)
      (behind ∙ not_done r old member is before ∙ ap (λ b. done r.number || b) (sym (none r.number)))
      (λ t m_t _. stays_told t m_t ∙ ap (λ b. done t.number || b) (sym (none t.number)))

  -- after each deed
  deed_told : (other m : Move) → (Quiet s → m ≡ other → IsTold (with_move done other) (after s other))
      → Deed k s other m → IsTold (with_move done m) (after s m)
  deed_told other m rests (Completed r member runs) =
      on_changed 0 s.tasks are_numbered r member Done
      (λ t. is_done t ≡ with_move done (Prints (Complete s.clock r.number)) t.number)
      (sym (ap (λ b. done r.number || b) (eq-eqb r.number r.number refl) ∙ or-true (done r.number)))
      (λ t m_t differs. stays_told t m_t
      ∙ ap (λ b. done t.number || b) (sym (ne_eqb r.number t.number (λ same. differs (sym same)))))
  deed_told other m rests (Resumed p member held none least why) =
      one_told m (λ n. refl) p member Held Running held refl refl
  deed_told other m rests (Started o member waiting none first fits next) =
      one_told m (λ n. refl) o member Waiting Running waiting refl refl
  deed_told other m rests (Began f member fresh none free) =
      one_told m (λ n. refl) f member Fresh Running fresh refl refl
  deed_told other m rests (Preempted r f member runs some f_member fresh before fits) =
      on_map (λ t. with_role t (cond (eqb t.number f.number) Running (cond (eqb t.number r.number) Held t.role)))
      (λ t. is_done t ≡ with_move done (Prints (Preempt s.clock r.number f.number)) t.number) s.tasks
      (λ t m_t. by_numbers t m_t (eqb t.number f.number) (eqb t.number r.number) refl refl) where
        by_numbers : (t : Task) → IsMember t s.tasks → (b c : Bool) → eqb t.number f.number ≡ b
            → eqb t.number r.number ≡ c
            → is_done (with_role t (cond b Running (cond c Held t.role))) ≡ (done t.number || false)
        by_numbers t m_t true c is_f is_r = not_done t Fresh m_t (ap (λ (u : Task). u.role)
            (one_number 0 s.tasks are_numbered t f m_t f_member (eqb-true _ _ is_f)) ∙ fresh) refl
        by_numbers t m_t false true is_f is_r = not_done t Running m_t (ap (λ (u : Task). u.role)
            (one_number 0 s.tasks are_numbered t r m_t member (eqb-true _ _ is_r)) ∙ runs) refl
        by_numbers t m_t false false is_f is_r = stays_told t m_t
  deed_told other m rests (Stayed r f member runs some f_member fresh why) =
      one_told m (λ n. refl) f f_member Fresh Waiting fresh refl refl
  deed_told other m rests (Arrived c member comes now first stale busy free) =
      one_told m (λ n. refl) c member Coming Fresh comes refl refl
  deed_told other m rests (Taken r x member runs some x_member waiting now stale heavy) =
      on_map (λ t. with_role t (cond (eqb t.number x.number) Running (displaced t.role)))
      (λ t. is_done t ≡ with_move done (Prints (Take s.clock r.number x.number)) t.number) s.tasks
      (λ t m_t. by_number t m_t (eqb t.number x.number) refl) where
        by_number : (t : Task) → IsMember t s.tasks → (b : Bool) → eqb t.number x.number ≡ b
            → is_done (with_role t (cond b Running (displaced t.role))) ≡ (done t.number || false)
        by_number t m_t true is_x = not_done t Waiting m_t (ap (λ (u : Task). u.role)
            (one_number 0 s.tasks are_numbered t x m_t x_member (eqb-true _ _ is_x)) ∙ waiting) refl
        by_number t m_t false is_x = displaced_done t t.role ∙ stays_told t m_t
  deed_told other m rests (Abandoned r x member runs some x_member waiting now stale light) =
      one_told m (λ n. refl) x x_member Waiting Gone waiting refl refl
  deed_told other m rests (Rested quiet) = rests quiet refl

-- the steps complete what the first does, and the others
completes_then : (n : ℕ) (m : Move) (xs : List Step)
    → list_any (completes n) (cons_option (event_of m) (printed_of xs))
    ≡ (finishes n m || list_any (completes n) (printed_of xs))
completes_then n (Prints e) xs = refl
completes_then n (Waits m) xs = refl
completes_then n Ticks xs = refl

-- the state before the last of some steps, behind a state
abbrev last_from : State → List Step → State
last_from s xs = fold (λ z x. x.before) s xs

module _ (J : Instance) (valid : IsValid J) where
  -- after a step
  step_told : (done : ℕ → Bool) (s : State) → Keeps J s → IsTold done s
      → IsTold (with_move done (step J.rules s)) (after s (step J.rules s))
  step_told done s keeps told = deed_told done J.rules.ratio s keeps.sound.numbered told (ending s or_else Ticks)
      (step J.rules s) (λ quiet rests. by_end (list_all is_over s.tasks)) (step_deed J valid s keeps J.rules) where
        by_end : (b : Bool) → IsTold
            (with_move done (then_some b (Prints (End (value_sum (filter is_done s.tasks)))) or_else Ticks))
            (after s (then_some b (Prints (End (value_sum (filter is_done s.tasks)))) or_else Ticks))
        by_end true = subst (λ (tasks : List Task). Each (λ t. is_done t ≡ (done t.number || false)) tasks)
            (sym (end_same s (value_sum (filter is_done s.tasks))))
            (stays_told done J.rules.ratio s keeps.sound.numbered told)
        by_end false = on_map ticked (λ t. is_done t ≡ (done t.number || false)) s.tasks
            (stays_told done J.rules.ratio s keeps.sound.numbered told)

  -- before the last step of a whole run, those are done that were, or are completed in it
  told_from : (xs : List Step) (s : State) (done : ℕ → Bool) → Keeps J s → IsTold done s → IsWholeRun J.rules s xs
      → (from : State) → IsTold (λ n. done n || list_any (completes n) (printed_of xs)) (last_from from xs)
  told_from [] s done keeps told whole from = absurd whole
  told_from (x ∷ xs) s done keeps told whole from =
      subst (λ (y : Step). IsTold (λ n. done n
      || list_any (completes n) (cons_option (event_of y.move) (printed_of xs))) (last_from y.before xs))
      (sym whole.0)
      (λ t member. by_end (is_end (step J.rules s)) refl whole.1
      (λ rest. told_from xs (after s (step J.rules s)) (with_move done (step J.rules s))
      (step_kept J valid s keeps J.rules) (step_told done s keeps told) rest s) t member
      ∙ ap (λ b. done t.number || b) (sym (completes_then t.number (step J.rules s) xs))) where
        by_end : (b : Bool) → is_end (step J.rules s) ≡ b
            → MatchBool b (xs ≡ []) (IsWholeRun J.rules (after s (step J.rules s)) xs)
            → (IsWholeRun J.rules (after s (step J.rules s)) xs
            → IsTold (λ n. with_move done (step J.rules s) n || list_any (completes n) (printed_of xs))
            (last_from s xs))
            → IsTold (λ n. done n || (finishes n (step J.rules s) || list_any (completes n) (printed_of xs)))
            (last_from s xs)
        by_end true last none more = subst (λ ys. IsTold (λ n. done n
            || (finishes n (step J.rules s) || list_any (completes n) (printed_of ys))) (last_from s ys)) (sym none)
            (λ t member. stays_told done J.rules.ratio s keeps.sound.numbered told t member
            ∙ ap (λ m. done t.number || (finishes t.number m || false))
            (sym (end_over J valid s keeps J.rules last).0))
        by_end false on rest more = λ t member. more rest t member
            ∙ or_assoc (done t.number) (finishes t.number (step J.rules s)) (list_any (completes t.number)
            (printed_of xs))

  -- at the end those are done that the run completes
  told_at_end : IsTold (is_completed J) (end_state J)
  told_at_end = told_from (run J) (opening J.jobs) (λ n. false) (opening_keeps J)
      (λ t member. passes is_done t Coming false (come_coming 0 J.jobs t member).0 refl) (run_is_whole J valid)
      (opening J.jobs)

-- ---- the observed jobs

-- a job that is over and done has that role
done_role : (t : Task) → is_over t ≡ true → is_done t ≡ true → t.role ≡ Done
done_role t over is = by_role (is_over_role t over) where
  by_role : (t.role ≡ Done) ⊎ (t.role ≡ Gone) → t.role ≡ Done
  by_role (inl e) = e
  by_role (inr e) = never (sym (passes is_done t Gone false e refl) ∙ is)

-- a job with work needs some tick
need_some : (fs : List Finish) (n work : ℕ) → 1 ≤ work → 1 ≤ need fs n work
need_some [] n work some = some
need_some (f ∷ fs) n work some =
    by_tests (f.number == n) (nat_lt 0 f.had) (nat_le f.had (need fs n work)) refl (need_some fs n work some) where
      by_tests : (a b c : Bool) → nat_lt 0 f.had ≡ b → 1 ≤ need fs n work
          → 1 ≤ cond ((a && b) && c) f.had (need fs n work)
      by_tests true true true above more = let up : 0 < f.had = ltb-true 0 f.had above in omega arith
      by_tests true true false above more = more
      by_tests true false c above more = more
      by_tests false b c above more = more

-- with the same releases, the jobs are in order
observing_in_order : (tasks : List Task) → ReleasesInOrder (jobs_of tasks) → ReleasesInOrder (map observing tasks)
observing_in_order [] it = tt
observing_in_order (t ∷ tasks) it = (later tasks it.0, observing_in_order tasks it.1) where
  later : (us : List Task) → AllByRecursion (λ j. t.job.release ≤ j.release) (jobs_of us)
      → AllByRecursion (λ j. t.job.release ≤ j.release) (map observing us)
  later [] all = tt
  later (u ∷ us) all = (all.0, later us all.1)

-- with the same values, they are worth the same
observing_total : (tasks : List Task) → total_value (map observing tasks) ≡ total_value (jobs_of tasks)
observing_total [] = refl
observing_total (t ∷ tasks) = omega (
  arith,
  observing_total tasks,
  sum_by-cons (λ (j : JobFacts). j.value) (observing t) (map observing tasks),
  sum_by-cons (λ (j : JobFacts). j.value) t.job (jobs_of tasks),
)

-- with the same deadlines, they are due as late
observing_due : (d : ℕ) (tasks : List Task) → fold later_due d (map observing tasks) ≡ fold later_due d (jobs_of tasks)
observing_due d [] = refl
observing_due d (t ∷ tasks) = observing_due (later_due d t.job) tasks

-- there are as many
observing_count : (tasks : List Task) → length (map observing tasks) ≡ length (jobs_of tasks)
observing_count [] = refl
observing_count (t ∷ tasks) = omega (arith, observing_count tasks)

-- what holds of each job as it was observed
each_observed : (P : ℕ × JobFacts → Type 0) (n : ℕ) (tasks : List Task) → IsNumberedFrom n tasks
    → Each (λ t. P (t.number, observing t)) tasks → Each P (enumerate_from n (map observing tasks))
each_observed P n [] are all n_j member = absurd member
each_observed P n (t ∷ tasks) are all n_j (inl e) =
    subst P (ap (λ m. (m, observing t)) are.0 ∙ sym e) (all t (inl refl))
each_observed P n (t ∷ tasks) are all n_j (inr member) = each_observed P (suc n) tasks are.1 (λ u m. all u (inr m)) n_j
    (subst (λ k. IsMember n_j (enumerate_from k (map observing tasks))) (let same : n + 1 ≡ suc n = omega arith in same)
    member)

-- what the job of a number had
had_at : (n : ℕ) (tasks : List Task) → IsNumberedFrom n tasks → (t : Task) → IsMember t tasks → (i : ℕ)
    → t.number ≡ n + i → get_or (map (λ (u : Task). u.had) tasks) i 0 ≡ t.had
had_at n [] are t member i is = absurd member
had_at n (u ∷ tasks) are t (inl here) zero is = ap (λ (v : Task). v.had) (sym here)
had_at n (u ∷ tasks) are t (inl here) (suc i) is =
    let same : t.number ≡ n = ap (λ (v : Task). v.number) here ∙ are.0 in absurd (omega arith)
had_at n (u ∷ tasks) are t (inr member) zero is =
    let above : suc n ≤ t.number = numbers_above (suc n) tasks are.1 t member in absurd (omega arith)
had_at n (u ∷ tasks) are t (inr member) (suc i) is = had_at (suc n) tasks are.1 t member i (omega (arith, is))

-- a job with so much work
abbrev of_work : ℕ → JobFacts → JobFacts
of_work work j = record { release = j.release; work = work; deadline = j.deadline; value = j.value }

-- where that is a job, it is seen
pub work_some : (work : ℕ) (j : JobFacts) → IsJob (of_work work j) → with_work work j ≡ of_work work j
work_some work j job = ap (λ b. cond b (of_work work j) j) job.passes

-- and else the job as it was
pub work_none : (work : ℕ) (j : JobFacts) → (IsJob (of_work work j) → ⊥) → with_work work j ≡ j
work_none work j none = by_test (is_job (of_work work j)) refl where
  by_test : (b : Bool) → is_job (of_work work j) ≡ b → cond b (of_work work j) j ≡ j
  by_test false fails = refl
  by_test true is = absurd (none (record { passes = is }))

-- the jobs as they are seen are those observed, where each is
seen_all : (done : List Bool) (hs : List ℕ) (n : ℕ) (tasks : List Task) → IsNumberedFrom n tasks
    → Each (λ t. job_seen done hs (t.number, t.job) ≡ observing t) tasks
    → map (job_seen done hs) (enumerate_from n (jobs_of tasks)) ≡ map observing tasks
seen_all done hs n [] are each = refl
seen_all done hs n (t ∷ tasks) are each =
    ap (λ j. j ∷ map (job_seen done hs) (enumerate_from (n + 1) (jobs_of tasks)))
    (ap (λ m. job_seen done hs (m, t.job)) (sym are.0) ∙ each t (inl refl))
    ∙ ap (λ js. observing t ∷ js)
    (ap (λ m. map (job_seen done hs) (enumerate_from m (jobs_of tasks)))
    (let same : n + 1 ≡ suc n = omega arith in same)
    ∙ seen_all done hs (suc n) tasks are.1 (λ u m. each u (inr m)))

module _ (J : Instance) (valid : IsValid J) where
  -- the outcome of the run
  it : Outcome J (ran J) (run J)
  it = whole_outcome J valid

  -- its last state
  abbrev last : State
  last = it.last

  -- is where the run ends
  ends : end_state J ≡ last
  ends = it.is_last (opening J.jobs)

  -- the observed jobs
  jobs_are : (observed J).jobs ≡ map observing last.tasks
  jobs_are = ap (λ (s : State). map observing s.tasks) ends

  -- those are done that the run completes
  told_last : IsTold (is_completed J) last
  told_last = subst (IsTold (is_completed J)) ends (told_at_end J valid)

  -- each was a job
  was_job : (t : Task) → IsMember t last.tasks → IsJob t.job
  was_job t member = all_member IsJob J.jobs (valid_parts valid).each t.job
      (subst (IsMember t.job) it.keeps.jobs (map_member (λ (u : Task). u.job) last.tasks t member))

  -- and is one with what it had, where it is done
  observing_job : (t : Task) → IsMember t last.tasks → IsJob (observing t)
  observing_job t member = by_done (is_done t) refl where
    by_done : (b : Bool) → is_done t ≡ b → IsJob (record {
      release = t.job.release;
      work = cond b t.had t.job.work;
      deadline = t.job.deadline;
      value = t.job.value;
    })
    by_done false not = was_job t member
    by_done true is =
        let job : IsJob t.job = was_job t member in
        let had : t.had ≡ need J.rules.finishes t.number t.job.work =
        (it.served t member).done (done_role t (it.over t member) is) in
        job_from (record {
          work = omega (arith, had, need_some J.rules.finishes t.number t.job.work (job_limits job).work);
          small = omega (arith, (job_limits job).small, it.keeps.sound.at_most_work t member);
          window = omega (arith, (job_limits job).window, it.keeps.sound.at_most_work t member);
          due = (job_limits job).due;
          worth = (job_limits job).worth;
          modest = (job_limits job).modest;
        })

  -- each observed job is one
  pub observed_jobs : Each IsJob (observed J).jobs
  observed_jobs = subst (Each IsJob) (sym jobs_are) (on_map observing IsJob last.tasks observing_job)

  -- they are in order
  pub observed_in_order : IsInOrder (observed J).jobs
  observed_in_order = order_from (subst ReleasesInOrder (sym jobs_are)
      (observing_in_order last.tasks (subst ReleasesInOrder (sym it.keeps.jobs) (valid_parts valid).in_order)))

  -- as many, and worth as much
  pub observed_count : length (observed J).jobs ≡ length J.jobs
  observed_count = ap length jobs_are ∙ observing_count last.tasks ∙ ap length it.keeps.jobs

  pub observed_total : total_value (observed J).jobs ≡ total_value J.jobs
  observed_total = ap total_value jobs_are ∙ observing_total last.tasks ∙ ap total_value it.keeps.jobs

  -- and due as late
  pub observed_due : last_deadline (observed J).jobs ≡ last_deadline J.jobs
  observed_due = ap last_deadline jobs_are ∙ observing_due 0 last.tasks ∙ ap last_deadline it.keeps.jobs

  -- one that the run completes is served by the run's own schedule
  pub completed_served : Each (λ (n_j : Job). is_completed J n_j.0 ≡ true → is_served (ran J) n_j ≡ true)
      (numbered (observed J))
  completed_served = subst (λ js. Each (λ (n_j : Job). is_completed J n_j.0 ≡ true → is_served (ran J) n_j ≡ true)
      (enumerate_from 0 js)) (sym jobs_are)
      (each_observed (λ (n_j : Job). is_completed J n_j.0 ≡ true → is_served (ran J) n_j ≡ true) 0 last.tasks
      it.keeps.sound.numbered
      (λ t member completed. le-leb (cond (is_done t) t.had t.job.work) (ticks_given (ran J) t.number t.job)
      (omega (
        arith,
        it.gave.had t member,
        ap (λ b. cond b t.had t.job.work) (told_last t member ∙ completed),
      ))))

  module _ (done : List Bool) (flags : (n : ℕ) → n < length J.jobs → get_or done n false ≡ is_completed J n)
      (hs : List ℕ) (are : hs ≡ served J) (jobs : List JobFacts) (same : jobs ≡ J.jobs) where
    -- what each had
    had_here : (t : Task) → IsMember t last.tasks → get_or hs t.number 0 ≡ t.had
    had_here t member = ap (λ ns. get_or ns t.number 0)
        (are ∙ ap (λ (s : State). map (λ (u : Task). u.had) s.tasks) ends)
        ∙ had_at 0 last.tasks it.keeps.sound.numbered t member t.number (omega arith)

    -- whether each is done
    done_here : (t : Task) → IsMember t last.tasks → get_or done t.number false ≡ is_done t
    done_here t member = flags t.number (numbers_below J last it.keeps t member) ∙ sym (told_last t member)

    -- so each is seen as it was observed
    seen_here : (t : Task) → IsMember t last.tasks → job_seen done hs (t.number, t.job) ≡ observing t
    seen_here t member = ap (λ b. cond b (with_work (get_or hs t.number 0) t.job) t.job) (done_here t member)
        ∙ ap (λ h. cond (is_done t) (with_work h t.job) t.job) (had_here t member)
        ∙ by_done (is_done t) refl where
          by_done : (b : Bool) → is_done t ≡ b → cond b (with_work t.had t.job) t.job ≡ observing t
          by_done false not = sym (ap (λ n. of_work n t.job) (ap (λ b. cond b t.had t.job.work) not))
          by_done true is =
              work_some t.had t.job
              (subst (λ b. IsJob (of_work (cond b t.had t.job.work) t.job)) is (observing_job t member))
              ∙ sym (ap (λ n. of_work n t.job) (ap (λ b. cond b t.had t.job.work) is))

    -- and all are
    pub seen_observed : jobs_seen done hs jobs ≡ (observed J).jobs
    seen_observed = ap (λ js. jobs_seen done hs js) (same ∙ sym it.keeps.jobs)
        ∙ seen_all done hs 0 last.tasks it.keeps.sound.numbered seen_here ∙ sym jobs_are
