-- What the schedule by earliest deadline comes to, over many ticks in which one job runs, or none.
use Rattle.std.proofs.Common.{◌≡◌, ℕ, ◌+◌, ◌-◌, ◌≤◌, ◌<◌, ◌⊎◌, inl, inr, List, ◌++◌, map, drop, replicate, refl, sym}
use Rattle.std.proofs.Common.{ap, ◌∙◌, subst, Bool, true, false, cond, arith, append_assoc, nat_le, sum_by, le-leb}
use Rattle.std.proofs.Common.{length-append}
use Rattle.std.proofs.lemmas.Bool.{and_from, cases_lt}
use Rattle.std.proofs.lemmas.List.{length-replicate}
use Rattle.dover_model.specs.Common.{idle, JobFacts, left, IsMember, Each, IsNumberedFrom, jobs_of, is_inside, edf_from}
use Rattle.dover_model.specs.Common.{last_release}
use Rattle.dover_model.specs.declared.events.Task.{Task}
use Rattle.dover_model.proofs.lists.Members.{on_map, map_map, map_same, sum_map, term_le_sum}
use Rattle.dover_model.proofs.steps.Roles.{one_number, numbered_map}
use Rattle.dover_model.proofs.steps.Loads.{sum_change}
use Rattle.clairvoyant.specs.feasible.Progress.{had_inside, IsBusy, HasCome}
use Rattle.clairvoyant.proofs.feasible.EarliestFirst.{given_ticks, by_given, IsBehind, Leads, Rests, edf_run, edf_idle}
use Rattle.clairvoyant.proofs.feasible.Shares.{named, run_adds, other_adds_none}

-- ---- one job runs

module _ (jobs : List JobFacts) (clock : ℕ) (s : List ℕ) (tasks : List Task) (come : HasCome jobs clock s tasks)
    (k m : ℕ) (some : 1 ≤ k)
    (lead : Leads k m clock tasks) where
  -- the tasks with these ticks
  abbrev next : List Task
  next = map (given_ticks k m) tasks

  -- the task of the number is the one that leads
  pub leader : (u : Task) → IsMember u tasks → u.number ≡ m → u ≡ lead.task
  leader u member same = one_number 0 tasks come.numbered u lead.task member lead.member (same ∙ sym lead.number)

  -- in every task its number stays
  pub next_numbered : IsNumberedFrom 0 next
  next_numbered = numbered_map (given_ticks k m)
      (λ t. by_given (λ u. u.number ≡ t.number) k m t (λ _. refl) (λ _. refl)) 0 tasks come.numbered

  -- and its job
  next_jobs : jobs_of next ≡ jobs
  next_jobs = map_map (λ (t : Task). t.job) (given_ticks k m) tasks
      ∙ map_same (λ t. (given_ticks k m t).job) (λ (t : Task). t.job) tasks
      (λ t _. by_given (λ u. u.job ≡ t.job) k m t (λ _. refl) (λ _. refl)) ∙ come.of_jobs

  -- no job has had more than its work
  next_at_most : Each (λ t. t.had ≤ t.job.work) next
  next_at_most = on_map (given_ticks k m) (λ t. t.had ≤ t.job.work) tasks
      (λ u member. by_given (λ v. v.had ≤ v.job.work) k m u (λ same. here u member (leader u member same))
      (λ _. come.at_most u member)) where
        here : (u : Task) → IsMember u tasks → u ≡ lead.task → u.had + k ≤ u.job.work
        here u member same = let long : k ≤ left u = subst (λ (v : Task). k ≤ left v) (sym same) lead.long in
            omega (arith, come.at_most u member)

  -- what the jobs have had
  next_had : Each (λ t. named t.number (drop t.job.release (s ++ replicate k m)) ≡ t.had) next
  next_had = on_map (given_ticks k m) (λ t. named t.number (drop t.job.release (s ++ replicate k m)) ≡ t.had) tasks
      (λ u member. by_given (λ v. named v.number (drop v.job.release (s ++ replicate k m)) ≡ v.had) k m u
      (λ same. here u member same (leader u member same))
      (λ other. other_adds_none u.number m u.job.release k s (λ e. other (sym e)) ∙ come.had u member)) where
        here : (u : Task) → IsMember u tasks → u.number ≡ m → u ≡ lead.task
            → named u.number (drop u.job.release (s ++ replicate k m)) ≡ u.had + k
        here u member same is =
            let low : u.job.release ≤ clock = subst (λ (v : Task). v.job.release ≤ clock) (sym is) lead.released in
            subst (λ n. named u.number (drop u.job.release (s ++ replicate k n)) ≡ u.had + k) same
            (run_adds u.number u.job.release k s (omega (arith, come.ticks)) ∙ ap (λ h. h + k) (come.had u member))

  -- what is left falls by these ticks
  left_falls : sum_by left next + k ≤ sum_by left tasks
  left_falls =
      let sums : sum_by left next ≡ sum_by (λ t. left (given_ticks k m t)) tasks =
      sum_map (given_ticks k m) left tasks in
      let less : sum_by (λ t. left (given_ticks k m t)) tasks + k ≤ sum_by left tasks + 0 =
      sum_change (λ t. left (given_ticks k m t)) left k 0 0 tasks lead.task come.numbered lead.member here others in
      omega arith where
        here : left (given_ticks k m lead.task) + k ≤ left lead.task + 0
        here = by_given (λ v. left v + k ≤ left lead.task + 0) k m lead.task (λ _. omega (arith, lead.long))
            (λ other. absurd (other lead.number))

        others : (u : Task) → IsMember u tasks → (u.number ≡ lead.task.number → ⊥) → left (given_ticks k m u) ≤ left u
        others u member _ = by_given (λ v. left v ≤ left u) k m u (λ _. omega arith) (λ _. omega arith)

  -- where the job is due in the window, it goes on
  busy_on : (d : ℕ) → lead.task.job.deadline ≤ d → IsBusy d (clock + k) next
  busy_on d due = record {
    since = w.since;
    past = omega (arith, w.past);
    filled = filled;
    clean = on_map (given_ticks k m) (λ t. t.job.release < w.since → t.job.deadline ≤ d → left t ≡ 0) tasks
        (λ u member. by_given (λ t. t.job.release < w.since → t.job.deadline ≤ d → left t ≡ 0) k m u
        (λ same early _. absurd (not_early
        (subst (λ (v : Task). v.job.release < w.since) (leader u member same) early)))
        (λ _. w.clean u member));
  } where
    w : IsBusy d clock tasks
    w = come.busy d

    not_early : lead.task.job.release < (come.busy d).since → ⊥
    not_early early = let none : left lead.task ≡ 0 = (come.busy d).clean lead.task lead.member early due in
        omega (arith, lead.long)

    since : (lead.task.job.release < (come.busy d).since) ⊎ ((come.busy d).since ≤ lead.task.job.release)
        → (come.busy d).since ≤ lead.task.job.release
    since (inl early) = absurd (not_early early)
    since (inr low) = low

    is_in : is_inside (come.busy d).since d lead.task.job ≡ true
    is_in = and_from (nat_le (come.busy d).since lead.task.job.release) (nat_le lead.task.job.deadline d)
        (le-leb _ _ (since (cases_lt lead.task.job.release (come.busy d).since))) (le-leb _ _ due)

    part : Task → ℕ
    part t = cond (is_inside (come.busy d).since d t.job) t.had 0

    here : cond (is_inside (come.busy d).since d lead.task.job) lead.task.had 0 + k
        ≤ cond (is_inside (come.busy d).since d (given_ticks k m lead.task).job) (given_ticks k m lead.task).had 0 + 0
    here = by_given (λ v. cond (is_inside (come.busy d).since d lead.task.job) lead.task.had 0 + k
        ≤ cond (is_inside (come.busy d).since d v.job) v.had 0 + 0) k m lead.task
        (λ _. subst (λ b. cond b lead.task.had 0 + k ≤ cond b (lead.task.had + k) 0 + 0) (sym is_in) (omega arith))
        (λ other. absurd (other lead.number))

    more_in : (b : Bool) (h : ℕ) → cond b h 0 ≤ cond b (h + k) 0
    more_in true h = omega arith
    more_in false h = omega arith

    others : (u : Task) → IsMember u tasks → (u.number ≡ lead.task.number → ⊥)
        → cond (is_inside (come.busy d).since d u.job) u.had 0
        ≤ cond (is_inside (come.busy d).since d (given_ticks k m u).job) (given_ticks k m u).had 0
    others u member _ = by_given
        (λ v. cond (is_inside (come.busy d).since d u.job) u.had 0 ≤ cond
        (is_inside (come.busy d).since d v.job) v.had 0)
        k m u (λ _. more_in (is_inside (come.busy d).since d u.job) u.had) (λ _. omega arith)

    filled : clock + k ≤ (come.busy d).since + had_inside (come.busy d).since d next
    filled =
        let old : clock ≤ (come.busy d).since + had_inside (come.busy d).since d tasks = (come.busy d).filled in
        let sums : had_inside (come.busy d).since d next
        ≡ sum_by (λ t. cond (is_inside (come.busy d).since d (given_ticks k m t).job) (given_ticks k m t).had 0) tasks =
        sum_map (given_ticks k m) (λ t. cond (is_inside (come.busy d).since d t.job) t.had 0) tasks in
        let more : had_inside (come.busy d).since d tasks + k
        ≤ sum_by (λ t. cond (is_inside (come.busy d).since d (given_ticks k m t).job) (given_ticks k m t).had 0) tasks
        + 0 =
        sum_change (λ t. cond (is_inside (come.busy d).since d t.job) t.had 0)
        (λ t. cond (is_inside (come.busy d).since d (given_ticks k m t).job) (given_ticks k m t).had 0) k 0 0 tasks
        lead.task come.numbered
        lead.member here others in
        omega arith

  -- where it is due later, no job that is released is due in the window and not done
  busy_anew : (d : ℕ) → d < lead.task.job.deadline → IsBusy d (clock + k) next
  busy_anew d late = record {
    since = clock + k;
    past = omega arith;
    filled = omega arith;
    clean = on_map (given_ticks k m) (λ t. t.job.release < clock + k → t.job.deadline ≤ d → left t ≡ 0) tasks
        (λ u member. by_given (λ t. t.job.release < clock + k → t.job.deadline ≤ d → left t ≡ 0) k m u
        (λ same _ due. absurd (let low : lead.task.job.deadline ≤ d =
        subst (λ (v : Task). v.job.deadline ≤ d) (leader u member same) due in
        omega (arith, late)))
        (λ other early due. done u other early due (lead.first u member)));
  } where
    done : (u : Task) → (u.number ≡ m → ⊥) → u.job.release < clock + k → u.job.deadline ≤ d
        → (u.number ≡ m) ⊎ ((left u ≡ 0) ⊎ ((clock + k ≤ u.job.release) ⊎ IsBehind lead.task.job.deadline m u))
        → left u ≡ 0
    done u other early due (inl same) = absurd (other same)
    done u other early due (inr (inl none)) = none
    done u other early due (inr (inr (inl later))) = absurd (omega arith)
    done u other early due (inr (inr (inr (inl behind)))) = absurd (omega arith)
    done u other early due (inr (inr (inr (inr behind)))) = absurd (omega (arith, behind.0))

  -- each window
  next_busy : (d : ℕ) → IsBusy d (clock + k) next
  next_busy d = elim (cases_lt d lead.task.job.deadline) [ inl late ↦ busy_anew d late | inr due ↦ busy_on d due ]

  -- k ticks on
  pub come_run : HasCome jobs (clock + k) (s ++ replicate k m) next
  come_run =
      let some_left : left lead.task ≤ sum_by left tasks = term_le_sum left tasks lead.task lead.member in
      let split : come.more ≡ k + (come.more - k) = omega (arith, come.enough, lead.long) in
      record {
        numbered = next_numbered;
        of_jobs = next_jobs;
        at_most = next_at_most;
        had = next_had;
        ticks = omega (arith, length-append s (replicate k m), length-replicate k m, come.ticks);
        more = come.more - k;
        rest = come.rest ∙ ap (λ xs. s ++ xs)
            (edf_run k come.more (come.more - k) clock m tasks come.numbered split lead)
            ∙ sym (append_assoc s (replicate k m) (edf_from (come.more - k) (clock + k) next));
        enough = omega (arith, come.enough, left_falls);
        busy = next_busy;
      }

-- ---- no job runs

-- k idle ticks on
pub come_idle : (jobs : List JobFacts) (clock : ℕ) (s : List ℕ) (tasks : List Task) → HasCome jobs clock s tasks
    → (k : ℕ) → Rests k clock tasks
    → clock + k ≤ last_release jobs → HasCome jobs (clock + k) (s ++ replicate k idle) tasks
come_idle jobs clock s tasks come k rests before =
    let split : come.more ≡ k + (come.more - k) = omega (arith, come.enough, before) in
    record {
      numbered = come.numbered;
      of_jobs = come.of_jobs;
      at_most = come.at_most;
      had = λ u member. other_adds_none u.number idle u.job.release k s (λ e. rests.named u member (sym e))
          ∙ come.had u member;
      ticks = omega (arith, length-append s (replicate k idle), length-replicate k idle, come.ticks);
      more = come.more - k;
      rest = come.rest ∙ ap (λ xs. s ++ xs) (edf_idle k come.more (come.more - k) clock tasks split rests)
          ∙ sym (append_assoc s (replicate k idle) (edf_from (come.more - k) (clock + k) tasks));
      enough = omega (arith, come.enough, before);
      busy = λ d. record {
        since = clock + k;
        past = omega arith;
        filled = omega arith;
        clean = λ u member early due. done u early (rests.none u member);
      };
    } where
      done : (u : Task) → u.job.release < clock + k → (left u ≡ 0) ⊎ (clock + k ≤ u.job.release) → left u ≡ 0
      done u early (inl none) = none
      done u early (inr later) = absurd (omega arith)
