-- What is shown by a job that can't be done in time, and which jobs are served.
use Rattle.std.proofs.Common.{◌≡◌, ℕ, ◌+◌, ◌≤◌, ◌<◌, ◌⊎◌, inl, inr, List, ◌++◌, map, drop, replicate, min, refl, sym}
use Rattle.std.proofs.Common.{ap, ◌∙◌, subst, Bool, true, false, cond, eqb, arith, IsTrue, Option, nat_le, nat_lt, Some}
use Rattle.std.proofs.Common.{None, le-leb, leb-true, lt-ltb, le-ltb, length-append}
use Rattle.std.proofs.lemmas.Bool.{and_from, cases_lt}
use Rattle.std.proofs.lemmas.List.{length-replicate}
use Rattle.dover_model.specs.Common.{JobFacts, IsJob, is_served, ticks_given, left, IsMember, is_inside, work_inside}
use Rattle.dover_model.specs.declared.events.Task.{Task}
use Rattle.dover_model.proofs.lists.Members.{on_map, map_member}
use Rattle.dover_model.proofs.steps.Loads.{sum_change}
use Rattle.dover_model.proofs.runs.Serving.{demand_in}
use Rattle.clairvoyant.specs.feasible.Progress.{had_inside, IsBusy, HasCome, IsLateBy, with_late, IsShown, AreServed}
use Rattle.clairvoyant.proofs.feasible.EarliestFirst.{had_more, given_ticks, by_given, Leads}
use Rattle.clairvoyant.proofs.feasible.Shares.{named, run_adds, whole_window, given_grows}
use Rattle.clairvoyant.proofs.feasible.Coming.{leader}
use Rattle.clairvoyant.proofs.feasible.Overfull.{work_of_tasks}
use Rattle.dover_model.proofs.valid.JobLimits.{job_limits}

-- ---- the late deadline

-- what was late stays late
pub late_stays : (late : Option ℕ) (due done d : ℕ) → IsLateBy late d → IsLateBy (with_late late due done) d
late_stays None due done d no_late = absurd no_late
late_stays (Some b) due done d low = by_test (nat_lt due done) where
  by_test : (x : Bool) → IsLateBy (cond x (Some (min b due)) (Some b)) d
  by_test true = omega (arith, low)
  by_test false = low

-- a deadline that can't be met is late
pub late_now : (late : Option ℕ) (due done : ℕ) → due < done → IsLateBy (with_late late due done) due
late_now None due done late =
    subst (λ b. IsLateBy (cond b (Some due) None) due) (sym (lt-ltb due done late)) (omega arith)
late_now (Some b) due done late =
    subst (λ x. IsLateBy (cond x (Some (min b due)) (Some b)) due) (sym (lt-ltb due done late)) (omega arith)

-- what is shown stays shown
pub shown_on : (jobs : List JobFacts) (late : Option ℕ) (due done : ℕ) → IsShown jobs late
    → (due < done → IsShown jobs (Some due))
    → IsShown jobs (with_late late due done)
shown_on jobs None due done old shows = by_test (cases_lt due done) where
  by_test : (due < done) ⊎ (done ≤ due) → IsShown jobs (with_late None due done)
  by_test (inl late) = subst (λ b. IsShown jobs (cond b (Some due) None)) (sym (lt-ltb due done late)) (shows late)
  by_test (inr met) = subst (λ b. IsShown jobs (cond b (Some due) None)) (sym (le-ltb due done met)) tt
shown_on jobs (Some b) due done old shows = elim (cases_lt due done) [
  | inl late ↦ subst (λ x. IsShown jobs (cond x (Some (min b due)) (Some b))) (sym (lt-ltb due done late))
      (by_least late (cases_lt b due))
  | inr met ↦ subst (λ x. IsShown jobs (cond x (Some (min b due)) (Some b))) (sym (le-ltb due done met)) old
] where
  by_least : due < done → (b < due) ⊎ (due ≤ b) → IsShown jobs (Some (min b due))
  by_least late (inl less) = subst (λ x. IsShown jobs (Some x)) (let same : b ≡ min b due = omega arith in same) old
  by_least late (inr more) =
      subst (λ x. IsShown jobs (Some x)) (let same : due ≡ min b due = omega arith in same) (shows late)

-- ---- an overfull window

module _ (jobs : List JobFacts) (clock : ℕ) (s : List ℕ) (tasks : List Task) (come : HasCome jobs clock s tasks)
    (t : Task)
    (member : IsMember t tasks) (is_job : IsJob t.job) (some : 1 ≤ left t)
    (late : t.job.deadline < clock + left t) where
  -- the window to its deadline
  abbrev w : IsBusy t.job.deadline clock tasks
  w = come.busy t.job.deadline

  -- the job is released in it
  since : w.since ≤ t.job.release
  since = elim (cases_lt t.job.release w.since) [
    | inl early ↦ absurd (let none : left t ≡ 0 = w.clean t member early (omega arith) in omega (arith, none))
    | inr low ↦ low
  ]

  -- the job is inside
  is_in : is_inside w.since t.job.deadline t.job ≡ true
  is_in = and_from (nat_le w.since t.job.release) (nat_le t.job.deadline t.job.deadline) (le-leb _ _ since)
      (le-leb _ _ (omega arith))

  -- what the jobs inside have had, and what this one has left, is at most their work
  work_most : had_inside w.since t.job.deadline tasks + left t ≤ demand_in w.since t.job.deadline tasks + 0
  work_most = sum_change (λ u. cond (is_inside w.since t.job.deadline u.job) u.had 0)
      (λ u. cond (is_inside w.since t.job.deadline u.job) u.job.work 0)
      (left t) 0 0 tasks t come.numbered member here others where
        here : cond (is_inside w.since t.job.deadline t.job) t.had 0 + left t ≤ cond
            (is_inside w.since t.job.deadline t.job) t.job.work 0 + 0
        here = subst (λ b. cond b t.had 0 + left t ≤ cond b t.job.work 0 + 0) (sym is_in)
            (omega (arith, come.at_most t member))

        by_in : (b : Bool) (u : Task) → u.had ≤ u.job.work → cond b u.had 0 ≤ cond b u.job.work 0
        by_in true u most = most
        by_in false u most = omega arith

        others : (u : Task) → IsMember u tasks → (u.number ≡ t.number → ⊥)
            → cond (is_inside w.since t.job.deadline u.job) u.had 0 ≤ cond
            (is_inside w.since t.job.deadline u.job) u.job.work 0
        others u mu _ = by_in (is_inside w.since t.job.deadline u.job) u (come.at_most u mu)

  -- where a job can't be done in time, a window to its deadline is overfull
  pub late_shows : IsShown jobs (Some t.job.deadline)
  late_shows =
      let sums : work_inside jobs w.since t.job.deadline ≡ demand_in w.since t.job.deadline tasks =
      work_of_tasks jobs tasks w.since t.job.deadline come.of_jobs in
      let filled : clock ≤ w.since + had_inside w.since t.job.deadline tasks = w.filled in
      let in_jobs : IsMember t.job jobs = subst (λ (js : List JobFacts). IsMember t.job js) come.of_jobs (map_member (λ
      (u : Task). u.job) tasks t member) in (
        (t.job, in_jobs, refl),
        (
          w.since,
          record {
            window = omega (arith, since, (job_limits is_job).window);
            work = refl;
            too_much = omega (arith, late, sums, filled, work_most);
          },
        ),
      )

-- ---- served jobs

-- a served job stays served
pub served_on : (s more : List ℕ) (n : ℕ) (j : JobFacts) → IsTrue (is_served s (n, j))
    → IsTrue (is_served (s ++ more) (n, j))
served_on s more n j served =
    let low : j.work ≤ ticks_given s n j = leb-true _ _ served in
    le-leb j.work (ticks_given (s ++ more) n j) (omega (arith, given_grows (λ m. eqb m n) j.release j.deadline s more))

-- while a job runs, each that is done is served or late
pub served_run : (jobs : List JobFacts) (clock : ℕ) (s : List ℕ) (tasks : List Task) (come : HasCome jobs clock s tasks)
    (k m : ℕ) (some : 1 ≤ k)
    (lead : Leads k m clock tasks) (late : Option ℕ) → AreServed late s tasks
    → AreServed (with_late late lead.task.job.deadline (clock + left lead.task)) (s ++ replicate k m)
    (map (given_ticks k m) tasks)
served_run jobs clock s tasks come k m some lead late served =
    on_map (given_ticks k m)
    (λ t. left t ≡ 0 → IsTrue (is_served (s ++ replicate k m) (t.number, t.job))
    ⊎ IsLateBy (with_late late lead.task.job.deadline (clock + left lead.task)) t.job.deadline)
    tasks (λ u member. by_given
    (λ t. left t ≡ 0 → IsTrue (is_served (s ++ replicate k m) (t.number, t.job))
    ⊎ IsLateBy (with_late late lead.task.job.deadline (clock + left lead.task)) t.job.deadline) k m u
    (λ same done. here u member same (leader jobs clock s tasks come k m some lead u member same) done
    (cases_lt u.job.deadline (clock + k)))
    (λ other done. still u (served u member done))) where
      still : (u : Task) → IsTrue (is_served s (u.number, u.job)) ⊎ IsLateBy late u.job.deadline
          → IsTrue (is_served (s ++ replicate k m) (u.number, u.job))
          ⊎ IsLateBy (with_late late lead.task.job.deadline (clock + left lead.task)) u.job.deadline
      still u (inl it) = inl (served_on s (replicate k m) u.number u.job it)
      still u (inr it) = inr (late_stays late lead.task.job.deadline (clock + left lead.task) u.job.deadline it)

      here : (u : Task) → IsMember u tasks → u.number ≡ m → u ≡ lead.task → left (had_more k u) ≡ 0
          → (u.job.deadline < clock + k) ⊎ (clock + k ≤ u.job.deadline)
          → IsTrue (is_served (s ++ replicate k m) (u.number, u.job))
          ⊎ IsLateBy (with_late late lead.task.job.deadline (clock + left lead.task)) u.job.deadline
      here u member same is done (inl behind) =
          inr (subst (λ (v : Task). IsLateBy (with_late late v.job.deadline (clock + left v)) u.job.deadline) is
          (late_now late u.job.deadline (clock + left u)
          (let long : k ≤ left u = subst (λ (v : Task). k ≤ left v) (sym is) lead.long in omega arith)))
      here u member same is done (inr met) =
          let low : u.job.release ≤ clock = subst (λ (v : Task). v.job.release ≤ clock) (sym is) lead.released in
          let all : named u.number (drop u.job.release (s ++ replicate k m)) ≡ u.had + k =
          subst (λ n. named u.number (drop u.job.release (s ++ replicate k n)) ≡ u.had + k) same
          (run_adds u.number u.job.release k s (omega (arith, come.ticks)) ∙ ap (λ h. h + k) (come.had u member)) in
          let whole : ticks_given (s ++ replicate k m) u.number u.job ≡ named u.number
          (drop u.job.release (s ++ replicate k m)) =
          whole_window u.number u.job.release u.job.deadline (s ++ replicate k m)
          (omega (arith, length-append s (replicate k m), length-replicate k m, come.ticks)) in
          inl (le-leb u.job.work (ticks_given (s ++ replicate k m) u.number u.job) (omega (arith, done, all, whole)))

-- idle ticks leave them served
pub served_idle : (s more : List ℕ) (tasks : List Task) (late : Option ℕ) → AreServed late s tasks
    → AreServed late (s ++ more) tasks
served_idle s more tasks late served u member done =
    elim (served u member done) [ inl it ↦ inl (served_on s more u.number u.job it) | inr it ↦ inr it ]
