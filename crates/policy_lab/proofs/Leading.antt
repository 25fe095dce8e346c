-- A policy's run over many ticks in which one job runs, or none.
use Rattle.std.proofs.Common.{◌≡◌, ℕ, zero, suc, ◌+◌, ◌≤◌, ◌<◌, ◌⊎◌, inl, inr, List, [], ◌∷◌, ◌++◌, length, map}
use Rattle.std.proofs.Common.{replicate, refl, sym, ap, ◌∙◌, subst, cond, arith, eqb, add-one, filter}
use Rattle.std.proofs.Common.{append_assoc, append-nil, Option, Some, None, unwrap_or}
use Rattle.std.proofs.lemmas.List.{replicate_more}
use Rattle.dover_model.specs.Common.{JobFacts, IsJob, entry_of, left, IsMember, Each, idle, given}
use Rattle.dover_model.specs.declared.events.Task.{Task}
use Rattle.dover_model.specs.declared.events.Entry.{Entry}
use Rattle.dover_model.proofs.lists.Members.{by_bool, filter_member, map_member, on_map, map_map, map_same, map_self}
use Rattle.dover_model.proofs.steps.Roles.{one_number}
use Rattle.dover_model.proofs.valid.JobLimits.{job_limits}
use Rattle.clairvoyant.proofs.feasible.EarliestFirst.{had_more, given_ticks, by_given, given_here, given_other}
use Rattle.policy_lab.specs.Picks.{Picks, IsPick}
use Rattle.policy_lab.specs.Ranks.{IsEntry, IsRanked, turn_by}
use Rattle.policy_lab.specs.PolicyRun.{is_ready, picked}
use Rattle.policy_lab.specs.Bench.{tasks_at, schedule_before, last_at}
use Rattle.policy_lab.specs.Counts.{stops}
use Rattle.policy_lab.proofs.Counting.{stopped_at, stops_next, stops_none}
use Rattle.policy_lab.proofs.Given.{ready_says, says_ready}
use Rattle.policy_lab.proofs.Entries.{each_entry}
use Rattle.policy_lab.proofs.Onlines.{none_ready}
use Rattle.policy_lab.proofs.Runs.{numbered_at, good_at, low_numbers}

-- The job of number m leads for k ticks: it is ready, with so much work left, and each other one comes later, or isn't
-- ready, or has a greater turn.
pub record Leads (ranks : Entry → ℕ) (k m t : ℕ) (tasks : List Task) : Type 0 where
  pub task : Task
  pub member : IsMember task tasks
  pub number : task.number ≡ m
  pub released : task.job.release ≤ t
  pub long : k ≤ left task
  pub fits : t + left task ≤ task.job.deadline
  pub ahead : Each (λ u. (u.number ≡ m) ⊎ ((t + k ≤ u.job.release) ⊎ ((left u ≡ 0) ⊎ ((u.job.deadline < t + left u)
      ⊎ (turn_by ranks (entry_of task) < turn_by ranks (entry_of u)))))) tasks

-- for fewer ticks too
leads_less : (ranks : Entry → ℕ) (j k m t : ℕ) (tasks : List Task) → j ≤ k → Leads ranks k m t tasks
    → Leads ranks j m t tasks
leads_less ranks j k m t tasks less it = record {
  task = it.task;
  member = it.member;
  number = it.number;
  released = it.released;
  long = omega (arith, it.long, less);
  fits = it.fits;
  ahead = λ u member. by_case u (it.ahead u member);
} where
  by_case : (u : Task) → (u.number ≡ m) ⊎ ((t + k ≤ u.job.release) ⊎ ((left u ≡ 0) ⊎ ((u.job.deadline < t + left u)
      ⊎ (turn_by ranks (entry_of it.task) < turn_by ranks (entry_of u)))))
      → (u.number ≡ m) ⊎ ((t + j ≤ u.job.release) ⊎ ((left u ≡ 0) ⊎ ((u.job.deadline < t + left u)
      ⊎ (turn_by ranks (entry_of it.task) < turn_by ranks (entry_of u)))))
  by_case u (inl same) = inl same
  by_case u (inr (inl later)) = inr (inl (omega (arith, later, less)))
  by_case u (inr (inr rest)) = inr (inr rest)

-- after j ticks it leads for the others
leads_after : (picks : Picks) (ranks : Entry → ℕ) → IsRanked picks ranks → (j k m t : ℕ) (tasks : List Task)
    → (it : Leads ranks (j + k) m t tasks) → 1 ≤ it.task.job.value
    → Leads ranks k m (t + j) (map (given_ticks j m) tasks)
leads_after picks ranks ranked j k m t tasks it worth = record {
  task = had_more j it.task;
  member = subst (λ (u : Task). IsMember u (map (given_ticks j m) tasks)) (given_here j m it.task it.number)
      (map_member (given_ticks j m) tasks it.task it.member);
  number = it.number;
  released = omega (arith, it.released);
  long = omega (arith, it.long);
  fits = omega (arith, it.fits, it.long);
  ahead = on_map (given_ticks j m)
      (λ u. (u.number ≡ m) ⊎ ((t + j + k ≤ u.job.release) ⊎ ((left u ≡ 0) ⊎ ((u.job.deadline < t + j + left u)
      ⊎ (turn_by ranks (entry_of (had_more j it.task)) < turn_by ranks (entry_of u))))))
      tasks
      (λ u member. by_given (λ v. (v.number ≡ m) ⊎ ((t + j + k ≤ v.job.release) ⊎ ((left v ≡ 0)
      ⊎ ((v.job.deadline < t + j + left v)
      ⊎ (turn_by ranks (entry_of (had_more j it.task)) < turn_by ranks (entry_of v)))))) j m u
      (λ same. inl same) (λ other. still u (it.ahead u member)));
} where
  lower : ranks (entry_of (had_more j it.task)) ≤ ranks (entry_of it.task)
  lower = ranked.falls (entry_of it.task) (entry_of (had_more j it.task)) refl refl worth (omega arith)

  still : (u : Task) → (u.number ≡ m) ⊎ ((t + (j + k) ≤ u.job.release) ⊎ ((left u ≡ 0)
      ⊎ ((u.job.deadline < t + left u) ⊎ (turn_by ranks (entry_of it.task) < turn_by ranks (entry_of u)))))
      → (u.number ≡ m) ⊎ ((t + j + k ≤ u.job.release) ⊎ ((left u ≡ 0) ⊎ ((u.job.deadline < t + j + left u)
      ⊎ (turn_by ranks (entry_of (had_more j it.task)) < turn_by ranks (entry_of u)))))
  still u (inl same) = inl same
  still u (inr (inl later)) = inr (inl (omega (arith, later)))
  still u (inr (inr (inl done))) = inr (inr (inl done))
  still u (inr (inr (inr (inl late)))) = inr (inr (inr (inl (omega (arith, late)))))
  still u (inr (inr (inr (inr behind)))) = inr (inr (inr (inr (omega (arith, behind, lower)))))

-- a tick more of so many
given_after : (k m : ℕ) (t : Task) → given m (given_ticks k m t) ≡ given_ticks (suc k) m t
given_after k m t = by_bool _ (eqb t.number m)
    (λ e. ap (λ b. given m (cond b (had_more k t) t)) e
    ∙ ap (λ b. cond b (had_more 1 (had_more k t)) (had_more k t)) e
    ∙ ap (λ h. record t { had = h }) (let same : t.had + k + 1 ≡ t.had + suc k = omega arith in same)
    ∙ sym (ap (λ b. cond b (had_more (suc k) t) t) e))
    (λ e. ap (λ b. given m (cond b (had_more k t) t)) e
    ∙ ap (λ b. cond b (had_more 1 t) t) e
    ∙ sym (ap (λ b. cond b (had_more (suc k) t) t) e))

-- For k ticks no job is ready.
abbrev pub Rests : (k t : ℕ) → List Task → Type 0
Rests k t tasks = Each (λ u. (t + k ≤ u.job.release) ⊎ ((left u ≡ 0) ⊎ (u.job.deadline < t + left u))) tasks

module _ (picks : Picks) (ranks : Entry → ℕ) (ranked : IsRanked picks ranks) (jobs : List JobFacts)
    (good : Each IsJob jobs) (count : length jobs ≤ 1_000_000) where
  -- an entry of a job with work left is within the limits
  pub within : (t : ℕ) → Each (λ u. 0 < left u → IsEntry (entry_of u)) (tasks_at picks jobs t)
  within t u member some = record {
    some = omega (arith, some);
    small = omega (arith, (job_limits job).small);
    fits = omega (arith, (job_limits job).window);
    due = (job_limits job).due;
    worth = (job_limits job).worth;
    modest = (job_limits job).modest;
    few = omega (arith, low_numbers picks jobs ranked.policy count t u member);
  } where
    job : IsJob u.job
    job = good_at picks jobs good t u member

  -- what leads is picked
  leads_picked : (k m t : ℕ) → Leads ranks (suc k) m t (tasks_at picks jobs t)
      → picked picks t (tasks_at picks jobs t) ≡ m
  leads_picked k m t it =
      ap (λ o. unwrap_or o 4_000_000_000)
      (ranked.least (entry_of it.task) (map entry_of (filter (is_ready t) tasks))
      (each_entry IsEntry t tasks (λ u member ready. within t u member (ready_says t u ready).1))
      (map_member entry_of (filter (is_ready t) tasks) it.task
      (filter_member (is_ready t) tasks it.task it.member
      (says_ready t it.task it.released (omega (arith, it.long)) it.fits)))
      (each_entry (λ o. (o ≡ entry_of it.task) ⊎ (turn_by ranks (entry_of it.task) < turn_by ranks o)) t tasks
      (λ u member ready. by_case u member (ready_says t u ready) (it.ahead u member))))
      ∙ it.number where
        tasks : List Task
        tasks = tasks_at picks jobs t

        by_case : (u : Task) → IsMember u (tasks_at picks jobs t)
            → (u.job.release ≤ t) × (0 < left u) × (t + left u ≤ u.job.deadline)
            → (u.number ≡ m) ⊎ ((t + suc k ≤ u.job.release) ⊎ ((left u ≡ 0) ⊎ ((u.job.deadline < t + left u)
            ⊎ (turn_by ranks (entry_of it.task) < turn_by ranks (entry_of u)))))
            → (entry_of u ≡ entry_of it.task) ⊎ (turn_by ranks (entry_of it.task) < turn_by ranks (entry_of u))
        by_case u member says (inl same) =
            inl (ap entry_of (one_number 0 (tasks_at picks jobs t) (numbered_at picks jobs t) u it.task member it.member
            (same ∙ sym it.number)))
        by_case u member says (inr (inl later)) =
            absurd (let now : u.job.release ≤ t = says.0 in omega (arith, later))
        by_case u member says (inr (inr (inl done))) =
            absurd (let some : 0 < left u = says.1 in omega (arith, done))
        by_case u member says (inr (inr (inr (inl late)))) =
            absurd (let fits : t + left u ≤ u.job.deadline = says.2 in omega (arith, late))
        by_case u member says (inr (inr (inr (inr behind)))) = inr behind

  -- what k ticks of one job come to; none is stopped but in the first of them
  pub record RunsFor (k m t : ℕ) : Type 0 where
    pub tasks : tasks_at picks jobs (t + suc k) ≡ map (given_ticks (suc k) m) (tasks_at picks jobs t)
    pub schedule : schedule_before picks jobs (t + suc k) ≡ schedule_before picks jobs t ++ replicate (suc k) m
    pub picks_it : picked picks t (tasks_at picks jobs t) ≡ m
    pub last : last_at picks jobs (t + suc k) ≡ m
    pub stopped : stops jobs (schedule_before picks jobs (t + suc k))
        ≡ stops jobs (schedule_before picks jobs t) + stopped_at picks jobs t

  pub leads_run : (k m t : ℕ) → Leads ranks (suc k) m t (tasks_at picks jobs t) → RunsFor k m t
  leads_run zero m t it = record {
    tasks = ap (tasks_at picks jobs) (add-one t)
        ∙ ap (λ (n : ℕ). map (given n) (tasks_at picks jobs t)) (leads_picked zero m t it);
    schedule = ap (schedule_before picks jobs) (add-one t)
        ∙ ap (λ (n : ℕ). schedule_before picks jobs t ++ n ∷ []) (leads_picked zero m t it);
    picks_it = leads_picked zero m t it;
    last = ap (last_at picks jobs) (add-one t) ∙ leads_picked zero m t it;
    stopped = ap (λ n. stops jobs (schedule_before picks jobs n)) (add-one t)
        ∙ stops_next picks jobs ranked.policy count t;
  }
  leads_run (suc k) m t it = onward (leads_run k m t (leads_less ranks (suc k) (suc (suc k)) m t _ (omega arith) it))
    where
      next : ℕ
      next = t + suc k

      onward : RunsFor k m t → RunsFor (suc k) m t
      onward before = record {
        tasks = ap (tasks_at picks jobs) one_more
            ∙ ap (λ (n : ℕ). map (given n) (tasks_at picks jobs next)) is_m
            ∙ ap (map (given m)) before.tasks
            ∙ map_map (given m) (given_ticks (suc k) m) (tasks_at picks jobs t)
            ∙ map_same (λ u. given m (given_ticks (suc k) m u)) (given_ticks (suc (suc k)) m) (tasks_at picks jobs t)
            (λ u _. given_after (suc k) m u);
        schedule = ap (schedule_before picks jobs) one_more
            ∙ ap (λ (n : ℕ). schedule_before picks jobs next ++ n ∷ []) is_m
            ∙ ap (λ s. s ++ m ∷ []) before.schedule
            ∙ append_assoc (schedule_before picks jobs t) (replicate (suc k) m) (m ∷ [])
            ∙ ap (λ s. schedule_before picks jobs t ++ s)
            (replicate_more (suc k) m ∙ ap (λ (n : ℕ). replicate n m) (add-one (suc k)));
        picks_it = before.picks_it;
        last = ap (last_at picks jobs) one_more ∙ is_m;
        stopped = ap (λ n. stops jobs (schedule_before picks jobs n)) one_more
            ∙ stops_next picks jobs ranked.policy count next
            ∙ ap (λ n. stops jobs (schedule_before picks jobs next) + n) none
            ∙ (let same : stops jobs (schedule_before picks jobs next) + 0
            ≡ stops jobs (schedule_before picks jobs next) =
            omega arith in same)
            ∙ before.stopped;
      } where
        one_more : t + suc (suc k) ≡ suc next
        one_more = omega arith

        longer : Leads ranks (suc k + 1) m t (tasks_at picks jobs t)
        longer = leads_less ranks (suc k + 1) (suc (suc k)) m t (tasks_at picks jobs t) (omega arith) it

        after : Leads ranks 1 m next (tasks_at picks jobs next)
        after = subst (Leads ranks 1 m next) (sym before.tasks)
            (leads_after picks ranks ranked (suc k) 1 m t (tasks_at picks jobs t) longer
            (job_limits (good_at picks jobs good t longer.task longer.member)).worth)

        is_m : picked picks next (tasks_at picks jobs next) ≡ m
        is_m = leads_picked zero m next after

        none : stopped_at picks jobs next ≡ 0
        none = stops_none picks jobs next (λ u member same. inl (is_m ∙ sym before.last ∙ sym same))

  -- of no entries none is picked
  picks_none : picks [] ≡ None
  picks_none =
      by_pick (picks []) refl (ranked.policy [] (record { apart = tt; unfinished = λ e member. absurd member })) where
        by_pick : (o : Option ℕ) → picks [] ≡ o → IsPick [] o → picks [] ≡ None
        by_pick None e none = e
        by_pick (Some n) e one = absurd one

  -- where no job is ready none is picked
  pub rests_idle : (t : ℕ) → Rests 1 t (tasks_at picks jobs t) → picked picks t (tasks_at picks jobs t) ≡ idle
  rests_idle t it =
      ap (λ (ts : List Task). unwrap_or (picks (map entry_of ts)) 4_000_000_000)
      (none_ready t (tasks_at picks jobs t) (λ u member ready. not_ready u (it u member) (ready_says t u ready)))
      ∙ ap (λ o. unwrap_or o 4_000_000_000) picks_none where
        not_ready : (u : Task) → (t + 1 ≤ u.job.release) ⊎ ((left u ≡ 0) ⊎ (u.job.deadline < t + left u))
            → (u.job.release ≤ t) × (0 < left u) × (t + left u ≤ u.job.deadline) → ⊥
        not_ready u (inl later) says = let now : u.job.release ≤ t = says.0 in omega (arith, later)
        not_ready u (inr (inl done)) says = let some : 0 < left u = says.1 in omega (arith, done)
        not_ready u (inr (inr late)) says = let fits : t + left u ≤ u.job.deadline = says.2 in omega (arith, late)

  -- what k ticks of none come to
  pub record RestsFor (k t : ℕ) : Type 0 where
    pub tasks : tasks_at picks jobs (t + k) ≡ tasks_at picks jobs t
    pub schedule : schedule_before picks jobs (t + k) ≡ schedule_before picks jobs t ++ replicate k idle
    pub last : Each (λ u. u.number ≡ last_at picks jobs (t + k) → left u ≡ 0) (tasks_at picks jobs (t + k))
    pub stopped : stops jobs (schedule_before picks jobs (t + k)) ≡ stops jobs (schedule_before picks jobs t)

  pub rests_run : (k t : ℕ) → Rests k t (tasks_at picks jobs t)
      → Each (λ u. u.number ≡ last_at picks jobs t → left u ≡ 0) (tasks_at picks jobs t) → RestsFor k t
  rests_run zero t it over = record {
    tasks = ap (tasks_at picks jobs) same;
    schedule = ap (schedule_before picks jobs) same ∙ sym (append-nil (schedule_before picks jobs t));
    last = subst (λ (m : ℕ). Each (λ u. u.number ≡ last_at picks jobs m → left u ≡ 0) (tasks_at picks jobs m))
        (sym same)
        over;
    stopped = ap (λ n. stops jobs (schedule_before picks jobs n)) same;
  } where
    same : t + 0 ≡ t
    same = omega arith
  rests_run (suc k) t it over = onward (rests_run k t (λ u member. less u (it u member)) over) where
    less : (u : Task) → (t + suc k ≤ u.job.release) ⊎ ((left u ≡ 0) ⊎ (u.job.deadline < t + left u))
        → (t + k ≤ u.job.release) ⊎ ((left u ≡ 0) ⊎ (u.job.deadline < t + left u))
    less u (inl later) = inl (omega (arith, later))
    less u (inr rest) = inr rest

    next : ℕ
    next = t + k

    onward : RestsFor k t → RestsFor (suc k) t
    onward before = record {
      tasks = tasks_then ∙ before.tasks;
      schedule = ap (schedule_before picks jobs) one_more
          ∙ ap (λ (n : ℕ). schedule_before picks jobs next ++ n ∷ []) is_idle
          ∙ ap (λ s. s ++ idle ∷ []) before.schedule
          ∙ append_assoc (schedule_before picks jobs t) (replicate k idle) (idle ∷ [])
          ∙ ap (λ s. schedule_before picks jobs t ++ s)
          (replicate_more k idle ∙ ap (λ (n : ℕ). replicate n idle) (add-one k));
      last = λ u member same. absurd (omega (
        arith,
        same,
        ap (last_at picks jobs) one_more ∙ is_idle,
        low_numbers picks jobs ranked.policy count (t + suc k) u member,
      ));
      stopped = ap (λ n. stops jobs (schedule_before picks jobs n)) one_more
          ∙ stops_next picks jobs ranked.policy count next
          ∙ ap (λ n. stops jobs (schedule_before picks jobs next) + n)
          (stops_none picks jobs next (λ u member same. inr (before.last u member same)))
          ∙ (let same : stops jobs (schedule_before picks jobs next) + 0
          ≡ stops jobs (schedule_before picks jobs next) =
          omega arith in same)
          ∙ before.stopped;
    } where
      one_more : t + suc k ≡ suc next
      one_more = omega arith

      rests_on : Rests 1 next (tasks_at picks jobs next)
      rests_on = subst (Rests 1 next) (sym before.tasks) (λ u member. later u (it u member)) where
        later : (u : Task) → (t + suc k ≤ u.job.release) ⊎ ((left u ≡ 0) ⊎ (u.job.deadline < t + left u))
            → (next + 1 ≤ u.job.release) ⊎ ((left u ≡ 0) ⊎ (u.job.deadline < next + left u))
        later u (inl comes) = inl (omega (arith, comes))
        later u (inr (inl done)) = inr (inl done)
        later u (inr (inr late)) = inr (inr (omega (arith, late)))

      is_idle : picked picks next (tasks_at picks jobs next) ≡ idle
      is_idle = rests_idle next rests_on

      tasks_then : tasks_at picks jobs (t + suc k) ≡ tasks_at picks jobs next
      tasks_then = ap (tasks_at picks jobs) one_more
          ∙ ap (λ (n : ℕ). map (given n) (tasks_at picks jobs next)) is_idle
          ∙ map_same (given idle) (λ u. u) (tasks_at picks jobs next) (λ u member. given_other 1 idle u
          (λ same. absurd (omega (arith, same, low_numbers picks jobs ranked.policy count next u member))))
          ∙ map_self (λ u. u) (tasks_at picks jobs next) (λ u. refl)
